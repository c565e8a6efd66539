-- Codes 4 to 7 as parts: what each means as a part before the dispatch, the dispatch, and what comes after it; and that the parts before it
-- keep a destination sane. Assumes nothing.
use mathlib.Core.Path.{◌≡◌, refl, sym, ap, ◌∙◌}
use mathlib.Core.Bool.{Bool, true, false, ◌||◌, true≢false}
use mathlib.Core.List.{List, [], ◌++◌, append-nil}
use mathlib.Core.Option.{Option, none, some}
use Prim.Native.Nat.{ℕ, ◌+◌}
use native.Mathlib.Omega.{arith}
use borrow.Author.Tests.{not-true, not-false}
use lib.Dec.{ltb}
use lib.IntN.{ℤ, pos}
use lib.Signed.{lt_z}
use Rattle.definition.specs.Base.{is_some, empty}
use Rattle.definition.specs.Types.{Id, Dest, Event}
use Rattle.definition.specs.Types as Def
use Rattle.definition.specs.Consumer.{Ack, ack_sub}
use Rattle.definition.specs.Destination.{Out, Answer, sub_of, put_sub, touch_idle, dispatch, reserved_of, ack_reserved, ack_at, ack, pulled, resumed, pull_at, pull, set_prefetch}
use Rattle.definition.specs.Calls.{bound, signed_within}
use Rattle.definition.proofs.Tests.{by-test, by-if, if-true, if-false}
use Rattle.definition.proofs.Whole.{Fine, fine_more}
use Rattle.definition.proofs.Ops.{acked-fine, registered-fine, reserved-fine, prefetch-fine}
use Rattle.state.specs.Leaves.{silent, both}
use Rattle.state.proofs.Ready.{Keeps}
use Rattle.acks.specs.Acks.{step_at, acked}
use Rattle.engine.specs.Requests.{sent_on}
use Rattle.pulls.specs.Pulls.{prefetched, pulls, pulls_at, pulling, registered_at, registered, answered, answered_out}

-- ---- two tests

pub neither : (a b : Bool) → a ≡ false → b ≡ false → (a || b) ≡ false
neither a b e f = rw (e, f)

-- ---- ack

-- with these events before those of the dispatch
abbrev onward : ℕ → Dest → List Event → Out
onward now t l = record { dest = (dispatch now (touch_idle now t)).dest; events = l ++ (dispatch now (touch_idle now t)).events }

sent-on : (now : ℕ) (x : Out) → onward now x.dest (x.events ++ []) ≡ onward now x.dest x.events
sent-on now x = ap (onward now x.dest) (append-nil x.events)

module _ (now : ℕ) (i : Id) (a : Ack) (t : Dest) where
  present-at : (o : Option Def.Sub) → is_some o ≡ true → ack_at now i a t o ≡ sent_on now (λ _. step_at (ack_sub a) i t o) t
  unfolding ack_at step_at
  present-at none e = absurd (true≢false (sym e))
  present-at (some s) e = sym (sent-on now (step_at (ack_sub a) i t (some s)))

  -- of a consumer that is there
  pub ack-present : is_some (sub_of i t) ≡ true → ack now i a t ≡ sent_on now (acked i a) t
  unfolding ack acked
  ack-present e = present-at (sub_of i t) e

  absent-at : (o : Option Def.Sub) → is_some o ≡ false → (a.transacted || empty (reserved_of i t)) ≡ true → ack_at now i a t o ≡ record { dest = t; events = [] }
  unfolding ack_at
  absent-at none e h = rw h
  absent-at (some s) e h = absurd (true≢false e)

  -- of one that is not, in a transaction or with nothing reserved
  pub ack-nothing : is_some (sub_of i t) ≡ false → (a.transacted || empty (reserved_of i t)) ≡ true → ack now i a t ≡ record { dest = t; events = [] }
  unfolding ack
  ack-nothing e h = absent-at (sub_of i t) e h

  reserved-at : (o : Option Def.Sub) → is_some o ≡ false → (a.transacted || empty (reserved_of i t)) ≡ false → ack_at now i a t o ≡ sent_on now (λ t. ack_reserved i a t a.last) t
  unfolding ack_at
  reserved-at none e h = rw h (sym (sent-on now (ack_reserved i a t a.last)))
  reserved-at (some s) e h = absurd (true≢false e)

  -- or with something reserved
  pub ack-reserved : is_some (sub_of i t) ≡ false → (a.transacted || empty (reserved_of i t)) ≡ false → ack now i a t ≡ sent_on now (λ t. ack_reserved i a t a.last) t
  unfolding ack
  ack-reserved e h = reserved-at (sub_of i t) e h

  acked-keeps-at : (o : Option Def.Sub) → sub_of i t ≡ o → Keeps 513 t (step_at (ack_sub a) i t o)
  unfolding step_at
  acked-keeps-at none e g = fine_more t.call_limit t.calls_used t.kind (bound t.calls_used) (bound t.calls_used + 513) t (omega arith) g
  acked-keeps-at (some s) e g = acked-fine t.call_limit t.calls_used t.kind (bound t.calls_used) i a s t e g

  pub acked-keeps : Keeps 513 t (acked i a t)
  unfolding acked
  acked-keeps = acked-keeps-at (sub_of i t) refl

  pub reserved-keeps : Keeps 512 t (ack_reserved i a t a.last)
  reserved-keeps g = reserved-fine t.call_limit t.calls_used t.kind (bound t.calls_used) i a t a.last g

-- ---- prefetch

module _ (now : ℕ) (i : Id) (p : ℤ) (t : Dest) where
  pub prefetch-parts : set_prefetch now i p t ≡ both (silent (prefetched i p)) (dispatch now) t
  unfolding set_prefetch prefetched
  prefetch-parts = refl

  pub prefetched-keeps : signed_within (2147483648) p ≡ true → Keeps 1 t (silent (prefetched i p) t)
  unfolding prefetched
  prefetched-keeps w g = prefetch-fine t.call_limit t.calls_used t.kind (bound t.calls_used) i p t (sub_of i t) w refl g

-- ---- pull

-- what comes after the dispatch, with the dispatch's events before its own
resumed-more : (i : Id) (timeout : ℤ) (r : Out) (o : Option Def.Sub)
    → resumed i timeout r o ≡ record { answer = (resumed i timeout (record { dest = r.dest; events = [] }) o).answer; dest = (resumed i timeout (record { dest = r.dest; events = [] }) o).dest; events = r.events ++ (resumed i timeout (record { dest = r.dest; events = [] }) o).events }
unfolding resumed pulled
resumed-more i timeout r none = ap (λ (l : List Event). record { answer = 0; dest = r.dest; events = l }) (sym (append-nil r.events))
resumed-more i timeout r (some s) = pulled-more s.pull
  where
    pulled-more : (o : Option ℕ) → pulled i timeout s r o ≡ record { answer = (pulled i timeout s (record { dest = r.dest; events = [] }) o).answer; dest = (pulled i timeout s (record { dest = r.dest; events = [] }) o).dest; events = r.events ++ (pulled i timeout s (record { dest = r.dest; events = [] }) o).events }
    pulled-more none = ap (λ (l : List Event). record { answer = 0; dest = r.dest; events = l }) (sym (append-nil r.events))
    pulled-more (some g) = by-test (lt_z timeout (pos 0))
        (λ c. rw c)
        (λ c. by-test (lt_z (pos 0) timeout)
        (λ e. rw (c, e) (ap (λ (l : List Event). record { answer = g; dest = r.dest; events = l }) (sym (append-nil r.events))))
        (λ e. rw (c, e) (ap (λ (l : List Event). record { answer = 0; dest = r.dest; events = l }) (sym (append-nil r.events)))))

module _ (now : ℕ) (i : Id) (timeout : ℤ) (t : Dest) where
  -- the parts of a pull that waits
  abbrev pub pull_parts : Dest → Out
  pull_parts = both (both (silent (registered i)) (dispatch now)) (answered_out i timeout)

  abbrev begun : Dest
  begun = (dispatch now (registered i t)).dest

  -- what it is answered, and what it leaves
  abbrev pulled_by : Answer
  pulled_by = record { answer = (answered i timeout begun).answer; dest = (pull_parts t).dest; events = (pull_parts t).events }

  pulls-at : (o : Option Def.Sub) → sub_of i t ≡ o → pulls_at o ≡ true → pull_at now i timeout t o ≡ pulled_by
  unfolding pull_at registered answered
  pulls-at none e h = absurd (true≢false (sym h))
  pulls-at (some s) e h =
      let f : ltb 0 s.prefetch ≡ false = not-true (ltb 0 s.prefetch) h in
      let x : Dest = put_sub i (pulling s) t in
      let reg : registered i t ≡ x = ap (registered_at i t) e ∙ if-false t x f in
      if-false (record { answer = 0; dest = t; events = [] }) (resumed i timeout (dispatch now x) (sub_of i (dispatch now x).dest)) f
      ∙ resumed-more i timeout (dispatch now x) (sub_of i (dispatch now x).dest)
      ∙ ap (λ (y : Dest). record { answer = (answered i timeout (dispatch now y).dest).answer; dest = (answered i timeout (dispatch now y).dest).dest; events = (dispatch now y).events ++ (answered i timeout (dispatch now y).dest).events }) (sym reg)

  pub pull-waits : pulls i t ≡ true → pull now i timeout t ≡ pulled_by
  unfolding pull pulls
  pull-waits h = pulls-at (sub_of i t) refl h

  rests-at : (o : Option Def.Sub) → pulls_at o ≡ false → pull_at now i timeout t o ≡ record { answer = 0; dest = t; events = [] }
  unfolding pull_at
  rests-at none h = refl
  rests-at (some s) h = if-true (record { answer = 0; dest = t; events = [] }) _ (not-false (ltb 0 s.prefetch) h)

  -- none waits
  pub pull-rests : pulls i t ≡ false → pull now i timeout t ≡ record { answer = 0; dest = t; events = [] }
  unfolding pull pulls
  pull-rests h = rests-at (sub_of i t) h

  rested-at : (o : Option Def.Sub) → pulls_at o ≡ false → registered_at i t o ≡ t
  rested-at none h = refl
  rested-at (some s) h = if-true t (put_sub i (pulling s) t) (not-false (ltb 0 s.prefetch) h)

  registered-at : (o : Option Def.Sub) → sub_of i t ≡ o → Keeps 1 t (silent (λ u. registered_at i u o) t)
  registered-at none e g = fine_more t.call_limit t.calls_used t.kind (bound t.calls_used) (bound t.calls_used + 1) t (omega arith) g
  registered-at (some s) e g = by-if (λ (u : Dest). Fine t.call_limit t.calls_used t.kind (bound t.calls_used + 1) u) (ltb 0 s.prefetch) t (put_sub i (pulling s) t)
      (λ _. fine_more t.call_limit t.calls_used t.kind (bound t.calls_used) (bound t.calls_used + 1) t (omega arith) g)
      (λ _. registered-fine t.call_limit t.calls_used t.kind (bound t.calls_used) i s t e g)

  pub registered-keeps : Keeps 1 t (silent (registered i) t)
  unfolding registered
  registered-keeps = registered-at (sub_of i t) refl

pub registered-rests : (i : Id) (t : Dest) → pulls i t ≡ false → registered i t ≡ t
unfolding registered pulls
registered-rests i t h = rested-at 0 i (pos 0) t (sub_of i t) h
