-- What each function leaves, by the way that it goes. Assumes nothing.
use Rattle.std.specs.Prelude.{Some, None}
use mathlib.Core.Path.{◌≡◌, refl, sym, ap, ◌∙◌}
use mathlib.Core.Bool.{Bool, true, false, ◌&&◌}
use mathlib.Core.List.{List, [], ◌∷◌, append-nil}
use mathlib.Core.Option.{some}
use Prim.Native.Nat.{ℕ, ◌+◌, ◌≤◌, ◌<◌, ◌^◌}
use native.Mathlib.Omega.{arith}
use borrow.Author.Tests.{ltb-true, lt-ltb, le-ltb}
use lib.Dec.{eqb, ltb}
use lib.IntN.{ℤ, pos}
use lib.ListN.{length, take, get_or, set, length-set}
use lib.Signed.{lt_z}
use Rattle.model.specs.Model.{id_of}
use Rattle.words.specs.Pick.{whether◌then◌else◌}
use Rattle.definition.specs.Base.{all}
use Rattle.definition.specs.Types.{Kind, Id, Audit, Dest, null}
use Rattle.definition.specs.Destination as Destination
use Rattle.definition.specs.Destination.{Out, put_sub, room, pull_timeout}
use Rattle.definition.specs.Words.{at}
use Rattle.definition.specs.Layout.{Row, event_words}
use Rattle.consumers.specs.declared.Sub.{Sub}
use Rattle.consumers.specs.Consumers.{row_sub, sub_words, sub_view}
use Rattle.consumers.specs.Table.{position_from}
use Rattle.state.specs.declared.Head.{Head}
use Rattle.state.specs.Answers as State
use Rattle.state.specs.State.{head_view, kind_by, with_events, pushed, refused_as, done_as}
use Rattle.state.specs.Fits.{fits}
use Rattle.state.specs.Leaves.{silent, LeavesIf}
use Rattle.state.proofs.Fitting.{fits-facts}
use Rattle.state.proofs.Leaves.{when-leaves, unless-touched}
use Rattle.state.proofs.Events.{pushed_room, events-up-to, events-after}
use Rattle.pulls.specs.Pulls.{sub_prefetch, sub_pull, prefetched, pulls, registered, answered, answered_out, OneMore, PullWaits, PullAnswers, risable}
use Rattle.pulls.proofs.Reword.{Within, leaves-same, none-view, own, own_flying, own_held, own_view_lem, own-fitting, own-test, put-fits, leaves-put}
use Rattle.pulls.proofs.Parts.{quiet, prefetched-none, registered-none, pulls-none, answered-none, timeout-none, prefetched-here, registered-not, pulls-not, registered-here, pulls-here, answered-satisfied, answered-null, answered-timed, answered-waits, timeout-satisfied, timeout-other, timeout-null}

-- no event more
pub none_more : (d : Head) → OneMore d d
none_more d = record { head = refl; few = omega arith }

-- a test has failed
pub waits-not : (b : Bool) (id : Id) (d : Head) (subs rows : List Row) → b ≡ false → PullWaits b id d subs rows false
waits-not b id d subs rows h = record { exact = λ ps qs. sym (ap (λ (y : Bool). y && pulls id (head_view d subs rows ps qs)) h) }

pub answer-refused : (b : Bool) → b ≡ false → (id : Id) (d : Head) (subs rows events : List Row) (timeout : ℤ) (r : State.Replied) → r ≡ refused_as 2 d
    → LeavesIf b (OneMore d r.head) (answered_out id timeout) d r.head subs rows events subs rows events × PullAnswers b id timeout d subs rows r
answer-refused b h id d subs rows events timeout r e = (
  unless-touched b _ (answered_out id timeout) d r.head subs rows events subs rows events h (record { same_head = ap (λ (y : State.Replied). y.head) e; same-subs = refl; same_rows = refl; same-events = refl }),
  record {
    refusal = ap (λ (y : State.Replied). y.refusal) e ∙ sym (ap (λ (y : Bool). whether◌then◌else◌ {A = ℕ} y 0 2) h);
    answer = λ ps qs. ap (λ (y : State.Replied). y.answer) e ∙ sym (ap (λ (y : Bool). whether y then (answered id timeout (head_view d subs rows ps qs)).answer else 0) h);
  },
)

module _ (b : Bool) (t : b ≡ true) (id : Id) (d : Head) (subs rows events : List Row) (w : Within subs d) where
  abbrev viewed : List Id → List Audit → Dest
  viewed ps qs = head_view d subs rows ps qs

  -- nothing is to be done
  same : (also : Type 0) (f : Dest → Out) → also → ((ps : List Id) (qs : List Audit) → f (viewed ps qs) ≡ quiet (viewed ps qs))
      → LeavesIf b also f d d subs rows events subs rows events
  same also f a says = when-leaves b also f d d subs rows events subs rows events t (leaves-same f d subs rows events w says, a)

  waits-by : (x : Bool) → ((ps : List Id) (qs : List Audit) → pulls id (viewed ps qs) ≡ x) → PullWaits b id d subs rows x
  waits-by x says = record { exact = λ ps qs. sym (ap (λ (y : Bool). y && pulls id (viewed ps qs)) t ∙ says ps qs) }

  answers_by : (timeout : ℤ) (x : ℕ) (h : Head) (r : State.Replied) → r ≡ done_as x h
      → ((ps : List Id) (qs : List Audit) → (answered id timeout (viewed ps qs)).answer ≡ x) → PullAnswers b id timeout d subs rows r
  answers_by timeout x h r e says = record {
    refusal = ap (λ (y : State.Replied). y.refusal) e ∙ sym (ap (λ (y : Bool). whether◌then◌else◌ {A = ℕ} y 0 2) t);
    answer = λ ps qs. ap (λ (y : State.Replied). y.answer) e ∙ sym (ap (λ (y : Bool). whether y then (answered id timeout (viewed ps qs)).answer else 0) t ∙ says ps qs);
  }

  abbrev out : Destination.Answer → Out
  out a = record { dest = a.dest; events = a.events }

  -- the consumer is not there
  module _ (e : position_from 0 id (take d.consumers subs) ≡ None) where
    pub prefetch-missing : (also : Type 0) (p : ℤ) → also → LeavesIf b also (silent (prefetched id p)) d d subs rows events subs rows events
    prefetch-missing also p a = same also (silent (prefetched id p)) a (λ ps qs. prefetched-none id (viewed ps qs) (none-view d subs rows id e ps qs) p)

    pub register-missing : (also : Type 0) → also → LeavesIf b also (silent (registered id)) d d subs rows events subs rows events × PullWaits b id d subs rows false
    register-missing also a = (
      same also (silent (registered id)) a (λ ps qs. registered-none id (viewed ps qs) (none-view d subs rows id e ps qs)),
      waits-by false (λ ps qs. pulls-none id (viewed ps qs) (none-view d subs rows id e ps qs)),
    )

    pub timeout-missing : (also : Type 0) (g : ℕ) → also → LeavesIf b also (pull_timeout id g) d d subs rows events subs rows events
    timeout-missing also g a = same also (pull_timeout id g) a (λ ps qs. timeout-none id (viewed ps qs) (none-view d subs rows id e ps qs) g)

  -- it is at a place, where s was loaded
  module _ (i : ℕ) (e : position_from 0 id (take d.consumers subs) ≡ Some i) (s : Sub) (q : s ≡ row_sub (get_or subs i [])) where
    long : d.consumers ≤ length subs
    long = omega (arith, w.subs-long, w.consumers)

    abbrev k : Kind
    k = kind_by d.queue

    abbrev here : Sub
    here = own d subs rows id i long e

    abbrev f : List Row
    f = own_flying d subs rows id i long e

    abbrev h : List Row
    h = own_held d subs rows id i long e

    found : (ps : List Id) (qs : List Audit) → Destination.sub_of id (viewed ps qs) ≡ some (sub_view k here f h)
    found = own_view_lem d subs rows id i long e

    pub prefetch-put : b ≡ fits subs d (length rows) (length events) → (p : ℤ) (subs' : List Row) → subs' ≡ set subs i (sub_words (sub_prefetch (room p) s))
        → LeavesIf b (fits subs' d (length rows) (length events) ≡ true) (silent (prefetched id p)) d d subs rows events subs' rows events
    prefetch-put g p subs' r =
        let z : Sub = sub_prefetch (room p) here in
        let c : fits subs d (length rows) (length events) ≡ true = sym g ∙ t in
        let o = own-fitting d subs rows id i long e (fits-facts subs d (length rows) (length events) c).fitted in
        let x : subs' ≡ set subs i (sub_words z) = r ∙ ap (λ (y : Sub). set subs i (sub_words (sub_prefetch (room p) y))) q in
        rw x (when-leaves b _ (silent (prefetched id p)) d d subs rows events (set subs i (sub_words z)) rows events t (
          leaves-put d subs rows id i long e z refl refl (silent (prefetched id p)) [] d.events events events w
              (λ v n. prefetched-here id k here f h v n p) (omega arith) (sym (append-nil (take d.events events))) refl refl,
          put-fits d subs rows id i long e z refl refl (length rows) (length events) c refl refl o.2,
        ))

    pub generation-low : b ≡ fits subs d (length rows) (length events) → s.generation < 2 ^ 63
    generation-low g =
        let o = own-fitting d subs rows id i long e (fits-facts subs d (length rows) (length events) (sym g ∙ t)).fitted in
        let z : s.generation ≡ here.generation = ap (λ (y : Sub). y.generation) q in
        omega arith

    pub register-not : (also : Type 0) → also → 0 < s.prefetch → LeavesIf b also (silent (registered id)) d d subs rows events subs rows events × PullWaits b id d subs rows false
    register-not also a c =
        let x : ltb 0 here.prefetch ≡ true = ap (λ (y : Sub). ltb 0 y.prefetch) (sym q) ∙ lt-ltb 0 s.prefetch c in (
          same also (silent (registered id)) a (λ ps qs. registered-not id k here f h (viewed ps qs) (found ps qs) x),
          waits-by false (λ ps qs. pulls-not id k here f h (viewed ps qs) (found ps qs) x),
        )

    pub register-put : b ≡ fits subs d (length rows) (length events) → s.prefetch ≤ 0 → (subs' : List Row) → subs' ≡ set subs i (sub_words (sub_pull true (s.generation + 1) (s.generation + 1) s))
        → LeavesIf b (all risable (take d.consumers subs) ≡ true → fits subs' d (length rows) (length events) ≡ true) (silent (registered id)) d d subs rows events subs' rows events × PullWaits b id d subs rows true
    unfolding row_sub
    register-put g c subs' r =
        let z : Sub = sub_pull true (here.generation + 1) (here.generation + 1) here in
        let y : ltb 0 here.prefetch ≡ false = ap (λ (v : Sub). ltb 0 v.prefetch) (sym q) ∙ le-ltb 0 s.prefetch c in
        let x : subs' ≡ set subs i (sub_words z) = r ∙ ap (λ (v : Sub). set subs i (sub_words (sub_pull true (v.generation + 1) (v.generation + 1) v))) q in (
          rw x (when-leaves b _ (silent (registered id)) d d subs rows events (set subs i (sub_words z)) rows events t (
            leaves-put d subs rows id i long e z refl refl (silent (registered id)) [] d.events events events w
                (λ v n. registered-here id k here f h v n y) (omega arith) (sym (append-nil (take d.events events))) refl refl,
            λ a. put-fits d subs rows id i long e z refl refl (length rows) (length events) (sym g ∙ t) refl refl (omega (arith, ltb-true (at 12 (get_or subs i [])) 72057594037927937 (own-test d subs rows id i long e risable a))),
          )),
          waits-by true (λ ps qs. pulls-here id k here f h (viewed ps qs) (found ps qs) y),
        )

    -- a null is sent
    module _ (g : Dest → Out) (room : d.events < length events)
        (says : (v : Dest) → Destination.sub_of id v ≡ some (sub_view k here f h)
        → g v ≡ record { dest = put_sub id (sub_view k (sub_pull false 0 here.generation here) f h) v; events = null (id_of here.conn here.session here.value) ∷ [] })
        (r : Head) (subs' events' : List Row)
        (pr : r ≡ pushed d (length events))
        (ps : subs' ≡ set subs i (sub_words (sub_pull false 0 s.generation s)))
        (pe : events' ≡ set events d.events (event_words (null (id_of s.conn s.session s.value))))
      where
        null-sent : LeavesIf b (OneMore d r) g d r subs rows events subs' rows events'
        null-sent =
            let z : Sub = sub_pull false 0 here.generation here in
            let v : Row = event_words (null (id_of here.conn here.session here.value)) in
            let n : ℕ = d.events + 1 in
            let x : subs' ≡ set subs i (sub_words z) = ps ∙ ap (λ (y : Sub). set subs i (sub_words (sub_pull false 0 y.generation y))) q in
            let y : events' ≡ set events d.events v = pe ∙ ap (λ (u : Sub). set events d.events (event_words (null (id_of u.conn u.session u.value)))) q in
            let o : r ≡ with_events n d = pr ∙ pushed_room d (length events) room in
            rw (o, x, y) (when-leaves b _ g d (with_events n d) subs rows events (set subs i (sub_words z)) rows (set events d.events v) t (
              leaves-put d subs rows id i long e z refl refl g (null (id_of here.conn here.session here.value) ∷ []) n events (set events d.events v) w says
                  (omega arith) (events-up-to d.events events v room) (events-after d.events events v) (length-set events d.events v),
              record { head = refl; few = omega arith },
            ))

    -- the timer fires
    module _ (generation : ℕ) where
      pub timeout-idle : (also : Type 0) → also → s.pulling ≡ false → LeavesIf b also (pull_timeout id generation) d d subs rows events subs rows events
      timeout-idle also a c = same also (pull_timeout id generation) a
          (λ ps qs. timeout-satisfied id k here f h (viewed ps qs) (found ps qs) generation (ap (λ (y : Sub). y.pulling) (sym q) ∙ c))

      pub timeout-late : (also : Type 0) → also → s.pulling ≡ true → eqb s.pull generation ≡ false → LeavesIf b also (pull_timeout id generation) d d subs rows events subs rows events
      timeout-late also a c n = same also (pull_timeout id generation) a
          (λ ps qs. timeout-other id k here f h (viewed ps qs) (found ps qs) generation (ap (λ (y : Sub). y.pulling) (sym q) ∙ c) (ap (λ (y : Sub). eqb y.pull generation) (sym q) ∙ n))

      pub timeout-sent : d.events < length events → s.pulling ≡ true → eqb s.pull generation ≡ true → (r : Head) (subs' events' : List Row) → r ≡ pushed d (length events)
          → subs' ≡ set subs i (sub_words (sub_pull false 0 s.generation s)) → events' ≡ set events d.events (event_words (null (id_of s.conn s.session s.value)))
          → LeavesIf b (OneMore d r) (pull_timeout id generation) d r subs rows events subs' rows events'
      timeout-sent room c n = null-sent (pull_timeout id generation) room
          (λ v x. timeout-null id k here f h v x generation (ap (λ (y : Sub). y.pulling) (sym q) ∙ c) (ap (λ (y : Sub). eqb y.pull generation) (sym q) ∙ n))

  -- the answer after the dispatch
  module _ (timeout : ℤ) (r : State.Replied) where
    abbrev Answered : List Row → List Row → Type 0
    Answered subs' events' = LeavesIf b (OneMore d r.head) (answered_out id timeout) d r.head subs rows events subs' rows events' × PullAnswers b id timeout d subs rows r

    -- nothing changes
    kept : (x : ℕ) → r ≡ done_as x d → ((ps : List Id) (qs : List Audit) → answered id timeout (viewed ps qs) ≡ record { answer = x; dest = viewed ps qs; events = [] }) → Answered subs events
    kept x p says =
        let n : r.head ≡ d = ap (λ (y : State.Replied). y.head) p in (
          rw n (same (OneMore d d) (answered_out id timeout) (none_more d) (λ ps qs. ap out (says ps qs))),
          answers_by timeout x d r p (λ ps qs. ap (λ (a : Destination.Answer). a.answer) (says ps qs)),
        )

    pub answer-missing : position_from 0 id (take d.consumers subs) ≡ None → r ≡ done_as 0 d → Answered subs events
    answer-missing e p = kept 0 p (λ ps qs. answered-none id (viewed ps qs) (none-view d subs rows id e ps qs) timeout)

    module _ (i : ℕ) (e : position_from 0 id (take d.consumers subs) ≡ Some i) (s : Sub) (q : s ≡ row_sub (get_or subs i [])) where
      abbrev mine : Sub
      mine = here i e s q

      pub answer-satisfied : s.pulling ≡ false → r ≡ done_as 0 d → Answered subs events
      answer-satisfied c p = kept 0 p (λ ps qs. answered-satisfied id (k i e s q) mine (f i e s q) (h i e s q) (viewed ps qs) (found i e s q ps qs) timeout (ap (λ (y : Sub). y.pulling) (sym q) ∙ c))

      module _ (c : s.pulling ≡ true) where
        waiting : mine.pulling ≡ true
        waiting = ap (λ (y : Sub). y.pulling) (sym q) ∙ c

        pub answer-null : lt_z timeout (pos 0) ≡ true → d.events < length events → (x : Head) → r ≡ done_as 0 x → (subs' events' : List Row) → x ≡ pushed d (length events)
            → subs' ≡ set subs i (sub_words (sub_pull false 0 s.generation s)) → events' ≡ set events d.events (event_words (null (id_of s.conn s.session s.value)))
            → Answered subs' events'
        answer-null l room x p subs' events' px ps pe =
            let n : r.head ≡ pushed d (length events) = ap (λ (y : State.Replied). y.head) p ∙ px in (
              null-sent i e s q (answered_out id timeout) room (λ v y. ap out (answered-null id (k i e s q) mine (f i e s q) (h i e s q) v y timeout waiting l)) r.head subs' events' n ps pe,
              answers_by timeout 0 x r p (λ us vs. ap (λ (a : Destination.Answer). a.answer) (answered-null id (k i e s q) mine (f i e s q) (h i e s q) (viewed us vs) (found i e s q us vs) timeout waiting l)),
            )

        pub answer-timed : lt_z timeout (pos 0) ≡ false → lt_z (pos 0) timeout ≡ true → r ≡ done_as s.pull d → Answered subs events
        answer-timed l m p = kept mine.pull (p ∙ ap (λ (y : Sub). done_as y.pull d) q)
            (λ ps qs. answered-timed id (k i e s q) mine (f i e s q) (h i e s q) (viewed ps qs) (found i e s q ps qs) timeout waiting l m)

        pub answer-waits : lt_z timeout (pos 0) ≡ false → lt_z (pos 0) timeout ≡ false → r ≡ done_as 0 d → Answered subs events
        answer-waits l m p = kept 0 p (λ ps qs. answered-waits id (k i e s q) mine (f i e s q) (h i e s q) (viewed ps qs) (found i e s q ps qs) timeout waiting l m)
