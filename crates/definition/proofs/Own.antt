-- What codes 4 to 7 do where every consumer rests: a step of the caller alone, and what that adds to the counters. Assumes nothing.
use Prim.Native.Nat.{ℕ, ◌+◌, ◌-◌}
use mathlib.Core.Path.{◌≡◌, refl, sym, ◌∙◌, ap}
use mathlib.Core.Bool.{true, true≢false}
use mathlib.Core.List.{List, [], ◌∷◌, ◌++◌}
use mathlib.Core.Option.{Option, none, some}
use lib.Dec.{ltb, eqb}
use lib.IntN.{ℤ, pos}
use lib.Signed.{lt_z}
use Rattle.definition.specs.Base.{whether◌then◌else◌, put, empty}
use Rattle.definition.specs.Types.{Kind, queue, topic, Id, Sub, Stats, Dest, Event, null, with_prefetch, with_pull, with_generation, with_subs, with_stats, with_idle}
use Rattle.definition.specs.Consumer.{ack_transacted, ack_plain, ack_type, Delivered, Poison, Standard, Redelivered, Individual, Unmatched, Expired, Other, same_id, zero_stats, ◌⊕◌, Step, is_browser, has_credit, send_null, Ack, AckType, ack_sub}
use Rattle.definition.specs.Destination.{ack_at, pull_at, timeout_at, Answer, dispatch, touch_idle, is_id, sub_of, put_sub, room, set_prefetch, ack, pulled, pull, pull_timeout, fired, resumed, due}
use Rattle.definition.proofs.Tests.{by-if, by-test}
use Rattle.definition.proofs.Lists.{find-passes, find-put-same, put-put-same, put-found, put-not-empty}
use Rattle.definition.specs.Calls.{Request, acknowledge, pulling, timed_out, prefetching, ask}
use Rattle.definition.proofs.Local.{⊕-zero, zero-⊕, Rests, serve, serve-rests, serve-id, changed, dispatch-one, Resting}

-- what a request leaves of its consumer: the answer, the events, the consumer, what is added to the counters
pub record Own : Type 0 where
  pub answer : ℕ
  pub events : List Event
  pub sub : Sub
  pub counts : Stats

abbrev pub same : Sub → Own
same s = record { answer = 0; events = []; sub = s; counts = zero_stats }

abbrev pub after : Step → Own
after r = record { answer = 0; events = r.events; sub = r.sub; counts = r.counts }

unfoldable pub own_pulled : ℤ → Step → Option ℕ → Own
own_pulled timeout r none = after r
own_pulled timeout r (some g) =
    whether lt_z timeout (pos 0) then record { answer = 0; events = r.events ++ null r.sub.id ∷ []; sub = send_null r.sub; counts = r.counts }
    else whether lt_z (pos 0) timeout then record { answer = g; events = r.events; sub = r.sub; counts = r.counts }
    else after r

unfoldable pub own_fired : ℕ → Sub → Option ℕ → Own
own_fired generation s none = same s
own_fired generation s (some g) = whether eqb g generation then record { answer = 0; events = null s.id ∷ []; sub = send_null s; counts = zero_stats } else same s

abbrev pub pulling-sub : Sub → Sub
pulling-sub s = with_pull (some (s.generation + 1)) (with_generation (s.generation + 1) s)

unfoldable pub own : Kind → Request → Sub → Own
own k (acknowledge a now) s =
    let p = ack_sub a s in
    let r = serve k now p.sub in
    record { answer = 0; events = p.events ++ r.events; sub = r.sub; counts = p.counts ⊕ r.counts }
own k (pulling timeout now) s =
    let r = serve k now (pulling-sub s) in
    whether ltb 0 s.prefetch then same s else own_pulled timeout r r.sub.pull
own k (timed_out generation) s = own_fired generation s s.pull
own k (prefetching p now) s = after (serve k now (with_prefetch (room p) s))

-- what is asked, with the clock less an allowance
abbrev pub lessened : ℕ → Request → Request
lessened w (acknowledge a now) = acknowledge a (now - w)
lessened w (pulling timeout now) = pulling timeout (now - w)
lessened w (timed_out generation) = timed_out generation
lessened w (prefetching p now) = prefetching p (now - w)

-- what the destination answers, then
abbrev pub outcome : Id → Own → Dest → Answer
outcome i o t = record { answer = o.answer; dest = changed i o.sub o.counts t; events = o.events }

-- the consumer put back as it was
unchanged : (i : Id) (s : Sub) (t : Dest) → sub_of i t ≡ some s → changed i s zero_stats t ≡ t
unchanged i s t f =
    let u : put (is_id i) s t.subs ≡ t.subs = put-found (is_id i) t.subs s f in
    let c : t.stats ⊕ zero_stats ≡ t.stats = ⊕-zero t.stats in
    λ j. with_stats (c j) (with_subs (u j) t)

put-changed : (i : Id) (v : Sub) (t : Dest) → put_sub i v t ≡ changed i v zero_stats t
put-changed i v t =
    let c : t.stats ≡ t.stats ⊕ zero_stats = sym (⊕-zero t.stats) in
    λ j. with_stats (c j) (put_sub i v t)

dispatch-put : (now : ℕ) (i : Id) (v s : Sub) (t : Dest) → Resting t → sub_of i t ≡ some s →
    dispatch now (put_sub i v t) ≡ record { dest = changed i (serve t.kind (due now t) v).sub (serve t.kind (due now t) v).counts t; events = (serve t.kind (due now t) v).events }
dispatch-put now i v s t h f =
    ap (λ (x : Dest). dispatch now x) (put-changed i v t)
    ∙ dispatch-one now i v zero_stats s t t.kind refl h.subs h.none-waits f
    ∙ ap (λ (c : Stats). record { dest = changed i (serve t.kind (due now t) v).sub c t; events = (serve t.kind (due now t) v).events }) (zero-⊕ (serve t.kind (due now t) v).counts)

touch-one : (now : ℕ) (i : Id) (v s : Sub) (c : Stats) (t : Dest) → t.idle ≡ none → sub_of i t ≡ some s → touch_idle now (changed i v c t) ≡ changed i v c t
unfolding touch_idle
touch-one now i v s c t h f =
    let e = put-not-empty (is_id i) t.subs s v f in
    let m : none ≡ t.idle = sym h in
    let last : with_idle none (changed i v c t) ≡ changed i v c t = λ j. with_idle (m j) (changed i v c t) in
    by-test (empty t.pending) (λ q. rw (q, e) last) (λ q. rw q last)

-- ---- the caller keeps its ID

transacted-id : (k : AckType) (a : Ack) (s : Sub) → (ack_transacted a s k).id ≡ s.id
unfolding ack_transacted
transacted-id Delivered a s = refl
transacted-id Poison a s = refl
transacted-id Standard a s = refl
transacted-id Redelivered a s = refl
transacted-id Individual a s = refl
transacted-id Unmatched a s = refl
transacted-id Expired a s = refl
transacted-id Other a s = refl

plain-id : (k : AckType) (a : Ack) (s : Sub) → (ack_plain a s k).sub.id ≡ s.id
unfolding ack_plain
plain-id Delivered a s = refl
plain-id Poison a s = refl
plain-id Standard a s = refl
plain-id Redelivered a s = refl
plain-id Individual a s = refl
plain-id Unmatched a s = refl
plain-id Expired a s = refl
plain-id Other a s = refl

pub ack-id : (a : Ack) (s : Sub) → (ack_sub a s).sub.id ≡ s.id
unfolding ack_sub
ack-id a s = by-if (λ (t : Step). t.sub.id ≡ s.id) a.transacted _ _ (λ q. transacted-id (ack_type a.type) a s) (λ q. plain-id (ack_type a.type) a s)

pulled-id : (timeout : ℤ) (r : Step) (o : Option ℕ) → (own_pulled timeout r o).sub.id ≡ r.sub.id
unfolding own_pulled
pulled-id timeout r none = refl
pulled-id timeout r (some g) = by-test (lt_z timeout (pos 0)) (λ c. rw c) (λ c. rw c (by-test (lt_z (pos 0) timeout) (λ e. rw e) (λ e. rw e)))

fired-id : (generation : ℕ) (s : Sub) (o : Option ℕ) → (own_fired generation s o).sub.id ≡ s.id
unfolding own_fired
fired-id generation s none = refl
fired-id generation s (some g) = by-test (eqb g generation) (λ c. rw c) (λ c. rw c)

pub own-id : (k : Kind) (q : Request) (s : Sub) → (own k q s).sub.id ≡ s.id
unfolding own
own-id k (acknowledge a now) s = serve-id k now (ack_sub a s).sub ∙ ack-id a s
own-id k (pulling timeout now) s = by-test (ltb 0 s.prefetch) (λ c. rw c) (λ c. rw c (pulled-id timeout (serve k now (pulling-sub s)) (serve k now (pulling-sub s)).sub.pull ∙ serve-id k now (pulling-sub s)))
own-id k (timed_out generation) s = fired-id generation s s.pull
own-id k (prefetching p now) s = serve-id k now (with_prefetch (room p) s)

-- ---- the caller rests afterwards

null-credit : (s : Sub) → has_credit (send_null s) ≡ true → has_credit s ≡ true
unfolding has_credit
null-credit s = by-test (eqb s.prefetch 0) (λ e. rw e (λ y. absurd (true≢false (sym y)))) (λ e. rw e (λ y. y))

pub null-rests : (k : Kind) (s : Sub) → Rests k s → Rests k (send_null s)
unfolding is_browser
null-rests topic s h = λ c. h (null-credit s c)
null-rests queue s h = λ b c. h b (null-credit s c)

pulled-rests : (k : Kind) (timeout : ℤ) (r : Step) (o : Option ℕ) → Rests k r.sub → Rests k (own_pulled timeout r o).sub
unfolding own_pulled
pulled-rests k timeout r none h = h
pulled-rests k timeout r (some g) h = by-test (lt_z timeout (pos 0)) (λ c. rw c (null-rests k r.sub h)) (λ c. rw c (by-test (lt_z (pos 0) timeout) (λ e. rw e h) (λ e. rw e h)))

fired-rests : (k : Kind) (generation : ℕ) (s : Sub) (o : Option ℕ) → Rests k s → Rests k (own_fired generation s o).sub
unfolding own_fired
fired-rests k generation s none h = h
fired-rests k generation s (some g) h = by-test (eqb g generation) (λ c. rw c (null-rests k s h)) (λ c. rw c h)

pub own-rests : (k : Kind) (q : Request) (s : Sub) → Rests k s → Rests k (own k q s).sub
unfolding own
own-rests k (acknowledge a now) s h = serve-rests k now (ack_sub a s).sub
own-rests k (pulling timeout now) s h = by-test (ltb 0 s.prefetch) (λ c. rw c h) (λ c. rw c (pulled-rests k timeout (serve k now (pulling-sub s)) (serve k now (pulling-sub s)).sub.pull (serve-rests k now (pulling-sub s))))
own-rests k (timed_out generation) s h = fired-rests k generation s s.pull h
own-rests k (prefetching p now) s h = serve-rests k now (with_prefetch (room p) s)

-- ---- the call is the caller's own step

is-id : (i : Id) (v s : Sub) (t : Dest) → sub_of i t ≡ some s → v.id ≡ s.id → is_id i v ≡ true
is-id i v s t f e = ap (λ (x : Id). same_id x i) e ∙ find-passes (is_id i) t.subs s f

pulled-own : (i : Id) (timeout : ℤ) (r : Step) (t : Dest) (o : Option ℕ) → is_id i r.sub ≡ true →
    pulled i timeout r.sub (record { dest = changed i r.sub r.counts t; events = r.events }) o ≡ outcome i (own_pulled timeout r o) t
unfolding pulled own_pulled
pulled-own i timeout r t none h = refl
pulled-own i timeout r t (some g) h = by-test (lt_z timeout (pos 0))
    (λ c. rw (c, put-put-same (is_id i) t.subs r.sub (send_null r.sub) h))
    (λ c. rw c (by-test (lt_z (pos 0) timeout) (λ e. rw e) (λ e. rw e)))

same-own : (i : Id) (s : Sub) (t : Dest) → sub_of i t ≡ some s → record { answer = 0; dest = t; events = [] } ≡ outcome i (same s) t
same-own i s t f = let u : t ≡ changed i s zero_stats t = sym (unchanged i s t f) in λ j. record { answer = 0; dest = u j; events = [] }

fired-own : (i : Id) (generation : ℕ) (s : Sub) (t : Dest) (o : Option ℕ) → sub_of i t ≡ some s →
    record { answer = 0; dest = (fired i generation s t o).dest; events = (fired i generation s t o).events } ≡ outcome i (own_fired generation s o) t
unfolding fired own_fired
fired-own i generation s t none f = same-own i s t f
fired-own i generation s t (some g) f =
    let u : put_sub i (send_null s) t ≡ changed i (send_null s) zero_stats t = put-changed i (send_null s) t in
    by-test (eqb g generation) (λ c. rw c (λ j. record { answer = 0; dest = u j; events = null s.id ∷ [] })) (λ c. rw c (same-own i s t f))

pub ask-own : (i : Id) (q : Request) (s : Sub) (t : Dest) → Resting t → sub_of i t ≡ some s → ask i t q ≡ outcome i (own t.kind (lessened t.allowance q) s) t
unfolding ask own ack ack_at pull pull_at resumed pull_timeout timeout_at set_prefetch
ask-own i (acknowledge a now) s t h f = rw (f, touch-one now i (ack_sub a s).sub s (ack_sub a s).counts t h.idle f, dispatch-one now i (ack_sub a s).sub (ack_sub a s).counts s t t.kind refl h.subs h.none-waits f)
ask-own i (pulling timeout now) s t h f =
    let mine : is_id i (serve t.kind (due now t) (pulling-sub s)).sub ≡ true = is-id i (serve t.kind (due now t) (pulling-sub s)).sub s t f (serve-id t.kind (due now t) (pulling-sub s)) in
    by-test (ltb 0 s.prefetch)
    (λ c. rw (f, c) (same-own i s t f))
    (λ c. rw (f, c, dispatch-put now i (pulling-sub s) s t h f, find-put-same (is_id i) t.subs s (serve t.kind (due now t) (pulling-sub s)).sub f mine) (pulled-own i timeout (serve t.kind (due now t) (pulling-sub s)) t (serve t.kind (due now t) (pulling-sub s)).sub.pull mine))
ask-own i (timed_out generation) s t h f = rw f (fired-own i generation s t s.pull f)
ask-own i (prefetching p now) s t h f = rw (f, dispatch-put now i (with_prefetch (room p) s) s t h f)
