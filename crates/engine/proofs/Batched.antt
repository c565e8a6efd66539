-- Calls one after another on sound buffers: what is done so far and what is left make the whole. Assumes nothing.
use mathlib.Core.Path.{◌≡◌, refl, sym, ap, ap₂, ◌∙◌, subst, subst⁻¹}
use mathlib.Core.Bool.{Bool, true, false, not, ◌&&◌}
use mathlib.Core.List.{List, [], ◌∷◌, ◌++◌, map, append_assoc, append-nil}
use Prim.Native.Nat.{ℕ, zero, suc, ◌+◌, ◌-◌, ◌≤◌, ◌<◌}
use native.Mathlib.Numerals.{add-one}
use native.Mathlib.Omega.{arith}
use borrow.Author.Tests.{eqb-true, eqb-false, not-true, not-false}
use lib.Dec.{eqb}
use lib.ListN.{length, take, drop, get_or, set, length-map, length-take, length-drop, length-set}
use lib.Seq.{length-take-le, take_all, take_at, drop_at, drop-length, drop-cons, drop-drop, take-add, take-suc-set, drop-set-lt}
use Rattle.definition.specs.Base.{all}
use Rattle.definition.specs.Types.{Dest}
use Rattle.definition.specs.Calls.{Lengths, state_short, short, sound, Result}
use Rattle.definition.specs.Words.{at, step}
use Rattle.definition.specs.Layout.{Row, Buffers, event_words, view, formed, sound_buffers, lengths_of, buffer_step, lent}
use Rattle.calls.specs.declared.Call.{Call}
use Rattle.calls.specs.Calls.{new_call}
use Rattle.definition.proofs.Tests.{by-test, and_left, and_right, if-true, if-false}
use Rattle.engine.specs.declared.Outcome.{Outcome}
use Rattle.engine.specs.declared.batch.Done.{Done}
use Rattle.engine.specs.Called.{Past, Called}
use Rattle.engine.specs.Batch.{Batch, undone, outcome_words, followed, eight_words, less, batch, buffer_batch, refusing, Batched}
use Rattle.engine.proofs.Ran.{short-events, short-state, not_short}

-- ---- the definition, a call at a time

pub batch-short : (l : Lengths) (k : ℕ) (ws : List Row) (t : Dest) → short l ≡ true → batch l k ws t ≡ undone t
unfolding batch
batch-short l k [] t h = refl
batch-short l zero (w ∷ ws) t h = refl
batch-short l (suc k) (w ∷ ws) t h = rw h

batch-full : (l : Lengths) (ws : List Row) (t : Dest) → batch l 0 ws t ≡ undone t
unfolding batch
batch-full l [] t = refl
batch-full l (w ∷ ws) t = refl

batch-over : (l : Lengths) (k : ℕ) (ws : List Row) (t : Dest) → length ws ≡ 0 → batch l k ws t ≡ undone t
unfolding batch
batch-over l k [] t h = refl
batch-over l k (w ∷ ws) t h = absurd (omega arith)

batch-next : (l : Lengths) (k : ℕ) (w : Row) (ws : List Row) (t : Dest) (r : Result) → short l ≡ false → r ≡ step l (at 0 w) (eight_words w) t
    → batch l (suc k) (w ∷ ws) t ≡ followed r (batch (less (length r.events) l) k ws r.dest)
unfolding batch
batch-next l k w ws t r h e = rw h (sym (ap (λ (x : Result). followed x (batch (less (length x.events) l) k ws x.dest)) e))

-- on sound buffers the call file's step is what `call` promises, so a batch is call after call
pub sound-step : (b : Buffers) (n code : ℕ) (ws : List ℕ) → sound_buffers b ≡ true → buffer_step b n code ws ≡ step (lengths_of b n) code ws (view b)
unfolding buffer_step sound_buffers
sound-step b n code ws s = by-test (short (lengths_of b n))
    (λ h. rw h)
    (λ h. by-test (eqb code 0) (λ e. rw (h, e)) (λ e. rw (h, e, and_left (formed b) (sound (view b)) s)))

-- ---- so far

-- what was done, and then the rest
abbrev joined : List Row → List Row → Batch → Batch
joined outcomes events q = record { outcomes = outcomes ++ q.outcomes; events = events ++ q.events; dest = q.dest }

joined-twice : (os es : List Row) (o : Row) (e : List Row) (q : Batch) → joined os es (record { outcomes = o ∷ q.outcomes; events = e ++ q.events; dest = q.dest }) ≡ joined (os ++ o ∷ []) (es ++ e) q
joined-twice os es o e q = sym (λ j. record { outcomes = append_assoc os (o ∷ []) q.outcomes j; events = append_assoc es e q.events j; dest = q.dest })

all-last : (p : Row → Bool) (l : List Row) (a : Row) → all p (l ++ a ∷ []) ≡ true → (all p l ≡ true) × (p a ≡ true)
all-last p [] a h = (refl, and_left (p a) true h)
all-last p (x ∷ l) a h = let r = all-last p l a (and_right (p x) (all p (l ++ a ∷ [])) h) in (rw (and_left (p x) (all p (l ++ a ∷ [])) h, r.0), r.1)

and-other : (a c : Bool) → c ≡ true → (a && c) ≡ false → a ≡ false
and-other true c e f = sym e ∙ f
and-other false c e f = refl

-- i calls are done, and their events stand before `from`
pub record Sofar (ws : List Row) (b₀ : Buffers) (events₀ outcomes₀ : List Row) (b : Buffers) (events outcomes : List Row) (i from : ℕ) : Type 0 where
  pub places : i ≤ length outcomes
  pub room : from ≤ length events
  pub rest : batch (lengths_of b₀ (length events₀)) (length outcomes₀) ws (view b₀) ≡ joined (take i outcomes) (take from events) (batch (lengths_of b (length events - from)) (length outcomes - i) (drop i ws) (view b))
  pub is-sound : sound_buffers b ≡ true
  pub untold : drop i outcomes ≡ drop i outcomes₀
  pub later : drop from events ≡ drop from events₀
  pub kept : all refusing (take i outcomes) ≡ true → b ≡ b₀
  pub past : Past b₀ b events₀ events
  pub outcomes-length : length outcomes ≡ length outcomes₀

pub none_yet : (ws : List Row) (b : Buffers) (events outcomes : List Row) → sound_buffers b ≡ true → Sofar ws b events outcomes b events outcomes 0 0
none_yet ws b events outcomes s = record {
  places = omega arith;
  room = omega arith;
  rest = ap₂ (λ (n k : ℕ). batch (lengths_of b n) k ws (view b)) (minus (length events)) (minus (length outcomes));
  is-sound = s;
  untold = refl;
  later = refl;
  kept = λ _. refl;
  past = record { head-past = refl; subs-past = refl; rows-past = refl; head-length = refl; subs-length = refl; rows-length = refl; events-length = refl };
  outcomes-length = refl;
}
  where
    minus : (n : ℕ) → n ≡ n - 0
    minus n = omega arith

module _ (ws : List Row) (b₀ : Buffers) (events₀ outcomes₀ : List Row) (b : Buffers) (events outcomes : List Row) (i from : ℕ) (s : Sofar ws b₀ events₀ outcomes₀ b events outcomes i from) where
  abbrev whole : Batch
  whole = batch (lengths_of b₀ (length events₀)) (length outcomes₀) ws (view b₀)

  abbrev n : ℕ
  n = length events - from

  -- ---- it ends

  ended : batch (lengths_of b n) (length outcomes - i) (drop i ws) (view b) ≡ undone (view b) → Batched whole b₀ b events₀ events outcomes₀ outcomes (record { calls = i; events = from })
  ended e =
      subst⁻¹ (λ (q : Batch). Batched q b₀ b events₀ events outcomes₀ outcomes (record { calls = i; events = from })) (s.rest ∙ ap (joined (take i outcomes) (take from events)) e) (record {
        calls = sym (ap length (append-nil (take i outcomes)) ∙ length-take-le i outcomes s.places);
        count = sym (ap length (append-nil (take from events)) ∙ length-take-le from events s.room);
        told = sym (append-nil (take i outcomes));
        untold = s.untold;
        sent = sym (append-nil (take from events));
        later = s.later;
        shows = refl;
        leaves-sound = λ _. s.is-sound;
        kept = λ h. s.kept (subst (λ (l : List Row). all refusing l ≡ true) (append-nil (take i outcomes)) h);
        past = s.past;
        outcomes-length = s.outcomes-length;
      })

  pub last-call : length ws ≤ i → Batched whole b₀ b events₀ events outcomes₀ outcomes (record { calls = i; events = from })
  last-call h = ended (batch-over (lengths_of b n) (length outcomes - i) (drop i ws) (view b) (omega (arith, length-drop i ws)))

  pub last-place : length outcomes ≤ i → Batched whole b₀ b events₀ events outcomes₀ outcomes (record { calls = i; events = from })
  last-place h =
      let z : length outcomes - i ≡ 0 = omega arith in
      ended (ap (λ (k : ℕ). batch (lengths_of b n) k (drop i ws) (view b)) z ∙ batch-full (lengths_of b n) (drop i ws) (view b))

  pub no_room : n < 545 → Batched whole b₀ b events₀ events outcomes₀ outcomes (record { calls = i; events = from })
  no_room h = ended (batch-short (lengths_of b n) (length outcomes - i) (drop i ws) (view b) (short-events b.head b.subs b.rows n h))

  -- ---- one call more

  -- what is left has room where the state had, and 545 places are left
  pub still-roomy : state_short (lengths_of b₀ 0) ≡ false → 545 ≤ n → short (lengths_of b n) ≡ false
  still-roomy e h = not_short b.head b.subs b.rows n (ap state_short same ∙ e) h
    where
      same : lengths_of b 0 ≡ lengths_of b₀ 0
      same = λ j. record { head = s.past.head-length j; subs = s.past.subs-length j; rows = s.past.rows-length j; events = 0 }

  module _ (w : Row) (x : Call) (named : x ≡ new_call (at 0 w) (eight_words w)) (b' : Buffers) (events' : List Row) (r : Outcome)
      (by : Called (buffer_step b n x.code x.words) b b' (drop from events) (drop from events') r) (front : take from events' ≡ take from events)
    where
      abbrev q : Result
      q = buffer_step b n (at 0 w) (eight_words w)

      called : Called q b b' (drop from events) (drop from events') r
      called = subst (λ (y : Call). Called (buffer_step b n y.code y.words) b b' (drop from events) (drop from events') r) named by

      abbrev k : ℕ
      k = r.events

      same-events : length events' ≡ length events
      same-events = omega (arith, ap length front, length-take from events', length-take from events, called.past.events-length, length-drop from events', length-drop from events, s.room)

      fit : from + k ≤ length events'
      fit =
          let m : length (take k (drop from events')) ≡ length q.events = ap length called.sent ∙ length-map q.events event_words in
          omega (arith, m, length-take k (drop from events'), length-drop from events', called.count, same-events, s.room)

      pub fit-entry : from + k ≤ length events₀
      fit-entry = omega (arith, fit, same-events, s.past.events-length)

      module _ (more : i < length ws) (space : i < length outcomes) (roomy : short (lengths_of b n) ≡ false) (is : w ≡ get_or ws i []) (outcomes' : List Row)
          (told : outcomes' ≡ set outcomes i (r.refusal ∷ r.answer ∷ r.events ∷ []))
        where
          same-outcomes : length outcomes' ≡ length outcomes
          same-outcomes = ap length told ∙ simp length-set

          lengths-are : less (length q.events) (lengths_of b n) ≡ lengths_of b' (length events' - (from + k))
          lengths-are =
              let e : length events' - (from + k) ≡ n - length q.events = omega (arith, called.count, same-events) in
              sym (λ j. record { head = called.past.head-length j; subs = called.past.subs-length j; rows = called.past.rows-length j; events = e j })

          abbrev others : Batch
          others = batch (lengths_of b' (length events' - (from + k))) (length outcomes' - (i + 1)) (drop (i + 1) ws) (view b')

          left : batch (lengths_of b n) (length outcomes - i) (drop i ws) (view b) ≡ followed q others
          left =
              let p : length outcomes - i ≡ suc (length outcomes' - (i + 1)) = omega (arith, same-outcomes) in
              let l : drop i ws ≡ w ∷ drop (i + 1) ws = rw add-one (drop-cons ws i [] more ∙ ap (λ (x : Row). x ∷ drop (suc i) ws) (sym is)) in
              ap₂ (λ (m : ℕ) (x : List Row). batch (lengths_of b n) m x (view b)) p l
              ∙ batch-next (lengths_of b n) (length outcomes' - (i + 1)) w (drop (i + 1) ws) (view b) q roomy (sound-step b n (at 0 w) (eight_words w) s.is-sound)
              ∙ ap₂ (λ (x : Lengths) (t : Dest). followed q (batch x (length outcomes' - (i + 1)) (drop (i + 1) ws) t)) lengths-are (sym called.shows)

          said : r.refusal ∷ r.answer ∷ k ∷ [] ≡ outcome_words q
          said = λ j. called.refusal j ∷ called.answer j ∷ called.count j ∷ []

          outcomes-are : take (i + 1) outcomes' ≡ take i outcomes ++ outcome_words q ∷ []
          outcomes-are = rw add-one (ap (take (suc i)) told ∙ take-suc-set outcomes i (r.refusal ∷ r.answer ∷ k ∷ []) space ∙ ap (λ (o : Row). take i outcomes ++ o ∷ []) said)

          events-are : take (from + k) events' ≡ take from events ++ map event_words q.events
          events-are = take-add from k events' ∙ ap₂ (λ (x y : List Row). x ++ y) front called.sent

          kept-so : all refusing (take (i + 1) outcomes') ≡ true → b' ≡ b₀
          kept-so h =
              let f = all-last refusing (take i outcomes) (outcome_words q) (subst (λ (l : List Row). all refusing l ≡ true) outcomes-are h) in
              (called.kept (eqb-false q.refusal 0 (not-true (eqb q.refusal 0) f.1))).0 ∙ s.kept f.0

          still-sound : sound_buffers b' ≡ true
          still-sound = by-test (eqb q.refusal 0)
              (λ e. called.leaves-sound (eqb-true q.refusal 0 e))
              (λ e. ap sound_buffers (called.kept (eqb-false q.refusal 0 e)).0 ∙ s.is-sound)

          pub one_more : Sofar ws b₀ events₀ outcomes₀ b' events' outcomes' (i + 1) (from + k)
          one_more = record {
            places = omega (arith, same-outcomes, space);
            room = fit;
            rest =
                s.rest
                ∙ ap (joined (take i outcomes) (take from events)) left
                ∙ joined-twice (take i outcomes) (take from events) (outcome_words q) (map event_words q.events) others
                ∙ ap₂ (λ (os es : List Row). joined os es others) (sym outcomes-are) (sym events-are);
            is-sound = still-sound;
            untold =
                ap (drop (i + 1)) told
                ∙ drop-set-lt (i + 1) outcomes i (r.refusal ∷ r.answer ∷ k ∷ []) (omega arith)
                ∙ sym (drop-drop 1 i outcomes)
                ∙ ap (drop 1) s.untold
                ∙ drop-drop 1 i outcomes₀;
            later = sym (drop-drop k from events') ∙ called.later ∙ ap (drop k) s.later ∙ drop-drop k from events₀;
            kept = kept-so;
            past = record {
              head-past = called.past.head-past ∙ s.past.head-past;
              subs-past = called.past.subs-past ∙ s.past.subs-past;
              rows-past = called.past.rows-past ∙ s.past.rows-past;
              head-length = called.past.head-length ∙ s.past.head-length;
              subs-length = called.past.subs-length ∙ s.past.subs-length;
              rows-length = called.past.rows-length ∙ s.past.rows-length;
              events-length = same-events ∙ s.past.events-length;
            };
            outcomes-length = same-outcomes ∙ s.outcomes-length;
          }

-- ---- on lent buffers, from their test on

module _ (h : List ℕ) (subs rows events outcomes ws : List Row) where
  abbrev b : Buffers
  b = lent h subs rows

  nothing-done : (q : Batch) → q ≡ undone (view b) → Batched q b b events events outcomes outcomes (record { calls = 0; events = 0 })
  nothing-done q e = subst⁻¹ (λ (q : Batch). Batched q b b events events outcomes outcomes (record { calls = 0; events = 0 })) e (record {
    calls = refl;
    count = refl;
    told = refl;
    untold = refl;
    sent = refl;
    later = refl;
    shows = refl;
    leaves-sound = λ s. s;
    kept = λ _. refl;
    past = record { head-past = refl; subs-past = refl; rows-past = refl; head-length = refl; subs-length = refl; rows-length = refl; events-length = refl };
    outcomes-length = refl;
  })

  pub not-begun : (not (state_short (lengths_of b 0)) && sound_buffers b) ≡ false → Batched (buffer_batch b (length events) (length outcomes) ws) b b events events outcomes outcomes (record { calls = 0; events = 0 })
  unfolding buffer_batch
  not-begun e = nothing-done (buffer_batch b (length events) (length outcomes) ws) (by-test (sound_buffers b)
      (λ s. if-true _ _ s ∙ batch-short (lengths_of b (length events)) (length outcomes) ws (view b) (short-state h subs rows (length events) (short-so s)))
      (λ s. if-false _ _ s))
    where
      short-so : sound_buffers b ≡ true → state_short (lengths_of b 0) ≡ true
      short-so s = not-false (state_short (lengths_of b 0)) (and-other (not (state_short (lengths_of b 0))) (sound_buffers b) s e)

  pub begun : sound_buffers b ≡ true → (b' : Buffers) (events' outcomes' : List Row) (r : Done) → Batched (batch (lengths_of b (length events)) (length outcomes) ws (view b)) b b' events events' outcomes outcomes' r
      → Batched (buffer_batch b (length events) (length outcomes) ws) b b' events events' outcomes outcomes' r
  unfolding buffer_batch
  begun s b' events' outcomes' r p = subst⁻¹ (λ (q : Batch). Batched q b b' events events' outcomes outcomes' r) (if-true _ _ s) p

-- ---- a call that is lent a part of the event list

module _ (events : List Row) (from : ℕ) (fits : from ≤ length events) where
  abbrev part : List Row
  part = take (length events - from) (drop from events)

  part-is : part ≡ drop from events
  part-is = take_all (length events - from) (drop from events) (omega (arith, length-drop from events))

  pub part_length : length part ≡ length events - from
  part_length = ap length part-is ∙ length-drop from events

  module _ (later : List Row) where
    -- the whole, once the part is back
    abbrev back : List Row
    back = take from events ++ (later ++ drop (length events - from) (drop from events))

    nothing-after : drop (length events - from) (drop from events) ≡ []
    nothing-after = drop-drop (length events - from) from events ∙ ap (λ (k : ℕ). drop k events) whole_length ∙ drop-length events
      where
        whole_length : from + (length events - from) ≡ length events
        whole_length = omega (arith, fits)

    pub back-front : take from back ≡ take from events
    back-front = take_at (take from events) (later ++ drop (length events - from) (drop from events)) from (length-take-le from events fits)

    pub back-part : drop from back ≡ later
    back-part = drop_at (take from events) (later ++ drop (length events - from) (drop from events)) from (length-take-le from events fits) ∙ ap (λ (l : List Row). later ++ l) nothing-after ∙ append-nil later

    pub part-called : (b b' : Buffers) (code : ℕ) (ws : List ℕ) (r : Outcome) → Called (buffer_step b (length part) code ws) b b' part later r
        → Called (buffer_step b (length events - from) code ws) b b' (drop from events) (drop from back) r
    part-called b b' code ws r p =
        subst⁻¹ (λ (l : List Row). Called (buffer_step b (length events - from) code ws) b b' (drop from events) l r) back-part
        (subst (λ (l : List Row). Called (buffer_step b (length events - from) code ws) b b' l later r) part-is
        (subst (λ (m : ℕ). Called (buffer_step b m code ws) b b' part later r) part_length p))
