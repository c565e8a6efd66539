-- The ring of words and the order that it holds: a step of the ring is a step of the order.
-- Assumes nothing.
use mathlib.Core.Path.{◌≡◌, refl, sym, ap, ap₂, ◌∙◌}
use mathlib.Core.Bool.{Bool, true, false, cond, ◌||◌, or_comm, or_assoc}
use mathlib.Core.List.{List, [], ◌∷◌, ◌++◌, append_assoc, append-nil}
use Prim.Native.Nat.{ℕ, suc, ◌+◌, ◌≤◌, ◌<◌}
use native.Mathlib.Numerals.{add-one}
use native.Mathlib.Omega.{arith}
use borrow.Author.Tests.{lt-ltb, le-ltb, eq-eqb, ltb-true, ltb-false, eqb-true, eqb-false, ne_eqb}
use lib.Dec.{eqb, ltb}
use lib.ListN.{length, take, drop, set, length-append, length-take, length-drop, length-set, take-append-drop, drop_of_length-le}
use lib.Seq.{length-take-le, take_all, take-take, drop-cons, drop-set-lt, take-set-lt, take-suc-set}
use Rattle.std.specs.List.{list_any}
use Rattle.std.specs.Bool.{nat_eq}
use Rattle.audit.specs.declared.Audit.{Audit}
use Rattle.audit.specs.Audit.{audit_window, seen, recorded, check_and_record, order_of, ring_sound, new_audit, place, ring_next, ring_refusal, RingLeft, ring_left, ring_step, CheckedAndRecorded}

-- ---- a number in a list

seen-append : (q : ℕ) (xs ys : List ℕ) → seen q (xs ++ ys) ≡ (seen q xs || seen q ys)
seen-append q [] ys = refl
seen-append q (x ∷ xs) ys = rw (seen-append q xs ys) (sym (or_assoc (eqb q x) (seen q xs) (seen q ys)))

-- the front of a list moved to its end
seen_turned : (q n : ℕ) (l : List ℕ) → seen q (drop n l ++ take n l) ≡ seen q l
seen_turned q n l =
    seen-append q (drop n l) (take n l)
    ∙ (or_comm (seen q (drop n l)) (seen q (take n l))
    ∙ (sym (seen-append q (take n l) (drop n l)) ∙ ap (seen q) (take-append-drop n l)))

-- as a slice's `contains` says it
pub seen-any : (q : ℕ) (xs : List ℕ) → seen q xs ≡ list_any (λ y. nat_eq y q) xs
seen-any q [] = refl
seen-any q (x ∷ xs) = ap₂ ◌||◌ (turned q x) (seen-any q xs)
  where
    turned : (a b : ℕ) → eqb a b ≡ nat_eq b a
    turned a b = by (eqb a b) refl
      where
        by : (t : Bool) → eqb a b ≡ t → eqb a b ≡ nat_eq b a
        by true e = e ∙ sym (eq-eqb b a (sym (eqb-true a b e)))
        by false e = e ∙ sym (ne_eqb b a (λ z. eqb-false a b e (sym z)))

-- ---- a ring of m words: the n numbers from s on

unfoldable ring : ℕ → ℕ → ℕ → List ℕ → List ℕ
ring m s n w = take n (drop s (take m w) ++ take s w)

module _ (m : ℕ) (w : List ℕ) where
  -- not full: from 0 on
  ring-front : (n : ℕ) → n ≤ m → ring m 0 n w ≡ take n w
  unfolding ring
  ring-front n h = rw (append-nil, take-take n m w h)

  -- full
  ring-turned : (s : ℕ) → s ≤ m → ring m s m w ≡ drop s (take m w) ++ take s (take m w)
  unfolding ring
  ring-turned s h =
      rw (← take-take s m w h)
      (take_all m (drop s (take m w) ++ take s (take m w)) (simp (length-append, length-drop, length-take) (omega arith)))

  seen_front : (q n : ℕ) → n ≤ m → seen q (ring m 0 n w) ≡ seen q (take n w)
  seen_front q n h = ap (seen q) (ring-front n h)

  seen-full : (q s : ℕ) → s ≤ m → seen q (ring m s m w) ≡ seen q (take m w)
  seen-full q s h = ap (seen q) (ring-turned s h) ∙ seen_turned q s (take m w)

  -- the oldest is the one past the window's end: it stands at 0
  ring-wrapped : ring m 0 m w ≡ drop m (take m w) ++ take m (take m w)
  ring-wrapped =
      ring-front m (omega arith)
      ∙ (sym (take-append-drop m (take m w))
      ∙ rw (drop_of_length-le (take m w) {i = m} (simp length-take (omega arith))) (append-nil (take m (take m w))))

-- a word is written over the first of the later part, which is then the last
turn : (t : List ℕ) (s q : ℕ) → s < length t → drop (suc s) (set t s q) ++ take (suc s) (set t s q) ≡ drop 1 ((drop s t ++ take s t) ++ q ∷ [])
turn t s q h =
    rw (drop-set-lt (suc s) t s q (omega arith), take-suc-set t s q h, drop-cons t s 0 h)
    (sym (append_assoc (drop (suc s) t) (take s t) (q ∷ [])))

module _ (m : ℕ) (w : List ℕ) (q : ℕ) (long : m ≤ length w) where
  -- one number more
  push : (n : ℕ) → n < m → ring m 0 (n + 1) (set w n q) ≡ ring m 0 n w ++ q ∷ []
  push n h =
      ring-front m (set w n q) (n + 1) (omega arith)
      ∙ (rw (add-one, take-suc-set w n q (omega arith)) (ap (λ (l : List ℕ). l ++ q ∷ []) (sym (ring-front m w n (omega arith)))))

  -- the oldest is written over
  over : (s : ℕ) → s < m → drop (suc s) (take m (set w s q)) ++ take (suc s) (take m (set w s q)) ≡ drop 1 (ring m s m w ++ q ∷ [])
  over s h =
      rw (take-set-lt m w s q h, ring-turned m w s (omega arith)) (turn (take m w) s q (simp length-take (omega arith)))

  evict : (s : ℕ) → s + 1 < m → ring m (s + 1) m (set w s q) ≡ drop 1 (ring m s m w ++ q ∷ [])
  evict s h = ring-turned m (set w s q) (s + 1) (omega arith) ∙ rw add-one (over s (omega arith))

  evict-last : (s : ℕ) → s + 1 ≡ m → ring m 0 m (set w s q) ≡ drop 1 (ring m s m w ++ q ∷ [])
  evict-last s h =
      let e : m ≡ suc s = omega arith in
      ring-wrapped m (set w s q)
      ∙ (ap (λ (n : ℕ). drop n (take m (set w s q)) ++ take n (take m (set w s q))) e ∙ over s (omega arith))

module _ (m : ℕ) (w : List ℕ) (long : m ≤ length w) where
  length_front : (n : ℕ) → n ≤ m → length (ring m 0 n w) ≡ n
  length_front n h = ap length (ring-front m w n h) ∙ length-take-le n w (omega arith)

  length-full : (s : ℕ) → s ≤ m → length (ring m s m w) ≡ m
  length-full s h = ap length (ring-turned m w s h) ∙ simp (length-append, length-drop, length-take) (omega arith)

-- ---- the definition's equations

recorded_more : (q : ℕ) (l : List ℕ) → length l < audit_window → recorded q l ≡ l ++ q ∷ []
recorded_more q l h =
    let e : length (l ++ q ∷ []) ≤ audit_window = simp length-append (omega arith) in
    rw (le-ltb audit_window (length (l ++ q ∷ [])) e)

recorded-full : (q : ℕ) (l : List ℕ) → length l ≡ audit_window → recorded q l ≡ drop 1 (l ++ q ∷ [])
recorded-full q l h =
    let e : audit_window < length (l ++ q ∷ []) = simp length-append (omega arith) in
    rw (lt-ltb audit_window (length (l ++ q ∷ [])) e)

order_is : (a : Audit) (w : List ℕ) → order_of a w ≡ ring audit_window a.start a.count w
unfolding order_of ring
order_is a w = refl

-- the two shapes of a ring: not full, and the oldest at 0; or full
data Shape (a : Audit) : Type 0 where
  filling : a.start ≡ 0 → a.count < audit_window → Shape a
  full : a.start < audit_window → a.count ≡ audit_window → Shape a

shape : (a : Audit) → ring_sound a ≡ true → Shape a
unfolding ring_sound
shape a h = by_count (ltb a.count audit_window) refl h
  where
    by-full : (t : Bool) → eqb a.count audit_window ≡ t → cond t (ltb a.start audit_window) false ≡ true → Shape a
    by-full true e h = full (ltb-true a.start audit_window h) (eqb-true a.count audit_window e)
    by-full false e h = absurd (let z : ◌≡◌ {A = Bool} false true = h in let y : ◌≡◌ {A = ℕ} 0 1 = cc in omega arith)

    by_count : (t : Bool) → ltb a.count audit_window ≡ t → cond t (eqb a.start 0) (cond (eqb a.count audit_window) (ltb a.start audit_window) false) ≡ true → Shape a
    by_count true e h = filling (eqb-true a.start 0 h) (ltb-true a.count audit_window e)
    by_count false e h = by-full (eqb a.count audit_window) refl h

shape-ok : (a : Audit) → Shape a → ring_sound a ≡ true
unfolding ring_sound
shape-ok a (filling s n) = rw (lt-ltb a.count audit_window n, eq-eqb a.start 0 s)
shape-ok a (full s n) = rw (le-ltb a.count audit_window (omega arith), eq-eqb a.count audit_window n, lt-ltb a.start audit_window s)

-- ---- the ring's next place and the ring after it

module _ (a : Audit) where
  place-more : a.count < audit_window → place a ≡ a.count
  unfolding place
  place-more n = rw (lt-ltb a.count audit_window n)

  place-over : audit_window ≤ a.count → place a ≡ a.start
  unfolding place
  place-over n = rw (le-ltb a.count audit_window n)

  pub next_more : a.count < audit_window → ring_next a ≡ record { start = a.start; count = a.count + 1 }
  unfolding ring_next
  next_more n = rw (lt-ltb a.count audit_window n)

  pub next-over : audit_window ≤ a.count → a.start + 1 < audit_window → ring_next a ≡ record { start = a.start + 1; count = a.count }
  unfolding ring_next
  next-over n s = rw (le-ltb a.count audit_window n, lt-ltb (a.start + 1) audit_window s)

  pub next_last : audit_window ≤ a.count → audit_window ≤ a.start + 1 → ring_next a ≡ record { start = 0; count = a.count }
  unfolding ring_next
  next_last n s = rw (le-ltb a.count audit_window n, le-ltb (a.start + 1) audit_window s)

-- ---- a sound ring

-- a ring that nothing was recorded in
pub order-new : (w : List ℕ) → order_of new_audit w ≡ []
unfolding order_of
order-new w = refl

order-filling : (a : Audit) (w : List ℕ) → a.start ≡ 0 → order_of a w ≡ ring audit_window 0 a.count w
order-filling a w s = order_is a w ∙ ap (λ (k : ℕ). ring audit_window k a.count w) s

order-full : (a : Audit) (w : List ℕ) → a.count ≡ audit_window → order_of a w ≡ ring audit_window a.start audit_window w
order-full a w n = order_is a w ∙ ap (λ (k : ℕ). ring audit_window a.start k w) n

module _ (a : Audit) (ok : ring_sound a ≡ true) where
  -- the order's numbers are those at the front of the window
  pub seen-order : (q : ℕ) (w : List ℕ) → seen q (order_of a w) ≡ seen q (take a.count w)
  seen-order q w = by (shape a ok)
    where
      by : Shape a → seen q (order_of a w) ≡ seen q (take a.count w)
      by (filling s n) = ap (seen q) (order-filling a w s) ∙ seen_front audit_window w q a.count (omega arith)
      by (full s n) =
          ap (seen q) (order-full a w n)
          ∙ (seen-full audit_window w q a.start (omega arith) ∙ ap (λ (k : ℕ). seen q (take k w)) (sym n))

  pub order-length : (w : List ℕ) → audit_window ≤ length w → length (order_of a w) ≡ a.count
  order-length w h = by (shape a ok)
    where
      by : Shape a → length (order_of a w) ≡ a.count
      by (filling s n) = ap length (order-filling a w s) ∙ length_front audit_window w h a.count (omega arith)
      by (full s n) = ap length (order-full a w n) ∙ (length-full audit_window w h a.start (omega arith) ∙ sym n)

  pub count_most : a.count ≤ audit_window
  count_most = by (shape a ok)
    where
      by : Shape a → a.count ≤ audit_window
      by (filling s n) = omega arith
      by (full s n) = omega arith

  pub place-below : place a < audit_window
  place-below = by (shape a ok)
    where
      by : Shape a → place a < audit_window
      by (filling s n) = rw (place-more a n) n
      by (full s n) = rw (place-over a (omega arith)) s

  pub next-ok : ring_sound (ring_next a) ≡ true
  next-ok = by (shape a ok)
    where
      more : a.start ≡ 0 → a.count < audit_window → (t : Bool) → ltb (a.count + 1) audit_window ≡ t → Shape (record { start = a.start; count = a.count + 1 })
      more s n true e = filling s (ltb-true (a.count + 1) audit_window e)
      more s n false e = full (omega arith) (let g : audit_window ≤ a.count + 1 = ltb-false (a.count + 1) audit_window e in omega arith)

      over-or-last : a.count ≡ audit_window → (t : Bool) → ltb (a.start + 1) audit_window ≡ t → ring_sound (ring_next a) ≡ true
      over-or-last n true e =
          let g : a.start + 1 < audit_window = ltb-true (a.start + 1) audit_window e in
          rw (next-over a (omega arith) g) (shape-ok _ (full g n))
      over-or-last n false e = rw (next_last a (omega arith) (ltb-false (a.start + 1) audit_window e)) (shape-ok _ (full (omega arith) n))

      by : Shape a → ring_sound (ring_next a) ≡ true
      by (filling s n) = rw (next_more a n) (shape-ok _ (more s n (ltb (a.count + 1) audit_window) refl))
      by (full s n) = over-or-last n (ltb (a.start + 1) audit_window) refl

  -- a word written at the next place is a number recorded
  pub order-next : (q : ℕ) (w : List ℕ) → audit_window ≤ length w → order_of (ring_next a) (set w (place a) q) ≡ recorded q (order_of a w)
  order-next q w h = by (shape a ok)
    where
      is-more : a.start ≡ 0 → a.count < audit_window → order_of (ring_next a) (set w (place a) q) ≡ order_of a w ++ q ∷ []
      is-more s n =
          ap₂ (λ (b : Audit) (k : ℕ). order_of b (set w k q)) (next_more a n) (place-more a n)
          ∙ (order-filling (record { start = a.start; count = a.count + 1 }) (set w a.count q) s
          ∙ (push audit_window w q h a.count n ∙ ap (λ (l : List ℕ). l ++ q ∷ []) (sym (order-filling a w s))))

      is-over : a.start < audit_window → a.count ≡ audit_window → (t : Bool) → ltb (a.start + 1) audit_window ≡ t → order_of (ring_next a) (set w (place a) q) ≡ drop 1 (order_of a w ++ q ∷ [])
      is-over s n true e =
          ap₂ (λ (b : Audit) (k : ℕ). order_of b (set w k q)) (next-over a (omega arith) (ltb-true (a.start + 1) audit_window e)) (place-over a (omega arith))
          ∙ (order-full (record { start = a.start + 1; count = a.count }) (set w a.start q) n
          ∙ (evict audit_window w q h a.start (ltb-true (a.start + 1) audit_window e)
          ∙ ap (λ (l : List ℕ). drop 1 (l ++ q ∷ [])) (sym (order-full a w n))))
      is-over s n false e =
          let g : audit_window ≤ a.start + 1 = ltb-false (a.start + 1) audit_window e in
          ap₂ (λ (b : Audit) (k : ℕ). order_of b (set w k q)) (next_last a (omega arith) g) (place-over a (omega arith))
          ∙ (order-full (record { start = 0; count = a.count }) (set w a.start q) n
          ∙ (evict-last audit_window w q h a.start (omega arith)
          ∙ ap (λ (l : List ℕ). drop 1 (l ++ q ∷ [])) (sym (order-full a w n))))

      by : Shape a → order_of (ring_next a) (set w (place a) q) ≡ recorded q (order_of a w)
      by (filling s n) =
          is-more s n ∙ sym (recorded_more q (order_of a w) (let e = order-length w h in omega arith))
      by (full s n) =
          is-over s n (ltb (a.start + 1) audit_window) refl ∙ sym (recorded-full q (order_of a w) (order-length w h ∙ n))

-- ---- the refusals

module _ (a : Audit) (w : List ℕ) where
  pub refusal-short : length w < audit_window → ring_refusal a w ≡ 1
  unfolding ring_refusal
  refusal-short h = rw (lt-ltb (length w) audit_window h)

  pub refusal-ring : audit_window ≤ length w → ring_sound a ≡ false → ring_refusal a w ≡ 2
  unfolding ring_refusal
  refusal-ring h e = rw (le-ltb (length w) audit_window h, e)

  pub refusal-none : audit_window ≤ length w → ring_sound a ≡ true → ring_refusal a w ≡ 0
  unfolding ring_refusal
  refusal-none h e = rw (le-ltb (length w) audit_window h, e)

-- ---- a step of the ring

module _ (q : ℕ) (a : Audit) (w : List ℕ) where
  pub step-refused : (n : ℕ) → ring_refusal a w ≡ n → 0 < n → ring_step q a w ≡ ring_left n a false w
  unfolding ring_step
  step-refused n e h = rw (e, ne_eqb n 0 (λ z. omega arith))

  module _ (accepted : ring_refusal a w ≡ 0) where
    pub step-seen : seen q (order_of a w) ≡ true → ring_step q a w ≡ ring_left 0 a true w
    unfolding ring_step
    step-seen e = rw (accepted, e)

    pub step-new : seen q (order_of a w) ≡ false → ring_step q a w ≡ ring_left 0 (ring_next a) false (set w (place a) q)
    unfolding ring_step
    step-new e = rw (accepted, e)

  -- what a step leaves keeps the promise
  abbrev pub Keeps : RingLeft → Type 0
  Keeps l = CheckedAndRecorded q a w l.checked l.words

  pub refused-kept : (n : ℕ) → ring_refusal a w ≡ n → 0 < n → Keeps (ring_left n a false w)
  refused-kept n e h = record {
    exact = sym (step-refused n e h);
    refusal = sym e;
    order = λ z. absurd (omega arith);
    ok = refl;
    beyond = refl;
    long = refl;
  }

  pub seen-kept : ring_refusal a w ≡ 0 → seen q (order_of a w) ≡ true → Keeps (ring_left 0 a true w)
  unfolding check_and_record
  seen-kept z e = record {
    exact = sym (step-seen z e);
    refusal = sym z;
    order = λ _. rw e;
    ok = refl;
    beyond = refl;
    long = refl;
  }

  pub new-kept : audit_window ≤ length w → ring_sound a ≡ true → seen q (order_of a w) ≡ false → Keeps (ring_left 0 (ring_next a) false (set w (place a) q))
  unfolding check_and_record
  new-kept h o e =
      let z = refusal-none a w h o in
      record {
        exact = sym (step-new z e);
        refusal = sym z;
        order = λ _. rw (e, order-next a o q w h);
        ok = next-ok a o ∙ sym o;
        beyond = drop-set-lt audit_window w (place a) q (place-below a o);
        long = length-set w (place a) q;
      }

  -- the law of the ring: each step is one of the order
  pub step_kept : Keeps (ring_step q a w)
  step_kept = by_length (ltb (length w) audit_window) refl
    where
      by-seen : audit_window ≤ length w → ring_sound a ≡ true → (t : Bool) → seen q (order_of a w) ≡ t → Keeps (ring_step q a w)
      by-seen h o true e = let z = refusal-none a w h o in rw (step-seen z e) (seen-kept z e)
      by-seen h o false e = rw (step-new (refusal-none a w h o) e) (new-kept h o e)

      by-ok : audit_window ≤ length w → (t : Bool) → ring_sound a ≡ t → Keeps (ring_step q a w)
      by-ok h true o = by-seen h o (seen q (order_of a w)) refl
      by-ok h false o = let z = refusal-ring a w h o in rw (step-refused 2 z (omega arith)) (refused-kept 2 z (omega arith))

      by_length : (t : Bool) → ltb (length w) audit_window ≡ t → Keeps (ring_step q a w)
      by_length true e =
          let z = refusal-short a w (ltb-true (length w) audit_window e) in
          rw (step-refused 1 z (omega arith)) (refused-kept 1 z (omega arith))
      by_length false e = by-ok (ltb-false (length w) audit_window e) (ring_sound a) refl
