-- Words written from a place on: what stands before them, at their place and after them. Assumes nothing.
use mathlib.Core.Path.{◌≡◌, refl, sym, ap, ap₂, ◌∙◌}
use mathlib.Core.List.{List, [], ◌∷◌, ◌++◌, append_assoc}
use Prim.Native.Nat.{ℕ, suc, ◌+◌, ◌-◌, ◌≤◌}
use native.Mathlib.Omega.{arith}
use lib.ListN.{length, take, drop, get_or, set, length-append, length-drop, take-append-drop}
use lib.Seq.{slice, length-slice, length-take-le, drop-drop, drop_at, take_at, take-add, get_or-drop, sets-eq}
use Rattle.table.proofs.Lists.{slice-take, written, written-length, written-drop, written_low}
use Rattle.std.specs.List.{copy_within}
use Rattle.model.specs.Model.{id_of}
use Rattle.definition.specs.Layout.{id_at}
use Rattle.producers.specs.Groups.{written_from}

module _ (at : ℕ) (l h : List ℕ) where
  over-written : written_from at l h ≡ written at l (at + length l) h
  unfolding written
  over-written = refl

  pub over-length : at + length l ≤ length h → length (written_from at l h) ≡ length h
  over-length b = ap length over-written ∙ written-length at (at + length l) l h refl b

  -- after them
  pub over-after : (n : ℕ) → at + length l ≤ n → at + length l ≤ length h → drop n (written_from at l h) ≡ drop n h
  over-after n a b = ap (drop n) over-written ∙ written-drop at (at + length l) l h refl n a b

  -- before them
  pub over-before : (n : ℕ) → n ≤ at → at + length l ≤ length h → take n (written_from at l h) ≡ take n h
  over-before n a b = ap (take n) over-written ∙ written_low at (at + length l) l h refl n a b

  -- from a place before them on
  pub over-from : (n m : ℕ) → at ≡ n + m → at ≤ length h → drop n (written_from at l h) ≡ written_from m l (drop n h)
  over-from n m e b =
      let t : length (take n h) ≡ n = length-take-le n h (omega arith) in
      let a : take at h ≡ take n h ++ take m (drop n h) = ap (λ (k : ℕ). take k h) e ∙ take-add n m h in
      let f : at + length l ≡ n + (m + length l) = omega arith in
      let d : drop (at + length l) h ≡ drop (m + length l) (drop n h) = ap (λ (k : ℕ). drop k h) f ∙ sym (drop-drop (m + length l) n h) in
      ap (λ (x : List ℕ). drop n (x ++ (l ++ drop (at + length l) h))) a
      ∙ ap (drop n) (append_assoc (take n h) (take m (drop n h)) (l ++ drop (at + length l) h))
      ∙ drop_at (take n h) (take m (drop n h) ++ (l ++ drop (at + length l) h)) n t
      ∙ ap (λ (x : List ℕ). take m (drop n h) ++ (l ++ x)) d

-- what `copy_within` leaves
pub copied_to : (at from to : ℕ) (h : List ℕ) → from ≤ to → to ≤ length h → copy_within h from to at ≡ written_from at (slice from to h) h
copied_to at from to h e b =
    append_assoc (take at h) (take (to - from) (drop from h)) (drop (at + (to - from)) h)
    ∙ ap₂ (λ (l : List ℕ) (n : ℕ). take at h ++ (l ++ drop (at + n) h)) (sym (slice-take from to h e)) (sym (length-slice from to h b))

-- nothing written
pub over_none : (at : ℕ) (h : List ℕ) → written_from at [] h ≡ h
over_none at h = let e : at + 0 ≡ at = omega arith in rw e (take-append-drop at h)

-- the words that stand there, written there again
pub over-same : (at n : ℕ) (h : List ℕ) → at + n ≤ length h → written_from at (take n (drop at h)) h ≡ h
over-same at n h b =
    let t : length (take n (drop at h)) ≡ n = length-take-le n (drop at h) (omega (arith, length-drop at h)) in
    ap (λ (k : ℕ). take at h ++ (take n (drop at h) ++ drop (at + k) h)) t
    ∙ ap (λ (x : List ℕ). take at h ++ (take n (drop at h) ++ x)) (sym (drop-drop n at h))
    ∙ ap (λ (x : List ℕ). take at h ++ x) (take-append-drop n (drop at h))
    ∙ take-append-drop at h

-- two runs, one after the other, in one
pub over-join : (at n : ℕ) (l m h : List ℕ) → at + length l ≡ n → n + length m ≤ length h → written_from n m (written_from at l h) ≡ written_from at (l ++ m) h
over-join at n l m h e b =
    let d : drop (n + length m) (written_from at l h) ≡ drop (n + length m) h = over-after at l h (n + length m) (omega arith) (omega arith) in
    let t : length (take at h ++ l) ≡ n = length-append (take at h) l ∙ omega (arith, length-take-le at h (omega arith)) in
    let c : take n (written_from at l h) ≡ take at h ++ l = ap (take n) (sym (append_assoc (take at h) l (drop (at + length l) h))) ∙ take_at (take at h ++ l) (drop (at + length l) h) n t in
    let s : n + length m ≡ at + length (l ++ m) = omega (arith, length-append l m) in
    ap (λ (x : List ℕ). x ++ (m ++ drop (n + length m) (written_from at l h))) c
    ∙ ap (λ (x : List ℕ). (take at h ++ l) ++ (m ++ x)) d
    ∙ append_assoc (take at h) l (m ++ drop (n + length m) h)
    ∙ ap (λ (x : List ℕ). take at h ++ x) (sym (append_assoc l m (drop (n + length m) h)))
    ∙ ap (λ (k : ℕ). take at h ++ ((l ++ m) ++ drop k h)) s

-- what stands before them at their place, written with them
pub over-back : (at n m : ℕ) (l h : List ℕ) → m ≡ at + n → m + length l ≤ length h → written_from m l h ≡ written_from at (take n (drop at h) ++ l) h
over-back at n m l h e b =
    let t : length (take n (drop at h)) ≡ n = length-take-le n (drop at h) (omega (arith, length-drop at h)) in
    sym (sym (over-join at m (take n (drop at h)) l h (omega arith) b) ∙ ap (written_from m l) (over-same at n h (omega arith)))

-- two stores
pub two-stores : (h : List ℕ) (at n m a b : ℕ) → n ≡ at → m ≡ at + 1 → at + 2 ≤ length h → set (set h n a) m b ≡ written_from at (a ∷ b ∷ []) h
two-stores h at n m a b p q s =
    let f : m ≡ suc at = omega arith in
    rw (p, f) (sets-eq (a ∷ b ∷ []) h at s ∙ append_assoc (take at h) (a ∷ b ∷ []) (drop (at + 2) h))

-- ---- words from a place on

pub first_word : (at : ℕ) (h : List ℕ) → get_or (drop at h) 0 0 ≡ get_or h at 0
first_word at h = let e : at + 0 ≡ at = omega arith in get_or-drop at h 0 0 ∙ ap (λ (m : ℕ). get_or h m 0) e

pub id-at : (at : ℕ) (h : List ℕ) → id_at (drop at h) ≡ id_of (get_or h at 0) (get_or h (at + 1) 0) (get_or h (at + 2) 0)
id-at at h = rw (first_word at h, get_or-drop at h 1 0, get_or-drop at h 2 0)

-- ---- a part that was lent

pub lent-over : (from n m : ℕ) (v h : List ℕ) → m ≡ n → length v ≡ n → take from h ++ (v ++ drop m (drop from h)) ≡ written_from from v h
lent-over from n m v h p e =
    let f : m ≡ length v = omega arith in
    ap (λ (k : ℕ). take from h ++ (v ++ drop k (drop from h))) f ∙ ap (λ (x : List ℕ). take from h ++ (v ++ x)) (drop-drop (length v) from h)

-- two runs, the later written first
pub over-join-before : (at n : ℕ) (l m h : List ℕ) → at + length l ≡ n → n + length m ≤ length h → written_from at l (written_from n m h) ≡ written_from at (l ++ m) h
over-join-before at n l m h e b =
    let t : take at (written_from n m h) ≡ take at h = over-before n m h at (omega arith) b in
    let w : drop n (written_from n m h) ≡ m ++ drop (n + length m) h = drop_at (take n h) (m ++ drop (n + length m) h) n (length-take-le n h (omega arith)) in
    let s : n + length m ≡ at + length (l ++ m) = omega (arith, length-append l m) in
    ap₂ (λ (x : List ℕ) (k : ℕ). x ++ (l ++ drop k (written_from n m h))) t e
    ∙ ap (λ (x : List ℕ). take at h ++ (l ++ x)) w
    ∙ ap (λ (x : List ℕ). take at h ++ x) (sym (append_assoc l m (drop (n + length m) h)))
    ∙ ap (λ (k : ℕ). take at h ++ ((l ++ m) ++ drop k h)) s
