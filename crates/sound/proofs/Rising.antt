-- Numbers of rows that rise: the turns of the loops that look along them, and which need not be compared. Assumes nothing.
use mathlib.Core.Path.{◌≡◌, refl, sym, ap, ap₂, ◌∙◌}
use mathlib.Core.Bool.{Bool, true, false, not, ◌&&◌, ◌||◌, or-false, true≢false}
use mathlib.Core.List.{List, [], ◌∷◌, ◌++◌}
use Prim.Native.Nat.{ℕ, zero, suc, ◌+◌, ◌≤◌, ◌<◌, min}
use native.Mathlib.Omega.{arith}
use borrow.Author.Tests.{ltb-true, ltb-false, lt-ltb, le-ltb, ne_eqb}
use lib.Dec.{ltb, eqb}
use lib.ListN.{length, take, drop, get_or, length-take, length-drop}
use lib.Seq.{slice, take-take, take_all, drop-cons}
use native.Mathlib.Numerals.{add-one}
use Rattle.std.proofs.lemmas.List.{drop_all}
use Rattle.words.proofs.Tests.{by-test}
use Rattle.definition.specs.Base.{all, member, distinct, rising, ascending}
use Rattle.definition.specs.Types.{topic}
use Rattle.definition.specs.Words.{at, kind_by}
use Rattle.definition.specs.Layout.{Row, sub_at, each_sub, sub_strict}
use Rattle.definition.proofs.Tests.{and_left, and_right, and_both}
use Rattle.definition.proofs.Thin.{every-all, ascending-tail, ascending-distinct}
use Rattle.definition.proofs.Stored.{seqs-rows}
use Rattle.distinct.proofs.Laws.{eqb_comm, apart, apart-swap, distinct_append, rising-new, rising-distinct}
use Rattle.subrows.specs.Subrows.{own_tests, own_sound, own_ok, each_ok, seqs_at}
use Rattle.sound.specs.Sound.{held_seqs, held_rise, SameFrom}
use Rattle.subrows.proofs.Tests.{part-turn, part_end, part_of}

-- numbers that rise, and others: only these are compared, and looked for among those
pub rising-apart : (l others : List ℕ) → ascending l ≡ true → distinct (l ++ others) ≡ (distinct others && apart others l)
rising-apart l others e = distinct_append l others ∙ ap₂ (λ (s t : Bool). s && (distinct others && t)) (ascending-distinct l e) (apart-swap l others)

module _ (rows : List Row) (i to : ℕ) (b : to ≤ length rows) where
  seqs-turn : i < to → seqs_at (slice i to rows) ≡ at 0 (get_or rows i []) ∷ seqs_at (slice (i + 1) to rows)
  seqs-turn h = ap seqs_at (part-turn rows i to [] h b)

  -- a number is looked for from x on
  pub same_next : (x : ℕ) (l : List ℕ) → SameFrom x l (seqs_at (slice i to rows)) → i < to → at 0 (get_or rows i []) < x → SameFrom x l (seqs_at (slice (i + 1) to rows))
  same_next x l g h q y t =
      g y t ∙ ap (member y) (seqs-turn h) ∙ ap (λ (s : Bool). s || member y (seqs_at (slice (i + 1) to rows))) (ne_eqb y (at 0 (get_or rows i [])) (λ p. omega (arith, p)))

  module _ (e : ascending (seqs_at (slice i to rows)) ≡ true) where
    pub ascends-next : i < to → ascending (seqs_at (slice (i + 1) to rows)) ≡ true
    ascends-next h = ascending-tail (at 0 (get_or rows i [])) (seqs_at (slice (i + 1) to rows)) (sym (ap ascending (seqs-turn h)) ∙ e)

    later-new : (x : ℕ) → i < to → x ≤ at 0 (get_or rows i []) → member x (seqs_at (slice (i + 1) to rows)) ≡ false
    later-new x h q = rising-new (at 0 (get_or rows i [])) x (seqs_at (slice (i + 1) to rows)) (sym (ap ascending (seqs-turn h)) ∙ e) q

    pub met_at : (x : ℕ) → i < to → x ≤ at 0 (get_or rows i []) → member x (seqs_at (slice i to rows)) ≡ (ltb i to && eqb (at 0 (get_or rows i [])) x)
    met_at x h q =
        let s : ℕ = at 0 (get_or rows i []) in
        ap (member x) (seqs-turn h) ∙ ap (λ (t : Bool). eqb x s || t) (later-new x h q) ∙ or-false (eqb x s) ∙ eqb_comm x s ∙ sym (ap (λ (t : Bool). t && eqb s x) (lt-ltb i to h))

    pub below-first : (x : ℕ) → i < to → x < at 0 (get_or rows i []) → member x (seqs_at (slice i to rows)) ≡ false
    below-first x h q = ap (member x) (seqs-turn h) ∙ ap₂ ◌||◌ (ne_eqb x (at 0 (get_or rows i [])) (λ p. omega (arith, p))) (later-new x h (omega arith))

  pub met-nowhere : (x : ℕ) → i ≡ to → member x (seqs_at (slice i to rows)) ≡ (ltb i to && eqb (at 0 (get_or rows i [])) x)
  met-nowhere x q =
      ap (λ (l : List Row). member x (seqs_at l)) (part_end rows i to q) ∙ sym (ap (λ (t : Bool). t && eqb (at 0 (get_or rows i [])) x) (le-ltb i to (omega arith)))

  -- whether they rise
  module _ (last : ℕ) (total : Bool) (e : rising last (seqs_at (slice i to rows)) ≡ total) where
    rise-turn : i < to → (ltb last (at 0 (get_or rows i [])) && rising (at 0 (get_or rows i [])) (seqs_at (slice (i + 1) to rows))) ≡ total
    rise-turn h = sym (ap (rising last) (seqs-turn h)) ∙ e

    pub rise-stop : i < to → at 0 (get_or rows i []) ≤ last → false ≡ total
    rise-stop h q = rw (le-ltb last (at 0 (get_or rows i [])) q) at (rise-turn h)

    pub rise-next : i < to → last < at 0 (get_or rows i []) → rising (at 0 (get_or rows i [])) (seqs_at (slice (i + 1) to rows)) ≡ total
    rise-next h q = rw (lt-ltb last (at 0 (get_or rows i [])) q) at (rise-turn h)

    pub rise-end : i ≡ to → true ≡ total
    rise-end q = sym (ap (λ (l : List Row). rising last (seqs_at l)) (part_end rows i to q)) ∙ e

-- where those from place k on rise, and the first k and one more do, all do
head-rises : (k m : ℕ) (l : List Row) → rising m (seqs_at (take (suc k) l)) ≡ true → ascending (seqs_at (drop k l)) ≡ true → rising m (seqs_at l) ≡ true
head-rises k m [] e f = refl
head-rises zero m (w ∷ l) e f = and_both (ltb m (at 0 w)) (rising (at 0 w) (seqs_at l)) (and_left (ltb m (at 0 w)) true e) f
head-rises (suc k) m (w ∷ l) e f =
    and_both (ltb m (at 0 w)) (rising (at 0 w) (seqs_at l)) (and_left (ltb m (at 0 w)) (rising (at 0 w) (seqs_at (take (suc k) l))) e)
    (head-rises k (at 0 w) l (and_right (ltb m (at 0 w)) (rising (at 0 w) (seqs_at (take (suc k) l))) e) f)

pub head_apart : (rows : List Row) (from n k head : ℕ) → from + n ≤ length rows → k ≤ n → head ≡ min n (k + 1)
    → ascending (seqs_at (slice k n (drop from rows))) ≡ true → rising 0 (seqs_at (slice from (from + head) rows)) ≡ true → distinct (seqs_at (take n (drop from rows))) ≡ true
head_apart rows from n k head b h e a r =
    rising-distinct 0 (seqs_at (take n (drop from rows))) (head-rises k 0 (take n (drop from rows)) (ap (λ (l : List Row). rising 0 (seqs_at l)) part ∙ r) a)
  where
    part : take (suc k) (take n (drop from rows)) ≡ slice from (from + head) rows
    part = by-test (ltb k n)
        (λ t.
        let q : suc k ≡ head = omega (arith, e, ltb-true k n t) in
        take-take (suc k) n (drop from rows) (omega (arith, ltb-true k n t)) ∙ ap (λ (j : ℕ). take j (drop from rows)) q ∙ sym (part_of rows from head (omega arith)))
        (λ t.
        let q : n ≡ head = omega (arith, e, ltb-false k n t) in
        take_all (suc k) (take n (drop from rows)) (simp (length-take, length-drop) (omega (arith, ltb-false k n t))) ∙ ap (λ (j : ℕ). take j (drop from rows)) q
        ∙ sym (part_of rows from head (omega arith)))

-- which consumers' rows are compared
pub topic-rises : (q : Bool) (l : List ℕ) → q ≡ false → held_rise q l ≡ true → ascending l ≡ true
topic-rises true l e h = absurd (true≢false e)
topic-rises false l e h = h

pub asked-topic : (q b d : Bool) → q ≡ false → d ≡ (not (not q || b) || d)
asked-topic true b d e = absurd (true≢false e)
asked-topic false b d e = refl

pub asked-browser : (q b d : Bool) → q ≡ true → b ≡ true → d ≡ (not (not q || b) || d)
asked-browser true true d e f = refl
asked-browser true false d e f = absurd (true≢false (sym f))
asked-browser false b d e f = absurd (true≢false (sym e))

pub not-asked : (q b d : Bool) → q ≡ true → b ≡ false → true ≡ (not (not q || b) || d)
not-asked true true d e f = absurd (true≢false f)
not-asked true false d e f = refl
not-asked false b d e f = absurd (true≢false (sym e))

-- where a number is looked for: from the start again, or from where the one before was
pub resumed : (rows : List Row) (from to place start x last : ℕ) → (x < last → start ≡ from) → (last ≤ x → start ≡ place) → from ≤ to → place ≤ to
    → ascending (seqs_at (slice from to rows)) ≡ true → SameFrom last (seqs_at (slice from to rows)) (seqs_at (slice place to rows)) → ascending (seqs_at (slice place to rows)) ≡ true
    → (start ≤ to) × SameFrom x (seqs_at (slice from to rows)) (seqs_at (slice start to rows)) × (ascending (seqs_at (slice start to rows)) ≡ true)
resumed rows from to place start x last f g h k a s b = by-test (ltb x last)
    (λ t.
    let e : start ≡ from = f (ltb-true x last t) in (
      omega arith,
      (λ y u. ap (λ (j : ℕ). member y (seqs_at (slice j to rows))) (sym e)),
      ap (λ (j : ℕ). ascending (seqs_at (slice j to rows))) e ∙ a,
    ))
    (λ t.
    let e : start ≡ place = g (ltb-false x last t) in (
      omega arith,
      (λ y u. s y (omega (arith, ltb-false x last t)) ∙ ap (λ (j : ℕ). member y (seqs_at (slice j to rows))) (sym e)),
      ap (λ (j : ℕ). ascending (seqs_at (slice j to rows))) e ∙ b,
    ))

-- rows that wait, and others
pub waiting-apart : (rows : List Row) (f n : ℕ) (l : List ℕ) → f ≤ length rows → ascending (seqs_at (slice f (f + n) rows)) ≡ true
    → distinct (seqs_at (take n (drop f rows)) ++ l) ≡ (distinct l && apart l (seqs_at (slice f (f + n) rows)))
waiting-apart rows f n l b e = ap (λ (m : List Row). distinct (seqs_at m ++ l)) (sym (part_of rows f n b)) ∙ rising-apart (seqs_at (slice f (f + n) rows)) l e

-- ---- what consumers hold

-- where each consumer is sound, what it holds on a topic rises
pub held-rise : (q : Bool) (most : ℕ) (ws rows : List Row) → each_ok (kind_by q) most ws rows ≡ true → all (held_rise q) (each_sub held_seqs ws rows) ≡ true
unfolding each_sub own_sound sub_at
held-rise q most [] rows e = refl
held-rise q most (w ∷ ws) rows e =
    let f : List Row = take (at 14 w) rows in
    let h : List Row = take (at 15 w) (drop (at 14 w) rows) in
    let rest : List Row = drop (at 15 w) (drop (at 14 w) rows) in
    let own : Bool = own_ok (kind_by q) most w f h in
    and_both (held_rise q (seqs_at h)) (all (held_rise q) (each_sub held_seqs ws rest))
    (here-rises q f h (and_left own (each_ok (kind_by q) most ws rest) e)) (held-rise q most ws rest (and_right own (each_ok (kind_by q) most ws rest) e))
  where
    here-rises : (b : Bool) (f h : List Row) → own_ok (kind_by b) most w f h ≡ true → held_rise b (seqs_at h) ≡ true
    here-rises true f h t = refl
    here-rises false f h t =
        ap ascending (seqs-rows h) ∙ (every-all (own_tests topic most (sub_at topic w f h)) (and_left (own_sound topic most (sub_at topic w f h)) (sub_strict w f h) t)).1.1.1.1.1.1.1.0

-- numbers that are tested one after the other
module _ (p : ℕ → Bool) (xs : List ℕ) (i : ℕ) (total : Bool) (e : all p (drop i xs) ≡ total) where
  none-turn : i < length xs → (p (get_or xs i 0) && all p (drop (i + 1) xs)) ≡ total
  none-turn h = sym (ap (all p) (drop-cons xs i 0 h ∙ ap (λ (j : ℕ). get_or xs i 0 ∷ drop j xs) (sym (add-one i)))) ∙ e

  pub none-stop : i < length xs → p (get_or xs i 0) ≡ false → false ≡ total
  none-stop h q = sym (ap (λ (b : Bool). b && all p (drop (i + 1) xs)) q) ∙ none-turn h

  pub none-next : i < length xs → p (get_or xs i 0) ≡ true → all p (drop (i + 1) xs) ≡ total
  none-next h q = sym (ap (λ (b : Bool). b && all p (drop (i + 1) xs)) q) ∙ none-turn h

  pub none-end : length xs ≤ i → true ≡ total
  none-end h = sym (ap (all p) (drop_all i xs h)) ∙ e
