-- All rows of a destination are the used rows in another order, and the sizes agree in both. Assumes nothing.
use mathlib.Core.Path.{◌≡◌, refl, sym, ap, ap₂, ◌∙◌}
use mathlib.Core.Bool.{Bool, true, false, not, ◌&&◌, ◌||◌, true≢false}
use mathlib.Core.List.{List, [], ◌∷◌, ◌++◌, map, append_assoc}
use Prim.Native.Nat.{ℕ, ◌+◌}
use native.Mathlib.Omega.{arith}
use lib.Dec.{eqb}
use lib.ListN.{take, drop}
use lib.Seq.{take-add}
use borrow.Author.Tests.{not-true}
use Rattle.words.proofs.Tests.{by-test}
use Rattle.entry.specs.Entry.{entry_of}
use Rattle.definition.specs.Base.{all, member, distinct}
use Rattle.definition.specs.Types.{Kind, Entry}
use Rattle.definition.specs.Calls.{seqs, consumer_rows, sizes_agree}
use Rattle.definition.specs.Words.{at}
use Rattle.definition.specs.Layout.{Row, each_sub, subs_at, sub_rows}
use Rattle.definition.proofs.Tests.{and_left, and_right, and_both}
use Rattle.definition.proofs.Thin.{map-append}
use Rattle.definition.proofs.Sums.{odd, sum-append, agree-sum, sum-agree}
use Rattle.distinct.proofs.Laws.{iff}
use Rattle.subrows.specs.Subrows.{reserved_at, waiting_at}
use Rattle.subrows.proofs.Subs.{rows-of-sub}

-- ---- three blocks

turned : (a b c : List Entry) → sizes_agree (a ++ (b ++ c)) ≡ true → sizes_agree (c ++ (b ++ a)) ≡ true
turned a b c h = sum-agree (c ++ (b ++ a)) (λ x.
    let r = agree-sum (a ++ (b ++ c)) h x in
    let f = odd x r.0 in
    (r.0, omega (arith, r.1, sum-append f a (b ++ c), sum-append f b c, sum-append f c (b ++ a), sum-append f b a)))

pub agree-turned : (a b c : List Entry) → sizes_agree (a ++ (b ++ c)) ≡ sizes_agree (c ++ (b ++ a))
agree-turned a b c = iff (sizes_agree (a ++ (b ++ c))) (sizes_agree (c ++ (b ++ a))) (turned a b c) (turned c b a)

-- ---- where the rows stand

pub rows-of-subs : (k : Kind) (ws rows : List Row) → consumer_rows (subs_at k ws rows) ≡ map entry_of (take (sub_rows ws) rows)
unfolding each_sub sub_rows
rows-of-subs k [] rows = refl
rows-of-subs k (w ∷ ws) rows =
    let f : List Row = take (at 14 w) rows in
    let h : List Row = take (at 15 w) (drop (at 14 w) rows) in
    let rest : List Row = drop (at 15 w) (drop (at 14 w) rows) in
    let l : List Row = take (sub_rows ws) rest in
    ap₂ (λ (a b : List Entry). a ++ b) (rows-of-sub k w f h) (rows-of-subs k ws rest)
    ∙ append_assoc (map entry_of f) (map entry_of h) (map entry_of l)
    ∙ sym (ap (map entry_of) (take-add (at 14 w) (at 15 w + sub_rows ws) rows ∙ ap (λ (m : List Row). f ++ m) (take-add (at 15 w) (sub_rows ws) (drop (at 14 w) rows)))
    ∙ map-append entry_of f (h ++ l)
    ∙ ap (λ (m : List Entry). map entry_of f ++ m) (map-append entry_of h l))

module _ (reserved waiting : ℕ) (us rows : List Row) where
  pub used-parts : (k : Kind) → map entry_of (take (sub_rows us + reserved + waiting) rows)
      ≡ consumer_rows (subs_at k us rows) ++ (map entry_of (reserved_at (sub_rows us) reserved rows) ++ map entry_of (waiting_at (sub_rows us) reserved waiting rows))
  used-parts k =
      let c : List Row = take (sub_rows us) rows in
      let r : List Row = reserved_at (sub_rows us) reserved rows in
      let w : List Row = waiting_at (sub_rows us) reserved waiting rows in
      ap (map entry_of) (take-add (sub_rows us + reserved) waiting rows ∙ ap (λ (l : List Row). l ++ w) (take-add (sub_rows us) reserved rows) ∙ append_assoc c r w)
      ∙ map-append entry_of c (r ++ w)
      ∙ ap₂ (λ (a b : List Entry). a ++ b) (sym (rows-of-subs k us rows)) (map-append entry_of r w)

-- ---- different numbers

new-likes : (e : Entry) (l : List Entry) → member e.seq (seqs l) ≡ false → all (λ f. not (eqb e.seq f.seq) || eqb e.size f.size) l ≡ true
new-likes e [] h = refl
new-likes e (f ∷ l) h = by-test (eqb e.seq f.seq)
    (λ t. absurd (true≢false (sym (ap (λ (b : Bool). b || member e.seq (seqs l)) t) ∙ h)))
    (λ t. ap (λ (b : Bool). (not b || eqb e.size f.size) && all (λ g. not (eqb e.seq g.seq) || eqb e.size g.size) l) t
    ∙ new-likes e l (sym (ap (λ (b : Bool). b || member e.seq (seqs l)) t) ∙ h))

pub distinct-agree : (l : List Entry) → distinct (seqs l) ≡ true → sizes_agree l ≡ true
distinct-agree [] h = refl
distinct-agree (e ∷ l) h =
    let m : member e.seq (seqs l) ≡ false = not-true (member e.seq (seqs l)) (and_left (not (member e.seq (seqs l))) (distinct (seqs l)) h) in
    and_both (all (λ f. not (eqb e.seq f.seq) || eqb e.size f.size) l) (sizes_agree l) (new-likes e l m) (distinct-agree l (and_right (not (member e.seq (seqs l))) (distinct (seqs l)) h))
