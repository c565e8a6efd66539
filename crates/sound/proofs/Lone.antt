-- Where no entry can have two rows, all numbers are different, and so the sizes agree. Assumes nothing.
use mathlib.Core.Path.{◌≡◌, refl, sym, ap, ap₂, ◌∙◌}
use mathlib.Core.Bool.{Bool, true, false, not, ◌&&◌}
use mathlib.Core.List.{List, [], ◌∷◌, ◌++◌, map, append-nil}
use Prim.Native.Nat.{ℕ, ◌+◌, ◌≤◌}
use native.Mathlib.Omega.{arith}
use borrow.Author.Tests.{eqb-true, leb-false, not-false}
use lib.Dec.{eqb}
use lib.ListN.{take, drop}
use Rattle.words.specs.Pick.{whether◌then◌else◌}
use Rattle.words.proofs.Tests.{by-test}
use Rattle.entry.specs.Entry.{entry_of}
use Rattle.definition.specs.Base.{all, tally, distinct}
use Rattle.definition.specs.Types.{Kind, queue, topic, Entry, Sub}
use Rattle.definition.specs.Consumer.{is_browser}
use Rattle.definition.specs.Calls.{seqs, flying, rows_of, taken, consumer_rows, sizes_agree}
use Rattle.definition.specs.Words.{at, kind_by}
use Rattle.definition.specs.Layout.{Row, flag, sub_at, each_sub, subs_at, sub_rows, subs_strict}
use Rattle.definition.proofs.Tests.{and_left, and_right}
use Rattle.definition.proofs.Thin.{map-append}
use Rattle.definition.proofs.Stored.{seqs-rows}
use Rattle.copies.specs.Copies.{may_copy, shared_by}
use Rattle.subrows.specs.Subrows.{own_sound, each_ok, reserved_at, waiting_at}
use Rattle.sound.specs.Sound.{apart_by, sizes_at, empty_by, queue_apart}
use Rattle.subrows.proofs.Subs.{rows-of-sub, browses}
use Rattle.sound.proofs.Sizes.{agree-turned, used-parts, distinct-agree}
use Rattle.sound.proofs.Meaning.{plain_rows, each-parts}

-- ---- one consumer

browses-sub : (w : Row) (f h : List Row) → is_browser (sub_at queue w f h) ≡ flag (at 6 w)
unfolding is_browser sub_at
browses-sub w f h = browses (flag (at 6 w)) (map entry_of h)

-- one without rows
no_rows : (k : Kind) (w : Row) (rows : List Row) → (eqb (at 14 w) 0 && eqb (at 15 w) 0) ≡ true → rows_of (sub_at k w (take (at 14 w) rows) (take (at 15 w) (drop (at 14 w) rows))) ≡ []
no_rows k w rows e =
    rows-of-sub k w (take (at 14 w) rows) (take (at 15 w) (drop (at 14 w) rows))
    ∙ ap₂ (λ (m n : ℕ). map entry_of (take m rows) ++ map entry_of (take n (drop (at 14 w) rows))) (eqb-true (at 14 w) 0 (and_left (eqb (at 14 w) 0) (eqb (at 15 w) 0) e)) (eqb-true (at 15 w) 0 (and_right (eqb (at 14 w) 0) (eqb (at 15 w) 0) e))

-- a queue's consumer whose rows are no copies
module _ (most : ℕ) (w : Row) (rows : List Row) where
  abbrev s : Sub
  s = sub_at queue w (take (at 14 w) rows) (take (at 15 w) (drop (at 14 w) rows))

  plain-sub : own_sound queue most s ≡ true → may_copy true w ≡ false → (whether is_browser s then [] else flying s) ≡ rows_of s
  plain-sub o h = by-test (flag (at 6 w))
      (λ t.
      let e : (eqb (at 14 w) 0 && eqb (at 15 w) 0) ≡ true = not-false (eqb (at 14 w) 0 && eqb (at 15 w) 0) (sym (ap (λ (b : Bool). b && not (eqb (at 14 w) 0 && eqb (at 15 w) 0)) t) ∙ h) in
      ap (λ (b : Bool). whether b then [] else flying s) (browses-sub w (take (at 14 w) rows) (take (at 15 w) (drop (at 14 w) rows)) ∙ t) ∙ sym (no_rows queue w rows e))
      (λ t.
      let n : is_browser s ≡ false = browses-sub w (take (at 14 w) rows) (take (at 15 w) (drop (at 14 w) rows)) ∙ t in
      ap (λ (b : Bool). whether b then [] else flying s) n ∙ sym (plain_rows most s o n))

-- ---- all of them

module _ (q : Bool) (w : Row) (ws : List Row) where
  tally-none : tally (may_copy q) (w ∷ ws) ≡ 0 → (may_copy q w ≡ false) × (tally (may_copy q) ws ≡ 0)
  tally-none e = by-test (may_copy q w)
      (λ t. absurd (omega (arith, sym (ap (λ (b : Bool). (whether b then 1 else 0) + tally (may_copy q) ws) t) ∙ e)))
      (λ t. (t, omega (arith, sym (ap (λ (b : Bool). (whether b then 1 else 0) + tally (may_copy q) ws) t) ∙ e)))

taken-all : (most : ℕ) (ws rows : List Row) → all (own_sound queue most) (subs_at queue ws rows) ≡ true → tally (may_copy true) ws ≡ 0
    → taken (subs_at queue ws rows) ≡ consumer_rows (subs_at queue ws rows)
unfolding each_sub
taken-all most [] rows o e = refl
taken-all most (w ∷ ws) rows o e =
    let rest : List Row = drop (at 15 w) (drop (at 14 w) rows) in
    let x = s most w rows in
    let t = tally-none true w ws e in
    ap₂ (λ (a b : List Entry). a ++ b) (plain-sub most w rows (and_left (own_sound queue most x) _ o) t.0) (taken-all most ws rest (and_right (own_sound queue most x) _ o) t.1)

none-held : (ws rows : List Row) → tally (may_copy false) ws ≡ 0 → consumer_rows (subs_at topic ws rows) ≡ []
unfolding each_sub
none-held [] rows e = refl
none-held (w ∷ ws) rows e =
    let t = tally-none false w ws e in
    ap₂ (λ (a b : List Entry). a ++ b) (no_rows topic w rows (not-false (eqb (at 14 w) 0 && eqb (at 15 w) 0) t.0)) (none-held ws (drop (at 15 w) (drop (at 14 w) rows)) t.1)

one-held : (ws rows : List Row) → all (apart_by topic) (subs_at topic ws rows) ≡ true → tally (may_copy false) ws ≤ 1 → distinct (seqs (consumer_rows (subs_at topic ws rows))) ≡ true
unfolding each_sub
one-held [] rows a h = refl
one-held (w ∷ ws) rows a h = by-test (may_copy false w)
    (λ t.
    let e : tally (may_copy false) ws ≡ 0 = omega (arith, h, ap (λ (b : Bool). (whether b then 1 else 0) + tally (may_copy false) ws) t) in
    ap (λ (l : List Entry). distinct (seqs l)) (ap (λ (l : List Entry). rows_of x ++ l) (none-held ws rest e) ∙ append-nil (rows_of x)) ∙ and_left (apart_by topic x) _ a)
    (λ t.
    ap (λ (l : List Entry). distinct (seqs (l ++ consumer_rows (subs_at topic ws rest)))) (no_rows topic w rows (not-false (eqb (at 14 w) 0 && eqb (at 15 w) 0) t))
    ∙ one-held ws rest (and_right (apart_by topic x) _ a) (omega (arith, h, ap (λ (b : Bool). (whether b then 1 else 0) + tally (may_copy false) ws) t)))
  where
    rest : List Row
    rest = drop (at 15 w) (drop (at 14 w) rows)

    x : Sub
    x = sub_at topic w (take (at 14 w) rows) (take (at 15 w) (drop (at 14 w) rows))

-- ---- and what is reserved or waits

module _ (most reserved waiting : ℕ) (us rows : List Row) where
  abbrev kept : List Entry
  kept = map entry_of (reserved_at (sub_rows us) reserved rows)

  abbrev waits : List Entry
  waits = map entry_of (waiting_at (sub_rows us) reserved waiting rows)

  pub lone-distinct : (q : Bool) → empty_by (kind_by q) (reserved + waiting) ≡ true → each_ok (kind_by q) most us rows ≡ true
      → (queue_apart (kind_by q) (sub_rows us) reserved waiting us rows && all (apart_by (kind_by q)) (subs_at (kind_by q) us rows)) ≡ true
      → shared_by q us ≡ false → distinct (seqs (waits ++ (kept ++ consumer_rows (subs_at (kind_by q) us rows)))) ≡ true
  lone-distinct true p o a n =
      let c = consumer_rows (subs_at queue us rows) in
      let t : tally (may_copy true) us ≡ 0 = omega (arith, leb-false 1 (tally (may_copy true) us) n) in
      let own = and_left (all (own_sound queue most) (subs_at queue us rows)) (subs_strict us rows) (sym (each-parts queue most us rows) ∙ o) in
      ap distinct (map-append (λ e. e.seq) waits (kept ++ c)
      ∙ ap₂ (λ (l m : List ℕ). l ++ m) (sym (seqs-rows (waiting_at (sub_rows us) reserved waiting rows))) (map-append (λ e. e.seq) kept c
      ∙ ap₂ (λ (l : List ℕ) (m : List Entry). l ++ seqs m) (sym (seqs-rows (reserved_at (sub_rows us) reserved rows))) (sym (taken-all most us rows own t))))
      ∙ and_left (queue_apart queue (sub_rows us) reserved waiting us rows) _ a
  lone-distinct false p o a n =
      let t : tally (may_copy false) us ≤ 1 = omega (arith, leb-false 2 (tally (may_copy false) us) n) in
      let e : reserved + waiting ≡ 0 = eqb-true (reserved + waiting) 0 p in
      let er : reserved ≡ 0 = omega arith in
      let ew : waiting ≡ 0 = omega arith in
      ap₂ (λ (m k : ℕ). distinct (seqs (map entry_of (take m (drop (sub_rows us + reserved) rows)) ++ (map entry_of (take k (drop (sub_rows us) rows)) ++ consumer_rows (subs_at topic us rows))))) ew er
      ∙ one-held us rows a t

  pub lone-agree : (q : Bool) → empty_by (kind_by q) (reserved + waiting) ≡ true → each_ok (kind_by q) most us rows ≡ true
      → (queue_apart (kind_by q) (sub_rows us) reserved waiting us rows && all (apart_by (kind_by q)) (subs_at (kind_by q) us rows)) ≡ true
      → shared_by q us ≡ false → sizes_at (sub_rows us + reserved + waiting) rows ≡ true
  lone-agree q p o a n =
      let c = consumer_rows (subs_at (kind_by q) us rows) in
      ap sizes_agree (used-parts reserved waiting us rows (kind_by q)) ∙ sym (agree-turned waits kept c) ∙ distinct-agree (waits ++ (kept ++ c)) (lone-distinct q p o a n)

  -- the same for a count of the consumers' rows
  pub lone-at : (others : ℕ) → others ≡ sub_rows us → (q : Bool) → empty_by (kind_by q) (reserved + waiting) ≡ true → each_ok (kind_by q) most us rows ≡ true
      → (queue_apart (kind_by q) others reserved waiting us rows && all (apart_by (kind_by q)) (subs_at (kind_by q) us rows)) ≡ true
      → shared_by q us ≡ false → sizes_at (others + reserved + waiting) rows ≡ true
  lone-at others e q p o a n =
      ap (λ (k : ℕ). sizes_at (k + reserved + waiting) rows) e
      ∙ lone-agree q p o (sym (ap (λ (k : ℕ). queue_apart (kind_by q) k reserved waiting us rows && all (apart_by (kind_by q)) (subs_at (kind_by q) us rows)) e) ∙ a) n
