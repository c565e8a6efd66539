-- The bytes of a sound state's used rows are those that the definitions count, and what the code goes by. Assumes nothing.
use mathlib.Core.Path.{◌≡◌, refl, sym, ap, ◌∙◌}
use mathlib.Core.Bool.{true, false}
use mathlib.Core.List.{List, ◌++◌, map}
use Prim.Native.Nat.{ℕ, ◌+◌, ◌≤◌}
use native.Mathlib.Omega.{arith}
use borrow.Author.Tests.{leb-true}
use lib.Dec.{leb, eqb}
use lib.ListN.{length, take, drop}
use Rattle.entry.specs.Entry.{entry_of}
use Rattle.definition.specs.Base.{every, all, distinct}
use Rattle.definition.specs.Types.{Kind, Entry}
use Rattle.definition.specs.Calls.{entry_ok, bound, seqs, consumer_rows, all_rows, sizes_agree}
use Rattle.definition.specs.Queries.{bytes, bytes_of, bytes_held}
use Rattle.definition.specs.Words.{at, kind_by}
use Rattle.definition.specs.Layout.{Row, Buffers, subs_at, sub_rows, used_rows, rings_formed, view, buffer_query, lent}
use Rattle.definition.proofs.Tests.{and_left, and_right}
use Rattle.definition.proofs.Thin.{every-all}
use Rattle.definition.proofs.Sums.{bad, sum-ok}
use Rattle.definition.proofs.Sound as Def
use Rattle.definition.proofs.Whole.{fine, rows-length}
use Rattle.definition.proofs.Stored.{seqs-rows}
use Rattle.copies.specs.Copies.{shared_by}
use Rattle.subrows.specs.Subrows.{reserved_at, waiting_at}
use Rattle.sound.specs.Sound.{table_tests, tables_ok, rest_ok}
use Rattle.sound.proofs.Sizes.{used-parts}
use Rattle.sound.proofs.Meaning.{sound-rest, all-rows}
use Rattle.sound.proofs.Lone.{lone-distinct}
use Rattle.state.specs.declared.Head.{Head}
use Rattle.state.specs.State.{head_of, loaded}
use Rattle.queries.specs.declared.Asked.{Asked}
use Rattle.queries.specs.Answers.{as_asked, barred}
use Rattle.queries.specs.Bytes.{bytes_at, Small}
use Rattle.queries.proofs.Bytes.{bytes-means, rows-small, ok-turned, distinct-turned, bytes-turned}
use Rattle.queries.proofs.Opened.{tests, d-is, facts, shown, answered}

module _ (h : List ℕ) (subs rows : List Row) (z : barred (lent h subs rows) ≡ 0) (d : Head) (l : d ≡ loaded h subs) where
  abbrev b : Buffers
  b = lent h subs rows

  abbrev us : List Row
  us = take (at 12 h) subs

  abbrev k : Kind
  k = kind_by (eqb (at 0 h) 0)

  abbrev waits : List Entry
  waits = map entry_of (waiting_at (sub_rows us) (at 15 h) (at 16 h) rows)

  abbrev kept : List Entry
  kept = map entry_of (reserved_at (sub_rows us) (at 15 h) rows)

  abbrev taken : List Entry
  taken = consumer_rows (subs_at k us rows)

  abbrev used : ℕ
  used = sub_rows us + at 15 h + at 16 h

  subs-long : 32 ≤ length subs
  subs-long = (facts h subs rows z d l).subs-long

  rows_long : 512 ≤ length rows
  rows_long = (facts h subs rows z d l).rows_long

  rest : rest_ok b ≡ true
  rest = sound-rest h subs rows subs-long rows_long (tests h subs rows z).1 (tests h subs rows z).2

  few : used_rows b ≤ 512
  unfolding rest_ok
  few = leb-true (used_rows b) 512 (and_left (leb (used_rows b) 512) _ rest)

  rows_are : all_rows (view b) ≡ waits ++ (kept ++ taken)
  rows_are = all-rows h subs rows subs-long rows_long few

  used-are : map entry_of (take used rows) ≡ taken ++ (kept ++ waits)
  used-are = used-parts (at 15 h) (at 16 h) us rows k

  bytes-are : bytes_at (take used rows) ≡ bytes_held (view b)
  bytes-are =
      let agree : sizes_agree (waits ++ (kept ++ taken)) ≡ true = sym (ap sizes_agree rows_are) ∙ (Def.facts (view b) (tests h subs rows z).2).sizes in
      bytes-means (take used rows) ∙ ap bytes_of used-are ∙ sym (bytes-turned waits kept taken agree) ∙ sym (ap bytes_of rows_are)

  small : Small used rows
  small =
      let g = fine (view b) (tests h subs rows z).2 in
      let ok : all entry_ok (all_rows (view b)) ≡ true = sum-ok (all_rows (view b)) (omega (arith, g.ok, rows-length bad (view b))) in
      rows-small used rows (omega (arith, few, rows_long)) (ap (all entry_ok) used-are ∙ ok-turned waits kept taken (sym (ap (all entry_ok) rows_are) ∙ ok))

  lone : shared_by (eqb (at 0 h) 0) us ≡ false → distinct (map (at 0) (take used rows)) ≡ true
  unfolding rest_ok tables_ok
  lone n =
      let t = and_left (every (table_tests k (bound (at 3 h)) (sub_rows us) (at 15 h) (at 16 h) us rows)) _ (and_right (rings_formed (at 14 h) (drop 113 h)) _ (and_right (leb (used_rows b) 512) _ rest)) in
      let p = every-all (table_tests k (bound (at 3 h)) (sub_rows us) (at 15 h) (at 16 h) us rows) t in
      ap distinct (seqs-rows (take used rows) ∙ ap seqs used-are)
      ∙ distinct-turned waits kept taken (lone-distinct (bound (at 3 h)) (at 15 h) (at 16 h) us rows (eqb (at 0 h) 0) p.0 p.1.0 p.1.1.1.1.1.0 n)

  -- by the numbers that are loaded

  used-is : d.used ≡ used
  unfolding head_of
  used-is = ap (λ (x : Head). x.used) (d-is h subs rows z d l) ∙ omega arith

  shared-is : shared_by d.queue (take d.consumers subs) ≡ shared_by (eqb (at 0 h) 0) us
  unfolding head_of
  shared-is = ap (λ (x : Head). shared_by x.queue (take x.consumers subs)) (d-is h subs rows z d l)

  -- what the code goes by
  pub bytes-known : (d.used ≤ length rows) × (d.used ≤ 512) × Small d.used rows × (shared_by d.queue (take d.consumers subs) ≡ false → distinct (map (at 0) (take d.used rows)) ≡ true)
  bytes-known = (
    omega (arith, used-is, few, rows_long),
    omega (arith, used-is, few),
    (λ j t. small j (omega (arith, used-is, t))),
    (λ n. ap (λ (m : ℕ). distinct (map (at 0) (take m rows))) used-is ∙ lone (sym shared-is ∙ n)),
  )

  pub bytes-replies : (a : ℕ) → a ≡ bytes_at (take d.used rows) → ◌≡◌ {A = Asked} (record { refusal = 0; answer = a }) (as_asked (buffer_query (lent h subs rows) bytes))
  bytes-replies a e =
      answered h subs rows z d l bytes a refl (e ∙ ap (λ (m : ℕ). bytes_at (take m rows)) used-is ∙ bytes-are ∙ ap bytes_held (shown h subs rows z d l))
