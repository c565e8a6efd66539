-- Buffers whose eight parts, and what is no part, are as they were are as they were. Assumes nothing.
use mathlib.Core.Path.{◌≡◌, sym, ap, ◌∙◌}
use mathlib.Core.List.{List, ◌++◌}
use Prim.Native.Nat.{ℕ, zero, suc, ◌+◌, ◌*◌, ◌≤◌, ◌<◌}
use native.Mathlib.Omega.{arith}
use lib.ListN.{length, take, drop, take-append-drop}
use lib.Seq.{slice, drop-drop}
use Rattle.definition.specs.Layout.{Buffers}
use Rattle.definition_station.specs.Layout.{StationBuffers, part}
use Rattle.stationcalls.specs.Parts.{AllPast}
use Rattle.stationcalls.proofs.Back.{lent_is}

module _ {A : Type 0} (w : ℕ) (next : (j : ℕ) → j < 8 → j * w + w ≤ 8 * w) (on : (j : ℕ) → j * w + w ≡ suc j * w) (l l' : List A) (long : 8 * w ≤ length l) (same : length l' ≡ length l)
    (parts : (j : ℕ) → j < 8 → slice (j * w) (j * w + w) l' ≡ slice (j * w) (j * w + w) l) (past : drop (8 * w) l' ≡ drop (8 * w) l) where
  fits : (j : ℕ) → j < 8 → j * w + w ≤ length l
  fits j h = omega (arith, next j h, long)

  fits' : (j : ℕ) → j < 8 → j * w + w ≤ length l'
  fits' j h = omega (arith, next j h, long, same)

  -- from the last part on
  from : (n j : ℕ) → n + j ≡ 8 → drop (j * w) l' ≡ drop (j * w) l
  from zero j e = ap (λ (m : ℕ). drop (m * w) l') last ∙ past ∙ ap (λ (m : ℕ). drop (m * w) l) (sym last)
    where
      last : j ≡ 8
      last = omega (arith, e)
  from (suc n) j e = let less : j < 8 = omega (arith, e) in
      sym (take-append-drop w (drop (j * w) l'))
      ∙ ap (λ (t : List A). t ++ drop w (drop (j * w) l')) (lent_is l' (j * w) w (fits' j less) ∙ parts j less ∙ sym (lent_is l (j * w) w (fits j less)))
      ∙ ap (λ (t : List A). take w (drop (j * w) l) ++ t) (rest (from n (suc j) (omega (arith, e))))
      ∙ take-append-drop w (drop (j * w) l)
    where
      rest : drop (suc j * w) l' ≡ drop (suc j * w) l → drop w (drop (j * w) l') ≡ drop w (drop (j * w) l)
      rest later =
          drop-drop w (j * w) l' ∙ ap (λ (m : ℕ). drop m l') (on j)
          ∙ later
          ∙ sym (ap (λ (m : ℕ). drop m l) (on j)) ∙ sym (drop-drop w (j * w) l)

module _ (b b' : StationBuffers) (heads-long : 66776 ≤ length b.heads) (subs-long : 256 ≤ length b.subs) (rows_long : 4096 ≤ length b.rows)
    (parts : (j : ℕ) → j < 8 → part j b' ≡ part j b) (past : AllPast b b') where
  heads-same : b'.heads ≡ b.heads
  unfolding part
  heads-same = from 8347 (λ j h. omega (arith, h)) (λ j. omega arith) b.heads b'.heads heads-long past.heads-length (λ j h. ap (λ (p : Buffers). p.head) (parts j h)) past.heads-past 8 0 (omega arith)

  subs-same : b'.subs ≡ b.subs
  unfolding part
  subs-same = from 32 (λ j h. omega (arith, h)) (λ j. omega arith) b.subs b'.subs subs-long past.subs-length (λ j h. ap (λ (p : Buffers). p.subs) (parts j h)) past.subs-past 8 0 (omega arith)

  rows_same : b'.rows ≡ b.rows
  unfolding part
  rows_same = from 512 (λ j h. omega (arith, h)) (λ j. omega arith) b.rows b'.rows rows_long past.rows-length (λ j h. ap (λ (p : Buffers). p.rows) (parts j h)) past.rows-past 8 0 (omega arith)

  pub as_it_was : b'.own ≡ b.own → b' ≡ b
  as_it_was o = λ i. record { heads = heads-same i; subs = subs-same i; rows = rows_same i; own = o i }
