-- The rows in flight as the definitions have them: found by a number, marked, raised, removed and counted. Assumes nothing.
use Rattle.std.specs.Prelude.{Some, None}
use Rattle.std.specs.Prelude as Std
use Rattle.std.specs.Bool.{then_some}
use Rattle.std.specs.Option.{unwrap_or}
use mathlib.Core.Path.{◌≡◌, refl, sym, ap, ap₂, ◌∙◌}
use mathlib.Core.Bool.{Bool, true, false, not, ◌||◌}
use mathlib.Core.List.{List, [], ◌∷◌, map}
use mathlib.Core.Option.{Option, none, some}
use Prim.Native.Nat.{ℕ, suc, ◌+◌, ◌-◌, ◌≤◌, ◌<◌}
use native.Mathlib.Omega.{arith}
use borrow.Author.Tests.{eqb-true}
use lib.Dec.{eqb}
use lib.ListN.{length, take, get_or, set, length-set}
use lib.Seq.{slice, get_or-take, get_or-drop, get_or-set_same}
use Rattle.words.specs.Words.{unsigned, int}
use Rattle.entry.specs.Entry.{entry_of, one_more, redelivered}
use Rattle.definition.specs.Base.{whether◌then◌else◌, keep, tally, find, all}
use Rattle.definition.specs.Types.{Inflight, Sub}
use Rattle.model.specs.declared.AckRange.{AckRange}
use Rattle.definition.specs.Consumer.{Ack, dseq_of, by_seq, or0, freed_as, bumped}
use Rattle.definition.specs.Words.{present}
use Rattle.definition.specs.Layout.{Row, flag, inflight_at}
use Rattle.definition.proofs.Tests.{by-test, and_left, and_right}
use Rattle.table.specs.Table.{dseq_between, freed_row, mark_row, raised_row, redeliver_row, find_from, find_seq}
use Rattle.table.proofs.Lists.{both_hold, guarded}
use Rattle.table.proofs.Bounds.{find-in}
use Rattle.table.proofs.Rows.{word_kept, freed-entry, freed-is, raised-entry, below, above}
use Rattle.table.proofs.Segments.{tally-map, keep-map}
use Rattle.table.proofs.Search.{find-from-at, find_at}
use Rattle.table.specs.declared.Span.{Span}
use Rattle.acks.specs.Acks.{maybe_number}
use Rattle.acks.specs.Rules.{in_span, span_of, number_in, rows_in, span_in}
use Rattle.acks.specs.Parts.{full_row}

-- ---- numbers that may be missing

pub given-some : (b : Bool) (n : ℕ) → maybe_number (then_some b n) ≡ present b n
given-some true n = refl
given-some false n = refl

pub or0-given : (o : Std.Option ℕ) → or0 (maybe_number o) ≡ unwrap_or o 0
or0-given None = refl
or0-given (Some n) = refl

-- ---- by_seq

seen_at : (n q j : ℕ) (f : List Row) → find_from n q f ≡ Some j → number_in f (some q) ≡ some (get_or (get_or f (j - n) []) 6 0)
unfolding find_from entry_of
seen_at n q j [] e = absurd (let z : ◌≡◌ {A = ℕ} 0 1 = cc in omega arith)
seen_at n q j (r ∷ f) e = by-test (eqb (get_or r 0 0) q)
    (λ t.
    let x : Some n ≡ Some j = rw t at e in
    let y : n ≡ j = cc in
    let z : j - n ≡ 0 = omega arith in
    rw (t, z))
    (λ t.
    let x : find_from (suc n) q f ≡ Some j = rw t at e in
    let z : j - n ≡ suc (j - suc n) = omega (arith, find-from-at (suc n) q j f x) in
    rw (t, z) (seen_at (suc n) q j f x))

seen_none : (n q : ℕ) (f : List Row) → find_from n q f ≡ None → number_in f (some q) ≡ none
unfolding find_from entry_of
seen_none n q [] e = refl
seen_none n q (r ∷ f) e = by-test (eqb (get_or r 0 0) q)
    (λ t. let x : Some n ≡ None = rw t at e in absurd (let z : ◌≡◌ {A = ℕ} 0 1 = cc in omega arith))
    (λ t. rw t (seen_none (suc n) q f (rw t at e)))

pub rows_in_lem : (from to : ℕ) (rows : List Row) → from ≤ to → to ≤ length rows → rows_in from to rows ≡ slice from to rows
rows_in_lem from to rows h b = both_hold from to to (length rows) (slice from to rows) [] h b

module _ (from to q : ℕ) (rows : List Row) where
  pub number-at : (j : ℕ) → find_seq from to q rows ≡ Some j → number_in (rows_in from to rows) (some q) ≡ some (get_or (get_or rows j []) 6 0)
  number-at j x =
      let w = find_at from to q j rows x in
      let h : from ≤ to = omega arith in
      let b : to ≤ length rows = omega arith in
      let u : from + (j - from) ≡ j = omega arith in
      let row : get_or (slice from to rows) (j - from) [] ≡ get_or rows j [] =
      get_or-drop from (take to rows) (j - from) [] ∙ ap (λ (n : ℕ). get_or (take to rows) n []) u ∙ get_or-take to rows j [] (omega arith) in
      ap (λ (l : List Row). number_in l (some q)) (rows_in_lem from to rows h b)
      ∙ seen_at from q j (slice from to rows) (sym (find-in from to q rows h b) ∙ x)
      ∙ ap (λ (r : Row). some (get_or r 6 0)) row

  pub number-none : find_seq from to q rows ≡ None → number_in (rows_in from to rows) (some q) ≡ none
  number-none x = guarded (λ (l : List Row). number_in l (some q) ≡ none) from to to (length rows) (slice from to rows) []
      (λ h b. seen_none from q (slice from to rows) (sym (find-in from to q rows h b) ∙ x))
      refl

-- of a consumer with these rows in flight
module _ (s : Sub) (l : List Row) (e : s.inflight ≡ map inflight_at l) where
  number-seen : (o : Option ℕ) → number_in l o ≡ by_seq s o
  unfolding by_seq
  number-seen none = refl
  number-seen (some q) = ap (λ (x : List Inflight). dseq_of (find (λ i. eqb i.entry.seq q) x)) (sym e)

  span-seen : (range : AckRange) (a : Ack) → span_in range a l ≡ span_of range (or0 (by_seq s a.first)) (by_seq s a.last)
  unfolding span_in
  span-seen range a = ap₂ (λ (f o : Option ℕ). span_of range (or0 f) o) (number-seen a.first) (number-seen a.last)

pub span-rows : (range : AckRange) (a : Ack) (s : Sub) (from to : ℕ) (rows : List Row) → from ≤ to → to ≤ length rows → s.inflight ≡ map inflight_at (slice from to rows)
    → span_in range a (rows_in from to rows) ≡ span_of range (or0 (by_seq s a.first)) (by_seq s a.last)
span-rows range a s from to rows h b e = ap (span_in range a) (rows_in_lem from to rows h b) ∙ span-seen s (slice from to rows) e range a

-- ---- marked and raised

inflight-eq : {n m : ℕ} {e g : _} {x y u v : Bool} → n ≡ m → e ≡ g → x ≡ y → u ≡ v
    → ◌≡◌ {A = Inflight} (record { dseq = n; entry = e; freed = x; tx = u }) (record { dseq = m; entry = g; freed = y; tx = v })
inflight-eq p q r s = λ j. record { dseq = p j; entry = q j; freed = r j; tx = s j }

freed-inflight : (tx : Bool) (r : Row) → 8 < length r
    → inflight_at (freed_row tx r) ≡ record { dseq = get_or r 6 0; entry = entry_of r; freed = true; tx = tx || flag (get_or r 8 0) }
freed-inflight true r h =
    inflight-eq (word_kept (set r 7 1) 8 1 6 (below (omega arith)) ∙ word_kept r 7 1 6 (below (omega arith))) (freed-entry true r) (freed-is true r (omega arith))
    (ap flag (get_or-set_same (set r 7 1) 8 1 0 (simp length-set (omega arith))))
freed-inflight false r h =
    inflight-eq (word_kept r 7 1 6 (below (omega arith))) (freed-entry false r) (freed-is false r (omega arith)) (ap flag (word_kept r 7 1 8 (above (omega arith))))

raised-inflight : (r : Row) → 8 < length r
    → inflight_at (raised_row r) ≡ record { dseq = get_or r 6 0; entry = redelivered (entry_of r); freed = flag (get_or r 7 0); tx = flag (get_or r 8 0) }
raised-inflight r h =
    let v : ℕ = unsigned (one_more (int (get_or r 5 0))) in
    inflight-eq (word_kept r 5 v 6 (above (omega arith))) (raised-entry r (omega arith)) (ap flag (word_kept r 5 v 7 (above (omega arith)))) (ap flag (word_kept r 5 v 8 (above (omega arith))))

module _ (p : Span) where
  mark-inflight : (tx : Bool) (r : Row) → full_row r ≡ true → inflight_at (mark_row p.first p.last tx r) ≡ freed_as (in_span p) tx (inflight_at r)
  mark-inflight tx r h = by (dseq_between p.first p.last r)
    where
      by : (b : Bool) → inflight_at (whether b then freed_row tx r else r) ≡ (whether b then record { dseq = get_or r 6 0; entry = entry_of r; freed = true; tx = tx || flag (get_or r 8 0) } else inflight_at r)
      by true = freed-inflight tx r (omega (arith, eqb-true (length r) 10 h))
      by false = refl

  raise-inflight : (r : Row) → full_row r ≡ true → inflight_at (redeliver_row p.first p.last r) ≡ bumped (in_span p) (inflight_at r)
  raise-inflight r h = by (dseq_between p.first p.last r)
    where
      by : (b : Bool) → inflight_at (whether b then raised_row r else r) ≡ (whether b then record { dseq = get_or r 6 0; entry = redelivered (entry_of r); freed = flag (get_or r 7 0); tx = flag (get_or r 8 0) } else inflight_at r)
      by true = raised-inflight r (omega (arith, eqb-true (length r) 10 h))
      by false = refl

-- what is so of each row is so of the list
changed : (g : Row → Row) (c : Inflight → Inflight) → ((r : Row) → full_row r ≡ true → inflight_at (g r) ≡ c (inflight_at r))
    → (l : List Row) → all full_row l ≡ true → map inflight_at (map g l) ≡ map c (map inflight_at l)
changed g c law [] h = refl
changed g c law (r ∷ l) h = ap₂ (λ (x : Inflight) (m : List Inflight). x ∷ m) (law r (and_left (full_row r) (all full_row l) h)) (changed g c law l (and_right (full_row r) (all full_row l) h))

module _ (p : Span) (l : List Row) where
  pub mark-flying : (tx : Bool) → all full_row l ≡ true → map inflight_at (map (mark_row p.first p.last tx) l) ≡ map (freed_as (in_span p) tx) (map inflight_at l)
  mark-flying tx = changed _ _ (mark-inflight p tx) l

  pub raise-flying : all full_row l ≡ true → map inflight_at (map (redeliver_row p.first p.last) l) ≡ map (bumped (in_span p)) (map inflight_at l)
  raise-flying = changed _ _ (raise-inflight p) l

  pub keep-flying : keep (λ i. not (in_span p i)) (map inflight_at l) ≡ map inflight_at (keep (λ r. not (dseq_between p.first p.last r)) l)
  keep-flying = keep-map inflight_at (λ i. not (in_span p i)) l

  pub tally-flying : tally (in_span p) (map inflight_at l) ≡ tally (dseq_between p.first p.last) l
  tally-flying = tally-map inflight_at (in_span p) l
