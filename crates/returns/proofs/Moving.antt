-- The first row of a gap goes: dropped as expired, back to the queue, or to the reserved rows. Assumes nothing.
use mathlib.Core.Path.{◌≡◌, refl, sym, ap, ap₂, ◌∙◌, transport}
use mathlib.Core.Bool.{true, false}
use mathlib.Core.List.{List, [], ◌∷◌, ◌++◌, map, map-append}
use Prim.Native.Nat.{ℕ, ◌+◌, ◌-◌, ◌≤◌, ◌<◌}
use native.Mathlib.Nat.{add-zero}
use native.Mathlib.Omega.{arith}
use lib.IntN.{pos}
use lib.ListN.{length, take, drop, set}
use lib.Seq.{slice, slice_empty, drop-append-le}
use Rattle.stats.specs.declared.Stats.{Stats}
use Rattle.stats.specs.Counted.{top, with_expired_by}
use Rattle.model.specs.Model.{id_of}
use Rattle.entry.specs.Entry.{expired, entry_of, row_of}
use Rattle.entry.proofs.Rows.{EntryFits, entry-of-row}
use Rattle.definition.specs.Types.{Id, Entry, Held, Audit, Dest}
use Rattle.definition.specs.Types as Def
use Rattle.definition.specs.Consumer.{add_expired}
use Rattle.definition.specs.Destination.{count, due, insert, hold_back, reinsert}
use Rattle.definition.specs.Base.{all}
use Rattle.definition.specs.Words.{kind_by}
use Rattle.definition.specs.Layout.{Row, held_at, subs_at, sub_rows, entry_strict, subs_strict}
use Rattle.definition.proofs.Lists.{all_end}
use Rattle.table.specs.Table.{close_gap}
use Rattle.table.proofs.Lists.{slice-take}
use Rattle.table.proofs.Laws.{close-length, close-after}
use Rattle.consumers.specs.Table.{on_first, held_back_row}
use Rattle.consumers.proofs.Laws.{on-first, on-length, hold-back-rows, hold-back-first}
use Rattle.consumers.proofs.View.{subs-before}
use Rattle.consumers.proofs.Strict.{strict-before, strict-held-back}
use Rattle.consumers.proofs.Lists.{on-past}
use Rattle.state.specs.declared.Head.{Head}
use Rattle.state.specs.State.{with_reserved_count, with_waiting, with_used, with_counters, first_waiting, due_by}
use Rattle.state.proofs.Counts.{expired-plain}
use Rattle.returns.specs.Returns.{held_for, reserves}
use Rattle.returns.specs.Gaps.{gap_dest, cut, waiting_in, around, GapStrict, settled, Open, Placed, Moves}
use Rattle.returns.proofs.Rows.{cut-less, cut-join, cut-length, closed-low, closed-high, turned-length, turned-after, turned-low, turned-high}
use Rattle.returns.proofs.Reinsert.{reinsert-late, reinsert-live}

-- ---- the destination of rows

module _ (d : Head) (subs low waits : List Row) (p : List Id) (u : List Audit) where
  abbrev t : Dest
  t = gap_dest d subs low waits p u

  -- the counts of rows are not in it
  pub dest-counts : (reserved waiting used : ℕ) → gap_dest (with_reserved_count reserved (with_waiting waiting (with_used used d))) subs low waits p u ≡ t
  unfolding gap_dest
  dest-counts reserved waiting used = refl

  pub dest-expired : d.stats.expired + 1 ≤ top → gap_dest (with_counters (with_expired_by d.stats 1) d) subs low waits p u ≡ count (add_expired 1) t
  unfolding gap_dest
  dest-expired h = ap (λ (s : Stats). Def.with_stats s t) (expired-plain d.stats 1 h)

  pub dest-reserved : (x : Row) → sub_rows (take d.consumers subs) ≤ length low
      → gap_dest d subs (low ++ x ∷ []) waits p u ≡ Def.with_reserved (t.reserved ++ held_at x ∷ []) t
  unfolding gap_dest
  dest-reserved x h =
      let n : ℕ = sub_rows (take d.consumers subs) in
      ap₂ (λ (y : List Def.Sub) (z : List Held). Def.with_subs y (Def.with_reserved z t)) (subs-before (kind_by d.queue) (take d.consumers subs) low (x ∷ []) h)
      (ap (map held_at) (drop-append-le n low (x ∷ []) h) ∙ map-append held_at (drop n low) (x ∷ []))

  pub dest-stored : (e : Entry) (waits' : List Row) → map entry_of waits' ≡ insert e (map entry_of waits)
      → gap_dest d (on_first (held_back_row e.seq) d.consumers subs) low waits' p u ≡ Def.with_pending (insert e t.pending) (Def.with_subs (map (hold_back e.seq) t.subs) t)
  unfolding gap_dest
  dest-stored e waits' h =
      let n : ℕ = d.consumers in
      let own : sub_rows (take n (on_first (held_back_row e.seq) n subs)) ≡ sub_rows (take n subs) = ap sub_rows (on-first (held_back_row e.seq) n subs) ∙ hold-back-rows e.seq (take n subs) in
      let all : subs_at (kind_by d.queue) (take n (on_first (held_back_row e.seq) n subs)) low ≡ map (hold_back e.seq) t.subs = hold-back-first (kind_by d.queue) e.seq n subs low in
      λ i. Def.with_pending (h i) (Def.with_subs (all i) (Def.with_reserved (map held_at (drop (own i) low)) t))

-- ---- strict words of rows

pub strict-as : {n n' : ℕ} {subs low low' waits waits' : List Row} → n' ≡ n → low' ≡ low → waits' ≡ waits → GapStrict n subs low waits → GapStrict n' subs low' waits'
strict-as {n} {n'} {subs} {low} {low'} {waits} {waits'} e p q s = transport (λ j. GapStrict (sym e j) subs (sym p j) (sym q j)) s

strict-reserved : (n : ℕ) (subs low waits : List Row) (x : Row) → sub_rows (take n subs) ≤ length low → entry_strict x ≡ true → GapStrict n subs low waits → GapStrict n subs (low ++ x ∷ []) waits
strict-reserved n subs low waits x h w s = record {
  subs = strict-before (take n subs) low (x ∷ []) h ∙ s.subs;
  reserved = ap (all entry_strict) (drop-append-le (sub_rows (take n subs)) low (x ∷ []) h) ∙ all_end entry_strict (drop (sub_rows (take n subs)) low) x s.reserved w;
  waits = s.waits;
}

strict-stored : (seq n : ℕ) (subs low waits waits' : List Row) → all entry_strict waits' ≡ true → GapStrict n subs low waits → GapStrict n (on_first (held_back_row seq) n subs) low waits'
strict-stored seq n subs low waits waits' h s =
    let first : take n (on_first (held_back_row seq) n subs) ≡ map (held_back_row seq) (take n subs) = on-first (held_back_row seq) n subs in
    record {
      subs = ap (λ (l : List Row). subs_strict l low) first ∙ strict-held-back seq (take n subs) low ∙ s.subs;
      reserved = ap (λ (m : ℕ). all entry_strict (drop m low)) (ap sub_rows first ∙ hold-back-rows seq (take n subs)) ∙ s.reserved;
      waits = h;
    }

-- ---- one row of a gap

-- what has closed up by one
pub cut-one : (from k n : ℕ) (l m : List Row) → 0 < k → from + k ≤ n → n ≤ length l → take (n - 1) m ≡ cut from 1 n l → cut from (k - 1) (n - 1) m ≡ cut from k n l
cut-one from k n l m p h b e = cut-less from 0 1 k n l m (omega arith) h b (e ∙ ap (λ (x : ℕ). cut x 1 n l) (sym (add-zero from)))

-- entries expire by the head's allowance
expires-by : (now : ℕ) (e : Entry) (d : Head) (subs low waits : List Row) (producers : List Id) (audits : List Audit)
    → expired (pos (due now (gap_dest d subs low waits producers audits))) e ≡ expired (pos (due_by now d)) e
unfolding gap_dest
expires-by now e d subs low waits producers audits = refl

module _ (now from : ℕ) (e : Entry) (d : Head) (subs rows : List Row) (o : Open from d (length rows)) where
  abbrev first : ℕ
  first = first_waiting d

  pub moves-late : (r : Head) (rows' : List Row) → expired (pos (due_by now d)) e ≡ true → r ≡ with_counters (with_expired_by d.stats 1) (with_used (d.used - 1) d) → rows' ≡ close_gap from 1 d.used rows
      → Moves from (reinsert now (e ∷ [])) d r subs rows subs rows'
  moves-late r rows' x p q =
      let c : List Row = close_gap from 1 d.used rows in
      let a : Head = with_used (d.used - 1) d in
      let fits : d.used ≤ length rows = omega (arith, o.used, o.long) in
      let one : from + 1 ≤ first = omega (arith, o.before) in
      let less : d.used - 1 - d.waiting ≡ first - 1 = omega arith in
      let low : take (first - 1) c ≡ cut from 1 first rows = closed-low from 1 first d.used rows one (omega arith) fits in
      let high : slice (first - 1) (d.used - 1) c ≡ waiting_in d rows = closed-high from 1 first d.used rows one (omega arith) fits in
      rw (p, q) (record {
        view = λ k producers audits some within sum.
            ap (λ (n : ℕ). gap_dest (with_counters (with_expired_by d.stats 1) a) subs (cut from (k - 1) n c) (slice n (d.used - 1) c) producers audits) less
            ∙ ap₂ (λ (y z : List Row). gap_dest (with_counters (with_expired_by d.stats 1) a) subs y z producers audits) (cut-one from k first rows c some (omega arith) (omega arith) low) high
            ∙ dest-expired a subs (cut from k first rows) (waiting_in d rows) producers audits (omega (arith, o.expired, o.used))
            ∙ ap (count (add_expired 1)) (dest-counts d subs (cut from k first rows) (waiting_in d rows) producers audits d.reserved d.waiting (d.used - 1))
            ∙ sym (reinsert-late now e (around from k d subs rows producers audits) (expires-by now e d subs (cut from k first rows) (waiting_in d rows) producers audits ∙ x));
        strict = λ k some within sum s.
            strict-as refl (ap (λ (n : ℕ). cut from (k - 1) n c) less ∙ cut-one from k first rows c some (omega arith) (omega arith) low) (ap (λ (n : ℕ). slice n (d.used - 1) c) less ∙ high) s;
        low = low;
        same = record {
          head = refl;
          used = omega arith;
          own = refl;
          subs-past = refl;
          subs-length = refl;
          rows-past = close-after from 1 d.used rows 512 (omega (arith, o.used));
          rows-length = close-length from 1 d.used rows;
        };
        counts = omega (arith, o.before);
        reserved = omega arith;
        waiting = omega (arith, o.before);
        expired = omega (arith, o.before);
      })

  pub moves-back : (r : Head) (subs' rows' : List Row) → expired (pos (due_by now d)) e ≡ false → subs' ≡ on_first (held_back_row e.seq) d.consumers subs → Placed from e d r rows rows'
      → Moves from (reinsert now (e ∷ [])) d r subs rows subs' rows'
  moves-back r subs' rows' x q s =
      let held_for : List Row = on_first (held_back_row e.seq) d.consumers subs in
      let less : first_waiting r ≡ first - 1 = omega (arith, s.counts, s.waiting, o.before) in
      let fits : d.used ≤ length rows = omega (arith, o.used, o.long) in
      rw q (record {
        view = λ k producers audits some within sum.
            ap (λ (n : ℕ). gap_dest r held_for (cut from (k - 1) n rows') (slice n r.used rows') producers audits) less
            ∙ ap₂ (λ (a : Head) (y : List Row). gap_dest a held_for y (slice (first - 1) r.used rows') producers audits) s.head (cut-one from k first rows rows' some (omega arith) (omega arith) s.low)
            ∙ dest-counts d held_for (cut from k first rows) (slice (first - 1) r.used rows') producers audits d.reserved r.waiting r.used
            ∙ dest-stored d subs (cut from k first rows) (waiting_in d rows) producers audits e (slice (first - 1) r.used rows') s.waits
            ∙ sym (reinsert-live now e (around from k d subs rows producers audits) (expires-by now e d subs (cut from k first rows) (waiting_in d rows) producers audits ∙ x));
        strict = λ k some within sum t.
            strict-as (ap (λ (a : Head). a.consumers) s.head) (ap (λ (n : ℕ). cut from (k - 1) n rows') less ∙ cut-one from k first rows rows' some (omega arith) (omega arith) s.low) (ap (λ (n : ℕ). slice n r.used rows') less)
            (strict-stored e.seq d.consumers subs (cut from k first rows) (waiting_in d rows) (slice (first - 1) r.used rows') (s.strict t.waits) t);
        low = s.low;
        same = record {
          head = s.head ∙ ap₂ (λ (y : Stats) (n : ℕ). settled d (with_counters y (with_reserved_count n r))) (sym (ap (λ (a : Head). a.stats) s.head)) (sym (ap (λ (a : Head). a.reserved) s.head));
          used = s.used;
          own = ap sub_rows (on-first (held_back_row e.seq) d.consumers subs) ∙ hold-back-rows e.seq (take d.consumers subs);
          subs-past = on-past (held_back_row e.seq) d.consumers 32 subs o.consumers;
          subs-length = on-length (held_back_row e.seq) d.consumers subs;
          rows-past = s.past;
          rows-length = s.size;
        };
        counts = let c : r.reserved ≡ d.reserved = ap (λ (a : Head). a.reserved) s.head in omega (arith, s.counts);
        reserved = let c : r.reserved ≡ d.reserved = ap (λ (a : Head). a.reserved) s.head in omega arith;
        waiting = s.waiting;
        expired = let c : r.stats ≡ d.stats = ap (λ (a : Head). a.stats) s.head in rw c (omega (arith, s.used));
      })

-- the row goes to the end of the reserved ones
module _ (from : ℕ) (d : Head) (subs rows : List Row) (o : Open from d (length rows)) where
  pub moves-reserved : (r : Head) (rows' : List Row) (x : Row) (h : Held) → held_at x ≡ h → entry_strict x ≡ true → r ≡ with_reserved_count (d.reserved + 1) d
      → rows' ≡ set (close_gap from 1 (first_waiting d) rows) (first_waiting d - 1) x
      → Moves from (reserves h) d r subs rows subs rows'
  moves-reserved r rows' x h is well p q =
      let n : ℕ = first_waiting d in
      let c : List Row = set (close_gap from 1 n rows) (n - 1) x in
      let w : List Row = waiting_in d rows in
      let fits : d.used ≤ length rows = omega (arith, o.used, o.long) in
      let one : from + 1 ≤ n = omega (arith, o.before) in
      let some : n ≤ length rows = omega arith in
      let up : n ≤ n = omega arith in
      let low : take (n - 1) c ≡ cut from 1 n rows = turned-low from n rows x one some n n one up up some in
      let last : slice (n - 1) n c ≡ x ∷ [] =
      turned-high from n rows x one some n n one up up some ∙ ap₂ (λ (y z : List Row). y ++ x ∷ z) (slice_empty n rows) (slice_empty n rows) in
      let high : slice n d.used c ≡ w =
      slice-take n d.used c (omega arith) ∙ ap (take (d.used - n)) (turned-after from n rows x one some n up) ∙ sym (slice-take n d.used rows (omega arith)) in
      let longer : (k : ℕ) → 0 < k → from + (k + d.waiting) ≤ d.used → cut from (k - 1) n c ≡ cut from k n rows ++ x ∷ [] = (λ k more within.
      sym (cut-join from (k - 1) (n - 1) n c (omega arith) (omega arith)) ∙ ap₂ (λ (y z : List Row). y ++ z) (cut-one from k n rows c more (omega arith) some low) last) in
      rw (p, q) (record {
        view = λ k producers audits more within sum.
            let l : List Row = cut from k n rows in
            let size : length l ≡ n - k = cut-length from k n rows (omega arith) some in
            ap₂ (λ (y z : List Row). gap_dest (with_reserved_count (d.reserved + 1) d) subs y z producers audits) (longer k more within) high
            ∙ dest-counts d subs (l ++ x ∷ []) w producers audits (d.reserved + 1) d.waiting d.used
            ∙ dest-reserved d subs l w producers audits x (omega (arith, size))
            ∙ ap (λ (y : Held). Def.with_reserved ((gap_dest d subs l w producers audits).reserved ++ y ∷ []) (gap_dest d subs l w producers audits)) is;
        strict = λ k more within sum s.
            strict-as refl (longer k more within) high (strict-reserved d.consumers subs (cut from k n rows) w x (omega (arith, cut-length from k n rows (omega arith) some)) well s);
        low = low;
        same = record {
          head = refl;
          used = omega arith;
          own = refl;
          subs-past = refl;
          subs-length = refl;
          rows-past = turned-after from n rows x one some 512 (omega (arith, o.used));
          rows-length = turned-length from n rows x one some;
        };
        counts = omega arith;
        reserved = omega arith;
        waiting = omega (arith, o.before);
        expired = omega arith;
      })

-- a move under another name that says the same
pub moves-as : (from : ℕ) (f g : Dest → Dest) (d r : Head) (subs rows subs' rows' : List Row) → ((t : Dest) → f t ≡ g t) → Moves from f d r subs rows subs' rows' → Moves from g d r subs rows subs' rows'
moves-as from f g d r subs rows subs' rows' h m = record {
  view = λ k producers audits some within sum. m.view k producers audits some within sum ∙ h (around from k d subs rows producers audits);
  strict = m.strict;
  low = m.low;
  same = m.same;
  counts = m.counts;
  reserved = m.reserved;
  waiting = m.waiting;
  expired = m.expired;
}

-- a reserved row is read as it was written
pub held-row-at : (e : Entry) (a b c : ℕ) → EntryFits e → held_at (row_of e a b c) ≡ held_for (id_of a b c) e
unfolding row_of
held-row-at e a b c f = ap (held_for (id_of a b c)) (entry-of-row e a b c f)
