-- A gap as its rows go: what stays, rows that are forgotten, and that nothing is left of it. Assumes nothing.
use mathlib.Core.Path.{◌≡◌, refl, sym, ap, ap₂, ◌∙◌}
use mathlib.Core.Bool.{true}
use mathlib.Core.List.{List, ◌++◌, append-nil, map}
use Prim.Native.Nat.{ℕ, ◌+◌, ◌-◌, ◌≤◌, ◌<◌}
use native.Mathlib.Nat.{add-zero}
use native.Mathlib.Omega.{arith}
use lib.ListN.{length, take, drop, take-append-drop}
use lib.Seq.{slice, drop-drop, take-take, take-add}
use Rattle.entry.specs.Entry.{entry_of}
use Rattle.definition.specs.Types.{Id, Audit, Dest}
use Rattle.definition.specs.Types as Def
use Rattle.definition.specs.Base.{all}
use Rattle.definition.specs.Words.{kind_by}
use Rattle.definition.specs.Layout.{Row, held_at, sub_rows, entry_strict}
use Rattle.definition.proofs.Lists.{all_append}
use Rattle.table.specs.Table.{close_gap}
use Rattle.table.proofs.Lists.{slice-take}
use Rattle.table.proofs.Laws.{close-length, close-after}
use Rattle.consumers.proofs.View.{subs-front}
use Rattle.consumers.proofs.Strict.{strict-front, tables-strict, strict-tables, all_left, all_right}
use Rattle.state.specs.declared.Head.{Head}
use Rattle.state.specs.State.{head_view, strict_tables, with_used, first_waiting}
use Rattle.state.specs.Leaves.{silent, Leaves}
use Rattle.returns.specs.Gaps.{gap_dest, cut, waiting_in, around, GapStrict, StrictAround, settled, Open, Moves, Same, Gap}
use Rattle.returns.proofs.Rows.{cut-less, closed-low, closed-high}
use Rattle.returns.proofs.Moving.{dest-counts, strict-as}

-- ---- what stays

pub same_rest : (d : Head) (subs rows : List Row) → Same d d subs rows subs rows
same_rest d subs rows = record { head = refl; used = omega arith; own = refl; subs-past = refl; subs-length = refl; rows-past = refl; rows-length = refl }

pub same-consumers : {d r : Head} {subs rows subs' rows' : List Row} → Same d r subs rows subs' rows' → r.consumers ≡ d.consumers
same-consumers s = ap (λ (x : Head). x.consumers) s.head

-- the rows of the consumers, as the later head counts them
pub same-own : {d r : Head} {subs rows subs' rows' : List Row} → Same d r subs rows subs' rows' → sub_rows (take r.consumers subs') ≡ sub_rows (take d.consumers subs)
same-own {d} {r} {subs} {rows} {subs'} {rows'} s = ap (λ (n : ℕ). sub_rows (take n subs')) (same-consumers s) ∙ s.own

pub same-both : {d r q : Head} {subs rows subs' rows' subs'' rows'' : List Row} → Same d r subs rows subs' rows' → Same r q subs' rows' subs'' rows'' → Same d q subs rows subs'' rows''
same-both {d} {r} {q} {subs} {rows} {subs'} {rows'} {subs''} {rows''} s t = record {
  head = t.head ∙ ap (λ (x : Head). settled x q) s.head;
  used = omega (arith, s.used, t.used);
  own = ap (λ (n : ℕ). sub_rows (take n subs'')) (sym (same-consumers s)) ∙ t.own ∙ same-own s;
  subs-past = t.subs-past ∙ s.subs-past;
  subs-length = t.subs-length ∙ s.subs-length;
  rows-past = t.rows-past ∙ s.rows-past;
  rows-length = t.rows-length ∙ s.rows-length;
}

-- ---- one row less

pub gap-open : {from k : ℕ} {d : Head} {subs rows : List Row} → Gap from k d subs rows → 0 < k → Open from d (length rows)
gap-open g h = record { before = omega (arith, g.sum, g.low); consumers = g.consumers; used = g.used; long = g.long; expired = g.expired }

pub gap-moves : {from k : ℕ} {f : Dest → Dest} {d r : Head} {subs rows subs' rows' : List Row} → Gap from k d subs rows → 0 < k → Moves from f d r subs rows subs' rows' → Gap from (k - 1) r subs' rows'
gap-moves {from} {k} {f} {d} {r} {subs} {rows} {subs'} {rows'} g h m =
    let own : sub_rows (take r.consumers subs') ≡ sub_rows (take d.consumers subs) = same-own m.same in
    record {
      sum = omega (arith, own, g.sum, m.counts);
      low = omega (arith, own, g.low, m.reserved);
      consumers = omega (arith, same-consumers m.same, g.consumers);
      used = omega (arith, m.same.used, g.used);
      long = omega (arith, m.same.rows-length, g.long);
      expired = omega (arith, m.expired, g.expired);
    }

-- ---- rows of the gap are forgotten

module _ (from j k g : ℕ) (d : Head) (subs rows : List Row) (a : Gap from g d subs rows) (h : j + k ≤ g) where
  abbrev rows' : List Row
  rows' = close_gap (from + j) k d.used rows

  abbrev r : Head
  r = with_used (d.used - k) d

  -- the rows around it are as they were
  forgets-rows : (cut from (g - k) (first_waiting r) rows' ≡ cut from g (first_waiting d) rows) × (waiting_in r rows' ≡ waiting_in d rows)
  forgets-rows =
      let n : ℕ = first_waiting d in
      let fits : d.used ≤ length rows = omega (arith, a.used, a.long) in
      let within : from + g ≤ n = omega (arith, a.sum, a.low) in
      let less : d.used - k - d.waiting ≡ n - k = omega arith in
      let low : take (n - k) rows' ≡ cut (from + j) k n rows = closed-low (from + j) k n d.used rows (omega arith) (omega arith) fits in
      let high : slice (n - k) (d.used - k) rows' ≡ waiting_in d rows = closed-high (from + j) k n d.used rows (omega arith) (omega arith) fits in (
        ap (λ (m : ℕ). cut from (g - k) m rows') less ∙ cut-less from j k g n rows rows' h within (omega arith) low,
        ap (λ (m : ℕ). slice m (d.used - k) rows') less ∙ high,
      )

  pub forgets : (p : List Id) (u : List Audit) → around from (g - k) r subs rows' p u ≡ around from g d subs rows p u
  forgets p u =
      ap₂ (λ (x y : List Row). gap_dest r subs x y p u) forgets-rows.0 forgets-rows.1
      ∙ dest-counts d subs (cut from g (first_waiting d) rows) (waiting_in d rows) p u d.reserved d.waiting (d.used - k)

  pub forgets-strict : StrictAround from g d subs rows → StrictAround from (g - k) r subs rows'
  forgets-strict s = strict-as refl forgets-rows.0 forgets-rows.1 s

  pub forgets-same : Same d r subs rows subs rows'
  forgets-same = record {
    head = refl;
    used = omega arith;
    own = refl;
    subs-past = refl;
    subs-length = refl;
    rows-past = close-after (from + j) k d.used rows 512 (omega (arith, a.used));
    rows-length = close-length (from + j) k d.used rows;
  }

  pub forgets-gap : Gap from (g - k) r subs rows'
  forgets-gap = record {
    sum = omega (arith, a.sum);
    low = a.low;
    consumers = a.consumers;
    used = omega (arith, a.used);
    long = omega (arith, a.long, close-length (from + j) k d.used rows);
    expired = omega (arith, a.expired);
  }

-- ---- no gap

pub cut-none : (from n : ℕ) (rows : List Row) → from ≤ n → cut from 0 n rows ≡ take n rows
cut-none from n rows h =
    ap (λ (m : ℕ). take from rows ++ slice m n rows) (add-zero from)
    ∙ ap (λ (x : List Row). x ++ slice from n rows) (sym (take-take from n rows h))
    ∙ take-append-drop from (take n rows)

module _ (d : Head) (subs rows : List Row) (sum : sub_rows (take d.consumers subs) + (d.reserved + d.waiting) ≡ d.used) (fits : d.used ≤ length rows) where
  abbrev ws : List Row
  ws = take d.consumers subs

  abbrev others : List Row
  others = drop (sub_rows (take d.consumers subs)) rows

  reserved-rows : take d.reserved others ≡ drop (sub_rows ws) (take (first_waiting d) rows)
  reserved-rows =
      let a : first_waiting d - sub_rows ws ≡ d.reserved = omega (arith, sum) in
      ap (λ (k : ℕ). take k others) (sym a) ∙ sym (slice-take (sub_rows ws) (first_waiting d) rows (omega arith))

  waiting-rows : take d.waiting (drop d.reserved others) ≡ waiting_in d rows
  waiting-rows =
      let e : sub_rows ws + d.reserved ≡ first_waiting d = omega (arith, sum) in
      let b : d.used - first_waiting d ≡ d.waiting = omega (arith, sum) in
      ap₂ (λ (k : ℕ) (l : List Row). take k l) (sym b) (drop-drop d.reserved (sub_rows ws) rows ∙ ap (λ (k : ℕ). drop k rows) e) ∙ sym (slice-take (first_waiting d) d.used rows (omega arith))

  -- strict words of the tables, and of the rows in parts
  parts : all entry_strict (take (d.reserved + d.waiting) others) ≡ all entry_strict (drop (sub_rows ws) (take (first_waiting d) rows) ++ waiting_in d rows)
  parts = ap (all entry_strict) (take-add d.reserved d.waiting others ∙ ap₂ (λ (x y : List Row). x ++ y) reserved-rows waiting-rows)

  pub head-strict : strict_tables d subs rows ≡ true → GapStrict d.consumers subs (take (first_waiting d) rows) (waiting_in d rows)
  head-strict h =
      let t = tables-strict (d.reserved + d.waiting) ws rows h in
      let l : List Row = drop (sub_rows ws) (take (first_waiting d) rows) in
      record {
        subs = strict-front ws (first_waiting d) rows (omega arith) ∙ t.subs;
        reserved = all_left entry_strict l (waiting_in d rows) (sym parts ∙ t.others);
        waits = all_right entry_strict l (waiting_in d rows) (sym parts ∙ t.others);
      }

  pub strict-head : GapStrict d.consumers subs (take (first_waiting d) rows) (waiting_in d rows) → strict_tables d subs rows ≡ true
  strict-head s = strict-tables (d.reserved + d.waiting) ws rows (record {
    subs = sym (strict-front ws (first_waiting d) rows (omega arith)) ∙ s.subs;
    others = parts ∙ all_append entry_strict (drop (sub_rows ws) (take (first_waiting d) rows)) (waiting_in d rows) s.reserved s.waits;
  })

  module _ (p : List Id) (u : List Audit) where
    pub head-dest : head_view d subs rows p u ≡ gap_dest d subs (take (first_waiting d) rows) (waiting_in d rows) p u
    unfolding head_view gap_dest
    head-dest =
        λ i. Def.with_pending (map entry_of (waiting-rows i)) (Def.with_reserved (map held_at (reserved-rows i)) (Def.with_subs (sym (subs-front (kind_by d.queue) ws (first_waiting d) rows (omega arith)) i) (head_view d subs rows p u)))

    pub no_gap : (from : ℕ) → from ≤ first_waiting d → around from 0 d subs rows p u ≡ head_view d subs rows p u
    no_gap from h = ap (λ (x : List Row). gap_dest d subs x (waiting_in d rows) p u) (cut-none from (first_waiting d) rows h) ∙ sym head-dest

-- a gap that has closed is a part of a call done
pub gap-leaves : (f : Dest → Dest) (from : ℕ) (d b r : Head) (subs rows events subs₁ rows₁ subs' rows' : List Row) → Gap from 0 r subs' rows' → Same b r subs₁ rows₁ subs' rows'
    → b.events ≡ d.events → b.producers ≡ d.producers → b.audits ≡ d.audits → b.queue ≡ d.queue → b.allowance ≡ d.allowance → b.share ≡ d.share → drop 32 subs₁ ≡ drop 32 subs → length subs₁ ≡ length subs → drop 512 rows₁ ≡ drop 512 rows → length rows₁ ≡ length rows
    → ((p : List Id) (u : List Audit) → length p ≡ d.producers → around from 0 r subs' rows' p u ≡ f (head_view d subs rows p u))
    → (strict_tables d subs rows ≡ true → StrictAround from 0 r subs' rows')
    → Leaves (silent f) d r subs rows events subs' rows' events
gap-leaves f from d b r subs rows events subs₁ rows₁ subs' rows' g s e p a q l o h i j k v w =
    let sum : sub_rows (take r.consumers subs') + (r.reserved + r.waiting) ≡ r.used = omega (arith, g.sum) in
    let fits : r.used ≤ length rows' = omega (arith, g.used, g.long) in
    let low : from ≤ first_waiting r = omega (arith, g.low, g.sum) in
    let same : r.events ≡ d.events = ap (λ (x : Head). x.events) s.head ∙ e in
    record {
      view = λ x y n. sym (no_gap r subs' rows' sum fits x y from low) ∙ v x y n;
      sent = λ x y _. ap (λ (n : ℕ). take n events) same ∙ sym (append-nil (take d.events events));
      later = refl;
      more = omega (arith, same);
      producers = ap (λ (x : Head). x.producers) s.head ∙ p;
      audits = ap (λ (x : Head). x.audits) s.head ∙ a;
      queue = ap (λ (x : Head). x.queue) s.head ∙ q;
      allowance = ap (λ (x : Head). x.allowance) s.head ∙ l;
      share = ap (λ (x : Head). x.share) s.head ∙ o;
      consumers = g.consumers;
      used = g.used;
      rows-used = sum;
      strict = λ t. strict-head r subs' rows' sum fits (strict-as refl (sym (cut-none from (first_waiting r) rows' low)) refl (w t));
      subs-past = s.subs-past ∙ h;
      rows-past = s.rows-past ∙ j;
      subs-length = s.subs-length ∙ i;
      rows-length = s.rows-length ∙ k;
      events-length = refl;
    }
