-- Rows in order: those that a topic's consumer holds, and those that wait on a sound destination. Assumes nothing.
use mathlib.Core.Path.{◌≡◌, sym, ap, ap₂, ◌∙◌}
use mathlib.Core.Bool.{Bool, true, false}
use mathlib.Core.List.{List, []}
use Prim.Native.Nat.{ℕ, ◌+◌, ◌≤◌, ◌<◌}
use native.Mathlib.Numerals.{add-one}
use native.Mathlib.Omega.{arith}
use lib.ListN.{length, take, get_or, length-map}
use lib.Seq.{slice, drop-drop, get_or-take, length-take-le}
use Rattle.entry.specs.Entry.{entry_of}
use Rattle.definition.specs.Base.{all, ascending, empty}
use Rattle.definition.specs.Types.{topic, Dest}
use Rattle.definition.specs.Types as Def
use Rattle.definition.specs.Calls.{placed, sub_sound}
use Rattle.definition.specs.Layout.{Row, held_at, inflight_count, held_count, sub_at, subs_at, sub_rows}
use Rattle.definition.proofs.Tests.{and_left, and_right}
use Rattle.definition.proofs.Lists.{empty-nil}
use Rattle.definition.proofs.Fit as Fit
use Rattle.definition.proofs.Sound.{facts}
use Rattle.definition.proofs.Stored.{seqs-rows}
use Rattle.consumers.specs.declared.Sub.{Sub}
use Rattle.consumers.specs.Consumers.{row_sub}
use Rattle.consumers.specs.Seats.{held_in, sub_in}
use Rattle.consumers.proofs.View.{inflight-loaded, held-loaded, rows_split, rows_next, subs-split}
use Rattle.consumers.proofs.Strict.{all_right, all_weaker}
use Rattle.state.specs.declared.Head.{Head}
use Rattle.state.specs.State.{head_view, kind_by, first_waiting}
use Rattle.state.specs.Fits.{fits}
use Rattle.state.specs.Ready.{Ready}
use Rattle.state.proofs.Fitting.{view-fits, facts-fit}
use Rattle.state.proofs.Ready.{seen}
use Rattle.engine.specs.Arrivals.{rows_in_order, holds_in_order, FannedOut, Standing}
use Rattle.engine.proofs.Used.{reserved_rows, waiting_rows}
use Rattle.engine.proofs.RowParts.{reserved-length, waiting-length}
use Rattle.engine.proofs.Shares.{part}

-- ---- the rows that a topic's consumer holds

held-order : (ws rows : List Row) (i : ℕ) → holds_in_order (sub_in topic ws rows i) ≡ true → rows_in_order (held_in ws rows i) ≡ true
unfolding sub_at
held-order ws rows i h = ap ascending (seqs-rows (held_in ws rows i)) ∙ h

-- the consumer at i, as loaded; its rows begin at base
module _ (ws rows : List Row) (i base : ℕ) (s : Sub) (begins : base ≡ sub_rows (take i ws)) (es : s ≡ row_sub (get_or ws i [])) where
  abbrev w : Row
  w = get_or ws i []

  pub flies : s.inflight ≡ inflight_count w
  flies = ap (λ (x : Sub). x.inflight) es ∙ inflight-loaded w

  pub keeps : s.held ≡ held_count w
  keeps = ap (λ (x : Sub). x.held) es ∙ held-loaded w

  held-slice : held_in ws rows i ≡ slice (base + s.inflight) (base + s.inflight + s.held) rows
  held-slice =
      let n : ℕ = sub_rows (take i ws) in
      ap (take (held_count w)) (drop-drop (inflight_count w) n rows)
      ∙ part (n + inflight_count w) (held_count w) rows
      ∙ sym (λ j. slice (begins j + flies j) (begins j + flies j + keeps j) rows)

  pub held-rise : holds_in_order (sub_in topic ws rows i) ≡ true → rows_in_order (slice (base + s.inflight) (base + s.inflight + s.held) rows) ≡ true
  held-rise h = ap (λ (l : List Row). rows_in_order l) (sym held-slice) ∙ held-order ws rows i h

-- one turn over n consumers
module _ (n : ℕ) (subs rows : List Row) (f : FannedOut n subs rows) (i base : ℕ) (s : Sub) (less : i < n) (begins : base ≡ sub_rows (take i (take n subs))) (es : s ≡ row_sub (get_or subs i [])) where
  abbrev ws : List Row
  ws = take n subs

  here : i < length ws
  here = omega (arith, length-take-le n subs f.subs-long)

  loaded : s ≡ row_sub (get_or ws i [])
  loaded = es ∙ ap row_sub (sym (get_or-take n subs i [] less))

  pub turn-within : base + s.inflight + s.held ≤ sub_rows ws
  turn-within = omega (arith, rows_split ws i here, begins, flies ws rows i base s begins loaded, keeps ws rows i base s begins loaded)

  pub turn-begins : base + s.inflight + s.held ≡ sub_rows (take (i + 1) ws)
  turn-begins =
      let e = ap (λ (j : ℕ). sub_rows (take j ws)) (add-one i) in
      omega (arith, e, rows_next ws i here, begins, flies ws rows i base s begins loaded, keeps ws rows i base s begins loaded)

  pub turn-order : rows_in_order (slice (base + s.inflight) (base + s.inflight + s.held) rows) ≡ true
  turn-order =
      held-rise ws rows i base s begins loaded
      (and_left (holds_in_order (sub_in topic ws rows i)) _ (all_right holds_in_order (subs_at topic (take i ws) rows) _ (ap (all holds_in_order) (sym (subs-split topic ws rows i here)) ∙ f.held)))

-- ---- a sound destination

module _ (d : Head) (subs rows events : List Row) (a : Ready d subs rows events) where
  abbrev t : Dest
  t = seen d subs rows events a

  -- the numbers fit, with the fewest events that may be lent
  pub short-fits : fits subs d (length rows) 545 ≡ true
  short-fits = facts-fit subs d (length rows) 545
      (view-fits d subs rows a.producers a.audits d.calls_used a.is-sound 545 a.long.subs-long a.long.rows_long (omega arith) a.stands.consumers a.stands.used a.stands.rows-used (omega (arith, a.none-sent, a.stands.used)) (omega arith))

  within : d.used ≤ length rows
  within = omega (arith, a.stands.used, a.long.rows_long)

  -- the rows that wait are the last in use
  waiting-rows : waiting_rows d subs rows ≡ slice (first_waiting d) d.used rows
  waiting-rows =
      let n : ℕ = sub_rows (take d.consumers subs) in
      let e = a.stands.rows-used in
      let first : n + d.reserved ≡ first_waiting d = omega arith in
      let last : n + d.reserved + d.waiting ≡ d.used = omega arith in
      ap (take d.waiting) (drop-drop d.reserved n rows) ∙ part (n + d.reserved) d.waiting rows ∙ ap₂ (λ (x y : ℕ). slice x y rows) first last

  waiting-order : rows_in_order (slice (first_waiting d) d.used rows) ≡ true
  unfolding head_view
  waiting-order = ap (λ (l : List Row). rows_in_order l) (sym waiting-rows) ∙ ap ascending (seqs-rows (waiting_rows d subs rows)) ∙ (facts t a.is-sound).sorted

  each-order : d.queue ≡ false → all holds_in_order (subs_at topic (take d.consumers subs) rows) ≡ true
  unfolding head_view
  each-order q =
      ap (λ (b : Bool). all holds_in_order (subs_at (kind_by b) (take d.consumers subs) rows)) (sym q)
      ∙ all_weaker (sub_sound t.kind t.calls_used) holds_in_order (λ (s : Def.Sub) h. (Fit.fit t.kind t.calls_used s h).0.sorted) t.subs (facts t a.is-sound).consumers

  own-only : d.queue ≡ false → d.reserved + d.waiting ≡ 0
  unfolding head_view
  own-only q =
      let p : placed t topic ≡ true = ap (λ (b : Bool). placed t (kind_by b)) (sym q) ∙ (facts t a.is-sound).places in
      let w : length t.pending ≡ 0 = ap length (empty-nil t.pending (and_left (empty t.pending) (empty t.reserved) p)) in
      let r : length t.reserved ≡ 0 = ap length (empty-nil t.reserved (and_right (empty t.pending) (empty t.reserved) p)) in
      omega (arith, w, r, length-map (waiting_rows d subs rows) entry_of, length-map (reserved_rows d subs rows) held_at, waiting-length d subs rows a.stands.rows-used within, reserved-length d subs rows a.stands.rows-used within)

  pub ready-standing : Standing d subs rows
  ready-standing = record { fit = short-fits; order = record { waiting = waiting-order; held = each-order }; own = own-only }
