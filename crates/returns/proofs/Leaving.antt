-- A consumer leaves: its words go, its rows are a gap, and the gap closes. Assumes nothing.
use Rattle.std.specs.Prelude.{Some}
use mathlib.Core.Path.{◌≡◌, refl, sym, ap, ap₂, ◌∙◌, transport, subst}
use mathlib.Core.Bool.{Bool, true, false, not, ◌&&◌, false≢true}
use mathlib.Core.List.{List, [], ◌++◌, map}
use Prim.Native.Nat.{ℕ, suc, ◌+◌, ◌-◌, ◌≤◌, ◌<◌, min}
use native.Mathlib.Nat.{add-zero}
use native.Mathlib.Omega.{arith}
use borrow.Author.Tests.{le-leb, lt-ltb, not-true, not-false}
use lib.Dec.{leb}
use lib.IntN.{ℤ}
use lib.ListN.{length, take, drop, get_or}
use lib.Seq.{slice, length-slice, length-take-le, drop-drop, take-take, get_or-take}
use Rattle.model.specs.Model.{id_of}
use Rattle.definition.specs.Base.{whether◌then◌else◌, all}
use Rattle.definition.specs.Types.{Kind, Id, Audit, Dest}
use Rattle.definition.specs.Types as Def
use Rattle.definition.specs.Consumer.{is_browser}
use Rattle.definition.specs.Destination.{is_id, without, drop_sub, returning}
use Rattle.definition.specs.Words.{kind_by, at}
use Rattle.definition.specs.Layout.{Row, held_at, inflight_at, inflight_count, held_count, sub_at, subs_at, sub_rows, entry_strict, subs_strict}
use Rattle.definition.proofs.Tests.{if-true, if-false}
use Rattle.table.specs.Table.{close_gap}
use Rattle.table.proofs.Lists.{slice-take, written, written-length, written-drop}
use Rattle.table.proofs.Laws.{close-before}
use Rattle.consumers.specs.declared.Sub.{Sub}
use Rattle.consumers.specs.Consumers.{row_sub}
use Rattle.consumers.specs.Seats.{flying_in, after_in, sub_in}
use Rattle.consumers.specs.Table.{position_from, taken_out, sub_removed}
use Rattle.definition.proofs.Stored.{subs-length}
use Rattle.consumers.proofs.View.{rows_append, rows_take, rows_split, rows-gone, subs-gone, after-all, after-gone, sub_at_lem}
use Rattle.consumers.proofs.Strict.{strict-at, strict-gone}
use Rattle.consumers.proofs.Laws.{removed-first, browser-sub}
use Rattle.consumers.proofs.Seek.{found_at, without_at}
use Rattle.state.specs.declared.Head.{Head}
use Rattle.state.specs.State.{head_view, strict_tables, with_used, first_waiting}
use Rattle.state.specs.Fits.{Fits}
use Rattle.state.specs.Leaves.{silent, Leaves}
use Rattle.returns.specs.Returns.{departed_at, departed, gives_all, dropped_head}
use Rattle.returns.specs.Gaps.{gap_dest, waiting_in, around, GapStrict, StrictAround, Gap, GaveBack}
use Rattle.returns.proofs.Moving.{strict-as}
use Rattle.returns.proofs.Gap.{head-dest, head-strict, gap-leaves, same-both, forgets, forgets-strict, forgets-same, forgets-gap}

-- ---- the words

module _ (i n : ℕ) (ws : List Row) (h : i < n) (g : n ≤ length ws) where
  removed-is : sub_removed i n ws ≡ written i (slice (suc i) n ws) (n - 1) ws
  unfolding sub_removed taken_out written
  removed-is = rw (le-leb n (length ws) g, lt-ltb i n h)

  shorter : i + length (slice (suc i) n ws) ≡ n - 1
  shorter = omega (arith, length-slice (suc i) n ws g)

  removed-length : length (sub_removed i n ws) ≡ length ws
  removed-length = ap length removed-is ∙ written-length i (n - 1) (slice (suc i) n ws) ws shorter (omega arith)

  removed-past : (m : ℕ) → n ≤ m → drop m (sub_removed i n ws) ≡ drop m ws
  removed-past m k = ap (drop m) removed-is ∙ written-drop i (n - 1) (slice (suc i) n ws) ws shorter m (omega arith) (omega arith)

-- ---- what the definition says

module _ (now : ℕ) (last : ℤ) (s : Def.Sub) (t : Dest) where
  -- on a topic, or of a browser, nothing returns
  returning-none : (q : Bool) → (q && not (is_browser s)) ≡ false → returning now s last t (kind_by q) ≡ t
  unfolding returning
  returning-none false h = refl
  returning-none true h = if-true t (gives_all now last s.id s.inflight t) (not-false (is_browser s) h)

  returning-all : (q : Bool) → (q && not (is_browser s)) ≡ true → returning now s last t (kind_by q) ≡ gives_all now last s.id s.inflight t
  unfolding returning
  returning-all false h = absurd (false≢true h)
  returning-all true h = if-false t (gives_all now last s.id s.inflight t) (not-true (is_browser s) h)

-- ---- the consumer at a place

module _ (i : ℕ) (d : Head) (subs rows : List Row) (f : Fits subs d (length rows) 545) (low : i < d.consumers) where
  abbrev ws : List Row
  ws = take d.consumers subs

  abbrev w : Row
  w = get_or ws i []

  abbrev base : ℕ
  base = sub_rows (take i ws)

  abbrev own : ℕ
  own = inflight_count w + held_count w

  abbrev subs' : List Row
  subs' = sub_removed i d.consumers subs

  abbrev kind : Kind
  kind = kind_by d.queue

  abbrev sub : Def.Sub
  sub = sub_in kind ws rows i

  size : length ws ≡ d.consumers
  size = length-take-le d.consumers subs (omega (arith, f.consumers, f.subs-long))

  within : i < length ws
  within = omega (arith, size, low)

  many : d.consumers ≤ length subs
  many = omega (arith, f.consumers, f.subs-long)

  others : take (d.consumers - 1) subs' ≡ take i ws ++ drop (suc i) ws
  others = removed-first i d.consumers subs low many

  fewer : sub_rows (take (d.consumers - 1) subs') + own ≡ sub_rows ws
  fewer = ap (λ (l : List Row). sub_rows l + own) others ∙ rows-gone ws i within

  fits : d.used ≤ length rows
  fits = omega (arith, f.used, f.rows_long)

  first-long : sub_rows ws ≤ length (take (first_waiting d) rows)
  first-long = omega (arith, f.rows-used, f.used, f.rows_long, length-take-le (first_waiting d) rows (omega (arith, f.used, f.rows_long)))

  pub leaving-gap : Gap base own (dropped_head d) subs' rows
  leaving-gap = record {
    sum = omega (arith, fewer, f.rows-used);
    low = omega (arith, ap sub_rows others, rows_append (take i ws) (drop (suc i) ws));
    consumers = omega (arith, f.consumers);
    used = f.used;
    long = f.rows_long;
    expired = omega (arith, f.expired, f.used);
  }

  browses : is_browser sub ≡ (row_sub w).browser
  browses = ap is_browser (sub_at_lem kind w _ _) ∙ browser-sub kind (row_sub w) _ _

  -- what the code reads
  pub seat-base : min 513 (sub_rows (take i subs)) ≡ base
  seat-base =
      let e : take i subs ≡ take i ws = sym (take-take i d.consumers subs (omega arith)) in
      let m : base ≤ 512 = omega (arith, rows_take ws i, f.rows-used, f.used) in
      ap (λ (l : List Row). min 513 (sub_rows l)) e ∙ omega arith

  pub seat-words : get_or subs i [] ≡ w
  seat-words = sym (get_or-take d.consumers subs i [] low)

  pub seat-rows : base + (inflight_count w + held_count w) ≤ d.used
  seat-rows = omega (arith, rows_split ws i within, f.rows-used)

  -- ---- its rows cut out of others

  module _ (l : List Row) (h : sub_rows ws ≤ length l) where
    abbrev after : List Row
    after = drop (base + own) l

    abbrev around-it : List Row
    around-it = take base l ++ drop (base + own) l

    short : base ≤ length l
    short = omega (arith, rows_take ws i)

    after_is : after_in ws l i ≡ after
    after_is = drop-drop (held_count w) (inflight_count w) (drop base l) ∙ drop-drop own base l

    rest-is : drop (sub_rows (take (d.consumers - 1) subs')) around-it ≡ drop (sub_rows ws) l
    rest-is =
        ap (λ (x : List Row). drop (sub_rows x) around-it) others ∙ after-gone ws l i after short ∙ ap (drop (sub_rows (drop (suc i) ws))) (sym after_is) ∙ sym (after-all ws l i within)

    leaving-words : (waits : List Row) → GapStrict d.consumers subs l waits → GapStrict (d.consumers - 1) subs' around-it waits
    leaving-words waits s =
        let a = strict-at ws l i within s.subs in
        record {
          subs = ap (λ (x : List Row). subs_strict x around-it) others ∙ strict-gone ws l i after short a (ap (subs_strict (drop (suc i) ws)) (sym after_is) ∙ a.after);
          reserved = ap (all entry_strict) rest-is ∙ s.reserved;
          waits = s.waits;
        }

  -- it stands before the waiting rows
  before : take base (take (first_waiting d) rows) ≡ take base rows
  before = take-take base (first_waiting d) rows (omega (arith, rows_take ws i, f.rows-used))

  leaving-strict : strict_tables d subs rows ≡ true → StrictAround base own (dropped_head d) subs' rows
  leaving-strict h =
      strict-as refl (ap (λ (x : List Row). x ++ slice (base + own) (first_waiting d) rows) (sym before)) refl
      (leaving-words (take (first_waiting d) rows) first-long (waiting_in d rows) (head-strict d subs rows f.rows-used fits h))

  module _ (now : ℕ) (last : ℤ) (id : Id) (here : position_from 0 id ws ≡ Some i) where
    leaving-dest : (l waits : List Row) (p : List Id) (u : List Audit) (h : sub_rows ws ≤ length l)
        → gap_dest (dropped_head d) subs' (around-it l h) waits p u ≡ drop_sub id (gap_dest d subs l waits p u)
    unfolding gap_dest
    leaving-dest l waits p u h =
        let m : List Row = around-it l h in
        let all : subs_at kind (take (d.consumers - 1) subs') m ≡ without (is_id id) (subs_at kind ws l) =
        ap (λ (x : List Row). subs_at kind x m) others
        ∙ subs-gone kind ws l i (after l h) within (short l h) (ap (subs_at kind (drop (suc i) ws)) (sym (after_is l h)))
        ∙ sym (without_at id ws i here kind l) in
        let count : d.consumers - 1 ≡ length (without (is_id id) (subs_at kind ws l)) =
        sym (ap length (sym all) ∙ subs-length kind (take (d.consumers - 1) subs') m
        ∙ length-take-le (d.consumers - 1) subs' (omega (arith, many, removed-length i d.consumers subs low many))) in
        let turn : (whether leb (d.consumers - 1) d.turn then 0 else d.turn) ≡ (whether leb (length (without (is_id id) (subs_at kind ws l))) d.turn then 0 else d.turn) =
        ap (λ (n : ℕ). whether◌then◌else◌ {A = ℕ} (leb n d.turn) 0 d.turn) count in
        λ j. Def.with_rr (turn j) (Def.with_subs (all j) (Def.with_reserved (map held_at (rest-is l h j)) (gap_dest d subs l waits p u)))

    -- around its rows the destination is without it
    leaving-around : (p : List Id) (u : List Audit) → around base own (dropped_head d) subs' rows p u ≡ drop_sub id (head_view d subs rows p u)
    leaving-around p u =
        let n : ℕ = first_waiting d in
        ap (λ (x : List Row). gap_dest (dropped_head d) subs' (x ++ slice (base + own) n rows) (waiting_in d rows) p u) (sym before)
        ∙ leaving-dest (take n rows) (waiting_in d rows) p u first-long
        ∙ ap (drop_sub id) (sym (head-dest d subs rows f.rows-used fits p u))

    -- the definition of this consumer
    left_is : (p : List Id) (u : List Audit) → departed now id last (head_view d subs rows p u) ≡ returning now sub last (drop_sub id (head_view d subs rows p u)) kind
    unfolding head_view
    left_is p u = ap (departed_at now id last (head_view d subs rows p u)) (found_at id ws i here kind rows)

    gives-sub : (t : Dest) → gives_all now last (id_of (at 0 w) (at 1 w) (at 2 w)) (map inflight_at (flying_in ws rows i)) t ≡ gives_all now last sub.id sub.inflight t
    unfolding sub_at
    gives-sub t = refl

    -- the rows go, and nothing else
    pub leaves-dropped : (r : Head) (rows' events : List Row) → (d.queue && not (row_sub w).browser) ≡ false → r ≡ with_used (d.used - own) (dropped_head d) → rows' ≡ close_gap base own d.used rows
        → Leaves (silent (departed now id last)) d r subs rows events subs' rows' events
    leaves-dropped r rows' events x p q =
        let b : Head = dropped_head d in
        let e : own - own ≡ 0 = omega arith in
        let at0 : rows' ≡ close_gap (base + 0) own d.used rows = q ∙ ap (λ (n : ℕ). close_gap n own d.used rows) (sym (add-zero base)) in
        let less : 0 + own ≤ own = omega arith in
        let no : (d.queue && not (is_browser sub)) ≡ false = ap (λ (y : Bool). d.queue && not y) browses ∙ x in
        rw (p, at0)
        (gap-leaves (departed now id last) base d b (with_used (d.used - own) b) subs rows events subs' rows subs' (close_gap (base + 0) own d.used rows)
        (rw e at (forgets-gap base 0 own own b subs' rows leaving-gap less)) (forgets-same base 0 own own b subs' rows leaving-gap less)
        refl refl refl refl refl refl (removed-past i d.consumers subs low many 32 f.consumers) (removed-length i d.consumers subs low many) refl refl
        (λ u v _.
        ap (λ (n : ℕ). around base n (with_used (d.used - own) b) subs' (close_gap (base + 0) own d.used rows) u v) (sym e)
        ∙ forgets base 0 own own b subs' rows leaving-gap less u v
        ∙ leaving-around u v
        ∙ sym (left_is u v ∙ returning-none now last sub (drop_sub id (head_view d subs rows u v)) d.queue no))
        (λ z. subst (λ (n : ℕ). StrictAround base n (with_used (d.used - own) b) subs' (close_gap (base + 0) own d.used rows)) e (forgets-strict base 0 own own b subs' rows leaving-gap less (leaving-strict z))))

    -- what is held goes, and what was in flight returns
    pub leaves-gave : (g r : Head) (rows₁ subs'' rows' events : List Row) → (d.queue && not (row_sub w).browser) ≡ true → g ≡ with_used (d.used - held_count w) (dropped_head d)
        → rows₁ ≡ close_gap (base + inflight_count w) (held_count w) d.used rows
        → GaveBack now last (id_of (at 0 w) (at 1 w) (at 2 w)) base (inflight_count w) g r subs' rows₁ subs'' rows'
        → Leaves (silent (departed now id last)) d r subs rows events subs'' rows' events
    leaves-gave g r rows₁ subs'' rows' events x p q a =
        let b : Head = dropped_head d in
        let m : ℕ = inflight_count w in
        let k : ℕ = held_count w in
        let c : List Row = close_gap (base + m) k d.used rows in
        let h : Head = with_used (d.used - k) b in
        let o : GaveBack now last (id_of (at 0 w) (at 1 w) (at 2 w)) base m h r subs' c subs'' rows' = rw (p, q) at a in
        let e : own - k ≡ m = omega arith in
        let less : m + k ≤ own = omega arith in
        let yes : (d.queue && not (is_browser sub)) ≡ true = ap (λ (y : Bool). d.queue && not y) browses ∙ x in
        let n : base + m - base ≡ m = omega arith in
        let flew : slice base (base + m) c ≡ flying_in ws rows i =
        ap (drop base) (close-before (base + m) k d.used rows (base + m) (omega arith)) ∙ slice-take base (base + m) rows (omega arith) ∙ ap (λ (y : ℕ). take y (drop base rows)) n in
        gap-leaves (departed now id last) base d b r subs rows events subs' rows subs'' rows' o.gap (same-both (forgets-same base m k own b subs' rows leaving-gap less) o.same)
        refl refl refl refl refl refl (removed-past i d.consumers subs low many 32 f.consumers) (removed-length i d.consumers subs low many) refl refl
        (λ u v _.
        o.view u v
        ∙ ap₂ (λ (l : List Row) (y : ℕ). gives_all now last (id_of (at 0 w) (at 1 w) (at 2 w)) (map inflight_at l) (around base y h subs' c u v)) flew (sym e)
        ∙ ap (gives_all now last (id_of (at 0 w) (at 1 w) (at 2 w)) (map inflight_at (flying_in ws rows i))) (forgets base m k own b subs' rows leaving-gap less u v ∙ leaving-around u v)
        ∙ gives-sub (drop_sub id (head_view d subs rows u v))
        ∙ sym (left_is u v ∙ returning-all now last sub (drop_sub id (head_view d subs rows u v)) d.queue yes))
        (λ z. o.strict (subst (λ (y : ℕ). StrictAround base y h subs' c) e (forgets-strict base m k own b subs' rows leaving-gap less (leaving-strict z))))

    -- by what the code has read
    module _ (b : ℕ) (s : Sub) (g : Head) (subs₁ : List Row) (is_base : b ≡ base) (is-sub : s ≡ row_sub w) (is-head : g ≡ dropped_head d) (is-subs : subs₁ ≡ subs') where
      pub leaves-dropped-by : (r : Head) (rows' events : List Row) → (g.queue && not s.browser) ≡ false → r ≡ with_used (g.used - (s.inflight + s.held)) g
          → rows' ≡ close_gap b (s.inflight + s.held) g.used rows → Leaves (silent (departed now id last)) d r subs rows events subs₁ rows' events
      unfolding row_sub
      leaves-dropped-by r rows' events x p q =
          rw is-subs
          (leaves-dropped r rows' events
          (ap₂ (λ (y : Head) (z : Sub). y.queue && not z.browser) (sym is-head) (sym is-sub) ∙ x)
          (p ∙ ap₂ (λ (y : Head) (z : Sub). with_used (y.used - (z.inflight + z.held)) y) is-head is-sub)
          (q ∙ (λ j. close_gap (is_base j) ((is-sub j).inflight + (is-sub j).held) (is-head j).used rows)))

      pub leaves-gave-by : (h r : Head) (rows₁ subs'' rows' events : List Row) → (g.queue && not s.browser) ≡ true → h ≡ with_used (g.used - s.held) g
          → rows₁ ≡ close_gap (b + s.inflight) s.held g.used rows → GaveBack now last (id_of s.conn s.session s.value) b s.inflight h r subs₁ rows₁ subs'' rows'
          → Leaves (silent (departed now id last)) d r subs rows events subs'' rows' events
      unfolding row_sub
      leaves-gave-by h r rows₁ subs'' rows' events x p q a =
          leaves-gave h r rows₁ subs'' rows' events
          (ap₂ (λ (y : Head) (z : Sub). y.queue && not z.browser) (sym is-head) (sym is-sub) ∙ x)
          (p ∙ ap₂ (λ (y : Head) (z : Sub). with_used (y.used - z.held) y) is-head is-sub)
          (q ∙ (λ j. close_gap (is_base j + (is-sub j).inflight) (is-sub j).held (is-head j).used rows))
          (transport (λ j. GaveBack now last (id_of (is-sub j).conn (is-sub j).session (is-sub j).value) (is_base j) (is-sub j).inflight h r (is-subs j) rows₁ subs'' rows') a)

  -- the gap that is left for what was in flight
  pub flying-gap : (b : ℕ) (s : Sub) (g h : Head) (subs₁ rows₁ : List Row) → b ≡ base → s ≡ row_sub w → g ≡ dropped_head d → subs₁ ≡ subs' → h ≡ with_used (g.used - s.held) g
      → rows₁ ≡ close_gap (b + s.inflight) s.held g.used rows → Gap b s.inflight h subs₁ rows₁
  unfolding row_sub
  flying-gap b s g h subs₁ rows₁ is_base is-sub is-head is-subs p q =
      let e : own - held_count w ≡ inflight_count w = omega arith in
      let x : Gap base (inflight_count w) (with_used (d.used - held_count w) (dropped_head d)) subs' (close_gap (base + inflight_count w) (held_count w) d.used rows) =
      rw e at (forgets-gap base (inflight_count w) (held_count w) own (dropped_head d) subs' rows leaving-gap (omega arith)) in
      let p' : h ≡ with_used (d.used - held_count w) (dropped_head d) = p ∙ ap₂ (λ (y : Head) (z : Sub). with_used (y.used - z.held) y) is-head is-sub in
      let q' : rows₁ ≡ close_gap (base + inflight_count w) (held_count w) d.used rows = q ∙ (λ j. close_gap (is_base j + (is-sub j).inflight) (is-sub j).held (is-head j).used rows) in
      transport (λ j. Gap (sym is_base j) (sym is-sub j).inflight (sym p' j) (sym is-subs j) (sym q' j)) x
