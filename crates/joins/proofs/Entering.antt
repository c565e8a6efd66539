-- The destination in parts, before and after a consumer enters it. Assumes nothing.
use mathlib.Core.Path.{◌≡◌, refl, sym, ap, ap₂, ◌∙◌}
use mathlib.Core.Bool.{Bool, true, false, not}
use mathlib.Core.List.{List, [], ◌∷◌, ◌++◌, append-nil, append_assoc, map}
use mathlib.Core.Option.{Option, none, some}
use Prim.Native.Nat.{ℕ, ◌+◌, ◌≤◌, ◌<◌, ◌^◌}
use native.Mathlib.Numerals.{add-one}
use native.Mathlib.Omega.{arith}
use borrow.Author.Tests.{le-leb}
use lib.IntN.{pos}
use lib.ListN.{length, take, drop, set, length-set, length-append}
use lib.Seq.{take_at, drop_at, take-suc-set, drop-set-lt}
use Rattle.stats.specs.declared.Stats.{Stats}
use Rattle.stats.specs.Counted.{top, with_expired_by}
use Rattle.entry.specs.Entry.{entry_of, expired, selects}
use Rattle.definition.specs.Base.{whether◌then◌else◌, all, keep, tally}
use Rattle.definition.specs.Types.{Kind, queue, topic, Id, Audit, Entry, Held, Dest}
use Rattle.definition.specs.Types as Def
use Rattle.definition.specs.Consumer.{add_expired}
use Rattle.definition.specs.Destination.{Spec, new_sub, count, joined}
use Rattle.definition.specs.Layout.{Row, held_at, browser_at, tpending_at, each_sub, subs_at, sub_rows, entry_strict, sub_strict, subs_strict}
use Rattle.definition.proofs.Tests.{if-true, if-false, and_both}
use Rattle.definition.proofs.Lists.{all_append, all_end}
use Rattle.consumers.specs.Consumers.{sub_words, sub_view}
use Rattle.consumers.specs.Table.{fitting}
use Rattle.consumers.proofs.View.{sub-stored, subs-before, subs-around, rows_append, inflight-stored, held-stored}
use Rattle.consumers.proofs.Strict.{all_left, all_right, stored-strict, strict-sub, strict-before, strict-around, tables-strict, strict-tables}
use Rattle.state.specs.declared.Head.{Head}
use Rattle.state.specs.State.{head_view, kind_by, strict_tables, with_counters, with_used, with_waiting, with_consumers, not_idle, due_by}
use Rattle.state.specs.Fits.{fits, Fits}
use Rattle.state.specs.Leaves.{silent, Leaves}
use Rattle.state.proofs.Fitting.{facts-fit}
use Rattle.state.proofs.Counts.{expired-plain}
use Rattle.table.proofs.Segments.{keep-map, tally-map}
use Rattle.joins.specs.declared.SubSpec.{SubSpec}
use Rattle.joins.specs.Joins.{spec_of, new_of, gone_at, shown_by}

-- ---- the view in parts

abbrev pub parts_of : Head → List Def.Sub → List Entry → List Held → List Id → List Audit → Dest
parts_of d subs pending reserved ps qs = record {
  kind = kind_by d.queue;
  topic_limit = d.topic_limit;
  call_limit = d.call_limit;
  allowance = d.allowance;
  share = d.share;
  calls_used = d.calls_used;
  pending = pending;
  subs = subs;
  rr = d.turn;
  producers = ps;
  audits = qs;
  stats = d.stats;
  idle = whether d.idle then some d.idle_since else none;
  reserved = reserved;
}

-- the consumers' rows, the reserved ones, the waiting ones, and the rest
pub parts-view : (d : Head) (subs a r w z : List Row) (ps : List Id) (qs : List Audit) → length a ≡ sub_rows (take d.consumers subs) → length r ≡ d.reserved → length w ≡ d.waiting
    → head_view d subs (a ++ (r ++ (w ++ z))) ps qs ≡ parts_of d (subs_at (kind_by d.queue) (take d.consumers subs) a) (map entry_of w) (map held_at r) ps qs
unfolding head_view
parts-view d subs a r w z ps qs ea er ew =
    let ws : List Row = take d.consumers subs in
    let k : Kind = kind_by d.queue in
    let others : drop (sub_rows ws) (a ++ (r ++ (w ++ z))) ≡ r ++ (w ++ z) = drop_at a (r ++ (w ++ z)) (sub_rows ws) ea in
    let held : take d.reserved (drop (sub_rows ws) (a ++ (r ++ (w ++ z)))) ≡ r = ap (take d.reserved) others ∙ take_at r (w ++ z) d.reserved er in
    let waits : take d.waiting (drop d.reserved (drop (sub_rows ws) (a ++ (r ++ (w ++ z))))) ≡ w =
    ap (λ (l : List Row). take d.waiting (drop d.reserved l)) others ∙ ap (take d.waiting) (drop_at r (w ++ z) d.reserved er) ∙ take_at w z d.waiting ew in
    let mine : subs_at k ws (a ++ (r ++ (w ++ z))) ≡ subs_at k ws a = subs-before k ws a (r ++ (w ++ z)) (omega arith) in
    λ j. parts_of d (mine j) (map entry_of (waits j)) (map held_at (held j)) ps qs

-- the reserved and the waiting ones
others-are : (n m : ℕ) (a r w z : List Row) → length a ≡ n → length r + length w ≡ m → take m (drop n (a ++ (r ++ (w ++ z)))) ≡ r ++ w
others-are n m a r w z ea ew =
    ap (take m) (drop_at a (r ++ (w ++ z)) n ea ∙ sym (append_assoc r w z)) ∙ take_at (r ++ w) z m (length-append r w ∙ ew)

-- ---- the new consumer

snapshot-of : (k : Kind) (l : List Entry) → (k ≡ topic → l ≡ []) → browser_at k true l ≡ some l
snapshot-of queue l h = refl
snapshot-of topic l h = ap some (sym (h refl))

nothing-pending : (k : Kind) (l : List Entry) → (k ≡ topic → l ≡ []) → tpending_at k true l ≡ []
nothing-pending queue l h = refl
nothing-pending topic l h = h refl

plain-pending : (k : Kind) → tpending_at k false [] ≡ []
plain-pending queue = refl
plain-pending topic = refl

plain-browser : (k : Kind) → browser_at k false [] ≡ none
plain-browser k = refl

module _ (p : SubSpec) (k : Kind) where
  -- all but the two lists
  abbrev made : Option (List Entry) → List Entry → Def.Sub
  made b l = record {
    id = (spec_of p).id;
    prefetch = (new_sub (spec_of p) none).prefetch;
    selector = p.selector;
    no_local = p.no_local;
    browser = b;
    finished = false;
    inflight = [];
    freed = 0;
    next_dseq = 1;
    cursor = 0;
    pull = none;
    generation = 0;
    tpending = l;
  }

  made-is : (n : ℕ) (h : List Row) (b : Bool) → p.browser ≡ b → sub_view k (new_of p n) [] h ≡ made (browser_at k b (map entry_of h)) (tpending_at k b (map entry_of h))
  unfolding sub_view
  made-is n h b e = ap (λ (c : Bool). made (browser_at k c (map entry_of h)) (tpending_at k c (map entry_of h))) e

  pub new-browser : (n : ℕ) (h : List Row) → p.browser ≡ true → (k ≡ topic → h ≡ []) → sub_view k (new_of p n) [] h ≡ new_sub (spec_of p) (some (map entry_of h))
  new-browser n h e t =
      let none-there : k ≡ topic → map entry_of h ≡ [] = λ q. ap (map entry_of) (t q) in
      made-is n h true e ∙ ap₂ made (snapshot-of k (map entry_of h) none-there) (nothing-pending k (map entry_of h) none-there)

  pub new-plain : (n : ℕ) → p.browser ≡ false → sub_view k (new_of p n) [] [] ≡ new_sub (spec_of p) none
  new-plain n e = made-is n [] false e ∙ ap₂ made (plain-browser k) (plain-pending k)

-- ---- the numbers after it

-- so many expired, waiting and used; one consumer more, and no idle mark
abbrev pub entered : ℕ → ℕ → ℕ → Head → Head
entered x w u d =
    let s = d.stats in
    not_idle (with_consumers (d.consumers + 1) (with_counters (record { enqueued = s.enqueued; dequeued = s.dequeued; expired = x; discarded = s.discarded; dispatched = s.dispatched }) (with_waiting w (with_used u d))))

-- ---- what it means

module _ (clock : ℕ) (p : SubSpec) (d : Head) (s : List Def.Sub) (ps : List Id) (qs : List Audit) where
  -- what entries expire by
  abbrev now : ℕ
  now = due_by clock d

  abbrev k : Kind
  k = kind_by d.queue

  abbrev P : Spec
  P = spec_of p

  -- no browser
  pub plain-means : (w r : List Row) → p.browser ≡ false
      → parts_of (entered d.stats.expired d.waiting d.used d) (s ++ sub_view k (new_of p 0) [] [] ∷ []) (map entry_of w) (map held_at r) ps qs ≡ joined clock P (parts_of d s (map entry_of w) (map held_at r) ps qs)
  plain-means w r e =
      let t : Dest = parts_of d s (map entry_of w) (map held_at r) ps qs in
      let live : List Entry = keep (λ x. not (expired (pos now) x)) t.pending in
      let chosen : List Entry = keep (λ x. selects x.match_word p.selector) live in
      ap (λ (x : Def.Sub). Def.with_idle none (Def.with_subs (s ++ x ∷ []) t)) (new-plain p k 0 e)
      ∙ ap (Def.with_idle none) (sym (if-false (Def.with_subs (s ++ new_sub P (some chosen) ∷ []) (count (add_expired (tally (expired (pos now)) t.pending)) (Def.with_pending live t))) (Def.with_subs (s ++ new_sub P none ∷ []) t) e))

  -- a browser
  pub browser-means : (w r : List Row) (n u v : ℕ) → p.browser ≡ true → d.stats.expired + tally (gone_at now) w ≤ top
      → (k ≡ topic → keep (shown_by p.selector) (keep (λ x. not (gone_at now x)) w) ≡ [])
      → parts_of (entered (with_expired_by d.stats (tally (gone_at now) w)).expired v u d) (s ++ sub_view k (new_of p n) [] (keep (shown_by p.selector) (keep (λ x. not (gone_at now x)) w)) ∷ []) (map entry_of (keep (λ x. not (gone_at now x)) w)) (map held_at r) ps qs
      ≡ joined clock P (parts_of d s (map entry_of w) (map held_at r) ps qs)
  browser-means w r n u v e few none-there =
      let t : Dest = parts_of d s (map entry_of w) (map held_at r) ps qs in
      let late : Entry → Bool = λ x. not (expired (pos now) x) in
      let takes : Entry → Bool = λ x. selects x.match_word p.selector in
      let l : List Row = keep (λ x. not (gone_at now x)) w in
      let h : List Row = keep (shown_by p.selector) l in
      let g : ℕ = tally (gone_at now) w in
      let live : List Entry = keep late t.pending in
      let after : Stats → Def.Sub → Dest = λ c x. Def.with_idle none (Def.with_subs (s ++ x ∷ []) (Def.with_stats c (Def.with_pending (map entry_of l) t))) in
      let left : map entry_of l ≡ live = sym (keep-map entry_of late w) in
      let chosen : map entry_of h ≡ keep takes live = sym (keep-map entry_of takes l) ∙ ap (keep takes) left in
      let gone : g ≡ tally (expired (pos now)) t.pending = sym (tally-map entry_of (expired (pos now)) w) in
      ap₂ after (expired-plain d.stats g few) (new-browser p k n h e none-there)
      ∙ (λ j. Def.with_idle none (Def.with_subs (s ++ new_sub P (some (chosen j)) ∷ []) (count (add_expired (gone j)) (Def.with_pending (left j) t))))
      ∙ ap (Def.with_idle none) (sym (if-true (Def.with_subs (s ++ new_sub P (some (keep takes live)) ∷ []) (count (add_expired (tally (expired (pos now)) t.pending)) (Def.with_pending live t))) (Def.with_subs (s ++ new_sub P none ∷ []) t) e))

-- ---- what it leaves

module _ (now : ℕ) (p : SubSpec) (d : Head) (subs rows rows' events : List Row) (x n v u : ℕ) (a h r w w' z z' : List Row)
    (f : Fits subs d (length rows) (length events))
    (less : d.consumers < 32)
    (before : rows ≡ a ++ (r ++ (w ++ z)))
    (after : rows' ≡ a ++ (h ++ (r ++ (w' ++ z'))))
    (ea : length a ≡ sub_rows (take d.consumers subs))
    (eh : length h ≡ n)
    (er : length r ≡ d.reserved)
    (ew : length w ≡ d.waiting)
    (ev : length w' ≡ v)
    (eu : sub_rows (take d.consumers subs) + n + (d.reserved + v) ≡ u)
    (few : u ≤ 512)
  where
    abbrev ws : List Row
    ws = take d.consumers subs

    abbrev kd : Kind
    kd = kind_by d.queue

    abbrev new : Row
    new = sub_words (new_of p n)

    abbrev subs' : List Row
    subs' = set subs d.consumers new

    abbrev e : Head
    e = entered x v u d

    table_is : take (d.consumers + 1) subs' ≡ ws ++ (new ∷ [])
    table_is = ap (λ (m : ℕ). take m subs') (add-one d.consumers) ∙ take-suc-set subs d.consumers new (omega (arith, f.subs-long))

    new-rows : sub_rows (new ∷ []) ≡ n
    unfolding sub_rows sub_words
    new-rows = omega arith

    size : sub_rows (take (d.consumers + 1) subs') ≡ sub_rows ws + n
    size = ap sub_rows table_is ∙ rows_append ws (new ∷ []) ∙ ap (λ (m : ℕ). sub_rows ws + m) new-rows

    consumers-are : subs_at kd (take (d.consumers + 1) subs') (a ++ h) ≡ subs_at kd ws a ++ sub_view kd (new_of p n) [] h ∷ []
    unfolding each_sub
    consumers-are =
        ap₂ (λ (l m : List Row). subs_at kd l m) table_is (ap (λ (l : List Row). a ++ l) (sym (append-nil h)))
        ∙ subs-around kd new [] h (sym (inflight-stored (new_of p n))) (eh ∙ sym (held-stored (new_of p n))) ws [] a [] ea
        ∙ ap (λ (y : Def.Sub). subs_at kd ws a ++ y ∷ []) (sub-stored kd (new_of p n) [] h)

    view-is : (ps : List Id) (qs : List Audit) → head_view e subs' rows' ps qs ≡ parts_of e (subs_at kd ws a ++ sub_view kd (new_of p n) [] h ∷ []) (map entry_of w') (map held_at r) ps qs
    view-is ps qs =
        ap (λ (l : List Row). head_view e subs' l ps qs) (after ∙ sym (append_assoc a h (r ++ (w' ++ z'))))
        ∙ parts-view e subs' (a ++ h) r w' z' ps qs (length-append a h ∙ ap₂ (λ (l m : ℕ). l + m) ea eh ∙ sym size) er ev
        ∙ ap (λ (l : List Def.Sub). parts_of e l (map entry_of w') (map held_at r) ps qs) consumers-are

    view-was : (ps : List Id) (qs : List Audit) → head_view d subs rows ps qs ≡ parts_of d (subs_at kd ws a) (map entry_of w) (map held_at r) ps qs
    view-was ps qs = ap (λ (l : List Row). head_view d subs l ps qs) before ∙ parts-view d subs a r w z ps qs ea er ew

    -- strict words stay strict
    strict-entered : (all entry_strict w ≡ true → (all entry_strict h ≡ true) × (all entry_strict w' ≡ true)) → strict_tables d subs rows ≡ true → strict_tables e subs' rows' ≡ true
    unfolding each_sub
    strict-entered keeps o =
        let t = tables-strict (d.reserved + d.waiting) ws rows o in
        let were : all entry_strict (r ++ w) ≡ true =
        sym (ap (λ (l : List Row). all entry_strict (take (d.reserved + d.waiting) (drop (sub_rows ws) l))) before ∙ ap (all entry_strict) (others-are (sub_rows ws) (d.reserved + d.waiting) a r w z ea (omega (arith, er, ew)))) ∙ t.others in
        let still = keeps (all_right entry_strict r w were) in
        let old : subs_strict ws a ≡ true = sym (ap (subs_strict ws) before ∙ strict-before ws a (r ++ (w ++ z)) (omega (arith, ea))) ∙ t.subs in
        let own : sub_strict new [] h ≡ true = strict-sub new [] h (record { words = stored-strict (new_of p n); flying = refl; held = still.0 }) in
        strict-tables (d.reserved + v) (take (d.consumers + 1) subs') rows' (record {
          subs =
              ap₂ (λ (l m : List Row). subs_strict l m) table_is after
              ∙ strict-around new [] h (sym (inflight-stored (new_of p n))) (eh ∙ sym (held-stored (new_of p n))) ws [] a (r ++ (w' ++ z')) ea
              ∙ and_both (subs_strict ws a) _ old (and_both (sub_strict new [] h) _ own refl);
          others =
              ap₂ (λ (m : ℕ) (l : List Row). all entry_strict (take (d.reserved + v) (drop m l))) size (after ∙ sym (append_assoc a h (r ++ (w' ++ z'))))
              ∙ ap (all entry_strict) (others-are (sub_rows ws + n) (d.reserved + v) (a ++ h) r w' z' (length-append a h ∙ ap₂ (λ (l m : ℕ). l + m) ea eh) (omega (arith, er, ev)))
              ∙ all_append entry_strict r w' (all_left entry_strict r w were) still.1;
        })

    pub leaves-entered : drop 512 rows' ≡ drop 512 rows → length rows' ≡ length rows
        → (all entry_strict w ≡ true → (all entry_strict h ≡ true) × (all entry_strict w' ≡ true))
        → ((ps : List Id) (qs : List Audit) → parts_of e (subs_at kd ws a ++ sub_view kd (new_of p n) [] h ∷ []) (map entry_of w') (map held_at r) ps qs ≡ joined now (spec_of p) (parts_of d (subs_at kd ws a) (map entry_of w) (map held_at r) ps qs))
        → Leaves (silent (joined now (spec_of p))) d e subs rows events subs' rows' events
    leaves-entered past same keeps means = record {
      view = λ ps qs _. view-is ps qs ∙ means ps qs ∙ ap (joined now (spec_of p)) (sym (view-was ps qs));
      sent = λ ps qs _. sym (append-nil (take d.events events));
      later = refl;
      more = omega arith;
      producers = refl;
      audits = refl;
      queue = refl;
      allowance = refl;
      share = refl;
      consumers = omega arith;
      used = few;
      rows-used = ap (λ (m : ℕ). m + (d.reserved + v)) size ∙ eu;
      strict = strict-entered keeps;
      subs-past = drop-set-lt 32 subs d.consumers new less;
      rows-past = past;
      subs-length = length-set subs d.consumers new;
      rows-length = same;
      events-length = refl;
    }

    new-fits : fitting new ≡ true
    unfolding fitting sub_words
    new-fits = and_both _ _ (le-leb 0 0 (omega arith)) (and_both _ _ (le-leb 1 72057594037927937 (omega arith)) (le-leb 0 72057594037927937 (omega arith)))

    -- the numbers still fit
    pub entered-fits : x ≤ 2 ^ 62 → v ≤ 512 → d.events + u ≤ 512 → fits subs' e (length rows) (length events) ≡ true
    entered-fits hx hv hu = facts-fit subs' e (length rows) (length events) (record {
      subs-long = simp length-set f.subs-long;
      rows_long = f.rows_long;
      events-long = f.events-long;
      consumers = omega arith;
      turn = f.turn;
      reserved = f.reserved;
      waiting = hv;
      used = few;
      sent = hu;
      calls = f.calls;
      enqueued = f.enqueued;
      dequeued = f.dequeued;
      expired = hx;
      discarded = f.discarded;
      dispatched = f.dispatched;
      rows-used = ap (λ (m : ℕ). m + (d.reserved + v)) size ∙ eu;
      fitted = ap (all fitting) table_is ∙ all_end fitting ws new f.fitted new-fits;
    })
