-- One consumer's rows between those before and those after: the table in parts, and what a step leaves of it. Assumes nothing.
use mathlib.Core.Path.{◌≡◌, refl, sym, ap, ap₂, ◌∙◌}
use mathlib.Core.Bool.{Bool, true, false, not, ◌&&◌}
use mathlib.Core.List.{List, ◌++◌, map, append_assoc}
use Prim.Native.Nat.{ℕ, ◌+◌, ◌-◌, ◌≤◌}
use native.Mathlib.Omega.{arith}
use lib.ListN.{length, take, drop, length-append, length-drop, length-map, take-append-drop}
use lib.Seq.{slice, length-slice, length-take-le, take_at, drop_at}
use Rattle.model.specs.declared.AckEffect.{AckEffect}
use Rattle.model.specs.declared.AckEffect.TheVariants.{Stays, Frees, Marks, Removes, Redelivers}
use Rattle.model.specs.declared.AckCount.{AckCount}
use Rattle.definition.specs.Base.{keep, tally, all}
use Rattle.definition.specs.Types.{Kind}
use Rattle.definition.specs.Types as Def
use Rattle.definition.specs.Consumer.{◌⊕◌, Step, is_browser, free, redeliver}
use Rattle.definition.specs.Layout.{Row, inflight_at, event_words, flying_strict}
use Rattle.consumers.specs.declared.Sub.{Sub}
use Rattle.consumers.specs.Consumers.{sub_view}
use Rattle.consumers.proofs.Laws.{browser-sub}
use Rattle.consumers.proofs.Strict.{all_map}
use Rattle.definition.proofs.Lists.{all_keep}
use Rattle.definition.proofs.Thin.{tally-length}
use Rattle.state.specs.declared.Head.{Head}
use Rattle.state.specs.State.{with_counters, with_used, with_events}
use Rattle.table.specs.Table.{dseq_between, is_freed, mark_row, redeliver_row, count_rows, map_rows, remove_rows, removed_rows}
use Rattle.table.proofs.Lists.{slice-take}
use Rattle.table.proofs.Bounds.{count-in, gone-in}
use Rattle.table.proofs.Laws.{map-length, map-after, map-parts, remove-length, remove-after, remove-parts}
use Rattle.table.proofs.Segments.{tally-map, kept-length}
use Rattle.table.proofs.Strict.{mark-strict, redeliver-strict}
use Rattle.table.specs.declared.Span.{Span}
use Rattle.acks.specs.Rules.{in_span, silently, acts, removed_counts, removed_events}
use Rattle.acks.specs.Parts.{full_row, own_flying, own_held, own_after, own_view, Own, Told, Acted}
use Rattle.acks.proofs.Flying.{mark-flying, raise-flying, keep-flying, tally-flying}
use Rattle.acks.proofs.Telling.{told_none}

-- ---- the parts

module _ (base : ℕ) (t : Sub) (a f h c : List Row) (ea : length a ≡ base) (ef : length f ≡ t.inflight) (eh : length h ≡ t.held) where
  abbrev all-parts : List Row
  all-parts = a ++ (f ++ (h ++ c))

  from_parts : drop base all-parts ≡ f ++ (h ++ c)
  from_parts = drop_at a (f ++ (h ++ c)) base ea

  rest-parts : drop t.inflight (drop base all-parts) ≡ h ++ c
  rest-parts = ap (drop t.inflight) from_parts ∙ drop_at f (h ++ c) t.inflight ef

  flying-parts : own_flying base t all-parts ≡ f
  flying-parts = ap (take t.inflight) from_parts ∙ take_at f (h ++ c) t.inflight ef

  held-parts : own_held base t all-parts ≡ h
  held-parts = ap (take t.held) rest-parts ∙ take_at h c t.held eh

  after-parts : own_after base t all-parts ≡ c
  after-parts = ap (drop t.held) rest-parts ∙ drop_at h c t.held eh

module _ (base : ℕ) (s : Sub) (rows : List Row) where
  pub in_parts : rows ≡ take base rows ++ (own_flying base s rows ++ (own_held base s rows ++ own_after base s rows))
  in_parts = sym (
      ap (λ (x : List Row). take base rows ++ (own_flying base s rows ++ x)) (take-append-drop s.held (drop s.inflight (drop base rows)))
      ∙ ap (λ (x : List Row). take base rows ++ x) (take-append-drop s.inflight (drop base rows))
      ∙ take-append-drop base rows)

  pub flying-slice : slice base (base + s.inflight) rows ≡ own_flying base s rows
  flying-slice =
      let e : base + s.inflight - base ≡ s.inflight = omega arith in
      slice-take base (base + s.inflight) rows (omega arith) ∙ ap (λ (n : ℕ). take n (drop base rows)) e

  module _ (d : Head) (own : Own (length rows) base s d) where
    front-size : length (take base rows) ≡ base
    front-size = length-take-le base rows (omega arith)

    pub flying-size : length (own_flying base s rows) ≡ s.inflight
    flying-size = length-take-le s.inflight (drop base rows) (simp length-drop (omega arith))

    held-size : length (own_held base s rows) ≡ s.held
    held-size = length-take-le s.held (drop s.inflight (drop base rows)) (simp length-drop (omega arith))

    -- the used rows after its own
    abbrev later : ℕ
    later = d.used - (base + (s.inflight + s.held))

    later-size : length (take later (own_after base s rows)) ≡ later
    later-size = length-take-le later (own_after base s rows) (simp length-drop (omega arith))

-- ---- what a step leaves

module _ (step : Def.Sub → Step) (k : Kind) (base : ℕ) (s t : Sub) (d q r : Head) (rows events rows' events' : List Row) (own : Own (length rows) base s d) where
  abbrev n : ℕ
  n = d.used - (base + (s.inflight + s.held))

  pub acted : (f c : List Row) (m : ℕ) → rows' ≡ take base rows ++ (f ++ (own_held base s rows ++ c)) → length f ≡ t.inflight → t.held ≡ s.held
      → take n c ≡ take n (own_after base s rows) → drop 512 rows' ≡ drop 512 rows → length rows' ≡ length rows
      → sub_view k t f (own_held base s rows) ≡ (step (own_view k base s rows)).sub
      → (all flying_strict (own_flying base s rows) ≡ true → all flying_strict f ≡ true)
      → Told (step (own_view k base s rows)).counts (step (own_view k base s rows)).events m d q events events'
      → r ≡ with_used r.used q → r.used + m ≤ d.used → r.used + s.inflight ≡ d.used + t.inflight
      → Acted step k base s t d r rows events rows' events'
  acted f c m e ef et ec past size view strict told er few used =
      let a : List Row = take base rows in
      let h : List Row = own_held base s rows in
      let ea : length a ≡ base = front-size base s rows d own in
      let eh : length h ≡ t.held = held-size base s rows d own ∙ sym et in
      let sent : r.events ≡ q.events = ap (λ (x : Head). x.events) er in
      let flies : own_flying base t rows' ≡ f = ap (own_flying base t) e ∙ flying-parts base t a f h c ea ef eh in
      let holds : own_held base t rows' ≡ h = ap (own_held base t) e ∙ held-parts base t a f h c ea ef eh in
      let tail : own_after base t rows' ≡ c = ap (own_after base t) e ∙ after-parts base t a f h c ea ef eh in
      let least = told.few in
      record {
        before = ap (take base) e ∙ take_at a (f ++ (h ++ c)) base ea;
        sub = ap₂ (sub_view k t) flies holds ∙ view;
        after = ap (take n) tail ∙ ec;
        holds = holds;
        strict = λ x. ap (all flying_strict) flies ∙ strict x;
        past = past;
        size = size;
        flying = omega arith;
        held = et;
        used = used;
        head = er ∙ ap (with_used r.used) (told.head ∙ ap (λ (x : ℕ). with_events x (with_counters (d.stats ⊕ (step (own_view k base s rows)).counts) d)) (sym sent));
        said = ap (λ (x : ℕ). take x events') sent ∙ told.said;
        later = ap (λ (x : ℕ). drop x events') sent ∙ told.later ∙ ap (λ (x : ℕ). drop x events) (sym sent);
        more = omega (arith, told.more);
        most = omega arith;
        events-size = told.size;
      }

-- ---- rows that are changed in place

abbrev pub with_freed : ℕ → Sub → Sub
with_freed x s = record { conn = s.conn; session = s.session; value = s.value; prefetch = s.prefetch; selector = s.selector; next_dseq = s.next_dseq; cursor = s.cursor; pull = s.pull; generation = s.generation; freed = x; inflight = s.inflight; held = s.held; no_local = s.no_local; browser = s.browser; finished = s.finished; pulling = s.pulling }

abbrev pub with_flying : ℕ → ℕ → Sub → Sub
with_flying n x s = record { conn = s.conn; session = s.session; value = s.value; prefetch = s.prefetch; selector = s.selector; next_dseq = s.next_dseq; cursor = s.cursor; pull = s.pull; generation = s.generation; freed = x; inflight = n; held = s.held; no_local = s.no_local; browser = s.browser; finished = s.finished; pulling = s.pulling }

module _ (k : Kind) (base : ℕ) (s : Sub) (d : Head) (rows : List Row) (own : Own (length rows) base s d) where
  abbrev v : Def.Sub
  v = own_view k base s rows

  abbrev f : List Row
  f = own_flying base s rows

  abbrev h : List Row
  h = own_held base s rows

  abbrev c : List Row
  c = own_after base s rows

  abbrev end : ℕ
  end = base + s.inflight

  end_is : base + length f ≡ end
  end_is = omega (arith, flying-size base s rows d own)

  -- how many pass a test
  pub count-few : (q : Row → Bool) → count_rows q base end rows ≤ s.inflight
  count-few q =
      let e : count_rows q base end rows ≡ tally q (slice base end rows) = count-in q base end rows (omega arith) (omega arith) in
      omega (arith, tally-length q (slice base end rows), length-slice base end rows (omega arith))

  pub count-is : (p : Span) → count_rows (dseq_between p.first p.last) base end rows ≡ tally (in_span p) (map inflight_at (slice base end rows))
  count-is p = count-in (dseq_between p.first p.last) base end rows (omega arith) (omega arith) ∙ sym (tally-flying p (slice base end rows))

  pub flies : v.inflight ≡ map inflight_at (slice base end rows)
  unfolding sub_view
  flies = ap (map inflight_at) (sym (flying-slice base s rows))

  -- by g, with x rows freed
  placed : (g : Row → Row) (step : Def.Sub → Def.Sub) (x : ℕ) (rows' events : List Row) → rows' ≡ map_rows g base end rows
      → ((w : Row) → flying_strict w ≡ true → flying_strict (g w) ≡ true)
      → sub_view k (with_freed x s) (map g f) h ≡ step v → Acted (silently step) k base s (with_freed x s) d d rows events rows' events
  placed g step x rows' events e strict view =
      let parts : rows' ≡ take base rows ++ (map g f ++ (h ++ c)) =
      e ∙ ap (map_rows g base end) (in_parts base s rows) ∙ map-parts base end (take base rows) f (h ++ c) (front-size base s rows d own) end_is g in
      acted (silently step) k base s (with_freed x s) d d d rows events rows' events own (map g f) c 0 parts (length-map f g ∙ flying-size base s rows d own) refl refl
      (ap (drop 512) e ∙ map-after g base end rows 512 (omega arith)) (ap length e ∙ map-length g base end rows) view (all_map flying_strict flying_strict g strict f) (told_none 0 d events) refl (omega arith) refl

  module _ (p : Span) where
    pub acted-mark : (tx : Bool) (n : ℕ) (rows' events : List Row) → all full_row (slice base end rows) ≡ true
        → n ≡ count_rows (λ w. dseq_between p.first p.last w && not (is_freed w)) base end rows → rows' ≡ map_rows (mark_row p.first p.last tx) base end rows
        → Acted (silently (free (in_span p) tx)) k base s (with_freed (s.freed + n) s) d d rows events rows' events
    unfolding sub_view
    acted-mark tx n rows' events fulls en e =
        let own-full : all full_row f ≡ true = ap (all full_row) (sym (flying-slice base s rows)) ∙ fulls in
        let fresh : n ≡ tally (λ i. in_span p i && not i.freed) (map inflight_at f) =
        en ∙ count-in (λ w. dseq_between p.first p.last w && not (is_freed w)) base end rows (omega arith) (omega arith)
        ∙ ap (tally (λ w. dseq_between p.first p.last w && not (is_freed w))) (flying-slice base s rows)
        ∙ sym (tally-map inflight_at (λ i. in_span p i && not i.freed) f) in
        placed (mark_row p.first p.last tx) (free (in_span p) tx) (s.freed + n) rows' events e (mark-strict p.first p.last tx)
        (ap₂ (λ (l : List Def.Inflight) (m : ℕ). Def.with_inflight l (Def.with_freed (s.freed + m) v)) (mark-flying p f tx own-full) fresh)

    pub acted-raise : (rows' events : List Row) → all full_row (slice base end rows) ≡ true → rows' ≡ map_rows (redeliver_row p.first p.last) base end rows
        → Acted (silently (redeliver (in_span p))) k base s s d d rows events rows' events
    unfolding sub_view
    acted-raise rows' events fulls e =
        let own-full : all full_row f ≡ true = ap (all full_row) (sym (flying-slice base s rows)) ∙ fulls in
        placed (redeliver_row p.first p.last) (redeliver (in_span p)) s.freed rows' events e (redeliver-strict p.first p.last) (ap (λ (l : List Def.Inflight). Def.with_inflight l v) (raise-flying p f own-full))

    -- ---- rows that go

    abbrev gone : ℕ
    gone = tally (dseq_between p.first p.last) f

    pub gone-few : gone ≤ s.inflight
    gone-few = omega (arith, tally-length (dseq_between p.first p.last) f, flying-size base s rows d own)

    pub gone-is : removed_rows (dseq_between p.first p.last) base end d.used rows ≡ gone
    gone-is = gone-in (dseq_between p.first p.last) base end d.used rows (omega arith) (omega arith) (omega arith) ∙ ap (tally (dseq_between p.first p.last)) (flying-slice base s rows)

    freed-is : removed_rows (λ r. dseq_between p.first p.last r && is_freed r) base end d.used rows ≡ tally (λ i. in_span p i && i.freed) (map inflight_at f)
    freed-is =
        gone-in (λ r. dseq_between p.first p.last r && is_freed r) base end d.used rows (omega arith) (omega arith) (omega arith)
        ∙ ap (tally (λ r. dseq_between p.first p.last r && is_freed r)) (flying-slice base s rows)
        ∙ sym (tally-map inflight_at (λ i. in_span p i && i.freed) f)

    abbrev kept : List Row
    kept = keep (λ r. not (dseq_between p.first p.last r)) f

    -- the used rows after its own, and those past them
    abbrev u : List Row
    u = take (d.used - (base + (s.inflight + s.held))) c

    abbrev z : List Row
    z = drop (d.used - (base + (s.inflight + s.held))) c

    abbrev junk : List Row
    junk = drop (length kept + length (h ++ u)) (f ++ ((h ++ u) ++ z))

    removed-parts : remove_rows (dseq_between p.first p.last) base end d.used rows ≡ take base rows ++ (kept ++ (h ++ (u ++ junk)))
    removed-parts =
        let a : List Row = take base rows in
        let whole : rows ≡ a ++ (f ++ ((h ++ u) ++ z)) =
        in_parts base s rows
        ∙ ap (λ (x : List Row). a ++ (f ++ (h ++ x))) (sym (take-append-drop (d.used - (base + (s.inflight + s.held))) c))
        ∙ ap (λ (x : List Row). a ++ (f ++ x)) (sym (append_assoc h u z)) in
        let size : end + length (h ++ u) ≡ d.used = omega (arith, length-append h u, held-size base s rows d own, later-size base s rows d own) in
        ap (remove_rows (dseq_between p.first p.last) base end d.used) whole
        ∙ remove-parts (dseq_between p.first p.last) base end d.used a f (h ++ u) z (front-size base s rows d own) end_is size
        ∙ ap (λ (x : List Row). a ++ (kept ++ x)) (append_assoc h u junk)

    pub acted-remove : (counts : AckCount) (cause : Bool) (q r : Head) (n x y : ℕ) (rows' events events' : List Row)
        → Told (removed_counts counts s.browser (in_span p) (map inflight_at (slice base end rows))) (removed_events counts s.browser cause (in_span p) (map inflight_at (slice base end rows))) (tally (in_span p) (map inflight_at (slice base end rows))) d q events events'
        → rows' ≡ remove_rows (dseq_between p.first p.last) base end d.used rows
        → n ≡ removed_rows (dseq_between p.first p.last) base end d.used rows
        → x ≡ removed_rows (λ r. dseq_between p.first p.last r && is_freed r) base end d.used rows
        → y ≡ s.freed - x
        → r ≡ with_used (q.used - n) q
        → Acted (acts Removes counts cause (in_span p)) k base s (with_flying (s.inflight - n) y s) d r rows events rows' events'
    unfolding acts sub_view
    acted-remove counts cause q r n x y rows' events events' told e en ex ey er =
        let t : Sub = with_flying (s.inflight - n) y s in
        let m : n ≡ gone = en ∙ gone-is in
        let few : gone ≤ s.inflight = gone-few in
        let left : length kept ≡ s.inflight - n = omega (arith, kept-length (dseq_between p.first p.last) f, flying-size base s rows d own) in
        let qu : q.used ≡ d.used = ap (λ (y : Head). y.used) told.head in
        let ru : r.used ≡ q.used - n = ap (λ (y : Head). y.used) er in
        let browses : is_browser v ≡ s.browser = browser-sub k s f h in
        let own-told : Told (removed_counts counts (is_browser v) (in_span p) (map inflight_at f)) (removed_events counts (is_browser v) cause (in_span p) (map inflight_at f)) gone d q events events' =
        rw (browses, sym (tally-flying p f), sym (flying-slice base s rows)) told in
        acted (acts Removes counts cause (in_span p)) k base s t d q r rows events rows' events' own kept (u ++ junk) gone (e ∙ removed-parts) left refl
        (take_at u junk (d.used - (base + (s.inflight + s.held))) (later-size base s rows d own) ∙ refl)
        (ap (drop 512) e ∙ remove-after (dseq_between p.first p.last) base end d.used rows 512 (omega arith))
        (ap length e ∙ remove-length (dseq_between p.first p.last) base end d.used rows)
        (ap₂ (λ (l : List Def.Inflight) (z : ℕ). Def.with_inflight l (Def.with_freed z v)) (sym (keep-flying p f)) (ey ∙ ap (λ (z : ℕ). s.freed - z) (ex ∙ freed-is)))
        (all_keep flying_strict (λ r. not (dseq_between p.first p.last r)) f) own-told (er ∙ ap (λ (y : ℕ). with_used y q) (sym ru)) (omega arith) (omega arith)

-- ---- by the effect

module _ (effect : AckEffect) (counts : AckCount) (cause : Bool) (hit : Def.Inflight → Bool) (k : Kind) (base : ℕ) (s t : Sub) (d r : Head) (rows events rows' events' : List Row) where
  abbrev Acts : (Def.Sub → Step) → Type 0
  Acts step = Acted step k base s t d r rows events rows' events'

  pub acts-frees : effect ≡ Frees → Acts (silently (free hit false)) → Acts (acts effect counts cause hit)
  unfolding acts
  acts-frees u x = rw u x

  pub acts-marks : effect ≡ Marks → Acts (silently (free hit true)) → Acts (acts effect counts cause hit)
  unfolding acts
  acts-marks u x = rw u x

  pub acts-redelivers : effect ≡ Redelivers → Acts (silently (redeliver hit)) → Acts (acts effect counts cause hit)
  unfolding acts
  acts-redelivers u x = rw u x

  pub acts-removes : effect ≡ Removes → Acts (acts Removes counts cause hit) → Acts (acts effect counts cause hit)
  acts-removes u x = rw u x

pub acts-stays : (effect : AckEffect) (counts : AckCount) (cause : Bool) (hit : Def.Inflight → Bool) (k : Kind) (base : ℕ) (s : Sub) (d : Head) (rows events : List Row)
    → effect ≡ Stays → Acted (acts effect counts cause hit) k base s s d d rows events rows events
unfolding acts
acts-stays effect counts cause hit k base s d rows events u =
    let n = told_none 0 d events in
    rw u (record {
      before = refl;
      sub = refl;
      after = refl;
      holds = refl;
      strict = λ x. x;
      past = refl;
      size = refl;
      flying = omega arith;
      held = refl;
      used = refl;
      head = n.head;
      said = n.said;
      later = refl;
      more = omega arith;
      most = omega arith;
      events-size = refl;
    })

-- a step that does the same to this consumer
pub acted-same : (step other : Def.Sub → Step) (k : Kind) (base : ℕ) (s t : Sub) (d r : Head) (rows events rows' events' : List Row)
    → step (own_view k base s rows) ≡ other (own_view k base s rows) → Acted step k base s t d r rows events rows' events' → Acted other k base s t d r rows events rows' events'
acted-same step other k base s t d r rows events rows' events' e a = record {
  before = a.before;
  sub = a.sub ∙ ap (λ (x : Step). x.sub) e;
  after = a.after;
  holds = a.holds;
  strict = a.strict;
  past = a.past;
  size = a.size;
  flying = a.flying;
  held = a.held;
  used = a.used;
  head = a.head ∙ ap (λ (x : Step). with_used r.used (with_events r.events (with_counters (d.stats ⊕ x.counts) d))) e;
  said = a.said ∙ ap (λ (x : Step). take d.events events ++ map event_words x.events) e;
  later = a.later;
  more = a.more;
  most = a.most;
  events-size = a.events-size;
}
