-- The transaction marks of all consumers with an identifier go, a consumer at a time. Assumes nothing.
use mathlib.Core.Path.{◌≡◌, refl, sym, ap, ap₂, ◌∙◌, transport}
use mathlib.Core.Bool.{true, false, ◌&&◌}
use mathlib.Core.List.{List, [], ◌∷◌, ◌++◌, append-nil, map, map-append}
use Prim.Native.Nat.{ℕ, zero, suc, ◌+◌, ◌-◌, ◌≤◌, ◌<◌}
use native.Mathlib.Omega.{arith}
use borrow.Author.Tests.{ltb-true, ltb-false}
use lib.Dec.{ltb}
use lib.ListN.{length, take, drop, get_or}
use lib.Seq.{slice, take-suc, take-take, drop-drop, drop_at, get_or-take, get_or-set_same, length-take-le, set_out}
use Rattle.words.proofs.Tests.{by-test}
use Rattle.model.specs.Model.{id_of, same_id}
use Rattle.entry.specs.Entry.{entry_of}
use Rattle.definition.specs.Base.{whether◌then◌else◌}
use Rattle.definition.specs.Base as Base
use Rattle.definition.specs.Types.{Kind, Id, Inflight}
use Rattle.definition.specs.Types as Def
use Rattle.definition.specs.Destination.{is_id, no_tx, unmarked}
use Rattle.definition.specs.Words.{kind_by}
use Rattle.definition.specs.Layout.{Row, flag, held_at, inflight_at, inflight_count, held_count, sub_at, each_sub, subs_at, sub_rows, entry_strict, flying_strict, sub_strict, subs_strict}
use Rattle.definition.proofs.Tests.{if-true, if-false, and_both}
use Rattle.definition.proofs.Lists.{agree-later}
use Rattle.table.specs.Table.{map_rows, unmark_row}
use Rattle.table.proofs.Lists.{slice-take}
use Rattle.table.proofs.Rows.{word_kept, unmark-entry, below}
use Rattle.table.proofs.Laws.{map-length, map-before, map-after, map-used}
use Rattle.table.proofs.Strict.{unmark-strict}
use Rattle.consumers.specs.declared.Sub.{Sub}
use Rattle.consumers.specs.Consumers.{row_sub}
use Rattle.consumers.proofs.View.{rows_next, rows_take, subs-append, subs-agree}
use Rattle.consumers.proofs.Strict.{strict-sub, sub-strict, strict-append, strict-agree, strict-at, tables-strict, strict-tables, all_map}
use Rattle.state.specs.declared.Head.{Head}
use Rattle.state.specs.State.{head_view}
use Rattle.state.specs.Fits.{Fits}
use Rattle.state.specs.Leaves.{silent, Leaves}

-- ---- one row, one consumer

abbrev quiet : Inflight → Inflight
quiet i = record { dseq = i.dseq; entry = i.entry; freed = i.freed; tx = false }

no-mark : (r : Row) → get_or (unmark_row r) 8 0 ≡ 0
no-mark r = by-test (ltb 8 (length r))
    (λ t. get_or-set_same r 8 0 0 (ltb-true 8 (length r) t))
    (λ t.
    let h : length r ≤ 8 = ltb-false 8 (length r) t in
    ap (λ (x : Row). get_or x 8 0) (set_out r 8 0 h) ∙ past r 8 h)
  where
    past : (l : List ℕ) (n : ℕ) → length l ≤ n → get_or l n 0 ≡ 0
    past [] n h = refl
    past (x ∷ l) zero h = absurd (omega arith)
    past (x ∷ l) (suc n) h = past l n (omega arith)

quiet_row : (r : Row) → inflight_at (unmark_row r) ≡ quiet (inflight_at r)
quiet_row r =
    let six : get_or (unmark_row r) 6 0 ≡ get_or r 6 0 = word_kept r 8 0 6 (below (omega arith)) in
    let seven : get_or (unmark_row r) 7 0 ≡ get_or r 7 0 = word_kept r 8 0 7 (below (omega arith)) in
    λ j. record { dseq = six j; entry = unmark-entry r j; freed = flag (seven j); tx = flag (no-mark r j) }

quiet-rows : (l : List Row) → map inflight_at (map unmark_row l) ≡ map quiet (map inflight_at l)
quiet-rows [] = refl
quiet-rows (r ∷ l) = ap₂ (λ (x : Inflight) (y : List Inflight). x ∷ y) (quiet_row r) (quiet-rows l)

quiet-sub : (k : Kind) (w : Row) (f h : List Row) → sub_at k w (map unmark_row f) h ≡ no_tx (sub_at k w f h)
unfolding sub_at
quiet-sub k w f h = ap (λ (l : List Inflight). Def.with_inflight l (sub_at k w f h)) (quiet-rows f)

quiet-strict : (w : Row) (f h : List Row) → sub_strict w f h ≡ true → sub_strict w (map unmark_row f) h ≡ true
quiet-strict w f h s =
    let a = sub-strict w f h s in
    strict-sub w (map unmark_row f) h (record { words = a.words; flying = all_map flying_strict flying_strict unmark_row unmark-strict f a.flying; held = a.held })

-- ---- all consumers

abbrev one : Id → Def.Sub → Def.Sub
one id s = whether is_id id s then no_tx s else s

module _ (id : Id) (n : ℕ) (subs rows₀ : List Row) where
  abbrev ws : List Row
  ws = take n subs

  pub record Unmarking (i base : ℕ) (rows : List Row) : Type 0 where
    pub start : base ≡ sub_rows (take i ws)
    pub within : i ≤ n
    pub size : length rows ≡ length rows₀
    pub rest : drop base rows ≡ drop base rows₀
    pub said : (k : Kind) → subs_at k (take i ws) rows ≡ map (one id) (subs_at k (take i ws) rows₀)
    pub strict : subs_strict ws rows₀ ≡ true → subs_strict (take i ws) rows ≡ true

  pub unmarking-start : Unmarking 0 0 rows₀
  unfolding each_sub sub_rows
  unmarking-start = record { start = refl; within = omega arith; size = refl; rest = refl; said = λ k. refl; strict = λ _. refl }

module _ (id : Id) (d : Head) (subs rows₀ : List Row) (a : Fits subs d (length rows₀) 545) where
  abbrev n : ℕ
  n = d.consumers

  abbrev us : List Row
  us = take d.consumers subs

  many : length us ≡ d.consumers
  many = length-take-le d.consumers subs (omega (arith, a.consumers, a.subs-long))

  module _ (i base : ℕ) (rows : List Row) (g : Unmarking id n subs rows₀ i base rows) (low : i < d.consumers) (s : Sub) (is : s ≡ row_sub (get_or subs i [])) where
    abbrev w : Row
    w = get_or us i []

    words : s ≡ row_sub w
    words = is ∙ ap row_sub (sym (get_or-take d.consumers subs i [] low))

    in-flight : s.inflight ≡ inflight_count w
    unfolding row_sub
    in-flight = ap (λ (x : Sub). x.inflight) words

    holds : s.held ≡ held_count w
    unfolding row_sub
    holds = ap (λ (x : Sub). x.held) words

    next : sub_rows (take (suc i) us) ≡ base + (s.inflight + s.held)
    next = omega (arith, rows_next us i (omega (arith, many)), g.start, in-flight, holds)

    pub unmarking-room : base + (s.inflight + s.held) ≤ 512
    unmarking-room = omega (arith, next, rows_take us (suc i), a.rows-used, a.used)

    module _ (rows' : List Row)
        (q : rows' ≡ (whether same_id (id_of s.conn s.session s.value) id then map_rows unmark_row base (base + s.inflight) rows else rows))
      where
        abbrev f : ℕ
        f = s.inflight

        abbrev h : ℕ
        h = s.held

        abbrev x : List Row
        x = drop base rows₀

        abbrev marked : List Row
        marked = map_rows unmark_row base (base + f) rows

        fits : base + (f + h) ≤ length rows
        fits = omega (arith, unmarking-room, g.size, a.rows_long)

        module _ (kind : Kind) where
          -- what the consumer's part becomes
          record Part (l : List Row) (v : Def.Sub) : Type 0 where
            long : length l ≡ length rows
            front : take base l ≡ take base rows
            here : sub_at kind w (take f (drop base l)) (take h (drop f (drop base l))) ≡ v
            strict : sub_strict w (take f x) (take h (drop f x)) ≡ true → sub_strict w (take f (drop base l)) (take h (drop f (drop base l))) ≡ true
            after : drop (base + (f + h)) l ≡ drop (base + (f + h)) rows

          abbrev seen : Def.Sub
          seen = sub_at kind w (take f x) (take h (drop f x))

          part_same : Part rows seen
          part_same = record {
            long = refl;
            front = refl;
            here = ap (λ (l : List Row). sub_at kind w (take f l) (take h (drop f l))) g.rest;
            strict = λ t. ap (λ (l : List Row). sub_strict w (take f l) (take h (drop f l))) g.rest ∙ t;
            after = refl;
          }

          part-marked : Part marked (no_tx seen)
          part-marked =
              let e : base + f - base ≡ f = omega arith in
              let own : slice base (base + f) rows ≡ take f x = slice-take base (base + f) rows (omega arith) ∙ ap₂ (λ (n : ℕ) (l : List Row). take n l) e g.rest in
              let mine : take f (drop base marked) ≡ map unmark_row (take f x) =
              ap (λ (n : ℕ). take n (drop base marked)) (sym e) ∙ sym (slice-take base (base + f) marked (omega arith))
              ∙ ap (drop base) (map-used unmark_row base (base + f) rows (omega arith) (omega (arith, fits)))
              ∙ drop_at (take base rows) (map unmark_row (slice base (base + f) rows)) base (length-take-le base rows (omega (arith, fits)))
              ∙ ap (map unmark_row) own in
              let later : drop f (drop base marked) ≡ drop f x =
              drop-drop f base marked ∙ map-after unmark_row base (base + f) rows (base + f) (omega arith) ∙ sym (drop-drop f base rows) ∙ ap (drop f) g.rest in
              record {
                long = map-length unmark_row base (base + f) rows;
                front = map-before unmark_row base (base + f) rows base (omega arith);
                here = ap₂ (λ (l m : List Row). sub_at kind w l (take h m)) mine later ∙ quiet-sub kind w (take f x) (take h (drop f x));
                strict = λ t. ap₂ (λ (l m : List Row). sub_strict w l (take h m)) mine later ∙ quiet-strict w (take f x) (take h (drop f x)) t;
                after = map-after unmark_row base (base + f) rows (base + (f + h)) (omega arith);
              }

          same_id_lem : is_id id seen ≡ same_id (id_of s.conn s.session s.value) id
          unfolding sub_at row_sub
          same_id_lem = ap (λ (y : Sub). same_id (id_of y.conn y.session y.value) id) (sym words)

          part : Part rows' (one id seen)
          part = by-test (same_id (id_of s.conn s.session s.value) id)
              (λ t.
              let r : rows' ≡ marked = q ∙ if-true marked rows t in
              let v : one id seen ≡ no_tx seen = if-true (no_tx seen) seen (same_id_lem ∙ t) in
              transport (λ j. Part (sym r j) (sym v j)) part-marked)
              (λ t.
              let r : rows' ≡ rows = q ∙ if-false marked rows t in
              let v : one id seen ≡ seen = if-false (no_tx seen) seen (same_id_lem ∙ t) in
              transport (λ j. Part (sym r j) (sym v j)) part_same)

          -- the consumers up to this one
          upto : (l : List Row) (v : Def.Sub) → sub_at kind w (take f (drop base l)) (take h (drop f (drop base l))) ≡ v → subs_at kind (take (suc i) us) l ≡ subs_at kind (take i us) l ++ v ∷ []
          unfolding each_sub
          upto l v e =
              ap (λ (y : List Row). subs_at kind y l) (take-suc us i [] (omega (arith, many)))
              ∙ subs-append kind (take i us) (w ∷ []) l
              ∙ ap (λ (n : ℕ). subs_at kind (take i us) l ++ subs_at kind (w ∷ []) (drop n l)) (sym g.start)
              ∙ ap₂ (λ (n m : ℕ). subs_at kind (take i us) l ++ sub_at kind w (take n (drop base l)) (take m (drop n (drop base l))) ∷ []) (sym in-flight) (sym holds)
              ∙ ap (λ (y : Def.Sub). subs_at kind (take i us) l ++ y ∷ []) e

          upto_all : subs_at kind (take (suc i) us) rows' ≡ map (one id) (subs_at kind (take (suc i) us) rows₀)
          upto_all =
              let before : subs_at kind (take i us) rows' ≡ subs_at kind (take i us) rows = subs-agree kind (take i us) base rows' rows (omega (arith, g.start)) part.front in
              upto rows' (one id seen) part.here
              ∙ ap (λ (l : List Def.Sub). l ++ one id seen ∷ []) (before ∙ g.said kind)
              ∙ sym (map-append (one id) (subs_at kind (take i us) rows₀) (seen ∷ []))
              ∙ ap (map (one id)) (sym (upto rows₀ seen refl))

        -- strict words of this consumer, and of those up to it
        strict-here : subs_strict us rows₀ ≡ true → sub_strict w (take f x) (take h (drop f x)) ≡ true
        strict-here t =
            (λ j. sub_strict w (take (in-flight j) (drop (g.start j) rows₀)) (take (holds j) (drop (in-flight j) (drop (g.start j) rows₀))))
            ∙ strict-sub w _ _ (strict-at us rows₀ i (omega (arith, many)) t).own

        strict-upto : subs_strict us rows₀ ≡ true → subs_strict (take (suc i) us) rows' ≡ true
        unfolding each_sub
        strict-upto t =
            let p = part (kind_by d.queue) in
            let mine : subs_strict (w ∷ []) (drop (sub_rows (take i us)) rows') ≡ true =
            (λ j. sub_strict w (take (sym in-flight j) (drop (sym g.start j) rows')) (take (sym holds j) (drop (sym in-flight j) (drop (sym g.start j) rows'))) && true)
            ∙ and_both (sub_strict w (take f (drop base rows')) (take h (drop f (drop base rows')))) true (p.strict (strict-here t)) refl in
            ap (λ (y : List Row). subs_strict y rows') (take-suc us i [] (omega (arith, many)))
            ∙ strict-append (take i us) (w ∷ []) rows'
            ∙ and_both (subs_strict (take i us) rows') _ (strict-agree (take i us) base rows' rows (omega (arith, g.start)) p.front ∙ g.strict t) mine

        pub unmarking-turn : Unmarking id n subs rows₀ (i + 1) (base + s.inflight + s.held) rows'
        unmarking-turn =
            let e : base + f + h ≡ base + (f + h) = omega arith in
            let o : i + 1 ≡ suc i = omega arith in
            let p = part (kind_by d.queue) in
            record {
              start = omega (arith, ap (λ (n : ℕ). sub_rows (take n us)) o, next);
              within = omega arith;
              size = p.long ∙ g.size;
              rest = ap (λ (n : ℕ). drop n rows') e ∙ p.after ∙ agree-later base (base + (f + h)) rows rows₀ (omega arith) g.rest ∙ ap (λ (n : ℕ). drop n rows₀) (sym e);
              said = λ k. rw o (upto_all k);
              strict = λ t. rw o (strict-upto t);
            }

  -- all are done
  pub unmarking-leaves : (i base : ℕ) (rows events : List Row) → Unmarking id n subs rows₀ i base rows → d.consumers ≤ i → Leaves (silent (unmarked id)) d d subs rows₀ events subs rows events
  unfolding head_view
  unmarking-leaves i base rows events g b =
      let e : i ≡ d.consumers = omega (arith, g.within) in
      let all : take i us ≡ us = ap (λ (n : ℕ). take n us) e ∙ take-take d.consumers d.consumers subs (omega arith) in
      let m : base ≡ sub_rows us = g.start ∙ ap sub_rows all in
      let others : drop (sub_rows us) rows ≡ drop (sub_rows us) rows₀ = ap (λ (n : ℕ). drop n rows) (sym m) ∙ g.rest ∙ ap (λ (n : ℕ). drop n rows₀) m in
      let mine : subs_at (kind_by d.queue) us rows ≡ map (one id) (subs_at (kind_by d.queue) us rows₀) =
      ap (λ (l : List Row). subs_at (kind_by d.queue) l rows) (sym all) ∙ g.said (kind_by d.queue) ∙ ap (λ (l : List Row). map (one id) (subs_at (kind_by d.queue) l rows₀)) all in
      record {
        view = λ p u _.
            λ j. Def.with_subs (mine j) (Def.with_pending (map entry_of (take d.waiting (drop d.reserved (others j)))) (Def.with_reserved (map held_at (take d.reserved (others j))) (head_view d subs rows₀ p u)));
        sent = λ p u _. sym (append-nil (take d.events events));
        later = refl;
        more = omega arith;
        producers = refl;
        audits = refl;
        queue = refl;
        allowance = refl;
        share = refl;
        consumers = a.consumers;
        used = a.used;
        rows-used = a.rows-used;
        strict = λ t.
            let b = tables-strict (d.reserved + d.waiting) us rows₀ t in
            strict-tables (d.reserved + d.waiting) us rows
            (record { subs = ap (λ (l : List Row). subs_strict l rows) (sym all) ∙ g.strict b.subs; others = ap (λ (l : List Row). Base.all entry_strict (take (d.reserved + d.waiting) l)) others ∙ b.others });
        subs-past = refl;
        rows-past = agree-later base 512 rows rows₀ (omega (arith, m, a.rows-used, a.used)) g.rest;
        subs-length = refl;
        rows-length = g.size;
        events-length = refl;
      }
