-- The consumers swept one after the other: what the definition says at the start, after one more, and at the end. Assumes nothing.
use mathlib.Core.Path.{◌≡◌, sym, ap, ap₂, ◌∙◌}
use mathlib.Core.Bool.{Bool, true, ◌&&◌}
use mathlib.Core.List.{List, [], ◌∷◌, ◌++◌, append-nil, append_assoc}
use Prim.Native.Nat.{ℕ, suc, ◌+◌, ◌-◌, ◌≤◌, ◌<◌}
use native.Mathlib.Numerals.{add-one}
use native.Mathlib.Omega.{arith}
use lib.ListN.{length, take, drop, get_or, set}
use lib.Seq.{slice, drop-drop, drop-length}
use Rattle.words.proofs.Lists.{set_next}
use Rattle.definition.specs.Types.{Kind, with_tpending}
use Rattle.definition.specs.Types as Def
use Rattle.definition.specs.Destination as Destination
use Rattle.definition.specs.Destination.{sweep_list, sweep_subs}
use Rattle.definition.specs.Base.{all}
use Rattle.definition.specs.Layout.{Row, each_sub, subs_at, sub_rows, entry_strict, flying_strict, subs_strict}
use Rattle.table.proofs.Lists.{agree-drop}
use Rattle.consumers.specs.declared.Sub.{Sub}
use Rattle.consumers.specs.Consumers.{row_sub, sub_words, sub_view, with_held}
use Rattle.consumers.proofs.Words.{round}
use Rattle.consumers.proofs.Strict.{stored-strict}
use Rattle.state.specs.State.{kind_by}
use Rattle.consumers.proofs.Line.{rows-one, subs-done, strict-done, left-size, subs-next, strict_next, subs-rest, strict-rest}
use Rattle.expiry.specs.declared.Swept.{Swept}
use Rattle.expiry.specs.Sweep.{sweep_listed, swept_unless, Shorter, StaysStrict}
use Rattle.expiry.proofs.Held.{low, flying-same, list-is, high, sub-left, gone-left}

-- the consumers, the rows after theirs, and how many went
pub record Whole : Type 0 where
  pub subs : List Def.Sub
  pub others : List Row
  pub gone : ℕ

-- with the consumers that are done before those that the definition has yet to sweep
abbrev ended : List Def.Sub → List Row → ℕ → Destination.SweptSubs → Whole
ended done others gone x = record { subs = done ++ x.subs; others = others; gone = gone + x.gone }

-- what the definition says when i of the consumers ws are done, whose rows end at base; m rows come after those of all
pub whole : ℕ → ℕ → Kind → List Row → ℕ → ℕ → ℕ → ℕ → List Row → List Row → Whole
whole most now k ws m i base gone subs rows =
    ended (subs_at k (take i subs) rows) (take m (drop (base + sub_rows (drop i ws)) rows)) gone (sweep_subs (most - gone) now (subs_at k (drop i ws) (drop base rows)))

pub whole-start : (most now : ℕ) (k : Kind) (ws : List Row) (m gone : ℕ) (subs rows : List Row)
    → whole most now k ws m 0 0 gone subs rows ≡ ended [] (take m (drop (sub_rows ws) rows)) gone (sweep_subs (most - gone) now (subs_at k ws rows))
unfolding whole each_sub
whole-start most now k ws m gone subs rows =
    let e : 0 + sub_rows ws ≡ sub_rows ws = omega arith in
    ap (λ (n : ℕ). ended [] (take m (drop n rows)) gone (sweep_subs (most - gone) now (subs_at k ws rows))) e

pub whole-end : (most now : ℕ) (k : Kind) (ws : List Row) (m i base gone : ℕ) (subs rows : List Row) → i ≡ length ws
    → whole most now k ws m i base gone subs rows ≡ record { subs = subs_at k (take i subs) rows; others = take m (drop base rows); gone = gone }
unfolding whole each_sub sub_rows sweep_subs
whole-end most now k ws m i base gone subs rows e =
    let none : drop i ws ≡ [] = ap (λ (n : ℕ). drop n ws) e ∙ drop-length ws in
    let z : base + 0 ≡ base = omega arith in
    let y : gone + 0 ≡ gone = omega arith in
    ap (λ (l : List Row). ended (subs_at k (take i subs) rows) (take m (drop (base + sub_rows l) rows)) gone (sweep_subs (most - gone) now (subs_at k l (drop base rows)))) none
    ∙ (λ j. record { subs = append-nil (subs_at k (take i subs) rows) j; others = take m (drop (z j) rows); gone = y j })

-- ---- one consumer

module _ (most now : ℕ) (q : Bool) (ws : List Row) (m i base : ℕ) (w start r : Swept) (subs rows rows' : List Row)
    (more : i < length ws)
    (within : i < length subs)
    (fits : base + sub_rows (drop i ws) + m ≡ w.used)
    (ends : base ≡ sub_rows (take i subs))
    (starts : start ≡ record { used = w.used; length = (row_sub (get_or ws i [])).held; gone = w.gone })
    (short : Shorter most start r)
    (said : sweep_listed (base + (row_sub (get_or ws i [])).inflight) r rows' ≡ swept_unless (q && (row_sub (get_or ws i [])).browser) most now (sweep_listed (base + (row_sub (get_or ws i [])).inflight) start rows))
  where
    abbrev k : Kind
    k = kind_by q

    abbrev s : Sub
    s = row_sub (get_or ws i [])

    abbrev t : Sub
    t = with_held r.length s

    abbrev post : List Row
    post = drop (suc i) ws

    -- where the consumer's rows ended, and where they end
    abbrev end : ℕ
    end = base + s.inflight + s.held

    abbrev end' : ℕ
    end' = base + s.inflight + r.length

    abbrev subs' : List Row
    subs' = set subs i (sub_words t)

    abbrev old : Def.Sub
    old = sub_view k s (take s.inflight (drop base rows)) (take s.held (drop (base + s.inflight) rows))

    abbrev x : Destination.Swept
    x = sweep_list (most - w.gone) now old.tpending

    size : sub_rows (drop i ws) ≡ s.inflight + (s.held + sub_rows post)
    size = left-size ws i more

    used-is : start.used ≡ w.used
    used-is = ap (λ (y : Swept). y.used) starts

    held-is : start.length ≡ s.held
    held-is = ap (λ (y : Swept). y.length) starts

    gone-is : start.gone ≡ w.gone
    gone-is = ap (λ (y : Swept). y.gone) starts

    inside : base + s.inflight + s.held ≤ start.used
    inside = omega (arith, size, used-is)

    left_is : drop (i + 1) ws ≡ post
    left_is = ap (λ (n : ℕ). drop n ws) (add-one i)

    pub fits-turn : end' + sub_rows (drop (i + 1) ws) + m ≡ r.used
    fits-turn = let z : sub_rows (drop (i + 1) ws) ≡ sub_rows post = ap sub_rows left_is in omega (arith, size, used-is, held-is, short.tail)

    pub used_turn : r.used ≤ w.used
    used_turn = omega (arith, used-is, short.tail, short.length)

    pre_is : take (i + 1) subs' ≡ take i subs ++ (sub_words t ∷ [])
    pre_is = set_next subs i (sub_words t) within

    pub ends-turn : end' ≡ sub_rows (take (i + 1) subs')
    unfolding sub_words
    ends-turn =
        let e : sub_rows (take (i + 1) subs') ≡ sub_rows (take i subs) + s.inflight + r.length = ap sub_rows pre_is ∙ rows-one (take i subs) (sub_words t) in
        omega arith

    mine : sub_view k t (take s.inflight (drop base rows')) (take r.length (drop (base + s.inflight) rows')) ≡ with_tpending x.list old
    mine = sub-left most now base q s start r rows rows' held-is inside short said ∙ ap (λ (n : ℕ). with_tpending (sweep_list (most - n) now old.tpending).list old) gone-is

    gone-more : r.gone ≡ w.gone + x.gone
    gone-more = gone-left most now base q s start r rows rows' held-is inside short said ∙ ap (λ (n : ℕ). n + (sweep_list (most - n) now old.tpending).gone) gone-is

    front : subs_at k (take (i + 1) subs') rows' ≡ subs_at k (take i subs) rows ++ (with_tpending x.list old ∷ [])
    unfolding sub_words
    front =
        let f : List Row = take s.inflight (drop base rows') in
        let h : List Row = take r.length (drop (base + s.inflight) rows') in
        ap (λ (l : List Row). subs_at k l rows') pre_is
        ∙ subs-done k (take i subs) (sub_words t) base rows rows' (with_tpending x.list old) ends (low most now base q s start r rows rows' held-is inside short said)
        (ap (λ (y : Sub). sub_view k y f h) (round t) ∙ mine)

    abbrev n : ℕ
    n = w.used - end

    agrees : take n (drop end' rows') ≡ take n (drop end rows)
    agrees =
        let e : start.used - end ≡ n = ap (λ (u : ℕ). u - end) used-is in
        ap (λ (u : ℕ). take u (drop end' rows')) (sym e) ∙ high most now base q s start r rows rows' held-is inside short said ∙ ap (λ (u : ℕ). take u (drop end rows)) e

    room : sub_rows post ≤ n
    room = omega (arith, size)

    back : subs_at k (drop (i + 1) ws) (drop end' rows') ≡ subs_at k post (drop end rows)
    back = subs-rest ws i more k n end end' rows rows' room agrees

    -- strict words of the consumers that are done, and of those that are left
    pub strict-turn : StaysStrict (base + s.inflight) start r rows rows' → subs_strict (take i subs) rows ≡ true → subs_strict (drop i ws) (drop base rows) ≡ true
        → (subs_strict (take (i + 1) subs') rows' ≡ true) × (subs_strict (drop (i + 1) ws) (drop end' rows') ≡ true)
    unfolding sub_words row_sub
    strict-turn stays done left =
        let a = strict_next ws i more base rows left in
        let from : ℕ = base + s.inflight in
        let list : (u : ℕ) (l : List Row) → slice from (from + u) l ≡ take u (drop from l) = list-is most now base q s start r rows rows' held-is inside short said in
        let old-list : all entry_strict (slice from (from + start.length) rows) ≡ true = ap (all entry_strict) (list start.length rows ∙ ap (λ (u : ℕ). take u (drop from rows)) held-is) ∙ a.0.held in (
          ap (λ (l : List Row). subs_strict l rows') pre_is
              ∙ strict-done (take i subs) (sub_words t) base rows rows' ends (low most now base q s start r rows rows' held-is inside short said) done (record {
                words = stored-strict t;
                flying = ap (all flying_strict) (flying-same most now base q s start r rows rows' held-is inside short said) ∙ a.0.flying;
                held = ap (all entry_strict) (sym (list r.length rows')) ∙ stays old-list;
              }),
          strict-rest ws i more n end end' rows rows' room agrees ∙ a.1,
        )

    others : take m (drop (end' + sub_rows (drop (i + 1) ws)) rows') ≡ take m (drop (base + sub_rows (drop i ws)) rows)
    others =
        let p : ℕ = sub_rows post in
        let count : m ≡ n - p = omega (arith, size) in
        let from : end + p ≡ base + sub_rows (drop i ws) = omega (arith, size) in
        ap₂ (λ (u : ℕ) (l : List Row). take u (drop (end' + sub_rows l) rows')) count left_is
        ∙ ap (take (n - p)) (sym (drop-drop p end' rows'))
        ∙ agree-drop p n (drop end' rows') (drop end rows) agrees room
        ∙ ap₂ take (sym count) (drop-drop p end rows ∙ ap (λ (u : ℕ). drop u rows) from)

    -- the definition sweeps this consumer, then the rest
    abbrev y : Destination.SweptSubs
    y = sweep_subs (most - w.gone - x.gone) now (subs_at k post (drop end rows))

    swept-next : sweep_subs (most - w.gone) now (subs_at k (drop i ws) (drop base rows)) ≡ record { subs = with_tpending x.list old ∷ y.subs; gone = x.gone + y.gone }
    unfolding sweep_subs row_sub
    swept-next = ap (sweep_subs (most - w.gone) now) (subs-next ws i more k base rows)

    pub whole-turn : whole most now k ws m (i + 1) end' r.gone subs' rows' ≡ whole most now k ws m i base w.gone subs rows
    unfolding whole
    whole-turn =
        let p : List Def.Sub = subs_at k (take i subs) rows in
        let o : List Row = take m (drop (base + sub_rows (drop i ws)) rows) in
        let b : most - r.gone ≡ most - w.gone - x.gone = omega (arith, gone-more) in
        let g : w.gone + x.gone + y.gone ≡ w.gone + (x.gone + y.gone) = omega arith in
        (λ j. ended (front j) (others j) (gone-more j) (sweep_subs (b j) now (back j)))
        ∙ (λ j. record { subs = append_assoc p (with_tpending x.list old ∷ []) y.subs j; others = o; gone = g j })
        ∙ ap (ended p o w.gone) (sym swept-next)
