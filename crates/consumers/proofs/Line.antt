-- A loop along the consumers that stores one a turn: the consumers that are done, the next one, and those that are left. Assumes nothing.
use mathlib.Core.Path.{◌≡◌, refl, sym, ap, ap₂, ◌∙◌}
use mathlib.Core.Bool.{true, ◌&&◌}
use mathlib.Core.List.{List, [], ◌∷◌, ◌++◌}
use Prim.Native.Nat.{ℕ, suc, ◌+◌, ◌≤◌, ◌<◌}
use native.Mathlib.Numerals.{add-one}
use native.Mathlib.Omega.{arith}
use lib.ListN.{length, take, drop, get_or}
use lib.Seq.{drop-cons, drop-drop, drop-length, take-take}
use Rattle.definition.specs.Base.{all, every}
use Rattle.definition.specs.Types.{Kind}
use Rattle.definition.specs.Types as Def
use Rattle.definition.specs.Layout.{Row, inflight_count, held_count, sub_at, each_sub, subs_at, sub_rows, entry_strict, words_strict, sub_strict, subs_strict, tables_strict}
use Rattle.definition.proofs.Tests.{and_left, and_right, and_both}
use Rattle.consumers.specs.Consumers.{row_sub, sub_view}
use Rattle.consumers.specs.Seats.{OwnStrict}
use Rattle.consumers.proofs.View.{sub_at_lem, each-agree, subs-append, subs-agree, rows_append, inflight-loaded, held-loaded, front-drop}
use Rattle.consumers.proofs.Strict.{SubStrict, strict-sub, sub-strict, strict-append, strict-agree, tables-strict, strict-tables}

-- ---- done

pub rows-one : (pre : List Row) (x : Row) → sub_rows (pre ++ (x ∷ [])) ≡ sub_rows pre + inflight_count x + held_count x
unfolding sub_rows
rows-one pre x = omega (arith, rows_append pre (x ∷ []))

-- the rows before base are as they were, and the one more is y
pub subs-done : (k : Kind) (pre : List Row) (x : Row) (base : ℕ) (rows rows' : List Row) (y : Def.Sub) → base ≡ sub_rows pre → take base rows' ≡ take base rows
    → sub_view k (row_sub x) (take (inflight_count x) (drop base rows')) (take (held_count x) (drop (base + inflight_count x) rows')) ≡ y
    → subs_at k (pre ++ (x ∷ [])) rows' ≡ subs_at k pre rows ++ (y ∷ [])
unfolding each_sub
subs-done k pre x base rows rows' y ends low is =
    let f : List Row = take (inflight_count x) (drop base rows') in
    let first : subs_at k pre rows' ≡ subs_at k pre rows = subs-agree k pre base rows' rows (omega arith) low in
    let mine : sub_at k x f (take (held_count x) (drop (inflight_count x) (drop base rows'))) ≡ y =
    ap (λ (l : List Row). sub_at k x f (take (held_count x) l)) (drop-drop (inflight_count x) base rows') ∙ sub_at_lem k x f (take (held_count x) (drop (base + inflight_count x) rows')) ∙ is in
    subs-append k pre (x ∷ []) rows'
    ∙ ap₂ (λ (l : List Def.Sub) (n : ℕ). l ++ subs_at k (x ∷ []) (drop n rows')) first (sym ends)
    ∙ ap (λ (z : Def.Sub). subs_at k pre rows ++ (z ∷ [])) mine

-- and its words are strict
pub strict-done : (pre : List Row) (x : Row) (base : ℕ) (rows rows' : List Row) → base ≡ sub_rows pre → take base rows' ≡ take base rows → subs_strict pre rows ≡ true
    → SubStrict x (take (inflight_count x) (drop base rows')) (take (held_count x) (drop (base + inflight_count x) rows')) → subs_strict (pre ++ (x ∷ [])) rows' ≡ true
unfolding each_sub
strict-done pre x base rows rows' ends low s t =
    let f : List Row = take (inflight_count x) (drop base rows') in
    let h : List Row = take (held_count x) (drop (inflight_count x) (drop base rows')) in
    let own : sub_strict x f h ≡ true =
    ap (λ (l : List Row). sub_strict x f (take (held_count x) l)) (drop-drop (inflight_count x) base rows') ∙ strict-sub x f (take (held_count x) (drop (base + inflight_count x) rows')) t in
    let mine : subs_strict (x ∷ []) (drop base rows') ≡ true = and_both (sub_strict x f h) true own refl in
    strict-append pre (x ∷ []) rows'
    ∙ and_both (subs_strict pre rows') _ (strict-agree pre base rows' rows (omega arith) low ∙ s) (ap (λ (n : ℕ). subs_strict (x ∷ []) (drop n rows')) (sym ends) ∙ mine)

-- ---- left

module _ (ws : List Row) (i : ℕ) (more : i < length ws) where
  abbrev w : Row
  w = get_or ws i []

  -- the rows that are left: those of the next consumer, and the rest
  pub left-size : sub_rows (drop i ws) ≡ (row_sub w).inflight + ((row_sub w).held + sub_rows (drop (suc i) ws))
  unfolding sub_rows row_sub
  left-size = ap sub_rows (drop-cons ws i [] more)

  -- what is read of the next consumer, whose rows begin at base, and of the rest
  module _ {A : Type 0} (of : Row → List Row → List Row → A) where
    each_next : (base : ℕ) (rows : List Row) → each_sub of (drop i ws) (drop base rows)
        ≡ of w (take (inflight_count w) (drop base rows)) (take (held_count w) (drop (base + inflight_count w) rows)) ∷ each_sub of (drop (suc i) ws) (drop (base + inflight_count w + held_count w) rows)
    unfolding each_sub
    each_next base rows =
        let f : List Row = take (inflight_count w) (drop base rows) in
        let one : drop (inflight_count w) (drop base rows) ≡ drop (base + inflight_count w) rows = drop-drop (inflight_count w) base rows in
        let two : drop (held_count w) (drop (inflight_count w) (drop base rows)) ≡ drop (base + inflight_count w + held_count w) rows = ap (drop (held_count w)) one ∙ drop-drop (held_count w) (base + inflight_count w) rows in
        ap (λ (l : List Row). each_sub of l (drop base rows)) (drop-cons ws i [] more)
        ∙ ap₂ (λ (l m : List Row). of w f (take (held_count w) l) ∷ each_sub of (drop (suc i) ws) m) one two

    -- the rest, whose rows stand further down with n of them as they were
    each-rest : (n end end' : ℕ) (rows rows' : List Row) → sub_rows (drop (suc i) ws) ≤ n → take n (drop end' rows') ≡ take n (drop end rows)
        → each_sub of (drop (i + 1) ws) (drop end' rows') ≡ each_sub of (drop (suc i) ws) (drop end rows)
    each-rest n end end' rows rows' h q =
        ap (λ (m : ℕ). each_sub of (drop m ws) (drop end' rows')) (add-one i) ∙ each-agree of (drop (suc i) ws) n (drop end' rows') (drop end rows) h q

  pub subs-next : (k : Kind) (base : ℕ) (rows : List Row) → subs_at k (drop i ws) (drop base rows)
      ≡ sub_view k (row_sub w) (take (inflight_count w) (drop base rows)) (take (held_count w) (drop (base + inflight_count w) rows)) ∷ subs_at k (drop (suc i) ws) (drop (base + inflight_count w + held_count w) rows)
  subs-next k base rows =
      each_next (sub_at k) base rows
      ∙ ap (λ (s : Def.Sub). s ∷ subs_at k (drop (suc i) ws) (drop (base + inflight_count w + held_count w) rows)) (sub_at_lem k w (take (inflight_count w) (drop base rows)) (take (held_count w) (drop (base + inflight_count w) rows)))

  pub strict_next : (base : ℕ) (rows : List Row) → subs_strict (drop i ws) (drop base rows) ≡ true
      → SubStrict w (take (inflight_count w) (drop base rows)) (take (held_count w) (drop (base + inflight_count w) rows)) × (subs_strict (drop (suc i) ws) (drop (base + inflight_count w + held_count w) rows) ≡ true)
  strict_next base rows h =
      let f : List Row = take (inflight_count w) (drop base rows) in
      let l : List Row = take (held_count w) (drop (base + inflight_count w) rows) in
      let both : (sub_strict w f l && subs_strict (drop (suc i) ws) (drop (base + inflight_count w + held_count w) rows)) ≡ true = sym (ap every (each_next sub_strict base rows)) ∙ h in
      (sub-strict w f l (and_left (sub_strict w f l) _ both), and_right (sub_strict w f l) _ both)

  pub subs-rest : (k : Kind) (n end end' : ℕ) (rows rows' : List Row) → sub_rows (drop (suc i) ws) ≤ n → take n (drop end' rows') ≡ take n (drop end rows)
      → subs_at k (drop (i + 1) ws) (drop end' rows') ≡ subs_at k (drop (suc i) ws) (drop end rows)
  subs-rest k n end end' rows rows' h q = each-rest (sub_at k) n end end' rows rows' h q

  pub strict-rest : (n end end' : ℕ) (rows rows' : List Row) → sub_rows (drop (suc i) ws) ≤ n → take n (drop end' rows') ≡ take n (drop end rows)
      → subs_strict (drop (i + 1) ws) (drop end' rows') ≡ subs_strict (drop (suc i) ws) (drop end rows)
  strict-rest n end end' rows rows' h q = ap every (each-rest sub_strict n end end' rows rows' h q)

-- ---- strict words of the tables

-- of the consumers that are done, of those that are left, whose rows begin at base, and of n rows after theirs
pub record LineStrict (n : ℕ) (ws subs : List Row) (i base : ℕ) (rows : List Row) : Type 0 where
  pub done : subs_strict (take i subs) rows ≡ true
  pub left : subs_strict (drop i ws) (drop base rows) ≡ true
  pub others : all entry_strict (take n (drop (base + sub_rows (drop i ws)) rows)) ≡ true

pub line-start : (n : ℕ) (ws subs rows : List Row) → tables_strict n ws rows ≡ true → LineStrict n ws subs 0 0 rows
unfolding each_sub
line-start n ws subs rows h =
    let t = tables-strict n ws rows h in
    let e : 0 + sub_rows ws ≡ sub_rows ws = omega arith in
    record { done = refl; left = t.subs; others = ap (λ (k : ℕ). all entry_strict (take n (drop k rows))) e ∙ t.others }

pub line-end : (n : ℕ) (ws subs : List Row) (i base : ℕ) (rows : List Row) → i ≡ length ws → base ≡ sub_rows (take i subs) → LineStrict n ws subs i base rows → tables_strict n (take i subs) rows ≡ true
unfolding sub_rows
line-end n ws subs i base rows e b l =
    let none : drop i ws ≡ [] = ap (λ (k : ℕ). drop k ws) e ∙ drop-length ws in
    let z : sub_rows (take i subs) ≡ base + sub_rows (drop i ws) = omega (arith, ap sub_rows none) in
    strict-tables n (take i subs) rows (record { subs = l.done; others = ap (λ (k : ℕ). all entry_strict (take n (drop k rows))) z ∙ l.others })

module _ (n : ℕ) (ws subs : List Row) (i base : ℕ) (rows : List Row) (more : i < length ws) (l : LineStrict n ws subs i base rows) where
  abbrev here : Row
  here = get_or ws i []

  -- the next consumer
  pub line-words : words_strict here ≡ true
  line-words = (strict_next ws i more base rows l.left).0.words

  pub line-own : OwnStrict base (inflight_count here) (held_count here) rows
  line-own = let p = (strict_next ws i more base rows l.left).0 in record { flying = p.flying; held = p.held }

  -- it is x now, with its rows from base on; m rows after them are as they were; n' rows after those of the consumers are strict
  pub line_step : (subs' : List Row) (x : Row) (rows' : List Row) (m end end' n' : ℕ) → take (i + 1) subs' ≡ take i subs ++ (x ∷ []) → base ≡ sub_rows (take i subs)
      → end ≡ base + inflight_count here + held_count here → words_strict x ≡ true → OwnStrict base (inflight_count x) (held_count x) rows' → take base rows' ≡ take base rows
      → sub_rows (drop (suc i) ws) ≤ m → take m (drop end' rows') ≡ take m (drop end rows) → all entry_strict (take n' (drop (end' + sub_rows (drop (suc i) ws)) rows')) ≡ true
      → LineStrict n' ws subs' (i + 1) end' rows'
  line_step subs' x rows' m end end' n' front ends e words o low few high others = record {
    done = ap (λ (y : List Row). subs_strict y rows') front ∙ strict-done (take i subs) x base rows rows' ends low l.done (record { words = words; flying = o.flying; held = o.held });
    left = strict-rest ws i more m end end' rows rows' few high ∙ ap (λ (j : ℕ). subs_strict (drop (suc i) ws) (drop j rows)) e ∙ (strict_next ws i more base rows l.left).1;
    others = ap (λ (j : ℕ). all entry_strict (take n' (drop (end' + sub_rows (drop j ws)) rows'))) (add-one i) ∙ others;
  }

  -- the rows after those of the consumers, in the old places
  pub line-others : (end : ℕ) → end ≡ base + inflight_count here + held_count here → all entry_strict (take n (drop (end + sub_rows (drop (suc i) ws)) rows)) ≡ true
  line-others end e =
      let from : end + sub_rows (drop (suc i) ws) ≡ base + sub_rows (drop i ws) = omega (arith, left-size ws i more, inflight-loaded here, held-loaded here) in
      ap (λ (j : ℕ). all entry_strict (take n (drop j rows))) from ∙ l.others

  -- all of these are as they were
  pub line-turn : (subs' : List Row) (x : Row) (rows' : List Row) (m end end' : ℕ) → take (i + 1) subs' ≡ take i subs ++ (x ∷ []) → base ≡ sub_rows (take i subs)
      → end ≡ base + inflight_count here + held_count here → words_strict x ≡ true → OwnStrict base (inflight_count x) (held_count x) rows' → take base rows' ≡ take base rows
      → sub_rows (drop (suc i) ws) + n ≤ m → take m (drop end' rows') ≡ take m (drop end rows)
      → LineStrict n ws subs' (i + 1) end' rows'
  line-turn subs' x rows' m end end' front ends e words o low few high =
      let k : ℕ = sub_rows (drop (suc i) ws) in
      let span : take n (drop (end' + k) rows') ≡ take n (drop (end + k) rows) =
      ap (take n) (sym (drop-drop k end' rows')) ∙ sym (front-drop k n (drop end' rows'))
      ∙ ap (drop k) (sym (take-take (k + n) m (drop end' rows') few) ∙ ap (take (k + n)) high ∙ take-take (k + n) m (drop end rows) few)
      ∙ front-drop k n (drop end rows) ∙ ap (take n) (drop-drop k end rows) in
      line_step subs' x rows' m end end' n front ends e words o low (omega arith) high (ap (all entry_strict) span ∙ line-others end e)
