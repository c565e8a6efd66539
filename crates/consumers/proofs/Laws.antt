-- The numbers of a consumer and of the table as the definitions have them of the view: credit, what is accepted, cursors back, all cleared, the
-- rows of the consumers, and sums over them. Assumes nothing.
use mathlib.Core.Path.{◌≡◌, refl, sym, ap, ap₂, ◌∙◌}
use mathlib.Core.Bool.{Bool, true, false, ◌&&◌, and-eq-true_iff}
use mathlib.Core.List.{List, [], ◌∷◌, ◌++◌, append_assoc, map, map-append}
use mathlib.Core.Option.{none, some}
use Prim.Native.Nat.{ℕ, zero, suc, ◌+◌, ◌-◌, ◌≤◌, ◌<◌}
use native.Mathlib.Nat.{not-suc-le-zero, le_of_suc-le-suc}
use native.Mathlib.Omega.{arith}
use borrow.Author.Tests.{leb-true, le-leb, lt-ltb}
use lib.Dec.{leb}
use lib.ListN.{length, take, drop, get_or, length-map, length-append, length-drop}
use lib.Seq.{slice, take-add, take_at, take-take, length-take-le, length-slice}
use Rattle.entry.specs.Entry.{entry_of}
use Rattle.definition.specs.Base.{whether◌then◌else◌, is_some, tally, all}
use Rattle.definition.specs.Types.{Kind, queue, topic, Entry}
use Rattle.definition.specs.Types as Def
use Rattle.definition.specs.Consumer.{has_credit, accepts, is_browser}
use Rattle.definition.specs.Destination.{hold_back, cleared, emptied, held_rows}
use Rattle.definition.specs.Calls.{rows_of, consumer_rows}
use Rattle.definition.specs.Queries.{is_queue}
use Rattle.definition.specs.Words.{at}
use Rattle.definition.specs.Layout.{Row, flag, inflight_at, inflight_count, held_count, browser_at, tpending_at, sub_at, each_sub, subs_at, sub_rows}
use Rattle.definition.proofs.Stored.{flying-rows, holding}
use Rattle.definition.proofs.Tests.{by-if}
use Rattle.consumers.specs.declared.Sub.{Sub}
use Rattle.consumers.specs.Consumers.{row_sub, sub_view, credit_of, accepts_of}
use Rattle.consumers.specs.Table.{taken_out, sub_removed, on_first, held_back_row, cleared_row, takes_entry, held_counted, kept_rows, fitting}

-- ---- one consumer

waiting : (b : Bool) (g : ℕ) → is_some (whether b then some g else none) ≡ b
waiting true g = refl
waiting false g = refl

pub credit : (k : Kind) (s : Sub) (f h : List Row) → length f ≡ s.inflight → has_credit (sub_view k s f h) ≡ credit_of s
unfolding has_credit sub_view credit_of
credit k s f h e = simp (waiting, length-map f inflight_at, e)

pub accepts-sub : (k : Kind) (s : Sub) (f h : List Row) (e : Entry) → accepts (sub_view k s f h) e ≡ accepts_of s e
unfolding accepts sub_view accepts_of
accepts-sub k s f h e = refl

browsing : (k : Kind) (b : Bool) (l : List Entry) → is_some (browser_at k b l) ≡ b
browsing k false l = refl
browsing queue true l = refl
browsing topic true l = refl

pub browser-sub : (k : Kind) (s : Sub) (f h : List Row) → is_browser (sub_view k s f h) ≡ s.browser
unfolding is_browser sub_view
browser-sub k s f h = browsing k s.browser (map entry_of h)

no-browser : (k : Kind) (b : Bool) (l : List Entry) → browser_at k b [] ≡ emptied (browser_at k b l)
no-browser k false l = refl
no-browser queue true l = refl
no-browser topic true l = refl

no-pending : (k : Kind) (b : Bool) → tpending_at k b [] ≡ []
no-pending queue true = refl
no-pending queue false = refl
no-pending topic b = refl

-- ---- all consumers

pub on-first : (f : Row → Row) (n : ℕ) (ws : List Row) → take n (on_first f n ws) ≡ map f (take n ws)
unfolding on_first
on-first f zero ws = refl
on-first f (suc n) [] = refl
on-first f (suc n) (w ∷ ws) = ap (λ (l : List Row). f w ∷ l) (on-first f n ws)

pub on-length : (f : Row → Row) (n : ℕ) (ws : List Row) → length (on_first f n ws) ≡ length ws
unfolding on_first
on-length f zero ws = refl
on-length f (suc n) [] = refl
on-length f (suc n) (w ∷ ws) = ap suc (on-length f n ws)

pub hold-back-rows : (seq : ℕ) (ws : List Row) → sub_rows (map (held_back_row seq) ws) ≡ sub_rows ws
unfolding sub_rows held_back_row
hold-back-rows seq [] = refl
hold-back-rows seq (w ∷ ws) = ap (λ (n : ℕ). inflight_count w + (held_count w + n)) (hold-back-rows seq ws)

pub hold-back-subs : (k : Kind) (seq : ℕ) (ws rows : List Row) → subs_at k (map (held_back_row seq) ws) rows ≡ map (hold_back seq) (subs_at k ws rows)
unfolding each_sub sub_at held_back_row
hold-back-subs k seq [] rows = refl
hold-back-subs k seq (w ∷ ws) rows =
    let f : List Row = take (inflight_count w) rows in
    let h : List Row = take (held_count w) (drop (inflight_count w) rows) in
    ap (λ (l : List Def.Sub). hold_back seq (sub_at k w f h) ∷ l) (hold-back-subs k seq ws (drop (held_count w) (drop (inflight_count w) rows)))

pub clear-rows : (ws : List Row) → sub_rows (map cleared_row ws) ≡ 0
unfolding sub_rows cleared_row
clear-rows [] = refl
clear-rows (w ∷ ws) = rw (clear-rows ws)

pub clear-subs : (k : Kind) (ws rows after : List Row) → subs_at k (map cleared_row ws) after ≡ map cleared (subs_at k ws rows)
unfolding each_sub sub_at cleared_row
clear-subs k [] rows after = refl
clear-subs k (w ∷ ws) rows after =
    let h : List Row = take (held_count w) (drop (inflight_count w) rows) in
    let r : subs_at k (map cleared_row ws) after ≡ map cleared (subs_at k ws (drop (held_count w) (drop (inflight_count w) rows))) = clear-subs k ws (drop (held_count w) (drop (inflight_count w) rows)) after in
    rw (r, no-browser k (flag (at 6 w)) (map entry_of h), no-pending k (flag (at 6 w)))

-- the same of the first n of the table
pub hold-back-first : (k : Kind) (seq n : ℕ) (ws rows : List Row) → subs_at k (take n (on_first (held_back_row seq) n ws)) rows ≡ map (hold_back seq) (subs_at k (take n ws) rows)
hold-back-first k seq n ws rows = ap (λ (l : List Row). subs_at k l rows) (on-first (held_back_row seq) n ws) ∙ hold-back-subs k seq (take n ws) rows

pub clear_first : (k : Kind) (n : ℕ) (ws rows after : List Row) → subs_at k (take n (on_first cleared_row n ws)) after ≡ map cleared (subs_at k (take n ws) rows)
clear_first k n ws rows after = ap (λ (l : List Row). subs_at k l after) (on-first cleared_row n ws) ∙ clear-subs k (take n ws) rows after

-- one taken out of the first n
pub removed-first : (at n : ℕ) (ws : List Row) → at < n → n ≤ length ws → take (n - 1) (sub_removed at n ws) ≡ take at (take n ws) ++ drop (suc at) (take n ws)
unfolding sub_removed taken_out
removed-first at n ws h g =
    let a : List Row = take at ws in
    let b : List Row = slice (suc at) n ws in
    let l : length (a ++ b) ≡ n - 1 = simp (length-append, length-take-le at ws (omega arith), length-slice (suc at) n ws g) (omega arith) in
    rw (le-leb n (length ws) g, lt-ltb at n h)
    (ap (take (n - 1)) (sym (append_assoc a b (drop (n - 1) ws)))
    ∙ take_at (a ++ b) (drop (n - 1) ws) (n - 1) l
    ∙ ap (λ (x : List Row). x ++ b) (sym (take-take at n ws (omega arith))))

pub tally-subs : (k : Kind) (e : Entry) (ws rows : List Row) → tally (λ s. accepts s e) (subs_at k ws rows) ≡ tally (takes_entry e) ws
unfolding each_sub sub_at accepts accepts_of row_sub
tally-subs k e [] rows = refl
tally-subs k e (w ∷ ws) rows = ap (λ (n : ℕ). (whether takes_entry e w then 1 else 0) + n) (tally-subs k e ws (drop (held_count w) (drop (inflight_count w) rows)))

-- ---- the rows of the consumers

pub rows-of-sub : (k : Kind) (w : Row) (f h : List Row) → rows_of (sub_at k w f h) ≡ map entry_of (f ++ h)
unfolding sub_at
rows-of-sub k w f h = ap₂ (λ (x y : List Entry). x ++ y) (flying-rows f) (holding k (flag (at 6 w)) (map entry_of h)) ∙ sym (map-append entry_of f h)

pub consumer-rows : (k : Kind) (ws rows : List Row) → consumer_rows (subs_at k ws rows) ≡ map entry_of (take (sub_rows ws) rows)
unfolding each_sub sub_rows
consumer-rows k [] rows = refl
consumer-rows k (w ∷ ws) rows =
    let a : ℕ = inflight_count w in
    let b : ℕ = held_count w in
    let f : List Row = take a rows in
    let h : List Row = take b (drop a rows) in
    let r : List Row = take (sub_rows ws) (drop b (drop a rows)) in
    ap₂ (λ (x y : List Entry). x ++ y) (rows-of-sub k w f h) (consumer-rows k ws (drop b (drop a rows)))
    ∙ sym (map-append entry_of (f ++ h) r)
    ∙ ap (map entry_of) (append_assoc f h r ∙ sym (take-add a (b + sub_rows ws) rows ∙ ap (λ (x : List Row). f ++ x) (take-add b (sub_rows ws) (drop a rows))))

pending-length : (k : Kind) (b : Bool) (l : List Entry) → length (tpending_at k b l) ≡ (whether is_queue k && b then 0 else length l)
pending-length queue true l = refl
pending-length queue false l = refl
pending-length topic b l = refl

pub held-subs : (k : Kind) (ws rows : List Row) → sub_rows ws ≤ length rows → held_rows (subs_at k ws rows) ≡ kept_rows (is_queue k) ws
unfolding each_sub sub_at sub_rows kept_rows
held-subs k [] rows h = refl
held-subs k (w ∷ ws) rows h =
    let a : ℕ = inflight_count w in
    let b : ℕ = held_count w in
    let l : List Row = take b (drop a rows) in
    let one : length (map inflight_at (take a rows)) ≡ a = length-map (take a rows) inflight_at ∙ length-take-le a rows (omega arith) in
    let all : length (map entry_of l) ≡ b = length-map l entry_of ∙ length-take-le b (drop a rows) (simp length-drop (omega arith)) in
    let two : length (tpending_at k (flag (at 6 w)) (map entry_of l)) ≡ held_counted (is_queue k) w =
    pending-length k (flag (at 6 w)) (map entry_of l) ∙ ap (λ (n : ℕ). whether is_queue k && flag (at 6 w) then 0 else n) all in
    let three : held_rows (subs_at k ws (drop b (drop a rows))) ≡ kept_rows (is_queue k) ws = held-subs k ws (drop b (drop a rows)) (simp length-drop (omega arith)) in
    λ i. one i + two i + three i

-- what counts of the consumers' rows is some of them
pub kept-few : (q : Bool) (ws : List Row) → kept_rows q ws ≤ sub_rows ws
unfolding kept_rows sub_rows
kept-few q [] = omega arith
kept-few q (w ∷ ws) =
    let one : held_counted q w ≤ held_count w = by-if (λ (n : ℕ). n ≤ held_count w) (q && flag (at 6 w)) 0 (held_count w) (λ _. omega arith) (λ _. omega arith) in
    omega (arith, one, kept-few q ws)

-- ---- counts that fit together

pub fitting-at : (ws : List Row) (i : ℕ) → all fitting ws ≡ true → i < length ws
    → (at 13 (get_or ws i []) ≤ at 14 (get_or ws i [])) × (at 8 (get_or ws i []) ≤ 72057594037927937) × (at 12 (get_or ws i []) ≤ 72057594037927937)
unfolding fitting
fitting-at [] i t h = absurd (not-suc-le-zero h)
fitting-at (w ∷ ws) zero t h =
    let p = (and-eq-true_iff (fitting w) (all fitting ws)).0 t in
    let q = (and-eq-true_iff (leb (at 13 w) (at 14 w)) (leb (at 8 w) 72057594037927937 && leb (at 12 w) 72057594037927937)).0 p.0 in
    let r = (and-eq-true_iff (leb (at 8 w) 72057594037927937) (leb (at 12 w) 72057594037927937)).0 q.1 in
    (leb-true (at 13 w) (at 14 w) q.0, leb-true (at 8 w) 72057594037927937 r.0, leb-true (at 12 w) 72057594037927937 r.1)
fitting-at (w ∷ ws) (suc i) t h = fitting-at ws i ((and-eq-true_iff (fitting w) (all fitting ws)).0 t).1 (le_of_suc-le-suc h)
