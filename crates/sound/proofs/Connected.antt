-- Connections: what is gathered of a queue's rows, and the turns of the loops that gather. Assumes nothing.
use mathlib.Core.Path.{◌≡◌, refl, sym, ap, ap₂, ◌∙◌}
use mathlib.Core.Bool.{Bool, true, false}
use mathlib.Core.List.{List, [], ◌∷◌, ◌++◌, map, append_assoc, append-nil}
use Prim.Native.Nat.{ℕ, ◌+◌, ◌≤◌, ◌<◌}
use native.Mathlib.Omega.{arith}
use lib.ListN.{length, take, drop, get_or, length-append, length-take, length-map}
use lib.Seq.{drop-drop, take-add}
use Rattle.words.specs.Pick.{whether◌then◌else◌}
use Rattle.entry.specs.Entry.{entry_of}
use Rattle.definition.specs.Types.{Kind, queue, Entry}
use Rattle.definition.specs.Consumer.{is_browser}
use Rattle.definition.specs.Calls.{flying, consumer_rows, taken, within_share}
use Rattle.definition.specs.Words.{at}
use Rattle.definition.specs.Layout.{Row, flag, sub_at, each_sub, subs_at, sub_rows}
use Rattle.definition.proofs.Stored.{flying-rows}
use Rattle.definition.proofs.Thin.{map-append}
use Rattle.subrows.specs.Subrows.{reserved_at, waiting_at}
use Rattle.sound.specs.Sound.{conns_at, own_conns, shares_at}
use Rattle.subrows.proofs.Subs.{browses, item-turn}
use Rattle.std.proofs.lemmas.List.{drop_all}
use Rattle.sound.proofs.Gathered.{taken-small}
use Rattle.sound.proofs.Sizes.{used-parts}
use Rattle.shares.specs.Shares.{within_each, conns}
use Rattle.shares.proofs.Laws.{within-full, within-turned, within-swapped, within-conns}

conns-rows : (l : List Row) → conns_at l ≡ conns (map entry_of l)
unfolding entry_of
conns-rows [] = refl
conns-rows (w ∷ l) = ap (λ (m : List ℕ). at 3 w ∷ m) (conns-rows l)

conns-append : (l m : List Entry) → conns (l ++ m) ≡ conns l ++ conns m
conns-append l m = map-append (λ e. e.producer) l m

-- one consumer's rows that are entries of the queue
module _ (w : Row) (rows : List Row) (base : ℕ) where
  taken_here : conns (let s = sub_at queue w (take (at 14 w) (drop base rows)) (take (at 15 w) (drop (at 14 w) (drop base rows))) in whether is_browser s then [] else flying s)
      ≡ conns_at (take (whether flag (at 6 w) then 0 else at 14 w) (drop base rows))
  unfolding is_browser sub_at
  taken_here =
      let f : List Row = take (at 14 w) (drop base rows) in
      ap₂ (λ (b : Bool) (l : List Entry). conns (whether b then [] else l)) (browses (flag (at 6 w)) (map entry_of (take (at 15 w) (drop (at 14 w) (drop base rows))))) (flying-rows f)
      ∙ pick (flag (at 6 w))
    where
      pick : (b : Bool) → conns (whether b then [] else map entry_of (take (at 14 w) (drop base rows))) ≡ conns_at (take (whether b then 0 else at 14 w) (drop base rows))
      pick true = refl
      pick false = sym (conns-rows (take (at 14 w) (drop base rows)))

-- a queue's entries in flight, from consumer i on
module _ (us : List Row) (i : ℕ) (rows : List Row) (base : ℕ) where
  taken-turn : i < length us → let w = get_or us i [] in conns (taken (subs_at queue (drop i us) (drop base rows)))
      ≡ conns_at (take (whether flag (at 6 w) then 0 else at 14 w) (drop base rows)) ++ conns (taken (subs_at queue (drop (i + 1) us) (drop (base + (at 14 w + at 15 w)) rows)))
  unfolding each_sub
  taken-turn h =
      let w = get_or us i [] in
      let s = sub_at queue w (take (at 14 w) (drop base rows)) (take (at 15 w) (drop (at 14 w) (drop base rows))) in
      let d : drop (at 15 w) (drop (at 14 w) (drop base rows)) ≡ drop (base + (at 14 w + at 15 w)) rows =
      drop-drop (at 15 w) (at 14 w) (drop base rows) ∙ drop-drop (at 14 w + at 15 w) base rows in
      ap (λ (l : List Row). conns (taken (subs_at queue l (drop base rows)))) (item-turn us i h)
      ∙ map-append (λ e. e.producer) (whether is_browser s then [] else flying s) (taken (subs_at queue (drop (i + 1) us) (drop (at 15 w) (drop (at 14 w) (drop base rows)))))
      ∙ ap₂ (λ (l : List ℕ) (r : List Row). l ++ conns (taken (subs_at queue (drop (i + 1) us) r))) (taken_here w rows base) d

  module _ (was out next : List ℕ) (start end k : ℕ) (total : List ℕ)
      (e : take end out ++ conns (taken (subs_at queue (drop i us) (drop base rows))) ≡ total) where
    pub taken_next : i < length us → let w = get_or us i [] in k ≡ (whether flag (at 6 w) then 0 else at 14 w)
        → take (end + k) next ≡ take end out ++ conns_at (take k (drop base rows))
        → take (end + k) next ++ conns (taken (subs_at queue (drop (i + 1) us) (drop (base + (at 14 w + at 15 w)) rows))) ≡ total
    taken_next h q g =
        let w = get_or us i [] in
        let r : List ℕ = conns (taken (subs_at queue (drop (i + 1) us) (drop (base + (at 14 w + at 15 w)) rows))) in
        ap (λ (l : List ℕ). l ++ r) g
        ∙ append_assoc (take end out) (conns_at (take k (drop base rows))) r
        ∙ ap (λ (j : ℕ). take end out ++ (conns_at (take j (drop base rows)) ++ r)) q
        ∙ ap (λ (l : List ℕ). take end out ++ l) (sym (taken-turn h))
        ∙ e

    pub taken-end : length us ≤ i → take end out ≡ total
    unfolding each_sub
    taken-end q =
        sym (ap (λ (l : List Row). take end out ++ conns (taken (subs_at queue l (drop base rows)))) (drop_all i us q) ∙ append-nil (take end out)) ∙ e

-- ---- all that belong to connections

taken-count : (ws rows : List Row) → length (conns (taken (subs_at queue ws rows))) ≤ sub_rows ws
unfolding each_sub sub_rows
taken-count [] rows = omega arith
taken-count (w ∷ ws) rows =
    let s = sub_at queue w (take (at 14 w) rows) (take (at 15 w) (drop (at 14 w) rows)) in
    let mine : List Entry = whether is_browser s then [] else flying s in
    let rest : List Entry = taken (subs_at queue ws (drop (at 15 w) (drop (at 14 w) rows))) in
    let k : ℕ = whether flag (at 6 w) then 0 else at 14 w in
    let here = ap length (taken_here w rows 0) ∙ length-map (take k rows) (at 3) ∙ length-take k rows in
    omega (arith, ap length (conns-append mine rest), length-append (conns mine) (conns rest), here, taken-small w, taken-count ws (drop (at 15 w) (drop (at 14 w) rows)))

module _ (rest : ℕ) (us rows : List Row) where
  own-count : (q : Bool) → length (own_conns q (sub_rows us) rest us rows) ≤ sub_rows us + rest
  own-count true =
      let l : List Row = take rest (drop (sub_rows us) rows) in
      omega (arith, length-append (conns_at l) (conns (taken (subs_at queue us rows))), length-map l (at 3), length-take rest (drop (sub_rows us) rows), taken-count us rows)
  own-count false = let l : List Row = take (sub_rows us + rest) rows in omega (arith, length-map l (at 3), length-take (sub_rows us + rest) rows)

  -- a share of all that are in use
  pub shares-full : (share others : ℕ) (q : Bool) → others ≡ sub_rows us → others + rest ≤ share → shares_at share q others rest us rows ≡ true
  shares-full share others q e h =
      ap (λ (n : ℕ). shares_at share q n rest us rows) e ∙ within-full share (own_conns q (sub_rows us) rest us rows) (omega (arith, own-count q, e, h))

-- what is gathered are the connections of the rows that the definitions count
module _ (share reserved waiting : ℕ) (us rows : List Row) where
  abbrev w : List Entry
  w = map entry_of (waiting_at (sub_rows us) reserved waiting rows)

  abbrev r : List Entry
  r = map entry_of (reserved_at (sub_rows us) reserved rows)

  three : (a b c : List Entry) → conns (a ++ (b ++ c)) ≡ conns a ++ (conns b ++ conns c)
  three a b c = conns-append a (b ++ c) ∙ ap (λ (l : List ℕ). conns a ++ l) (conns-append b c)

  ends : (x : List Entry) → within_each share ((conns r ++ conns w) ++ conns x) ≡ within_share share (w ++ (r ++ x))
  ends x =
      ap (within_each share) (append_assoc (conns r) (conns w) (conns x))
      ∙ within-swapped share (conns r) (conns w) (conns x)
      ∙ sym (within-conns share (w ++ (r ++ x)) ∙ ap (within_each share) (three w r x))

  pub own-queue : shares_at share true (sub_rows us) (reserved + waiting) us rows ≡ within_share share (w ++ (r ++ taken (subs_at queue us rows)))
  own-queue =
      let z : List Row = drop (sub_rows us) rows in
      let two : conns_at (take (reserved + waiting) z) ≡ conns r ++ conns w =
      conns-rows (take (reserved + waiting) z)
      ∙ ap (λ (l : List Row). conns (map entry_of l)) (take-add reserved waiting z ∙ ap (λ (l : List Row). take reserved z ++ take waiting l) (drop-drop reserved (sub_rows us) rows))
      ∙ ap conns (map-append entry_of (reserved_at (sub_rows us) reserved rows) (waiting_at (sub_rows us) reserved waiting rows))
      ∙ conns-append r w in
      ap (λ (l : List ℕ). within_each share (l ++ conns (taken (subs_at queue us rows)))) two
      ∙ ends (taken (subs_at queue us rows))

  pub own-topic : (k : Kind) → shares_at share false (sub_rows us) (reserved + waiting) us rows ≡ within_share share (w ++ (r ++ consumer_rows (subs_at k us rows)))
  own-topic k =
      let x : List Entry = consumer_rows (subs_at k us rows) in
      let n : sub_rows us + (reserved + waiting) ≡ sub_rows us + reserved + waiting = omega arith in
      let all : conns_at (take (sub_rows us + (reserved + waiting)) rows) ≡ conns x ++ (conns r ++ conns w) =
      conns-rows (take (sub_rows us + (reserved + waiting)) rows)
      ∙ ap (λ (m : ℕ). conns (map entry_of (take m rows))) n
      ∙ ap conns (used-parts reserved waiting us rows k)
      ∙ three x r w in
      ap (within_each share) all ∙ within-turned share (conns x) (conns r ++ conns w) ∙ ends x
