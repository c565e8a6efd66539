-- Sequence numbers: what is gathered of rows, of one consumer's and of a queue's, and the turns of the loops that gather. Assumes nothing.
use mathlib.Core.Path.{◌≡◌, refl, sym, ap, ap₂, ◌∙◌}
use mathlib.Core.Bool.{Bool, true, false, not, ◌||◌}
use mathlib.Core.List.{List, [], ◌∷◌, ◌++◌, map, append_assoc, append-nil}
use Prim.Native.Nat.{ℕ, suc, ◌+◌, ◌≤◌, ◌<◌}
use native.Mathlib.Numerals.{add-one}
use native.Mathlib.Omega.{arith}
use lib.ListN.{length, take, drop, get_or, set, length-drop}
use lib.Seq.{drop-drop, take-suc, take-suc-set, get_or-drop}
use Rattle.words.specs.Pick.{whether◌then◌else◌}
use Rattle.entry.specs.Entry.{entry_of}
use Rattle.definition.specs.Base.{distinct}
use Rattle.definition.specs.Types.{queue, topic, Entry}
use Rattle.definition.specs.Consumer.{is_browser}
use Rattle.definition.specs.Calls.{seqs, flying, taken}
use Rattle.definition.specs.Words.{at, kind_by}
use Rattle.definition.specs.Layout.{Row, flag, sub_at, each_sub, subs_at}
use Rattle.definition.proofs.Stored.{flying-rows, seqs-rows}
use Rattle.definition.proofs.Thin.{map-append}
use Rattle.subrows.specs.Subrows.{seqs_at}
use Rattle.sound.specs.Sound.{apart_by}
use Rattle.std.proofs.lemmas.List.{drop_all}
use Rattle.subrows.proofs.Subs.{browses, seqs-of-sub, item-turn}

-- one word more
module _ (word : ℕ) where
  pub words-more : (rows : List Row) (from i : ℕ) → from + i < length rows
      → map (at word) (take (i + 1) (drop from rows)) ≡ map (at word) (take i (drop from rows)) ++ at word (get_or rows (from + i) []) ∷ []
  words-more rows from i h =
      ap (λ (j : ℕ). map (at word) (take j (drop from rows))) (add-one i)
      ∙ ap (map (at word)) (take-suc (drop from rows) i [] (simp length-drop (omega arith)))
      ∙ map-append (at word) (take i (drop from rows)) (get_or (drop from rows) i [] ∷ [])
      ∙ ap (λ (w : Row). map (at word) (take i (drop from rows)) ++ at word w ∷ []) (get_or-drop from rows i [])

  pub gather-turn : (rows : List Row) (was out : List ℕ) (from start i : ℕ) → from + i < length rows → start + i < length out
      → take (start + i) out ≡ take start was ++ map (at word) (take i (drop from rows))
      → take (start + (i + 1)) (set out (start + i) (at word (get_or rows (from + i) []))) ≡ take start was ++ map (at word) (take (i + 1) (drop from rows))
  gather-turn rows was out from start i h k e =
      let v : ℕ = at word (get_or rows (from + i) []) in
      let n : start + (i + 1) ≡ suc (start + i) = omega arith in
      ap (λ (j : ℕ). take j (set out (start + i) v)) n
      ∙ take-suc-set out (start + i) v k
      ∙ ap (λ (l : List ℕ). l ++ v ∷ []) e
      ∙ append_assoc (take start was) (map (at word) (take i (drop from rows))) (v ∷ [])
      ∙ ap (λ (l : List ℕ). take start was ++ l) (sym (words-more rows from i h))

-- one consumer's rows
module _ (w : Row) (rows : List Row) (base : ℕ) where
  pub apart-here : (q : Bool)
      → (not (not q || flag (at 6 w)) || distinct (seqs_at (take (at 14 w + at 15 w) (drop base rows))))
      ≡ apart_by (kind_by q) (sub_at (kind_by q) w (take (at 14 w) (drop base rows)) (take (at 15 w) (drop (at 14 w) (drop base rows))))
  unfolding is_browser sub_at
  apart-here true =
      ap₂ (λ (b : Bool) (l : List ℕ). not b || distinct l) (sym (browses (flag (at 6 w)) (map entry_of (take (at 15 w) (drop (at 14 w) (drop base rows)))))) (sym (seqs-of-sub w rows base queue))
  apart-here false = ap distinct (sym (seqs-of-sub w rows base topic))

  -- those that are entries of the queue
  taken_here : seqs (let s = sub_at queue w (take (at 14 w) (drop base rows)) (take (at 15 w) (drop (at 14 w) (drop base rows))) in whether is_browser s then [] else flying s)
      ≡ seqs_at (take (whether flag (at 6 w) then 0 else at 14 w) (drop base rows))
  unfolding is_browser sub_at
  taken_here =
      let f : List Row = take (at 14 w) (drop base rows) in
      ap₂ (λ (b : Bool) (l : List Entry). seqs (whether b then [] else l)) (browses (flag (at 6 w)) (map entry_of (take (at 15 w) (drop (at 14 w) (drop base rows))))) (flying-rows f)
      ∙ pick (flag (at 6 w))
    where
      pick : (b : Bool) → seqs (whether b then [] else map entry_of (take (at 14 w) (drop base rows))) ≡ seqs_at (take (whether b then 0 else at 14 w) (drop base rows))
      pick true = refl
      pick false = sym (seqs-rows (take (at 14 w) (drop base rows)))

-- a queue's entries in flight, from consumer i on
module _ (us : List Row) (i : ℕ) (rows : List Row) (base : ℕ) where
  taken-turn : i < length us → let w = get_or us i [] in seqs (taken (subs_at queue (drop i us) (drop base rows)))
      ≡ seqs_at (take (whether flag (at 6 w) then 0 else at 14 w) (drop base rows)) ++ seqs (taken (subs_at queue (drop (i + 1) us) (drop (base + (at 14 w + at 15 w)) rows)))
  unfolding each_sub
  taken-turn h =
      let w = get_or us i [] in
      let s = sub_at queue w (take (at 14 w) (drop base rows)) (take (at 15 w) (drop (at 14 w) (drop base rows))) in
      let d : drop (at 15 w) (drop (at 14 w) (drop base rows)) ≡ drop (base + (at 14 w + at 15 w)) rows =
      drop-drop (at 15 w) (at 14 w) (drop base rows) ∙ drop-drop (at 14 w + at 15 w) base rows in
      ap (λ (l : List Row). seqs (taken (subs_at queue l (drop base rows)))) (item-turn us i h)
      ∙ map-append (λ e. e.seq) (whether is_browser s then [] else flying s) (taken (subs_at queue (drop (i + 1) us) (drop (at 15 w) (drop (at 14 w) (drop base rows)))))
      ∙ ap₂ (λ (l : List ℕ) (r : List Row). l ++ seqs (taken (subs_at queue (drop (i + 1) us) r))) (taken_here w rows base) d

  -- what was met, with theirs
  module _ (met total : List ℕ) (e : met ++ seqs (taken (subs_at queue (drop i us) (drop base rows))) ≡ total) where
    pub taken_more : (k : ℕ) → i < length us → let w = get_or us i [] in k ≡ (whether flag (at 6 w) then 0 else at 14 w)
        → (met ++ seqs_at (take k (drop base rows))) ++ seqs (taken (subs_at queue (drop (i + 1) us) (drop (base + (at 14 w + at 15 w)) rows))) ≡ total
    taken_more k h q =
        let w = get_or us i [] in
        let r : List ℕ = seqs (taken (subs_at queue (drop (i + 1) us) (drop (base + (at 14 w + at 15 w)) rows))) in
        append_assoc met (seqs_at (take k (drop base rows))) r
        ∙ ap (λ (j : ℕ). met ++ (seqs_at (take j (drop base rows)) ++ r)) q
        ∙ ap (λ (l : List ℕ). met ++ l) (sym (taken-turn h))
        ∙ e

    pub taken-all : length us ≤ i → met ≡ total
    unfolding each_sub
    taken-all q = sym (ap (λ (l : List Row). met ++ seqs (taken (subs_at queue l (drop base rows)))) (drop_all i us q) ∙ append-nil met) ∙ e

  module _ (was out next : List ℕ) (start end k : ℕ) (total : List ℕ)
      (e : take end out ++ seqs (taken (subs_at queue (drop i us) (drop base rows))) ≡ total) where
    pub taken_next : i < length us → let w = get_or us i [] in k ≡ (whether flag (at 6 w) then 0 else at 14 w)
        → take (end + k) next ≡ take end out ++ seqs_at (take k (drop base rows))
        → take (end + k) next ++ seqs (taken (subs_at queue (drop (i + 1) us) (drop (base + (at 14 w + at 15 w)) rows))) ≡ total
    taken_next h q g =
        let w = get_or us i [] in
        ap (λ (l : List ℕ). l ++ seqs (taken (subs_at queue (drop (i + 1) us) (drop (base + (at 14 w + at 15 w)) rows)))) g ∙ taken_more (take end out) total e k h q

    pub taken-end : length us ≤ i → take end out ≡ total
    taken-end q = taken-all (take end out) total e q

pub taken-small : (w : Row) → (whether flag (at 6 w) then 0 else at 14 w) ≤ at 14 w
taken-small w = pick (flag (at 6 w))
  where
    pick : (b : Bool) → (whether b then 0 else at 14 w) ≤ at 14 w
    pick true = omega arith
    pick false = omega arith
