-- Consumers: the definitions' tests of one as tests of its words and its rows, and the turns of the loops over consumers. Assumes nothing.
use mathlib.Core.Path.{◌≡◌, refl, sym, ap, ap₂, ◌∙◌}
use mathlib.Core.Bool.{Bool, true, false, not, ◌&&◌, ◌||◌, and_assoc}
use mathlib.Core.List.{List, [], ◌∷◌, ◌++◌, map}
use mathlib.Core.Option.{none, some}
use Prim.Native.Nat.{ℕ, suc, ◌+◌, ◌≤◌, ◌<◌}
use native.Mathlib.Nat.{zero-add}
use native.Mathlib.Omega.{arith}
use borrow.Author.Tests.{le-leb, lt-leb}
use lib.Dec.{leb, ltb, eqb, leb-zero}
use lib.ListN.{length, take, drop, get_or, length-drop}
use lib.Seq.{slice, drop-cons, drop-drop, take-add}
use native.Mathlib.Numerals.{add-one}
use Rattle.std.proofs.lemmas.List.{drop_all}
use Rattle.words.specs.Pick.{whether◌then◌else◌}
use Rattle.words.proofs.Tests.{by-test}
use Rattle.model.specs.Model.{same_id}
use Rattle.entry.specs.Entry.{entry_of}
use Rattle.definition.specs.Base.{all, every, tally, empty, is_some, rising, ascending}
use Rattle.definition.specs.Types.{Kind, queue, topic, Id, Entry}
use Rattle.definition.specs.Consumer.{shown}
use Rattle.definition.specs.Calls.{id_ok, entry_ok, optional, seqs, rows_of, distinct_ids}
use Rattle.definition.specs.Words.{at, kind_by}
use Rattle.definition.specs.Layout.{Row, flag, id_at, inflight_at, browser_at, tpending_at, sub_at, each_sub, subs_at, sub_rows, is_mark, entry_strict, flying_strict, words_strict, sub_strict}
use Rattle.definition.proofs.Tests.{and_left, and_right, and_both}
use Rattle.definition.proofs.Thin.{every-all, all-every, map-append}
use Rattle.definition.proofs.Lists.{empty-map, all-joined}
use Rattle.definition.proofs.Stored.{flying-rows, holding, seqs-rows}
use Rattle.distinct.proofs.Laws.{iff}
use Rattle.subrows.specs.Subrows.{upward, row_ok, flight_ok, flying_ok, sorted_ok, word_tests, held_ok, own_tests, own_sound, own_ok, ids_apart, seqs_at, rows_up_to}
use Rattle.subrows.proofs.Tests.{swap_inner, part-turn, part_end, part_of, empty-take}

-- ---- rows

upward-rises : (x : ℕ) (l : List ℕ) → upward (suc x) l ≡ rising x l
upward-rises x [] = refl
upward-rises x (y ∷ l) = ap (λ (b : Bool). ltb x y && b) (upward-rises y l)

upward-ascends : (l : List ℕ) → upward 0 l ≡ ascending l
upward-ascends [] = refl
upward-ascends (x ∷ l) = ap₂ ◌&&◌ (leb-zero x) (upward-rises x l)

dseqs-rows : (f : List Row) → map (at 6) f ≡ map (λ i. i.dseq) (map inflight_at f)
dseqs-rows [] = refl
dseqs-rows (w ∷ f) = ap (λ (l : List ℕ). at 6 w ∷ l) (dseqs-rows f)

freed-rows : (f : List Row) → tally (λ w. flag (at 7 w)) f ≡ tally (λ i. i.freed) (map inflight_at f)
freed-rows [] = refl
freed-rows (w ∷ f) = ap (λ (n : ℕ). (whether flag (at 7 w) then 1 else 0) + n) (freed-rows f)

pub rows_ok : (l : List Row) → all row_ok l ≡ (all entry_ok (map entry_of l) && all entry_strict l)
rows_ok [] = refl
rows_ok (w ∷ l) = ap (λ (t : Bool). row_ok w && t) (rows_ok l) ∙ swap_inner (entry_ok (entry_of w)) (entry_strict w) (all entry_ok (map entry_of l)) (all entry_strict l)

flights-ok : (l : List Row) → all flight_ok l ≡ (all entry_ok (map entry_of l) && all flying_strict l)
unfolding flying_strict
flights-ok [] = refl
flights-ok (w ∷ l) =
    ap₂ ◌&&◌ (and_assoc (entry_ok (entry_of w)) (entry_strict w) (is_mark (at 7 w) && is_mark (at 8 w))) (flights-ok l)
    ∙ swap_inner (entry_ok (entry_of w)) (flying_strict w) (all entry_ok (map entry_of l)) (all flying_strict l)

pub flying-means : (next freed : ℕ) (f : List Row)
    → flying_ok 0 0 next freed f
    ≡ ((all entry_ok (map entry_of f) && all flying_strict f) && (ascending (map (λ i. i.dseq) (map inflight_at f) ++ next ∷ []) && eqb freed (tally (λ i. i.freed) (map inflight_at f))))
unfolding flying_ok
flying-means next freed f =
    ap₂ ◌&&◌ (flights-ok f)
    (ap₂ ◌&&◌ (upward-ascends (map (at 6) f ++ next ∷ []) ∙ ap (λ (l : List ℕ). ascending (l ++ next ∷ [])) (dseqs-rows f))
    (ap (eqb freed) (zero-add (tally (λ w. flag (at 7 w)) f) ∙ freed-rows f)))

pub sorted-means : (l : List Row) → sorted_ok 0 l ≡ ((all entry_ok (map entry_of l) && all entry_strict l) && ascending (seqs (map entry_of l)))
unfolding sorted_ok
sorted-means l = ap₂ ◌&&◌ (rows_ok l) (upward-ascends (map (at 0) l) ∙ ap ascending (seqs-rows l))

pub sorted_rises : (l : List Row) → sorted_ok 0 l ≡ true → ascending (seqs_at l) ≡ true
unfolding sorted_ok
sorted_rises l e = sym (upward-ascends (seqs_at l)) ∙ and_right (all row_ok l) (upward 0 (seqs_at l)) e

-- ---- one consumer

-- its rows
pub rows-of-sub : (k : Kind) (w : Row) (f h : List Row) → rows_of (sub_at k w f h) ≡ map entry_of f ++ map entry_of h
unfolding sub_at
rows-of-sub k w f h = ap₂ (λ (a b : List Entry). a ++ b) (flying-rows f) (holding k (flag (at 6 w)) (map entry_of h))

pub browses : (k : Bool) (l : List Entry) → is_some (browser_at queue k l) ≡ k
browses true l = refl
browses false l = refl

-- one consumer's rows
module _ (w : Row) (rows : List Row) (base : ℕ) where
  pub seqs-of-sub : (k : Kind)
      → seqs (rows_of (sub_at k w (take (at 14 w) (drop base rows)) (take (at 15 w) (drop (at 14 w) (drop base rows))))) ≡ seqs_at (take (at 14 w + at 15 w) (drop base rows))
  seqs-of-sub k =
      let f : List Row = take (at 14 w) (drop base rows) in
      let h : List Row = take (at 15 w) (drop (at 14 w) (drop base rows)) in
      ap seqs (rows-of-sub k w f h ∙ sym (map-append entry_of f h) ∙ ap (map entry_of) (sym (take-add (at 14 w) (at 15 w) (drop base rows))))
      ∙ sym (seqs-rows (take (at 14 w + at 15 w) (drop base rows)))

queue-held : (b : Bool) (l : List Entry) → empty (tpending_at queue b l) ≡ (b || empty l)
queue-held true l = refl
queue-held false l = refl

queue-sorted : (b : Bool) (l : List Entry) → (b || empty l) ≡ true → ascending (seqs (tpending_at queue b l)) ≡ true
queue-sorted true l e = refl
queue-sorted false [] e = refl
queue-sorted false (x ∷ l) e = absurd (let z : ◌≡◌ {A = ℕ} 0 1 = cc in omega arith)

topic-shown : (b : Bool) (l : List Entry) → empty (shown (browser_at topic b l)) ≡ true
topic-shown true l = refl
topic-shown false l = refl

pub optional-test : (p : ℕ → Bool) (a b : ℕ) → optional p (whether flag a then some b else none) ≡ (eqb a 0 || p b)
optional-test p a b = by-test (eqb a 0) (λ t. rw t) (λ t. rw t)

pull-test : (most a b : ℕ) → optional (λ g. leb g most) (whether flag a then some b else none) ≡ (eqb a 0 || leb b most)
pull-test most a b = optional-test (λ g. leb g most) a b

-- the parts that the code tests, for a queue's consumer and a topic's
module _ (most : ℕ) (w : Row) (f h : List Row) (named : id_ok (id_at w) ≡ true) (none-held : eqb (at 15 w) 0 ≡ empty h) where
  rows-parts : (k : Kind) → all entry_ok (rows_of (sub_at k w f h)) ≡ (all entry_ok (map entry_of f) && all entry_ok (map entry_of h))
  rows-parts k = ap (all entry_ok) (rows-of-sub k w f h) ∙ all-joined entry_ok (map entry_of f) (map entry_of h)

  abbrev strict_tests : List Bool
  strict_tests = words_strict w ∷ all flying_strict f ∷ all entry_strict h ∷ []

  pub own-tests : (q : Bool) → own_ok (kind_by q) most w f h ≡ (every (word_tests q most w) && (flying_ok 0 0 (at 8 w) (at 13 w) f && held_ok q h))
  unfolding own_sound sub_at sub_strict
  own-tests true = iff _ _
      (λ e.
      let p = every-all (own_tests queue most (sub_at queue w f h)) (and_left (own_sound queue most (sub_at queue w f h)) (sub_strict w f h) e) in
      let s = every-all strict_tests (and_right (own_sound queue most (sub_at queue w f h)) (sub_strict w f h) e) in
      let r = sym (rows-parts queue) ∙ p.1.1.1.0 in
      let x = and_left (all entry_ok (map entry_of f)) (all entry_ok (map entry_of h)) r in
      let y = and_right (all entry_ok (map entry_of f)) (all entry_ok (map entry_of h)) r in
      and_both (every (word_tests true most w)) (flying_ok 0 0 (at 8 w) (at 13 w) f && held_ok true h)
      (all-every (word_tests true most w) (
        p.1.0,
        (
          p.1.1.0,
          (
            p.1.1.1.1.0,
            (
              p.1.1.1.1.1.1.1.1.0,
              (
                p.1.1.1.1.1.1.1.1.1.0,
                (
                  sym (pull-test most (at 10 w) (at 11 w)) ∙ p.1.1.1.1.1.1.1.1.1.1.0,
                  (ap (λ (t : Bool). flag (at 6 w) || t) (none-held ∙ sym (empty-map entry_of h)) ∙ sym (queue-held (flag (at 6 w)) (map entry_of h)) ∙ p.1.1.1.1.1.1.1.1.1.1.1.0, (s.0, tt)),
                ),
              ),
            ),
          ),
        ),
      ))
      (and_both (flying_ok 0 0 (at 8 w) (at 13 w) f) (held_ok true h)
      (flying-means (at 8 w) (at 13 w) f ∙ and_both _ _ (and_both _ _ x s.1.0) (and_both _ _ p.1.1.1.1.1.1.0 p.1.1.1.1.1.0))
      (rows_ok h ∙ and_both _ _ y s.1.1.0)))
      (λ e.
      let p = every-all (word_tests true most w) (and_left (every (word_tests true most w)) (flying_ok 0 0 (at 8 w) (at 13 w) f && held_ok true h) e) in
      let r = and_right (every (word_tests true most w)) (flying_ok 0 0 (at 8 w) (at 13 w) f && held_ok true h) e in
      let u = sym (flying-means (at 8 w) (at 13 w) f) ∙ and_left (flying_ok 0 0 (at 8 w) (at 13 w) f) (held_ok true h) r in
      let v = sym (rows_ok h) ∙ and_right (flying_ok 0 0 (at 8 w) (at 13 w) f) (held_ok true h) r in
      let a = all entry_ok (map entry_of f) in
      let af = and_left (a && all flying_strict f) _ u in
      let b = ascending (map (λ i. i.dseq) (map inflight_at f) ++ at 8 w ∷ []) in
      let d = eqb (at 13 w) (tally (λ i. i.freed) (map inflight_at f)) in
      let m = and_right (a && all flying_strict f) (b && d) u in
      let g = all entry_ok (map entry_of h) in
      let place = sym (ap (λ (t : Bool). flag (at 6 w) || t) (none-held ∙ sym (empty-map entry_of h))) ∙ p.1.1.1.1.1.1.0 in
      and_both (own_sound queue most (sub_at queue w f h)) (sub_strict w f h)
      (all-every (own_tests queue most (sub_at queue w f h)) (
        named,
        (
          p.0,
          (
            p.1.0,
            (
              rows-parts queue ∙ and_both a g (and_left a (all flying_strict f) af) (and_left g (all entry_strict h) v),
              (
                p.1.1.0,
                (
                  and_right b d m,
                  (
                    and_left b d m,
                    (
                      queue-sorted (flag (at 6 w)) (map entry_of h) place,
                      (
                        p.1.1.1.0,
                        (
                          p.1.1.1.1.0,
                          (
                            pull-test most (at 10 w) (at 11 w) ∙ p.1.1.1.1.1.0,
                            (queue-held (flag (at 6 w)) (map entry_of h) ∙ place, tt),
                          ),
                        ),
                      ),
                    ),
                  ),
                ),
              ),
            ),
          ),
        ),
      ))
      (all-every strict_tests (p.1.1.1.1.1.1.1.0, (and_right a (all flying_strict f) af, (and_right g (all entry_strict h) v, tt)))))
  own-tests false = iff _ _
      (λ e.
      let p = every-all (own_tests topic most (sub_at topic w f h)) (and_left (own_sound topic most (sub_at topic w f h)) (sub_strict w f h) e) in
      let s = every-all strict_tests (and_right (own_sound topic most (sub_at topic w f h)) (sub_strict w f h) e) in
      let r = sym (rows-parts topic) ∙ p.1.1.1.0 in
      let x = and_left (all entry_ok (map entry_of f)) (all entry_ok (map entry_of h)) r in
      let y = and_right (all entry_ok (map entry_of f)) (all entry_ok (map entry_of h)) r in
      and_both (every (word_tests false most w)) (flying_ok 0 0 (at 8 w) (at 13 w) f && held_ok false h)
      (all-every (word_tests false most w) (
        p.1.0,
        (
          p.1.1.0,
          (
            p.1.1.1.1.0,
            (
              p.1.1.1.1.1.1.1.1.0,
              (
                p.1.1.1.1.1.1.1.1.1.0,
                (sym (pull-test most (at 10 w) (at 11 w)) ∙ p.1.1.1.1.1.1.1.1.1.1.0, (refl, (s.0, tt))),
              ),
            ),
          ),
        ),
      ))
      (and_both (flying_ok 0 0 (at 8 w) (at 13 w) f) (held_ok false h)
      (flying-means (at 8 w) (at 13 w) f ∙ and_both _ _ (and_both _ _ x s.1.0) (and_both _ _ p.1.1.1.1.1.1.0 p.1.1.1.1.1.0))
      (sorted-means h ∙ and_both _ _ (and_both _ _ y s.1.1.0) p.1.1.1.1.1.1.1.0)))
      (λ e.
      let p = every-all (word_tests false most w) (and_left (every (word_tests false most w)) (flying_ok 0 0 (at 8 w) (at 13 w) f && held_ok false h) e) in
      let r = and_right (every (word_tests false most w)) (flying_ok 0 0 (at 8 w) (at 13 w) f && held_ok false h) e in
      let u = sym (flying-means (at 8 w) (at 13 w) f) ∙ and_left (flying_ok 0 0 (at 8 w) (at 13 w) f) (held_ok false h) r in
      let v = sym (sorted-means h) ∙ and_right (flying_ok 0 0 (at 8 w) (at 13 w) f) (held_ok false h) r in
      let a = all entry_ok (map entry_of f) in
      let af = and_left (a && all flying_strict f) _ u in
      let b = ascending (map (λ i. i.dseq) (map inflight_at f) ++ at 8 w ∷ []) in
      let d = eqb (at 13 w) (tally (λ i. i.freed) (map inflight_at f)) in
      let m = and_right (a && all flying_strict f) (b && d) u in
      let g = all entry_ok (map entry_of h) in
      let s = ascending (seqs (map entry_of h)) in
      let gh = and_left (g && all entry_strict h) s v in
      and_both (own_sound topic most (sub_at topic w f h)) (sub_strict w f h)
      (all-every (own_tests topic most (sub_at topic w f h)) (
        named,
        (
          p.0,
          (
            p.1.0,
            (
              rows-parts topic ∙ and_both a g (and_left a (all flying_strict f) af) (and_left g (all entry_strict h) gh),
              (
                p.1.1.0,
                (
                  and_right b d m,
                  (
                    and_left b d m,
                    (
                      and_right (g && all entry_strict h) s v,
                      (
                        p.1.1.1.0,
                        (
                          p.1.1.1.1.0,
                          (
                            pull-test most (at 10 w) (at 11 w) ∙ p.1.1.1.1.1.0,
                            (topic-shown (flag (at 6 w)) (map entry_of h), tt),
                          ),
                        ),
                      ),
                    ),
                  ),
                ),
              ),
            ),
          ),
        ),
      ))
      (all-every strict_tests (p.1.1.1.1.1.1.1.0, (and_right a (all flying_strict f) af, (and_right g (all entry_strict h) gh, tt)))))

-- the same with its rows where they stand
module _ (q : Bool) (most : ℕ) (w : Row) (rows : List Row) (base : ℕ) (b : base + (at 14 w + at 15 w) ≤ length rows) (named : id_ok (id_at w) ≡ true) where
  abbrev pub placed_ok : Bool
  placed_ok = own_ok (kind_by q) most w (take (at 14 w) (drop base rows)) (take (at 15 w) (drop (at 14 w) (drop base rows)))

  placed-tests : placed_ok
      ≡ (every (word_tests q most w) && (flying_ok 0 0 (at 8 w) (at 13 w) (slice base (base + at 14 w) rows) && held_ok q (slice (base + at 14 w) (base + at 14 w + at 15 w) rows)))
  placed-tests =
      let held : slice (base + at 14 w) (base + at 14 w + at 15 w) rows ≡ take (at 15 w) (drop (at 14 w) (drop base rows)) =
      part_of rows (base + at 14 w) (at 15 w) (omega arith) ∙ ap (take (at 15 w)) (sym (drop-drop (at 14 w) base rows)) in
      own-tests most w (take (at 14 w) (drop base rows)) (take (at 15 w) (drop (at 14 w) (drop base rows))) named
      (empty-take (at 15 w) (drop (at 14 w) (drop base rows)) (simp length-drop (omega arith))) q
      ∙ ap₂ (λ (f h : List Row). every (word_tests q most w) && (flying_ok 0 0 (at 8 w) (at 13 w) f && held_ok q h))
      (sym (part_of rows base (at 14 w) (omega arith))) (sym held)

  pub placed-words : every (word_tests q most w) ≡ false → false ≡ placed_ok
  placed-words e =
      sym (placed-tests ∙ ap (λ (t : Bool). t && (flying_ok 0 0 (at 8 w) (at 13 w) (slice base (base + at 14 w) rows) && held_ok q (slice (base + at 14 w) (base + at 14 w + at 15 w) rows))) e)

  pub placed-flying : every (word_tests q most w) ≡ true → flying_ok 0 0 (at 8 w) (at 13 w) (slice base (base + at 14 w) rows) ≡ false → false ≡ placed_ok
  placed-flying e f = sym (placed-tests ∙ ap₂ (λ (s t : Bool). s && (t && held_ok q (slice (base + at 14 w) (base + at 14 w + at 15 w) rows))) e f)

  pub placed-held : every (word_tests q most w) ≡ true → flying_ok 0 0 (at 8 w) (at 13 w) (slice base (base + at 14 w) rows) ≡ true
      → held_ok q (slice (base + at 14 w) (base + at 14 w + at 15 w) rows) ≡ placed_ok
  placed-held e f = sym (placed-tests ∙ ap₂ (λ (s t : Bool). s && (t && held_ok q (slice (base + at 14 w) (base + at 14 w + at 15 w) rows))) e f)

-- ---- the loops

module _ (subs : List Row) (i n : ℕ) (b : n ≤ length subs) where
  pub rows-turn : i < n → sub_rows (slice i n subs) ≡ at 14 (get_or subs i []) + (at 15 (get_or subs i []) + sub_rows (slice (i + 1) n subs))
  unfolding sub_rows
  rows-turn h = ap sub_rows (part-turn subs i n [] h b)

  pub rows_end : i ≡ n → sub_rows (slice i n subs) ≡ 0
  unfolding sub_rows
  rows_end q = ap sub_rows (part_end subs i n q)

-- ---- the same of each consumer of a list in turn, as `for` takes them

module _ (us : List Row) (i : ℕ) where
  pub item-turn : i < length us → drop i us ≡ get_or us i [] ∷ drop (i + 1) us
  item-turn h = drop-cons us i [] h ∙ ap (λ (j : ℕ). get_or us i [] ∷ drop j us) (sym (add-one i))

  pub rows-item : i < length us → sub_rows (drop i us) ≡ at 14 (get_or us i []) + (at 15 (get_or us i []) + sub_rows (drop (i + 1) us))
  unfolding sub_rows
  rows-item h = ap sub_rows (item-turn h)

  pub rows-done : length us ≤ i → sub_rows (drop i us) ≡ 0
  unfolding sub_rows
  rows-done h = ap sub_rows (drop_all i us h)

  module _ (total : Bool) (e : ids_apart (drop i us) ≡ total) where
    ids-turn : i < length us → (all (λ v. not (same_id (id_at v) (id_at (get_or us i [])))) (drop (i + 1) us) && ids_apart (drop (i + 1) us)) ≡ total
    ids-turn h = sym (ap ids_apart (item-turn h)) ∙ e

    pub ids-stop : i < length us → all (λ v. not (same_id (id_at v) (id_at (get_or us i [])))) (drop (i + 1) us) ≡ false → false ≡ total
    ids-stop h q = sym (ap (λ (t : Bool). t && ids_apart (drop (i + 1) us)) q) ∙ ids-turn h

    pub ids_next : i < length us → all (λ v. not (same_id (id_at v) (id_at (get_or us i [])))) (drop (i + 1) us) ≡ true → ids_apart (drop (i + 1) us) ≡ total
    ids_next h q = sym (ap (λ (t : Bool). t && ids_apart (drop (i + 1) us)) q) ∙ ids-turn h

    pub ids-end : length us ≤ i → true ≡ total
    ids-end h = sym (ap ids_apart (drop_all i us h)) ∙ e

  module _ {A : Type 0} (p : A → Bool) (of : Row → List Row → List Row → A) (rows : List Row) (base : ℕ) (total : Bool) (e : all p (each_sub of (drop i us) (drop base rows)) ≡ total) where
    abbrev pub item : A
    item = let w = get_or us i [] in of w (take (at 14 w) (drop base rows)) (take (at 15 w) (drop (at 14 w) (drop base rows)))

    pub item_turn : i < length us → (p item && all p (each_sub of (drop (i + 1) us) (drop (base + (at 14 (get_or us i []) + at 15 (get_or us i []))) rows))) ≡ total
    unfolding each_sub
    item_turn h =
        let w = get_or us i [] in
        let d : drop (at 15 w) (drop (at 14 w) (drop base rows)) ≡ drop (base + (at 14 w + at 15 w)) rows =
        drop-drop (at 15 w) (at 14 w) (drop base rows) ∙ drop-drop (at 14 w + at 15 w) base rows in
        sym (ap (λ (l : List Row). all p (each_sub of l (drop base rows))) (item-turn h)
        ∙ ap (λ (l : List Row). p item && all p (each_sub of (drop (i + 1) us) l)) d) ∙ e

    pub item-stop : i < length us → p item ≡ false → false ≡ total
    item-stop h q = sym (ap (λ (t : Bool). t && all p (each_sub of (drop (i + 1) us) (drop (base + (at 14 (get_or us i []) + at 15 (get_or us i []))) rows))) q) ∙ item_turn h

    pub item-next : i < length us → p item ≡ true → all p (each_sub of (drop (i + 1) us) (drop (base + (at 14 (get_or us i []) + at 15 (get_or us i []))) rows)) ≡ total
    item-next h q = sym (ap (λ (t : Bool). t && all p (each_sub of (drop (i + 1) us) (drop (base + (at 14 (get_or us i []) + at 15 (get_or us i []))) rows))) q) ∙ item_turn h

    pub item-end : length us ≤ i → true ≡ total
    unfolding each_sub
    item-end h = sym (ap (λ (l : List Row). all p (each_sub of l (drop base rows))) (drop_all i us h)) ∙ e

pub rows_in_lem : (n : ℕ) → n ≤ 512 → n ≡ rows_up_to n
rows_in_lem n h = rw (le-leb n 512 h)

pub rows-over : (n : ℕ) → 512 < n → 513 ≡ rows_up_to n
rows-over n h = rw (lt-leb n 512 h)

-- ---- identifiers

others-ids : (k : Kind) (j : Id) (ws rows : List Row) → all (λ r. not (same_id r.id j)) (subs_at k ws rows) ≡ all (λ v. not (same_id (id_at v) j)) ws
unfolding each_sub sub_at
others-ids k j [] rows = refl
others-ids k j (w ∷ ws) rows = ap (λ (t : Bool). not (same_id (id_at w) j) && t) (others-ids k j ws (drop (at 15 w) (drop (at 14 w) rows)))

pub ids-means : (k : Kind) (ws rows : List Row) → distinct_ids (subs_at k ws rows) ≡ ids_apart ws
unfolding each_sub sub_at
ids-means k [] rows = refl
ids-means k (w ∷ ws) rows = ap₂ ◌&&◌ (others-ids k (id_at w) ws (drop (at 15 w) (drop (at 14 w) rows))) (ids-means k ws (drop (at 15 w) (drop (at 14 w) rows)))
