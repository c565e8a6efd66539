-- The tests that the code makes come to what the definitions ask of buffers: for words, `sound_buffers` holds under exactly those tests.
-- Assumes nothing.
use mathlib.Core.Path.{◌≡◌, refl, sym, ap, ap₂, ◌∙◌}
use mathlib.Core.Bool.{Bool, true, false, not, ◌&&◌, ◌||◌, and-true, or-true}
use mathlib.Core.List.{List, [], ◌∷◌, ◌++◌, map, append-nil}
use mathlib.Core.Option.{Option, none, some}
use Prim.Native.Nat.{ℕ, zero, suc, ◌+◌, ◌≤◌, ◌^◌}
use native.Mathlib.Omega.{arith}
use borrow.Author.Tests.{eq-eqb, ltb-true, leb-true, eqb-true, lt-ltb, le-leb}
use lib.Dec.{leb, ltb, eqb}
use lib.ListN.{length, take, drop, length-append, length-take, length-drop, length-map}
use lib.Seq.{drop-drop, length-take-le, take-add}
use Rattle.words.specs.Pick.{whether◌then◌else◌}
use Rattle.words.proofs.Tests.{by-test}
use Rattle.audit.specs.Audit as Ring
use Rattle.audit.specs.declared.Audit as RingState
use Rattle.entry.specs.Entry.{entry_of}
use Rattle.definition.specs.Base.{all, every, empty, is_some, distinct, ascending}
use Rattle.definition.specs.Types.{Kind, queue, topic, Entry, Sub, Dest}
use Rattle.definition.specs.Consumer.{shown, is_browser}
use Rattle.definition.specs.Calls.{word, id_ok, entry_ok, clock_ok, bound, seqs, flying, rows_of, sub_tests, sub_sound, consumer_rows, taken, held, all_rows, placed, audit_ok, sizes_agree, own_rows, within_share, sound_tests, sound}
use Rattle.definition.specs.Words.{at, kind_of, kind_by}
use Rattle.definition.specs.Layout.{Row, Buffers, id_at, held_at, sub_at, each_sub, subs_at, sub_rows, ids_at, ring_at, audits_at, view, used_rows, rings_formed, is_mark, entry_strict, sub_strict, subs_strict, tables_strict, strict, formed, sound_buffers, lent}
use Rattle.definition.proofs.Tests.{and_left, and_right, and_both}
use Rattle.definition.proofs.Lists.{empty-nil, empty-map, all_first, all_rest, all_weaker, all-joined}
use Rattle.definition.proofs.Stored.{held_rows, ids-length, audits-length, seqs-rows, subs-length}
use Rattle.definition.proofs.Thin.{every-all, all-every, map-append}
use Rattle.distinct.proofs.Laws.{iff, distinct-left, distinct-right}
use Rattle.heads.specs.Heads.{limits_ok, counts_ok, marks_ok, head_ok}
use Rattle.subrows.specs.Subrows.{row_ok, holder_ok, own_tests, own_sound, own_ok, each_ok, seqs_at, reserved_at, waiting_at}
use Rattle.sound.specs.Sound.{apart_by, sizes_at, empty_by, queue_apart, table_tests, tables_ok, shares_at, rest_ok}
use Rattle.subrows.proofs.Tests.{swap_inner, empty-take, all_map}
use Rattle.subrows.proofs.Rows.{Words, words-drop, id-fits}
use Rattle.subrows.proofs.Subs.{rows_ok, sorted-means, rows-of-sub, optional-test, ids-means}
use Rattle.sound.proofs.Sizes.{agree-turned, used-parts}
use Rattle.sound.proofs.Connected.{own-queue, own-topic}

-- ---- numbers

both_zero : (m n : ℕ) → (eqb n 0 && eqb m 0) ≡ eqb (m + n) 0
both_zero m n = iff (eqb n 0 && eqb m 0) (eqb (m + n) 0)
    (λ e. eq-eqb (m + n) 0 (omega (arith, eqb-true n 0 (and_left (eqb n 0) (eqb m 0) e), eqb-true m 0 (and_right (eqb n 0) (eqb m 0) e))))
    (λ e. let s : m + n ≡ 0 = eqb-true (m + n) 0 e in and_both (eqb n 0) (eqb m 0) (eq-eqb n 0 (omega arith)) (eq-eqb m 0 (omega arith)))

-- ---- words

words-all : (l : List ℕ) → Words l → all word l ≡ true
words-all [] h = refl
words-all (x ∷ l) h = and_both (word x) (all word l) (lt-ltb x (2 ^ 64) (h 0)) (words-all l (λ k. h (suc k)))

ids-fit : (n : ℕ) (l : List ℕ) → Words l → all id_ok (ids_at n l) ≡ true
unfolding ids_at
ids-fit zero l h = refl
ids-fit (suc n) l h = and_both (id_ok (id_at l)) (all id_ok (ids_at n (drop 3 l))) (id-fits l (h 0)) (ids-fit n (drop 3 l) (words-drop 3 l h))

ring-count : (a : RingState.Audit) → Ring.ring_sound a ≡ true → a.count ≤ 1024
unfolding Ring.ring_sound
ring-count a e = by-test (ltb a.count 1024)
    (λ t. omega (arith, ltb-true a.count 1024 t))
    (λ t. by-test (eqb a.count 1024)
    (λ u. omega (arith, eqb-true a.count 1024 u))
    (λ u. let z : ◌≡◌ {A = Bool} false true = rw (t, u) at e in absurd (let y : ◌≡◌ {A = ℕ} 0 1 = cc in omega arith)))

ring-fits : (a : RingState.Audit) (l : List ℕ) → Words l → Ring.ring_sound a ≡ true → (leb (length (Ring.order_of a l)) 1024 ≡ true) × (all word (Ring.order_of a l) ≡ true)
unfolding Ring.order_of
ring-fits a l h e =
    let w = words-all l h in
    let m = drop a.start (take 1024 l) ++ take a.start l in
    let all-m : all word m ≡ true =
    all-joined word (drop a.start (take 1024 l)) (take a.start l)
    ∙ and_both (all word (drop a.start (take 1024 l))) (all word (take a.start l)) (all_rest word a.start (take 1024 l) (all_first word 1024 l w)) (all_first word a.start l w) in
    (le-leb (length (take a.count m)) 1024 (omega (arith, length-take a.count m, ring-count a e)), all_first word a.count m all-m)

audits-fit : (n : ℕ) (l : List ℕ) → Words l → rings_formed n l ≡ true → all audit_ok (audits_at n l) ≡ true
unfolding audits_at rings_formed
audits-fit zero l h e = refl
audits-fit (suc n) l h e =
    let r = ring-fits (ring_at l) (drop 5 l) (words-drop 5 l h) (and_left (Ring.ring_sound (ring_at l)) (rings_formed n (drop 1029 l)) e) in
    let o : List ℕ = Ring.order_of (ring_at l) (drop 5 l) in
    and_both (audit_ok (record { producer = id_at l; order = o })) (all audit_ok (audits_at n (drop 1029 l)))
    (all-every (id_ok (id_at l) ∷ leb (length o) 1024 ∷ all word o ∷ []) (id-fits l (h 0), (r.0, (r.1, tt))))
    (audits-fit n (drop 1029 l) (words-drop 1029 l h) (and_right (Ring.ring_sound (ring_at l)) (rings_formed n (drop 1029 l)) e))

-- ---- consumers

sub-own : (k : Kind) (u : ℕ) (s : Sub) → sub_sound k u s ≡ true → (own_sound k (bound u) s ≡ true) × (distinct (seqs (rows_of s)) ≡ true)
unfolding sub_sound own_sound
sub-own k u s e =
    let p = every-all (sub_tests k u s) e in (
      all-every (own_tests k (bound u) s) (
        p.0,
        (
          p.1.0,
          (
            p.1.1.0,
            (
              p.1.1.1.0,
              (
                p.1.1.1.1.0,
                (
                  p.1.1.1.1.1.1.0,
                  (
                    p.1.1.1.1.1.1.1.0,
                    (
                      p.1.1.1.1.1.1.1.1.0,
                      (p.1.1.1.1.1.1.1.1.1.0, (p.1.1.1.1.1.1.1.1.1.1.0, (p.1.1.1.1.1.1.1.1.1.1.1.0, (p.1.1.1.1.1.1.1.1.1.1.1.1.0, tt)))),
                    ),
                  ),
                ),
              ),
            ),
          ),
        ),
      ),
      p.1.1.1.1.1.0,
    )

own-sub : (k : Kind) (u : ℕ) (s : Sub) → own_sound k (bound u) s ≡ true → distinct (seqs (rows_of s)) ≡ true → sub_sound k u s ≡ true
unfolding sub_sound own_sound
own-sub k u s e d =
    let p = every-all (own_tests k (bound u) s) e in
    all-every (sub_tests k u s) (
      p.0,
      (
        p.1.0,
        (
          p.1.1.0,
          (
            p.1.1.1.0,
            (
              p.1.1.1.1.0,
              (
                d,
                (
                  p.1.1.1.1.1.0,
                  (
                    p.1.1.1.1.1.1.0,
                    (
                      p.1.1.1.1.1.1.1.0,
                      (p.1.1.1.1.1.1.1.1.0, (p.1.1.1.1.1.1.1.1.1.0, (p.1.1.1.1.1.1.1.1.1.1.0, (p.1.1.1.1.1.1.1.1.1.1.1.0, tt)))),
                    ),
                  ),
                ),
              ),
            ),
          ),
        ),
      ),
    )

apart_of : (k : Kind) (s : Sub) → distinct (seqs (rows_of s)) ≡ true → apart_by k s ≡ true
apart_of queue s e = ap (λ (t : Bool). not (is_browser s) || t) e ∙ or-true (not (is_browser s))
apart_of topic s e = e

none-shown : (b : Option (List Entry)) → is_some b ≡ false → shown b ≡ []
none-shown none e = refl
none-shown (some l) e = absurd (let z : ◌≡◌ {A = ℕ} 0 1 = cc in omega arith)

-- a queue's consumer that is no browser has only rows in flight
pub plain_rows : (most : ℕ) (s : Sub) → own_sound queue most s ≡ true → is_browser s ≡ false → rows_of s ≡ flying s
unfolding own_sound is_browser
plain_rows most s e n =
    let p = every-all (own_tests queue most s) e in
    ap₂ (λ (a b : List Entry). flying s ++ (a ++ b)) (empty-nil s.tpending p.1.1.1.1.1.1.1.1.1.1.1.0) (none-shown s.browser n)
    ∙ append-nil (flying s)

-- so its numbers differ where the queue's do
queue-sub : (u : ℕ) (s : Sub) (rest : List Entry) → own_sound queue (bound u) s ≡ true → apart_by queue s ≡ true
    → distinct (seqs ((whether is_browser s then [] else flying s) ++ rest)) ≡ true → distinct (seqs (rows_of s)) ≡ true
queue-sub u s rest o a t = by-test (is_browser s)
    (λ c. sym (ap (λ (x : Bool). not x || distinct (seqs (rows_of s))) c) ∙ a)
    (λ c.
    ap (λ (l : List Entry). distinct (seqs l)) (plain_rows (bound u) s o c)
    ∙ distinct-left (seqs (flying s)) (seqs rest)
    (ap distinct (sym (map-append (λ e. e.seq) (flying s) rest)) ∙ sym (ap (λ (x : Bool). distinct (seqs ((whether x then [] else flying s) ++ rest))) c) ∙ t))

taken_apart : Kind → List Sub → Bool
taken_apart queue ss = distinct (seqs (taken ss))
taken_apart topic ss = true

own-subs : (k : Kind) (u : ℕ) (ss : List Sub) → all (own_sound k (bound u)) ss ≡ true → all (apart_by k) ss ≡ true → taken_apart k ss ≡ true → all (sub_sound k u) ss ≡ true
unfolding taken_apart
own-subs queue u [] o a t = refl
own-subs queue u (s ∷ ss) o a t =
    let os = and_left (own_sound queue (bound u) s) (all (own_sound queue (bound u)) ss) o in
    let mine : List Entry = whether is_browser s then [] else flying s in
    let d = queue-sub u s (taken ss) os (and_left (apart_by queue s) (all (apart_by queue) ss) a) t in
    and_both (sub_sound queue u s) (all (sub_sound queue u) ss) (own-sub queue u s os d)
    (own-subs queue u ss (and_right (own_sound queue (bound u) s) (all (own_sound queue (bound u)) ss) o) (and_right (apart_by queue s) (all (apart_by queue) ss) a)
    (distinct-right (seqs mine) (seqs (taken ss)) (ap distinct (sym (map-append (λ e. e.seq) mine (taken ss))) ∙ t)))
own-subs topic u [] o a t = refl
own-subs topic u (s ∷ ss) o a t =
    and_both (sub_sound topic u s) (all (sub_sound topic u) ss)
    (own-sub topic u s (and_left (own_sound topic (bound u) s) (all (own_sound topic (bound u)) ss) o) (and_left (apart_by topic s) (all (apart_by topic) ss) a))
    (own-subs topic u ss (and_right (own_sound topic (bound u) s) (all (own_sound topic (bound u)) ss) o) (and_right (apart_by topic s) (all (apart_by topic) ss) a) refl)

rows-count : (k : Kind) (ws rows : List Row) → length (consumer_rows (subs_at k ws rows)) ≤ sub_rows ws
unfolding each_sub sub_rows
rows-count k [] rows = omega arith
rows-count k (w ∷ ws) rows =
    let f = take (at 14 w) rows in
    let h = take (at 15 w) (drop (at 14 w) rows) in
    let rest = consumer_rows (subs_at k ws (drop (at 15 w) (drop (at 14 w) rows))) in
    let e : length (rows_of (sub_at k w f h)) ≡ length f + length h =
    ap length (rows-of-sub k w f h) ∙ length-append (map entry_of f) (map entry_of h) ∙ ap₂ ◌+◌ (length-map f entry_of) (length-map h entry_of) in
    omega (arith, length-append (rows_of (sub_at k w f h)) rest, e, length-take (at 14 w) rows, length-take (at 15 w) (drop (at 14 w) rows), rows-count k ws (drop (at 15 w) (drop (at 14 w) rows)))

-- the tests of the consumers, and their words
pub each-parts : (k : Kind) (most : ℕ) (ws rows : List Row) → each_ok k most ws rows ≡ (all (own_sound k most) (subs_at k ws rows) && subs_strict ws rows)
unfolding each_sub
each-parts k most [] rows = refl
each-parts k most (w ∷ ws) rows =
    let f = take (at 14 w) rows in
    let h = take (at 15 w) (drop (at 14 w) rows) in
    let rest = drop (at 15 w) (drop (at 14 w) rows) in
    ap (λ (t : Bool). own_ok k most w f h && t) (each-parts k most ws rest)
    ∙ swap_inner (own_sound k most (sub_at k w f h)) (sub_strict w f h) (all (own_sound k most) (subs_at k ws rest)) (subs_strict ws rest)

-- ---- places

module _ (others reserved waiting : ℕ) (us rows : List Row) (b : others + (reserved + waiting) ≤ length rows) where
  -- where the rows of a destination stand
  pub record Stands (k : Kind) (t : Dest) : Type 0 where
    pub waits : t.pending ≡ map entry_of (waiting_at others reserved waiting rows)
    pub kept : t.reserved ≡ map held_at (reserved_at others reserved rows)
    pub consumers : t.subs ≡ subs_at k us rows

  held-means : (k : Kind) (t : Dest) → Stands k t → held t ≡ map entry_of (reserved_at others reserved rows)
  held-means k t s = ap (map (λ x. x.entry)) s.kept ∙ held_rows (reserved_at others reserved rows)

  placed-means : (k : Kind) (t : Dest) → Stands k t → placed t k ≡ (empty_by k (reserved + waiting) && queue_apart k others reserved waiting us rows)
  placed-means queue t s =
      let w = waiting_at others reserved waiting rows in
      let r = reserved_at others reserved rows in
      let x = taken (subs_at queue us rows) in
      ap (λ (l : List Entry). distinct (seqs (l ++ (held t ++ taken t.subs)))) s.waits
      ∙ ap₂ (λ (l : List Entry) (m : List Sub). distinct (seqs (map entry_of w ++ (l ++ taken m)))) (held-means queue t s) s.consumers
      ∙ ap distinct (map-append (λ e. e.seq) (map entry_of w) (map entry_of r ++ x)
      ∙ ap₂ (λ (l m : List ℕ). l ++ m) (sym (seqs-rows w)) (map-append (λ e. e.seq) (map entry_of r) x ∙ ap (λ (l : List ℕ). l ++ seqs x) (sym (seqs-rows r))))
  placed-means topic t s =
      let w = waiting_at others reserved waiting rows in
      let r = reserved_at others reserved rows in
      let ew : eqb waiting 0 ≡ empty w = empty-take waiting (drop (others + reserved) rows) (simp length-drop (omega arith)) in
      let er : eqb reserved 0 ≡ empty r = empty-take reserved (drop others rows) (simp length-drop (omega arith)) in
      ap₂ ◌&&◌ (ap empty s.waits ∙ empty-map entry_of w ∙ sym ew) (ap empty s.kept ∙ empty-map held_at r ∙ sym er)
      ∙ both_zero reserved waiting ∙ sym (and-true (eqb (reserved + waiting) 0))

  taken-means : (k : Kind) → queue_apart k others reserved waiting us rows ≡ true → taken_apart k (subs_at k us rows) ≡ true
  unfolding taken_apart
  taken-means queue e =
      let w = seqs_at (waiting_at others reserved waiting rows) in
      let r = seqs_at (reserved_at others reserved rows) in
      let x = seqs (taken (subs_at queue us rows)) in
      distinct-right r x (distinct-right w (r ++ x) e)
  taken-means topic e = refl

-- ---- all

module _ (h : List ℕ) (subs rows : List Row) (ls : 32 ≤ length subs) (lr : 512 ≤ length rows) where
  abbrev us : List Row
  us = take (at 12 h) subs

  abbrev k : Kind
  k = kind_of (at 0 h)

  abbrev b : Buffers
  b = lent h subs rows

  abbrev tests : List Bool
  tests = table_tests k (bound (at 3 h)) (sub_rows us) (at 15 h) (at 16 h) us rows

  same_kind : tables_ok (kind_by (eqb (at 0 h) 0)) (bound (at 3 h)) (sub_rows us) (at 15 h) (at 16 h) us rows ≡ every tests
  unfolding tables_ok
  same_kind = refl

  in_table : used_rows b ≤ 512 → sub_rows us + (at 15 h + at 16 h) ≤ length rows
  in_table f = omega arith

  stands : (f : used_rows b ≤ 512) → Stands (sub_rows us) (at 15 h) (at 16 h) us rows (in_table f) k (view b)
  unfolding view
  stands f = record { waits = ap (λ (l : List Row). map entry_of (take (at 16 h) l)) (drop-drop (at 15 h) (sub_rows us) rows); kept = refl; consumers = refl }

  subs-many : at 12 h ≤ 32 → length (subs_at k us rows) ≡ at 12 h
  subs-many f = subs-length k us rows ∙ length-take-le (at 12 h) subs (omega arith)

  turn-same : at 12 h ≤ 32 → (ltb (at 4 h) (length (subs_at k us rows)) || eqb (at 4 h) 0) ≡ (ltb (at 4 h) (at 12 h) || eqb (at 4 h) 0)
  turn-same f = ap (λ (n : ℕ). ltb (at 4 h) n || eqb (at 4 h) 0) (subs-many f)

  entries-same : (f : used_rows b ≤ 512) → all entry_ok ((view b).pending ++ held (view b))
      ≡ (all entry_ok (map entry_of (waiting_at (sub_rows us) (at 15 h) (at 16 h) rows)) && all entry_ok (map entry_of (reserved_at (sub_rows us) (at 15 h) rows)))
  entries-same f =
      let s = stands f in
      ap₂ (λ (x y : List Entry). all entry_ok (x ++ y)) s.waits (held-means (sub_rows us) (at 15 h) (at 16 h) us rows (in_table f) k (view b) s)
      ∙ all-joined entry_ok (map entry_of (waiting_at (sub_rows us) (at 15 h) (at 16 h) rows)) (map entry_of (reserved_at (sub_rows us) (at 15 h) rows))

  abbrev formed_tests : List Bool
  formed_tests = leb (at 12 h) 32 ∷ leb (at 13 h) 32 ∷ leb (at 14 h) 8 ∷ leb (used_rows b) 512 ∷ rings_formed (at 14 h) (drop 113 h) ∷ strict b ∷ []

  abbrev mark_tests : List Bool
  mark_tests = is_mark (at 0 h) ∷ is_mark (at 5 h) ∷ tables_strict (at 15 h + at 16 h) us rows ∷ []

  abbrev kept-rows : List Row
  kept-rows = reserved_at (sub_rows us) (at 15 h) rows

  abbrev waiting-rows : List Row
  waiting-rows = waiting_at (sub_rows us) (at 15 h) (at 16 h) rows

  strict-parts : tables_strict (at 15 h + at 16 h) us rows ≡ (subs_strict us rows && (all entry_strict kept-rows && all entry_strict waiting-rows))
  unfolding tables_strict
  strict-parts =
      let z : List Row = drop (sub_rows us) rows in
      ap (λ (l : List Row). subs_strict us rows && all entry_strict l) (take-add (at 15 h) (at 16 h) z ∙ ap (λ (l : List Row). kept-rows ++ take (at 16 h) l) (drop-drop (at 15 h) (sub_rows us) rows))
      ∙ ap (λ (t : Bool). subs_strict us rows && t) (all-joined entry_strict kept-rows waiting-rows)

  holders-same : all (λ x. id_ok x.holder) (view b).reserved ≡ all holder_ok (reserved_at (sub_rows us) (at 15 h) rows)
  unfolding view
  holders-same = all_map (λ x. id_ok x.holder) held_at (reserved_at (sub_rows us) (at 15 h) rows)

  pub all-rows : used_rows b ≤ 512 → all_rows (view b) ≡ map entry_of waiting-rows ++ (map entry_of kept-rows ++ consumer_rows (subs_at k us rows))
  all-rows f =
      let s = stands f in
      let w = map entry_of waiting-rows in
      ap (λ (l : List Entry). l ++ (held (view b) ++ consumer_rows (view b).subs)) s.waits
      ∙ ap₂ (λ (l : List Entry) (m : List Sub). w ++ (l ++ consumer_rows m)) (held-means (sub_rows us) (at 15 h) (at 16 h) us rows (in_table f) k (view b) s) s.consumers

  sizes-same : (f : used_rows b ≤ 512) → sizes_agree (all_rows (view b)) ≡ sizes_at (sub_rows us + at 15 h + at 16 h) rows
  sizes-same f =
      ap sizes_agree (all-rows f)
      ∙ agree-turned (map entry_of waiting-rows) (map entry_of kept-rows) (consumer_rows (subs_at k us rows))
      ∙ sym (ap sizes_agree (used-parts (at 15 h) (at 16 h) us rows k))

  shares-by : (f : used_rows b ≤ 512) (q : Bool) → eqb (at 0 h) 0 ≡ q
      → within_share (at 8346 h) (own_rows (view b) (kind_by q)) ≡ shares_at (at 8346 h) q (sub_rows us) (at 15 h + at 16 h) us rows
  shares-by f true e =
      let s = stands f in
      let w = map entry_of waiting-rows in
      ap (λ (l : List Entry). within_share (at 8346 h) (l ++ (held (view b) ++ taken (view b).subs))) s.waits
      ∙ ap₂ (λ (l : List Entry) (m : List Sub). within_share (at 8346 h) (w ++ (l ++ taken m))) (held-means (sub_rows us) (at 15 h) (at 16 h) us rows (in_table f) k (view b) s) (s.consumers ∙ ap (λ (x : Bool). subs_at (kind_by x) us rows) e)
      ∙ sym (own-queue (at 8346 h) (at 15 h) (at 16 h) us rows)
  shares-by f false e = ap (within_share (at 8346 h)) (all-rows f) ∙ sym (own-topic (at 8346 h) (at 15 h) (at 16 h) us rows k)

  shares-same : (f : used_rows b ≤ 512) → within_share (view b).share (own_rows (view b) (view b).kind) ≡ shares_at (at 8346 h) (eqb (at 0 h) 0) (sub_rows us) (at 15 h + at 16 h) us rows
  unfolding view
  shares-same f = shares-by f (eqb (at 0 h) 0) refl

  sound-head : formed b ≡ true → sound (view b) ≡ true → head_ok h ≡ true
  unfolding formed strict sound view head_ok
  sound-head e g =
      let f = every-all formed_tests e in
      let s = every-all mark_tests f.1.1.1.1.1.0 in
      let p = every-all (sound_tests (view b)) g in
      let n = leb-true (at 12 h) 32 f.0 in
      and_both (limits_ok h) _
      (and_both (leb 1 (at 2 h)) _ p.0 (and_both (leb (at 2 h) (2 ^ 40)) _ p.1.0 (and_both (leb (at 3 h) (at 2 h)) _ p.1.1.0 (and_both (leb (at 1 h) 512) _ p.1.1.1.0 (and_both (leb (at 8345 h) 86400000) _ p.1.1.1.1.1.1.1.1.1.1.1.1.1.1.1.1.1.1.1.0 (and_both (leb 1 (at 8346 h)) _ p.1.1.1.1.1.1.1.1.1.1.1.1.1.1.1.1.1.1.1.1.1.0 p.1.1.1.1.1.1.1.1.1.1.1.1.1.1.1.1.1.1.1.1.1.1.0))))))
      (and_both (counts_ok h) _
      (and_both (leb (at 12 h) 32) _ f.0 (and_both (leb (at 13 h) 32) _ f.1.0 (and_both (leb (at 14 h) 8) _ f.1.1.0 (sym (turn-same n) ∙ p.1.1.1.1.1.1.1.1.1.1.1.1.1.1.0))))
      (and_both (marks_ok h) _ (and_both (is_mark (at 0 h)) _ s.0 (and_both (is_mark (at 5 h)) _ s.1.0 (sym (optional-test clock_ok (at 5 h) (at 6 h)) ∙ p.1.1.1.1.1.1.1.1.1.1.1.1.1.1.1.1.0)))
      p.1.1.1.1.1.1.1.1.1.1.1.1.1.1.1.0))

  pub sound-rest : formed b ≡ true → sound (view b) ≡ true → rest_ok b ≡ true
  unfolding formed strict sound view rest_ok
  sound-rest e g =
      let f = every-all formed_tests e in
      let s = every-all mark_tests f.1.1.1.1.1.0 in
      let p = every-all (sound_tests (view b)) g in
      let u = leb-true (used_rows b) 512 f.1.1.1.0 in
      let w = map entry_of (waiting_at (sub_rows us) (at 15 h) (at 16 h) rows) in
      let r = map entry_of (reserved_at (sub_rows us) (at 15 h) rows) in
      let ok = sym (entries-same u) ∙ p.1.1.1.1.1.1.1.1.0 in
      let subs-ok = p.1.1.1.1.1.1.1.1.1.1.1.0 in
      let place = sym (placed-means (sub_rows us) (at 15 h) (at 16 h) us rows (in_table u) k (view b) (stands u)) ∙ p.1.1.1.1.1.1.1.1.1.1.1.1.1.0 in
      let t = sym strict-parts ∙ s.1.1.0 in
      let o = and_right (subs_strict us rows) (all entry_strict kept-rows && all entry_strict waiting-rows) t in
      let risen = sym (ap (λ (l : List Entry). ascending (seqs l)) (stands u).waits) ∙ p.1.1.1.1.1.1.1.1.1.1.0 in
      and_both (leb (used_rows b) 512) _ f.1.1.1.0
      (and_both (rings_formed (at 14 h) (drop 113 h)) _ f.1.1.1.1.0
      (and_both (tables_ok (kind_by (eqb (at 0 h) 0)) (bound (at 3 h)) (sub_rows us) (at 15 h) (at 16 h) us rows) _ (same_kind
      ∙ all-every tests (
        and_left (empty_by k (at 15 h + at 16 h)) (queue_apart k (sub_rows us) (at 15 h) (at 16 h) us rows) place,
        (
          each-parts k (bound (at 3 h)) us rows
              ∙ and_both (all (own_sound k (bound (at 3 h))) (subs_at k us rows)) _ (all_weaker (sub_sound k (at 3 h)) (own_sound k (bound (at 3 h))) (λ s t. (sub-own k (at 3 h) s t).0) (subs_at k us rows) subs-ok) (and_left (subs_strict us rows) _ t),
          (
            sym (ids-means k us rows) ∙ p.1.1.1.1.1.1.1.1.1.1.1.1.0,
            (
              and_both (all row_ok (reserved_at (sub_rows us) (at 15 h) rows)) _ (rows_ok kept-rows ∙ and_both (all entry_ok r) _ (and_right (all entry_ok w) (all entry_ok r) ok) (and_left (all entry_strict kept-rows) _ o)) (sym holders-same ∙ p.1.1.1.1.1.1.1.1.1.0),
              (
                sorted-means waiting-rows ∙ and_both (all entry_ok w && all entry_strict waiting-rows) (ascending (seqs w)) (and_both (all entry_ok w) _ (and_left (all entry_ok w) (all entry_ok r) ok) (and_right (all entry_strict kept-rows) _ o)) risen,
                (
                  and_both (queue_apart k (sub_rows us) (at 15 h) (at 16 h) us rows) _ (and_right (empty_by k (at 15 h + at 16 h)) (queue_apart k (sub_rows us) (at 15 h) (at 16 h) us rows) place)
                      (all_weaker (sub_sound k (at 3 h)) (apart_by k) (λ s t. apart_of k s (sub-own k (at 3 h) s t).1) (subs_at k us rows) subs-ok),
                  (sym (sizes-same u) ∙ p.1.1.1.1.1.1.1.1.1.1.1.1.1.1.1.1.1.1.1.1.0, tt),
                ),
              ),
            ),
          ),
        ),
      )) (sym (shares-same u) ∙ p.1.1.1.1.1.1.1.1.1.1.1.1.1.1.1.1.1.1.1.1.1.1.1.0)))

  few-rows : used_rows b ≤ 512 → length (all_rows (view b)) ≤ 512
  unfolding view
  few-rows f =
      let z = drop (sub_rows us) rows in
      let w = map entry_of (take (at 16 h) (drop (at 15 h) z)) in
      let r = map held_at (take (at 15 h) z) in
      let c = consumer_rows (subs_at k us rows) in
      let lw : length w ≤ at 16 h = omega (arith, length-map (take (at 16 h) (drop (at 15 h) z)) entry_of, length-take (at 16 h) (drop (at 15 h) z)) in
      let le : length (map (λ x. x.entry) r) ≤ at 15 h =
      omega (arith, length-map r (λ x. x.entry), length-map (take (at 15 h) z) held_at, length-take (at 15 h) z) in
      omega (arith, length-append w (map (λ x. x.entry) r ++ c), length-append (map (λ x. x.entry) r) c, rows-count k us rows)

  rest-sound : Words h → head_ok h ≡ true → rest_ok b ≡ true → (formed b ≡ true) × (sound (view b) ≡ true)
  unfolding formed strict sound view head_ok rest_ok
  rest-sound words e g =
      let limits = and_left (limits_ok h) _ e in
      let l2 = and_right (leb 1 (at 2 h)) _ limits in
      let l3 = and_right (leb (at 2 h) (2 ^ 40)) _ l2 in
      let l4 = and_right (leb (at 3 h) (at 2 h)) _ l3 in
      let l5 = and_right (leb (at 1 h) 512) _ l4 in
      let l6 = and_right (leb (at 8345 h) 86400000) _ l5 in
      let others = and_right (limits_ok h) _ e in
      let counts = and_left (counts_ok h) _ others in
      let c2 = and_right (leb (at 12 h) 32) _ counts in
      let c3 = and_right (leb (at 13 h) 32) _ c2 in
      let marks = and_right (counts_ok h) _ others in
      let f1 = and_left (leb (at 12 h) 32) _ counts in
      let f2 = and_left (leb (at 13 h) 32) _ c2 in
      let f3 = and_left (leb (at 14 h) 8) _ c3 in
      let f4 = and_left (leb (used_rows b) 512) _ g in
      let g2 = and_right (leb (used_rows b) 512) _ g in
      let f5 = and_left (rings_formed (at 14 h) (drop 113 h)) _ g2 in
      let g3 = and_right (rings_formed (at 14 h) (drop 113 h)) _ g2 in
      let p = every-all tests (sym same_kind ∙ and_left (tables_ok (kind_by (eqb (at 0 h) 0)) (bound (at 3 h)) (sub_rows us) (at 15 h) (at 16 h) us rows) _ g3) in
      let shared = and_right (tables_ok (kind_by (eqb (at 0 h) 0)) (bound (at 3 h)) (sub_rows us) (at 15 h) (at 16 h) us rows) _ g3 in
      let u = leb-true (used_rows b) 512 f4 in
      let n = leb-true (at 12 h) 32 f1 in
      let o = sub_rows us in
      let own = all (own_sound k (bound (at 3 h))) (subs_at k us rows) in
      let each = sym (each-parts k (bound (at 3 h)) us rows) ∙ p.1.0 in
      let kept = p.1.1.1.0 in
      let r = all entry_ok (map entry_of kept-rows) in
      let held-ok = sym (rows_ok kept-rows) ∙ and_left (all row_ok kept-rows) _ kept in
      let w = map entry_of (waiting_at o (at 15 h) (at 16 h) rows) in
      let sorted = sym (sorted-means waiting-rows) ∙ p.1.1.1.1.0 in
      let waits-ok = and_left (all entry_ok w && all entry_strict waiting-rows) _ sorted in
      let m = and_left (marks_ok h) _ marks in
      let m2 = and_right (is_mark (at 0 h)) _ m in
      let tables = strict-parts ∙ and_both (subs_strict us rows) _ (and_right own (subs_strict us rows) each) (and_both (all entry_strict kept-rows) _ (and_right r _ held-ok) (and_right (all entry_ok w) _ waits-ok)) in
      let apart = p.1.1.1.1.1.0 in
      let group = and_left (queue_apart k o (at 15 h) (at 16 h) us rows) _ apart in (
        all-every formed_tests (f1, (f2, (f3, (f4, (f5, (all-every mark_tests (and_left (is_mark (at 0 h)) _ m, (and_left (is_mark (at 5 h)) _ m2, (tables, tt))), tt)))))),
        all-every (sound_tests (view b)) (
          and_left (leb 1 (at 2 h)) _ limits,
          (
            and_left (leb (at 2 h) (2 ^ 40)) _ l2,
            (
              and_left (leb (at 3 h) (at 2 h)) _ l3,
              (
                and_left (leb (at 1 h) 512) _ l4,
                (
                  le-leb (length (subs_at k us rows)) 32 (omega (arith, subs-many n)),
                  (
                    le-leb (length (ids_at (at 13 h) (drop 17 h))) 32 (omega (arith, ids-length (at 13 h) (drop 17 h), leb-true (at 13 h) 32 f2)),
                    (
                      ids-fit (at 13 h) (drop 17 h) (words-drop 17 h words),
                      (
                        le-leb (length (all_rows (view b))) 512 (few-rows u),
                        (
                          entries-same u ∙ and_both (all entry_ok w) _ (and_left (all entry_ok w) _ waits-ok) (and_left r _ held-ok),
                          (
                            holders-same ∙ and_right (all row_ok kept-rows) _ kept,
                            (
                              ap (λ (l : List Entry). ascending (seqs l)) (stands u).waits ∙ and_right (all entry_ok w && all entry_strict waiting-rows) _ sorted,
                              (
                                own-subs k (at 3 h) (subs_at k us rows) (and_left own (subs_strict us rows) each) (and_right (queue_apart k o (at 15 h) (at 16 h) us rows) _ apart) (taken-means o (at 15 h) (at 16 h) us rows (in_table u) k group),
                                (
                                  ids-means k us rows ∙ p.1.1.0,
                                  (
                                    placed-means o (at 15 h) (at 16 h) us rows (in_table u) k (view b) (stands u) ∙ and_both (empty_by k (at 15 h + at 16 h)) _ p.0 group,
                                    (
                                      turn-same n ∙ and_right (leb (at 14 h) 8) _ c3,
                                      (
                                        and_right (marks_ok h) _ marks,
                                        (
                                          optional-test clock_ok (at 5 h) (at 6 h) ∙ and_right (is_mark (at 5 h)) _ m2,
                                          (
                                            le-leb (length (audits_at (at 14 h) (drop 113 h))) 8 (omega (arith, audits-length (at 14 h) (drop 113 h), leb-true (at 14 h) 8 f3)),
                                            (audits-fit (at 14 h) (drop 113 h) (words-drop 113 h words) f5, (and_left (leb (at 8345 h) 86400000) _ l5, (sizes-same u ∙ p.1.1.1.1.1.1.0, (and_left (leb 1 (at 8346 h)) _ l6, (and_right (leb 1 (at 8346 h)) _ l6, (shares-same u ∙ shared, tt)))))),
                                          ),
                                        ),
                                      ),
                                    ),
                                  ),
                                ),
                              ),
                            ),
                          ),
                        ),
                      ),
                    ),
                  ),
                ),
              ),
            ),
          ),
        ),
      )

  pub sound-means : Words h → sound_buffers b ≡ (head_ok h && rest_ok b)
  unfolding sound_buffers
  sound-means words = iff (formed b && sound (view b)) (head_ok h && rest_ok b)
      (λ e.
      let f = and_left (formed b) (sound (view b)) e in
      let g = and_right (formed b) (sound (view b)) e in
      and_both (head_ok h) (rest_ok b) (sound-head f g) (sound-rest f g))
      (λ e.
      let p = rest-sound words (and_left (head_ok h) (rest_ok b) e) (and_right (head_ok h) (rest_ok b) e) in
      and_both (formed b) (sound (view b)) p.0 p.1)
