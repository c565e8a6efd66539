-- One list swept: nothing to do, a turn, and the rows that a turn takes out. Assumes nothing.
use mathlib.Core.Path.{◌≡◌, refl, sym, ap, ◌∙◌}
use mathlib.Core.Bool.{Bool, true, false, not, ◌&&◌}
use mathlib.Core.List.{List, [], ◌∷◌, ◌++◌, append_assoc, map}
use mathlib.Core.Option.{Option, none, some}
use Prim.Native.Nat.{ℕ, zero, suc, ◌+◌, ◌-◌, ◌≤◌, ◌<◌, ◌^◌}
use native.Mathlib.Omega.{arith}
use lib.Dec.{eqb, leb, ltb}
use lib.IntN.{pos}
use lib.ListN.{length, take, drop, get_or, length-append}
use lib.Seq.{slice, slice-cons, slice_empty, length-slice, length-take-le, take_at, drop_at}
use Rattle.words.proofs.Words.{expired-word}
use Rattle.words.proofs.Tests.{by-test}
use Rattle.entry.specs.Entry.{entry_of}
use Rattle.definition.specs.Base.{whether◌then◌else◌, keep, tally, all}
use Rattle.definition.specs.Types.{Entry}
use Rattle.definition.specs.Consumer.{expired}
use Rattle.definition.specs.Destination as Destination
use Rattle.definition.specs.Destination.{sooner, soonest, swept_more, sweep_at, sweep_list, is_sooner}
use Rattle.definition.specs.Layout.{Row, entry_strict}
use Rattle.definition.proofs.Lists.{all_keep}
use Rattle.table.specs.Table.{has_seq, remove_rows, removed_rows}
use Rattle.table.proofs.Lists.{slice-parts, parts}
use Rattle.table.proofs.Segments.{kept-length}
use Rattle.table.proofs.Laws.{remove-length, remove-after, remove-parts, gone-parts}
use Rattle.std.specs.Prelude as Std
use Rattle.std.specs.Prelude.{Some, None, MatchOption}
use Rattle.expiry.specs.declared.Swept.{Swept}
use Rattle.expiry.specs.Sweep.{next_of, Listed, sweep_listed, swept, SweepFine, Shorter, StaysStrict}

-- ---- the soonest

-- by the word that holds the expiration
pub by_word : (now : ℕ) (row : Row) (b : Bool) → now ≤ 2 ^ 62 → (ltb 0 (get_or row 1 0) && leb (get_or row 1 0) now) ≡ b → expired (pos now) (entry_of row) ≡ b
unfolding expired entry_of
by_word now row b h t = expired-word now (get_or row 1 0) (omega arith) ∙ t

-- what was found, after one more entry
module _ (now : ℕ) (e : Entry) (n : Option Entry) where
  abbrev next : Option Entry
  next = whether expired (pos now) e then sooner e n else n

  pub met-not : expired (pos now) e ≡ false → n ≡ next
  met-not h = rw h

  pub met-first : expired (pos now) e ≡ true → n ≡ none → some e ≡ next
  met-first h f = rw (h, f)

  pub met-sooner : (f : Entry) → expired (pos now) e ≡ true → n ≡ some f → is_sooner e f ≡ true → some e ≡ next
  met-sooner f h q s = rw (h, q, s)

  pub met-later : (f : Entry) → expired (pos now) e ≡ true → n ≡ some f → is_sooner e f ≡ false → n ≡ next
  met-later f h q s = rw (h, q, s)

-- none of no rows
pub soonest-start : (now i : ℕ) (rows : List Row) → none ≡ soonest now (map entry_of (slice i i rows))
soonest-start now i rows = sym (ap (λ (l : List Row). soonest now (map entry_of l)) (slice_empty i rows))

-- one row more at the front
module _ (now i j to : ℕ) (rows : List Row) (n : Option Entry) (h : i + 1 ≡ j) (b : j ≤ to) (l : to ≤ length rows) (c : now ≤ 2 ^ 62) (q : n ≡ soonest now (map entry_of (slice j to rows))) where
  abbrev row : Row
  row = get_or rows i []

  abbrev is_late : Bool
  is_late = ltb 0 (get_or row 1 0) && leb (get_or row 1 0) now

  soonest-turn : (m : Option Entry) → m ≡ next now (entry_of row) n → m ≡ soonest now (map entry_of (slice i to rows))
  soonest-turn m s =
      let k : suc i ≡ j = omega arith in
      let cut : slice i to rows ≡ row ∷ slice j to rows = slice-cons i to rows [] (omega arith) l ∙ ap (λ (y : ℕ). row ∷ slice y to rows) k in
      s ∙ ap (next now (entry_of row)) q ∙ sym (ap (λ (y : List Row). soonest now (map entry_of y)) cut)

  pub soonest-not : is_late ≡ false → n ≡ soonest now (map entry_of (slice i to rows))
  soonest-not t = soonest-turn n (met-not now (entry_of row) n (by_word now row false c t))

  module _ (t : is_late ≡ true) where
    pub soonest-first : n ≡ none → some (entry_of row) ≡ soonest now (map entry_of (slice i to rows))
    soonest-first e = soonest-turn (some (entry_of row)) (met-first now (entry_of row) n (by_word now row true c t) e)

    pub soonest-sooner : (f : Entry) → n ≡ some f → is_sooner (entry_of row) f ≡ true → some (entry_of row) ≡ soonest now (map entry_of (slice i to rows))
    soonest-sooner f e s = soonest-turn (some (entry_of row)) (met-sooner now (entry_of row) n f (by_word now row true c t) e s)

    pub soonest-later : (f : Entry) → n ≡ some f → is_sooner (entry_of row) f ≡ false → n ≡ soonest now (map entry_of (slice i to rows))
    soonest-later f e s = soonest-turn n (met-later now (entry_of row) n f (by_word now row true c t) e s)

-- what was found stays or is replaced, by what a test of it answered
module _ (now i j to : ℕ) (rows : List Row) (o : Std.Option Entry) (h : i + 1 ≡ j) (b : j ≤ to) (l : to ≤ length rows) (c : now ≤ 2 ^ 62) (q : next_of o ≡ soonest now (map entry_of (slice j to rows)))
    (t : (ltb 0 (get_or (get_or rows i []) 1 0) && leb (get_or (get_or rows i []) 1 0) now) ≡ true) (e : Entry) (is : e ≡ entry_of (get_or rows i [])) (r : Bool)
  where
    abbrev met : Entry
    met = entry_of (get_or rows i [])

    taken : (m : Std.Option Entry) → o ≡ m → (P : Entry → Type 0) → MatchOption m (r ≡ true) P → ((f : Entry) → P f → r ≡ is_sooner e f) → r ≡ true → some e ≡ soonest now (map entry_of (slice i to rows))
    taken None s P m k y = ap some is ∙ soonest-first now i j to rows (next_of o) h b l c q t (ap next_of s)
    taken (Some f) s P m k y = ap some is ∙ soonest-sooner now i j to rows (next_of o) h b l c q t f (ap next_of s) (ap (λ (x : Entry). is_sooner x f) (sym is) ∙ sym (k f m) ∙ y)

    kept : (m : Std.Option Entry) → o ≡ m → (P : Entry → Type 0) → MatchOption m (r ≡ true) P → ((f : Entry) → P f → r ≡ is_sooner e f) → r ≡ false → next_of o ≡ soonest now (map entry_of (slice i to rows))
    kept None s P m k y = absurd (cc (m, y))
    kept (Some f) s P m k y = soonest-later now i j to rows (next_of o) h b l c q t f (ap next_of s) (ap (λ (x : Entry). is_sooner x f) (sym is) ∙ sym (k f m) ∙ y)

    module _ (P : Entry → Type 0) (m : MatchOption o (r ≡ true) P) (k : (f : Entry) → P f → r ≡ is_sooner e f) where
      pub soonest-taken : r ≡ true → some e ≡ soonest now (map entry_of (slice i to rows))
      soonest-taken y = taken o refl P m k y

      pub soonest-kept : r ≡ false → next_of o ≡ soonest now (map entry_of (slice i to rows))
      soonest-kept y = kept o refl P m k y

-- ---- what the definition says

pub sweep-none : (budget now : ℕ) (l : List Entry) → soonest now l ≡ none → sweep_list budget now l ≡ record { list = l; gone = 0 }
unfolding sweep_list sweep_at
sweep-none zero now l e = refl
sweep-none (suc budget) now l e = ap (sweep_at l (λ f. sweep_list budget now (keep (λ g. not (eqb g.seq f.seq)) l))) e

abbrev without : Entry → List Entry → List Entry
without e l = keep (λ f. not (eqb f.seq e.seq)) l

sweep-some : (budget now : ℕ) (l : List Entry) (e : Entry) → soonest now l ≡ some e → sweep_list (suc budget) now l ≡ swept_more (sweep_list budget now (without e l))
unfolding sweep_list sweep_at
sweep-some budget now l e q = ap (sweep_at l (λ f. sweep_list budget now (without f l))) q

module _ (most now : ℕ) (v : Listed) where
  rested : (x : Destination.Swept) → x ≡ record { list = v.list; gone = 0 } → ◌≡◌ {A = Listed} (record { before = v.before; list = x.list; after = v.after; gone = v.gone + x.gone }) v
  rested x e =
      let z : v.gone + 0 ≡ v.gone = omega arith in
      (λ j. record { before = v.before; list = (e j).list; after = v.after; gone = v.gone + (e j).gone })
      ∙ (λ j. record { before = v.before; list = v.list; after = v.after; gone = z j })

  -- nothing has expired, or the budget is used up
  pub swept_none : soonest now v.list ≡ none → swept most now v ≡ v
  unfolding swept
  swept_none e = rested (sweep_list (most - v.gone) now v.list) (sweep-none (most - v.gone) now v.list e)

  pub swept_all : most ≤ v.gone → swept most now v ≡ v
  unfolding swept sweep_list
  swept_all h =
      let z : most - v.gone ≡ 0 = omega arith in
      rested (sweep_list (most - v.gone) now v.list) (ap (λ (n : ℕ). sweep_list n now v.list) z)

  -- the soonest goes
  pub swept-turn : (e : Entry) → v.gone < most → soonest now v.list ≡ some e
      → swept most now (record { before = v.before; list = without e v.list; after = v.after; gone = v.gone + 1 }) ≡ swept most now v
  unfolding swept
  swept-turn e h q =
      let b : ℕ = most - (v.gone + 1) in
      let s : most - v.gone ≡ suc b = omega arith in
      let x : Destination.Swept = sweep_list b now (without e v.list) in
      let t : sweep_list (most - v.gone) now v.list ≡ swept_more x = ap (λ (n : ℕ). sweep_list n now v.list) s ∙ sweep-some b now v.list e q in
      let g : v.gone + 1 + x.gone ≡ v.gone + (x.gone + 1) = omega arith in
      (λ j. record { before = v.before; list = x.list; after = v.after; gone = g j })
      ∙ (λ j. record { before = v.before; list = (sym t j).list; after = v.after; gone = v.gone + (sym t j).gone })

-- ---- the rows

-- rows without a number are entries without it
left-entries : (e : Entry) (l : List Row) → map entry_of (keep (λ r. not (has_seq e.seq r)) l) ≡ without e (map entry_of l)
unfolding entry_of
left-entries e [] = refl
left-entries e (r ∷ l) = by-test (eqb (get_or r 0 0) e.seq) (λ h. rw h (left-entries e l)) (λ h. rw h (ap (λ (x : List Entry). entry_of r ∷ x) (left-entries e l)))

-- the list between the rows before and after it
pub listed-parts : (from : ℕ) (w : Swept) (a s c z : List Row) → length a ≡ from → length s ≡ w.length → from + w.length + length c ≡ w.used
    → sweep_listed from w (a ++ (s ++ (c ++ z))) ≡ record { before = a; list = map entry_of s; after = c; gone = w.gone }
unfolding sweep_listed
listed-parts from w a s c z ea es ec =
    let one : slice from (from + w.length) (a ++ (s ++ (c ++ z))) ≡ s = slice-parts from (from + w.length) a s (c ++ z) ea (omega arith) in
    let two : slice (from + w.length) w.used (a ++ (s ++ (c ++ z))) ≡ c =
    ap (slice (from + w.length) w.used) (sym (append_assoc a s (c ++ z))) ∙ slice-parts (from + w.length) w.used (a ++ s) c z (length-append a s ∙ omega arith) ec in
    λ j. record { before = take_at a (s ++ (c ++ z)) from ea j; list = map entry_of (one j); after = two j; gone = w.gone }

module _ (from : ℕ) (w : Swept) (rows : List Row) (h : from + w.length ≤ w.used) (l : w.used ≤ length rows) where
  abbrev to : ℕ
  to = from + w.length

  abbrev a : List Row
  a = take from rows

  abbrev s : List Row
  s = slice from to rows

  abbrev c : List Row
  c = slice to w.used rows

  abbrev z : List Row
  z = drop w.used rows

  pub a-length : length a ≡ from
  a-length = length-take-le from rows (omega arith)

  pub s-length : length s ≡ w.length
  s-length = length-slice from to rows (omega arith) ∙ omega arith

  pub c-length : to + length c ≡ w.used
  c-length = let e : length c ≡ w.used - to = length-slice to w.used rows l in omega arith

  pub rows_are : rows ≡ a ++ (s ++ (c ++ z))
  rows_are =
      let one : rows ≡ take to rows ++ (c ++ z) = parts to w.used rows h in
      let two : rows ≡ a ++ (s ++ drop to rows) = parts from to rows (omega arith) in
      let three : drop to rows ≡ c ++ z = ap (drop to) one ∙ drop_at (take to rows) (c ++ z) to (length-take-le to rows (omega arith)) in
      two ∙ ap (λ (x : List Row). a ++ (s ++ x)) three

  -- the rows with a number are taken out
  module _ (e : Entry) (k : ℕ) (rows' : List Row) (is : k ≡ removed_rows (has_seq e.seq) from to w.used rows) (made : rows' ≡ remove_rows (has_seq e.seq) from to w.used rows) where
    abbrev p : Row → Bool
    p = has_seq e.seq

    abbrev left : List Row
    left = keep (λ r. not (p r)) s

    k-is : k ≡ tally p s
    k-is = is ∙ ap (removed_rows p from to w.used) rows_are ∙ gone-parts p from to w.used a s c z a-length (omega (arith, s-length)) c-length

    pub k-few : k ≤ w.length
    k-few = omega (arith, k-is, kept-length p s, s-length)

    abbrev w' : Swept
    w' = record { used = w.used - k; length = w.length - k; gone = w.gone + 1 }

    abbrev z' : List Row
    z' = drop (length left + length c) (s ++ (c ++ z))

    parts-turn : rows' ≡ a ++ (left ++ (c ++ z'))
    parts-turn = made ∙ ap (remove_rows p from to w.used) rows_are ∙ remove-parts p from to w.used a s c z a-length (omega (arith, s-length)) c-length

    left-length : length left ≡ w.length - k
    left-length = omega (arith, k-is, kept-length p s, s-length)

    pub strict-turn : StaysStrict from w w' rows rows'
    strict-turn h =
        ap (all entry_strict) (ap (slice from (from + (w.length - k))) parts-turn ∙ slice-parts from (from + (w.length - k)) a left (c ++ z') a-length (omega (arith, left-length)))
        ∙ all_keep entry_strict (λ r. not (p r)) s h

    pub listed-turn : sweep_listed from w' rows' ≡ record { before = a; list = without e (map entry_of s); after = c; gone = w.gone + 1 }
    listed-turn =
        let n : from + (w.length - k) + length c ≡ w.used - k = omega (arith, k-few, c-length) in
        ap (sweep_listed from w') parts-turn
        ∙ listed-parts from w' a left c z' a-length left-length n
        ∙ ap (λ (x : List Entry). record { before = a; list = x; after = c; gone = w.gone + 1 }) (left-entries e s)

    pub past-turn : (n : ℕ) → w.used ≤ n → drop n rows' ≡ drop n rows
    past-turn n b = ap (drop n) made ∙ remove-after p from to w.used rows n (omega arith)

    pub length-turn : length rows' ≡ length rows
    length-turn = ap length made ∙ remove-length p from to w.used rows

-- ---- the loop

pub record Turn (most now from : ℕ) (rows₀ : List Row) (w₀ : Swept) (rows : List Row) (w : Swept) : Type 0 where
  pub same : length rows ≡ length rows₀
  pub fine : SweepFine (length rows) from w most now
  pub shorter : Shorter most w₀ w
  pub past : drop w₀.used rows ≡ drop w₀.used rows₀
  pub strict : StaysStrict from w₀ w rows₀ rows
  pub said : swept most now (sweep_listed from w rows) ≡ swept most now (sweep_listed from w₀ rows₀)

module _ (most now from : ℕ) (rows₀ : List Row) (w₀ : Swept) where
  pub turn-start : SweepFine (length rows₀) from w₀ most now → Turn most now from rows₀ w₀ rows₀ w₀
  turn-start f = record { same = refl; fine = f; shorter = record { length = omega arith; tail = refl; gone = f.gone }; past = refl; strict = λ h. h; said = refl }

  module _ (rows : List Row) (w : Swept) (g : Turn most now from rows₀ w₀ rows w) where
    pub turn-next : (n : Entry) (k : ℕ) (rows' : List Row) → w.gone < most → some n ≡ soonest now (map entry_of (slice from (from + w.length) rows))
        → k ≡ removed_rows (has_seq n.seq) from (from + w.length) w.used rows → rows' ≡ remove_rows (has_seq n.seq) from (from + w.length) w.used rows
        → Turn most now from rows₀ w₀ rows' (record { used = w.used - k; length = w.length - k; gone = w.gone + 1 })
    unfolding sweep_listed
    turn-next n k rows' h q is made =
        let f = g.fine in
        let u : w.used ≤ length rows = omega (arith, f.used, f.room) in
        let few : k ≤ w.length = k-few from w rows f.rows u n k rows' is made in
        let l : length rows' ≡ length rows = length-turn from w rows f.rows u n k rows' is made in
        let e : soonest now (sweep_listed from w rows).list ≡ some n = sym q in
        record {
          same = l ∙ g.same;
          fine = record { rows = omega (arith, f.rows, few); used = omega (arith, f.used); room = omega (arith, l, f.room); gone = omega arith; few = f.few; clock = f.clock };
          shorter = record { length = omega (arith, g.shorter.length); tail = omega (arith, g.shorter.tail, few, f.rows); gone = omega arith };
          past = past-turn from w rows f.rows u n k rows' is made w₀.used (omega (arith, g.shorter.tail, g.shorter.length)) ∙ g.past;
          strict = λ s. strict-turn from w rows f.rows u n k rows' is made (g.strict s);
          said = ap (swept most now) (listed-turn from w rows f.rows u n k rows' is made) ∙ swept-turn most now (sweep_listed from w rows) n h e ∙ g.said;
        }

    -- nothing has expired
    pub turn-none : none ≡ soonest now (map entry_of (slice from (from + w.length) rows))
        → sweep_listed from w rows ≡ swept most now (sweep_listed from w₀ rows₀)
    unfolding sweep_listed
    turn-none q =
        let e : soonest now (sweep_listed from w rows).list ≡ none = sym q in
        sym (swept_none most now (sweep_listed from w rows) e) ∙ g.said

    -- the budget is used up
    pub turn_end : most ≤ w.gone → sweep_listed from w rows ≡ swept most now (sweep_listed from w₀ rows₀)
    unfolding sweep_listed
    turn_end h = sym (swept_all most now (sweep_listed from w rows) h) ∙ g.said
