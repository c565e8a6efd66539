-- A look along the waiting rows, a row at a time: what the definition says of the rows before a turn, it says of those after it. Assumes nothing.
use mathlib.Core.Path.{◌≡◌, refl, sym, ap, subst, ◌∙◌}
use mathlib.Core.Bool.{Bool, true, false, ◌||◌}
use mathlib.Core.List.{List, [], ◌∷◌, ◌++◌, append_assoc, append-nil, map, map-append}
use mathlib.Core.Option.{none, some}
use Prim.Native.Nat.{ℕ, zero, suc, ◌+◌, ◌-◌, ◌≤◌, ◌<◌, ◌^◌}
use native.Mathlib.Nat.{zero-add, add-zero}
use native.Mathlib.Omega.{arith}
use borrow.Author.Tests.{ltb-true, ltb-false, le-leb, lt-leb}
use lib.Dec.{leb, ltb}
use lib.IntN.{ℤ, pos}
use lib.ListN.{length, take, drop, get_or, length-append, length-drop}
use lib.Seq.{slice, length-take-le, length-slice, append_snoc, get_or_at, drop-append-le}
use mir.Syntax.{w64}
use mir.Val.{SFits}
use mir.ValLaws.{to_z_pos, to_z-of_z}
use Rattle.words.specs.Words.{signed, unsigned}
use Rattle.words.proofs.Tests.{by-test}
use Rattle.entry.specs.Entry.{expired, entry_of}
use Rattle.definition.specs.Base.{whether◌then◌else◌, all}
use Rattle.definition.specs.Types.{Entry, queue}
use Rattle.definition.specs.Types as Def
use Rattle.definition.specs.Consumer.{accepts}
use Rattle.definition.specs.Destination.{Look, passing, losing, look}
use Rattle.definition.specs.Words.{at}
use Rattle.definition.specs.Layout.{Row, entry_strict}
use Rattle.definition.proofs.Tests.{or-no-left, or-no-right}
use Rattle.definition.proofs.Lists.{length-nil}
use Rattle.table.specs.Table.{close_gap}
use Rattle.table.proofs.Lists.{parts}
use Rattle.table.proofs.Laws.{close-parts, close-length}
use Rattle.consumers.specs.declared.Sub.{Sub}
use Rattle.consumers.specs.Consumers.{sub_view, accepts_of}
use Rattle.consumers.proofs.Laws.{accepts-sub}
use Rattle.consumers.proofs.Strict.{all_left}
use Rattle.queues.specs.Look.{lone, Passed, Found, Missed}
use Rattle.std.specs.Prelude.{Option, Some, None, MatchOption}
use Rattle.queues.proofs.Viewing.{all_without}

-- a clock's word, read as a signed one
pub by-clock : (clock : ℕ) (z : ℤ) (e : Entry) → clock ≤ 2 ^ 62 → SFits w64 z → z ≡ signed clock → expired (signed (unsigned z)) e ≡ expired (pos clock) e
by-clock clock z e h f q = ap (λ (y : ℤ). expired y e) (to_z-of_z w64 z f ∙ q ∙ to_z_pos w64 clock (omega arith))

-- ---- the definition, an entry at a time

module _ (now : ℕ) (s : Def.Sub) (c : ℕ) (e : Entry) (es : List Entry) where
  look-before : leb e.seq s.cursor ≡ true → look now s c (e ∷ es) ≡ passing e (look now s c es)
  unfolding look
  look-before h = rw h

  module _ (after : leb e.seq s.cursor ≡ false) where
    look-late : expired (pos now) e ≡ true → look now s c (e ∷ es) ≡ losing (look now s c es)
    unfolding look
    look-late h = rw (after, h)

    look-taken : expired (pos now) e ≡ false → accepts s e ≡ true → look now s c (e ∷ es) ≡ record { pending = es; chosen = some e; cursor = e.seq; gone = 0 }
    unfolding look
    look-taken h k = rw (after, h, k)

    look-refused : expired (pos now) e ≡ false → accepts s e ≡ false → look now s c (e ∷ es) ≡ passing e (look now s e.seq es)
    unfolding look
    look-refused h k = rw (after, h, k)

-- a look asks a consumer's cursor and what it accepts, and nothing else
pub look-same : (now : ℕ) (s t : Def.Sub) → s.cursor ≡ t.cursor → ((e : Entry) → accepts s e ≡ accepts t e) → (c : ℕ) (l : List Entry) → look now s c l ≡ look now t c l
unfolding look
look-same now s t p q c [] = refl
look-same now s t p q c (e ∷ l) =
    let a : look now s c l ≡ look now t c l = look-same now s t p q c l in
    let b : look now s e.seq l ≡ look now t e.seq l = look-same now s t p q e.seq l in
    λ j. whether leb e.seq (p j) then passing e (a j)
    else whether expired (pos now) e then losing (a j)
    else whether q e j then record { pending = l; chosen = some e; cursor = e.seq; gone = 0 }
    else passing e (b j)

-- ---- the rows

-- what has been passed, and how many are gone, before what a look says of the rest
abbrev ahead : List Entry → ℕ → Look → Look
ahead p g l = record { pending = p ++ l.pending; chosen = l.chosen; cursor = l.cursor; gone = g + l.gone }

pub record Looking (now : ℕ) (s : Sub) (from to : ℕ) (rows₀ rows : List Row) (end cursor i : ℕ) : Type 0 where
  pub passed : List Row
  pub rest : List Row
  pub spare : List Row
  pub parts : rows ≡ take from rows₀ ++ (passed ++ (rest ++ (spare ++ drop to rows₀)))
  pub here : from + length passed ≡ i
  pub last : i + length rest ≡ end
  pub size : end + length spare ≡ to
  pub long : length rows ≡ length rows₀
  pub said : ahead (map entry_of passed) (length spare) (look now (lone s) cursor (map entry_of rest)) ≡ look now (lone s) s.cursor (map entry_of (slice from to rows₀))
  pub strict : all entry_strict (slice from to rows₀) ≡ true → all entry_strict (passed ++ rest) ≡ true

record Cons (l : List Row) : Type 0 where
  head : Row
  tail : List Row
  is : l ≡ head ∷ tail

cons : (l : List Row) → 0 < length l → Cons l
cons [] h = absurd (omega arith)
cons (x ∷ l) h = record { head = x; tail = l; is = refl }

module _ (now : ℕ) (s : Sub) (from to : ℕ) (rows₀ : List Row) (f : from ≤ to) (t : to ≤ length rows₀) where
  abbrev first : List Row
  first = take from rows₀

  abbrev tail : List Row
  tail = drop to rows₀

  first-length : length first ≡ from
  first-length = length-take-le from rows₀ (omega arith)

  pub looking-start : Looking now s from to rows₀ rows₀ to s.cursor from
  looking-start =
      let n : length (slice from to rows₀) ≡ to - from = length-slice from to rows₀ t in
      let l : Look = look now (lone s) s.cursor (map entry_of (slice from to rows₀)) in
      record {
        passed = [];
        rest = slice from to rows₀;
        spare = [];
        parts = parts from to rows₀ f;
        here = add-zero from;
        last = omega arith;
        size = add-zero to;
        long = refl;
        said = λ j. record { pending = l.pending; chosen = l.chosen; cursor = l.cursor; gone = zero-add l.gone j };
        strict = λ h. h;
      }

  module _ (rows : List Row) (end cursor i : ℕ) (g : Looking now s from to rows₀ rows end cursor i) where
    -- none is left
    pub looking-none : end ≤ i → Missed now s from to rows₀ rows end cursor
    unfolding look
    looking-none h =
        let none_left : g.rest ≡ [] = length-nil g.rest (omega (arith, g.last)) in
        record {
          left = g.passed;
          spare = g.spare;
          parts = g.parts ∙ ap (λ (r : List Row). first ++ (g.passed ++ (r ++ (g.spare ++ tail)))) none_left;
          last = omega (arith, g.here, g.last);
          size = g.size;
          said = sym g.said
              ∙ ap (λ (r : List Row). ahead (map entry_of g.passed) (length g.spare) (look now (lone s) cursor (map entry_of r))) none_left
              ∙ (λ j. record { pending = append-nil (map entry_of g.passed) j; chosen = none; cursor = cursor; gone = add-zero (length g.spare) j });
          strict = λ y. all_left entry_strict g.passed g.rest (g.strict y);
        }

    module _ (more : i < end) where
      abbrev c : Cons g.rest
      c = cons g.rest (let p = g.last in omega arith)

      abbrev x : Row
      x = c.head

      abbrev l : List Row
      l = c.tail

      abbrev z : List Row
      z = g.spare ++ tail

      split : rows ≡ first ++ (g.passed ++ (x ∷ (l ++ z)))
      split = g.parts ∙ ap (λ (r : List Row). first ++ (g.passed ++ (r ++ z))) c.is

      front : length (first ++ g.passed) ≡ i
      front = simp length-append (omega (arith, first-length, g.here))

      row_is : get_or rows i [] ≡ x
      row_is = ap (λ (r : List Row). get_or r i []) (split ∙ sym (append_assoc first g.passed (x ∷ (l ++ z)))) ∙ get_or_at (first ++ g.passed) x (l ++ z) [] i front

      left : i + 1 + length l ≡ end
      left = omega (arith, g.last, ap length c.is)

      strict-split : all entry_strict (slice from to rows₀) ≡ true → all entry_strict (g.passed ++ x ∷ l) ≡ true
      strict-split y = ap (λ (r : List Row). all entry_strict (g.passed ++ r)) (sym c.is) ∙ g.strict y

      abbrev L : ℕ → Look
      L k = look now (lone s) k (map entry_of l)

      -- the look goes on behind the row
      behind : (k : ℕ) → ahead (map entry_of (g.passed ++ x ∷ [])) (length g.spare) (L k) ≡ ahead (map entry_of g.passed) (length g.spare) (passing (entry_of x) (L k))
      behind k =
          let p : map entry_of (g.passed ++ x ∷ []) ++ (L k).pending ≡ map entry_of g.passed ++ entry_of x ∷ (L k).pending =
          ap (λ (y : List Entry). y ++ (L k).pending) (map-append entry_of g.passed (x ∷ [])) ∙ append_snoc (map entry_of g.passed) (entry_of x) (L k).pending in
          λ j. record { pending = p j; chosen = (L k).chosen; cursor = (L k).cursor; gone = length g.spare + (L k).gone }

      passes : (k : ℕ) → look now (lone s) cursor (entry_of x ∷ map entry_of l) ≡ passing (entry_of x) (L k) → Looking now s from to rows₀ rows end k (i + 1)
      passes k h = record {
        passed = g.passed ++ x ∷ [];
        rest = l;
        spare = g.spare;
        parts = split ∙ ap (λ (r : List Row). first ++ r) (sym (append_snoc g.passed x (l ++ z)));
        here = simp length-append (omega (arith, g.here));
        last = left;
        size = g.size;
        long = g.long;
        said = behind k
            ∙ ap (ahead (map entry_of g.passed) (length g.spare)) (sym h)
            ∙ ap (λ (r : List Row). ahead (map entry_of g.passed) (length g.spare) (look now (lone s) cursor (map entry_of r))) (sym c.is)
            ∙ g.said;
        strict = λ y. ap (all entry_strict) (append_snoc g.passed x l) ∙ strict-split y;
      }

      abbrev e : Entry
      e = entry_of (get_or rows i [])

      same : e ≡ entry_of x
      same = ap entry_of row_is

      -- a row at or before the cursor
      pub looking-before : e.seq ≤ s.cursor → Looking now s from to rows₀ rows end cursor (i + 1)
      unfolding sub_view
      looking-before h = passes cursor (look-before now (lone s) cursor (entry_of x) (map entry_of l) (ap (λ (y : Entry). leb y.seq s.cursor) (sym same) ∙ le-leb e.seq s.cursor h))

      module _ (after : s.cursor < e.seq) where
        fresh : leb (entry_of x).seq s.cursor ≡ false
        fresh = ap (λ (y : Entry). leb y.seq s.cursor) (sym same) ∙ lt-leb e.seq s.cursor after

        -- an expired one goes, and the later ones move down
        pub looking-late : expired (pos now) e ≡ true → Looking now s from to rows₀ (close_gap i 1 end rows) (end - 1) cursor i
        unfolding sub_view
        looking-late h =
            let d : List Row = drop (length l) (x ∷ l) in
            let n : length d ≡ 1 = simp length-drop (omega arith) in
            let said : look now (lone s) cursor (entry_of x ∷ map entry_of l) ≡ losing (L cursor) =
            look-late now (lone s) cursor (entry_of x) (map entry_of l) fresh (ap (expired (pos now)) (sym same) ∙ h) in
            let gone : length (d ++ g.spare) + (L cursor).gone ≡ length g.spare + ((L cursor).gone + 1) = simp length-append (omega arith) in
            record {
              passed = g.passed;
              rest = l;
              spare = d ++ g.spare;
              parts = ap (close_gap i 1 end) (split ∙ sym (append_assoc first g.passed (x ∷ (l ++ z))))
                  ∙ close-parts i 1 end (first ++ g.passed) (x ∷ []) l z front refl left
                  ∙ ap (λ (r : List Row). (first ++ g.passed) ++ (l ++ r)) (drop-append-le (length l) (x ∷ l) z (omega arith) ∙ sym (append_assoc d g.spare tail))
                  ∙ append_assoc first g.passed (l ++ ((d ++ g.spare) ++ tail));
              here = g.here;
              last = omega (arith, left);
              size = simp length-append (omega (arith, g.size));
              long = close-length i 1 end rows ∙ g.long;
              said = (λ j. record { pending = map entry_of g.passed ++ (L cursor).pending; chosen = (L cursor).chosen; cursor = (L cursor).cursor; gone = gone j })
                  ∙ ap (ahead (map entry_of g.passed) (length g.spare)) (sym said)
                  ∙ ap (λ (r : List Row). ahead (map entry_of g.passed) (length g.spare) (look now (lone s) cursor (map entry_of r))) (sym c.is)
                  ∙ g.said;
              strict = λ y. all_without entry_strict g.passed x l (strict-split y);
            }

        module _ (live : expired (pos now) e ≡ false) where
          live-x : expired (pos now) (entry_of x) ≡ false
          live-x = ap (expired (pos now)) (sym same) ∙ live

          -- the first that is accepted is chosen
          pub looking-taken : accepts_of s e ≡ true → Found now s from to rows₀ rows i end
          unfolding sub_view
          looking-taken h =
              let took : accepts (lone s) (entry_of x) ≡ true = accepts-sub queue s [] [] (entry_of x) ∙ ap (accepts_of s) (sym same) ∙ h in
              record {
                before = g.passed;
                row = x;
                after = l;
                spare = g.spare;
                parts = split;
                place = g.here;
                last = left;
                size = g.size;
                said = sym g.said
                    ∙ ap (λ (r : List Row). ahead (map entry_of g.passed) (length g.spare) (look now (lone s) cursor (map entry_of r))) c.is
                    ∙ ap (ahead (map entry_of g.passed) (length g.spare)) (look-taken now (lone s) cursor (entry_of x) (map entry_of l) fresh live-x took)
                    ∙ (λ j. record {
                      pending = sym (map-append entry_of g.passed l) j;
                      chosen = some (entry_of x);
                      cursor = (entry_of x).seq;
                      gone = add-zero (length g.spare) j;
                    });
                strict = strict-split;
              }

          -- a refused one is passed, and the cursor goes with it
          pub looking-refused : accepts_of s e ≡ false → Looking now s from to rows₀ rows end e.seq (i + 1)
          unfolding sub_view
          looking-refused h =
              let not : accepts (lone s) (entry_of x) ≡ false = accepts-sub queue s [] [] (entry_of x) ∙ ap (accepts_of s) (sym same) ∙ h in
              rw (ap (λ (y : Entry). y.seq) same) (passes (entry_of x).seq (look-refused now (lone s) cursor (entry_of x) (map entry_of l) fresh live-x not))

-- four rows more are not after the cursor
module _ (from to cursor : ℕ) (rows : List Row) (i : ℕ) (p : Passed from to cursor rows i) (four : 4 ≤ to - i) where
  abbrev word : ℕ → ℕ
  word k = at 0 (get_or rows k [])

  abbrev later : ℕ → Bool
  later k = ltb cursor (word k)

  pub passed-four : (((later i || later (i + 1)) || later (i + 2)) || later (i + 3)) ≡ false → Passed from to cursor rows (i + 4)
  passed-four h =
      let low = p.low in
      let high = p.high in
      let three : ((later i || later (i + 1)) || later (i + 2)) ≡ false = or-no-left ((later i || later (i + 1)) || later (i + 2)) (later (i + 3)) h in
      let two : (later i || later (i + 1)) ≡ false = or-no-left (later i || later (i + 1)) (later (i + 2)) three in
      let a : word i ≤ cursor = ltb-false cursor (word i) (or-no-left (later i) (later (i + 1)) two) in
      let b : word (i + 1) ≤ cursor = ltb-false cursor (word (i + 1)) (or-no-right (later i) (later (i + 1)) two) in
      let c : word (i + 2) ≤ cursor = ltb-false cursor (word (i + 2)) (or-no-right (later i || later (i + 1)) (later (i + 2)) three) in
      let d : word (i + 3) ≤ cursor = ltb-false cursor (word (i + 3)) (or-no-right ((later i || later (i + 1)) || later (i + 2)) (later (i + 3)) h) in
      record {
        low = omega arith;
        high = omega arith;
        each = λ k f l. by-test (ltb k i) (λ t. p.each k f (ltb-true k i t)) (λ n₀.
            by-test (ltb k (i + 1)) (λ t. at_place k i (omega (arith, ltb-false k i n₀, ltb-true k (i + 1) t)) a) (λ n₁.
            by-test (ltb k (i + 2)) (λ t. at_place k (i + 1) (omega (arith, ltb-false k (i + 1) n₁, ltb-true k (i + 2) t)) b) (λ n₂.
            by-test (ltb k (i + 3)) (λ t. at_place k (i + 2) (omega (arith, ltb-false k (i + 2) n₂, ltb-true k (i + 3) t)) c) (λ n₃.
            at_place k (i + 3) (omega (arith, ltb-false k (i + 3) n₃)) d))));
      }
    where
      at_place : (k j : ℕ) → j ≡ k → word j ≤ cursor → word k ≤ cursor
      at_place k j e h = subst (λ (x : ℕ). word x ≤ cursor) e h

-- rows at or before the cursor are passed over
module _ (now : ℕ) (s : Sub) (from to : ℕ) (rows : List Row) (f : from ≤ to) (t : to ≤ length rows) where
  looking-up : (k : ℕ) → from + k ≤ to → ((j : ℕ) → from ≤ j → j < from + k → at 0 (get_or rows j []) ≤ s.cursor) → Looking now s from to rows rows to s.cursor (from + k)
  unfolding entry_of
  looking-up zero h each = subst (λ (n : ℕ). Looking now s from to rows rows to s.cursor n) (sym (add-zero from)) (looking-start now s from to rows f t)
  looking-up (suc k) h each =
      let next : from + k + 1 ≡ from + suc k = omega arith in
      let g : Looking now s from to rows rows to s.cursor (from + k) = looking-up k (omega arith) (λ j a b. each j a (omega arith)) in
      subst (λ (n : ℕ). Looking now s from to rows rows to s.cursor n) next
      (looking-before now s from to rows f t rows to s.cursor (from + k) g (omega arith) (each (from + k) (omega arith) (omega arith)))

  pub looking-from : (i : ℕ) → Passed from to s.cursor rows i → Looking now s from to rows rows to s.cursor i
  looking-from i p =
      let low = p.low in
      let high = p.high in
      let is : from + (i - from) ≡ i = omega arith in
      subst (λ (n : ℕ). Looking now s from to rows rows to s.cursor n) is (looking-up (i - from) (omega arith) (λ j a b. p.each j a (omega arith)))

-- where the rows in use end, whether or not one was chosen
pub looks-end : (o : Option ℕ) (now : ℕ) (s : Sub) (from to : ℕ) (rows rows' : List Row) (end cursor : ℕ) → MatchOption o (Missed now s from to rows rows' end cursor) (λ at. Found now s from to rows rows' at end)
    → (from ≤ end) × (end ≤ to)
looks-end (Some at) now s from to rows rows' end cursor l = let x = l.place in let y = l.last in let z = l.size in (omega arith, omega arith)
looks-end None now s from to rows rows' end cursor l = let y = l.last in let z = l.size in (omega arith, omega arith)
