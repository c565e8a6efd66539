-- After a dispatch of a queue no consumer with credit has anything expired before it, so that an entry that is stored next at the same clock makes none but itself leave.
-- Assumes nothing.
use Prim.Native.Nat.{ℕ, zero, suc, ◌+◌, ◌-◌, ◌≤◌, ◌<◌, ◌%◌, min}
use native.Mathlib.Nat.{mod-eq_of_lt, mod-eq-sub-mod}
use native.Mathlib.Omega.{arith}
use mathlib.Core.Path.{◌≡◌, refl, sym, ◌∙◌, ap, subst, subst⁻¹}
use mathlib.Core.Bool.{Bool, true, false, not, ◌||◌, true≢false}
use mathlib.Core.List.{List, [], ◌∷◌, map}
use mathlib.Core.Option.{Option, none, some}
use lib.Dec.{leb, eqb}
use lib.ListN.{length, set, length-set}
use lib.IntN.{pos}
use borrow.Author.Tests.{leb-true, leb-false, le-leb, eq-eqb, eqb-true, eqb-false, ne_eqb}
use Rattle.definition.specs.Base.{whether◌then◌else◌, nth, empty, member, up_from}
use Rattle.definition.specs.Types.{Entry, Sub, Dest, with_cursor, with_pending, with_subs}
use Rattle.definition.specs.Consumer.{expired, accepts, is_browser, snapshot, has_credit, send, Browse, drain_browser, close_browser, dispatch_browser}
use Rattle.definition.specs.Destination.{count, stored, Look, look, given, Turn, visit_at, visit, scan, turns, Out, rounds, browsers, dispatch_queue, hold_back, insert}
use Rattle.definition.specs.Calls.{flying}
use Rattle.definition.proofs.Tests.{by-if, by-test, or-no-left, or-no-right}
use Rattle.definition.proofs.Lists.{All, all-nth, some_inj, none-some}
use Rattle.definition.proofs.Sums.{sum, one, occ, occ-no, sum_one, sum-append, sum-insert}
use Rattle.definition.proofs.Whole.{sums, count_m, queue_sum, sums-set}
use Rattle.definition.proofs.Dispatch.{fo, count-plain, cursor-count, send-flying}
use Rattle.definition.proofs.Reorder.{nil-cons}
use Rattle.definition.proofs.Local.{RestsQueue, browsed-rests, alone, browsed}
use Rattle.fates.proofs.Measures.{insert-sum, sums-map}

yes : (b : Bool) → not b ≡ false → b ≡ true
yes true h = refl
yes false h = absurd (true≢false h)

-- ---- what a consumer with credit would find expired

-- f of an entry that has expired and is after the cursor
unfoldable pub late_for : ℕ → ℕ → (Entry → ℕ) → Entry → ℕ
late_for now c f e = whether leb e.seq c then 0 else whether expired (pos now) e then f e else 0

module _ (now : ℕ) where
  late-before : (c : ℕ) (f : Entry → ℕ) (e : Entry) → leb e.seq c ≡ true → late_for now c f e ≡ 0
  unfolding late_for
  late-before c f e h = rw h

  late-alive : (c : ℕ) (f : Entry → ℕ) (e : Entry) → expired (pos now) e ≡ false → late_for now c f e ≡ 0
  unfolding late_for
  late-alive c f e h = by-test (leb e.seq c) (λ x. rw x) (λ x. rw (x, h))

  late_is : (c : ℕ) (f : Entry → ℕ) (e : Entry) → leb e.seq c ≡ false → expired (pos now) e ≡ true → late_for now c f e ≡ f e
  unfolding late_for
  late_is c f e x y = rw (x, y)

  -- a cursor further on
  late-on : (c d : ℕ) (f : Entry → ℕ) (e : Entry) → c ≤ d → late_for now d f e ≤ late_for now c f e
  late-on c d f e h = by-test (leb e.seq c)
      (λ x. omega (arith, late-before d f e (le-leb e.seq d (omega (arith, leb-true e.seq c x, h)))))
      (λ x. by-test (expired (pos now) e)
      (λ y. by-test (leb e.seq d) (λ z. omega (arith, late-before d f e z)) (λ z. omega (arith, late_is d f e z y, late_is c f e x y)))
      (λ y. omega (arith, late-alive d f e y)))

  sum-on : (c d : ℕ) (f : Entry → ℕ) (l : List Entry) → c ≤ d → sum (late_for now d f) l ≤ sum (late_for now c f) l
  sum-on c d f [] h = omega arith
  sum-on c d f (e ∷ l) h = omega (arith, late-on c d f e h, sum-on c d f l h)

  -- ---- a look

  look-cursor : (s : Sub) (c : ℕ) (l : List Entry) → s.cursor ≤ c → s.cursor ≤ (look now s c l).cursor
  unfolding look
  look-cursor s c [] h = h
  look-cursor s c (e ∷ l) h =
      by-if (λ (k : Look). s.cursor ≤ k.cursor) (leb e.seq s.cursor) _ _ (λ x. look-cursor s c l h)
      (λ x. by-if (λ (k : Look). s.cursor ≤ k.cursor) (expired (pos now) e) _ _ (λ y. look-cursor s c l h)
      (λ y. by-if (λ (k : Look). s.cursor ≤ k.cursor) (accepts s e) _ _ (λ z. omega (arith, leb-false e.seq s.cursor x)) (λ z. look-cursor s e.seq l (omega (arith, leb-false e.seq s.cursor x)))))

  -- it takes only from what waits
  look-less : (g : Entry → ℕ) (s : Sub) (c : ℕ) (l : List Entry) → sum g (look now s c l).pending ≤ sum g l
  unfolding look
  look-less g s c [] = omega arith
  look-less g s c (e ∷ l) =
      by-if (λ (k : Look). sum g k.pending ≤ g e + sum g l) (leb e.seq s.cursor) _ _ (λ x. omega (arith, look-less g s c l))
      (λ x. by-if (λ (k : Look). sum g k.pending ≤ g e + sum g l) (expired (pos now) e) _ _ (λ y. omega (arith, look-less g s c l))
      (λ y. by-if (λ (k : Look). sum g k.pending ≤ g e + sum g l) (accepts s e) _ _ (λ z. omega arith) (λ z. omega (arith, look-less g s e.seq l))))

  -- where nothing is chosen, what is left has nothing expired after the cursor
  look_none : (s : Sub) (c : ℕ) (l : List Entry) → (look now s c l).chosen ≡ none → sum (late_for now s.cursor one) (look now s c l).pending ≡ 0
  unfolding look
  look_none s c [] = λ h. refl
  look_none s c (e ∷ l) =
      let P : Look → Type 0 = λ k. k.chosen ≡ none → sum (late_for now s.cursor one) k.pending ≡ 0 in
      by-if P (leb e.seq s.cursor) _ _ (λ x h. omega (arith, late-before s.cursor one e x, look_none s c l h))
      (λ x. by-if P (expired (pos now) e) _ _ (λ y h. look_none s c l h)
      (λ y. by-if P (accepts s e) _ _ (λ z h. absurd (none-some (sym h))) (λ z h. omega (arith, late-alive s.cursor one e y, look_none s e.seq l h))))

  -- where nothing of f has expired after the cursor, none of it is lost
  look-keeps : (f : Entry → ℕ) (s : Sub) (c : ℕ) (l : List Entry) → sum (late_for now s.cursor f) l ≡ 0 → sum f l ≡ sum f (look now s c l).pending + fo f (look now s c l).chosen
  unfolding look
  look-keeps f s c [] h = refl
  look-keeps f s c (e ∷ l) h =
      let P : Look → Type 0 = λ k. f e + sum f l ≡ sum f k.pending + fo f k.chosen in
      by-if P (leb e.seq s.cursor) _ _ (λ x. omega (arith, look-keeps f s c l (omega (arith, h))))
      (λ x. by-if P (expired (pos now) e) _ _ (λ y. omega (arith, h, late_is s.cursor f e x y, look-keeps f s c l (omega (arith, h))))
      (λ y. by-if P (accepts s e) _ _ (λ z. omega arith) (λ z. omega (arith, look-keeps f s e.seq l (omega (arith, h))))))

  -- ---- consumers by their place

  nth-same : (i : ℕ) (l : List Sub) (v r : Sub) → nth i (set l i v) ≡ some r → r ≡ v
  nth-same i [] v r e = absurd (none-some e)
  nth-same zero (s ∷ l) v r e = sym (some_inj e)
  nth-same (suc i) (s ∷ l) v r e = nth-same i l v r e

  nth-other : (i j : ℕ) (l : List Sub) (v : Sub) → (i ≡ j → ⊥) → nth i (set l j v) ≡ nth i l
  nth-other i j [] v h = refl
  nth-other zero zero (s ∷ l) v h = absurd (h refl)
  nth-other zero (suc j) (s ∷ l) v h = refl
  nth-other (suc i) zero (s ∷ l) v h = refl
  nth-other (suc i) (suc j) (s ∷ l) v h = nth-other i j l v (λ e. h (ap suc e))

  nth-low : (i : ℕ) (l : List Sub) (s : Sub) → nth i l ≡ some s → i < length l
  nth-low i [] s e = absurd (none-some e)
  nth-low zero (r ∷ l) s e = omega arith
  nth-low (suc i) (r ∷ l) s e = omega (arith, nth-low i l s e)

  -- what is so of the consumer at a place, beside what waits
  abbrev Point : (List Entry → Sub → Type 0) → ℕ → Dest → Type 0
  Point P i t = (s : Sub) → nth i t.subs ≡ some s → P t.pending s

  -- a property that a turn keeps: with less that waits, and of a consumer with credit that is no browser with its cursor further on
  record Keeps (P : List Entry → Sub → Type 0) : Type 0 where
    less : (p q : List Entry) (s : Sub) → ((g : Entry → ℕ) → sum g q ≤ sum g p) → P p s → P q s
    on : (p : List Entry) (s v : Sub) → is_browser s ≡ false → has_credit s ≡ true → is_browser v ≡ false → s.cursor ≤ v.cursor → P p s → P p v

  -- what turns come to: P stays at each place, no consumer goes, and nothing comes to wait
  record Turned (P : List Entry → Sub → Type 0) (t u : Dest) : Type 0 where
    point : (i : ℕ) → Point P i t → Point P i u
    many : length u.subs ≡ length t.subs
    allowance : u.allowance ≡ t.allowance
    less : (g : Entry → ℕ) → sum g u.pending ≤ sum g t.pending

  module _ (P : List Entry → Sub → Type 0) (K : Keeps P) where
    turned_none : (t : Dest) → Turned P t t
    turned_none t = record { point = λ i h. h; many = refl; allowance = refl; less = λ g. omega arith }

    turned_more : (t u v : Dest) → Turned P t u → Turned P u v → Turned P t v
    turned_more t u v x y = record { point = λ i h. y.point i (x.point i h); many = y.many ∙ x.many; allowance = y.allowance ∙ x.allowance; less = λ g. omega (arith, x.less g, y.less g) }

    put-point : (j : ℕ) (s v : Sub) (t u : Dest) → nth j t.subs ≡ some s → is_browser s ≡ false → has_credit s ≡ true → is_browser v ≡ false → s.cursor ≤ v.cursor
        → u.subs ≡ set t.subs j v → u.allowance ≡ t.allowance → ((g : Entry → ℕ) → sum g u.pending ≤ sum g t.pending) → Turned P t u
    put-point j s v t u n b k c d e a less = record {
      point = λ i h r m. by-test (eqb i j)
          (λ q. let o : nth j (set t.subs j v) ≡ some r = subst (λ (x : ℕ). nth x (set t.subs j v) ≡ some r) (eqb-true i j q) (sym (ap (nth i) e) ∙ m) in
          subst⁻¹ (P u.pending) (nth-same j t.subs v r o) (K.less t.pending u.pending v less (K.on t.pending s v b k c d (h s (ap (λ (x : ℕ). nth x t.subs) (eqb-true i j q) ∙ n)))))
          (λ q. K.less t.pending u.pending r less (h r (sym (nth-other i j t.subs v (eqb-false i j q)) ∙ sym (ap (nth i) e) ∙ m)));
      many = ap length e ∙ length-set t.subs j v;
      allowance = a;
      less = less;
    }

    given-point : (j : ℕ) (s : Sub) (l : Look) (t : Dest) (o : Option Entry) → nth j t.subs ≡ some s → is_browser s ≡ false → has_credit s ≡ true → s.cursor ≤ l.cursor
        → ((g : Entry → ℕ) → sum g l.pending ≤ sum g t.pending) → Turned P t (given j s l t o).dest
    unfolding given is_browser
    given-point j s l t none n b k c less = put-point j s (with_cursor l.cursor s) t _ n b k b c refl refl less
    given-point j s l t (some e) n b k c less = put-point j s (send e (with_cursor l.cursor s)) t _ n b k b c refl refl less

    visit-point : (j : ℕ) (t : Dest) → Turned P t (visit now j t).dest
    unfolding visit visit_at
    visit-point j t = go (nth j t.subs) refl
      where
        go : (o : Option Sub) → nth j t.subs ≡ o → Turned P t (visit_at now j t o).dest
        go none e = turned_none t
        go (some s) e =
            let l = look now s s.cursor t.pending in
            by-if (λ (r : Turn). Turned P t r.dest) (is_browser s || not (has_credit s)) _ (given j s l t l.chosen) (λ c. turned_none t)
            (λ c. given-point j s l t l.chosen e (or-no-left (is_browser s) _ c) (yes (has_credit s) (or-no-right (is_browser s) _ c)) (look-cursor s s.cursor t.pending (omega arith)) (λ g. look-less g s s.cursor t.pending))

    scan-point : (is : List ℕ) (t : Dest) → Turned P t (scan now is t).dest
    unfolding scan
    scan-point [] t = turned_none t
    scan-point (i ∷ is) t = by-if (λ (r : Turn). Turned P t r.dest) (visit now i t).took (visit now i t) (scan now is (visit now i t).dest) (λ c. visit-point i t)
        (λ c. turned_more t (visit now i t).dest _ (visit-point i t) (scan-point is (visit now i t).dest))

    rounds-point : (fuel : ℕ) (t : Dest) → Turned P t (rounds fuel now t).dest
    unfolding rounds
    rounds-point zero t = turned_none t
    rounds-point (suc fuel) t =
        let here = scan now (turns t) t in
        by-if (λ (r : Out). Turned P t r.dest) (not here.took || empty here.dest.pending) _ _ (λ c. scan-point (turns t) t)
        (λ c. turned_more t here.dest _ (scan-point (turns t) t) (rounds-point fuel here.dest))

  -- ---- the two properties

  abbrev Quiet : (Entry → ℕ) → List Entry → Sub → Type 0
  Quiet f p s = is_browser s ≡ false → has_credit s ≡ true → sum (late_for now s.cursor f) p ≡ 0

  quiet_keeps : (f : Entry → ℕ) → Keeps (Quiet f)
  quiet_keeps f = record {
    less = λ p q s h x b k. omega (arith, h (late_for now s.cursor f), x b k);
    on = λ p s v b k c d x e m. omega (arith, x b k, sum-on s.cursor v.cursor f p d);
  }

  abbrev Rested : List Entry → Sub → Type 0
  Rested p s = RestsQueue s

  rested-keeps : Keeps Rested
  rested-keeps = record { less = λ p q s h x. x; on = λ p s v b k c d x e m. absurd (true≢false (sym e ∙ c)) }

  -- ---- a scan in which no one takes an entry

  given-settles : (i : ℕ) (s : Sub) (l : Look) (t : Dest) (o : Option Entry) → s.cursor ≤ l.cursor → (o ≡ none → sum (late_for now s.cursor one) l.pending ≡ 0)
      → (given i s l t o).took ≡ false → Point (Quiet one) i (given i s l t o).dest
  unfolding given is_browser
  given-settles i s l t none c h k = λ r m b d.
      let e = nth-same i t.subs (with_cursor l.cursor s) r m in
      subst⁻¹ (λ (v : Sub). sum (late_for now v.cursor one) l.pending ≡ 0) e (omega (arith, h refl, sum-on s.cursor l.cursor one l.pending c))
  given-settles i s l t (some e) c h k = absurd (true≢false k)

  visit-settles : (i : ℕ) (t : Dest) → (visit now i t).took ≡ false → Point (Quiet one) i (visit now i t).dest
  unfolding visit visit_at
  visit-settles i t = go (nth i t.subs) refl
    where
      neither : (a b : Bool) → a ≡ false → b ≡ true → (a || not b) ≡ false
      neither a b h g = rw (h, g)

      go : (o : Option Sub) → nth i t.subs ≡ o → (visit_at now i t o).took ≡ false → Point (Quiet one) i (visit_at now i t o).dest
      go none e = λ k r m. absurd (none-some (sym e ∙ m))
      go (some s) e =
          let l = look now s s.cursor t.pending in
          by-if (λ (r : Turn). r.took ≡ false → Point (Quiet one) i r.dest) (is_browser s || not (has_credit s)) _ (given i s l t l.chosen)
          (λ c k r m b d. let q : r ≡ s = some_inj (sym m ∙ e) in
          absurd (true≢false (sym c ∙ neither (is_browser s) (has_credit s) (ap is_browser (sym q) ∙ b) (ap has_credit (sym q) ∙ d))))
          (λ c. given-settles i s l t l.chosen (look-cursor s s.cursor t.pending (omega arith)) (look_none s s.cursor t.pending))

  scan-settles : (i : ℕ) (is : List ℕ) (t : Dest) → (scan now is t).took ≡ false → member i is ≡ true → Point (Quiet one) i (scan now is t).dest
  unfolding scan
  scan-settles i [] t = λ h m. absurd (true≢false (sym m))
  scan-settles i (j ∷ is) t = by-if (λ (r : Turn). r.took ≡ false → member i (j ∷ is) ≡ true → Point (Quiet one) i r.dest) (visit now j t).took (visit now j t) (scan now is (visit now j t).dest)
      (λ c h. absurd (true≢false (sym c ∙ h)))
      (λ c h m. by-test (eqb i j)
      (λ q. (scan-point (Quiet one) (quiet_keeps one) is (visit now j t).dest).point i (subst⁻¹ (λ (x : ℕ). Point (Quiet one) x (visit now j t).dest) (eqb-true i j q) (visit-settles j t c)))
      (λ q. scan-settles i is (visit now j t).dest h (sym (ap (λ b. b || member i is) q) ∙ m)))

  -- one that takes an entry leaves fewer
  given-took : (i : ℕ) (s : Sub) (l : Look) (t : Dest) (o : Option Entry) → (given i s l t o).took ≡ true → (given i s l t o).dest.pending ≡ l.pending × (1 ≤ fo one o)
  unfolding given
  given-took i s l t none h = absurd (true≢false (sym h))
  given-took i s l t (some e) h = (refl, omega arith)

  look-took : (s : Sub) (c : ℕ) (l : List Entry) → sum one (look now s c l).pending + fo one (look now s c l).chosen ≤ sum one l
  unfolding look
  look-took s c [] = omega arith
  look-took s c (e ∷ l) =
      let P : Look → Type 0 = λ k. sum one k.pending + fo one k.chosen ≤ 1 + sum one l in
      by-if P (leb e.seq s.cursor) _ _ (λ x. omega (arith, look-took s c l))
      (λ x. by-if P (expired (pos now) e) _ _ (λ y. omega (arith, look-took s c l))
      (λ y. by-if P (accepts s e) _ _ (λ z. omega arith) (λ z. omega (arith, look-took s e.seq l))))

  visit-took : (i : ℕ) (t : Dest) → (visit now i t).took ≡ true → sum one (visit now i t).dest.pending + 1 ≤ sum one t.pending
  unfolding visit visit_at
  visit-took i t = go (nth i t.subs)
    where
      go : (o : Option Sub) → (visit_at now i t o).took ≡ true → sum one (visit_at now i t o).dest.pending + 1 ≤ sum one t.pending
      go none = λ h. absurd (true≢false (sym h))
      go (some s) =
          let l = look now s s.cursor t.pending in
          by-if (λ (r : Turn). r.took ≡ true → sum one r.dest.pending + 1 ≤ sum one t.pending) (is_browser s || not (has_credit s)) _ (given i s l t l.chosen)
          (λ c h. absurd (true≢false (sym h)))
          (λ c h. let g = given-took i s l t l.chosen h in omega (arith, ap (sum one) g.0, g.1, look-took s s.cursor t.pending))

  scan-took : (is : List ℕ) (t : Dest) → (scan now is t).took ≡ true → sum one (scan now is t).dest.pending + 1 ≤ sum one t.pending
  unfolding scan
  scan-took [] t = λ h. absurd (true≢false (sym h))
  scan-took (j ∷ is) t = by-if (λ (r : Turn). r.took ≡ true → sum one r.dest.pending + 1 ≤ sum one t.pending) (visit now j t).took (visit now j t) (scan now is (visit now j t).dest)
      (λ c h. visit-took j t h)
      (λ c h. omega (arith, scan-took is (visit now j t).dest h, (visit-point Rested rested-keeps j t).less one))

  -- ---- each consumer has its turn

  -- some number from r on, one of the next n, has this rest
  has_rest : (n i r : ℕ) → i < n → (k : ℕ) × (r ≤ k) × (k < r + n) × (k % n ≡ i)
  has_rest n i zero h = (i, omega arith, omega (arith, h), mod-eq_of_lt h)
  has_rest n i (suc r) h =
      let p = has_rest n i r h in
      let k : ℕ = p.0 in
      by-test (eqb k r)
      (λ q. let e : k + n - n ≡ k = omega arith in (k + n, omega (arith, h, eqb-true k r q), omega (arith, eqb-true k r q), mod-eq-sub-mod {n = k + n} {m = n} (omega arith) ∙ ap (λ (x : ℕ). x % n) e ∙ p.3))
      (λ q. (k, omega (arith, p.1, eqb-false k r q), omega (arith, p.2), p.3))

  up-has : (n k r m : ℕ) → r ≤ k → k < r + m → member (k % n) (map (λ x. x % n) (up_from r m)) ≡ true
  up-has n k r zero g h = absurd (omega (arith, g, h))
  up-has n k r (suc m) g h = by-test (eqb k r)
      (λ q. ap (λ (x : ℕ). eqb (k % n) (x % n) || member (k % n) (map (λ y. y % n) (up_from (suc r) m))) (sym (eqb-true k r q)) ∙ ap (λ b. b || member (k % n) (map (λ y. y % n) (up_from (suc r) m))) (eq-eqb (k % n) (k % n) refl))
      (λ q. or-second (eqb (k % n) (r % n)) _ (up-has n k (suc r) m (omega (arith, g, eqb-false k r q)) (omega (arith, h))))
    where
      or-second : (a b : Bool) → b ≡ true → (a || b) ≡ true
      or-second true b h = refl
      or-second false b h = h

  turns-all : (t : Dest) (i : ℕ) → i < length t.subs → member i (turns t) ≡ true
  turns-all t i h =
      let p = has_rest (length t.subs) i t.rr h in
      subst (λ (x : ℕ). member x (turns t) ≡ true) p.3 (up-has (length t.subs) p.0 t.rr (length t.subs) p.1 p.2)

  -- ---- the rounds end where no one finds anything

  empty-sum : (g : Entry → ℕ) (l : List Entry) → empty l ≡ true → sum g l ≡ 0
  empty-sum g [] h = refl
  empty-sum g (e ∷ l) h = absurd (true≢false (sym h))

  rounds-settle : (fuel : ℕ) (t : Dest) → sum one t.pending < fuel → (i : ℕ) → Point (Quiet one) i (rounds fuel now t).dest
  unfolding rounds
  rounds-settle zero t h i = absurd (omega (arith, h))
  rounds-settle (suc fuel) t h i =
      let here = scan now (turns t) t in
      by-if (λ (r : Out). Point (Quiet one) i r.dest) (not here.took || empty here.dest.pending) _ _
      (λ c. by-test here.took
      (λ k s m b d. empty-sum (late_for now s.cursor one) here.dest.pending (sym (ap (λ x. not x || empty here.dest.pending) k) ∙ c))
      (λ k s m. scan-settles i (turns t) t k (turns-all t i (omega (arith, nth-low i here.dest.subs s m, (scan-point Rested rested-keeps (turns t) t).many))) s m))
      (λ c. rounds-settle fuel here.dest (omega (arith, h, scan-took (turns t) t (yes here.took (or-no-left (not here.took) _ c)))) i)

  -- ---- where no one finds anything of f, a dispatch loses none of it

  take_count : (f : Entry → ℕ) (s : Sub) (c : ℕ) (e : Entry) → is_browser s ≡ false → count_m f (send e (with_cursor c s)) ≡ count_m f s + f e
  unfolding is_browser
  take_count f s c e b = omega (arith, count-plain f (send e (with_cursor c s)) b, count-plain f s b, ap (sum f) (send-flying s e), sum-append f (flying s) (e ∷ []))

  module _ (f : Entry → ℕ) where
    -- of f as much is held
    abbrev Holds : Dest → Dest → Type 0
    Holds t u = queue_sum f u ≡ queue_sum f t

    given_holds : (i : ℕ) (s : Sub) (l : Look) (t : Dest) (o : Option Entry) → nth i t.subs ≡ some s → is_browser s ≡ false → sum f t.pending ≡ sum f l.pending + fo f o → Holds t (given i s l t o).dest
    unfolding given
    given_holds i s l t none e b h = omega (arith, h, sums-set (count_m f) i t.subs s (with_cursor l.cursor s) e, cursor-count f l.cursor s)
    given_holds i s l t (some x) e b h = omega (arith, h, sums-set (count_m f) i t.subs s (send x (with_cursor l.cursor s)) e, take_count f s l.cursor x b)

    visit-holds : (i : ℕ) (t : Dest) → Point (Quiet f) i t → Holds t (visit now i t).dest
    unfolding visit visit_at
    visit-holds i t h = go (nth i t.subs) refl
      where
        go : (o : Option Sub) → nth i t.subs ≡ o → Holds t (visit_at now i t o).dest
        go none e = refl
        go (some s) e =
            let l = look now s s.cursor t.pending in
            by-if (λ (r : Turn). Holds t r.dest) (is_browser s || not (has_credit s)) _ (given i s l t l.chosen) (λ c. refl)
            (λ c. let b = or-no-left (is_browser s) _ c in
            given_holds i s l t l.chosen e b (look-keeps f s s.cursor t.pending (h s e b (yes (has_credit s) (or-no-right (is_browser s) _ c)))))

    abbrev Finds : Dest → Type 0
    Finds t = (i : ℕ) → Point (Quiet f) i t

    scan-holds : (is : List ℕ) (t : Dest) → Finds t → Holds t (scan now is t).dest
    unfolding scan
    scan-holds [] t h = refl
    scan-holds (j ∷ is) t h = by-if (λ (r : Turn). Holds t r.dest) (visit now j t).took (visit now j t) (scan now is (visit now j t).dest) (λ c. visit-holds j t (h j))
        (λ c. scan-holds is (visit now j t).dest (λ i. (visit-point (Quiet f) (quiet_keeps f) j t).point i (h i)) ∙ visit-holds j t (h j))

    rounds-hold : (fuel : ℕ) (t : Dest) → Finds t → Holds t (rounds fuel now t).dest
    unfolding rounds
    rounds-hold zero t h = refl
    rounds-hold (suc fuel) t h =
        let here = scan now (turns t) t in
        by-if (λ (r : Out). Holds t r.dest) (not here.took || empty here.dest.pending) _ _ (λ c. scan-holds (turns t) t h)
        (λ c. rounds-hold fuel here.dest (λ i. (scan-point (Quiet f) (quiet_keeps f) (turns t) t).point i (h i)) ∙ scan-holds (turns t) t h)

  -- ---- browsers

  -- one at rest has nothing to show
  rest-browser : (p : List Entry) (s : Sub) → is_browser s ≡ true → RestsQueue s → dispatch_browser now p s ≡ alone p s
  unfolding drain_browser close_browser
  rest-browser p s b h = go (snapshot s) refl
    where
      go : (l : List Entry) → snapshot s ≡ l → drain_browser now l (alone p s) ≡ alone p s
      go [] q = by-test (has_credit s) (λ c. rw (c, (h b c).1)) (λ c. rw c)
      go (e ∷ es) q = by-test (has_credit s) (λ c. absurd (nil-cons (sym (h b c).0 ∙ q))) (λ c. rw c)

  rest-browsed : (p : List Entry) (s : Sub) → RestsQueue s → browsed now p s ≡ alone p s
  rest-browsed p s h = by-if (λ (b : Browse). b ≡ alone p s) (is_browser s) (dispatch_browser now p s) (alone p s) (λ c. rest-browser p s c h) (λ c. refl)

  rest_all : (l : List Sub) (p : List Entry) → All RestsQueue l → ((browsers now l p).subs ≡ l) × ((browsers now l p).pending ≡ p)
  unfolding browsers
  rest_all [] p h = (refl, refl)
  rest_all (s ∷ l) p h =
      let e = rest-browsed p s h.0 in
      let r = rest_all l p h.1 in
      let w : (x : Browse) → browsed now p s ≡ x → ◌≡◌ {A = List Entry} (browsers now l (browsed now p s).pending).pending (browsers now l x.pending).pending = λ x q. ap (λ (y : Browse). (browsers now l y.pending).pending) q in
      (ap (λ (b : Browse). b.sub ∷ (browsers now l b.pending).subs) e ∙ ap (λ (m : List Sub). s ∷ m) r.0, w (alone p s) e ∙ r.1)

  browsers-rest : (l : List Sub) (p : List Entry) → All RestsQueue (browsers now l p).subs
  unfolding browsers
  browsers-rest [] p = tt
  browsers-rest (s ∷ l) p = by-test (is_browser s)
      (λ b. rw b (browsed-rests now (snapshot s) (alone p s) refl, browsers-rest l (dispatch_browser now p s).pending))
      (λ b. rw b ((λ u v. absurd (true≢false (sym u ∙ b))), browsers-rest l p))

  -- ---- a dispatch

  -- no consumer with credit has anything left to look for by this clock
  pub record Settled (t : Dest) : Type 0 where
    pub rests : (i : ℕ) → Point Rested i t
    pub finds : (i : ℕ) → Point (Quiet one) i t

  nothing-there : (l : List Sub) (i : ℕ) (s : Sub) → empty l ≡ true → nth i l ≡ some s → ⊥
  nothing-there [] i s h e = none-some e
  nothing-there (r ∷ l) i s h e = true≢false (sym h)

  pub dispatch-settles : (t : Dest) → Settled (dispatch_queue now t).dest
  unfolding dispatch_queue
  dispatch-settles t =
      let b = browsers now t.subs t.pending in
      let u = count b.counts (with_pending b.pending (with_subs b.subs t)) in
      by-if (λ (o : Out). Settled o.dest) (empty t.subs) _ _
      (λ c. record { rests = λ i s e. absurd (nothing-there t.subs i s c e); finds = λ i s e. absurd (nothing-there t.subs i s c e) })
      (λ c. record {
        rests = λ i. (rounds-point Rested rested-keeps (suc (length b.pending)) u).point i (λ s e. all-nth RestsQueue i b.subs s (browsers-rest t.subs t.pending) e);
        finds = λ i. rounds-settle (suc (length b.pending)) u (omega (arith, sum_one b.pending)) i;
      })

  pub dispatch-allowance : (t : Dest) → (dispatch_queue now t).dest.allowance ≡ t.allowance
  unfolding dispatch_queue
  dispatch-allowance t =
      let b = browsers now t.subs t.pending in
      by-if (λ (o : Out). o.dest.allowance ≡ t.allowance) (empty t.subs) _ _ (λ c. refl)
      (λ c. (rounds-point Rested rested-keeps (suc (length b.pending)) (count b.counts (with_pending b.pending (with_subs b.subs t)))).allowance)

  point-all : (P : Sub → Type 0) (l : List Sub) → ((i : ℕ) (s : Sub) → nth i l ≡ some s → P s) → All P l
  point-all P [] h = tt
  point-all P (s ∷ l) h = (h 0 s refl, point-all P l (λ i r e. h (suc i) r e))

  dispatch-holds : (f : Entry → ℕ) (t : Dest) → ((i : ℕ) → Point Rested i t) → Finds f t → queue_sum f (dispatch_queue now t).dest ≡ queue_sum f t
  unfolding dispatch_queue
  dispatch-holds f t r h =
      let b = browsers now t.subs t.pending in
      let u = count b.counts (with_pending b.pending (with_subs b.subs t)) in
      let e = rest_all t.subs t.pending (point-all RestsQueue t.subs r) in
      by-if (λ (o : Out). queue_sum f o.dest ≡ queue_sum f t) (empty t.subs) _ _ (λ c. refl)
      (λ c. rounds-hold f (suc (length b.pending)) u
      (λ i s m x y. ap (sum (late_for now s.cursor f)) e.1 ∙ h i s (sym (ap (nth i) e.0) ∙ m) x y)
      ∙ omega (arith, ap (sum f) e.1, ap (sums (count_m f)) e.0))

  -- ---- an entry stored next

  nth-map : (h : Sub → Sub) (i : ℕ) (l : List Sub) (r : Sub) → nth i (map h l) ≡ some r → (s : Sub) × (nth i l ≡ some s) × (h s ≡ r)
  nth-map h i [] r e = absurd (none-some e)
  nth-map h zero (s ∷ l) r e = (s, refl, some_inj e)
  nth-map h (suc i) (s ∷ l) r e = nth-map h i l r e

  back-rests : (n : ℕ) (s : Sub) → RestsQueue s → RestsQueue (hold_back n s)
  unfolding is_browser has_credit
  back-rests n s h = h

  quiet-back : (n : ℕ) (f : Entry → ℕ) (p : List Entry) (s : Sub) → (is_browser s ≡ false → has_credit s ≡ true → sum (late_for now (min s.cursor (n - 1)) f) p ≡ 0) → Quiet f p (hold_back n s)
  unfolding is_browser has_credit
  quiet-back n f p s h = h

  -- entries below n, of which none is found, are not found with the cursor held back below n
  held_back : (c n : ℕ) (f : Entry → ℕ) (l : List Entry) → All (λ v. v.seq < n) l → sum (late_for now c one) l ≡ 0 → sum (late_for now (min c (n - 1)) f) l ≡ 0
  held_back c n f [] h z = refl
  held_back c n f (v ∷ l) h z = omega (arith, here, held_back c n f l h.1 (omega (arith, z)))
    where
      here : late_for now (min c (n - 1)) f v ≡ 0
      here = by-test (leb v.seq c)
          (λ x. late-before (min c (n - 1)) f v (le-leb v.seq (min c (n - 1)) (omega (arith, leb-true v.seq c x, h.0))))
          (λ x. by-test (expired (pos now) v) (λ y. absurd (omega (arith, z, late_is c one v x y))) (λ y. late-alive (min c (n - 1)) f v y))

  late-under : (c : ℕ) (f : Entry → ℕ) (e : Entry) → late_for now c f e ≤ f e
  unfolding late_for
  late-under c f e = by-if (λ (n : ℕ). n ≤ f e) (leb e.seq c) _ _ (λ x. omega arith) (λ x. by-if (λ (n : ℕ). n ≤ f e) (expired (pos now) e) _ _ (λ y. omega arith) (λ y. omega arith))

  none_of : (n : ℕ) (l : List Entry) → All (λ v. v.seq < n) l → sum (occ n) l ≡ 0
  none_of n [] h = refl
  none_of n (v ∷ l) h = omega (arith, occ-no n v (ne_eqb n v.seq (λ e. omega (arith, h.0, e))), none_of n l h.1)

  -- what the queue holds of any other number stays
  pub store-holds : (e : Entry) (t : Dest) (q : ℕ) → Settled t → All (λ v. v.seq < e.seq) t.pending → eqb q e.seq ≡ false → queue_sum (occ q) (dispatch_queue now (stored e t)).dest ≡ queue_sum (occ q) t
  store-holds e t q z h n = dispatch-holds (occ q) (stored e t) rests finds ∙ same
    where
      rests : (i : ℕ) → Point Rested i (stored e t)
      rests i r m = let p = nth-map (hold_back e.seq) i t.subs r m in subst RestsQueue p.2 (back-rests e.seq p.0 (z.rests i p.0 p.1))

      finds : Finds (occ q) (stored e t)
      finds i r m =
          let p = nth-map (hold_back e.seq) i t.subs r m in
          let s = p.0 in
          let c = min s.cursor (e.seq - 1) in
          subst (Quiet (occ q) (insert e t.pending)) p.2 (quiet-back e.seq (occ q) (insert e t.pending) s
          (λ b k. omega (arith, sum-insert (late_for now c (occ q)) e t.pending, late-under c (occ q) e, occ-no q e n, held_back s.cursor e.seq (occ q) t.pending h (z.finds i s p.1 b k))))

      same : queue_sum (occ q) (stored e t) ≡ queue_sum (occ q) t
      same = omega (arith, insert-sum (occ q) e t.pending (none_of e.seq t.pending h), occ-no q e n, sums-map (count_m (occ q)) (hold_back e.seq) t.subs (λ s. cursor-count (occ q) (min s.cursor (e.seq - 1)) s))
