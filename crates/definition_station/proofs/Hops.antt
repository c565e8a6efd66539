-- More than eight hops change nothing: a letter that eight destinations refuse can only meet one that has refused. Assumes nothing.
use Prim.Native.Nat.{ℕ, zero, suc, ◌+◌, ◌≤◌, ◌<◌}
use native.Mathlib.Omega.{arith}
use mathlib.Core.Path.{◌≡◌, refl, sym, ◌∙◌, ap, subst⁻¹}
use mathlib.Core.Bool.{Bool, true, false, not, ◌||◌, true≢false}
use mathlib.Core.List.{[], ◌∷◌, append-nil}
use mathlib.Core.Option.{Option, none, some}
use lib.Dec.{eqb}
use lib.ListN.{length}
use borrow.Author.Tests.{eqb-true, eqb-false, eq-eqb, ne_eqb}
use Rattle.definition.specs.Base.{tally, up_from}
use Rattle.definition.specs.Types.{Entry}
use Rattle.definition.specs.Calls.{enqueuing, call}
use Rattle.definition.proofs.Tests.{by-test, if-true, if-false}
use Rattle.words.proofs.Tests.{or_left, or_right}
use Rattle.definition.proofs.Lists.{some_inj}
use Rattle.definition_station.specs.Types.{StationSlot, Station, slot_of}
use Rattle.definition_station.specs.Letters.{whole, each, is_lost, stored_at, storing, hops_max}
use Rattle.definition_station.specs.Claims.{EightAreEnough}
use Rattle.definition_station.proofs.Places.{facts, place_in}

-- ---- how many of eight are not in a set, and one more in it

abbrev with : ℕ → (ℕ → Bool) → ℕ → Bool
with k v j = v j || eqb j k

abbrev out : (ℕ → Bool) → ℕ → ℕ → ℕ
out v from n = tally (λ j. not (v j)) (up_from from n)

-- where it is not among them
out-same : (v : ℕ → Bool) (k from n : ℕ) → k < from → out (with k v) from n ≡ out v from n
out-same v k from zero h = refl
out-same v k from (suc n) h =
    let z : eqb from k ≡ false = ne_eqb from k (λ e. omega (arith, h, e)) in
    let r = out-same v k (suc from) n (omega (arith, h)) in
    by-test (v from) (λ c. rw c (omega (arith, r))) (λ c. rw (c, z) (omega (arith, r)))

out-less : (v : ℕ → Bool) (k from n : ℕ) → from ≤ k → k < from + n → v k ≡ false → out v from n ≡ 1 + out (with k v) from n
out-less v k from zero h g z = absurd (omega (arith, h, g))
out-less v k from (suc n) h g z = by-test (eqb from k)
    (λ c.
    let q : from ≡ k = eqb-true from k c in
    let w : v from ≡ false = ap v q ∙ z in
    let r = out-same v k (suc from) n (omega (arith, q)) in
    rw (w, c) (omega (arith, r)))
    (λ c.
    let r = out-less v k (suc from) n (omega (arith, h, eqb-false from k c)) (omega (arith, g)) z in
    by-test (v from) (λ w. rw w (omega (arith, r))) (λ w. rw (w, c) (omega (arith, r))))

module _ (now : ℕ) (e : Entry) (s : Station) where
  -- ---- one hop

  -- passing on is storing there
  once : (hops j : ℕ) → each (storing hops now j) (e ∷ []) s ≡ storing hops now j e s
  once hops j = let q = append-nil (storing hops now j e s).events in λ i. record { station = (storing hops now j e s).station; events = q i }

  -- the destination there is open and refuses
  record Refuses (k : ℕ) : Type 0 where
    slot : StationSlot
    there : slot_of k s ≡ some slot
    no : eqb (call whole (enqueuing e now) slot.dest).refusal 0 ≡ false

  -- it refuses and the letter goes on, or it is stored, or none is open
  data Hop (k : ℕ) : Type 0 where
    passes : Refuses k → Hop k
    settles : (x : StationSlot) → slot_of k s ≡ some x → ((h g : ℕ) → storing (suc h) now k e s ≡ storing (suc g) now k e s) → Hop k
    loses : slot_of k s ≡ none → Hop k

  one : (h k : ℕ) (x : StationSlot) → slot_of k s ≡ some x → eqb (call whole (enqueuing e now) x.dest).refusal 0 ≡ true → storing (suc h) now k e s ≡ stored_at (λ j u. is_lost u) now k e s (some x)
  unfolding storing stored_at
  one h k x q c = ap (stored_at (λ j u. each (storing h now j) (e ∷ []) u) now k e s) q ∙ if-true _ (each (storing h now x.name) (e ∷ []) s) c ∙ sym (if-true _ (is_lost s) c)

  hop : (k : ℕ) (o : Option StationSlot) → slot_of k s ≡ o → Hop k
  hop k none q = loses q
  hop k (some x) q = by-test (eqb (call whole (enqueuing e now) x.dest).refusal 0)
      (λ c. settles x q (λ h g. one h k x q c ∙ sym (one g k x q c)))
      (λ c. passes (record { slot = x; there = q; no = c }))

  lost : (h k : ℕ) → slot_of k s ≡ none → storing h now k e s ≡ is_lost s
  unfolding storing stored_at
  lost zero k q = refl
  lost (suc h) k q = ap (stored_at (λ j u. each (storing h now j) (e ∷ []) u) now k e s) q

  no-hops : (k : ℕ) → storing 0 now k e s ≡ is_lost s
  unfolding storing
  no-hops k = refl

  on : (h k : ℕ) (r : Refuses k) → storing (suc h) now k e s ≡ storing h now r.slot.name e s
  unfolding storing stored_at
  on h k r = ap (stored_at (λ j u. each (storing h now j) (e ∷ []) u) now k e s) r.there ∙ if-false _ (each (storing h now r.slot.name) (e ∷ []) s) r.no ∙ once h r.slot.name

  -- ---- destinations that have refused

  -- each of a set refuses, and names one of them or k
  record Trail (v : ℕ → Bool) (k : ℕ) : Type 0 where
    refuse : (j : ℕ) → v j ≡ true → Refuses j
    leads : (j : ℕ) (x : StationSlot) → v j ≡ true → slot_of j s ≡ some x → with k v x.name ≡ true

  -- where k is one of them, the letter goes round
  round : (v : ℕ → Bool) (k : ℕ) → Trail v k → v k ≡ true → (h j : ℕ) → v j ≡ true → storing h now j e s ≡ is_lost s
  round v k t m zero j n = no-hops j
  round v k t m (suc h) j n = let r = t.refuse j n in on h j r ∙ round v k t m h r.slot.name (inside r.slot.name (t.leads j r.slot n r.there))
    where
      inside : (i : ℕ) → with k v i ≡ true → v i ≡ true
      inside i = by-test (v i) (λ c q. c) (λ c. rw c (λ q. absurd (true≢false (sym m ∙ sym (ap v (eqb-true i k q)) ∙ c))))

  -- one more
  longer : (v : ℕ → Bool) (k : ℕ) → Trail v k → (r : Refuses k) → Trail (with k v) r.slot.name
  longer v k t r = record { refuse = refuse; leads = leads }
    where
      refuse : (j : ℕ) → with k v j ≡ true → Refuses j
      refuse j = by-test (v j) (λ c q. t.refuse j c) (λ c. rw c (λ q. subst⁻¹ Refuses (eqb-true j k q) r))

      leads : (j : ℕ) (x : StationSlot) → with k v j ≡ true → slot_of j s ≡ some x → with r.slot.name (with k v) x.name ≡ true
      leads j x = by-test (v j)
          (λ c q p. or_left (with k v x.name) _ (t.leads j x c p))
          (λ c. rw c (λ q p. or_right (with k v x.name) _ (eq-eqb x.name r.slot.name (ap (λ (y : StationSlot). y.name) (some_inj (sym p ∙ ap (λ (i : ℕ). slot_of i s) (eqb-true j k q) ∙ r.there))))))

  module _ (eight : length s.slots ≡ 8) where
    low : (k : ℕ) (x : StationSlot) → slot_of k s ≡ some x → k < 0 + 8
    low k x q = omega (arith, place_in k s x q, eight)

    -- k is not among them
    last-by : (v : ℕ → Bool) (k : ℕ) → out v 0 8 ≡ 0 → v k ≡ false → (h g : ℕ) → Hop k → storing h now k e s ≡ storing g now k e s
    last-by v k q c h g (passes r) = absurd (omega (arith, q, out-less v k 0 8 (omega arith) (low k r.slot r.there) c))
    last-by v k q c h g (settles x p f) = absurd (omega (arith, q, out-less v k 0 8 (omega arith) (low k x p) c))
    last-by v k q c h g (loses p) = lost h k p ∙ sym (lost g k p)

    more_by : (m : ℕ) (v : ℕ → Bool) (k : ℕ) → Trail v k → out v 0 8 ≡ suc m → v k ≡ false → (h g : ℕ) → ((w : ℕ → Bool) (j : ℕ) → Trail w j → out w 0 8 ≡ m → storing h now j e s ≡ storing g now j e s) → Hop k → storing (suc h) now k e s ≡ storing (suc g) now k e s
    more_by m v k t q c h g ih (passes r) = on h k r ∙ ih (with k v) r.slot.name (longer v k t r) (omega (arith, q, out-less v k 0 8 (omega arith) (low k r.slot r.there) c)) ∙ sym (on g k r)
    more_by m v k t q c h g ih (settles x p f) = f h g
    more_by m v k t q c h g ih (loses p) = lost (suc h) k p ∙ sym (lost (suc g) k p)

    enough : (m : ℕ) (v : ℕ → Bool) (k : ℕ) → Trail v k → out v 0 8 ≡ m → (h g : ℕ) → m ≤ h → m ≤ g → storing h now k e s ≡ storing g now k e s
    enough zero v k t q h g p r = by-test (v k) (λ c. round v k t c h k c ∙ sym (round v k t c g k c)) (λ c. last-by v k q c h g (hop k (slot_of k s) refl))
    enough (suc m) v k t q zero g p r = absurd (omega (arith, p))
    enough (suc m) v k t q (suc h) zero p r = absurd (omega (arith, r))
    enough (suc m) v k t q (suc h) (suc g) p r = by-test (v k) (λ c. round v k t c (suc h) k c ∙ sym (round v k t c (suc g) k c))
        (λ c. more_by m v k t q c h g (λ w j u x. enough m w j u x h g (omega (arith, p)) (omega (arith, r))) (hop k (slot_of k s) refl))

pub eight-are-enough : EightAreEnough
eight-are-enough more now k e s y = enough now e s (facts s y).eight 8 (λ j. false) k (record { refuse = λ j h. absurd (true≢false (sym h)); leads = λ j x h. absurd (true≢false (sym h)) }) refl (hops_max + more) hops_max (omega arith) (omega arith)
