-- The head's tests: where the code may stop, the rings of the audits one by one, and the bound that fits a word. Assumes nothing.
use mathlib.Core.Path.{◌≡◌, sym, ap, ap₂, ◌∙◌}
use mathlib.Core.Bool.{Bool, true, false, ◌&&◌, ◌||◌}
use mathlib.Core.List.{List}
use Prim.Native.Nat.{ℕ, suc, ◌+◌, ◌-◌, ◌≤◌, ◌<◌, ◌^◌}
use native.Mathlib.Omega.{arith}
use borrow.Author.Tests.{leb-true, le-leb, lt-leb}
use lib.Dec.{leb, ltb, eqb}
use lib.ListN.{length, drop}
use lib.Seq.{get_or-drop, drop-drop}
use Rattle.audit.specs.Audit as Ring
use Rattle.audit.specs.declared.Audit as RingState
use Rattle.definition.specs.Calls.{bound, counters_ok}
use Rattle.definition.specs.Words.{at}
use Rattle.definition.specs.Layout.{stats_at, ring_at, rings_formed}
use Rattle.definition.proofs.Tests.{and_left, and_right}
use Rattle.heads.specs.Heads.{limits_ok, counts_ok, marks_ok, head_ok, head_sound}

pub head-stop : (h : List ℕ) → limits_ok h ≡ false → false ≡ head_ok h
unfolding head_ok
head-stop h e = sym (ap (λ (b : Bool). b && (counts_ok h && (marks_ok h && counters_ok (bound (at 3 h)) (stats_at h)))) e)

pub head-rest : (h : List ℕ) → limits_ok h ≡ true → (counts_ok h && (marks_ok h && counters_ok (bound (at 3 h)) (stats_at h))) ≡ head_ok h
unfolding head_ok
head-rest h e = sym (ap (λ (b : Bool). b && (counts_ok h && (marks_ok h && counters_ok (bound (at 3 h)) (stats_at h)))) e)

pub limits-used : (h : List ℕ) → limits_ok h ≡ true → at 3 h ≤ 2 ^ 40
limits-used h e =
    let p = and_right (leb 1 (at 2 h)) (leb (at 2 h) (2 ^ 40) && (leb (at 3 h) (at 2 h) && (leb (at 1 h) 512 && (leb (at 8345 h) 86400000 && (leb 1 (at 8346 h) && leb (at 8346 h) 512))))) e in
    let q = and_right (leb (at 2 h) (2 ^ 40)) (leb (at 3 h) (at 2 h) && (leb (at 1 h) 512 && (leb (at 8345 h) 86400000 && (leb 1 (at 8346 h) && leb (at 8346 h) 512)))) p in
    omega (
      arith,
      leb-true (at 2 h) (2 ^ 40) (and_left (leb (at 2 h) (2 ^ 40)) (leb (at 3 h) (at 2 h) && (leb (at 1 h) 512 && (leb (at 8345 h) 86400000 && (leb 1 (at 8346 h) && leb (at 8346 h) 512)))) p),
      leb-true (at 3 h) (at 2 h) (and_left (leb (at 3 h) (at 2 h)) (leb (at 1 h) 512 && (leb (at 8345 h) 86400000 && (leb 1 (at 8346 h) && leb (at 8346 h) 512))) q),
    )

-- what the head's tests say of its counts
pub head-counts : (h : List ℕ) → head_ok h ≡ true → (at 12 h ≤ 32) × (at 14 h ≤ 8) × (at 3 h ≤ 2 ^ 40)
unfolding head_ok
head-counts h e =
    let c = and_left (counts_ok h) (marks_ok h && counters_ok (bound (at 3 h)) (stats_at h)) (and_right (limits_ok h) (counts_ok h && (marks_ok h && counters_ok (bound (at 3 h)) (stats_at h))) e) in
    let t : Bool = ltb (at 4 h) (at 12 h) || eqb (at 4 h) 0 in
    let p = and_right (leb (at 12 h) 32) (leb (at 13 h) 32 && (leb (at 14 h) 8 && t)) c in
    let q = and_right (leb (at 13 h) 32) (leb (at 14 h) 8 && t) p in (
      leb-true (at 12 h) 32 (and_left (leb (at 12 h) 32) (leb (at 13 h) 32 && (leb (at 14 h) 8 && t)) c),
      leb-true (at 14 h) 8 (and_left (leb (at 14 h) 8) t q),
      limits-used h (and_left (limits_ok h) (counts_ok h && (marks_ok h && counters_ok (bound (at 3 h)) (stats_at h))) e),
    )

-- ---- rings

module _ (h : List ℕ) (m from : ℕ) (total : Bool) (e : rings_formed m (drop from h) ≡ total) where
  rings-turn : 0 < m → (Ring.ring_sound (record { start = at (from + 3) h; count = at (from + 4) h }) && rings_formed (m - 1) (drop (from + 1029) h)) ≡ total
  unfolding rings_formed
  rings-turn b =
      let q : m ≡ suc (m - 1) = omega arith in
      let r : RingState.Audit = ring_at (drop from h) in
      sym (ap (λ (n : ℕ). rings_formed n (drop from h)) q
      ∙ ap₂ (λ (a : RingState.Audit) (l : List ℕ). Ring.ring_sound a && rings_formed (m - 1) l)
      (λ i. record { start = get_or-drop from h 3 0 i; count = get_or-drop from h 4 0 i }) (drop-drop 1029 from h)) ∙ e

  pub rings-stop : 0 < m → Ring.ring_sound (record { start = at (from + 3) h; count = at (from + 4) h }) ≡ false → false ≡ total
  rings-stop b q = sym (ap (λ (t : Bool). t && rings_formed (m - 1) (drop (from + 1029) h)) q) ∙ rings-turn b

  pub rings-next : 0 < m → Ring.ring_sound (record { start = at (from + 3) h; count = at (from + 4) h }) ≡ true → rings_formed (m - 1) (drop (from + 1029) h) ≡ total
  rings-next b q = sym (ap (λ (t : Bool). t && rings_formed (m - 1) (drop (from + 1029) h)) q) ∙ rings-turn b

  pub rings-end : m ≡ 0 → true ≡ total
  unfolding rings_formed
  rings-end q = sym (ap (λ (n : ℕ). rings_formed n (drop from h)) q) ∙ e

-- ---- the whole head

module _ (h : List ℕ) where
  pub head-short : length h < 8347 → false ≡ head_sound h
  unfolding head_sound
  head-short b = sym (ap (λ (t : Bool). t && (head_ok h && rings_formed (at 14 h) (drop 113 h))) (lt-leb 8347 (length h) b))

  pub head-unsound : 8347 ≤ length h → head_ok h ≡ false → false ≡ head_sound h
  unfolding head_sound
  head-unsound b e = sym (ap₂ (λ (s t : Bool). s && (t && rings_formed (at 14 h) (drop 113 h))) (le-leb 8347 (length h) b) e)

  pub head-rings : 8347 ≤ length h → head_ok h ≡ true → rings_formed (at 14 h) (drop 113 h) ≡ head_sound h
  unfolding head_sound
  head-rings b e = sym (ap₂ (λ (s t : Bool). s && (t && rings_formed (at 14 h) (drop 113 h))) (le-leb 8347 (length h) b) e)
