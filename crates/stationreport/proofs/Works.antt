-- Which calls of a file are work: accepted ones, neither an open nor a start. In any other nothing leaves. Assumes nothing.
use Prim.Native.Nat.{ℕ, ◌≤◌}
use native.Mathlib.Omega.{arith}
use mathlib.Core.Path.{◌≡◌, refl, sym, ap, ◌∙◌}
use mathlib.Core.Bool.{Bool, true, false, not, ◌&&◌, ◌||◌, true≢false}
use mathlib.Core.List.{[]}
use borrow.Author.Tests.{eqb-true, eqb-false, eq-eqb, ne_eqb, not-true}
use lib.Dec.{eqb}
use Rattle.words.proofs.Tests.{or_left, or_right}
use Rattle.definition.proofs.Tests.{if-false, and_left, and_right, or-no-left, or-no-right}
use Rattle.definition_station.specs.Station.{StationResult}
use Rattle.calls.specs.declared.Call.{Call}
use Rattle.stationrun.specs.StationRuns.{LentStation, file_code, taken_by}
use Rattle.stationreport.specs.StationReporting.{is_work, left_at}
use Rattle.stationreport.specs.Gathering.{begins_anew}

module _ (c : Call) (r : StationResult) where
  pub is-work : taken_by r ≡ true → begins_anew (file_code c) ≡ false → is_work c r ≡ true
  is-work t e = rw (t, or-no-left (eqb (file_code c) 16) (eqb (file_code c) 0) e, or-no-right (eqb (file_code c) 16) (eqb (file_code c) 0) e)

  module _ (w : is_work c r ≡ true) where
    pub work-taken : taken_by r ≡ true
    work-taken = and_left (taken_by r) _ w

    pub work-code : 1 ≤ file_code c
    work-code = omega (arith, eqb-false (file_code c) 0 (not-true (eqb (file_code c) 0) (and_left (not (eqb (file_code c) 0)) _ (and_right (taken_by r) _ w))))

  -- ---- no work

  pub refused-rests : taken_by r ≡ false → is_work c r ≡ false
  refused-rests t = ap (λ (v : Bool). v && (not (eqb (file_code c) 0) && not (eqb (file_code c) 16))) t

  pub anew-rests : begins_anew (file_code c) ≡ true → is_work c r ≡ false
  anew-rests e = rests (taken_by r) (eqb (file_code c) 0) (eqb (file_code c) 16) e
    where
      rests : (t z s : Bool) → (s || z) ≡ true → (t && (not z && not s)) ≡ false
      rests false z s e = refl
      rests true true s e = refl
      rests true false true e = refl
      rests true false false e = absurd (true≢false (sym e))

  pub start-rests : file_code c ≡ 16 → is_work c r ≡ false
  start-rests e = anew-rests (or_left (eqb (file_code c) 16) (eqb (file_code c) 0) (eq-eqb (file_code c) 16 e))

  pub open-rests : eqb (file_code c) 0 ≡ true → is_work c r ≡ false
  open-rests e = anew-rests (or_right (eqb (file_code c) 16) (eqb (file_code c) 0) e)

  -- an accepted one that is none, and is no start, is an open
  pub rests-open : (file_code c ≡ 16 → ⊥) → taken_by r ≡ true → is_work c r ≡ false → file_code c ≡ 0
  rests-open n t w = eqb-true (file_code c) 0 (opens (taken_by r) (eqb (file_code c) 0) (eqb (file_code c) 16) t (ne_eqb (file_code c) 16 n) w)
    where
      opens : (t z s : Bool) → t ≡ true → s ≡ false → (t && (not z && not s)) ≡ false → z ≡ true
      opens t true s p q e = refl
      opens t false s p q e = absurd (true≢false (sym (rw (p, q)) ∙ e))

pub none_left : (j : ℕ) (c : Call) (r : StationResult) (s : LentStation) → is_work c r ≡ false → left_at j c r s ≡ []
unfolding left_at
none_left j c r s e = if-false _ _ e
