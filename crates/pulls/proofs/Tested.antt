-- The test before a pull's answer: as facts, and test by test. Assumes nothing.
use mathlib.Core.Path.{◌≡◌, sym, ◌∙◌}
use mathlib.Core.Bool.{Bool, true, false}
use mathlib.Core.List.{List, [], ◌∷◌}
use Prim.Native.Nat.{ℕ, ◌+◌, ◌-◌, ◌≤◌, ◌<◌, min}
use native.Mathlib.Omega.{arith}
use borrow.Author.Tests.{ltb-true, leb-true, eqb-true, eqb-false, lt-ltb, le-ltb, le-leb, lt-leb, eq-eqb, ne_eqb}
use lib.Dec.{eqb, leb, ltb}
use lib.ListN.{length, take}
use Rattle.definition.specs.Layout.{Row, sub_rows}
use Rattle.definition.proofs.Tests.{by-test}
use Rattle.definition.proofs.Thin.{every-all}
use Rattle.state.specs.declared.Head.{Head}
use Rattle.pulls.specs.Pulls.{stands}
use Rattle.pulls.proofs.Reword.{Within}

module _ (subs : List Row) (d : Head) (rows events : ℕ) where
  abbrev base : ℕ
  base = sub_rows (take d.consumers subs)

  abbrev tests : List Bool
  tests =
      leb 32 (length subs)
      ∷ leb 512 rows
      ∷ ltb d.events events
      ∷ leb d.consumers 32
      ∷ leb d.used 512
      ∷ eqb (base + (d.reserved + d.waiting)) d.used
      ∷ []

  pub stands-within : stands subs d rows events ≡ true → Within subs d
  unfolding stands
  stands-within h =
      let f = every-all tests h in
      record {
        subs-long = leb-true _ _ f.0;
        consumers = leb-true _ _ f.1.1.1.0;
        used = leb-true _ _ f.1.1.1.1.0;
        rows-used = eqb-true _ _ f.1.1.1.1.1.0;
      }

  pub stands-room : stands subs d rows events ≡ true → d.events < events
  unfolding stands
  stands-room h = ltb-true _ _ (every-all tests h).1.1.0

  -- a test fails
  pub short-subs : length subs < 32 → stands subs d rows events ≡ false
  unfolding stands
  short-subs h = rw (lt-leb 32 (length subs) h)

  pub short-rows : 32 ≤ length subs → rows < 512 → stands subs d rows events ≡ false
  unfolding stands
  short-rows s h = rw (le-leb 32 (length subs) s, lt-leb 512 rows h)

  pub no_room : 32 ≤ length subs → 512 ≤ rows → events ≤ d.events → stands subs d rows events ≡ false
  unfolding stands
  no_room s r h = rw (le-leb 32 (length subs) s, le-leb 512 rows r, le-ltb d.events events h)

  -- the first three hold
  module _ (s : 32 ≤ length subs) (r : 512 ≤ rows) (v : d.events < events) where
    pub many-consumers : 32 < d.consumers → stands subs d rows events ≡ false
    unfolding stands
    many-consumers h = rw (le-leb 32 (length subs) s, le-leb 512 rows r, lt-ltb d.events events v, lt-leb d.consumers 32 h)

    module _ (n : d.consumers ≤ 32) where
      pub many-used : 512 < d.used → stands subs d rows events ≡ false
      unfolding stands
      many-used h = rw (le-leb 32 (length subs) s, le-leb 512 rows r, lt-ltb d.events events v, le-leb d.consumers 32 n, lt-leb d.used 512 h)

      module _ (u : d.used ≤ 512) where
        -- the sum alone is left
        by-sum : (b : Bool) → eqb (base + (d.reserved + d.waiting)) d.used ≡ b → stands subs d rows events ≡ b
        unfolding stands
        by-sum true h = rw (le-leb 32 (length subs) s, le-leb 512 rows r, lt-ltb d.events events v, le-leb d.consumers 32 n, le-leb d.used 512 u, h)
        by-sum false h = rw (le-leb 32 (length subs) s, le-leb 512 rows r, lt-ltb d.events events v, le-leb d.consumers 32 n, le-leb d.used 512 u, h)

        pub many-others : d.used < d.reserved + d.waiting → stands subs d rows events ≡ false
        many-others h = by-sum false (ne_eqb (base + (d.reserved + d.waiting)) d.used (λ e. omega (arith, e)))

        pub by-base : d.reserved + d.waiting ≤ d.used → stands subs d rows events ≡ eqb (min 513 base) (d.used - d.reserved - d.waiting)
        by-base h = by-test (eqb (min 513 base) (d.used - d.reserved - d.waiting))
            (λ c. by-sum true (eq-eqb (base + (d.reserved + d.waiting)) d.used (omega (arith, eqb-true (min 513 base) (d.used - d.reserved - d.waiting) c))) ∙ sym c)
            (λ c. by-sum false (ne_eqb (base + (d.reserved + d.waiting)) d.used (λ e. eqb-false (min 513 base) (d.used - d.reserved - d.waiting) c (omega (arith, e)))) ∙ sym c)

-- as facts, the other way
pub facts-stand : (subs : List Row) (d : Head) (rows events : ℕ) → Within subs d → 512 ≤ rows → d.events < events → stands subs d rows events ≡ true
facts-stand subs d rows events w r v = by-sum subs d rows events w.subs-long r v w.consumers w.used true (eq-eqb (base subs d rows events + (d.reserved + d.waiting)) d.used w.rows-used)
