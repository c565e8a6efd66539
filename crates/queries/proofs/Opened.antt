-- What a query meets first, and on buffers that it answers on: the numbers that are loaded, and that they are viewed as the buffers are.
-- Assumes nothing.
use mathlib.Core.Path.{◌≡◌, refl, sym, ap, ◌∙◌, subst⁻¹}
use mathlib.Core.Bool.{Bool, true, false}
use mathlib.Core.List.{List}
use Prim.Native.Nat.{ℕ, zero, suc}
use native.Mathlib.Omega.{arith}
use lib.Dec.{eqb, eqb-suc-zero}
use lib.ListN.{length, drop}
use Rattle.definition.specs.Base.{empty}
use Rattle.definition.specs.Types.{Id, Audit, Dest}
use Rattle.definition.specs.Consumer.{zero_stats}
use Rattle.definition.specs.Calls.{state_short, short, sound}
use Rattle.definition.specs.Queries.{Query, query_ok, answer_of, query_refusal, query, counters}
use Rattle.definition.specs.Words.{at}
use Rattle.definition.specs.Layout.{Row, Buffers, ids_at, audits_at, used_rows, view, formed, sound_buffers, lengths_of, buffer_query, buffer_counters, lent}
use Rattle.definition.proofs.Tests.{by-test}
use Rattle.state.specs.declared.Head.{Head}
use Rattle.state.specs.State.{head_of, head_view, loaded}
use Rattle.state.specs.Fits.{Fits}
use Rattle.state.proofs.View.{loaded-view}
use Rattle.state.proofs.Fitting.{Long, not_short, sound-facts, sound-loaded}
use Rattle.queries.specs.declared.Asked.{Asked}
use Rattle.queries.specs.declared.Counted.{Counted}
use Rattle.queries.specs.Answers.{as_asked, as_counted, barred}

empty-ids : (n : ℕ) (l : List ℕ) → empty (ids_at n l) ≡ eqb n 0
unfolding ids_at
empty-ids zero l = refl
empty-ids (suc n) l = sym (eqb-suc-zero n)

module _ (h : List ℕ) (subs rows : List Row) where
  abbrev pub b : Buffers
  b = lent h subs rows

  abbrev is_short : Bool
  is_short = state_short (lengths_of b 0)

  -- by the two tests
  pub barred-short : is_short ≡ true → barred b ≡ 1
  unfolding barred
  barred-short s = rw s

  pub barred-unsound : is_short ≡ false → sound_buffers b ≡ false → barred b ≡ 2
  unfolding barred
  barred-unsound s u = rw (s, u)

  pub barred-none : is_short ≡ false → sound_buffers b ≡ true → barred b ≡ 0
  unfolding barred
  barred-none s u = rw (s, u)

  -- and back: 1, 2 for counts that do not fit the tables, 2 for what they hold, or none
  pub barred-cases {ℓ} : {P : Type ℓ} → (is_short ≡ true → barred b ≡ 1 → P) → (is_short ≡ false → formed b ≡ false → barred b ≡ 2 → P)
      → (is_short ≡ false → formed b ≡ true → sound (view b) ≡ false → barred b ≡ 2 → P) → (is_short ≡ false → formed b ≡ true → sound (view b) ≡ true → barred b ≡ 0 → P) → P
  unfolding sound_buffers
  barred-cases f g k l = by-test is_short
      (λ s. f s (barred-short s))
      (λ s. by-test (formed b)
      (λ y. by-test (sound (view b))
      (λ z. l s y z (barred-none s (rw (y, z))))
      (λ z. k s y z (barred-unsound s (rw (y, z)))))
      (λ y. g s y (barred-unsound s (rw y))))

  -- ---- refused

  pub refused : (q : Query) (k : ℕ) → k ≡ barred b → (k ≡ 0 → ⊥) → ◌≡◌ {A = Asked} (record { refusal = k; answer = 0 }) (as_asked (buffer_query b q))
  unfolding buffer_query query query_refusal
  refused q k e n = barred-cases
      (λ s c. rw (e ∙ c, s))
      (λ s y c. rw (e ∙ c, s, y))
      (λ s y z c. rw (e ∙ c, s, y, z))
      (λ s y z c. absurd (n (e ∙ c)))

  pub uncounted : (k : ℕ) → k ≡ barred b → (k ≡ 0 → ⊥) → ◌≡◌ {A = Counted} (record { refusal = k; stats = zero_stats }) (as_counted (buffer_counters b))
  unfolding buffer_counters counters query_refusal
  uncounted k e n = barred-cases
      (λ s c. rw (e ∙ c, s))
      (λ s y c. rw (e ∙ c, s, y))
      (λ s y z c. rw (e ∙ c, s, y, z))
      (λ s y z c. absurd (n (e ∙ c)))

  -- ---- answered

  module _ (z : barred b ≡ 0) where
    pub tests : (is_short ≡ false) × (formed b ≡ true) × (sound (view b) ≡ true)
    tests = barred-cases
        (λ s c. absurd (omega (arith, c, z)))
        (λ s y c. absurd (omega (arith, c, z)))
        (λ s y u c. absurd (omega (arith, c, z)))
        (λ s y u c. (s, y, u))

    pub out_of_range : (q : Query) → query_ok q ≡ false → ◌≡◌ {A = Asked} (record { refusal = 3; answer = 0 }) (as_asked (buffer_query b q))
    unfolding buffer_query query query_refusal
    out_of_range q o = rw (tests.0, tests.1, tests.2, o)

    long : Long b 545
    unfolding short state_short
    long = not_short b 545 (rw tests.0)

    is-sound : sound_buffers b ≡ true
    unfolding sound_buffers
    is-sound = rw (tests.1, tests.2)

    abbrev pub ids : List Id
    ids = ids_at (at 13 h) (drop 17 h)

    abbrev pub rings : List Audit
    rings = audits_at (at 14 h) (drop 113 h)

    -- the numbers that are loaded
    module _ (d : Head) (l : d ≡ loaded h subs) where
      pub d-is : d ≡ head_of h (used_rows b)
      d-is = l ∙ sound-loaded b 545 long is-sound

      pub facts : Fits subs d (length rows) 545
      facts = subst⁻¹ (λ (x : Head). Fits subs x (length rows) 545) d-is (sound-facts b 545 long is-sound)

      pub shown : view b ≡ head_view d subs rows ids rings
      shown = sym (ap (λ (x : Head). head_view x subs rows ids rings) d-is ∙ loaded-view subs rows h (used_rows b))

      pub no-producers : empty ids ≡ eqb d.producers 0
      unfolding head_of
      no-producers = empty-ids (at 13 h) (drop 17 h) ∙ sym (ap (λ (x : Head). eqb x.producers 0) d-is)

      pub answered : (q : Query) (a : ℕ) → query_ok q ≡ true → a ≡ answer_of (head_view d subs rows ids rings) q → ◌≡◌ {A = Asked} (record { refusal = 0; answer = a }) (as_asked (buffer_query b q))
      unfolding buffer_query query query_refusal
      answered q a o e = rw (e ∙ sym (ap (λ (t : Dest). answer_of t q) shown), tests.0, tests.1, tests.2, o)

      pub counted : ◌≡◌ {A = Counted} (record { refusal = 0; stats = d.stats }) (as_counted (buffer_counters b))
      unfolding buffer_counters counters query_refusal head_view
      counted =
          let e : d.stats ≡ (view b).stats = sym (ap (λ (t : Dest). t.stats) shown) in
          rw (e, tests.0, tests.1, tests.2)
