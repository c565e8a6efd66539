-- A call that has no arguments and no refusal of its own, and one that only counts. Assumes nothing.
use mathlib.Core.Path.{◌≡◌, refl, sym, ap, ◌∙◌, subst⁻¹}
use mathlib.Core.Bool.{true, false}
use mathlib.Core.List.{List, [], append-nil}
use Prim.Native.Nat.{ℕ, zero, suc}
use native.Mathlib.Omega.{arith}
use borrow.Author.Tests.{eq-eqb, ne_eqb}
use lib.Dec.{eqb}
use lib.ListN.{length, take}
use Rattle.stats.specs.declared.Stats.{Stats}
use Rattle.stats.specs.Counted.{with_expired_by, with_discarded_by}
use Rattle.definition.specs.Types.{Dest}
use Rattle.definition.specs.Consumer.{◌⊕◌, add_expired, add_discarded}
use Rattle.definition.specs.Destination.{count}
use Rattle.definition.specs.Calls.{Lengths, short, sound, Call, discarding, missing, Result, refused, used, arguments_ok, own_refusal, perform, refusal, call}
use Rattle.definition.specs.Layout.{Row, Buffers, view, formed, sound_buffers, lengths_of, buffer_call, lent}
use Rattle.definition.proofs.Tests.{by-test, and_left}
use Rattle.definition.proofs.Kept.{call-sound}
use Rattle.state.specs.declared.Head.{Head}
use Rattle.state.specs.State.{head_view, loaded, stored_head, with_counters, done_as}
use Rattle.state.specs.Fits.{Fits}
use Rattle.state.specs.Leaves.{silent, Leaves}
use Rattle.state.specs.Ready.{Ready}
use Rattle.state.proofs.Counts.{count-view, expired-plain, discarded-plain}
use Rattle.state.proofs.Ready.{ready-fits}
use Rattle.engine.specs.declared.Outcome.{Outcome}
use Rattle.uncoded.specs.Bare.{bare_refusal}
use Rattle.engine.specs.Called.{outcome, Called}
use Rattle.engine.specs.Performs.{Performs}
use Rattle.engine.specs.Opened.{counted}
use Rattle.engine.proofs.Refusing.{done, call-refused, call-done}
use Rattle.engine.proofs.Called.{refused-called, performed-called}
use Rattle.engine.proofs.Performed.{silent-performs}
use Rattle.engine.proofs.Ending as Ending

-- ---- the tests, one by one

module _ (b : Buffers) (events : ℕ) where
  pub bare-short : short (lengths_of b events) ≡ true → bare_refusal b events ≡ 1
  unfolding bare_refusal
  bare-short h = rw h

  module _ (roomy : short (lengths_of b events) ≡ false) where
    pub bare-unsound : sound_buffers b ≡ false → bare_refusal b events ≡ 2
    unfolding bare_refusal
    bare-unsound h = rw (roomy, h)

    module _ (s : sound_buffers b ≡ true) where
      pub bare-spent : eqb (view b).calls_used (view b).call_limit ≡ true → bare_refusal b events ≡ 9
      unfolding bare_refusal
      bare-spent h = rw (roomy, s, h)

      pub bare-left : eqb (view b).calls_used (view b).call_limit ≡ false → bare_refusal b events ≡ 0
      unfolding bare_refusal
      bare-left h = rw (roomy, s, h)

  -- what an accepted call knows
  module _ (z : bare_refusal b events ≡ 0) where
    pub bare-roomy : short (lengths_of b events) ≡ false
    bare-roomy = by-test (short (lengths_of b events)) (λ h. absurd (omega (arith, z, bare-short h))) (λ h. h)

    pub bare-sound : sound_buffers b ≡ true
    bare-sound = by-test (sound_buffers b) (λ h. h) (λ h. absurd (omega (arith, z, bare-unsound bare-roomy h)))

    pub bare-more : eqb (view b).calls_used (view b).call_limit ≡ false
    bare-more = by-test (eqb (view b).calls_used (view b).call_limit) (λ h. absurd (omega (arith, z, bare-spent bare-roomy bare-sound h))) (λ h. h)

-- the numbers as the code has loaded them
module _ (h : List ℕ) (subs rows events : List Row) (roomy : short (lengths_of (lent h subs rows) (length events)) ≡ false) (s : sound_buffers (lent h subs rows) ≡ true) (d : Head) (is : d ≡ loaded h subs) where
  calls_are : eqb d.calls_used d.call_limit ≡ eqb (view (lent h subs rows)).calls_used (view (lent h subs rows)).call_limit
  calls_are = ap (λ (x : Head). eqb x.calls_used x.call_limit) is ∙ Ending.calls_are h subs rows events roomy s

  pub spent-refusal : d.calls_used ≡ d.call_limit → 9 ≡ bare_refusal (lent h subs rows) (length events)
  spent-refusal e = sym (bare-spent (lent h subs rows) (length events) roomy s (sym calls_are ∙ eq-eqb _ _ e))

  pub left-refusal : (d.calls_used ≡ d.call_limit → ⊥) → 0 ≡ bare_refusal (lent h subs rows) (length events)
  left-refusal n = sym (bare-left (lent h subs rows) (length events) roomy s (sym calls_are ∙ ne_eqb _ _ n))

-- ---- what the definition gives

module _ (c : Call) (ok : arguments_ok c ≡ true) (free : (t : Dest) → own_refusal t c ≡ 0) (b : Buffers) (events : ℕ) where
  abbrev l : Lengths
  l = lengths_of b events

  abbrev t : Dest
  t = view b

  refusal_is : formed b ≡ true → refusal l c t ≡ bare_refusal b events
  unfolding refusal bare_refusal sound_buffers
  refusal_is f = rw (f, ok, free t)

  called : formed b ≡ true → buffer_call b events c ≡ call l c t
  unfolding buffer_call
  called f = by-test (short l) (λ h. rw h) (λ h. rw (h, f))

  unformed-refusal : formed b ≡ false → buffer_call b events c ≡ refused (bare_refusal b events) t
  unfolding buffer_call bare_refusal sound_buffers refusal
  unformed-refusal f = by-test (short l)
      (λ h. rw h (call-refused 0 l c t (rw h)))
      (λ h. rw (h, f))

  pub bare-refused : (k : ℕ) → bare_refusal b events ≡ suc k → buffer_call b events c ≡ refused (suc k) t
  bare-refused k h = by-test (formed b)
      (λ f. called f ∙ call-refused k l c t (refusal_is f ∙ h))
      (λ f. unformed-refusal f ∙ ap (λ (n : ℕ). refused n t) h)

  module _ (z : bare_refusal b events ≡ 0) where
    is-formed : formed b ≡ true
    unfolding sound_buffers
    is-formed = and_left (formed b) (sound t) (bare-sound b events z)

    pub bare-done : buffer_call b events c ≡ done c t
    bare-done = called is-formed ∙ call-done l c t (refusal_is is-formed ∙ z)

    -- and what it leaves is sound
    pub bare-leaves : sound (used (perform t c).dest) ≡ true
    bare-leaves =
        let y : refusal l c t ≡ 0 = refusal_is is-formed ∙ z in
        sym (ap (λ (r : Result). sound r.dest) (call-done l c t y)) ∙ call-sound l c t y

-- ---- on lent buffers

module _ (c : Call) (ok : arguments_ok c ≡ true) (free : (t : Dest) → own_refusal t c ≡ 0) (h : List ℕ) (subs rows events : List Row) where
  abbrev b : Buffers
  b = lent h subs rows

  abbrev q : Result
  q = buffer_call b (length events) c

  -- refused
  pub bare-refused-called : (k : ℕ) → k ≡ bare_refusal b (length events) → (k ≡ 0 → ⊥) → (r : Outcome) → r ≡ outcome k 0 0 → Called q b b events events r
  bare-refused-called zero e n r f = absurd (n refl)
  bare-refused-called (suc k) e n r f = subst⁻¹ (λ (o : Outcome). Called q b b events events o) f (refused-called k b events q (bare-refused c ok free b (length events) k (sym e)))

  -- done: s is what it adds to the counters
  module _ (z : bare_refusal b (length events) ≡ 0) (s : Stats) (does : (t : Dest) → perform t c ≡ record { answer = 0; dest = count s t; events = [] }) where
    abbrev d : Head
    d = loaded h subs

    roomy : short (lengths_of b (length events)) ≡ false
    roomy = bare-roomy b (length events) z

    whole : sound_buffers b ≡ true
    whole = bare-sound b (length events) z

    ready : Ready d subs rows events
    ready = Ending.ready h subs rows events roomy whole (bare-more b (length events) z)

    pub bare-fits : Fits subs d (length rows) (length events)
    bare-fits = ready-fits d subs rows events ready

    module _ (x : Stats) (adds : x ≡ d.stats ⊕ s) where
      leaves : Leaves (silent (count s)) d (with_counters x d) subs rows events subs rows events
      leaves = record {
        view = λ p u e. ap (λ (y : Stats). head_view (with_counters y d) subs rows p u) adds ∙ count-view subs rows p u s d;
        sent = λ p u e. sym (append-nil (take d.events events));
        later = refl;
        more = omega arith;
        producers = refl;
        audits = refl;
        queue = refl;
        allowance = refl;
        share = refl;
        consumers = ready.stands.consumers;
        used = ready.stands.used;
        rows-used = ready.stands.rows-used;
        strict = λ h. h;
        subs-past = refl;
        rows-past = refl;
        subs-length = refl;
        rows-length = refl;
        events-length = refl;
      }

      performs : Performs c d (done_as 0 (with_counters x d)) subs rows events subs rows events
      performs = silent-performs c d (with_counters x d) (done_as 0 (with_counters x d)) subs rows events subs rows events (silent (count s)) free does refl (leaves, omega (arith, ready.none-sent))

      counted-done : Called q b (lent (stored_head (counted (with_counters x d)) h) subs rows) events events (outcome 0 0 d.events)
      counted-done = performed-called h subs rows events roomy whole c q (bare-done c ok free b (length events) z) (bare-leaves c ok free b (length events) z) (done_as 0 (with_counters x d)) subs rows events performs refl

      pub counted-called : (m : Head) → m ≡ with_counters x d → (r : Outcome) → r ≡ outcome 0 0 m.events → (h' : List ℕ) → h' ≡ stored_head (counted m) h → Called q b (lent h' subs rows) events events r
      counted-called m e r f h' g =
          subst⁻¹ (λ (k : List ℕ). Called q b (lent k subs rows) events events r) (g ∙ ap (λ (y : Head). stored_head (counted y) h) e)
          (subst⁻¹ (λ (o : Outcome). Called q b (lent (stored_head (counted (with_counters x d)) h) subs rows) events events o) (f ∙ ap (λ (y : Head). outcome 0 0 y.events) e) counted-done)

-- ---- the two calls

module _ (h : List ℕ) (subs rows events : List Row) (z : bare_refusal (lent h subs rows) (length events) ≡ 0) (d x : Head) (is : d ≡ loaded h subs)
    (r : Outcome) (f : r ≡ outcome 0 0 x.events) (h' : List ℕ) (g : h' ≡ stored_head (counted x) h)
  where
    pub discarded-called : x ≡ with_counters (with_discarded_by d.stats 1) d → Called (buffer_call (lent h subs rows) (length events) discarding) (lent h subs rows) (lent h' subs rows) events events r
    unfolding arguments_ok own_refusal perform
    discarded-called y =
        let n : Head = loaded h subs in
        let k = (bare-fits discarding refl (λ t. refl) h subs rows events z (add_discarded 1) (λ t. refl)).discarded in
        counted-called discarding refl (λ t. refl) h subs rows events z (add_discarded 1) (λ t. refl) (with_discarded_by n.stats 1) (discarded-plain n.stats 1 (omega (arith, k)))
        x (y ∙ ap (λ (m : Head). with_counters (with_discarded_by m.stats 1) m) is) r f h' g

    pub missing-called : x ≡ with_counters (with_expired_by d.stats 1) d → Called (buffer_call (lent h subs rows) (length events) missing) (lent h subs rows) (lent h' subs rows) events events r
    unfolding arguments_ok own_refusal perform
    missing-called y =
        let n : Head = loaded h subs in
        let k = (bare-fits missing refl (λ t. refl) h subs rows events z (add_expired 1) (λ t. refl)).expired in
        counted-called missing refl (λ t. refl) h subs rows events z (add_expired 1) (λ t. refl) (with_expired_by n.stats 1) (expired-plain n.stats 1 (omega (arith, k)))
        x (y ∙ ap (λ (m : Head). with_counters (with_expired_by m.stats 1) m) is) r f h' g

-- refused, each
module _ (h : List ℕ) (subs rows events : List Row) (k : ℕ) (e : k ≡ bare_refusal (lent h subs rows) (length events)) (n : k ≡ 0 → ⊥) (r : Outcome) (f : r ≡ outcome k 0 0) where
  pub discarded-refused : Called (buffer_call (lent h subs rows) (length events) discarding) (lent h subs rows) (lent h subs rows) events events r
  unfolding arguments_ok own_refusal
  discarded-refused = bare-refused-called discarding refl (λ t. refl) h subs rows events k e n r f

  pub missing-refused : Called (buffer_call (lent h subs rows) (length events) missing) (lent h subs rows) (lent h subs rows) events events r
  unfolding arguments_ok own_refusal
  missing-refused = bare-refused-called missing refl (λ t. refl) h subs rows events k e n r f
