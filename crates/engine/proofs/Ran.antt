-- A call on sound buffers from its performance to its end. Assumes nothing.
use mathlib.Core.Path.{◌≡◌, refl, sym, ap, ◌∙◌, subst, subst⁻¹}
use mathlib.Core.Bool.{Bool, true, false, not, ◌&&◌, true≢false}
use mathlib.Core.List.{List}
use mathlib.Core.Option.{Option, none, some}
use Prim.Native.Nat.{ℕ, suc, pred, ◌≤◌, ◌<◌}
use native.Mathlib.Omega.{arith}
use borrow.Author.Tests.{eq-eqb, ne_eqb, lt-ltb, le-ltb}
use lib.Dec.{eqb, ltb}
use lib.ListN.{length}
use Rattle.words.proofs.Tests.{or_left, or_right}
use Rattle.definition.specs.Base.{whether◌then◌else◌, is_some}
use Rattle.definition.specs.Calls.{Lengths, state_short, short, Call, Result, arguments_ok}
use Rattle.definition.specs.Words.{read, decode, open_words}
use Rattle.definition.specs.Layout.{Row, Buffers, view, sound_buffers, lengths_of, buffer_step, lent}
use Rattle.definition.proofs.Tests.{by-test, if-true, if-false}
use Rattle.definition.proofs.Made.{in_range-ok}
use Rattle.state.specs.declared.Head.{Head}
use Rattle.std.specs.Prelude.{Result as Given, Ok, Err}
use Rattle.model.specs.declared.Refusal.{Refusal}
use Rattle.model.specs.Refusal.{refusal_number}
use Rattle.state.specs.declared.Answered.{Answered}
use Rattle.state.specs.Answers.{told}
use Rattle.state.proofs.Told.{numbered}
use Rattle.state.specs.State.{loaded, stored_head}
use Rattle.state.specs.Ready.{Ready}
use Rattle.producers.specs.Producers.{head_fits}
use Rattle.engine.specs.declared.Outcome.{Outcome}
use Rattle.engine.specs.Called.{outcome, Called}
use Rattle.engine.specs.Performs.{Performs, PerformsBy, InHead, HeadBy}
use Rattle.engine.specs.Opened.{opened_head, counted, finished, stored_after}
use Rattle.engine.proofs.Asks.{neither}
use Rattle.engine.proofs.Refusing.{step-undecoded, step-spent, step-unopened}
use Rattle.engine.proofs.Called.{refused-called, opened-called, own-called, done-called}
use Rattle.engine.proofs.Ending as Ending
use Rattle.engine.proofs.Heads as Heads

suc-pred : (n : ℕ) → 0 < n → n ≡ suc (pred n)
suc-pred n h = omega arith

module _ (h : List ℕ) (subs rows events : List Row) (code : ℕ) (ws : List ℕ)
    (roomy : short (lengths_of (lent h subs rows) (length events)) ≡ false)
    (coded : eqb code 0 ≡ false)
    (s : sound_buffers (lent h subs rows) ≡ true)
  where
    abbrev b : Buffers
    b = lent h subs rows

    abbrev q : Result
    q = buffer_step b (length events) code ws

    abbrev d : Head
    d = loaded h subs

    -- the words are no arguments
    none-at : (o : Option Call) → decode code ws ≡ o → is_some o ≡ false → Called q b b events events (outcome 3 0 0)
    none-at none e t = refused-called 2 b events q (step-undecoded b (length events) code ws roomy coded s e)
    none-at (some c) e t = absurd (true≢false t)

    pub undecoded-called : is_some (decode code ws) ≡ false → Called q b b events events (outcome 3 0 0)
    undecoded-called t = none-at (decode code ws) refl t

    -- no call is left
    spent-at : (o : Option Call) → decode code ws ≡ o → is_some o ≡ true → eqb (view b).calls_used (view b).call_limit ≡ true → Called q b b events events (outcome 9 0 0)
    unfolding decode
    spent-at none e t l = absurd (true≢false (sym t))
    spent-at (some c) e t l = refused-called 8 b events q (step-spent b (length events) code ws roomy coded s c e (in_range-ok (read code ws) c e) l)

    pub spent-called : is_some (decode code ws) ≡ true → d.calls_used ≡ d.call_limit → Called q b b events events (outcome 9 0 0)
    spent-called t e = spent-at (decode code ws) refl t (sym (Ending.calls_are h subs rows events roomy s) ∙ eq-eqb _ _ e)

    module _ (more : (d.calls_used ≡ d.call_limit → ⊥)) where
      left : eqb (view b).calls_used (view b).call_limit ≡ false
      left = sym (Ending.calls_are h subs rows events roomy s) ∙ ne_eqb _ _ more

      pub run-ready : Ready d subs rows events
      run-ready = Ending.ready h subs rows events roomy s left

      pub run-fit : head_fits (length h) d ≡ true
      run-fit = Heads.loaded-fit h subs rows events roomy s

      -- on the tables
      module _ (subs' rows' events' : List Row) (h' : List ℕ) (r : Outcome) where
        ran-call : (c : Call) → decode code ws ≡ some c → arguments_ok c ≡ true → (x : Given Answered Refusal) → r ≡ finished x → h' ≡ stored_after x h
            → Performs c d (told d x) subs rows events subs' rows' events' → Called q b (lent h' subs' rows') events events' r
        ran-call c e ok (Ok a) said ends p =
            subst⁻¹ (λ (k : List ℕ). Called q b (lent k subs' rows') events events' r) ends
            (subst⁻¹ (λ (o : Outcome). Called q b (lent (stored_head (counted a.head) h) subs' rows') events events' o) said
            (done-called h subs rows events code ws roomy coded s c e ok left (told d (Ok a)) subs' rows' events' p refl))
        ran-call c e ok (Err f) said ends p =
            let z : refusal_number f ≡ suc (pred (refusal_number f)) = suc-pred (refusal_number f) (numbered f) in
            let y : r ≡ outcome (suc (pred (refusal_number f))) 0 0 = said ∙ ap (λ (k : ℕ). outcome k 0 0) z in
            let u = p.kept (λ o. omega (arith, o, numbered f)) in
            let v : Called q b b events events (outcome (suc (pred (refusal_number f))) 0 0) = own-called h subs rows events code ws roomy coded s c e ok left (told d (Err f)) subs' rows' events' p (pred (refusal_number f)) z in
            let w : lent h' subs' rows' ≡ b = λ j. lent (ends j) (u.same-subs j) (u.same_rows j) in
            subst⁻¹ (λ (k : Buffers). Called q b k events events' r) w
            (subst⁻¹ (λ (k : List Row). Called q b b events k r) u.same-events
            (subst⁻¹ (λ (o : Outcome). Called q b b events events o) y v))

        ran-at : (o : Option Call) → decode code ws ≡ o → is_some o ≡ true → (x : Given Answered Refusal) → r ≡ finished x → h' ≡ stored_after x h
            → PerformsBy o d (told d x) subs rows events subs' rows' events' → Called q b (lent h' subs' rows') events events' r
        unfolding decode
        ran-at none e t x said ends p = absurd (true≢false (sym t))
        ran-at (some c) e t x said ends p = ran-call c e (in_range-ok (read code ws) c e) x said ends p

        pub ran : is_some (decode code ws) ≡ true → (x : Given Answered Refusal) → r ≡ finished x → h' ≡ stored_after x h
            → PerformsBy (decode code ws) d (told d x) subs rows events subs' rows' events' → Called q b (lent h' subs' rows') events events' r
        ran t x said ends p = ran-at (decode code ws) refl t x said ends p

      -- in the head
      module _ (k h' : List ℕ) (r : Outcome) where
        head-call : (c : Call) → decode code ws ≡ some c → arguments_ok c ≡ true → (x : Given Answered Refusal) → r ≡ finished x → h' ≡ stored_after x k
            → InHead c d h (told d x) k → Called q b (lent h' subs rows) events events r
        head-call c e ok (Ok a) said ends p =
            let n : a.head.events ≡ 0 = ap (λ (y : Head). y.events) p.performs.others ∙ Ending.none-sent h subs rows events roomy s in
            let y : r ≡ outcome 0 a.answer 0 = said ∙ ap (outcome 0 a.answer) n in
            subst⁻¹ (λ (m : List ℕ). Called q b (lent m subs rows) events events r) ends
            (subst⁻¹ (λ (o : Outcome). Called q b (lent (stored_head (counted a.head) k) subs rows) events events o) y
            (Heads.done-called h subs rows events code ws roomy coded s c e ok left (told d (Ok a)) k p.performs p.past (p.silent (view b)) refl))
        head-call c e ok (Err f) said ends p =
            let z : refusal_number f ≡ suc (pred (refusal_number f)) = suc-pred (refusal_number f) (numbered f) in
            let x : h' ≡ h = ends ∙ Heads.own-kept h subs rows events code ws roomy coded s c e ok left (told d (Err f)) k p.performs p.past (p.silent (view b)) (pred (refusal_number f)) z in
            let y : r ≡ outcome (suc (pred (refusal_number f))) 0 0 = said ∙ ap (λ (m : ℕ). outcome m 0 0) z in
            subst⁻¹ (λ (m : List ℕ). Called q b (lent m subs rows) events events r) x
            (subst⁻¹ (λ (o : Outcome). Called q b b events events o) y
            (Heads.own-called h subs rows events code ws roomy coded s c e ok left (told d (Err f)) k p.performs p.past (p.silent (view b)) (pred (refusal_number f)) z))

        head_at : (o : Option Call) → decode code ws ≡ o → is_some o ≡ true → (x : Given Answered Refusal) → r ≡ finished x → h' ≡ stored_after x k
            → HeadBy o d h (told d x) k → Called q b (lent h' subs rows) events events r
        unfolding decode
        head_at none e t x said ends p = absurd (true≢false (sym t))
        head_at (some c) e t x said ends p = head-call c e (in_range-ok (read code ws) c e) x said ends p

        pub ran-head : is_some (decode code ws) ≡ true → (x : Given Answered Refusal) → r ≡ finished x → h' ≡ stored_after x k
            → HeadBy (decode code ws) d h (told d x) k → Called q b (lent h' subs rows) events events r
        ran-head t x said ends p = head_at (decode code ws) refl t x said ends p

-- ---- the same with the numbers as the code has loaded them

module _ (h : List ℕ) (subs rows events : List Row) (code : ℕ) (ws : List ℕ)
    (roomy : short (lengths_of (lent h subs rows) (length events)) ≡ false)
    (s : sound_buffers (lent h subs rows) ≡ true)
    (known : 0 < code)
    (t : is_some (decode code ws) ≡ true)
    (x : Head) (is : x ≡ loaded h subs)
  where
    abbrev said-by : Result
    said-by = buffer_step (lent h subs rows) (length events) code ws

    known-code : eqb code 0 ≡ false
    known-code = ne_eqb code 0 (λ e. omega (arith, e, known))

    pub spent-run : x.calls_used ≡ x.call_limit → (r : Outcome) → r ≡ outcome 9 0 0 → Called said-by (lent h subs rows) (lent h subs rows) events events r
    spent-run e r f =
        subst⁻¹ (λ (o : Outcome). Called said-by (lent h subs rows) (lent h subs rows) events events o) f
        (spent-called h subs rows events code ws roomy known-code s t (subst (λ (y : Head). y.calls_used ≡ y.call_limit) is e))

    module _ (more : x.calls_used ≡ x.call_limit → ⊥) where
      more_left : (loaded h subs).calls_used ≡ (loaded h subs).call_limit → ⊥
      more_left = subst (λ (y : Head). y.calls_used ≡ y.call_limit → ⊥) is more

      pub ready-run : Ready x subs rows events
      ready-run = subst⁻¹ (λ (y : Head). Ready y subs rows events) is (run-ready h subs rows events code ws roomy known-code s more_left)

      pub fit-run : head_fits (length h) x ≡ true
      fit-run = subst⁻¹ (λ (y : Head). head_fits (length h) y ≡ true) is (run-fit h subs rows events code ws roomy known-code s more_left)

      pub tables-run : (a : Given Answered Refusal) (r : Outcome) → r ≡ finished a → (subs' rows' events' : List Row) (h' : List ℕ) → h' ≡ stored_after a h
          → PerformsBy (decode code ws) x (told x a) subs rows events subs' rows' events' → Called said-by (lent h subs rows) (lent h' subs' rows') events events' r
      tables-run a r said subs' rows' events' h' ends p = ran h subs rows events code ws roomy known-code s more_left subs' rows' events' h' r t a said ends
          (subst (λ (y : Head). PerformsBy (decode code ws) y (told y a) subs rows events subs' rows' events') is p)

      pub head-run : (a : Given Answered Refusal) (r : Outcome) → r ≡ finished a → (k h' : List ℕ) → h' ≡ stored_after a k
          → HeadBy (decode code ws) x h (told x a) k → Called said-by (lent h subs rows) (lent h' subs rows) events events r
      head-run a r said k h' ends p = ran-head h subs rows events code ws roomy known-code s more_left k h' r t a said ends
          (subst (λ (y : Head). HeadBy (decode code ws) y h (told y a) k) is p)

-- ---- before it

module _ (h : List ℕ) (subs rows : List Row) (n : ℕ) where
  abbrev lengths : Lengths
  lengths = lengths_of (lent h subs rows) n

  pub short-state : state_short (lengths_of (lent h subs rows) 0) ≡ true → short lengths ≡ true
  unfolding short state_short
  short-state e = or_left (state_short lengths) (ltb n 545) e

  pub short-events : n < 545 → short lengths ≡ true
  unfolding short
  short-events e = or_right (state_short lengths) (ltb n 545) (lt-ltb n 545 e)

  pub not_short : state_short (lengths_of (lent h subs rows) 0) ≡ false → 545 ≤ n → short lengths ≡ false
  unfolding short state_short
  not_short e f = neither (state_short lengths) (ltb n 545) e (le-ltb n 545 f)

-- a test that holds where another does not
pub both-no : (a b : Bool) → a ≡ false → (not a && b) ≡ false → b ≡ false
both-no a b e f = sym (ap (λ (x : Bool). not x && b) e) ∙ f

pub both_yes : (a b : Bool) → a ≡ false → (not a && b) ≡ true → b ≡ true
both_yes a b e f = sym (ap (λ (x : Bool). not x && b) e) ∙ f

-- ---- an open

module _ (h : List ℕ) (subs rows events : List Row) (code : ℕ) (ws : List ℕ) (roomy : short (lengths_of (lent h subs rows) (length events)) ≡ false) (zeroth : eqb code 0 ≡ true) where
  pub opened-or : (r : Outcome) (h' : List ℕ) → r ≡ (whether open_words ws then outcome 0 0 0 else outcome 3 0 0) → h' ≡ (whether open_words ws then stored_head (opened_head ws) h else h)
      → Called (buffer_step (lent h subs rows) (length events) code ws) (lent h subs rows) (lent h' subs rows) events events r
  opened-or r h' e f = by-test (open_words ws)
      (λ o. subst⁻¹ (λ (k : List ℕ). Called q (lent h subs rows) (lent k subs rows) events events r) (f ∙ if-true (stored_head (opened_head ws) h) h o)
      (subst⁻¹ (λ (x : Outcome). Called q (lent h subs rows) (lent (stored_head (opened_head ws) h) subs rows) events events x) (e ∙ if-true (outcome 0 0 0) (outcome 3 0 0) o) (opened-called h subs rows events code ws roomy zeroth o)))
      (λ o. subst⁻¹ (λ (k : List ℕ). Called q (lent h subs rows) (lent k subs rows) events events r) (f ∙ if-false (stored_head (opened_head ws) h) h o)
      (subst⁻¹ (λ (x : Outcome). Called q (lent h subs rows) (lent h subs rows) events events x) (e ∙ if-false (outcome 0 0 0) (outcome 3 0 0) o) (refused-called 2 (lent h subs rows) events q (step-unopened (lent h subs rows) (length events) code ws roomy zeroth o))))
    where
      q : Result
      q = buffer_step (lent h subs rows) (length events) code ws
