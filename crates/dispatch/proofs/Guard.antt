-- When a dispatch does anything: by kind, and where all numbers fit. Assumes nothing.
use mathlib.Core.Path.{◌≡◌, refl, sym, ap, ◌∙◌}
use mathlib.Core.Bool.{Bool, true, false, not, ◌&&◌, ◌||◌}
use mathlib.Core.List.{List, [], ◌∷◌}
use Rattle.std.specs.List.{list_any, range_with_len}
use Rattle.std.proofs.Math.Seq.{drop-cons}
use native.Mathlib.Numerals.{add-one}
use Prim.Native.Nat.{ℕ, zero, suc, ◌+◌, ◌≤◌, ◌<◌, ◌^◌}
use native.Mathlib.Omega.{arith}
use borrow.Author.Tests.{not-false, le-leb, lt-leb, leb-true}
use lib.Dec.{leb}
use lib.ListN.{length, take, drop, get_or}
use Rattle.words.proofs.Tests.{by-test}
use Rattle.definition.specs.Base.{whether◌then◌else◌, all}
use Rattle.definition.specs.Words.{at}
use Rattle.definition.specs.Layout.{Row}
use Rattle.definition.proofs.Tests.{if-true, if-false, and_left, and_right}
use Rattle.consumers.specs.Table.{fitting, next_fits}
use Rattle.consumers.proofs.Strict.{all_weaker}
use Rattle.state.specs.declared.Head.{Head}
use Rattle.state.specs.State.{due_by}
use Rattle.state.specs.Fits.{fits, Fits}
use Rattle.state.specs.Ready.{Stands}
use Rattle.state.proofs.Fitting.{fits-facts}
use Rattle.queues.specs.Scan.{scans}
use Rattle.queues.proofs.Guard.{scans-facts, scans-yes}
use Rattle.dispatch.specs.Dispatch.{one_of, browses, queue_fits, dispatches}

-- ---- one of the first n

abbrev pub lacks : (Row → Bool) → Row → Bool
lacks p w = not (p w)

module _ (p : Row → Bool) (n : ℕ) (subs : List Row) where
  pub one-short : length subs < n → false ≡ one_of p n subs
  one-short h = sym (ap (λ (b : Bool). b && not (all (lacks p) (take n subs))) (lt-leb n (length subs) h))

  pub one-by : (b : Bool) → n ≤ length subs → all (lacks p) (take n subs) ≡ b → not b ≡ one_of p n subs
  one-by b h e = ap not (sym e) ∙ sym (ap (λ (x : Bool). x && not (all (lacks p) (take n subs))) (le-leb n (length subs) h))

  pub one_none : n ≤ length subs → one_of p n subs ≡ false → all (lacks p) (take n subs) ≡ true
  one_none h e = not-false (all (lacks p) (take n subs)) (one-by (all (lacks p) (take n subs)) h refl ∙ e)

-- what `any` answers over the first n rows, and over the first n places
any-lacks : (p : Row → Bool) (xs : List Row) → list_any p xs ≡ not (all (lacks p) xs)
any-lacks p [] = refl
any-lacks p (x ∷ xs) = ap (λ (b : Bool). p x || b) (any-lacks p xs) ∙ or-not (p x) (all (lacks p) xs)
  where
    or-not : (a b : Bool) → (a || not b) ≡ not (not a && b)
    or-not true b = refl
    or-not false b = refl

any-places : (p : Row → Bool) (n a : ℕ) (subs : List Row) → a + n ≤ length subs → list_any (λ (i : ℕ). p (get_or subs i [])) (range_with_len a n) ≡ list_any p (take n (drop a subs))
any-places p zero a subs h = refl
any-places p (suc n) a subs h =
    let more : a < length subs = omega arith in
    let e : drop a subs ≡ get_or subs a [] ∷ drop (a + 1) subs = drop-cons subs a [] more ∙ ap (λ (k : ℕ). get_or subs a [] ∷ drop k subs) (sym (add-one a)) in
    ap (λ (b : Bool). p (get_or subs a []) || b) (any-places p n (a + 1) subs (omega arith)) ∙ sym (ap (λ (xs : List Row). list_any p (take (suc n) xs)) e)

module _ (p : Row → Bool) (n : ℕ) (subs : List Row) (h : n ≤ length subs) where
  pub one-any : list_any p (take n subs) ≡ one_of p n subs
  one-any = any-lacks p (take n subs) ∙ one-by p n subs (all (lacks p) (take n subs)) h refl

  pub one-place : list_any (λ (i : ℕ). p (get_or subs i [])) (range_with_len 0 n) ≡ one_of p n subs
  one-place = any-places p n 0 subs (omega arith) ∙ one-any

-- ---- by kind

module _ (subs : List Row) (d : Head) (rows events : ℕ) where
  abbrev fit : Bool
  fit = fits subs d rows events

  pub queue-shows : (clock : ℕ) → browses d.consumers subs ≡ true → fit ≡ queue_fits clock subs d rows events
  unfolding queue_fits
  queue-shows clock b = sym (if-true fit (scans clock subs d rows events) b)

  pub queue-scans : (clock : ℕ) → browses d.consumers subs ≡ false → scans clock subs d rows events ≡ queue_fits clock subs d rows events
  unfolding queue_fits
  queue-scans clock b = sym (if-false fit (scans clock subs d rows events) b)

  -- the counts stand within the tables
  pub queue-stands : (clock : ℕ) → queue_fits clock subs d rows events ≡ true → Stands d subs × (32 ≤ length subs)
  queue-stands clock y = by-test (browses d.consumers subs)
      (λ b. let f = fits-facts subs d rows events (queue-shows clock b ∙ y) in (record { consumers = f.consumers; used = f.used; rows-used = f.rows-used }, f.subs-long))
      (λ b. let f = (scans-facts clock subs d rows events (queue-scans clock b ∙ y)).0 in (record { consumers = f.consumers; used = f.used; rows-used = f.rows-used }, f.subs-long))

  -- numbers that fit do for the scan
  fits-scan : (clock : ℕ) → clock ≤ 2 ^ 62 → d.queue ≡ true → Fits subs d rows events → scans clock subs d rows events ≡ true
  unfolding fitting
  fits-scan clock late q f = scans-yes clock subs d rows events late q f.subs-long f.rows_long f.consumers f.turn (omega (arith, f.rows-used)) (omega arith) (omega arith) f.used f.rows-used
      (all_weaker fitting next_fits
      (λ w e. le-leb (at 8 w) (2 ^ 62) (omega (arith, leb-true (at 8 w) 72057594037927937 (and_left (leb (at 8 w) 72057594037927937) _ (and_right (leb (at 13 w) (at 14 w)) _ e)))))
      (take d.consumers subs) f.fitted)

  module _ (clock : ℕ) where
    abbrev yes : Bool
    yes = dispatches clock subs d rows events

    pub dispatches-late : 2 ^ 62 < clock → yes ≡ false
    unfolding dispatches
    dispatches-late h = ap (λ (b : Bool). b && (whether d.queue then queue_fits (due_by clock d) subs d rows events else fit)) (lt-leb clock (2 ^ 62) h)

    pub dispatches-soon : yes ≡ true → clock ≤ 2 ^ 62
    unfolding dispatches
    dispatches-soon t = leb-true clock (2 ^ 62) (and_left (leb clock (2 ^ 62)) _ t)

    module _ (late : clock ≤ 2 ^ 62) where
      in-time : (whether d.queue then queue_fits (due_by clock d) subs d rows events else fit) ≡ yes
      unfolding dispatches
      in-time = sym (ap (λ (b : Bool). b && (whether d.queue then queue_fits (due_by clock d) subs d rows events else fit)) (le-leb clock (2 ^ 62) late))

      -- due is what entries expire by at the clock
      pub dispatches-queue : (due : ℕ) → due ≡ due_by clock d → d.queue ≡ true → queue_fits due subs d rows events ≡ yes
      dispatches-queue due is q = ap (λ (n : ℕ). queue_fits n subs d rows events) is ∙ sym (if-true (queue_fits (due_by clock d) subs d rows events) fit q) ∙ in-time

      pub dispatches-topic : d.queue ≡ false → fit ≡ yes
      dispatches-topic q = sym (if-false (queue_fits (due_by clock d) subs d rows events) fit q) ∙ in-time

    -- where all numbers fit
    pub dispatches-fit : fit ≡ true → leb clock (2 ^ 62) ≡ true → yes ≡ true
    dispatches-fit f k =
        let late : clock ≤ 2 ^ 62 = leb-true clock (2 ^ 62) k in
        by-test d.queue
        (λ q. sym (dispatches-queue late (due_by clock d) refl q) ∙ by-test (browses d.consumers subs)
        (λ b. sym (queue-shows (due_by clock d) b) ∙ f)
        (λ b. sym (queue-scans (due_by clock d) b) ∙ fits-scan (due_by clock d) (omega arith) q (fits-facts subs d rows events f)))
        (λ q. sym (dispatches-topic late q) ∙ f)
