-- A page by the numbers of a destination: which rows its lines are of. Assumes nothing.
use mathlib.Core.Path.{◌≡◌, refl, sym, ap, ap₂, ◌∙◌}
use mathlib.Core.Bool.{Bool, false}
use mathlib.Core.List.{List, [], map, map-map}
use Prim.Native.Nat.{ℕ, ◌+◌, ◌-◌, ◌≤◌, ◌<◌, min}
use native.Mathlib.Omega.{arith}
use borrow.Author.Tests.{lt-ltb, le-ltb, ne_eqb}
use lib.Dec.{eqb}
use lib.ListN.{length, take, drop, length-map, length-drop}
use lib.Seq.{drop-drop, length-take-le}
use Rattle.entry.specs.Entry.{entry_of}
use Rattle.definition.specs.Base.{whether◌then◌else◌}
use Rattle.definition.specs.Types.{Entry, Dest}
use Rattle.definition.specs.Calls.{state_short}
use Rattle.definition.specs.Queries.{Line, line_of, page_entries, query_refusal, Page, page}
use Rattle.definition.specs.Layout.{Row, Buffers, used_rows, view, lengths_of, buffer_page, lent}
use Rattle.definition.proofs.Tests.{by-test}
use Rattle.definition.proofs.Lists.{map-take, map-drop}
use Rattle.state.specs.declared.Head.{Head}
use Rattle.state.specs.State.{head_of, loaded}
use Rattle.state.specs.State as State
use Rattle.queries.specs.declared.PagePlan.{PagePlan}
use Rattle.queries.specs.Answers.{barred}
use Rattle.queries.specs.Pages.{row_line, buffer_first_waiting, as_plan, PagePlanned}
use Rattle.queries.proofs.Lists.{take_part}
use Rattle.queries.proofs.Opened.{barred-cases, d-is, shown}
use Rattle.queries.proofs.Answered.{in_rows, waits, waiting-count}

abbrev none : ℕ → Page
none k = record { refusal = k; total = 0; lines = [] }

abbrev no_plan : ℕ → PagePlan
no_plan k = record { refusal = k; total = 0; from = 0; count = 0 }

-- both promises of `plan`
abbrev pub Plans : ℕ → Page → List Row → ℕ → PagePlan → Type 0
Plans from p rows room r = (r ≡ as_plan from p) × PagePlanned p rows room r

no_lines : (k from : ℕ) (p : Page) (rows : List Row) (room : ℕ) (r : PagePlan) → p ≡ none k → r ≡ no_plan k → Plans from p rows room r
no_lines k from p rows room r e q = rw (e, q) (refl, record { lines = refl; in_rows = omega arith; in-room = omega arith })

module _ (h : List ℕ) (subs rows : List Row) (room offset limit : ℕ) where
  abbrev b : Buffers
  b = lent h subs rows

  abbrev paged : Page
  paged = buffer_page b room offset limit

  abbrev start : ℕ
  start = buffer_first_waiting b + offset

  short-list : room < 50 → paged ≡ none 1
  unfolding buffer_page page query_refusal
  short-list l = by-test (state_short (lengths_of b 0)) (λ s. rw s) (λ s. rw (s, lt-ltb room 50 l))

  pub short-plans : (r : PagePlan) → room < 50 → r ≡ no_plan 1 → Plans start paged rows room r
  short-plans r l e = no_lines 1 start paged rows room r (short-list l) e

  module _ (roomy : 50 ≤ room) where
    page-barred : (k : ℕ) → k ≡ barred b → (k ≡ 0 → ⊥) → paged ≡ none k
    unfolding buffer_page page query_refusal
    page-barred k e n = barred-cases h subs rows
        (λ s c. rw (s, e ∙ c))
        (λ s y c. rw (s, le-ltb room 50 roomy, y, e ∙ c))
        (λ s y z c. rw (s, le-ltb room 50 roomy, y, z, e ∙ c))
        (λ s y z c. absurd (n (e ∙ c)))

    pub barred-plans : (r : PagePlan) (k : ℕ) → k ≡ barred b → (k ≡ 0 → ⊥) → r ≡ no_plan k → Plans start paged rows room r
    barred-plans r k e n q = no_lines k start paged rows room r (page-barred k e n) q

    module _ (z : barred b ≡ 0) (d : Head) (loads : d ≡ loaded h subs) where
      page-open : paged ≡ record { refusal = 0; total = length (view b).pending; lines = map line_of (page_entries offset limit (view b)) }
      unfolding buffer_page page query_refusal
      page-open = barred-cases h subs rows
          (λ s c. absurd (omega (arith, c, z)))
          (λ s y c. absurd (omega (arith, c, z)))
          (λ s y u c. absurd (omega (arith, c, z)))
          (λ s y u c. rw (s, le-ltb room 50 roomy, y, u))

      abbrev count : ℕ
      count = min (min limit 50) (d.waiting - offset)

      -- the lines of these rows
      abbrev from : ℕ
      from = State.first_waiting d + offset

      total : length (view b).pending ≡ d.waiting
      total = ap (λ (t : Dest). length t.pending) (shown h subs rows z d loads) ∙ waiting-count h subs rows z d loads

      entries : page_entries offset limit (view b) ≡ map entry_of (take count (drop from rows))
      entries =
          let l : List Row = drop (State.first_waiting d) rows in
          ap (λ (t : Dest). take (min limit 50) (drop offset t.pending)) (shown h subs rows z d loads)
          ∙ ap (λ (m : List Entry). take (min limit 50) (drop offset m)) (waits h subs rows z d loads)
          ∙ ap (take (min limit 50)) (map-drop entry_of offset (take d.waiting l))
          ∙ map-take entry_of (min limit 50) (drop offset (take d.waiting l))
          ∙ ap (map entry_of) (take_part (min limit 50) d.waiting offset l ∙ ap (take count) (drop-drop offset (State.first_waiting d) rows))

      lines_are : map line_of (page_entries offset limit (view b)) ≡ map row_line (take count (drop from rows))
      lines_are = ap (map line_of) entries ∙ map-map line_of entry_of (take count (drop from rows))

      page-is : paged ≡ record { refusal = 0; total = d.waiting; lines = map row_line (take count (drop from rows)) }
      page-is = page-open ∙ ap₂ (λ (n : ℕ) (l : List Line). record { refusal = 0; total = n; lines = l }) total lines_are

      fits-rows : 0 < count → from + count ≤ length rows
      fits-rows l = omega (arith, l, in_rows h subs rows z d loads)

      lines-count : 0 < count → length (map row_line (take count (drop from rows))) ≡ count
      lines-count l = length-map (take count (drop from rows)) row_line ∙ length-take-le count (drop from rows) (omega (arith, fits-rows l, length-drop from rows))

      start_is : from ≡ start
      unfolding head_of
      start_is =
          let e : State.first_waiting d ≡ State.first_waiting (head_of h (used_rows b)) = ap State.first_waiting (d-is h subs rows z d loads) in
          omega (arith, e)

      pub empty-plans : (r : PagePlan) → count ≡ 0 → r ≡ record { refusal = 0; total = d.waiting; from = 0; count = 0 } → Plans start paged rows room r
      empty-plans r e q =
          let p : paged ≡ record { refusal = 0; total = d.waiting; lines = [] } =
          page-is ∙ ap (λ (n : ℕ). record { refusal = 0; total = d.waiting; lines = map row_line (take n (drop from rows)) }) e in
          rw (p, q) (refl, record { lines = refl; in_rows = omega arith; in-room = omega arith })

      pub full-plans : (r : PagePlan) → 0 < count → r ≡ record { refusal = 0; total = d.waiting; from = from; count = count } → Plans start paged rows room r
      full-plans r l q =
          let n = lines-count l in
          let k : eqb count 0 ≡ false = ne_eqb count 0 (λ e. omega (arith, l, e)) in
          rw (page-is, q) (
            λ j. record { refusal = 0; total = d.waiting; from = ap (λ (x : Bool). whether x then 0 else start_is j) (sym k ∙ ap (λ (m : ℕ). eqb m 0) (sym n)) j; count = sym n j },
            record { lines = refl; in_rows = fits-rows l; in-room = omega (arith, roomy) },
          )
