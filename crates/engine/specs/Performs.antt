-- A call whose arguments are c, on a destination by value and in its tables, before one more is counted: as the code goes, no exported promise needs it. Assumes nothing.
use Rattle.std.specs.Prelude.{◌≡◌, Bool, ◌||◌, List, [], ℕ, ◌≤◌, eqb, ltb, length, drop}
use Rattle.std.proofs.Math.Option.{Option, none, some}
use Rattle.definition.specs.Types.{Id, Audit, Dest}
use Rattle.definition.specs.Destination.{Out}
use Rattle.definition.specs.Calls.{Call, own_refusal, perform}
use Rattle.definition.specs.Layout.{Row}
use Rattle.producers.specs.Producers as Producers
use Rattle.state.specs.declared.Head.{Head}
use Rattle.state.specs.Answers.{Replied}
use Rattle.state.specs.State.{head_view}
use Rattle.state.specs.Leaves.{Leaves, Untouched}

-- whether a code changes the tables: 1 to 10 and 15; the codes between change the head's words alone
abbrev pub on_tables : ℕ → Bool
on_tables code = ltb code 11 || eqb code 15

-- what it means
abbrev pub performed : Call → Dest → Out
performed c t = record { dest = (perform t c).dest; events = (perform t c).events }

-- it is refused for its own reasons, and nothing has happened; or it is done
pub record Performs (c : Call) (d : Head) (a : Replied) (subs rows events subs' rows' events' : List Row) : Type 0 where
  pub refusal : (producers : List Id) (audits : List Audit) → length producers ≡ d.producers → a.refusal ≡ own_refusal (head_view d subs rows producers audits) c
  pub kept : (a.refusal ≡ 0 → ⊥) → Untouched d a.head subs rows events subs' rows' events'
  pub answer : a.refusal ≡ 0 → (producers : List Id) (audits : List Audit) → length producers ≡ d.producers → a.answer ≡ (perform (head_view d subs rows producers audits) c).answer
  pub few : a.refusal ≡ 0 → a.head.events ≤ 545
  pub leaves : a.refusal ≡ 0 → Leaves (performed c) d a.head subs rows events subs' rows' events'

-- the same of what a call's words give; of words that are no arguments nothing is said
abbrev pub PerformsBy : Option Call → Head → Replied → List Row → List Row → List Row → List Row → List Row → List Row → Type 0
PerformsBy none d a subs rows events subs' rows' events' = Unit {0}
PerformsBy (some c) d a subs rows events subs' rows' events' = Performs c d a subs rows events subs' rows' events'

-- a call in the head's words: it performs, the allowance, the share and what is no part of the state are as they were, and it sends nothing
pub record InHead (c : Call) (d : Head) (h : List ℕ) (a : Replied) (k : List ℕ) : Type 0 where
  pub performs : Producers.PerformsInHead c d h a k
  pub past : drop 8345 k ≡ drop 8345 h
  pub silent : (t : Dest) → (perform t c).events ≡ []

abbrev pub HeadBy : Option Call → Head → List ℕ → Replied → List ℕ → Type 0
HeadBy none d h a k = Unit {0}
HeadBy (some c) d h a k = InHead c d h a k
