-- What a call leaves of the lent buffers and answers, where q is what its definition gives. Assumes nothing.
use Rattle.std.specs.Prelude.{◌≡◌, true, List, map, ℕ, length, take, drop}
use Rattle.definition.specs.Calls.{Result}
use Rattle.definition.specs.Layout.{Row, Buffers, event_words, view, sound_buffers}
use Rattle.engine.specs.declared.Outcome.{Outcome}

abbrev pub outcome : ℕ → ℕ → ℕ → Outcome
outcome refusal answer events = record { refusal = refusal; answer = answer; events = events }

-- what is no part of the state is as it was
pub record Past (b b' : Buffers) (events events' : List Row) : Type 0 where
  pub head-past : drop 8347 b'.head ≡ drop 8347 b.head
  pub subs-past : drop 32 b'.subs ≡ drop 32 b.subs
  pub rows-past : drop 512 b'.rows ≡ drop 512 b.rows
  pub head-length : length b'.head ≡ length b.head
  pub subs-length : length b'.subs ≡ length b.subs
  pub rows-length : length b'.rows ≡ length b.rows
  pub events-length : length events' ≡ length events

-- refusal, answer, events and state are q's; a refused call changes nothing, and an accepted one leaves sound buffers.
-- Open after an accepted call, and no answer, event or later view depends on it: the words that `view` and soundness do not look at, which may hold
-- anything (rows past those in use, places of consumers, producers and audits past their counts, numbers of a window past its count, words 6 to 8 of a
-- row that neither flies nor is reserved, the idle clock and a pull's number without their marks); and where a full window begins, of which soundness
-- asks that it is below 1,024 and `view` shows the order that it gives. Everything past the state's sizes is as it was.
pub record Called (q : Result) (b b' : Buffers) (events events' : List Row) (r : Outcome) : Type 0 where
  pub refusal : r.refusal ≡ q.refusal
  pub answer : r.answer ≡ q.answer
  pub count : r.events ≡ length q.events
  pub sent : take r.events events' ≡ map event_words q.events
  pub later : drop r.events events' ≡ drop r.events events
  pub shows : view b' ≡ q.dest
  pub leaves-sound : q.refusal ≡ 0 → sound_buffers b' ≡ true
  pub kept : (q.refusal ≡ 0 → ⊥) → (b' ≡ b) × (events' ≡ events)
  pub past : Past b b' events events'
