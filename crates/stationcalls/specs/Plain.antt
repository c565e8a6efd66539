-- A call of one destination whose events stand in the station's list, each with the destination's number. Assumes nothing.
use Rattle.std.specs.Prelude.{◌≡◌, true, List, map, ℕ, ◌<◌, length, take, drop}
use Rattle.definition.specs.Calls.{Result}
use Rattle.definition.specs.Layout.{Row, view, sound_buffers}
use Rattle.engine.specs.declared.Outcome.{Outcome}
use Rattle.definition_station.specs.Types.{sent_at}
use Rattle.definition_station.specs.Layout.{StationBuffers, part, sent_words}
use Rattle.stationcalls.specs.Parts.{AllPast}

-- what it leaves and answers, where q is what its definition gives
pub record NamedAt (q : Result) (k : ℕ) (b b' : StationBuffers) (events events' : List Row) (r : Outcome) : Type 0 where
  pub refusal : r.refusal ≡ q.refusal
  pub answer : r.answer ≡ q.answer
  pub count : r.events ≡ length q.events
  pub sent : take r.events events' ≡ map sent_words (sent_at k q.events)
  pub later : drop r.events events' ≡ drop r.events events
  pub events-length : length events' ≡ length events
  pub shows : view (part k b') ≡ q.dest
  pub leaves-sound : q.refusal ≡ 0 → sound_buffers (part k b') ≡ true
  pub kept : (q.refusal ≡ 0 → ⊥) → (part k b' ≡ part k b) × (events' ≡ events)
  pub elsewhere : (j : ℕ) → j < 8 → (j ≡ k → ⊥) → part j b' ≡ part j b
  pub past : AllPast b b'
