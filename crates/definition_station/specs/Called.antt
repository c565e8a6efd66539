-- What a station call leaves of the lent buffers and answers, where q is what its definition gives. Assumes nothing.
use Rattle.std.specs.Prelude.{◌≡◌, true, List, ◌∷◌, ◌++◌, map, ℕ, ◌*◌, ◌≤◌, ◌<◌, length, set, take, drop, replicate}
use Rattle.definition.specs.Words.{at}
use Rattle.definition.specs.Layout.{Row, sound_buffers}
use Rattle.definition_station.specs.Types.{Station, slot_of}
use Rattle.definition_station.specs.Station.{StationResult}
use Rattle.definition_station.specs.Layout.{StationBuffers, part, name_word, next_word, lost_word, station_view, sound_station, sent_words}

-- what is no part of the eight destinations is as it was; `own` is said whole
pub record StationPast (b b' : StationBuffers) : Type 0 where
  pub heads-past : drop (8 * 8347) b'.heads ≡ drop (8 * 8347) b.heads
  pub subs-past : drop (8 * 32) b'.subs ≡ drop (8 * 32) b.subs
  pub rows-past : drop (8 * 512) b'.rows ≡ drop (8 * 512) b.rows
  pub heads-length : length b'.heads ≡ length b.heads
  pub subs-length : length b'.subs ≡ length b.subs
  pub rows-length : length b'.rows ≡ length b.rows

-- the destinations after a call on k that makes of the station `before` the station `after`: each other one that is as it was, open or not, has its part
-- word for word as it was
pub record Destinations (k : ℕ) (before after : Station) (b b' : StationBuffers) : Type 0 where
  pub elsewhere : (j : ℕ) → j < 8 → (j ≡ k → ⊥) → slot_of j after ≡ slot_of j before → part j b' ≡ part j b
  pub past : StationPast b b'

-- the events: so many are new, and the rest of the list is as it was
pub record EventsSent (sent : List Row) (events events' : List Row) (count : ℕ) : Type 0 where
  pub many : count ≡ length sent
  pub first : take count events' ≡ sent
  pub later : drop count events' ≡ drop count events
  pub events-length : length events' ≡ length events

-- the own words: an open sets its mark and its name, any other call the next number and the lost count
abbrev pub own_opened : ℕ → List ℕ → List ℕ → List ℕ
own_opened k ws own = set (set own k 1) (name_word k) (at 6 ws)

abbrev pub own_called : Station → List ℕ → List ℕ
own_called s own = set (set own next_word s.next) lost_word s.lost

-- refusal, answer, events and station are q's; a refused call changes nothing. An accepted one leaves sound buffers, an open apart, which leaves its own
-- part sound and all else as it was.
-- Of a call without a code the code is 1, and there are no words.
-- Open after an accepted call: in the parts of k and of those where a dead letter was stored, the words that `view` and soundness do not look at (as a
-- destination's own contract has them: rows not in use, places past the counts, a full window's beginning). Everything else is exact: the own
-- words, the parts of the other destinations, those that are not open among them, and all past the state's sizes.
pub record StationCalled (q : StationResult) (k code : ℕ) (words : List ℕ) (b b' : StationBuffers) (events events' : List Row) (refusal answer count : ℕ) : Type 0 where
  pub refuses : refusal ≡ q.refusal
  pub answers : answer ≡ q.answer
  pub sends : EventsSent (map sent_words q.events) events events' count
  pub shows : station_view b' ≡ q.station
  pub leaves-sound : q.refusal ≡ 0 → 1 ≤ code → sound_station b' ≡ true
  pub opens-sound : q.refusal ≡ 0 → code ≡ 0 → sound_buffers (part k b') ≡ true
  pub own-opened : q.refusal ≡ 0 → code ≡ 0 → b'.own ≡ own_opened k words b.own
  pub own-called : q.refusal ≡ 0 → 1 ≤ code → b'.own ≡ own_called q.station b.own
  pub destinations : Destinations k (station_view b) q.station b b'
  pub kept : (q.refusal ≡ 0 → ⊥) → (b' ≡ b) × (events' ≡ events)

-- a start: the own words alone, and no event
abbrev pub own_started : List ℕ → List ℕ
own_started own = replicate 16 0 ++ (1 ∷ 0 ∷ drop 18 own)

pub record StationStarted (q : StationResult) (b b' : StationBuffers) (events events' : List Row) (refusal : ℕ) : Type 0 where
  pub refuses : refusal ≡ q.refusal
  pub heads : b'.heads ≡ b.heads
  pub subs : b'.subs ≡ b.subs
  pub rows : b'.rows ≡ b.rows
  pub sends : events' ≡ events
  pub own : q.refusal ≡ 0 → b'.own ≡ own_started b.own
  pub kept : (q.refusal ≡ 0 → ⊥) → b'.own ≡ b.own
