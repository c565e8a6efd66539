-- A station (document 02, §1): up to eight destinations, numbered 0 to 7, and the numbers that it gives. Assumes nothing.
use Rattle.std.specs.Prelude.{ℕ, ◌+◌, ◌^◌, List, map, ltb, get_or, set, replicate}
use Rattle.std.proofs.Math.Option.{Option, none, some}
use Rattle.definition.specs.Base.{whether◌then◌else◌}
use Rattle.definition.specs.Types.{Entry, Dest, Event}

-- an open destination, with the dead-letter destination that it named at its open: 0 to 7, or 8 for none
pub record StationSlot : Type 0 where
  pub dest : Dest
  pub name : ℕ

abbrev pub with_dest : Dest → StationSlot → StationSlot
with_dest t x = record { dest = t; name = x.name }

pub record Station : Type 0 where
  pub slots : List (Option StationSlot)  -- eight places: an open destination, or none
  pub next : ℕ  -- the next sequence number, 1 to 2^63 (2^63: none is left)
  pub lost : ℕ  -- dead letters lost, 0 to 2^63 - 1 (stops there)

-- as it starts: "leaves none open"; "the first number is 1"
abbrev pub started : Station
started = record { slots = replicate 8 none; next = 1; lost = 0 }

-- the destination at a place, if it is open; no place above 7 is
abbrev pub slot_of : ℕ → Station → Option StationSlot
slot_of k s = get_or s.slots k none

abbrev pub with_slots : List (Option StationSlot) → Station → Station
with_slots l s = record { slots = l; next = s.next; lost = s.lost }

-- the station with this at the place k
abbrev pub put_slot : ℕ → Option StationSlot → Station → Station
put_slot k o s = with_slots (set s.slots k o) s

-- the station with this destination at the open place k
abbrev pub put_dest : ℕ → StationSlot → Dest → Station → Station
put_dest k x t s = put_slot k (some (with_dest t x)) s

-- no sequence number is 2^63 or above
abbrev pub numbers_end : ℕ
numbers_end = 2 ^ 63

-- one number is taken
abbrev pub took_number : Station → Station
took_number s = record { slots = s.slots; next = s.next + 1; lost = s.lost }

-- "the lost count stops at 2^63−1"
abbrev pub losing_letter : Station → Station
losing_letter s = record { slots = s.slots; next = s.next; lost = whether ltb (s.lost + 1) (2 ^ 63) then s.lost + 1 else s.lost }

-- "each event names its destination"
pub record StationEvent : Type 0 where
  pub place : ℕ
  pub event : Event

abbrev pub sent_at : ℕ → List Event → List StationEvent
sent_at k es = map (λ e. record { place = k; event = e }) es

-- what running dead letters leaves: the station, what it sends
pub record RanLetters : Type 0 where
  pub station : Station
  pub events : List StationEvent

-- "a new sequence number that the station gives. Its other fields stay, match word included"
abbrev pub with_seq : ℕ → Entry → Entry
with_seq n e = record { seq = n; expiration = e.expiration; persistent = e.persistent; producer = e.producer; match_word = e.match_word; redelivery = e.redelivery; size = e.size }
