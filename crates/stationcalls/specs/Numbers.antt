-- Dead letters take their numbers: rejected rows become letters, in the words of an enqueue. Assumes nothing.
use Rattle.std.specs.Prelude.{◌≡◌, Bool, true, List, [], ◌∷◌, ℕ, ◌≤◌, ◌^◌, length, take}
use Rattle.std.proofs.Math.Option.{Option}
use mir.Val.{bool_byte}
use Rattle.words.specs.Words.{unsigned}
use Rattle.entry.specs.Entry.{entry_of}
use Rattle.definition.specs.Base.{all}
use Rattle.definition.specs.Types.{Entry}
use Rattle.definition.specs.Calls.{entry_ok, clock_ok}
use Rattle.definition.specs.Layout.{Row}
use Rattle.stationcalls.specs.declared.letters.Given.{Given}
use Rattle.definition_station.specs.Types.{StationSlot, Station}
use Rattle.definition_station.specs.Letters.{Numbered}
use Rattle.stationcalls.specs.Run.{letter_ok, letter_entries}

-- an entry with a new number as a letter; its clock comes with the call
abbrev pub letter_words : ℕ → Entry → Row
letter_words n e = n ∷ unsigned e.expiration ∷ bool_byte e.persistent ∷ e.producer ∷ e.match_word ∷ unsigned e.redelivery ∷ 0 ∷ e.size ∷ []

-- a rejected row is an entry in its ranges
abbrev pub dead_ok : Row → Bool
dead_ok w = entry_ok (entry_of w)

abbrev pub station_of : List (Option StationSlot) → ℕ → ℕ → Station
station_of slots next lost = record { slots = slots; next = next; lost = lost }

-- what numbering leaves, where q is what its definition gives
pub record Numbers (q : Numbered) (slots : List (Option StationSlot)) (letters : List Row) (g : Given) : Type 0 where
  pub letters-are : letter_entries (take g.many letters) ≡ q.letters
  pub station-is : station_of slots g.next g.lost ≡ q.station

-- and which letters they are
pub record Letters (n : ℕ) (letters : List Row) (g : Given) : Type 0 where
  pub few : g.many ≤ n
  pub within : g.many ≤ length letters
  pub letters-ok : (clock : ℕ) → clock_ok clock ≡ true → all (letter_ok clock) (take g.many letters) ≡ true
  pub next_low : 1 ≤ g.next
  pub next-high : g.next ≤ 2 ^ 63
