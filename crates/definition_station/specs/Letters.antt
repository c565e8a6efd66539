-- Dead letters (document 02, §1): `run_effects` and `to_dlq` of src/broker/mod.rs, which call each other. Assumes nothing.
use Rattle.std.specs.Prelude.{ℕ, zero, suc, Bool, true, false, not, ◌&&◌, List, [], ◌∷◌, ◌++◌, map, ltb, eqb}
use Rattle.std.proofs.Math.Option.{Option, none, some}
use Rattle.definition.specs.Base.{whether◌then◌else◌, keep}
use Rattle.definition.specs.Types.{Id, Entry, Sub, Dest}
use Rattle.definition.specs.Consumer.{is_browser, AckType, Delivered, Poison, Standard, Redelivered, Individual, Unmatched, Expired, Other, ack_type, Ack, ack_range}
use Rattle.definition.specs.Destination.{sub_of, reserved_of, reserved_hit}
use Rattle.definition.specs.Calls.{Lengths, acknowledge, pulling, timed_out, prefetching, Call, enqueuing, joining, leaving, asking, unmarking, releasing, sweeping, clearing, adding, removing, testing, forgetting, discarding, missing, call}
use Rattle.definition_station.specs.Types.{StationSlot, Station, slot_of, put_dest, numbers_end, took_number, losing_letter, sent_at, RanLetters, with_seq}

-- ---- which entries are dead letters

abbrev pub is_poison : AckType → Bool
is_poison Poison = true
is_poison Delivered = false
is_poison Standard = false
is_poison Redelivered = false
is_poison Individual = false
is_poison Unmatched = false
is_poison Expired = false
is_poison Other = false

abbrev pub lasting : List Entry → List Entry
lasting es = keep (λ e. e.persistent) es

-- what an untransacted POISON takes from an absent consumer's reserved rows, by its last number if there is one
abbrev pub taken_reserved : Id → Ack → Dest → Option ℕ → List Entry
taken_reserved i a t none = []
taken_reserved i a t (some last) = keep (λ e. reserved_hit a.first last e (ack_type a.type)) (reserved_of i t)

-- "a persistent entry rejected by POISON": of an absent consumer's reserved rows, or of a present one that is no browser; in the order of the `x` events
unfoldable pub rejected_of : Id → Ack → Dest → Option Sub → List Entry
rejected_of i a t none = lasting (taken_reserved i a t a.last)
rejected_of i a t (some s) = whether is_browser s then [] else lasting (map (λ f. f.entry) (keep (ack_range s a false) s.inflight))

unfoldable pub rejected_by : Id → Ack → Dest → List Entry
rejected_by i a t = whether not a.transacted && is_poison (ack_type a.type) then rejected_of i a t (sub_of i t) else []

-- the dead letters that a call makes where it is accepted
unfoldable pub rejected : Dest → Option Call → List Entry
rejected t none = []
rejected t (some (asking i (acknowledge a now))) = rejected_by i a t
rejected t (some (asking i (pulling timeout now))) = []
rejected t (some (asking i (timed_out generation))) = []
rejected t (some (asking i (prefetching p now))) = []
rejected t (some (enqueuing e now)) = []
rejected t (some (joining p now)) = []
rejected t (some (leaving i last now)) = []
rejected t (some (unmarking i)) = []
rejected t (some (releasing i now)) = []
rejected t (some (sweeping now most)) = []
rejected t (some clearing) = []
rejected t (some (adding i)) = []
rejected t (some (removing i now)) = []
rejected t (some (testing i q)) = []
rejected t (some (forgetting conn)) = []
rejected t (some discarding) = []
rejected t (some missing) = []

-- "at the acknowledgement's clock"
unfoldable pub clock_of : Option Call → ℕ
clock_of none = 0
clock_of (some (asking i (acknowledge a now))) = now
clock_of (some (asking i (pulling timeout now))) = 0
clock_of (some (asking i (timed_out generation))) = 0
clock_of (some (asking i (prefetching p now))) = 0
clock_of (some (enqueuing e now)) = 0
clock_of (some (joining p now)) = 0
clock_of (some (leaving i last now)) = 0
clock_of (some (unmarking i)) = 0
clock_of (some (releasing i now)) = 0
clock_of (some (sweeping now most)) = 0
clock_of (some clearing) = 0
clock_of (some (adding i)) = 0
clock_of (some (removing i now)) = 0
clock_of (some (testing i q)) = 0
clock_of (some (forgetting conn)) = 0
clock_of (some discarding) = 0
clock_of (some missing) = 0

-- ---- numbers

pub record Numbered : Type 0 where
  pub letters : List Entry
  pub station : Station

-- "It takes its number once, before the first hop, lost or not"; "with no number left .. a dead letter is lost"
unfoldable pub number_letters : List Entry → Station → Numbered
number_letters [] s = record { letters = []; station = s }
number_letters (e ∷ es) s =
    let given = number_letters es (took_number s) in
    let left = number_letters es (losing_letter s) in
    whether ltb s.next numbers_end then record { letters = with_seq s.next e ∷ given.letters; station = given.station }
    else left

-- ---- storing one, and running some

-- a destination's own buffers, lent whole
abbrev pub whole : Lengths
whole = record { head = 8347; subs = 32; rows = 512; events = 545 }

-- each in turn, by a way to store one
abbrev pub each : (Entry → Station → RanLetters) → List Entry → Station → RanLetters
each store [] s = record { station = s; events = [] }
each store (e ∷ es) s =
    let here = store e s in
    let later = each store es here.station in
    record { station = later.station; events = here.events ++ later.events }

abbrev pub is_lost : Station → RanLetters
is_lost s = record { station = losing_letter s; events = [] }

-- at the destination that is named, if it is open: "Each dead letter stored is an accepted enqueue there"; "Where that destination refuses, the dead
-- letter goes on" by `on`, to the name that it is given. "A named destination that is not open refuses too", and as it names none the letter is lost.
unfoldable pub stored_at : (ℕ → Station → RanLetters) → ℕ → ℕ → Entry → Station → Option StationSlot → RanLetters
stored_at on now k e s none = is_lost s
stored_at on now k e s (some x) =
    let r = call whole (enqueuing e now) x.dest in
    let stored : RanLetters = record { station = put_dest k x r.dest s; events = sent_at k r.events } in
    let passed : RanLetters = on x.name s in
    whether eqb r.refusal 0 then stored else passed

-- `to_dlq`: hops left, clock, the name, the letter. "eight hops at most, and is then counted as lost"; 8 is no place, so "where none is named the
-- letter is lost"
unfoldable pub storing : ℕ → ℕ → ℕ → Entry → Station → RanLetters
storing zero now k e s = is_lost s
storing (suc hops) now k e s = stored_at (λ j u. each (storing hops now j) (e ∷ []) u) now k e s (slot_of k s)

-- `run_effects`: hops left, clock, the name, the letters. So `storing (suc hops)` passes a letter on by `running hops` (`proofs/Letters`, `storing-passes`).
unfoldable pub running : ℕ → ℕ → ℕ → List Entry → Station → RanLetters
running hops now k es s = each (storing hops now k) es s

-- a letter makes at most so many hops
abbrev pub hops_max : ℕ
hops_max = 8

-- the same, one letter after another: each takes its number, makes its hops, and then the next does (`Claims`, `OneByOne`)
unfoldable pub one_by_one : ℕ → ℕ → List Entry → Station → RanLetters
one_by_one now k [] s = record { station = s; events = [] }
one_by_one now k (e ∷ es) s =
    let here = storing hops_max now k (with_seq s.next e) (took_number s) in
    let later = one_by_one now k es here.station in
    let done : RanLetters = record { station = later.station; events = here.events ++ later.events } in
    let without = one_by_one now k es (losing_letter s) in
    whether ltb s.next numbers_end then done else without

-- opens the definitions of this file
unfoldable pub letters_open : Unit {0}
unfolding rejected_of rejected_by rejected clock_of number_letters stored_at storing running one_by_one
letters_open = tt
