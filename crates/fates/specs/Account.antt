-- The account of a queue along its calls, and what document 02 §7 claims of it. Assumes nothing.
use Rattle.std.specs.Prelude.{ℕ, ◌+◌, ◌≤◌, ◌≡◌, Bool, true, false, not, ◌&&◌, ◌||◌, List, [], ◌∷◌, ◌++◌, map, eqb, pos, length}
use Rattle.std.proofs.Math.Option.{some}
use Rattle.definition.specs.Base.{keep, tally, all, member, distinct}
use Rattle.definition.specs.Types.{queue, Id, Entry, Sub, Dest}
use Rattle.definition.specs.Consumer.{is_browser, ack_type, Ack}
use Rattle.definition.specs.Consumer as Consumer
use Rattle.definition.specs.Calls.{Lengths, acknowledge, Call, asking, seqs, flying, taken, held, brought}
use Rattle.definition.specs.Destination.{due}
use Rattle.definition.specs.Histories.{call_clock}
use Rattle.definition.specs.Words.{decode, step}
use Rattle.fates.specs.Fates.{Fate, dequeued, expired, discarded, dead_lettered, cleared, same_fate, Departure, acks, means, removal, named_by, leavers, departures}

-- a queue since its latest accepted open, all accepted calls of the call file since, each enqueue among them with a new sequence number: the entries
-- accepted, those that left, and the destination as it is
pub data Account : List Entry → List Departure → Dest → Type 0 where
  opening : (lent : Lengths) (words : List ℕ) (t : Dest) → (step lent 0 words t).refusal ≡ 0 → (step lent 0 words t).dest.kind ≡ queue → Account [] [] (step lent 0 words t).dest
  calling : {a : List Entry} {l : List Departure} {t : Dest} (lent : Lengths) (code : ℕ) (words : List ℕ) (c : Call)
      → 1 ≤ code → decode code words ≡ some c → Account a l t → (step lent code words t).refusal ≡ 0
      -- "every enqueue with a new sequence number"
      → all (λ e. not (member e.seq (seqs a))) (brought c) ≡ true
      → Account (a ++ brought c) (l ++ departures c t (step lent code words t).dest) (step lent code words t).dest

-- ---- the eight places

pub data Place : Type 0 where
  waiting in_flight reserved : Place
  left : Fate → Place

abbrev pub places : List Place
places = waiting ∷ in_flight ∷ reserved ∷ left dequeued ∷ left expired ∷ left discarded ∷ left dead_lettered ∷ left cleared ∷ []

-- those that left so
abbrev pub left_as : Fate → List Departure → List Entry
left_as f l = map (λ d. d.entry) (keep (λ d. same_fate f d.fate) l)

-- what is there
abbrev pub entries_at : Place → List Departure → Dest → List Entry
entries_at waiting l t = t.pending
entries_at in_flight l t = taken t.subs
entries_at reserved l t = held t
entries_at (left f) l t = left_as f l

abbrev pub numbers_at : Place → List Departure → Dest → List ℕ
numbers_at p l t = seqs (entries_at p l t)

-- over all eight
abbrev pub over_places : (Place → ℕ) → List Place → ℕ
over_places n [] = 0
over_places n (p ∷ ps) = n p + over_places n ps

-- a consumer that is no browser has it in flight
abbrev pub carries : ℕ → Sub → Bool
carries s c = not (is_browser c) && member s (seqs (flying c))

-- the number s is in exactly one of the eight places, once; in flight is at exactly one consumer that is no browser
pub record InOnePlace (s : ℕ) (l : List Departure) (t : Dest) : Type 0 where
  pub one : tally (λ p. member s (numbers_at p l t)) places ≡ 1
  pub once : over_places (λ p. tally (eqb s) (numbers_at p l t)) places ≡ 1
  pub carrier : member s (numbers_at in_flight l t) ≡ true → tally (carries s) t.subs ≡ 1

-- ---- the claims

-- "Each accepted entry is in exactly one of these"; and no other number is in any
pub record Accounted (a : List Entry) (l : List Departure) (t : Dest) : Type 0 where
  pub apart : distinct (seqs a) ≡ true
  pub each : (s : ℕ) → member s (seqs a) ≡ true → InOnePlace s l t
  pub others : (s : ℕ) → member s (seqs a) ≡ false → (p : Place) → member s (numbers_at p l t) ≡ false

abbrev pub EachInOnePlace : Type 0
EachInOnePlace = (a : List Entry) (l : List Departure) (t : Dest) → Account a l t → Accounted a l t

-- "The enqueued counter is the total over all eight"
abbrev pub EnqueuedIsTheTotal : Type 0
EnqueuedIsTheTotal = (a : List Entry) (l : List Departure) (t : Dest) → Account a l t → t.stats.enqueued ≡ over_places (λ p. length (entries_at p l t)) places

-- "the dequeued, expired and discarded counters equal their parts, plus the dead-lettered and cleared where the Rust counts those": it counts a dead letter
-- as discarded where the entry is not persistent, and nothing that a clear takes
pub record CountersSplit (l : List Departure) (t : Dest) : Type 0 where
  pub dequeues : t.stats.dequeued ≡ length (left_as dequeued l)
  pub expiries : t.stats.expired ≡ length (left_as expired l)
  pub discards : t.stats.discarded ≡ length (left_as discarded l) + tally (λ e. not e.persistent) (left_as dead_lettered l)

-- with browsers or without
abbrev pub CountersAreTheParts : Type 0
CountersAreTheParts = (a : List Entry) (l : List Departure) (t : Dest) → Account a l t → CountersSplit l t

-- no entry of a queue is discarded: that is the surplus of a topic
abbrev pub NoneIsDiscarded : Type 0
NoneIsDiscarded = (a : List Entry) (l : List Departure) (t : Dest) → Account a l t → left_as discarded l ≡ []

-- the clock that entries expire by in a call on t: the call's less the allowance
abbrev pub clock_reading : Call → Dest → ℕ
clock_reading c t = due (call_clock c) t

-- what leaves as expired in a call on t was expired at the call's clock less the allowance, unless an EXPIRED acknowledgement removed it
abbrev pub truly : Call → Dest → Departure → Bool
truly c t d = not (same_fate expired d.fate) || (removal t d.entry (means c) || Consumer.expired (pos (clock_reading c t)) d.entry)

abbrev pub ExpiredHadExpired : Type 0
ExpiredHadExpired =
    (a : List Entry) (l : List Departure) (t : Dest) → Account a l t
    → (lent : Lengths) (code : ℕ) (words : List ℕ) (c : Call) → 1 ≤ code → decode code words ≡ some c → (step lent code words t).refusal ≡ 0
    → all (λ e. not (member e.seq (seqs a))) (brought c) ≡ true
    → all (truly c t) (departures c t (step lent code words t).dest) ≡ true

-- an acknowledgement's own removals, of any queue, are exactly what it names, in order: in range and in flight at its consumer, which is no browser, or reserved for it
abbrev pub RemovalsAreNamed : Type 0
RemovalsAreNamed =
    (lent : Lengths) (code : ℕ) (words : List ℕ) (i : Id) (k : Ack) (now : ℕ) (t : Dest)
    → t.kind ≡ queue → 1 ≤ code → decode code words ≡ some (asking i (acknowledge k now)) → (step lent code words t).refusal ≡ 0
    → keep (λ e. removal t e (acks (ack_type k.type))) (leavers [] t (step lent code words t).dest) ≡ named_by i k t

-- every accepted call is one that `Account` can take
abbrev pub AcceptedIsACall : Type 0
AcceptedIsACall = (lent : Lengths) (code : ℕ) (words : List ℕ) (t : Dest) → 1 ≤ code → (step lent code words t).refusal ≡ 0 → (c : Call) × (decode code words ≡ some c)
