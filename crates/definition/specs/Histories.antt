-- What accepted calls say of who is present, without a look at the state, what begins to wait and goes on waiting, and what comes in flight. Assumes nothing.
use Rattle.std.specs.Prelude.{ℕ, ◌≡◌, Bool, true, false, not, ◌&&◌, ◌||◌, List, [], ◌∷◌, ◌++◌, map, eqb, pos}
use Rattle.std.proofs.Math.Option.{Option, none, some}
use Rattle.definition.specs.Base.{whether◌then◌else◌, keep, all, member, is_some}
use Rattle.definition.specs.Types.{Id, Entry, Sub, Dest, Event, letter, message, null}
use Rattle.definition.specs.Consumer.{same_id, expired, snapshot}
use Rattle.definition.specs.Destination.{due, is_id, sub_of, reserved_of}
use Rattle.definition.specs.Calls.{Lengths, seqs, flying, taken, Request, acknowledge, pulling, timed_out, prefetching, Call, enqueuing, joining, leaving, asking, unmarking, releasing, sweeping, clearing, adding, removing, testing, forgetting, discarding, missing, call}
use Rattle.definition.specs.Words.{id_in}
use Rattle.definition.specs.Orders.{Reached, opening, calling, discards, misses}

abbrev pub among : Id → List Id → Bool
among i [] = false
among i (j ∷ js) = same_id j i || among i js

-- a join (code 2) comes last, a leave (code 3) is gone, and no other call brings or takes one
abbrev pub present_after : ℕ → List ℕ → List Id → List Id
present_after code words ids =
    whether eqb code 2 then ids ++ id_in words ∷ []
    else whether eqb code 3 then keep (λ j. not (same_id j (id_in words))) ids
    else ids

-- "joined among these and not left since": an open brings none
abbrev pub present_in : (b : Bool) (t : Dest) → Reached b t → List Id
present_in b t (opening lent words u h) = []
present_in b t (calling {b = d} {t = u} lent code words low r h) = present_after code words (present_in d u r)
present_in b t (discards {t = u} lent r h) = present_in b u r
present_in b t (misses {t = u} lent r h) = present_in b u r

-- the consumers of the state are these, in the order of their joins, and an ID is a present consumer's exactly if it is among these
pub record Presence (ids : List Id) (t : Dest) : Type 0 where
  pub in_order : map (λ s. s.id) t.subs ≡ ids
  pub there : (i : Id) → is_some (sub_of i t) ≡ among i ids

abbrev pub PresentByHistory : Type 0
PresentByHistory = (b : Bool) (t : Dest) (r : Reached b t) → Presence (present_in b t r) t

-- ---- what begins to wait on a queue

abbrev pub flying_at : Option Sub → List ℕ
flying_at none = []
flying_at (some s) = seqs (flying s)

-- the numbers that a call can make wait: an enqueue's, those in flight at the consumer that leaves, those reserved for the one that is released
abbrev pub can_wait : Dest → Call → List ℕ
can_wait t (enqueuing e now) = e.seq ∷ []
can_wait t (leaving i last now) = flying_at (sub_of i t)
can_wait t (releasing i now) = seqs (reserved_of i t)
can_wait t (joining p now) = []
can_wait t (asking i q) = []
can_wait t (unmarking i) = []
can_wait t (sweeping now most) = []
can_wait t clearing = []
can_wait t (adding i) = []
can_wait t (removing i now) = []
can_wait t (testing i q) = []
can_wait t (forgetting conn) = []
can_wait t discarding = []
can_wait t missing = []

-- "from the enqueue that stores it, or its return": no call makes another number wait
abbrev pub WaitsFrom : Type 0
WaitsFrom = (lent : Lengths) (c : Call) (t : Dest) (q : ℕ) → member q (seqs t.pending) ≡ false → member q (can_wait t c) ≡ false → member q (seqs (call lent c t).dest.pending) ≡ false

-- ---- what comes in flight

-- a `d` of the number q to the consumer i
abbrev pub sends : Id → ℕ → Event → Bool
sends i q (message j s redelivery) = same_id j i && eqb q s
sends i q (letter s redelivery cause) = false
sends i q (null j) = false

-- q is in flight at a consumer i
abbrev pub flies : Id → ℕ → List Sub → Bool
flies i q [] = false
flies i q (s ∷ ss) = (is_id i s && member q (seqs (flying s))) || flies i q ss

-- what is in flight at i after a call, and was not before, was sent to i in it with a `d`
abbrev pub FliesFrom : Type 0
FliesFrom = (lent : Lengths) (c : Call) (t : Dest) (i : Id) (q : ℕ) → flies i q t.subs ≡ false → all (λ v. not (sends i q v)) (call lent c t).events ≡ true → flies i q (call lent c t).dest.subs ≡ false

-- ---- what goes on waiting

-- the clock that a call has; 0 for one without
abbrev pub asked_at : Request → ℕ
asked_at (acknowledge a now) = now
asked_at (pulling timeout now) = now
asked_at (timed_out generation) = 0
asked_at (prefetching p now) = now

abbrev pub call_clock : Call → ℕ
call_clock (enqueuing e now) = now
call_clock (joining p now) = now
call_clock (leaving i last now) = now
call_clock (asking i q) = asked_at q
call_clock (unmarking i) = 0
call_clock (releasing i now) = now
call_clock (sweeping now most) = now
call_clock clearing = 0
call_clock (adding i) = 0
call_clock (removing i now) = now
call_clock (testing i q) = 0
call_clock (forgetting conn) = 0
call_clock discarding = 0
call_clock missing = 0

-- what browsers have yet to show
abbrev pub yet_to_show : List Sub → List Entry
yet_to_show [] = []
yet_to_show (s ∷ ss) = snapshot s ++ yet_to_show ss

-- e has another number than q, or has not expired at n
abbrev pub alive_at : ℕ → ℕ → Entry → Bool
alive_at n q e = not (eqb q e.seq) || not (expired (pos n) e)

-- "until it is sent .. to a consumer that is no browser, expires out of the queue or is cleared": where no copy that waits or that a browser has yet to show has
-- expired by the clock of an accepted call other than a clear, a number that waited and waits no more is in flight at a consumer that is no browser
abbrev pub WaitsOn : Type 0
WaitsOn = (lent : Lengths) (c : Call) (t : Dest) (q : ℕ) → (call lent c t).refusal ≡ 0 → (c ≡ clearing → ⊥) → member q (seqs t.pending) ≡ true →
    all (alive_at (due (call_clock c) t) q) (t.pending ++ yet_to_show t.subs) ≡ true →
    let u = (call lent c t).dest in
    member q (seqs u.pending) ≡ false → member q (seqs (taken u.subs)) ≡ true
