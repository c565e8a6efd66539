-- Document 01's cases of mod.rs and the edges of its ranges, as one table that antt computes. Assumes nothing.
use Rattle.std.specs.Prelude.{◌+◌, ◌-◌, ◌^◌, Bool, true, false, not, ◌&&◌, List, [], ◌∷◌, ◌++◌, T, ℤ, pos, negsuc, Result, Ok, Err}
use Rattle.std.specs.Int.Signed.{le_z}
use Rattle.words.specs.Pick.{every}
use Rattle.broker.specs.declared.OutOfRange.{OutOfRange}
use Rattle.broker.specs.declared.Admission.{Admission}
use Rattle.broker.specs.declared.ExpiryOptions.{ExpiryOptions}
use Rattle.broker.specs.declared.Arrival.{Arrival}
use Rattle.broker.specs.Broker.{admit_memory, times_in_range, settings_in_range, times_and_settings_ok, ttl, rebased, base_of, stamp, defaulted, capped, times_expired, expiry_steps, times, apply_expiry_options}

abbrev same : Bool → Bool → Bool
same true b = b
same false b = not b

abbrev same_z : ℤ → ℤ → Bool
same_z a b = le_z a b && le_z b a

abbrev refuses : {A : Type 0} → Result A OutOfRange → Bool
refuses (Ok r) = false
refuses (Err e) = true

-- admitted, flag after
abbrev admits : Result Admission OutOfRange → Bool → Bool → Bool
admits (Ok r) admitted limited = same r.admitted admitted && same r.limited limited
admits (Err e) admitted limited = false

-- live, expiration and timestamp after
abbrev arrives : Result Arrival OutOfRange → Bool → ℤ → ℤ → Bool
arrives (Ok r) live expiration timestamp =
    same r.live live && same_z r.times.expiration expiration && same_z r.times.timestamp timestamp
arrives (Err e) live expiration timestamp = false

abbrev options : Bool → ℤ → ℤ → ExpiryOptions
options clock ttl ceiling = record { default_ttl = ttl; ttl_ceiling = ceiling; use_broker_clock = clock }

abbrev arrive : ExpiryOptions → ℤ → ℤ → ℤ → Result Arrival OutOfRange
arrive o expiration timestamp now = apply_expiry_options o (times expiration timestamp) now

-- no option is set
abbrev off : ExpiryOptions
off = options false (pos 0) (pos 0)

-- the broker clock only
abbrev clock : ExpiryOptions
clock = options true (pos 0) (pos 0)

memory : List Bool
unfolding admit_memory
memory =
    -- limit 100, flag set
    admits (admit_memory 100 true 90 0) false true
    ∷ admits (admit_memory 100 true 89 11) true false
    ∷ admits (admit_memory 100 true 89 12) false true
    -- flag clear: nine tenths do not matter
    ∷ admits (admit_memory 100 false 90 10) true false
    ∷ admits (admit_memory 100 false 90 11) false true
    -- limit * 9 / 10 is rounded down: 9 for a limit of 11
    ∷ admits (admit_memory 11 true 8 0) true false
    ∷ admits (admit_memory 11 true 9 0) false true
    -- limit 0 admits all, and keeps the flag
    ∷ admits (admit_memory 0 false (2 ^ 60) (2 ^ 60)) true false
    ∷ admits (admit_memory 0 true (2 ^ 60) (2 ^ 60)) true true
    -- the ranges
    ∷ admits (admit_memory (2 ^ 60) false (2 ^ 60) 0) true false
    ∷ admits (admit_memory (2 ^ 60) false (2 ^ 60) (2 ^ 60)) false true
    ∷ refuses (admit_memory (2 ^ 60 + 1) false 0 0)
    ∷ refuses (admit_memory (2 ^ 60 + 1) true 0 0)
    ∷ refuses (admit_memory 0 false (2 ^ 60 + 1) 0)
    ∷ refuses (admit_memory 0 true 0 (2 ^ 60 + 1))
    ∷ []

expiry : List Bool
unfolding times_in_range settings_in_range times_and_settings_ok ttl rebased base_of stamp defaulted capped times_expired expiry_steps apply_expiry_options
expiry =
    -- the ttl is expiration less timestamp, and a negative one counts as 0
    arrives (arrive clock (pos 50) (pos 60) (pos 100)) false (pos 100) (pos 100)
    ∷ arrives (arrive clock (pos 60) (pos 50) (pos 100)) true (pos 110) (pos 100)
    -- no timestamp, or no expiration: no ttl is known
    ∷ arrives (arrive clock (pos 50) (pos 0) (pos 100)) false (pos 50) (pos 0)
    ∷ arrives (arrive clock (pos 0) (pos 60) (pos 100)) true (pos 0) (pos 60)
    ∷ arrives (arrive clock (negsuc 0) (pos 60) (pos 100)) true (negsuc 0) (pos 60)
    ∷ arrives (arrive clock (pos 50) (negsuc 0) (pos 100)) false (pos 50) (negsuc 0)
    -- no option: equal to the clock is expired, 0 and below never are
    ∷ arrives (arrive off (pos 100) (pos 60) (pos 100)) false (pos 100) (pos 60)
    ∷ arrives (arrive off (pos 101) (pos 60) (pos 100)) true (pos 101) (pos 60)
    ∷ arrives (arrive off (pos 0) (pos 0) (pos 100)) true (pos 0) (pos 0)
    -- the default ttl, from the timestamp, from the clock where there is none, and on the broker clock
    ∷ arrives (arrive (options false (pos 30) (pos 0)) (pos 0) (pos 60) (pos 100)) false (pos 90) (pos 60)
    ∷ arrives (arrive (options false (pos 30) (pos 0)) (pos 0) (pos 0) (pos 100)) true (pos 130) (pos 0)
    ∷ arrives (arrive (options true (pos 30) (pos 0)) (pos 0) (pos 60) (pos 100)) true (pos 130) (pos 100)
    ∷ arrives (arrive (options false (pos 30) (pos 0)) (negsuc 0) (pos 60) (pos 100)) true (negsuc 0) (pos 60)
    -- the ceiling, which bounds the default too
    ∷ arrives (arrive (options false (pos 0) (pos 20)) (pos 500) (pos 90) (pos 100)) true (pos 110) (pos 90)
    ∷ arrives (arrive (options false (pos 0) (pos 20)) (pos 110) (pos 90) (pos 100)) true (pos 110) (pos 90)
    ∷ arrives (arrive (options false (pos 30) (pos 20)) (pos 0) (pos 60) (pos 100)) false (pos 80) (pos 60)
    ∷ arrives (arrive (options true (pos 0) (pos 20)) (pos 500) (pos 90) (pos 100)) true (pos 120) (pos 100)
    ∷ arrives (arrive (options false (pos 0) (pos 20)) (negsuc 0) (pos 90) (pos 100)) true (negsuc 0) (pos 90)
    -- the ranges: the greatest sum, the least i64, and one more or less than each bound
    ∷ arrives (arrive clock (pos (2 ^ 62)) (pos 1) (pos (2 ^ 62))) true (pos (2 ^ 63 - 1)) (pos (2 ^ 62))
    ∷ arrives (arrive clock (negsuc (2 ^ 63 - 1)) (negsuc (2 ^ 63 - 1)) (pos 0)) true (negsuc (2 ^ 63 - 1)) (negsuc (2 ^ 63 - 1))
    ∷ arrives (arrive (options false (pos (2 ^ 61)) (pos (2 ^ 61))) (pos 0) (pos (2 ^ 62)) (pos 0)) true (pos (2 ^ 62 + 2 ^ 61)) (pos (2 ^ 62))
    ∷ refuses (arrive off (pos (2 ^ 62 + 1)) (pos 5) (pos 9))
    ∷ refuses (arrive off (pos 5) (pos (2 ^ 62 + 1)) (pos 9))
    ∷ refuses (arrive (options false (pos (2 ^ 61 + 1)) (pos 0)) (pos 5) (pos 6) (pos 9))
    ∷ refuses (arrive (options false (negsuc 0) (pos 0)) (pos 5) (pos 6) (pos 9))
    ∷ refuses (arrive (options false (pos 0) (pos (2 ^ 61 + 1))) (pos 5) (pos 6) (pos 9))
    ∷ refuses (arrive (options false (pos 0) (negsuc 0)) (pos 5) (pos 6) (pos 9))
    ∷ refuses (arrive off (pos 5) (pos 6) (pos (2 ^ 62 + 1)))
    ∷ refuses (arrive off (pos 5) (pos 6) (negsuc 0))
    ∷ []

all_right : T (every (memory ++ expiry))
unfolding memory expiry
all_right = tt
