-- mod.rs: the memory limit, and what becomes of an expiration on arrival. Assumes nothing.
use Rattle.std.specs.Prelude.{◌≡◌, ℕ, ◌+◌, ◌*◌, ◌/◌, ◌^◌, Bool, true, false, not, ◌&&◌, ◌||◌, eqb, ltb, ℤ, pos, nat_abs, ◌+ℤ◌, ◌-ℤ◌, Result, Ok, Err}
use Rattle.std.specs.Int.Signed.{lt_z, le_z}
use Rattle.words.specs.Pick.{whether◌then◌else◌}
use Rattle.broker.specs.declared.OutOfRange.{OutOfRange}
use Rattle.broker.specs.declared.Admission.{Admission}
use Rattle.broker.specs.declared.Times.{Times}
use Rattle.broker.specs.declared.ExpiryOptions.{ExpiryOptions}
use Rattle.broker.specs.declared.Arrival.{Arrival}

-- ---- admit_memory

-- a number is outside its range
abbrev pub not_in_range : OutOfRange
not_in_range = record {}

-- limit, used and size are at most this
abbrev pub memory_most : ℕ
memory_most = 2 ^ 60

abbrev pub admission : Bool → Bool → Admission
admission admitted limited = record { admitted = admitted; limited = limited }

-- used < limit * 9 / 10
abbrev pub below_nine_tenths : ℕ → ℕ → Bool
below_nine_tenths used limit = ltb used (limit * 9 / 10)

-- if used + size > limit { limited = true; return false } true; the flag is clear here
abbrev pub room_for : ℕ → ℕ → ℕ → Admission
room_for limit used size =
    whether ltb limit (used + size) then admission false true
    else admission true false

-- out of range; if limit == 0 { return true }; if limited { if used < limit * 9 / 10 { limited = false } else { return false } }
unfoldable pub admit_memory : ℕ → Bool → ℕ → ℕ → Result Admission OutOfRange
admit_memory limit limited used size =
    whether ltb memory_most limit || ltb memory_most used || ltb memory_most size then Err not_in_range
    else whether eqb limit 0 then Ok (admission true limited)
    else whether limited && not (below_nine_tenths used limit) then Ok (admission false true)
    else Ok (room_for limit used size)

-- ---- apply_expiry_options

-- expiration, timestamp and clock are at most this
abbrev pub time_most : ℤ
time_most = pos (2 ^ 62)

-- and both settings at most this
abbrev pub setting_most : ℤ
setting_most = pos (2 ^ 61)

abbrev pub from_zero_to : ℤ → ℤ → Bool
from_zero_to x most = le_z (pos 0) x && le_z x most

unfoldable pub times_in_range : Times → Bool
times_in_range msg = le_z msg.expiration time_most && le_z msg.timestamp time_most

unfoldable pub settings_in_range : ExpiryOptions → Bool
settings_in_range cfg = from_zero_to cfg.default_ttl setting_most && from_zero_to cfg.ttl_ceiling setting_most

unfoldable pub times_and_settings_ok : ExpiryOptions → Times → ℤ → Bool
times_and_settings_ok cfg msg now = times_in_range msg && settings_in_range cfg && from_zero_to now time_most

abbrev pub times : ℤ → ℤ → Times
times expiration timestamp = record { expiration = expiration; timestamp = timestamp }

-- a time after 0 and in range
pub record Positive (x : ℤ) : Type 0 where
  pub above : lt_z (pos 0) x ≡ true
  pub most : le_z x time_most ≡ true

-- (msg.expiration - msg.timestamp).max(0)
unfoldable pub ttl : Times → ℤ
ttl msg = let left = msg.expiration -ℤ msg.timestamp in whether lt_z left (pos 0) then pos 0 else left

-- 1. if cfg.use_broker_clock && msg.expiration > 0 && msg.timestamp > 0 { msg.timestamp = now; msg.expiration = now + ttl }
unfoldable pub rebased : ExpiryOptions → Times → ℤ → Times
rebased cfg msg now =
    whether cfg.use_broker_clock && lt_z (pos 0) msg.expiration && lt_z (pos 0) msg.timestamp then times (now +ℤ ttl msg) now
    else msg

-- base = if msg.timestamp > 0 && !cfg.use_broker_clock { msg.timestamp } else { now }
unfoldable pub base_of : ExpiryOptions → Times → ℤ → ℤ
base_of cfg msg now =
    whether lt_z (pos 0) msg.timestamp && not cfg.use_broker_clock then msg.timestamp
    else now

-- if cfg.use_broker_clock { msg.timestamp = now }
unfoldable pub stamp : ExpiryOptions → Times → ℤ → ℤ
stamp cfg msg now = whether cfg.use_broker_clock then now else msg.timestamp

-- 2. if msg.expiration == 0 && cfg.default_ttl > 0 { msg.expiration = base + cfg.default_ttl; stamp }
unfoldable pub defaulted : ExpiryOptions → Times → ℤ → ℤ → Times
defaulted cfg msg base now =
    whether eqb (nat_abs msg.expiration) 0 && lt_z (pos 0) cfg.default_ttl
    then times (base +ℤ cfg.default_ttl) (stamp cfg msg now)
    else msg

-- 3. if cfg.ttl_ceiling > 0 && msg.expiration > 0 { cap = base + cfg.ttl_ceiling; if msg.expiration > cap { msg.expiration = cap } }
unfoldable pub capped : ExpiryOptions → Times → ℤ → Times
capped cfg msg base =
    let cap = base +ℤ cfg.ttl_ceiling in
    whether lt_z (pos 0) cfg.ttl_ceiling && lt_z (pos 0) msg.expiration && lt_z cap msg.expiration then times cap msg.timestamp
    else msg

abbrev pub arrival : Times → Bool → Arrival
arrival msg live = record { times = msg; live = live }

-- msg.expiration > 0 && msg.expiration <= now
unfoldable pub times_expired : Times → ℤ → Bool
times_expired msg now = lt_z (pos 0) msg.expiration && le_z msg.expiration now

-- the three steps
unfoldable pub expiry_steps : ExpiryOptions → Times → ℤ → Times
expiry_steps cfg msg now =
    let a = rebased cfg msg now in
    let base = base_of cfg a now in
    capped cfg (defaulted cfg a base now) base

unfoldable pub apply_expiry_options : ExpiryOptions → Times → ℤ → Result Arrival OutOfRange
apply_expiry_options cfg msg now =
    let m = expiry_steps cfg msg now in
    whether times_and_settings_ok cfg msg now then Ok (arrival m (not (times_expired m now)))
    else Err not_in_range
