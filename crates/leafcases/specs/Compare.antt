-- A case against the definitions of the leaf functions, and what is counted. Assumes nothing.
use Rattle.std.specs.Prelude.{ℕ, Bool, true, false, ◌&&◌, List, eqb, ℤ, pos, get_or, Result, Ok, Err}
use Rattle.words.specs.Pick.{whether◌then◌else◌}
use Rattle.words.specs.Words.{signed, unsigned, int, is_int}
use Rattle.entry.specs.declared.Entry.{Entry}
use Rattle.entry.specs.Entry.{expired, redelivered}
use Rattle.broker.specs.declared.OutOfRange.{OutOfRange}
use Rattle.broker.specs.declared.Admission.{Admission}
use Rattle.broker.specs.declared.Arrival.{Arrival}
use Rattle.broker.specs.declared.ExpiryOptions.{ExpiryOptions}
use Rattle.broker.specs.Broker.{admit_memory, times, apply_expiry_options}
use Rattle.audit.specs.declared.Audit.{Audit}
use Rattle.audit.specs.declared.Checked.{Checked}
use Rattle.audit.specs.Audit.{new_audit, ring_step}
use Rattle.stats.specs.Counted.{more}
use Rattle.leafcases.specs.declared.cases.Count.{Count}
use Rattle.leafcases.specs.declared.cases.Counts.{Counts}
use Rattle.leafcases.specs.declared.cases.Run.{Run}
use Rattle.leafcases.specs.declared.cases.Tested.{Tested}
use Rattle.leafcases.specs.declared.parse.Kind.{Kind}
use Rattle.leafcases.specs.declared.parse.Kind.TheVariants as K

-- ---- a case

-- number k of a line, as the word that holds it, and as an i64
abbrev pub value_word : List ℕ → ℕ → ℕ
value_word v k = get_or v k 0

abbrev pub time : List ℕ → ℕ → ℤ
time v k = signed (value_word v k)

-- whether a flag of the list, 0 or 1, says this
unfoldable pub flag_is : Bool → ℕ → Bool
flag_is b x = whether b then eqb x 1 else eqb x 0

abbrev pub entry_with : ℤ → ℤ → Entry
entry_with expiration redelivery = record { seq = 1; expiration = expiration; producer = 0; match_word = 0; redelivery = redelivery; persistent = false; size = 0 }

-- EXPIRATION NOW RESULT
unfoldable pub expired_same : List ℕ → Bool
expired_same v = flag_is (expired (time v 1) (entry_with (time v 0) (pos 0))) (value_word v 2)

-- BEFORE AFTER
unfoldable pub redelivered_same : List ℕ → Bool
redelivered_same v =
    is_int (value_word v 0) && eqb (unsigned (redelivered (entry_with (pos 0) (int (value_word v 0)))).redelivery) (value_word v 1)

unfoldable pub admission_same : Result Admission OutOfRange → ℕ → ℕ → Bool
admission_same (Ok a) admitted limited = flag_is a.admitted admitted && flag_is a.limited limited
admission_same (Err e) admitted limited = false

-- LIMIT FLAG USED SIZE ADMITTED FLAG_AFTER
unfoldable pub admit_memory_same : List ℕ → Bool
admit_memory_same v =
    let limited = eqb (value_word v 1) 1 in
    flag_is limited (value_word v 1)
    && admission_same (admit_memory (value_word v 0) limited (value_word v 2) (value_word v 3)) (value_word v 4) (value_word v 5)

unfoldable pub arrival_same : Result Arrival OutOfRange → ℕ → ℕ → ℕ → Bool
arrival_same (Ok a) live expiration timestamp =
    flag_is a.live live
    && (eqb (unsigned a.times.expiration) expiration && eqb (unsigned a.times.timestamp) timestamp)
arrival_same (Err e) live expiration timestamp = false

abbrev pub options : Bool → ℤ → ℤ → ExpiryOptions
options clock ttl ceiling = record { default_ttl = ttl; ttl_ceiling = ceiling; use_broker_clock = clock }

-- USE_BROKER_CLOCK DEFAULT_TTL TTL_CEILING EXPIRATION TIMESTAMP NOW LIVE EXPIRATION_AFTER TIMESTAMP_AFTER
unfoldable pub apply_expiry_options_same : List ℕ → Bool
apply_expiry_options_same v =
    let clock = eqb (value_word v 0) 1 in
    flag_is clock (value_word v 0)
    && arrival_same (apply_expiry_options (options clock (time v 1) (time v 2)) (times (time v 3) (time v 4)) (time v 5)) (value_word v 6) (value_word v 7) (value_word v 8)

unfoldable pub duplicate_same : Checked → ℕ → Bool
duplicate_same c duplicate = eqb c.refusal 0 && flag_is c.duplicate duplicate

-- what a case shows, and the words of the window after it
pub record Replayed : Type 0 where
  pub tested : Tested
  pub words : List ℕ

abbrev pub replayed : Audit → Bool → List ℕ → Replayed
replayed a same w = record { tested = record { audit = a; same = same }; words = w }

-- NUMBER DUPLICATE
unfoldable pub audit_compared : Audit → List ℕ → List ℕ → Replayed
audit_compared a v w =
    let l = ring_step (value_word v 0) a w in
    replayed l.checked.audit (duplicate_same l.checked (value_word v 1)) l.words

-- a case against the function that it names
unfoldable pub compared : Kind → Audit → List ℕ → List ℕ → Replayed
compared K.Expired a v w = replayed a (expired_same v) w
compared K.Redelivered a v w = replayed a (redelivered_same v) w
compared K.AdmitMemory a v w = replayed a (admit_memory_same v) w
compared K.ApplyExpiryOptions a v w = replayed a (apply_expiry_options_same v) w
compared K.AuditNew a v w = replayed new_audit true w
compared K.Audit a v w = audit_compared a v w
compared K.Bad a v w = replayed a false w

-- ---- counts

abbrev pub no_count : Count
no_count = record { cases = 0; differ = 0 }

abbrev pub no_counts : Counts
no_counts = record { expired = no_count; redelivered = no_count; admit_memory = no_count; apply_expiry_options = no_count; audit = no_count; audits = 0; bad = 0 }

-- before the first byte
abbrev pub new_run : Run
new_run = record { counts = no_counts; audit = new_audit; lines = 0; shown = 0; len = 0; over = false; reading = true }

unfoldable pub counted_case : Count → Bool → Count
counted_case c same = record { cases = more c.cases; differ = whether same then c.differ else more c.differ }

unfoldable pub counted_as : Counts → Kind → Bool → Counts
counted_as c K.Expired same = record { expired = counted_case c.expired same; redelivered = c.redelivered; admit_memory = c.admit_memory; apply_expiry_options = c.apply_expiry_options; audit = c.audit; audits = c.audits; bad = c.bad }
counted_as c K.Redelivered same = record { expired = c.expired; redelivered = counted_case c.redelivered same; admit_memory = c.admit_memory; apply_expiry_options = c.apply_expiry_options; audit = c.audit; audits = c.audits; bad = c.bad }
counted_as c K.AdmitMemory same = record { expired = c.expired; redelivered = c.redelivered; admit_memory = counted_case c.admit_memory same; apply_expiry_options = c.apply_expiry_options; audit = c.audit; audits = c.audits; bad = c.bad }
counted_as c K.ApplyExpiryOptions same = record { expired = c.expired; redelivered = c.redelivered; admit_memory = c.admit_memory; apply_expiry_options = counted_case c.apply_expiry_options same; audit = c.audit; audits = c.audits; bad = c.bad }
counted_as c K.Audit same = record { expired = c.expired; redelivered = c.redelivered; admit_memory = c.admit_memory; apply_expiry_options = c.apply_expiry_options; audit = counted_case c.audit same; audits = c.audits; bad = c.bad }
counted_as c K.AuditNew same = record { expired = c.expired; redelivered = c.redelivered; admit_memory = c.admit_memory; apply_expiry_options = c.apply_expiry_options; audit = c.audit; audits = more c.audits; bad = c.bad }
counted_as c K.Bad same = record { expired = c.expired; redelivered = c.redelivered; admit_memory = c.admit_memory; apply_expiry_options = c.apply_expiry_options; audit = c.audit; audits = c.audits; bad = more c.bad }
