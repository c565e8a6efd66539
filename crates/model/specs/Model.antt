-- model.rs: identifiers, ack types, and what each does. Assumes nothing.
use Rattle.std.specs.Prelude.{ℕ, Bool, ◌&&◌, eqb, ℤ}
use Rattle.std.specs.Int.Signed.{le_z}
use Rattle.words.specs.Pick.{whether◌then◌else◌}
use Rattle.words.specs.Words.{signed}
use Rattle.model.specs.declared.Id.{Id}
use Rattle.model.specs.declared.AckType.{AckType}
use Rattle.model.specs.declared.AckType.TheVariants.{Delivered, Poison, Standard, Redelivered, Individual, Unmatched, Expired, Other}
use Rattle.model.specs.declared.AckRange.{AckRange}
use Rattle.model.specs.declared.AckRange.TheVariants.{Empty, Between, Cumulative, Last}
use Rattle.model.specs.declared.AckEffect.{AckEffect}
use Rattle.model.specs.declared.AckEffect.TheVariants.{Stays, Frees, Marks, Removes, Redelivers}
use Rattle.model.specs.declared.AckCount.{AckCount}
use Rattle.model.specs.declared.AckCount.TheVariants.{Uncounted, Dequeue, Expiry, DeadLetter}
use Rattle.model.specs.declared.AckRule.{AckRule}

abbrev pub new_id : ℕ → ℤ → ℤ → Id
new_id conn session value = record { conn = conn; session = session; value = value }

-- the identifier in three words
abbrev pub id_of : ℕ → ℕ → ℕ → Id
id_of conn session value = new_id conn (signed session) (signed value)

-- `==` of two i64: neither is above the other
abbrev pub same_signed : ℤ → ℤ → Bool
same_signed a b = le_z a b && le_z b a

-- `==` of two identifiers
abbrev pub same_id : Id → Id → Bool
same_id a b = eqb a.conn b.conn && (same_signed a.session b.session && same_signed a.value b.value)

-- the byte of an acknowledgement
unfoldable pub ack_type : ℕ → AckType
ack_type k =
    whether eqb k 0 then Delivered
    else whether eqb k 1 then Poison
    else whether eqb k 2 then Standard
    else whether eqb k 3 then Redelivered
    else whether eqb k 4 then Individual
    else whether eqb k 5 then Unmatched
    else whether eqb k 6 then Expired
    else Other

-- range and effect outside a transaction and in one, the reserved range of a consumer that left, what a removed entry counts as
abbrev pub does : AckRange → AckEffect → AckRange → AckEffect → AckRange → AckCount → AckRule
does range effect tx_range tx_effect reserved counts = record { range = range; effect = effect; tx_range = tx_range; tx_effect = tx_effect; reserved = reserved; counts = counts }

-- Dest::ack and Dest::ack_reserved, by the type of the ack
abbrev pub rule_of : AckType → AckRule
rule_of Delivered = does Between Frees Between Frees Empty Uncounted
rule_of Poison = does Between Removes Between Marks Between DeadLetter
rule_of Standard = does Cumulative Removes Cumulative Marks Cumulative Dequeue
rule_of Redelivered = does Between Redelivers Between Marks Empty Uncounted
rule_of Individual = does Last Removes Last Marks Last Dequeue
rule_of Unmatched = does Cumulative Removes Cumulative Marks Cumulative Dequeue
rule_of Expired = does Between Removes Between Marks Between Expiry
rule_of Other = does Empty Stays Between Marks Empty Uncounted

-- what an ack type byte does
unfoldable pub ack_rule : ℕ → AckRule
ack_rule k = rule_of (ack_type k)
