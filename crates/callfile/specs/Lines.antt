-- The lines that a run prints, as bytes. Connections, sequence numbers, answers and counters print unsigned; sessions, values and redelivery
-- signed. Assumes nothing.
use Rattle.std.specs.Prelude.{ℕ, zero, suc, ◌+◌, ◌/◌, ◌%◌, Bool, not, List, [], ◌∷◌, ◌++◌, ltb, eqb, ℤ, pos, negsuc}
use Rattle.std.proofs.Math.Option.{Option, none, some}
use mir.Val.{bool_byte}
use Rattle.words.specs.Pick.{whether◌then◌else◌}
use Rattle.words.specs.Words.{signed}
use Rattle.model.specs.Model.{id_of}
use Rattle.definition.specs.Types.{Id, Stats, Event, letter, message, null}
use Rattle.definition.specs.Words.{at}

-- a number's decimal digits, the highest first: up to k + 1 of them
unfoldable pub digits : ℕ → ℕ → List ℕ
digits zero n = (48 + n) ∷ []
digits (suc k) n = whether ltb n 10 then (48 + n) ∷ [] else digits k (n / 10) ++ ((48 + n % 10) ∷ [])

-- a 64-bit word has at most 20
unfoldable pub decimal : ℕ → List ℕ
decimal n = digits 19 n

-- with a minus where it is negative
abbrev pub signed_decimal : ℤ → List ℕ
signed_decimal (pos n) = decimal n
signed_decimal (negsuc n) = 45 ∷ decimal (suc n)

-- after a space
abbrev pub field : ℕ → List ℕ
field n = 32 ∷ decimal n

abbrev pub signed_field : ℤ → List ℕ
signed_field z = 32 ∷ signed_decimal z

-- a word's number, signed or not
abbrev pub word_field : Bool → ℕ → List ℕ
word_field minus w = whether minus then signed_field (signed w) else field w

abbrev pub id_fields : Id → List ℕ
id_fields i = field i.conn ++ (signed_field i.session ++ signed_field i.value)

abbrev pub newline : List ℕ
newline = 10 ∷ []

-- index, refusal, answer
unfoldable pub call_line : ℕ → ℕ → ℕ → List ℕ
call_line index refusal answer = decimal index ++ (field refusal ++ (field answer ++ newline))

-- `x` sequence redelivery cause, `d` ID sequence redelivery, `n` ID
unfoldable pub event_line : Event → List ℕ
event_line (letter seq redelivery cause) = 120 ∷ (field seq ++ (signed_field redelivery ++ (field (bool_byte cause) ++ newline)))
event_line (message i seq redelivery) = 100 ∷ (id_fields i ++ (field seq ++ (signed_field redelivery ++ newline)))
event_line (null i) = 110 ∷ (id_fields i ++ newline)

-- the event in the six words of an event list, by kind; none for words of another kind
abbrev pub letter_at : List ℕ → Event
letter_at ws = letter (at 1 ws) (signed (at 2 ws)) (not (eqb (at 3 ws) 0))

abbrev pub message_at : List ℕ → Event
message_at ws = message (id_of (at 1 ws) (at 2 ws) (at 3 ws)) (at 4 ws) (signed (at 5 ws))

abbrev pub null_at : List ℕ → Event
null_at ws = null (id_of (at 1 ws) (at 2 ws) (at 3 ws))

unfoldable pub event_at : List ℕ → Option Event
event_at ws =
    whether eqb (at 0 ws) 1 then some (letter_at ws)
    else whether eqb (at 0 ws) 2 then some (message_at ws)
    else whether eqb (at 0 ws) 3 then some (null_at ws)
    else none

-- its line; no line for none
unfoldable pub event_line_of : Option Event → List ℕ
event_line_of none = []
event_line_of (some e) = event_line e

abbrev pub words_line : List ℕ → List ℕ
words_line ws = event_line_of (event_at ws)

-- the lines of events, one after another
unfoldable pub events_text : List Event → List ℕ
events_text [] = []
events_text (e ∷ es) = event_line e ++ events_text es

-- and of events in their six words
unfoldable pub event_rows_text : List (List ℕ) → List ℕ
event_rows_text [] = []
event_rows_text (w ∷ ws) = words_line w ++ event_rows_text ws

-- `b` and the block's number
unfoldable pub bad_line : ℕ → List ℕ
bad_line k = 98 ∷ (field k ++ newline)

-- `=` enqueued dequeued expired discarded dispatched
unfoldable pub counters_line : Stats → List ℕ
counters_line s = 61 ∷ (field s.enqueued ++ (field s.dequeued ++ (field s.expired ++ (field s.discarded ++ (field s.dispatched ++ newline)))))
