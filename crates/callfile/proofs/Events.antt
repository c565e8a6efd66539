-- The line of an event's six words is the event's line. Assumes nothing.
use mathlib.Core.Path.{◌≡◌, ap}
use mathlib.Core.Option.{some}
use mir.Syntax.{w64}
use mir.Val.{SFits}
use Rattle.words.proofs.Words.{signed-unsigned, flag-of-word}
use Rattle.definition.specs.Types.{Id, Event, letter, message, null}
use Rattle.definition.specs.Layout.{event_words}
use Rattle.callfile.specs.Lines.{event_line, event_at, event_line_of, words_line}

abbrev IdFits : Id → Type 0
IdFits i = SFits w64 i.session × SFits w64 i.value

-- its signed numbers are 64-bit ones
abbrev pub EventFits : Event → Type 0
EventFits (letter seq redelivery cause) = SFits w64 redelivery
EventFits (message i seq redelivery) = IdFits i × SFits w64 redelivery
EventFits (null i) = IdFits i

pub event-words : (e : Event) → EventFits e → event_at (event_words e) ≡ some e
unfolding event_at event_words
event-words (letter seq redelivery cause) f = rw (signed-unsigned redelivery f, flag-of-word cause)
event-words (message i seq redelivery) f = rw (signed-unsigned i.session f.0.0, signed-unsigned i.value f.0.1, signed-unsigned redelivery f.1)
event-words (null i) f = rw (signed-unsigned i.session f.0, signed-unsigned i.value f.1)

pub event-line : (e : Event) → EventFits e → words_line (event_words e) ≡ event_line e
unfolding event_line_of
event-line e f = ap event_line_of (event-words e f)
