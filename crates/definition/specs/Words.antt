-- A call as document 01's call file holds it: a code and eight 64-bit words, two's complement. Assumes nothing.
use Rattle.std.specs.Prelude.{ℕ, ◌%◌, Bool, true, false, ◌&&◌, ◌||◌, List, [], leb, ltb, eqb, get_or, drop}
use Rattle.std.proofs.Math.Option.{Option, none, some}
use Rattle.words.specs.Words.{signed}
use Rattle.model.specs.Model as Model
use Rattle.definition.specs.Base.{whether◌then◌else◌, all}
use Rattle.definition.specs.Types.{Kind, queue, topic, Id, Entry, Dest}
use Rattle.definition.specs.Consumer.{bit, Ack}
use Rattle.definition.specs.Destination.{Spec}
use Rattle.definition.specs.Calls.{Lengths, short, sound, acknowledge, pulling, timed_out, prefetching, Call, enqueuing, joining, leaving, asking, unmarking, releasing, sweeping, clearing, adding, removing, testing, forgetting, arguments_ok, Result, refused, call, open_ok, opened}

-- word k, from 0
abbrev pub at : ℕ → List ℕ → ℕ
at k ws = get_or ws k 0

-- words 0 to 2
abbrev pub id_in : List ℕ → Id
id_in ws = Model.id_of (at 0 ws) (at 1 ws) (at 2 ws)

-- the words from k on are unused
abbrev pub unused_from : ℕ → List ℕ → Bool
unused_from k ws = all (eqb 0) (drop k ws)

-- a word that is present or else unused
abbrev pub present : Bool → ℕ → Option ℕ
present b w = whether b then some w else none

abbrev pub ack_in : List ℕ → Ack
ack_in ws = record { type = at 3 ws % 256; transacted = bit (at 3 ws) 8; first = present (bit (at 3 ws) 9) (at 4 ws); last = present (bit (at 3 ws) 10) (at 5 ws); cause = bit (at 3 ws) 11 }

abbrev pub ack_words : List ℕ → Bool
ack_words ws = ltb (at 3 ws) 4096 && ((bit (at 3 ws) 9 || eqb (at 4 ws) 0) && ((bit (at 3 ws) 10 || eqb (at 5 ws) 0) && unused_from 7 ws))

abbrev pub entry_in : List ℕ → Entry
entry_in ws = record { seq = at 0 ws; expiration = signed (at 1 ws); persistent = eqb (at 2 ws) 1; producer = at 3 ws; match_word = at 4 ws; redelivery = signed (at 5 ws); size = at 7 ws }

abbrev pub spec_in : List ℕ → Spec
spec_in ws = record { id = id_in ws; prefetch = signed (at 3 ws); selector = at 4 ws; no_local = bit (at 5 ws) 0; browser = bit (at 5 ws) 1 }

-- what the words say, and whether their flags are known and the unused ones 0
unfoldable pub provided : Bool → Call → Option Call
provided b c = whether b then some c else none

unfoldable pub read : ℕ → List ℕ → Option Call
read code ws =
    whether eqb code 1 then provided (leb (at 2 ws) 1 && unused_from 8 ws) (enqueuing (entry_in ws) (at 6 ws))
    else whether eqb code 2 then provided (leb (at 5 ws) 3 && unused_from 7 ws) (joining (spec_in ws) (at 6 ws))
    else whether eqb code 3 then provided (unused_from 5 ws) (leaving (id_in ws) (signed (at 3 ws)) (at 4 ws))
    else whether eqb code 4 then provided (ack_words ws) (asking (id_in ws) (acknowledge (ack_in ws) (at 6 ws)))
    else whether eqb code 5 then provided (unused_from 5 ws) (asking (id_in ws) (pulling (signed (at 3 ws)) (at 4 ws)))
    else whether eqb code 6 then provided (unused_from 4 ws) (asking (id_in ws) (timed_out (at 3 ws)))
    else whether eqb code 7 then provided (unused_from 5 ws) (asking (id_in ws) (prefetching (signed (at 3 ws)) (at 4 ws)))
    else whether eqb code 8 then provided (unused_from 3 ws) (unmarking (id_in ws))
    else whether eqb code 9 then provided (unused_from 2 ws) (sweeping (at 0 ws) (at 1 ws))
    else whether eqb code 10 then provided (unused_from 0 ws) clearing
    else whether eqb code 11 then provided (unused_from 3 ws) (adding (id_in ws))
    else whether eqb code 12 then provided (unused_from 4 ws) (removing (id_in ws) (at 3 ws))
    else whether eqb code 13 then provided (unused_from 4 ws) (testing (id_in ws) (at 3 ws))
    else whether eqb code 14 then provided (unused_from 1 ws) (forgetting (at 0 ws))
    else whether eqb code 15 then provided (unused_from 4 ws) (releasing (id_in ws) (at 3 ws))
    else none

-- in range, too
abbrev pub ranged_call : Option Call → Option Call
ranged_call none = none
ranged_call (some c) = provided (arguments_ok c) c

-- the call, or none where these are no arguments (refusal 3)
unfoldable pub decode : ℕ → List ℕ → Option Call
decode code ws = ranged_call (read code ws)

abbrev pub kind_by : Bool → Kind
kind_by true = queue
kind_by false = topic

abbrev pub kind_of : ℕ → Kind
kind_of w = kind_by (eqb w 0)

-- 0 stands for 512
abbrev pub share_of : ℕ → ℕ
share_of w = whether eqb w 0 then 512 else w

abbrev pub open_words : List ℕ → Bool
open_words ws = leb (at 0 ws) 1 && (open_ok (kind_of (at 0 ws)) (at 1 ws) (at 2 ws) (at 3 ws) (at 4 ws) (share_of (at 5 ws)) && unused_from 6 ws)

abbrev pub opened_by : List ℕ → Dest
opened_by ws = opened (kind_of (at 0 ws)) (at 1 ws) (at 2 ws) (at 3 ws) (at 4 ws) (share_of (at 5 ws))

unfoldable pub open_step : Lengths → List ℕ → Dest → Result
open_step lent ws t =
    whether short lent then refused 1 t
    else whether open_words ws then record { refusal = 0; answer = 0; events = []; dest = opened_by ws }
    else refused 3 t

unfoldable pub call_step : Lengths → Dest → Option Call → Result
call_step lent t none = refused (whether short lent then 1 else whether sound t then 3 else 2) t
call_step lent t (some c) = call lent c t

-- a call of the call file, on lent buffers of these lengths
unfoldable pub step : Lengths → ℕ → List ℕ → Dest → Result
step lent code ws t = whether eqb code 0 then open_step lent ws t else call_step lent t (decode code ws)

-- opens the definitions of this file
unfoldable pub words_open : Unit {0}
unfolding provided read decode open_step call_step step
words_open = tt
