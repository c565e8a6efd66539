-- The query on a queue that has all there is, as one table that antt computes; and the sweeps next. Assumes nothing.
use Rattle.std.specs.Prelude.{ℕ, ◌+◌, ◌^◌, Bool, true, ◌&&◌, List, [], ◌∷◌, map, T, ℤ, pos, negsuc}
use Rattle.words.specs.Pick.{same_numbers}
use Rattle.definition.specs.Base.{every}
use Rattle.definition.specs.Types.{queue, topic, Entry, Dest, with_pending}
use Rattle.definition.specs.Consumer.{consumer_open}
use Rattle.definition.specs.Destination.{destination_open}
use Rattle.definition.specs.Calls.{Lengths, opened, seqs, calls_open}
use Rattle.definition.specs.Words.{step, words_open}
use Rattle.definition.specs.Queries.{queries_open}
use Rattle.outlook.specs.Outlook.{Outlook, outlook, outlook_open}

abbrev entry : ℕ → ℤ → Entry
entry s ex = record { seq = s; expiration = ex; persistent = true; producer = 7; match_word = 0; redelivery = pos 0; size = 1 }

abbrev lent : Lengths
lent = record { head = 8347; subs = 32; rows = 512; events = 545 }

abbrev waiting : List Entry
waiting = entry 1 (pos 50) ∷ entry 2 (pos 30) ∷ entry 3 (pos 20) ∷ entry 4 (pos 0) ∷ entry 5 (pos 41) ∷ entry 6 (negsuc 0) ∷ entry 7 (pos 41) ∷ entry 8 (pos 25) ∷ entry 9 (pos 40) ∷ []

-- opened with an allowance
abbrev queued_by : ℕ → Dest
queued_by allowance = with_pending waiting (opened queue 0 100 0 allowance 512)

abbrev queued : Dest
queued = queued_by 0

abbrev ask : ℕ → ℕ → ℤ → ℤ → Outlook
ask earlier later from to = outlook lent 512 earlier later from to queued

abbrev says : Outlook → List ℕ → List ℕ → Bool
says o want lines = same_numbers (o.refusal ∷ o.sure ∷ o.perhaps ∷ o.alive ∷ o.next ∷ []) want && same_numbers (map (λ l. l.seq) o.lines) lines

-- those that a sweep leaves, after its answer
abbrev sweeps_by : ℕ → ℕ → List ℕ
sweeps_by allowance now = let r = step lent 9 (now ∷ 512 ∷ 0 ∷ 0 ∷ 0 ∷ 0 ∷ 0 ∷ 0 ∷ []) (queued_by allowance) in r.answer ∷ seqs r.dest.pending

cases : List Bool
cases =
    -- equal to a reading is expired there; the lowest number of 5 and 7 is next
    says (ask 25 40 (pos 20) (pos 41)) (0 ∷ 2 ∷ 2 ∷ 5 ∷ 5 ∷ []) (3 ∷ 8 ∷ 2 ∷ 9 ∷ 5 ∷ 7 ∷ [])
    -- expirations 0 and -1 are in no list, and never next
    ∷ says (ask 60 60 (negsuc 100) (pos 29)) (0 ∷ 7 ∷ 0 ∷ 2 ∷ 0 ∷ []) (3 ∷ 8 ∷ [])
    ∷ says (ask 0 0 (pos 41) (pos 40)) (0 ∷ 0 ∷ 0 ∷ 9 ∷ 3 ∷ []) []
    -- an allowance of 10 reduces the readings, not the two times; below it nothing has expired
    ∷ says (outlook lent 512 35 50 (pos 20) (pos 41) (queued_by 10)) (0 ∷ 2 ∷ 2 ∷ 5 ∷ 5 ∷ []) (3 ∷ 8 ∷ 2 ∷ 9 ∷ 5 ∷ 7 ∷ [])
    ∷ says (outlook lent 512 5 9 (pos 25) (pos 25) (queued_by 10)) (0 ∷ 0 ∷ 0 ∷ 9 ∷ 3 ∷ []) (8 ∷ [])
    -- a topic
    ∷ says (outlook lent 512 25 40 (pos 20) (pos 41) (opened topic 0 100 0 0 512)) (0 ∷ 0 ∷ 0 ∷ 0 ∷ 0 ∷ []) []
    -- refusals, 3 before 17
    ∷ says (ask 41 40 (pos 0) (pos 100)) (17 ∷ 0 ∷ 0 ∷ 0 ∷ 0 ∷ []) []
    ∷ says (ask (2 ^ 62 + 1) 40 (pos 0) (pos 100)) (3 ∷ 0 ∷ 0 ∷ 0 ∷ 0 ∷ []) []
    ∷ says (ask 40 (2 ^ 62 + 1) (pos 0) (pos 100)) (3 ∷ 0 ∷ 0 ∷ 0 ∷ 0 ∷ []) []
    ∷ says (ask (2 ^ 62) (2 ^ 62) (pos 0) (pos 100)) (0 ∷ 7 ∷ 0 ∷ 2 ∷ 0 ∷ []) (3 ∷ 8 ∷ 2 ∷ 9 ∷ 5 ∷ 7 ∷ 1 ∷ [])
    ∷ says (outlook lent 511 0 0 (pos 0) (pos 100) queued) (1 ∷ 0 ∷ 0 ∷ 0 ∷ 0 ∷ []) []
    -- sweeps at the readings and between
    ∷ same_numbers (sweeps_by 0 25) (2 ∷ 1 ∷ 2 ∷ 4 ∷ 5 ∷ 6 ∷ 7 ∷ 9 ∷ [])
    ∷ same_numbers (sweeps_by 0 31) (3 ∷ 1 ∷ 4 ∷ 5 ∷ 6 ∷ 7 ∷ 9 ∷ [])
    ∷ same_numbers (sweeps_by 0 40) (4 ∷ 1 ∷ 4 ∷ 5 ∷ 6 ∷ 7 ∷ [])
    ∷ same_numbers (sweeps_by 10 41) (3 ∷ 1 ∷ 4 ∷ 5 ∷ 6 ∷ 7 ∷ 9 ∷ [])
    ∷ []

all_right : T (every cases)
unfolding cases consumer_open destination_open calls_open words_open queries_open outlook_open
all_right = tt
