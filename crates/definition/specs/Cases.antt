-- Document 01's cases of the destination, the starred ones and more, as one table that antt computes. A line's comment has the paper's words.
-- Assumes nothing.
use Rattle.std.specs.Prelude.{ℕ, ◌-◌, ◌≡◌, refl, Bool, true, false, not, ◌&&◌, List, [], ◌∷◌, ◌++◌, map, eqb, T, ℤ, pos, negsuc, length, get_or, set}
use Rattle.std.proofs.Math.Option.{Option, none, some}
use Rattle.words.specs.Pick.{same_numbers}
use Rattle.definition.specs.Base.{keep, is_some, every, up_from}
use Rattle.definition.specs.Types.{queue, topic, Id, Entry, Sub, Audit, Dest, Event, letter, message, null, with_pull, with_pending, with_subs, with_rr, with_producers, with_audits, with_idle}
use Rattle.definition.specs.Consumer.{expired, or0, Ack, ack_range, ack_sub, send, one_more, consumer_open}
use Rattle.definition.specs.Destination.{Spec, new_sub, destination_open}
use Rattle.audit.specs.Audit.{seen, recorded}
use Rattle.model.specs.Model.{same_signed}
use Rattle.definition.specs.Calls.{Lengths, seqs, acknowledge, pulling, timed_out, prefetching, Call, enqueuing, joining, asking, unmarking, releasing, sweeping, clearing, adding, testing, discarding, missing, own_refusal, call, opened, sound, calls_open, leaving}
use Rattle.definition.specs.Words.{step, words_open}
use Rattle.definition.specs.Queries.{Asked, Page, of_kind, consumers, expirations, messages, bytes, idle, sequence, query, page, queries_open}
use Rattle.entry.specs.Entry as Rows
use Rattle.audit.specs.Audit as Ring
use Rattle.definition.specs.Layout.{Buffers, view, sound_buffers, buffer_step, zero_buffers, zero_dest, layout_open}

-- an event as numbers: 0 x, 1 d, 2 n
abbrev numbers : List Event → List ℕ
numbers [] = []
numbers (letter s r c ∷ es) = 0 ∷ s ∷ numbers es
numbers (message i s r ∷ es) = 1 ∷ i.conn ∷ s ∷ numbers es
numbers (null i ∷ es) = 2 ∷ i.conn ∷ numbers es

-- the state lent whole, and a list of so many events
abbrev whole : ℕ → Lengths
whole events = record { head = 8347; subs = 32; rows = 512; events = events }

abbrev entry : ℕ → ℤ → Entry
entry s ex = record { seq = s; expiration = ex; persistent = true; producer = 7; match_word = 0; redelivery = pos 0; size = 0 }

abbrev consumer : ℕ → Id
consumer k = record { conn = k; session = pos 1; value = pos 1 }

abbrev plain : ℕ → ℤ → Spec
plain k p = record { id = consumer k; prefetch = p; selector = 64; no_local = false; browser = false }

abbrev browsing : ℕ → ℤ → Spec
browsing k p = record { id = consumer k; prefetch = p; selector = 64; no_local = false; browser = true }

-- in flight: delivery numbers 1, 2, 3 with sequence numbers 10, 20, 30
abbrev three : Sub
three = send (entry 30 (pos 0)) (send (entry 20 (pos 0)) (send (entry 10 (pos 0)) (new_sub (plain 9 (pos 5)) none)))

abbrev acks : ℕ → Bool → Option ℕ → Option ℕ → Ack
acks k tx first last = record { type = k; transacted = tx; first = first; last = last; cause = false }

abbrev range : Bool → Option ℕ → Option ℕ → List ℕ → Bool
range cumulative first last want = same_numbers (map (λ i. i.dseq) (keep (ack_range three (acks 2 false first last) cumulative) three.inflight)) want

abbrev marks : Ack → List ℕ
marks a = map (λ i. i.dseq) (keep (λ i. i.tx) (ack_sub a three).sub.inflight)

abbrev leaves : Ack → List ℕ
leaves a = map (λ i. i.dseq) (ack_sub a three).sub.inflight

-- a run of calls: the refusal, answer and events of each, and the state
pub record Ran : Type 0 where
  pub seen : List ℕ
  pub dest : Dest

abbrev ran : List Call → Dest → Ran
ran [] t = record { seen = []; dest = t }
ran (c ∷ cs) t = let r = call (whole 545) c t in let rest = ran cs r.dest in record { seen = r.refusal ∷ r.answer ∷ (numbers r.events ++ rest.seen); dest = rest.dest }

abbrev five_counters : Dest → List ℕ
five_counters t = t.stats.enqueued ∷ t.stats.dequeued ∷ t.stats.expired ∷ t.stats.discarded ∷ t.stats.dispatched ∷ []

-- document 01, "The call file": the example
abbrev example : Ran
example = ran (enqueuing (entry 5 (pos 0)) 10 ∷ enqueuing (entry 3 (pos 20)) 10 ∷ joining (plain 9 (pos 1)) 30 ∷ asking (consumer 9) (acknowledge (acks 4 false none (some 5)) 31) ∷ []) (opened queue 0 100 0 0 512)

-- pulls at prefetch 0, with nothing waiting
abbrev pulls : Ran
pulls = ran (joining (plain 9 (pos 0)) 1 ∷ asking (consumer 9) (pulling (pos 5) 2) ∷ asking (consumer 9) (pulling (pos 5) 2) ∷ asking (consumer 9) (timed_out 1) ∷ asking (consumer 9) (timed_out 2) ∷ asking (consumer 9) (pulling (negsuc 0) 3) ∷ asking (consumer 9) (pulling (pos 0) 3) ∷ []) (opened queue 0 100 0 0 512)

-- topic limit 2, no credit, arrivals 5, 6, 4
abbrev limited : Ran
limited = ran (joining (plain 9 (pos 0)) 1 ∷ enqueuing (entry 5 (pos 0)) 1 ∷ enqueuing (entry 6 (pos 0)) 1 ∷ enqueuing (entry 4 (pos 0)) 1 ∷ asking (consumer 9) (prefetching (pos 7) 2) ∷ []) (opened topic 2 100 0 0 512)

-- topic limit 2, no credit: 5 and 6 wait, and 4 comes at this clock; 6 and 4 have these expirations. What waits, and the counters
abbrev surplus : ℕ → ℤ → ℤ → Ran
surplus now six four = ran (joining (plain 9 (pos 0)) 1 ∷ enqueuing (entry 5 (pos 0)) 1 ∷ enqueuing (entry 6 six) 1 ∷ enqueuing (entry 4 four) now ∷ []) (opened topic 2 100 0 0 512)

abbrev still_wait : Ran → List ℕ
still_wait r = map (λ s. length (Sub.tpending s)) r.dest.subs ++ (r.dest.stats.expired ∷ r.dest.stats.discarded ∷ [])

-- an allowance of 10: 1 with expiration 20 waits, and goes out at 29 and not at 30; a sweep and a browser do the same; the mark is the call's clock
abbrev slow : Dest
slow = (ran (enqueuing (entry 1 (pos 20)) 1 ∷ []) (opened queue 0 100 0 10 512)).dest

abbrev slowly : Call → List ℕ
slowly c = let r = ran (c ∷ []) slow in r.seen ++ r.dest.stats.expired ∷ []

abbrev slow_topic : ℕ → Ran
slow_topic now = ran (joining (plain 9 (pos 0)) 1 ∷ enqueuing (entry 5 (pos 20)) 1 ∷ enqueuing (entry 6 (pos 0)) now ∷ []) (opened topic 1 100 0 10 512)

-- what returns to the queue, as redelivery counts (each small and not negative)
abbrev small : ℤ → ℕ
small (pos k) = k
small (negsuc k) = 99

abbrev counts : List Entry → List ℕ
counts es = map (λ e. small e.redelivery) es

-- a full run: three in flight, the last in a transaction; the consumer leaves
abbrev left : ℤ → Ran
left last = ran (joining (plain 9 (pos 3)) 1 ∷ enqueuing (entry 10 (pos 0)) 1 ∷ enqueuing (entry 20 (pos 0)) 1 ∷ enqueuing (entry 30 (pos 0)) 1
    ∷ asking (consumer 9) (acknowledge (acks 4 true (some 30) (some 30)) 2) ∷ leaving (consumer 9) last 3 ∷ []) (opened queue 0 100 0 0 512)

-- three in flight, all acknowledged in a transaction; the consumer leaves, and they stay reserved
abbrev kept : Ran
kept = ran (joining (plain 9 (pos 3)) 1 ∷ enqueuing (entry 10 (pos 0)) 1 ∷ enqueuing (entry 20 (pos 0)) 1 ∷ enqueuing (entry 30 (pos 0)) 1
    ∷ asking (consumer 9) (acknowledge (acks 2 true none (some 30)) 2) ∷ leaving (consumer 9) (negsuc 0) 3 ∷ []) (opened queue 0 100 0 0 512)

-- then a STANDARD with last -1, or a POISON with first and last -1
abbrev afterwards : ℕ → Option ℕ → Ran
afterwards type first = ran (asking (consumer 9) (acknowledge (acks type false first (some 18446744073709551615)) 4) ∷ []) kept.dest

-- two marked in a transaction, and a release of the present consumer, by halves
abbrev rolled : List Call → List ℕ
rolled cs = map (λ s. length (keep (λ i. i.tx) (Sub.inflight s))) (ran (joining (plain 9 (pos 3)) 1 ∷ enqueuing (entry 10 (pos 0)) 1 ∷ enqueuing (entry 20 (pos 0)) 1
    ∷ asking (consumer 9) (acknowledge (acks 2 true none (some 20)) 2) ∷ cs) (opened queue 0 100 0 0 512)).dest.subs

abbrev acked : List ℕ → List Call
acked [] = []
acked (k ∷ ks) = asking (consumer 1) (acknowledge (acks 2 false none (some k)) 1) ∷ asking (consumer 2) (acknowledge (acks 2 false none (some k)) 1) ∷ acked ks

-- three consumers, the turn moved by messages, and one leaves
abbrev turned : List ℕ → ℕ → ℕ
turned enqueuings gone = (ran (joining (plain 1 (pos 9)) 1 ∷ joining (plain 2 (pos 9)) 1 ∷ joining (plain 3 (pos 9)) 1 ∷ (map (λ k. enqueuing (entry k (pos 0)) 1) enqueuings
    ++ (acked enqueuings ++ leaving (consumer gone) (negsuc 0) 2 ∷ []))) (opened queue 0 100 0 0 512)).dest.rr

-- an audit's numbers after 0 to 1,023
abbrev full_window : List ℕ
full_window = up_from 0 1024

abbrev first_of : List ℕ → ℕ
first_of xs = get_or xs 0 99

-- ---- the call file's words

-- what a call of the call file gets
abbrev got : ℕ → List ℕ → Dest → List ℕ
got code words t = let r = step (whole 545) code words t in r.refusal ∷ r.answer ∷ numbers r.events

-- -n, as a word
abbrev minus : ℕ → ℕ
minus n = 18446744073709551616 - n

-- the state before any open
abbrev zeros : Dest
zeros = zero_dest

zeros-held : view zero_buffers ≡ zero_dest
unfolding layout_open
zeros-held = refl

abbrev words_ran : List (ℕ × List ℕ) → Dest → Ran
words_ran [] t = record { seen = []; dest = t }
words_ran (c ∷ cs) t = let r = step (whole 545) c.0 c.1 t in let rest = words_ran cs r.dest in record { seen = r.refusal ∷ r.answer ∷ (numbers r.events ++ rest.seen); dest = rest.dest }

-- the example once more, as words
abbrev word_example : Ran
word_example = words_ran (
    (0, 0 ∷ 0 ∷ 100 ∷ 0 ∷ 0 ∷ 0 ∷ 0 ∷ 0 ∷ [])
    ∷ (1, 5 ∷ 0 ∷ 1 ∷ 7 ∷ 0 ∷ 0 ∷ 10 ∷ 0 ∷ [])
    ∷ (1, 3 ∷ 20 ∷ 1 ∷ 7 ∷ 0 ∷ 0 ∷ 10 ∷ 0 ∷ [])
    ∷ (2, 9 ∷ 1 ∷ 1 ∷ 1 ∷ 64 ∷ 0 ∷ 30 ∷ 0 ∷ [])
    ∷ (4, 9 ∷ 1 ∷ 1 ∷ 1028 ∷ 0 ∷ 5 ∷ 31 ∷ 0 ∷ [])
    ∷ []) zeros

abbrev one : Dest
one = (words_ran ((0, 0 ∷ 0 ∷ 100 ∷ 0 ∷ 0 ∷ 0 ∷ 0 ∷ 0 ∷ []) ∷ (2, 9 ∷ 1 ∷ 1 ∷ minus 1 ∷ 64 ∷ 0 ∷ 30 ∷ 0 ∷ []) ∷ []) zeros).dest

-- a code and its words get this refusal (the answer is 0, and there are no events)
abbrev gets : ℕ → ℕ → List ℕ → Bool
gets refusal code words = same_numbers (got code words one) (refusal ∷ 0 ∷ [])

-- ---- what is sound

abbrev audit_of2 : ℕ → ℕ → Audit
audit_of2 k z = record { producer = consumer k; order = z ∷ z ∷ [] }

abbrev with_audit : List Audit → Bool
with_audit l = sound (with_audits l one)

-- ---- runs for the corners

-- enqueued with a redelivery counter
abbrev returned : ℕ → ℤ → Entry
returned s r = record { seq = s; expiration = pos 0; persistent = true; producer = 7; match_word = 0; redelivery = r; size = 0 }

abbrev enqueuings : List ℕ → List Call
enqueuings l = map (λ k. enqueuing (entry k (pos 0)) 1) l

-- three in flight with these redelivery counters, and the consumer leaves
abbrev left_with : ℤ → ℤ → List Entry
left_with r last = (ran (joining (plain 9 (pos 3)) 1 ∷ (map (λ k. enqueuing (returned k r) 1) (10 ∷ 20 ∷ 30 ∷ []) ++ leaving (consumer 9) last 3 ∷ [])) (opened queue 0 100 0 0 512)).dest.pending

-- 10, 20 and 30 wait; the browser 9 and the consumer 8 have 10 in flight each; then a clear
abbrev cleared_ran : Ran
cleared_ran = ran (enqueuings (10 ∷ 20 ∷ 30 ∷ []) ++ (joining (browsing 9 (pos 1)) 2 ∷ joining (plain 8 (pos 1)) 2 ∷ clearing ∷ [])) (opened queue 0 100 0 0 512)

-- and what one more call gets
abbrev then : Call → List ℕ
then c = (ran (c ∷ []) cleared_ran.dest).seen

abbrev on_topic : Ran
on_topic = ran (joining (browsing 9 (pos 5)) 1 ∷ (enqueuings (10 ∷ 20 ∷ 30 ∷ []) ++ (asking (consumer 9) (acknowledge (acks 2 false none (some 10)) 2) ∷ asking (consumer 9) (acknowledge (acks 6 false none (some 20)) 2)
    ∷ asking (consumer 9) (acknowledge (acks 1 false none (some 30)) 2) ∷ []))) (opened topic 0 100 0 0 512)

-- 20 expires first, then 10
abbrev sweeps : Ran
sweeps = ran (enqueuing (entry 10 (pos 50)) 1 ∷ enqueuing (entry 20 (pos 40)) 1 ∷ enqueuing (entry 30 (pos 0)) 1 ∷ enqueuing (entry 40 (pos 60)) 1
    ∷ sweeping 55 1 ∷ sweeping 55 512 ∷ sweeping 55 512 ∷ []) (opened queue 0 100 0 0 512)

-- a producer's audit of 0 to 1,023, and what three tests answer
abbrev audited : Ran
audited = ran (testing (consumer 7) 1024 ∷ testing (consumer 7) 1024 ∷ testing (consumer 7) 0 ∷ []) (with_audits (record { producer = consumer 7; order = full_window } ∷ []) (opened queue 0 100 0 0 512))

-- two consumers of prefetch 0, nothing waiting
abbrev both_pull : Ran
both_pull = ran (joining (plain 8 (pos 0)) 1 ∷ joining (plain 9 (pos 0)) 1 ∷ asking (consumer 8) (pulling (pos 5) 2) ∷ asking (consumer 9) (pulling (pos 5) 2) ∷ []) (opened queue 0 100 0 0 512)

-- a browser of an empty queue, and one more dispatch
abbrev browsed : Ran
browsed = ran (joining (browsing 9 (pos 1)) 1 ∷ asking (consumer 5) (prefetching (pos 1) 2) ∷ []) (opened queue 0 100 0 0 512)

-- ---- refusals of one call, on tables that are nearly full

abbrev filled : ℕ → Dest
filled k = with_pending (map (λ n. entry n (pos 0)) (up_from 1 k)) (opened queue 0 100 0 0 512)

abbrev crowd : ℕ → Dest
crowd k = with_subs (map (λ n. new_sub (plain n (pos 1)) none) (up_from 1 k)) (opened topic 0 100 0 0 512)

abbrev known : ℕ → Dest
known k = with_producers (map consumer (up_from 1 k)) (opened queue 0 100 0 0 512)

abbrev windows : ℕ → Dest
windows k = with_audits (map (λ n. record { producer = consumer n; order = [] }) (up_from 1 k)) (opened queue 0 100 0 0 512)

abbrev refusing : ℕ → Dest → Call → Bool
refusing n t c = eqb (own_refusal t c) n

-- a topic with a share, a browser and a consumer: an entry has two copies
abbrev sharing : ℕ → Dest
sharing share = (ran (joining (browsing 9 (pos 9)) 1 ∷ joining (plain 8 (pos 0)) 1 ∷ []) (opened topic 0 100 0 0 share)).dest

abbrev from_conn : ℕ → ℕ → Entry
from_conn s c = record { seq = s; expiration = pos 0; persistent = true; producer = c; match_word = 0; redelivery = pos 0; size = 0 }

-- what an enqueue of connection 7 and one of connection 0 get after these calls
abbrev shares : List Call → Dest → List ℕ
shares cs t = map (λ c. own_refusal (ran cs t).dest (enqueuing (from_conn 9 c) 1)) (7 ∷ 0 ∷ [])

-- two of connection 7, one of connection 0
abbrev seven_twice : List Call
seven_twice = enqueuing (from_conn 1 7) 1 ∷ enqueuing (from_conn 2 7) 1 ∷ enqueuing (from_conn 3 0) 1 ∷ []

-- ---- queries

abbrev waiting : Dest
waiting = (ran (enqueuings (10 ∷ 20 ∷ 30 ∷ [])) (opened queue 0 100 0 0 512)).dest

abbrev answers : ℕ → ℕ → Asked → Bool
answers refusal answer a = eqb a.refusal refusal && eqb a.answer answer

abbrev pages : ℕ → ℕ → List ℕ → Page → Bool
pages refusal total seqs p = eqb p.refusal refusal && (eqb p.total total && same_numbers (map (λ l. l.seq) p.lines) seqs)

-- three wait, of 300, 400 and 500 bytes; the browser 9 has a copy of the first in flight, the consumer 8 the first itself
abbrev sized : ℕ → ℕ → Entry
sized s n = record { seq = s; expiration = pos 0; persistent = true; producer = 7; match_word = 0; redelivery = pos 0; size = n }

abbrev copied : List Call → Dest
copied cs = (ran (enqueuing (sized 10 300) 1 ∷ enqueuing (sized 20 400) 1 ∷ enqueuing (sized 30 500) 1 ∷ joining (browsing 9 (pos 1)) 2 ∷ joining (plain 8 (pos 1)) 2 ∷ cs) (opened queue 0 100 0 0 512)).dest

abbrev eight_acks : Call
eight_acks = asking (consumer 8) (acknowledge (acks 2 false none (some 10)) 3)

-- a topic with two consumers, and one entry
abbrev shared : List Call → Dest
shared cs = (ran (joining (plain 8 (pos 1)) 1 ∷ joining (plain 9 (pos 1)) 1 ∷ enqueuing (sized 10 300) 1 ∷ cs) (opened topic 0 100 0 0 512)).dest

-- ---- buffers

abbrev zeroes : ℕ → List ℕ
zeroes n = map (λ k. 0) (up_from 0 n)

-- a queue with one consumer, which has 5 in flight; 6 waits, with redelivery -1
abbrev lent_head : ℕ → List ℕ
lent_head waits = 0 ∷ 0 ∷ 100 ∷ 3 ∷ 0 ∷ 0 ∷ 0 ∷ 2 ∷ 0 ∷ 0 ∷ 0 ∷ 1 ∷ 1 ∷ 0 ∷ 0 ∷ 0 ∷ waits ∷ (zeroes 8329 ++ 512 ∷ [])

abbrev lent_sub : List ℕ
lent_sub = 9 ∷ 1 ∷ 1 ∷ 1 ∷ 64 ∷ 0 ∷ 0 ∷ 0 ∷ 2 ∷ 5 ∷ 0 ∷ 0 ∷ 0 ∷ 0 ∷ 1 ∷ 0 ∷ []

abbrev lent_row : ℕ → ℕ → ℕ → List ℕ
lent_row seq redelivery dseq = seq ∷ 0 ∷ 1 ∷ 7 ∷ 0 ∷ redelivery ∷ dseq ∷ 0 ∷ 0 ∷ 300 ∷ []

-- with this count of waiting rows, and so many rows in all
abbrev lent_with : ℕ → ℕ → Buffers
lent_with waits rows = record { head = lent_head waits; subs = lent_sub ∷ map (λ k. []) (up_from 0 31); rows = lent_row 5 0 1 ∷ lent_row 6 (minus 1) 0 ∷ map (λ k. []) (up_from 2 (rows - 2)) }

-- whether one with this head, these first consumers and these first rows is sound
abbrev sound_with : List ℕ → List (List ℕ) → List (List ℕ) → Bool
sound_with head subs rows = sound_buffers (record { head = head; subs = subs ++ map (λ k. []) (up_from 0 (32 - length subs)); rows = rows ++ map (λ k. []) (up_from 0 (512 - length rows)) })

-- of this kind, with nothing that waits
abbrev kind_with : ℕ → Bool
kind_with x = sound_with (set (lent_head 0) 0 x) (lent_sub ∷ []) (lent_row 5 0 1 ∷ [])

-- with another word of the head; with another consumer; with another row in flight; with another row that waits
abbrev head_with : ℕ → ℕ → Bool
head_with k x = sound_with (set (lent_head 1) k x) (lent_sub ∷ []) (lent_row 5 0 1 ∷ lent_row 6 0 0 ∷ [])

abbrev sub_with : ℕ → ℕ → Bool
sub_with k x = sound_with (lent_head 1) (set lent_sub k x ∷ []) (lent_row 5 0 1 ∷ lent_row 6 0 0 ∷ [])

abbrev flying_with : ℕ → ℕ → Bool
flying_with k x = sound_with (lent_head 1) (lent_sub ∷ []) (set (lent_row 5 0 1) k x ∷ lent_row 6 0 0 ∷ [])

abbrev waiting_with : ℕ → ℕ → Bool
waiting_with k x = sound_with (lent_head 1) (lent_sub ∷ []) (lent_row 5 0 1 ∷ set (lent_row 6 0 0) k x ∷ [])

-- with a row in a browser's snapshot; with one that is reserved
abbrev snapshot_with : ℕ → ℕ → Bool
snapshot_with k x = sound_with (lent_head 1) (set (set lent_sub 6 1) 15 1 ∷ []) (lent_row 5 0 1 ∷ set (lent_row 7 0 0) k x ∷ lent_row 6 0 0 ∷ [])

abbrev reserved_with : ℕ → ℕ → Bool
reserved_with k x = sound_with (set (lent_head 1) 15 1) (lent_sub ∷ []) (lent_row 5 0 1 ∷ set (lent_row 7 0 0) k x ∷ lent_row 6 0 0 ∷ [])

-- the row in flight is freed, with this mark
abbrev freed_with : ℕ → Bool
freed_with x = sound_with (lent_head 1) (set lent_sub 13 1 ∷ []) (set (lent_row 5 0 1) 7 x ∷ lent_row 6 0 0 ∷ [])

-- a row whose words are all out of range but for those that make it an entry, and a consumer whose marks are
abbrev junk_row : List ℕ
junk_row = 5 ∷ 0 ∷ 7 ∷ 7 ∷ 0 ∷ 4294967296 ∷ 9 ∷ 2 ∷ 2 ∷ 4294967296 ∷ []

abbrev junk_sub : List ℕ
junk_sub = set (set (set (set lent_sub 5 2) 6 2) 7 2) 10 2

abbrev acks_five : List ℕ
acks_five = 9 ∷ 1 ∷ 1 ∷ 1028 ∷ 0 ∷ 5 ∷ 31 ∷ 0 ∷ []

abbrev on_buffers : Buffers → ℕ → ℕ → List ℕ → List ℕ
on_buffers b events code ws = let r = buffer_step b events code ws in r.refusal ∷ r.answer ∷ numbers r.events

abbrev words : List Bool
words =
    -- document 01's example, as words
    same_numbers word_example.seen (0 ∷ 0 ∷ 0 ∷ 0 ∷ 0 ∷ 0 ∷ 0 ∷ 0 ∷ 1 ∷ 9 ∷ 5 ∷ 0 ∷ 0 ∷ [])
    ∷ same_numbers (five_counters word_example.dest) (2 ∷ 1 ∷ 1 ∷ 0 ∷ 1 ∷ [])
    ∷ sound one
    ∷ not (sound zeros)
    ∷ same_numbers (got 16 [] zeros) (2 ∷ 0 ∷ [])
    ∷ same_numbers (got 0 (2 ∷ []) zeros) (3 ∷ 0 ∷ [])
    ∷ eqb (step (whole 544) 16 [] zeros).refusal 1
    ∷ eqb (step (whole 544) 0 (2 ∷ []) zeros).refusal 1
    -- open's fifth argument is at most 86,400,000
    ∷ same_numbers (got 0 (0 ∷ 0 ∷ 1 ∷ 0 ∷ 86400000 ∷ 0 ∷ 0 ∷ 0 ∷ []) zeros) (0 ∷ 0 ∷ [])
    ∷ same_numbers (got 0 (0 ∷ 0 ∷ 1 ∷ 0 ∷ 86400001 ∷ 0 ∷ 0 ∷ 0 ∷ []) zeros) (3 ∷ 0 ∷ [])
    -- its sixth at most 512, and 0 stands for 512
    ∷ same_numbers (got 0 (0 ∷ 0 ∷ 1 ∷ 0 ∷ 0 ∷ 512 ∷ 0 ∷ 0 ∷ []) zeros) (0 ∷ 0 ∷ [])
    ∷ same_numbers (got 0 (0 ∷ 0 ∷ 1 ∷ 0 ∷ 0 ∷ 513 ∷ 0 ∷ 0 ∷ []) zeros) (3 ∷ 0 ∷ [])
    ∷ same_numbers (got 0 (0 ∷ 0 ∷ 1 ∷ 0 ∷ 0 ∷ 0 ∷ 1 ∷ 0 ∷ []) zeros) (3 ∷ 0 ∷ [])
    ∷ eqb (step (whole 545) 0 (0 ∷ 0 ∷ 1 ∷ 0 ∷ 0 ∷ 0 ∷ 0 ∷ 0 ∷ []) zeros).dest.share 512
    ∷ eqb (step (whole 545) 0 (0 ∷ 0 ∷ 1 ∷ 0 ∷ 0 ∷ 7 ∷ 0 ∷ 0 ∷ []) zeros).dest.share 7
    ∷ not (sound (opened queue 0 1 0 0 0))
    ∷ not (sound (opened queue 0 1 0 0 513))
    ∷ not (sound (opened queue 0 1 0 86400001 512))
    ∷ gets 3 16 (0 ∷ 0 ∷ 0 ∷ 0 ∷ 0 ∷ 0 ∷ 0 ∷ 0 ∷ [])
    ∷ gets 3 10 (0 ∷ 0 ∷ 0 ∷ 0 ∷ 0 ∷ 0 ∷ 0 ∷ 1 ∷ [])
    ∷ gets 3 1 (5 ∷ 0 ∷ 2 ∷ 7 ∷ 0 ∷ 0 ∷ 10 ∷ 0 ∷ [])
    ∷ gets 3 1 (0 ∷ 0 ∷ 1 ∷ 7 ∷ 0 ∷ 0 ∷ 10 ∷ 0 ∷ [])
    ∷ gets 3 1 (5 ∷ 0 ∷ 1 ∷ 7 ∷ 0 ∷ 2147483648 ∷ 10 ∷ 0 ∷ [])
    -- the eighth argument of enqueue, the size, is at most 4,294,967,295
    ∷ gets 0 1 (5 ∷ 0 ∷ 1 ∷ 7 ∷ 0 ∷ 0 ∷ 10 ∷ 4294967295 ∷ [])
    ∷ gets 3 1 (5 ∷ 0 ∷ 1 ∷ 7 ∷ 0 ∷ 0 ∷ 10 ∷ 4294967296 ∷ [])
    ∷ gets 0 1 (5 ∷ 0 ∷ 1 ∷ 7 ∷ 0 ∷ minus 2147483648 ∷ 10 ∷ 0 ∷ [])
    ∷ gets 3 2 (8 ∷ 1 ∷ 1 ∷ 4294967295 ∷ 64 ∷ 0 ∷ 30 ∷ 0 ∷ [])
    ∷ gets 3 2 (8 ∷ 1 ∷ 1 ∷ 1 ∷ 65 ∷ 0 ∷ 30 ∷ 0 ∷ [])
    ∷ gets 3 2 (8 ∷ 1 ∷ 1 ∷ 1 ∷ 64 ∷ 4 ∷ 30 ∷ 0 ∷ [])
    ∷ gets 6 2 (9 ∷ 1 ∷ 1 ∷ 1 ∷ 64 ∷ 0 ∷ 30 ∷ 0 ∷ [])
    ∷ gets 3 4 (9 ∷ 1 ∷ 1 ∷ 4096 ∷ 0 ∷ 0 ∷ 31 ∷ 0 ∷ [])
    ∷ gets 3 4 (9 ∷ 1 ∷ 1 ∷ 4 ∷ 0 ∷ 5 ∷ 31 ∷ 0 ∷ [])
    ∷ gets 3 4 (9 ∷ 1 ∷ 1 ∷ 1028 ∷ 5 ∷ 5 ∷ 31 ∷ 0 ∷ [])
    ∷ gets 0 4 (9 ∷ 1 ∷ 1 ∷ 4095 ∷ 5 ∷ 5 ∷ 31 ∷ 0 ∷ [])
    ∷ gets 3 5 (9 ∷ 1 ∷ 1 ∷ 0 ∷ 4611686018427387905 ∷ 0 ∷ 0 ∷ 0 ∷ [])
    ∷ gets 3 5 (9 ∷ 1 ∷ 1 ∷ 0 ∷ 0 ∷ 1 ∷ 0 ∷ 0 ∷ [])
    ∷ same_numbers (got 5 (9 ∷ 1 ∷ 1 ∷ minus 1 ∷ 31 ∷ 0 ∷ 0 ∷ 0 ∷ []) one) (0 ∷ 0 ∷ 2 ∷ 9 ∷ [])
    ∷ same_numbers (got 5 (9 ∷ 1 ∷ 1 ∷ 5 ∷ 31 ∷ 0 ∷ 0 ∷ 0 ∷ []) one) (0 ∷ 1 ∷ [])
    ∷ gets 0 6 (9 ∷ 1 ∷ 1 ∷ minus 1 ∷ 0 ∷ 0 ∷ 0 ∷ 0 ∷ [])
    ∷ gets 3 7 (9 ∷ 1 ∷ 1 ∷ 2147483648 ∷ 0 ∷ 0 ∷ 0 ∷ 0 ∷ [])
    -- 8 has an ID alone, 15 an ID and a clock (document 02 §10)
    ∷ gets 0 8 (9 ∷ 1 ∷ 1 ∷ 0 ∷ 0 ∷ 0 ∷ 0 ∷ 0 ∷ [])
    ∷ gets 3 8 (9 ∷ 1 ∷ 1 ∷ 5 ∷ 0 ∷ 0 ∷ 0 ∷ 0 ∷ [])
    ∷ gets 0 15 (9 ∷ 1 ∷ 1 ∷ 5 ∷ 0 ∷ 0 ∷ 0 ∷ 0 ∷ [])
    ∷ gets 3 15 (9 ∷ 1 ∷ 1 ∷ 4611686018427387905 ∷ 0 ∷ 0 ∷ 0 ∷ 0 ∷ [])
    ∷ gets 3 9 (0 ∷ 513 ∷ 0 ∷ 0 ∷ 0 ∷ 0 ∷ 0 ∷ 0 ∷ [])
    -- the paper asks no distinct audit numbers, audits or producers
    ∷ with_audit (audit_of2 1 5 ∷ audit_of2 1 (minus 1) ∷ [])
    ∷ sound (with_producers (consumer 1 ∷ consumer 1 ∷ []) one)
    ∷ not (with_audit (map (λ k. audit_of2 k 5) (up_from 0 9)))
    ∷ not (with_audit (record { producer = consumer 1; order = up_from 0 1025 } ∷ []))
    ∷ with_audit (record { producer = consumer 1; order = up_from 0 1024 } ∷ [])
    ∷ sound (with_idle (some 4611686018427387904) one)
    ∷ not (sound (with_idle (some 4611686018427387905) one))
    ∷ not (sound (with_rr 1 one))
    ∷ sound (with_subs (map (with_pull (some 65537)) one.subs) one)
    ∷ not (sound (with_subs (map (with_pull (some 65538)) one.subs) one))
    ∷ not (sound (with_subs (one.subs ++ one.subs) one))
    ∷ []

-- ---- the table

-- the cases marked * of destination.rs and entry.rs
abbrev starred : List Bool
starred =
    -- Last 20, first unknown: 1 and 2 (no first, and a first that is not in flight)
    range false none (some 20) (1 ∷ 2 ∷ [])
    ∷ range false (some 99) (some 20) (1 ∷ 2 ∷ [])
    -- First 30, last 20, not cumulative: only 2
    ∷ range false (some 30) (some 20) (2 ∷ [])
    -- Last unknown: none
    ∷ range false none (some 25) []
    ∷ range true none none []
    -- First 20, last 30: cumulative gives 1, 2, 3, otherwise 2, 3
    ∷ range true (some 20) (some 30) (1 ∷ 2 ∷ 3 ∷ [])
    ∷ range false (some 20) (some 30) (2 ∷ 3 ∷ [])
    -- Transacted INDIVIDUAL, first 10, last 30, marks only 30 (document 02 §2), whatever the first is; with no last, none
    ∷ same_numbers (marks (acks 4 true (some 10) (some 30))) (3 ∷ [])
    ∷ same_numbers (marks (acks 4 true (some 10) (some 20))) (2 ∷ [])
    ∷ same_numbers (marks (acks 4 true none (some 30))) (3 ∷ [])
    ∷ same_numbers (marks (acks 4 true (some 10) none)) []
    -- Untransacted, it removes only 30
    ∷ same_numbers (leaves (acks 4 false (some 10) (some 30))) (1 ∷ 2 ∷ [])
    -- Leave with last delivered 20: those of 10 and 20 only
    ∷ same_numbers (counts (left_with (pos 0) (pos 20))) (1 ∷ 1 ∷ 0 ∷ [])
    -- 2,147,483,647 stays
    ∷ same_numbers (counts (left_with (pos 2147483647) (negsuc 0))) (2147483647 ∷ 2147483647 ∷ 2147483647 ∷ [])
    ∷ same_signed (one_more (pos 2147483647)) (pos 2147483647)
    -- Reserved entries: STANDARD with last -1 takes all, as the number is read as unsigned
    ∷ same_numbers (map (λ h. h.entry.seq) kept.dest.reserved) (10 ∷ 20 ∷ 30 ∷ [])
    ∷ same_numbers (five_counters (afterwards 2 none).dest) (3 ∷ 3 ∷ 0 ∷ 0 ∷ 3 ∷ [])
    ∷ same_numbers (map (λ h. h.entry.seq) (afterwards 2 none).dest.reserved) []
    -- POISON with first and last -1 takes none
    ∷ same_numbers (map (λ h. h.entry.seq) (afterwards 1 (some 18446744073709551615)).dest.reserved) (10 ∷ 20 ∷ 30 ∷ [])
    -- Expiration 0 or -1 never expires; equal to the clock is expired; clock + 1 is not
    ∷ not (expired (pos 50) (entry 1 (pos 0)))
    ∷ not (expired (pos 50) (entry 1 (negsuc 0)))
    ∷ expired (pos 50) (entry 1 (pos 50))
    ∷ not (expired (pos 50) (entry 1 (pos 51)))
    ∷ []

abbrev corners : List Bool
corners =
    -- the call file's example
    same_numbers example.seen (0 ∷ 0 ∷ 0 ∷ 0 ∷ 0 ∷ 0 ∷ 1 ∷ 9 ∷ 5 ∷ 0 ∷ 0 ∷ [])
    ∷ same_numbers (five_counters example.dest) (2 ∷ 1 ∷ 1 ∷ 0 ∷ 1 ∷ [])
    ∷ sound example.dest
    -- From a present consumer, DELIVERED is never transacted in effect
    ∷ same_numbers (marks (acks 0 true (some 10) (some 30))) []
    ∷ eqb (ack_sub (acks 0 true (some 10) (some 30)) three).sub.freed 3
    -- Leave with last delivered -1: every returned entry's redelivery rises by 1 (30, in a transaction, stays reserved)
    ∷ same_numbers (counts (left_with (pos 0) (negsuc 0))) (1 ∷ 1 ∷ 1 ∷ [])
    ∷ same_numbers (counts (left (negsuc 0)).dest.pending) (1 ∷ 1 ∷ [])
    ∷ same_numbers (counts (left (pos 10)).dest.pending) (1 ∷ 0 ∷ [])
    ∷ same_numbers (map (λ h. h.entry.seq) (left (negsuc 0)).dest.reserved) (30 ∷ [])
    -- a release's second half returns it, redelivered once more; its first half does not
    ∷ same_numbers (counts (ran (unmarking (consumer 9) ∷ []) (left (negsuc 0)).dest).dest.pending) (1 ∷ 1 ∷ [])
    ∷ same_numbers (counts (ran (releasing (consumer 9) 5 ∷ []) (left (negsuc 0)).dest).dest.pending) (1 ∷ 1 ∷ 1 ∷ [])
    -- the first half clears a present consumer's marks, the second leaves them
    ∷ same_numbers (rolled []) (2 ∷ [])
    ∷ same_numbers (rolled (unmarking (consumer 9) ∷ [])) (0 ∷ [])
    ∷ same_numbers (rolled (releasing (consumer 9) 5 ∷ [])) (2 ∷ [])
    -- Pull at prefetch 0 with nothing waiting: 5 answers the generation, 1 for the first pull; a second pull makes it 2, and a timeout for 1 then
    -- does nothing; timeout -1 sends a null and answers 0; 0 answers 0 and waits
    ∷ same_numbers pulls.seen (0 ∷ 0 ∷ 0 ∷ 1 ∷ 0 ∷ 2 ∷ 0 ∷ 0 ∷ 0 ∷ 0 ∷ 2 ∷ 9 ∷ 0 ∷ 0 ∷ 2 ∷ 9 ∷ 0 ∷ 0 ∷ [])
    -- Generations are each consumer's own
    ∷ same_numbers both_pull.seen (0 ∷ 0 ∷ 0 ∷ 0 ∷ 0 ∷ 1 ∷ 0 ∷ 1 ∷ [])
    -- Topic limit 2, no credit, arrivals 5, 6, 4: the copy of 4 is discarded
    ∷ same_numbers limited.seen (0 ∷ 0 ∷ 0 ∷ 0 ∷ 0 ∷ 0 ∷ 0 ∷ 0 ∷ 0 ∷ 0 ∷ 1 ∷ 9 ∷ 5 ∷ 1 ∷ 9 ∷ 6 ∷ [])
    -- a list over the limit loses what has expired, then the lowest (document 02 §5): 6 has expired, so 4 stays
    ∷ same_numbers (still_wait (surplus 20 (pos 20) (pos 0))) (2 ∷ 1 ∷ 0 ∷ [])
    ∷ same_numbers (still_wait (surplus 19 (pos 20) (pos 0))) (2 ∷ 0 ∷ 1 ∷ [])
    -- all that have expired go, the new copy too, even below the limit
    ∷ same_numbers (still_wait (surplus 20 (pos 20) (pos 20))) (1 ∷ 2 ∷ 0 ∷ [])
    -- a list within the limit keeps an expired copy
    ∷ same_numbers (still_wait (ran (joining (plain 9 (pos 0)) 1 ∷ enqueuing (entry 5 (pos 2)) 1 ∷ enqueuing (entry 6 (pos 0)) 9 ∷ []) (opened topic 2 100 0 0 512))) (2 ∷ 0 ∷ 0 ∷ [])
    -- allowance 10, expiration 20: not expired at 29, expired at 30 (document 02 §4)
    ∷ same_numbers (slowly (joining (plain 9 (pos 1)) 29)) (0 ∷ 0 ∷ 1 ∷ 9 ∷ 1 ∷ 0 ∷ [])
    ∷ same_numbers (slowly (joining (plain 9 (pos 1)) 30)) (0 ∷ 0 ∷ 1 ∷ [])
    ∷ same_numbers (slowly (joining (browsing 9 (pos 1)) 29)) (0 ∷ 0 ∷ 1 ∷ 9 ∷ 1 ∷ 0 ∷ [])
    ∷ same_numbers (slowly (joining (browsing 9 (pos 1)) 30)) (0 ∷ 0 ∷ 2 ∷ 9 ∷ 1 ∷ [])
    ∷ same_numbers (slowly (sweeping 29 512)) (0 ∷ 0 ∷ 0 ∷ [])
    ∷ same_numbers (slowly (sweeping 30 512)) (0 ∷ 1 ∷ 1 ∷ [])
    ∷ same_numbers (slowly (sweeping 5 512)) (0 ∷ 0 ∷ 0 ∷ [])
    ∷ eqb (or0 (ran (sweeping 30 512 ∷ []) slow).dest.idle) 30
    -- what returns, and what is surplus on a topic, go by it too
    ∷ eqb (ran (joining (plain 9 (pos 1)) 20 ∷ leaving (consumer 9) (pos 0) 29 ∷ []) slow).dest.stats.expired 0
    ∷ eqb (ran (joining (plain 9 (pos 1)) 20 ∷ leaving (consumer 9) (pos 0) 30 ∷ []) slow).dest.stats.expired 1
    ∷ same_numbers (still_wait (slow_topic 29)) (1 ∷ 0 ∷ 1 ∷ [])
    ∷ same_numbers (still_wait (slow_topic 30)) (1 ∷ 1 ∷ 0 ∷ [])
    -- Turn at 2, the third leaves: turn 0. Turn at 1, the first leaves: turn stays 1
    ∷ eqb (turned (10 ∷ 20 ∷ []) 3) 0
    ∷ eqb (turned (10 ∷ []) 1) 1
    -- Audit: 1,024 is new and evicts 0; again it is a duplicate; 0 is then new and evicts 1
    ∷ same_numbers audited.seen (0 ∷ 0 ∷ 0 ∷ 1 ∷ 0 ∷ 0 ∷ [])
    ∷ same_numbers (map (λ a. first_of a.order) audited.dest.audits) (2 ∷ [])
    ∷ not (seen 1024 full_window)
    ∷ eqb (first_of (recorded 1024 full_window)) 1
    -- a duplicate test for connection 0 answers 0 and records nothing
    ∷ same_numbers (ran (testing (consumer 0) 5 ∷ testing (consumer 0) 5 ∷ []) (opened queue 0 100 0 0 512)).seen (0 ∷ 0 ∷ 0 ∷ 0 ∷ [])
    -- A clear empties browser snapshots without counting them, counts browser entries in flight, and dispatches nothing
    ∷ same_numbers cleared_ran.seen (0 ∷ 0 ∷ 0 ∷ 0 ∷ 0 ∷ 0 ∷ 0 ∷ 0 ∷ 1 ∷ 9 ∷ 10 ∷ 0 ∷ 0 ∷ 1 ∷ 8 ∷ 10 ∷ 0 ∷ 4 ∷ [])
    -- An unfinished browser gets its closing null at a later dispatch; a prefetch change of an absent consumer dispatches
    ∷ same_numbers (then (asking (consumer 5) (prefetching (pos 1) 3))) (0 ∷ 0 ∷ 2 ∷ 9 ∷ [])
    -- Prefetch above 0: answer 0, no dispatch
    ∷ same_numbers (then (asking (consumer 8) (pulling (pos 5) 3))) (0 ∷ 0 ∷ [])
    -- Ack type 7, consumer present: untransacted, nothing is acknowledged, yet dispatch runs
    ∷ same_numbers (then (asking (consumer 8) (acknowledge (acks 7 false (some 20) (some 30)) 3))) (0 ∷ 0 ∷ 2 ∷ 9 ∷ [])
    ∷ same_numbers (leaves (acks 7 false (some 20) (some 30))) (1 ∷ 2 ∷ 3 ∷ [])
    -- transacted, the non-cumulative range is marked
    ∷ same_numbers (marks (acks 255 true (some 20) (some 30))) (2 ∷ 3 ∷ [])
    -- a browser's closing null comes once; a join takes the idle mark away
    ∷ same_numbers browsed.seen (0 ∷ 0 ∷ 2 ∷ 9 ∷ 0 ∷ 0 ∷ [])
    ∷ not (is_some browsed.dest.idle)
    -- A browser on a topic receives like any consumer, but its acknowledgements are not counted as dequeued or expired
    ∷ same_numbers on_topic.seen (0 ∷ 0 ∷ 0 ∷ 0 ∷ 1 ∷ 9 ∷ 10 ∷ 0 ∷ 0 ∷ 1 ∷ 9 ∷ 20 ∷ 0 ∷ 0 ∷ 1 ∷ 9 ∷ 30 ∷ 0 ∷ 0 ∷ 0 ∷ 0 ∷ 0 ∷ 0 ∷ [])
    ∷ same_numbers (five_counters on_topic.dest) (3 ∷ 0 ∷ 0 ∷ 0 ∷ 3 ∷ [])
    -- a sweep's total, the soonest first
    ∷ same_numbers sweeps.seen (0 ∷ 0 ∷ 0 ∷ 0 ∷ 0 ∷ 0 ∷ 0 ∷ 0 ∷ 0 ∷ 1 ∷ 0 ∷ 1 ∷ 0 ∷ 0 ∷ [])
    ∷ same_numbers (seqs sweeps.dest.pending) (30 ∷ 40 ∷ [])
    ∷ []

-- 4 to 9, each on both sides of its condition
abbrev refusals : List Bool
refusals =
    refusing 4 (filled 511) (enqueuing (entry 511 (pos 0)) 1)
    ∷ refusing 0 (filled 511) (enqueuing (entry 600 (pos 0)) 1)
    ∷ refusing 5 (filled 512) (enqueuing (entry 600 (pos 0)) 1)
    -- 4 comes before 5
    ∷ refusing 4 (filled 512) (enqueuing (entry 1 (pos 0)) 1)
    -- an empty table has rows
    ∷ refusing 0 (filled 0) (enqueuing (entry 1 (pos 0)) 1)
    -- a browser's join needs a row for each entry of its snapshot
    ∷ refusing 0 (filled 256) (joining (browsing 9 (pos 1)) 1)
    ∷ refusing 5 (filled 257) (joining (browsing 9 (pos 1)) 1)
    ∷ refusing 0 (filled 512) (joining (plain 9 (pos 1)) 1)
    -- not for one that has expired, nor for one that its selector does not accept
    ∷ refusing 0 (with_pending (entry 1 (pos 5) ∷ entry 2 (pos 5) ∷ map (λ n. entry n (pos 0)) (up_from 3 255)) (opened queue 0 100 0 0 512)) (joining (browsing 9 (pos 1)) 9)
    ∷ refusing 0 (filled 512) (joining (record { id = consumer 9; prefetch = pos 1; selector = 0; no_local = false; browser = true }) 1)
    ∷ refusing 0 (crowd 31) (joining (plain 99 (pos 1)) 1)
    ∷ refusing 7 (crowd 32) (joining (plain 99 (pos 1)) 1)
    -- 6 comes before 7
    ∷ refusing 6 (crowd 32) (joining (plain 32 (pos 1)) 1)
    ∷ refusing 0 (known 31) (adding (consumer 99))
    ∷ refusing 8 (known 32) (adding (consumer 99))
    ∷ refusing 0 (known 32) (adding (consumer 32))
    ∷ refusing 0 (windows 7) (testing (consumer 99) 5)
    ∷ refusing 8 (windows 8) (testing (consumer 99) 5)
    ∷ refusing 0 (windows 8) (testing (consumer 8) 5)
    ∷ refusing 0 (windows 8) (testing (consumer 0) 5)
    -- 14: more than the share, after 4 and before 5; connection 0 is one of them (document 02 §11)
    ∷ same_numbers (shares seven_twice (opened queue 0 100 0 0 2)) (14 ∷ 0 ∷ [])
    ∷ same_numbers (shares seven_twice (opened queue 0 100 0 0 1)) (14 ∷ 14 ∷ [])
    ∷ same_numbers (shares seven_twice (opened queue 0 100 0 0 3)) (0 ∷ 0 ∷ [])
    ∷ refusing 4 (ran seven_twice (opened queue 0 100 0 0 2)).dest (enqueuing (from_conn 1 7) 1)
    ∷ refusing 5 (filled 512) (enqueuing (from_conn 600 7) 1)
    -- the copies of a queue's browser belong to no one, those of a topic's browser count
    ∷ same_numbers (shares (seven_twice ++ joining (browsing 6 (pos 9)) 2 ∷ []) (opened queue 0 100 0 0 3)) (0 ∷ 0 ∷ [])
    ∷ same_numbers (shares (enqueuing (from_conn 1 7) 1 ∷ []) (sharing 4)) (0 ∷ 0 ∷ [])
    ∷ same_numbers (shares (enqueuing (from_conn 1 7) 1 ∷ []) (sharing 3)) (14 ∷ 0 ∷ [])
    ∷ not (sound (with_pending (from_conn 1 7 ∷ from_conn 2 7 ∷ []) (opened queue 0 100 0 0 1)))
    ∷ sound (with_pending (from_conn 1 7 ∷ from_conn 2 0 ∷ []) (opened queue 0 100 0 0 1))
    -- 9: calls used equals the call limit
    ∷ same_numbers (ran (discarding ∷ missing ∷ []) (opened queue 0 1 0 0 512)).seen (0 ∷ 0 ∷ 9 ∷ 0 ∷ [])
    ∷ []

abbrev queries : List Bool
queries =
    answers 0 1 (query (whole 0) of_kind waiting)
    ∷ answers 0 0 (query (whole 0) consumers waiting)
    ∷ answers 0 3 (query (whole 0) messages waiting)
    -- in flight counts, a browser's snapshot and reserved entries do not
    ∷ answers 0 2 (query (whole 0) messages (left (negsuc 0)).dest)
    ∷ answers 0 0 (query (whole 0) expirations waiting)
    ∷ answers 0 1 (query (whole 0) expirations sweeps.dest)
    -- bytes held, each entry once from its enqueue until its last copy goes (document 02 §3)
    ∷ answers 0 1200 (query (whole 0) bytes (copied []))
    ∷ answers 0 1200 (query (whole 0) bytes (copied (eight_acks ∷ [])))
    ∷ answers 0 900 (query (whole 0) bytes (copied (eight_acks ∷ leaving (consumer 9) (pos 0) 4 ∷ [])))
    ∷ answers 0 300 (query (whole 0) bytes (shared []))
    ∷ answers 0 300 (query (whole 0) bytes (shared (eight_acks ∷ [])))
    ∷ answers 0 0 (query (whole 0) bytes (shared (clearing ∷ [])))
    ∷ answers 2 0 (query (whole 0) bytes (with_pending (sized 10 300 ∷ sized 20 4294967296 ∷ []) (opened queue 0 100 0 0 512)))
    -- two copies of two sizes are not sound
    ∷ not (sound (with_pending (map (λ e. sized e.seq 5) (copied []).pending) (copied [])))
    -- seq_at is the entry there
    ∷ answers 0 30 (query (whole 0) (sequence 2) waiting)
    ∷ answers 0 0 (query (whole 0) (sequence 3) waiting)
    -- idle time is the clock less the mark, in whole seconds, 0 if the clock went back
    ∷ answers 0 1 (query (whole 0) (idle 6000 5) (opened queue 0 1 1000 0 512))
    ∷ answers 0 0 (query (whole 0) (idle 5999 5) (opened queue 0 1 1000 0 512))
    ∷ answers 0 1 (query (whole 0) (idle 0 0) (opened queue 0 1 1000 0 512))
    ∷ answers 0 0 (query (whole 0) (idle 6000 0) waiting)
    ∷ answers 3 0 (query (whole 0) (idle 4611686018427387905 0) waiting)
    ∷ answers 2 0 (query (whole 0) messages zeros)
    ∷ answers 1 0 (query (record { head = 8346; subs = 32; rows = 512; events = 0 }) messages waiting)
    ∷ pages 0 3 (20 ∷ 30 ∷ []) (page (whole 0) 50 1 60 waiting)
    ∷ pages 0 3 (10 ∷ []) (page (whole 0) 50 0 1 waiting)
    ∷ pages 0 3 [] (page (whole 0) 50 3 50 waiting)
    ∷ pages 1 0 [] (page (whole 0) 49 0 1 waiting)
    ∷ []

abbrev buffers : List Bool
buffers =
    same_numbers (seqs (view (lent_with 1 512)).pending) (6 ∷ [])
    ∷ same_numbers (map (λ s. length (Sub.inflight s)) (view (lent_with 1 512)).subs) (1 ∷ [])
    ∷ same_numbers (map (λ e. e.size) (view (lent_with 1 512)).pending) (300 ∷ [])
    ∷ sound_buffers (lent_with 1 512)
    ∷ same_numbers (on_buffers (lent_with 1 512) 545 4 acks_five) (0 ∷ 0 ∷ 1 ∷ 9 ∷ 6 ∷ [])
    ∷ same_numbers (on_buffers (lent_with 1 512) 544 4 acks_five) (1 ∷ 0 ∷ [])
    ∷ same_numbers (on_buffers (lent_with 1 511) 545 4 acks_five) (1 ∷ 0 ∷ [])
    -- more rows in use than there are: no call but an open takes them
    ∷ same_numbers (on_buffers (lent_with 512 512) 545 4 acks_five) (2 ∷ 0 ∷ [])
    ∷ same_numbers (on_buffers (lent_with 512 512) 545 0 (0 ∷ 0 ∷ 1 ∷ 0 ∷ 0 ∷ 0 ∷ 0 ∷ 0 ∷ [])) (0 ∷ 0 ∷ [])
    ∷ []

-- stored words: kind and marks are 0 or 1, a redelivery is an i32 sign-extended to its word; what is not in use may be any
abbrev stored_words : List Bool
stored_words =
    head_with 5 1
    ∷ kind_with 0
    ∷ kind_with 1
    ∷ not (kind_with 2)
    ∷ not (head_with 5 2)
    ∷ sub_with 5 1
    ∷ not (sub_with 5 2)
    ∷ not (sub_with 6 2)
    ∷ sub_with 7 1
    ∷ not (sub_with 7 7)
    ∷ sub_with 10 1
    ∷ not (sub_with 10 2)
    ∷ flying_with 2 0
    ∷ not (flying_with 2 7)
    ∷ not (flying_with 5 4294967296)
    ∷ flying_with 8 1
    ∷ not (flying_with 8 2)
    ∷ freed_with 1
    ∷ not (freed_with 2)
    ∷ waiting_with 5 2147483647
    ∷ not (waiting_with 5 2147483648)
    ∷ waiting_with 5 (minus 2147483648)
    ∷ not (waiting_with 5 (minus 2147483649))
    ∷ not (waiting_with 2 2)
    ∷ snapshot_with 8 7
    ∷ not (snapshot_with 2 2)
    ∷ not (snapshot_with 5 4294967296)
    ∷ reserved_with 7 (minus 5)
    ∷ not (reserved_with 2 2)
    ∷ not (reserved_with 5 4294967296)
    -- one that waits behind a reserved one
    ∷ not (sound_with (set (lent_head 1) 15 1) (lent_sub ∷ []) (lent_row 5 0 1 ∷ lent_row 7 0 0 ∷ set (lent_row 6 0 0) 2 2 ∷ []))
    ∷ waiting_with 7 2
    ∷ waiting_with 8 7
    ∷ sound_with (lent_head 1) (lent_sub ∷ junk_sub ∷ []) (lent_row 5 0 1 ∷ lent_row 6 0 0 ∷ junk_row ∷ [])
    ∷ []

cases : List Bool
cases = starred ++ (corners ++ (refusals ++ (words ++ (queries ++ (buffers ++ stored_words)))))

all_right : T (every cases)
unfolding cases consumer_open destination_open calls_open words_open queries_open layout_open Rows.entry_of Ring.order_of Ring.ring_sound
all_right = tt
