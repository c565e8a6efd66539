-- An entry that arrives, before the dispatch: when it is refused, and what storing it means. Assumes nothing.
use Rattle.std.specs.Prelude.{ℕ, ◌+◌, Bool, List, [], map, take}
use Rattle.std.proofs.Math.Option.{none}
use Rattle.entry.specs.Entry.{entry_of}
use Rattle.definition.specs.Base.{whether◌then◌else◌, tally, member}
use Rattle.definition.specs.Types.{Kind, queue, topic, Entry, Dest, with_pending, with_subs, with_idle}
use Rattle.definition.specs.Destination.{insert, hold_back, fan_out_all, count, stored, fanned_out}
use Rattle.definition.specs.Calls.{seqs, enqueuing, own_refusal}
use Rattle.definition.specs.Layout.{Row}
use Rattle.consumers.specs.Table.{takes_entry}
use Rattle.state.specs.declared.Head.{Head}
use Rattle.state.specs.State.{head_view, with_used, with_waiting, not_idle}

-- ---- what it means

-- `enqueue` before its dispatch: stored on a queue, fanned out on a topic, by the clock that entries expire by
abbrev pub stored_by : ℕ → Entry → Dest → Kind → Dest
stored_by by e t queue = stored e t
stored_by by e t topic = fanned_out by e t

abbrev pub kept : ℕ → Entry → Dest → Dest
kept by e t = stored_by by e t t.kind

-- the same two after the entry was counted
abbrev pub waits_counted : Entry → Dest → Dest
waits_counted e t = with_idle none (with_pending (insert e t.pending) (with_subs (map (hold_back e.seq) t.subs) t))

abbrev pub spread : ℕ → Entry → Dest → Dest
spread by e t = let r = fan_out_all by t.topic_limit e t.subs in count r.counts (with_subs r.subs t)

-- ---- when

-- whether one of these rows has a sequence number
abbrev pub holds : ℕ → List Row → Bool
holds seq rows = member seq (seqs (map entry_of rows))

-- the rows that an entry needs: one on a queue, one for each consumer that accepts it on a topic
abbrev pub rows_needed : Entry → Head → List Row → ℕ
rows_needed e d subs = whether d.queue then 1 else tally (takes_entry e) (take d.consumers subs)

-- the refusal that is the entry's own. It looks at no producer, no audit and no clock.
abbrev pub own_refusal_of : Entry → Head → List Row → List Row → ℕ
own_refusal_of e d subs rows = own_refusal (head_view d subs rows [] []) (enqueuing e 0)

-- ---- the numbers

-- on a queue one more waits, and the destination is not idle
abbrev pub queued_head : Head → Head
queued_head d = not_idle (with_waiting (d.waiting + 1) (with_used (d.used + 1) d))
