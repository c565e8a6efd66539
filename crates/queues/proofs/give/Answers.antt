use mathlib.Core.Path.{◌≡◌, ap, ◌∙◌}
use mathlib.Core.List.{[]}
use Prim.Native.Nat.{ℕ, ◌+◌, ◌-◌, ◌%◌}
use native.Mathlib.Omega.{arith}
use borrow.Author.Rules.{rules}
use lib.IntN.{ℤ}
use lib.ListN.{length, take, get_or, set}
use mir.Syntax.{w32}
use mir.ValLaws.{to_z-of_z}
use Rattle.model.specs.Model.{id_of}
use Rattle.stats.specs.Counted.{with_dispatched}
use Rattle.entry.specs.declared.Entry.{Entry}
use Rattle.entry.specs.Entry.{entry_of}
use Rattle.entry.proofs.Rows.{EntryFits, redelivery-fits}
use Rattle.definition.specs.Types.{message}
use Rattle.definition.specs.Consumer.{inflight_of}
use Rattle.definition.specs.Layout.{inflight_at, flying_strict, sub_rows, event_words}
use Rattle.table.specs.Table.{insert_row}
use Rattle.table.proofs.Strict.{sent-strict}
use Rattle.consumers.specs.declared.Sub.{Sub}
use Rattle.consumers.specs.Consumers.{sub_words, sent_of}
use Rattle.consumers.proofs.Words.{sent_is}
use Rattle.state.specs.declared.Head.{Head}
use Rattle.state.specs.State.{with_counters, with_turn, with_waiting, with_events}
use Rattle.state.proofs.Events.{pushed_room}
use Rattle.queues.specs.Give.{moved_sub}
use Rattle.queues.proofs.Giving.{flown}
use Rattle.queues.proofs.give.Goals as goal
use Rattle.queues.proofs.give.Goals.{After-entry_of-e}

taken : (c : After-entry_of-e) → EntryFits c.entry_of-e.result
taken c =
    let a = c.args in
    record { seq = search rules; expiration = search rules; producer = search rules; match_word = search rules; size = search rules; redelivery = rw c.entry_of-e.ensures (redelivery-fits (get_or a.rows.now a.at [])) }

pub overflow_sub-d : goal.overflow_sub-d
overflow_sub-d c =
    let a = c.args in
    let pre = c.requires in
    let p = c.push_message-d in
    let is : p.result ≡ with_events (a.before.events + 1) a.before = p.ensures.0 ∙ pushed_room a.before (length a.events.now) pre.room in
    let w : p.result.waiting ≡ a.before.waiting = ap (λ (x : Head). x.waiting) is in
    omega arith

pub overflow_add-i : goal.overflow_add-i
overflow_add-i c =
    let pre = c.requires in
    omega arith

pub in_turn-requires : goal.in_turn-requires
in_turn-requires c =
    let a = c.args in
    let pre = c.requires in
    let p = c.push_message-d in
    let is : p.result ≡ with_events (a.before.events + 1) a.before = p.ensures.0 ∙ pushed_room a.before (length a.events.now) pre.room in
    let w : p.result.consumers ≡ a.before.consumers = ap (λ (x : Head). x.consumers) is in
    omega arith

pub shape_of-events : goal.shape_of-events
shape_of-events c =
    let k = c.push_message-d.auto in
    search rules

pub returns : goal.returns
returns c =
    let a = c.args in
    let pre = c.requires in
    let p = c.push_message-d in
    let is : p.result ≡ with_events (a.before.events + 1) a.before = p.ensures.0 ∙ pushed_room a.before (length a.events.now) pre.room in
    let e = c.entry_of-e in
    let base = c.base_of in
    let row = c.inflight_row in
    let was : e.result ≡ entry_of (get_or a.rows.now a.at []) = e.ensures in
    let fits : EntryFits e.result = taken (goal.at.returns c).After-entry_of-e in
    let from : base.result ≡ sub_rows (take a.i a.subs.now) = omega (arith, base.ensures) in
    record {
      row = row.result;
      flies = ap inflight_at row.ensures ∙ flown e.result a.s.next_dseq fits ∙ ap (inflight_of a.s.next_dseq) was;
      strict = ap flying_strict row.ensures ∙ sent-strict e.result a.s.next_dseq fits.redelivery;
      head = c.count_dispatched.ensures
          ∙ ap (λ (n : ℕ). with_counters (with_dispatched p.result.stats) (with_turn n (with_waiting (p.result.waiting - 1) p.result))) c.in_turn.ensures
          ∙ ap (λ (x : Head). with_counters (with_dispatched x.stats) (with_turn ((a.i + 1) % x.consumers) (with_waiting (x.waiting - 1) x))) is;
      subs-is = c.store.ensures ∙ ap (λ (x : Sub). set a.subs.now a.i (sub_words x)) (c.sent.ensures ∙ ap (λ (x : Entry). sent_of (moved_sub x.seq a.s)) was ∙ sent_is (moved_sub (entry_of (get_or a.rows.now a.at [])).seq a.s) (omega arith) (omega arith));
      rows_is = c.insert_row.ensures ∙ ap (λ (n : ℕ). insert_row (n + a.s.inflight) a.at row.result a.rows.now) from;
      events-is = p.ensures.1 ∙ ap (λ (z : ℤ). set a.events.now a.before.events (event_words (message (id_of a.s.conn a.s.session a.s.value) e.result.seq z))) (to_z-of_z w32 e.result.redelivery fits.redelivery)
          ∙ ap (λ (x : Entry). set a.events.now a.before.events (event_words (message (id_of a.s.conn a.s.session a.s.value) x.seq x.redelivery))) was;
    }
