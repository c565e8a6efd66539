use mathlib.Core.Path.{◌≡◌}
use Rattle.definition.specs.Calls.{clearing}
use Rattle.definition.specs.Words.{decode}
use Rattle.state.specs.Answers.{told}
use Rattle.engine.proofs.Performed.{performs-by, by_code, known-code, last_code}
use Rattle.engine.proofs.Handled.{clear-decoded}
use Rattle.engine.proofs.perform.perform.Goals as goal

pub enqueue-requires : goal.enqueue-requires
enqueue-requires c =
    let a = c.args in
    let p = c.requires in
    let e : a.c.code ≡ 1 = c.in-1.is in
    (p.0, known-code a.c.code 1 a.c.words e p.1)

pub join-requires : goal.join-requires
join-requires c =
    let a = c.args in
    let p = c.requires in
    let e : a.c.code ≡ 2 = c.in-2.is in
    (p.0, known-code a.c.code 2 a.c.words e p.1)

pub leave-requires : goal.leave-requires
leave-requires c =
    let a = c.args in
    let p = c.requires in
    let e : a.c.code ≡ 3 = c.in-3.is in
    (p.0, known-code a.c.code 3 a.c.words e p.1)

pub ask_ack-requires : goal.ask_ack-requires
ask_ack-requires c =
    let a = c.args in
    let p = c.requires in
    let e : a.c.code ≡ 4 = c.in-4.is in
    (p.0, known-code a.c.code 4 a.c.words e p.1)

pub ask_pull-requires : goal.ask_pull-requires
ask_pull-requires c =
    let a = c.args in
    let p = c.requires in
    let e : a.c.code ≡ 5 = c.in-5.is in
    (p.0, known-code a.c.code 5 a.c.words e p.1)

pub pull_timeout-requires : goal.pull_timeout-requires
pull_timeout-requires c =
    let a = c.args in
    let p = c.requires in
    let e : a.c.code ≡ 6 = c.in-6.is in
    (p.0, known-code a.c.code 6 a.c.words e p.1)

pub set_prefetch-requires : goal.set_prefetch-requires
set_prefetch-requires c =
    let a = c.args in
    let p = c.requires in
    let e : a.c.code ≡ 7 = c.in-7.is in
    (p.0, known-code a.c.code 7 a.c.words e p.1)

pub unmark-requires : goal.unmark-requires
unmark-requires c =
    let a = c.args in
    let p = c.requires in
    let e : a.c.code ≡ 8 = c.in-8.is in
    (p.0, known-code a.c.code 8 a.c.words e p.1)

pub sweep-requires : goal.sweep-requires
sweep-requires c =
    let a = c.args in
    let p = c.requires in
    let e : a.c.code ≡ 9 = c.in-9.is in
    (p.0, known-code a.c.code 9 a.c.words e p.1)

pub release-requires : goal.release-requires
release-requires c =
    let a = c.args in
    let p = c.requires in
    let e : a.c.code ≡ 15 = c.in-15.is in
    (p.0, known-code a.c.code 15 a.c.words e p.1)

pub returns-in-1 : goal.returns-in-1
returns-in-1 c =
    let a = c.args in
    let k = c.enqueue in
    let e : a.c.code ≡ 1 = c.in-1.is in
    by_code a.c.code 1 a.c.words a.d (told a.d k.result) a.subs.now a.rows.now a.events.now k.new.subs k.new.rows k.new.events e k.ensures

pub returns-in-2 : goal.returns-in-2
returns-in-2 c =
    let a = c.args in
    let k = c.join in
    let e : a.c.code ≡ 2 = c.in-2.is in
    by_code a.c.code 2 a.c.words a.d (told a.d k.result) a.subs.now a.rows.now a.events.now k.new.subs k.new.rows k.new.events e k.ensures

pub returns-in-3 : goal.returns-in-3
returns-in-3 c =
    let a = c.args in
    let k = c.leave in
    let e : a.c.code ≡ 3 = c.in-3.is in
    by_code a.c.code 3 a.c.words a.d (told a.d k.result) a.subs.now a.rows.now a.events.now k.new.subs k.new.rows k.new.events e k.ensures

pub returns-in-4 : goal.returns-in-4
returns-in-4 c =
    let a = c.args in
    let k = c.ask_ack in
    let e : a.c.code ≡ 4 = c.in-4.is in
    by_code a.c.code 4 a.c.words a.d (told a.d k.result) a.subs.now a.rows.now a.events.now k.new.subs k.new.rows k.new.events e k.ensures

pub returns-in-5 : goal.returns-in-5
returns-in-5 c =
    let a = c.args in
    let k = c.ask_pull in
    let e : a.c.code ≡ 5 = c.in-5.is in
    by_code a.c.code 5 a.c.words a.d (told a.d k.result) a.subs.now a.rows.now a.events.now k.new.subs k.new.rows k.new.events e k.ensures

pub returns-in-6 : goal.returns-in-6
returns-in-6 c =
    let a = c.args in
    let k = c.pull_timeout in
    let e : a.c.code ≡ 6 = c.in-6.is in
    by_code a.c.code 6 a.c.words a.d (told a.d k.result) a.subs.now a.rows.now a.events.now k.new.subs a.rows.now k.new.events e k.ensures

pub returns-in-7 : goal.returns-in-7
returns-in-7 c =
    let a = c.args in
    let k = c.set_prefetch in
    let e : a.c.code ≡ 7 = c.in-7.is in
    by_code a.c.code 7 a.c.words a.d (told a.d k.result) a.subs.now a.rows.now a.events.now k.new.subs k.new.rows k.new.events e k.ensures

pub returns-in-8 : goal.returns-in-8
returns-in-8 c =
    let a = c.args in
    let k = c.unmark in
    let e : a.c.code ≡ 8 = c.in-8.is in
    by_code a.c.code 8 a.c.words a.d (told a.d k.result) a.subs.now a.rows.now a.events.now a.subs.now k.new.rows a.events.now e k.ensures

pub returns-in-9 : goal.returns-in-9
returns-in-9 c =
    let a = c.args in
    let k = c.sweep in
    let e : a.c.code ≡ 9 = c.in-9.is in
    by_code a.c.code 9 a.c.words a.d (told a.d k.result) a.subs.now a.rows.now a.events.now k.new.subs k.new.rows a.events.now e k.ensures

pub returns-in-15 : goal.returns-in-15
returns-in-15 c =
    let a = c.args in
    let k = c.release in
    let e : a.c.code ≡ 15 = c.in-15.is in
    by_code a.c.code 15 a.c.words a.d (told a.d k.result) a.subs.now a.rows.now a.events.now k.new.subs k.new.rows k.new.events e k.ensures

pub returns-in_default : goal.returns-in_default
returns-in_default c =
    let a = c.args in
    let p = c.requires in
    let k = c.clear in
    let e : a.c.code ≡ 10 = last_code a.c.code p.2 p.3 c.in_default.in_default-own.rest.0.0.0.0.0.0.0.0.0.1 c.in_default.in_default-own.rest.0.0.0.0.0.0.0.0.1 c.in_default.in_default-own.rest.0.0.0.0.0.0.0.1 c.in_default.in_default-own.rest.0.0.0.0.0.0.1 c.in_default.in_default-own.rest.0.0.0.0.0.1 c.in_default.in_default-own.rest.0.0.0.0.1 c.in_default.in_default-own.rest.0.0.0.1 c.in_default.in_default-own.rest.0.0.1 c.in_default.in_default-own.rest.0.1 c.in_default.in_default-own.rest.1 in
    by_code a.c.code 10 a.c.words a.d (told a.d k.result) a.subs.now a.rows.now a.events.now k.new.subs a.rows.now a.events.now e
    (performs-by clearing a.d (told a.d k.result) a.subs.now a.rows.now a.events.now k.new.subs a.rows.now a.events.now (decode 10 a.c.words) (clear-decoded a.c.words (known-code a.c.code 10 a.c.words e p.1)).call k.ensures)
