use Rattle.engine.proofs.Ran.{spent-run, ready-run, fit-run, tables-run, head-run}
use Rattle.engine.proofs.run.Goals as goal

pub returns-then-d : goal.returns-then-d
returns-then-d c =
    let a = c.args in
    let p = c.requires in
    spent-run a.head.now a.subs.now a.rows.now a.events.now a.c.code a.c.words p.0 p.1 p.2 p.3 c.load-d.result c.load-d.ensures c.if-d.true c.refused_for.result c.refused_for.ensures

pub perform-a-requires : goal.perform-a-requires
perform-a-requires c =
    let a = c.args in
    let p = c.requires in
    (ready-run a.head.now a.subs.now a.rows.now a.events.now a.c.code a.c.words p.0 p.1 p.2 p.3 c.load-d.result c.load-d.ensures c.if-d.false, p.3, p.2, c.if-c.true)

pub returns-then-c : goal.returns-then-c
returns-then-c c =
    let a = c.args in
    let p = c.requires in
    let k = c.perform-a in
    let f = c.conclude in
    tables-run a.head.now a.subs.now a.rows.now a.events.now a.c.code a.c.words p.0 p.1 p.2 p.3 c.load-d.result c.load-d.ensures c.if-d.false k.result f.result f.ensures.value k.new.subs k.new.rows k.new.events f.new.head f.ensures.head_after k.ensures

pub perform_head-a-requires : goal.perform_head-a-requires
perform_head-a-requires c =
    let a = c.args in
    let p = c.requires in
    (fit-run a.head.now a.subs.now a.rows.now a.events.now a.c.code a.c.words p.0 p.1 p.2 p.3 c.load-d.result c.load-d.ensures c.if-d.false, p.3, c.if-c.false)

pub returns : goal.returns
returns c =
    let a = c.args in
    let p = c.requires in
    let k = c.perform_head-a in
    let f = c.conclude-2 in
    head-run a.head.now a.subs.now a.rows.now a.events.now a.c.code a.c.words p.0 p.1 p.2 p.3 c.load-d.result c.load-d.ensures c.if-d.false k.result f.result f.ensures.value k.new.head f.new.head f.ensures.head_after k.ensures
