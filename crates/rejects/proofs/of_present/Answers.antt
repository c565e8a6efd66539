use mathlib.Core.Path.{refl}
use native.Mathlib.Omega.{arith}
use Rattle.acks.specs.Acks.{ack_of}
use Rattle.rejects.proofs.Copying.{copied-same, copied-nothing}
use Rattle.rejects.proofs.Rows.{present-own, browser-rejects, present-rejects}
use Rattle.rejects.proofs.of_present.Goals as goal

pub returns-then-s : goal.returns-then-s
returns-then-s c =
    let a = c.args in
    let pre = c.requires in
    copied-nothing a.out.now (browser-rejects a.subs.now a.rows.now a.d pre.0 a.id (ack_of a.a) a.i pre.2 _ c.load-s.result refl c.load-s.ensures c.if-s.true)

pub overflow_add-end : goal.overflow_add-end
overflow_add-end c =
    let a = c.args in
    let pre = c.requires in
    let own = present-own a.subs.now a.rows.now a.d pre.0 a.id (ack_of a.a) a.i pre.2 c.base_of-base.result c.load-s.result c.base_of-base.ensures c.load-s.ensures in
    omega (arith, own.rows, own.used)

pub copy-requires : goal.copy-requires
copy-requires c =
    let a = c.args in
    let pre = c.requires in
    let own = present-own a.subs.now a.rows.now a.d pre.0 a.id (ack_of a.a) a.i pre.2 c.base_of-base.result c.load-s.result c.base_of-base.ensures c.load-s.ensures in
    (omega arith, omega (arith, own.rows, own.used, own.room), omega (arith, own.rows, own.used, pre.1))

pub returns : goal.returns
returns c =
    let a = c.args in
    let pre = c.requires in
    copied-same (present-rejects a.subs.now a.rows.now a.d pre.0 a.id (ack_of a.a) a.i pre.2 c.base_of-base.result c.load-s.result c.base_of-base.ensures c.load-s.ensures c.span_of-p.result _ refl c.span_of-p.ensures c.if-s.false) c.copy.ensures
