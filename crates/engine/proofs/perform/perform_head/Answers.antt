use mathlib.Core.Path.{◌≡◌}
use Rattle.state.specs.Answers.{told}
use Rattle.engine.proofs.Performed.{known-code}
use Rattle.engine.proofs.Headed.{add-head, remove-head, test-head, forget-head, head-code, last-head}
use Rattle.engine.proofs.perform.perform_head.Goals as goal

pub returns-in-11 : goal.returns-in-11
returns-in-11 c =
    let a = c.args in
    let p = c.requires in
    let k = c.add_producer in
    let e : a.c.code ≡ 11 = c.in-11.is in
    head-code a.c.code 11 a.c.words a.d a.head.now (told a.d k.result) k.new.head e
    (add-head a.c.words a.d a.head.now (told a.d k.result) k.new.head p.0 (known-code a.c.code 11 a.c.words e p.1) c.id_of-id.result c.id_of-id.ensures k.ensures)

pub returns-in-12 : goal.returns-in-12
returns-in-12 c =
    let a = c.args in
    let p = c.requires in
    let k = c.remove_producer in
    let e : a.c.code ≡ 12 = c.in-12.is in
    head-code a.c.code 12 a.c.words a.d a.head.now (told a.d k.result) k.new.head e
    (remove-head a.c.words a.d a.head.now (told a.d k.result) k.new.head p.0 (known-code a.c.code 12 a.c.words e p.1) c.id_of-id.result c.id_of-id.ensures k.ensures)

pub returns-in-13 : goal.returns-in-13
returns-in-13 c =
    let a = c.args in
    let p = c.requires in
    let k = c.is_duplicate in
    let e : a.c.code ≡ 13 = c.in-13.is in
    head-code a.c.code 13 a.c.words a.d a.head.now (told a.d k.result) k.new.head e
    (test-head a.c.words a.d a.head.now (told a.d k.result) k.new.head p.0 (known-code a.c.code 13 a.c.words e p.1) c.id_of-id.result c.id_of-id.ensures k.ensures)

pub returns-in_default : goal.returns-in_default
returns-in_default c =
    let a = c.args in
    let p = c.requires in
    let k = c.release_audits in
    let r = c.in_default.in_default-own.rest in
    let e : a.c.code ≡ 14 = last-head a.c.code a.c.words p.2 r.0.0.1 r.0.1 r.1 p.1 in
    head-code a.c.code 14 a.c.words a.d a.head.now (told a.d k.result) k.new.head e
    (forget-head a.c.words a.d a.head.now (told a.d k.result) k.new.head p.0 (known-code a.c.code 14 a.c.words e p.1) k.ensures)
