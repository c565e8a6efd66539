use mathlib.Core.Path.{refl, ap, ◌∙◌}
use mathlib.Core.List.{List, [], ◌∷◌}
use Prim.Native.Nat.{ℕ, ◌+◌, ◌*◌}
use lib.ListN.{length-set}
use Rattle.audit.specs.declared.Audit as Ring
use Rattle.producers.specs.Groups.{written_from, id_words}
use Rattle.producers.proofs.Words.{over-length, over-join, two-stores}
use native.Mathlib.Omega.{arith}
use Rattle.producers.proofs.new_audit.Goals as goal

pub bounds-head-at-2 : goal.bounds-head-at-2
bounds-head-at-2 c = simp length-set (omega arith)

pub shape_of-head : goal.shape_of-head
shape_of-head c = simp length-set (omega arith)

pub returns : goal.returns
returns c =
    let z = c.new-a.ensures in
    let a = c.args in
    let h : List ℕ = a.head.now in
    let place : ℕ = 113 + a.k * 1029 in
    let k : List ℕ = written_from place (id_words a.id) h in
    let l = over-length place (id_words a.id) h (omega arith) in
    rw (c.put_id.ensures, ap (λ (x : Ring.Audit). x.start) z, ap (λ (x : Ring.Audit). x.count) z)
    (two-stores k (place + 3) (place + 3) (place + 4) 0 0 refl (omega arith) (omega arith) ∙ over-join place (place + 3) (id_words a.id) (0 ∷ 0 ∷ []) h refl (omega arith))
