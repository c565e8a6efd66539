use mathlib.Core.Path.{◌≡◌, ap, ◌∙◌}
use mathlib.Core.List.{[], ◌∷◌}
use Prim.Native.Nat.{◌-◌}
use lib.ListN.{get_or}
use Rattle.entry.specs.Entry.{entry_of, redelivered}
use Rattle.definition.specs.Types.{Entry}
use Rattle.definition.specs.Destination.{reinsert}
use Rattle.state.specs.State.{with_reserved_count}
use Rattle.returns.proofs.Moving.{moves-as}
use Rattle.returns.proofs.release_row.Goals as goal

pub put_back-requires : goal.put_back-requires
put_back-requires c =
    let o = c.requires.0 in
    (record { before = o.before; consumers = o.consumers; used = o.used; long = o.long; expired = o.expired }, c.requires.2)

pub returns : goal.returns
returns c =
    let a = c.args in
    let r = c.redelivered-e in
    let v = c.put_back in
    let e : r.result ≡ redelivered (entry_of (get_or a.rows.now a.at [])) = r.ensures ∙ ap redelivered c.entry_of.ensures in record {
      moves = moves-as a.at (reinsert a.clock (r.result ∷ [])) (reinsert a.clock (redelivered (entry_of (get_or a.rows.now a.at [])) ∷ [])) (with_reserved_count (a.d.reserved - 1) a.d) _ a.subs.now a.rows.now _ _
          (λ t. ap (λ (x : Entry). reinsert a.clock (x ∷ []) t) e) v.ensures.moves;
      reserved_value = v.ensures.reserved_value;
    }
