use Rattle.std.proofs.Common.{ap, ◌∙◌, rules}
use lib.IntN.{ℤ, pos, ◌+ℤ◌}
use mir.Syntax.{w32, w64}
use mir.Val.{SFits}
use mir.ValLaws.{to_z-of_z}
use Rattle.std.specs.Int.{saturate_signed}
use Rattle.entry.specs.Entry.{with_redelivery}
use Rattle.entry.proofs.Redelivery.{saturated}
use Rattle.entry.proofs.Entry.redelivered.Goals as goal

pub returns : goal.returns
returns c =
    let e = c.args.self in
    let more = c.saturating_add in
    let f : SFits w32 e.redelivery = search rules in
    let g : SFits w32 more.result = search rules in
    let h : SFits w64 e.expiration = search rules in
    rw (to_z-of_z w64 e.expiration h, to_z-of_z w32 more.result g)
    (ap (λ (x : ℤ). with_redelivery x e) (more.ensures ∙ ap (λ (x : ℤ). saturate_signed w32 (x +ℤ pos 1)) (to_z-of_z w32 e.redelivery f) ∙ saturated e.redelivery f))
