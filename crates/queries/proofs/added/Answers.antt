use mathlib.Core.Path.{sym, ap, ◌∙◌}
use mathlib.Core.Bool.{Bool}
use Rattle.words.specs.Pick.{whether◌then◌else◌}
use Rattle.queries.proofs.added.Goals as goal

pub known-requires : goal.known-requires
known-requires c =
    let both = c.requires in record { from_le_to = both.from_le_to; to_in_bounds = both.to_in_bounds; slot = both.slot }

pub returns-then-known : goal.returns-then-known
returns-then-known c =
    let a = c.args in
    ap (λ (b : Bool). whether b then 0 else a.size) (sym c.if-known.true ∙ c.known.ensures)

pub returns : goal.returns
returns c =
    let a = c.args in
    ap (λ (b : Bool). whether b then 0 else a.size) (sym c.if-known.false ∙ c.known.ensures)
