-- Identifiers that are the same. Assumes nothing.
use mathlib.Core.Path.{◌≡◌, sym, ◌∙◌, ap}
use mathlib.Core.Bool.{false, true≢false}
use Rattle.model.proofs.Ids.{same_id_lem, same-id-refl}
use Rattle.definition.specs.Types.{Id}
use Rattle.definition.specs.Consumer.{same_id}
use Rattle.definition.proofs.Tests.{by-test}

-- either way round
pub same-sym : (a b : Id) → same_id a b ≡ false → same_id b a ≡ false
same-sym a b h = by-test (same_id b a) (λ e. absurd (true≢false (sym (ap (λ x. same_id x b) (sym (same_id_lem b a e)) ∙ same-id-refl b) ∙ h))) (λ e. e)
