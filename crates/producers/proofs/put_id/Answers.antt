use Rattle.std.proofs.Common.{rules, arith, refl, ap, ap₂, ◌≡◌, ◌∙◌, ℕ, ◌+◌, ◌-◌, [], ◌∷◌}
use mir.Syntax.{w64}
use mir.Val.{SFits}
use mir.ValLaws.{to_z-of_z}
use Rattle.words.specs.Words.{unsigned}
use Rattle.producers.specs.Groups.{id_words}
use Rattle.producers.proofs.Words.{lent-over}
use Rattle.producers.proofs.put_id.Goals as goal

pub returns : goal.returns
returns c =
    let a = c.args in
    let f : SFits w64 a.id.session = search rules in
    let g : SFits w64 a.id.value = search rules in
    let s = c.word_of-session.ensures ∙ ap unsigned (to_z-of_z w64 a.id.session f) in
    let v = c.word_of-value.ensures ∙ ap unsigned (to_z-of_z w64 a.id.value g) in
    let e : c.copy_from_slice.new.self ≡ id_words a.id = c.copy_from_slice.ensures.after ∙ ap₂ (λ (x y : ℕ). a.id.conn ∷ x ∷ y ∷ []) s v in
    rw e (lent-over a.at 3 (a.at + 3 - a.at) (id_words a.id) a.head.now (omega arith) refl)
