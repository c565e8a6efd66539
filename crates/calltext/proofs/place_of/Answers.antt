use Rattle.std.proofs.Common.{true, false, rules, tests, ◌∙◌, ◌≡◌, sym, Bor, List, ℕ, length, map, ap, unwrap_or}
use Rattle.std.proofs.lemmas.Iterator.{YieldsList-from_slice, IsFirst-from_position}
use Rattle.textwords.specs.Text.{same_text}
use Rattle.calltext.specs.Names.{names, name_place, place_in}
use Rattle.calltext.proofs.Tables.{first-place}
use Rattle.calltext.proofs.place_of.Goals as goal

pub returns : goal.returns
unfolding names name_place
returns c =
    let a = c.args in
    let l = c.iter.result.rest.now in
    let r = first-place a.word.now l c.position.result (IsFirst-from_position _ _ c.position.result (λ (n : Bor (List ℕ)). same_text a.word.now n.now ≡ true) (λ (n : Bor (List ℕ)). same_text a.word.now n.now ≡ false) c.position.ensures.ran (YieldsList-from_slice l cc) (λ x q k. search (rules, tests)) (λ x q k. search (rules, tests))) in
    let m : map (λ (n : Bor (List ℕ)). n.now) l ≡ names = ap (map (λ (n : Bor (List ℕ)). n.now)) c.iter.ensures.rest in
    let k : length l ≡ 18 = ap length c.iter.ensures.rest in
    c.unwrap_or.ensures ∙ ap (unwrap_or c.position.result) (sym k) ∙ sym r ∙ ap (λ (ns : List (List ℕ)). place_in ns 0 a.word.now) m
