-- That each word is 0, as an iterator's `all` says it. Assumes nothing.
use Rattle.std.proofs.Common.{◌≡◌, refl, ap₂, ℕ, ◌&&◌, List, [], ◌∷◌, eqb, nat_eq}
use Rattle.std.specs.List.{list_all}
use Rattle.words.specs.Pick.{all}
use Rattle.words.proofs.Tests.{eqb_comm}

pub zeros : (ws : List ℕ) → list_all (λ w. nat_eq w 0) ws ≡ all (eqb 0) ws
zeros [] = refl
zeros (w ∷ ws) = ap₂ ◌&&◌ (eqb_comm w 0) (zeros ws)
