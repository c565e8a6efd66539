-- What a call rejects of lent buffers, by the tests of its words. Assumes nothing.
use mathlib.Core.Path.{◌≡◌, refl, sym, ap, ap₂, ◌∙◌}
use mathlib.Core.Bool.{true, false}
use mathlib.Core.List.{List, []}
use Prim.Native.Nat.{ℕ}
use Rattle.definition.specs.Base.{whether◌then◌else◌, is_some}
use Rattle.definition.specs.Types.{Id, Entry}
use Rattle.definition.specs.Consumer.{Ack}
use Rattle.definition.specs.Words.{id_in, ack_in, decode}
use Rattle.definition.specs.Layout.{Buffers, view}
use Rattle.definition.proofs.Tests.{by-if}
use Rattle.definition_station.specs.Letters.{rejected}
use Rattle.rejects.specs.Rejects.{rejecting, letters_fit, buffer_rejected, ack_rejected}
use Rattle.rejects.proofs.Words.{none-rejected, not-arguments, ack-rejected}

module _ (b : Buffers) (room code : ℕ) (ws : List ℕ) where
  as-rejected : (es : List Entry) → rejected (view b) (decode code ws) ≡ es → buffer_rejected b room code ws ≡ (whether letters_fit b room then es else [])
  unfolding buffer_rejected
  as-rejected es e = ap (λ (l : List Entry). whether letters_fit b room then l else []) e

  none-either : (whether◌then◌else◌ {A = List Entry} (letters_fit b room) [] []) ≡ []
  none-either = by-if (λ (l : List Entry). l ≡ []) (letters_fit b room) [] [] (λ _. refl) (λ _. refl)

  pub call-other : rejecting code ws ≡ false → buffer_rejected b room code ws ≡ []
  call-other n = as-rejected [] (none-rejected code ws (view b) n) ∙ none-either

  pub call-refused : is_some (decode code ws) ≡ false → buffer_rejected b room code ws ≡ []
  call-refused n = as-rejected [] (not-arguments code ws (view b) n) ∙ none-either

  pub call-rejects : rejecting code ws ≡ true → is_some (decode code ws) ≡ true → (id : Id) → id ≡ id_in ws → (a : Ack) → a ≡ ack_in ws
      → buffer_rejected b room code ws ≡ (whether letters_fit b room then ack_rejected id a (view b) else [])
  call-rejects y s id ei a ea = as-rejected (ack_rejected id a (view b)) (ack-rejected code ws (view b) y s ∙ ap₂ (λ (i : Id) (x : Ack). ack_rejected i x (view b)) (sym ei) (sym ea))
