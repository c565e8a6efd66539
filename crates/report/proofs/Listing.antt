-- What a destination holds, listed: what the code leaves is what the definition has. Assumes nothing.
use mathlib.Core.Path.{◌≡◌, sym, ap, ap₂, ◌∙◌}
use mathlib.Core.Bool.{true, false}
use mathlib.Core.List.{List}
use Prim.Native.Nat.{ℕ, ◌≤◌, ◌<◌}
use borrow.Author.Tests.{eq-eqb, ne_eqb, lt-ltb, le-ltb}
use lib.ListN.{length}
use Rattle.definition.specs.Calls.{state_short}
use Rattle.definition.specs.Layout.{Buffers, sound_buffers, lengths_of}
use Rattle.definition.proofs.Tests.{if-true, if-false}
use Rattle.fates.specs.Blocks.{Block}
use Rattle.report.specs.declared.Listed.{Listed}
use Rattle.report.specs.Report.{list_with, held_refusal, as_held, held_list, blocks_in}
use Rattle.report.proofs.Holding.{sound-blocks}

abbrev told : ℕ → ℕ → Listed
told refusal count = record { refusal = refusal; count = count }

module _ (b : Buffers) (room : ℕ) where
  pub list-short : room < 512 → 1 ≡ held_refusal b room
  unfolding held_refusal
  list-short h = rw (lt-ltb room 512 h)

  module _ (h : 512 ≤ room) where
    pub state-short : state_short (lengths_of b 0) ≡ true → 1 ≡ held_refusal b room
    unfolding held_refusal
    state-short s = rw (le-ltb room 512 h, s)

    module _ (s : state_short (lengths_of b 0) ≡ false) where
      pub not_sound : sound_buffers b ≡ false → 2 ≡ held_refusal b room
      unfolding held_refusal
      not_sound u = rw (le-ltb room 512 h, s, u)

      not-refused : sound_buffers b ≡ true → 0 ≡ held_refusal b room
      unfolding held_refusal
      not-refused u = rw (le-ltb room 512 h, s, u)

module _ (b : Buffers) (bs : List Block) where
  abbrev Says : Listed → List Block → Type 0
  Says r list = (r ≡ as_held b (length bs)) × (list ≡ held_list b bs)

  pub refused-list : (r : ℕ) → r ≡ held_refusal b (length bs) → (r ≡ 0 → ⊥) → Says (told r 0) bs
  unfolding as_held held_list
  refused-list r e z =
      let no = ne_eqb (held_refusal b (length bs)) 0 (λ k. z (e ∙ k)) in
      (ap₂ told e (sym (if-false _ 0 no)), sym (if-false _ bs no))

  -- a sound state: what the look without the test puts
  pub sound-list : 512 ≤ length bs → state_short (lengths_of b 0) ≡ false → sound_buffers b ≡ true
      → (count : ℕ) (list : List Block) → count ≡ length (blocks_in b (length bs)) → list ≡ list_with (blocks_in b (length bs)) bs → Says (told 0 count) list
  unfolding as_held held_list
  sound-list h s u count list c p =
      let zero_is = not-refused b (length bs) h s u in
      let yes = eq-eqb (held_refusal b (length bs)) 0 (sym zero_is) in
      let e = sound-blocks b (length bs) h s u in
      (ap₂ told zero_is (c ∙ ap length e ∙ sym (if-true _ 0 yes)), p ∙ ap (λ (x : List Block). list_with x bs) e ∙ sym (if-true _ bs yes))
