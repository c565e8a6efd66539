-- A block as the code leaves it is the one that the definitions give. Assumes nothing.
use Prim.Native.Nat.{ℕ, ◌*◌, ◌≤◌, ◌<◌}
use native.Mathlib.Omega.{arith}
use mathlib.Core.Path.{◌≡◌, ap, ◌∙◌}
use mathlib.Core.List.{List}
use borrow.Author.Tests.{le-leb, lt-leb}
use lib.ListN.{length}
use lib.Seq.{sets}
use Rattle.calls.specs.declared.Call.{Call}
use Rattle.callfile.specs.Blocks.{check, check_in}
use Rattle.callfile.specs.Placed.{Puts}
use Rattle.callfile.proofs.Parts.{then}
use Rattle.callblocks.specs.Packed.{low_bytes, word_bytes, call_bytes, with_call, with_check, sealed}

module _ (k : ℕ) (c : Call) (l : List ℕ) where
  pub short-call : length l < 512 → l ≡ with_call k c l
  unfolding with_call
  short-call h = rw (lt-leb 512 (length l) h)

  pub far_call : 512 ≤ length l → 6 < k → l ≡ with_call k c l
  unfolding with_call
  far_call h f = rw (le-leb 512 (length l) h, lt-leb k 6 f)

  pub call-put : {m r : ℕ} {l₁ l₂ : List ℕ} → 512 ≤ length l → k ≤ 6 → Puts (low_bytes 8 c.code) (k * 72) l m l₁ → Puts (word_bytes c.words) m l₁ r l₂ → l₂ ≡ with_call k c l
  unfolding with_call call_bytes word_bytes
  call-put h f x y = rw (le-leb 512 (length l) h, le-leb k 6 f) (then x y).text

module _ (n : ℕ) (l : List ℕ) where
  pub short-seal : length l < 512 → l ≡ sealed n l
  unfolding sealed
  short-seal h = rw (lt-leb 512 (length l) h)

  pub seal-put : {m r s : ℕ} {l₁ l₂ : List ℕ} → 512 ≤ length l → Puts (low_bytes 4 n) 504 l m l₁ → s ≡ check_in l₁ → Puts (low_bytes 4 s) 508 l₁ r l₂ → l₂ ≡ sealed n l
  unfolding sealed check_in
  seal-put {m} {r} {s} {l₁} {l₂} h x e y =
      let k : 512 ≤ length l₁ = omega (arith, x.same) in
      let f : s ≡ check l₁ = rw (le-leb 512 (length l₁) k) at e in
      rw (le-leb 512 (length l) h) (y.text ∙ ap (λ (z : ℕ). sets l₁ 508 (low_bytes 4 z)) f ∙ ap with_check x.text)
