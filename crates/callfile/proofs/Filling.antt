-- Bytes of a piece in a block. Assumes nothing.
use Prim.Native.Nat.{ℕ, ◌+◌, ◌-◌, ◌≤◌, min}
use native.Mathlib.Nat.{add-zero}
use native.Mathlib.Omega.{arith}
use mathlib.Core.Path.{◌≡◌, refl, sym, ap, ap₂, ◌∙◌, subst}
use mathlib.Core.List.{List, [], ◌∷◌, ◌++◌, append_assoc}
use lib.ListN.{length, take, drop, length-append, length-take, length-drop, take-append-drop}
use lib.Seq.{sets-eq, take_at}
use borrow.Rule.Slice.PartMut.{put_mid}
use Rattle.std.proofs.lemmas.List.{take_min}
use Rattle.callfile.proofs.Parts.{copied}
use Rattle.callfile.specs.Placed.{Puts}
use Rattle.callfile.specs.Cutting.{Filled}

no_bytes : (l : List ℕ) → length l ≡ 0 → l ≡ []
no_bytes [] h = refl
no_bytes (a ∷ l) h = absurd (omega arith)

-- no room, or nothing left
pub none_filled : (have from : ℕ) (piece block : List ℕ) → min (length block - have) (length piece - from) ≡ 0 → Filled have (drop from piece) block 0 block
none_filled have from piece block h =
    let z : length (take (length block - have) (drop from piece)) ≡ 0 = length-take (length block - have) (drop from piece) ∙ ap (min (length block - have)) (length-drop from piece) ∙ h in
    record {
      count = sym z;
      bytes = sym (ap₂ (λ (x : List ℕ) (k : ℕ). take have block ++ (x ++ drop k block)) (no_bytes (take (length block - have) (drop from piece)) z) (add-zero have) ∙ take-append-drop have block);
    }

pub some-filled : (have : ℕ) (rest block part : List ℕ) → part ≡ take (length block - have) rest → have ≤ length block → {r : ℕ} {block' : List ℕ} → Puts part have block r block' → Filled have rest block (r - have) block'
some-filled have rest block part e h {r} {block'} p =
    let few : length part ≡ min (length block - have) (length rest) = ap length e ∙ length-take (length block - have) rest in
    let n : length part ≡ r - have = omega (arith, p.next) in
    record {
      count = sym n ∙ ap length e;
      bytes = p.text ∙ sets-eq part block have (omega arith) ∙ append_assoc (take have block) part (drop (have + length part) block)
          ∙ ap₂ (λ (x : List ℕ) (k : ℕ). take have block ++ (x ++ drop (have + k) block)) e n;
    }

-- as much as fits, copied
pub copied-filled : (have from n k : ℕ) (piece block now : List ℕ) → n ≡ min (length block - have) (length piece - from) → k ≡ n → have ≤ length block → now ≡ take n (drop from piece)
    → Filled have (drop from piece) block n (put_mid have k block now)
copied-filled have from n k piece block now e f h is =
    let rest : List ℕ = drop from piece in
    let part : List ℕ = take (length block - have) rest in
    let size : length part ≡ n = omega (arith, length-take (length block - have) rest, length-drop from piece) in
    let same : now ≡ part = is ∙ ap (λ (m : ℕ). take m rest) (e ∙ sym (ap (min (length block - have)) (length-drop from piece))) ∙ take_min (length block - have) rest in
    let r : have + length part - have ≡ n = omega arith in
    subst (λ (m : ℕ). Filled have rest block m (put_mid have k block now)) r (some-filled have rest block part refl h (copied part now block have k same (omega arith) (omega arith)))

-- what stands in the block then
pub filled-length : {have r : ℕ} {rest block block' : List ℕ} → have ≤ length block → Filled have rest block r block' → length block' ≡ length block
filled-length {have} {r} {rest} {block} {block'} h f =
    ap length f.bytes ∙ length-append (take have block) (take (length block - have) rest ++ drop (have + r) block)
    ∙ (omega (arith, length-take have block, length-append (take (length block - have) rest) (drop (have + r) block), length-take (length block - have) rest, length-drop (have + r) block, f.count))

pub filled-bytes : {have r : ℕ} {rest block block' : List ℕ} → have ≤ length block → Filled have rest block r block' → take (have + r) block' ≡ take have block ++ take (length block - have) rest
filled-bytes {have} {r} {rest} {block} {block'} h f =
    ap (take (have + r)) (f.bytes ∙ sym (append_assoc (take have block) (take (length block - have) rest) (drop (have + r) block)))
    ∙ take_at (take have block ++ take (length block - have) rest) (drop (have + r) block) (have + r)
    (length-append (take have block) (take (length block - have) rest) ∙ omega (arith, length-take have block, f.count))
