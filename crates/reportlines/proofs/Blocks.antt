-- Lines of a report: how long they are; those of blocks, one after another; and what is gone. Assumes nothing.
use Prim.Native.Nat.{ℕ, ◌+◌, ◌*◌, ◌≤◌, ◌<◌}
use native.Mathlib.Numerals.{add-one}
use native.Mathlib.Omega.{arith}
use mathlib.Core.Path.{◌≡◌, refl, sym, ap, ◌∙◌, subst, subst⁻¹}
use mathlib.Core.Bool.{Bool, true, false, not, ◌&&◌}
use mathlib.Core.List.{List, [], ◌∷◌, ◌++◌, append_assoc, append-nil}
use borrow.Author.Tests.{eq-eqb, ne_eqb}
use lib.Dec.{eqb}
use lib.ListN.{length, take, get_or, length-append, length-take}
use lib.Seq.{take-suc}
use Rattle.std.specs.List.{fold}
use Rattle.words.specs.Words.{signed}
use Rattle.definition.specs.Words.{at}
use Rattle.definition.proofs.Tests.{by-if}
use Rattle.fates.specs.Blocks.{Block}
use Rattle.callfile.specs.Lines.{field, signed_field, word_field}
use Rattle.callfile.specs.Placed.{Puts, PutLine}
use Rattle.callfile.proofs.Digits.{word-length, signed-length}
use Rattle.callfile.proofs.Parts.{then, line-puts, none-put}
use Rattle.reportlines.specs.declared.Ways.{Ways}
use Rattle.reportlines.specs.declared.Gone.{Gone}
use Rattle.reportlines.specs.ReportLines.{turn_line, join_line, enqueue_line, brought_line, place_name, block_line, blocks_text, one_gone, all_gone, totals_line}

-- ---- parts

module _ {at r : ℕ} {out out' : List ℕ} where
  pub letter-put : {b : ℕ} → at + 1 ≤ length out → PutLine 1 (b ∷ []) at out r out' → Puts (b ∷ []) at out r out'
  letter-put h p = line-puts h (omega arith) p

  pub number_put : (n : ℕ) → at + 128 ≤ length out → PutLine 128 (word_field false n) at out r out' → Puts (field n) at out r out' × (r ≤ at + 21)
  number_put n h p =
      let q : Puts (field n) at out r out' = line-puts h (omega (arith, word-length n)) p in
      (q, omega (arith, q.next, word-length n))

  pub signed-put : (w : ℕ) → at + 128 ≤ length out → PutLine 128 (word_field true w) at out r out' → Puts (signed_field (signed w)) at out r out' × (r ≤ at + 22)
  signed-put w h p =
      let q : Puts (signed_field (signed w)) at out r out' = line-puts h (omega (arith, signed-length (signed w))) p in
      (q, omega (arith, q.next, signed-length (signed w)))

  -- a name's bytes
  pub name-put : (place k : ℕ) → place_name place ≡ place_name k → length (place_name k) ≤ 14 → at + 14 ≤ length out → PutLine (length (place_name k)) (place_name k) at out r out' → Puts (place_name place) at out r out' × (r ≤ at + 14)
  name-put place k e n h p =
      let q : Puts (place_name k) at out r out' = line-puts (omega (arith, n, h)) (omega arith) p in
      (subst⁻¹ (λ (t : List ℕ). Puts t at out r out') e q, omega (arith, q.next, n))

-- ---- what a call brought

module _ (refusal code : ℕ) (ws : List ℕ) where
  pub refused_none : (queue : Bool) → (refusal ≡ 0 → ⊥) → brought_line refusal code ws queue ≡ []
  unfolding brought_line
  refused_none queue h = rw (ne_eqb refusal 0 h)

  pub joined : (queue : Bool) → refusal ≡ 0 → code ≡ 2 → brought_line refusal code ws queue ≡ join_line ws
  unfolding brought_line
  joined queue h k = rw (eq-eqb refusal 0 h, eq-eqb code 2 k)

  pub other_none : (queue : Bool) → refusal ≡ 0 → (code ≡ 2 → ⊥) → (code ≡ 1 → ⊥) → brought_line refusal code ws queue ≡ []
  unfolding brought_line
  other_none queue h k l = rw (eq-eqb refusal 0 h, ne_eqb code 2 k, ne_eqb code 1 l)

  pub topic-none : (queue : Bool) → refusal ≡ 0 → code ≡ 1 → queue ≡ false → brought_line refusal code ws queue ≡ []
  unfolding brought_line
  topic-none queue h l q = rw (eq-eqb refusal 0 h, l, q)

  pub enqueued : (queue : Bool) → refusal ≡ 0 → code ≡ 1 → queue ≡ true → brought_line refusal code ws queue ≡ enqueue_line ws
  unfolding brought_line
  enqueued queue h l q = rw (eq-eqb refusal 0 h, l, q)

-- ---- how long

pub turn-length : (index code refusal : ℕ) (w : Ways) → length (turn_line index code refusal w) ≤ 128
unfolding turn_line
turn-length index code refusal w = simp length-append (omega (arith, word-length index, word-length code, word-length refusal, word-length w.waiting, word-length w.flying, word-length w.reserved))

pub totals-length : (w : Ways) (g : Gone) → length (totals_line w g) ≤ 256
unfolding totals_line
totals-length w g = simp length-append (omega (arith, word-length w.waiting, word-length w.flying, word-length w.reserved, word-length g.dequeued, word-length g.expired, word-length g.discarded, word-length g.dead_lettered, word-length g.cleared))

join-length : (ws : List ℕ) → length (join_line ws) ≤ 128
unfolding join_line
join-length ws = simp length-append (omega (arith, word-length (at 0 ws), signed-length (signed (at 1 ws)), signed-length (signed (at 2 ws)), word-length (at 5 ws)))

enqueue-length : (ws : List ℕ) → length (enqueue_line ws) ≤ 128
unfolding enqueue_line
enqueue-length ws = simp length-append (omega (arith, word-length (at 0 ws), word-length (at 2 ws)))

pub brought-length : (refusal code : ℕ) (ws : List ℕ) (queue : Bool) → length (brought_line refusal code ws queue) ≤ 128
unfolding brought_line
brought-length refusal code ws queue =
    by-if (λ (t : List ℕ). length t ≤ 128) (not (eqb refusal 0)) _ _ (λ _. omega arith)
    (λ _. by-if (λ (t : List ℕ). length t ≤ 128) (eqb code 2) _ _ (λ _. join-length ws)
    (λ _. by-if (λ (t : List ℕ). length t ≤ 128) (eqb code 1 && queue) _ _ (λ _. enqueue-length ws) (λ _. omega arith)))

pub name-length : (place : ℕ) → length (place_name place) ≤ 14
unfolding place_name
name-length place =
    by-if (λ (t : List ℕ). length t ≤ 14) (eqb place 0) _ _ (λ _. omega arith)
    (λ _. by-if (λ (t : List ℕ). length t ≤ 14) (eqb place 1) _ _ (λ _. omega arith)
    (λ _. by-if (λ (t : List ℕ). length t ≤ 14) (eqb place 2) _ _ (λ _. omega arith)
    (λ _. by-if (λ (t : List ℕ). length t ≤ 14) (eqb place 3) _ _ (λ _. omega arith)
    (λ _. by-if (λ (t : List ℕ). length t ≤ 14) (eqb place 4) _ _ (λ _. omega arith)
    (λ _. by-if (λ (t : List ℕ). length t ≤ 14) (eqb place 5) _ _ (λ _. omega arith)
    (λ _. by-if (λ (t : List ℕ). length t ≤ 14) (eqb place 6) _ _ (λ _. omega arith) (λ _. omega arith)))))))

pub cleared-name : (place : ℕ) → (place ≡ 0 → ⊥) → (place ≡ 1 → ⊥) → (place ≡ 2 → ⊥) → (place ≡ 3 → ⊥) → (place ≡ 4 → ⊥) → (place ≡ 5 → ⊥) → (place ≡ 6 → ⊥) → place_name place ≡ place_name 7
unfolding place_name
cleared-name place a b c d e f g = rw (ne_eqb place 0 a, ne_eqb place 1 b, ne_eqb place 2 c, ne_eqb place 3 d, ne_eqb place 4 e, ne_eqb place 5 f, ne_eqb place 6 g)

pub block-length : (b : Block) → length (block_line b) ≤ 64
unfolding block_line
block-length b = simp length-append (omega (arith, word-length (at 0 b), name-length (at 1 b), word-length (at 2 b)))

blocks-length : (bs : List Block) → length (blocks_text bs) ≤ 64 * length bs
unfolding blocks_text
blocks-length [] = omega arith
blocks-length (b ∷ bs) = simp length-append (omega (arith, block-length b, blocks-length bs))

pub blocks-few : (n : ℕ) (bs : List Block) → length (blocks_text (take n bs)) ≤ 64 * n
blocks-few n bs = omega (arith, blocks-length (take n bs), length-take n bs)

-- ---- the lines of blocks

pub no_blocks : (l : List ℕ) (at : ℕ) → Puts (blocks_text []) at l at l
unfolding blocks_text
no_blocks l at = none-put at l

blocks_last : (bs : List Block) (b : Block) → blocks_text (bs ++ b ∷ []) ≡ blocks_text bs ++ block_line b
unfolding blocks_text
blocks_last [] b = append-nil (block_line b)
blocks_last (a ∷ bs) b = ap (λ (l : List ℕ). block_line a ++ l) (blocks_last bs b) ∙ sym (append_assoc (block_line a) (blocks_text bs) (block_line b))

module _ (blocks : List Block) (from i n : ℕ) (out₀ out : List ℕ) (at : ℕ) (s : Puts (blocks_text (take i blocks)) from out₀ at out) (room₀ : from + (128 + 64 * n) ≤ length out₀) where
  pub so-many : i ≤ n → at ≤ from + (128 + 64 * n)
  so-many h = omega (arith, s.next, blocks-few i blocks)

  pub space : i < n → at + 192 ≤ length out
  space h = omega (arith, s.next, s.same, blocks-few i blocks)

  pub one_more : i < length blocks → {r : ℕ} {out' : List ℕ} → Puts (block_line (get_or blocks i [])) at out r out' → Puts (blocks_text (take (i + 1) blocks)) from out₀ r out'
  one_more fits {r} {out'} p =
      subst (λ (t : List ℕ). Puts t from out₀ r out') (sym (ap (λ (k : ℕ). blocks_text (take k blocks)) (add-one i) ∙ ap blocks_text (take-suc blocks i [] fits) ∙ blocks_last (take i blocks) (get_or blocks i [])))
      (then s p)

-- ---- what is gone

pub fold-gone : (bs : List Block) (g : Gone) → fold (λ (h : Gone) (b : Block). one_gone (at 1 b) h) g bs ≡ all_gone bs g
unfolding all_gone
fold-gone [] g = refl
fold-gone (b ∷ bs) g = fold-gone bs (one_gone (at 1 b) g)
