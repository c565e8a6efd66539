-- Lines with a number behind their letter: how long they are, and what their six words say. Assumes nothing.
use Prim.Native.Nat.{ℕ, ◌+◌, ◌≤◌, ◌<◌, ◌/◌, ◌%◌}
use native.Mathlib.Omega.{arith}
use mathlib.Core.Path.{◌≡◌, refl, sym, ap, ◌∙◌}
use mathlib.Core.Bool.{true, false}
use mathlib.Core.List.{List, [], ◌∷◌}
use borrow.Author.Tests.{ne_eqb, lt-ltb, le-ltb}
use lib.ListN.{length}
use Rattle.words.specs.Words.{signed}
use Rattle.definition.specs.Words.{at}
use Rattle.callfile.specs.Lines.{field, signed_field, word_field, event_line, letter_at, message_at, null_at, event_at, event_line_of, words_line}
use Rattle.callfile.specs.Placed.{Puts, PutLine}
use Rattle.callfile.proofs.Digits.{decimal-one, word-length, signed-length}
use Rattle.callfile.proofs.Parts.{line-puts}
use Rattle.stationlines.specs.StationLines.{numbered_line, plain_words, sent_words_line}

-- ---- parts

module _ {at r : ℕ} {out out' : List ℕ} where
  pub letter-put : {b : ℕ} → at + 1 ≤ length out → PutLine 1 (b ∷ []) at out r out' → Puts (b ∷ []) at out r out'
  letter-put h p = line-puts h (omega arith) p

  pub number_put : (n : ℕ) → at + 128 ≤ length out → PutLine 128 (word_field false n) at out r out' → Puts (field n) at out r out' × (r ≤ at + 21)
  number_put n h p =
      let q : Puts (field n) at out r out' = line-puts h (omega (arith, word-length n)) p in
      (q, omega (arith, q.next, word-length n))

  pub signed-put : (w : ℕ) → at + 128 ≤ length out → PutLine 128 (word_field true w) at out r out' → Puts (signed_field (signed w)) at out r out' × (r ≤ at + 22)
  signed-put w h p =
      let q : Puts (signed_field (signed w)) at out r out' = line-puts h (omega (arith, signed-length (signed w))) p in
      (q, omega (arith, q.next, signed-length (signed w)))

  pub place-put : (d : ℕ) → d < 8 → Puts (field d) at out r out' → r ≤ at + 2
  place-put d h p = omega (arith, p.next, ap length (decimal-one d (omega (arith, h))))

-- ---- an event's line by its kind

letter-same : (ws : List ℕ) → letter_at (plain_words ws) ≡ letter_at ws
letter-same [] = refl
letter-same (w ∷ ws) = refl

message-same : (ws : List ℕ) → message_at (plain_words ws) ≡ message_at ws
message-same [] = refl
message-same (w ∷ ws) = refl

null-same : (ws : List ℕ) → null_at (plain_words ws) ≡ null_at ws
null-same [] = refl
null-same (w ∷ ws) = refl

module _ (ws : List ℕ) where
  pub above-none : 2048 ≤ at 0 ws → sent_words_line ws ≡ []
  unfolding sent_words_line
  above-none h = rw (le-ltb (at 0 ws) 2048 h)

  module _ (low : at 0 ws < 2048) where
    abbrev d : ℕ
    d = at 0 ws / 256

    placed : sent_words_line ws ≡ numbered_line d (words_line (plain_words ws))
    unfolding sent_words_line
    placed = rw (lt-ltb (at 0 ws) 2048 low)

    pub is-letter : at 0 ws % 256 ≡ 1 → numbered_line d (event_line (letter_at ws)) ≡ sent_words_line ws
    unfolding event_at event_line_of
    is-letter e = sym (placed ∙ (let t : words_line (plain_words ws) ≡ event_line (letter_at (plain_words ws)) = rw e in ap (numbered_line d) (t ∙ ap event_line (letter-same ws))))

    pub is-message : at 0 ws % 256 ≡ 2 → numbered_line d (event_line (message_at ws)) ≡ sent_words_line ws
    unfolding event_at event_line_of
    is-message e = sym (placed ∙ (let t : words_line (plain_words ws) ≡ event_line (message_at (plain_words ws)) = rw e in ap (numbered_line d) (t ∙ ap event_line (message-same ws))))

    pub is-null : at 0 ws % 256 ≡ 3 → numbered_line d (event_line (null_at ws)) ≡ sent_words_line ws
    unfolding event_at event_line_of
    is-null e = sym (placed ∙ (let t : words_line (plain_words ws) ≡ event_line (null_at (plain_words ws)) = rw e in ap (numbered_line d) (t ∙ ap event_line (null-same ws))))

    pub is-other : (at 0 ws % 256 ≡ 1 → ⊥) → (at 0 ws % 256 ≡ 2 → ⊥) → (at 0 ws % 256 ≡ 3 → ⊥) → sent_words_line ws ≡ []
    unfolding event_at event_line_of numbered_line
    is-other e f g = placed ∙ (let t : words_line (plain_words ws) ≡ [] = rw (ne_eqb (at 0 ws % 256) 1 e, ne_eqb (at 0 ws % 256) 2 f, ne_eqb (at 0 ws % 256) 3 g) in ap (numbered_line d) t)
