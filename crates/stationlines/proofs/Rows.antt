-- Lines of rows, one after another, and those of a station's events: how long they are, and that each has room. Assumes nothing.
use Prim.Native.Nat.{ℕ, ◌+◌, ◌*◌, ◌≤◌, ◌<◌, ◌/◌}
use native.Mathlib.Numerals.{add-one}
use native.Mathlib.Omega.{arith}
use mathlib.Core.Path.{◌≡◌, sym, ap, ◌∙◌, subst}
use mathlib.Core.List.{List, [], ◌∷◌, ◌++◌, append_assoc, append-nil}
use mathlib.Core.Option.{Option, none, some}
use mir.Val.{bool_byte}
use borrow.Author.Tests.{ltb-true}
use lib.Dec.{ltb}
use lib.ListN.{length, take, get_or, length-append, length-take}
use lib.Seq.{take-suc}
use Rattle.definition.specs.Types.{Event, letter, message, null}
use Rattle.definition.specs.Words.{at}
use Rattle.definition.specs.Layout.{Row}
use Rattle.definition.proofs.Tests.{by-if}
use Rattle.callfile.specs.Lines.{decimal, event_line, event_at, event_line_of, words_line}
use Rattle.callfile.specs.Placed.{Puts}
use Rattle.callfile.proofs.Digits.{decimal-one, word-length, signed-length}
use Rattle.callfile.proofs.Parts.{then, none-put}
use Rattle.stationlines.specs.StationLines.{numbered_line, plain_words, sent_words_line, row_lines}

-- ---- no line of an event has more than 128 bytes

event-length : (e : Event) → length (event_line e) ≤ 112
unfolding event_line
event-length (letter seq redelivery cause) = simp length-append (omega (arith, word-length seq, signed-length redelivery, word-length (bool_byte cause)))
event-length (message i seq redelivery) = simp length-append (omega (arith, word-length i.conn, signed-length i.session, signed-length i.value, word-length seq, signed-length redelivery))
event-length (null i) = simp length-append (omega (arith, word-length i.conn, signed-length i.session, signed-length i.value))

maybe-length : (o : Option Event) → length (event_line_of o) ≤ 112
unfolding event_line_of
maybe-length none = omega arith
maybe-length (some e) = event-length e

numbered-length : (d : ℕ) (line : List ℕ) → d < 8 → length line ≤ 112 → length (numbered_line d line) ≤ 128
unfolding numbered_line
numbered-length d [] h k = omega arith
numbered-length d (x ∷ line) h k = omega (arith, k, length-append (decimal d) line, ap length (decimal-one d (omega (arith, h))))

pub sent-length : (w : Row) → length (sent_words_line w) ≤ 128
unfolding sent_words_line
sent-length w = by-if (λ (t : List ℕ). length t ≤ 128) (ltb (at 0 w) 2048) (numbered_line (at 0 w / 256) (words_line (plain_words w))) []
    (λ e. numbered-length (at 0 w / 256) (words_line (plain_words w)) (omega (arith, ltb-true (at 0 w) 2048 e)) (maybe-length (event_at (plain_words w))))
    (λ _. omega arith)

-- ---- the lines of rows

module _ (line : List ℕ → List ℕ) where
  pub no_rows : (l : List ℕ) (at : ℕ) → Puts (row_lines line []) at l at l
  unfolding row_lines
  no_rows l at = none-put at l

  rows_last : (rs : List (List ℕ)) (r : List ℕ) → row_lines line (rs ++ r ∷ []) ≡ row_lines line rs ++ line r
  unfolding row_lines
  rows_last [] r = append-nil (line r)
  rows_last (a ∷ rs) r = ap (λ (l : List ℕ). line a ++ l) (rows_last rs r) ∙ sym (append_assoc (line a) (row_lines line rs) (line r))

  module _ (short : (r : List ℕ) → length (line r) ≤ 128) where
    pub rows-length : (rs : List (List ℕ)) → length (row_lines line rs) ≤ 128 * length rs
    unfolding row_lines
    rows-length [] = omega arith
    rows-length (r ∷ rs) = simp length-append (omega (arith, short r, rows-length rs))

    pub rows_few : (n : ℕ) (rs : List (List ℕ)) → length (row_lines line (take n rs)) ≤ 128 * n
    rows_few n rs = omega (arith, rows-length (take n rs), length-take n rs)

    module _ (rows : List (List ℕ)) (from i n : ℕ) (out₀ out : List ℕ) (at : ℕ) (s : Puts (row_lines line (take i rows)) from out₀ at out) (room₀ : from + (128 + 128 * n) ≤ length out₀) where
      pub so-many : i ≤ n → at ≤ from + (128 + 128 * n)
      so-many h = omega (arith, s.next, rows_few i rows)

      pub space : i < n → at + 256 ≤ length out
      space h = omega (arith, s.next, s.same, rows_few i rows)

      pub one_more : i < length rows → {r : ℕ} {out' : List ℕ} → Puts (line (get_or rows i [])) at out r out' → Puts (row_lines line (take (i + 1) rows)) from out₀ r out'
      one_more fits {r} {out'} p =
          subst (λ (t : List ℕ). Puts t from out₀ r out') (sym (ap (λ (k : ℕ). row_lines line (take k rows)) (add-one i) ∙ ap (row_lines line) (take-suc rows i [] fits) ∙ rows_last (take i rows) (get_or rows i [])))
          (then s p)
