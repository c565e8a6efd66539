-- Lines put one after another: how long they are, and that each has room. Assumes nothing.
use Prim.Native.Nat.{ℕ, ◌+◌, ◌*◌, ◌≤◌, ◌<◌}
use native.Mathlib.Numerals.{add-one}
use native.Mathlib.Nat.{zero-add}
use native.Mathlib.Omega.{arith}
use mathlib.Core.Path.{◌≡◌, refl, sym, ap, ap₂, ◌∙◌, subst}
use mathlib.Core.List.{List, [], ◌∷◌, ◌++◌, map, append_assoc, append-nil}
use mathlib.Core.Option.{Option, none, some}
use mir.Val.{bool_byte}
use lib.ListN.{length, take, drop, get_or, length-append, length-take}
use lib.Seq.{sets-eq, take-suc}
use Rattle.definition.specs.Types.{Event, letter, message, null}
use Rattle.definition.specs.Layout.{Row, event_words}
use Rattle.definition.proofs.Lists.{All}
use Rattle.callfile.specs.Lines.{call_line, event_line, event_at, event_line_of, words_line, events_text, event_rows_text}
use Rattle.callfile.specs.Placed.{Puts, PutLine}
use Rattle.callfile.proofs.Digits.{word-length, signed-length}
use Rattle.callfile.proofs.Events.{EventFits, event-line}
use Rattle.callfile.proofs.Parts.{then, line-puts, none-put}

-- ---- no line has more than 128 bytes

pub call_length : (index refusal answer : ℕ) → length (call_line index refusal answer) ≤ 128
unfolding call_line
call_length index refusal answer = simp length-append (omega (arith, word-length index, word-length refusal, word-length answer))

event-length : (e : Event) → length (event_line e) ≤ 128
unfolding event_line
event-length (letter seq redelivery cause) = simp length-append (omega (arith, word-length seq, signed-length redelivery, word-length (bool_byte cause)))
event-length (message i seq redelivery) = simp length-append (omega (arith, word-length i.conn, signed-length i.session, signed-length i.value, word-length seq, signed-length redelivery))
event-length (null i) = simp length-append (omega (arith, word-length i.conn, signed-length i.session, signed-length i.value))

maybe-length : (o : Option Event) → length (event_line_of o) ≤ 128
unfolding event_line_of
maybe-length none = omega arith
maybe-length (some e) = event-length e

words-length : (w : Row) → length (words_line w) ≤ 128
words-length w = maybe-length (event_at w)

rows-length : (ws : List Row) → length (event_rows_text ws) ≤ 128 * length ws
unfolding event_rows_text
rows-length [] = omega arith
rows-length (w ∷ ws) = simp length-append (omega (arith, words-length w, rows-length ws))

pub events-length : (es : List Event) → length (events_text es) ≤ 128 * length es
unfolding events_text
events-length [] = omega arith
events-length (e ∷ es) = simp length-append (omega (arith, event-length e, events-length es))

-- ---- events in range have the lines of their words

pub events-text : (es : List Event) → All EventFits es → event_rows_text (map event_words es) ≡ events_text es
unfolding event_rows_text events_text
events-text [] f = refl
events-text (e ∷ es) f = ap₂ (λ (l m : List ℕ). l ++ m) (event-line e f.0) (events-text es f.1)

pub rows_few : (n : ℕ) (ws : List Row) → length (event_rows_text (take n ws)) ≤ 128 * n
rows_few n ws = omega (arith, rows-length (take n ws), length-take n ws)

-- a text put at the beginning
module _ {text l l' : List ℕ} {r : ℕ} (p : Puts text 0 l r l') where
  pub first_next : r ≡ length text
  first_next = p.next ∙ zero-add (length text)

  pub first-text : length text ≤ length l → l' ≡ text ++ drop (length text) l
  first-text h = p.text ∙ sets-eq text l 0 (rw zero-add h) ∙ ap (λ (k : ℕ). text ++ drop k l) (zero-add (length text))

-- ---- the lines of events

pub no_lines : (l : List ℕ) (at : ℕ) → Puts (event_rows_text []) at l at l
unfolding event_rows_text
no_lines l at = none-put at l

rows_last : (ws : List Row) (w : Row) → event_rows_text (ws ++ w ∷ []) ≡ event_rows_text ws ++ words_line w
unfolding event_rows_text
rows_last [] w = append-nil (words_line w)
rows_last (v ∷ ws) w = ap (λ (l : List ℕ). words_line v ++ l) (rows_last ws w) ∙ sym (append_assoc (words_line v) (event_rows_text ws) (words_line w))

module _ (events : List Row) (from i n : ℕ) (out₀ out : List ℕ) (at : ℕ) (s : Puts (event_rows_text (take i events)) from out₀ at out) (room₀ : from + 128 * n ≤ length out₀) where
  pub so-many : i ≤ n → at ≤ from + 128 * n
  so-many h = omega (arith, s.next, rows-length (take i events), length-take i events)

  pub one_more : i < n → i < length events → {r : ℕ} {out' : List ℕ} → PutLine 128 (words_line (get_or events i [])) at out r out' → Puts (event_rows_text (take (i + 1) events)) from out₀ r out'
  one_more more fits {r} {out'} p =
      subst (λ (t : List ℕ). Puts t from out₀ r out') (sym (ap (λ (k : ℕ). event_rows_text (take k events)) (add-one i) ∙ ap event_rows_text (take-suc events i [] fits) ∙ rows_last (take i events) (get_or events i [])))
      (then s (line-puts space (words-length (get_or events i [])) p))
    where
      space : at + 128 ≤ length out
      space = omega (arith, s.next, s.same, rows-length (take i events), length-take i events)
