-- A consumer and the row that holds it: the round trip, a row's sixteen words, and that words compare as the identifiers that they hold.
-- Assumes nothing.
use mathlib.Core.Path.{◌≡◌, sym, ap, ◌∙◌}
use mathlib.Core.Bool.{◌&&◌}
use Prim.Native.Nat.{ℕ, ◌≤◌, ◌^◌}
use borrow.Author.Tests.{le-leb}
use lib.Dec.{eqb}
use lib.ListN.{length, get_or, drop}
use lib.Seq.{get_or-drop}
use mir.Syntax.{w64}
use mir.Val.{Fits, SFits, to_z, of_z}
use Rattle.words.specs.Words.{unsigned}
use Rattle.words.proofs.Words.{signed-unsigned, flag-of-word}
use Rattle.model.specs.declared.Id.{Id}
use Rattle.model.specs.Model.{id_of, same_id}
use Rattle.model.proofs.Ids.{same-signed-words}
use Rattle.definition.specs.Words.{at}
use Rattle.definition.specs.Layout.{Row, id_at}
use Rattle.entry.proofs.Rows.{elements, listed}
use Rattle.consumers.specs.declared.Sub.{Sub}
use Rattle.consumers.specs.Consumers.{row_sub, sub_words, sent_sub, sent_of}
use Rattle.consumers.specs.Table.{sixteen}

-- what was stored is loaded again
pub round : (s : Sub) → row_sub (sub_words s) ≡ s
unfolding row_sub sub_words
round s = simp flag-of-word

-- ---- a row is its sixteen words

pub sixteen-words : (w : Row) → length w ≡ 16 → sixteen w ≡ w
sixteen-words w e = ap (elements (λ k. get_or w k 0)) (sym e) ∙ listed w

-- ---- identifiers

-- of the consumer that a row is reserved for
pub holder-words : (w : Row) → id_at (drop 6 w) ≡ id_of (get_or w 6 0) (get_or w 7 0) (get_or w 8 0)
holder-words w = rw (get_or-drop 6 w 0 0, get_or-drop 6 w 1 0, get_or-drop 6 w 2 0)

-- an identifier by its words, which the code makes of the bits of its numbers
pub id-words : (i : Id) (s v : ℕ) → SFits w64 i.session → SFits w64 i.value → s ≡ unsigned (to_z w64 (of_z w64 i.session)) → v ≡ unsigned (to_z w64 (of_z w64 i.value))
    → id_of i.conn s v ≡ i
id-words i s v f g p q = rw (p, q, signed-unsigned i.session f, signed-unsigned i.value g, signed-unsigned i.session f, signed-unsigned i.value g)

-- ---- what is sent

pub sent_is : (s : Sub) → s.next_dseq ≤ 2 ^ 63 → s.inflight ≤ 2 ^ 63 → sent_of s ≡ sent_sub s
unfolding sent_of
sent_is s h k = rw (le-leb s.next_dseq (2 ^ 63) h, le-leb s.inflight (2 ^ 63) k)
