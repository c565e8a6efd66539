-- The entries that an acknowledgement rejects, of lent buffers, and where they are copied to. Assumes nothing.
use Rattle.std.specs.Prelude.{◌≡◌, Bool, not, ◌&&◌, List, [], map, ℕ, leb, eqb, length, take, drop}
use Rattle.entry.specs.Entry.{entry_of}
use Rattle.definition.specs.Base.{whether◌then◌else◌}
use Rattle.definition.specs.Types.{Id, Entry, Dest}
use Rattle.definition.specs.Consumer.{Ack, ack_type}
use Rattle.definition.specs.Destination.{sub_of}
use Rattle.definition.specs.Words.{at, ack_in, decode}
use Rattle.definition.specs.Layout.{Row, Buffers, view}
use Rattle.definition_station.specs.Letters.{is_poison, rejected_of, rejected}
use Rattle.state.specs.declared.Head.{Head}
use Rattle.state.specs.State.{loaded, head_view}
use Rattle.state.specs.Fits.{fits}
use Rattle.table.specs.declared.Span.{Span}
use Rattle.acks.specs.Rules.{in_numbers}
use Rattle.reserved.specs.Reserved.{wants_row}

-- ---- which calls

-- an acknowledgement of type POISON, outside a transaction
unfoldable pub rejecting : ℕ → List ℕ → Bool
rejecting code ws = eqb code 4 && (not (ack_in ws).transacted && is_poison (ack_type (ack_in ws).type))

-- ---- which entries

-- the head is whole, the numbers fit the tables, and a list of so many rows has a place for each row in use
abbrev pub letters_fit : Buffers → ℕ → Bool
letters_fit b room = leb 8347 (length b.head) && (leb 512 room && fits b.subs (loaded b.head b.subs) (length b.rows) 545)

-- what a call rejects, where they do
unfoldable pub buffer_rejected : Buffers → ℕ → ℕ → List ℕ → List Entry
buffer_rejected b room code ws = whether letters_fit b room then rejected (view b) (decode code ws) else []

-- what an ack of this consumer rejects
abbrev pub ack_rejected : Id → Ack → Dest → List Entry
ack_rejected id a t = rejected_of id a t (sub_of id t)

-- the same of a destination by value: producers and audits are not asked
abbrev pub head_rejected : Id → Ack → Head → List Row → List Row → List Entry
head_rejected id a d subs rows = ack_rejected id a (head_view d subs rows [] [])

-- a persistent row with a sequence number of the span that is reserved for that consumer; of one that is present, with a delivery number of it
unfoldable pub letter_row : Bool → Id → Span → Row → Bool
letter_row gone id p w = (whether gone then wants_row id p w else in_numbers p (at 6 w)) && (entry_of w).persistent

-- ---- where to

-- n rows at the front of a list hold these entries, and the rest of it is as it was
pub record Copied (es : List Entry) (n : ℕ) (out out' : List Row) : Type 0 where
  pub count : n ≡ length es
  pub entries : map entry_of (take n out') ≡ es
  pub later : drop n out' ≡ drop n out
  pub size : length out' ≡ length out
