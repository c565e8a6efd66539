-- A consumer by value, and the row of sixteen words that holds it. Assumes nothing.
use Rattle.std.specs.Prelude.{ℕ, ◌+◌, ◌-◌, ◌^◌, Bool, false, not, ◌&&◌, List, [], ◌∷◌, map, ltb, leb, eqb}
use Rattle.std.proofs.Math.Option.{none, some}
use mir.Val.{bool_byte}
use Rattle.words.specs.Pick.{whether◌then◌else◌}
use Rattle.entry.specs.Entry.{entry_of, selects}
use Rattle.entry.specs.declared.Entry.{Entry}
use Rattle.model.specs.Model.{id_of}
use Rattle.definition.specs.Types.{Kind}
use Rattle.definition.specs.Types as Def
use Rattle.definition.specs.Words.{at}
use Rattle.definition.specs.Layout.{Row, flag, inflight_at, browser_at, tpending_at}
use Rattle.consumers.specs.declared.Sub.{Sub}

-- a consumer's words, by value
unfoldable pub row_sub : Row → Sub
row_sub w = record {
  conn = at 0 w;
  session = at 1 w;
  value = at 2 w;
  prefetch = at 3 w;
  selector = at 4 w;
  next_dseq = at 8 w;
  cursor = at 9 w;
  pull = at 11 w;
  generation = at 12 w;
  freed = at 13 w;
  inflight = at 14 w;
  held = at 15 w;
  no_local = flag (at 5 w);
  browser = flag (at 6 w);
  finished = flag (at 7 w);
  pulling = flag (at 10 w);
}

-- and back
unfoldable pub sub_words : Sub → Row
sub_words s =
    s.conn ∷ s.session ∷ s.value ∷ s.prefetch ∷ s.selector ∷ bool_byte s.no_local ∷ bool_byte s.browser ∷ bool_byte s.finished
    ∷ s.next_dseq ∷ s.cursor ∷ bool_byte s.pulling ∷ s.pull ∷ s.generation ∷ s.freed ∷ s.inflight ∷ s.held ∷ []

-- the consumer that these numbers are with its rows in flight and those that it holds: `sub_at` of the definitions, by value
unfoldable pub sub_view : Kind → Sub → List Row → List Row → Def.Sub
sub_view k s flying held = record {
  id = id_of s.conn s.session s.value;
  prefetch = s.prefetch;
  selector = s.selector;
  no_local = s.no_local;
  browser = browser_at k s.browser (map entry_of held);
  finished = s.finished;
  inflight = map inflight_at flying;
  freed = s.freed;
  next_dseq = s.next_dseq;
  cursor = s.cursor;
  pull = whether s.pulling then some s.pull else none;
  generation = s.generation;
  tpending = tpending_at k s.browser (map entry_of held);
}

-- ---- impl Sub

-- Sub::has_credit
unfoldable pub credit_of : Sub → Bool
credit_of s = whether eqb s.prefetch 0 then s.pulling else ltb (s.inflight - s.freed) s.prefetch

-- Sub::accepts: nothing from its own connection, where it says so
abbrev pub local_of : Sub → ℕ → Bool
local_of s producer = s.no_local && (not (eqb producer 0) && eqb producer s.conn)

unfoldable pub accepts_of : Sub → Entry → Bool
accepts_of s e = whether local_of s e.producer then false else selects e.match_word s.selector

-- ---- one changed

-- so many held
abbrev pub with_held : ℕ → Sub → Sub
with_held x s = record { conn = s.conn; session = s.session; value = s.value; prefetch = s.prefetch; selector = s.selector; next_dseq = s.next_dseq; cursor = s.cursor; pull = s.pull; generation = s.generation; freed = s.freed; inflight = s.inflight; held = x; no_local = s.no_local; browser = s.browser; finished = s.finished; pulling = s.pulling }

-- Sub::send: one more in flight, and no pull waits
abbrev pub sent_sub : Sub → Sub
sent_sub s = record { conn = s.conn; session = s.session; value = s.value; prefetch = s.prefetch; selector = s.selector; next_dseq = s.next_dseq + 1; cursor = s.cursor; pull = 0; generation = s.generation; freed = s.freed; inflight = s.inflight + 1; held = s.held; no_local = s.no_local; browser = s.browser; finished = s.finished; pulling = false }

-- where both numbers can rise
unfoldable pub sent_of : Sub → Sub
sent_of s = whether leb s.next_dseq (2 ^ 63) && leb s.inflight (2 ^ 63) then sent_sub s else s
