-- The lines of a report, as bytes, and the counts of the blocks that are gone. Assumes nothing.
use Rattle.std.specs.Prelude.{ℕ, Bool, not, ◌&&◌, List, [], ◌∷◌, ◌++◌, eqb}
use Rattle.words.specs.Words.{signed}
use Rattle.definition.specs.Base.{whether◌then◌else◌}
use Rattle.definition.specs.Words.{at}
use Rattle.stats.specs.Counted.{more}
use Rattle.fates.specs.Blocks.{Block}
use Rattle.callfile.specs.Lines.{field, signed_field, newline}
use Rattle.reportlines.specs.declared.Ways.{Ways}
use Rattle.reportlines.specs.declared.Gone.{Gone}

-- ---- of a call

-- waiting, in flight, reserved
abbrev pub ways_fields : Ways → List ℕ
ways_fields w = field w.waiting ++ (field w.flying ++ field w.reserved)

-- `c` index code refusal, and how many blocks are held in each way
unfoldable pub turn_line : ℕ → ℕ → ℕ → Ways → List ℕ
turn_line index code refusal w = 99 ∷ (field index ++ (field code ++ (field refusal ++ (ways_fields w ++ newline))))

-- `j` ID flags, of a join's words
unfoldable pub join_line : List ℕ → List ℕ
join_line ws = 106 ∷ (field (at 0 ws) ++ (signed_field (signed (at 1 ws)) ++ (signed_field (signed (at 2 ws)) ++ (field (at 5 ws) ++ newline))))

-- `e` number persistent, of an enqueue's words
unfoldable pub enqueue_line : List ℕ → List ℕ
enqueue_line ws = 101 ∷ (field (at 0 ws) ++ (field (at 2 ws) ++ newline))

-- what an accepted call brought: a join its consumer, an enqueue on a queue its block
unfoldable pub brought_line : ℕ → ℕ → List ℕ → Bool → List ℕ
brought_line refusal code ws on_queue =
    whether not (eqb refusal 0) then []
    else whether eqb code 2 then join_line ws
    else whether eqb code 1 && on_queue then enqueue_line ws
    else []

-- ---- of blocks

-- " waiting", " in-flight", " reserved", " dequeued", " expired", " discarded", " dead-lettered", " cleared"
unfoldable pub place_name : ℕ → List ℕ
place_name place =
    whether eqb place 0 then 32 ∷ 119 ∷ 97 ∷ 105 ∷ 116 ∷ 105 ∷ 110 ∷ 103 ∷ []
    else whether eqb place 1 then 32 ∷ 105 ∷ 110 ∷ 45 ∷ 102 ∷ 108 ∷ 105 ∷ 103 ∷ 104 ∷ 116 ∷ []
    else whether eqb place 2 then 32 ∷ 114 ∷ 101 ∷ 115 ∷ 101 ∷ 114 ∷ 118 ∷ 101 ∷ 100 ∷ []
    else whether eqb place 3 then 32 ∷ 100 ∷ 101 ∷ 113 ∷ 117 ∷ 101 ∷ 117 ∷ 101 ∷ 100 ∷ []
    else whether eqb place 4 then 32 ∷ 101 ∷ 120 ∷ 112 ∷ 105 ∷ 114 ∷ 101 ∷ 100 ∷ []
    else whether eqb place 5 then 32 ∷ 100 ∷ 105 ∷ 115 ∷ 99 ∷ 97 ∷ 114 ∷ 100 ∷ 101 ∷ 100 ∷ []
    else whether eqb place 6 then 32 ∷ 100 ∷ 101 ∷ 97 ∷ 100 ∷ 45 ∷ 108 ∷ 101 ∷ 116 ∷ 116 ∷ 101 ∷ 114 ∷ 101 ∷ 100 ∷ []
    else 32 ∷ 99 ∷ 108 ∷ 101 ∷ 97 ∷ 114 ∷ 101 ∷ 100 ∷ []

-- `f` number place persistent
unfoldable pub block_line : Block → List ℕ
block_line b = 102 ∷ (field (at 0 b) ++ (place_name (at 1 b) ++ (field (at 2 b) ++ newline)))

-- one after another
unfoldable pub blocks_text : List Block → List ℕ
blocks_text [] = []
blocks_text (b ∷ bs) = block_line b ++ blocks_text bs

-- ---- what is gone

abbrev pub none_gone : Gone
none_gone = record { dequeued = 0; expired = 0; discarded = 0; dead_lettered = 0; cleared = 0 }

-- one more at this place, up to the largest word
abbrev pub more_at : ℕ → ℕ → ℕ → ℕ
more_at place mine n = whether eqb place mine then more n else n

unfoldable pub one_gone : ℕ → Gone → Gone
one_gone place g = record {
  dequeued = more_at place 3 g.dequeued;
  expired = more_at place 4 g.expired;
  discarded = more_at place 5 g.discarded;
  dead_lettered = more_at place 6 g.dead_lettered;
  cleared = more_at place 7 g.cleared;
}

-- each of these blocks, where it went
unfoldable pub all_gone : List Block → Gone → Gone
all_gone [] g = g
all_gone (b ∷ bs) g = all_gone bs (one_gone (at 1 b) g)

-- after a call; where an account begins anew, only these are
abbrev pub gone_after : Bool → List Block → Gone → Gone
gone_after anew bs g = all_gone bs (whether anew then none_gone else g)

-- dequeued, expired, discarded, dead-lettered, cleared
abbrev pub gone_fields : Gone → List ℕ
gone_fields g = field g.dequeued ++ (field g.expired ++ (field g.discarded ++ (field g.dead_lettered ++ field g.cleared)))

-- `t` and how many blocks are in each of the eight places
unfoldable pub totals_line : Ways → Gone → List ℕ
totals_line w g = 116 ∷ (ways_fields w ++ (gone_fields g ++ newline))
