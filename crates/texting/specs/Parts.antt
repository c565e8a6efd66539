-- A text line by line: what one call of the library takes of it. Assumes nothing.
use Rattle.std.specs.Prelude.{Option, Some, None, Ok, Err, is_some, ℕ, suc, ◌+◌, ◌-◌, ◌≡◌, List, [], ◌∷◌, eqb, leb, length, replicate, take, drop}
use Rattle.words.specs.Pick.{whether◌then◌else◌}
use Rattle.stats.specs.Counted.{more}
use Rattle.callblocks.specs.Packed.{with_call, sealed}
use Rattle.calltext.specs.declared.Fault.{Fault}
use Rattle.calltext.specs.Lines.{Parsed, line_call}
use Rattle.texting.specs.declared.Bad.{Bad}
use Rattle.texting.specs.declared.Filled.{Filled}
use Rattle.texting.specs.Lines.{line_fault, is_bad, message}

-- the place after a line and its end
abbrev pub after_line : ℕ → List ℕ → ℕ
after_line at line = at + suc (length line)

-- a block under construction, how many calls it has, the place in the text, and the lines from there on
pub record Filling : Type 0 where
  pub block : List ℕ
  pub count : ℕ
  pub at : ℕ
  pub rest : List (List ℕ)

abbrev pub filling : List ℕ → ℕ → ℕ → List (List ℕ) → Filling
filling block k at ls = record { block = block; count = k; at = at; rest = ls }

-- a line's call goes into the block, as call k
abbrev pub with_parsed : ℕ → Parsed → List ℕ → List ℕ
with_parsed k (Ok (Some c)) block = with_call k c block
with_parsed k (Ok None) block = block
with_parsed k (Err f) block = block

abbrev pub count_parsed : ℕ → Parsed → ℕ
count_parsed k (Ok (Some c)) = k + 1
count_parsed k (Ok None) = k
count_parsed k (Err f) = k

-- so do the calls of lines, until it has seven
unfoldable pub fill_from : List ℕ → ℕ → ℕ → List (List ℕ) → Filling
fill_from block k at [] = filling block k at []
fill_from block k at (l ∷ ls) = whether leb 7 k then filling block k at (l ∷ ls) else fill_from (with_parsed k (line_call l) block) (count_parsed k (line_call l)) (after_line at l) ls

-- a block without calls begins with zeros, and one with seven is sealed
abbrev pub begun : ℕ → List ℕ → List ℕ
begun k block = whether eqb k 0 then replicate (length block) 0 else block

abbrev pub ended : ℕ → List ℕ → List ℕ
ended k block = whether eqb k 7 then sealed 7 block else block

abbrev pub sealing : Filling → Filling
sealing f = filling (ended f.count f.block) f.count f.at f.rest

-- what is left of the lent block, and the answer
pub record Fills (f : Filling) (r : Filled) (block' : List ℕ) : Type 0 where
  pub count : r.count ≡ f.count
  pub at : r.at ≡ f.at
  pub block : block' ≡ f.block

-- a bad line's fault and number, where it stands, and the place after it
abbrev pub bad_at : Option Fault → ℕ → ℕ → List ℕ → Bad
bad_at fault n at line = record { fault = fault; line = n; from = at; to = at + length line; at = after_line at line }

-- no line is bad
abbrev pub bad_nowhere : ℕ → ℕ → Bad
bad_nowhere n at = record { fault = None; line = n; from = at; to = at; at = at }

-- the first bad line; without one there is no fault, and the number is that of the line after the last
unfoldable pub first_bad : ℕ → ℕ → List (List ℕ) → Bad
first_bad n at [] = bad_nowhere n at
first_bad n at (l ∷ ls) = whether is_bad l then bad_at (line_fault l) n at l else first_bad (more n) (after_line at l) ls

-- what is said of it, by the text that it stands in, and the number of the line after it
abbrev pub said : List ℕ → Bad → List ℕ
said text b = whether is_some b.fault then message b.line (take (b.to - b.from) (drop b.from text)) else []

abbrev pub next_line : Bad → ℕ
next_line b = whether is_some b.fault then more b.line else b.line
