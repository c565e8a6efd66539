-- A file as blocks of 512 bytes, a program that does one block after another, and the same program where the file comes in pieces, cut anywhere.
-- What it does with a block is its own. Assumes nothing.
use Rattle.std.specs.Prelude.{ℕ, zero, suc, ◌+◌, ◌-◌, ◌≡◌, Bool, true, false, not, ◌&&◌, List, [], ◌∷◌, ◌++◌, ltb, eqb, length, take, drop}
use Rattle.words.specs.Pick.{whether◌then◌else◌}
use Rattle.stats.specs.Counted.{more}

-- ---- blocks

-- 512 bytes each, the last perhaps fewer, none for no bytes; at most n
unfoldable pub cut_at_most : ℕ → List ℕ → List (List ℕ)
cut_at_most zero bytes = []
cut_at_most (suc n) [] = []
cut_at_most (suc n) (b ∷ bs) = take 512 (b ∷ bs) ∷ cut_at_most n (drop 512 (b ∷ bs))

-- all of a file: there are no more blocks than bytes
unfoldable pub cut_blocks : List ℕ → List (List ℕ)
cut_blocks bytes = cut_at_most (length bytes) bytes

-- ---- one block after another

-- what was printed, whether reading goes on, and the program's state
pub record Did (S : Type 0) : Type 0 where
  pub text : List ℕ
  pub goes_on : Bool
  pub state : S

-- what a program does with a block's bytes, by the block's number and its state
abbrev pub Work : Type 0 → Type 0
Work S = List ℕ → ℕ → S → Did S

module _ {S : Type 0} where
  -- nothing is printed
  abbrev pub silent : Bool → S → Did S
  silent goes_on s = record { text = []; goes_on = goes_on; state = s }

  -- what was printed before the rest
  abbrev pub printed_before : List ℕ → Did S → Did S
  printed_before text d = record { text = text ++ d.text; goes_on = d.goes_on; state = d.state }

-- the blocks of a list, from a number on, which counts up to the largest word and stays there; the first that says so is the last
module _ {S : Type 0} (work : Work S) where
  unfoldable pub along_blocks : List (List ℕ) → ℕ → S → Did S
  along_blocks [] number s = silent true s
  along_blocks (b ∷ bs) number s =
      let d = work b number s in
      printed_before d.text (whether d.goes_on then along_blocks bs (more number) d.state else silent false d.state)

-- ---- a file in pieces

-- between two pieces: the bytes of the block that is not whole yet, its number, whether reading goes on, and the program's state
pub record Stage (S : Type 0) : Type 0 where
  pub begun : List ℕ
  pub number : ℕ
  pub goes_on : Bool
  pub state : S

-- after a step: what was printed, how many bytes of the piece are used up, and the stage
pub record StepTaken (S : Type 0) : Type 0 where
  pub text : List ℕ
  pub used : ℕ
  pub stage : Stage S

-- before the first piece
abbrev pub beginning : {S : Type 0} → S → Stage S
beginning s = record { begun = []; number = 0; goes_on = true; state = s }

-- the bytes of a piece that a block still lacks
abbrev pub lacked : List ℕ → List ℕ → List ℕ
lacked begun rest = take (512 - length begun) rest

module _ {S : Type 0} (work : Work S) where
  -- the block has these bytes now: where it is whole, it is done
  unfoldable pub with_bytes : List ℕ → ℕ → Stage S → StepTaken S
  with_bytes block used g =
      let d = work block g.number g.state in
      whether ltb (length block) 512 then record { text = []; used = used; stage = record { begun = block; number = g.number; goes_on = g.goes_on; state = g.state } }
      else record { text = d.text; used = used; stage = record { begun = []; number = more g.number; goes_on = d.goes_on; state = d.state } }

  -- a step on what is left of a piece: bytes for one block. Where reading has ended, all of it is used up, and nothing is done
  unfoldable pub take_piece : List ℕ → Stage S → StepTaken S
  take_piece rest g =
      whether g.goes_on then with_bytes (g.begun ++ lacked g.begun rest) (length (lacked g.begun rest)) g
      else record { text = []; used = length rest; stage = g }

  -- no more bytes: a block that was begun is done with the bytes that it has
  unfoldable pub end_of_file : Stage S → Did S
  end_of_file g = whether g.goes_on && not (eqb (length g.begun) 0) then work g.begun g.number g.state else silent g.goes_on g.state

  -- the rest of a piece, then the other pieces, then the end; a step uses a byte or more, so n steps are enough for n bytes
  unfoldable pub along_rest : ℕ → List ℕ → (Stage S → Did S) → Stage S → Did S
  along_rest zero rest after g = after g
  along_rest (suc n) [] after g = after g
  along_rest (suc n) (b ∷ bs) after g = let t = take_piece (b ∷ bs) g in printed_before t.text (along_rest n (drop t.used (b ∷ bs)) after t.stage)

  unfoldable pub along_pieces : List (List ℕ) → Stage S → Did S
  along_pieces [] g = end_of_file g
  along_pieces (p ∷ ps) g = along_rest (length p) p (along_pieces ps) g

-- the bytes of pieces in a row
abbrev pub inARow : List (List ℕ) → List ℕ
inARow [] = []
inARow (p ∷ ps) = p ++ inARow ps

-- wherever a file is cut, the program does its blocks
unfoldable pub CutAnywhere : {S : Type 0} → Work S → Type 0
CutAnywhere {S} work = (pieces : List (List ℕ)) (s : S) → along_pieces work pieces (beginning s) ≡ along_blocks work (cut_blocks (inARow pieces)) 0 s

-- ---- in a lent buffer

-- bytes of a piece stand behind the first `have` of a block, as many as fit; the rest of it is as it was
pub record Filled (have : ℕ) (rest : List ℕ) (block : List ℕ) (r : ℕ) (block' : List ℕ) : Type 0 where
  pub count : r ≡ length (take (length block - have) rest)
  pub bytes : block' ≡ take have block ++ (take (length block - have) rest ++ drop (have + r) block)
