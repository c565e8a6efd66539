-- The names of the calls by code, and what their words hold. Assumes nothing.
use Rattle.std.specs.Prelude.{ℕ, suc, ◌+◌, ◌*◌, ◌%◌, Bool, List, [], ◌∷◌, eqb, leb, get_or}
use Rattle.words.specs.Pick.{whether◌then◌else◌}
use Rattle.textwords.specs.Text.{same_text}

-- a call of a code without a name is written `raw`, its word 0 and its words
abbrev pub RAW : ℕ
RAW = 17

unfoldable pub names : List (List ℕ)
names =
    -- open
    (111 ∷ 112 ∷ 101 ∷ 110 ∷ [])
    -- enqueue
    ∷ (101 ∷ 110 ∷ 113 ∷ 117 ∷ 101 ∷ 117 ∷ 101 ∷ [])
    -- join
    ∷ (106 ∷ 111 ∷ 105 ∷ 110 ∷ [])
    -- leave
    ∷ (108 ∷ 101 ∷ 97 ∷ 118 ∷ 101 ∷ [])
    -- ack
    ∷ (97 ∷ 99 ∷ 107 ∷ [])
    -- pull
    ∷ (112 ∷ 117 ∷ 108 ∷ 108 ∷ [])
    -- timeout
    ∷ (116 ∷ 105 ∷ 109 ∷ 101 ∷ 111 ∷ 117 ∷ 116 ∷ [])
    -- prefetch
    ∷ (112 ∷ 114 ∷ 101 ∷ 102 ∷ 101 ∷ 116 ∷ 99 ∷ 104 ∷ [])
    -- unmark
    ∷ (117 ∷ 110 ∷ 109 ∷ 97 ∷ 114 ∷ 107 ∷ [])
    -- sweep
    ∷ (115 ∷ 119 ∷ 101 ∷ 101 ∷ 112 ∷ [])
    -- clear
    ∷ (99 ∷ 108 ∷ 101 ∷ 97 ∷ 114 ∷ [])
    -- add_producer
    ∷ (97 ∷ 100 ∷ 100 ∷ 95 ∷ 112 ∷ 114 ∷ 111 ∷ 100 ∷ 117 ∷ 99 ∷ 101 ∷ 114 ∷ [])
    -- remove_producer
    ∷ (114 ∷ 101 ∷ 109 ∷ 111 ∷ 118 ∷ 101 ∷ 95 ∷ 112 ∷ 114 ∷ 111 ∷ 100 ∷ 117 ∷ 99 ∷ 101 ∷ 114 ∷ [])
    -- duplicate
    ∷ (100 ∷ 117 ∷ 112 ∷ 108 ∷ 105 ∷ 99 ∷ 97 ∷ 116 ∷ 101 ∷ [])
    -- release_audits
    ∷ (114 ∷ 101 ∷ 108 ∷ 101 ∷ 97 ∷ 115 ∷ 101 ∷ 95 ∷ 97 ∷ 117 ∷ 100 ∷ 105 ∷ 116 ∷ 115 ∷ [])
    -- release
    ∷ (114 ∷ 101 ∷ 108 ∷ 101 ∷ 97 ∷ 115 ∷ 101 ∷ [])
    -- start
    ∷ (115 ∷ 116 ∷ 97 ∷ 114 ∷ 116 ∷ [])
    -- raw
    ∷ (114 ∷ 97 ∷ 119 ∷ [])
    ∷ []

abbrev pub name_at : ℕ → List ℕ
name_at k = get_or names k []

-- the place of a name among some whose first has the place k; past the last where there is none
unfoldable pub place_in : List (List ℕ) → ℕ → List ℕ → ℕ
place_in [] k word = k
place_in (n ∷ ns) k word = whether same_text word n then k else place_in ns (suc k) word

unfoldable pub name_place : List ℕ → ℕ
name_place word = place_in names 0 word

-- word 0 of a call is its code and 256 times its destination's number; whether the code has a name
abbrev pub has_name : ℕ → Bool
has_name word = leb (word % 256) 16

-- the name for a call's word 0
unfoldable pub code_place : ℕ → ℕ
code_place word = whether has_name word then word % 256 else RAW

-- what a word holds, eight to a name: 0 nothing, 1 an unsigned number, 2 a signed one
unfoldable pub kinds : List ℕ
kinds =
    1 ∷ 1 ∷ 1 ∷ 1 ∷ 1 ∷ 1 ∷ 0 ∷ 0  -- open
    ∷ 1 ∷ 2 ∷ 1 ∷ 1 ∷ 1 ∷ 2 ∷ 1 ∷ 1  -- enqueue
    ∷ 1 ∷ 2 ∷ 2 ∷ 2 ∷ 1 ∷ 1 ∷ 1 ∷ 0  -- join
    ∷ 1 ∷ 2 ∷ 2 ∷ 2 ∷ 1 ∷ 0 ∷ 0 ∷ 0  -- leave
    ∷ 1 ∷ 2 ∷ 2 ∷ 1 ∷ 2 ∷ 2 ∷ 1 ∷ 0  -- ack
    ∷ 1 ∷ 2 ∷ 2 ∷ 2 ∷ 1 ∷ 0 ∷ 0 ∷ 0  -- pull
    ∷ 1 ∷ 2 ∷ 2 ∷ 1 ∷ 0 ∷ 0 ∷ 0 ∷ 0  -- timeout
    ∷ 1 ∷ 2 ∷ 2 ∷ 2 ∷ 1 ∷ 0 ∷ 0 ∷ 0  -- prefetch
    ∷ 1 ∷ 2 ∷ 2 ∷ 0 ∷ 0 ∷ 0 ∷ 0 ∷ 0  -- unmark
    ∷ 1 ∷ 1 ∷ 0 ∷ 0 ∷ 0 ∷ 0 ∷ 0 ∷ 0  -- sweep
    ∷ 0 ∷ 0 ∷ 0 ∷ 0 ∷ 0 ∷ 0 ∷ 0 ∷ 0  -- clear
    ∷ 1 ∷ 2 ∷ 2 ∷ 0 ∷ 0 ∷ 0 ∷ 0 ∷ 0  -- add_producer
    ∷ 1 ∷ 2 ∷ 2 ∷ 1 ∷ 0 ∷ 0 ∷ 0 ∷ 0  -- remove_producer
    ∷ 1 ∷ 2 ∷ 2 ∷ 2 ∷ 0 ∷ 0 ∷ 0 ∷ 0  -- duplicate
    ∷ 1 ∷ 0 ∷ 0 ∷ 0 ∷ 0 ∷ 0 ∷ 0 ∷ 0  -- release_audits
    ∷ 1 ∷ 2 ∷ 2 ∷ 1 ∷ 0 ∷ 0 ∷ 0 ∷ 0  -- release
    ∷ 1 ∷ 0 ∷ 0 ∷ 0 ∷ 0 ∷ 0 ∷ 0 ∷ 0  -- start
    ∷ 0 ∷ 0 ∷ 0 ∷ 0 ∷ 0 ∷ 0 ∷ 0 ∷ 0  -- raw
    ∷ []

abbrev pub kind_at : ℕ → ℕ → ℕ
kind_at place k = get_or kinds (place * 8 + k) 0

-- whether a word is written as a signed number
abbrev pub minus_at : ℕ → ℕ → Bool
minus_at place k = eqb (kind_at place k) 2
