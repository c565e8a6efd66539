-- Document 01's table "Refused, by place of checking" as a list of places, and that a refusal's number comes exactly from it (`Exact` of crate `words`). Assumes nothing.
use Rattle.std.specs.Prelude.{ℕ, ◌≡◌, Bool, true, not, ◌&&◌, ◌||◌, List, [], ◌∷◌, leb, ltb, eqb, length}
pub use Rattle.words.specs.Places.{CheckPlace, ◌when◌, passes, Comes, Exact}
use Rattle.definition.specs.Base.{whether◌then◌else◌, find, member, is_some}
use Rattle.definition.specs.Types.{Dest}
use Rattle.definition.specs.Consumer.{zero_stats}
use Rattle.definition.specs.Destination.{sub_of, is_producer, audit_of}
use Rattle.definition.specs.Calls.{Lengths, state_short, short, sound, seqs, all_rows, free_rows, rows_for, over_share, snapshot_rows, discarding, missing, Result, call}
use Rattle.definition.specs.Words.{at, id_in, entry_in, spec_in, open_words, decode, step}
use Rattle.definition.specs.Queries.{Query, query_ok, query, counters, page}
use Rattle.definition.specs.Layout.{Buffers, view, sound_buffers, lengths_of, buffer_step, buffer_call, buffer_query, buffer_counters, buffer_page}

-- an open's words are an open's; any other call's code is known, its numbers are in their ranges and its unused words 0
abbrev pub arguments_right : ℕ → List ℕ → Bool
arguments_right code ws = whether eqb code 0 then open_words ws else is_some (decode code ws)

-- the table, for a call of the call file: whether a lent buffer is short, whether the state is sound, the code, its words, the state
abbrev pub table : Bool → Bool → ℕ → List ℕ → Dest → List CheckPlace
table is_short is_sound code ws t =
    -- every call, buffers: a state buffer is short, or an event list holds under 545
    1 when is_short
    -- every call but open, state: the state is not sound
    ∷ 2 when (not (eqb code 0) && not is_sound)
    -- every call, arguments: a number is outside its range, a call code is unknown, or an unused word is not 0
    ∷ 3 when not (arguments_right code ws)
    -- each changing call but open, after 3: calls used equals the call limit
    ∷ 9 when (not (eqb code 0) && eqb t.calls_used t.call_limit)
    -- enqueue: the sequence number is held in any row
    ∷ 4 when (eqb code 1 && member (at 0 ws) (seqs (all_rows t)))
    -- enqueue: more rows than a share below 512 (document 02 §11)
    ∷ 14 when (eqb code 1 && over_share (entry_in ws) t)
    -- enqueue: too few free rows
    ∷ 5 when (eqb code 1 && ltb (free_rows t) (rows_for (entry_in ws) t t.kind))
    -- join: that consumer is present
    ∷ 6 when (eqb code 2 && is_some (sub_of (id_in ws) t))
    -- join: 32 consumers are present
    ∷ 7 when (eqb code 2 && leb 32 (length t.subs))
    -- browser join: too few free rows (a join of another kind needs none)
    ∷ 5 when (eqb code 2 && ltb (free_rows t) (snapshot_rows (at 6 ws) (spec_in ws) t))
    -- add producer: a new producer, and 32 registered
    ∷ 8 when (eqb code 11 && (not (is_producer (id_in ws) t.producers) && leb 32 (length t.producers)))
    -- duplicate test: a new producer, and 8 audited (connection 0 is no producer)
    ∷ 8 when (eqb code 13 && (not (eqb (at 0 ws) 0) && (not (is_some (find (audit_of (id_in ws)) t.audits)) && leb 8 (length t.audits))))
    ∷ []

abbrev pub check_places : Lengths → ℕ → List ℕ → Dest → List CheckPlace
check_places lent code ws t = table (short lent) (sound t) code ws t

-- of a call on buffers: 2 is for counts that do not fit the tables, too
abbrev pub buffer_places : Buffers → ℕ → ℕ → List ℕ → List CheckPlace
buffer_places b events code ws = table (short (lengths_of b events)) (sound_buffers b) code ws (view b)

-- the table for add_discarded and expired_before_storing, which have no code and no arguments
abbrev pub uncoded_table : Bool → Bool → Dest → List CheckPlace
uncoded_table is_short is_sound t = 1 when is_short ∷ 2 when not is_sound ∷ 9 when eqb t.calls_used t.call_limit ∷ []

abbrev pub uncoded_places : Lengths → Dest → List CheckPlace
uncoded_places lent t = uncoded_table (short lent) (sound t) t

abbrev pub buffer_uncoded_places : Buffers → ℕ → List CheckPlace
buffer_uncoded_places b events = uncoded_table (short (lengths_of b events)) (sound_buffers b) (view b)

-- the table for the queries: whether a lent buffer is short, whether the state is sound, and whether the arguments are in their ranges
abbrev pub query_table : Bool → Bool → Bool → List CheckPlace
query_table is_short is_sound in_range = 1 when is_short ∷ 2 when not is_sound ∷ 3 when not in_range ∷ []

abbrev pub query_places : Bool → Bool → Dest → List CheckPlace
query_places is_short in_range t = query_table is_short (sound t) in_range

-- a refused call answers 0, sends nothing and changes nothing
pub record Refuses (r : Result) (ps : List CheckPlace) (t : Dest) : Type 0 where
  pub exact : Exact r.refusal ps
  pub answer : (r.refusal ≡ 0 → ⊥) → r.answer ≡ 0
  pub events : (r.refusal ≡ 0 → ⊥) → r.events ≡ []
  pub dest : (r.refusal ≡ 0 → ⊥) → r.dest ≡ t

-- ---- what is claimed

-- of every call of the call file, open too
abbrev pub StepRefuses : Type 0
StepRefuses = (lent : Lengths) (code : ℕ) (words : List ℕ) (t : Dest) → Refuses (step lent code words t) (check_places lent code words t) t

-- of every call of the call file, on buffers
abbrev pub BufferRefuses : Type 0
BufferRefuses = (b : Buffers) (events code : ℕ) (words : List ℕ) → Refuses (buffer_step b events code words) (buffer_places b events code words) (view b)

-- of the two calls that have no code
abbrev pub UncodedRefuses : Type 0
UncodedRefuses = (lent : Lengths) (t : Dest) → Refuses (call lent discarding t) (uncoded_places lent t) t × Refuses (call lent missing t) (uncoded_places lent t) t

-- of the queries: no event list is lent to them, and to a page a list of lines; beside a refusal the answer is 0
abbrev pub QueryRefuses : Type 0
QueryRefuses = (lent : Lengths) (q : Query) (t : Dest) → Exact (query lent q t).refusal (query_places (state_short lent) (query_ok q) t) × (((query lent q t).refusal ≡ 0 → ⊥) → (query lent q t).answer ≡ 0)

abbrev pub CountersRefuse : Type 0
CountersRefuse = (lent : Lengths) (t : Dest) → Exact (counters lent t).refusal (query_places (state_short lent) true t) × (((counters lent t).refusal ≡ 0 → ⊥) → (counters lent t).stats ≡ zero_stats)

abbrev pub PageRefuses : Type 0
PageRefuses = (lent : Lengths) (lines offset limit : ℕ) (t : Dest) →
    let r = page lent lines offset limit t in
    Exact r.refusal (query_places (state_short lent || ltb lines 50) true t) × ((r.refusal ≡ 0 → ⊥) → (r.total ≡ 0) × (r.lines ≡ []))

-- ---- and on buffers

-- of the two calls that have no code
abbrev pub BufferUncodedRefuses : Type 0
BufferUncodedRefuses = (b : Buffers) (events : ℕ) →
    Refuses (buffer_call b events discarding) (buffer_uncoded_places b events) (view b) × Refuses (buffer_call b events missing) (buffer_uncoded_places b events) (view b)

-- of the queries
abbrev pub BufferQueryRefuses : Type 0
BufferQueryRefuses = (b : Buffers) (q : Query) →
    let r = buffer_query b q in
    Exact r.refusal (query_table (state_short (lengths_of b 0)) (sound_buffers b) (query_ok q)) × ((r.refusal ≡ 0 → ⊥) → r.answer ≡ 0)

abbrev pub BufferCountersRefuse : Type 0
BufferCountersRefuse = (b : Buffers) →
    let r = buffer_counters b in
    Exact r.refusal (query_table (state_short (lengths_of b 0)) (sound_buffers b) true) × ((r.refusal ≡ 0 → ⊥) → r.stats ≡ zero_stats)

abbrev pub BufferPageRefuses : Type 0
BufferPageRefuses = (b : Buffers) (lines offset limit : ℕ) →
    let r = buffer_page b lines offset limit in
    Exact r.refusal (query_table (state_short (lengths_of b 0) || ltb lines 50) (sound_buffers b) true) × ((r.refusal ≡ 0 → ⊥) → (r.total ≡ 0) × (r.lines ≡ []))
