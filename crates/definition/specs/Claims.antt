-- What is claimed of the state and of the sends that accepted calls make; `Orders` has the claim on orders, `Refusals` that on refusals. Assumes nothing.
use Rattle.std.specs.Prelude.{ℕ, ◌+◌, ◌-◌, ◌*◌, ◌≤◌, ◌<◌, min, ◌≡◌, Bool, true, false, not, ◌||◌, ◌↔◌, List, [], ◌∷◌, ◌++◌, map, leb, ltb, pos, length, drop}
use Rattle.definition.specs.Types.{Kind, queue, topic, Id, Entry, Sub, Dest, with_tpending, with_calls_used}
use Rattle.definition.specs.Consumer.{zero_stats, add_discarded, expired, is_browser, snapshot, accepts}
use Rattle.definition.specs.Base.{whether◌then◌else◌, keep, tally, all, empty, member, ascending}
use Rattle.definition.specs.Destination.{due, dispatch, insert, Trimmed, trim, stored, fanned_out, Spec, joined, add_sub, release_reserved}
use Rattle.definition.specs.Calls.{Lengths, Call, seqs, rows_of, consumer_rows, all_rows, sizes_agree, own_rows, rows_from, within_share, rows_for, snapshot_rows, over_share, sound, Result, call}
use Rattle.definition.specs.Words.{at, id_in, entry_in, step}
use Rattle.definition.specs.Queries.{bytes_of, bytes_held}
use Rattle.definition.specs.Layout.{Buffers, view, buffer_step}
use Rattle.definition.specs.Orders.{Reached}

-- every accepted call leaves a sound state, open too
abbrev pub StepLeavesSound : Type 0
StepLeavesSound = (lent : Lengths) (code : ℕ) (words : List ℕ) (t : Dest) → (step lent code words t).refusal ≡ 0 → sound (step lent code words t).dest ≡ true

-- so do the two that have no code, as calls of every kind
abbrev pub CallLeavesSound : Type 0
CallLeavesSound = (lent : Lengths) (c : Call) (t : Dest) → (call lent c t).refusal ≡ 0 → sound (call lent c t).dest ≡ true

-- a destination as accepted calls left it is sound
abbrev pub ReachedSound : Type 0
ReachedSound = (cleared : Bool) (t : Dest) → Reached cleared t → sound t ≡ true

-- no call sends more than 545 events
abbrev pub StepSends : Type 0
StepSends = (lent : Lengths) (code : ℕ) (words : List ℕ) (t : Dest) → length (step lent code words t).events ≤ 545

abbrev pub CallSends : Type 0
CallSends = (lent : Lengths) (c : Call) (t : Dest) → length (call lent c t).events ≤ 545

-- document 02 §10: what the two halves of a release of the consumer i get, on t, is what the whole release does, but that two calls are used
pub record Halves (now : ℕ) (i : Id) (t : Dest) (first second : Result) : Type 0 where
  pub first-answers : first.answer ≡ 0
  pub first-sends : first.events ≡ []
  pub second-answers : second.answer ≡ 0
  pub second-sends : second.events ≡ (release_reserved now i t).events
  pub leaves : second.dest ≡ with_calls_used (t.calls_used + 2) (release_reserved now i t).dest

-- code 8 and then code 15 with the same ID, where neither is refused
abbrev pub ReleaseHalves : Type 0
ReleaseHalves = (lent : Lengths) (words : List ℕ) (late : Lengths) (more : List ℕ) (t : Dest) → id_in more ≡ id_in words →
    let first = step lent 8 words t in
    let second = step late 15 more first.dest in
    first.refusal ≡ 0 → second.refusal ≡ 0 → Halves (at 3 more) (id_in words) t first second

-- document 02 §4: by the clock that a call hands on, an entry is expired exactly if its expiration is above 0 and at most the clock less the allowance
abbrev pub ExpiresBy : Type 0
ExpiresBy = (now : ℕ) (t : Dest) (e : Entry) → (expired (pos (due now t)) e ≡ true) ↔ ((x : ℕ) × (e.expiration ≡ pos x) × (1 ≤ x) × (x + t.allowance ≤ now))

-- with allowance 0 that clock is the call's own
abbrev pub NoAllowance : Type 0
NoAllowance = (now : ℕ) (t : Dest) → t.allowance ≡ 0 → due now t ≡ now

-- what is left of a list l over the limit, and what that adds to the counters: of the live entries, in their order, as many as the limit lets stay, and these
-- at the end of the list; the expired are counted as expired, all of them, and the live ones that went as discarded
pub record Over (by limit : ℕ) (l : List Entry) (r : Trimmed) : Type 0 where
  -- the live ones that went
  pub lost : List Entry
  pub live : lost ++ r.list ≡ keep (λ e. not (expired (pos by) e)) l
  pub stays : length r.list ≡ min limit (tally (λ e. not (expired (pos by) e)) l)
  pub counted : r.counts ≡ record { enqueued = 0; dequeued = 0; expired = tally (expired (pos by)) l; discarded = length lost; dispatched = 0 }
  -- no expired copy is left
  pub fresh : all (λ e. not (expired (pos by) e)) r.list ≡ true
  -- the numbers of those that went are below those of all that stay
  pub highest : ascending (seqs l) ≡ true → all (λ e. all (λ f. ltb e.seq f.seq) r.list) lost ≡ true

-- document 02 §5: a list over the limit ends within it, without its expired ones and with its highest numbers, one that is not over it stays whole, expired
-- or not, and where none has expired the lowest numbers go as in the Rust
pub record Trimming (by limit : ℕ) (l : List Entry) : Type 0 where
  pub within : length (trim by limit l).list ≤ limit
  pub whole : length l ≤ limit → trim by limit l ≡ record { list = l; counts = zero_stats }
  pub over : limit < length l → Over by limit l (trim by limit l)
  pub lowest : tally (expired (pos by)) l ≡ 0 → trim by limit l ≡ record { list = drop (length l - limit) l; counts = add_discarded (length l - limit) }

abbrev pub Surplus : Type 0
Surplus = (by limit : ℕ) (l : List Entry) → 1 ≤ limit → Trimming by limit l

-- document 02 §3: a sound state's bytes are at most 512 sizes, and it is all one in which order its rows are looked at
abbrev pub BytesFit : Type 0
BytesFit = (t : Dest) → sound t ≡ true → bytes_held t ≤ 512 * 4294967295

abbrev pub BytesAnyOrder : Type 0
BytesAnyOrder = (l m : List Entry) → sizes_agree (l ++ m) ≡ true → bytes_of (l ++ m) ≡ bytes_of (m ++ l)

-- document 02 §11: how many connections these are
abbrev pub connections : List ℕ → ℕ
connections [] = 0
connections (c ∷ cs) = (whether member c cs then 0 else 1) + connections cs

-- those that hold rows
abbrev pub holders : Dest → List ℕ
holders t = map (λ e. e.producer) (own_rows t t.kind)

-- a queue's browsers hold no copies
abbrev pub browsers_empty : Dest → Kind → Bool
browsers_empty t queue = all (λ s. not (is_browser s) || empty (rows_of s)) t.subs
browsers_empty t topic = true

-- "While a queue's browsers hold no copies, and share times the number of connections holding rows or asking is at most 512, an enqueue within its
-- connection's share never gets 5, whatever the others send"
abbrev pub SharesSuffice : Type 0
SharesSuffice = (lent : Lengths) (words : List ℕ) (t : Dest) →
    browsers_empty t t.kind ≡ true →
    t.share * connections (at 3 words ∷ holders t) ≤ 512 →
    rows_from (at 3 words) (own_rows t t.kind) + rows_for (entry_in words) t t.kind ≤ t.share →
    (step lent 1 words t).refusal ≡ 5 → ⊥

-- a share of 512 refuses nothing
abbrev pub FullShare : Type 0
FullShare = (e : Entry) (t : Dest) → t.share ≡ 512 → over_share e t ≡ false

-- nor does it make a state unsound: with as many rows as there are, no connection holds more than 512
abbrev pub FullShareSound : Type 0
FullShareSound = (t : Dest) → t.share ≡ 512 → leb (length (all_rows t)) 512 ≡ true → within_share t.share (own_rows t t.kind) ≡ true

-- `SharesSuffice` of a call on buffers
abbrev pub BufferSharesSuffice : Type 0
BufferSharesSuffice = (b : Buffers) (events : ℕ) (words : List ℕ) →
    let t = view b in
    browsers_empty t t.kind ≡ true →
    t.share * connections (at 3 words ∷ holders t) ≤ 512 →
    rows_from (at 3 words) (own_rows t t.kind) + rows_for (entry_in words) t t.kind ≤ t.share →
    (buffer_step b events 1 words).refusal ≡ 5 → ⊥

-- ---- refusal 5: the rows that a call is asked to leave free are those that it makes

-- a join's consumer stands last with as many rows, a browser's being its snapshot, and then entries are sent
pub record JoinMakes (now : ℕ) (p : Spec) (t : Dest) : Type 0 where
  pub sub : Sub
  pub last : (joined now p t).subs ≡ t.subs ++ sub ∷ []
  pub browses : is_browser sub ≡ p.browser
  pub rows : length (rows_of sub) ≡ snapshot_rows now p t
  pub shows : length (snapshot sub) ≡ snapshot_rows now p t
  pub runs : add_sub now p t ≡ dispatch now (joined now p t)

abbrev pub JoinRows : Type 0
JoinRows = (now : ℕ) (p : Spec) (t : Dest) → JoinMakes now p t

-- a consumer of a topic with its copy of e, if it accepts e
abbrev pub with_copy : Entry → Sub → Sub
with_copy e s = whether accepts s e then with_tpending (insert e s.tpending) s else s

-- and what the limit leaves of its list then
abbrev pub trimmed_for : ℕ → ℕ → Entry → Sub → Sub
trimmed_for by limit e s = whether accepts s e then with_tpending (trim by limit s.tpending).list s else s

-- an enqueue of a number that no row has: on a queue one row more, on a topic as many copies more as are asked for, and each list that got one is trimmed
-- only then
pub record EnqueueMakes (by : ℕ) (e : Entry) (t : Dest) : Type 0 where
  pub stores : length (all_rows (stored e t)) ≡ length (all_rows t) + rows_for e t queue
  pub copies : length (consumer_rows (map (with_copy e) t.subs)) ≡ length (consumer_rows t.subs) + rows_for e t topic
  pub trims : (fanned_out by e t).subs ≡ map (trimmed_for by t.topic_limit e) (map (with_copy e) t.subs)

abbrev pub EnqueueRows : Type 0
EnqueueRows = (by : ℕ) (e : Entry) (t : Dest) → member e.seq (seqs (all_rows t)) ≡ false → EnqueueMakes by e t
