-- A station in lent buffers: its refusals, what a start shows, and the parts of the open destinations. Assumes nothing.
use Prim.Native.Nat.{ℕ, zero, suc, ◌+◌, ◌*◌, ◌≤◌, ◌<◌}
use native.Mathlib.Omega.{arith}
use mathlib.Core.Path.{◌≡◌, refl, sym, ◌∙◌, ap}
use mathlib.Core.Bool.{Bool, true, false, not, ◌&&◌, ◌||◌, true≢false}
use mathlib.Core.List.{List, map}
use mathlib.Core.Option.{none, some}
use lib.Dec.{leb, ltb, eqb}
use lib.ListN.{length, get_or}
use lib.Seq.{slice, length-slice}
use borrow.Author.Tests.{ltb-false, ltb-true}
use Rattle.definition.specs.Base.{whether◌then◌else◌, all, up_from}
use Rattle.definition.specs.Types.{Dest}
use Rattle.definition.specs.Calls.{Lengths, sound, state_short, short, Call, discarding, missing, arguments_ok, own_refusal}
use Rattle.definition.specs.Words.{at, step}
use Rattle.definition.specs.Layout.{is_mark, formed, view, sound_buffers, lengths_of, buffer_step}
use Rattle.definition.specs.Refusals.{CheckPlace}
use Rattle.definition.proofs.Tests.{by-test, if-false, and_left, and_right, and_both, or-no-left, or-no-right}
use Rattle.definition.proofs.Lists.{none-some, some_inj}
use Rattle.words.proofs.Places.{first_of, exact}
use Rattle.definition_station.specs.Types.{StationSlot, Station, slot_of}
use Rattle.definition_station.specs.Letters.{whole}
use Rattle.definition_station.specs.Station.{station_short, station_sound, StationResult, station_refused, carried, not_there, station_step, station_uncoded}
use Rattle.definition_station.specs.Layout.{StationBuffers, part, is_open, slot_at, station_view, part_formed, station_formed, sound_station, station_lengths_of, unformed, buffer_station_step, buffer_station_uncoded}
use Rattle.definition_station.specs.Refusals.{uncoded_own, StationRefuses, buffer_station_places, BufferStationRefuses, buffer_uncoded_station_places, BufferUncodedStationRefuses}
use Rattle.definition_station.specs.Claims.{StartShows, PartsAreSound, PartIsCalled}
use Rattle.definition_station.proofs.Places.{facts, slot-sound}
use Rattle.definition_station.proofs.Refusals.{station-first, station-kept, numbered}
use Rattle.definition_station.proofs.Uncoded as Uncoded

-- ---- refusals

abbrev tested : Bool → Bool → Bool → Bool → ℕ → ℕ
tested s t z y rest = whether s then 1 else whether t then 10 else whether not z && not y then 2 else rest

-- 2 in the place of what comes after 10, where l fails
pub wrapped-first : (s t z y l : Bool) (n rest : ℕ) → n ≡ tested s t z y rest → (whether not s && (not t && (not z && not l)) then 2 else n) ≡ tested s t z (l && y) rest
wrapped-first true t z y l n rest e = e
wrapped-first false true z y l n rest e = e
wrapped-first false false true y l n rest e = e
wrapped-first false false false y true n rest e = e
wrapped-first false false false y false n rest e = refl

refuses : (r : StationResult) (ps : List CheckPlace) (s : Station) → all (λ p. leb 1 p.number) ps ≡ true → r.refusal ≡ first_of ps → ((r.refusal ≡ 0 → ⊥) → r ≡ station_refused r.refusal s) → StationRefuses r ps s
refuses r ps s n f e = record {
  exact = exact r.refusal ps n f;
  answer = λ h. ap (λ (x : StationResult). x.answer) (e h);
  events = λ h. ap (λ (x : StationResult). x.events) (e h);
  station = λ h. ap (λ (x : StationResult). x.station) (e h);
}

refusal-if : (w : Bool) (s : Station) (r : StationResult) → (whether w then station_refused 2 s else r).refusal ≡ (whether w then 2 else r.refusal)
refusal-if true s r = refl
refusal-if false s r = refl

kept_if : (w : Bool) (s : Station) (r : StationResult) → ((r.refusal ≡ 0 → ⊥) → r ≡ station_refused r.refusal s) → let q = (whether w then station_refused 2 s else r) in (q.refusal ≡ 0 → ⊥) → q ≡ station_refused q.refusal s
kept_if true s r h n = refl
kept_if false s r h n = h n

pub buffer-station-refuses : BufferStationRefuses
unfolding buffer_station_step sound_station
buffer-station-refuses b events k code ws =
    let s = station_view b in
    let r = station_step (station_lengths_of b events) k code ws (station_view b) in
    refuses (buffer_station_step b events k code ws) (buffer_station_places b events k code ws) (station_view b) (numbered (station_lengths_of b events) k code (carried code ws (station_view b)) (station_view b) (slot_of k (station_view b)))
    (refusal-if (unformed b events k code) (station_view b) (station_step (station_lengths_of b events) k code ws (station_view b))
    ∙ wrapped-first (station_short (station_lengths_of b events)) (not_there k code (station_view b)) (eqb code 0) (station_sound (station_view b)) (station_formed b) _ _ (station-first (station_lengths_of b events) k code ws (station_view b)))
    (kept_if (unformed b events k code) (station_view b) _ (station-kept (station_lengths_of b events) k code ws (station_view b)))

uncoded-refuses : (b : StationBuffers) (events k : ℕ) (c : Call) → ((t : Dest) → (arguments_ok c ≡ true) × (own_refusal t c ≡ 0)) → StationRefuses (buffer_station_uncoded b events k c) (buffer_uncoded_station_places b events k) (station_view b)
unfolding buffer_station_uncoded sound_station
uncoded-refuses b events k c a =
    refuses (buffer_station_uncoded b events k c) (buffer_uncoded_station_places b events k) (station_view b) (Uncoded.numbered (slot_of k (station_view b)))
    (refusal-if (unformed b events k 1) (station_view b) (station_uncoded (station_lengths_of b events) k c (station_view b))
    ∙ wrapped-first (station_short (station_lengths_of b events)) (not_there k 1 (station_view b)) false (station_sound (station_view b)) (station_formed b) _ (first_of (uncoded_own (slot_of k (station_view b)))) (Uncoded.uncoded-first (station_lengths_of b events) k c (station_view b) a))
    (kept_if (unformed b events k 1) (station_view b) _ (Uncoded.uncoded-kept (station_lengths_of b events) k c (station_view b)))

pub buffer-uncoded-station-refuses : BufferUncodedStationRefuses
unfolding arguments_ok own_refusal
buffer-uncoded-station-refuses b events k = (uncoded-refuses b events k discarding (λ t. (refl, refl)), uncoded-refuses b events k missing (λ t. (refl, refl)))

-- ---- a start

pub start-shows : StartShows
unfolding station_view slot_at sound_station station_formed part_formed station_sound
start-shows heads subs rows own = (refl, refl)

-- ---- the parts

-- what stands at a place that is one of eight
pub at_place : {A : Type 0} (f : ℕ → A) (d : A) (from n k : ℕ) → k < n → get_or (map f (up_from from n)) k d ≡ f (k + from)
at_place f d from zero k h = absurd (omega (arith, h))
at_place f d from (suc n) zero h = ap f (omega arith)
at_place f d from (suc n) (suc k) h = at_place f d (suc from) n k (omega (arith, h)) ∙ ap f (omega arith)

past-place : {A : Type 0} (f : ℕ → A) (d : A) (from n k : ℕ) → n ≤ k → get_or (map f (up_from from n)) k d ≡ d
past-place f d from zero k h = refl
past-place f d from (suc n) zero h = absurd (omega (arith, h))
past-place f d from (suc n) (suc k) h = past-place f d (suc from) n k (omega (arith, h))

pub all-at : (p : ℕ → Bool) (from n k : ℕ) → k < n → all p (up_from from n) ≡ true → p (k + from) ≡ true
all-at p from zero k h e = absurd (omega (arith, h))
all-at p from (suc n) zero h e = ap p (omega arith) ∙ and_left (p from) _ e
all-at p from (suc n) (suc k) h e = ap p (omega arith) ∙ all-at p (suc from) n k (omega (arith, h)) (and_right (p from) _ e)

pub all_from : (p : ℕ → Bool) (from n : ℕ) → ((k : ℕ) → k < n → p (k + from) ≡ true) → all p (up_from from n) ≡ true
all_from p from zero h = refl
all_from p from (suc n) h = and_both (p from) _ (ap p (omega arith) ∙ h 0 (omega arith)) (all_from p (suc from) n (λ k g. ap p (omega arith) ∙ h (suc k) (omega (arith, g))))

open-slot : (b : StationBuffers) (k : ℕ) (x : StationSlot) → slot_at b k ≡ some x → (is_open k b ≡ true) × (view (part k b) ≡ x.dest)
unfolding slot_at
open-slot b k x = by-test (is_open k b) (λ c. rw c (λ e. (refl, ap (λ (y : StationSlot). y.dest) (some_inj e)))) (λ c. rw c (λ e. absurd (none-some e)))

-- an open place is one of eight, with its mark set
pub opened-at : (b : StationBuffers) (k : ℕ) (x : StationSlot) → slot_of k (station_view b) ≡ some x → (k < 8) × (is_open k b ≡ true) × (view (part k b) ≡ x.dest)
unfolding station_view
opened-at b k x e = by-test (ltb k 8)
    (λ c. let h = ltb-true k 8 c in let r = open-slot b k x (sym (at_place (slot_at b) none 0 8 k h ∙ ap (slot_at b) (omega arith)) ∙ e) in (h, r.0, r.1))
    (λ c. absurd (none-some (sym (past-place (slot_at b) none 0 8 k (ltb-false k 8 c)) ∙ e)))

formed-at : (b : StationBuffers) (k : ℕ) → k < 8 → is_open k b ≡ true → station_formed b ≡ true → formed (part k b) ≡ true
unfolding station_formed part_formed
formed-at b k h o e = with-mark (is_open k b) o (and_right (is_mark (at k b.own)) (not (is_open k b) || formed (part k b)) (ap (part_formed b) (omega arith) ∙ all-at (part_formed b) 0 8 k h e))
  where
    with-mark : (m : Bool) → m ≡ true → (not m || formed (part k b)) ≡ true → formed (part k b) ≡ true
    with-mark true o e = e
    with-mark false o e = absurd (true≢false (sym o))

-- a part has exactly a destination's lengths
module _ (k : ℕ) (b : StationBuffers) (g : k < 8) (heads-long : 8 * 8347 ≤ length b.heads) (subs-long : 8 * 32 ≤ length b.subs) (rows_long : 8 * 512 ≤ length b.rows) where
  pub part-lengths : lengths_of (part k b) 545 ≡ whole
  unfolding part
  part-lengths =
      let p : length (slice (k * 8347) (k * 8347 + 8347) b.heads) ≡ 8347 = length-slice (k * 8347) (k * 8347 + 8347) b.heads (omega (arith, heads-long, g)) ∙ omega arith in
      let q : length (slice (k * 32) (k * 32 + 32) b.subs) ≡ 32 = length-slice (k * 32) (k * 32 + 32) b.subs (omega (arith, subs-long, g)) ∙ omega arith in
      let r : length (slice (k * 512) (k * 512 + 512) b.rows) ≡ 512 = length-slice (k * 512) (k * 512 + 512) b.rows (omega (arith, rows_long, g)) ∙ omega arith in
      λ i. record { head = p i; subs = q i; rows = r i; events = 545 }

-- buffers that are not short are long
module _ (b : StationBuffers) (events : ℕ) (h : station_short (station_lengths_of b events) ≡ false) where
  pub heads-long : 8 * 8347 ≤ length b.heads
  unfolding station_short
  heads-long = ltb-false (length b.heads) (8 * 8347) (or-no-left (ltb (length b.heads) (8 * 8347)) _ h)

  pub subs-long : 8 * 32 ≤ length b.subs
  unfolding station_short
  subs-long = ltb-false (length b.subs) (8 * 32) (or-no-left (ltb (length b.subs) (8 * 32)) _ (or-no-right (ltb (length b.heads) (8 * 8347)) _ h))

  pub rows_long : 8 * 512 ≤ length b.rows
  unfolding station_short
  rows_long = ltb-false (length b.rows) (8 * 512) (or-no-left (ltb (length b.rows) (8 * 512)) _ (or-no-right (ltb (length b.subs) (8 * 32)) _ (or-no-right (ltb (length b.heads) (8 * 8347)) _ h)))

  pub own-long : 20 ≤ length b.own
  unfolding station_short
  own-long = ltb-false (length b.own) 20 (or-no-left (ltb (length b.own) 20) _ (or-no-right (ltb (length b.rows) (8 * 512)) _ (or-no-right (ltb (length b.subs) (8 * 32)) _ (or-no-right (ltb (length b.heads) (8 * 8347)) _ h))))

  pub events-long : 4872 ≤ events
  unfolding station_short
  events-long = ltb-false events 4872 (or-no-right (ltb (length b.own) 20) _ (or-no-right (ltb (length b.rows) (8 * 512)) _ (or-no-right (ltb (length b.subs) (8 * 32)) _ (or-no-right (ltb (length b.heads) (8 * 8347)) _ h))))

pub parts-are-sound : PartsAreSound
unfolding sound_station sound_buffers
parts-are-sound b events k x h y e =
    let o = opened-at b k x e in
    let f = facts (station_view b) (and_right (station_formed b) _ y) in
    (and_both (formed (part k b)) _ (formed-at b k o.0 o.1 (and_left (station_formed b) _ y)) (ap sound o.2 ∙ (slot-sound k (station_view b) x f e).0), o.2, part-lengths k b o.0 (heads-long b events h) (subs-long b events h) (rows_long b events h))

pub part-is-called : PartIsCalled
unfolding buffer_step sound_buffers short state_short
part-is-called b events k x h y e code ws =
    let p = parts-are-sound b events k x h y e in
    let f : formed (part k b) ≡ true = and_left (formed (part k b)) _ p.0 in
    if-false _ _ (none (short (lengths_of (part k b) 545)) (eqb code 0) (formed (part k b)) f)
    ∙ ap (λ (l : Lengths). step l code ws (view (part k b))) p.2 ∙ ap (step whole code ws) p.1
  where
    none : (s z f : Bool) → f ≡ true → (not s && (not z && not f)) ≡ false
    none s z f q = rw q (off s z)
      where
        off : (s z : Bool) → (not s && (not z && false)) ≡ false
        off true z = refl
        off false true = refl
        off false false = refl
