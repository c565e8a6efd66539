-- The last lines of a station's run or report: the counters of a place, the bytes that are held, and all lines. Assumes nothing.
use Prim.Native.Nat.{ℕ, zero, suc, ◌+◌, ◌*◌, ◌-◌, ◌≤◌, ◌<◌, ◌^◌}
use native.Mathlib.Nat.{add-zero, zero-add}
use native.Mathlib.Numerals.{add-one}
use native.Mathlib.Omega.{arith}
use mathlib.Core.Path.{◌≡◌, refl, sym, ap, ap₂, ◌∙◌, subst, subst⁻¹}
use mathlib.Core.Bool.{Bool, true, false, not, ◌&&◌, ◌||◌}
use mathlib.Core.List.{List, [], ◌∷◌, ◌++◌, map, append_assoc, append-nil}
use mathlib.Core.Option.{Option, none, some}
use borrow.Author.Tests.{ne_eqb, leb-true, ltb-true, le-leb, lt-leb, not-true}
use lib.Dec.{leb, ltb}
use lib.ListN.{length, take, drop, length-append}
use Rattle.definition.specs.Base.{whether◌then◌else◌, all, every, member, up_from}
use Rattle.definition.specs.Types.{Entry, Dest, Stats}
use Rattle.definition.specs.Calls.{state_short, seqs, all_rows, entry_ok, signed_within, word, sound, Lengths}
use Rattle.definition.specs.Words.{at}
use Rattle.definition.specs.Queries.{bytes_of, bytes_held, bytes, query, query_refusal, Asked}
use Rattle.definition.specs.Layout.{Row, Buffers, flag, stats_at, view, formed, sound_buffers, lengths_of, buffer_query, lent}
use Rattle.definition.proofs.Tests.{by-if, by-test, if-true, if-false, and_left, and_right}
use Rattle.definition.proofs.Thin.{every-all}
use Rattle.definition.proofs.Sums.{bad, sum-ok}
use Rattle.definition.proofs.Sound as Def
use Rattle.definition.proofs.Whole.{fine, rows-length}
use Rattle.definition_station.specs.Types.{StationSlot}
use Rattle.definition_station.specs.Station.{StationLengths, station_short, station_sound}
use Rattle.definition_station.specs.Layout.{StationBuffers, part, is_open, name_word, slot_at, part_formed, station_formed, station_view, sound_station, station_lengths_of}
use Rattle.definition_station.proofs.Buffers.{all-at, part-lengths, heads-long, subs-long, rows_long, own-long}
use Rattle.callfile.specs.declared.Reading.{Reading}
use Rattle.callfile.specs.Lines.{decimal, counters_line}
use Rattle.callfile.specs.Placed.{Puts, PutLine}
use Rattle.callfile.proofs.Digits.{word-length}
use Rattle.callfile.proofs.Parts.{then, line-puts, none-put, whole-line, no_room, blank}
use Rattle.stationlines.specs.StationLines.{numbered_line, counted_line, station_line}
use Rattle.queries.specs.Answers.{as_asked}
use Rattle.queries.specs.declared.Asked as Told
use Rattle.running.specs.Files.{rest_line}
use Rattle.running.proofs.Files.{rest-length}
use Rattle.stationcalls.specs.Parts.{lent_all, Within}
use Rattle.stationcalls.specs.Own.{own_words_ok, part_ok}
use Rattle.stationcalls.proofs.Placed.{at_part}
use Rattle.stationcalls.proofs.Tested.{sound-is}
use Rattle.stationrun.specs.StationRuns.{LentStation, station_by}
use Rattle.stationrun.specs.StationFiles.{slot_line, counted_lines, slot_bytes, slots_bytes, station_bytes, held_bytes}

-- ---- how long

counted-length : (d : ℕ) (s : Stats) → length (counted_line d s) ≤ 128
unfolding numbered_line counters_line
counted-length d s = simp length-append (omega (arith, word-length d, word-length s.enqueued, word-length s.dequeued, word-length s.expired, word-length s.discarded, word-length s.dispatched))

station-length : (next lost flag held : ℕ) → length (station_line next lost flag held) ≤ 128
unfolding station_line
station-length next lost flag held = simp length-append (omega (arith, word-length next, word-length lost, word-length flag, word-length held))

-- ---- the tests

pub shut : {n : ℕ} → n ≡ 0 → flag n ≡ false
shut {n} e = ap flag e

pub opened : {n : ℕ} → (n ≡ 0 → ⊥) → flag n ≡ true
opened {n} e = rw (ne_eqb n 0 e)

pub longs : (b : StationBuffers) (events : List Row) → station_short (station_lengths_of b (length events)) ≡ false → Within 0 b.heads b.subs b.rows × (20 ≤ length b.own)
longs b events e = (record { is-place = omega arith; heads-long = heads-long b (length events) e; subs-long = subs-long b (length events) e; rows_long = rows_long b (length events) e }, own-long b (length events) e)

places : (b : StationBuffers) (events : List Row) → station_short (station_lengths_of b (length events)) ≡ false → sound_station b ≡ true → (k : ℕ) → k < 8 → Within k b.heads b.subs b.rows × (20 ≤ length b.own) × (sound_station b ≡ true)
places b events e y k h = (record { is-place = h; heads-long = heads-long b (length events) e; subs-long = subs-long b (length events) e; rows_long = rows_long b (length events) e }, own-long b (length events) e, y)

-- ---- a place

module _ (k : ℕ) (heads : List ℕ) (subs rows : List Row) (own : List ℕ) where
  abbrev b : StationBuffers
  b = lent_all heads subs rows own

  abbrev slot : StationSlot
  slot = record { dest = view (part k b); name = at (name_word k) own }

  open-slot : is_open k b ≡ true → slot_at b k ≡ some slot
  unfolding slot_at
  open-slot o = if-true (some slot) none o

  shut-slot : is_open k b ≡ false → slot_at b k ≡ none
  unfolding slot_at
  shut-slot o = if-false (some slot) none o

  pub shut-line : is_open k b ≡ false → (out : List ℕ) (to : ℕ) → Puts (slot_line k (slot_at b k)) to out to out × (to ≤ to + 128)
  shut-line o out to = (subst⁻¹ (λ (x : Option StationSlot). Puts (slot_line k x) to out to out) (shut-slot o) (none-put to out), omega arith)

  pub open-line : is_open k b ≡ true → Within k heads subs rows → (s : Stats) → s ≡ stats_at (take ((k * 8347 + 8347) - k * 8347) (drop (k * 8347) heads))
      → {to r : ℕ} {out out' : List ℕ} → to + 256 ≤ length out → PutLine 256 (counted_line k s) to out r out' → Puts (slot_line k (slot_at b k)) to out r out' × (r ≤ to + 128)
  unfolding view
  open-line o w s e {to} {r} {out} {out'} room p =
      let same : s ≡ stats_at (part k b).head = at_part k heads subs rows w (λ (x : Buffers). s ≡ stats_at x.head) e own in
      let q : Puts (counted_line k s) to out r out' = line-puts room (omega (arith, counted-length k s)) p in
      (subst⁻¹ (λ (x : Option StationSlot). Puts (slot_line k x) to out r out') (open-slot o) (subst (λ (x : Stats). Puts (counted_line k x) to out r out') same q), omega (arith, q.next, counted-length k s))

  -- ---- its bytes

  pub shut-bytes : is_open k b ≡ false → (0 ≡ slot_bytes (slot_at b k)) × (0 ≤ 2199023255552)
  shut-bytes o = (sym (ap slot_bytes (shut-slot o)), omega arith)

  sound-part : is_open k b ≡ true → k < 8 → sound_station b ≡ true → sound_buffers (part k b) ≡ true
  unfolding part_ok
  sound-part o h y =
      let ok : part_ok b k ≡ true = subst (λ (m : ℕ). part_ok b m ≡ true) (add-zero k) (all-at (part_ok b) 0 8 k h (and_right (own_words_ok own) (all (part_ok b) (up_from 0 8)) (sym (sound-is b) ∙ y))) in
      sym (ap (λ (t : Bool). not t || sound_buffers (part k b)) o) ∙ ok

entry-size : (e : Entry) → entry_ok e ≡ true → e.size ≤ 4294967296
entry-size e h =
    let f = every-all (leb 1 e.seq ∷ ltb e.seq (2 ^ 63) ∷ signed_within (2 ^ 63) e.expiration ∷ word e.producer ∷ word e.match_word ∷ signed_within (2 ^ 31) e.redelivery ∷ ltb e.size (2 ^ 32) ∷ []) h in
    omega (arith, ltb-true e.size (2 ^ 32) f.1.1.1.1.1.1.0)

bytes-few : (es : List Entry) → all entry_ok es ≡ true → bytes_of es ≤ 4294967296 * length es
bytes-few [] h = omega arith
bytes-few (e ∷ es) h =
    let one : (whether member e.seq (seqs es) then 0 else e.size) ≤ 4294967296 = by-if (λ (n : ℕ). n ≤ 4294967296) (member e.seq (seqs es)) 0 e.size (λ _. omega arith) (λ _. entry-size e (and_left (entry_ok e) (all entry_ok es) h)) in
    omega (arith, one, bytes-few es (and_right (entry_ok e) (all entry_ok es) h))

held-few : (t : Dest) → sound t ≡ true → bytes_held t ≤ 2199023255552
held-few t s =
    let ok : all entry_ok (all_rows t) ≡ true = sum-ok (all_rows t) (omega (arith, (fine t s).ok, rows-length bad t)) in
    omega (arith, bytes-few (all_rows t) ok, leb-true (length (all_rows t)) 512 (Def.facts t s).few-rows)

query-is : (p : Buffers) → state_short (lengths_of p 0) ≡ false → formed p ≡ true → sound (view p) ≡ true → (as_asked (buffer_query p bytes)).answer ≡ bytes_held (view p)
unfolding buffer_query query query_refusal
query-is p s f g = rw (s, f, g)

module _ (k : ℕ) (heads : List ℕ) (subs rows : List Row) (own : List ℕ) where
  pub open-bytes : is_open k (lent_all heads subs rows own) ≡ true → Within k heads subs rows → sound_station (lent_all heads subs rows own) ≡ true → (r : Told.Asked)
      → r ≡ as_asked (buffer_query (lent (take ((k * 8347 + 8347) - k * 8347) (drop (k * 8347) heads)) (take ((k * 32 + 32) - k * 32) (drop (k * 32) subs)) (take ((k * 512 + 512) - k * 512) (drop (k * 512) rows))) bytes)
      → (r.answer ≡ slot_bytes (slot_at (lent_all heads subs rows own) k)) × (r.answer ≤ 2199023255552)
  unfolding sound_buffers state_short
  open-bytes o w y r e =
      let p = part k (lent_all heads subs rows own) in
      let s = sound-part k heads subs rows own o w.is-place y in
      let g : sound (view p) ≡ true = and_right (formed p) (sound (view p)) s in
      let long : state_short (lengths_of p 0) ≡ false = ap (λ (l : Lengths). state_short l) (part-lengths k (lent_all heads subs rows own) w.is-place w.heads-long w.subs-long w.rows_long) in
      let is : r.answer ≡ bytes_held (view p) = ap (λ (x : Told.Asked). x.answer) (at_part k heads subs rows w (λ (x : Buffers). r ≡ as_asked (buffer_query x bytes)) e own) ∙ query-is p long (and_left (formed p) (sound (view p)) s) g in
      (is ∙ sym (ap slot_bytes (open-slot k heads subs rows own o)), omega (arith, is, held-few (view p) g))

-- ---- of all places, one after another

module _ (b : StationBuffers) where
  abbrev pub slots_to : ℕ → ℕ → List (Option StationSlot)
  slots_to from n = map (slot_at b) (up_from from n)

  counted-last : (from n : ℕ) → counted_lines from (slots_to from (suc n)) ≡ counted_lines from (slots_to from n) ++ slot_line (from + n) (slot_at b (from + n))
  unfolding counted_lines
  counted-last from zero = append-nil (slot_line from (slot_at b from)) ∙ ap (λ (k : ℕ). slot_line k (slot_at b k)) (sym (add-zero from))
  counted-last from (suc n) =
      let e : suc from + n ≡ from + suc n = omega arith in
      ap (λ (t : List ℕ). slot_line from (slot_at b from) ++ t) (counted-last (suc from) n ∙ ap (λ (k : ℕ). counted_lines (suc from) (slots_to (suc from) n) ++ slot_line k (slot_at b k)) e)
      ∙ sym (append_assoc (slot_line from (slot_at b from)) (counted_lines (suc from) (slots_to (suc from) n)) (slot_line (from + suc n) (slot_at b (from + suc n))))

  pub none-counted : {at : ℕ} {out : List ℕ} → Puts (counted_lines 0 (slots_to 0 0)) at out at out
  unfolding counted_lines
  none-counted {at} {out} = none-put at out

  pub next_counted : (k : ℕ) {from at r : ℕ} {l l' l'' : List ℕ} → Puts (counted_lines 0 (slots_to 0 k)) from l at l' → Puts (slot_line k (slot_at b k)) at l' r l'' → Puts (counted_lines 0 (slots_to 0 (k + 1))) from l r l''
  next_counted k {from} {at} {r} {l} {l'} {l''} p q =
      subst⁻¹ (λ (t : List ℕ). Puts t from l r l'') (ap (λ (n : ℕ). counted_lines 0 (slots_to 0 n)) (add-one k) ∙ counted-last 0 k ∙ ap (λ (n : ℕ). counted_lines 0 (slots_to 0 k) ++ slot_line n (slot_at b n)) (zero-add k)) ((then) p q)

  bytes-last : (from n : ℕ) → slots_bytes (slots_to from (suc n)) ≡ slots_bytes (slots_to from n) + slot_bytes (slot_at b (from + n))
  bytes-last from zero = omega (arith, ap (λ (k : ℕ). slot_bytes (slot_at b k)) (add-zero from))
  bytes-last from (suc n) =
      let e : suc from + n ≡ from + suc n = omega arith in
      omega (arith, bytes-last (suc from) n, ap (λ (k : ℕ). slot_bytes (slot_at b k)) e)

  pub next_bytes : (k : ℕ) {sum more : ℕ} → sum ≡ slots_bytes (slots_to 0 k) → more ≡ slot_bytes (slot_at b k) → sum + more ≡ slots_bytes (slots_to 0 (k + 1))
  next_bytes k {sum} {more} p q = omega (arith, p, q, bytes-last 0 k, ap (λ (n : ℕ). slots_bytes (slots_to 0 n)) (add-one k), ap (λ (n : ℕ). slot_bytes (slot_at b n)) (zero-add k))

-- ---- all bytes

module _ (b : StationBuffers) (events : List Row) where
  abbrev short : Bool
  short = station_short (station_lengths_of b (length events))

  module _ {t : Bool} (e : t ≡ (not short && sound_station b)) where
    -- the buffers are long enough, and hold a sound station
    module _ (h : t ≡ true) where
      long : short ≡ false
      long = not-true short (and_left (not short) (sound_station b) (sym e ∙ h))

      sound-so : sound_station b ≡ true
      sound-so = and_right (not short) (sound_station b) (sym e ∙ h)

      pub tested : (k : ℕ) → k < 8 → Within k b.heads b.subs b.rows × (20 ≤ length b.own) × (sound_station b ≡ true)
      tested k m = places b events long sound-so k m

      pub all-bytes : {n : ℕ} → n ≡ slots_bytes (map (slot_at b) (up_from 0 8)) → n ≡ held_bytes (station_lengths_of b (length events)) (station_by b events)
      unfolding sound_station station_formed station_view
      all-bytes f = f ∙ sym (if-false _ _ long ∙ if-true _ _ sound-so)

    -- or not
    pub no_bytes : t ≡ false → 0 ≡ held_bytes (station_lengths_of b (length events)) (station_by b events)
    unfolding sound_station station_formed
    no_bytes h = by-test short
        (λ y. sym (if-true _ _ y))
        (λ y. sym (if-false _ _ y ∙ if-false _ _ (sym (ap (λ (x : Bool). not x && sound_station b) y) ∙ sym e ∙ h)))

-- ---- the last lines: that of a block that is not whole, a program's own, and the station's

module _ (most : ℕ) (b : StationBuffers) (events : List Row) (at : Reading) (failed : Bool) (own-lines out : List ℕ) where
  abbrev l : StationLengths
  l = station_lengths_of b (length events)

  abbrev station : ℕ → List ℕ
  station n = station_line (station_view b).next (station_view b).lost 0 n

  abbrev lines : ℕ → List ℕ
  lines n = rest_line at failed ++ (own-lines ++ station n)

  abbrev lasts : List ℕ
  lasts = whether station_short l then [] else lines (station_bytes (station_by b events))

  pub no-last-room : length out < most → PutLine most lasts 0 out 0 out
  no-last-room h = no_room lasts out 0 (lt-leb (0 + most) (length out) (omega arith))

  pub short-last : station_short l ≡ true → PutLine most lasts 0 out 0 out
  short-last e = subst⁻¹ (λ (t : List ℕ). PutLine most t 0 out 0 out) (if-true [] (lines (station_bytes (station_by b events))) e) (blank 0 out)

  module _ (few : ℕ) (enough : few + 384 ≤ most) (room : most ≤ length out) {from : ℕ} {out₁ : List ℕ} (p : PutLine 128 (rest_line at failed) 0 out from out₁) where
    first : Puts (rest_line at failed) 0 out from out₁
    first = line-puts (omega (arith, room)) (rest-length at failed) p

    pub lines-room : (n : ℕ) → n + 128 ≤ most → from + n ≤ length out₁
    lines-room n h = omega (arith, room, h, first.next, first.same, rest-length at failed)

    pub last-put : station_short l ≡ false → {to : ℕ} {out₂ : List ℕ} → Puts own-lines from out₁ to out₂ × (to ≤ from + few)
        → (n : ℕ) → n ≡ held_bytes l (station_by b events) → {r : ℕ} {out₃ : List ℕ} → PutLine 256 (station n) to out₂ r out₃ → PutLine most lasts 0 out r out₃
    last-put e {to} {out₂} c n same {r} {out₃} s =
        let own_line : Puts (station n) to out₂ r out₃ = line-puts (omega (arith, room, first.next, first.same, rest-length at failed, c.0.same, c.1)) (omega (arith, station-length (station_view b).next (station_view b).lost 0 n)) s in
        subst⁻¹ (λ (t : List ℕ). PutLine most t 0 out r out₃) (if-false [] (lines (station_bytes (station_by b events))) e)
        (subst (λ (m : ℕ). PutLine most (lines m) 0 out r out₃) (same ∙ if-false _ _ e)
        (whole-line (le-leb (0 + most) (length out) (omega (arith, room))) ((then) first ((then) c.0 own_line), omega (arith, first.next, rest-length at failed, c.1, own_line.next, station-length (station_view b).next (station_view b).lost 0 n))))
