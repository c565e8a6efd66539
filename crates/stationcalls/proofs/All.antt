-- All dead letters of one call: the view while the own words change, and the whole of it. Assumes nothing.
use mathlib.Core.Path.{◌≡◌, refl, sym, ap, ◌∙◌, subst, subst⁻¹}
use mathlib.Core.Bool.{true}
use mathlib.Core.List.{List, ◌++◌, map}
use mathlib.Core.Option.{Option, none, some}
use Prim.Native.Nat.{ℕ, ◌+◌, ◌≤◌, ◌<◌}
use native.Mathlib.Omega.{arith}
use lib.ListN.{length, set, take, drop, length-set, length-map}
use lib.Seq.{get_or-set_same, get_or-set_other, ext_get_or, take_at, length-take-le}
use Rattle.entry.specs.Entry.{entry_of}
use Rattle.definition.specs.Base.{whether◌then◌else◌, all, up_from}
use Rattle.definition.specs.Types.{Entry}
use Rattle.definition.specs.Calls.{seqs, clock_ok}
use Rattle.definition.specs.Words.{at, entry_in}
use Rattle.definition.specs.Layout.{Row, flag, view}
use Rattle.definition_station.specs.Types.{StationSlot, Station, RanLetters}
use Rattle.definition_station.specs.Letters.{number_letters, running, hops_max}
use Rattle.definition_stationfates.specs.Told.{letter_places, told_row, tell_each}
use Rattle.definition_station.specs.Layout.{StationBuffers, part, name_word, is_open, slot_at, station_view}
use Rattle.stationcalls.specs.Parts.{lent_all}
use Rattle.stationcalls.specs.Run.{shown_with, letter_ok, Sounds, OnwardAt, Lends, Roomy, RunsLetters, running_on, places_on}
use Rattle.stationcalls.specs.declared.letters.Given.{Given}
use Rattle.stationcalls.specs.Numbers.{station_of, Numbers, Letters}
use Rattle.stationcalls.specs.All.{all_run, all_told, rows_told, numbers_got, LendsAll, RanAll}
use Rattle.stationcalls.specs.Tells.{told_over}
use Rattle.stationcalls.proofs.Viewed.{slots_at}
use Rattle.stationcalls.proofs.Whither.{places-length}
use Rattle.stationcalls.proofs.Becoming.{rows_are, numbers-are}

-- the marks and the names are the first sixteen words
abbrev Named : List ℕ → List ℕ → Type 0
Named own own' = (i : ℕ) → i < 16 → at i own' ≡ at i own

pub set-names : (own : List ℕ) (k x : ℕ) → 16 ≤ k → Named own (set own k x)
set-names own k x h i g = get_or-set_other own k i x 0 (λ e. omega (arith, e, h, g))

module _ (heads : List ℕ) (subs rows : List Row) (own own' : List ℕ) (same : Named own own') where
  abbrev b : StationBuffers
  b = lent_all heads subs rows own

  abbrev b' : StationBuffers
  b' = lent_all heads subs rows own'

  open-same : (j : ℕ) → j < 8 → is_open j b' ≡ is_open j b
  open-same j h = ap flag (same j (omega (arith, h)))

  slot-own : (j : ℕ) → j < 8 → slot_at b' j ≡ slot_at b j
  unfolding slot_at part
  slot-own j h =
      ap (λ (w : ℕ). whether◌then◌else◌ {A = Option StationSlot} (flag w) (some (record { dest = view (part j b); name = at (name_word j) own' })) none) (same j (omega (arith, h)))
      ∙ ap (λ (w : ℕ). whether◌then◌else◌ {A = Option StationSlot} (flag (at j own)) (some (record { dest = view (part j b); name = w })) none) (same (name_word j) (omega (arith, h)))

  pub slots-own : (station_view b').slots ≡ (station_view b).slots
  unfolding station_view
  slots-own = ext_get_or none (map (slot_at b') (up_from 0 8)) (map (slot_at b) (up_from 0 8)) refl
      (λ i g. slots_at b' 0 i g ∙ slot-own i g ∙ sym (slots_at b 0 i g))

  pub sounds-own : Sounds b → Sounds b'
  unfolding part
  sounds-own s = record { sounds = λ j h o. s.sounds j h (sym (open-same j h) ∙ o) }

  pub shown-own : (lost : ℕ) → shown_with b' lost ≡ station_of (station_view b).slots (at 16 own') lost
  unfolding station_view
  shown-own lost = ap (λ (l : List (Option StationSlot)). station_of l (at 16 own') lost) slots-own

-- ---- numbered, and run

module _ (heads : List ℕ) (subs rows : List Row) (own : List ℕ) (events : List Row) (sent clock k : ℕ) (es : List Entry) (letters : List Row) (g : Given) (l : LendsAll (lent_all heads subs rows own))
    (m : (slots : List (Option StationSlot)) → Numbers (number_letters es (station_of slots (at 16 own) (at 17 own))) slots letters g) where
  abbrev c : StationBuffers
  c = lent_all heads subs rows own

  abbrev own₁ : List ℕ
  own₁ = set own 16 g.next

  abbrev c₁ : StationBuffers
  c₁ = lent_all heads subs rows own₁

  abbrev q : RanLetters
  q = all_run clock (at (8 + k) own) es (station_view c)

  -- what is numbered
  ours : Numbers (number_letters es (station_view c)) (station_view c).slots letters g
  unfolding station_view
  ours = m (station_view c).slots

  next-is : at 16 own₁ ≡ g.next
  next-is = get_or-set_same own 16 g.next 0 (omega (arith, l.own-long))

  station₁ : shown_with c₁ g.lost ≡ (number_letters es (station_view c)).station
  station₁ = shown-own heads subs rows own own₁ (set-names own 16 g.next (omega (arith))) g.lost ∙ ap (λ (n : ℕ). station_of (station_view c).slots n g.lost) next-is ∙ ours.station-is

  name-is : k < 8 → at (8 + k) own₁ ≡ at (8 + k) own
  name-is h = set-names own 16 g.next (omega (arith)) (8 + k) (omega (arith, h))

  pub run_is : k < 8 → running_on hops_max clock (at (8 + k) own₁) (take g.many letters) (shown_with c₁ g.lost) ≡ q
  run_is h =
      ap (λ (n : ℕ). running_on hops_max clock n (take g.many letters) (shown_with c₁ g.lost)) (name-is h)
      ∙ ap (λ (x : List Entry). running hops_max clock (at (8 + k) own) x (shown_with c₁ g.lost)) ours.letters-are
      ∙ ap (λ (s : Station). running hops_max clock (at (8 + k) own) (number_letters es (station_view c)).letters s) station₁

  places-are : k < 8 → places_on hops_max clock (at (8 + k) own₁) (take g.many letters) (shown_with c₁ g.lost) ≡ letter_places hops_max clock (at (8 + k) own) (number_letters es (station_view c)).letters (number_letters es (station_view c)).station
  places-are h =
      ap (λ (n : ℕ). places_on hops_max clock n (take g.many letters) (shown_with c₁ g.lost)) (name-is h)
      ∙ ap (λ (x : List Entry). letter_places hops_max clock (at (8 + k) own) x (shown_with c₁ g.lost)) ours.letters-are
      ∙ ap (λ (s : Station). letter_places hops_max clock (at (8 + k) own) (number_letters es (station_view c)).letters s) station₁

  -- the rows that are told
  pub told-are : (ws : List Row) → es ≡ map entry_of ws → (places : List ℕ) → k < 8 → places ≡ places_on hops_max clock (at (8 + k) own₁) (take g.many letters) (shown_with c₁ g.lost)
      → rows_told ws (numbers_got g.many letters) places ≡ all_told clock (at (8 + k) own) es (station_view c)
  told-are ws e places h f =
      rows_are ws (numbers_got g.many letters) places
      ∙ ap (λ (x : List Entry). map told_row (tell_each x (numbers_got g.many letters) places)) (sym e)
      ∙ ap (λ (x : List ℕ). map told_row (tell_each es x places)) (numbers-are (take g.many letters) ∙ ap seqs ours.letters-are)
      ∙ ap (λ (x : List ℕ). map told_row (tell_each es (seqs (number_letters es (station_view c)).letters) x)) (f ∙ places-are h)

  pub lends-on : (scratch : List Row) → length scratch ≡ 545 → Lends c₁ scratch
  lends-on scratch e = record {
    heads-long = l.heads-long;
    subs-long = l.subs-long;
    rows_long = l.rows_long;
    own-long = subst⁻¹ (λ (n : ℕ). 20 ≤ n) (length-set own 16 g.next) l.own-long;
    scratch-long = e;
    sound = sounds-own heads subs rows own own₁ (set-names own 16 g.next (omega (arith))) l.sound;
  }

  pub room-on : k < 8 → Roomy q sent events → Roomy (running_on hops_max clock (at (8 + k) own₁) (take g.many letters) (shown_with c₁ g.lost)) sent events
  room-on h r = subst⁻¹ (λ (x : RanLetters). Roomy x sent events) (run_is h) r

  module _ (heads' : List ℕ) (subs' rows' : List Row) (events' : List Row) (sent' lost' : ℕ) (h : k < 8)
      (p : RunsLetters (running_on hops_max clock (at (8 + k) own₁) (take g.many letters) (shown_with c₁ g.lost)) c₁ (lent_all heads' subs' rows' own₁) events events' sent sent' lost') where
    abbrev own₂ : List ℕ
    own₂ = set own₁ 17 lost'

    abbrev c₂ : StationBuffers
    c₂ = lent_all heads' subs' rows' own₁

    abbrev c₃ : StationBuffers
    c₃ = lent_all heads' subs' rows' own₂

    ran : RunsLetters q c₁ c₂ events events' sent sent' lost'
    ran = subst (λ (x : RanLetters). RunsLetters x c₁ c₂ events events' sent sent' lost') (run_is h) p

    long₁ : 17 < length own₁
    long₁ = omega (arith, length-set own 16 g.next, l.own-long)

    names₂ : Named own₁ own₂
    names₂ = set-names own₁ 17 lost' (omega (arith))

    lost-is : at 17 own₂ ≡ lost'
    lost-is = get_or-set_same own₁ 17 lost' 0 long₁

    next-stays : at 16 own₂ ≡ at 16 own₁
    next-stays = get_or-set_other own₁ 17 16 lost' 0 (λ e. omega (arith, e))

    view₃ : station_view c₃ ≡ shown_with c₂ lost'
    unfolding station_view
    view₃ = ap (λ (n : ℕ). shown_with c₃ n) lost-is ∙ shown-own heads' subs' rows' own₁ own₂ names₂ lost' ∙ ap (λ (n : ℕ). station_of (station_view c₂).slots n lost') next-stays

    next₂ : g.next ≡ q.station.next
    unfolding station_view
    next₂ = sym next-is ∙ ap (λ (s : Station). s.next) ran.shows

    lost₂ : lost' ≡ q.station.lost
    lost₂ = ap (λ (s : Station). s.lost) ran.shows

    onward-own : (j : ℕ) → j < 8 → OnwardAt c c₃ j
    unfolding part
    onward-own j f = let o = ran.onward j f in record {
      never-fewer = o.never-fewer;
      as_it_was = o.as_it_was;
      not-open = λ z. o.not-open (open-same heads subs rows own own₁ (set-names own 16 g.next (omega (arith))) j f ∙ z);
    }

    pub all-ran : RanAll q c c₃ events events' sent sent'
    all-ran = record {
      shows = view₃ ∙ ran.shows;
      own_is = ap (λ (n : ℕ). set (set own 16 n) 17 lost') next₂ ∙ ap (λ (n : ℕ). set (set own 16 q.station.next) 17 n) lost₂;
      count = ran.count;
      first = ran.first;
      later = ran.later;
      events-length = ran.events-length;
      leaves-sound = sounds-own heads' subs' rows' own₁ own₂ names₂ ran.leaves-sound;
      past = record { heads-past = ran.past.heads-past; subs-past = ran.past.subs-past; rows-past = ran.past.rows-past; heads-length = ran.past.heads-length; subs-length = ran.past.subs-length; rows-length = ran.past.rows-length };
      onward = onward-own;
    }

-- ---- as the code has it

pub own-still : (own own₁ : List ℕ) (x : ℕ) → own₁ ≡ set own 16 x → 20 ≤ length own → 20 ≤ length own₁
own-still own own₁ x e h = subst⁻¹ (λ (n : ℕ). 20 ≤ n) (ap length e ∙ length-set own 16 x) h

module _ (heads : List ℕ) (subs rows : List Row) (own : List ℕ) (events : List Row) (sent clock k : ℕ) (es : List Entry) (letters : List Row) (g : Given) (l : LendsAll (lent_all heads subs rows own))
    (x y : ℕ) (ex : x ≡ at 16 own) (ey : y ≡ at 17 own)
    (m : (slots : List (Option StationSlot)) → Numbers (number_letters es (station_of slots x y)) slots letters g)
    (own₁ : List ℕ) (eo : own₁ ≡ set own 16 g.next) (name : ℕ) (en : name ≡ at (8 + k) own₁) where
  m₁ : (slots : List (Option StationSlot)) → Numbers (number_letters es (station_of slots (at 16 own) (at 17 own))) slots letters g
  m₁ slots =
      subst (λ (n : ℕ). Numbers (number_letters es (station_of slots (at 16 own) n)) slots letters g) ey
      (subst (λ (n : ℕ). Numbers (number_letters es (station_of slots n y)) slots letters g) ex (m slots))

  abbrev Asks : List ℕ → ℕ → List Row → Type 0
  Asks o n scratch = Lends (lent_all heads subs rows o) scratch × (g.many ≤ length letters) × (all (letter_ok clock) (take g.many letters) ≡ true) × Roomy (running_on hops_max clock n (take g.many letters) (shown_with (lent_all heads subs rows o) g.lost)) sent events

  pub asks-all : (scratch : List Row) → length scratch ≡ 545 → (n : ℕ) → Letters n letters g → clock_ok clock ≡ true → k < 8 → Roomy (all_run clock (at (8 + k) own) es (station_view (lent_all heads subs rows own))) sent events
      → Asks own₁ name scratch
  asks-all scratch e n p t h r =
      subst⁻¹ (λ (z : ℕ). Asks own₁ z scratch) en
      (subst⁻¹ (λ (o : List ℕ). Asks o (at (8 + k) o) scratch) eo
      (lends-on heads subs rows own events sent clock k es letters g l m₁ scratch e, p.within, p.letters-ok clock t, room-on heads subs rows own events sent clock k es letters g l m₁ h r))

  pub told-all : (ws : List Row) → es ≡ map entry_of ws → (places₀ places : List ℕ) → k < 8 → g.many ≤ length letters
      → places ≡ places_on hops_max clock name (take g.many letters) (shown_with (lent_all heads subs rows own₁) g.lost) ++ drop g.many places₀
      → (told told' : List Row) → told' ≡ told_over (rows_told ws (numbers_got g.many letters) (take g.many places)) told
      → told' ≡ told_over (all_told clock (at (8 + k) own) es (station_view (lent_all heads subs rows own))) told
  told-all ws e places₀ places h long f told told' t = t ∙ ap (λ (l : List Row). told_over l told) (told-are heads subs rows own events sent clock k es letters g l m₁ ws e (take g.many places) h (subst (λ (o : List ℕ). At o (at (8 + k) o)) eo (subst (λ (z : ℕ). At own₁ z) en first)))
    where
      At : List ℕ → ℕ → Type 0
      At o z = take g.many places ≡ places_on hops_max clock z (take g.many letters) (shown_with (lent_all heads subs rows o) g.lost)

      found : List ℕ
      found = places_on hops_max clock name (take g.many letters) (shown_with (lent_all heads subs rows own₁) g.lost)

      first : At own₁ name
      first = ap (take g.many) f ∙ take_at found (drop g.many places₀) g.many (places-length hops_max clock name (map entry_in (take g.many letters)) (shown_with (lent_all heads subs rows own₁) g.lost) ∙ length-map (take g.many letters) entry_in ∙ length-take-le g.many letters long)

  module _ (heads' : List ℕ) (subs' rows' : List Row) (events' : List Row) (sent' lost' : ℕ) where
    abbrev Left : List ℕ → ℕ → Type 0
    Left o n = RunsLetters (running_on hops_max clock n (take g.many letters) (shown_with (lent_all heads subs rows o) g.lost)) (lent_all heads subs rows o) (lent_all heads' subs' rows' o) events events' sent sent' lost'

    pub ran-all : (own₂ : List ℕ) → own₂ ≡ set own₁ 17 lost' → k < 8 → Left own₁ name
        → RanAll (all_run clock (at (8 + k) own) es (station_view (lent_all heads subs rows own))) (lent_all heads subs rows own) (lent_all heads' subs' rows' own₂) events events' sent sent'
    ran-all own₂ e₂ h p =
        subst⁻¹ (λ (o : List ℕ). RanAll (all_run clock (at (8 + k) own) es (station_view (lent_all heads subs rows own))) (lent_all heads subs rows own) (lent_all heads' subs' rows' o) events events' sent sent')
        (e₂ ∙ ap (λ (o : List ℕ). set o 17 lost') eo)
        (all-ran heads subs rows own events sent clock k es letters g l m₁ heads' subs' rows' events' sent' lost' h
        (subst (λ (o : List ℕ). Left o (at (8 + k) o)) eo (subst (λ (z : ℕ). Left own₁ z) en p)))
