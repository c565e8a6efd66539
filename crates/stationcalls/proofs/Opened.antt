-- An open of a place of a station. Assumes nothing.
use mathlib.Core.Path.{◌≡◌, refl, sym, ap, ◌∙◌, subst, subst⁻¹}
use mathlib.Core.Bool.{Bool, true, false, ◌&&◌}
use mathlib.Core.List.{List, [], ◌∷◌, map}
use mathlib.Core.Option.{Option, none, some}
use Prim.Native.Nat.{ℕ, ◌+◌, ◌≤◌, ◌<◌}
use native.Mathlib.Omega.{arith}
use borrow.Author.Tests.{eqb-true, eqb-false, eq-eqb, lt-leb, le-leb}
use lib.Dec.{leb, eqb}
use lib.ListN.{length, drop, set, get_or, length-set}
use lib.Seq.{get_or-set_same, get_or-set_other, ext_get_or}
use Rattle.definition.specs.Base.{whether◌then◌else◌, up_from}
use Rattle.definition.specs.Types.{Dest}
use Rattle.definition.specs.Calls.{short, state_short, Result, refused}
use Rattle.definition.specs.Words.{at, open_words, opened_by}
use Rattle.definition.specs.Layout.{Row, Buffers, flag, view, lengths_of, buffer_step}
use Rattle.definition.proofs.Tests.{by-test, if-true, if-false, and_both}
use Rattle.calls.specs.declared.Call as Struct
use Rattle.calls.specs.Calls.{new_call}
use Rattle.engine.specs.declared.Outcome.{Outcome}
use Rattle.engine.proofs.Refusing.{step-opens, step-unopened}
use Rattle.definition_station.specs.Types.{StationSlot, Station, put_slot}
use Rattle.definition_station.specs.Station.{station_short, StationResult, station_refused, opening_words, opens_right, opened_slot, open_at}
use Rattle.definition_station.specs.Layout.{StationBuffers, part, name_word, slot_at, station_view, station_lengths_of, buffer_station_step}
use Rattle.definition_station.specs.Called.{own_opened, StationCalled}
use Rattle.definition_station.proofs.Buffers.{part-lengths, heads-long, subs-long, rows_long, own-long, events-long}
use Rattle.stationcalls.specs.Parts.{lent_all, Within}
use Rattle.stationcalls.specs.Plain.{NamedAt}
use Rattle.stationcalls.proofs.Viewed.{slots_at}
use Rattle.stationcalls.proofs.Same.{as_it_was}
use Rattle.stationcalls.proofs.Shape.{refused-left, opens-is}

-- the words without the name, one by one
pub opening-words : (ws : List ℕ) → length ws ≡ 8 → at 0 ws ∷ at 1 ws ∷ at 2 ws ∷ at 3 ws ∷ at 4 ws ∷ at 5 ws ∷ 0 ∷ at 7 ws ∷ [] ≡ opening_words ws
opening-words [] e = absurd (omega (arith, e))
opening-words (a ∷ []) e = absurd (omega (arith, e))
opening-words (a ∷ b ∷ []) e = absurd (omega (arith, e))
opening-words (a ∷ b ∷ c ∷ []) e = absurd (omega (arith, e))
opening-words (a ∷ b ∷ c ∷ d ∷ []) e = absurd (omega (arith, e))
opening-words (a ∷ b ∷ c ∷ d ∷ f ∷ []) e = absurd (omega (arith, e))
opening-words (a ∷ b ∷ c ∷ d ∷ f ∷ g ∷ []) e = absurd (omega (arith, e))
opening-words (a ∷ b ∷ c ∷ d ∷ f ∷ g ∷ h ∷ []) e = absurd (omega (arith, e))
opening-words (a ∷ b ∷ c ∷ d ∷ f ∷ g ∷ h ∷ i ∷ []) e = refl
opening-words (a ∷ b ∷ c ∷ d ∷ f ∷ g ∷ h ∷ i ∷ j ∷ l) e = absurd (omega (arith, e))

module _ (heads : List ℕ) (subs rows : List Row) (own : List ℕ) (events : List Row) (k code : ℕ) (ws : List ℕ)
    (long : station_short (station_lengths_of (lent_all heads subs rows own) (length events)) ≡ false) (h : k < 8) (z : code ≡ 0) where
  abbrev b : StationBuffers
  b = lent_all heads subs rows own

  abbrev s : Station
  s = station_view b

  abbrev q : StationResult
  q = buffer_station_step b (length events) k code ws

  zero-code : eqb code 0 ≡ true
  zero-code = eq-eqb code 0 z

  -- what the definition gives
  is_open : q ≡ open_at k ws s
  is_open = opens-is b events k code ws long h zero-code

  pub open-within : Within k heads subs rows × (545 ≤ length events)
  open-within = (record { is-place = h; heads-long = heads-long b (length events) long; subs-long = subs-long b (length events) long; rows_long = rows_long b (length events) long }, omega (arith, events-long b (length events) long))

  pub open_own : (20 ≤ length own) × (k < 8)
  open_own = (own-long b (length events) long, h)

  refused-3 : opens_right ws ≡ false → q ≡ station_refused 3 s
  unfolding open_at
  refused-3 e = is_open ∙ if-false _ _ e

  -- its name is above 8
  pub open-named : 8 < at 6 ws → StationCalled q k code ws b b events events 3 0 0
  open-named g = refused-left b events k code ws 3 (omega arith) (refused-3 (never (open_words (opening_words ws)) (lt-leb (at 6 ws) 8 g)))
    where
      never : (x : Bool) → leb (at 6 ws) 8 ≡ false → (x && leb (at 6 ws) 8) ≡ false
      never true e = e
      never false e = refl

  module _ (low : at 6 ws ≤ 8) (g : Struct.Call) (ge : g ≡ new_call code (opening_words ws)) (h₁ : List ℕ) (s₁ r₁ : List Row) (events₁ : List Row) (o : Outcome)
      (n₀ : NamedAt (buffer_step (part k b) 545 g.code g.words) k b (lent_all h₁ s₁ r₁ own) events events₁ o) where
    abbrev b₁ : StationBuffers
    b₁ = lent_all h₁ s₁ r₁ own

    abbrev r : Result
    r = buffer_step (part k b) 545 code (opening_words ws)

    n : NamedAt r k b b₁ events events₁ o
    n = subst (λ (c : Struct.Call). NamedAt (buffer_step (part k b) 545 c.code c.words) k b b₁ events events₁ o) ge n₀

    part_room : short (lengths_of (part k b) 545) ≡ false
    unfolding short state_short
    part_room = ap short (part-lengths k b h (heads-long b (length events) long) (subs-long b (length events) long) (rows_long b (length events) long))

    opens : open_words (opening_words ws) ≡ true → r ≡ record { refusal = 0; answer = 0; events = []; dest = opened_by (opening_words ws) }
    opens e = step-opens (part k b) 545 code (opening_words ws) part_room zero-code e

    unopened : open_words (opening_words ws) ≡ false → r ≡ refused 3 (view (part k b))
    unopened e = step-unopened (part k b) 545 code (opening_words ws) part_room zero-code e

    -- ---- refused

    pub open-refused : (o.refusal ≡ 0 → ⊥) → StationCalled q k code ws b b₁ events events₁ o.refusal o.answer o.events
    open-refused e =
        subst⁻¹ (λ (t : StationBuffers). StationCalled q k code ws b t events events₁ o.refusal o.answer o.events) (as_it_was b b₁ (heads-long b (length events) long) (subs-long b (length events) long) (rows_long b (length events) long) parts n.past refl)
        (subst⁻¹ (λ (l : List Row). StationCalled q k code ws b b events l o.refusal o.answer o.events) (n.kept bad).1
        (subst⁻¹ (λ (m : ℕ). StationCalled q k code ws b b events events m o.answer o.events) (n.refusal ∙ ap (λ (t : Result). t.refusal) (unopened wrong))
        (subst⁻¹ (λ (m : ℕ). StationCalled q k code ws b b events events 3 m o.events) (n.answer ∙ ap (λ (t : Result). t.answer) (unopened wrong))
        (subst⁻¹ (λ (m : ℕ). StationCalled q k code ws b b events events 3 0 m) (n.count ∙ ap (λ (t : Result). length t.events) (unopened wrong))
        (refused-left b events k code ws 3 (omega arith) (refused-3 (ap (λ (x : Bool). x && leb (at 6 ws) 8) wrong)))))))
      where
        bad : r.refusal ≡ 0 → ⊥
        bad f = e (n.refusal ∙ f)

        wrong : open_words (opening_words ws) ≡ false
        wrong = by-test (open_words (opening_words ws)) (λ y. absurd (bad (ap (λ (t : Result). t.refusal) (opens y)))) (λ y. y)

        parts : (j : ℕ) → j < 8 → part j b₁ ≡ part j b
        parts j g = by-test (eqb j k)
            (λ y. subst⁻¹ (λ (i : ℕ). part i b₁ ≡ part i b) (eqb-true j k y) (n.kept bad).0)
            (λ y. n.elsewhere j g (eqb-false j k y))

    -- ---- accepted

    module _ (e : o.refusal ≡ 0) (own₁ : List ℕ) (oe : own₁ ≡ own_opened k ws own) where
      abbrev b₂ : StationBuffers
      b₂ = lent_all h₁ s₁ r₁ own₁

      right : open_words (opening_words ws) ≡ true
      right = by-test (open_words (opening_words ws)) (λ y. y) (λ y. absurd (omega (arith, sym n.refusal ∙ e, ap (λ (t : Result). t.refusal) (unopened y))))

      rs : r ≡ record { refusal = 0; answer = 0; events = []; dest = opened_by (opening_words ws) }
      rs = opens right

      result : q ≡ record { refusal = 0; answer = 0; events = []; station = put_slot k (some (opened_slot ws)) s }
      unfolding open_at
      result = is_open ∙ if-true _ _ (and_both (open_words (opening_words ws)) (leb (at 6 ws) 8) right (le-leb (at 6 ws) 8 low))

      long₀ : 20 ≤ length own
      long₀ = own-long b (length events) long

      -- the own words
      mark-is : at k own₁ ≡ 1
      mark-is = ap (at k) oe ∙ get_or-set_other (set own k 1) (8 + k) k (at 6 ws) 0 (λ y. omega (arith, y)) ∙ get_or-set_same own k 1 0 (omega (arith, h, long₀))

      name-is : at (8 + k) own₁ ≡ at 6 ws
      name-is = ap (at (8 + k)) oe ∙ get_or-set_same (set own k 1) (8 + k) (at 6 ws) 0 (omega (arith, length-set own k 1, h, long₀))

      others : (i : ℕ) → (i ≡ k → ⊥) → (i ≡ 8 + k → ⊥) → at i own₁ ≡ at i own
      others i u v = ap (at i) oe ∙ get_or-set_other (set own k 1) (8 + k) i (at 6 ws) 0 v ∙ get_or-set_other own k i 1 0 u

      abbrev there : Option StationSlot
      there = some (opened_slot ws)

      slot-here : slot_at b₂ k ≡ there
      unfolding slot_at part
      slot-here =
          ap (λ (w : ℕ). whether◌then◌else◌ {A = Option StationSlot} (flag w) (some (record { dest = view (part k b₂); name = at (name_word k) own₁ })) none) mark-is
          ∙ ap (λ (w : ℕ). some (record { dest = view (part k b₂); name = w })) name-is
          ∙ ap (λ (t : Dest). some (record { dest = t; name = at 6 ws })) shown
        where
          shown : view (part k b₂) ≡ opened_by (opening_words ws)
          shown = n.shows ∙ ap (λ (t : Result). t.dest) rs

      slot-other : (i : ℕ) → i < 8 → (i ≡ k → ⊥) → slot_at b₂ i ≡ slot_at b i
      unfolding slot_at part
      slot-other i g ne =
          ap (λ (p : Buffers). whether◌then◌else◌ {A = Option StationSlot} (flag (at i own₁)) (some (record { dest = view p; name = at (name_word i) own₁ })) none) (n.elsewhere i g ne)
          ∙ ap (λ (w : ℕ). whether◌then◌else◌ {A = Option StationSlot} (flag w) (some (record { dest = view (part i b); name = at (name_word i) own₁ })) none) (others i ne (λ y. omega (arith, y, g)))
          ∙ ap (λ (w : ℕ). whether◌then◌else◌ {A = Option StationSlot} (flag (at i own)) (some (record { dest = view (part i b); name = w })) none) (others (8 + i) (λ y. omega (arith, y, h)) (λ y. ne (omega (arith, y))))

      slots-are : map (slot_at b₂) (up_from 0 8) ≡ set (map (slot_at b) (up_from 0 8)) k there
      unfolding station_view
      slots-are = ext_get_or none (map (slot_at b₂) (up_from 0 8)) (set (map (slot_at b) (up_from 0 8)) k there) (sym (length-set (map (slot_at b) (up_from 0 8)) k there))
          (λ i g. by-test (eqb i k)
          (λ y. let f = eqb-true i k y in slots_at b₂ 0 i g ∙ ap (slot_at b₂) f ∙ slot-here ∙ sym (get_or-set_same (map (slot_at b) (up_from 0 8)) k there none h) ∙ ap (λ (j : ℕ). get_or (set (map (slot_at b) (up_from 0 8)) k there) j none) (sym f))
          (λ y. let f = eqb-false i k y in slots_at b₂ 0 i g ∙ slot-other i g f ∙ sym (slots_at b 0 i g) ∙ sym (get_or-set_other (map (slot_at b) (up_from 0 8)) k i there none f)))

      view₂ : station_view b₂ ≡ put_slot k there s
      unfolding station_view
      view₂ = λ i. record { slots = slots-are i; next = others 16 (λ y. omega (arith, y, h)) (λ y. omega (arith, y, h)) i; lost = others 17 (λ y. omega (arith, y, h)) (λ y. omega (arith, y, h)) i }

      silent : o.events ≡ 0
      silent = n.count ∙ ap (λ (t : Result). length t.events) rs

      same-events : events₁ ≡ events
      same-events = sym (ap (λ (m : ℕ). drop m events₁) silent) ∙ n.later ∙ ap (λ (m : ℕ). drop m events) silent

      made : StationCalled (record { refusal = 0; answer = 0; events = []; station = put_slot k there s }) k code ws b b₂ events events₁ 0 0 0
      unfolding part
      made = record {
        refuses = refl;
        answers = refl;
        sends = record { many = refl; first = refl; later = same-events; events-length = n.events-length };
        shows = view₂;
        leaves-sound = λ y c. absurd (omega (arith, c, z));
        opens-sound = λ y c. n.leaves-sound (ap (λ (t : Result). t.refusal) rs);
        own-opened = λ y c. oe;
        own-called = λ y c. absurd (omega (arith, c, z));
        destinations = record {
          elsewhere = λ j g ne y. n.elsewhere j g ne;
          past = record { heads-past = n.past.heads-past; subs-past = n.past.subs-past; rows-past = n.past.rows-past; heads-length = n.past.heads-length; subs-length = n.past.subs-length; rows-length = n.past.rows-length };
        };
        kept = λ y. absurd (y refl);
      }

      pub open-accepted : StationCalled q k code ws b b₂ events events₁ o.refusal o.answer o.events
      open-accepted =
          subst⁻¹ (λ (m : ℕ). StationCalled q k code ws b b₂ events events₁ m o.answer o.events) e
          (subst⁻¹ (λ (m : ℕ). StationCalled q k code ws b b₂ events events₁ 0 m o.events) (n.answer ∙ ap (λ (t : Result). t.answer) rs)
          (subst⁻¹ (λ (m : ℕ). StationCalled q k code ws b b₂ events events₁ 0 0 m) silent
          (subst⁻¹ (λ (t : StationResult). StationCalled t k code ws b b₂ events events₁ 0 0 0) result made)))
