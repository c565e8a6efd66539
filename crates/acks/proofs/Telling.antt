-- What is counted and sent: nothing, a count alone, and the dead letters of rows, one after the other. Assumes nothing.
use mathlib.Core.Path.{◌≡◌, refl, sym, ap, ◌∙◌}
use mathlib.Core.Bool.{Bool, true, false, not, ◌&&◌}
use mathlib.Core.List.{List, [], ◌∷◌, ◌++◌, map, append-nil, append_assoc}
use Prim.Native.Nat.{ℕ, ◌+◌, ◌≤◌, ◌<◌}
use native.Mathlib.Nat.{zero-add}
use native.Mathlib.Numerals.{add-one}
use native.Mathlib.Omega.{arith}
use lib.ListN.{length, take, drop, get_or, set, length-set}
use lib.Seq.{slice, slice_empty, slice-cons, length-slice, drop-drop}
use Rattle.stats.specs.declared.Stats.{Stats}
use Rattle.stats.specs.Counted.{with_discarded_by}
use Rattle.model.specs.declared.AckCount.{AckCount}
use Rattle.model.specs.declared.AckCount.TheVariants.{DeadLetter}
use Rattle.entry.specs.Entry.{entry_of}
use Rattle.definition.specs.Base.{whether◌then◌else◌, keep, tally, all}
use Rattle.definition.specs.Types.{Inflight, Event, letter}
use Rattle.definition.specs.Consumer.{◌⊕◌, zero_stats, add_discarded, dead_letters}
use Rattle.definition.specs.Layout.{Row, inflight_at, event_words}
use Rattle.definition.proofs.Tests.{by-test}
use Rattle.definition.proofs.Lists.{all_end}
use Rattle.definition.proofs.Thin.{tally-length}
use Rattle.definition.proofs.Local.{⊕-zero, ⊕-assoc}
use Rattle.table.proofs.Lists.{slice_snoc}
use Rattle.table.proofs.Segments.{tally-map, keep-map}
use Rattle.state.specs.declared.Head.{Head}
use Rattle.state.specs.State.{with_counters, with_events}
use Rattle.state.proofs.Counts.{discarded-plain}
use Rattle.state.proofs.Events.{pushed_room, events-up-to, events-after}
use Rattle.table.specs.declared.Span.{Span}
use Rattle.acks.specs.Rules.{in_span, counts_of, events_of, removed_counts, removed_events}
use Rattle.acks.specs.Parts.{full_row, Dying, Told, dead_head, dead_events, row_letters, row_discards}
use Rattle.acks.proofs.Flying.{tally-flying}

-- ---- nothing sent

-- a count alone
pub told-counted : (c x : Stats) (m : ℕ) (d r : Head) (events : List Row) → r ≡ with_counters x d → x ≡ d.stats ⊕ c → Told c [] m d r events events
told-counted c x m d r events u e = rw u (record {
  head = ap (λ (y : Stats). with_counters y d) e;
  said = sym (append-nil (take d.events events));
  later = refl;
  more = omega arith;
  few = omega arith;
  size = refl;
})

pub told_none : (m : ℕ) (d : Head) (events : List Row) → Told zero_stats [] m d d events events
told_none m d events = told-counted zero_stats d.stats m d d events refl (sym (⊕-zero d.stats))

-- by whether it browses, and what its rows count as
module _ (counts : AckCount) (browser cause : Bool) (hit : Inflight → Bool) (l : List Inflight) (m : ℕ) (d r : Head) (events events' : List Row) where
  pub told-browsing : browser ≡ true → Told zero_stats [] m d r events events' → Told (removed_counts counts browser hit l) (removed_events counts browser cause hit l) m d r events events'
  told-browsing t x = rw t x

  pub told-as : (c : AckCount) → browser ≡ false → counts ≡ c → Told (counts_of c hit l) (events_of c cause (keep hit l)) m d r events events'
      → Told (removed_counts counts browser hit l) (removed_events counts browser cause hit l) m d r events events'
  told-as c t u x = rw (t, u) x

-- ---- dead letters

-- the counters and the events once the rows l are told too
pub record Tale : Type 0 where
  pub stats : Stats
  pub events : List Row

abbrev pub counted : (Row → Bool) → List Row → Stats
counted q l = add_discarded (row_discards q l)

abbrev pub told : Bool → (Row → Bool) → List Row → List Event
told cause q l = row_letters cause (keep q l)

unfoldable pub tale : Bool → (Row → Bool) → List Row → Head → List Row → Tale
tale cause q l d events = record { stats = d.stats ⊕ counted q l; events = take d.events events ++ map event_words (told cause q l) }

tale-eq : {x y : Stats} {u v : List Row} → x ≡ y → u ≡ v → ◌≡◌ {A = Tale} (record { stats = x; events = u }) (record { stats = y; events = v })
tale-eq p q = λ j. record { stats = p j; events = q j }

module _ (cause : Bool) (q : Row → Bool) (r : Row) (l : List Row) (d : Head) (events : List Row) where
  -- a row that is not meant
  tale-miss : q r ≡ false → tale cause q l d events ≡ tale cause q (r ∷ l) d events
  unfolding tale
  tale-miss t = rw t (simp zero-add)

  tally-miss : q r ≡ false → tally q (r ∷ l) ≡ tally q l
  tally-miss t = rw t (zero-add _)

  module _ (t : q r ≡ true) where
    tally-hit : tally q (r ∷ l) ≡ 1 + tally q l
    tally-hit = rw t

    -- one that is discarded
    tale-lost : (entry_of r).persistent ≡ false → tale cause q l (with_counters (d.stats ⊕ add_discarded 1) d) events ≡ tale cause q (r ∷ l) d events
    unfolding tale
    tale-lost u = rw (t, u) (tale-eq (⊕-assoc d.stats (add_discarded 1) (counted q l)) refl)

    -- one that is sent
    tale-sent : (entry_of r).persistent ≡ true → d.events < length events
        → tale cause q l (with_events (d.events + 1) d) (set events d.events (event_words (letter (entry_of r).seq (entry_of r).redelivery cause))) ≡ tale cause q (r ∷ l) d events
    unfolding tale
    tale-sent u room =
        let e : Row = event_words (letter (entry_of r).seq (entry_of r).redelivery cause) in
        let x : take (d.events + 1) (set events d.events e) ++ map event_words (told cause q l) ≡ take d.events events ++ (e ∷ map event_words (told cause q l)) =
        ap (λ (z : List Row). z ++ map event_words (told cause q l)) (events-up-to d.events events e room) ∙ append_assoc (take d.events events) (e ∷ []) (map event_words (told cause q l)) in
        rw (t, u) (tale-eq (ap (λ (z : ℕ). d.stats ⊕ add_discarded z) (sym (zero-add _))) x)

-- while the rows from..to are told, i of them done
pub record Telling (cause : Bool) (q : Row → Bool) (rows : List Row) (from to i : ℕ) (d₀ d : Head) (events₀ events : List Row) : Type 0 where
  pub within : from ≤ i
  pub end : i ≤ to
  pub tales : tale cause q (slice i to rows) d events ≡ tale cause q (slice from to rows) d₀ events₀
  pub later : drop d.events events ≡ drop d.events events₀
  pub more : d₀.events ≤ d.events
  pub few : d.events + tally q (slice i to rows) ≤ d₀.events + tally q (slice from to rows)
  pub discarded : d.stats.discarded + from ≤ d₀.stats.discarded + i
  pub size : length events ≡ length events₀
  pub head : d ≡ with_events d.events (with_counters d.stats d₀)

module _ (cause : Bool) (q : Row → Bool) (rows : List Row) (from to : ℕ) (d₀ : Head) (events₀ : List Row) (dying : Dying (length rows) (length events₀) from to d₀) where
  pub telling-start : Telling cause q rows from to from d₀ d₀ events₀ events₀
  telling-start = record { within = omega arith; end = dying.start; tales = refl; later = refl; more = omega arith; few = omega arith; discarded = omega arith; size = refl; head = refl }

  -- no more than there are rows
  tally-few : tally q (slice from to rows) + from ≤ to
  tally-few = omega (arith, tally-length q (slice from to rows), length-slice from to rows dying.rows)

  module _ (i : ℕ) (d : Head) (events : List Row) (g : Telling cause q rows from to i d₀ d events₀ events) where
    module _ (less : i < to) where
      abbrev row : Row
      row = get_or rows i []

      abbrev rest : List Row
      rest = slice (i + 1) to rows

      left_is : slice i to rows ≡ row ∷ rest
      left_is = slice-cons i to rows [] less dying.rows ∙ ap (λ (n : ℕ). row ∷ slice n to rows) (sym (add-one i))

      tally-is : tally q (slice i to rows) ≡ tally q (row ∷ rest)
      tally-is = ap (tally q) left_is

      tale-is : tale cause q (row ∷ rest) d events ≡ tale cause q (slice from to rows) d₀ events₀
      tale-is = ap (λ (l : List Row). tale cause q l d events) (sym left_is) ∙ g.tales

      pub telling-miss : q row ≡ false → Telling cause q rows from to (i + 1) d₀ d events₀ events
      telling-miss t = record {
        within = omega (arith, g.within);
        end = omega arith;
        tales = tale-miss cause q row rest d events t ∙ tale-is;
        later = g.later;
        more = g.more;
        few = omega (arith, g.few, tally-is, tally-miss cause q row rest d events t);
        discarded = omega (arith, g.discarded);
        size = g.size;
        head = g.head;
      }

      module _ (t : q row ≡ true) where
        room : d.events < length events
        room = omega (arith, g.few, tally-is, tally-hit cause q row rest d events t, tally-few, g.size, dying.events, dying.room)

        abbrev e : Event
        e = letter (entry_of row).seq (entry_of row).redelivery cause

        lost : (entry_of row).persistent ≡ false → Telling cause q rows from to (i + 1) d₀ (with_counters (with_discarded_by d.stats 1) d) events₀ events
        lost u =
            let plain : with_discarded_by d.stats 1 ≡ d.stats ⊕ add_discarded 1 = discarded-plain d.stats 1 (omega (arith, g.discarded, dying.few, dying.discarded, g.end)) in
            rw plain (record {
              within = omega (arith, g.within);
              end = omega arith;
              tales = tale-lost cause q row rest d events t u ∙ tale-is;
              later = g.later;
              more = g.more;
              few = omega (arith, g.few, tally-is, tally-hit cause q row rest d events t);
              discarded = omega (arith, g.discarded);
              size = g.size;
              head = ap (λ (x : Head). with_counters (d.stats ⊕ add_discarded 1) x) g.head;
            })

        sent : (entry_of row).persistent ≡ true → Telling cause q rows from to (i + 1) d₀ (with_events (d.events + 1) d) events₀ (set events d.events (event_words e))
        sent u = record {
          within = omega (arith, g.within);
          end = omega arith;
          tales = tale-sent cause q row rest d events t u room ∙ tale-is;
          later = events-after d.events events (event_words e) ∙ sym (drop-drop 1 d.events events) ∙ ap (drop 1) g.later ∙ drop-drop 1 d.events events₀;
          more = omega (arith, g.more);
          few = omega (arith, g.few, tally-is, tally-hit cause q row rest d events t);
          discarded = omega (arith, g.discarded);
          size = simp length-set g.size;
          head = ap (λ (x : Head). with_events (d.events + 1) x) g.head;
        }

        pub telling-dead : (d' : Head) (events' : List Row) → d' ≡ dead_head (entry_of row).persistent d (length events) → events' ≡ dead_events (entry_of row).persistent d.events e events
            → Telling cause q rows from to (i + 1) d₀ d' events₀ events'
        telling-dead d' events' x y = by-test (entry_of row).persistent
            (λ u. let v : d' ≡ with_events (d.events + 1) d = x ∙ rw u (pushed_room d (length events) room) in let w : events' ≡ set events d.events (event_words e) = y ∙ rw u in rw (v, w) (sent u))
            (λ u. let v : d' ≡ with_counters (with_discarded_by d.stats 1) d = x ∙ rw u in let w : events' ≡ events = y ∙ rw u in rw (v, w) (lost u))

    pub telling-end : to ≤ i → Told (counted q (slice from to rows)) (told cause q (slice from to rows)) (tally q (slice from to rows)) d₀ d events₀ events
    unfolding tale
    telling-end done =
        let e : i ≡ to = omega (arith, g.end) in
        let none : slice i to rows ≡ [] = ap (λ (n : ℕ). slice n to rows) e ∙ slice_empty to rows in
        let last : tale cause q [] d events ≡ tale cause q (slice from to rows) d₀ events₀ = ap (λ (l : List Row). tale cause q l d events) (sym none) ∙ g.tales in
        let stats : d.stats ≡ d₀.stats ⊕ counted q (slice from to rows) = sym (⊕-zero d.stats) ∙ ap (λ (x : Tale). x.stats) last in
        let n : tally q (slice i to rows) ≡ 0 = ap (tally q) none in
        record {
          head = g.head ∙ ap (λ (x : Stats). with_events d.events (with_counters x d₀)) stats;
          said = sym (append-nil (take d.events events)) ∙ ap (λ (x : Tale). x.events) last;
          later = g.later;
          more = g.more;
          few = omega (arith, g.few);
          size = g.size;
        }

-- the same of rows in flight
dead_letters-flying : (cause : Bool) (l : List Row) → dead_letters cause (map inflight_at l) ≡ row_letters cause l
dead_letters-flying cause [] = refl
dead_letters-flying cause (r ∷ l) = ap (λ (x : List Event). whether (entry_of r).persistent then letter (entry_of r).seq (entry_of r).redelivery cause ∷ x else x) (dead_letters-flying cause l)

pub told-flying : (cause : Bool) (p : Span) (l : List Row) (d r : Head) (events events' : List Row)
    → Told (counted (λ w. in_span p (inflight_at w)) l) (told cause (λ w. in_span p (inflight_at w)) l) (tally (λ w. in_span p (inflight_at w)) l) d r events events'
    → Told (removed_counts DeadLetter false (in_span p) (map inflight_at l)) (removed_events DeadLetter false cause (in_span p) (map inflight_at l)) (tally (in_span p) (map inflight_at l)) d r events events'
told-flying cause p l d r events events' x =
    let n : tally (λ i. in_span p i && not i.entry.persistent) (map inflight_at l) ≡ row_discards (λ w. in_span p (inflight_at w)) l = tally-map inflight_at (λ i. in_span p i && not i.entry.persistent) l in
    let e : dead_letters cause (keep (in_span p) (map inflight_at l)) ≡ told cause (λ w. in_span p (inflight_at w)) l =
    ap (dead_letters cause) (keep-map inflight_at (in_span p) l) ∙ dead_letters-flying cause (keep (λ w. in_span p (inflight_at w)) l) in
    rw (n, e, tally-flying p l) x

-- ---- rows with all their words

-- while the rows from..to are looked at, up to i
pub record Full (from to i : ℕ) (rows : List Row) : Type 0 where
  pub within : from ≤ i
  pub end : i ≤ to
  pub room : to ≤ length rows
  pub done : all full_row (slice from i rows) ≡ true

pub full-none : (from : ℕ) (rows : List Row) → all full_row (slice from from rows) ≡ true
full-none from rows = ap (all full_row) (slice_empty from rows)

pub full-turn : (from i : ℕ) (rows : List Row) → from ≤ i → i < length rows → full_row (get_or rows i []) ≡ true → all full_row (slice from i rows) ≡ true → all full_row (slice from (i + 1) rows) ≡ true
full-turn from i rows h b t g = ap (all full_row) (slice_snoc from i rows [] h b) ∙ all_end full_row (slice from i rows) (get_or rows i []) g t
