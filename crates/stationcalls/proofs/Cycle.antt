-- Storing one letter and running some: what each turn of the code leaves is what the definition gives. Assumes nothing.
use mathlib.Core.Path.{◌≡◌, refl, sym, ap, ◌∙◌, subst, subst⁻¹}
use mathlib.Core.Bool.{true, false, true≢false}
use mathlib.Core.List.{List, [], ◌∷◌, ◌++◌, map, append_assoc, append-nil, map-append}
use Prim.Native.Nat.{ℕ, zero, suc, ◌+◌, ◌-◌, ◌≤◌, ◌<◌}
use native.Mathlib.Nat.{add-zero}
use native.Mathlib.Numerals.{add-one}
use native.Mathlib.Omega.{arith}
use borrow.Author.Tests.{eqb-true, eqb-false}
use lib.Dec.{eqb}
use lib.ListN.{length, take, drop, get_or, length-append, length-map}
use lib.Seq.{paste, length-paste, take-paste, drop-paste, slice, slice-cons, slice_empty, get_or-take, length-take-le}
use Rattle.definition.specs.Base.{all}
use Rattle.definition.specs.Types.{Event, letter, message, null, Dest}
use Rattle.definition.specs.Calls.{Lengths, Result, Call, enqueuing, refusal, call, bound}
use Rattle.definition.specs.Words.{at, entry_in}
use Rattle.definition.specs.Layout.{Row, Buffers, flag, view, sound_buffers, event_words, buffer_step}
use Rattle.definition.proofs.Tests.{by-test}
use Rattle.definition.proofs.Lists.{map-take, agree-later, all-at}
use Rattle.definition.proofs.Whole.{fine}
use Rattle.definition.proofs.Kept.{accepted, perform-fine}
use Rattle.engine.specs.declared.Outcome.{Outcome}
use Rattle.definition_station.specs.Types.{Station, put_dest, sent_at, RanLetters}
use Rattle.definition_station.specs.Letters.{whole, is_lost, running}
use Rattle.definition_station.specs.Layout.{StationBuffers, part, is_open, sent_words}
use Rattle.stationcalls.specs.Parts.{lent_all, AllPast, CalledAt}
use Rattle.stationcalls.specs.Run.{calls_at, OnwardAt, one_more_lost, named, letter_call, letter_ok, shown_with, Sounds, Lends, Roomy, RunsLetters, storing_on, running_on}
use Rattle.stationcalls.proofs.Viewed.{shown_slot, open-at, closed_at, none_above, view-put, view-same}
use Rattle.stationcalls.proofs.Stored.{storing-none, storing-zero, storing-stores, storing-passes, part-call}

-- ---- what is no part

pub past-none : (b : StationBuffers) → AllPast b b
past-none b = record { heads-past = refl; subs-past = refl; rows-past = refl; heads-length = refl; subs-length = refl; rows-length = refl }

pub past-on : (b b' b'' : StationBuffers) → AllPast b b' → AllPast b' b'' → AllPast b b''
past-on b b' b'' p q = record {
  heads-past = q.heads-past ∙ p.heads-past;
  subs-past = q.subs-past ∙ p.subs-past;
  rows-past = q.rows-past ∙ p.rows-past;
  heads-length = q.heads-length ∙ p.heads-length;
  subs-length = q.subs-length ∙ p.subs-length;
  rows-length = q.rows-length ∙ p.rows-length;
}

-- ---- parts

pub onward-none : (b : StationBuffers) (j : ℕ) → OnwardAt b b j
onward-none b j = record { never-fewer = omega (arith); as_it_was = λ e. refl; not-open = λ o. refl }

pub onward-same : (b b' : StationBuffers) (j : ℕ) → part j b' ≡ part j b → OnwardAt b b' j
onward-same b b' j e = record {
  never-fewer = subst⁻¹ (λ (p : Buffers). (view (part j b)).calls_used ≤ (view p).calls_used) e (omega (arith));
  as_it_was = λ c. e;
  not-open = λ o. e;
}

pub onward-on : (b b' b'' : StationBuffers) (j : ℕ) → b'.own ≡ b.own → OnwardAt b b' j → OnwardAt b' b'' j → OnwardAt b b'' j
onward-on b b' b'' j s p q = record {
  never-fewer = omega (arith, p.never-fewer, q.never-fewer);
  as_it_was = λ e. q.as_it_was (second e) ∙ p.as_it_was (first e);
  not-open = λ o. q.not-open (ap (λ (l : List ℕ). flag (at j l)) s ∙ o) ∙ p.not-open o;
}
  where
    first : calls_at j b'' ≡ calls_at j b → calls_at j b' ≡ calls_at j b
    first e = omega (arith, e, p.never-fewer, q.never-fewer)

    second : calls_at j b'' ≡ calls_at j b → calls_at j b'' ≡ calls_at j b'
    second e = omega (arith, e, p.never-fewer, q.never-fewer)

-- ---- lost

pub runs-lost : (q : RanLetters) (b : StationBuffers) (events : List Row) (sent lost more : ℕ) → q ≡ is_lost (shown_with b lost) → more ≡ one_more_lost lost → Sounds b
    → RunsLetters q b b events events sent sent more
runs-lost q b events sent lost more e m s = subst⁻¹ (λ (x : RanLetters). RunsLetters x b b events events sent sent more) e record {
  shows = ap (shown_with b) m;
  count = sym (add-zero sent);
  first = sym (append-nil (take sent events));
  later = refl;
  events-length = refl;
  leaves-sound = s;
  past = past-none b;
  own_same = refl;
  onward = λ j h. onward-none b j;
}

-- the three ways
pub lost-hops : (hops clock name : ℕ) (w : Row) (b : StationBuffers) (lost : ℕ) → hops ≡ 0 → storing_on hops clock name w (shown_with b lost) ≡ is_lost (shown_with b lost)
lost-hops hops clock name w b lost e = ap (λ (n : ℕ). storing_on n clock name w (shown_with b lost)) e ∙ storing-zero clock name (entry_in w) (shown_with b lost)

pub lost-name : (hops clock name : ℕ) (w : Row) (b : StationBuffers) (lost : ℕ) → 7 < name → storing_on hops clock name w (shown_with b lost) ≡ is_lost (shown_with b lost)
lost-name hops clock name w b lost h = storing-none clock name (entry_in w) (shown_with b lost) hops (none_above b lost name h)

pub lost-closed : (hops clock name : ℕ) (w : Row) (b : StationBuffers) (lost : ℕ) → name < 8 → is_open name b ≡ false → storing_on hops clock name w (shown_with b lost) ≡ is_lost (shown_with b lost)
lost-closed hops clock name w b lost h o = storing-none clock name (entry_in w) (shown_with b lost) hops (closed_at b lost name h o)

-- ---- events

named-words : (k : ℕ) (e : Event) → named k (event_words e) ≡ sent_words (record { place = k; event = e })
unfolding event_words
named-words k (letter seq redelivery cause) = refl
named-words k (message i seq redelivery) = refl
named-words k (null i) = refl

pub sent-words : (k : ℕ) (es : List Event) → map (named k) (map event_words es) ≡ map sent_words (sent_at k es)
sent-words k [] = refl
sent-words k (e ∷ es) = ap (λ (x : Row). x ∷ map (named k) (map event_words es)) (named-words k e) ∙ ap (λ (l : List Row). sent_words (record { place = k; event = e }) ∷ l) (sent-words k es)

-- ---- calls used

pub call-counts : (lent : Lengths) (c : Call) (t : Dest) → (call lent c t).refusal ≡ 0 → (call lent c t).dest.calls_used ≡ t.calls_used + 1
unfolding call
call-counts lent c t = by-test (eqb (refusal lent c t) 0)
    (λ e. rw e (λ h. let z = eqb-true (refusal lent c t) 0 e in let q = accepted lent c t z in
    ap (λ (n : ℕ). n + 1) (perform-fine t.call_limit t.calls_used t.kind (bound t.calls_used) c t (omega arith) (fine t q.is-sound) q.arguments q.own).frame.used))
    (λ e. rw e (λ h. absurd (eqb-false (refusal lent c t) 0 e h)))

-- ---- the call at a place

module _ (k clock : ℕ) (w : Row) (heads heads' : List ℕ) (subs subs' rows rows' : List Row) (own : List ℕ) (scratch scratch' : List Row) (r : Outcome) (lost : ℕ) where
  abbrev b : StationBuffers
  b = lent_all heads subs rows own

  abbrev b' : StationBuffers
  b' = lent_all heads' subs' rows' own

  abbrev q : Result
  q = call whole (enqueuing (entry_in w) clock) (view (part k b))

  -- what the code's call is
  pub enqueued : k < 8 → is_open k b ≡ true → Lends b scratch → letter_ok clock w ≡ true
      → CalledAt (buffer_step (part k b) (length scratch) 1 (letter_call clock w)) k b b' scratch scratch' r → CalledAt q k b b' scratch scratch' r
  enqueued h o l t c = subst (λ (x : Result). CalledAt x k b b' scratch scratch' r)
      (ap (λ (n : ℕ). buffer_step (part k b) n 1 (letter_call clock w)) l.scratch-long ∙ part-call k b h l.heads-long l.subs-long l.rows_long clock w (l.sound.sounds k h o) t) c

  -- open destinations stay sound
  sounds-on : k < 8 → is_open k b ≡ true → Sounds b → (c : CalledAt q k b b' scratch scratch' r) → r.refusal ≡ 0 → Sounds b'
  sounds-on h o s c z = record {
    sounds = λ j g p. by-test (eqb j k)
        (λ y. subst⁻¹ (λ (n : ℕ). sound_buffers (part n b') ≡ true) (eqb-true j k y) (c.here.leaves-sound (sym c.here.refusal ∙ z)))
        (λ n. subst⁻¹ (λ (x : Buffers). sound_buffers x ≡ true) (c.elsewhere j g (eqb-false j k n)) (s.sounds j g p));
  }

  within-list : (n : ℕ) (l : List Row) → length (take n l) ≡ n → n ≤ length l
  within-list zero l e = omega (arith)
  within-list (suc n) [] e = omega (arith, e)
  within-list (suc n) (x ∷ l) e = omega (arith, within-list n l (less (length (take n l)) n e))
    where
      less : (a c : ℕ) → suc a ≡ suc c → a ≡ c
      less a c e = omega (arith, e)

  -- what it has sent fits
  pub stored-fits : (hops : ℕ) (events : List Row) (sent : ℕ) → (hops ≡ 0 → ⊥) → k < 8 → is_open k b ≡ true
      → CalledAt q k b b' scratch scratch' r → r.refusal ≡ 0
      → Roomy (storing_on hops clock k w (shown_with b lost)) sent events → (r.events ≤ length scratch') × (sent + r.events ≤ length events) × (k < 8)
  stored-fits zero events sent ne h o c z room = absurd (ne refl)
  stored-fits (suc hops) events sent ne h o c z room = (
    within-list r.events scratch' (ap length c.here.sent ∙ length-map q.events event_words ∙ sym c.here.count),
    subst⁻¹ (λ (n : ℕ). sent + n ≤ length events) many (subst (λ (x : RanLetters). sent + length x.events ≤ length events) stores room),
    h,
  )
    where
      stores : storing_on (suc hops) clock k w (shown_with b lost) ≡ record { station = put_dest k (shown_slot b k) q.dest (shown_with b lost); events = sent_at k q.events }
      stores = storing-stores clock k (entry_in w) (shown_with b lost) hops (shown_slot b k) (open-at b lost k h o) (sym c.here.refusal ∙ z)

      many : r.events ≡ length (sent_at k q.events)
      many = c.here.count ∙ sym (length-map q.events (λ (x : Event). record { place = k; event = x }))

  -- its destination has used one call more
  onward-here : is_open k b ≡ true → CalledAt q k b b' scratch scratch' r → r.refusal ≡ 0 → OnwardAt b b' k
  onward-here o c z = record {
    never-fewer = omega (arith, more);
    as_it_was = λ e. absurd (omega (arith, more, e));
    not-open = λ n. absurd (true≢false (sym o ∙ n));
  }
    where
      more : calls_at k b' ≡ calls_at k b + 1
      more = ap (λ (t : Dest). t.calls_used) c.here.shows ∙ call-counts whole (enqueuing (entry_in w) clock) (view (part k b)) (sym c.here.refusal ∙ z)

  -- it is stored
  pub runs-stored : (hops : ℕ) (events events' : List Row) (sent sent' : ℕ) → (hops ≡ 0 → ⊥) → k < 8 → is_open k b ≡ true → Sounds b
      → CalledAt q k b b' scratch scratch' r → r.refusal ≡ 0 → length scratch' ≡ length scratch
      → Roomy (storing_on hops clock k w (shown_with b lost)) sent events
      → sent' ≡ sent + r.events → events' ≡ paste events sent (map (named k) scratch') r.events
      → RunsLetters (storing_on hops clock k w (shown_with b lost)) b b' events events' sent sent' lost
  runs-stored zero events events' sent sent' ne h o s c z sl room m e = absurd (ne refl)
  runs-stored (suc hops) events events' sent sent' ne h o s c z sl room m e = subst⁻¹ (λ (x : RanLetters). RunsLetters x b b' events events' sent sent' lost) stores record {
    shows = view-put k heads heads' subs subs' rows rows' own lost q.dest h o c.here.shows c.elsewhere;
    count = m ∙ ap (λ (n : ℕ). sent + n) many;
    first = ap (λ (n : ℕ). take n events') m ∙ ap (take (sent + r.events)) e ∙ take-paste events sent all_words r.events fits-front fits-words
        ∙ ap (λ (l : List Row). take sent events ++ l) words;
    later = ap (λ (n : ℕ). drop n events') m ∙ ap (drop (sent + r.events)) e ∙ drop-paste events sent all_words r.events fits-front fits-words ∙ ap (λ (n : ℕ). drop n events) (sym m);
    events-length = ap length e ∙ length-paste events sent all_words r.events fits fits-words;
    leaves-sound = sounds-on h o s c z;
    past = c.past;
    own_same = refl;
    onward = λ j g. by-test (eqb j k)
        (λ y. subst⁻¹ (OnwardAt b b') (eqb-true j k y) (onward-here o c z))
        (λ n. onward-same b b' j (c.elsewhere j g (eqb-false j k n)));
  }
    where
      stores : storing_on (suc hops) clock k w (shown_with b lost) ≡ record { station = put_dest k (shown_slot b k) q.dest (shown_with b lost); events = sent_at k q.events }
      stores = storing-stores clock k (entry_in w) (shown_with b lost) hops (shown_slot b k) (open-at b lost k h o) (sym c.here.refusal ∙ z)

      all_words : List Row
      all_words = map (named k) scratch'

      many : r.events ≡ length (sent_at k q.events)
      many = c.here.count ∙ sym (length-map q.events (λ (x : Event). record { place = k; event = x }))

      fits : sent + r.events ≤ length events
      fits = (stored-fits (suc hops) events sent ne h o c z room).1

      fits-front : sent ≤ length events
      fits-front = omega (arith, fits)

      fits-words : r.events ≤ length all_words
      fits-words = subst⁻¹ (λ (n : ℕ). r.events ≤ n) (length-map scratch' (named k)) (stored-fits (suc hops) events sent ne h o c z room).0

      words : take r.events all_words ≡ map sent_words (sent_at k q.events)
      words = map-take (named k) r.events scratch' ∙ ap (map (named k)) c.here.sent ∙ sent-words k q.events

  -- it goes on
  module _ (c : CalledAt q k b b' scratch scratch' r) (z : r.refusal ≡ 0 → ⊥) where
    refuses : q.refusal ≡ 0 → ⊥
    refuses e = z (c.here.refusal ∙ e)

    pub all_stay : (j : ℕ) → j < 8 → part j b' ≡ part j b
    all_stay j g = by-test (eqb j k)
        (λ y. subst⁻¹ (λ (n : ℕ). part n b' ≡ part n b) (eqb-true j k y) (c.here.kept refuses).0)
        (λ n. c.elsewhere j g (eqb-false j k n))

    pub shown-stays : shown_with b' lost ≡ shown_with b lost
    shown-stays = view-same heads heads' subs subs' rows rows' own lost all_stay

    pub lends-stay : Lends b scratch → Lends b' scratch'
    lends-stay l = record {
      heads-long = subst⁻¹ (λ (n : ℕ). 66776 ≤ n) c.past.heads-length l.heads-long;
      subs-long = subst⁻¹ (λ (n : ℕ). 256 ≤ n) c.past.subs-length l.subs-long;
      rows_long = subst⁻¹ (λ (n : ℕ). 4096 ≤ n) c.past.rows-length l.rows_long;
      own-long = l.own-long;
      scratch-long = ap length (c.here.kept refuses).1 ∙ l.scratch-long;
      sound = record { sounds = λ j g p. subst⁻¹ (λ (x : Buffers). sound_buffers x ≡ true) (all_stay j g) (l.sound.sounds j g p) };
    }

    pub passes : (hops : ℕ) → (hops ≡ 0 → ⊥) → k < 8 → is_open k b ≡ true
        → storing_on hops clock k w (shown_with b lost) ≡ running_on (hops - 1) clock (shown_slot b k).name (w ∷ []) (shown_with b' lost)
    passes zero ne h o = absurd (ne refl)
    passes (suc hops) ne h o =
        storing-passes clock k (entry_in w) (shown_with b lost) hops (shown_slot b k) (open-at b lost k h o) refuses
        ∙ ap (λ (s : Station). running hops clock (shown_slot b k).name (entry_in w ∷ []) s) (sym shown-stays)
        ∙ ap (λ (n : ℕ). running_on n clock (shown_slot b k).name (w ∷ []) (shown_with b' lost)) one_less
      where
        one_less : hops ≡ suc hops - 1
        one_less = omega (arith)

    pub runs-passed : (hops : ℕ) (b'' : StationBuffers) (events events'' : List Row) (sent sent'' lost'' : ℕ) → (hops ≡ 0 → ⊥) → k < 8 → is_open k b ≡ true
        → RunsLetters (running_on (hops - 1) clock (shown_slot b k).name (w ∷ []) (shown_with b' lost)) b' b'' events events'' sent sent'' lost''
        → RunsLetters (storing_on hops clock k w (shown_with b lost)) b b'' events events'' sent sent'' lost''
    runs-passed hops b'' events events'' sent sent'' lost'' ne h o p =
        subst⁻¹ (λ (x : RanLetters). RunsLetters x b b'' events events'' sent sent'' lost'') (passes hops ne h o) record {
          shows = p.shows;
          count = p.count;
          first = p.first;
          later = p.later;
          events-length = p.events-length;
          leaves-sound = p.leaves-sound;
          past = past-on b b' b'' c.past p.past;
          own_same = p.own_same;
          onward = λ j g. onward-on b b' b'' j refl (onward-same b b' j (all_stay j g)) (p.onward j g);
        }

-- ---- the loop

pub record Sofar (hops clock name : ℕ) (letters : List Row) (n : ℕ) (b₀ : StationBuffers) (events₀ : List Row) (sent₀ lost₀ : ℕ) (b : StationBuffers) (events scratch : List Row) (sent lost i : ℕ) : Type 0 where
  pub few : i ≤ n
  pub long : n ≤ length letters
  pub ok : all (letter_ok clock) (take n letters) ≡ true
  pub lends : Lends b scratch
  pub station-left : (running_on hops clock name (slice i n letters) (shown_with b lost)).station ≡ (running_on hops clock name (take n letters) (shown_with b₀ lost₀)).station
  pub sent-left : sent + length (running_on hops clock name (slice i n letters) (shown_with b lost)).events ≡ sent₀ + length (running_on hops clock name (take n letters) (shown_with b₀ lost₀)).events
  pub told : take sent events ++ map sent_words (running_on hops clock name (slice i n letters) (shown_with b lost)).events ≡ take sent₀ events₀ ++ map sent_words (running_on hops clock name (take n letters) (shown_with b₀ lost₀)).events
  pub later : drop (sent₀ + length (running_on hops clock name (take n letters) (shown_with b₀ lost₀)).events) events ≡ drop (sent₀ + length (running_on hops clock name (take n letters) (shown_with b₀ lost₀)).events) events₀
  pub events-length : length events ≡ length events₀
  pub room : sent₀ + length (running_on hops clock name (take n letters) (shown_with b₀ lost₀)).events ≤ length events₀
  pub past : AllPast b₀ b
  pub own_same : b.own ≡ b₀.own
  pub onward : (j : ℕ) → j < 8 → OnwardAt b₀ b j

module _ (hops clock name : ℕ) (letters : List Row) (n : ℕ) (b₀ : StationBuffers) (events₀ : List Row) (sent₀ lost₀ : ℕ) where
  pub none_yet : (scratch : List Row) → n ≤ length letters → all (letter_ok clock) (take n letters) ≡ true → Lends b₀ scratch
      → Roomy (running_on hops clock name (take n letters) (shown_with b₀ lost₀)) sent₀ events₀
      → Sofar hops clock name letters n b₀ events₀ sent₀ lost₀ b₀ events₀ scratch sent₀ lost₀ 0
  none_yet scratch h k l r = record {
    few = omega (arith);
    long = h;
    ok = k;
    lends = l;
    station-left = refl;
    sent-left = refl;
    told = refl;
    later = refl;
    events-length = refl;
    room = r;
    past = past-none b₀;
    own_same = refl;
    onward = λ j g. onward-none b₀ j;
  }

  module _ (b : StationBuffers) (events scratch : List Row) (sent lost i : ℕ) (s : Sofar hops clock name letters n b₀ events₀ sent₀ lost₀ b events scratch sent lost i) where
    abbrev all_of : RanLetters
    all_of = running_on hops clock name (take n letters) (shown_with b₀ lost₀)

    -- the end
    pub all-run : n ≤ i → RunsLetters all_of b₀ b events₀ events sent₀ sent lost
    unfolding running
    all-run h = record {
      shows = sym (ap (λ (l : List Row). (running_on hops clock name l (shown_with b lost)).station) nothing) ∙ s.station-left;
      count = count-is;
      first = sym (append-nil (take sent events)) ∙ sym (ap (λ (l : List Row). take sent events ++ map sent_words (running_on hops clock name l (shown_with b lost)).events) nothing) ∙ s.told;
      later = subst⁻¹ (λ (m : ℕ). drop m events ≡ drop m events₀) count-is s.later;
      events-length = s.events-length;
      leaves-sound = s.lends.sound;
      past = s.past;
      own_same = s.own_same;
      onward = s.onward;
    }
      where
        at-end : i ≡ n
        at-end = omega (arith, h, s.few)

        nothing : slice i n letters ≡ []
        nothing = ap (λ (m : ℕ). slice m n letters) at-end ∙ slice_empty n letters

        count-is : sent ≡ sent₀ + length all_of.events
        count-is = sym (add-zero sent) ∙ sym (ap (λ (l : List Row). sent + length (running_on hops clock name l (shown_with b lost)).events) nothing) ∙ s.sent-left

    module _ (d : Row) (less : i < n) where
      abbrev w : Row
      w = get_or letters i d

      abbrev here : RanLetters
      here = storing_on hops clock name w (shown_with b lost)

      cut : slice i n letters ≡ w ∷ slice (suc i) n letters
      cut = slice-cons i n letters d less s.long

      abbrev after : Station → RanLetters
      after u = running_on hops clock name (slice (suc i) n letters) u

      parted : running_on hops clock name (slice i n letters) (shown_with b lost) ≡ record { station = (after here.station).station; events = here.events ++ (after here.station).events }
      unfolding running
      parted = ap (λ (l : List Row). running_on hops clock name l (shown_with b lost)) cut

      pub letter-ok : letter_ok clock w ≡ true
      letter-ok = subst (λ (x : Row). letter_ok clock x ≡ true) (get_or-take n letters i d less) (all-at (letter_ok clock) (take n letters) i d s.ok there)
        where
          there : i < length (take n letters)
          there = subst⁻¹ (λ (m : ℕ). i < m) (length-take-le n letters s.long) less

      total : sent + (length here.events + length (after here.station).events) ≡ sent₀ + length all_of.events
      total = ap (λ (m : ℕ). sent + m) (sym (length-append here.events (after here.station).events)) ∙ sym (ap (λ (x : RanLetters). sent + length x.events) parted) ∙ s.sent-left

      pub store-room : Roomy here sent events
      store-room = omega (arith, total, s.room, s.events-length)

      pub one-more-run : (b' : StationBuffers) (events' scratch' : List Row) (sent' lost' : ℕ) → b'.own ≡ b.own → length scratch' ≡ length scratch
          → RunsLetters here b b' events events' sent sent' lost'
          → Sofar hops clock name letters n b₀ events₀ sent₀ lost₀ b' events' scratch' sent' lost' (i + 1)
      one-more-run b' events' scratch' sent' lost' eo el p = subst⁻¹ (λ (m : ℕ). Sofar hops clock name letters n b₀ events₀ sent₀ lost₀ b' events' scratch' sent' lost' m) (add-one i) record {
        few = less;
        long = s.long;
        ok = s.ok;
        lends = record {
          heads-long = subst⁻¹ (λ (m : ℕ). 66776 ≤ m) p.past.heads-length s.lends.heads-long;
          subs-long = subst⁻¹ (λ (m : ℕ). 256 ≤ m) p.past.subs-length s.lends.subs-long;
          rows_long = subst⁻¹ (λ (m : ℕ). 4096 ≤ m) p.past.rows-length s.lends.rows_long;
          own-long = subst⁻¹ (λ (l : List ℕ). 20 ≤ length l) eo s.lends.own-long;
          scratch-long = el ∙ s.lends.scratch-long;
          sound = p.leaves-sound;
        };
        station-left = ap (λ (u : Station). (after u).station) p.shows ∙ sym (ap (λ (x : RanLetters). x.station) parted) ∙ s.station-left;
        sent-left = ap (λ (u : Station). sent' + length (after u).events) p.shows ∙ counted;
        told = ap (λ (u : Station). take sent' events' ++ map sent_words (after u).events) p.shows
            ∙ ap (λ (l : List Row). l ++ map sent_words (after here.station).events) p.first
            ∙ append_assoc (take sent events) (map sent_words here.events) (map sent_words (after here.station).events)
            ∙ ap (λ (l : List Row). take sent events ++ l) (sym (map-append sent_words here.events (after here.station).events))
            ∙ sym (ap (λ (x : RanLetters). take sent events ++ map sent_words x.events) parted)
            ∙ s.told;
        later = agree-later sent' (sent₀ + length all_of.events) events' events below p.later ∙ s.later;
        events-length = p.events-length ∙ s.events-length;
        room = s.room;
        past = past-on b₀ b b' s.past p.past;
        own_same = p.own_same ∙ s.own_same;
        onward = λ j g. onward-on b₀ b b' j s.own_same (s.onward j g) (p.onward j g);
      }
        where
          counted : sent' + length (after here.station).events ≡ sent₀ + length all_of.events
          counted = omega (arith, p.count, total)

          below : sent' ≤ sent₀ + length all_of.events
          below = omega (arith, counted)
