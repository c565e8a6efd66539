-- The rows of a call's dead letters: they are its `x` events, their numbers are those that the station gave, and what is told of a place is what is stored there. Assumes nothing.
use Prim.Native.Nat.{ℕ, ◌+◌, ◌≤◌, ◌<◌}
use native.Mathlib.Omega.{arith}
use mathlib.Core.Path.{◌≡◌, refl, sym, ◌∙◌, ap, subst, subst⁻¹}
use mathlib.Core.Bool.{Bool, true, false, not, ◌&&◌, ◌||◌}
use mathlib.Core.List.{List, [], ◌∷◌, ◌++◌, map, map-map, append-nil, append_assoc}
use mathlib.Core.Option.{Option, none, some}
use lib.Dec.{leb, ltb, eqb}
use lib.IntN.{ℤ}
use lib.ListN.{length}
use borrow.Author.Tests.{eqb-true, ne_eqb, lt-ltb}
use Rattle.definition.specs.Base.{whether◌then◌else◌, keep, tally, all, up_from}
use Rattle.definition.specs.Types.{queue, Entry, Event, letter, message, null, Dest}
use Rattle.definition.specs.Calls.{seqs, Call, enqueuing, brought, arguments_ok, call}
use Rattle.definition.specs.Words.{at, entry_in, unused_from, provided, ranged_call, read, decode, call_step, step}
use Rattle.definition.proofs.Tests.{by-if, by-test, if-true, if-false, and_both}
use Rattle.definition.proofs.Lists.{some_inj}
use Rattle.definition.proofs.Reorder.{keep-yes, keep-no}
use Rattle.definition_station.specs.Types.{StationSlot, Station, slot_of, put_dest, StationEvent, sent_at, with_seq}
use Rattle.definition_station.specs.Letters.{rejected, clock_of, Numbered, whole, storing, running, hops_max}
use Rattle.definition_station.specs.Station as Station
use Rattle.definition_station.specs.Station.{StationResult, carried}
use Rattle.definition_station.specs.Claims.{letters_in}
use Rattle.definition_station.proofs.Places.{Facts, facts}
use Rattle.definition_station.proofs.Letters as Letters
use Rattle.definition_station.proofs.Sound.{passed, number-facts, called-facts}
use Rattle.definition_station.proofs.Quiet.{call-shown, letters-sent}
use Rattle.definition_stationfates.specs.Books.{Gets, letters_get, own_gets, call_said, call_letters, gets_at, calls_got, Book, note_one, notes}
use Rattle.definition_stationfates.specs.Told.{letter_places, ToldLetter, tell_each, told_at, told_letters, letters_on, given_number, is_at, right_row, lost_up_to, stored_as, own_calls, brought_by, shown_letter, dead_in, ToldRight, LettersTold, OpenTellsNone}
use Rattle.definition_stationfates.proofs.Made.{got-join}
use Rattle.definition_stationfates.proofs.Ended.{dead_got, dead-notes, dead-got-join, letters-end, own-ends}
use Rattle.definition_stationfates.proofs.Rows.{entries-told, Follows, number-follows, rows, in_order, goes_on, loses}
use Rattle.definition_stationfates.proofs.Letters.{Went, lost, kept, letter-went, went-facts, kept_low}

-- ---- the `x` events of a station call

letters-join : (a b : List StationEvent) → letters_on (a ++ b) ≡ letters_on a ++ letters_on b
letters-join [] b = refl
letters-join (e ∷ a) b =
    let l : List (ℕ × (ℕ × ℤ)) = map (λ x. (e.place, x)) (letters_in (e.event ∷ [])) in
    ap (λ (m : List (ℕ × (ℕ × ℤ))). l ++ m) (letters-join a b) ∙ sym (append_assoc l (letters_on a) (letters_on b))

letters-at : (k : ℕ) (es : List Event) → letters_on (sent_at k es) ≡ map (λ x. (k, x)) (letters_in es)
letters-at k [] = refl
letters-at k (letter q r c ∷ es) = ap (λ (l : List (ℕ × (ℕ × ℤ))). (k, (q, r)) ∷ l) (letters-at k es)
letters-at k (message i q r ∷ es) = letters-at k es
letters-at k (null i ∷ es) = letters-at k es

-- letters that are run make none
silent : Station → Station → List StationEvent → Type 0
silent s u es = letters_on es ≡ []

stored-silent : (k : ℕ) (x : StationSlot) (e : Entry) (now : ℕ) (s : Station) → slot_of k s ≡ some x → (call whole (enqueuing e now) x.dest).refusal ≡ 0
    → silent s (put_dest k x (call whole (enqueuing e now) x.dest).dest s) (sent_at k (call whole (enqueuing e now) x.dest).events)
unfolding silent call_step rejected
stored-silent k x e now s q h = letters-at k (call whole (enqueuing e now) x.dest).events ∙ ap (map (λ x. (k, x))) (call-shown x.dest (some (enqueuing e now)) h)

running-silent : (hops now k : ℕ) (es : List Entry) (s : Station) → letters_on (running hops now k es s).events ≡ []
unfolding silent
running-silent = Letters.running-keeps silent (λ s. refl) (λ s u v a b p q. letters-join a b ∙ rw (p, q)) (λ s. refl) (λ s h. refl) stored-silent

-- ---- what is stored

-- a row has a place and a number, or is lost
went-right : (now : ℕ) (e : Entry) (s : Station) (p : ℕ) (g : List Gets) (u : Station) → Went now e s p g u → Facts s → (h : Bool) → h ≡ true → (ltb p 8 && h || eqb p 8) ≡ true
went-right now e s p g u lost f h q = refl
went-right now e s p g u (kept k x r c) f h q = rw (lt-ltb k 8 (kept_low k x s f r), q)

-- the enqueue of a row
abbrev told : ℕ → ToldLetter → Call
told now t = enqueuing (stored_as t) now

module _ (hops now k : ℕ) where
  rows_right : (es ns : List Entry) (s : Station) → Follows es ns → Facts s → all right_row (tell_each es (seqs ns) (letter_places hops now k ns s)) ≡ true
  unfolding letter_places
  rows_right [] [] s f y = refl
  rows_right [] (n ∷ ns) s f y = absurd f
  rows_right (e ∷ es) [] s f y = rows_right es [] s tt y
  rows_right (e ∷ es) (n ∷ ns) s f y =
      let w = letter-went hops now k n s in
      and_both _ _ (went-right now n s _ _ _ w y (not (eqb n.seq 0)) (ap not (ne_eqb n.seq 0 (λ q. omega (arith, q, f.1))))) (rows_right es ns (storing hops now k n s).station f.2 (went-facts now n s _ _ _ w y))

  went-calls : (j : ℕ) (e n : Entry) (s : Station) (p : ℕ) (g : List Gets) (u : Station) → Went now n s p g u → j < 8 → n ≡ with_seq n.seq e → (h : List Gets) (l : List ToldLetter) → calls_got j h ≡ map (told now) (keep (is_at j) l)
      → calls_got j (g ++ h) ≡ map (told now) (keep (is_at j) (record { letter = e; got = n.seq; place = p } ∷ l))
  went-calls j e n s p g u lost low q h l r = let z : eqb 8 j ≡ false = ne_eqb 8 j (λ d. omega (arith, low, d)) in rw z r
  went-calls j e n s p g u (kept i x o c) low q h l r = by-test (eqb i j)
      (λ d. rw d (ap (λ (v : Entry). enqueuing v now ∷ calls_got j h) q ∙ ap (λ (v : List Call). enqueuing (with_seq n.seq e) now ∷ v) r))
      (λ d. rw d r)

  calls-told : (j : ℕ) (es ns : List Entry) (s : Station) → j < 8 → Follows es ns → calls_got j (letters_get hops now k ns s) ≡ map (told now) (keep (is_at j) (tell_each es (seqs ns) (letter_places hops now k ns s)))
  unfolding letter_places letters_get
  calls-told j [] [] s low f = refl
  calls-told j [] (n ∷ ns) s low f = absurd f
  calls-told j (e ∷ es) [] s low f = let z : eqb 8 j ≡ false = ne_eqb 8 j (λ d. omega (arith, low, d)) in rw z (calls-told j es [] s low tt)
  calls-told j (e ∷ es) (n ∷ ns) s low f =
      let u : Station = (storing hops now k n s).station in
      went-calls j e n s _ _ _ (letter-went hops now k n s) low f.0 (letters_get hops now k ns u) (tell_each es (seqs ns) (letter_places hops now k ns u)) (calls-told j es ns u low f.2)

-- ---- what a destination gets

own-got : (j k : ℕ) (t : Dest) (o : Option Call) → calls_got j (own_gets k o t) ≡ (whether eqb k j then own_calls o else [])
own-got j k t none = by-if (λ (l : List Call). [] ≡ l) (eqb k j) _ _ (λ d. refl) (λ d. refl)
own-got j k t (some c) = by-test (eqb k j) (λ d. rw d) (λ d. rw d)

-- what some calls bring
abbrev all_brought : List Call → List Entry
all_brought [] = []
all_brought (c ∷ cs) = brought c ++ all_brought cs

notes-accept : (j : ℕ) (gs : List Gets) (b : Book) → (notes j gs b).accepted ≡ b.accepted ++ all_brought (calls_got j gs)
notes-accept j [] b = sym (append-nil b.accepted)
notes-accept j (g ∷ gs) b = by-test (eqb g.place j)
    (λ d. ap (λ (v : Book). (notes j gs v).accepted) (if-true (note_one g b) b d) ∙ notes-accept j gs (note_one g b) ∙ append_assoc b.accepted (brought g.call) (all_brought (calls_got j gs)) ∙ kept-calls (sym (keep-yes (λ v. eqb v.place j) g gs d)))
    (λ d. ap (λ (v : Book). (notes j gs v).accepted) (if-false (note_one g b) b d) ∙ notes-accept j gs b ∙ kept-calls (sym (keep-no (λ v. eqb v.place j) g gs d)))
  where
    kept-calls : {l k : List Gets} → l ≡ k → b.accepted ++ all_brought (map (λ v. v.call) l) ≡ b.accepted ++ all_brought (map (λ v. v.call) k)
    kept-calls e = ap (λ (l : List Gets). b.accepted ++ all_brought (map (λ v. v.call) l)) e

told-bring : (now : ℕ) (l : List ToldLetter) → all_brought (map (told now) l) ≡ map stored_as l
told-bring now [] = refl
told-bring now (t ∷ l) = ap (λ (m : List Entry). stored_as t ∷ m) (told-bring now l)

own-bring : (y : Bool) (o : Option Call) (cs : List Call) → all_brought ((whether y then own_calls o else []) ++ cs) ≡ (whether y then brought_by o else []) ++ all_brought cs
own-bring true none cs = refl
own-bring true (some c) cs = refl
own-bring false o cs = refl

-- ---- an accepted call

-- a direct enqueue makes no letter
enqueue-rejects : (t : Dest) (ws : List ℕ) → rejected t (decode 1 ws) ≡ []
unfolding decode read provided rejected
enqueue-rejects t ws = by-if (λ (o : Option Call). rejected t (ranged_call o) ≡ []) (leb (at 2 ws) 1 && unused_from 8 ws) _ _
    (λ c. by-if (λ (o : Option Call). rejected t o ≡ []) (arguments_ok (enqueuing (entry_in ws) (at 6 ws))) _ _ (λ d. refl) (λ d. refl))
    (λ c. refl)

module _ (k code : ℕ) (ws : List ℕ) (s : Station) (x : StationSlot) where
  abbrev after : Station
  after = Station.called k code x (step whole code (carried code ws s) x.dest).dest s

  after_next : after.next ≡ s.next + (whether eqb code 1 then 1 else 0)
  after_next = by-test (eqb code 1) (λ c. rw c) (λ c. rw c (omega arith))

  after-lost : after.lost ≡ s.lost
  after-lost = by-test (eqb code 1) (λ c. rw c) (λ c. rw c)

  abbrev result : StationResult
  result = Station.accepted_at k code x (step whole code (carried code ws s) x.dest) (rejected x.dest (call_said code ws s)) (clock_of (call_said code ws s)) s

-- ---- the claims

module _ (k code : ℕ) (ws : List ℕ) (s : Station) (x : StationSlot) (n : 1 ≤ code) (f : Facts s) (q : slot_of k s ≡ some x) (h : (step whole code (carried code ws s) x.dest).refusal ≡ 0) where
  abbrev es : List Entry
  es = rejected x.dest (call_said code ws s)

  abbrev clock : ℕ
  clock = clock_of (call_said code ws s)

  abbrev m : Numbered
  m = call_letters k code ws s x

  abbrev sent : List Event
  sent = (step whole code (carried code ws s) x.dest).events

  fine : Facts (after k code ws s x)
  fine = called-facts k code ws x s f q h

  to-letters : letters_on (result k code ws s x).events ≡ map (λ t. (k, shown_letter t.letter)) (told_at k code ws s (some x))
  unfolding told_at Station.accepted_at
  to-letters =
      letters-join (sent_at k sent) (running hops_max clock x.name m.letters m.station).events
      ∙ ap (λ (l : List (ℕ × (ℕ × ℤ))). letters_on (sent_at k sent) ++ l) (running-silent hops_max clock x.name m.letters m.station)
      ∙ append-nil (letters_on (sent_at k sent))
      ∙ letters-at k sent
      ∙ ap (map (λ v. (k, v))) (letters-sent code (carried code ws s) x.dest n h)
      ∙ map-map (λ v. (k, v)) shown_letter es
      ∙ sym (entries-told (λ e. (k, shown_letter e)) es (seqs m.letters) (letter_places hops_max clock x.name m.letters m.station))

  to-numbers : map (λ t. t.got) (told_at k code ws s (some x)) ≡ map given_number (up_from s.next (length (told_at k code ws s (some x))))
  unfolding told_at
  to-numbers = by-test (eqb code 1)
      (λ c. subst⁻¹ (λ (l : List Entry). map (λ t. t.got) (rows clock x.name l u) ≡ map given_number (up_from s.next (length (rows clock x.name l u)))) (no-letters c) refl)
      (λ c. subst (λ (y : ℕ). map (λ t. t.got) (rows clock x.name es u) ≡ map given_number (up_from y (length (rows clock x.name es u)))) (same_next c) (in_order clock x.name es u))
    where
      u : Station
      u = after k code ws s x

      no-letters : eqb code 1 ≡ true → es ≡ []
      no-letters c = ap (λ (y : ℕ). rejected x.dest (decode y (carried code ws s))) (eqb-true code 1 c) ∙ enqueue-rejects x.dest (carried code ws s)

      same_next : eqb code 1 ≡ false → u.next ≡ s.next
      same_next c = ap (λ (v : Station). v.next) (if-false _ _ c)

  to-stores : (j : ℕ) → j < 8 → calls_got j (gets_at k code ws s (some x)) ≡ (whether eqb k j then own_calls (call_said code ws s) else []) ++ map (told clock) (keep (is_at j) (told_at k code ws s (some x)))
  unfolding gets_at told_at
  to-stores j low =
      let own = own_gets k (call_said code ws s) x.dest in
      let g = letters_get hops_max clock x.name m.letters m.station in
      got-join j own g
      ∙ ap (λ (l : List Call). l ++ calls_got j g) (own-got j k x.dest (call_said code ws s))
      ∙ ap (λ (l : List Call). (whether eqb k j then own_calls (call_said code ws s) else []) ++ l) (calls-told hops_max clock x.name j es m.letters m.station low (number-follows es (after k code ws s x) fine.low))

  to_books : (j : ℕ) (b : Book) → j < 8
      → (notes j (gets_at k code ws s (some x)) b).accepted ≡ b.accepted ++ ((whether eqb k j then brought_by (call_said code ws s) else []) ++ map stored_as (keep (is_at j) (told_at k code ws s (some x))))
  to_books j b low =
      let l = keep (is_at j) (told_at k code ws s (some x)) in
      notes-accept j (gets_at k code ws s (some x)) b
      ∙ ap (λ (c : List Call). b.accepted ++ all_brought c) (to-stores j low)
      ∙ ap (λ (v : List Entry). b.accepted ++ v) (own-bring (eqb k j) (call_said code ws s) (map (told clock) l))
      ∙ ap (λ (v : List Entry). b.accepted ++ ((whether eqb k j then brought_by (call_said code ws s) else []) ++ v)) (told-bring clock l)

  to-ended : (j : ℕ) (b : Book) (y : StationSlot) → slot_of j s ≡ some y → y.dest.kind ≡ queue
      → dead_in (notes j (gets_at k code ws s (some x)) b).gone ≡ dead_in b.gone ++ (whether eqb k j then map (λ t. shown_letter t.letter) (told_at k code ws s (some x)) else [])
  unfolding gets_at told_at
  to-ended j b y g kind =
      let own = own_gets k (call_said code ws s) x.dest in
      let rest = letters_get hops_max clock x.name m.letters m.station in
      dead-notes j (own ++ rest) b
      ∙ ap (λ (l : List (ℕ × ℤ)). dead_in b.gone ++ l) (dead-got-join j own rest
      ∙ ap (λ (l : List (ℕ × ℤ)). dead_got j own ++ l) (letters-end j hops_max clock x.name m.letters m.station)
      ∙ append-nil (dead_got j own)
      ∙ own-ends j k code (carried code ws s) x.dest (call_said code ws s) refl n h (λ d. ap (λ (v : StationSlot). v.dest.kind) (some_inj (sym q ∙ ap (λ (i : ℕ). slot_of i s) d ∙ g)) ∙ kind)
      ∙ ap (λ (l : List (ℕ × ℤ)). whether eqb k j then l else []) (sym (entries-told shown_letter es (seqs m.letters) (letter_places hops_max clock x.name m.letters m.station))))

  told-right : ToldRight k code ws s (result k code ws s x) (told_at k code ws s (some x))
  unfolding told_at Station.accepted_at
  told-right =
      let u : Station = after k code ws s x in
      record {
        letters = to-letters;
        numbers = to-numbers;
        next = omega (arith, after_next k code ws s x, goes_on clock x.name es u fine);
        lost = loses clock x.name es u fine ∙ ap (λ (v : ℕ). lost_up_to (v + tally (is_at 8) (rows clock x.name es u))) (after-lost k code ws s x);
        places = rows_right hops_max clock x.name es m.letters m.station (number-follows es u fine.low) (number-facts es u fine);
        stores = λ j low. ap (λ (o : Option StationSlot). calls_got j (gets_at k code ws s o)) q ∙ to-stores j low;
        ended = λ j b y g kind. ap (λ (o : Option StationSlot). dead_in (notes j (gets_at k code ws s o) b).gone) q ∙ to-ended j b y g kind;
        books = λ j b low. ap (λ (o : Option StationSlot). (notes j (gets_at k code ws s o) b).accepted) q ∙ to_books j b low;
      }

pub letters-told : LettersTold
letters-told lent k code ws s n h =
    let p = passed lent k code ws s n h in
    subst⁻¹ (λ (r : StationResult). ToldRight k code ws s r (told_letters k code ws s)) p.result
    (subst⁻¹ (λ (o : Option StationSlot). ToldRight k code ws s (result k code ws s p.slot) (told_at k code ws s o)) p.there (told-right k code ws s p.slot n (facts s p.is-sound) p.there p.own))

pub open-tells-none : OpenTellsNone
unfolding told_at decode read rejected
open-tells-none k ws s = by-slot (slot_of k s)
  where
    by-slot : (o : Option StationSlot) → told_at k 0 ws s o ≡ []
    by-slot none = refl
    by-slot (some x) = refl
