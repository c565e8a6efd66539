-- Numbering the dead letters first and then running them is taking them one after another. Assumes nothing.
use Prim.Native.Nat.{ℕ, zero, suc, ◌^◌}
use mathlib.Core.Path.{◌≡◌, refl, sym, ◌∙◌, ap}
use mathlib.Core.Bool.{Bool, true, false}
use mathlib.Core.List.{List, [], ◌∷◌, ◌++◌}
use mathlib.Core.Option.{Option, none, some}
use lib.Dec.{ltb, eqb}
use Rattle.definition.specs.Base.{whether◌then◌else◌}
use Rattle.definition.specs.Types.{Entry, Dest}
use Rattle.definition.specs.Calls.{enqueuing, call}
use Rattle.definition.proofs.Tests.{by-if, by-test, if-true, if-false}
use Rattle.definition_station.specs.Types.{StationSlot, Station, slot_of, put_dest, took_number, losing_letter, sent_at, RanLetters, with_seq}
use Rattle.definition_station.specs.Letters.{Numbered, number_letters, whole, each, stored_at, storing, running, hops_max, one_by_one}
use Rattle.definition_station.specs.Claims.{OneByOne}

-- ---- a change of the station's own numbers that storing does not look at

module _ (f : Station → Station) (same : (k : ℕ) (s : Station) → slot_of k (f s) ≡ slot_of k s) (puts : (k : ℕ) (x : StationSlot) (t : Dest) (s : Station) → put_dest k x t (f s) ≡ f (put_dest k x t s)) (loses : (s : Station) → losing_letter (f s) ≡ f (losing_letter s)) where
  abbrev lift : RanLetters → RanLetters
  lift r = record { station = f r.station; events = r.events }

  if-lift : (b : Bool) (p q u v : RanLetters) → u ≡ lift p → v ≡ lift q → (whether b then u else v) ≡ lift (whether b then p else q)
  if-lift true p q u v g h = g
  if-lift false p q u v g h = h

  stored-commutes : (on : ℕ → Station → RanLetters) (now k : ℕ) (e : Entry) (s : Station) → ((j : ℕ) → on j (f s) ≡ lift (on j s)) → (o : Option StationSlot) → stored_at on now k e (f s) o ≡ lift (stored_at on now k e s o)
  unfolding stored_at
  stored-commutes on now k e s h none = let p = loses s in λ i. record { station = p i; events = [] }
  stored-commutes on now k e s h (some x) =
      let p = puts k x (call whole (enqueuing e now) x.dest).dest s in
      if-lift (eqb (call whole (enqueuing e now) x.dest).refusal 0) (record { station = put_dest k x (call whole (enqueuing e now) x.dest).dest s; events = sent_at k (call whole (enqueuing e now) x.dest).events }) (on x.name s) _ _
      (λ i. record { station = p i; events = sent_at k (call whole (enqueuing e now) x.dest).events }) (h x.name)

  abbrev ended : RanLetters → RanLetters
  ended r = record { station = r.station; events = r.events ++ [] }

  pub commutes : (hops now k : ℕ) (e : Entry) (s : Station) → storing hops now k e (f s) ≡ lift (storing hops now k e s)
  unfolding storing
  commutes zero now k e s = let p = loses s in λ i. record { station = p i; events = [] }
  commutes (suc hops) now k e s =
      ap (stored_at (λ j u. each (storing hops now j) (e ∷ []) u) now k e (f s)) (same k s)
      ∙ stored-commutes (λ j u. each (storing hops now j) (e ∷ []) u) now k e s (λ j. ap ended (commutes hops now j e s)) (slot_of k s)

took-commutes : (hops now k : ℕ) (e : Entry) (s : Station) → storing hops now k e (took_number s) ≡ (let r = storing hops now k e s in record { station = took_number r.station; events = r.events })
took-commutes = commutes took_number (λ k s. refl) (λ k x t s. refl) (λ s. refl)

losing-commutes : (hops now k : ℕ) (e : Entry) (s : Station) → storing hops now k e (losing_letter s) ≡ (let r = storing hops now k e s in record { station = losing_letter r.station; events = r.events })
losing-commutes = commutes losing_letter (λ k s. refl) (λ k x t s. refl) (λ s. refl)

-- ---- storing takes no number

stored_next : (on : ℕ → Station → RanLetters) (now k : ℕ) (e : Entry) (s : Station) → ((j : ℕ) → (on j s).station.next ≡ s.next) → (o : Option StationSlot) → (stored_at on now k e s o).station.next ≡ s.next
unfolding stored_at
stored_next on now k e s h none = refl
stored_next on now k e s h (some x) = by-if (λ (r : RanLetters). r.station.next ≡ s.next) (eqb (call whole (enqueuing e now) x.dest).refusal 0) _ _ (λ c. refl) (λ c. h x.name)

storing-next : (hops now k : ℕ) (e : Entry) (s : Station) → (storing hops now k e s).station.next ≡ s.next
unfolding storing
storing-next zero now k e s = refl
storing-next (suc hops) now k e s = stored_next (λ j u. each (storing hops now j) (e ∷ []) u) now k e s (λ j. storing-next hops now j e s) (slot_of k s)

-- ---- numbering after storing, and storing after numbering

numbered : (e : Entry) (es : List Entry) (s : Station) → ltb s.next (2 ^ 63) ≡ true → number_letters (e ∷ es) s ≡ record { letters = with_seq s.next e ∷ (number_letters es (took_number s)).letters; station = (number_letters es (took_number s)).station }
unfolding number_letters
numbered e es s c = if-true _ (number_letters es (losing_letter s)) c

unnumbered : (e : Entry) (es : List Entry) (s : Station) → ltb s.next (2 ^ 63) ≡ false → number_letters (e ∷ es) s ≡ number_letters es (losing_letter s)
unfolding number_letters
unnumbered e es s c = if-false _ (number_letters es (losing_letter s)) c

none-numbered : (s : Station) → record { letters = []; station = s } ≡ number_letters [] s
unfolding number_letters
none-numbered s = refl

record After (hops now k : ℕ) (e : Entry) (es : List Entry) (s : Station) : Type 0 where
  letters : (number_letters es (storing hops now k e s).station).letters ≡ (number_letters es s).letters
  ran : storing hops now k e (number_letters es s).station ≡ record { station = (number_letters es (storing hops now k e s).station).station; events = (storing hops now k e s).events }

after : (hops now k : ℕ) (e : Entry) (es : List Entry) (s : Station) → After hops now k e es s
unfolding number_letters
after hops now k e [] s = record { letters = refl; ran = refl }
after hops now k e (a ∷ es) s = by-test (ltb s.next (2 ^ 63)) (λ c. given c (after hops now k e es (took_number s))) (λ c. left c (after hops now k e es (losing_letter s)))
  where
    same : (storing hops now k e s).station.next ≡ s.next
    same = storing-next hops now k e s

    given : ltb s.next (2 ^ 63) ≡ true → After hops now k e es (took_number s) → After hops now k e (a ∷ es) s
    given c h =
        let d : ltb (storing hops now k e s).station.next (2 ^ 63) ≡ true = ap (λ (n : ℕ). ltb n (2 ^ 63)) same ∙ c in
        let t = took-commutes hops now k e s in
        let n = numbered a es s c in
        let m = numbered a es (storing hops now k e s).station d in
        record {
          letters = ap (λ (r : Numbered). r.letters) m ∙ ap (λ (q : ℕ). with_seq q a ∷ (number_letters es (took_number (storing hops now k e s).station)).letters) same ∙ ap (λ (r : RanLetters). with_seq s.next a ∷ (number_letters es r.station).letters) (sym t) ∙ ap (λ (l : List Entry). with_seq s.next a ∷ l) h.letters ∙ sym (ap (λ (r : Numbered). r.letters) n);
          ran = ap (λ (r : Numbered). storing hops now k e r.station) n ∙ h.ran ∙ ap (λ (r : RanLetters). record { station = (number_letters es r.station).station; events = r.events }) t ∙ ap (λ (r : Numbered). record { station = r.station; events = (storing hops now k e s).events }) (sym m);
        }

    left : ltb s.next (2 ^ 63) ≡ false → After hops now k e es (losing_letter s) → After hops now k e (a ∷ es) s
    left c h =
        let d : ltb (storing hops now k e s).station.next (2 ^ 63) ≡ false = ap (λ (n : ℕ). ltb n (2 ^ 63)) same ∙ c in
        let t = losing-commutes hops now k e s in
        let n = unnumbered a es s c in
        let m = unnumbered a es (storing hops now k e s).station d in
        record {
          letters = ap (λ (r : Numbered). r.letters) m ∙ ap (λ (r : RanLetters). (number_letters es r.station).letters) (sym t) ∙ h.letters ∙ sym (ap (λ (r : Numbered). r.letters) n);
          ran = ap (λ (r : Numbered). storing hops now k e r.station) n ∙ h.ran ∙ ap (λ (r : RanLetters). record { station = (number_letters es r.station).station; events = r.events }) t ∙ ap (λ (r : Numbered). record { station = r.station; events = (storing hops now k e s).events }) (sym m);
        }

-- ---- the claim

abbrev first : ℕ → ℕ → Numbered → RanLetters
first now k n = running hops_max now k n.letters n.station

abbrev followed : RanLetters → RanLetters → RanLetters
followed here later = record { station = later.station; events = here.events ++ later.events }

pub one_by_one_lem : OneByOne
unfolding one_by_one running
one_by_one_lem now k [] s = ap (first now k) (none-numbered s)
one_by_one_lem now k (e ∷ es) s = by-test (ltb s.next (2 ^ 63))
    (λ c. given c (one_by_one_lem now k es (storing hops_max now k (with_seq s.next e) (took_number s)).station))
    (λ c. if-false _ (one_by_one now k es (losing_letter s)) c ∙ one_by_one_lem now k es (losing_letter s) ∙ ap (first now k) (sym (unnumbered e es s c)))
  where
    given : ltb s.next (2 ^ 63) ≡ true → one_by_one now k es (storing hops_max now k (with_seq s.next e) (took_number s)).station ≡ first now k (number_letters es (storing hops_max now k (with_seq s.next e) (took_number s)).station) → one_by_one now k (e ∷ es) s ≡ first now k (number_letters (e ∷ es) s)
    given c ih =
        let h = after hops_max now k (with_seq s.next e) es (took_number s) in
        let r = storing hops_max now k (with_seq s.next e) (took_number s) in
        if-true _ (one_by_one now k es (losing_letter s)) c
        ∙ ap (followed r) ih
        ∙ ap (λ (l : List Entry). followed r (each (storing hops_max now k) l (number_letters es r.station).station)) h.letters
        ∙ ap (λ (q : RanLetters). followed q (each (storing hops_max now k) (number_letters es (took_number s)).letters q.station)) (sym h.ran)
        ∙ ap (first now k) (sym (numbered e es s c))
