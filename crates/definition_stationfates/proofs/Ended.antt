-- The persistent entries that end as dead-lettered in a book, call by call: those of the call's own destination are its dead letters, and letters that are stored end none. Assumes nothing.
use Prim.Native.Nat.{ℕ, ◌≤◌}
use mathlib.Core.Path.{◌≡◌, refl, sym, ◌∙◌, ap}
use mathlib.Core.Bool.{Bool}
use mathlib.Core.List.{List, [], ◌∷◌, ◌++◌, map, map-append, append-nil, append_assoc}
use mathlib.Core.Option.{Option, none, some}
use lib.Dec.{eqb}
use lib.IntN.{ℤ}
use borrow.Author.Tests.{eqb-true}
use Rattle.definition.specs.Base.{whether◌then◌else◌, keep}
use Rattle.definition.specs.Types.{queue, Entry, Event, letter, message, null, Dest}
use Rattle.definition.specs.Calls.{Call, enqueuing, Result, call}
use Rattle.definition.specs.Words.{decode, call_step, step}
use Rattle.definition.proofs.Tests.{by-if, by-test, if-true, if-false}
use Rattle.definition.proofs.Made.{step_call, none-refused}
use Rattle.definition.proofs.Reorder.{keep_append}
use Rattle.fates.specs.Fates.{dead_lettered, same_fate, Departure, expires, fate_by, leavers, departing, departures}
use Rattle.fates.specs.Account.{left_as}
use Rattle.fates.specs.Books.{is_letter, letter_of, cause_of}
use Rattle.fates.proofs.Letters.{letters-are-sent}
use Rattle.fates.proofs.Run.{called}
use Rattle.definition_station.specs.Types.{Station}
use Rattle.definition_station.specs.Letters.{lasting, rejected, whole, storing}
use Rattle.definition_station.specs.Claims.{letters_in}
use Rattle.definition_station.proofs.Quiet.{letters-sent}
use Rattle.definition_stationfates.specs.Books.{Gets, letter_gets, letters_get, own_gets, Book, note_one, notes}
use Rattle.definition_stationfates.specs.Told.{shown_letter, dead_in}
use Rattle.definition_stationfates.proofs.Letters.{Went, lost, kept, letter-went}

dead-join : (l m : List Departure) → dead_in (l ++ m) ≡ dead_in l ++ dead_in m
dead-join l m =
    ap (λ (v : List Departure). map shown_letter (lasting (map (λ d. d.entry) v))) (keep_append (λ d. same_fate dead_lettered d.fate) l m)
    ∙ ap (λ (v : List Entry). map shown_letter (lasting v)) (map-append (λ d. d.entry) (keep (λ d. same_fate dead_lettered d.fate) l) (keep (λ d. same_fate dead_lettered d.fate) m))
    ∙ ap (map shown_letter) (keep_append (λ e. e.persistent) (left_as dead_lettered l) (left_as dead_lettered m))
    ∙ map-append shown_letter (lasting (left_as dead_lettered l)) (lasting (left_as dead_lettered m))

-- those of the calls that a destination gets
pub dead_got : ℕ → List Gets → List (ℕ × ℤ)
dead_got j [] = []
dead_got j (g ∷ gs) = (whether eqb g.place j then dead_in (departures g.call g.before g.after) else []) ++ dead_got j gs

pub dead-notes : (j : ℕ) (gs : List Gets) (b : Book) → dead_in (notes j gs b).gone ≡ dead_in b.gone ++ dead_got j gs
unfolding dead_got
dead-notes j [] b = sym (append-nil (dead_in b.gone))
dead-notes j (g ∷ gs) b = dead-notes j gs (whether eqb g.place j then note_one g b else b) ∙ ap (λ (l : List (ℕ × ℤ)). l ++ dead_got j gs) one ∙ append_assoc (dead_in b.gone) (whether eqb g.place j then dead_in (departures g.call g.before g.after) else []) (dead_got j gs)
  where
    one : dead_in (whether eqb g.place j then note_one g b else b).gone ≡ dead_in b.gone ++ (whether eqb g.place j then dead_in (departures g.call g.before g.after) else [])
    one = by-if (λ (v : Book). dead_in v.gone ≡ dead_in b.gone ++ (whether eqb g.place j then dead_in (departures g.call g.before g.after) else [])) (eqb g.place j) (note_one g b) b
        (λ d. dead-join b.gone (departures g.call g.before g.after) ∙ ap (λ (l : List (ℕ × ℤ)). dead_in b.gone ++ l) (sym (if-true _ [] d)))
        (λ d. sym (append-nil (dead_in b.gone)) ∙ ap (λ (l : List (ℕ × ℤ)). dead_in b.gone ++ l) (sym (if-false _ [] d)))

pub dead-got-join : (j : ℕ) (g h : List Gets) → dead_got j (g ++ h) ≡ dead_got j g ++ dead_got j h
unfolding dead_got
dead-got-join j [] h = refl
dead-got-join j (x ∷ g) h =
    let l : List (ℕ × ℤ) = whether eqb x.place j then dead_in (departures x.call x.before x.after) else [] in
    ap (λ (m : List (ℕ × ℤ)). l ++ m) (dead-got-join j g h) ∙ sym (append_assoc l (dead_got j g) (dead_got j h))

-- ---- letters that are stored

none-dead : (t : Dest) (l : List Entry) → dead_in (map (departing t expires) l) ≡ []
unfolding fate_by
none-dead t [] = refl
none-dead t (e ∷ l) = none-dead t l

went-ends : (j now : ℕ) (e : Entry) (s : Station) (p : ℕ) (g : List Gets) (u : Station) → Went now e s p g u → dead_got j g ≡ []
unfolding dead_got
went-ends j now e s p g u lost = refl
went-ends j now e s p g u (kept k x q h) =
    let u : Dest = (call whole (enqueuing e now) x.dest).dest in
    append-nil (whether eqb k j then dead_in (departures (enqueuing e now) x.dest u) else []) ∙ by-if (λ (l : List (ℕ × ℤ)). l ≡ []) (eqb k j) (dead_in (departures (enqueuing e now) x.dest u)) []
    (λ d. none-dead x.dest (leavers (e ∷ []) x.dest u))
    (λ d. refl)

pub letters-end : (j hops now k : ℕ) (es : List Entry) (s : Station) → dead_got j (letters_get hops now k es s) ≡ []
unfolding letters_get dead_got
letters-end j hops now k [] s = refl
letters-end j hops now k (e ∷ es) s =
    dead-got-join j (letter_gets hops now k e s) (letters_get hops now k es (storing hops now k e s).station)
    ∙ ap (λ (l : List (ℕ × ℤ)). l ++ dead_got j (letters_get hops now k es (storing hops now k e s).station)) (went-ends j now e s _ _ _ (letter-went hops now k e s))
    ∙ letters-end j hops now k es (storing hops now k e s).station

-- ---- the call's own destination

letters-kept : (es : List Event) → letters_in (keep is_letter es) ≡ letters_in es
letters-kept [] = refl
letters-kept (letter q r c ∷ es) = ap (λ (l : List (ℕ × ℤ)). (q, r) ∷ l) (letters-kept es)
letters-kept (message i q r ∷ es) = letters-kept es
letters-kept (null i ∷ es) = letters-kept es

letters-of : (cause : Bool) (l : List Entry) → letters_in (map (letter_of cause) l) ≡ map shown_letter l
letters-of cause [] = refl
letters-of cause (e ∷ l) = ap (λ (m : List (ℕ × ℤ)). shown_letter e ∷ m) (letters-of cause l)

-- a queue's accepted call: what ends as dead-lettered is what it rejects
pub rejects-end : (code : ℕ) (ws : List ℕ) (c : Call) (t : Dest) → t.kind ≡ queue → 1 ≤ code → decode code ws ≡ some c → (step whole code ws t).refusal ≡ 0
    → dead_in (departures c t (step whole code ws t).dest) ≡ map shown_letter (rejected t (decode code ws))
rejects-end code ws c t y n e h =
    sym (letters-of (cause_of t c) (lasting (left_as dead_lettered (departures c t (step whole code ws t).dest))))
    ∙ ap letters_in (sym (letters-are-sent whole code ws c t y n e h))
    ∙ letters-kept (step whole code ws t).events
    ∙ letters-sent code ws t n h

pub own-ends : (j k code : ℕ) (ws : List ℕ) (t : Dest) (o : Option Call) → decode code ws ≡ o → 1 ≤ code → (step whole code ws t).refusal ≡ 0 → (k ≡ j → t.kind ≡ queue)
    → dead_got j (own_gets k o t) ≡ (whether eqb k j then map shown_letter (rejected t (decode code ws)) else [])
unfolding dead_got call_step
own-ends j k code ws t none e n h y = absurd (none-refused whole t (ap (λ (v : Option Call). (call_step whole t v).refusal) (sym e) ∙ ap (λ (r : Result). r.refusal) (sym (step_call whole code ws t n)) ∙ h))
own-ends j k code ws t (some c) e n h y =
    let same = ap (λ (r : Result). dead_in (departures c t r.dest)) (sym (called whole code ws c t n e)) in
    append-nil (whether eqb k j then dead_in (departures c t (call whole c t).dest) else []) ∙ by-test (eqb k j)
    (λ d. if-true _ [] d ∙ same ∙ rejects-end code ws c t (y (eqb-true k j d)) n e h ∙ sym (if-true _ [] d))
    (λ d. if-false (dead_in (departures c t (call whole c t).dest)) [] d ∙ sym (if-false (map shown_letter (rejected t (decode code ws))) [] d))
