-- A sound station is what the code tests: own words in range, and each open destination sound, the called one by its own call. Assumes nothing.
use mathlib.Core.Path.{◌≡◌, refl, sym, ap, ◌∙◌}
use mathlib.Core.Bool.{Bool, true, false, not, ◌&&◌, ◌||◌, true≢false}
use mathlib.Core.List.{List, [], ◌∷◌, map}
use mathlib.Core.Option.{none, some}
use Prim.Native.Nat.{ℕ, ◌^◌}
use borrow.Author.Tests.{eqb-true}
use lib.Dec.{leb, ltb, eqb}
use Rattle.definition.specs.Base.{whether◌then◌else◌, all, up_from}
use Rattle.definition.specs.Calls.{sound}
use Rattle.definition.specs.Words.{at}
use Rattle.definition.specs.Layout.{is_mark, view, formed, sound_buffers}
use Rattle.definition.proofs.Tests.{by-test, and_both, and_left, and_right}
use Rattle.definition_station.specs.Types.{StationSlot}
use Rattle.definition_station.specs.Station.{slot_sound, station_sound}
use Rattle.definition_station.specs.Layout.{StationBuffers, part, name_word, is_open, slot_at, station_view, part_formed, station_formed, sound_station}
use Rattle.stationcalls.specs.Own.{place_ok, given_ok, own_words_ok, part_ok, other_ok}

-- ---- tests, regrouped

four : (m f s n : Bool) → ((m && f) && (s && n)) ≡ ((m && n) && (f && s))
four false f s n = refl
four true false s false = refl
four true false s true = refl
four true true false false = refl
four true true false true = refl
four true true true false = refl
four true true true true = refl

one_place : (x : StationSlot) (o m f : Bool) → ((m && (not o || f)) && slot_sound (whether o then some x else none)) ≡ ((m && (not o || leb x.name 8)) && (not o || (f && sound x.dest)))
one_place x true m f = four m f (sound x.dest) (leb x.name 8)
one_place x false m f = refl

swap : (a b c d : Bool) → ((a && b) && (c && d)) ≡ ((a && c) && (b && d))
swap false b c d = refl
swap true false false d = refl
swap true false true d = refl
swap true true c d = refl

all_both : {A : Type 0} (p q : A → Bool) (l : List A) → (all p l && all q l) ≡ all (λ x. p x && q x) l
all_both p q [] = refl
all_both p q (x ∷ l) = swap (p x) (all p l) (q x) (all q l) ∙ ap (λ (t : Bool). (p x && q x) && t) (all_both p q l)

all_same : {A : Type 0} (p q : A → Bool) (l : List A) → ((x : A) → p x ≡ q x) → all p l ≡ all q l
all_same p q [] e = refl
all_same p q (x ∷ l) e = ap (λ (t : Bool). t && all p l) (e x) ∙ ap (λ (t : Bool). q x && t) (all_same p q l e)

pub all-mapped : {A B : Type 0} (p : B → Bool) (f : A → B) (l : List A) → all p (map f l) ≡ all (λ x. p (f x)) l
all-mapped p f [] = refl
all-mapped p f (x ∷ l) = ap (λ (t : Bool). p (f x) && t) (all-mapped p f l)

all_then : {A : Type 0} (p q : A → Bool) (l : List A) → ((x : A) → p x ≡ true → q x ≡ true) → all p l ≡ true → all q l ≡ true
all_then p q [] h e = refl
all_then p q (x ∷ l) h e = and_both (q x) (all q l) (h x (and_left (p x) (all p l) e)) (all_then p q l h (and_right (p x) (all p l) e))

grouped : (a b z : Bool) → (a && (b && z)) ≡ ((a && b) && z)
grouped true b z = refl
grouped false b z = refl

last_one : (a b c : Bool) → (a && (b && (c && true))) ≡ (a && (b && c))
last_one false b c = refl
last_one true false c = refl
last_one true true false = refl
last_one true true true = refl

aside : (p q z : Bool) → ((p && q) && z) ≡ ((p && z) && q)
aside false q z = refl
aside true false false = refl
aside true false true = refl
aside true true false = refl
aside true true true = refl

module _ (b : StationBuffers) where
  abbrev eight : List ℕ
  eight = up_from 0 8

  by_place : (k : ℕ) → (part_formed b k && slot_sound (slot_at b k)) ≡ (place_ok b.own k && part_ok b k)
  unfolding part_formed slot_at place_ok part_ok sound_buffers
  by_place k = one_place (record { dest = view (part k b); name = at (name_word k) b.own }) (is_open k b) (is_mark (at k b.own)) (formed (part k b))

  places-are : (all (part_formed b) eight && all slot_sound (map (slot_at b) eight)) ≡ (all (place_ok b.own) eight && all (part_ok b) eight)
  places-are =
      ap (λ (t : Bool). all (part_formed b) eight && t) (all-mapped slot_sound (slot_at b) eight)
      ∙ all_both (part_formed b) (λ k. slot_sound (slot_at b k)) eight
      ∙ all_same (λ k. part_formed b k && slot_sound (slot_at b k)) (λ k. place_ok b.own k && part_ok b k) eight by_place
      ∙ sym (all_both (place_ok b.own) (part_ok b) eight)

  -- what the code tests is what a sound station is
  pub sound-is : sound_station b ≡ (own_words_ok b.own && all (part_ok b) eight)
  unfolding sound_station station_formed station_sound station_view own_words_ok given_ok
  sound-is =
      grouped (all (part_formed b) eight) (all slot_sound (map (slot_at b) eight)) (leb 1 (at 16 b.own) && (leb (at 16 b.own) (2 ^ 63) && (ltb (at 17 b.own) (2 ^ 63) && true)))
      ∙ ap (λ (t : Bool). t && (leb 1 (at 16 b.own) && (leb (at 16 b.own) (2 ^ 63) && (ltb (at 17 b.own) (2 ^ 63) && true)))) places-are
      ∙ ap (λ (t : Bool). (all (place_ok b.own) eight && all (part_ok b) eight) && t) (last_one (leb 1 (at 16 b.own)) (leb (at 16 b.own) (2 ^ 63)) (ltb (at 17 b.own) (2 ^ 63)))
      ∙ aside (all (place_ok b.own) eight) (all (part_ok b) eight) (leb 1 (at 16 b.own) && (leb (at 16 b.own) (2 ^ 63) && ltb (at 17 b.own) (2 ^ 63)))

  -- where none is called, all are tested
  pub none-called : own_words_ok b.own ≡ true → all (other_ok b 8) eight ≡ sound_station b
  unfolding other_ok
  none-called o = sym (sound-is ∙ ap (λ (t : Bool). t && all (part_ok b) eight) o)

  module _ (k : ℕ) where
    or_right : (x y : Bool) → y ≡ true → (x || y) ≡ true
    or_right true y e = refl
    or_right false y e = e

    -- the others are sound, and so is the called one
    pub all_sound : own_words_ok b.own ≡ true → all (other_ok b k) eight ≡ true → sound_buffers (part k b) ≡ true → sound_station b ≡ true
    unfolding other_ok part_ok
    all_sound o t s = sound-is ∙ and_both (own_words_ok b.own) (all (part_ok b) eight) o (all_then (other_ok b k) (part_ok b) eight each t)
      where
        each : (x : ℕ) → other_ok b k x ≡ true → part_ok b x ≡ true
        each x e = by-test (eqb x k)
            (λ y. or_right (not (is_open x b)) (sound_buffers (part x b)) (ap (λ (n : ℕ). sound_buffers (part n b)) (eqb-true x k y) ∙ s))
            (λ n. sym (ap (λ (t : Bool). t || part_ok b x) n) ∙ e)

    -- the own words are not in range
    pub own-bad : own_words_ok b.own ≡ false → sound_station b ≡ false
    own-bad o = sound-is ∙ ap (λ (t : Bool). t && all (part_ok b) eight) o

    -- another one is not sound
    pub other-bad : all (other_ok b k) eight ≡ false → sound_station b ≡ false
    unfolding other_ok
    other-bad t = by-test (sound_station b)
        (λ y. absurd (true≢false (sym (all_then (part_ok b) (other_ok b k) eight (λ x e. or_right (eqb x k) (part_ok b x) e) (and_right (own_words_ok b.own) (all (part_ok b) eight) (sym sound-is ∙ y))) ∙ t)))
        (λ n. n)
