-- Events told one after another, and the lost count. Assumes nothing.
use mathlib.Core.Path.{◌≡◌, refl, sym, ap, ◌∙◌, subst}
use mathlib.Core.List.{List, map}
use Prim.Native.Nat.{ℕ, ◌+◌, ◌≤◌, ◌<◌, ◌^◌}
use native.Mathlib.Nat.{zero-add, add-zero}
use native.Mathlib.Numerals.{add-one}
use native.Mathlib.Omega.{arith}
use borrow.Author.Tests.{lt-ltb, le-ltb}
use lib.ListN.{length, drop, get_or, set, length-map, get_or-map}
use lib.Seq.{paste, paste-zero, paste-suc, length-paste, drop-paste, get_or-drop}
use Rattle.definition.specs.Layout.{Row}
use Rattle.definition.proofs.Tests.{if-true, if-false}
use Rattle.stationcalls.specs.Run.{one_more_lost, named}

pub more-below : (n : ℕ) → n < 9223372036854775807 → n + 1 ≡ one_more_lost n
more-below n h = sym (if-true (n + 1) n (lt-ltb (n + 1) (2 ^ 63) below))
  where
    below : n + 1 < 2 ^ 63
    below = omega (arith, h)

pub more-above : (n : ℕ) → 9223372036854775807 ≤ n → n ≡ one_more_lost n
more-above n h = sym (if-false (n + 1) n (le-ltb (n + 1) (2 ^ 63) above))
  where
    above : 2 ^ 63 ≤ n + 1
    above = omega (arith, h)

pub record Telling (before : List Row) (at : ℕ) (called : List Row) (n k : ℕ) (events : List Row) (i : ℕ) : Type 0 where
  pub few : i ≤ n
  pub long : n ≤ length called
  pub room : at + n ≤ length before
  pub told : events ≡ paste before at (map (named k) called) i
  pub same : length events ≡ length before

pub tell_none : (before : List Row) (at : ℕ) (called : List Row) (n k : ℕ) → n ≤ length called → at + n ≤ length before → Telling before at called n k before 0
tell_none before at called n k h g = record {
  few = omega (arith);
  long = h;
  room = g;
  told = paste-zero before at (map (named k) called);
  same = refl;
}

pub tell-turn : (before : List Row) (at : ℕ) (called : List Row) (n k : ℕ) (d : Row) (events : List Row) (i : ℕ) → Telling before at called n k events i → i < n
    → Telling before at called n k (set events (at + i) (named k (get_or called i d))) (i + 1)
tell-turn before at called n k d events i t h = record {
  few = omega (arith, h);
  long = t.long;
  room = t.room;
  told = now-told;
  same = ap length now-told ∙ length-paste before at s (i + 1) room_next long-next;
}
  where
    s : List Row
    s = map (named k) called

    as_many : length s ≡ length called
    as_many = length-map called (named k)

    place : at + i < length before
    place = omega (arith, h, t.room)

    there : i < length s
    there = omega (arith, h, t.long, as_many)

    room_next : at + (i + 1) ≤ length before
    room_next = omega (arith, h, t.room)

    long-next : i + 1 ≤ length s
    long-next = omega (arith, h, t.long, as_many)

    now-told : set events (at + i) (named k (get_or called i d)) ≡ paste before at s (i + 1)
    now-told =
        ap (λ (l : List Row). set l (at + i) (named k (get_or called i d))) t.told
        ∙ ap (λ (x : Row). set (paste before at s i) (at + i) x) (sym (get_or-map (named k) called i d))
        ∙ paste-suc before at s i (named k d) place there
        ∙ ap (λ (m : ℕ). paste before at s m) (sym (add-one i))

pub tell-all : (before : List Row) (at : ℕ) (called : List Row) (n k : ℕ) (events : List Row) (i : ℕ) → Telling before at called n k events i → n ≤ i
    → events ≡ paste before at (map (named k) called) n
tell-all before at called n k events i t h = t.told ∙ ap (λ (m : ℕ). paste before at (map (named k) called) m) end
  where
    end : i ≡ n
    end = omega (arith, h, t.few)

-- in place: what is not yet named is as it was
pub still : (before : List Row) (called : List Row) (n k : ℕ) (d : Row) (events : List Row) (i : ℕ) → Telling before 0 called n k events i → i < n → get_or events i d ≡ get_or before i d
still before called n k d events i t h =
    ap (λ (m : ℕ). get_or events m d) (sym (add-zero i)) ∙ sym (get_or-drop i events 0 d) ∙ ap (λ (l : List Row). get_or l 0 d) later ∙ get_or-drop i before 0 d ∙ ap (λ (m : ℕ). get_or before m d) (add-zero i)
  where
    s : List Row
    s = map (named k) called

    as_many : length s ≡ length called
    as_many = length-map called (named k)

    front : 0 ≤ length before
    front = omega (arith)

    long-now : i ≤ length s
    long-now = omega (arith, h, t.long, as_many)

    later : drop i events ≡ drop i before
    later = ap (λ (m : ℕ). drop m events) (sym (zero-add i)) ∙ ap (drop (0 + i)) t.told ∙ drop-paste before 0 s i front long-now ∙ ap (λ (m : ℕ). drop m before) (zero-add i)

pub named-turn : (before : List Row) (n k : ℕ) (d : Row) (events : List Row) (i : ℕ) → Telling before 0 before n k events i → i < n
    → Telling before 0 before n k (set events i (named k (get_or events i d))) (i + 1)
named-turn before n k d events i t h =
    subst (λ (m : ℕ). Telling before 0 before n k (set events m (named k (get_or events i d))) (i + 1)) (zero-add i)
    (subst (λ (x : Row). Telling before 0 before n k (set events (0 + i) (named k x)) (i + 1)) (sym (still before before n k d events i t h))
    (tell-turn before 0 before n k d events i t h))
