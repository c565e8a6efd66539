-- Which calls make dead letters: acknowledgements alone, and each letter is one of at most 512 persistent entries. Assumes nothing.
use Prim.Native.Nat.{ℕ, ◌≤◌}
use native.Mathlib.Omega.{arith}
use mathlib.Core.Path.{◌≡◌, refl}
use mathlib.Core.Bool.{Bool, true, false, not, ◌&&◌}
use mathlib.Core.List.{List, [], ◌∷◌, map}
use mathlib.Core.Option.{Option, none, some}
use lib.Dec.{eqb}
use lib.ListN.{length, length-map}
use Rattle.definition.specs.Base.{whether◌then◌else◌, keep}
use Rattle.definition.specs.Types.{Id, Entry, Sub, Dest}
use Rattle.definition.specs.Consumer.{is_browser, ack_type, Ack, ack_range}
use Rattle.definition.specs.Destination.{is_id, held_by, sub_of, reserved_of, reserved_hit}
use Rattle.definition.specs.Calls.{sound, arguments_ok, acknowledge, pulling, timed_out, prefetching, Call, enqueuing, joining, leaving, asking, unmarking, releasing, sweeping, clearing, adding, removing, testing, forgetting, discarding, missing}
use Rattle.definition.specs.Words.{provided, read, ranged_call}
use Rattle.definition.proofs.Tests.{by-if}
use Rattle.definition.proofs.Lists.{All, keep-length}
use Rattle.definition.proofs.Room.{counted, found-flights}
use Rattle.definition_station.specs.Letters.{is_poison, lasting, taken_reserved, rejected_of, rejected_by, rejected}

-- ---- by the call

-- what is so of a call without letters, and of an acknowledgement with those that it rejects, is so of every call
module _ (t : Dest) (P : Option Call → List Entry → Type 0) (rests : (o : Option Call) → P o []) (acks : (i : Id) (a : Ack) (now : ℕ) → P (some (asking i (acknowledge a now))) (rejected_by i a t)) where
  pub by-rejected : (o : Option Call) → P o (rejected t o)
  unfolding rejected
  by-rejected none = rests none
  by-rejected (some (asking i (acknowledge a now))) = acks i a now
  by-rejected (some (asking i (pulling timeout now))) = rests (some (asking i (pulling timeout now)))
  by-rejected (some (asking i (timed_out generation))) = rests (some (asking i (timed_out generation)))
  by-rejected (some (asking i (prefetching p now))) = rests (some (asking i (prefetching p now)))
  by-rejected (some (enqueuing e now)) = rests (some (enqueuing e now))
  by-rejected (some (joining p now)) = rests (some (joining p now))
  by-rejected (some (leaving i last now)) = rests (some (leaving i last now))
  by-rejected (some (unmarking i)) = rests (some (unmarking i))
  by-rejected (some (releasing i now)) = rests (some (releasing i now))
  by-rejected (some (sweeping now most)) = rests (some (sweeping now most))
  by-rejected (some clearing) = rests (some clearing)
  by-rejected (some (adding i)) = rests (some (adding i))
  by-rejected (some (removing i now)) = rests (some (removing i now))
  by-rejected (some (testing i q)) = rests (some (testing i q))
  by-rejected (some (forgetting conn)) = rests (some (forgetting conn))
  by-rejected (some discarding) = rests (some discarding)
  by-rejected (some missing) = rests (some missing)

-- ---- by the code

-- no letters
abbrev pub Silent : Dest → Option Call → Type 0
Silent t o = rejected t (ranged_call o) ≡ []

pub silent-given : (t : Dest) (b : Bool) (c : Call) → rejected t (some c) ≡ [] → Silent t (provided b c)
unfolding provided rejected
silent-given t b c h = by-if (Silent t) b (some c) none (λ _. by-if (λ (o : Option Call). rejected t o ≡ []) (arguments_ok c) (some c) none (λ _. h) (λ _. refl)) (λ _. refl)

-- a code other than an acknowledgement's
pub other-silent : (code : ℕ) (ws : List ℕ) (t : Dest) → eqb code 4 ≡ false → Silent t (read code ws)
unfolding read rejected
other-silent code ws t n =
    let next : (k : ℕ) (b : Bool) (c : Call) (o : Option Call) → rejected t (some c) ≡ [] → Silent t o → Silent t (whether eqb code k then provided b c else o) =
    λ k b c o h r. by-if (Silent t) (eqb code k) (provided b c) o (λ _. silent-given t b c h) (λ _. r) in
    next 1 _ _ _ refl (next 2 _ _ _ refl (next 3 _ _ _ refl (rw n (
    next 5 _ _ _ refl (next 6 _ _ _ refl (next 7 _ _ _ refl (next 8 _ _ _ refl (next 9 _ _ _ refl (next 10 _ _ _ refl
    (next 11 _ _ _ refl (next 12 _ _ _ refl (next 13 _ _ _ refl (next 14 _ _ _ refl (next 15 _ _ none refl refl))))))))))))))

-- ---- which entries

module _ (t : Dest) where
  abbrev Lasts : List Entry → Type 0
  Lasts l = All (λ e. e.persistent ≡ true) l

  lasting-lasts : (l : List Entry) → Lasts (lasting l)
  lasting-lasts [] = tt
  lasting-lasts (e ∷ l) = by-if Lasts e.persistent (e ∷ lasting l) (lasting l) (λ c. (c, lasting-lasts l)) (λ c. lasting-lasts l)

  of_lasts : (i : Id) (a : Ack) (o : Option Sub) → Lasts (rejected_of i a t o)
  unfolding rejected_of
  of_lasts i a none = lasting-lasts (taken_reserved i a t a.last)
  of_lasts i a (some s) = by-if Lasts (is_browser s) [] _ (λ c. tt) (λ c. lasting-lasts (map (λ f. f.entry) (keep (ack_range s a false) s.inflight)))

  by-lasts : (i : Id) (a : Ack) → Lasts (rejected_by i a t)
  unfolding rejected_by
  by-lasts i a = by-if Lasts (not a.transacted && is_poison (ack_type a.type)) (rejected_of i a t (sub_of i t)) [] (λ c. of_lasts i a (sub_of i t)) (λ c. tt)

  -- they are persistent
  pub rejected-lasts : (o : Option Call) → Lasts (rejected t o)
  rejected-lasts = by-rejected t (λ o l. Lasts l) (λ o. tt) (λ i a now. by-lasts i a)

  module _ (y : sound t ≡ true) where
    abbrev Few : List Entry → Type 0
    Few l = length l ≤ 512

    taken-few : (i : Id) (a : Ack) (o : Option ℕ) → Few (lasting (taken_reserved i a t o))
    taken-few i a none = omega arith
    taken-few i a (some last) = omega (
      arith,
      keep-length (λ e. e.persistent) (taken_reserved i a t (some last)),
      keep-length (λ e. reserved_hit a.first last e (ack_type a.type)) (reserved_of i t),
      length-map (keep (held_by i) t.reserved) (λ h. h.entry),
      keep-length (held_by i) t.reserved,
      (counted t y).rows,
    )

    of-few : (i : Id) (a : Ack) (o : Option Sub) → sub_of i t ≡ o → Few (rejected_of i a t o)
    unfolding rejected_of
    of-few i a none e = taken-few i a a.last
    of-few i a (some s) e = by-if Few (is_browser s) [] _ (λ c. omega arith) (λ c. omega (
      arith,
      keep-length (λ f. f.persistent) (map (λ f. f.entry) (keep (ack_range s a false) s.inflight)),
      length-map (keep (ack_range s a false) s.inflight) (λ f. f.entry),
      keep-length (ack_range s a false) s.inflight,
      found-flights (is_id i) t.subs s e,
      (counted t y).rows,
    ))

    by-few : (i : Id) (a : Ack) → Few (rejected_by i a t)
    unfolding rejected_by
    by-few i a = by-if Few (not a.transacted && is_poison (ack_type a.type)) (rejected_of i a t (sub_of i t)) [] (λ c. of-few i a (sub_of i t) refl) (λ c. omega arith)

    -- a sound destination has at most 512 of them
    pub rejected-few : (o : Option Call) → Few (rejected t o)
    rejected-few = by-rejected t (λ o l. Few l) (λ o. omega arith) (λ i a now. by-few i a)
