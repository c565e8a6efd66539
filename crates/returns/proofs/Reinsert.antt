-- `reinsert` an entry at a time; and so all that a leaving consumer had in flight. Assumes nothing.
use mathlib.Core.Path.{◌≡◌, refl, sym, ap, ap₂, ◌∙◌}
use mathlib.Core.Bool.{true, false, not}
use mathlib.Core.List.{List, [], ◌∷◌, ◌++◌, append_assoc, append-nil, map}
use Prim.Native.Nat.{ℕ, ◌+◌}
use native.Mathlib.Omega.{arith}
use lib.IntN.{ℤ, pos}
use Rattle.words.proofs.Tests.{by-test}
use Rattle.stats.specs.declared.Stats.{Stats}
use Rattle.entry.specs.Entry.{expired}
use Rattle.definition.specs.Base.{keep, tally}
use Rattle.definition.specs.Types.{Id, Entry, Inflight, Sub, Held, Dest, with_pending, with_subs, with_stats, with_reserved}
use Rattle.definition.specs.Consumer.{◌⊕◌, add_expired}
use Rattle.definition.specs.Destination.{count, due, insert, hold_back, hold_back_all, insert_all, reinsert, returned_from, reserved_from}
use Rattle.definition.proofs.Local.{⊕-zero, ⊕-assoc}
use Rattle.returns.specs.Returns.{held_for, given_back, gives, gives_all}

abbrev stores : Entry → Dest → Dest
stores e t = with_pending (insert e t.pending) (with_subs (map (hold_back e.seq) t.subs) t)

map_same : (l : List Sub) → map (hold_back_all []) l ≡ l
map_same [] = refl
map_same (s ∷ l) = ap (λ (r : List Sub). s ∷ r) (map_same l)

map-twice : (q : ℕ) (es : List Entry) (l : List Sub) → map (hold_back_all es) (map (hold_back q) l) ≡ map (λ s. hold_back_all es (hold_back q s)) l
map-twice q es [] = refl
map-twice q es (s ∷ l) = ap (λ (r : List Sub). hold_back_all es (hold_back q s) ∷ r) (map-twice q es l)

expired-more : (a : Stats) (n : ℕ) → (a ⊕ add_expired 1) ⊕ add_expired n ≡ a ⊕ add_expired (1 + n)
expired-more a n = ⊕-assoc a (add_expired 1) (add_expired n)

module _ (now : ℕ) (t : Dest) where
  pub reinsert-none : reinsert now [] t ≡ t
  unfolding reinsert
  reinsert-none = ap₂ (λ (s : Stats) (l : List Sub). with_stats s (with_subs l t)) (⊕-zero t.stats) (map_same t.subs)

  module _ (e : Entry) (es : List Entry) where
    -- it has expired, or it is stored and cursors go back before it
    late : expired (pos (due now t)) e ≡ true → reinsert now (e ∷ es) t ≡ reinsert now es (count (add_expired 1) t)
    unfolding reinsert
    late h =
        let n : ℕ = tally (expired (pos (due now t))) es in
        rw h (ap (λ (s : Stats). with_stats s (with_pending (insert_all (keep (λ f. not (expired (pos (due now t)) f)) es) t.pending) (with_subs (map (hold_back_all (keep (λ f. not (expired (pos (due now t)) f)) es)) t.subs) t))) (sym (expired-more t.stats n)))

    live : expired (pos (due now t)) e ≡ false → reinsert now (e ∷ es) t ≡ reinsert now es (stores e t)
    unfolding reinsert
    live h =
        let l : List Entry = keep (λ f. not (expired (pos (due now t)) f)) es in
        let n : ℕ = tally (expired (pos (due now t))) es in
        rw h (ap₂ (λ (z : ℕ) (x : List Sub). with_stats (t.stats ⊕ add_expired z) (with_pending (insert_all l (insert e t.pending)) (with_subs x t))) (omega arith) (sym (map-twice e.seq l t.subs)))

module _ (now : ℕ) (e : Entry) (t : Dest) where
  pub reinsert-late : expired (pos (due now t)) e ≡ true → reinsert now (e ∷ []) t ≡ count (add_expired 1) t
  reinsert-late h = late now t e [] h ∙ reinsert-none now (count (add_expired 1) t)

  pub reinsert-live : expired (pos (due now t)) e ≡ false → reinsert now (e ∷ []) t ≡ with_pending (insert e t.pending) (with_subs (map (hold_back e.seq) t.subs) t)
  reinsert-live h = live now t e [] h ∙ reinsert-none now (stores e t)

  -- one, then the others
  pub reinsert-more : (es : List Entry) → reinsert now (e ∷ es) t ≡ reinsert now es (reinsert now (e ∷ []) t)
  reinsert-more es = by-test (expired (pos (due now t)) e)
      (λ h. late now t e es h ∙ ap (reinsert now es) (sym (reinsert-late h)))
      (λ h. live now t e es h ∙ ap (reinsert now es) (sym (reinsert-live h)))

-- what is reserved is no matter
pub reinsert-reserved : (now : ℕ) (es : List Entry) (l : List Held) (t : Dest) → reinsert now es (with_reserved l t) ≡ with_reserved l (reinsert now es t)
unfolding reinsert
reinsert-reserved now es l t = refl

pub reserved-same : (now : ℕ) (es : List Entry) (t : Dest) → (reinsert now es t).reserved ≡ t.reserved
unfolding reinsert
reserved-same now es t = refl

-- ---- all that was in flight

pub gives_none : (now : ℕ) (last : ℤ) (j : Id) (t : Dest) → gives_all now last j [] t ≡ t
gives_none now last j t = reinsert-none now (with_reserved (t.reserved ++ []) t) ∙ ap (λ (l : List Held). with_reserved l t) (append-nil t.reserved)

pub gives_more : (now : ℕ) (last : ℤ) (j : Id) (i : Inflight) (is : List Inflight) (t : Dest) → gives_all now last j (i ∷ is) t ≡ gives_all now last j is (gives now last j i t)
gives_more now last j i is t = by-test i.tx reserves returns
  where
    reserves : i.tx ≡ true → gives_all now last j (i ∷ is) t ≡ gives_all now last j is (gives now last j i t)
    reserves x = rw x (ap (λ (l : List Held). reinsert now (returned_from last is) (with_reserved l t)) (sym (append_assoc t.reserved (held_for j i.entry ∷ []) (reserved_from j is))))

    returns : i.tx ≡ false → gives_all now last j (i ∷ is) t ≡ gives_all now last j is (gives now last j i t)
    returns x =
        let e : Entry = given_back last i.entry in
        let l : List Held = t.reserved ++ reserved_from j is in
        rw x
        (reinsert-more now e (with_reserved l t) (returned_from last is)
        ∙ ap (reinsert now (returned_from last is)) (reinsert-reserved now (e ∷ []) l t)
        ∙ ap (λ (m : List Held). reinsert now (returned_from last is) (with_reserved (m ++ reserved_from j is) (reinsert now (e ∷ []) t))) (sym (reserved-same now (e ∷ []) t)))
