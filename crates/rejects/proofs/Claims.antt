-- What a caller needs: the letters of a sound state are those of the definition, and each is an entry in range. Assumes nothing.
use mathlib.Core.Path.{◌≡◌, refl, ap, ◌∙◌}
use mathlib.Core.Bool.{Bool, true, false, not, ◌&&◌}
use mathlib.Core.List.{List, [], ◌∷◌, ◌++◌, map}
use mathlib.Core.Option.{Option, none, some}
use Prim.Native.Nat.{ℕ, ◌≤◌}
use borrow.Author.Tests.{le-leb}
use lib.ListN.{length}
use Rattle.definition.specs.Base.{keep, all}
use Rattle.definition.specs.Types.{Id, Entry, Inflight, Held, Sub, Dest}
use Rattle.definition.specs.Consumer.{Ack, ack_type, is_browser, snapshot, ack_range}
use Rattle.definition.specs.Destination.{is_id, sub_of, held_by, reserved_of, reserved_hit}
use Rattle.definition.specs.Calls.{entry_ok, flying, sub_tests, sub_sound, sound, Call}
use Rattle.definition.specs.Words.{decode}
use Rattle.definition.specs.Layout.{Buffers, view, sound_buffers}
use Rattle.definition.proofs.Tests.{by-if, by-test, if-true, and_left, and_right, and_both}
use Rattle.definition.proofs.Thin.{every-all}
use Rattle.definition.proofs.Lists.{all_keep, all_left, all_right}
use Rattle.definition.proofs.Sound.{find-all, facts}
use Rattle.state.specs.declared.Head.{Head}
use Rattle.state.specs.State.{loaded}
use Rattle.state.specs.Fits.{fits}
use Rattle.state.proofs.Fitting.{Long, facts-fit, sound-facts, sound-loaded}
use Rattle.definition_station.specs.Letters.{is_poison, taken_reserved, rejected_of, rejected_by, rejected}
use Rattle.definition_station.proofs.Rejected.{by-rejected}
use Rattle.rejects.specs.Rejects.{buffer_rejected}

-- ---- sound buffers

-- with a list of 512 rows or more, all that the definition rejects
pub sound-rejected : (b : Buffers) → Long b 545 → sound_buffers b ≡ true → (room code : ℕ) (ws : List ℕ) → 512 ≤ room → buffer_rejected b room code ws ≡ rejected (view b) (decode code ws)
unfolding buffer_rejected
sound-rejected b long s room code ws wide =
    let y : fits b.subs (loaded b.head b.subs) (length b.rows) 545 ≡ true =
    ap (λ (d : Head). fits b.subs d (length b.rows) 545) (sound-loaded b 545 long s) ∙ facts-fit b.subs _ (length b.rows) 545 (sound-facts b 545 long s) in
    if-true _ _ (and_both _ _ (le-leb 8347 (length b.head) long.head) (and_both _ _ (le-leb 512 room wide) y))

-- ---- in range

-- what is so of the entries of all is so of those of some
some-ok : {A : Type 0} (f : A → Entry) (q : A → Bool) (l : List A) → all entry_ok (map f l) ≡ true → all entry_ok (map f (keep q l)) ≡ true
some-ok f q [] h = refl
some-ok f q (x ∷ l) h = by-test (q x)
    (λ t. rw t (and_both (entry_ok (f x)) (all entry_ok (map f (keep q l))) (and_left (entry_ok (f x)) _ h) (some-ok f q l (and_right (entry_ok (f x)) _ h))))
    (λ t. rw t (some-ok f q l (and_right (entry_ok (f x)) _ h)))

module _ (t : Dest) (s : sound t ≡ true) where
  reserved-ok : (i : Id) → all entry_ok (reserved_of i t) ≡ true
  reserved-ok i = some-ok (λ (h : Held). h.entry) (held_by i) t.reserved (all_right entry_ok t.pending _ (facts t s).entries)

  flying-ok : (i : Id) (x : Sub) → sub_of i t ≡ some x → all entry_ok (map (λ (f : Inflight). f.entry) x.inflight) ≡ true
  unfolding sub_sound
  flying-ok i x e = all_left entry_ok (flying x) (x.tpending ++ snapshot x) (every-all (sub_tests t.kind t.calls_used x) (find-all (is_id i) (sub_sound t.kind t.calls_used) t.subs x e (facts t s).consumers)).1.1.1.0

  taken-ok : (i : Id) (a : Ack) (o : Option ℕ) → all entry_ok (taken_reserved i a t o) ≡ true
  taken-ok i a none = refl
  taken-ok i a (some last) = all_keep entry_ok (λ e. reserved_hit a.first last e (ack_type a.type)) (reserved_of i t) (reserved-ok i)

  of-ok : (i : Id) (a : Ack) (o : Option Sub) → sub_of i t ≡ o → all entry_ok (rejected_of i a t o) ≡ true
  unfolding rejected_of
  of-ok i a none e = all_keep entry_ok (λ f. f.persistent) (taken_reserved i a t a.last) (taken-ok i a a.last)
  of-ok i a (some x) e = by-if (λ (l : List Entry). all entry_ok l ≡ true) (is_browser x) [] _ (λ _. refl)
      (λ _. all_keep entry_ok (λ f. f.persistent) (map (λ (f : Inflight). f.entry) (keep (ack_range x a false) x.inflight)) (some-ok (λ (f : Inflight). f.entry) (ack_range x a false) x.inflight (flying-ok i x e)))

  by-ok : (i : Id) (a : Ack) → all entry_ok (rejected_by i a t) ≡ true
  unfolding rejected_by
  by-ok i a = by-if (λ (l : List Entry). all entry_ok l ≡ true) (not a.transacted && is_poison (ack_type a.type)) _ [] (λ _. of-ok i a (sub_of i t) refl) (λ _. refl)

  pub rejected-ok : (o : Option Call) → all entry_ok (rejected t o) ≡ true
  rejected-ok = by-rejected t (λ o l. all entry_ok l ≡ true) (λ o. refl) (λ i a now. by-ok i a)
