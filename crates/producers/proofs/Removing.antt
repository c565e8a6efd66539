-- Groups that go from the head: the producers and the audits that stay are those that the definitions keep. Assumes nothing.
use mathlib.Core.Path.{◌≡◌, refl, sym, ap, ap₂, ◌∙◌}
use mathlib.Core.Bool.{Bool, true, false, not}
use mathlib.Core.List.{List, [], ◌∷◌, ◌++◌}
use Prim.Native.Nat.{ℕ, ◌+◌, ◌*◌, ◌≤◌}
use native.Mathlib.Omega.{arith}
use borrow.Author.Tests.{le-leb}
use lib.Dec.{eqb, leb}
use lib.ListN.{length, take, drop, length-drop}
use lib.Seq.{length-take-le, drop_at}
use Rattle.model.specs.declared.Id.{Id}
use Rattle.model.specs.Model.{id_of, same_id}
use Rattle.definition.specs.Base.{keep}
use Rattle.definition.specs.Types.{Audit}
use Rattle.definition.specs.Destination.{audit_of, touch_idle}
use Rattle.definition.specs.Calls.{removing, forgetting, own_refusal, perform}
use Rattle.definition.specs.Layout.{Row, sub_rows, id_at, ids_at, audits_at, rings_formed}
use Rattle.definition.proofs.Thin.{all-every}
use Rattle.definition.proofs.Stored.{ids-length}
use Rattle.state.specs.declared.Head.{Head}
use Rattle.state.specs.State.{head_view, with_producer_count, with_audit_count, with_idle_mark, touched, refused_as, done_as}
use Rattle.state.proofs.View.{touched-mark, touch-view}
use Rattle.producers.specs.Groups.{stays, kept_count, kept_words, packed}
use Rattle.producers.specs.Producers.{head_fits, producer_removed, released, head_dest, Promised}
use Rattle.producers.proofs.Words.{over-length, over-after}
use Rattle.producers.proofs.Groups.{elems, oks, count_most, kept-length, kept-elems, kept-oks}
use Rattle.producers.proofs.Tables.{Counts, counts, any_words, ids-elems, ids-oks, id-local, id_same, audit_at, ring_ok, audits-elems, rings-oks, audit-local, ring-same}
use Rattle.producers.proofs.Promises.{unfit-performs}
use Rattle.producers.proofs.Adding.{ids-kept}

-- ---- packed groups

module _ (p : List ℕ → Bool) (at w n : ℕ) (h : List ℕ) (r : at + n * w ≤ length h) where
  abbrev l : List ℕ
  l = drop at h

  abbrev kept : List ℕ
  kept = kept_words p w n l

  left-room : n * w ≤ length l
  left-room = omega (arith, length-drop at h)

  kept-room : at + length kept ≤ at + n * w
  kept-room = omega (arith, kept-length p w n l left-room)

  pub packed-length : length (packed p at w n h) ≡ length h
  unfolding packed
  packed-length = let k = kept-room in over-length at kept h (omega arith)

  pub packed-after : (m : ℕ) → at + n * w ≤ m → drop m (packed p at w n h) ≡ drop m h
  unfolding packed
  packed-after m b = let k = kept-room in over-after at kept h m (omega arith) (omega arith)

  pub packed-from : drop at (packed p at w n h) ≡ kept ++ drop (at + length kept) h
  unfolding packed
  packed-from = drop_at (take at h) (kept ++ drop (at + length kept) h) at (length-take-le at h (omega arith))

-- the producers that stay
pub packed-ids : (i : Id) (n : ℕ) (h : List ℕ) → 17 + n * 3 ≤ length h
    → ids_at (kept_count (stays true i) 3 n (drop 17 h)) (drop 17 (packed (stays true i) 17 3 n h)) ≡ keep (λ j. not (same_id j i)) (ids_at n (drop 17 h))
packed-ids i n h r =
    let l : List ℕ = drop 17 h in
    let p : List ℕ → Bool = stays true i in
    let k : ℕ = kept_count p 3 n l in
    let m : List ℕ = drop (17 + length (kept_words p 3 n l)) h in
    ap (ids_at k) (packed-from p 17 3 n h r)
    ∙ ids-elems k (kept_words p 3 n l ++ m)
    ∙ kept-elems id_at any_words 3 id-local id_same (λ j. not (same_id j i)) n l m (left-room p 17 3 n h r) (ids-oks n l)
    ∙ ap (keep (λ j. not (same_id j i))) (sym (ids-elems n l))

-- the audits that stay, by a test on the audit
module _ (p : List ℕ → Bool) (q : Audit → Bool) (same : p ≡ (λ x. q (audit_at x))) (n : ℕ) (h : List ℕ) (r : 113 + n * 1029 ≤ length h) (o : rings_formed n (drop 113 h) ≡ true) where
  abbrev words : List ℕ
  words = drop 113 h

  abbrev tail : List ℕ
  tail = drop (113 + length (kept_words p 1029 n words)) h

  ok : oks audit_at ring_ok 1029 n words ≡ true
  ok = sym (rings-oks n words) ∙ o

  pub packed-audits : audits_at (kept_count p 1029 n words) (drop 113 (packed p 113 1029 n h)) ≡ keep q (audits_at n words)
  packed-audits =
      ap (audits_at (kept_count p 1029 n words)) (packed-from p 113 1029 n h r)
      ∙ audits-elems (kept_count p 1029 n words) (kept_words p 1029 n words ++ tail)
      ∙ ap (λ (f : List ℕ → Bool). elems audit_at ring_ok 1029 (kept_count f 1029 n words) (kept_words f 1029 n words ++ tail)) same
      ∙ kept-elems audit_at ring_ok 1029 audit-local ring-same q n words tail (left-room p 113 1029 n h r) ok
      ∙ ap (keep q) (sym (audits-elems n words))

  pub packed-formed : rings_formed (kept_count p 1029 n words) (drop 113 (packed p 113 1029 n h)) ≡ true
  packed-formed =
      ap (rings_formed (kept_count p 1029 n words)) (packed-from p 113 1029 n h r)
      ∙ rings-oks (kept_count p 1029 n words) (kept_words p 1029 n words ++ tail)
      ∙ kept-oks audit_at ring_ok 1029 audit-local ring-same p n words tail (left-room p 113 1029 n h r) ok

-- the producers are before the audits
pub packed-ids-kept : (p : List ℕ → Bool) (m n : ℕ) (h : List ℕ) → m ≤ 32 → 113 + n * 1029 ≤ length h → ids_at m (drop 17 (packed p 113 1029 n h)) ≡ ids_at m (drop 17 h)
unfolding packed
packed-ids-kept p m n h b r = ids-kept m 113 (kept_words p 1029 n (drop 113 h)) h b (omega arith) (omega arith)

-- ---- release_audits

module _ (conn : ℕ) (d : Head) (h : List ℕ) where
  abbrev n : ℕ
  n = d.audits

  abbrev stay : List ℕ → Bool
  stay = stays false (id_of conn 0 0)

  abbrev d₁ : Head
  d₁ = with_audit_count (kept_count stay 1029 n (drop 113 h)) d

  pub released-unfit : head_fits (length h) d ≡ false → Promised (forgetting conn) (released conn d h) d h (refused_as 2 d) h
  unfolding released
  released-unfit f = record { exact = rw f; performs = unfit-performs (forgetting conn) d h f }

  module _ (f : head_fits (length h) d ≡ true) where
    rooms : 113 + n * 1029 ≤ length h
    rooms = let c = counts (length h) d f in omega arith

    released-fits : head_fits (length (packed stay 113 1029 n h)) d₁ ≡ true
    released-fits =
        let c = counts (length h) d f in
        let e = packed-length stay 113 1029 n h rooms in
        let m = count_most stay 1029 n (drop 113 h) in
        all-every (leb 8347 (length (packed stay 113 1029 n h)) ∷ leb d.producers 32 ∷ leb (kept_count stay 1029 n (drop 113 h)) 8 ∷ [])
        (le-leb 8347 (length (packed stay 113 1029 n h)) (omega arith), (le-leb d.producers 32 c.producers, (le-leb (kept_count stay 1029 n (drop 113 h)) 8 (omega arith), tt)))

    pub released-done : Promised (forgetting conn) (released conn d h) d h (done_as 0 d₁) (packed stay 113 1029 n h)
    unfolding released perform own_refusal head_view
    released-done = record {
      exact = rw f;
      performs = record {
        long = packed-length stay 113 1029 n h rooms;
        others = refl;
        kept = λ z. absurd (z refl);
        refusal = λ _ subs rows. rw f;
        fit = λ _. released-fits;
        formed = λ _ o. packed-formed stay (λ a. not (eqb a.producer.conn conn)) refl n h rooms o;
        answer = λ _ _ subs rows. refl;
        done = λ _ o subs rows _ _. ap₂ (λ (x : List Id) (y : List Audit). head_view d₁ subs rows x y)
            (packed-ids-kept stay d.producers n h (counts (length h) d f).producers rooms)
            (packed-audits stay (λ a. not (eqb a.producer.conn conn)) refl n h rooms o);
      };
    }

-- ---- remove_producer

module _ (now : ℕ) (i : Id) (d : Head) (h : List ℕ) where
  abbrev gone : List ℕ → Bool
  gone = stays true i

  abbrev k₁ : List ℕ
  k₁ = packed gone 17 3 d.producers h

  abbrev k₂ : List ℕ
  k₂ = packed gone 113 1029 d.audits k₁

  abbrev d₂ : Head
  d₂ = with_audit_count (kept_count gone 1029 d.audits (drop 113 k₁)) (with_producer_count (kept_count gone 3 d.producers (drop 17 h)) d)

  pub removed-unfit : head_fits (length h) d ≡ false → Promised (removing i now) (producer_removed now i d h) d h (refused_as 2 d) h
  unfolding producer_removed
  removed-unfit f = record { exact = rw f; performs = unfit-performs (removing i now) d h f }

  module _ (f : head_fits (length h) d ≡ true) where
    few : Counts (length h) d
    few = counts (length h) d f

    rooms₁ : 17 + d.producers * 3 ≤ length h
    rooms₁ = let c = few in omega arith

    k₁-long : length k₁ ≡ length h
    k₁-long = packed-length gone 17 3 d.producers h rooms₁

    rooms₂ : 113 + d.audits * 1029 ≤ length k₁
    rooms₂ = let c = few in let e = k₁-long in omega arith

    k₂-long : length k₂ ≡ length h
    k₂-long = packed-length gone 113 1029 d.audits k₁ rooms₂ ∙ k₁-long

    k₁-audits : drop 113 k₁ ≡ drop 113 h
    k₁-audits = let c = few in packed-after gone 17 3 d.producers h rooms₁ 113 (omega arith)

    less-producers : d₂.producers ≤ 32
    less-producers = let c = few in omega (arith, count_most gone 3 d.producers (drop 17 h))

    less-audits : d₂.audits ≤ 8
    less-audits = let c = few in omega (arith, count_most gone 1029 d.audits (drop 113 k₁))

    ids-left : ids_at d₂.producers (drop 17 k₂) ≡ keep (λ j. not (same_id j i)) (ids_at d.producers (drop 17 h))
    ids-left = packed-ids-kept gone d₂.producers d.audits k₁ less-producers rooms₂ ∙ packed-ids i d.producers h rooms₁

    module _ (o : rings_formed d.audits (drop 113 h) ≡ true) where
      formed₁ : rings_formed d.audits (drop 113 k₁) ≡ true
      formed₁ = ap (rings_formed d.audits) k₁-audits ∙ o

      audits-left : audits_at d₂.audits (drop 113 k₂) ≡ keep (λ a. not (audit_of i a)) (audits_at d.audits (drop 113 h))
      audits-left = packed-audits gone (λ a. not (audit_of i a)) refl d.audits k₁ rooms₂ formed₁ ∙ ap (λ (x : List ℕ). keep (λ a. not (audit_of i a)) (audits_at d.audits x)) k₁-audits

      formed₂ : rings_formed d₂.audits (drop 113 k₂) ≡ true
      formed₂ = packed-formed gone (λ a. not (audit_of i a)) refl d.audits k₁ rooms₂ formed₁

    -- the mark is touched last
    marked-producers : (touched now d₂).producers ≡ d₂.producers
    marked-producers = ap (λ (x : Head). x.producers) (touched-mark now d₂)

    marked-audits : (touched now d₂).audits ≡ d₂.audits
    marked-audits = ap (λ (x : Head). x.audits) (touched-mark now d₂)

    removed-others : touched now d₂ ≡ with_idle_mark (touched now d₂).idle (touched now d₂).idle_since (with_producer_count (touched now d₂).producers (with_audit_count (touched now d₂).audits d))
    removed-others = touched-mark now d₂ ∙ ap₂ (λ (x y : ℕ). with_idle_mark (touched now d₂).idle (touched now d₂).idle_since (with_producer_count x (with_audit_count y d))) (sym marked-producers) (sym marked-audits)

    removed-fits : head_fits (length k₂) (touched now d₂) ≡ true
    removed-fits =
        let c = few in
        let e = k₂-long in
        let p = less-producers in
        let a = less-audits in
        ap₂ (λ (x y : ℕ). head_fits (length k₂) (with_producer_count x (with_audit_count y d))) marked-producers marked-audits
        ∙ all-every (leb 8347 (length k₂) ∷ leb d₂.producers 32 ∷ leb d₂.audits 8 ∷ []) (le-leb 8347 (length k₂) (omega arith), (le-leb d₂.producers 32 p, (le-leb d₂.audits 8 a, tt)))

    removed-dest : rings_formed d.audits (drop 113 h) ≡ true → (subs rows : List Row) → d.consumers ≤ length subs → sub_rows (take d.consumers subs) + (d.reserved + d.waiting) ≤ length rows
        → head_dest (touched now d₂) k₂ subs rows ≡ (perform (head_dest d h subs rows) (removing i now)).dest
    unfolding perform head_view
    removed-dest o subs rows hs hr =
        let ps : List Id = ids_at d₂.producers (drop 17 k₂) in
        let aus : List Audit = audits_at d₂.audits (drop 113 k₂) in
        ap₂ (λ (x y : ℕ). head_view (touched now d₂) subs rows (ids_at x (drop 17 k₂)) (audits_at y (drop 113 k₂))) marked-producers marked-audits
        ∙ touch-view subs rows ps aus now d₂ hs hr (ids-length d₂.producers (drop 17 k₂))
        ∙ ap₂ (λ (x : List Id) (y : List Audit). touch_idle now (head_view d₂ subs rows x y)) ids-left (audits-left o)

    pub removed-done : Promised (removing i now) (producer_removed now i d h) d h (done_as 0 (touched now d₂)) k₂
    unfolding producer_removed perform own_refusal head_view
    removed-done = record {
      exact = rw f;
      performs = record {
        long = k₂-long;
        others = removed-others;
        kept = λ z. absurd (z refl);
        refusal = λ _ subs rows. rw f;
        fit = λ _. removed-fits;
        formed = λ _ o. ap (λ (x : ℕ). rings_formed x (drop 113 k₂)) marked-audits ∙ formed₂ o;
        answer = λ _ _ subs rows. refl;
        done = λ _ o subs rows hs hr. removed-dest o subs rows hs hr;
      };
    }
