-- The producers and the audits of a head as groups of words: 3 words and 1,029. Assumes nothing.
use mathlib.Core.Path.{◌≡◌, refl, sym, ap, ap₂, ◌∙◌}
use mathlib.Core.Bool.{Bool, true, false, ◌&&◌}
use mathlib.Core.List.{List, [], ◌∷◌, ◌++◌}
use Prim.Native.Nat.{ℕ, zero, suc, ◌≤◌, ◌<◌}
use native.Mathlib.Omega.{arith}
use borrow.Author.Tests.{lt-ltb, le-ltb, ltb-true, ltb-false, eqb-true, leb-true}
use lib.Dec.{ltb, leb, eqb}
use lib.ListN.{length, take, drop, get_or, length-drop, take-append-drop, get_or-append}
use lib.Seq.{length-take-le, get_or-take, take-append-le, drop-append-le}
use Rattle.audit.specs.Audit.{audit_window, order_of, ring_sound}
use Rattle.audit.specs.declared.Audit as Ring
use Rattle.model.specs.declared.Id.{Id}
use Rattle.definition.specs.Types.{Audit}
use Rattle.definition.specs.Destination.{is_producer}
use Rattle.definition.specs.Layout.{id_at, ids_at, ring_at, audits_at, rings_formed}
use Rattle.definition.proofs.Tests.{by-test}
use Rattle.definition.proofs.Thin.{every-all}
use Rattle.state.specs.declared.Head.{Head}
use Rattle.producers.specs.Groups.{has_id, first_of}
use Rattle.producers.specs.Producers.{head_fits}
use Rattle.producers.proofs.Groups.{elems, oks}

-- ---- the counts

pub record Counts (words : ℕ) (d : Head) : Type 0 where
  pub long : 8347 ≤ words
  pub producers : d.producers ≤ 32
  pub audits : d.audits ≤ 8

pub counts : (words : ℕ) (d : Head) → head_fits words d ≡ true → Counts words d
counts words d h =
    let f = every-all (leb 8347 words ∷ leb d.producers 32 ∷ leb d.audits 8 ∷ []) h in
    record { long = leb-true _ _ f.0; producers = leb-true _ _ f.1.0; audits = leb-true _ _ f.1.1.0 }

-- ---- a word of a front

front-word : (w k : ℕ) (l m : List ℕ) → k < w → w ≤ length l → get_or (take w l ++ m) k 0 ≡ get_or l k 0
front-word w k l m h b =
    let n : k < length (take w l) = omega (arith, length-take-le w l b) in
    get_or-append (take w l) m 0 k n ∙ get_or-take w l k 0 h

-- ---- identifiers

abbrev pub any_words : List ℕ → Bool
any_words l = true

pub ids-elems : (n : ℕ) (l : List ℕ) → ids_at n l ≡ elems id_at any_words 3 n l
unfolding ids_at
ids-elems zero l = refl
ids-elems (suc n) l = ap (λ (x : List Id). id_at l ∷ x) (ids-elems n (drop 3 l))

pub ids-oks : (n : ℕ) (l : List ℕ) → oks id_at any_words 3 n l ≡ true
ids-oks zero l = refl
ids-oks (suc n) l = ids-oks n (drop 3 l)

front-id : (w : ℕ) (l m : List ℕ) → 3 ≤ w → w ≤ length l → id_at (take w l ++ m) ≡ id_at l
front-id w l m h b = rw (front-word w 0 l m (omega arith) b, front-word w 1 l m (omega arith) b, front-word w 2 l m (omega arith) b)

pub id-local : (l m : List ℕ) → 3 ≤ length l → any_words l ≡ true → id_at (take 3 l ++ m) ≡ id_at l
id-local l m h o = front-id 3 l m (omega arith) h

pub id_same : (l m : List ℕ) → 3 ≤ length l → any_words (take 3 l ++ m) ≡ any_words l
id_same l m h = refl

-- whether one of them is a producer's
pub producer-first : (i : Id) (n : ℕ) (l : List ℕ) → is_producer i (ids_at n l) ≡ ltb (first_of (has_id i) 3 n l) n
unfolding ids_at first_of
producer-first i zero l = refl
producer-first i (suc n) l =
    let k : ℕ = first_of (has_id i) 3 n (drop 3 l) in
    let ih : is_producer i (ids_at n (drop 3 l)) ≡ ltb k n = producer-first i n (drop 3 l) in
    by-test (has_id i l)
    (λ e. rw e (sym (lt-ltb 0 (suc n) (omega arith))))
    (λ e. rw e (ih ∙ by-test (ltb k n)
    (λ t. let g : k < n = ltb-true k n t in t ∙ sym (lt-ltb (suc k) (suc n) (omega arith)))
    (λ t. let g : n ≤ k = ltb-false k n t in t ∙ sym (le-ltb (suc k) (suc n) (omega arith)))))

-- ---- audits

abbrev pub audit_at : List ℕ → Audit
audit_at l = record { producer = id_at l; order = order_of (ring_at l) (drop 5 l) }

abbrev pub ring_ok : List ℕ → Bool
ring_ok l = ring_sound (ring_at l)

pub audits-elems : (n : ℕ) (l : List ℕ) → audits_at n l ≡ elems audit_at ring_ok 1029 n l
unfolding audits_at
audits-elems zero l = refl
audits-elems (suc n) l = ap (λ (x : List Audit). audit_at l ∷ x) (audits-elems n (drop 1029 l))

pub rings-oks : (n : ℕ) (l : List ℕ) → rings_formed n l ≡ oks audit_at ring_ok 1029 n l
unfolding rings_formed
rings-oks zero l = refl
rings-oks (suc n) l = ap (λ (b : Bool). ring_ok l && b) (rings-oks n (drop 1029 l))

-- a ring in range starts within its window, so its order is that of the window
start-most : (a : Ring.Audit) → ring_sound a ≡ true → a.start ≤ audit_window
unfolding ring_sound
start-most a h = by-test (ltb a.count audit_window)
    (λ e. let g : eqb a.start 0 ≡ true = rw e at h in omega (arith, eqb-true a.start 0 g))
    (λ e. by-test (eqb a.count audit_window)
    (λ f. let g : ltb a.start audit_window ≡ true = rw (e, f) at h in omega (arith, ltb-true a.start audit_window g))
    (λ f. absurd (let g : false ≡ true = rw (e, f) at h in let z : ◌≡◌ {A = ℕ} 0 1 = cc in omega arith)))

pub order-window : (a : Ring.Audit) (w m : List ℕ) → ring_sound a ≡ true → length w ≡ audit_window → order_of a (w ++ m) ≡ order_of a w
unfolding order_of
order-window a w m o e =
    let s : a.start ≤ length w = omega (arith, start-most a o) in
    let n : audit_window ≤ length w = omega arith in
    rw (take-append-le audit_window w m n, take-append-le a.start w m s)

front-ring : (l m : List ℕ) → 1029 ≤ length l → ring_at (take 1029 l ++ m) ≡ ring_at l
front-ring l m h = rw (front-word 1029 3 l m (omega arith) h, front-word 1029 4 l m (omega arith) h)

pub ring-same : (l m : List ℕ) → 1029 ≤ length l → ring_ok (take 1029 l ++ m) ≡ ring_ok l
ring-same l m h = ap ring_sound (front-ring l m h)

front-order : (l m : List ℕ) → 1029 ≤ length l → ring_ok l ≡ true → order_of (ring_at l) (drop 5 (take 1029 l ++ m)) ≡ order_of (ring_at l) (drop 5 (take 1029 l))
front-order l m h o =
    let t : length (take 1029 l) ≡ 1029 = length-take-le 1029 l h in
    let n : 5 ≤ length (take 1029 l) = omega arith in
    let e : length (drop 5 (take 1029 l)) ≡ 1024 = length-drop 5 (take 1029 l) ∙ omega arith in
    ap (order_of (ring_at l)) (drop-append-le 5 (take 1029 l) m n) ∙ order-window (ring_at l) (drop 5 (take 1029 l)) m o e

pub audit-local : (l m : List ℕ) → 1029 ≤ length l → ring_ok l ≡ true → audit_at (take 1029 l ++ m) ≡ audit_at l
audit-local l m h o =
    let p : id_at (take 1029 l ++ m) ≡ id_at l = front-id 1029 l m (omega arith) h in
    let q : order_of (ring_at (take 1029 l ++ m)) (drop 5 (take 1029 l ++ m)) ≡ order_of (ring_at l) (drop 5 l) =
    ap (λ (a : Ring.Audit). order_of a (drop 5 (take 1029 l ++ m))) (front-ring l m h)
    ∙ front-order l m h o
    ∙ sym (front-order l (drop 1029 l) h o)
    ∙ ap (λ (x : List ℕ). order_of (ring_at l) (drop 5 x)) (take-append-drop 1029 l) in
    ap₂ (λ (x : Id) (y : List ℕ). record { producer = x; order = y }) p q
