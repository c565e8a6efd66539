-- An acknowledgement's own removals are what it names, in order. Assumes nothing.
use Prim.Native.Nat.{ℕ, ◌≤◌}
use native.Mathlib.Omega.{arith}
use mathlib.Core.Path.{◌≡◌, refl, sym, ◌∙◌, ap, subst⁻¹}
use mathlib.Core.Bool.{Bool, false}
use mathlib.Core.List.{List, [], ◌∷◌, ◌++◌, map}
use mathlib.Core.Option.{Option, none, some}
use borrow.Author.Tests.{eq-eqb}
use Rattle.definition.specs.Base.{whether◌then◌else◌, keep, find}
use Rattle.definition.specs.Types.{Id, Entry, Inflight, Sub, Held, Dest}
use Rattle.definition.specs.Consumer.{is_browser, AckType, ack_type, Ack}
use Rattle.definition.specs.Destination.{sub_of, held_by, reserved_of, reserved_hit}
use Rattle.definition.specs.Calls.{flying, taken, held, acknowledge, Call, asking, Result, call}
use Rattle.definition.proofs.Tests.{by-test, by-if, if-true, if-false}
use Rattle.definition.proofs.Lists.{none-some, some_inj}
use Rattle.definition.proofs.Sums.{sum, occ, sum-append, occ-yes}
use Rattle.fates.proofs.Measures.{Steady, only, sum-only}
use Rattle.fates.proofs.Sweeps.{holding-sum}
use Rattle.fates.proofs.Calls.{decode-coded}
use Rattle.fates.proofs.Run.{called, queue-once, moved, leavers-sum}
use Rattle.fates.specs.Fates.{holding, acks, removal, hits, named_reserved, named_at, named_by, leavers}
use Rattle.fates.specs.Account.{RemovalsAreNamed}

-- ---- parts of a list, in its order

data Part : List Entry → List Entry → Type 0 where
  done : Part [] []
  skip : {e : Entry} {l m : List Entry} → Part l m → Part (e ∷ l) m
  stay : {e : Entry} {l m : List Entry} → Part l m → Part (e ∷ l) (e ∷ m)

part-sum : (f : Entry → ℕ) (l m : List Entry) → Part l m → sum f m ≤ sum f l
part-sum f l m done = omega arith
part-sum f l m (skip {l = k} r) = omega (arith, part-sum f k m r)
part-sum f l m (stay {l = k} {m = n} r) = omega (arith, part-sum f k n r)

own-occ : (e : Entry) → occ e.seq e ≡ 1
own-occ e = occ-yes e.seq e (eq-eqb e.seq e.seq refl)

-- where no number is twice, two parts with the same numbers are one
part_same : (l m n : List Entry) → Part l m → Part l n → ((x : ℕ) → sum (occ x) l ≤ 1) → ((x : ℕ) → sum (occ x) m ≡ sum (occ x) n) → m ≡ n
part_same l m n done done o h = refl
part_same l m n (skip {e = e} {l = k} r) (skip s) o h = part_same k m n r s (λ x. omega (arith, o x)) h
part_same l m n (stay {e = e} {l = k} {m = v} r) (stay {m = w} s) o h = ap (λ (z : List Entry). e ∷ z) (part_same k v w r s (λ x. omega (arith, o x)) (λ x. omega (arith, h x)))
part_same l m n (skip {e = e} {l = k} r) (stay s) o h = absurd (omega (arith, o e.seq, own-occ e, h e.seq, part-sum (occ e.seq) k m r))
part_same l m n (stay {e = e} {l = k} r) (skip s) o h = absurd (omega (arith, o e.seq, own-occ e, h e.seq, part-sum (occ e.seq) k n s))

part_none : (l : List Entry) → Part l []
part_none [] = done
part_none (e ∷ l) = skip (part_none l)

part-keep : (p : Entry → Bool) (l m : List Entry) → Part l m → Part l (keep p m)
part-keep p l m done = done
part-keep p l m (skip {l = k} r) = skip (part-keep p k m r)
part-keep p l m (stay {e = e} {l = k} {m = n} r) = by-if (Part (e ∷ k)) (p e) (e ∷ keep p n) (keep p n) (λ c. stay (part-keep p k n r)) (λ c. skip (part-keep p k n r))

part-all : (l : List Entry) → Part l l
part-all [] = done
part-all (e ∷ l) = stay (part-all l)

-- of a list with more before or after it
part-later : (k l m : List Entry) → Part l m → Part (k ++ l) m
part-later [] l m r = r
part-later (e ∷ k) l m r = skip (part-later k l m r)

part-before : (k l m : List Entry) → Part l m → Part (l ++ k) m
part-before k l m done = part_none k
part-before k l m (skip {l = v} r) = skip (part-before k v m r)
part-before k l m (stay {l = v} {m = w} r) = stay (part-before k v w r)

-- ---- what is named is a part of what is held

flown-part : (p : Inflight → Bool) (l : List Inflight) → Part (map (λ i. i.entry) l) (map (λ i. i.entry) (keep p l))
flown-part p [] = done
flown-part p (i ∷ l) = by-if (λ (k : List Inflight). Part (map (λ x. x.entry) (i ∷ l)) (map (λ x. x.entry) k)) (p i) (i ∷ keep p l) (keep p l) (λ c. stay (flown-part p l)) (λ c. skip (flown-part p l))

held-part : (p : Held → Bool) (l : List Held) → Part (map (λ h. h.entry) l) (map (λ h. h.entry) (keep p l))
held-part p [] = done
held-part p (h ∷ l) = by-if (λ (k : List Held). Part (map (λ x. x.entry) (h ∷ l)) (map (λ x. x.entry) k)) (p h) (h ∷ keep p l) (keep p l) (λ c. stay (held-part p l)) (λ c. skip (held-part p l))

-- a consumer that is no browser
taken-part : (p : Sub → Bool) (l : List Sub) (s : Sub) (m : List Entry) → find p l ≡ some s → is_browser s ≡ false → Part (flying s) m → Part (taken l) m
taken-part p [] s m f b r = absurd (none-some f)
taken-part p (c ∷ l) s m f b r = by-test (p c)
    (λ d. let e = some_inj (sym (if-true (some c) (find p l) d) ∙ f) in
    part-before (taken l) _ m (subst⁻¹ (λ (k : List Entry). Part k m) (ap (λ (x : Sub). whether is_browser x then [] else flying x) e ∙ if-false [] (flying s) b) r))
    (λ d. part-later (whether is_browser c then [] else flying c) (taken l) m (taken-part p l s m (sym (if-false (some c) (find p l) d) ∙ f) b r))

reserved-part : (i : Id) (a : Ack) (t : Dest) (o : Option ℕ) → Part (held t) (named_reserved i a t o)
reserved-part i a t none = part_none (held t)
reserved-part i a t (some last) = part-keep (λ e. reserved_hit a.first last e (ack_type a.type)) (held t) (reserved_of i t) (held-part (held_by i) t.reserved)

at_part : (i : Id) (a : Ack) (t : Dest) (o : Option Sub) → sub_of i t ≡ o → Part (holding t) (named_at i a t o)
at_part i a t none e = part-later t.pending _ _ (part-before (taken t.subs) (held t) _ (reserved-part i a t a.last))
at_part i a t (some s) e = by-if (Part (holding t)) (is_browser s) [] _ (λ c. part_none (holding t))
    (λ c. part-later t.pending _ _ (part-later (held t) (taken t.subs) _ (taken-part _ t.subs s _ e c (flown-part (λ x. hits s a x (ack_type a.type)) s.inflight))))

named-part : (i : Id) (a : Ack) (t : Dest) → Part (holding t) (named_by i a t)
named-part i a t = by-if (Part (holding t)) a.transacted [] (named_at i a t (sub_of i t)) (λ c. part_none (holding t)) (λ c. at_part i a t (sub_of i t) refl)

-- ---- what is removed

removal-steady : (t : Dest) (y : AckType) (x : ℕ) → Steady (only (λ e. removal t e (acks y)) (occ x))
unfolding removal occ
removal-steady t y x e = refl

leavers-part : (b : List Entry) (t u : Dest) → Part (holding t ++ b) (leavers b t u)
unfolding leavers
leavers-part b t u = part-keep _ (holding t ++ b) (holding t ++ b) (part-all (holding t ++ b))

pub removals-are-named : RemovalsAreNamed
removals-are-named lent code ws i b now t q low e h =
    let c : Call = asking i (acknowledge b now) in
    let s = called lent code ws c t low e in
    let z : (call lent c t).refusal ≡ 0 = sym (ap (λ (v : Result). v.refusal) s) ∙ h in
    let o = queue-once lent c t q z in
    let m = (moved lent c t (decode-coded code ws c e) q z).0 in
    let r : Entry → Bool = λ f. removal t f (acks (ack_type b.type)) in
    let l : List Entry = leavers [] t (call lent c t).dest in
    subst⁻¹ (λ (v : Result). keep r (leavers [] t v.dest) ≡ named_by i b t) s
    (part_same (holding t ++ []) (keep r l) (named_by i b t) (part-keep r (holding t ++ []) l (leavers-part [] t (call lent c t).dest)) (part-before [] (holding t) (named_by i b t) (named-part i b t))
    (λ x. omega (arith, o x, holding-sum (occ x) t, sum-append (occ x) (holding t) []))
    (λ x. sym (sum-only (occ x) r l) ∙ leavers-sum [] m.gone t (call lent c t).dest (λ v. omega (arith, o v)) m.sums (only r (occ x)) (removal-steady t (ack_type b.type) x) ∙ m.removes (occ x)))
