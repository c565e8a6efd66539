-- Lists of steps, each with a key, of which two with different keys change places: every order that keeps the steps of each key in order gives each
-- step the same result and ends in the same state. Assumes nothing.
use Prim.Native.Nat.{ℕ, suc}
use mathlib.Core.Path.{◌≡◌, refl, sym, ◌∙◌, ap, subst}
use mathlib.Core.Bool.{Bool, true, false, true≢false}
use mathlib.Core.List.{List, [], ◌∷◌, ◌++◌}
use lib.ListN.{length, length-append}
use native.Mathlib.Omega.{arith}
use Rattle.definition.specs.Base.{keep}
use Rattle.definition.specs.Runs.{run, end}
use Rattle.definition.proofs.Lists.{All}

module _ {ℓ} {A : Type ℓ} where
  pub keep-yes : (p : A → Bool) (a : A) (l : List A) → p a ≡ true → keep p (a ∷ l) ≡ a ∷ keep p l
  keep-yes p a l e = rw e

  pub keep-no : (p : A → Bool) (a : A) (l : List A) → p a ≡ false → keep p (a ∷ l) ≡ keep p l
  keep-no p a l e = rw e

  -- two neighbours that do not both pass may change places
  pub keep-swap : (p : A → Bool) (a b : A) (l : List A) → (p a ≡ true → p b ≡ true → ⊥) → keep p (a ∷ b ∷ l) ≡ keep p (b ∷ a ∷ l)
  keep-swap p a b l h = go (p a) (p b) refl refl
    where
      go : (x y : Bool) → p a ≡ x → p b ≡ y → keep p (a ∷ b ∷ l) ≡ keep p (b ∷ a ∷ l)
      go true true e f = absurd (h e f)
      go true false e f = rw (e, f)
      go false true e f = rw (e, f)
      go false false e f = rw (e, f)

  pub keep_append : (p : A → Bool) (l m : List A) → keep p (l ++ m) ≡ keep p l ++ keep p m
  keep_append p [] m = refl
  keep_append p (a ∷ l) m = go (p a) refl (keep_append p l m)
    where
      go : (x : Bool) → p a ≡ x → keep p (l ++ m) ≡ keep p l ++ keep p m → keep p ((a ∷ l) ++ m) ≡ keep p (a ∷ l) ++ keep p m
      go true e ih = rw e (ap (λ (t : List A). a ∷ t) ih)
      go false e ih = rw e ih

  pub keep-cons : (p : A → Bool) (a : A) (l m : List A) → keep p l ≡ keep p m → keep p (a ∷ l) ≡ keep p (a ∷ m)
  keep-cons p a l m h = go (p a) refl
    where
      go : (x : Bool) → p a ≡ x → keep p (a ∷ l) ≡ keep p (a ∷ m)
      go true e = rw e (ap (λ (t : List A). a ∷ t) h)
      go false e = rw e h

  pub cons_head : {a b : A} {l m : List A} → ◌≡◌ {A = List A} (a ∷ l) (b ∷ m) → a ≡ b
  cons_head e = cc

  pub cons_tail : {a b : A} {l m : List A} → ◌≡◌ {A = List A} (a ∷ l) (b ∷ m) → l ≡ m
  cons_tail e = cc

  pub nil-cons : {a : A} {l : List A} → ◌≡◌ {A = List A} [] (a ∷ l) → ⊥
  nil-cons e = let z : ◌≡◌ {A = ℕ} 0 1 = cc in omega arith

module _ (K I : Type 0) (eq : I → I → Bool) (eq_refl : (i : I) → eq i i ≡ true) (eq-true : (i j : I) → eq i j ≡ true → i ≡ j) (key : K → I) where
  -- the steps of one key
  abbrev pub of : I → List K → List K
  of i l = keep (λ k. eq (key k) i) l

  -- no step of u has the key i
  abbrev pub Without : I → List K → Type 0
  Without i [] = Unit {0}
  Without i (b ∷ u) = (eq (key b) i ≡ false) × Without i u

  -- the second list is the first with each step moved back past steps of other keys
  pub data Moves : List K → List K → Type 0 where
    still : Moves [] []
    back : {a : K} {l : List K} (u v : List K) → Without (key a) u → Moves l (u ++ v) → Moves (a ∷ l) (u ++ a ∷ v)

  -- the first step of the key i in m
  record Found (i : I) (a : K) (r : List K) (m : List K) : Type 0 where
    before : List K
    after : List K
    whole : m ≡ before ++ a ∷ after
    clear : Without i before

  found : (i : I) (a : K) (r : List K) (m : List K) → of i m ≡ a ∷ r → Found i a r m
  found i a r [] e = absurd (nil-cons e)
  found i a r (b ∷ m) e = go (eq (key b) i) refl (found i a r m)
    where
      go : (x : Bool) → eq (key b) i ≡ x → (of i m ≡ a ∷ r → Found i a r m) → Found i a r (b ∷ m)
      go true f ih =
          let q : b ≡ a = cons_head (sym (keep-yes (λ k. eq (key k) i) b m f) ∙ e) in
          record { before = []; after = m; whole = ap (λ (k : K). k ∷ m) q; clear = tt }
      go false f ih =
          let h = ih (sym (keep-no (λ k. eq (key k) i) b m f) ∙ e) in
          record { before = b ∷ h.before; after = h.after; whole = ap (λ (t : List K). b ∷ t) h.whole; clear = (f, h.clear) }

  -- without the key i, u has no step of it
  of-without : (i : I) (u : List K) → Without i u → of i u ≡ []
  of-without i [] w = refl
  of-without i (b ∷ u) w = rw w.0 (of-without i u w.1)

  -- one step taken out of the middle: the other keys' steps stay, and of its own key the first goes
  of-out : (a : K) (u v l : List K) → Without (key a) u → (i : I) → of i (a ∷ l) ≡ of i (u ++ a ∷ v) → of i l ≡ of i (u ++ v)
  of-out a u v l w i e = go (eq (key a) i) refl
    where
      p : K → Bool
      p k = eq (key k) i

      go : (x : Bool) → eq (key a) i ≡ x → of i l ≡ of i (u ++ v)
      go true f =
          let none : keep p u ≡ [] = of-without i u (subst (λ (j : I). Without j u) (eq-true (key a) i f) w) in
          let whole : a ∷ keep p l ≡ a ∷ keep p v = sym (keep-yes p a l f) ∙ e ∙ keep_append p u (a ∷ v) ∙ ap (λ (t : List K). t ++ keep p (a ∷ v)) none ∙ keep-yes p a v f in
          cons_tail whole ∙ sym (keep_append p u v ∙ ap (λ (t : List K). t ++ keep p v) none)
      go false f =
          sym (keep-no p a l f) ∙ e ∙ keep_append p u (a ∷ v) ∙ ap (λ (t : List K). keep p u ++ t) (keep-no p a v f) ∙ sym (keep_append p u v)

  -- lists that agree for each key are one another's moves
  pub moves : (l m : List K) → ((i : I) → of i l ≡ of i m) → Moves l m
  moves [] [] h = still
  moves [] (b ∷ m) h = absurd (nil-cons (h (key b) ∙ keep-yes (λ k. eq (key k) (key b)) b m (eq_refl (key b))))
  moves (a ∷ l) m h = go (found (key a) a (of (key a) l) m (sym (h (key a)) ∙ keep-yes (λ k. eq (key k) (key a)) a l (eq_refl (key a)))) (λ t q. moves l t q)
    where
      go : Found (key a) a (of (key a) l) m → ((t : List K) → ((i : I) → of i l ≡ of i t) → Moves l t) → Moves (a ∷ l) m
      go f ih =
          let h' : (i : I) → of i (a ∷ l) ≡ of i (f.before ++ a ∷ f.after) = subst (λ (t : List K). (i : I) → of i (a ∷ l) ≡ of i t) f.whole h in
          subst (λ (t : List K). Moves (a ∷ l) t) (sym f.whole)
          (back f.before f.after f.clear (ih (f.before ++ f.after) (λ i. of-out a f.before f.after l f.clear i (h' i))))

  length-moves : (l m : List K) → Moves l m → length m ≡ length l
  length-moves l m still = refl
  length-moves l m (back {a = a} {l = l'} u v w r) = omega (arith, length-append u (a ∷ v), length-append u v, length-moves l' (u ++ v) r)

  -- two keys differ either way round
  apart-sym : (a b : K) → eq (key b) (key a) ≡ false → eq (key a) (key b) ≡ false
  apart-sym a b f = go (eq (key a) (key b)) refl
    where
      go : (x : Bool) → eq (key a) (key b) ≡ x → eq (key a) (key b) ≡ false
      go true e = absurd (true≢false (sym (eq_refl (key b)) ∙ ap (λ (j : I). eq (key b) j) (sym (eq-true (key a) (key b) e)) ∙ f))
      go false e = e

  -- ---- runs

  module _ (R S : Type 0) (res : K → S → R) (next : K → S → S) where
    -- what the steps of one key got
    abbrev pub got : I → List (K × R) → List (K × R)
    got i l = keep (λ r. eq (key r.0) i) l

    pub record Alike (s : S) (l m : List K) : Type 0 where
      pub results : (i : I) → got i (run res next l s) ≡ got i (run res next m s)
      pub ends : end next l s ≡ end next m s

    -- Ready n s: n steps may be run from s. Here k s: the step k is one of those.
    module _ (Ready : ℕ → S → Type 0) (Here : K → S → Type 0)
        (on : (n : ℕ) (s : S) (a : K) → Ready (suc n) s → Here a s → Ready n (next a s))
        (stay : (n : ℕ) (s : S) (a b : K) → Ready (suc n) s → Here a s → Here b s → Here b (next a s))
        (swap : (n : ℕ) (s : S) (a b : K) → Ready (suc (suc n)) s → Here a s → Here b s → eq (key a) (key b) ≡ false → next b (next a s) ≡ next a (next b s))
        (apart : (n : ℕ) (s : S) (a b : K) → Ready (suc (suc n)) s → Here a s → Here b s → eq (key a) (key b) ≡ false → res b (next a s) ≡ res b s) where
      abbrev pub AllHere : List K → S → Type 0
      AllHere l s = All (λ k. Here k s) l

      all_stay : (n : ℕ) (s : S) (a : K) (l : List K) → Ready (suc n) s → Here a s → AllHere l s → AllHere l (next a s)
      all_stay n s a [] r h t = tt
      all_stay n s a (b ∷ l) r h t = (stay n s a b r h t.0, all_stay n s a l r h t.1)

      here-mid : (a : K) (u v : List K) (s : S) → AllHere (u ++ a ∷ v) s → Here a s
      here-mid a [] v s t = t.0
      here-mid a (b ∷ u) v s t = here-mid a u v s t.1

      all-mid : (a : K) (u v : List K) (s : S) → Here a s → AllHere (u ++ v) s → AllHere (u ++ a ∷ v) s
      all-mid a [] v s h t = (h, t)
      all-mid a (b ∷ u) v s h t = (t.0, all-mid a u v s h t.1)

      all-moves : (l m : List K) (s : S) → Moves l m → AllHere l s → AllHere m s
      all-moves l m s still t = t
      all-moves l m s (back {a = a} {l = l'} u v w r) t = all-mid a u v s t.0 (all-moves l' (u ++ v) s r t.1)

      length-mid : (a : K) (u v : List K) → length (u ++ a ∷ v) ≡ suc (length (u ++ v))
      length-mid a u v = omega (arith, length-append u (a ∷ v), length-append u v)

      -- the step a comes to the front
      front : (a : K) (u v : List K) (s : S) → Without (key a) u → Ready (length (u ++ a ∷ v)) s → AllHere (u ++ a ∷ v) s → Alike s (a ∷ (u ++ v)) (u ++ a ∷ v)
      front a [] v s w r t = record { results = λ i. refl; ends = refl }
      front a (b ∷ u) v s w r t = go (front a u v (next b s) w.1 (on _ s b r t.0) (all_stay _ s b (u ++ a ∷ v) r t.0 t.1))
        where
          r₂ : Ready (suc (suc (length (u ++ v)))) s
          r₂ = subst (λ (n : ℕ). Ready (suc n) s) (length-mid a u v) r

          ha : Here a s
          ha = here-mid a u v s t.1

          sw : next b (next a s) ≡ next a (next b s)
          sw = swap _ s a b r₂ ha t.0 (apart-sym a b w.0)

          ra : res a (next b s) ≡ res a s
          ra = apart _ s b a r₂ t.0 ha w.0

          rb : res b (next a s) ≡ res b s
          rb = apart _ s a b r₂ ha t.0 (apart-sym a b w.0)

          go : Alike (next b s) (a ∷ (u ++ v)) (u ++ a ∷ v) → Alike s (a ∷ b ∷ (u ++ v)) (b ∷ (u ++ a ∷ v))
          go ih = record { results = same; ends = ap (λ (x : S). end next (u ++ v) x) sw ∙ ih.ends }
            where
              same : (i : I) → got i (run res next (a ∷ b ∷ (u ++ v)) s) ≡ got i (run res next (b ∷ (u ++ a ∷ v)) s)
              same i =
                  ap (λ (y : R). got i ((a, res a s) ∷ (b, y) ∷ run res next (u ++ v) (next b (next a s)))) rb
                  ∙ ap (λ (x : S). got i ((a, res a s) ∷ (b, res b s) ∷ run res next (u ++ v) x)) sw
                  ∙ keep-swap (λ r. eq (key r.0) i) (a, res a s) (b, res b s) (run res next (u ++ v) (next a (next b s))) clash
                  ∙ ap (λ (y : R). got i ((b, res b s) ∷ (a, y) ∷ run res next (u ++ v) (next a (next b s)))) (sym ra)
                  ∙ keep-cons (λ r. eq (key r.0) i) (b, res b s) (run res next (a ∷ (u ++ v)) (next b s)) (run res next (u ++ a ∷ v) (next b s)) (ih.results i)
                where
                  clash : eq (key a) i ≡ true → eq (key b) i ≡ true → ⊥
                  clash e f = true≢false (sym (eq_refl (key b)) ∙ ap (λ (j : I). eq (key b) j) (eq-true (key b) i f ∙ sym (eq-true (key a) i e)) ∙ w.0)

      -- every order that keeps each key's steps in order
      alike : (l m : List K) (s : S) → Moves l m → Ready (length l) s → AllHere l s → Alike s l m
      alike l m s still r t = record { results = λ i. refl; ends = refl }
      alike l m s (back {a = a} {l = l'} u v w q) r t =
          let ih = alike l' (u ++ v) (next a s) q (on _ s a r t.0) (all_stay _ s a l' r t.0 t.1) in
          let f = front a u v s w (subst (λ (n : ℕ). Ready n s) (sym (length-moves (a ∷ l') (u ++ a ∷ v) (back u v w q))) r) (all-moves (a ∷ l') (u ++ a ∷ v) s (back u v w q) t) in
          record {
            results = λ i. keep-cons (λ r. eq (key r.0) i) (a, res a s) (run res next l' (next a s)) (run res next (u ++ v) (next a s)) (ih.results i) ∙ f.results i;
            ends = ih.ends ∙ f.ends;
          }

      pub reorder : (l m : List K) (s : S) → ((i : I) → of i l ≡ of i m) → Ready (length l) s → AllHere l s → Alike s l m
      reorder l m s h r t = alike l m s (moves l m h) r t
