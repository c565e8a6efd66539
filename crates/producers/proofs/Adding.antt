-- A producer registered: what stands in the head's words is what the definitions' call leaves. Assumes nothing.
use mathlib.Core.Path.{◌≡◌, refl, sym, ap, ap₂, ◌∙◌}
use mathlib.Core.Bool.{Bool, true, false, not, ◌&&◌}
use mathlib.Core.List.{List, [], ◌∷◌, ◌++◌}
use Prim.Native.Nat.{ℕ, ◌+◌, ◌-◌, ◌*◌, ◌≤◌, ◌<◌}
use native.Mathlib.Omega.{arith}
use borrow.Author.Tests.{le-leb, leb-false}
use lib.Dec.{leb}
use lib.ListN.{length, take, drop, length-drop}
use lib.Seq.{drop_at, length-take-le}
use mir.Syntax.{w64}
use mir.Val.{SFits}
use Rattle.words.specs.Pick.{whether◌then◌else◌}
use Rattle.words.proofs.Words.{signed-unsigned}
use Rattle.model.specs.declared.Id.{Id}
use Rattle.model.proofs.Ids.{id-eq}
use Rattle.definition.specs.Types.{Audit}
use Rattle.definition.specs.Destination.{is_producer}
use Rattle.definition.specs.Calls.{adding, own_refusal, perform}
use Rattle.definition.specs.Layout.{Row, id_at, ids_at, audits_at, rings_formed}
use Rattle.definition.proofs.Thin.{all-every}
pub use Rattle.definition.proofs.Stored.{ids-length}
use Rattle.state.specs.declared.Head.{Head}
use Rattle.state.specs.State.{head_view, with_producer_count, not_idle, refused_as, done_as}
use Rattle.producers.specs.Groups.{written_from, id_words}
use Rattle.producers.specs.Producers.{head_fits, added, head_dest, Promised}
use Rattle.producers.proofs.Words.{over-length, over-after, over-from}
use Rattle.producers.proofs.Groups.{elems, elems-before, elems-more}
use Rattle.producers.proofs.Tables.{counts, any_words, ids-elems, ids-oks, id-local, id_same}
use Rattle.producers.proofs.Promises.{refused-performs, unfit-performs}

-- the producers of a head do not change with the words from the audits on
pub ids-kept : (n : ℕ) (at : ℕ) (x h : List ℕ) → n ≤ 32 → 113 ≤ at → at ≤ length h → ids_at n (drop 17 (written_from at x h)) ≡ ids_at n (drop 17 h)
ids-kept n at x h a b c =
    let l : List ℕ = drop 17 h in
    let m : ℕ = at - 17 in
    let e : at ≡ 17 + m = omega arith in
    ap (ids_at n) (over-from at x h 17 m e c)
    ∙ ids-elems n (written_from m x l)
    ∙ elems-before id_at any_words 3 id-local id_same n m l (x ++ drop (m + length x) l) (omega arith) (omega (arith, length-drop 17 h)) (ids-oks n l)
    ∙ sym (ids-elems n l)

-- an identifier comes back from its words
pub id-back : (i : Id) (m : List ℕ) → SFits w64 i.session → SFits w64 i.value → id_at (id_words i ++ m) ≡ i
id-back i m s v = id-eq refl (signed-unsigned i.session s) (signed-unsigned i.value v)

module _ (i : Id) (d : Head) (h : List ℕ) where
  abbrev ids : List Id
  ids = ids_at d.producers (drop 17 h)

  own : (b : Bool) → is_producer i ids ≡ b → (subs rows : List Row) → own_refusal (head_dest d h subs rows) (adding i) ≡ (whether not b && leb 32 d.producers then 8 else 0)
  unfolding own_refusal head_view
  own b t subs rows = rw (t, ids-length d.producers (drop 17 h))

  pub added-unfit : head_fits (length h) d ≡ false → Promised (adding i) (added i d h) d h (refused_as 2 d) h
  unfolding added
  added-unfit f = record { exact = rw f; performs = unfit-performs (adding i) d h f }

  module _ (f : head_fits (length h) d ≡ true) where
    pub added-there : is_producer i ids ≡ true → Promised (adding i) (added i d h) d h (done_as 0 (not_idle d)) h
    unfolding added perform head_view
    added-there t = record {
      exact = rw (f, t);
      performs = record {
        long = refl;
        others = refl;
        kept = λ z. absurd (z refl);
        refusal = λ _ subs rows. rw f (sym (own true t subs rows));
        fit = λ _. f;
        formed = λ _ o. o;
        answer = λ _ _ subs rows. refl;
        done = λ _ _ subs rows _ _. rw t;
      };
    }

    pub added_full : is_producer i ids ≡ false → leb 32 d.producers ≡ true → Promised (adding i) (added i d h) d h (refused_as 8 d) h
    unfolding added
    added_full t u = record { exact = rw (f, t, u); performs = refused-performs (adding i) d h 8 (λ z. omega arith) (λ _ subs rows. rw f (sym (own false t subs rows ∙ rw u))) }

    module _ (s : SFits w64 i.session) (v : SFits w64 i.value) (t : is_producer i ids ≡ false) (u : leb 32 d.producers ≡ false) where
      abbrev place : ℕ
      place = 17 + d.producers * 3

      abbrev words : List ℕ
      words = written_from place (id_words i) h

      few : d.producers < 32
      few = leb-false 32 d.producers u

      long : place + 3 ≤ length h
      long = let c = counts (length h) d f in let g = few in omega arith

      ids-new : ids_at (d.producers + 1) (drop 17 words) ≡ ids ++ i ∷ []
      ids-new =
          let n : ℕ = d.producers in
          let l : List ℕ = drop 17 h in
          let m : ℕ = n * 3 in
          let rest : List ℕ = id_words i ++ drop (m + 3) l in
          let g : place + 3 ≤ length h = long in
          let b : m ≤ length l = omega (arith, length-drop 17 h) in
          let w : drop 17 words ≡ take m l ++ rest = over-from place (id_words i) h 17 m refl (omega arith) in
          let before : elems id_at any_words 3 n (take m l ++ rest) ≡ ids = elems-before id_at any_words 3 id-local id_same n m l rest (omega arith) b (ids-oks n l) ∙ sym (ids-elems n l) in
          let last : id_at (drop m (take m l ++ rest)) ≡ i = ap id_at (drop_at (take m l) rest m (length-take-le m l b)) ∙ id-back i (drop (m + 3) l) s v in
          ap (ids_at (n + 1)) w ∙ ids-elems (n + 1) (take m l ++ rest) ∙ elems-more id_at any_words 3 n (take m l ++ rest) ∙ ap₂ (λ (x : List Id) (y : Id). x ++ y ∷ []) before last

      audits-kept : drop 113 words ≡ drop 113 h
      audits-kept = let g = few in over-after place (id_words i) h 113 (omega arith) long

      words_long : length words ≡ length h
      words_long = over-length place (id_words i) h long

      new-fits : head_fits (length words) (not_idle (with_producer_count (d.producers + 1) d)) ≡ true
      new-fits =
          let c = counts (length h) d f in
          let g = few in
          let l = words_long in
          all-every (leb 8347 (length words) ∷ leb (d.producers + 1) 32 ∷ leb d.audits 8 ∷ []) (le-leb 8347 (length words) (omega arith), (le-leb (d.producers + 1) 32 (omega arith), (le-leb d.audits 8 c.audits, tt)))

      pub added_new : Promised (adding i) (added i d h) d h (done_as 0 (not_idle (with_producer_count (d.producers + 1) d))) words
      unfolding added perform head_view
      added_new = record {
        exact = rw (f, t, u);
        performs = record {
          long = words_long;
          others = refl;
          kept = λ z. absurd (z refl);
          refusal = λ _ subs rows. rw f (sym (own false t subs rows ∙ rw u));
          fit = λ _. new-fits;
          formed = λ _ o. ap (rings_formed d.audits) audits-kept ∙ o;
          answer = λ _ _ subs rows. refl;
          done = λ _ _ subs rows _ _. rw t (ap₂ (λ (x : List Id) (y : List Audit). head_view (not_idle (with_producer_count (d.producers + 1) d)) subs rows x y) ids-new (ap (audits_at d.audits) audits-kept));
        };
      }
