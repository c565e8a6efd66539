-- A call on the parts at one place, put back into the whole: the parts at the other places, and what is no part, stay. Assumes nothing.
use mathlib.Core.Path.{◌≡◌, ap, ◌∙◌, subst, subst⁻¹}
use mathlib.Core.Bool.{Bool, false, not, ◌&&◌}
use mathlib.Core.List.{List, ◌++◌}
use Prim.Native.Nat.{ℕ, ◌+◌, ◌*◌, ◌-◌, ◌≤◌, ◌<◌}
use native.Mathlib.Omega.{arith}
use borrow.Author.Tests.{ltb-true, ltb-false}
use lib.Dec.{ltb}
use lib.ListN.{length, take, drop, length-drop}
use lib.Seq.{length-take-le, slice}
use Rattle.definition.specs.Layout.{Row, Buffers, sound_buffers, lengths_of, lent}
use Rattle.definition.specs.Calls.{Lengths, state_short, Result}
use Rattle.definition.proofs.Tests.{by-test}
use Rattle.engine.specs.declared.Outcome.{Outcome}
use Rattle.engine.specs.Called.{Called}
use Rattle.definition_station.specs.Layout.{StationBuffers, part}
use Rattle.stationcalls.specs.Parts.{lent_all, Within, AllPast, CalledAt}
use Rattle.definition_station.proofs.Buffers.{part-lengths}
use Rattle.stationcalls.proofs.Back.{lent_is, back, back-here, back-before, back-after, back-past, back-length}

-- ---- places of one width

module _ {A : Type 0} (w : ℕ) (next : (j k : ℕ) → j < k → j * w + w ≤ k * w) (l : List A) (long : 8 * w ≤ length l) where
  pub place-fits : (k : ℕ) → k < 8 → k * w + w ≤ length l
  place-fits k h = omega (arith, next k 8 h, long)

  pub part-long : (k : ℕ) → k < 8 → length (take w (drop (k * w) l)) ≡ w
  part-long k h = length-take-le w (drop (k * w) l) (subst⁻¹ (λ (n : ℕ). w ≤ n) (length-drop (k * w) l) room)
    where
      room : w ≤ length l - k * w
      room = omega (arith, place-fits k h)

  pub other_place : (j k : ℕ) (h : k < 8) → j < 8 → (j ≡ k → ⊥) → (later : List A) (m : length later ≡ w)
      → slice (j * w) (j * w + w) (back l (k * w) w (place-fits k h) later m) ≡ slice (j * w) (j * w + w) l
  other_place j k h g ne later m = by-test (ltb j k)
      (λ t. back-before l (k * w) w (place-fits k h) later m (j * w) (j * w + w) (next j k (ltb-true j k t)))
      (λ f. back-after l (k * w) w (place-fits k h) later m (j * w) (next k j (above f)) (place-fits j g))
    where
      above : ltb j k ≡ false → k < j
      above f = omega (arith, ltb-false j k f, ne)

-- ---- the three buffers

heads-next : (j k : ℕ) → j < k → j * 8347 + 8347 ≤ k * 8347
heads-next j k h = omega (arith, h)

subs-next : (j k : ℕ) → j < k → j * 32 + 32 ≤ k * 32
subs-next j k h = omega (arith, h)

rows_next : (j k : ℕ) → j < k → j * 512 + 512 ≤ k * 512
rows_next j k h = omega (arith, h)

lent_same : {h h' : List ℕ} {s s' r r' : List Row} → h ≡ h' → s ≡ s' → r ≡ r' → lent h s r ≡ lent h' s' r'
lent_same {h} {h'} {s} {s'} {r} {r'} e f g =
    ap (λ (t : List ℕ). lent t s r) e ∙ ap (λ (t : List Row). lent h' t r) f ∙ ap (λ (t : List Row). lent h' s' t) g

module _ (k : ℕ) (heads : List ℕ) (subs rows : List Row) (within : Within k heads subs rows) where
  hf : k * 8347 + 8347 ≤ length heads
  hf = place-fits 8347 heads-next heads within.heads-long k within.is-place

  sf : k * 32 + 32 ≤ length subs
  sf = place-fits 32 subs-next subs within.subs-long k within.is-place

  rf : k * 512 + 512 ≤ length rows
  rf = place-fits 512 rows_next rows within.rows_long k within.is-place

  -- what one destination is lent
  abbrev there : Buffers
  there = lent (take 8347 (drop (k * 8347) heads)) (take 32 (drop (k * 32) subs)) (take 512 (drop (k * 512) rows))

  there-is : (own : List ℕ) → there ≡ part k (lent_all heads subs rows own)
  unfolding part
  there-is own = lent_same (lent_is heads (k * 8347) 8347 hf) (lent_is subs (k * 32) 32 sf) (lent_is rows (k * 512) 512 rf)

  module _ (h : List ℕ) (s r : List Row) (hl : length h ≡ 8347) (sl : length s ≡ 32) (rl : length r ≡ 512) (own : List ℕ) where
    abbrev after : StationBuffers
    after = lent_all (back heads (k * 8347) 8347 hf h hl) (back subs (k * 32) 32 sf s sl) (back rows (k * 512) 512 rf r rl) own

    back_is : part k after ≡ lent h s r
    unfolding part
    back_is = lent_same (back-here heads (k * 8347) 8347 hf h hl) (back-here subs (k * 32) 32 sf s sl) (back-here rows (k * 512) 512 rf r rl)

    others-stay : (j : ℕ) → j < 8 → (j ≡ k → ⊥) → part j after ≡ part j (lent_all heads subs rows own)
    unfolding part
    others-stay j g ne = lent_same
        (other_place 8347 heads-next heads within.heads-long j k within.is-place g ne h hl)
        (other_place 32 subs-next subs within.subs-long j k within.is-place g ne s sl)
        (other_place 512 rows_next rows within.rows_long j k within.is-place g ne r rl)

    past-stays : AllPast (lent_all heads subs rows own) after
    past-stays = record {
      heads-past = back-past heads (k * 8347) 8347 hf h hl 66776 (heads-next k 8 within.is-place);
      subs-past = back-past subs (k * 32) 32 sf s sl 256 (subs-next k 8 within.is-place);
      rows-past = back-past rows (k * 512) 512 rf r rl 4096 (rows_next k 8 within.is-place);
      heads-length = back-length heads (k * 8347) 8347 hf h hl;
      subs-length = back-length subs (k * 32) 32 sf s sl;
      rows-length = back-length rows (k * 512) 512 rf r rl;
    }

-- the whole, once the parts are back
abbrev pub put : {A : Type 0} → ℕ → ℕ → List A → List A → List A
put a w l later = take a l ++ (later ++ drop w (drop a l))

-- the parts, with their widths as the code has them
abbrev pub Placed : ℕ → List ℕ → List Row → List Row → ℕ → ℕ → ℕ → Type 0
Placed k heads subs rows w1 w2 w3 =
    (h : List ℕ) (s r : List Row) (events events' : List Row) (call : Buffers → Result) (o : Outcome)
    → (let b = lent (take w1 (drop (k * 8347) heads)) (take w2 (drop (k * 32) subs)) (take w3 (drop (k * 512) rows)) in Called (call b) b (lent h s r) events events' o)
    → (own : List ℕ)
    → CalledAt (call (part k (lent_all heads subs rows own))) k (lent_all heads subs rows own) (lent_all (put (k * 8347) w1 heads h) (put (k * 32) w2 subs s) (put (k * 512) w3 rows r) own) events events' o

placed-here : (k : ℕ) (heads : List ℕ) (subs rows : List Row) → Within k heads subs rows → Placed k heads subs rows 8347 32 512
placed-here k heads subs rows within h s r events events' call o p own = record {
  here =
      subst⁻¹ (λ (x : Buffers). Called (call (part k b)) (part k b) x events events' o) (back_is k heads subs rows within h s r hl sl rl own)
      (subst (λ (x : Buffers). Called (call x) x (lent h s r) events events' o) (there-is k heads subs rows within own) p);
  elsewhere = others-stay k heads subs rows within h s r hl sl rl own;
  past = past-stays k heads subs rows within h s r hl sl rl own;
}
  where
    b : StationBuffers
    b = lent_all heads subs rows own

    hl : length h ≡ 8347
    hl = p.past.head-length ∙ part-long 8347 heads-next heads within.heads-long k within.is-place

    sl : length s ≡ 32
    sl = p.past.subs-length ∙ part-long 32 subs-next subs within.subs-long k within.is-place

    rl : length r ≡ 512
    rl = p.past.rows-length ∙ part-long 512 rows_next rows within.rows_long k within.is-place

width : (a n : ℕ) → (a + n) - a ≡ n
width a n = omega (arith)

pub placed : (k : ℕ) (heads : List ℕ) (subs rows : List Row) → Within k heads subs rows
    → Placed k heads subs rows ((k * 8347 + 8347) - k * 8347) ((k * 32 + 32) - k * 32) ((k * 512 + 512) - k * 512)
placed k heads subs rows within =
    subst⁻¹ (λ (w : ℕ). Placed k heads subs rows w ((k * 32 + 32) - k * 32) ((k * 512 + 512) - k * 512)) (width (k * 8347) 8347)
    (subst⁻¹ (λ (w : ℕ). Placed k heads subs rows 8347 w ((k * 512 + 512) - k * 512)) (width (k * 32) 32)
    (subst⁻¹ (λ (w : ℕ). Placed k heads subs rows 8347 32 w) (width (k * 512) 512) (placed-here k heads subs rows within)))

-- ---- what is asked of a part

-- what is so of the parts that the code lends is so of the destination's part
abbrev pub AtPart : ℕ → List ℕ → List Row → List Row → ℕ → ℕ → ℕ → Type 1
AtPart k heads subs rows w1 w2 w3 =
    (P : Buffers → Type 0) → P (lent (take w1 (drop (k * 8347) heads)) (take w2 (drop (k * 32) subs)) (take w3 (drop (k * 512) rows))) → (own : List ℕ) → P (part k (lent_all heads subs rows own))

pub at_part : (k : ℕ) (heads : List ℕ) (subs rows : List Row) → Within k heads subs rows
    → AtPart k heads subs rows ((k * 8347 + 8347) - k * 8347) ((k * 32 + 32) - k * 32) ((k * 512 + 512) - k * 512)
at_part k heads subs rows within =
    subst⁻¹ (λ (w : ℕ). AtPart k heads subs rows w ((k * 32 + 32) - k * 32) ((k * 512 + 512) - k * 512)) (width (k * 8347) 8347)
    (subst⁻¹ (λ (w : ℕ). AtPart k heads subs rows 8347 w ((k * 512 + 512) - k * 512)) (width (k * 32) 32)
    (subst⁻¹ (λ (w : ℕ). AtPart k heads subs rows 8347 32 w) (width (k * 512) 512) (λ P p own. subst P (there-is k heads subs rows within own) p)))

long-enough : (k : ℕ) (b : StationBuffers) → k < 8 → 66776 ≤ length b.heads → 256 ≤ length b.subs → 4096 ≤ length b.rows → state_short (lengths_of (part k b) 0) ≡ false
unfolding state_short
long-enough k b h e f g = ap (λ (l : Lengths). state_short l) (part-lengths k b h e f g)

-- whether it is sound
pub sound-at : (k : ℕ) (heads : List ℕ) (subs rows : List Row) → Within k heads subs rows → (r : Bool)
    → (let b = lent (take ((k * 8347 + 8347) - k * 8347) (drop (k * 8347) heads)) (take ((k * 32 + 32) - k * 32) (drop (k * 32) subs)) (take ((k * 512 + 512) - k * 512) (drop (k * 512) rows)) in r ≡ (not (state_short (lengths_of b 0)) && sound_buffers b))
    → (own : List ℕ) → r ≡ sound_buffers (part k (lent_all heads subs rows own))
sound-at k heads subs rows within r e own =
    at_part k heads subs rows within (λ (p : Buffers). r ≡ (not (state_short (lengths_of p 0)) && sound_buffers p)) e own
    ∙ ap (λ (x : Bool). not x && sound_buffers (part k (lent_all heads subs rows own))) (long-enough k (lent_all heads subs rows own) within.is-place within.heads-long within.subs-long within.rows_long)
