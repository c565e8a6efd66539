-- A number as it is written is read as that number. Assumes nothing.
use Rattle.std.proofs.Common.{Some, None}
use Prim.Native.Nat.{ℕ, zero, suc, ◌+◌, ◌-◌, ◌*◌, ◌≤◌, ◌<◌, ◌/◌, ◌%◌, ◌^◌}
use native.Mathlib.Nat.{pow-suc}
use native.Mathlib.Omega.{arith}
use mathlib.Core.Path.{◌≡◌, refl, ap, sym, ◌∙◌}
use mathlib.Core.Bool.{Bool, true, false, ◌&&◌, and-eq-true_iff}
use mathlib.Core.List.{List, [], ◌∷◌, ◌++◌}
use borrow.Author.Tests.{lt-ltb, le-leb, ne_eqb, ltb-true, ltb-false}
use lib.Dec.{ltb}
use lib.ListN.{length, get_or, length-append, get_or-append}
use Rattle.words.specs.Pick.{whether◌then◌else◌}
use Rattle.words.specs.Words.{signed}
use Rattle.words.proofs.Tests.{by-test}
use Rattle.callfile.specs.Lines.{digits, decimal, signed_decimal, word_field}
use Rattle.callfile.proofs.Digits.{signed_lower, signed-upper}
use Rattle.textwords.specs.Numbers.{is_digit, digits_after, negated, number_of}
use Rattle.textwords.proofs.Values.{number-plain, number-minus}
use Rattle.textwords.proofs.Spaced.{solid_byte, solid, Solid}

-- ---- digits

digit-byte : (d : ℕ) → d < 10 → is_digit (48 + d) ≡ true
digit-byte d h = rw (le-leb 48 (48 + d) (omega arith), le-leb (48 + d) 57 (omega arith))

solid-digit : (d : ℕ) → d < 10 → solid_byte (48 + d) ≡ true
solid-digit d h = rw (ne_eqb (48 + d) 32 (λ e. omega arith), ne_eqb (48 + d) 9 (λ e. omega arith), ne_eqb (48 + d) 13 (λ e. omega arith), ne_eqb (48 + d) 35 (λ e. omega arith), ne_eqb (48 + d) 10 (λ e. omega arith))

solid-append : (a b : List ℕ) → solid a ≡ true → solid b ≡ true → solid (a ++ b) ≡ true
unfolding solid
solid-append [] b h k = k
solid-append (x ∷ a) b h k = let p = (and-eq-true_iff (solid_byte x) (solid a)).0 h in rw p.0 (solid-append a b p.1 k)

of_eq : (m v : ℕ) → Some m ≡ Some v → m ≡ v
of_eq m v e = cc

no-bad : {P : Type 0} (v : ℕ) → None ≡ Some v → P
no-bad v e = let z : ◌≡◌ {A = ℕ} 0 1 = cc in absurd (omega arith)

one_more : (l : List ℕ) (m v d : ℕ) → d < 10 → digits_after m l ≡ Some v → v * 10 + d < 2 ^ 64 → digits_after m (l ++ ((48 + d) ∷ [])) ≡ Some (v * 10 + d)
unfolding digits_after
one_more [] m v d h e k =
    let q : m ≡ v = of_eq m v e in
    let f : m * 10 + (48 + d - 48) ≡ v * 10 + d = omega arith in
    rw (digit-byte d h, lt-ltb (m * 10 + (48 + d - 48)) (2 ^ 64) (omega arith)) (ap Some f)
one_more (x ∷ l) m v d h e k = by-test (is_digit x && ltb (m * 10 + (x - 48)) (2 ^ 64))
    (λ t. rw t (one_more l (m * 10 + (x - 48)) v d h (rw t at e) k))
    (λ t. no-bad v (rw t at e))

-- what is known of a number's digits
record Digits (l : List ℕ) (n : ℕ) : Type 0 where
  more : 0 < length l
  whole : solid l ≡ true
  sign : get_or l 0 0 ≡ 45 → ⊥
  value : digits_after 0 l ≡ Some n

single : (n : ℕ) → n < 10 → Digits ((48 + n) ∷ []) n
unfolding solid digits_after
single n h = record {
  more = omega arith;
  whole = rw (solid-digit n h);
  sign = λ e. omega arith;
  value = (let f : 0 * 10 + (48 + n - 48) ≡ n = omega arith in rw (digit-byte n h, lt-ltb (0 * 10 + (48 + n - 48)) (2 ^ 64) (omega arith)) (ap Some f));
}

snoc : (l : List ℕ) (v d : ℕ) → Digits l v → d < 10 → v * 10 + d < 2 ^ 64 → Digits (l ++ ((48 + d) ∷ [])) (v * 10 + d)
unfolding solid
snoc l v d p h k = record {
  more = omega (arith, length-append l ((48 + d) ∷ []), p.more);
  whole = solid-append l ((48 + d) ∷ []) p.whole (rw (solid-digit d h));
  sign = λ e. p.sign (sym (get_or-append l ((48 + d) ∷ []) 0 0 p.more) ∙ e);
  value = one_more l 0 v d h p.value k;
}

digits-read : (k n : ℕ) → n < 10 ^ suc k → n < 2 ^ 64 → Digits (digits k n) n
unfolding digits
digits-read zero n h g = single n (omega arith)
digits-read (suc k) n h g = by-test (ltb n 10)
    (λ t. rw t (single n (ltb-true n 10 t)))
    (λ t.
    let e : n / 10 * 10 + n % 10 ≡ n = omega arith in
    let p : 10 ^ suc (suc k) ≡ 10 ^ suc k * 10 = pow-suc 10 (suc k) in
    rw t (rw e at (snoc (digits k (n / 10)) (n / 10) (n % 10) (digits-read k (n / 10) (omega arith) (omega arith)) (omega arith) (omega arith))))

decimal-read : (n : ℕ) → n < 2 ^ 64 → Digits (decimal n) n
unfolding decimal
decimal-read n h = digits-read 19 n (omega arith) h

-- ---- a word's number

abbrev pub word_text : Bool → ℕ → List ℕ
word_text minus w = whether minus then signed_decimal (signed w) else decimal w

pub field-text : (minus : Bool) (w : ℕ) → word_field minus w ≡ 32 ∷ word_text minus w
field-text true w = refl
field-text false w = refl

pub record Read (l : List ℕ) (w : ℕ) : Type 0 where
  pub word : Solid l
  pub number : number_of l ≡ Some w

plain-read : (n : ℕ) → n < 2 ^ 64 → Read (decimal n) n
plain-read n h = let p = decimal-read n h in record { word = (p.more, p.whole); number = number-plain (decimal n) p.more p.sign ∙ p.value }

negated-of : (m : ℕ) → 1 ≤ m → m ≤ 2 ^ 63 → negated (Some m) ≡ Some (2 ^ 64 - m)
unfolding negated
negated-of m h k = rw (ne_eqb m 0 (λ e. omega arith), le-leb m (2 ^ 63) k)

minus-read : (m : ℕ) → 1 ≤ m → m ≤ 2 ^ 63 → Read (45 ∷ decimal m) (2 ^ 64 - m)
unfolding solid
minus-read m h k =
    let p = decimal-read m (omega arith) in
    record {
      word = (omega arith, p.whole);
      number = number-minus (45 ∷ decimal m) (omega (arith, p.more)) refl ∙ ap negated p.value ∙ negated-of m h k;
    }

pub text-read : (minus : Bool) (w : ℕ) → w < 2 ^ 64 → Read (word_text minus w) w
text-read false w h = plain-read w h
text-read true w h = by-test (ltb w (2 ^ 63))
    (λ t. rw (signed_lower w (ltb-true w (2 ^ 63) t)) (plain-read w h))
    (λ t.
    let g : 2 ^ 63 ≤ w = ltb-false w (2 ^ 63) t in
    let e : 2 ^ 64 - (2 ^ 64 - 1 - w + 1) ≡ w = omega arith in
    rw (signed-upper w g h) (rw e at (minus-read (2 ^ 64 - 1 - w + 1) (omega arith) (omega arith))))
