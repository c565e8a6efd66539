-- Calls as words against calls by their kind: what an accepted step of the call file has called. Assumes nothing.
use Prim.Native.Nat.{ℕ, ◌≤◌}
use native.Mathlib.Omega.{arith}
use mathlib.Core.Path.{◌≡◌, refl, sym, ◌∙◌, ap, subst, subst⁻¹}
use mathlib.Core.Bool.{Bool, true, false, ◌||◌}
use mathlib.Core.List.{List}
use mathlib.Core.Option.{Option, none, some}
use lib.Dec.{leb, eqb}
use borrow.Author.Tests.{eqb-true, eqb-false, eq-eqb, ne_eqb}
use Rattle.definition.specs.Types.{Kind, Id, Dest}
use Rattle.definition.specs.Calls.{Lengths, short, Request, Call, enqueuing, joining, leaving, asking, unmarking, releasing, sweeping, clearing, adding, removing, testing, forgetting, discarding, missing, arguments_ok, sound, Result, refused, refusal, call, open_ok, opened}
use Rattle.definition.specs.Words.{id_in, provided, read, ranged_call, decode, kind_of, at, share_of, open_words, unused_from, open_step, call_step, step}
use Rattle.definition.specs.Orders.{Reached, opening, calling, discards, misses}
use Rattle.definition.proofs.Tests.{if-false, by-if, by-test, and_left, and_right}
use Rattle.definition.proofs.Lists.{none-some, some_inj}

abbrev pub is_clear : Call → Bool
is_clear clearing = true
is_clear (enqueuing e now) = false
is_clear (joining p now) = false
is_clear (leaving i last now) = false
is_clear (asking i q) = false
is_clear (unmarking i) = false
is_clear (releasing i now) = false
is_clear (sweeping now most) = false
is_clear (adding i) = false
is_clear (removing i now) = false
is_clear (testing i q) = false
is_clear (forgetting conn) = false
is_clear discarding = false
is_clear missing = false

-- `Reached`, by the calls' kinds
pub data Made : Bool → Dest → Type 0 where
  opens : (k : Kind) (topic_limit call_limit now allowance share : ℕ) → open_ok k topic_limit call_limit now allowance share ≡ true → Made false (opened k topic_limit call_limit now allowance share)
  calls : {b : Bool} {t : Dest} (lent : Lengths) (c : Call) → Made b t → refusal lent c t ≡ 0 → Made (is_clear c || b) (call lent c t).dest

-- ---- the words of code 10 alone are a clear

abbrev Right : ℕ → Option Call → Type 0
Right code o = (c : Call) → o ≡ some c → is_clear c ≡ eqb code 10

given-right : (code : ℕ) (b : Bool) (d : Call) → is_clear d ≡ eqb code 10 → Right code (provided b d)
unfolding provided
given-right code true d h c q = ap is_clear (sym (some_inj q)) ∙ h
given-right code false d h c q = absurd (none-some q)

-- the tests of a code that is n
code_is : (code n : ℕ) → eqb code n ≡ true → eqb n 10 ≡ eqb code 10
code_is code n e = ap (λ (k : ℕ). eqb k 10) (sym (eqb-true code n e))

read_right : (code : ℕ) (ws : List ℕ) → Right code (read code ws)
unfolding read
read_right code ws =
    by-if (Right code) (eqb code 1) _ _ (λ e. given-right code _ _ (code_is code 1 e))
    (λ e. by-if (Right code) (eqb code 2) _ _ (λ e. given-right code _ _ (code_is code 2 e))
    (λ e. by-if (Right code) (eqb code 3) _ _ (λ e. given-right code _ _ (code_is code 3 e))
    (λ e. by-if (Right code) (eqb code 4) _ _ (λ e. given-right code _ _ (code_is code 4 e))
    (λ e. by-if (Right code) (eqb code 5) _ _ (λ e. given-right code _ _ (code_is code 5 e))
    (λ e. by-if (Right code) (eqb code 6) _ _ (λ e. given-right code _ _ (code_is code 6 e))
    (λ e. by-if (Right code) (eqb code 7) _ _ (λ e. given-right code _ _ (code_is code 7 e))
    (λ e. by-if (Right code) (eqb code 8) _ _ (λ e. given-right code _ _ (code_is code 8 e))
    (λ e. by-if (Right code) (eqb code 9) _ _ (λ e. given-right code _ _ (code_is code 9 e))
    (λ e. by-if (Right code) (eqb code 10) _ _ (λ e. given-right code _ _ (code_is code 10 e))
    (λ e. by-if (Right code) (eqb code 11) _ _ (λ e. given-right code _ _ (code_is code 11 e))
    (λ e. by-if (Right code) (eqb code 12) _ _ (λ e. given-right code _ _ (code_is code 12 e))
    (λ e. by-if (Right code) (eqb code 13) _ _ (λ e. given-right code _ _ (code_is code 13 e))
    (λ e. by-if (Right code) (eqb code 14) _ _ (λ e. given-right code _ _ (code_is code 14 e))
    (λ e. by-if (Right code) (eqb code 15) _ _ (λ e. given-right code _ _ (code_is code 15 e))
    (λ e c q. absurd (none-some q))))))))))))))))

in_range-right : (code : ℕ) (o : Option Call) → Right code o → Right code (ranged_call o)
in_range-right code none h = h
in_range-right code (some d) h = given-right code (arguments_ok d) d (h d refl)

-- ---- what a step calls

pub call-accepted : (lent : Lengths) (c : Call) (t : Dest) → (call lent c t).refusal ≡ 0 → refusal lent c t ≡ 0
unfolding call
call-accepted lent c t h = by-test (eqb (refusal lent c t) 0) (λ e. eqb-true _ _ e) (λ e. sym (ap (λ (r : Result). r.refusal) (if-false _ (refused (refusal lent c t) t) e)) ∙ h)

pub step_call : (lent : Lengths) (code : ℕ) (ws : List ℕ) (t : Dest) → 1 ≤ code → step lent code ws t ≡ call_step lent t (decode code ws)
unfolding step
step_call lent code ws t h = rw (ne_eqb code 0 (λ e. omega (arith, h)))

pub none-refused : (lent : Lengths) (t : Dest) → (call_step lent t none).refusal ≡ 0 → ⊥
unfolding call_step
none-refused lent t = by-test (short lent) (λ e. rw e (λ h. omega arith)) (λ e. by-test (sound t) (λ f. rw (e, f) (λ h. omega arith)) (λ f. rw (e, f) (λ h. omega arith)))

call-made : (code : ℕ) (lent : Lengths) (o : Option Call) (b : Bool) (t : Dest) → Right code o → Made b t → (call_step lent t o).refusal ≡ 0 → Made (eqb code 10 || b) (call_step lent t o).dest
unfolding call_step
call-made code lent none b t r m h = absurd (none-refused lent t h)
call-made code lent (some c) b t r m h = subst (λ (x : Bool). Made (x || b) (call lent c t).dest) (r c refl) (calls lent c m (call-accepted lent c t h))

open_made : (lent : Lengths) (ws : List ℕ) (t : Dest) → (open_step lent ws t).refusal ≡ 0 → Made false (open_step lent ws t).dest
unfolding open_step
open_made lent ws t = by-test (short lent)
    (λ e. rw e (λ h. absurd (omega arith)))
    (λ e. by-test (open_words ws)
    (λ f. rw (e, f) (λ h. opens (kind_of (at 0 ws)) (at 1 ws) (at 2 ws) (at 3 ws) (at 4 ws) (share_of (at 5 ws)) (and_left _ (unused_from 6 ws) (and_right (leb (at 0 ws) 1) _ f))))
    (λ f. rw (e, f) (λ h. absurd (omega arith))))

pub made : (b : Bool) (t : Dest) → Reached b t → Made b t
unfolding step decode
made b t (opening lent ws u h) = open_made lent ws u h
made b t (calling {b = d} {t = u} lent code ws low r h) =
    let e = step_call lent code ws u low in
    subst⁻¹ (λ (x : Result). Made (eqb code 10 || d) x.dest) e (call-made code lent (decode code ws) d u (in_range-right code (read code ws) (read_right code ws)) (made d u r) (sym (ap (λ (x : Result). x.refusal) e) ∙ h))
made b t (discards {t = u} lent r h) = calls lent discarding (made b u r) (call-accepted lent discarding u h)
made b t (misses {t = u} lent r h) = calls lent missing (made b u r) (call-accepted lent missing u h)

-- ---- codes 4 to 7

abbrev ask_of : Call → Option Request
ask_of (asking i q) = some q
ask_of (enqueuing e now) = none
ask_of (joining p now) = none
ask_of (leaving i last now) = none
ask_of (unmarking i) = none
ask_of (releasing i now) = none
ask_of (sweeping now most) = none
ask_of clearing = none
ask_of (adding i) = none
ask_of (removing i now) = none
ask_of (testing i q) = none
ask_of (forgetting conn) = none
ask_of discarding = none
ask_of missing = none

abbrev asks_of : Option Call → Option Request
asks_of none = none
asks_of (some c) = ask_of c

-- what words of code 4 to 7 ask, or none where they are no arguments
unfoldable pub request_of : ℕ → List ℕ → Option Request
request_of code ws = asks_of (decode code ws)

abbrev pub asks : Id → Option Request → Option Call
asks i none = none
asks i (some q) = some (asking i q)

given-asks : (i : Id) (b : Bool) (q : Request) → ranged_call (provided b (asking i q)) ≡ asks i (asks_of (ranged_call (provided b (asking i q))))
unfolding provided
given-asks i false q = refl
given-asks i true q = by-test (arguments_ok (asking i q)) (λ e. rw e) (λ e. rw e)

pub decode-asks : (code : ℕ) (ws : List ℕ) → 4 ≤ code → code ≤ 7 → decode code ws ≡ asks (id_in ws) (request_of code ws)
unfolding decode read request_of
decode-asks code ws low high =
    rw (ne_eqb code 1 (λ e. omega arith), ne_eqb code 2 (λ e. omega arith), ne_eqb code 3 (λ e. omega arith))
    (by-test (eqb code 4) (λ e. rw e (given-asks (id_in ws) _ _))
    (λ e. rw e (by-test (eqb code 5) (λ e. rw e (given-asks (id_in ws) _ _))
    (λ f. rw f (by-test (eqb code 6) (λ e. rw e (given-asks (id_in ws) _ _))
    (λ g. rw (g, eq-eqb code 7 (seven e f g)) (given-asks (id_in ws) _ _)))))))
  where
    seven : eqb code 4 ≡ false → eqb code 5 ≡ false → eqb code 6 ≡ false → code ≡ 7
    seven e f g = omega (arith, eqb-false code 4 e, eqb-false code 5 f, eqb-false code 6 g)

pub in_range-ok : (o : Option Call) (c : Call) → ranged_call o ≡ some c → arguments_ok c ≡ true
unfolding provided
in_range-ok none c = λ q. absurd (none-some q)
in_range-ok (some d) c = by-test (arguments_ok d) (λ e. rw e (λ q. subst (λ (x : Call). arguments_ok x ≡ true) (some_inj q) e)) (λ e. rw e (λ q. absurd (none-some q)))

pub asked-ok : (code : ℕ) (ws : List ℕ) (q : Request) → 4 ≤ code → code ≤ 7 → request_of code ws ≡ some q → arguments_ok (asking (id_in ws) q) ≡ true
unfolding decode
asked-ok code ws q low high e = in_range-ok (read code ws) (asking (id_in ws) q) (decode-asks code ws low high ∙ ap (asks (id_in ws)) e)
