-- A waiting row that goes out: the row itself, who can take one, and whose turn is next. Assumes nothing.
use mathlib.Core.Path.{◌≡◌, sym, ap, ◌∙◌}
use mathlib.Core.Bool.{Bool, true, false, not, ◌&&◌}
use Prim.Native.Nat.{ℕ, ◌-◌, ◌%◌, ◌≤◌, ◌<◌}
use native.Mathlib.Nat.{mod-eq_of_lt, mod-eq-sub-mod}
use Rattle.entry.specs.Entry.{row_of}
use Rattle.entry.proofs.Rows.{EntryFits, entry-of-row}
use Rattle.definition.specs.Types.{Entry}
use Rattle.definition.specs.Consumer.{inflight_of}
use Rattle.definition.specs.Layout.{Row, inflight_at}
use Rattle.consumers.specs.declared.Sub.{Sub}
use Rattle.consumers.specs.Consumers.{row_sub, credit_of}
use Rattle.queues.specs.Scan.{can_take}

-- a row as it goes out
pub flown : (e : Entry) (n : ℕ) → EntryFits e → inflight_at (row_of e n 0 0) ≡ inflight_of n e
unfolding row_of
flown e n f = λ j. record { dseq = n; entry = entry-of-row e n 0 0 f j; freed = false; tx = false }

-- the consumer of a row, with the row's tests
module _ (w : Row) (s : Sub) (is : s ≡ row_sub w) where
  pub takes-open : not s.browser ≡ true → credit_of s ≡ can_take w
  takes-open h = ap credit_of is ∙ sym (ap (λ (b : Bool). b && credit_of (row_sub w)) (ap (λ (x : Sub). not x.browser) (sym is) ∙ h))

  pub takes-browser : not s.browser ≡ false → false ≡ can_take w
  takes-browser h = sym (ap (λ (b : Bool). b && credit_of (row_sub w)) (ap (λ (x : Sub). not x.browser) (sym is) ∙ h))

-- a remainder by one subtraction
pub turned-once : (x n : ℕ) → x - n < n → n ≤ x → x - n ≡ x % n
turned-once x n k h = sym (mod-eq-sub-mod h ∙ mod-eq_of_lt k)
