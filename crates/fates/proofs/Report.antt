-- The account that is computed along calls is the account. Assumes nothing.
use Prim.Native.Nat.{ℕ, ◌≤◌}
use native.Mathlib.Omega.{arith}
use mathlib.Core.Path.{◌≡◌, refl, sym, ◌∙◌, ap, subst, subst⁻¹}
use mathlib.Core.Bool.{true}
use mathlib.Core.List.{List, [], ◌∷◌}
use mathlib.Core.Option.{Option, none, some}
use lib.Dec.{eqb}
use borrow.Author.Tests.{eqb-true, eqb-false}
use Rattle.definition.specs.Types.{queue, Dest}
use Rattle.definition.specs.Calls.{Call}
use Rattle.definition.specs.Words.{read, decode, step}
use Rattle.definition.specs.Orders.{Lent, result}
use Rattle.definition.proofs.Tests.{by-test, by-if}
use Rattle.fates.proofs.Claims.{accepted-is-a-call}
use Rattle.fates.specs.Account.{Account, opening, calling}
use Rattle.fates.specs.Report.{Ledger, entered, ledger_next, New, ReportIsTheAccount}

abbrev Right : Ledger → Type 0
Right g = Account g.accepted g.gone g.dest

-- an open's words are no other call
pub decode-open : (ws : List ℕ) → decode 0 ws ≡ none
unfolding decode read
decode-open ws = refl

entered-right : (k : Lent) (g : Ledger) → Right g → New g (decode k.code k.words) → (result k g.dest).refusal ≡ 0 → (result k g.dest).dest.kind ≡ queue → Right (entered g (result k g.dest).dest (decode k.code k.words))
entered-right k g a n h q = by-test (eqb k.code 0)
    (λ c. opens k.code (eqb-true k.code 0 c) h q)
    (λ c. calls (accepted-is-a-call k.lengths k.code k.words g.dest (omega (arith, eqb-false k.code 0 c)) h) (omega (arith, eqb-false k.code 0 c)))
  where
    opens : (code : ℕ) → code ≡ 0 → (step k.lengths code k.words g.dest).refusal ≡ 0 → (step k.lengths code k.words g.dest).dest.kind ≡ queue → Right (entered g (step k.lengths code k.words g.dest).dest (decode code k.words))
    opens code e = subst⁻¹ (λ (x : ℕ). (step k.lengths x k.words g.dest).refusal ≡ 0 → (step k.lengths x k.words g.dest).dest.kind ≡ queue → Right (entered g (step k.lengths x k.words g.dest).dest (decode x k.words))) e
        (λ y z. subst⁻¹ (λ (o : Option Call). Right (entered g (step k.lengths 0 k.words g.dest).dest o)) (decode-open k.words) (opening k.lengths k.words g.dest y z))

    calls : (c : Call) × (decode k.code k.words ≡ some c) → 1 ≤ k.code → Right (entered g (result k g.dest).dest (decode k.code k.words))
    calls p low = subst⁻¹ (λ (o : Option Call). Right (entered g (result k g.dest).dest o)) p.1 (calling k.lengths k.code k.words p.0 low p.1 a h (subst (λ (o : Option Call). New g o) p.1 n))

pub entered-dest : (g : Ledger) (u : Dest) (o : Option Call) → (entered g u o).dest ≡ u
entered-dest g u none = refl
entered-dest g u (some c) = refl

pub next-right : (k : Lent) (g : Ledger) → Right g → (ledger_next k g).dest.kind ≡ queue → (eqb (result k g.dest).refusal 0 ≡ true → New g (decode k.code k.words)) → Right (ledger_next k g)
next-right k g a q n = by-if (λ (x : Ledger). x.dest.kind ≡ queue → Right x) (eqb (result k g.dest).refusal 0) _ g
    (λ c z. entered-right k g a (n c) (eqb-true (result k g.dest).refusal 0 c) (sym (ap (λ (d : Dest). d.kind) (entered-dest g (result k g.dest).dest (decode k.code k.words))) ∙ z))
    (λ c z. a) q

pub report-is-the-account : ReportIsTheAccount
report-is-the-account [] g a f = a
report-is-the-account (k ∷ ks) g a f = report-is-the-account ks (ledger_next k g) (next-right k g a f.0 f.1) f.2
