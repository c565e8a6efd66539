-- The books kept along calls are those of the account, from any accepted open on. Assumes nothing.
use Prim.Native.Nat.{ℕ, ◌≤◌}
use native.Mathlib.Omega.{arith}
use mathlib.Core.Path.{◌≡◌, refl, sym, ◌∙◌, ap, ap₂, subst⁻¹}
use mathlib.Core.Bool.{true, not, ◌||◌}
use mathlib.Core.List.{List, [], ◌∷◌, ◌++◌, map, map-append}
use mathlib.Core.Option.{Option}
use lib.Dec.{eqb}
use borrow.Author.Tests.{eqb-true, eqb-false, eq-eqb}
use Rattle.definition.specs.Types.{queue, topic, Dest}
use Rattle.definition.specs.Calls.{Call, Result}
use Rattle.definition.specs.Queries.{is_queue}
use Rattle.definition.specs.Words.{decode, step}
use Rattle.definition.specs.Orders.{Lent, result}
use Rattle.definition.proofs.Tests.{by-test, by-if, if-true, if-false}
use Rattle.definition.proofs.Whole.{fine}
use Rattle.definition.proofs.Kept.{accepted, perform-fine}
use Rattle.definition.proofs.Made.{call-accepted}
use Rattle.fates.proofs.Run.{called, call-made, kept}
use Rattle.fates.proofs.Claims.{accepted-is-a-call}
use Rattle.fates.proofs.Report.{decode-open, entered-dest, next-right, report-is-the-account}
use Rattle.fates.proofs.Blocks.{blocks-leave}
use Rattle.fates.specs.Fates.{departures}
use Rattle.fates.specs.Account.{Account, opening}
use Rattle.fates.specs.Report.{Ledger, entered, ledger_next}
use Rattle.fates.specs.Blocks.{Block, held_blocks, account_of, left_blocks}
use Rattle.fates.specs.Books.{left_block, Books, booked, books_next, along, books_of, BooksAreTheReport, FromTheOpen, TopicKeepsNone}

-- ---- one call

queue-blocks : (u : Dest) → u.kind ≡ queue → account_of u ≡ held_blocks u
unfolding account_of
queue-blocks u q = if-true (held_blocks u) _ (ap is_queue q)

topic-blocks : (u : Dest) → u.kind ≡ topic → account_of u ≡ []
unfolding account_of
topic-blocks u q = if-false _ [] (ap is_queue q)

abbrev ruled : Dest → List Block → List Block → Books
ruled u x y = record { dest = u; held = x; left = y }

abbrev joins : List Block → List Block → List Block
joins x y = x ++ y

open-leaves : (code : ℕ) (ws : List ℕ) (u : Dest) (bs : List Block) → eqb code 0 ≡ true → left_blocks code ws u bs ≡ []
unfolding left_blocks
open-leaves code ws u bs c = rw c

open-left : (k : Lent) (u : Dest) (b : Books) → eqb k.code 0 ≡ true → (booked k u b).left ≡ []
open-left k u b c = ap₂ joins (if-true [] b.left c) (open-leaves k.code k.words u b.held c)

-- an open of a queue
opens : (k : Lent) (u : Dest) (b : Books) → eqb k.code 0 ≡ true → u.kind ≡ queue → booked k u b ≡ books_of (record { accepted = []; gone = []; dest = u })
opens k u b c q = ap₂ (ruled u) (queue-blocks u q) (open-left k u b c)

entered-books : (k : Lent) (g : Ledger) → Account g.accepted g.gone g.dest → (result k g.dest).refusal ≡ 0 → (result k g.dest).dest.kind ≡ queue
    → booked k (result k g.dest).dest (books_of g) ≡ books_of (entered g (result k g.dest).dest (decode k.code k.words))
entered-books k g a h q = by-test (eqb k.code 0)
    (λ c. opens k u (books_of g) c q ∙ sym (ap (λ (o : Option Call). books_of (entered g u o)) (ap (λ (x : ℕ). decode x k.words) (eqb-true k.code 0 c) ∙ decode-open k.words)))
    (λ c. let low : 1 ≤ k.code = omega (arith, eqb-false k.code 0 c) in
    let p = accepted-is-a-call k.lengths k.code k.words g.dest low h in
    ap₂ (ruled u) (queue-blocks u q)
    (ap₂ joins (if-false [] (map left_block g.gone) c) (blocks-leave k.lengths k.code k.words p.0 g.dest (kept g.accepted g.gone g.dest a).kind low p.1 h)
    ∙ sym (map-append left_block g.gone (departures p.0 g.dest u)))
    ∙ sym (ap (λ (o : Option Call). books_of (entered g u o)) p.1))
  where
    u : Dest
    u = (result k g.dest).dest

next-books : (k : Lent) (g : Ledger) → Account g.accepted g.gone g.dest → (ledger_next k g).dest.kind ≡ queue → books_next k (books_of g) ≡ books_of (ledger_next k g)
next-books k g a q = by-test (eqb (result k g.dest).refusal 0)
    (λ c. if-true _ _ c
    ∙ entered-books k g a (eqb-true (result k g.dest).refusal 0 c) (sym (ap (λ (d : Dest). d.kind) (ap (λ (x : Ledger). x.dest) (if-true (entered g u o) g c) ∙ entered-dest g u o)) ∙ q)
    ∙ sym (ap books_of (if-true (entered g u o) g c)))
    (λ c. if-false _ _ c ∙ sym (ap books_of (if-false (entered g u o) g c)))
  where
    u : Dest
    u = (result k g.dest).dest

    o : Option Call
    o = decode k.code k.words

pub books-are-the-report : BooksAreTheReport
books-are-the-report [] g a f = refl
books-are-the-report (k ∷ ks) g a f = ap (along ks) (next-books k g a f.0) ∙ books-are-the-report ks (ledger_next k g) (next-right k g a f.0 f.1) f.2

-- ---- from an open on

pub along-append : (l m : List Lent) (b : Books) → along (l ++ m) b ≡ along m (along l b)
along-append [] m b = refl
along-append (k ∷ l) m b = along-append l m (books_next k b)

opening-right : (k : Lent) (t : Dest) → k.code ≡ 0 → (result k t).refusal ≡ 0 → (result k t).dest.kind ≡ queue → Account [] [] (result k t).dest
opening-right k t z = subst⁻¹ (λ (x : ℕ). (step k.lengths x k.words t).refusal ≡ 0 → (step k.lengths x k.words t).dest.kind ≡ queue → Account [] [] (step k.lengths x k.words t).dest) z (λ h q. opening k.lengths k.words t h q)

pub from-the-open : FromTheOpen
from-the-open before after k b z h q f =
    let g : Ledger = record { accepted = []; gone = []; dest = (result k (along before b).dest).dest } in
    let a = opening-right k (along before b).dest z h q in (
      along-append before (k ∷ after) b
          ∙ ap (along after) (if-true _ _ (eq-eqb (result k (along before b).dest).refusal 0 h) ∙ opens k g.dest (along before b) (eq-eqb k.code 0 z) q)
          ∙ books-are-the-report after g a f,
      report-is-the-account after g a f,
    )

-- ---- topics

abbrev Bare : Books → Type 0
Bare b = b.dest.kind ≡ topic → (b.held ≡ []) × (b.left ≡ [])

-- no call but an open changes the kind
kind-stays : (k : Lent) (t : Dest) → 1 ≤ k.code → (result k t).refusal ≡ 0 → (result k t).dest.kind ≡ t.kind
kind-stays k t low h =
    let p = accepted-is-a-call k.lengths k.code k.words t low h in
    let s = called k.lengths k.code k.words p.0 t low p.1 in
    let z = call-accepted k.lengths p.0 t (sym (ap (λ (x : Result). x.refusal) s) ∙ h) in
    let q = accepted k.lengths p.0 t z in
    ap (λ (x : Result). x.dest.kind) s ∙ ap (λ (u : Dest). u.kind) (call-made k.lengths p.0 t z) ∙ (perform-fine _ _ t.kind _ p.0 t (omega arith) (fine t q.is-sound) q.arguments q.own).kind

topic-leaves : (code : ℕ) (ws : List ℕ) (u : Dest) (bs : List Block) → u.kind ≡ topic → left_blocks code ws u bs ≡ []
unfolding left_blocks
topic-leaves code ws u bs q = by-test (eqb code 0) (λ c. open-leaves code ws u bs c) (λ c. if-true [] _ (ap₂ (λ x y. x || not (is_queue y)) c q))

opened-bare : (k : Lent) (u : Dest) (b : Books) → eqb k.code 0 ≡ true → Bare (booked k u b)
opened-bare k u b c q = (topic-blocks u q, open-left k u b c)

booked-bare : (k : Lent) (b : Books) → (result k b.dest).refusal ≡ 0 → Bare b → Bare (booked k (result k b.dest).dest b)
booked-bare k b h r = by-test (eqb k.code 0)
    (λ c. opened-bare k (result k b.dest).dest b c)
    (λ c q. let e = r (sym (kind-stays k b.dest (omega (arith, eqb-false k.code 0 c)) h) ∙ q) in
    (topic-blocks (result k b.dest).dest q, ap₂ joins (if-false [] b.left c ∙ e.1) (topic-leaves k.code k.words (result k b.dest).dest b.held q)))

along-bare : (l : List Lent) (b : Books) → Bare b → Bare (along l b)
along-bare [] b r = r
along-bare (k ∷ l) b r = along-bare l (books_next k b) (by-if Bare (eqb (result k b.dest).refusal 0) (booked k (result k b.dest).dest b) b (λ c. booked-bare k b (eqb-true (result k b.dest).refusal 0 c) r) (λ c. r))

pub topic-keeps-none : TopicKeepsNone
topic-keeps-none before after k b z h = subst⁻¹ Bare (along-append before (k ∷ after) b)
    (along-bare after (books_next k (along before b)) (subst⁻¹ Bare (if-true _ _ (eq-eqb (result k (along before b).dest).refusal 0 h)) (opened-bare k (result k (along before b).dest).dest (along before b) (eq-eqb k.code 0 z))))
