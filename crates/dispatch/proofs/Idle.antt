-- Where no consumer can be sent anything, a dispatch leaves everything as it is. Assumes nothing.
use mathlib.Core.Path.{◌≡◌, refl, sym, ap, subst, ◌∙◌}
use mathlib.Core.Bool.{Bool, true, false, not, ◌&&◌, ◌||◌, and-false}
use mathlib.Core.List.{List, []}
use Prim.Native.Nat.{ℕ, zero, suc, ◌+◌, ◌%◌, ◌≤◌, ◌<◌, ◌^◌}
use native.Mathlib.Omega.{arith}
use native.Mathlib.Numerals.{add-one}
use borrow.Author.Tests.{not-true, le-leb, ltb-true, ltb-false, ne_eqb}
use lib.Dec.{leb, ltb, eqb}
use lib.ListN.{length, take, get_or}
use lib.Seq.{get_or-take, length-take-le}
use Rattle.words.proofs.Tests.{by-test}
use Rattle.definition.specs.Base.{all}
use Rattle.definition.specs.Destination.{dispatch_queue, dispatch_topic, dispatch}
use Rattle.definition.specs.Layout.{Row, sub_rows}
use Rattle.definition.proofs.Tests.{if-true, if-false, or-no-left, or-no-right}
use Rattle.definition.proofs.Lists.{all-at}
use Rattle.consumers.specs.declared.Sub.{Sub}
use Rattle.consumers.specs.Consumers.{row_sub, credit_of}
use Rattle.consumers.proofs.Strict.{all_weaker}
use Rattle.state.specs.declared.Head.{Head}
use Rattle.state.specs.State.{due_by}
use Rattle.state.specs.Fits.{fits, Fits}
use Rattle.state.specs.Leaves.{Leaves, LeavesIf}
use Rattle.state.proofs.Fitting.{fits-facts}
use Rattle.state.proofs.Leaves.{when-leaves}
use Rattle.state.proofs.Answers.{three-yes, leaves-no}
use Rattle.topics.specs.Topics.{can_serve, Dispatched}
use Rattle.topics.proofs.Round as Topic
use Rattle.queues.specs.Scan.{can_take, served, scans, Scans, Onward}
use Rattle.queues.proofs.Guard.{scans-facts}
use Rattle.queues.proofs.Visiting.{visited-not}
use Rattle.queues.proofs.Scanning.{Seeking, seeking-start, seeking-on, place-within, going_start, going-stop, going-empty}
use Rattle.dispatch.specs.Dispatch.{can_go, goes_out, browses, queue_fits, dispatches, Sent}
use Rattle.dispatch.proofs.Guard.{lacks, one-by, one_none, queue-stands, dispatches-soon, dispatches-queue, dispatches-topic}
use Rattle.dispatch.proofs.Sorts.{without-browser, none-there, of-queue, of-topic}

-- the test of one consumer, as the code has it
module _ (waiting : ℕ) (queue : Bool) (w : Row) (s : Sub) (is : s ≡ row_sub w) (credit : Bool) (has : credit ≡ credit_of s) where
  pub can-queue : queue ≡ true → (s.browser || (not (eqb waiting 0) && credit)) ≡ can_go waiting queue w
  unfolding can_go
  can-queue q = ap (λ (b : Bool). s.browser || (not (eqb waiting 0) && b)) has ∙ ap (λ (x : Sub). x.browser || (not (eqb waiting 0) && credit_of x)) is ∙ sym (if-true _ _ q)

  pub can-topic : queue ≡ false → (ltb 0 s.held && credit) ≡ can_go waiting queue w
  unfolding can_go
  can-topic q = ap (λ (b : Bool). ltb 0 s.held && b) has ∙ ap (λ (x : Sub). ltb 0 x.held && credit_of x) is ∙ sym (if-false _ _ q)

module _ (clock : ℕ) (d : Head) (subs rows events : List Row) (short : d.consumers ≤ length subs) (late : clock ≤ 2 ^ 62)
    (no : goes_out d.consumers d.waiting d.queue subs ≡ false)
  where
    abbrev here : ℕ → Sub
    here i = row_sub (get_or subs i [])

    none-go : all (lacks (can_go d.waiting d.queue)) (take d.consumers subs) ≡ true
    unfolding goes_out
    none-go = one_none (can_go d.waiting d.queue) d.consumers subs short no

    none-goes : (i : ℕ) → i < d.consumers → can_go d.waiting d.queue (get_or subs i []) ≡ false
    none-goes i h =
        let ws : List Row = take d.consumers subs in
        let n : length ws ≡ d.consumers = length-take-le d.consumers subs short in
        ap (can_go d.waiting d.queue) (sym (get_or-take d.consumers subs i [] h)) ∙ not-true (can_go d.waiting d.queue (get_or ws i [])) (all-at (lacks (can_go d.waiting d.queue)) ws i [] none-go (omega arith))

    -- ---- a topic's

    module _ (f : Fits subs d (length rows) (length events)) (plain : d.queue ≡ false) where
      not-served : (i : ℕ) → i < d.consumers → can_serve (get_or subs i []) ≡ false
      unfolding can_go
      not-served i h = sym (if-false ((here i).browser || (not (eqb d.waiting 0) && credit_of (here i))) (can_serve (get_or subs i [])) plain) ∙ none-goes i h

      abbrev T : ℕ → ℕ → Type 0
      T base i = Topic.Round clock subs rows events d subs rows events d base i

      topics-on : (i : ℕ) → i ≤ d.consumers → T (sub_rows (take i subs)) i
      topics-on zero h = let g : T 0 0 = Topic.round-start clock subs rows events d f in subst (λ (b : ℕ). T b 0) g.ends g
      topics-on (suc i) h =
          let less : i < d.consumers = omega arith in
          let g : T (sub_rows (take i subs) + (here i).inflight + (here i).held) (i + 1) =
          Topic.round-pass clock subs rows events d f subs rows events d (sub_rows (take i subs)) i (topics-on i (omega arith)) less (here i) refl (not-served i less) late in
          subst (λ (n : ℕ). T (sub_rows (take n subs)) n) (add-one i) (subst (λ (b : ℕ). T b (i + 1)) g.ends g)

      topic-rest : Leaves (dispatch_topic clock) d d subs rows events subs rows events × Dispatched d d
      topic-rest = Topic.round-end clock subs rows events d f subs rows events d (sub_rows (take d.consumers subs)) d.consumers (topics-on d.consumers (omega arith)) (omega arith) plain

    -- ---- a queue's

    module _ (q : d.queue ≡ true) where
      not_going : (i : ℕ) → i < d.consumers → ((here i).browser || (not (eqb d.waiting 0) && credit_of (here i))) ≡ false
      unfolding can_go
      not_going i h = sym (if-true ((here i).browser || (not (eqb d.waiting 0) && credit_of (here i))) (can_serve (get_or subs i [])) q) ∙ none-goes i h

      no-browser : all (λ w. not (row_sub w).browser) (take d.consumers subs) ≡ true
      unfolding can_go
      no-browser = all_weaker (lacks (can_go d.waiting d.queue)) (λ w. not (row_sub w).browser)
          (λ w e. ap not (or-no-left (row_sub w).browser (not (eqb d.waiting 0) && credit_of (row_sub w)) (sym (if-true _ (can_serve w) q) ∙ not-true _ e)))
          (take d.consumers subs) none-go

      not-taking : 0 < d.waiting → (i : ℕ) → i < d.consumers → can_take (get_or subs i []) ≡ false
      not-taking w i h =
          let spent : credit_of (here i) ≡ false =
          sym (ap (λ (b : Bool). not b && credit_of (here i)) (ne_eqb d.waiting 0 (λ e. omega arith))) ∙ or-no-right (here i).browser (not (eqb d.waiting 0) && credit_of (here i)) (not_going i h) in
          ap (λ (b : Bool). not (here i).browser && b) spent ∙ and-false (not (here i).browser)

      none-browses : browses d.consumers subs ≡ false
      unfolding browses
      none-browses = sym (one-by (λ w. (row_sub w).browser) d.consumers subs true short no-browser)

      module _ (ok : Scans subs d (length rows) (length events)) where
        scan-on : 0 < d.waiting → (k : ℕ) → k ≤ d.consumers → Seeking clock subs rows events d subs rows events d k
        scan-on w zero h = seeking-start clock subs rows events d ok
        scan-on w (suc k) h =
            let less : k < d.consumers = omega arith in
            let g : Seeking clock subs rows events d subs rows events d k = scan-on w k (omega arith) in
            let i : ℕ = (d.turn + k) % d.consumers in
            let within : i < d.consumers = place-within clock subs rows events d subs rows events d k g less in
            subst (λ (n : ℕ). Seeking clock subs rows events d subs rows events d n) (add-one k)
            (seeking-on clock subs rows events d subs rows events d k g less false d subs rows events (visited-not clock i d subs rows events ok within (not-taking w i within)) refl)

        scan-rest : Leaves (served clock) d d subs rows events subs rows events × Onward d d subs rows events subs rows events
        scan-rest = by-test (ltb 0 d.waiting)
            (λ t. going-stop clock subs rows events d subs rows events d subs rows events d d.consumers (going_start clock subs rows events d ok) (scan-on (ltb-true 0 d.waiting t) d.consumers (omega arith)) (omega arith))
            (λ t. going-empty clock subs rows events d subs rows events d (going_start clock subs rows events d ok) (ltb-false 0 d.waiting t))

      queue-rest : LeavesIf (queue_fits clock subs d (length rows) (length events)) (Sent d d) (dispatch_queue clock) d d subs rows events subs rows events
      queue-rest =
          let can : Bool = scans clock subs d (length rows) (length events) in
          let also : Type 0 = Onward d d subs rows events subs rows events in
          by-test (ltb 0 d.consumers)
          (λ t. without-browser d d subs rows events subs rows events clock (ltb-true 0 d.consumers t) none-browses (by-test can
          (λ y. when-leaves can also (served clock) d d subs rows events subs rows events y (scan-rest (scans-facts clock subs d (length rows) (length events) y).0))
          (λ y. leaves-no can also (served clock) d subs rows events y)))
          (λ t. none-there clock d subs rows events (let z : d.consumers ≤ 0 = ltb-false 0 d.consumers t in omega arith))

-- so it need not be called
pub goes-not : (clock : ℕ) (d : Head) (subs rows events : List Row) → goes_out d.consumers d.waiting d.queue subs ≡ false
    → LeavesIf (dispatches clock subs d (length rows) (length events)) (Sent d d) (dispatch clock) d d subs rows events subs rows events
goes-not clock d subs rows events quiet =
    let n : ℕ = length rows in
    let m : ℕ = length events in
    let yes : Bool = dispatches clock subs d n m in
    by-test yes
    (λ t.
    let late : clock ≤ 2 ^ 62 = dispatches-soon subs d n m clock t in
    let due : ℕ = due_by clock d in
    let less : due ≤ 2 ^ 62 = omega arith in
    by-test d.queue
    (λ q.
    let s = queue-stands subs d n m due (dispatches-queue subs d n m clock late due refl q ∙ t) in
    of-queue d d subs rows events subs rows events clock due refl late q (queue-rest due d subs rows events (omega (arith, s.0.consumers, s.1)) less quiet q))
    (λ q.
    let fit : fits subs d n m ≡ true = dispatches-topic subs d n m clock late q ∙ t in
    let f : Fits subs d n m = fits-facts subs d n m fit in
    of-topic d d subs rows events subs rows events clock due refl late q
    (when-leaves (fits subs d n m && (leb due (2 ^ 62) && not d.queue)) (Dispatched d d) (dispatch_topic due) d d subs rows events subs rows events (three-yes (fits subs d n m) (leb due (2 ^ 62)) (not d.queue) fit (le-leb due (2 ^ 62) less) (ap not q))
    (topic-rest due d subs rows events (omega (arith, f.subs-long, f.consumers)) less quiet f q))))
    (λ t. leaves-no yes (Sent d d) (dispatch clock) d subs rows events t)
