-- The blocks that leave in a call, told from those before it and the state after it, are its departures. Assumes nothing.
use Prim.Native.Nat.{ℕ, ◌+◌, ◌≤◌, ◌%◌}
use native.Mathlib.Omega.{arith}
use mathlib.Core.Path.{◌≡◌, refl, sym, ◌∙◌, ap, ap₂, subst, subst⁻¹}
use mathlib.Core.Bool.{Bool, true, false, not, ◌||◌}
use mathlib.Core.List.{List, [], ◌∷◌, ◌++◌, map, map-append}
use mathlib.Core.Option.{Option, none, some}
use lib.Dec.{eqb}
use borrow.Author.Tests.{eqb-true, ne_eqb}
use Rattle.definition.specs.Base.{whether◌then◌else◌, keep, member}
use Rattle.definition.specs.Types.{queue, Entry, Dest}
use Rattle.definition.specs.Consumer.{ack_type}
use Rattle.definition.specs.Calls.{seqs, taken, held, Call, enqueuing, joining, leaving, asking, unmarking, releasing, sweeping, clearing, adding, removing, testing, forgetting, discarding, missing, arguments_ok, Result, call, brought}
use Rattle.definition.specs.Queries.{is_queue}
use Rattle.definition.specs.Words.{at, provided, read, ranged_call, decode}
use Rattle.definition.proofs.Tests.{by-test, by-if, if-false}
use Rattle.definition.proofs.Lists.{All}
use Rattle.definition.proofs.Sums.{sum, occ, occ-no-member}
use Rattle.definition.proofs.Whole.{queue_sum, sums-taken}
use Rattle.definition.proofs.Reorder.{keep_append}
use Rattle.fates.proofs.Measures.{mine-occ, yes-member}
use Rattle.fates.proofs.Calls.{decode-coded}
use Rattle.fates.proofs.Run.{called, queue-once}
use Rattle.fates.proofs.Run as Run
use Rattle.fates.specs.Fates.{Fate, expired, cleared, rank, holding, ack_fate, Means, acks, clears, expires, means, waits, fate_by, leavers, departing, departures}
use Rattle.fates.specs.Blocks.{Block, block_of, block_at, acked_as, leaves_as, held_blocks, comes, went_as, is_gone, left_blocks}
use Rattle.fates.specs.Books.{left_block, BlocksLeave}

-- ---- what a call's code and words say of it

-- the fate by whether the entry waited
abbrev fate_from : Bool → Means → Fate
fate_from w (acks y) = whether w then expired else ack_fate y
fate_from w clears = cleared
fate_from w expires = expired

fate-from : (t : Dest) (e : Entry) (m : Means) → fate_by t e m ≡ fate_from (waits t e) m
unfolding fate_by
fate-from t e (acks y) = refl
fate-from t e clears = refl
fate-from t e expires = refl

pub record Says (code : ℕ) (ws : List ℕ) (c : Call) : Type 0 where
  pub brings : comes code ws ≡ map (block_at 0) (brought c)
  loses : (w : Bool) → leaves_as code (at 3 ws) w ≡ 3 + rank (fate_from w (means c))

abbrev AllSays : ℕ → List ℕ → Option Call → Type 0
AllSays code ws none = Unit {0}
AllSays code ws (some c) = Says code ws c

given-says : (code : ℕ) (ws : List ℕ) (b : Bool) (c : Call) → Says code ws c → AllSays code ws (provided b c)
unfolding provided
given-says code ws true c h = h
given-says code ws false c h = tt

abbrev AckSame : ℕ → Type 0
AckSame k = acked_as k ≡ 3 + rank (ack_fate (ack_type k))

acked-number : (k : ℕ) → AckSame k
unfolding ack_type
acked-number k =
    by-test (eqb k 0) (is 0 refl)
    (λ a. by-test (eqb k 1) (is 1 refl)
    (λ b. by-test (eqb k 2) (is 2 refl)
    (λ c. by-test (eqb k 3) (is 3 refl)
    (λ d. by-test (eqb k 4) (is 4 refl)
    (λ e. by-test (eqb k 5) (is 5 refl)
    (λ f. by-test (eqb k 6) (is 6 refl)
    (λ g. rw (a, b, c, d, e, f, g))))))))
  where
    is : (n : ℕ) → AckSame n → eqb k n ≡ true → AckSame k
    is n h e = subst⁻¹ AckSame (eqb-true k n e) h

read-says : (code : ℕ) (ws : List ℕ) → AllSays code ws (read code ws)
unfolding read leaves_as
read-says code ws =
    by-if (AllSays code ws) (eqb code 1) _ _ (says 1 _ _ (record { brings = refl; loses = λ w. refl }))
    (λ e. by-if (AllSays code ws) (eqb code 2) _ _ (says 2 _ _ (record { brings = refl; loses = λ w. refl }))
    (λ e. by-if (AllSays code ws) (eqb code 3) _ _ (says 3 _ _ (record { brings = refl; loses = λ w. refl }))
    (λ e. by-if (AllSays code ws) (eqb code 4) _ _ (says 4 _ _ (record { brings = refl; loses = acked }))
    (λ e. by-if (AllSays code ws) (eqb code 5) _ _ (says 5 _ _ (record { brings = refl; loses = λ w. refl }))
    (λ e. by-if (AllSays code ws) (eqb code 6) _ _ (says 6 _ _ (record { brings = refl; loses = λ w. refl }))
    (λ e. by-if (AllSays code ws) (eqb code 7) _ _ (says 7 _ _ (record { brings = refl; loses = λ w. refl }))
    (λ e. by-if (AllSays code ws) (eqb code 8) _ _ (says 8 _ _ (record { brings = refl; loses = λ w. refl }))
    (λ e. by-if (AllSays code ws) (eqb code 9) _ _ (says 9 _ _ (record { brings = refl; loses = λ w. refl }))
    (λ e. by-if (AllSays code ws) (eqb code 10) _ _ (says 10 _ _ (record { brings = refl; loses = λ w. refl }))
    (λ e. by-if (AllSays code ws) (eqb code 11) _ _ (says 11 _ _ (record { brings = refl; loses = λ w. refl }))
    (λ e. by-if (AllSays code ws) (eqb code 12) _ _ (says 12 _ _ (record { brings = refl; loses = λ w. refl }))
    (λ e. by-if (AllSays code ws) (eqb code 13) _ _ (says 13 _ _ (record { brings = refl; loses = λ w. refl }))
    (λ e. by-if (AllSays code ws) (eqb code 14) _ _ (says 14 _ _ (record { brings = refl; loses = λ w. refl }))
    (λ e. by-if (AllSays code ws) (eqb code 15) _ _ (says 15 _ _ (record { brings = refl; loses = λ w. refl }))
    (λ e. tt)))))))))))))))
  where
    says : (n : ℕ) (b : Bool) (c : Call) → Says n ws c → eqb code n ≡ true → AllSays code ws (provided b c)
    says n b c h e = given-says code ws b c (subst⁻¹ (λ (k : ℕ). Says k ws c) (eqb-true code n e) h)

    acked : (w : Bool) → leaves_as 4 (at 3 ws) w ≡ 3 + rank (whether w then expired else ack_fate (ack_type (at 3 ws % 256)))
    acked true = refl
    acked false = acked-number (at 3 ws % 256)

range-says : (code : ℕ) (ws : List ℕ) (o : Option Call) → AllSays code ws o → AllSays code ws (ranged_call o)
range-says code ws none h = tt
range-says code ws (some c) h = given-says code ws (arguments_ok c) c h

pub decode-says : (code : ℕ) (ws : List ℕ) (c : Call) → decode code ws ≡ some c → Says code ws c
unfolding decode
decode-says code ws c e = subst (AllSays code ws) e (range-says code ws (read code ws) (read-says code ws))

-- ---- what leaves

-- what comes leaves as expired, whether its number waits or not
come-expires : (c : Call) (t : Dest) → All (λ e. fate_from true (means c) ≡ fate_from (waits t e) (means c)) (brought c)
come-expires (enqueuing e now) t = (refl, tt)
come-expires (joining p now) t = tt
come-expires (leaving i last now) t = tt
come-expires (asking i q) t = tt
come-expires (unmarking i) t = tt
come-expires (releasing i now) t = tt
come-expires (sweeping now most) t = tt
come-expires clearing t = tt
come-expires (adding i) t = tt
come-expires (removing i now) t = tt
come-expires (testing i q) t = tt
come-expires (forgetting conn) t = tt
come-expires discarding t = tt
come-expires missing t = tt

module _ (code : ℕ) (ws : List ℕ) (c : Call) (y : Says code ws c) (t u : Dest) where
  -- blocks that go as the entries do
  abbrev Goes : List Block → List Entry → Type 0
  Goes bs es = map (went_as code ws) (keep (is_gone u) bs) ≡ map left_block (map (departing t (means c)) (keep (λ e. not (member e.seq (seqs (holding u)))) es))

  goes-append : (x y : List Block) (d e : List Entry) → Goes x d → Goes y e → Goes (x ++ y) (d ++ e)
  goes-append x y d e h g =
      ap (map (went_as code ws)) (keep_append (is_gone u) x y)
      ∙ map-append (went_as code ws) (keep (is_gone u) x) (keep (is_gone u) y)
      ∙ ap₂ (λ (p q : List Block). p ++ q) h g
      ∙ sym (ap (λ (l : List Entry). map left_block (map (departing t (means c)) l)) (keep_append out d e)
      ∙ ap (map left_block) (map-append (departing t (means c)) (keep out d) (keep out e))
      ∙ map-append left_block (map (departing t (means c)) (keep out d)) (map (departing t (means c)) (keep out e)))
    where
      out : Entry → Bool
      out e = not (member e.seq (seqs (holding u)))

  -- as a block of the place p, where that says whether it waited
  goes_one : (p : ℕ) (e : Entry) → fate_from (eqb p 0) (means c) ≡ fate_from (waits t e) (means c) → went_as code ws (block_at p e) ≡ left_block (departing t (means c) e)
  unfolding went_as
  goes_one p e h = ap (λ (n : ℕ). block_of e.seq n e.persistent) (y.loses (eqb p 0) ∙ ap (λ (x : Fate). 3 + rank x) (h ∙ sym (fate-from t e (means c))))

  goes-list : (p : ℕ) (l : List Entry) → All (λ e. fate_from (eqb p 0) (means c) ≡ fate_from (waits t e) (means c)) l → Goes (map (block_at p) l) l
  goes-list p [] h = refl
  goes-list p (e ∷ l) h = by-test (not (member e.seq (seqs (holding u))))
      (λ o. rw o (ap₂ (λ (b : Block) (bs : List Block). b ∷ bs) (goes_one p e h.0) (goes-list p l h.1)))
      (λ o. rw o (goes-list p l h.1))

  -- those of a list wait, or none does
  waits-as : (w : Bool) (l : List Entry) → ((x : ℕ) → 1 ≤ sum (occ x) l → member x (seqs t.pending) ≡ w) → All (λ e. fate_from w (means c) ≡ fate_from (waits t e) (means c)) l
  waits-as w l h = mine-occ (λ x. fate_from w (means c) ≡ fate_from (member x (seqs t.pending)) (means c)) l (λ x g. ap (λ (b : Bool). fate_from b (means c)) (sym (h x g)))

  all_go : ((x : ℕ) → queue_sum (occ x) t ≤ 1) → Goes (held_blocks t ++ comes code ws) (holding t ++ brought c)
  all_go o = goes-append (held_blocks t) (comes code ws) (holding t) (brought c)
      (goes-append (map (block_at 0) t.pending) (map (block_at 2) (held t) ++ map (block_at 1) (taken t.subs)) t.pending (held t ++ taken t.subs)
      (goes-list 0 t.pending (waits-as true t.pending (λ x h. yes-member x t.pending h)))
      (goes-append (map (block_at 2) (held t)) (map (block_at 1) (taken t.subs)) (held t) (taken t.subs)
      (goes-list 2 (held t) (waits-as false (held t) (λ x h. occ-no-member x t.pending (omega (arith, o x, h)))))
      (goes-list 1 (taken t.subs) (waits-as false (taken t.subs) (λ x h. occ-no-member x t.pending (omega (arith, o x, h, sums-taken (occ x) t.subs)))))))
      (subst⁻¹ (λ (bs : List Block). Goes bs (brought c)) y.brings (goes-list 0 (brought c) (come-expires c t)))

left-calls : (code : ℕ) (ws : List ℕ) (u : Dest) (bs : List Block) → 1 ≤ code → u.kind ≡ queue → left_blocks code ws u bs ≡ map (went_as code ws) (keep (is_gone u) (bs ++ comes code ws))
unfolding left_blocks
left-calls code ws u bs low q = if-false [] _ (ap₂ (λ x y. x || not (is_queue y)) (ne_eqb code 0 (λ z. omega (arith, z, low))) q)

pub blocks-leave : BlocksLeave
unfolding leavers
blocks-leave lent code ws c t q low e h =
    let s = called lent code ws c t low e in
    let z : (call lent c t).refusal ≡ 0 = sym (ap (λ (x : Result). x.refusal) s) ∙ h in
    let m = Run.moved lent c t (decode-coded code ws c e) q z in
    subst⁻¹ (λ (x : Result). left_blocks code ws x.dest (held_blocks t) ≡ map left_block (departures c t x.dest)) s
    (left-calls code ws (call lent c t).dest (held_blocks t) low m.1
    ∙ all_go code ws c (decode-says code ws c e) t (call lent c t).dest (queue-once lent c t q z))
