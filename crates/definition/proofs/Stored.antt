-- What rows and a head's words hold: entries of rows, what a consumer holds, and how many identifiers, audits and consumers. Assumes nothing.
use mathlib.Core.Path.{◌≡◌, refl, ap}
use mathlib.Core.Bool.{Bool, true, false}
use mathlib.Core.List.{List, [], ◌∷◌, ◌++◌, append-nil, map}
use Prim.Native.Nat.{ℕ, zero, suc}
use lib.ListN.{length, drop}
use Rattle.entry.specs.Entry.{entry_of}
use Rattle.definition.specs.Types.{Kind, queue, topic, Entry, Inflight}
use Rattle.definition.specs.Calls.{seqs}
use Rattle.definition.specs.Consumer.{shown}
use Rattle.definition.specs.Layout.{Row, inflight_at, held_at, tpending_at, browser_at, ids_at, audits_at, each_sub, sub_at, subs_at}
use Rattle.definition.specs.Words.{at}

pub flying-rows : (f : List Row) → map (λ (i : Inflight). i.entry) (map inflight_at f) ≡ map entry_of f
flying-rows [] = refl
flying-rows (r ∷ f) = ap (λ (l : List Entry). entry_of r ∷ l) (flying-rows f)

pub held_rows : (l : List Row) → map (λ h. h.entry) (map held_at l) ≡ map entry_of l
held_rows [] = refl
held_rows (w ∷ l) = ap (λ (m : List Entry). entry_of w ∷ m) (held_rows l)

-- what a consumer holds
pub holding : (k : Kind) (b : Bool) (l : List Entry) → tpending_at k b l ++ shown (browser_at k b l) ≡ l
holding queue true l = refl
holding queue false l = append-nil l
holding topic true l = append-nil l
holding topic false l = append-nil l

-- a topic's consumer shows what it browses whatever it holds
pub same-browser : (b : Bool) (l m : List Entry) → browser_at topic b l ≡ browser_at topic b m
same-browser true l m = refl
same-browser false l m = refl

pub ids-length : (n : ℕ) (l : List ℕ) → length (ids_at n l) ≡ n
unfolding ids_at
ids-length zero l = refl
ids-length (suc n) l = ap suc (ids-length n (drop 3 l))

pub audits-length : (n : ℕ) (l : List ℕ) → length (audits_at n l) ≡ n
unfolding audits_at
audits-length zero l = refl
audits-length (suc n) l = ap suc (audits-length n (drop 1029 l))

pub each-sub-length : {A : Type 0} (of : Row → List Row → List Row → A) (ws rows : List Row) → length (each_sub of ws rows) ≡ length ws
unfolding each_sub
each-sub-length of [] rows = refl
each-sub-length of (w ∷ ws) rows = ap suc (each-sub-length of ws _)

pub subs-length : (k : Kind) (ws rows : List Row) → length (subs_at k ws rows) ≡ length ws
subs-length k = each-sub-length (sub_at k)

-- the numbers of rows are those of their entries
pub seqs-rows : (l : List Row) → map (at 0) l ≡ seqs (map entry_of l)
unfolding entry_of
seqs-rows [] = refl
seqs-rows (w ∷ l) = ap (λ (m : List ℕ). at 0 w ∷ m) (seqs-rows l)
