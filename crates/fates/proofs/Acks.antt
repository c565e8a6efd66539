-- What an acknowledgement takes by itself, before its dispatch. Assumes nothing.
use Prim.Native.Nat.{ℕ, ◌+◌}
use native.Mathlib.Omega.{arith}
use mathlib.Core.Path.{◌≡◌, refl, sym, ◌∙◌, ap, subst⁻¹}
use mathlib.Core.Bool.{Bool, true, false, not, ◌&&◌}
use mathlib.Core.List.{List, [], ◌∷◌, map}
use mathlib.Core.Option.{Option, none, some}
use lib.ListN.{length, length-map}
use Rattle.definition.specs.Base.{whether◌then◌else◌, keep, tally, empty}
use Rattle.definition.specs.Types.{Id, Entry, Inflight, Sub, Stats, Held, Dest, Event}
use Rattle.definition.specs.Consumer.{zero_stats, ◌⊕◌, Step, is_browser, AckType, Delivered, Poison, Standard, Redelivered, Individual, Unmatched, Expired, Other, ack_type, Ack, ack_range, ack_last, freed_as, free, remove_inflight, bumped, redeliver, unless_browser, ack_transacted, ack_plain, ack_sub}
use Rattle.definition.specs.Destination.{count, is_id, sub_of, put_sub, held_by, reserved_of, reserved_hit, reserved_counts, ack_reserved}
use Rattle.definition.proofs.Tests.{by-test, by-if}
use Rattle.definition.proofs.Lists.{empty-nil, keep-count}
use Rattle.definition.proofs.Sums.{sum}
use Rattle.definition.proofs.Local.{⊕-zero}
use Rattle.definition.proofs.Whole.{sums, count_m, queue_sum}
use Rattle.definition.proofs.Dispatch.{count-browser, count-plain}
use Rattle.definition.proofs.Fit.{marked-entry}
use Rattle.fates.proofs.Measures.{Steady, sums-put, count_same}
use Rattle.fates.specs.Fates.{dequeued, expired, discarded, dead_lettered, same_fate, ack_fate, hits, named_reserved, named_at}

abbrev pub fleeting : Entry → Bool
fleeting e = not e.persistent

-- what the counters add for the entries `own` that an acknowledgement of type y takes
pub record Grows (y : AckType) (own : List Entry) (c : Stats) : Type 0 where
  pub enqueued : c.enqueued ≡ 0
  pub dequeued : c.dequeued ≡ (whether same_fate dequeued (ack_fate y) then length own else 0)
  pub expired : c.expired ≡ (whether same_fate expired (ack_fate y) then length own else 0)
  pub discarded : c.discarded ≡ (whether same_fate dead_lettered (ack_fate y) then tally fleeting own else 0)

nothing : (b : Bool) → ◌≡◌ {A = ℕ} 0 (whether b then 0 else 0)
nothing true = refl
nothing false = refl

pub grows_none : (y : AckType) → Grows y [] zero_stats
grows_none y = record { enqueued = refl; dequeued = nothing (same_fate dequeued (ack_fate y)); expired = nothing (same_fate expired (ack_fate y)); discarded = nothing (same_fate dead_lettered (ack_fate y)) }

-- ---- lists in flight

abbrev entries : List Inflight → List Entry
entries l = map (λ i. i.entry) l

flown : (f : Entry → ℕ) (m : Inflight → Inflight) (l : List Inflight) → ((i : Inflight) → f (m i).entry ≡ f i.entry) → sum f (entries (map m l)) ≡ sum f (entries l)
flown f m [] h = refl
flown f m (i ∷ l) h = omega (arith, h i, flown f m l h)

flight-split : (f : Entry → ℕ) (p : Inflight → Bool) (l : List Inflight) → sum f (entries l) ≡ sum f (entries (keep (λ i. not (p i)) l)) + sum f (entries (keep p l))
flight-split f p [] = refl
flight-split f p (i ∷ l) = by-test (p i) (λ c. rw c (omega (arith, flight-split f p l))) (λ c. rw c (omega (arith, flight-split f p l)))

flight-fleeting : (p : Inflight → Bool) (l : List Inflight) → tally fleeting (entries (keep p l)) ≡ tally (λ i. p i && not i.entry.persistent) l
flight-fleeting p [] = refl
flight-fleeting p (i ∷ l) = by-test (p i) (λ c. rw c (omega (arith, flight-fleeting p l))) (λ c. rw c (omega (arith, flight-fleeting p l)))

flight-many : (p : Inflight → Bool) (l : List Inflight) → length (entries (keep p l)) ≡ tally p l
flight-many p l = length-map (keep p l) (λ i. i.entry) ∙ keep-count p l

-- ---- a present consumer

-- r is what an acknowledgement of type y that takes `own` makes of s
pub record Takes (y : AckType) (own : List Entry) (s : Sub) (r : Step) : Type 0 where
  pub sums : (f : Entry → ℕ) → Steady f → count_m f s ≡ count_m f r.sub + sum f own
  pub grows : Grows y own r.counts

pub keep-no : {A : Type 0} (l : List A) → keep (λ x. false) l ≡ []
keep-no [] = refl
keep-no (x ∷ l) = keep-no l

-- what it names in flight
abbrev in_range : AckType → Ack → Sub → List Entry
in_range y a s = whether is_browser s then [] else entries (keep (λ x. hits s a x y) s.inflight)

no-range : (s : Sub) → (whether is_browser s then [] else entries (keep (λ x. false) s.inflight)) ≡ []
no-range s = by-if (λ (l : List Entry). l ≡ []) (is_browser s) [] (entries (keep (λ x. false) s.inflight)) (λ c. refl) (λ c. ap entries (keep-no s.inflight))

takes_none : (y : AckType) (s v : Sub) (es : List Event) → ((f : Entry → ℕ) → Steady f → count_m f v ≡ count_m f s) → Takes y [] s (record { sub = v; counts = zero_stats; events = es })
takes_none y s v es h = record { sums = λ f w. omega (arith, h f w); grows = grows_none y }

free-same : (f : Entry → ℕ) (hit : Inflight → Bool) (tx : Bool) (s : Sub) → count_m f (free hit tx s) ≡ count_m f s
unfolding is_browser
free-same f hit tx s = count_same f s (free hit tx s) refl (flown f (freed_as hit tx) s.inflight (λ i. ap f (marked-entry hit tx i)))

bumped-entry : (f : Entry → ℕ) → Steady f → (hit : Inflight → Bool) (i : Inflight) → f (bumped hit i).entry ≡ f i.entry
bumped-entry f w hit i = by-if (λ (x : Inflight). f x.entry ≡ f i.entry) (hit i) _ i (λ c. w i.entry) (λ c. refl)

redeliver-same : (f : Entry → ℕ) → Steady f → (hit : Inflight → Bool) (s : Sub) → count_m f (redeliver hit s) ≡ count_m f s
unfolding is_browser
redeliver-same f w hit s = count_same f s (redeliver hit s) refl (flown f (bumped hit) s.inflight (bumped-entry f w hit))

removed-browser : (hit : Inflight → Bool) (s : Sub) → is_browser (remove_inflight hit s) ≡ is_browser s
unfolding is_browser
removed-browser hit s = refl

-- two ifs of one test
pub by-ifs : {A B : Type 0} (Q : A → B → Type 0) (b : Bool) (x y : A) (u v : B) → (b ≡ true → Q x u) → (b ≡ false → Q y v) → Q (whether b then x else y) (whether b then u else v)
by-ifs Q true x y u v f g = f refl
by-ifs Q false x y u v f g = g refl

-- what is removed counts by c, unless the consumer is a browser
removes : (y : AckType) (hit : Inflight → Bool) (c : Stats) (es : List Event) (s : Sub) → Grows y (entries (keep hit s.inflight)) c → Takes y (whether is_browser s then [] else entries (keep hit s.inflight)) s (record { sub = remove_inflight hit s; counts = unless_browser s c; events = es })
removes y hit c es s g = by-ifs (λ (own : List Entry) (d : Stats). Takes y own s (record { sub = remove_inflight hit s; counts = d; events = es })) (is_browser s) [] (entries (keep hit s.inflight)) zero_stats c
    (λ b. record { sums = λ f w. omega (arith, count-browser f s b, count-browser f (remove_inflight hit s) (removed-browser hit s ∙ b)); grows = grows_none y })
    (λ b. record { sums = λ f w. omega (arith, count-plain f s b, count-plain f (remove_inflight hit s) (removed-browser hit s ∙ b), flight-split f hit s.inflight); grows = g })

marks : (y : AckType) (hit : Inflight → Bool) (tx : Bool) (s : Sub) → Takes y [] s (record { sub = free hit tx s; counts = zero_stats; events = [] })
marks y hit tx s = takes_none y s (free hit tx s) [] (λ f w. free-same f hit tx s)

transacted-takes : (y : AckType) (a : Ack) (s : Sub) → Takes y [] s (record { sub = ack_transacted a s y; counts = zero_stats; events = [] })
unfolding ack_transacted
transacted-takes Delivered a s = marks Delivered (ack_range s a false) false s
transacted-takes Poison a s = marks Poison (ack_range s a false) true s
transacted-takes Standard a s = marks Standard (ack_range s a true) true s
transacted-takes Redelivered a s = marks Redelivered (ack_range s a false) true s
transacted-takes Individual a s = marks Individual (ack_last s a) true s
transacted-takes Unmatched a s = marks Unmatched (ack_range s a true) true s
transacted-takes Expired a s = marks Expired (ack_range s a false) true s
transacted-takes Other a s = marks Other (ack_range s a false) true s

-- none, where none is named
takes-no : (y : AckType) (s : Sub) (r : Step) → Takes y [] s r → Takes y (whether is_browser s then [] else entries (keep (λ x. false) s.inflight)) s r
takes-no y s r k = subst⁻¹ (λ (l : List Entry). Takes y l s r) (no-range s) k

plain-takes : (y : AckType) (a : Ack) (s : Sub) → Takes y (in_range y a s) s (ack_plain a s y)
unfolding ack_plain hits
plain-takes Delivered a s = takes-no Delivered s _ (marks Delivered (ack_range s a false) false s)
plain-takes Poison a s = removes Poison (ack_range s a false) _ _ s (record { enqueued = refl; dequeued = refl; expired = refl; discarded = sym (flight-fleeting (ack_range s a false) s.inflight) })
plain-takes Standard a s = removes Standard (ack_range s a true) _ [] s (record { enqueued = refl; dequeued = sym (flight-many (ack_range s a true) s.inflight); expired = refl; discarded = refl })
plain-takes Redelivered a s = takes-no Redelivered s _ (takes_none Redelivered s _ [] (λ f w. redeliver-same f w (ack_range s a false) s))
plain-takes Individual a s = removes Individual (ack_last s a) _ [] s (record { enqueued = refl; dequeued = sym (flight-many (ack_last s a) s.inflight); expired = refl; discarded = refl })
plain-takes Unmatched a s = removes Unmatched (ack_range s a true) _ [] s (record { enqueued = refl; dequeued = sym (flight-many (ack_range s a true) s.inflight); expired = refl; discarded = refl })
plain-takes Expired a s = removes Expired (ack_range s a false) _ [] s (record { enqueued = refl; dequeued = refl; expired = sym (flight-many (ack_range s a false) s.inflight); discarded = refl })
plain-takes Other a s = takes-no Other s _ (takes_none Other s s [] (λ f w. refl))

pub ack-takes : (a : Ack) (s : Sub) → Takes (ack_type a.type) (whether a.transacted then [] else in_range (ack_type a.type) a s) s (ack_sub a s)
unfolding ack_sub
ack-takes a s = by-ifs (λ (own : List Entry) (r : Step). Takes (ack_type a.type) own s r) a.transacted [] (in_range (ack_type a.type) a s) _ _ (λ c. transacted-takes (ack_type a.type) a s) (λ c. plain-takes (ack_type a.type) a s)

-- ---- the destination

-- v is t without the entries `own`, which did not wait
pub record Acked (y : AckType) (own : List Entry) (t v : Dest) : Type 0 where
  pub sums : (f : Entry → ℕ) → Steady f → queue_sum f t ≡ queue_sum f v + sum f own
  pub waits : v.pending ≡ t.pending
  pub counts : Stats
  pub grows : Grows y own counts
  pub stats : v.stats ≡ t.stats ⊕ counts

pub present-acked : (i : Id) (a : Ack) (s : Sub) (t : Dest) → sub_of i t ≡ some s → Acked (ack_type a.type) (whether a.transacted then [] else named_at i a t (some s)) t (count (ack_sub a s).counts (put_sub i (ack_sub a s).sub t))
present-acked i a s t e =
    let k = ack-takes a s in
    record { sums = λ f w. omega (arith, k.sums f w, sums-put (count_m f) (is_id i) t.subs s (ack_sub a s).sub e); waits = refl; counts = (ack_sub a s).counts; grows = k.grows; stats = refl }

held-split : (f : Entry → ℕ) (p : Held → Bool) (q : Entry → Bool) (l : List Held) → sum f (map (λ h. h.entry) l) ≡ sum f (map (λ h. h.entry) (keep (λ h. not (p h && q h.entry)) l)) + sum f (keep q (map (λ h. h.entry) (keep p l)))
held-split f p q [] = refl
held-split f p q (h ∷ l) = by-test (p h)
    (λ c. by-test (q h.entry) (λ d. rw (c, d) (omega (arith, held-split f p q l))) (λ d. rw (c, d) (omega (arith, held-split f p q l))))
    (λ c. rw c (omega (arith, held-split f p q l)))

reserved-grows : (y : AckType) (l : List Entry) → Grows y l (reserved_counts l y)
unfolding reserved_counts
reserved-grows Poison l = record { enqueued = refl; dequeued = refl; expired = refl; discarded = refl }
reserved-grows Expired l = record { enqueued = refl; dequeued = refl; expired = refl; discarded = refl }
reserved-grows Standard l = record { enqueued = refl; dequeued = refl; expired = refl; discarded = refl }
reserved-grows Unmatched l = record { enqueued = refl; dequeued = refl; expired = refl; discarded = refl }
reserved-grows Individual l = record { enqueued = refl; dequeued = refl; expired = refl; discarded = refl }
reserved-grows Delivered l = record { enqueued = refl; dequeued = refl; expired = refl; discarded = refl }
reserved-grows Redelivered l = record { enqueued = refl; dequeued = refl; expired = refl; discarded = refl }
reserved-grows Other l = record { enqueued = refl; dequeued = refl; expired = refl; discarded = refl }

pub same-acked : (y : AckType) (t : Dest) → Acked y [] t t
same-acked y t = record { sums = λ f w. omega arith; waits = refl; counts = zero_stats; grows = grows_none y; stats = sym (⊕-zero t.stats) }

pub absent-acked : (i : Id) (a : Ack) (t : Dest) (o : Option ℕ) → Acked (ack_type a.type) (named_reserved i a t o) t (ack_reserved i a t o).dest
unfolding ack_reserved
absent-acked i a t none = same-acked (ack_type a.type) t
absent-acked i a t (some last) = record {
  sums = λ f w. omega (arith, held-split f (held_by i) (λ e. reserved_hit a.first last e (ack_type a.type)) t.reserved);
  waits = refl;
  counts = reserved_counts (keep (λ e. reserved_hit a.first last e (ack_type a.type)) (reserved_of i t)) (ack_type a.type);
  grows = reserved-grows (ack_type a.type) (keep (λ e. reserved_hit a.first last e (ack_type a.type)) (reserved_of i t));
  stats = refl;
}

-- with nothing reserved, nothing is named
pub none-reserved : (i : Id) (a : Ack) (t : Dest) (o : Option ℕ) → empty (reserved_of i t) ≡ true → named_reserved i a t o ≡ []
none-reserved i a t none h = refl
none-reserved i a t (some last) h = ap (keep (λ e. reserved_hit a.first last e (ack_type a.type))) (empty-nil (reserved_of i t) h)
