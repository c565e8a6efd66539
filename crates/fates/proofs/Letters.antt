-- The dead letters that a call sends are the persistent entries that it dead-letters, in order. Assumes nothing.
use Prim.Native.Nat.{ℕ, zero, suc, ◌+◌, ◌-◌}
use mathlib.Core.Path.{◌≡◌, refl, sym, ◌∙◌, ap, ap₂}
use mathlib.Core.Bool.{Bool, true, false, not, ◌&&◌, ◌||◌}
use mathlib.Core.List.{List, [], ◌∷◌, ◌++◌, map, append-nil}
use mathlib.Core.Option.{Option, none, some}
use lib.Dec.{ltb, eqb}
use lib.IntN.{ℤ, pos}
use lib.Signed.{lt_z}
use Rattle.audit.specs.Audit.{seen}
use Rattle.definition.specs.Base.{whether◌then◌else◌, keep, find, nth, empty, is_some}
use Rattle.definition.specs.Types.{Kind, queue, topic, Id, Entry, Inflight, Sub, Audit, Dest, Event}
use Rattle.definition.specs.Consumer.{expired, is_browser, snapshot, has_credit, AckType, Delivered, Poison, Standard, Redelivered, Individual, Unmatched, Expired, Other, ack_type, Ack, ack_range, dead_letters, ack_plain, ack_sub, Step, meet_topic, drain_topic, at_rest, serve_topic, Browse, meet_browser, close_browser, drain_browser}
use Rattle.definition.specs.Destination.{Out, Answer, sub_of, Look, look, Turn, given, visit_at, visit, scan, turns, rounds, browsers, dispatch_queue, serve_all, dispatch_topic, dispatch_by, due, enqueue_by, add_sub, set_prefetch, reserved_of, reserved_hit, letters, reserved_events, ack_reserved, ack_at, ack, pulled, resumed, pull_at, pull, fired, timeout_at, pull_timeout, remove_at, remove_sub, return_reserved, sweep_list, sweep_subs, sweep_expired, clear, audit_of, test_at, is_duplicate}
use Rattle.definition.specs.Calls.{acknowledge, pulling, timed_out, prefetching, Call, enqueuing, joining, leaving, asking, unmarking, releasing, sweeping, clearing, adding, removing, testing, forgetting, discarding, missing, Lengths, ask, perform, refusal, Result, call, brought}
use Rattle.definition.specs.Words.{step}
use Rattle.definition.proofs.Tests.{or-no-left, by-test, by-if, if-false}
use Rattle.definition.proofs.Local.{browsed}
use Rattle.definition.proofs.Made.{call-accepted}
use Rattle.definition.proofs.Reorder.{keep_append}
use Rattle.fates.proofs.Run.{called}
use Rattle.fates.proofs.Acks.{keep-no, by-ifs, none-reserved}
use Rattle.fates.proofs.Named.{removals-are-named}
use Rattle.fates.specs.Fates.{Fate, dead_lettered, same_fate, Means, acks, clears, expires, means, waits, removal, fate_by, hits, named_reserved, named_at, named_by, leavers, departing, departures}
use Rattle.fates.specs.Fates as Fates
use Rattle.fates.specs.Account.{left_as}
use Rattle.fates.specs.Books.{is_letter, letter_of, cause_of, LettersAreSent}

-- ---- no letters

abbrev Quiet : List Event → Type 0
Quiet es = keep is_letter es ≡ []

quiet-append : (x y : List Event) → Quiet x → Quiet y → Quiet (x ++ y)
quiet-append x y h g = keep_append is_letter x y ∙ ap₂ (λ (p q : List Event). p ++ q) h g

drained : (now : ℕ) (l : List Entry) (b : Browse) → Quiet b.events → Quiet (drain_browser now l b).events
unfolding drain_browser close_browser meet_browser
drained now [] b h = by-if (λ (x : Browse). Quiet x.events) (has_credit b.sub) (close_browser b) b
    (λ c. by-if (λ (x : Browse). Quiet x.events) b.sub.finished b _ (λ d. h) (λ d. quiet-append b.events _ h refl))
    (λ c. h)
drained now (e ∷ es) b h = by-if (λ (x : Browse). Quiet x.events) (has_credit b.sub) (drain_browser now es (meet_browser now e es b)) b
    (λ c. drained now es (meet_browser now e es b) (by-if (λ (x : Browse). Quiet x.events) (expired (pos now) e) _ _ (λ d. h) (λ d. quiet-append b.events _ h refl)))
    (λ c. h)

browse-quiet : (now : ℕ) (l : List Sub) (p : List Entry) → Quiet (browsers now l p).events
unfolding browsers
browse-quiet now [] p = refl
browse-quiet now (s ∷ l) p = quiet-append (browsed now p s).events _ (by-if (λ (x : Browse). Quiet x.events) (is_browser s) _ _ (λ c. drained now (snapshot s) _ refl) (λ c. refl)) (browse-quiet now l (browsed now p s).pending)

gave : (i : ℕ) (s : Sub) (l : Look) (t : Dest) (o : Option Entry) → Quiet (given i s l t o).events
unfolding given
gave i s l t none = refl
gave i s l t (some e) = refl

visited : (now i : ℕ) (t : Dest) (o : Option Sub) → Quiet (visit_at now i t o).events
unfolding visit_at
visited now i t none = refl
visited now i t (some s) = by-if (λ (x : Turn). Quiet x.events) (is_browser s || not (has_credit s)) _ _ (λ c. refl) (λ c. gave i s (look now s s.cursor t.pending) t _)

scanned : (now : ℕ) (is : List ℕ) (t : Dest) → Quiet (scan now is t).events
unfolding scan visit
scanned now [] t = refl
scanned now (i ∷ is) t = by-if (λ (x : Turn). Quiet x.events) (visit now i t).took (visit now i t) (scan now is (visit now i t).dest) (λ c. visited now i t (nth i t.subs)) (λ c. scanned now is (visit now i t).dest)

went : (fuel now : ℕ) (t : Dest) → Quiet (rounds fuel now t).events
unfolding rounds
went zero now t = refl
went (suc fuel) now t = by-if (λ (x : Out). Quiet x.events) (not (scan now (turns t) t).took || empty (scan now (turns t) t).dest.pending) _ _
    (λ c. scanned now (turns t) t)
    (λ c. quiet-append (scan now (turns t) t).events _ (scanned now (turns t) t) (went fuel now (scan now (turns t) t).dest))

poured : (now : ℕ) (l : List Entry) (t : Step) → Quiet t.events → Quiet (drain_topic now l t).events
unfolding drain_topic meet_topic
poured now [] t h = h
poured now (e ∷ es) t h = by-if (λ (x : Step). Quiet x.events) (has_credit t.sub) (drain_topic now es (meet_topic now e es t)) t
    (λ c. poured now es (meet_topic now e es t) (by-if (λ (x : Step). Quiet x.events) (expired (pos now) e) _ _ (λ d. h) (λ d. quiet-append t.events _ h refl)))
    (λ c. h)

served : (now : ℕ) (l : List Sub) → Quiet (serve_all now l).events
unfolding serve_all
served now [] = refl
served now (s ∷ l) = quiet-append (serve_topic now s).events (serve_all now l).events (poured now s.tpending (at_rest s) refl) (served now l)

queue-quiet : (now : ℕ) (t : Dest) → Quiet (dispatch_queue now t).events
unfolding dispatch_queue
queue-quiet now t = by-if (λ (x : Out). Quiet x.events) (empty t.subs) _ _ (λ c. refl) (λ c. quiet-append (browsers now t.subs t.pending).events _ (browse-quiet now t.subs t.pending) (went _ now _))

topic-quiet : (now : ℕ) (t : Dest) → Quiet (dispatch_topic now t).events
unfolding dispatch_topic
topic-quiet now t = served now t.subs

sends-quiet : (k : Kind) (now : ℕ) (t : Dest) → Quiet (dispatch_by now t k).events
unfolding dispatch_by
sends-quiet queue now t = queue-quiet now t
sends-quiet topic now t = topic-quiet now t

-- ---- calls that are no acknowledgements

enqueued : (k : Kind) (now : ℕ) (e : Entry) (t : Dest) → Quiet (enqueue_by now e t k).events
unfolding enqueue_by
enqueued queue now e t = queue-quiet (due now t) _
enqueued topic now e t = topic-quiet (due now t) _

removed : (now : ℕ) (i : Id) (last : ℤ) (t : Dest) (o : Option Sub) → Quiet (remove_at now i last t o).events
unfolding remove_at
removed now i last t none = refl
removed now i last t (some s) = sends-quiet _ _ _

pulled-quiet : (i : Id) (timeout : ℤ) (s : Sub) (r : Out) (o : Option ℕ) → Quiet r.events → Quiet (pulled i timeout s r o).events
unfolding pulled
pulled-quiet i timeout s r none h = h
pulled-quiet i timeout s r (some g) h = by-if (λ (x : Answer). Quiet x.events) (lt_z timeout (pos 0)) _ _ (λ c. quiet-append r.events _ h refl) (λ c. by-if (λ (x : Answer). Quiet x.events) (lt_z (pos 0) timeout) _ _ (λ d. h) (λ d. h))

resumed-quiet : (i : Id) (timeout : ℤ) (r : Out) (o : Option Sub) → Quiet r.events → Quiet (resumed i timeout r o).events
unfolding resumed
resumed-quiet i timeout r none h = h
resumed-quiet i timeout r (some s) h = pulled-quiet i timeout s r s.pull h

pull-quiet : (now : ℕ) (i : Id) (timeout : ℤ) (t : Dest) (o : Option Sub) → Quiet (pull_at now i timeout t o).events
unfolding pull_at
pull-quiet now i timeout t none = refl
pull-quiet now i timeout t (some s) = by-if (λ (x : Answer). Quiet x.events) (ltb 0 s.prefetch) _ _ (λ c. refl) (λ c. resumed-quiet i timeout _ _ (sends-quiet _ _ _))

fired-quiet : (i : Id) (generation : ℕ) (s : Sub) (t : Dest) (o : Option ℕ) → Quiet (fired i generation s t o).events
unfolding fired
fired-quiet i generation s t none = refl
fired-quiet i generation s t (some g) = by-if (λ (x : Out). Quiet x.events) (eqb g generation) _ _ (λ c. refl) (λ c. refl)

timeout-quiet : (i : Id) (generation : ℕ) (t : Dest) (o : Option Sub) → Quiet (timeout_at i generation t o).events
unfolding timeout_at
timeout-quiet i generation t none = refl
timeout-quiet i generation t (some s) = fired-quiet i generation s t s.pull

released : (now : ℕ) (i : Id) (t : Dest) → Quiet (return_reserved now i t).events
unfolding return_reserved
released now i t = by-if (λ (x : Out). Quiet x.events) (empty (reserved_of i t)) _ _ (λ c. refl) (λ c. sends-quiet _ _ _)

swept : (now most : ℕ) (t : Dest) → Quiet (sweep_expired now most t).events
unfolding sweep_expired
swept now most t =
    let w = sweep_list most (due now t) t.pending in
    let n : ℕ = w.gone + (sweep_subs (most - w.gone) (due now t) t.subs).gone in
    by-test (ltb 0 n) (λ c. rw c) (λ c. rw c)

tested : (i : Id) (q : ℕ) (t : Dest) (o : Option Audit) → Quiet (test_at i q t o).events
unfolding test_at
tested i q t none = refl
tested i q t (some a) = by-if (λ (x : Answer). Quiet x.events) (seen q a.order) _ _ (λ c. refl) (λ c. refl)

-- ---- what is dead-lettered

abbrev persist : List Entry → List Entry
persist l = keep (λ e. e.persistent) l

keep_same : (p q : Entry → Bool) (l : List Entry) → ((e : Entry) → p e ≡ q e) → keep p l ≡ keep q l
keep_same p q [] h = refl
keep_same p q (e ∷ l) h = rw (h e) (ap (λ (k : List Entry). whether q e then e ∷ k else k) (keep_same p q l h))

left-keep : (f : Fate) (t : Dest) (m : Means) (l : List Entry) → left_as f (map (departing t m) l) ≡ keep (λ e. same_fate f (fate_by t e m)) l
left-keep f t m [] = refl
left-keep f t m (e ∷ l) = by-test (same_fate f (fate_by t e m)) (λ c. rw c (ap (λ (k : List Entry). e ∷ k) (left-keep f t m l))) (λ c. rw c (left-keep f t m l))

-- of what an acknowledgement removes, by its type
dead : AckType → List Entry → List Entry
dead Poison l = l
dead Delivered l = []
dead Standard l = []
dead Redelivered l = []
dead Individual l = []
dead Unmatched l = []
dead Expired l = []
dead Other l = []

dead-none : (y : AckType) → dead y [] ≡ []
unfolding dead
dead-none Poison = refl
dead-none Delivered = refl
dead-none Standard = refl
dead-none Redelivered = refl
dead-none Individual = refl
dead-none Unmatched = refl
dead-none Expired = refl
dead-none Other = refl

-- no entry that leaves so is dead-lettered
none-dead : (t : Dest) (m : Means) (l : List Entry) → ((e : Entry) → same_fate dead_lettered (fate_by t e m) ≡ false) → left_as dead_lettered (map (departing t m) l) ≡ []
none-dead t m l h = left-keep dead_lettered t m l ∙ keep_same (λ e. same_fate dead_lettered (fate_by t e m)) (λ e. false) l h ∙ keep-no l

by-waits : (y : AckType) (b : Bool) → Fates.ack_fate y ≡ Fates.dequeued → same_fate dead_lettered (whether b then Fates.expired else Fates.ack_fate y) ≡ false
by-waits y true e = refl
by-waits y false e = ap (same_fate dead_lettered) e

own-dead : (y : AckType) (t : Dest) (l : List Entry) → left_as dead_lettered (map (departing t (acks y)) l) ≡ dead y (keep (λ e. removal t e (acks y)) l)
unfolding dead fate_by removal
own-dead Poison t l = left-keep dead_lettered t (acks Poison) l ∙ keep_same _ (λ e. not (waits t e)) l (λ e. poisoned (waits t e))
  where
    poisoned : (b : Bool) → same_fate dead_lettered (whether b then Fates.expired else dead_lettered) ≡ not b
    poisoned true = refl
    poisoned false = refl
own-dead Delivered t l = none-dead t (acks Delivered) l (λ e. by-waits Delivered (waits t e) refl)
own-dead Standard t l = none-dead t (acks Standard) l (λ e. by-waits Standard (waits t e) refl)
own-dead Redelivered t l = none-dead t (acks Redelivered) l (λ e. by-waits Redelivered (waits t e) refl)
own-dead Individual t l = none-dead t (acks Individual) l (λ e. by-waits Individual (waits t e) refl)
own-dead Unmatched t l = none-dead t (acks Unmatched) l (λ e. by-waits Unmatched (waits t e) refl)
own-dead Expired t l = none-dead t (acks Expired) l (λ e. expired-not (waits t e))
  where
    expired-not : (b : Bool) → same_fate dead_lettered (whether b then Fates.expired else Fates.expired) ≡ false
    expired-not true = refl
    expired-not false = refl
own-dead Other t l = none-dead t (acks Other) l (λ e. by-waits Other (waits t e) refl)

-- ---- an acknowledgement

all-letters : (cause : Bool) (l : List Entry) → keep is_letter (map (letter_of cause) l) ≡ map (letter_of cause) l
all-letters cause [] = refl
all-letters cause (e ∷ l) = ap (λ (es : List Event). letter_of cause e ∷ es) (all-letters cause l)

-- one more, if it is persistent
one_more : (b cause : Bool) (e : Entry) (es : List Event) (l : List Entry) → es ≡ map (letter_of cause) l → (whether b then letter_of cause e ∷ es else es) ≡ map (letter_of cause) (whether b then e ∷ l else l)
one_more true cause e es l h = ap (λ (x : List Event). letter_of cause e ∷ x) h
one_more false cause e es l h = h

flight-letters : (cause : Bool) (l : List Inflight) → dead_letters cause l ≡ map (letter_of cause) (persist (map (λ i. i.entry) l))
flight-letters cause [] = refl
flight-letters cause (i ∷ l) = one_more i.entry.persistent cause i.entry (dead_letters cause l) (persist (map (λ x. x.entry) l)) (flight-letters cause l)

default-letters : (l : List Entry) → letters l ≡ map (letter_of false) (persist l)
default-letters [] = refl
default-letters (e ∷ l) = one_more e.persistent false e (letters l) (persist l) (default-letters l)

plain-letters : (y : AckType) (a : Ack) (s : Sub) → (ack_plain a s y).events ≡ map (letter_of a.cause) (persist (dead y (whether is_browser s then [] else map (λ x. x.entry) (keep (λ x. hits s a x y) s.inflight))))
unfolding ack_plain dead hits
plain-letters Poison a s = by-test (is_browser s) (λ c. rw c) (λ c. rw c (flight-letters a.cause (keep (ack_range s a false) s.inflight)))
plain-letters Delivered a s = refl
plain-letters Standard a s = refl
plain-letters Redelivered a s = refl
plain-letters Individual a s = refl
plain-letters Unmatched a s = refl
plain-letters Expired a s = refl
plain-letters Other a s = refl

reserved-letters : (y : AckType) (l : List Entry) → reserved_events l y ≡ map (letter_of false) (persist (dead y l))
unfolding reserved_events dead
reserved-letters Poison l = default-letters l
reserved-letters Delivered l = refl
reserved-letters Standard l = refl
reserved-letters Redelivered l = refl
reserved-letters Individual l = refl
reserved-letters Unmatched l = refl
reserved-letters Expired l = refl
reserved-letters Other l = refl

-- the letters, before what a dispatch sends
first-letters : (cause : Bool) (l : List Entry) (x y : List Event) → x ≡ map (letter_of cause) l → Quiet y → keep is_letter (x ++ y) ≡ map (letter_of cause) l
first-letters cause l x y h g = keep_append is_letter x y ∙ ap₂ (λ (p q : List Event). p ++ q) (ap (keep is_letter) h ∙ all-letters cause l) g ∙ append-nil (map (letter_of cause) l)

no-letters : (y : AckType) (cause : Bool) (l : List Entry) → l ≡ [] → [] ≡ map (letter_of cause) (persist (dead y l))
no-letters y cause l h = sym (ap (λ (k : List Entry). map (letter_of cause) (persist k)) (ap (dead y) h ∙ dead-none y))

sub-letters : (i : Id) (a : Ack) (t : Dest) (s : Sub) → (ack_sub a s).events ≡ map (letter_of a.cause) (persist (dead (ack_type a.type) (whether a.transacted then [] else named_at i a t (some s))))
unfolding ack_sub
sub-letters i a t s = by-ifs (λ (r : Step) (l : List Entry). r.events ≡ map (letter_of a.cause) (persist (dead (ack_type a.type) l))) a.transacted _ _ _ _
    (λ c. no-letters (ack_type a.type) a.cause [] refl)
    (λ c. plain-letters (ack_type a.type) a s)

taken-letters : (i : Id) (a : Ack) (t : Dest) (o : Option ℕ) → (ack_reserved i a t o).events ≡ map (letter_of false) (persist (dead (ack_type a.type) (named_reserved i a t o)))
unfolding ack_reserved
taken-letters i a t none = no-letters (ack_type a.type) false [] refl
taken-letters i a t (some last) = reserved-letters (ack_type a.type) (keep (λ e. reserved_hit a.first last e (ack_type a.type)) (reserved_of i t))

ack-letters : (now : ℕ) (i : Id) (a : Ack) (t : Dest) (s : Option Sub) → keep is_letter (ack_at now i a t s).events ≡ map (letter_of (is_some s && a.cause)) (persist (dead (ack_type a.type) (whether a.transacted then [] else named_at i a t s)))
unfolding ack_at
ack-letters now i a t none = by-if (λ (r : Out). keep is_letter r.events ≡ map (letter_of false) (persist (dead (ack_type a.type) named))) (a.transacted || empty (reserved_of i t)) _ _
    (λ c. no-letters (ack_type a.type) false named (nothing c))
    (λ c. first-letters false (persist (dead (ack_type a.type) named)) (ack_reserved i a t a.last).events _
    (taken-letters i a t a.last ∙ ap (λ (l : List Entry). map (letter_of false) (persist (dead (ack_type a.type) l))) (sym (if-false [] (named_reserved i a t a.last) (or-no-left a.transacted _ c)))) (sends-quiet _ _ _))
  where
    named : List Entry
    named = whether a.transacted then [] else named_reserved i a t a.last

    nothing : (a.transacted || empty (reserved_of i t)) ≡ true → named ≡ []
    nothing c = by-if (λ (l : List Entry). l ≡ []) a.transacted [] (named_reserved i a t a.last) (λ x. refl) (λ x. none-reserved i a t a.last (sym (ap (λ b. b || empty (reserved_of i t)) x) ∙ c))
ack-letters now i a t (some s) = first-letters a.cause (persist (dead (ack_type a.type) (whether a.transacted then [] else named_at i a t (some s)))) (ack_sub a s).events _ (sub-letters i a t s) (sends-quiet _ _ _)

-- ---- each call

-- what a call that made u of t sends, where an acknowledgement has removed what it names
abbrev Sends : Call → Dest → Dest → Type 0
Sends c t u =
    ((i : Id) (a : Ack) (now : ℕ) → c ≡ asking i (acknowledge a now) → keep (λ e. removal t e (acks (ack_type a.type))) (leavers [] t u) ≡ named_by i a t)
    → keep is_letter (perform t c).events ≡ map (letter_of (cause_of t c)) (persist (left_as dead_lettered (departures c t u)))

-- one that sends none, by the clock or as a clear
clock-sends : (t u : Dest) (c : Call) → means c ≡ expires → Quiet (perform t c).events → Sends c t u
unfolding fate_by
clock-sends t u c e h g = h ∙ sym (ap (λ (l : List Entry). map (letter_of (cause_of t c)) (persist l)) (none-dead t (means c) (leavers (brought c) t u) (λ f. ap (λ (m : Means). same_fate dead_lettered (fate_by t f m)) e)))

call-sends : (c : Call) (t u : Dest) → Sends c t u
unfolding perform ask ack pull pull_timeout set_prefetch add_sub remove_sub clear is_duplicate fate_by
call-sends (asking i (acknowledge a now)) t u = λ g. ack-letters now i a t (sub_of i t)
    ∙ sym (ap (λ (l : List Entry). map (letter_of (is_some (sub_of i t) && a.cause)) (persist l)) (own-dead (ack_type a.type) t (leavers [] t u) ∙ ap (dead (ack_type a.type)) (g i a now refl)))
call-sends (asking i (pulling timeout now)) t u = clock-sends t u (asking i (pulling timeout now)) refl (pull-quiet now i timeout t (sub_of i t))
call-sends (asking i (timed_out generation)) t u = clock-sends t u (asking i (timed_out generation)) refl (timeout-quiet i generation t (sub_of i t))
call-sends (asking i (prefetching p now)) t u = clock-sends t u (asking i (prefetching p now)) refl (sends-quiet _ _ _)
call-sends (enqueuing e now) t u = clock-sends t u (enqueuing e now) refl (enqueued t.kind now e t)
call-sends (joining p now) t u = clock-sends t u (joining p now) refl (sends-quiet _ _ _)
call-sends (leaving i last now) t u = clock-sends t u (leaving i last now) refl (removed now i last t (sub_of i t))
call-sends (unmarking i) t u = clock-sends t u (unmarking i) refl refl
call-sends (releasing i now) t u = clock-sends t u (releasing i now) refl (released now i t)
call-sends (sweeping now most) t u = clock-sends t u (sweeping now most) refl (swept now most t)
call-sends clearing t u = λ g. sym (ap (λ (l : List Entry). map (letter_of false) (persist l)) (none-dead t clears (leavers [] t u) (λ f. refl)))
call-sends (adding i) t u = clock-sends t u (adding i) refl refl
call-sends (removing i now) t u = clock-sends t u (removing i now) refl refl
call-sends (testing i q) t u = clock-sends t u (testing i q) refl (by-if (λ (x : Answer). Quiet x.events) (eqb i.conn 0) _ _ (λ c. refl) (λ c. tested i q t (find (audit_of i) t.audits)))
call-sends (forgetting conn) t u = clock-sends t u (forgetting conn) refl refl
call-sends discarding t u = clock-sends t u discarding refl refl
call-sends missing t u = clock-sends t u missing refl refl

call-events : (lent : Lengths) (c : Call) (t : Dest) → refusal lent c t ≡ 0 → (call lent c t).events ≡ (perform t c).events
unfolding call
call-events lent c t z = rw z

pub letters-are-sent : LettersAreSent
letters-are-sent lent code ws c t q low e h =
    let s = called lent code ws c t low e in
    let z : (call lent c t).refusal ≡ 0 = sym (ap (λ (x : Result). x.refusal) s) ∙ h in
    let u = (step lent code ws t).dest in
    ap (λ (x : Result). keep is_letter x.events) s
    ∙ ap (keep is_letter) (call-events lent c t (call-accepted lent c t z))
    ∙ call-sends c t u (λ i a now y. removals-are-named lent code ws i a now t q low (e ∙ ap some y) h)
