-- Where every consumer is at rest, a dispatch reaches the one consumer that a call has changed, and no other. Assumes nothing.
use Prim.Native.Nat.{ℕ, zero, suc}
use native.Mathlib.Nat.{add-zero, zero-add, add_assoc, add_comm}
use mathlib.Core.Path.{◌≡◌, refl, sym, ◌∙◌, ap}
use mathlib.Core.Bool.{true, false, not, ◌||◌, true≢false}
use mathlib.Core.List.{List, [], ◌∷◌, append-nil}
use mathlib.Core.Option.{Option, none, some}
use lib.ListN.{set}
use lib.IntN.{pos}
use Rattle.definition.specs.Base.{whether◌then◌else◌, find, put, nth}
use Rattle.definition.specs.Types.{Kind, queue, topic, Id, Entry, Sub, Stats, Dest, with_pending, with_subs, with_stats}
use Rattle.definition.specs.Consumer.{expired, zero_stats, ◌⊕◌, Step, is_browser, snapshot, has_credit, meet_topic, drain_topic, at_rest, serve_topic, Browse, meet_browser, close_browser, drain_browser, dispatch_browser}
use Rattle.definition.specs.Destination.{visit_at, look, Turn, given, visit, scan, turns, rounds, browsers, dispatch_queue, serve_all, dispatch_topic, dispatch_by, due, dispatch, is_id}
use Rattle.definition.proofs.Tests.{if-false, by-if, by-test}
use Rattle.definition.proofs.Reorder.{nil-cons}
use Rattle.definition.proofs.Lists.{none-some, set-nth, put-not-empty, All}

-- ---- counters

pub ⊕-zero : (a : Stats) → a ⊕ zero_stats ≡ a
⊕-zero a = λ i. record { enqueued = add-zero a.enqueued i; dequeued = add-zero a.dequeued i; expired = add-zero a.expired i; discarded = add-zero a.discarded i; dispatched = add-zero a.dispatched i }

pub zero-⊕ : (a : Stats) → zero_stats ⊕ a ≡ a
zero-⊕ a = λ i. record { enqueued = zero-add a.enqueued i; dequeued = zero-add a.dequeued i; expired = zero-add a.expired i; discarded = zero-add a.discarded i; dispatched = zero-add a.dispatched i }

pub ⊕-assoc : (a b c : Stats) → (a ⊕ b) ⊕ c ≡ a ⊕ (b ⊕ c)
⊕-assoc a b c = λ i. record { enqueued = add_assoc a.enqueued b.enqueued c.enqueued i; dequeued = add_assoc a.dequeued b.dequeued c.dequeued i; expired = add_assoc a.expired b.expired c.expired i; discarded = add_assoc a.discarded b.discarded c.discarded i; dispatched = add_assoc a.dispatched b.dispatched c.dispatched i }

pub ⊕-comm : (a b : Stats) → a ⊕ b ≡ b ⊕ a
⊕-comm a b = λ i. record { enqueued = add_comm a.enqueued b.enqueued i; dequeued = add_comm a.dequeued b.dequeued i; expired = add_comm a.expired b.expired i; discarded = add_comm a.discarded b.discarded i; dispatched = add_comm a.dispatched b.dispatched i }

-- ---- consumers at rest

-- a topic's consumer with credit has nothing waiting
abbrev pub RestsTopic : Sub → Type 0
RestsTopic s = has_credit s ≡ true → s.tpending ≡ []

-- a queue's browser with credit has nothing left to show, and has said so
abbrev pub RestsQueue : Sub → Type 0
RestsQueue s = is_browser s ≡ true → has_credit s ≡ true → (snapshot s ≡ []) × (s.finished ≡ true)

rest-topic : (now : ℕ) (s : Sub) → RestsTopic s → serve_topic now s ≡ at_rest s
unfolding drain_topic
rest-topic now s h = go s.tpending refl
  where
    go : (l : List Entry) → s.tpending ≡ l → drain_topic now l (at_rest s) ≡ at_rest s
    go [] q = refl
    go (e ∷ es) q = by-test (has_credit s) (λ c. absurd (nil-cons (sym (h c) ∙ q))) (λ c. rw c)

pub meet-tpending : (now : ℕ) (e : Entry) (es : List Entry) (t : Step) → (meet_topic now e es t).sub.tpending ≡ es
unfolding meet_topic
meet-tpending now e es t = by-test (expired (pos now) e) (λ c. rw c) (λ c. rw c)

meet-id : (now : ℕ) (e : Entry) (es : List Entry) (t : Step) → (meet_topic now e es t).sub.id ≡ t.sub.id
unfolding meet_topic
meet-id now e es t = by-test (expired (pos now) e) (λ c. rw c) (λ c. rw c)

pub drained-rests : (now : ℕ) (l : List Entry) (t : Step) → t.sub.tpending ≡ l → RestsTopic (drain_topic now l t).sub
unfolding drain_topic
drained-rests now [] t q = λ c. q
drained-rests now (e ∷ es) t q = by-test (has_credit t.sub)
    (λ c. rw c (drained-rests now es (meet_topic now e es t) (meet-tpending now e es t)))
    (λ c. rw c (λ y. absurd (true≢false (sym y ∙ c))))

pub drained-id : (now : ℕ) (l : List Entry) (t : Step) → (drain_topic now l t).sub.id ≡ t.sub.id
unfolding drain_topic
drained-id now [] t = refl
drained-id now (e ∷ es) t = by-test (has_credit t.sub) (λ c. rw c (drained-id now es (meet_topic now e es t) ∙ meet-id now e es t)) (λ c. rw c)

rest-browser : (now : ℕ) (s : Sub) → is_browser s ≡ true → RestsQueue s → dispatch_browser now [] s ≡ record { sub = s; pending = []; counts = zero_stats; events = [] }
unfolding drain_browser close_browser
rest-browser now s b h = go (snapshot s) refl
  where
    still : Browse
    still = record { sub = s; pending = []; counts = zero_stats; events = [] }

    go : (l : List Entry) → snapshot s ≡ l → drain_browser now l still ≡ still
    go [] q = by-test (has_credit s) (λ c. rw (c, (h b c).1)) (λ c. rw c)
    go (e ∷ es) q = by-test (has_credit s) (λ c. absurd (nil-cons (sym (h b c).0 ∙ q))) (λ c. rw c)

closed-rests : (b : Browse) → snapshot b.sub ≡ [] → RestsQueue (close_browser b).sub
unfolding close_browser
closed-rests b q = by-if (λ (t : Browse). RestsQueue t.sub) b.sub.finished b _ (λ f u v. (q, f)) (λ f u v. (q, refl))

pub browsed-rests : (now : ℕ) (l : List Entry) (b : Browse) → snapshot b.sub ≡ l → RestsQueue (drain_browser now l b).sub
unfolding drain_browser meet_browser
browsed-rests now [] b q = by-test (has_credit b.sub) (λ c. rw c (closed-rests b q)) (λ c. rw c (λ u v. absurd (true≢false (sym v ∙ c))))
browsed-rests now (e ∷ es) b q = by-test (has_credit b.sub)
    (λ c. rw c (browsed-rests now es (meet_browser now e es b) (by-test (expired (pos now) e) (λ f. rw f) (λ f. rw f))))
    (λ c. rw c (λ u v. absurd (true≢false (sym v ∙ c))))

pub browsed-id : (now : ℕ) (l : List Entry) (b : Browse) → (drain_browser now l b).sub.id ≡ b.sub.id
unfolding drain_browser close_browser meet_browser
browsed-id now [] b = by-test (has_credit b.sub) (λ c. by-test b.sub.finished (λ f. rw (c, f)) (λ f. rw (c, f))) (λ c. rw c)
browsed-id now (e ∷ es) b = by-test (has_credit b.sub)
    (λ c. rw c (browsed-id now es (meet_browser now e es b) ∙ by-test (expired (pos now) e) (λ f. rw f) (λ f. rw f)))
    (λ c. rw c)

browsed-pending : (now : ℕ) (l : List Entry) (b : Browse) → b.pending ≡ [] → (drain_browser now l b).pending ≡ []
unfolding drain_browser close_browser meet_browser
browsed-pending now [] b q = by-test (has_credit b.sub) (λ c. by-test b.sub.finished (λ f. rw (c, f) q) (λ f. rw (c, f) q)) (λ c. rw c q)
browsed-pending now (e ∷ es) b q = by-test (has_credit b.sub)
    (λ c. rw c (browsed-pending now es (meet_browser now e es b) (by-test (expired (pos now) e) (λ f. rw (f, q)) (λ f. rw f q))))
    (λ c. rw c q)

-- ---- dispatch to the one consumer

abbrev pub alone : List Entry → Sub → Browse
alone p s = record { sub = s; pending = p; counts = zero_stats; events = [] }

-- a browser served, anyone else as it is
abbrev pub browsed : ℕ → List Entry → Sub → Browse
browsed now p s = whether is_browser s then dispatch_browser now p s else alone p s

abbrev pub Rests : Kind → Sub → Type 0
Rests topic s = RestsTopic s
Rests queue s = RestsQueue s

-- what a dispatch does to a consumer by itself, with nothing waiting on the queue
abbrev pub serve : Kind → ℕ → Sub → Step
serve topic now s = serve_topic now s
serve queue now s =
    whether is_browser s then record { sub = (dispatch_browser now [] s).sub; counts = (dispatch_browser now [] s).counts; events = (dispatch_browser now [] s).events }
    else at_rest s

pub serve-rests : (k : Kind) (now : ℕ) (s : Sub) → Rests k (serve k now s).sub
serve-rests topic now s = drained-rests now s.tpending (at_rest s) refl
serve-rests queue now s = by-test (is_browser s) (λ b. rw b (browsed-rests now (snapshot s) (alone [] s) refl)) (λ b. rw b (λ u v. absurd (true≢false (sym u ∙ b))))

pub serve-id : (k : Kind) (now : ℕ) (s : Sub) → (serve k now s).sub.id ≡ s.id
serve-id topic now s = drained-id now s.tpending (at_rest s)
serve-id queue now s = by-test (is_browser s) (λ b. rw b (browsed-id now (snapshot s) (alone [] s))) (λ b. rw b)

-- a topic
serve_all-rest : (now : ℕ) (l : List Sub) → All RestsTopic l → serve_all now l ≡ record { subs = l; counts = zero_stats; events = [] }
unfolding serve_all
serve_all-rest now [] h = refl
serve_all-rest now (s ∷ l) h = rw (rest-topic now s h.0, serve_all-rest now l h.1)

serve_all-put : (now : ℕ) (i : Id) (v : Sub) (l : List Sub) (s : Sub) → All RestsTopic l → find (is_id i) l ≡ some s →
    serve_all now (put (is_id i) v l) ≡ record { subs = put (is_id i) (serve_topic now v).sub l; counts = (serve_topic now v).counts; events = (serve_topic now v).events }
unfolding serve_all
serve_all-put now i v [] s h e = absurd (none-some e)
serve_all-put now i v (r ∷ l) s h e = by-test (is_id i r)
    (λ c. rw (c, serve_all-rest now l h.1) (simp (add-zero, append-nil)))
    (λ c. rw (c, rest-topic now r h.0, serve_all-put now i v l s h.1 (sym (if-false (some r) (find (is_id i) l) c) ∙ e)) (simp zero-add))

-- a queue with nothing waiting
browsers-rest : (now : ℕ) (l : List Sub) → All RestsQueue l → browsers now l [] ≡ record { subs = l; pending = []; counts = zero_stats; events = [] }
unfolding browsers
browsers-rest now [] h = refl
browsers-rest now (s ∷ l) h = by-test (is_browser s)
    (λ b. rw (b, rest-browser now s b h.0, browsers-rest now l h.1))
    (λ b. rw (b, browsers-rest now l h.1))

browsers-put : (now : ℕ) (i : Id) (v : Sub) (l : List Sub) (s : Sub) → All RestsQueue l → find (is_id i) l ≡ some s →
    browsers now (put (is_id i) v l) [] ≡ record { subs = put (is_id i) (serve queue now v).sub l; pending = []; counts = (serve queue now v).counts; events = (serve queue now v).events }
unfolding browsers
browsers-put now i v [] s h e = absurd (none-some e)
browsers-put now i v (r ∷ l) s h e = by-test (is_id i r)
    (λ c. by-test (is_browser v)
    (λ b. rw (c, b, browsed-pending now (snapshot v) (alone [] v) refl, browsers-rest now l h.1) (simp (add-zero, append-nil)))
    (λ b. rw (c, b, browsers-rest now l h.1)))
    (λ c. by-test (is_browser r)
    (λ b. rw (c, b, rest-browser now r b h.0, browsers-put now i v l s h.1 (sym (if-false (some r) (find (is_id i) l) c) ∙ e)) (simp zero-add))
    (λ b. rw (c, b, browsers-put now i v l s h.1 (sym (if-false (some r) (find (is_id i) l) c) ∙ e)) (simp zero-add)))

-- with nothing waiting, no consumer takes anything
abbrev idle_turn : Dest → Turn
idle_turn t = record { took = false; dest = t; events = [] }

-- the destination with these three fields anew
abbrev renewed : Dest → List Entry → List Sub → Stats → Dest
renewed t p u c = with_subs u (with_stats c (with_pending p t))

given-none : (i : ℕ) (s : Sub) (t : Dest) → nth i t.subs ≡ some s → t.pending ≡ [] →
    given i s (record { pending = []; chosen = none; cursor = s.cursor; gone = 0 }) t none ≡ idle_turn t
unfolding given
given-none i s t e q =
    let p : [] ≡ t.pending = sym q in
    let u : set t.subs i s ≡ t.subs = set-nth i t.subs s e in
    let c : t.stats ⊕ zero_stats ≡ t.stats = ⊕-zero t.stats in
    λ j. idle_turn (renewed t (p j) (u j) (c j))

visit-none : (now i : ℕ) (t : Dest) → t.pending ≡ [] → visit now i t ≡ idle_turn t
unfolding visit visit_at look
visit-none now i t q = go (nth i t.subs) refl
  where
    go : (o : Option Sub) → nth i t.subs ≡ o → visit now i t ≡ idle_turn t
    go none e = rw e
    go (some s) e = rw e (by-test (is_browser s || not (has_credit s)) (λ c. rw c) (λ c. rw c (ap (λ (p : List Entry). given i s (look now s s.cursor p) t (look now s s.cursor p).chosen) q ∙ given-none i s t e q)))

scan-none : (now : ℕ) (is : List ℕ) (t : Dest) → t.pending ≡ [] → scan now is t ≡ idle_turn t
unfolding scan
scan-none now [] t q = refl
scan-none now (i ∷ is) t q = rw (visit-none now i t q) (scan-none now is t q)

pub rounds-none : (fuel now : ℕ) (t : Dest) → t.pending ≡ [] → rounds fuel now t ≡ record { dest = t; events = [] }
unfolding rounds
rounds-none zero now t q = refl
rounds-none (suc fuel) now t q = rw (scan-none now (turns t) t q)

-- ---- a dispatch after one consumer has changed

-- the destination with v in the place of the consumer i, and c added to the counters
abbrev pub changed : Id → Sub → Stats → Dest → Dest
changed i v c t = with_stats (t.stats ⊕ c) (with_subs (put (is_id i) v t.subs) t)

-- every consumer is at rest, and on a queue nothing waits
pub record Resting (t : Dest) : Type 0 where
  pub subs : All (Rests t.kind) t.subs
  pub none-waits : t.kind ≡ queue → t.pending ≡ []
  pub idle : t.idle ≡ none

pub dispatch-one : (now : ℕ) (i : Id) (v : Sub) (c : Stats) (s : Sub) (t : Dest) (k : Kind) → t.kind ≡ k → All (Rests k) t.subs → (k ≡ queue → t.pending ≡ []) → find (is_id i) t.subs ≡ some s →
    dispatch now (changed i v c t) ≡ record { dest = changed i (serve k (due now t) v).sub (c ⊕ (serve k (due now t) v).counts) t; events = (serve k (due now t) v).events }
unfolding dispatch_by dispatch_topic dispatch_queue
dispatch-one now i v c s t topic e h q f = rw (e, serve_all-put (due now t) i v t.subs s h f) (simp add_assoc)
dispatch-one now i v c s t queue e h q f =
    let b = ap (λ (p : List Entry). browsers (due now t) (put (is_id i) v t.subs) p) (q refl) ∙ browsers-put (due now t) i v t.subs s h f in
    rw (e, put-not-empty (is_id i) t.subs s v f, b, rounds-none) (simp (q refl, add_assoc, append-nil))
