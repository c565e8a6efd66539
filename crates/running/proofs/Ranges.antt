-- Every event that a dispatch sends has its numbers in range, where the entries and the identifiers that it reads have. Assumes nothing.
use Prim.Native.Nat.{ℕ, zero, suc, ◌≤◌, ◌<◌, ◌^◌}
use native.Mathlib.Omega.{arith}
use mathlib.Core.Path.{◌≡◌, refl, subst}
use mathlib.Core.Bool.{Bool, true, not, ◌||◌}
use mathlib.Core.List.{List, [], ◌∷◌, ◌++◌}
use mathlib.Core.Option.{Option, none, some}
use lib.Dec.{leb, ltb}
use lib.ListN.{length}
use lib.IntN.{ℤ, pos, negsuc}
use mir.Syntax.{w64}
use mir.Val.{SFits}
use borrow.Author.Tests.{ltb-true}
use Rattle.definition.specs.Base.{all, nth, empty}
use Rattle.definition.specs.Types.{Kind, queue, topic, Id, Entry, Sub, Dest, Event, null, with_pending, with_subs, with_cursor}
use Rattle.definition.specs.Consumer.{expired, accepts, is_browser, snapshot, has_credit, send, sent, Step, meet_topic, drain_topic, serve_topic, at_rest, Browse, meet_browser, close_browser, drain_browser}
use Rattle.definition.specs.Destination.{count, Out, Look, look, Turn, given, visit_at, visit, scan, turns, rounds, Browsed, browsers, dispatch_queue, serve_all, dispatch_topic, dispatch_by}
use Rattle.definition.specs.Calls.{word, signed_within, id_ok, entry_ok}
use Rattle.definition.proofs.Tests.{by-if, by-test, and_left, and_right, and_both}
use Rattle.definition.proofs.Lists.{none-some, some_inj, All, all_keep, all-stored}
use Rattle.definition.proofs.Thin.{every-all}
use Rattle.definition.proofs.Local.{alone, browsed}
use Rattle.callfile.proofs.Events.{EventFits}

-- ---- numbers

within-fits : (half : ℕ) (z : ℤ) → half ≤ 2 ^ 63 → signed_within half z ≡ true → SFits w64 z
within-fits half (pos n) h e = let l : n < 2 ^ 63 = omega (arith, h, ltb-true n half e) in record { sfits = l }
within-fits half (negsuc n) h e = let l : n < 2 ^ 63 = omega (arith, h, ltb-true n half e) in record { sfits = l }

pub id-fits : (i : Id) → id_ok i ≡ true → SFits w64 i.session × SFits w64 i.value
id-fits i e =
    let f = and_right (word i.conn) _ e in
    (within-fits (2 ^ 63) i.session (omega arith) (and_left (signed_within (2 ^ 63) i.session) _ f), within-fits (2 ^ 63) i.value (omega arith) (and_right (signed_within (2 ^ 63) i.session) _ f))

pub redelivery-fits : (e : Entry) → entry_ok e ≡ true → SFits w64 e.redelivery
redelivery-fits e h =
    let f = every-all (leb 1 e.seq ∷ ltb e.seq (2 ^ 63) ∷ signed_within (2 ^ 63) e.expiration ∷ word e.producer ∷ word e.match_word ∷ signed_within (2 ^ 31) e.redelivery ∷ ltb e.size (2 ^ 32) ∷ []) h in
    within-fits (2 ^ 31) e.redelivery (omega arith) f.1.1.1.1.1.0

-- ---- events

-- each has its numbers in range
abbrev pub Fits : List Event → Type 0
Fits es = All EventFits es

pub both : (l m : List Event) → Fits l → Fits m → Fits (l ++ m)
both [] m a b = b
both (e ∷ l) m a b = (a.0, both l m a.1 b)

one-sent : (s : Sub) (e : Entry) → id_ok s.id ≡ true → entry_ok e ≡ true → Fits (sent s e ∷ [])
one-sent s e i h = ((id-fits s.id i, redelivery-fits e h), tt)

-- ---- a topic

-- a consumer that is ready to be sent what waits for it
pub record Ready (s : Sub) : Type 0 where
  pub id : id_ok s.id ≡ true
  pub list : all entry_ok s.tpending ≡ true
  pub shown : all entry_ok (snapshot s) ≡ true

record Serving (t : Step) : Type 0 where
  id : id_ok t.sub.id ≡ true
  sends : Fits t.events

meets : (now : ℕ) (e : Entry) (es : List Entry) (t : Step) → entry_ok e ≡ true → Serving t → Serving (meet_topic now e es t)
unfolding meet_topic
meets now e es t h g = by-if Serving (expired (pos now) e) _ _
    (λ c. record { id = g.id; sends = g.sends })
    (λ c. record { id = g.id; sends = both t.events (sent t.sub e ∷ []) g.sends (one-sent t.sub e g.id h) })

drains : (now : ℕ) (l : List Entry) (t : Step) → all entry_ok l ≡ true → Serving t → Serving (drain_topic now l t)
unfolding drain_topic
drains now [] t a g = g
drains now (e ∷ es) t a g = by-if Serving (has_credit t.sub) _ _
    (λ c. drains now es (meet_topic now e es t) (and_right (entry_ok e) _ a) (meets now e es t (and_left (entry_ok e) _ a) g))
    (λ c. g)

serves : (now : ℕ) (l : List Sub) → All Ready l → Fits (serve_all now l).events
unfolding serve_all
serves now [] a = tt
serves now (s ∷ l) a = both (serve_topic now s).events (serve_all now l).events (drains now s.tpending (at_rest s) a.0.list (record { id = a.0.id; sends = tt })).sends (serves now l a.1)

-- ---- browsers

record Browsing (b : Browse) : Type 0 where
  id : id_ok b.sub.id ≡ true
  waits : all entry_ok b.pending ≡ true
  sends : Fits b.events

shows : (now : ℕ) (e : Entry) (es : List Entry) (b : Browse) → entry_ok e ≡ true → Browsing b → Browsing (meet_browser now e es b)
unfolding meet_browser
shows now e es b h g = by-if Browsing (expired (pos now) e) _ _
    (λ c. record { id = g.id; waits = all_keep entry_ok _ b.pending g.waits; sends = g.sends })
    (λ c. record { id = g.id; waits = g.waits; sends = both b.events (sent b.sub e ∷ []) g.sends (one-sent b.sub e g.id h) })

closes : (b : Browse) → Browsing b → Browsing (close_browser b)
unfolding close_browser
closes b g = by-if Browsing b.sub.finished b _
    (λ c. g)
    (λ c. record { id = g.id; waits = g.waits; sends = both b.events (null b.sub.id ∷ []) g.sends (id-fits b.sub.id g.id, tt) })

browses : (now : ℕ) (l : List Entry) (b : Browse) → all entry_ok l ≡ true → Browsing b → Browsing (drain_browser now l b)
unfolding drain_browser
browses now [] b a g = by-if Browsing (has_credit b.sub) _ _ (λ c. closes b g) (λ c. g)
browses now (e ∷ es) b a g = by-if Browsing (has_credit b.sub) _ _
    (λ c. browses now es (meet_browser now e es b) (and_right (entry_ok e) _ a) (shows now e es b (and_left (entry_ok e) _ a) g))
    (λ c. g)

browses-one : (now : ℕ) (p : List Entry) (s : Sub) → Ready s → all entry_ok p ≡ true → Browsing (browsed now p s)
browses-one now p s a h = by-if Browsing (is_browser s) _ _
    (λ c. browses now (snapshot s) (alone p s) a.shown (record { id = a.id; waits = h; sends = tt }))
    (λ c. record { id = a.id; waits = h; sends = tt })

abbrev named : Sub → Bool
named s = id_ok s.id

record Shown (r : Browsed) : Type 0 where
  ids : all named r.subs ≡ true
  waits : all entry_ok r.pending ≡ true
  sends : Fits r.events

browses-all : (now : ℕ) (l : List Sub) (p : List Entry) → All Ready l → all entry_ok p ≡ true → Shown (browsers now l p)
unfolding browsers
browses-all now [] p a h = record { ids = refl; waits = h; sends = tt }
browses-all now (s ∷ l) p a h =
    let b = browses-one now p s a.0 h in
    let r = browses-all now l (browsed now p s).pending a.1 b.waits in
    record {
      ids = and_both (named (browsed now p s).sub) _ b.id r.ids;
      waits = r.waits;
      sends = both (browsed now p s).events (browsers now l (browsed now p s).pending).events b.sends r.sends;
    }

-- ---- the rounds of a queue

abbrev chosen_ok : Option Entry → Type 0
chosen_ok none = Unit {0}
chosen_ok (some e) = entry_ok e ≡ true

record Looked (r : Look) : Type 0 where
  waits : all entry_ok r.pending ≡ true
  chosen : chosen_ok r.chosen

looks : (now : ℕ) (s : Sub) (c : ℕ) (l : List Entry) → all entry_ok l ≡ true → Looked (look now s c l)
unfolding look
looks now s c [] a = record { waits = refl; chosen = tt }
looks now s c (e ∷ es) a =
    let h = and_left (entry_ok e) _ a in
    let t = and_right (entry_ok e) _ a in
    let r = looks now s c es t in
    let q = looks now s e.seq es t in
    by-if Looked (leb e.seq s.cursor) _ _
    (λ x. record { waits = and_both (entry_ok e) _ h r.waits; chosen = r.chosen })
    (λ x. by-if Looked (expired (pos now) e) _ _
    (λ y. record { waits = r.waits; chosen = r.chosen })
    (λ y. by-if Looked (accepts s e) _ _
    (λ z. record { waits = t; chosen = h })
    (λ z. record { waits = and_both (entry_ok e) _ h q.waits; chosen = q.chosen })))

-- what a turn leaves, and what it sends
record Left (t : Dest) (es : List Event) : Type 0 where
  ids : all named t.subs ≡ true
  waits : all entry_ok t.pending ≡ true
  sends : Fits es

abbrev Turned : Turn → Type 0
Turned r = Left r.dest r.events

abbrev Went : Out → Type 0
Went r = Left r.dest r.events

gives : (i : ℕ) (s : Sub) (l : Look) (t : Dest) (o : Option Entry) → named s ≡ true → all named t.subs ≡ true → all entry_ok l.pending ≡ true → chosen_ok o → Turned (given i s l t o)
unfolding given
gives i s l t none n a w h = record { ids = all-stored named t.subs i (with_cursor l.cursor s) a n; waits = w; sends = tt }
gives i s l t (some e) n a w h = record { ids = all-stored named t.subs i (send e (with_cursor l.cursor s)) a n; waits = w; sends = one-sent s e n h }

nth-named : (i : ℕ) (l : List Sub) (s : Sub) → nth i l ≡ some s → all named l ≡ true → named s ≡ true
nth-named i [] s e a = absurd (none-some e)
nth-named zero (r ∷ l) s e a = subst (λ (x : Sub). named x ≡ true) (some_inj e) (and_left (named r) _ a)
nth-named (suc i) (r ∷ l) s e a = nth-named i l s e (and_right (named r) _ a)

visits : (now i : ℕ) (t : Dest) → all named t.subs ≡ true → all entry_ok t.pending ≡ true → Turned (visit now i t)
unfolding visit visit_at
visits now i t a w = go (nth i t.subs) refl
  where
    go : (o : Option Sub) → nth i t.subs ≡ o → Turned (visit_at now i t o)
    go none e = record { ids = a; waits = w; sends = tt }
    go (some s) e =
        let k = looks now s s.cursor t.pending w in
        by-if Turned (is_browser s || not (has_credit s)) _ _
        (λ c. record { ids = a; waits = w; sends = tt })
        (λ c. gives i s (look now s s.cursor t.pending) t (look now s s.cursor t.pending).chosen (nth-named i t.subs s e a) a k.waits k.chosen)

scans : (now : ℕ) (is : List ℕ) (t : Dest) → all named t.subs ≡ true → all entry_ok t.pending ≡ true → Turned (scan now is t)
unfolding scan
scans now [] t a w = record { ids = a; waits = w; sends = tt }
scans now (i ∷ is) t a w =
    let v = visits now i t a w in
    by-if Turned (visit now i t).took _ _ (λ c. v) (λ c. scans now is (visit now i t).dest v.ids v.waits)

goes-round : (fuel now : ℕ) (t : Dest) → all named t.subs ≡ true → all entry_ok t.pending ≡ true → Went (rounds fuel now t)
unfolding rounds
goes-round zero now t a w = record { ids = a; waits = w; sends = tt }
goes-round (suc fuel) now t a w =
    let v = scans now (turns t) t a w in
    let r = goes-round fuel now (scan now (turns t) t).dest v.ids v.waits in
    by-test (not (scan now (turns t) t).took || empty (scan now (turns t) t).dest.pending)
    (λ c. rw c v)
    (λ c. rw c (record { ids = r.ids; waits = r.waits; sends = both (scan now (turns t) t).events (rounds fuel now (scan now (turns t) t).dest).events v.sends r.sends }))

-- ---- the dispatch

pub record Ripe (t : Dest) : Type 0 where
  pub subs : All Ready t.subs
  pub waits : all entry_ok t.pending ≡ true

pub dispatch-fits : (k : Kind) (now : ℕ) (t : Dest) → Ripe t → Fits (dispatch_by now t k).events
unfolding dispatch_by dispatch_topic dispatch_queue
dispatch-fits topic now t g = serves now t.subs g.subs
dispatch-fits queue now t g = by-if (λ (r : Out). Fits r.events) (empty t.subs) _ _
    (λ c. tt)
    (λ c. both q.events (rounds (suc (length q.pending)) now u).events b.sends (goes-round (suc (length q.pending)) now u b.ids b.waits).sends)
  where
    q : Browsed
    q = browsers now t.subs t.pending

    u : Dest
    u = count q.counts (with_pending q.pending (with_subs q.subs t))

    b : Shown q
    b = browses-all now t.subs t.pending g.subs g.waits
