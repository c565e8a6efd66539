-- What the definition says of one browser, row by row. Assumes nothing.
use mathlib.Core.Path.{◌≡◌, refl, sym, ap, ◌∙◌}
use mathlib.Core.Bool.{true, false, not}
use mathlib.Core.List.{List, [], ◌∷◌, ◌++◌, append_assoc, append-nil, map, map-append}
use Prim.Native.Nat.{ℕ}
use lib.IntN.{pos}
use Rattle.words.proofs.Tests.{by-test}
use Rattle.stats.specs.declared.Stats.{Stats}
use Rattle.definition.specs.Base.{keep, tally}
use Rattle.definition.specs.Types.{Entry, Event, Sub, null, with_finished}
use Rattle.definition.specs.Consumer.{expired, has_credit, zero_stats, ◌⊕◌, add_expired, snapshot, with_snapshot, send, sent, send_null, Browse, same_seq, meet_browser, close_browser, drain_browser, dispatch_browser}
use Rattle.definition.specs.Layout.{Row, event_words}
use Rattle.definition.proofs.Local.{⊕-zero, ⊕-comm, ⊕-assoc, alone}
use Rattle.browsers.specs.Serving.{Shown, browser_stepped, browser_ran}

-- what serving leaves, with counts and events before its own
abbrev pub after : Stats → List Event → Browse → Browse
after c es b = record { sub = b.sub; pending = b.pending; counts = c ⊕ b.counts; events = es ++ b.events }

browse-eq : (s : Sub) (p : List Entry) {c c' : Stats} {es es' : List Event} → c ≡ c' → es ≡ es'
    → ◌≡◌ {A = Browse} (record { sub = s; pending = p; counts = c; events = es }) (record { sub = s; pending = p; counts = c'; events = es' })
browse-eq s p q r = λ j. record { sub = s; pending = p; counts = q j; events = r j }

module _ (now : ℕ) (c : Stats) (es : List Event) where
  meet-after : (e : Entry) (l : List Entry) (b : Browse) → meet_browser now e l (after c es b) ≡ after c es (meet_browser now e l b)
  unfolding meet_browser
  meet-after e l b = by-test (expired (pos now) e)
      (λ h. rw h (browse-eq _ _ (⊕-assoc c b.counts (add_expired (tally (same_seq e) b.pending))) refl))
      (λ h. rw h (browse-eq _ _ refl (append_assoc es b.events (sent b.sub e ∷ []))))

  close-after : (b : Browse) → close_browser (after c es b) ≡ after c es (close_browser b)
  unfolding close_browser
  close-after b = by-test b.sub.finished (λ h. rw h) (λ h. rw h (browse-eq _ _ refl (append_assoc es b.events (null b.sub.id ∷ []))))

  drain-after : (l : List Entry) (b : Browse) → drain_browser now l (after c es b) ≡ after c es (drain_browser now l b)
  unfolding drain_browser
  drain-after [] b = by-test (has_credit b.sub) (λ h. rw h (close-after b)) (λ h. rw h)
  drain-after (e ∷ l) b = by-test (has_credit b.sub)
      (λ h. rw h (ap (drain_browser now l) (meet-after e l b) ∙ drain-after l (meet_browser now e l b)))
      (λ h. rw h)

module _ (now : ℕ) (pending : List Entry) (s : Sub) where
  -- no credit
  stop-at : (l : List Entry) → has_credit s ≡ false → drain_browser now l (alone pending s) ≡ alone pending s
  unfolding drain_browser
  stop-at [] h = rw h
  stop-at (e ∷ l) h = rw h

  pub serve-stop : has_credit s ≡ false → dispatch_browser now pending s ≡ alone pending s
  serve-stop h = stop-at (snapshot s) h

  -- nothing left to show: the null has been sent, or is sent now
  module _ (none : snapshot s ≡ []) (credited : has_credit s ≡ true) where
    serve-none : dispatch_browser now pending s ≡ close_browser (alone pending s)
    unfolding drain_browser
    serve-none = ap (λ (l : List Entry). drain_browser now l (alone pending s)) none ∙ rw credited

    pub serve-finished : s.finished ≡ true → dispatch_browser now pending s ≡ alone pending s
    unfolding close_browser
    serve-finished h = serve-none ∙ rw h

    pub serve-closed : s.finished ≡ false → dispatch_browser now pending s ≡ record { sub = send_null (with_finished true s); pending = pending; counts = zero_stats; events = null s.id ∷ [] }
    unfolding close_browser
    serve-closed h = serve-none ∙ rw h

  module _ (e : Entry) (l : List Entry) (first : snapshot s ≡ e ∷ l) (credited : has_credit s ≡ true) where
    serve-first : dispatch_browser now pending s ≡ drain_browser now l (meet_browser now e l (alone pending s))
    unfolding drain_browser
    serve-first = ap (λ (x : List Entry). drain_browser now x (alone pending s)) first ∙ rw credited

    -- the first has expired
    abbrev pub left : List Entry
    left = keep (λ f. not (same_seq e f)) pending

    abbrev pub lost : Stats
    lost = add_expired (tally (same_seq e) pending)

    meet-lost : expired (pos now) e ≡ true → meet_browser now e l (alone pending s) ≡ after lost [] (alone left (with_snapshot l s))
    unfolding meet_browser
    meet-lost h = rw h (browse-eq (with_snapshot l s) left (⊕-comm zero_stats lost) refl)

    pub serve-lost : expired (pos now) e ≡ true → dispatch_browser now pending s ≡ after lost [] (dispatch_browser now left (with_snapshot l s))
    serve-lost h = serve-first ∙ ap (drain_browser now l) (meet-lost h) ∙ drain-after now lost [] l (alone left (with_snapshot l s))

    -- or it is sent
    meet-sent : expired (pos now) e ≡ false → meet_browser now e l (alone pending s) ≡ after zero_stats (sent s e ∷ []) (alone pending (send e (with_snapshot l s)))
    unfolding meet_browser
    meet-sent h = rw h

    pub serve-sent : expired (pos now) e ≡ false → dispatch_browser now pending s ≡ after zero_stats (sent s e ∷ []) (dispatch_browser now pending (send e (with_snapshot l s)))
    serve-sent h = serve-first ∙ ap (drain_browser now l) (meet-sent h) ∙ drain-after now zero_stats (sent s e ∷ []) l (alone pending (send e (with_snapshot l s)))

-- ---- what is counted and sent first, and then the rest, is all

shown-eq : (v : Shown) (s : Sub) (p : List Entry) {c c' : Stats} {l l' : List Row} → c ≡ c' → l ≡ l'
    → ◌≡◌ {A = Shown} (record { before = v.before; sub = s; after = v.after; pending = p; stats = c; events = l })
    (record { before = v.before; sub = s; after = v.after; pending = p; stats = c'; events = l' })
shown-eq v s p q r = λ j. record { before = v.before; sub = s; after = v.after; pending = p; stats = q j; events = r j }

pub ran-rest : (now : ℕ) (v : Shown) → dispatch_browser now v.pending v.sub ≡ alone v.pending v.sub → browser_ran now v ≡ v
ran-rest now v h = ap (λ (b : Browse). browser_stepped b v) h ∙ shown-eq v v.sub v.pending (⊕-zero v.stats) (append-nil v.events)

pub ran-turn : (now : ℕ) (c : Stats) (es : List Event) (p : List Entry) (s : Sub) (v : Shown) → dispatch_browser now v.pending v.sub ≡ after c es (dispatch_browser now p s)
    → browser_ran now (browser_stepped (record { sub = s; pending = p; counts = c; events = es }) v) ≡ browser_ran now v
ran-turn now c es p s v h =
    let b : Browse = dispatch_browser now p s in
    shown-eq v b.sub b.pending (⊕-assoc v.stats c b.counts)
    (append_assoc v.events (map event_words es) (map event_words b.events) ∙ ap (λ (l : List Row). v.events ++ l) (sym (map-append event_words es b.events)))
    ∙ ap (λ (x : Browse). browser_stepped x v) (sym h)
