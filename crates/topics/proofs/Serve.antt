-- What the definition says of one consumer of a topic, row by row. Assumes nothing.
use mathlib.Core.Path.{◌≡◌, refl, sym, ap, ◌∙◌}
use mathlib.Core.Bool.{true, false}
use mathlib.Core.List.{List, [], ◌∷◌, ◌++◌, append_assoc, append-nil, map, map-append}
use Prim.Native.Nat.{ℕ}
use lib.IntN.{pos}
use Rattle.words.proofs.Tests.{by-test}
use Rattle.stats.specs.declared.Stats.{Stats}
use Rattle.definition.specs.Types.{Entry, Event, Sub, with_tpending}
use Rattle.definition.specs.Consumer.{expired, has_credit, ◌⊕◌, add_expired, add_dispatched, Step, send, sent, meet_topic, drain_topic, at_rest, serve_topic}
use Rattle.definition.proofs.Local.{⊕-zero, ⊕-assoc}
use Rattle.definition.specs.Layout.{Row, event_words}
use Rattle.topics.specs.Topics.{Seen, topic_stepped, topic_ran}

-- a step with counts and events before its own
abbrev pub after : Stats → List Event → Step → Step
after c es t = record { sub = t.sub; counts = c ⊕ t.counts; events = es ++ t.events }

step-eq : (s : Sub) {c c' : Stats} {es es' : List Event} → c ≡ c' → es ≡ es' → ◌≡◌ {A = Step} (record { sub = s; counts = c; events = es }) (record { sub = s; counts = c'; events = es' })
step-eq s p q = λ j. record { sub = s; counts = p j; events = q j }

meet-after : (now : ℕ) (e : Entry) (l : List Entry) (c : Stats) (es : List Event) (t : Step) → meet_topic now e l (after c es t) ≡ after c es (meet_topic now e l t)
unfolding meet_topic
meet-after now e l c es t = by-test (expired (pos now) e)
    (λ h. rw h (step-eq _ (⊕-assoc c t.counts (add_expired 1)) refl))
    (λ h. rw h (step-eq _ (⊕-assoc c t.counts (add_dispatched 1)) (append_assoc es t.events (sent t.sub e ∷ []))))

drain-after : (now : ℕ) (l : List Entry) (c : Stats) (es : List Event) (t : Step) → drain_topic now l (after c es t) ≡ after c es (drain_topic now l t)
unfolding drain_topic
drain-after now [] c es t = refl
drain-after now (e ∷ l) c es t = by-test (has_credit t.sub)
    (λ h. rw h (ap (drain_topic now l) (meet-after now e l c es t) ∙ drain-after now l c es (meet_topic now e l t)))
    (λ h. rw h)

-- nothing to send, or no credit
pub serve-none : (now : ℕ) (s : Sub) → s.tpending ≡ [] → serve_topic now s ≡ at_rest s
unfolding drain_topic
serve-none now s e = ap (λ (l : List Entry). drain_topic now l (at_rest s)) e

module _ (now : ℕ) (s : Sub) (e : Entry) (l : List Entry) (first : s.tpending ≡ e ∷ l) where
  pub serve-stop : has_credit s ≡ false → serve_topic now s ≡ at_rest s
  unfolding drain_topic
  serve-stop h = ap (λ (x : List Entry). drain_topic now x (at_rest s)) first ∙ rw h

  serve-first : has_credit s ≡ true → serve_topic now s ≡ drain_topic now l (meet_topic now e l (at_rest s))
  unfolding drain_topic
  serve-first h = ap (λ (x : List Entry). drain_topic now x (at_rest s)) first ∙ rw h

  meet-lost : expired (pos now) e ≡ true → meet_topic now e l (at_rest s) ≡ after (add_expired 1) [] (at_rest (with_tpending l s))
  unfolding meet_topic
  meet-lost h = rw h

  meet-sent : expired (pos now) e ≡ false → meet_topic now e l (at_rest s) ≡ after (add_dispatched 1) (sent s e ∷ []) (at_rest (send e (with_tpending l s)))
  unfolding meet_topic
  meet-sent h = rw h

  -- the first has expired
  pub serve-lost : has_credit s ≡ true → expired (pos now) e ≡ true → serve_topic now s ≡ after (add_expired 1) [] (serve_topic now (with_tpending l s))
  serve-lost h x = serve-first h ∙ ap (drain_topic now l) (meet-lost x) ∙ drain-after now l (add_expired 1) [] (at_rest (with_tpending l s))

  -- or it is sent
  pub serve-sent : has_credit s ≡ true → expired (pos now) e ≡ false → serve_topic now s ≡ after (add_dispatched 1) (sent s e ∷ []) (serve_topic now (send e (with_tpending l s)))
  serve-sent h x = serve-first h ∙ ap (drain_topic now l) (meet-sent x) ∙ drain-after now l (add_dispatched 1) (sent s e ∷ []) (at_rest (send e (with_tpending l s)))

-- what is counted and sent first, and then the rest, is all
seen-eq : (v : Seen) (s : Sub) {c c' : Stats} {l l' : List Row} → c ≡ c' → l ≡ l'
    → ◌≡◌ {A = Seen} (record { before = v.before; sub = s; after = v.after; stats = c; events = l }) (record { before = v.before; sub = s; after = v.after; stats = c'; events = l' })
seen-eq v s p q = λ j. record { before = v.before; sub = s; after = v.after; stats = p j; events = q j }

pub ran-rest : (now : ℕ) (v : Seen) → serve_topic now v.sub ≡ at_rest v.sub → topic_ran now v ≡ v
ran-rest now v h = ap (λ (t : Step). topic_stepped t v) h ∙ seen-eq v v.sub (⊕-zero v.stats) (append-nil v.events)

pub ran-turn : (now : ℕ) (c : Stats) (es : List Event) (s : Sub) (v : Seen) → serve_topic now v.sub ≡ after c es (serve_topic now s)
    → topic_ran now (topic_stepped (record { sub = s; counts = c; events = es }) v) ≡ topic_ran now v
ran-turn now c es s v h =
    let t : Step = serve_topic now s in
    seen-eq v t.sub (⊕-assoc v.stats c t.counts) (append_assoc v.events (map event_words es) (map event_words t.events) ∙ ap (λ (l : List Row). v.events ++ l) (sym (map-append event_words es t.events)))
    ∙ ap (λ (x : Step). topic_stepped x v) (sym h)
