-- One consumer's part of the tables, whose rows begin at base, and what a step leaves of it. Assumes nothing.
use Rattle.std.specs.Prelude.{◌≡◌, Bool, true, not, ◌&&◌, List, [], ◌∷◌, ◌++◌, map, ℕ, ◌+◌, ◌-◌, ◌≤◌, ◌^◌, eqb, length, take, drop, set}
use Rattle.stats.specs.declared.Stats.{Stats}
use Rattle.stats.specs.Counted.{with_discarded_by}
use Rattle.entry.specs.Entry.{entry_of}
use Rattle.definition.specs.Base.{whether◌then◌else◌, tally, all}
use Rattle.definition.specs.Types.{Kind, Event, letter}
use Rattle.definition.specs.Types as Def
use Rattle.definition.specs.Consumer.{◌⊕◌, Step}
use Rattle.definition.specs.Layout.{Row, event_words, flying_strict}
use Rattle.consumers.specs.declared.Sub.{Sub}
use Rattle.consumers.specs.Consumers.{sub_view}
use Rattle.state.specs.declared.Head.{Head}
use Rattle.state.specs.State.{with_counters, with_used, with_events, pushed}

-- a row with all its words
abbrev pub full_row : Row → Bool
full_row w = eqb (length w) 10

-- its rows in flight, those that it holds, and those after them
abbrev pub own_flying : ℕ → Sub → List Row → List Row
own_flying base s rows = take s.inflight (drop base rows)

abbrev pub own_held : ℕ → Sub → List Row → List Row
own_held base s rows = take s.held (drop s.inflight (drop base rows))

abbrev pub own_after : ℕ → Sub → List Row → List Row
own_after base s rows = drop s.held (drop s.inflight (drop base rows))

-- the consumer
abbrev pub own_view : Kind → ℕ → Sub → List Row → Def.Sub
own_view k base s rows = sub_view k s (own_flying base s rows) (own_held base s rows)

-- its counts lie within the tables, and no number runs out
pub record Own (nrows base : ℕ) (s : Sub) (d : Head) : Type 0 where
  pub rows : base + (s.inflight + s.held) ≤ d.used
  pub used : d.used ≤ 512
  pub room : 512 ≤ nrows
  pub events : d.events + d.used ≤ 512
  pub freed : s.freed ≤ s.inflight
  pub dequeued : d.stats.dequeued ≤ 2 ^ 62
  pub expired : d.stats.expired ≤ 2 ^ 62
  pub discarded : d.stats.discarded ≤ 2 ^ 62

-- the same of rows from..to that may be dead letters
pub record Dying (nrows nevents from to : ℕ) (d : Head) : Type 0 where
  pub start : from ≤ to
  pub rows : to ≤ nrows
  pub few : to ≤ 512
  pub events : d.events + to ≤ 512
  pub room : 545 ≤ nevents
  pub discarded : d.stats.discarded ≤ 2 ^ 62

-- counted and sent, with no more than so many events, and nothing else
pub record Told (counts : Stats) (sent : List Event) (most : ℕ) (d r : Head) (events events' : List Row) : Type 0 where
  pub head : r ≡ with_events r.events (with_counters (d.stats ⊕ counts) d)
  pub said : take r.events events' ≡ take d.events events ++ map event_words sent
  pub later : drop r.events events' ≡ drop r.events events
  pub more : d.events ≤ r.events
  pub few : r.events ≤ d.events + most
  pub size : length events' ≡ length events

-- a dead letter goes out where there is room for it; what is not persistent is discarded
abbrev pub dead_head : Bool → Head → ℕ → Head
dead_head persistent d room = whether persistent then pushed d room else with_counters (with_discarded_by d.stats 1) d

abbrev pub dead_events : Bool → ℕ → Event → List Row → List Row
dead_events persistent n e events = whether persistent then set events n (event_words e) else events

-- the dead letters of rows
abbrev pub row_letters : Bool → List Row → List Event
row_letters cause [] = []
row_letters cause (r ∷ l) =
    whether (entry_of r).persistent then letter (entry_of r).seq (entry_of r).redelivery cause ∷ row_letters cause l
    else row_letters cause l

-- how many of the rows that pass a test are discarded instead
abbrev pub row_discards : (Row → Bool) → List Row → ℕ
row_discards q l = tally (λ r. q r && not (entry_of r).persistent) l

-- the consumer, the counters and the events are as the step has them, the rows before and after and those that it holds are as they were, and
-- strict rows in flight stay strict
pub record Acted (step : Def.Sub → Step) (k : Kind) (base : ℕ) (s t : Sub) (d r : Head) (rows events rows' events' : List Row) : Type 0 where
  pub before : take base rows' ≡ take base rows
  pub sub : own_view k base t rows' ≡ (step (own_view k base s rows)).sub
  pub after : take (d.used - (base + (s.inflight + s.held))) (own_after base t rows') ≡ take (d.used - (base + (s.inflight + s.held))) (own_after base s rows)
  pub holds : own_held base t rows' ≡ own_held base s rows
  pub strict : all flying_strict (own_flying base s rows) ≡ true → all flying_strict (own_flying base t rows') ≡ true
  pub past : drop 512 rows' ≡ drop 512 rows
  pub size : length rows' ≡ length rows
  pub flying : t.inflight ≤ s.inflight
  pub held : t.held ≡ s.held
  pub used : r.used + s.inflight ≡ d.used + t.inflight
  pub head : r ≡ with_used r.used (with_events r.events (with_counters (d.stats ⊕ (step (own_view k base s rows)).counts) d))
  pub said : take r.events events' ≡ take d.events events ++ map event_words (step (own_view k base s rows)).events
  pub later : drop r.events events' ≡ drop r.events events
  pub more : d.events ≤ r.events
  pub most : r.events + r.used ≤ d.events + d.used
  pub events-size : length events' ≡ length events
