-- What the parts of a pull and a new prefetch mean, by what the search for the consumer found and by its words; and the whole pull by its
-- parts. Assumes nothing.
use mathlib.Core.Path.{◌≡◌, refl, ap, ◌∙◌}
use mathlib.Core.Bool.{Bool, true, false, not}
use mathlib.Core.List.{List, [], ◌∷◌}
use mathlib.Core.Option.{Option, none, some}
use Prim.Native.Nat.{ℕ, ◌+◌}
use lib.Dec.{eqb, ltb}
use lib.IntN.{ℤ, pos}
use lib.Signed.{lt_z}
use Rattle.model.specs.Model.{id_of}
use Rattle.definition.specs.Base.{whether◌then◌else◌}
use Rattle.definition.specs.Types.{Kind, Id, Dest, null}
use Rattle.definition.specs.Types as Def
use Rattle.definition.specs.Consumer.{send_null}
use Rattle.definition.specs.Destination.{Out, Answer, sub_of, put_sub, room, prefetch_at, pulled, resumed, fired, timeout_at, pull_timeout}
use Rattle.definition.specs.Layout.{Row}
use Rattle.definition.proofs.Tests.{if-true, if-false}
use Rattle.consumers.specs.declared.Sub.{Sub}
use Rattle.consumers.specs.Consumers.{sub_view}
use Rattle.state.specs.Leaves.{silent}
use Rattle.pulls.specs.Pulls.{sub_prefetch, sub_pull, prefetched, pulls_at, pulls, pulling, registered_at, registered, answered}

abbrev pub quiet : Dest → Out
quiet t = record { dest = t; events = [] }

abbrev pub unanswered : Dest → Answer
unanswered t = record { answer = 0; dest = t; events = [] }

-- ---- the consumer is not there

module _ (i : Id) (t : Dest) (e : sub_of i t ≡ none) where
  pub prefetched-none : (p : ℤ) → silent (prefetched i p) t ≡ quiet t
  unfolding prefetched
  prefetched-none p = ap (λ (o : Option Def.Sub). quiet (prefetch_at i p t o)) e

  pub registered-none : silent (registered i) t ≡ quiet t
  unfolding registered
  registered-none = ap (λ (o : Option Def.Sub). quiet (registered_at i t o)) e

  pub pulls-none : pulls i t ≡ false
  unfolding pulls
  pulls-none = ap pulls_at e

  pub answered-none : (timeout : ℤ) → answered i timeout t ≡ unanswered t
  unfolding answered resumed
  answered-none timeout = ap (resumed i timeout (quiet t)) e

  pub timeout-none : (generation : ℕ) → pull_timeout i generation t ≡ quiet t
  unfolding pull_timeout timeout_at
  timeout-none generation = ap (timeout_at i generation t) e

-- ---- it is there, with these words and rows

module _ (i : Id) (k : Kind) (s : Sub) (f h : List Row) (t : Dest) (e : sub_of i t ≡ some (sub_view k s f h)) where
  abbrev here : Def.Sub
  here = sub_view k s f h

  pub prefetched-here : (p : ℤ) → silent (prefetched i p) t ≡ quiet (put_sub i (sub_view k (sub_prefetch (room p) s) f h) t)
  unfolding prefetched sub_view
  prefetched-here p = ap (λ (o : Option Def.Sub). quiet (prefetch_at i p t o)) e

  -- a pull

  prefetch-is : here.prefetch ≡ s.prefetch
  unfolding sub_view
  prefetch-is = refl

  pub registered-not : ltb 0 s.prefetch ≡ true → silent (registered i) t ≡ quiet t
  unfolding registered
  registered-not c = ap (λ (o : Option Def.Sub). quiet (registered_at i t o)) e ∙ ap quiet (if-true t (put_sub i (pulling here) t) (ap (ltb 0) prefetch-is ∙ c))

  pub pulls-not : ltb 0 s.prefetch ≡ true → pulls i t ≡ false
  unfolding pulls
  pulls-not c = ap pulls_at e ∙ ap not (ap (ltb 0) prefetch-is ∙ c)

  pulling-is : pulling here ≡ sub_view k (sub_pull true (s.generation + 1) (s.generation + 1) s) f h
  unfolding sub_view
  pulling-is = refl

  pub registered-here : ltb 0 s.prefetch ≡ false → silent (registered i) t ≡ quiet (put_sub i (sub_view k (sub_pull true (s.generation + 1) (s.generation + 1) s) f h) t)
  unfolding registered
  registered-here c =
      ap (λ (o : Option Def.Sub). quiet (registered_at i t o)) e
      ∙ ap quiet (if-false t (put_sub i (pulling here) t) (ap (ltb 0) prefetch-is ∙ c))
      ∙ ap (λ (x : Def.Sub). quiet (put_sub i x t)) pulling-is

  pub pulls-here : ltb 0 s.prefetch ≡ false → pulls i t ≡ true
  unfolding pulls
  pulls-here c = ap pulls_at e ∙ ap not (ap (ltb 0) prefetch-is ∙ c)

  -- a null

  abbrev nulled : Dest
  nulled = put_sub i (sub_view k (sub_pull false 0 s.generation s) f h) t

  abbrev name : Id
  name = id_of s.conn s.session s.value

  pull-is : (b : Bool) → s.pulling ≡ b → here.pull ≡ (whether b then some s.pull else none)
  unfolding sub_view
  pull-is b c = ap (λ (x : Bool). whether x then some s.pull else none) c

  nulled-is : put_sub i (send_null here) t ≡ nulled
  unfolding sub_view
  nulled-is = refl

  name-is : here.id ≡ name
  unfolding sub_view
  name-is = refl

  -- the answer, after the dispatch

  answered-by : (timeout : ℤ) (b : Bool) → s.pulling ≡ b → answered i timeout t ≡ pulled i timeout here (quiet t) (whether b then some s.pull else none)
  unfolding answered resumed
  answered-by timeout b c = ap (resumed i timeout (quiet t)) e ∙ ap (pulled i timeout here (quiet t)) (pull-is b c)

  pub answered-satisfied : (timeout : ℤ) → s.pulling ≡ false → answered i timeout t ≡ unanswered t
  unfolding pulled
  answered-satisfied timeout c = answered-by timeout false c

  module _ (timeout : ℤ) (c : s.pulling ≡ true) where
    abbrev timed : Answer
    timed = record { answer = s.pull; dest = t; events = [] }

    abbrev sends_null : Answer
    sends_null = record { answer = 0; dest = put_sub i (send_null here) t; events = null here.id ∷ [] }

    pub answered-null : lt_z timeout (pos 0) ≡ true → answered i timeout t ≡ record { answer = 0; dest = nulled; events = null name ∷ [] }
    unfolding pulled
    answered-null l =
        answered-by timeout true c
        ∙ if-true sends_null (whether lt_z (pos 0) timeout then timed else unanswered t) l
        ∙ (λ j. record { answer = 0; dest = nulled-is j; events = null (name-is j) ∷ [] })

    pub answered-timed : lt_z timeout (pos 0) ≡ false → lt_z (pos 0) timeout ≡ true → answered i timeout t ≡ timed
    unfolding pulled
    answered-timed l m =
        answered-by timeout true c
        ∙ if-false sends_null (whether lt_z (pos 0) timeout then timed else unanswered t) l
        ∙ if-true timed (unanswered t) m

    pub answered-waits : lt_z timeout (pos 0) ≡ false → lt_z (pos 0) timeout ≡ false → answered i timeout t ≡ unanswered t
    unfolding pulled
    answered-waits l m =
        answered-by timeout true c
        ∙ if-false sends_null (whether lt_z (pos 0) timeout then timed else unanswered t) l
        ∙ if-false timed (unanswered t) m

  -- the timer

  timeout-by : (generation : ℕ) (b : Bool) → s.pulling ≡ b → pull_timeout i generation t ≡ fired i generation here t (whether b then some s.pull else none)
  unfolding pull_timeout timeout_at
  timeout-by generation b c = ap (timeout_at i generation t) e ∙ ap (fired i generation here t) (pull-is b c)

  pub timeout-satisfied : (generation : ℕ) → s.pulling ≡ false → pull_timeout i generation t ≡ quiet t
  unfolding fired
  timeout-satisfied generation c = timeout-by generation false c

  pub timeout-other : (generation : ℕ) → s.pulling ≡ true → eqb s.pull generation ≡ false → pull_timeout i generation t ≡ quiet t
  unfolding fired
  timeout-other generation c l = timeout-by generation true c ∙ if-false (record { dest = put_sub i (send_null here) t; events = null here.id ∷ [] }) (quiet t) l

  pub timeout-null : (generation : ℕ) → s.pulling ≡ true → eqb s.pull generation ≡ true → pull_timeout i generation t ≡ record { dest = nulled; events = null name ∷ [] }
  unfolding fired
  timeout-null generation c l =
      timeout-by generation true c
      ∙ if-true (record { dest = put_sub i (send_null here) t; events = null here.id ∷ [] }) (quiet t) l
      ∙ (λ j. record { dest = nulled-is j; events = null (name-is j) ∷ [] })
