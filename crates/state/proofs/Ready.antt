-- A call's parts keep a destination within its tables: after a part that keeps what soundness asks, the numbers fit for the next. Assumes nothing.
use mathlib.Core.Path.{◌≡◌, ap, ◌∙◌}
use mathlib.Core.Bool.{true}
use mathlib.Core.List.{List}
use Prim.Native.Nat.{ℕ, ◌+◌, ◌≤◌}
use native.Mathlib.Omega.{arith}
use lib.ListN.{length}
use Rattle.definition.specs.Types.{Dest}
use Rattle.definition.specs.Destination.{Out}
use Rattle.definition.specs.Calls.{used, bound, sound}
use Rattle.definition.specs.Layout.{Row}
use Rattle.definition.proofs.Sound.{facts}
use Rattle.definition.proofs.Whole.{Fine, fine, unfine}
use Rattle.state.specs.declared.Head.{Head}
use Rattle.state.specs.State.{head_view}
use Rattle.state.specs.Fits.{fits, Fits}
use Rattle.state.specs.Leaves.{Leaves}
use Rattle.state.specs.Ready.{Ready}
use Rattle.state.proofs.Fitting.{view-fits, facts-fit}

-- a part of a call that keeps a destination sane, with counters, delivery numbers and generations at most x higher
abbrev pub Keeps : ℕ → Dest → Out → Type 0
Keeps x t o = Fine t.call_limit t.calls_used t.kind (bound t.calls_used) t → Fine t.call_limit t.calls_used t.kind (bound t.calls_used + x) o.dest

module _ (d : Head) (subs rows events : List Row) (a : Ready d subs rows events) where
  abbrev pub seen : Dest
  seen = head_view d subs rows a.producers a.audits

  pub ready-fits : Fits subs d (length rows) (length events)
  ready-fits = view-fits d subs rows a.producers a.audits d.calls_used a.is-sound (length events) a.long.subs-long a.long.rows_long a.long.events-long a.stands.consumers a.stands.used a.stands.rows-used (omega (arith, a.none-sent, a.stands.used)) (omega arith)

  pub ready-test : fits subs d (length rows) (length events) ≡ true
  ready-test = facts-fit subs d (length rows) (length events) ready-fits

  pub ready-fine : Fine seen.call_limit seen.calls_used seen.kind (bound seen.calls_used) seen
  ready-fine = fine seen a.is-sound

  module _ (f : Dest → Out) (r : Head) (subs' rows' events' : List Row) (l : Leaves f d r subs rows events subs' rows' events') (x : ℕ) (few : x ≤ 65536) (k : Keeps x seen (f seen)) where
    -- with one call more used, what is left is sound
    next-sound : sound (used (head_view r subs' rows' a.producers a.audits)) ≡ true
    unfolding head_view
    next-sound =
        let t = facts seen a.is-sound in
        ap (λ (u : Dest). sound (used u)) (l.view a.producers a.audits a.as_many)
        ∙ unfine seen.call_limit seen.calls_used seen.kind (bound seen.calls_used + x) (f seen).dest t.limit-low t.limit-high a.left (omega arith) (k ready-fine)

    pub next_fits : r.events + r.used ≤ 512 → Fits subs' r (length rows') (length events')
    unfolding head_view
    next_fits e = view-fits r subs' rows' a.producers a.audits (r.calls_used + 1) next-sound (length events') (omega (arith, a.long.subs-long, l.subs-length)) (omega (arith, a.long.rows_long, l.rows-length)) (omega (arith, a.long.events-long, l.events-length))
        l.consumers l.used l.rows-used e (omega arith)

    pub next-test : r.events + r.used ≤ 512 → fits subs' r (length rows') (length events') ≡ true
    next-test e = facts-fit subs' r (length rows') (length events') (next_fits e)
