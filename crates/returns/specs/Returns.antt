-- What returns to a queue: a consumer leaves, or what was reserved for one is released; both before the dispatch. Assumes nothing.
use Rattle.std.specs.Prelude.{Bool, not, ◌&&◌, List, [], ◌∷◌, ◌++◌, map, ℕ, ◌-◌, ◌^◌, leb, ℤ}
use Rattle.std.proofs.Math.Option.{Option, none, some}
use Rattle.definition.specs.Base.{whether◌then◌else◌, keep}
use Rattle.definition.specs.Types.{Id, Entry, Inflight, Sub, Held, Dest, with_reserved}
use Rattle.definition.specs.Consumer.{redelivered}
use Rattle.definition.specs.Destination.{sub_of, reinsert, held_by, reserved_of, was_delivered, returned_from, reserved_from, drop_sub, returning}
use Rattle.definition.specs.Layout.{Row}
use Rattle.state.specs.declared.Head.{Head}
use Rattle.state.specs.State.{with_turn, with_consumers}
use Rattle.state.specs.Fits.{fits}

-- Dest::remove_sub before `touch_idle` and the dispatch: the consumer, if it is there
abbrev pub departed_at : ℕ → Id → ℤ → Dest → Option Sub → Dest
departed_at now i last t none = t
departed_at now i last t (some s) = returning now s last (drop_sub i t) t.kind

abbrev pub departed : ℕ → Id → ℤ → Dest → Dest
departed now i last t = departed_at now i last t (sub_of i t)

-- what was reserved for the consumer i returns: `release_reserved` without its marks, before the dispatch
abbrev pub freed : ℕ → Id → Dest → Dest
freed now i t = reinsert now (map redelivered (reserved_of i t)) (with_reserved (keep (λ h. not (held_by i h)) t.reserved) t)

-- an entry as it goes back to the queue
abbrev pub given_back : ℤ → Entry → Entry
given_back last e = whether was_delivered last e then redelivered e else e

-- one more is reserved
abbrev pub held_for : Id → Entry → Held
held_for i e = record { holder = i; entry = e }

abbrev pub reserves : Held → Dest → Dest
reserves h t = with_reserved (t.reserved ++ h ∷ []) t

-- what one of the leaving consumer's entries in flight does: it is reserved for j, or it returns
abbrev pub gives : ℕ → ℤ → Id → Inflight → Dest → Dest
gives now last j i t =
    whether i.tx then reserves (held_for j i.entry) t
    else reinsert now (given_back last i.entry ∷ []) t

-- and all of them
abbrev pub gives_all : ℕ → ℤ → Id → List Inflight → Dest → Dest
gives_all now last j is t = reinsert now (returned_from last is) (with_reserved (t.reserved ++ reserved_from j is) t)

-- one consumer less, by value
abbrev pub dropped_head : Head → Head
dropped_head d = with_turn (whether leb (d.consumers - 1) d.turn then 0 else d.turn) (with_consumers (d.consumers - 1) d)

-- whether anything is done: the numbers fit, and the clock is no later than 2^62
unfoldable pub in_bounds : ℕ → List Row → Head → ℕ → ℕ → Bool
in_bounds now subs d rows events = fits subs d rows events && leb now (2 ^ 62)
