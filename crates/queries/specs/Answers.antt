-- What the definitions answer to a query, as the crate's structs, and what a query meets first. Assumes nothing.
use Rattle.std.specs.Prelude.{ℕ, ◌-◌, ◌/◌, Bool, not, ◌&&◌, eqb, leb}
use Rattle.entry.specs.Entry.{entry_of}
use Rattle.definition.specs.Base.{whether◌then◌else◌, all}
use Rattle.definition.specs.Types.{Sub}
use Rattle.definition.specs.Calls.{state_short}
use Rattle.definition.specs.Queries as Def
use Rattle.definition.specs.Queries.{expiring}
use Rattle.definition.specs.Layout.{Row, Buffers, lengths_of, sound_buffers}
use Rattle.state.specs.declared.Head.{Head}
use Rattle.queries.specs.declared.Asked.{Asked}
use Rattle.queries.specs.declared.Counted.{Counted}

abbrev pub as_asked : Def.Asked → Asked
as_asked a = record { refusal = a.refusal; answer = a.answer }

abbrev pub as_counted : Def.Counted → Counted
as_counted a = record { refusal = a.refusal; stats = a.stats }

-- 1 where a buffer is short, 2 where the state is not sound, else 0
unfoldable pub barred : Buffers → ℕ
barred b = whether state_short (lengths_of b 0) then 1 else whether sound_buffers b then 0 else 2

-- a row whose entry has no expiration
abbrev pub lasts : Row → Bool
lasts w = not (expiring (entry_of w))

-- a consumer for which no entry waits that has one
abbrev pub sub_lasts : Sub → Bool
sub_lasts s = all (λ e. not (expiring e)) (Sub.tpending s)

-- `idle_for` by the numbers of a destination
abbrev pub is_idle : ℕ → ℕ → Head → Bool
is_idle now secs d =
    eqb d.waiting 0
    && (eqb d.consumers 0 && (eqb d.producers 0 && (d.idle && leb secs ((now - d.idle_since) / 1000))))
