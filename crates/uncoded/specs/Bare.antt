-- Why a call that has no arguments and no refusal of its own is refused. Assumes nothing.
use Rattle.std.specs.Prelude.{not, ℕ, eqb}
use Rattle.definition.specs.Base.{whether◌then◌else◌}
use Rattle.definition.specs.Calls.{short}
use Rattle.definition.specs.Layout.{Buffers, view, sound_buffers, lengths_of}

-- 0 for accepted
unfoldable pub bare_refusal : Buffers → ℕ → ℕ
bare_refusal b events =
    whether short (lengths_of b events) then 1
    else whether not (sound_buffers b) then 2
    else whether eqb (view b).calls_used (view b).call_limit then 9
    else 0
