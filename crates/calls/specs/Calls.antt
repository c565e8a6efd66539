-- A call struct, and that its words are 64-bit words. Assumes nothing.
use Rattle.std.specs.Prelude.{ℕ, ◌<◌, ◌^◌, ◌≡◌, List, length, get_or}
use Rattle.calls.specs.declared.Call.{Call}

abbrev pub new_call : ℕ → List ℕ → Call
new_call code words = record { code = code; words = words }

-- eight words
pub record Words (ws : List ℕ) : Type 0 where
  pub eight : length ws ≡ 8
  pub word : (k : ℕ) → get_or ws k 0 < 2 ^ 64
