-- 64-bit words as signed numbers, two's complement. Assumes nothing.
use Rattle.std.specs.Prelude.{ℕ, ◌-◌, ◌%◌, ◌^◌, Bool, ◌||◌, leb, ltb, ℤ}
use Rattle.std.specs.Int.{w32, w64}
use Rattle.std.proofs.Common.{to_z, of_z}

-- the i64 that a word holds
abbrev pub signed : ℕ → ℤ
signed w = to_z w64 w

-- the word that holds an i64
abbrev pub unsigned : ℤ → ℕ
unsigned z = of_z w64 z

-- the i32 in the lower half of a word
abbrev pub int : ℕ → ℤ
int w = to_z w32 (w % 2 ^ 32)

-- whether the i64 that a word holds is an i32
abbrev pub is_int : ℕ → Bool
is_int w = ltb w (2 ^ 31) || leb (2 ^ 64 - 2 ^ 31) w
