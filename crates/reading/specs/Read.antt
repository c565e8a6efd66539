-- What reading leaves of a buffer, whatever a system gives. Which bytes come, and how many, is open. Assumes nothing.
use Rattle.reading.specs.declared.How.{How}
use Rattle.reading.specs.declared.How.TheVariants.{Full, End}
use Rattle.std.specs.Prelude.{ℕ, ◌≤◌, ◌<◌, ◌≡◌, List, length, take}

-- what came stands behind the first `have` bytes and ends at n, within the buffer if they do. Full means that no room is left, End that some is
pub record ReadInto (have : ℕ) (before after : List ℕ) (n : ℕ) (how : How) : Type 0 where
  pub size : length after ≡ length before
  pub kept : take have after ≡ take have before
  pub more : have ≤ n
  pub within : have ≤ length before → n ≤ length before
  pub full : how ≡ Full → length before ≤ n
  pub ended : how ≡ End → n < length before
