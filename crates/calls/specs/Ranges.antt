-- What is left to test of a call's words, as each word is one of 64 bits: what the code tests. That this is the
-- definition's `decode` is proved of it. Assumes nothing.
use Rattle.std.specs.Prelude.{ℕ, ◌^◌, Bool, ◌&&◌, ◌||◌, List, leb, ltb, eqb}
use Rattle.words.specs.Words.{is_int}
use Rattle.entry.specs.Entry.{bit}
use Rattle.definition.specs.Words.{at, unused_from}

-- code 1: flag, sequence number, redelivery, size, clock; all eight words are used
unfoldable pub enqueues : List ℕ → Bool
enqueues ws = leb (at 2 ws) 1 && leb 1 (at 0 ws) && ltb (at 0 ws) (2 ^ 63) && is_int (at 5 ws) && ltb (at 7 ws) (2 ^ 32) && leb (at 6 ws) (2 ^ 62)

-- code 2: flags, unused, prefetch, selector, clock
unfoldable pub joins : List ℕ → Bool
joins ws = leb (at 5 ws) 3 && unused_from 7 ws && is_int (at 3 ws) && leb (at 4 ws) 64 && leb (at 6 ws) (2 ^ 62)

-- code 4: type and flags, first, last, unused, clock
unfoldable pub acks : List ℕ → Bool
acks ws = ltb (at 3 ws) 4096 && (bit (at 3 ws) 9 || eqb (at 4 ws) 0) && (bit (at 3 ws) 10 || eqb (at 5 ws) 0) && unused_from 7 ws && leb (at 6 ws) (2 ^ 62)

-- codes 3 and 5: identifier, any number, clock
unfoldable pub timed : List ℕ → Bool
timed ws = unused_from 5 ws && leb (at 4 ws) (2 ^ 62)

-- code 7: identifier, prefetch, clock
unfoldable pub prefetches : List ℕ → Bool
prefetches ws = unused_from 5 ws && is_int (at 3 ws) && leb (at 4 ws) (2 ^ 62)

-- codes 12 and 15: identifier, clock
unfoldable pub clocked : List ℕ → Bool
clocked ws = unused_from 4 ws && leb (at 3 ws) (2 ^ 62)

-- code 9: clock, maximum
unfoldable pub sweeps : List ℕ → Bool
sweeps ws = unused_from 2 ws && leb (at 0 ws) (2 ^ 62) && leb (at 1 ws) 512
