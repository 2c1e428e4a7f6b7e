-- Digits of a number: what a line's bit is, and the lowest that is clear.
-- Assumes nothing.
use Rattle.std.specs.Prelude.{ℕ, ◌-◌, ◌/◌, ◌%◌, ◌^◌}
use Rattle.std.specs.Int.Count.{count_trailing_zeros}

-- digit k of n
unfoldable pub digit : ℕ → ℕ → ℕ
digit n k = n / 2 ^ k % 2

-- the lowest of the k lowest digits of n that is clear: the zeros at the end of its complement; k where all of them are set
unfoldable pub lowest : ℕ → ℕ → ℕ
lowest k n = count_trailing_zeros k (2 ^ k - 1 - n)
