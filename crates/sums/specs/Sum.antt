-- Finite sums, as the document speaks of them: "the sum of all costs", "total cost", how many jobs.
--
--   gate b x    x where the test b passes, else 0
--   sum n f     f 0 + .. + f (n - 1)
--   count n p   how many numbers below n pass the test p
use Rattle.std.specs.Prelude.{Bool, true, false, ℕ, zero, suc, ◌+◌}

abbrev pub gate : Bool → ℕ → ℕ
gate true x = x
gate false x = 0

unfoldable pub sum : ℕ → (ℕ → ℕ) → ℕ
sum zero f = 0
sum (suc n) f = sum n f + f n

unfoldable pub count : ℕ → (ℕ → Bool) → ℕ
unfolding sum
count n p = sum n (λ i. gate (p i) 1)
