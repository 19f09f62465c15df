-- Masks: numbers of 64 binary digits that name jobs, "value 2^k set: it waits for job k" (document 01, "What a call takes, returns and writes").
--
--   bit x k       digit k of x, lowest first: 0 or 1
--   Has x k       x holds k: its digit k is 1
--   has x k       the test of it
--   MaskOf P x    x is a mask of 64 digits, and holds exactly the numbers of which P is true
use Rattle.std.specs.Prelude.{◌≡◌, Bool, ℕ, ◌/◌, ◌%◌, ◌^◌, ◌<◌, eqb}

unfoldable pub bit : ℕ → ℕ → ℕ
bit x k = x / 2 ^ k % 2

abbrev pub Has : ℕ → ℕ → Type 0
Has x k = bit x k ≡ 1

unfoldable pub has : ℕ → ℕ → Bool
unfolding bit
has x k = eqb (bit x k) 1

pub record MaskOf (P : ℕ → Type 0) (x : ℕ) : Type 0 where
  pub small : x < 2 ^ 64
  pub sound : (k : ℕ) → Has x k → P k
  pub complete : (k : ℕ) → P k → Has x k
