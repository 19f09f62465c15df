-- Tests: Bools that a definition computes. `T b` (the kit's) is the fact that the test b passes. A set of jobs is a test of their numbers.
--
--   both a b, either a b   both pass, one of them passes
--   any n p                some number below n passes p
use Rattle.std.specs.Prelude.{Bool, true, false, ℕ, zero, suc}

abbrev pub both : Bool → Bool → Bool
both true b = b
both false b = false

abbrev pub either : Bool → Bool → Bool
either true b = true
either false b = b

unfoldable pub any : ℕ → (ℕ → Bool) → Bool
any zero p = false
any (suc n) p = either (any n p) (p n)
