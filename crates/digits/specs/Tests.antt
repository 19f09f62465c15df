-- A test on numbers, for the digits and for the ranges of the refusal table.
--
--   between low high x   x is from low to high, both taken
use Rattle.std.specs.Prelude.{Bool, ◌&&◌, ℕ, leb}

abbrev pub between : ℕ → ℕ → ℕ → Bool
between low high x = leb low x && leb x high
