-- Hexadecimal digits, and the bytes and numbers that they spell (document 01, "Frames: hexadecimal, one frame a line").
--
--   is_digit c           the byte c is a digit: "0-9 and A-F"
--   digit c             what it is worth; 0 for a byte that is no digit
--   byte_at text at      the byte spelt by the two digits at a place of the text; behind its end stands 0
--   number text at k    the number spelt by the k bytes at a place: "Most significant byte first"
use Rattle.std.specs.Prelude.{Bool, cond, ◌||◌, List, ℕ, zero, suc, ◌+◌, ◌*◌, ◌-◌, get_or}
use Rattle.digits.specs.Tests.{between}

unfoldable pub is_digit : ℕ → Bool
is_digit c = between 48 57 c || between 65 70 c

unfoldable pub digit : ℕ → ℕ
digit c = cond (between 48 57 c) (c - 48) (cond (between 65 70 c) (c - 55) 0)

unfoldable pub byte_at : List ℕ → ℕ → ℕ
byte_at text at = digit (get_or text at 0) * 16 + digit (get_or text (at + 1) 0)

unfoldable pub number : List ℕ → ℕ → ℕ → ℕ
number text at zero = 0
number text at (suc k) = number text at k * 256 + byte_at text (at + 2 * k)
