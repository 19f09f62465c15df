-- Numbers as bytes (document 01, "What a call takes, returns and writes": "Through the C entry each list is bytes, 8 a number, most significant first";
-- "Frames": "Most significant byte first").
--
--   number_at bytes at k   the number of the k bytes at a place of a list
--   bytes_of k x           the last k bytes of a number
use Rattle.std.specs.Prelude.{List, [], ◌∷◌, ℕ, zero, suc, ◌+◌, ◌*◌, ◌/◌, ◌%◌, ◌^◌, get_or}

unfoldable pub number_at : List ℕ → ℕ → ℕ → ℕ
number_at bytes at zero = 0
number_at bytes at (suc k) = number_at bytes at k * 256 + get_or bytes (at + k) 0

unfoldable pub bytes_of : ℕ → ℕ → List ℕ
bytes_of zero x = []
bytes_of (suc k) x = x / 256 ^ k % 256 ∷ bytes_of k x
