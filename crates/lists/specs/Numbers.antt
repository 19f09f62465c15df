-- Lists of numbers as lists of bytes (document 01, "What a call takes, returns and writes": "Through the C entry each list is bytes, 8 a number,
-- most significant first.").
--
--   numbers k bytes   the first k numbers of a list of bytes
--   numbers_of bytes   all its numbers: bytes behind the last full eight "count as no place"
--   all_bytes list     the bytes of a list of numbers
--   Readable ..       two lists of one length, with bytes for each of their numbers
use Rattle.std.specs.Prelude.{◌≡◌, List, [], ◌∷◌, ◌++◌, ℕ, zero, suc, ◌*◌, ◌/◌, ◌≤◌, length, drop}
use Rattle.codec.specs.Bytes.{number_at, bytes_of}

unfoldable pub numbers : ℕ → List ℕ → List ℕ
numbers zero bytes = []
numbers (suc k) bytes = number_at bytes 0 8 ∷ numbers k (drop 8 bytes)

abbrev pub numbers_of : List ℕ → List ℕ
numbers_of bytes = numbers (length bytes / 8) bytes

unfoldable pub all_bytes : List ℕ → List ℕ
all_bytes [] = []
all_bytes (x ∷ list) = bytes_of 8 x ++ all_bytes list

pub record Readable (rows costs rowList costList : List ℕ) : Type 0 where
  pub even : length costList ≡ length rowList
  pub row_bytes : 8 * length rowList ≤ length rows
  pub cost_bytes : 8 * length costList ≤ length costs
