-- Two results that meet the statement of a public function are equal: each statement is an equation.
-- Assumes nothing.
--
--   read_lists_unique, write_zeros_unique, write_numbers_unique   of the function of that name
use mathlib.Core.Path.{◌≡◌, sym, ◌∙◌}
use mathlib.Core.List.{List, ◌++◌}
use Prim.Native.Nat.{ℕ, ◌*◌}
use lib.ListN.{length, drop, replicate}
use Rattle.lists.specs.Numbers.{numbers, all_bytes}

-- of each of the two lists that it fills
pub read_lists_unique : (bytes : List ℕ) (k : ℕ) (a b : List ℕ) → a ≡ numbers k bytes → b ≡ numbers k bytes → a ≡ b
read_lists_unique bytes k a b p q = p ∙ sym q

pub write_zeros_unique : (k : ℕ) (before a b : List ℕ) → a ≡ all_bytes (replicate k 0) ++ drop (8 * k) before → b ≡ all_bytes (replicate k 0) ++ drop (8 * k) before → a ≡ b
write_zeros_unique k before a b p q = p ∙ sym q

pub write_numbers_unique : (list before a b : List ℕ) → a ≡ all_bytes list ++ drop (8 * length list) before → b ≡ all_bytes list ++ drop (8 * length list) before → a ≡ b
write_numbers_unique list before a b p q = p ∙ sym q
