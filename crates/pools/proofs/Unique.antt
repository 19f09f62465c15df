-- Two results that meet the statement of a public function are equal.
-- Assumes nothing.
--
--   row_unique   of the function of that name
use mathlib.Core.Path.{◌≡◌}
use mathlib.Core.List.{List}
use Prim.Native.Nat.{ℕ}
use Rattle.bits.specs.Mask.{MaskOf}
use Rattle.bits.proofs.Masks.{mask_unique}
use Rattle.pools.specs.Pools.{WaitsFor}

pub row_unique : (states : List ℕ) (n s j a b : ℕ) → MaskOf (WaitsFor states n s j) a → MaskOf (WaitsFor states n s j) b → a ≡ b
row_unique states n s j a b = mask_unique _ a b
