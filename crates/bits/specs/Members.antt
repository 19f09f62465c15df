-- Going over the numbers that a mask holds, lowest first.
--
--   Turn x r y    of the mask x the lowest number is given and y has the others; or none is given, since x holds nothing
use Rattle.std.specs.Prelude.{◌≡◌, ◌≢◌, ℕ, ◌≤◌, Option, Some, None}
use Rattle.bits.specs.Mask.{Has, MaskOf}

abbrev pub Turn : ℕ → Option ℕ → ℕ → Type 0
Turn x None y = (x ≡ 0) × (y ≡ 0)
Turn x (Some k) y = Has x k × ((i : ℕ) → Has x i → k ≤ i) × MaskOf (λ (i : ℕ). Has x i × (i ≢ k)) y
