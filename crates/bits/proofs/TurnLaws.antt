-- A turn of `Members`: the lowest number of a mask, and the others.
-- Assumes nothing.
--
--   turn_taken   `trailing_zeros(x)` and `x & (x - 1)` are a turn of x
--   turn_below   the number given is below 64
--   turn_cases   what x holds is the number given, or among the others
--   turn_none    where none is given, x holds nothing
--   turn_unique  a mask has one turn
use mathlib.Core.Path.{◌≡◌, refl, sym, ap, ◌∙◌, subst}
use mathlib.Core.Logic.{◌⊎◌, inl, inr, ◌≢◌, ⊎_elim}
use Rattle.std.specs.Prelude.{Option, Some, None}
use Prim.Native.Nat.{ℕ, ◌-◌, ◌^◌, ◌<◌}
use native.Mathlib.Decide.{ℕ_discrete}
use native.Mathlib.Omega.{arith}
use lib.Bits.{bit_and}
use lib.Count.{count_trailing_zeros}
use Rattle.bits.specs.Mask.{Has, MaskOf}
use Rattle.bits.specs.Members.{Turn}
use Rattle.bits.proofs.Lowest.{trailing_least, has_below}
use Rattle.bits.proofs.Masks.{mask_unique}
use Rattle.bits.proofs.Rest.{rest_start, rest_here, rest_next, rest_gone, rest_cases, rest_end}

pub turn_taken : (x : ℕ) → x < 2 ^ 64 → x ≢ 0 → Turn x (Some (count_trailing_zeros 64 x)) (bit_and x (x - 1))
turn_taken x l some =
    let R = rest_start x l in
    let N = rest_next x x R some in (
      rest_here x x R some,
      trailing_least 64 x,
      record { small = N.small; sound = rest_gone x x R some; complete = λ i h. ⊎_elim (λ e. absurd (h.1 e)) (λ k. k) (rest_cases x x R some i h.0) },
    )

pub turn_below : (x k y : ℕ) → x < 2 ^ 64 → Turn x (Some k) y → k < 64
turn_below x k y l t = has_below 64 x k l t.0

pub turn_cases : (x k y : ℕ) → Turn x (Some k) y → (i : ℕ) → Has x i → (i ≡ k) ⊎ Has y i
turn_cases x k y t i h = go (ℕ_discrete i k)
  where
    go : Dec (i ≡ k) → (i ≡ k) ⊎ Has y i
    go (yes e) = inl e
    go (no e) = inr (t.2.complete i (h, e))

pub turn_none : (x y i : ℕ) → Turn x None y → Has x i → ⊥
turn_none x y i t h = rest_end x i t.0 h

pub turn_unique : (x : ℕ) (r s : Option ℕ) (y z : ℕ) → Turn x r y → Turn x s z → (r ≡ s) × (y ≡ z)
turn_unique x None None y z t u = (refl, t.1 ∙ sym u.1)
turn_unique x None (Some j) y z t u = absurd (turn_none x y j t u.0)
turn_unique x (Some k) None y z t u = absurd (turn_none x z k u t.0)
turn_unique x (Some k) (Some j) y z t u =
    let e : k ≡ j = omega (arith, t.1 j u.0, u.1 k t.0) in
    (ap Some e, mask_unique _ y z (subst (λ (n : ℕ). MaskOf (λ (i : ℕ). Has x i × (i ≢ n)) y) e t.2) u.2)
