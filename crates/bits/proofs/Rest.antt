-- A loop over the numbers that a mask holds: `rest` has those that are still to come, and each turn takes the lowest of them.
-- Assumes nothing.
--
--   Rest mask rest                  rest is a part of the mask
--   rest_start                      at the start it is all of it
--   rest_low, rest_below            the lowest number of rest is of the mask, and is below 64
--   rest_less, rest_next            without it rest is smaller, and still a part of the mask
--   rest_cases, rest_gone           what rest holds is the lowest number or still there; what is still there was there, and is another number
--   rest_end                        where rest is 0, it holds nothing
use mathlib.Core.Path.{◌≡◌, sym, ap, ◌∙◌, subst}
use mathlib.Core.Logic.{◌⊎◌, inl, inr, ◌≢◌}
use Prim.Native.Nat.{ℕ, ◌-◌, ◌^◌, ◌<◌}
use native.Mathlib.Decide.{ℕ_discrete}
use native.Mathlib.Omega.{arith}
use lib.Bits.{bit_and, bit_xor, and_le_r}
use lib.Count.{count_trailing_zeros}
use Rattle.bits.specs.Mask.{bit, Has}
use Rattle.bits.proofs.Digits.{bit_zero, bit_pow_same}
use Rattle.bits.proofs.Masks.{has_xor, xor_has, has_pow_cases}
use Rattle.bits.proofs.Lowest.{trailing_has, and_pred}

pub record Rest (mask rest : ℕ) : Type 0 where
  pub small : rest < 2 ^ 64
  pub part : (i : ℕ) → Has rest i → Has mask i

pub rest_start : (mask : ℕ) → mask < 2 ^ 64 → Rest mask mask
rest_start mask l = record { small = l; part = λ i h. h }

pub rest_end : (rest i : ℕ) → rest ≡ 0 → Has rest i → ⊥
rest_end rest i z h = let e : ◌≡◌ {A = ℕ} 0 1 = sym (bit_zero i) ∙ ap (λ (x : ℕ). bit x i) (sym z) ∙ h in omega arith

module _ (mask rest : ℕ) (R : Rest mask rest) (some : rest ≢ 0) where
  low : Has rest (count_trailing_zeros 64 rest)
  low = (trailing_has 64 rest R.small some).0

  pub rest_low : Has mask (count_trailing_zeros 64 rest)
  rest_low = R.part (count_trailing_zeros 64 rest) low

  pub rest_here : Has rest (count_trailing_zeros 64 rest)
  rest_here = low

  pub rest_below : count_trailing_zeros 64 rest < 64
  rest_below = (trailing_has 64 rest R.small some).1

  pub rest_less : bit_and rest (rest - 1) < rest
  rest_less = omega (arith, and_le_r rest (rest - 1), some)

  less : bit_and rest (rest - 1) ≡ bit_xor rest (2 ^ count_trailing_zeros 64 rest)
  less = and_pred 64 rest R.small some

  pub rest_gone : (i : ℕ) → Has (bit_and rest (rest - 1)) i → Has rest i × (i ≢ count_trailing_zeros 64 rest)
  rest_gone i h =
      let x = has_xor rest (2 ^ count_trailing_zeros 64 rest) i (λ p. subst (Has rest) (sym (has_pow_cases (count_trailing_zeros 64 rest) i p)) low) (subst (λ (z : ℕ). Has z i) less h) in
      (x.0, λ e. x.1 (subst (λ (z : ℕ). Has (2 ^ count_trailing_zeros 64 rest) z) (sym e) (bit_pow_same (count_trailing_zeros 64 rest))))

  pub rest_cases : (i : ℕ) → Has rest i → (i ≡ count_trailing_zeros 64 rest) ⊎ Has (bit_and rest (rest - 1)) i
  rest_cases i h = go (ℕ_discrete i (count_trailing_zeros 64 rest))
    where
      go : Dec (i ≡ count_trailing_zeros 64 rest) → (i ≡ count_trailing_zeros 64 rest) ⊎ Has (bit_and rest (rest - 1)) i
      go (yes e) = inl e
      go (no e) = inr (subst (λ (z : ℕ). Has z i) (sym less) (xor_has rest (2 ^ count_trailing_zeros 64 rest) i h (λ p. e (has_pow_cases (count_trailing_zeros 64 rest) i p))))

  pub rest_next : Rest mask (bit_and rest (rest - 1))
  rest_next = record { small = omega (arith, rest_less, R.small); part = λ i h. R.part i (rest_gone i h).0 }
