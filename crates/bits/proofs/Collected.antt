-- A mask collected number by number: `Part P k m` while the numbers below k have been looked at.
-- Assumes nothing.
--
--   part_none, part_skip, part_take, part_all   the start, a number that is left, a number that is taken, the end
--   mask_exists                                 every test of the numbers below 64 has its mask
use mathlib.Core.Path.{◌≡◌, refl, sym, subst}
use mathlib.Core.Logic.{⊎_elim}
use mathlib.Core.Bool.{Bool, true, false}
use Prim.Native.Nat.{ℕ, zero, suc, ◌+◌, ◌^◌, ◌<◌, ◌≤◌}
use native.Mathlib.Nat.{le_refl}
use native.Mathlib.Numerals.{suc-eq-add-one}
use lib.Dec.{T}
use native.Mathlib.Omega.{arith}
use borrow.Author.Count.{below_more}
use lib.Bits.{bit_or, or_lt}
use lib.Pow.{pow-lt, pow_pos}
use Rattle.bits.specs.Mask.{Has, MaskOf}
use Rattle.bits.proofs.Digits.{bit_zero, bit_pow_same}
use Rattle.bits.proofs.Masks.{has_or_l, has_or_r, has_or_cases, has_pow_cases}

pub record Part (P : ℕ → Type 0) (k m : ℕ) : Type 0 where
  pub small : m < 2 ^ 64
  pub sound : (v : ℕ) → Has m v → P v
  pub complete : (v : ℕ) → v < k → P v → Has m v

module _ (P : ℕ → Type 0) where
  pub part_none : Part P 0 0
  part_none = record { small = pow_pos 64; sound = λ v h. absurd (omega (arith, bit_zero v)); complete = λ v l. absurd (omega arith) }

  pub part_skip : (k m : ℕ) → Part P k m → (P k → ⊥) → Part P (k + 1) m
  part_skip k m p n = record { small = p.small; sound = p.sound; complete = below_more (λ (v : ℕ). P v → Has m v) k p.complete (λ y. absurd (n y)) }

  pub part_take : (k m : ℕ) → Part P k m → k < 64 → P k → Part P (k + 1) (bit_or m (2 ^ k))
  part_take k m p l y = record {
    small = or_lt 64 m (2 ^ k) p.small (pow-lt l);
    sound = λ v h. ⊎_elim (p.sound v) (λ q. subst P (sym (has_pow_cases k v q)) y) (has_or_cases m (2 ^ k) v h);
    complete = below_more (λ (v : ℕ). P v → Has (bit_or m (2 ^ k)) v) k (λ v l q. has_or_l m (2 ^ k) v (p.complete v l q)) (λ _. has_or_r m (2 ^ k) k (bit_pow_same k));
  }

  pub part_all : (k m : ℕ) → Part P k m → ((v : ℕ) → P v → v < k) → MaskOf P m
  part_all k m p below = record { small = p.small; sound = p.sound; complete = λ v q. p.complete v (below v q) q }

-- every test of the numbers below n, 64 at most, has its mask
pub mask_exists : (n : ℕ) (M : ℕ → Bool) → n ≤ 64 → (x : ℕ) × MaskOf (λ (u : ℕ). (u < n) × T (M u)) x
mask_exists n M few = let k = upto n (le_refl n) in (k.0, part_all (λ (u : ℕ). (u < n) × T (M u)) n k.0 k.1 (λ u h. h.0))
  where
    upto : (k : ℕ) → k ≤ n → (x : ℕ) × Part (λ (u : ℕ). (u < n) × T (M u)) k x
    upto zero l = (0, part_none (λ (u : ℕ). (u < n) × T (M u)))
    upto (suc k) l = go (M k) refl (upto k (omega arith))
      where
        go : (b : Bool) → M k ≡ b → (x : ℕ) × Part (λ (u : ℕ). (u < n) × T (M u)) k x → (x : ℕ) × Part (λ (u : ℕ). (u < n) × T (M u)) (suc k) x
        go true e r = (
          bit_or r.0 (2 ^ k),
          subst (λ (z : ℕ). Part (λ (u : ℕ). (u < n) × T (M u)) z (bit_or r.0 (2 ^ k))) (sym (suc-eq-add-one k))
              (part_take (λ (u : ℕ). (u < n) × T (M u)) k r.0 r.1 (omega arith) (l, subst T (sym e) tt)),
        )
        go false e r = (
          r.0,
          subst (λ (z : ℕ). Part (λ (u : ℕ). (u < n) × T (M u)) z r.0) (sym (suc-eq-add-one k))
              (part_skip (λ (u : ℕ). (u < n) × T (M u)) k r.0 r.1 (λ h. subst T e h.1)),
        )
