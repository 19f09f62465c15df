-- The binary digits of a number: those of a | b, a & b and a ^ b, of a power of two, and that a number of k digits is known by them.
-- Assumes nothing. Most are the library's laws of its own word for a digit, said of the word that `Mask` has.
--
--   bit_lt, bit_zero             a digit is 0 or 1; the digits of 0
--   bit_or_lem, bit_and_lem, bit_xor_lem     the digits of a | b, a & b, a ^ b: the larger, the smaller, whether they differ
--   bit_here, bit_suc            the lowest digit, and the others
--   bit_pow_same, bit_pow_other  the digits of 2 ^ u
--   one_shl                      1 << u is 2 ^ u
--   bit_ext                      numbers below 2 ^ k with the same digits are equal
use mathlib.Core.Path.{◌≡◌, sym, ap, ◌∙◌, subst}
use Prim.Native.Nat.{ℕ, zero, suc, ◌*◌, ◌/◌, ◌%◌, ◌^◌, ◌<◌, min, max}
use native.Mathlib.Nat.{le_of_suc-le-suc, not-suc-le-zero, mod-lt, zero-lt-suc, one-mul}
use native.Mathlib.Omega.{arith}
use native.Mathlib.Numerals.{add-one}
use lib.Arith.{digits_mod}
use lib.Pow.{shl_exact, shr_lt}
use lib.Bits.{bit_and, bit_or, bit_xor, differ, xor_step, xor_shr}
use lib.Dec.{lit<}
use Rattle.std.proofs.lemmas.Nat.Bits.{bit_at-lt, bit_at-zero, bit_at_or, bit_at_and, bit_at_lowest, bit_at-suc, bit_at-pow_same, bit_at-pow_other, same_from_bits_below}
use Rattle.bits.specs.Mask.{bit}

two_pos : zero < 2
two_pos = zero-lt-suc 1

pub bit_lt : (x k : ℕ) → bit x k < 2
unfolding bit
bit_lt = bit_at-lt

pub bit_zero : (k : ℕ) → bit 0 k ≡ 0
unfolding bit
bit_zero = bit_at-zero

-- ---- the digits of a | b, a & b and a ^ b

pub bit_or_lem : (a b k : ℕ) → bit (bit_or a b) k ≡ max (bit a k) (bit b k)
unfolding bit
bit_or_lem = bit_at_or

pub bit_and_lem : (a b k : ℕ) → bit (bit_and a b) k ≡ min (bit a k) (bit b k)
unfolding bit
bit_and_lem = bit_at_and

-- a digit of a ^ b that is set is set in just one of the two
pub bit_xor_lem : (a b k : ℕ) → bit (bit_xor a b) k ≡ differ (bit a k) (bit b k)
unfolding bit
bit_xor_lem a b k = ap (λ (z : ℕ). z % 2) (xor_shr a b k) ∙ low (a / 2 ^ k) (b / 2 ^ k)
  where
    small : (x y : ℕ) → x < 2 → y < 2 → differ x y < 2
    small zero y hx hy = hy
    small (suc x) zero hx hy = hx
    small (suc zero) (suc zero) hx hy = two_pos
    small (suc zero) (suc (suc y)) hx hy = absurd (not-suc-le-zero (le_of_suc-le-suc (le_of_suc-le-suc hy)))
    small (suc (suc x)) (suc y) hx hy = absurd (not-suc-le-zero (le_of_suc-le-suc (le_of_suc-le-suc hx)))

    low : (x y : ℕ) → bit_xor x y % 2 ≡ differ (x % 2) (y % 2)
    low x y = ap (λ (z : ℕ). z % 2) (xor_step x y) ∙ digits_mod (bit_xor (x / 2) (y / 2)) (small (x % 2) (y % 2) (mod-lt x two_pos) (mod-lt y two_pos))

-- ---- digit 0, and the rest

pub bit_here : (x : ℕ) → bit x 0 ≡ x % 2
unfolding bit
bit_here = bit_at_lowest

pub bit_suc : (x k : ℕ) → bit x (suc k) ≡ bit (x / 2) k
unfolding bit
bit_suc = bit_at-suc

pub half_lt : (k x : ℕ) → x < 2 ^ suc k → x / 2 < 2 ^ k
half_lt k x h = shr_lt k 1 (subst (λ (z : ℕ). x < 2 ^ z) (sym (add-one k)) h)

-- ---- one digit: 2 ^ u

pub bit_pow_same : (u : ℕ) → bit (2 ^ u) u ≡ 1
unfolding bit
bit_pow_same = bit_at-pow_same

pub bit_pow_other : (u k : ℕ) → (k ≡ u → ⊥) → bit (2 ^ u) k ≡ 0
unfolding bit
bit_pow_other = bit_at-pow_other

-- `1u64 << u`
pub one_shl : (u : ℕ) → u < 64 → (1 * 2 ^ u) % 2 ^ 64 ≡ 2 ^ u
one_shl u h = shl_exact 1 u 64 (lit< tt) (omega arith) ∙ one-mul (2 ^ u)

-- ---- a number of k digits is known by them

pub bit_ext : (k a b : ℕ) → a < 2 ^ k → b < 2 ^ k → ((i : ℕ) → i < k → bit a i ≡ bit b i) → a ≡ b
unfolding bit
bit_ext = same_from_bits_below
