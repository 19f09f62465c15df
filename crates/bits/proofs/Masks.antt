-- What masks hold: the unions, intersections and differences that the code makes of them, and that a statement `MaskOf P` settles its mask.
-- Assumes nothing.
--
--   has_test, test_has                     the fact and the test say the same
--   has_or_l, has_or_r, has_or_cases       what a | b holds
--   has_and, and_has                       what a & b holds
--   has_xor, xor_has, xor_lacks, xor_zero  what a ^ b holds
--   has_pow_cases, has_full                what 2 ^ u and 2 ^ j - 1 hold
--   or_le, or_grows, xor_falls             a | b, and a ^ 2 ^ u, as numbers
--   mask_ext, mask_unique                  masks that hold the same are equal; two masks of P are equal
--   mask_same, mask_or                     a mask of what is the same, of one of two
use mathlib.Core.Path.{◌≡◌, refl, sym, ap, ◌∙◌, subst}
use mathlib.Core.Logic.{◌⊎◌, inl, inr, ⊎_elim}
use Prim.Native.Nat.{ℕ, zero, suc, ◌-◌, ◌/◌, ◌^◌, ◌≤◌, ◌<◌, max}
use native.Mathlib.Nat.{le_of_suc-le-suc, not-suc-le-zero, pow-suc}
use native.Mathlib.Omega.{arith}
use native.Mathlib.Decide.{ℕ_discrete}
use lib.Pow.{pow_pos, pow-lt}
use lib.Bits.{bit_and, bit_or, bit_xor, differ, or_add_and, xor_add_and, and_le_r, and_lt, or_lt}
use lib.Dec.{T, eqb, eqb→eq}
use Rattle.bits.specs.Mask.{bit, Has, has, MaskOf}
use Rattle.bits.proofs.Digits.{bit_lt, bit_zero, bit_or_lem, bit_and_lem, bit_xor_lem, bit_here, bit_suc, bit_pow_other, bit_ext}

pub has_test : (m k : ℕ) → Has m k → T (has m k)
unfolding bit has
has_test m k e = subst (λ (z : ℕ). T (eqb z 1)) (sym e) tt

pub test_has : (m k : ℕ) → T (has m k) → Has m k
unfolding bit has
test_has m k e = eqb→eq (bit m k) 1 e

-- ---- a | b

pub or_le : (a b : ℕ) → a ≤ bit_or a b
or_le a b = omega (arith, or_add_and a b, and_le_r a b)

-- a digit that was not set makes the mask larger
pub or_grows : (a b k : ℕ) → (Has a k → ⊥) → Has b k → a < bit_or a b
or_grows a b k n h =
    let differs : a ≡ bit_or a b → ⊥ = λ e. n (ap (λ (z : ℕ). bit z k) e ∙ bit_or_lem a b k ∙ omega (arith, bit_lt a k)) in
    omega (arith, or_le a b)

pub has_or_l : (a b k : ℕ) → Has a k → Has (bit_or a b) k
has_or_l a b k h = bit_or_lem a b k ∙ omega (arith, bit_lt b k)

pub has_or_r : (a b k : ℕ) → Has b k → Has (bit_or a b) k
has_or_r a b k h = bit_or_lem a b k ∙ omega (arith, bit_lt a k)

pub has_or_cases : (a b k : ℕ) → Has (bit_or a b) k → Has a k ⊎ Has b k
has_or_cases a b k h = pick (bit a k) (bit b k) (bit_lt a k) (bit_lt b k) (sym (bit_or_lem a b k) ∙ h)
  where
    pick : (x y : ℕ) → x < 2 → y < 2 → max x y ≡ 1 → (x ≡ 1) ⊎ (y ≡ 1)
    pick zero y hx hy e = inr (omega arith)
    pick (suc x) y hx hy e = inl (omega arith)

-- ---- a & b

pub has_and : (a b k : ℕ) → Has (bit_and a b) k → Has a k × Has b k
has_and a b k h = let e = sym (bit_and_lem a b k) ∙ h in (omega (arith, bit_lt a k, bit_lt b k), omega (arith, bit_lt a k, bit_lt b k))

pub and_has : (a b k : ℕ) → Has a k → Has b k → Has (bit_and a b) k
and_has a b k h g = bit_and_lem a b k ∙ omega arith

-- ---- a ^ b

-- of two masks of which the second holds all of the first: a digit of the difference is in the second alone
pub has_xor : (a b k : ℕ) → (Has b k → Has a k) → Has (bit_xor a b) k → Has a k × (Has b k → ⊥)
has_xor a b k sub h = pick (bit a k) (bit b k) (bit_lt a k) (bit_lt b k) sub (sym (bit_xor_lem a b k) ∙ h)
  where
    pick : (x y : ℕ) → x < 2 → y < 2 → (y ≡ 1 → x ≡ 1) → differ x y ≡ 1 → (x ≡ 1) × (y ≡ 1 → ⊥)
    pick zero zero hx hy s e = omega arith
    pick zero (suc zero) hx hy s e = (s refl, λ z. omega (arith, s refl))
    pick zero (suc (suc y)) hx hy s e = absurd (not-suc-le-zero (le_of_suc-le-suc (le_of_suc-le-suc hy)))
    pick (suc zero) zero hx hy s e = (refl, λ z. omega arith)
    pick (suc zero) (suc zero) hx hy s e = omega arith
    pick (suc zero) (suc (suc y)) hx hy s e = absurd (not-suc-le-zero (le_of_suc-le-suc (le_of_suc-le-suc hy)))
    pick (suc (suc x)) y hx hy s e = absurd (not-suc-le-zero (le_of_suc-le-suc (le_of_suc-le-suc hx)))

-- a digit that the second lacks
pub xor_has : (a b k : ℕ) → Has a k → (Has b k → ⊥) → Has (bit_xor a b) k
xor_has a b k h g =
    let z : bit b k ≡ 0 = omega (arith, bit_lt b k) in
    bit_xor_lem a b k ∙ at (bit a k) (bit b k) h z
  where
    at : (x y : ℕ) → x ≡ 1 → y ≡ 0 → differ x y ≡ 1
    at x y e f = rw (e, f) refl

-- a digit that both have
pub xor_lacks : (a b k : ℕ) → Has a k → Has b k → Has (bit_xor a b) k → ⊥
xor_lacks a b k h g f = at (bit a k) (bit b k) h g (sym (bit_xor_lem a b k) ∙ f)
  where
    at : (x y : ℕ) → x ≡ 1 → y ≡ 1 → differ x y ≡ 1 → ⊥
    at x y e f w = let z : ◌≡◌ {A = ℕ} 0 1 = rw (e, f) at w in omega arith

pub xor_zero : (k a b : ℕ) → a < 2 ^ k → b < 2 ^ k → bit_xor a b ≡ 0 → a ≡ b
xor_zero k a b ha hb e = bit_ext k a b ha hb (λ i l. same (bit a i) (bit b i) (sym (bit_xor_lem a b i) ∙ ap (λ (z : ℕ). bit z i) e ∙ bit_zero i))
  where
    same : (x y : ℕ) → differ x y ≡ 0 → x ≡ y
    same zero y h = sym h
    same (suc x) zero h = h
    same (suc x) (suc y) h = ap suc (same x y h)

-- ---- one digit, and all digits

pub has_pow_cases : (u k : ℕ) → Has (2 ^ u) k → k ≡ u
has_pow_cases u k h = go (ℕ_discrete k u)
  where
    go : Dec (k ≡ u) → k ≡ u
    go (yes e) = e
    go (no n) = omega (arith, bit_pow_other u k n)

pub has_full : (j k : ℕ) → k < j → Has (2 ^ j - 1) k
has_full zero k l = absurd (not-suc-le-zero l)
has_full (suc j) zero l = bit_here (2 ^ suc j - 1) ∙ omega (arith, pow-suc 2 j, pow_pos j)
has_full (suc j) (suc k) l =
    let e : (2 ^ suc j - 1) / 2 ≡ 2 ^ j - 1 = omega (arith, pow-suc 2 j, pow_pos j) in
    bit_suc (2 ^ suc j - 1) k ∙ ap (λ (z : ℕ). bit z k) e ∙ has_full j k (le_of_suc-le-suc l)

-- ---- masks are known by what they hold

-- two masks that hold the same numbers are equal
pub mask_ext : (k a b : ℕ) → a < 2 ^ k → b < 2 ^ k → ((i : ℕ) → i < k → Has a i → Has b i) → ((i : ℕ) → i < k → Has b i → Has a i) → a ≡ b
mask_ext k a b ha hb f g = bit_ext k a b ha hb (λ i l. same (bit a i) (bit b i) (bit_lt a i) (bit_lt b i) (f i l) (g i l))
  where
    same : (x y : ℕ) → x < 2 → y < 2 → (x ≡ 1 → y ≡ 1) → (y ≡ 1 → x ≡ 1) → x ≡ y
    same zero zero hx hy p q = refl
    same zero (suc zero) hx hy p q = q refl
    same zero (suc (suc y)) hx hy p q = absurd (not-suc-le-zero (le_of_suc-le-suc (le_of_suc-le-suc hy)))
    same (suc zero) y hx hy p q = sym (p refl)
    same (suc (suc x)) y hx hy p q = absurd (not-suc-le-zero (le_of_suc-le-suc (le_of_suc-le-suc hx)))

-- a digit that is taken off makes the mask smaller
pub xor_falls : (k x j : ℕ) → x < 2 ^ k → j < k → Has x j → bit_xor x (2 ^ j) < x
xor_falls k x j l lj h = omega (arith, xor_add_and x (2 ^ j), pow_pos j, both)
  where
    small : 2 ^ j < 2 ^ k
    small = pow-lt lj

    both : bit_and x (2 ^ j) ≡ 2 ^ j
    both = mask_ext k (bit_and x (2 ^ j)) (2 ^ j) (and_lt k x (2 ^ j) l small) small (λ i li g. (has_and x (2 ^ j) i g).1)
        (λ i li g. and_has x (2 ^ j) i (subst (Has x) (sym (has_pow_cases j i g)) h) g)

-- the statement settles the mask
pub mask_unique : (P : ℕ → Type 0) (a b : ℕ) → MaskOf P a → MaskOf P b → a ≡ b
mask_unique P a b p q = mask_ext 64 a b p.small q.small (λ i l h. q.complete i (p.sound i h)) (λ i l h. p.complete i (q.sound i h))

-- a mask of one thing is a mask of what is the same
pub mask_same : (P Q : ℕ → Type 0) (m : ℕ) → MaskOf P m → ((v : ℕ) → P v → Q v) → ((v : ℕ) → Q v → P v) → MaskOf Q m
mask_same P Q m p f g = record { small = p.small; sound = λ v h. f v (p.sound v h); complete = λ v q. p.complete v (g v q) }

-- a & b holds what both hold
pub mask_or : (P Q : ℕ → Type 0) (a b : ℕ) → MaskOf P a → MaskOf Q b → MaskOf (λ (k : ℕ). P k ⊎ Q k) (bit_or a b)
mask_or P Q a b p q = record {
  small = or_lt 64 a b p.small q.small;
  sound = λ k h. ⊎_elim (λ x. inl (p.sound k x)) (λ x. inr (q.sound k x)) (has_or_cases a b k h);
  complete = λ k h. ⊎_elim (λ x. has_or_l a b k (p.complete k x)) (λ x. has_or_r a b k (q.complete k x)) h;
}
