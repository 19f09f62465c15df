-- The lowest digit that is set, as loops over a mask take it: `trailing_zeros(x)` and `x & (x - 1)`.
-- Assumes nothing.
--
--   trailing_has    it is set, and below the width
--   trailing_least  none that is set is lower
--   and_pred        x & (x - 1) is x without it
--   shifted_none, shifted_some, has_below   what x holds from n on: `x >> n`
use mathlib.Core.Path.{◌≡◌, refl, sym, ap, ◌∙◌, subst}
use Prim.Native.Nat.{ℕ, zero, suc, ◌+◌, ◌-◌, ◌*◌, ◌/◌, ◌%◌, ◌^◌, ◌≤◌, ◌<◌, zero-le, suc-le-suc}
use native.Mathlib.Nat.{pow-suc, div-le_self, div-eq_of_lt}
use native.Mathlib.Decide.{dec_lt}
use native.Mathlib.Omega.{arith}
use lib.Pow.{shr-shr}
use lib.Bits.{bit_and, bit_xor, differ, and_step, xor_step, and_self, xor_zero_r}
use lib.Count.{count_trailing_zeros, under}
use Rattle.bits.specs.Mask.{bit, Has}
use Rattle.bits.proofs.Digits.{bit_here, bit_suc, bit_zero, half_lt}

pub trailing_has : (k x : ℕ) → x < 2 ^ k → (x ≡ 0 → ⊥) → Has x (count_trailing_zeros k x) × (count_trailing_zeros k x < k)
unfolding count_trailing_zeros
trailing_has zero x h n = absurd (n (omega arith))
trailing_has (suc k) x h n = go (x % 2) refl (trailing_has k (x / 2) (half_lt k x h))
  where
    go : (d : ℕ) → x % 2 ≡ d → ((x / 2 ≡ 0 → ⊥) → Has (x / 2) (count_trailing_zeros k (x / 2)) × (count_trailing_zeros k (x / 2) < k))
        → Has x (under (x % 2) (count_trailing_zeros k (x / 2))) × (under (x % 2) (count_trailing_zeros k (x / 2)) < suc k)
    go zero e ih =
        let some : x / 2 ≡ 0 → ⊥ = λ z. n (omega arith) in
        let at : under (x % 2) (count_trailing_zeros k (x / 2)) ≡ suc (count_trailing_zeros k (x / 2)) = ap (λ (z : ℕ). under z (count_trailing_zeros k (x / 2))) e in
        (ap (bit x) at ∙ bit_suc x (count_trailing_zeros k (x / 2)) ∙ (ih some).0, subst (λ (z : ℕ). z < suc k) (sym at) (suc-le-suc (ih some).1))
    go (suc d) e ih =
        let at : under (x % 2) (count_trailing_zeros k (x / 2)) ≡ 0 = ap (λ (z : ℕ). under z (count_trailing_zeros k (x / 2))) e in
        (ap (bit x) at ∙ bit_here x ∙ omega arith, subst (λ (z : ℕ). z < suc k) (sym at) (suc-le-suc zero-le))

pub trailing_least : (k x i : ℕ) → Has x i → count_trailing_zeros k x ≤ i
unfolding count_trailing_zeros
trailing_least zero x i h = zero-le
trailing_least (suc k) x zero h = let e : x % 2 ≡ 1 = sym (bit_here x) ∙ h in subst (λ (z : ℕ). under z (count_trailing_zeros k (x / 2)) ≤ 0) (sym e) zero-le
trailing_least (suc k) x (suc i) h = go (x % 2) (trailing_least k (x / 2) i (sym (bit_suc x i) ∙ h))
  where
    go : (d : ℕ) → count_trailing_zeros k (x / 2) ≤ i → under d (count_trailing_zeros k (x / 2)) ≤ suc i
    go zero l = suc-le-suc l
    go (suc d) l = zero-le

-- `x & (x - 1)` is x without its lowest digit
pub and_pred : (k x : ℕ) → x < 2 ^ k → (x ≡ 0 → ⊥) → bit_and x (x - 1) ≡ bit_xor x (2 ^ count_trailing_zeros k x)
unfolding count_trailing_zeros
and_pred zero x h n = absurd (n (omega arith))
and_pred (suc k) x h n = go (x % 2) refl (and_pred k (x / 2) (omega (arith, pow-suc 2 k)))
  where
    nil : differ 1 1 ≡ 0
    nil = refl

    go : (d : ℕ) → x % 2 ≡ d → ((x / 2 ≡ 0 → ⊥) → bit_and (x / 2) (x / 2 - 1) ≡ bit_xor (x / 2) (2 ^ count_trailing_zeros k (x / 2)))
        → bit_and x (x - 1) ≡ bit_xor x (2 ^ under (x % 2) (count_trailing_zeros k (x / 2)))
    go zero e ih =
        let t = count_trailing_zeros k (x / 2) in
        let at : 2 ^ under (x % 2) t ≡ 2 ^ suc t = ap (λ (z : ℕ). 2 ^ under z t) e in
        let half : (x - 1) / 2 ≡ x / 2 - 1 = omega arith in
        let p : 2 ^ suc t / 2 ≡ 2 ^ t = omega (arith, pow-suc 2 t) in
        let q : 2 ^ suc t % 2 ≡ 0 = omega (arith, pow-suc 2 t) in
        let l : bit_and x (x - 1) ≡ bit_and (x / 2) (x / 2 - 1) * 2 = and_step x (x - 1) ∙ omega (arith, ap (λ (z : ℕ). bit_and (x / 2) z) half) in
        let r : bit_xor x (2 ^ suc t) ≡ bit_xor (x / 2) (2 ^ t) * 2 = xor_step x (2 ^ suc t) ∙ omega (arith, ap (λ (z : ℕ). bit_xor (x / 2) z) p, same (x % 2) (2 ^ suc t % 2) e q) in
        l ∙ ap (λ (z : ℕ). z * 2) (ih (λ z. n (omega arith))) ∙ sym r ∙ ap (bit_xor x) (sym at)
      where
        same : (a b : ℕ) → a ≡ 0 → b ≡ 0 → differ a b ≡ 0
        same a b f g = rw (f, g) refl
    go (suc d) e ih =
        let t = count_trailing_zeros k (x / 2) in
        let at : 2 ^ under (x % 2) t ≡ 1 = ap (λ (z : ℕ). 2 ^ under z t) e in
        let half : (x - 1) / 2 ≡ x / 2 = omega arith in
        let l : bit_and x (x - 1) ≡ x / 2 * 2 = and_step x (x - 1) ∙ omega (arith, ap (λ (z : ℕ). bit_and (x / 2) z) half, and_self (x / 2)) in
        let r : bit_xor x 1 ≡ x / 2 * 2 = xor_step x 1 ∙ omega (arith, xor_zero_r (x / 2), both (x % 2) (omega arith)) in
        l ∙ sym r ∙ ap (bit_xor x) (sym at)
      where
        both : (a : ℕ) → a ≡ 1 → differ a 1 ≡ 0
        both a f = rw f refl

-- ---- the digits from n on: x >> n

bit_from : (x n k : ℕ) → bit (x / 2 ^ n) k ≡ bit x (n + k)
unfolding bit
bit_from x n k = ap (λ (z : ℕ). z % 2) (shr-shr x n k)

-- where x >> n is 0, x holds only numbers below n
pub shifted_none : (x n i : ℕ) → x / 2 ^ n ≡ 0 → Has x i → i < n
shifted_none x n i e h = go (dec_lt i n)
  where
    go : Dec (i < n) → i < n
    go (yes l) = l
    go (no l) =
        let q : n + (i - n) ≡ i = omega arith in
        let z : bit x i ≡ 0 = ap (bit x) (sym q) ∙ sym (bit_from x n (i - n)) ∙ ap (λ (y : ℕ). bit y (i - n)) e ∙ bit_zero (i - n) in
        absurd (omega (arith, z, h))

-- where it is not, x holds some number from n on
pub shifted_some : (x n : ℕ) → x < 2 ^ 64 → (x / 2 ^ n ≡ 0 → ⊥) → (i : ℕ) × Has x i × (n ≤ i)
shifted_some x n l ne =
    let k = count_trailing_zeros 64 (x / 2 ^ n) in
    let small : x / 2 ^ n < 2 ^ 64 = omega (arith, div-le_self x (2 ^ n)) in
    let h = trailing_has 64 (x / 2 ^ n) small ne in
    (n + k, sym (bit_from x n k) ∙ h.0, omega arith)

-- a number of k digits holds only numbers below k
pub has_below : (k x i : ℕ) → x < 2 ^ k → Has x i → i < k
has_below k x i l h = shifted_none x k i (div-eq_of_lt l) h
