-- Sums over pairs of numbers below n, as over the steps of a network.
-- Assumes nothing.
--
--   dsum n f      the sum of f i j over all i and j below n
--   dsum_cong, dsum_mono, dsum_add, dsum_zero, dsum_term, dsum_point, dsum_strict   as the laws of `sum`
use mathlib.Core.Path.{◌≡◌, ◌∙◌}
use mathlib.Core.Logic.{◌⊎◌, inl, inr, ◌≢◌}
use Prim.Native.Nat.{ℕ, ◌+◌, ◌≤◌, ◌<◌}
use native.Mathlib.Omega.{arith}
use Rattle.sums.specs.Sum.{sum}
use Rattle.sums.proofs.SumLaws.{sum_cong, sum_mono, sum_add, sum_point, sum_term, sum_zero, sum_strict}

unfoldable pub dsum : ℕ → (ℕ → ℕ → ℕ) → ℕ
dsum n f = sum n (λ i. sum n (λ j. f i j))

pub dsum_point : (n : ℕ) (f g : ℕ → ℕ → ℕ) (a b x y : ℕ) → a < n → b < n
    → ((i j : ℕ) → i < n → j < n → (i ≢ a) ⊎ (j ≢ b) → f i j ≡ g i j) → f a b + x ≡ g a b + y → dsum n f + x ≡ dsum n g + y
unfolding dsum
dsum_point n f g a b x y la lb h e =
    sum_point n (λ i. sum n (λ j. f i j)) (λ i. sum n (λ j. g i j)) a x y la
    (λ i li ne. sum_cong n (λ j. f i j) (λ j. g i j) (λ j lj. h i j li lj (inl ne)))
    (sum_point n (λ j. f a j) (λ j. g a j) b x y lb (λ j lj ne. h a j la lj (inr ne)) e)

pub dsum_mono : (n : ℕ) (f g : ℕ → ℕ → ℕ) → ((i j : ℕ) → i < n → j < n → f i j ≤ g i j) → dsum n f ≤ dsum n g
unfolding dsum
dsum_mono n f g h = sum_mono n _ _ (λ i li. sum_mono n _ _ (λ j lj. h i j li lj))

pub dsum_cong : (n : ℕ) (f g : ℕ → ℕ → ℕ) → ((i j : ℕ) → i < n → j < n → f i j ≡ g i j) → dsum n f ≡ dsum n g
unfolding dsum
dsum_cong n f g h = sum_cong n _ _ (λ i li. sum_cong n _ _ (λ j lj. h i j li lj))

pub dsum_term : (n : ℕ) (f : ℕ → ℕ → ℕ) (a b : ℕ) → a < n → b < n → f a b ≤ dsum n f
unfolding dsum
dsum_term n f a b la lb =
    let p : f a b ≤ sum n (λ j. f a j) = sum_term n (λ j. f a j) b lb in
    let q : sum n (λ j. f a j) ≤ sum n (λ i. sum n (λ j. f i j)) = sum_term n (λ i. sum n (λ j. f i j)) a la in
    omega arith

pub dsum_strict : (n : ℕ) (f g : ℕ → ℕ → ℕ) (a b : ℕ) → a < n → b < n → ((i j : ℕ) → i < n → j < n → f i j ≤ g i j) → f a b < g a b → dsum n f < dsum n g
unfolding dsum
dsum_strict n f g a b la lb h s =
    sum_strict n _ _ a la (λ i li. sum_mono n _ _ (λ j lj. h i j li lj)) (sum_strict n _ _ b lb (λ j lj. h a j la lj) s)

pub dsum_add : (n : ℕ) (f g : ℕ → ℕ → ℕ) → dsum n (λ i j. f i j + g i j) ≡ dsum n f + dsum n g
unfolding dsum
dsum_add n f g =
    sum_cong n _ (λ i. sum n (λ j. f i j) + sum n (λ j. g i j)) (λ i li. sum_add n (λ j. f i j) (λ j. g i j))
    ∙ sum_add n (λ i. sum n (λ j. f i j)) (λ i. sum n (λ j. g i j))

pub dsum_zero : (n : ℕ) (f : ℕ → ℕ → ℕ) → ((i j : ℕ) → i < n → j < n → f i j ≡ 0) → dsum n f ≡ 0
unfolding dsum
dsum_zero n f h = sum_zero n _ (λ i li. sum_zero n _ (λ j lj. h i j li lj))
