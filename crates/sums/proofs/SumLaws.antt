-- Finite sums.
-- Assumes nothing.
--
--   gate_on, gate_off, gate_le, gate_mono   a term behind a test
--   sum_cong, sum_mono, sum_add, sum_const, sum_scale, sum_zero, sum_swap
--   sum_term            a term is at most the sum
--   sum_point           sums whose terms differ at one place
--   sum_single          a sum with one term
--   sum_strict          no term larger and one smaller: a smaller sum
--   sum_tight           no term larger and the sum no smaller: every term equal
--   sum_pairs           a sum over 2n nodes, job by job: in-node and out-node
use mathlib.Core.Path.{◌≡◌, refl, sym, ap, ◌∙◌, subst}
use mathlib.Core.Logic.{◌≢◌}
use mathlib.Core.Bool.{Bool, true, false}
use Prim.Native.Nat.{ℕ, zero, suc, ◌+◌, ◌*◌, ◌≤◌, ◌<◌, zero-le}
use native.Mathlib.Nat.{not-suc-le-zero, le_refl}
use native.Mathlib.Decide.{ℕ_discrete}
use native.Mathlib.Omega.{arith}
use lib.Dec.{T}
use Rattle.sums.specs.Sum.{sum, gate}

pub gate_on : (b : Bool) (x : ℕ) → T b → gate b x ≡ x
gate_on true x t = refl
gate_on false x t = absurd t

pub gate_off : (b : Bool) (x : ℕ) → (T b → ⊥) → gate b x ≡ 0
gate_off true x t = absurd (t tt)
gate_off false x t = refl

pub gate_le : (b : Bool) (x : ℕ) → gate b x ≤ x
gate_le true x = le_refl x
gate_le false x = zero-le

pub gate_mono : (b : Bool) (x y : ℕ) → x ≤ y → gate b x ≤ gate b y
gate_mono true x y h = h
gate_mono false x y h = zero-le

-- ---- sums

pub sum_cong : (n : ℕ) (f g : ℕ → ℕ) → ((i : ℕ) → i < n → f i ≡ g i) → sum n f ≡ sum n g
unfolding sum
sum_cong zero f g h = refl
sum_cong (suc n) f g h =
    let r : sum n f ≡ sum n g = sum_cong n f g (λ i l. h i (omega arith)) in
    omega (arith, h n (le_refl (suc n)))

pub sum_mono : (n : ℕ) (f g : ℕ → ℕ) → ((i : ℕ) → i < n → f i ≤ g i) → sum n f ≤ sum n g
unfolding sum
sum_mono zero f g h = le_refl 0
sum_mono (suc n) f g h =
    let r : sum n f ≤ sum n g = sum_mono n f g (λ i l. h i (omega arith)) in
    omega (arith, h n (le_refl (suc n)))

pub sum_add : (n : ℕ) (f g : ℕ → ℕ) → sum n (λ i. f i + g i) ≡ sum n f + sum n g
unfolding sum
sum_add zero f g = refl
sum_add (suc n) f g = omega (arith, sum_add n f g)

pub sum_const : (n c : ℕ) → sum n (λ i. c) ≡ n * c
unfolding sum
sum_const zero c = omega arith
sum_const (suc n) c = omega (arith, sum_const n c)

-- two sums whose terms differ at one place only
pub sum_point : (n : ℕ) (f g : ℕ → ℕ) (k x y : ℕ) → k < n → ((i : ℕ) → i < n → i ≢ k → f i ≡ g i) → f k + x ≡ g k + y → sum n f + x ≡ sum n g + y
unfolding sum
sum_point zero f g k x y l h e = absurd (not-suc-le-zero l)
sum_point (suc n) f g k x y l h e = go (λ m. sum_point n f g k x y m (λ i w. h i (omega arith)) e) (ℕ_discrete n k)
  where
    go : (k < n → sum n f + x ≡ sum n g + y) → Dec (n ≡ k) → sum n f + f n + x ≡ sum n g + g n + y
    go rec (yes q) =
        let r : sum n f ≡ sum n g = sum_cong n f g (λ i m. h i (omega arith) (omega arith)) in
        let e' : f n + x ≡ g n + y = subst (λ (z : ℕ). f z + x ≡ g z + y) (sym q) e in
        omega arith
    go rec (no q) =
        let r : sum n f + x ≡ sum n g + y = rec (omega arith) in
        let s : f n ≡ g n = h n (omega arith) q in
        omega arith

-- a term is at most the sum
pub sum_term : (n : ℕ) (f : ℕ → ℕ) (k : ℕ) → k < n → f k ≤ sum n f
unfolding sum
sum_term zero f k l = absurd (not-suc-le-zero l)
sum_term (suc n) f k l = go (λ m. sum_term n f k m) (ℕ_discrete n k)
  where
    go : (k < n → f k ≤ sum n f) → Dec (n ≡ k) → f k ≤ sum n f + f n
    go rec (yes q) = subst (λ (z : ℕ). f z ≤ sum n f + f n) q (omega arith)
    go rec (no q) = omega (arith, rec (omega arith))

pub sum_zero : (n : ℕ) (f : ℕ → ℕ) → ((i : ℕ) → i < n → f i ≡ 0) → sum n f ≡ 0
unfolding sum
sum_zero zero f h = refl
sum_zero (suc n) f h = omega (arith, sum_zero n f (λ i l. h i (omega arith)), h n (le_refl (suc n)))

-- terms that are no larger, and one that is smaller
pub sum_strict : (n : ℕ) (f g : ℕ → ℕ) (k : ℕ) → k < n → ((i : ℕ) → i < n → f i ≤ g i) → f k < g k → sum n f < sum n g
unfolding sum
sum_strict zero f g k l h s = absurd (not-suc-le-zero l)
sum_strict (suc n) f g k l h s = go (λ m. sum_strict n f g k m (λ i w. h i (omega arith)) s) (ℕ_discrete n k)
  where
    go : (k < n → sum n f < sum n g) → Dec (n ≡ k) → sum n f + f n < sum n g + g n
    go rec (yes q) =
        let r : sum n f ≤ sum n g = sum_mono n f g (λ i m. h i (omega arith)) in
        let s' : f n < g n = subst (λ (z : ℕ). f z < g z) (sym q) s in
        omega arith
    go rec (no q) = omega (arith, rec (omega arith), h n (le_refl (suc n)))

-- so where the sums are equal, so is every term
pub sum_tight : (n : ℕ) (f g : ℕ → ℕ) → ((i : ℕ) → i < n → f i ≤ g i) → sum n g ≤ sum n f → (k : ℕ) → k < n → f k ≡ g k
sum_tight n f g h t k l = go (ℕ_discrete (f k) (g k))
  where
    go : Dec (f k ≡ g k) → f k ≡ g k
    go (yes q) = q
    go (no q) =
        let a : f k ≤ g k = h k l in
        let s : sum n f < sum n g = sum_strict n f g k l h (omega arith) in
        omega arith

pub sum_swap : (n m : ℕ) (f : ℕ → ℕ → ℕ) → sum n (λ i. sum m (λ j. f i j)) ≡ sum m (λ j. sum n (λ i. f i j))
unfolding sum
sum_swap zero m f = sym (sum_zero m (λ j. 0) (λ i l. refl))
sum_swap (suc n) m f =
    let r = sum_swap n m f in
    let s = sum_add m (λ j. sum n (λ i. f i j)) (λ j. f n j) in
    omega (arith, r, s)

pub sum_scale : (n k : ℕ) (f : ℕ → ℕ) → sum n (λ i. k * f i) ≡ k * sum n f
unfolding sum
sum_scale zero k f = omega arith
sum_scale (suc n) k f = omega (arith, sum_scale n k f)

-- ---- sums with one term, and over in- and out-nodes

pub sum_single : (n : ℕ) (f : ℕ → ℕ) (k : ℕ) → k < n → ((i : ℕ) → i < n → i ≢ k → f i ≡ 0) → sum n f ≡ f k
sum_single n f k l h = omega (arith, sum_point n f (λ i. 0) k 0 (f k) l h (omega arith), sum_zero n (λ i. 0) (λ i m. refl))

pub sum_pairs : (n : ℕ) (f : ℕ → ℕ) → sum (2 * n) f ≡ sum n (λ u. f (2 * u) + f (suc (2 * u)))
unfolding sum
sum_pairs zero f = refl
sum_pairs (suc n) f =
    let e : 2 * suc n ≡ suc (suc (2 * n)) = omega arith in
    ap (λ (z : ℕ). sum z f) e ∙ omega (arith, sum_pairs n f)
