-- Numbers in a list of bytes, as a loop reads them from the front.
-- Assumes nothing.
--
--   numbers_length     the first k numbers are k
--   numbers_snoc       one more at the end
--   read_turn          a turn of the loop
use mathlib.Core.Path.{◌≡◌, refl, sym, ap, ◌∙◌}
use mathlib.Core.List.{List, [], ◌∷◌, ◌++◌}
use Prim.Native.Nat.{ℕ, zero, suc, ◌+◌, ◌*◌, ◌<◌}
use native.Mathlib.Nat.{add_assoc}
use native.Mathlib.Numerals.{add-one}
use native.Mathlib.Omega.{arith}
use lib.ListN.{get_or, drop, set, length}
use lib.Seq.{get_or-drop, drop-cons, set_at, append_snoc}
use Rattle.codec.specs.Bytes.{number_at}
use Rattle.lists.specs.Numbers.{numbers}

pub numbers_length : (k : ℕ) (b : List ℕ) → length (numbers k b) ≡ k
unfolding numbers
numbers_length zero b = refl
numbers_length (suc k) b = ap suc (numbers_length k _)

number_drop : (b : List ℕ) (at k : ℕ) → number_at (drop 8 b) at k ≡ number_at b (8 + at) k
unfolding number_at
number_drop b at zero = refl
number_drop b at (suc k) = rw (number_drop b at k, get_or-drop 8 b (at + k) 0, add_assoc 8 at k) refl

pub numbers_snoc : (k : ℕ) (b : List ℕ) → numbers (suc k) b ≡ numbers k b ++ (number_at b (8 * k) 8 ∷ [])
unfolding numbers
numbers_snoc zero b = refl
numbers_snoc (suc k) b =
    ap (λ (r : List ℕ). number_at b 0 8 ∷ r)
    (numbers_snoc k (drop 8 b) ∙ ap (λ (x : ℕ). numbers k (drop 8 b) ++ (x ∷ [])) (number_drop b (8 * k) 8 ∙ ap (λ (z : ℕ). number_at b z 8) (omega arith)))

-- one place more: the first i places of the list l₀ hold the numbers of b, the rest are as they were
pub read_turn : (b l₀ l : List ℕ) (i x : ℕ) → i < length l₀ → l ≡ numbers i b ++ drop i l₀ → x ≡ number_at b (8 * i) 8 → set l i x ≡ numbers (i + 1) b ++ drop (i + 1) l₀
read_turn b l₀ l i x under done e =
    rw (done, add-one i, numbers_snoc i b, drop-cons l₀ i 0 under, e)
    (set_at (numbers i b) (get_or l₀ i 0) (drop (suc i) l₀) (number_at b (8 * i) 8) i (numbers_length i b)
    ∙ sym (append_snoc (numbers i b) (number_at b (8 * i) 8) (drop (suc i) l₀)))
