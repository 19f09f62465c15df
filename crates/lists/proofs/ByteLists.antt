-- The bytes of a list of numbers: how many they are, those of two lists, and those of zeros.
-- Assumes nothing.
--
--   all_length     8 bytes a number
--   all_append     those of one list behind another
--   all_zero       the bytes of k zeros are 8 * k zeros
use mathlib.Core.Path.{◌≡◌, refl, sym, ap, ◌∙◌}
use mathlib.Core.List.{List, [], ◌∷◌, ◌++◌, append_assoc}
use Prim.Native.Nat.{ℕ, zero, suc, ◌*◌}
use native.Mathlib.Omega.{arith}
use lib.ListN.{length, replicate, length-append}
use Rattle.codec.specs.Bytes.{bytes_of}
use Rattle.codec.proofs.ByteLaws.{bytes_length}
use Rattle.lists.specs.Numbers.{all_bytes}

pub all_length : (l : List ℕ) → length (all_bytes l) ≡ 8 * length l
unfolding all_bytes
all_length [] = refl
all_length (x ∷ l) = omega (arith, length-append (bytes_of 8 x) (all_bytes l), bytes_length 8 x, all_length l)

pub all_append : (l m : List ℕ) → all_bytes (l ++ m) ≡ all_bytes l ++ all_bytes m
unfolding all_bytes
all_append [] m = refl
all_append (x ∷ l) m = ap (λ (z : List ℕ). bytes_of 8 x ++ z) (all_append l m) ∙ sym (append_assoc (bytes_of 8 x) (all_bytes l) (all_bytes m))

pub all_zero : (k : ℕ) → all_bytes (replicate k 0) ≡ replicate (8 * k) 0
unfolding all_bytes bytes_of
all_zero zero = refl
all_zero (suc k) = let e : 8 * suc k ≡ suc (suc (suc (suc (suc (suc (suc (suc (8 * k)))))))) = omega arith in rw (e, all_zero k) refl
