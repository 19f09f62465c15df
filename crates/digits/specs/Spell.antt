-- Numbers written as digits (document 01, "Frames": "Most significant byte first, capital digits").
--
--   spelt d        the digit worth d, from 0 to 15
--   spell k x      the last k digits of x
use Rattle.std.specs.Prelude.{cond, List, [], ◌∷◌, ℕ, zero, suc, ◌+◌, ◌/◌, ◌%◌, ◌^◌, ltb}

unfoldable pub spelt : ℕ → ℕ
spelt d = cond (ltb d 10) (48 + d) (55 + d)

unfoldable pub spell : ℕ → ℕ → List ℕ
spell zero x = []
spell (suc k) x = spelt (x / 16 ^ k % 16) ∷ spell k x
