-- A step that the masks allow, taken apart and put together.
-- Assumes nothing.
--
--   step_parts   it leads to the other side, and its node's mask holds the job that it leads to
--   step_made    so it is, where that holds
use mathlib.Core.Path.{◌≡◌, sym, subst}
use mathlib.Core.Logic.{◌⊎◌, inl, inr}
use mathlib.Core.Bool.{Bool}
use mathlib.Core.List.{List}
use Prim.Native.Nat.{ℕ, ◌+◌, ◌/◌, ◌%◌}
use native.Mathlib.Omega.{arith}
use lib.Dec.{T, eqb, eqb→eq, ltb, lt→ltb, ltb→lt}
use lib.ListN.{get_or}
use Rattle.bits.specs.Mask.{Has, has}
use Rattle.bits.proofs.Masks.{has_test, test_has}
use Rattle.sums.specs.Tests.{both}
use Rattle.sums.specs.Sum.{gate}
use Rattle.sums.proofs.TestLaws.{both_intro, both_left, both_right, tested}
use Rattle.sums.proofs.SumLaws.{gate_on, gate_off}
use Rattle.network.specs.Rooms.{step}
use Rattle.search.specs.Masks.{masked}

passes : (b : Bool) → T (ltb 0 (gate b 1)) → T b
passes b t = go (tested b)
  where
    go : T b ⊎ (T b → ⊥) → T b
    go (inl p) = p
    go (inr f) = let l = ltb→lt 0 (gate b 1) t in absurd (omega (arith, gate_off b 1 f))

pub step_parts : (steps : List ℕ) (a b : ℕ) → T (step (masked steps) a b) → ((a + b) % 2 ≡ 1) × Has (get_or steps a 0) (b / 2)
unfolding masked
step_parts steps a b e =
    let p = passes (both (eqb ((a + b) % 2) 1) (has (get_or steps a 0) (b / 2))) e in
    (eqb→eq ((a + b) % 2) 1 (both_left (eqb ((a + b) % 2) 1) (has (get_or steps a 0) (b / 2)) p), test_has (get_or steps a 0) (b / 2) (both_right (eqb ((a + b) % 2) 1) (has (get_or steps a 0) (b / 2)) p))

pub step_made : (steps : List ℕ) (a b : ℕ) → (a + b) % 2 ≡ 1 → Has (get_or steps a 0) (b / 2) → T (step (masked steps) a b)
unfolding masked
step_made steps a b e h =
    let t : T (both (eqb ((a + b) % 2) 1) (has (get_or steps a 0) (b / 2)))
    = both_intro (eqb ((a + b) % 2) 1) (has (get_or steps a 0) (b / 2)) (subst (λ (z : ℕ). T (eqb z 1)) (sym e) tt) (has_test (get_or steps a 0) (b / 2) h) in
    lt→ltb 0 (gate (both (eqb ((a + b) % 2) 1) (has (get_or steps a 0) (b / 2))) 1) (omega (arith, gate_on (both (eqb ((a + b) % 2) 1) (has (get_or steps a 0) (b / 2))) 1 t))
