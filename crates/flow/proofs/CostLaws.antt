-- The sum in the loop of `begin`, collected term by term.
-- Assumes nothing.
--
--   Totalling costs x rest sum    sum and the costs of the jobs that are still in rest add up to S
--   total_start, total_job, total_fits, total_turn, total_end
--   turn_lowest                   a turn takes the lowest job and leaves the others
use mathlib.Core.Path.{◌≡◌, refl, ap}
use mathlib.Core.Logic.{◌⊎◌, inl, inr, ◌≢◌}
use mathlib.Core.List.{List}
use Prim.Native.Nat.{ℕ, ◌+◌, ◌-◌, ◌^◌, ◌<◌}
use native.Mathlib.Omega.{arith}
use lib.Bits.{bit_and}
use lib.Count.{count_trailing_zeros}
use lib.ListN.{length, get_or}
use Rattle.std.specs.Prelude.{Some}
use Rattle.bits.specs.Mask.{Has, has}
use Rattle.bits.specs.Members.{Turn}
use Rattle.bits.proofs.Masks.{has_test, test_has}
use Rattle.bits.proofs.Rest.{Rest, rest_start, rest_end, rest_low, rest_here, rest_next, rest_gone, rest_cases}
use Rattle.bits.proofs.TurnLaws.{turn_taken, turn_unique}
use Rattle.sums.specs.Sum.{gate}
use Rattle.sums.proofs.TestLaws.{T_eq}
use Rattle.sums.proofs.SumLaws.{gate_on, gate_off, sum_point, sum_zero}
use Rattle.network.specs.Arcs.{total}
use Rattle.network.specs.Costs.{cost_at}
use Rattle.flow.specs.Inside.{Costed}

pub record Totalling (costs : List ℕ) (x rest acc : ℕ) : Type 0 where
  pub given : Costed costs x
  pub rest_part : Rest x rest
  pub so_far : acc + total (length costs) (has rest) (cost_at costs) ≡ total (length costs) (has x) (cost_at costs)

pub total_start : (costs : List ℕ) (x : ℕ) → Costed costs x → x < 2 ^ 64 → Totalling costs x x 0
total_start costs x C l = record { given = C; rest_part = rest_start x l; so_far = omega arith }

-- a turn takes the lowest job and leaves the others
pub turn_lowest : (x u others : ℕ) → x < 2 ^ 64 → Turn x (Some u) others → (x ≢ 0) × (u ≡ count_trailing_zeros 64 x) × (others ≡ bit_and x (x - 1))
turn_lowest x u others l t =
    let some : x ≢ 0 = λ e. rest_end x u e t.0 in
    let one : (Some u ≡ Some (count_trailing_zeros 64 x)) × (others ≡ bit_and x (x - 1)) = turn_unique x _ _ _ _ t (turn_taken x l some) in
    (some, (let e = one.0 in cc), one.1)

module _ (costs : List ℕ) (x rest acc : ℕ) (A : Totalling costs x rest acc) where
  module _ (some : rest ≢ 0) where
    pub total_job : count_trailing_zeros 64 rest < length costs
    total_job = A.given.members (count_trailing_zeros 64 rest) (rest_low x rest A.rest_part some)

    -- the lowest job's cost is one term
    term : total (length costs) (has rest) (cost_at costs) ≡ total (length costs) (has (bit_and rest (rest - 1))) (cost_at costs) + cost_at costs (count_trailing_zeros 64 rest)
    unfolding total
    term = omega (
      arith,
      sum_point (length costs) (λ u. gate (has rest u) (cost_at costs u)) (λ u. gate (has (bit_and rest (rest - 1)) u) (cost_at costs u))
          (count_trailing_zeros 64 rest) 0 (cost_at costs (count_trailing_zeros 64 rest)) total_job (λ u l ne. ap (λ (b : _). gate b (cost_at costs u)) (same u ne)) here,
    )
      where
        same : (u : ℕ) → u ≢ count_trailing_zeros 64 rest → has rest u ≡ has (bit_and rest (rest - 1)) u
        same u ne = T_eq (has rest u) (has (bit_and rest (rest - 1)) u)
            (λ t. has_test (bit_and rest (rest - 1)) u (stays (rest_cases x rest A.rest_part some u (test_has rest u t))))
            (λ t. has_test rest u (rest_gone x rest A.rest_part some u (test_has (bit_and rest (rest - 1)) u t)).0)
          where
            stays : (u ≡ count_trailing_zeros 64 rest) ⊎ Has (bit_and rest (rest - 1)) u → Has (bit_and rest (rest - 1)) u
            stays (inl e) = absurd (ne e)
            stays (inr h) = h

        here : gate (has rest (count_trailing_zeros 64 rest)) (cost_at costs (count_trailing_zeros 64 rest)) + 0
            ≡ gate (has (bit_and rest (rest - 1)) (count_trailing_zeros 64 rest)) (cost_at costs (count_trailing_zeros 64 rest)) + cost_at costs (count_trailing_zeros 64 rest)
        here = omega (
          arith,
          gate_on (has rest (count_trailing_zeros 64 rest)) (cost_at costs (count_trailing_zeros 64 rest)) (has_test rest (count_trailing_zeros 64 rest) (rest_here x rest A.rest_part some)),
          gate_off (has (bit_and rest (rest - 1)) (count_trailing_zeros 64 rest)) (cost_at costs (count_trailing_zeros 64 rest))
              (λ t. (rest_gone x rest A.rest_part some (count_trailing_zeros 64 rest) (test_has (bit_and rest (rest - 1)) (count_trailing_zeros 64 rest) t)).1 refl),
        )

    pub total_fits : acc + get_or costs (count_trailing_zeros 64 rest) 0 < 2 ^ 64
    unfolding cost_at
    total_fits = omega (arith, A.so_far, term, A.given.bounded)

    pub total_turn : Totalling costs x (bit_and rest (rest - 1)) (acc + get_or costs (count_trailing_zeros 64 rest) 0)
    unfolding cost_at
    total_turn = record { given = A.given; rest_part = rest_next x rest A.rest_part some; so_far = omega (arith, A.so_far, term) }

  pub total_end : rest ≡ 0 → acc ≡ total (length costs) (has x) (cost_at costs)
  unfolding total
  total_end z = omega (arith, A.so_far, nothing)
    where
      nothing : total (length costs) (has rest) (cost_at costs) ≡ 0
      nothing = sum_zero (length costs) (λ u. gate (has rest u) (cost_at costs u)) (λ u l. gate_off (has rest u) (cost_at costs u) (λ t. rest_end rest u z (test_has rest u t)))
