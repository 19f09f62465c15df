-- The verdict where a ring passes through T, in the words of the contracts: what `decide` asks of the layers below, and the three decisions that it gives.
-- Assumes nothing.
--
--   ringed_accepted    the rounds may be made
--   ringed_timed, ringed_priced   T is below 64, and its cost stands in the list
--   ringed_unfinished  a path is left: not yet
--   ringed_summable    none is left: what flows into T can be added up
--   ringed_itself      and is above the cost of T
--   ringed_others      or is not
use mathlib.Core.Path.{◌≡◌, refl}
use mathlib.Core.Bool.{true, false}
use mathlib.Core.List.{List}
use Prim.Native.Nat.{ℕ, ◌^◌, ◌<◌, ◌≤◌}
use native.Mathlib.Omega.{arith}
use lib.Bits.{bit_and, bit_xor}
use lib.ListN.{length, get_or}
use Rattle.flow.specs.Accepted.{Accepted}
use Rattle.flow.specs.Flowed.{Flowed}
use Rattle.sheet.specs.Inflow.{inflow_of, Summable}
use Rattle.verdict.specs.declared.Outcome.TheVariants.{AbortT, AbortOthers}
use Rattle.verdict.specs.declared.Decision.{Decision}
use Rattle.verdict.specs.Results.Answer.{Decided}
use Rattle.verdict.specs.Answers.{not_yet}
use Rattle.verdict.specs.Called.{Ringed, Called}
use Rattle.checks.proofs.RefusalLaws.{faultless_job, faultless_few, faultless_priced}
use Rattle.verdict.proofs.DecideLaws.{through_some, decide_accepted, decide_unfinished, decide_itself, decide_others, inflow_summable}

module _ {rows costs : List ℕ} {τ x : ℕ} {before : List ℕ} (R : Ringed rows costs τ x before) where
  pub ringed_accepted : Accepted rows costs τ x before
  ringed_accepted = decide_accepted rows costs τ x R.exact before R.faultless R.blank

  pub ringed_timed : τ < 64
  ringed_timed = omega (arith, faultless_job rows costs τ (length before) R.faultless, faultless_few rows costs τ (length before) R.faultless)

  pub ringed_priced : τ < length costs
  ringed_priced = omega (arith, faultless_job rows costs τ (length before) R.faultless, faultless_priced rows costs τ (length before) R.faultless)

  module _ {allowance k ins outs : ℕ} {after : List ℕ} where
    pub ringed_unfinished : Flowed rows costs τ x allowance before after k true ins outs → (d : Decision) → d ≡ not_yet k → Called rows costs τ allowance before (Decided d) after
    ringed_unfinished M d e =
        let g = through_some _ _ _ _ R.ring refl in
        decide_unfinished rows costs τ x R.exact before R.faultless R.blank allowance after k true ins outs M g.0 g.1 refl d e

    module _ (M : Flowed rows costs τ x allowance before after k false ins outs) where
      pub ringed_summable : Summable after (length rows) τ
      ringed_summable =
          let g = through_some _ _ _ _ R.ring refl in
          inflow_summable rows costs τ x R.exact before R.faultless R.blank allowance after k false ins outs M g.0 g.1 refl

      pub ringed_itself : (price victims : ℕ) → price ≡ inflow_of after (length rows) τ → get_or costs τ 0 < price → victims ≡ 2 ^ τ
          → Called rows costs τ allowance before (Decided (record { outcome = AbortT; price = get_or costs τ 0; rounds = k; victims = victims })) after
      ringed_itself =
          let g = through_some _ _ _ _ R.ring refl in
          decide_itself rows costs τ x R.exact before R.faultless R.blank allowance after k false ins outs M g.0 g.1 refl

      pub ringed_others : (price : ℕ) → price ≡ inflow_of after (length rows) τ → price ≤ get_or costs τ 0
          → Called rows costs τ allowance before
          (Decided (record { outcome = AbortOthers; price = price; rounds = k; victims = bit_xor (bit_and x outs) (bit_and (bit_and x outs) ins) })) after
      ringed_others =
          let g = through_some _ _ _ _ R.ring refl in
          decide_others rows costs τ x R.exact before R.faultless R.blank allowance after k false ins outs M g.0 g.1 refl
