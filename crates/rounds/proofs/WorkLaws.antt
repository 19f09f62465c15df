-- The work list of the rounds, cleared before them.
-- Assumes nothing.
--
--   cleared_accepted    a call without faults is accepted on the cleared list
--   flowed_cleared      the rounds on the cleared list are rounds on the list before
--   unrefused_faultless a call that is not refused has no fault
use Rattle.std.proofs.Common.{◌≡◌, ◌∙◌, Bool, false, List, ℕ, length, Result, Ok, Err, refl}
use Rattle.std.specs.Result.{is_err}
use Rattle.reasons.specs.declared.Reason.{Reason}
use Rattle.reasons.specs.Numbers.{refusal_number}
use Rattle.bits.specs.Mask.{MaskOf}
use Rattle.graph.specs.Waits.{waits}
use Rattle.graph.specs.Rings.{InX}
use Rattle.flow.specs.Accepted.{Accepted}
use Rattle.sheet.specs.Cleared.{Cleared}
use Rattle.flow.specs.Flowed.{Flowed}
use Rattle.checks.specs.Refusals.{Due, Faultless}
use Rattle.checks.proofs.RefusalLaws.{due_none}
use Rattle.verdict.proofs.DecideLaws.{decide_accepted, cleared_faultless}

module _ (rows costs : List ℕ) (τ x : ℕ) (old before : List ℕ) (C : Cleared (length rows) old before) where
  pub cleared_accepted : Faultless rows costs τ (length old) → MaskOf (InX (waits rows) (length rows) τ) x → Accepted rows costs τ x before
  cleared_accepted F X = decide_accepted rows costs τ x X before (cleared_faultless rows costs τ old before C F) C.none

  pub flowed_cleared : (allowance : ℕ) (after : List ℕ) (k : ℕ) (left : Bool) (ins outs : ℕ)
      → Flowed rows costs τ x allowance before after k left ins outs → Flowed rows costs τ x allowance old after k left ins outs
  flowed_cleared allowance after k left ins outs F = record {
    room = F.room;
    made = F.made;
    limit = F.limit;
    ends = F.ends;
    flow = F.flow;
    size = F.size ∙ C.size;
    rest = λ i l. F.rest i l ∙ C.rest i l;
  }

-- a call that is not refused has no fault
pub unrefused_faultless : {rows costs : List ℕ} {τ places : ℕ} (r : Result (Unit {0}) Reason) (refused : Bool) → Due rows costs τ places (refusal_number r) → refused ≡ is_err r → refused ≡ false
    → Faultless rows costs τ places
unrefused_faultless (Ok done) refused D e f = due_none _ _ _ _ _ D refl
unrefused_faultless (Err reason) refused D e f = absurd (cc)
