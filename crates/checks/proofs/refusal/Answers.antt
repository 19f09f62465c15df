-- `checks::refusal` meets its contract: a chain of checks, each with its refusal. Assumes nothing.
use mathlib.Core.Path.{◌≡◌, refl}
use mathlib.Core.Logic.{◌≢◌}
use mathlib.Core.Bool.{Bool, true, false}
use mathlib.Core.List.{List}
use Prim.Native.Nat.{ℕ, ◌*◌, ◌<◌, ◌≤◌}
use native.Mathlib.Omega.{arith}
use lib.ListN.{length}
use Rattle.graph.specs.Waits.{Known}
use Rattle.checks.specs.Checks.{Looped, Summed}
use Rattle.checks.specs.Refusals.Due.{none}
use Rattle.checks.specs.Refusals.Fault.{empty, uneven, short, absent}
use Rattle.checks.proofs.CheckLaws.{summed_small}
use Rattle.checks.proofs.CheckedLaws.{Checked, checked_1, checked_2, checked_3, checked_4, checked_5, checked_6, checked_7, checked_8, checked_9, checked_faultless, fault_4, fault_5, fault_7, fault_8, refuse}
use Rattle.checks.proofs.refusal.Goals as goal

positive : (s : ℕ) → 0 < s → s ≢ 0
positive s l e = absurd (omega arith)

-- what has been checked behind each test

module _ (rows costs : List ℕ) (τ work : ℕ) (some : length rows ≢ 0) (few : length rows ≤ 64) (even : length costs ≡ length rows) where
  passed_3 : Checked rows costs τ work 3
  passed_3 = checked_3 _ _ _ _ (checked_2 _ _ _ _ some few) even

  passed_4 : length rows * length rows ≤ work → Checked rows costs τ work 4
  passed_4 wide = checked_4 _ _ _ _ passed_3 wide

  passed_5 : length rows * length rows ≤ work → (a : Bool) → Known rows a → a ≡ true → Checked rows costs τ work 5
  passed_5 wide a k e = checked_5 _ _ _ _ a (passed_4 wide) k e

  passed_6 : length rows * length rows ≤ work → (a : Bool) → Known rows a → a ≡ true → (b : Bool) → Looped rows b → b ≡ false → Checked rows costs τ work 6
  passed_6 wide a k e b l f = checked_6 _ _ _ _ b (passed_5 wide a k e) l f

  passed_7 : length rows * length rows ≤ work → (a : Bool) → Known rows a → a ≡ true → (b : Bool) → Looped rows b → b ≡ false → τ < length rows
      → Checked rows costs τ work 7
  passed_7 wide a k e b l f there = checked_7 _ _ _ _ (passed_6 wide a k e b l f) there

  passed_8 : length rows * length rows ≤ work → (a : Bool) → Known rows a → a ≡ true → (b : Bool) → Looped rows b → b ≡ false → τ < length rows
      → (s : ℕ) → Summed costs s → s ≢ 0 → Checked rows costs τ work 8
  passed_8 wide a k e b l f there s m n = checked_8 _ _ _ _ s (passed_7 wide a k e b l f there) m n

pub returns-then-n-eq0 : goal.returns-then-n-eq0
returns-then-n-eq0 c = refuse _ _ _ _ 1 (checked_1 _ _ _ _) (empty c.if-n-eq0.true)

pub returns-then-call-n : goal.returns-then-call-n
returns-then-call-n c = refuse _ _ _ _ 2 (checked_2 _ _ _ _ c.if-n-eq0.false (omega arith)) (uneven c.if-call-n.true)

pub returns-then-places-n : goal.returns-then-places-n
returns-then-places-n c = refuse _ _ _ _ 3 (passed_3 _ _ _ _ c.if-n-eq0.false (omega arith) c.if-call-n.false) (short c.if-places-n.true)

pub returns-then-not-rows_known : goal.returns-then-not-rows_known
returns-then-not-rows_known c = refuse _ _ _ _ 4 (passed_4 _ _ _ _ c.if-n-eq0.false (omega arith) c.if-call-n.false c.if-places-n.false)
    (fault_4 _ _ _ _ _ c.rows_known.ensures c.if-not-rows_known.true)

pub returns-then-waits_for_itself : goal.returns-then-waits_for_itself
returns-then-waits_for_itself c = refuse _ _ _ _ 5
    (passed_5 _ _ _ _ c.if-n-eq0.false (omega arith) c.if-call-n.false c.if-places-n.false _ c.rows_known.ensures c.if-not-rows_known.false)
    (fault_5 _ _ _ _ _ c.waits_for_itself.ensures c.if-waits_for_itself.true)

pub returns-then-n-call : goal.returns-then-n-call
returns-then-n-call c = refuse _ _ _ _ 6
    (passed_6 _ _ _ _ c.if-n-eq0.false (omega arith) c.if-call-n.false c.if-places-n.false _ c.rows_known.ensures c.if-not-rows_known.false
    _ c.waits_for_itself.ensures c.if-waits_for_itself.false)
    (absent c.if-n-call.true)

pub returns-in_default : goal.returns-in_default
returns-in_default c =
    let p = passed_7 c.args.call.rows.now c.args.call.costs.now c.args.call.t c.args.places c.if-n-eq0.false (omega arith) c.if-call-n.false c.if-places-n.false _ c.rows_known.ensures c.if-not-rows_known.false
    _ c.waits_for_itself.ensures c.if-waits_for_itself.false c.if-n-call.false in
    refuse _ _ _ _ 7 p (fault_7 _ _ _ _ _ p c.in_default.ensures refl)

pub overflow_add-sum : goal.overflow_add-sum
overflow_add-sum c = omega (arith, summed_small _ _ (omega arith) c.in-Some.ensures.1)

pub returns-then-sum-gt-HIGHEST_SUM : goal.returns-then-sum-gt-HIGHEST_SUM
returns-then-sum-gt-HIGHEST_SUM c =
    let p = passed_8 c.args.call.rows.now c.args.call.costs.now c.args.call.t c.args.places c.if-n-eq0.false (omega arith) c.if-call-n.false c.if-places-n.false _ c.rows_known.ensures c.if-not-rows_known.false
    _ c.waits_for_itself.ensures c.if-waits_for_itself.false c.if-n-call.false _ c.in-Some.ensures.1 (positive _ (c.in-Some.ensures.0 (omega arith))) in
    refuse _ _ _ _ 8 p (fault_8 _ _ _ _ p _ c.in-Some.ensures.1 (positive _ (c.in-Some.ensures.0 (omega arith))) c.if-sum-gt-HIGHEST_SUM.true)

pub returns : goal.returns
returns c =
    let p = passed_8 c.args.call.rows.now c.args.call.costs.now c.args.call.t c.args.places c.if-n-eq0.false (omega arith) c.if-call-n.false c.if-places-n.false _ c.rows_known.ensures c.if-not-rows_known.false
    _ c.waits_for_itself.ensures c.if-waits_for_itself.false c.if-n-call.false _ c.in-Some.ensures.1 (positive _ (c.in-Some.ensures.0 (omega arith))) in
    none (checked_faultless _ _ _ _ (checked_9 _ _ _ _ p _ c.in-Some.ensures.1 (positive _ (c.in-Some.ensures.0 (omega arith))) c.if-sum-gt-HIGHEST_SUM.false))
