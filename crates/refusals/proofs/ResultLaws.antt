-- The refusal of a result loses nothing of it.
-- Assumes nothing.
--
--   refused_one    two results with one refusal are one
use mathlib.Core.Path.{◌≡◌, refl, ap}
use native.Mathlib.Omega.{arith}
use Rattle.std.specs.Prelude.{Result, Ok, Err}
use Rattle.reasons.specs.Numbers.{reason_number}
use Rattle.reasons.proofs.NumberLaws.{reason_one}
use Rattle.frames.specs.declared.Refusal.{Refusal}
use Rattle.reasons.proofs.NumberLaws.{reason_positive}
use Rattle.refusals.specs.declared.Refused.{Refused}
use Rattle.refusals.specs.Results.{refused_as}

pub refused_one : (r s : Result (Unit {0}) Refused) → refused_as r ≡ refused_as s → r ≡ s
refused_one (Ok _) (Ok _) e = refl
refused_one (Ok _) (Err y) e = let n : 0 ≡ reason_number y.reason = ap (λ (x : Refusal). x.number) e in absurd (omega (arith, n, reason_positive y.reason))
refused_one (Err x) (Ok _) e = let n : reason_number x.reason ≡ 0 = ap (λ (x : Refusal). x.number) e in absurd (omega (arith, n, reason_positive x.reason))
refused_one (Err x) (Err y) e =
    let r = reason_one x.reason y.reason (ap (λ (x : Refusal). x.number) e) in
    let l : x.line ≡ y.line = ap (λ (x : Refusal). x.line) e in
    λ i. Err (record { reason = r i; line = l i })
