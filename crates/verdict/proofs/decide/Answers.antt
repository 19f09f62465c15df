-- `verdict::decide` meets its contract: the flow layer's statement, and one law for each of the three verdicts that a ring leaves. Assumes nothing.
use native.Mathlib.Omega.{arith}
use Rattle.bits.proofs.Digits.{one_shl}
use Rattle.verdict.proofs.RingedLaws.{ringed_accepted, ringed_timed, ringed_priced, ringed_unfinished, ringed_summable, ringed_itself, ringed_others}
use Rattle.verdict.proofs.decide.Goals as goal

pub make_rounds-made-requires : goal.make_rounds-made-requires
make_rounds-made-requires c = ringed_accepted c.requires

pub returns-in_default : goal.returns-in_default
returns-in_default c = ringed_unfinished c.requires (rw c.in_default.is at c.make_rounds-made.ensures) _ c.not_yet.ensures

pub inflow-price-requires : goal.inflow-price-requires
inflow-price-requires c = ringed_summable c.requires (rw c.in-Some.is at c.make_rounds-made.ensures)

pub offset_bounds-call-call : goal.offset_bounds-call-call
offset_bounds-call-call c = omega (arith, ringed_timed c.requires)

pub bounds-call-call : goal.bounds-call-call
bounds-call-call c = ringed_priced c.requires

pub overflow_shl-result : goal.overflow_shl-result
overflow_shl-result c = ringed_timed c.requires

pub returns-then-own-price : goal.returns-then-own-price
returns-then-own-price c =
    ringed_itself c.requires (rw c.in-Some.is at c.make_rounds-made.ensures) _ _ c.inflow-price.ensures c.if-own-price.true (one_shl _ (ringed_timed c.requires))

pub returns : goal.returns
returns c = ringed_others c.requires (rw c.in-Some.is at c.make_rounds-made.ensures) _ c.inflow-price.ensures c.if-own-price.false
