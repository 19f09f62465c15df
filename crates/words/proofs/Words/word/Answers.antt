use Rattle.std.proofs.Common.{◌∙◌, arith}
use Rattle.words.proofs.WordLaws.{reading_digit, reading_other, reading_end}
use Rattle.words.proofs.Words.word.Goals as goal

pub loop-c-preserved : goal.loop-c-preserved
loop-c-preserved c =
    record { text = c.loop-c.invariant.text; place = omega arith; read = rw c.from.ensures (reading_digit _ _ _ _ c.loop-c.invariant.read c.loop-c-test.true _ _ c.in-Some.ensures (omega arith)) }

pub returns-after-loop-c-clause-value : goal.returns-after-loop-c-clause-value
returns-after-loop-c-clause-value c = (reading_end _ _ _ _ c.loop-c.invariant.read c.loop-c-test.false).0

pub returns-after-loop-c-clause-place : goal.returns-after-loop-c-clause-place
returns-after-loop-c-clause-place c = c.loop-c.invariant.place ∙ (reading_end _ _ _ _ c.loop-c.invariant.read c.loop-c-test.false).1

pub returns-in_default-clause-value : goal.returns-in_default-clause-value
returns-in_default-clause-value c = (reading_other _ _ _ _ c.loop-c.invariant.read c.loop-c-test.true c.in_default.ensures).0

pub returns-in_default-clause-place : goal.returns-in_default-clause-place
returns-in_default-clause-place c =
    let e = c.loop-c.invariant.place in
    let f = (reading_other _ _ _ _ c.loop-c.invariant.read c.loop-c-test.true c.in_default.ensures).1 in
    omega arith
