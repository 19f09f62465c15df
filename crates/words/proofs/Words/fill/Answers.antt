use Rattle.std.proofs.Common.{◌≡◌, length, arith}
use Rattle.words.proofs.ListLaws.{filling_start, filling_turn, filling_end}
use Rattle.words.proofs.Words.fill.Goals as goal

pub loop-slot-init : goal.loop-slot-init
loop-slot-init c = filling_start _ _ _

pub loop-slot-preserved : goal.loop-slot-preserved
loop-slot-preserved c = filling_turn _ _ _ _ _ _ _ c.loop-slot.invariant _ _ _ c.loop-slot-test.true c.word.ensures.text c.word.ensures.value c.word.ensures.place c.word.ensures.forward c.word.ensures.onward

pub returns : goal.returns
returns c =
    let all : c.loop-slot.slot-index ≡ length c.args.list.now = omega arith in
    let e = filling_end _ _ _ _ _ _ _ c.loop-slot.invariant all in
    record { text = c.loop-slot.invariant.text; place = e.0; forward = λ z h. c.loop-slot.invariant.forward (omega arith) h; onward = c.loop-slot.invariant.onward; list_after = e.1 }
