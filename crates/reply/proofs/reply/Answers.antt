-- `reply::reply` meets its contract: a short list, a refusal, or the answer to what was read. Assumes nothing.
use native.Mathlib.Omega.{arith}
use mathlib.Core.Path.{refl, sym}
use lib.Seq.{length-take-le}
use Rattle.reasons.proofs.NumberLaws.{reason_some}
use Rattle.reply.proofs.GivenLaws.{read_unrefused, read_size, read_given, read_faultless}
use Rattle.reply.proofs.LineLaws.{reply_refused, reply_answered}
use Rattle.reply.proofs.reply.Goals as goal

pub returns-in-Err-clause-replied : goal.returns-in-Err-clause-replied
returns-in-Err-clause-replied c =
    reply_refused c.args.text.now c.args.line.now _ _ _ _ _ _ refl refl c.in-Err.ensures (reason_some _) (omega arith) (rw c.into.ensures at c.write_refusal.ensures)

pub slice_bounds-rows-end : goal.slice_bounds-rows-end
slice_bounds-rows-end c = (read_size _ _ _ _ _ _ c.in-Ok.ensures refl).0

pub slice_bounds-call-end : goal.slice_bounds-call-end
slice_bounds-call-end c = sym (length-take-le _ _ (read_size _ _ _ _ _ _ c.in-Ok.ensures refl).0)

pub slice_bounds-call-end-2 : goal.slice_bounds-call-end-2
slice_bounds-call-end-2 c = sym (length-take-le _ _ (read_size _ _ _ _ _ _ c.in-Ok.ensures refl).1)

pub slice_bounds-costs-end : goal.slice_bounds-costs-end
slice_bounds-costs-end c = (read_size _ _ _ _ _ _ c.in-Ok.ensures refl).1

pub decide-requires : goal.decide-requires
decide-requires c = read_faultless _ _ _ _ _ _ c.in-Ok.ensures refl

pub returns-clause-replied : goal.returns-clause-replied
returns-clause-replied c =
    let r = c.in-Ok.ensures in
    let h = r.header refl in
    reply_answered c.args.text.now c.args.line.now _ _ _ _ (read_unrefused _ _ _ _ _ _ r refl) (read_given _ _ _ _ _ _ r refl)
    (rw (← h.1, ← h.2) c.decide.ensures) (omega arith) c.write_answer.ensures
