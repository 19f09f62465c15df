-- `codec::put_answer`: two bytes, and three numbers one behind another.
use Rattle.std.proofs.Common.{refl, rules}
use Rattle.codec.proofs.AnswerLaws.{answer_bytes_lem}
use Rattle.codec.proofs.put_answer.Goals as goal

pub returns : goal.returns
returns c =
    let rounds = rw c.from.ensures at c.put_number-2.ensures in
    answer_bytes_lem _ _ _ _ _ c.args.a c.requires (search rules) refl c.put_number.ensures rounds c.put_number-3.ensures
