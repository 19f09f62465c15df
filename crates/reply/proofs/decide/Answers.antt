-- `reply::decide` meets its contract: without faults the call is never refused, and its decision is the answer. Assumes nothing.
use Prim.Native.Nat.{ℕ}
use lib.ListN.{length-replicate}
use Rattle.reply.proofs.GivenLaws.{always_decided}
use Rattle.reply.proofs.decide.Goals as goal

pub returns : goal.returns
returns c =
    let d = always_decided _ _ _ _ _ (length-replicate {A = ℕ} 4096 0) c.requires _ _ c.verdict.ensures in
    let e = c.unwrap_or-decision.ensures in
    rw (c.answer_frame.ensures, e, d.1) d.2
