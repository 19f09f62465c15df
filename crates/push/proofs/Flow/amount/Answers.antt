use Rattle.push.proofs.WayLaws.{amount_step}
use Rattle.push.proofs.Flow.amount.Goals as goal

pub room-room-requires : goal.room-room-requires
room-room-requires c = amount_step _ _ _ _ _ _ _ _ _ c.loop-i.invariant c.loop-i-test.true
