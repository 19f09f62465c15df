use Rattle.std.proofs.Common.{◌<◌, arith}
use Rattle.bits.proofs.Digits.{one_shl}
use Rattle.bits.proofs.Collected.{part_none, part_skip, part_take}
use Rattle.pools.proofs.PoolLaws.{active_at_lem, at_active}
use Rattle.pools.proofs.PoolTable.active_at.Goals as goal
use Rattle.pools.proofs.PoolTable.active_at.Goals.{then-state-eq-ACTIVE, else-state-eq-ACTIVE}

pub loop-job-init : goal.loop-job-init
loop-job-init c = part_none _

pub loop-job-preserved : goal.loop-job-preserved
loop-job-preserved c = let l = c.loop-job in
    let few : l.job < 64 = omega (arith, c.args.self.shape.jobs) in
    elim c.if-state-eq-ACTIVE.branch [
      | then-state-eq-ACTIVE w ↦ rw (w.mask-is, one_shl l.job few) (part_take _ l.job l.mask l.invariant few (active_at_lem _ _ _ _ l.job c.loop-job-test.true (cc)))
      | else-state-eq-ACTIVE w ↦ rw w.mask-is (part_skip _ l.job l.mask l.invariant (λ a. w.if-state-eq-ACTIVE.false (cc (at_active _ _ _ _ l.job a))))
    ]
