use Rattle.std.proofs.Common.{arith}
use Rattle.pools.proofs.PoolLaws.{met_start, met_waits, met_skips, met_end}
use Rattle.pools.proofs.PoolTable.row.Goals as goal
use Rattle.pools.proofs.PoolTable.row.Goals.{then-state-eq-WAITING, else-state-eq-WAITING}

pub loop-pool-init : goal.loop-pool-init
loop-pool-init c = met_start _ _ _ _

pub loop-pool-preserved : goal.loop-pool-preserved
loop-pool-preserved c = let l = c.loop-pool in
    elim c.if-state-eq-WAITING.branch [
      | then-state-eq-WAITING w ↦ rw w.mask-is (met_waits _ _ _ _ l.pool l.mask _ l.invariant (cc) w.active_at-mask.ensures)
      | else-state-eq-WAITING w ↦ rw w.mask-is (met_skips _ _ _ _ l.pool l.mask l.invariant (λ e. w.if-state-eq-WAITING.false (cc)))
    ]

pub returns : goal.returns
returns c = met_end _ _ _ _ c.loop-pool.pool _ c.loop-pool.invariant (omega arith)
