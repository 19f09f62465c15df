-- `pools::PoolTable::active_at` meets its contract. The loop's invariant: the mask holds the active ones among the jobs looked at.
-- Assumes nothing.
use Rattle.bits.proofs.Collected.{Part}
use Rattle.pools.specs.Pools.{ActiveAt}
use Rattle.pools.proofs.PoolTable.active_at.Given as goal

abbrev pub invariant-loop-job : goal.invariant-loop-job
invariant-loop-job l = Part (ActiveAt l.self.states.now l.self.jobs l.self.pools l.pool) l.job l.mask
