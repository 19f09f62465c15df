-- `pools::PoolTable::row` meets its contract. The loop's invariant: the mask holds the jobs that are active where `job` waits, at the pools gone through.
-- Assumes nothing.
use Rattle.bits.specs.Mask.{MaskOf}
use Rattle.pools.proofs.PoolLaws.{Met}
use Rattle.pools.proofs.PoolTable.row.Given as goal

abbrev pub invariant-loop-pool : goal.invariant-loop-pool
invariant-loop-pool l = MaskOf (Met l.self.states.now l.self.jobs l.self.pools l.job l.pool) l.mask
