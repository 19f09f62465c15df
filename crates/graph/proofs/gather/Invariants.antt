-- `gather`: hits has those of the jobs that are still to come from which a marked one is hit.
use Rattle.graph.proofs.GatherLaws.{Gathering}
use Rattle.graph.proofs.gather.Given as goal

abbrev pub invariant-loop-u : goal.invariant-loop-u
invariant-loop-u l =
    Gathering l.masks l.k l.first l.jobs l.marked l.u-iterator.0 l.hits
