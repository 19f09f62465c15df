-- `rounds::rounds_of` meets its contract: the rounds on the cleared list. Assumes nothing.
use Rattle.checks.proofs.RefusalLaws.{faultless_few, faultless_size}
use Rattle.rounds.proofs.WorkLaws.{cleared_accepted, flowed_cleared}
use Rattle.rounds.proofs.rounds_of.Goals as goal

pub clear-requires : goal.clear-requires
clear-requires c = (faultless_few _ _ _ _ c.requires.faultless, faultless_size _ _ _ _ c.requires.faultless)

pub make_rounds-requires : goal.make_rounds-requires
make_rounds-requires c = cleared_accepted _ _ _ _ _ _ c.clear.ensures c.requires.faultless c.requires.x

pub returns : goal.returns
returns c = flowed_cleared _ _ _ _ _ _ c.clear.ensures _ _ _ _ _ _ c.make_rounds.ensures
