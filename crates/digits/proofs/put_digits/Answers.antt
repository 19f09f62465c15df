use native.Mathlib.Omega.{arith}
use mathlib.Core.Path.{refl, ◌∙◌}
use Rattle.digits.specs.Spell.{spelt}
use Rattle.digits.proofs.SpellLaws.{spell_based, spelling_none, spelling_more, spelling_end}
use Rattle.digits.proofs.put_digits.Goals as goal

pub loop-i-init : goal.loop-i-init
loop-i-init c = spelling_none 16 spelt _ _ _ _

pub loop-i-preserved : goal.loop-i-preserved
loop-i-preserved c = spelling_more 16 spelt _ _ _ _ _ _ _ _ c.requires (omega arith) c.digit_of.ensures c.loop-i.invariant

pub returns : goal.returns
returns c = let s = c in
    spelling_end 16 spelt _ _ _ _ _ _ _ (omega arith) c.loop-i.invariant ∙ rw (spell_based s.args.k s.args.x) refl
