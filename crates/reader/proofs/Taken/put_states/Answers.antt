use mathlib.Core.Path.{ap}
use mathlib.Core.List.{List}
use Prim.Native.Nat.{ℕ}
use denote.Ref.{Bor}
use Rattle.std.proofs.lemmas.Grind.{common_steps}
use native.Mathlib.Omega.{arith}
use Rattle.reader.proofs.TableLaws.{table_room, frame_is, tabled_none, tabled_more}
use Rattle.reader.proofs.Taken.put_states.Goals as goal

pub loop-j-init : goal.loop-j-init
loop-j-init c = tabled_none _ _ _

pub loop-j-preserved : goal.loop-j-preserved
loop-j-preserved c = let room = table_room _ _ _ _ c.requires c.loop-j-test.true in
    tabled_more _ _ _ _ _ c.loop-j.invariant _ _ (omega arith) (omega arith) room
    (frame_is _ _ _ _ _ _ _ c.put_frame_states.ensures (ap (λ (b : Bor (List ℕ)). b.now) c.frame.ensures.text) c.frame.ensures.place (grind (arith, common_steps, room)))
