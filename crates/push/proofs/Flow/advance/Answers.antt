-- `advance`: the room is read, the flow written, and then the masks of both ways.
use mathlib.Core.Path.{◌≡◌, refl}
use mathlib.Core.Logic.{◌⊎◌, inl, inr, ◌≢◌}
use Prim.Native.Nat.{◌/◌}
use lib.ListN.{length}
use native.Mathlib.Omega.{arith}
use Rattle.bits.proofs.Digits.{one_shl}
use Rattle.push.specs.Advance.{Shifted, with_step, without_step}
use Rattle.push.proofs.AdvanceLaws.{advance_shiftable, advance_from, advance_to, advanced}
use Rattle.push.proofs.Flow.advance.Goals as goal
use Rattle.push.proofs.Flow.advance.Goals.{else-room-d, then-room-d}

pub shift-requires : goal.shift-requires
shift-requires c = advance_shiftable _ _ _ _ _ _ _ _ c.requires

pub returns-clause-advanced : goal.returns-clause-advanced
unfolding with_step without_step
returns-clause-advanced c =
    let x = c.args in
    let A = c.requires in
    let to = advance_to _ _ _ _ _ _ _ _ A in
    let from = advance_from _ _ _ _ _ _ _ _ A in
    let cleared : ((c.room-room.result ≡ x.d) × (c.if-room-d.self.steps ≡ without_step x.self.now.steps x.a x.b)) ⊎ ((c.room-room.result ≢ x.d) × (c.if-room-d.self.steps ≡ x.self.now.steps)) =
    elim c.if-room-d.branch [
      | then-room-d w ↦ inl (w.if-room-d.true, rw (w.self-is, c.shift.ensures.same_steps, one_shl (x.b / 2) (omega (arith, to))) refl)
      | else-room-d w ↦ inr (w.if-room-d.false, rw (w.self-is, c.shift.ensures.same_steps) refl)
    ] in
    let shifted : Shifted (length x.self.now.costs.now) x.a x.b x.d x.self.now.work.now x.self.now.thru c.if-room-d.self.work.now c.if-room-d.self.thru =
    elim c.if-room-d.branch [ then-room-d w ↦ rw w.self-is c.shift.ensures.shifted | else-room-d w ↦ rw w.self-is c.shift.ensures.shifted ] in
    rw (one_shl (x.a / 2) (omega (arith, from))) (advanced _ _ _ _ _ _ _ _ A _ _ c.room-room.ensures cleared _ _ _ shifted refl)
