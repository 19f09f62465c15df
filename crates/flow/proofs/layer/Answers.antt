use mathlib.Core.Path.{refl, sym}
use mathlib.Core.Logic.{inl, inr}
use Prim.Native.Nat.{◌+◌, ◌<◌, ◌≤◌}
use native.Mathlib.Nat.{le_refl}
use native.Mathlib.Omega.{arith}
use Rattle.std.proofs.lemmas.List.{get_or-take, length-take}
use Rattle.bits.proofs.Digits.{one_shl}
use Rattle.flow.proofs.LayerLaws.{layer_start, layer_small, layer_node, layer_turn, layer_add, layer_end}
use Rattle.flow.proofs.layer.Goals as goal
use Rattle.flow.proofs.layer.Goals.{else-b-side, then-b-side}

pub loop-b-init : goal.loop-b-init
loop-b-init c = layer_start _ _ _ c.requires

pub offset_bounds-levels-k : goal.offset_bounds-levels-k
offset_bounds-levels-k c = let l = layer_small _ _ _ _ _ _ _ _ c.loop-b.invariant in omega arith

pub bounds-levels-k : goal.bounds-levels-k
bounds-levels-k c = layer_small _ _ _ _ _ _ _ _ c.loop-b.invariant

pub overflow_add-k : goal.overflow_add-k
overflow_add-k c = let l = layer_small _ _ _ _ _ _ _ _ c.loop-b.invariant in omega arith

pub loop-b-preserved : goal.loop-b-preserved
loop-b-preserved c =
    let l = c.loop-b in
    let below : l.b-index < c.args.e + 1 = omega (arith, c.loop-b-test.true, length-take (c.args.e + 1) c.args.queue.now) in
    let t : l.b-index ≤ c.args.e = omega (arith, below) in
    let b = get_or-take (c.args.e + 1) c.args.queue.now l.b-index 0 below in
    rw (b, one_shl _ (layer_node _ _ _ _ _ _ _ _ l.invariant _ t))
    (layer_add _ _ _ _ _ _ _
    (layer_turn _ _ _ _ _ _ _ l.invariant t _ _ _ _ (elim c.if-b-side.branch [
      | then-b-side w ↦ inl (rw (sym b) w.if-b-side.true, w.levels-is, w.k-is, w.side-is, w.met-is)
      | else-b-side w ↦ inr (rw (sym b) w.if-b-side.false, w.levels-is, w.k-is, w.side-is, w.met-is)
    ]))
    _ refl)

pub offset_bounds-levels-k-2 : goal.offset_bounds-levels-k-2
offset_bounds-levels-k-2 c = let l = layer_small _ _ _ _ _ _ _ _ c.loop-b.invariant in omega arith

pub bounds-levels-k-2 : goal.bounds-levels-k-2
bounds-levels-k-2 c = layer_small _ _ _ _ _ _ _ _ c.loop-b.invariant

pub returns : goal.returns
returns c =
    let x = c.args in
    let k = c.loop-b.invariant in
    rw (one_shl _ (layer_node _ _ _ _ _ _ _ _ k _ (le_refl _)))
    (layer_end _ _ _ _ _ _ _ k (omega (arith, c.loop-b-test.false, length-take (x.e + 1) x.queue.now, c.requires.queue, c.requires.place)) _ refl)
