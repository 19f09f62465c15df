use Prim.Native.Nat.{◌+◌, ◌-◌, ◌*◌, ◌/◌, ◌<◌}
use native.Mathlib.Omega.{arith}
use Rattle.bits.proofs.Digits.{one_shl}
use Rattle.sums.specs.Sum.{sum}
use Rattle.search.specs.Masks.{at}
use Rattle.flow.proofs.DescendLaws.{descend_start, descend_node, descend_below, descend_on, descend_less, descend_back, descend_turn, descend_some, descend_found}
use Rattle.flow.proofs.descend.Goals as goal
use Rattle.flow.proofs.descend.Goals.{then-rest-eq0+else-k-eq0, else-rest-eq0}

pub loop-a-init : goal.loop-a-init
loop-a-init c = (descend_start _ _ _ _ _ _ c.requires, omega arith)

pub bounds-levels-k : goal.bounds-levels-k
bounds-levels-k c = let k = c.loop-a.invariant.0 in omega (arith, descend_below _ _ _ _ _ _ _ _ k c.loop-a-test.true, k.levels.deep)

pub loop-a-smaller : goal.loop-a-smaller
loop-a-smaller c =
    let l = c.loop-a in
    let (d, side) = l.invariant in
    let smaller : 2 * sum 128 (at c.if-rest-eq0.levels) + (128 - c.if-rest-eq0.k) < 2 * sum 128 (at l.levels) + (128 - l.k) =
    elim c.if-rest-eq0.branch [
      | then-rest-eq0+else-k-eq0 w ↦ rw (w.levels-is, w.k-is, one_shl (l.a / 2) (omega (arith, descend_node _ _ _ _ _ _ _ _ d)))
          (descend_less _ _ _ _ _ _ _ _ d c.loop-a-test.true w.if-rest-eq0.true w.if-k-eq0.false)
      | else-rest-eq0 w ↦ rw (w.levels-is, w.k-is) (omega (arith, descend_below _ _ _ _ _ _ _ _ d c.loop-a-test.true, d.levels.deep))
    ] in
    smaller

pub loop-a-preserved : goal.loop-a-preserved
loop-a-preserved c =
    let l = c.loop-a in
    let (d, side) = l.invariant in
    elim c.if-rest-eq0.branch [
      | then-rest-eq0+else-k-eq0 w ↦ rw (w.levels-is, w.trail-is, w.a-is, w.k-is, one_shl (l.a / 2) (omega (arith, descend_node _ _ _ _ _ _ _ _ d))) (
        descend_back _ _ _ _ _ _ _ _ d c.loop-a-test.true w.if-rest-eq0.true w.if-k-eq0.false,
        omega (arith, side, descend_turn _ _ _ _ _ _ _ _ d c.loop-a-test.true w.if-rest-eq0.true w.if-k-eq0.false),
      )
      | else-rest-eq0 w ↦ rw (w.levels-is, w.trail-is, w.a-is, w.k-is) (descend_on _ _ _ _ _ _ _ _ d c.loop-a-test.true w.if-rest-eq0.false _ side, omega (arith, side))
    ]

pub returns : goal.returns
returns c = let k = c.loop-a.invariant.0 in (descend_some _ _ _ _ _ _ _ _ k c.loop-a-test.false, descend_found _ _ _ _ _ _ _ _ k c.loop-a-test.false)
