use Prim.Native.Nat.{◌/◌}
use mathlib.Core.Path.{refl}
use native.Mathlib.Omega.{arith}
use Rattle.bits.proofs.Digits.{one_shl}
use Rattle.search.proofs.SinceLaws.{since_none, since_source, since_add, since_trans}
use Rattle.search.proofs.OuterLaws.{outer_start, outer_few, outer_sought}
use Rattle.search.proofs.LevelLaws.{level_start, level_add, level_next, level_open}
use Rattle.search.proofs.InnerLaws.{inner_close, inner_lt, inner_room, inner_sought, inner_more}
use Rattle.search.proofs.search.Goals as goal

pub search-init : goal.search-init
search-init c = (
  rw (one_shl (c.args.s / 2) (let l = c.requires.source in omega arith)) (outer_start c.args.steps.now _ _ c.args.trail.now.queue _ 2 refl c.requires.source c.requires.apart c.requires.queue c.requires.parent _ refl),
  refl,
  since_none 1 _ _ (omega arith),
  level_start c.args.trail.now.queue c.args.s (omega (arith, c.requires.queue)),
)

pub bounds-trail-head : goal.bounds-trail-head
bounds-trail-head c = omega (arith, outer_few _ _ _ _ _ _ _ _ c.loop-head.invariant.0, c.loop-head-test.true, c.loop-head.invariant.3.within)

pub loop-j-init : goal.loop-j-init
loop-j-init c = let k = c.loop-head.invariant in
    rw c.into_iter-j-iterator.ensures.into_iter_gives (level_open _ _ _ _ _ c.search.free _ _ _ _ _ k.0 k.3 c.loop-head-test.true, k.1, since_none _ _ _ (omega (arith, k.2.grown, c.search.invariant.2.grown)), k.3)

pub overflow_mul-b : goal.overflow_mul-b
overflow_mul-b c = omega (arith, inner_lt _ _ _ _ _ _ _ _ _ _ c.loop-j.invariant.0 _ _ c.in-Some.ensures.steps)

pub overflow_add-b : goal.overflow_add-b
overflow_add-b c = omega (arith, inner_lt _ _ _ _ _ _ _ _ _ _ c.loop-j.invariant.0 _ _ c.in-Some.ensures.steps)

pub overflow_cast-trail-in-loop-j : goal.overflow_cast-trail-in-loop-j
overflow_cast-trail-in-loop-j c = omega (arith, inner_lt _ _ _ _ _ _ _ _ _ _ c.loop-j.invariant.0 _ _ c.in-Some.ensures.steps)

pub bounds-trail-met : goal.bounds-trail-met
bounds-trail-met c = inner_room _ _ _ _ _ _ _ _ _ _ c.loop-j.invariant.0 _ _ c.in-Some.ensures.steps

pub overflow_cast-trail-in-loop-j-2 : goal.overflow_cast-trail-in-loop-j-2
overflow_cast-trail-in-loop-j-2 c = omega (arith, inner_room _ _ _ _ _ _ _ _ _ _ c.loop-j.invariant.0 _ _ c.in-Some.ensures.steps, c.loop-j.invariant.0.more)

pub bounds-trail-met-in-loop-j : goal.bounds-trail-met-in-loop-j
bounds-trail-met-in-loop-j c = inner_room _ _ _ _ _ _ _ _ _ _ c.loop-j.invariant.0 _ _ c.in-Some.ensures.steps

pub overflow_add-met : goal.overflow_add-met
overflow_add-met c = omega (arith, inner_room _ _ _ _ _ _ _ _ _ _ c.loop-j.invariant.0 _ _ c.in-Some.ensures.steps)

pub loop-j-preserved : goal.loop-j-preserved
loop-j-preserved c = let k = c.loop-j.invariant in (
  inner_more _ _ _ _ _ _ _ _ _ _ k.0 _ _ c.in-Some.ensures.steps _ refl c.if-b-t.false,
  k.1,
  since_add _ _ _ _ _ _ _ _ k.2,
  level_add _ _ _ _ _ k.3 _ (omega (arith, k.3.binary)) (omega (arith, inner_room _ _ _ _ _ _ _ _ _ _ c.loop-j.invariant.0 _ _ c.in-Some.ensures.steps, k.0.sizes.queue)),
)

pub loop-head-preserved : goal.loop-head-preserved
loop-head-preserved c = let k = c.loop-j.invariant in
    (inner_close _ _ _ _ _ _ _ _ _ _ k.0 _ c.in-None.ensures.steps, k.1, since_trans _ _ _ _ _ _ _ _ _ c.loop-head.invariant.2 k.2, level_next _ _ _ _ _ k.3 c.loop-head-test.true)

pub search-smaller : goal.search-smaller
search-smaller c = omega (arith, c.search-test.true, outer_few _ _ _ _ _ _ _ _ c.search.invariant.0, c.loop-head-test.false)

pub returns-after-search : goal.returns-after-search
returns-after-search c = rw c.search.invariant.1 (outer_sought _ _ _ _ _ _ _ _ c.search.invariant.0 c.search-test.false _ _ (since_trans _ _ _ _ _ _ _ _ _ (since_source _ _ _) c.search.invariant.2))

pub returns-then-b-t : goal.returns-then-b-t
returns-then-b-t c = (
  omega (arith, c.loop-j.invariant.0.more),
  inner_sought _ _ _ _ _ _ _ _ _ _ c.loop-j.invariant.0 _ _ c.in-Some.ensures.steps _ refl c.if-b-t.true _ _ _ _ _
      (since_trans _ _ _ _ _ _ _ _ _ (since_trans _ _ _ _ _ _ _ _ _ (since_source _ _ _) c.search.invariant.2) c.loop-head.invariant.2) c.loop-j.invariant.2,
)
