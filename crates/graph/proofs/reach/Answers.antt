use native.Mathlib.Omega.{arith}
use mathlib.Core.Path.{◌≡◌, refl}
use mathlib.Core.List.{List}
use Prim.Native.Nat.{ℕ, ◌<◌}
use lib.ListN.{length}
use Rattle.bits.specs.Mask.{Has}
use Rattle.graph.specs.Waits.{Jobs}
use Rattle.bits.proofs.Digits.{one_shl}
use Rattle.graph.proofs.SeenLaws.{Seen, below_64, seen_start, seen_next, seen_turn, seen_less, seen_end}
use Rattle.graph.proofs.SeenLaws.{next as lowest}
use Rattle.graph.proofs.reach.Goals as goal

pub overflow_shl-seen : goal.overflow_shl-seen
overflow_shl-seen c = below_64 _ c.requires.0 c.args.from c.args.from c.requires.1

pub loop-seen-init : goal.loop-seen-init
loop-seen-init c = (c.requires.0, rw (one_shl c.args.from (below_64 _ c.requires.0 c.args.from c.args.from c.requires.1)) (seen_start _ c.requires.0 c.args.from c.requires.1))

-- the lowest job that is seen and not done: a job, seen, and not done
found : (rows : List ℕ) (from seen done : ℕ) → Jobs rows × Seen rows from seen done → (seen ≡ done → ⊥)
    → (lowest seen done < length rows) × Has seen (lowest seen done) × (Has done (lowest seen done) → ⊥)
found rows from seen done I n = seen_next rows I.0 from seen done I.1 n

below : (rows : List ℕ) (from seen done : ℕ) → Jobs rows × Seen rows from seen done → (seen ≡ done → ⊥) → lowest seen done < 64
below rows from seen done I n = below_64 rows I.0 from (lowest seen done) (found rows from seen done I n).0

pub overflow_cast-u : goal.overflow_cast-u
overflow_cast-u c = let n = below _ _ _ _ c.loop-seen.invariant c.loop-seen-test.true in omega arith

pub overflow_shl-done : goal.overflow_shl-done
overflow_shl-done c = below _ _ _ _ c.loop-seen.invariant c.loop-seen-test.true

pub offset_bounds-rows-u : goal.offset_bounds-rows-u
offset_bounds-rows-u c = let n = below _ _ _ _ c.loop-seen.invariant c.loop-seen-test.true in omega arith

pub bounds-rows-u : goal.bounds-rows-u
bounds-rows-u c = (found _ _ _ _ c.loop-seen.invariant c.loop-seen-test.true).0

pub loop-seen-smaller : goal.loop-seen-smaller
loop-seen-smaller c = let l = c.loop-seen in
    let f = found _ _ _ _ l.invariant c.loop-seen-test.true in
    rw (one_shl _ (below _ _ _ _ l.invariant c.loop-seen-test.true))
    (seen_less _ l.invariant.0 c.args.from l.seen l.done (lowest l.seen l.done) l.invariant.1 f.0 f.2)

pub loop-seen-preserved : goal.loop-seen-preserved
loop-seen-preserved c = let l = c.loop-seen in
    let f = found _ _ _ _ l.invariant c.loop-seen-test.true in
    rw (one_shl _ (below _ _ _ _ l.invariant c.loop-seen-test.true))
    (l.invariant.0, seen_turn _ l.invariant.0 c.args.from l.seen l.done (lowest l.seen l.done) _ l.invariant.1 f.0 f.1 refl (omega (arith, c.type_inv.rows (lowest l.seen l.done))))

pub returns : goal.returns
returns c = let l = c.loop-seen in
    seen_end _ l.invariant.0 _ l.seen l.done l.invariant.1 c.loop-seen-test.false
