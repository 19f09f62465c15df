-- Two results that meet the statement of a public function are equal.
-- Assumes nothing.
--
--   rows_known_unique, reach_unique, gather_unique, on_rings_unique, ring_through_unique   of the function of that name
--   reach_away                                                                             the jobs of `reach` are those a definite number of waits away
use mathlib.Core.Path.{◌≡◌, refl}
use mathlib.Core.Bool.{Bool, true, false}
use mathlib.Core.List.{List}
use Prim.Native.Nat.{ℕ, ◌<◌}
use native.Mathlib.Omega.{arith}
use lib.ListN.{length}
use Rattle.bits.specs.Mask.{Has, MaskOf}
use Rattle.bits.proofs.Masks.{mask_unique}
use Rattle.walks.specs.Walk.{Reaches, Away}
use Rattle.walks.proofs.ReachLaws.{reaches_away}
use Rattle.graph.specs.Waits.{waits, Known}
use Rattle.graph.specs.Waits.Known.{all, stray}
use Rattle.graph.specs.Rings.{InX, RingThrough}
use Rattle.graph.specs.Rings.RingThrough.{some, none}
use Rattle.graph.specs.Hits.{Hits}

pub rows_known_unique : (rows : List ℕ) (a b : Bool) → Known rows a → Known rows b → a ≡ b
rows_known_unique rows true true p q = refl
rows_known_unique rows true false (all p) (stray j i w l) = absurd (omega (arith, p j i w, l))
rows_known_unique rows false true (stray j i w l) (all p) = absurd (omega (arith, p j i w, l))
rows_known_unique rows false false p q = refl

pub reach_unique : (rows : List ℕ) (from a b : ℕ) → MaskOf (Reaches (waits rows) (length rows) from) a → MaskOf (Reaches (waits rows) (length rows) from) b → a ≡ b
reach_unique rows from a b = mask_unique _ a b

-- how many waits away each of them is
pub reach_away : (rows : List ℕ) (from m : ℕ) → from < length rows → MaskOf (Reaches (waits rows) (length rows) from) m
    → (v : ℕ) → Has m v → (k : ℕ) × (k < length rows) × Away (waits rows) (length rows) from v k
reach_away rows from m l M v h = reaches_away (waits rows) (length rows) from v l (M.sound v h)

pub gather_unique : (masks : List ℕ) (k first jobs marked a b : ℕ) → MaskOf (Hits masks k first jobs marked) a → MaskOf (Hits masks k first jobs marked) b → a ≡ b
gather_unique masks k first jobs marked a b = mask_unique _ a b

pub on_rings_unique : (rows : List ℕ) (t a b : ℕ) → MaskOf (InX (waits rows) (length rows) t) a → MaskOf (InX (waits rows) (length rows) t) b → a ≡ b
on_rings_unique rows t a b = mask_unique _ a b

pub ring_through_unique : (rows : List ℕ) (t : ℕ) (a b : Bool) → RingThrough (waits rows) (length rows) t a → RingThrough (waits rows) (length rows) t b → a ≡ b
ring_through_unique rows t true true p q = refl
ring_through_unique rows t true false (some p r) (none q) = absurd (q p r)
ring_through_unique rows t false true (none q) (some p r) = absurd (q p r)
ring_through_unique rows t false false p q = refl
