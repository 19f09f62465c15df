-- What is read of the room of a step, and where it stands.
-- Assumes nothing.
--
--   read_drops, read_rises, read_along, read_against   the four kinds of step: back and forward along a job's arc, forward and back along a wait
--   place_along, place_against, grid                   the places of the work list
use mathlib.Core.Path.{◌≡◌, ◌∙◌, subst}
use mathlib.Core.Logic.{◌≢◌}
use mathlib.Core.List.{List}
use Prim.Native.Nat.{ℕ, ◌+◌, ◌-◌, ◌*◌, ◌/◌, ◌%◌, ◌<◌, ◌≤◌}
use native.Mathlib.Nat.{mul-le-mul}
use native.Mathlib.Omega.{arith}
use lib.Arith.{digits_lt}
use lib.Dec.{T, eqb, eqb→eq, eqb_refl}
use lib.ListN.{length}
use Rattle.network.specs.Rooms.{pick}
use Rattle.network.proofs.PushLaws.{pick_on, pick_off}
use Rattle.search.specs.Masks.{at}
use Rattle.push.specs.Reading.{reads}

eq_T : (x y : ℕ) → x ≡ y → T (eqb x y)
eq_T x y e = subst (λ (z : ℕ). T (eqb x z)) e (eqb_refl x)

ne_T : (x y : ℕ) → x ≢ y → T (eqb x y) → ⊥
ne_T x y n t = n (eqb→eq x y t)

module _ (costs : List ℕ) (wide : ℕ) (F G : List ℕ) (a b : ℕ) where
  -- between the nodes of one job, and of two
  abbrev one : ℕ
  one = pick (eqb (a % 2) 1) (at G (a / 2)) (at costs (a / 2) - at G (a / 2))

  abbrev two : ℕ
  two = pick (eqb (a % 2) 1) (wide - at F (a / 2 * length costs + b / 2)) (at F (b / 2 * length costs + a / 2))

  pub read_drops : a / 2 ≡ b / 2 → a % 2 ≡ 1 → reads costs wide F G a b ≡ at G (a / 2)
  unfolding reads
  read_drops e o = pick_on (eqb (a / 2) (b / 2)) one two (eq_T (a / 2) (b / 2) e) ∙ pick_on (eqb (a % 2) 1) (at G (a / 2)) (at costs (a / 2) - at G (a / 2)) (eq_T (a % 2) 1 o)

  pub read_rises : a / 2 ≡ b / 2 → a % 2 ≢ 1 → reads costs wide F G a b ≡ at costs (a / 2) - at G (a / 2)
  unfolding reads
  read_rises e o = pick_on (eqb (a / 2) (b / 2)) one two (eq_T (a / 2) (b / 2) e) ∙ pick_off (eqb (a % 2) 1) (at G (a / 2)) (at costs (a / 2) - at G (a / 2)) (ne_T (a % 2) 1 o)

  pub read_along : a / 2 ≢ b / 2 → a % 2 ≡ 1 → reads costs wide F G a b ≡ wide - at F (a / 2 * length costs + b / 2)
  unfolding reads
  read_along e o = pick_off (eqb (a / 2) (b / 2)) one two (ne_T (a / 2) (b / 2) e)
      ∙ pick_on (eqb (a % 2) 1) (wide - at F (a / 2 * length costs + b / 2)) (at F (b / 2 * length costs + a / 2)) (eq_T (a % 2) 1 o)

  pub read_against : a / 2 ≢ b / 2 → a % 2 ≢ 1 → reads costs wide F G a b ≡ at F (b / 2 * length costs + a / 2)
  unfolding reads
  read_against e o = pick_off (eqb (a / 2) (b / 2)) one two (ne_T (a / 2) (b / 2) e)
      ∙ pick_off (eqb (a % 2) 1) (wide - at F (a / 2 * length costs + b / 2)) (at F (b / 2 * length costs + a / 2)) (ne_T (a % 2) 1 o)

module _ (n a b : ℕ) (from : a < 2 * n) (to : b < 2 * n) where
  pub place_along : a / 2 * n + b / 2 < n * n
  place_along = let l : a / 2 < n = omega arith in let m : b / 2 < n = omega arith in digits_lt l m

  pub place_against : b / 2 * n + a / 2 < n * n
  place_against = let l : a / 2 < n = omega arith in let m : b / 2 < n = omega arith in digits_lt m l

pub grid : (n : ℕ) → n ≤ 64 → n * n ≤ 4096
grid n l = mul-le-mul l l
