-- What the flow layer's statement settles, and what follows from it.
-- Assumes nothing.
--
--   flowed_unique     two results of `make_rounds` on the same input are equal: the count, whether a path is left, both masks, and the whole work list
--   sides_one         two answers of the same numbers are equal: `is_left`, `ins_of` and `outs_of` lose nothing
--   flowed_bound      at most 2 n (m + n) rounds are made, n and m being the numbers of jobs and of waits
use mathlib.Core.Path.{◌≡◌, refl, sym, ap, ◌∙◌, subst}
use mathlib.Core.Bool.{Bool}
use mathlib.Core.List.{List}
use Prim.Native.Nat.{ℕ, ◌+◌, ◌*◌, ◌/◌, ◌%◌, ◌<◌, ◌≤◌}
use native.Mathlib.Nat.{div-add-mod', div-lt_iff_lt-mul, mod-lt}
use native.Mathlib.Decide.{dec_lt}
use native.Mathlib.Omega.{arith}
use lib.ListN.{length, get_or}
use lib.Seq.{ext_get_or}
use Rattle.std.specs.Prelude.{Option, None, Some}
use Rattle.bits.specs.Mask.{has, MaskOf}
use Rattle.bits.proofs.Masks.{mask_same, mask_unique}
use Rattle.sums.specs.Sum.{gate}
use Rattle.walks.specs.Walk.{Reaches}
use Rattle.side.specs.declared.Sides.{Sides}
use Rattle.graph.specs.Waits.{waits}
use Rattle.network.specs.Rooms.{Room, step}
use Rattle.network.specs.Rounds.{Rounds, Stuck}
use Rattle.network.specs.Arcs.{inn, out, within, capacity, wait_count}
use Rattle.network.proofs.SameRooms.{Same, same_sym, reaches_same}
use Rattle.network.proofs.RoundLaws.{rounds_unique, stuck_last, count_unique}
use Rattle.network.proofs.Tally.{capacity_counted}
use Rattle.network.specs.Costs.{cost_at}
use Rattle.flow.specs.Accepted.{Accepted}
use Rattle.flow.specs.Flowed.{Side, Ends, Flowed}
use Rattle.flow.specs.Answer.{is_left, ins_of, outs_of}
use Rattle.flow.specs.Flowed.Ends.{settled, unfinished}

-- ---- one result

pub record Alike (after after' : List ℕ) (k k' : ℕ) (left left' : Bool) (ins outs ins' outs' : ℕ) : Type 0 where
  pub count : k ≡ k'
  pub yet : left ≡ left'
  pub inns : ins ≡ ins'
  pub outer : outs ≡ outs'
  pub work : after ≡ after'

module _ (n τ a : ℕ) (c : Room) (l : τ < n) where
  source : out τ < 2 * n
  source = omega arith

  -- no path is left after j rounds, and one is left after the whole allowance
  clash : (j k : ℕ) (q r : Room) → Rounds (2 * n) (out τ) (inn τ) c j q → Rounds (2 * n) (out τ) (inn τ) c k r → j ≤ a → k ≡ a → Stuck (2 * n) (out τ) (inn τ) q
      → Reaches (step r) (2 * n) (out τ) (inn τ) → ⊥
  clash j k q r x y lj ek s w =
      let e : k ≡ j = (let m = stuck_last (2 * n) (out τ) (inn τ) c j k q r source x s y in omega arith) in
      let same : Same (2 * n) r q = rounds_unique (2 * n) (out τ) (inn τ) c j r q source (subst (λ (z : ℕ). Rounds (2 * n) (out τ) (inn τ) c z r) e y) x in
      let v = reaches_same (2 * n) r q same (out τ) (inn τ) source w in
      s v.path v.walk

  -- the same side of the sink
  side_same : (q r : Room) → Same (2 * n) q r → (node : ℕ → ℕ) → ((u : ℕ) → u < n → node u < 2 * n) → (x y : ℕ) → MaskOf (Side q n τ node) x → MaskOf (Side r n τ node) y → x ≡ y
  side_same q r same node inside x y X Y = mask_unique (Side r n τ node) x y
      (mask_same (Side q n τ node) (Side r n τ node) x X
      (λ u s. record { job = s.job; home = reaches_same (2 * n) q r same (node u) (inn τ) (inside u s.job) s.home })
      (λ u s. record { job = s.job; home = reaches_same (2 * n) r q (same_sym (2 * n) q r same) (node u) (inn τ) (inside u s.job) s.home }))
      Y

  ends : (j k : ℕ) (q r : Room) (x y : Bool) (ins outs ins' outs' : ℕ) → Rounds (2 * n) (out τ) (inn τ) c j q → Rounds (2 * n) (out τ) (inn τ) c k r → j ≤ a → k ≤ a
      → Ends q n τ j a x ins outs → Ends r n τ k a y ins' outs' → (j ≡ k) × (x ≡ y) × (ins ≡ ins') × (outs ≡ outs')
  ends j k q r x y ins outs ins' outs' A B lj lk (settled s i o) (settled t i' o') =
      let e : j ≡ k = count_unique (2 * n) (out τ) (inn τ) c j k q r source A s B t in
      let same : Same (2 * n) q r = rounds_unique (2 * n) (out τ) (inn τ) c k q r source (subst (λ (z : ℕ). Rounds (2 * n) (out τ) (inn τ) c z q) e A) B in
      (e, refl, side_same q r same inn (λ u m. omega arith) ins ins' i i', side_same q r same out (λ u m. omega arith) outs outs' o o')
  ends j k q r x y ins outs ins' outs' A B lj lk (unfinished e w) (unfinished f v) = (e ∙ sym f, refl, refl, refl)
  ends j k q r x y ins outs ins' outs' A B lj lk (settled s i o) (unfinished f w) = absurd (clash j k q r A B lj f s w)
  ends j k q r x y ins outs ins' outs' A B lj lk (unfinished e w) (settled t i o) = absurd (clash k j r q B A lk e t w)

pub flowed_unique : (rows costs : List ℕ) (τ x a : ℕ) (before after after' : List ℕ) (k k' : ℕ) (left left' : Bool) (ins outs ins' outs' : ℕ) → Accepted rows costs τ x before
    → Flowed rows costs τ x a before after k left ins outs → Flowed rows costs τ x a before after' k' left' ins' outs' → Alike after after' k k' left left' ins outs ins' outs'
flowed_unique rows costs τ x a before after after' k k' left left' ins outs ins' outs' K A B = record {
  count = all.0;
  yet = all.1;
  inns = all.2;
  outer = all.3;
  work = ext_get_or 0 after after' (A.size ∙ sym B.size) (λ i h. go i (dec_lt i (length rows * length rows)));
}
  where
    all : (k ≡ k') × (left ≡ left') × (ins ≡ ins') × (outs ≡ outs')
    all = ends (length rows) τ a (capacity (waits rows) (has x) (length rows) τ (cost_at costs)) K.job k k' A.room B.room left left' ins outs ins' outs'
        A.made B.made A.limit B.limit A.ends B.ends

    rooms : Same (2 * length rows) A.room B.room
    rooms = rounds_unique (2 * length rows) (out τ) (inn τ) (capacity (waits rows) (has x) (length rows) τ (cost_at costs)) k' A.room B.room (let l = K.job in omega arith)
        (subst (λ (z : ℕ). Rounds (2 * length rows) (out τ) (inn τ) (capacity (waits rows) (has x) (length rows) τ (cost_at costs)) z A.room) all.0 A.made) B.made

    same : (u v : ℕ) → u < length rows → v < length rows → get_or after (u * length rows + v) 0 ≡ get_or after' (u * length rows + v) 0
    same u v lu lv = A.flow u v lu lv ∙ ap (gate (within (waits rows) (has x) u v)) (rooms (inn v) (out u) (omega arith) (omega arith)) ∙ sym (B.flow u v lu lv)

    pos : 0 < length rows
    pos = let l = K.job in omega arith

    go : (i : ℕ) → Dec (i < length rows * length rows) → get_or after i 0 ≡ get_or after' i 0
    go i (yes h) = subst (λ (z : ℕ). get_or after z 0 ≡ get_or after' z 0) (div-add-mod' i (length rows)) (same (i / length rows) (i % length rows) ((div-lt_iff_lt-mul pos).1 h) (mod-lt i pos))
    go i (no h) = A.rest i (omega arith) ∙ sym (B.rest i (omega arith))

-- the numbers leave no choice of the answer
pub sides_one : (a b : Option Sides) → is_left a ≡ is_left b → ins_of a ≡ ins_of b → outs_of a ≡ outs_of b → a ≡ b
sides_one None None l i o = refl
sides_one (Some a) (Some b) l i o = λ j. Some (record { ins = i j; outs = o j })
sides_one None (Some b) l i o = cc
sides_one (Some a) None l i o = cc

-- ---- how many rounds

pub flowed_bound : (rows costs : List ℕ) (τ x a : ℕ) (before after : List ℕ) (k : ℕ) (left : Bool) (ins outs : ℕ) → Accepted rows costs τ x before
    → Flowed rows costs τ x a before after k left ins outs → k ≤ 2 * length rows * (wait_count (waits rows) (length rows) + length rows)
flowed_bound rows costs τ x a before after k left ins outs K A =
    let z = capacity_counted (waits rows) (has x) (length rows) τ (cost_at costs) K.job in
    omega (arith, z.1.most k A.room A.made, z.2)
