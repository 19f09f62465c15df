-- The masks of the steps and the rooms of the network: the masks show just the steps with room, and still do after one step's push.
-- S has the masks, n is the number of jobs, x the mask of the jobs whose nodes have arcs.
-- Assumes nothing.
--
--   Shown r n x S                      the masks show the steps with room, and no step of another job
--   Changed a b on S S'                the step from a to b is allowed if `on` passes, all others as before
--   with_step_lem, without_step_lem            so it is after a step is marked, or unmarked
--   without_other                      unmarking changes no other step, whether this one was there or not
--   shown_there                        the masks have a step with room
--   shown_step                         after one step's push the masks show the steps with room again
--   shown_same                         so it is with rooms that agree
use mathlib.Core.Path.{◌≡◌, refl, sym, ap, ◌∙◌, subst}
use mathlib.Core.Logic.{◌⊎◌, inl, inr, ◌≢◌}
use mathlib.Core.Bool.{Bool, true, false}
use mathlib.Core.List.{List}
use Prim.Native.Nat.{ℕ, ◌+◌, ◌-◌, ◌*◌, ◌/◌, ◌%◌, ◌^◌, ◌<◌, ◌≤◌}
use native.Mathlib.Decide.{ℕ_discrete}
use native.Mathlib.Omega.{arith}
use lib.Bits.{bit_or, bit_xor}
use lib.Dec.{T, ltb, lt→ltb, ltb→lt}
use lib.ListN.{length, set, length-set}
use lib.Seq.{get_or-set_same, get_or-set_other}
use Rattle.bits.specs.Mask.{Has}
use Rattle.bits.proofs.Digits.{bit_pow_same}
use Rattle.bits.proofs.Masks.{has_or_l, has_or_r, has_or_cases, has_xor, xor_has, xor_lacks, has_pow_cases}
use Rattle.sums.proofs.TestLaws.{T_eq}
use Rattle.network.specs.Rooms.{Room, step, push1}
use Rattle.network.proofs.PushLaws.{room_at, Spot, ahead, back, aside, spot, push1_ahead, push1_back, push1_aside}
use Rattle.network.proofs.SameRooms.{Same}
use Rattle.search.specs.Masks.{at, masked}
use Rattle.search.proofs.MaskSteps.{step_parts, step_made}
use Rattle.push.specs.Advance.{with_step, without_step}

pub record Shown (r : Room) (n x : ℕ) (S : List ℕ) : Type 0 where
  pub size : length S ≡ 128
  pub right : (a b : ℕ) → a < 2 * n → b < 2 * n → step (masked S) a b ≡ step r a b
  pub only : (a b : ℕ) → a < 128 → b < 128 → T (step (masked S) a b) → Has x (a / 2) × Has x (b / 2)

pub shown_same : (r q : Room) (n x : ℕ) (S : List ℕ) → Same (2 * n) r q → Shown r n x S → Shown q n x S
shown_same r q n x S e W = record { size = W.size; right = λ a b la lb. W.right a b la lb ∙ ap (ltb 0) (e a b la lb); only = W.only }

-- ---- one step's digit

pub record Changed (a b : ℕ) (on : Bool) (S S' : List ℕ) : Type 0 where
  pub size : length S' ≡ 128
  pub here : step (masked S') a b ≡ on
  pub other : (i j : ℕ) → (i ≢ a) ⊎ (j ≢ b) → step (masked S') i j ≡ step (masked S) i j

module _ (S : List ℕ) (a b : ℕ) (size : length S ≡ 128) (la : a < 128) (sides : (a + b) % 2 ≡ 1) where
  -- a new mask y for node a that differs from the old at most at b's job
  row : (y : ℕ) → at (set S a y) a ≡ y
  row y = get_or-set_same S a y 0 (omega arith)

  changed : (y : ℕ) (on : Bool) → step (masked (set S a y)) a b ≡ on → ((j : ℕ) → j ≢ b / 2 → Has y j → Has (at S a) j) → ((j : ℕ) → j ≢ b / 2 → Has (at S a) j → Has y j)
      → Changed a b on S (set S a y)
  changed y on here to from = record {
    size = length-set S a y ∙ size;
    here = here;
    other = λ i j o. T_eq (step (masked (set S a y)) i j) (step (masked S) i j) (λ t. go i j o t (ℕ_discrete i a)) (λ t. home i j o t (ℕ_discrete i a));
  }
    where
      apart : (i j : ℕ) → (i ≢ a) ⊎ (j ≢ b) → i ≡ a → (i + j) % 2 ≡ 1 → j / 2 ≢ b / 2
      apart i j (inl k) e p q = k e
      apart i j (inr k) e p q = k (omega (arith, sides))

      same : (i : ℕ) → i ≢ a → at (set S a y) i ≡ at S i
      same i k = get_or-set_other S a i y 0 k

      go : (i j : ℕ) → (i ≢ a) ⊎ (j ≢ b) → T (step (masked (set S a y)) i j) → Dec (i ≡ a) → T (step (masked S) i j)
      go i j o t (no k) = let q = step_parts (set S a y) i j t in step_made S i j q.0 (subst (λ (z : ℕ). Has z (j / 2)) (same i k) q.1)
      go i j o t (yes e) =
          let q = step_parts (set S a y) i j t in
          step_made S i j q.0 (subst (λ (z : ℕ). Has (at S z) (j / 2)) (sym e) (to (j / 2) (apart i j o e q.0) (subst (λ (z : ℕ). Has z (j / 2)) (ap (at (set S a y)) e ∙ row y) q.1)))

      home : (i j : ℕ) → (i ≢ a) ⊎ (j ≢ b) → T (step (masked S) i j) → Dec (i ≡ a) → T (step (masked (set S a y)) i j)
      home i j o t (no k) = let q = step_parts S i j t in step_made (set S a y) i j q.0 (subst (λ (z : ℕ). Has z (j / 2)) (sym (same i k)) q.1)
      home i j o t (yes e) =
          let q = step_parts S i j t in
          step_made (set S a y) i j q.0 (subst (λ (z : ℕ). Has z (j / 2)) (sym (ap (at (set S a y)) e ∙ row y)) (from (j / 2) (apart i j o e q.0) (subst (λ (z : ℕ). Has (at S z) (j / 2)) e q.1)))

  pub with_step_lem : Changed a b true S (with_step S a b)
  unfolding with_step
  with_step_lem = changed y true (T_eq (step (masked (set S a y)) a b) true (λ t. tt) (λ t. step_made (set S a y) a b sides (subst (λ (z : ℕ). Has z (b / 2)) (sym (row y)) (has_or_r (at S a) (2 ^ (b / 2)) (b / 2) (bit_pow_same (b / 2))))))
      (λ j k h. cases j k (has_or_cases (at S a) (2 ^ (b / 2)) j h)) (λ j k h. has_or_l (at S a) (2 ^ (b / 2)) j h)
    where
      y : ℕ
      y = bit_or (at S a) (2 ^ (b / 2))

      cases : (j : ℕ) → j ≢ b / 2 → Has (at S a) j ⊎ Has (2 ^ (b / 2)) j → Has (at S a) j
      cases j k (inl h) = h
      cases j k (inr h) = absurd (k (has_pow_cases (b / 2) j h))

  pub without_other : Changed a b (step (masked (without_step S a b)) a b) S (without_step S a b)
  unfolding without_step
  without_other = changed y (step (masked (set S a y)) a b) refl
      (λ j k h. (has_xor (at S a) (2 ^ (b / 2)) j (λ p. absurd (k (has_pow_cases (b / 2) j p))) h).0)
      (λ j k h. xor_has (at S a) (2 ^ (b / 2)) j h (λ p. k (has_pow_cases (b / 2) j p)))
    where
      y : ℕ
      y = bit_xor (at S a) (2 ^ (b / 2))

  pub without_step_lem : T (step (masked S) a b) → Changed a b false S (without_step S a b)
  unfolding without_step
  without_step_lem t = record { size = without_other.size; here = T_eq (step (masked (without_step S a b)) a b) false gone (λ f. absurd f); other = without_other.other }
    where
      gone : T (step (masked (without_step S a b)) a b) → ⊥
      gone s = xor_lacks (at S a) (2 ^ (b / 2)) (b / 2) (step_parts S a b t).1 (bit_pow_same (b / 2))
          (subst (λ (z : ℕ). Has z (b / 2)) (row (bit_xor (at S a) (2 ^ (b / 2)))) (step_parts (without_step S a b) a b s).1)

-- ---- one step of a push

pub lt_true : (y : ℕ) → 0 < y → ltb 0 y ≡ true
lt_true y l = T_eq (ltb 0 y) true (λ t. tt) (λ t. lt→ltb 0 y l)

pub lt_false : (y : ℕ) → y ≡ 0 → ltb 0 y ≡ false
lt_false y e = T_eq (ltb 0 y) false (λ t. let l = ltb→lt 0 y t in omega arith) (λ t. absurd t)

module _ (r : Room) (n x : ℕ) (S : List ℕ) (W : Shown r n x S) (few : n ≤ 64) (a b d : ℕ) (la : a < 2 * n) (lb : b < 2 * n) (some : 0 < d) (allowed : d ≤ r a b) where
  on : T (step (masked S) a b)
  on = subst T (sym (W.right a b la lb)) (lt→ltb 0 (r a b) (omega arith))

  pub shown_sides : (a + b) % 2 ≡ 1
  shown_sides = (step_parts S a b on).0

  pub shown_there : Has (at S a) (b / 2)
  shown_there = (step_parts S a b on).1

  ne : a ≢ b
  ne e = omega (arith, shown_sides)

  -- the step itself: without it, where d is all of its room
  after : (full : Dec (r a b ≡ d)) → (S₁ : List ℕ) × ((S' : List ℕ) → (r a b ≡ d → S' ≡ with_step (without_step S a b) b a) → (r a b ≢ d → S' ≡ with_step S b a) → S' ≡ with_step S₁ b a)
      × Changed a b (ltb 0 (r a b - d)) S S₁
  after (yes e) = (
    without_step S a b,
    λ S' f g. f e,
    subst (λ (z : Bool). Changed a b z S (without_step S a b)) (sym (lt_false (r a b - d) (omega arith))) (without_step_lem S a b W.size (omega arith) shown_sides on),
  )
  after (no e) = (
    S,
    λ S' f g. g e,
    record { size = W.size; here = W.right a b la lb ∙ lt_true (r a b) (omega arith) ∙ sym (lt_true (r a b - d) (omega arith)); other = λ i j o. refl },
  )

  pub shown_step : (S' : List ℕ) → (r a b ≡ d → S' ≡ with_step (without_step S a b) b a) → (r a b ≢ d → S' ≡ with_step S b a) → Shown (push1 r d a b) n x S'
  shown_step S' f g = go (after (ℕ_discrete (r a b) d))
    where
      go : (S₁ : List ℕ) × ((S' : List ℕ) → (r a b ≡ d → S' ≡ with_step (without_step S a b) b a) → (r a b ≢ d → S' ≡ with_step S b a) → S' ≡ with_step S₁ b a) × Changed a b (ltb 0 (r a b - d)) S S₁
          → Shown (push1 r d a b) n x S'
      go k = subst (λ (M : List ℕ). Shown (push1 r d a b) n x M) (sym (k.1 S' f g)) (record {
        size = B.size;
        right = λ i j li lj. right i j li lj (spot a b i j);
        only = λ i j li lj t. inside i j li lj t (ℕ_discrete i b) (ℕ_discrete j a);
      })
        where
          C : Changed a b (ltb 0 (r a b - d)) S k.0
          C = k.2

          B : Changed b a true k.0 (with_step k.0 b a)
          B = with_step_lem k.0 b a C.size (omega arith) (omega (arith, shown_sides))

          right : (i j : ℕ) → i < 2 * n → j < 2 * n → Spot a b i j → step (masked (with_step k.0 b a)) i j ≡ step (push1 r d a b) i j
          right i j li lj (ahead e h) =
              let p : step (masked k.0) i j ≡ step (masked k.0) a b = cc in
              B.other i j (inl (λ q. ne (sym e ∙ q))) ∙ p ∙ C.here ∙ ap (ltb 0) (sym (push1_ahead r d a b ne i j e h ∙ ap (λ (z : ℕ). z - d) (room_at r i j a b e h)))
          right i j li lj (back e h) =
              let p : step (masked (with_step k.0 b a)) i j ≡ step (masked (with_step k.0 b a)) b a = cc in
              p ∙ B.here ∙ sym (lt_true (push1 r d a b i j) (omega (arith, push1_back r d a b ne i j e h)))
          right i j li lj (aside e h) = B.other i j h ∙ C.other i j e ∙ W.right i j li lj ∙ ap (ltb 0) (sym (push1_aside r d a b ne i j e h))

          here : Has x (a / 2) × Has x (b / 2)
          here = W.only a b (omega arith) (omega arith) on

          low : (i j : ℕ) → i < 128 → j < 128 → T (step (masked k.0) i j) → Dec (i ≡ a) → Dec (j ≡ b) → Has x (i / 2) × Has x (j / 2)
          low i j li lj t (yes e) (yes h) = rw (e, h) here
          low i j li lj t (no e) h = W.only i j li lj (subst T (C.other i j (inl e)) t)
          low i j li lj t (yes e) (no h) = W.only i j li lj (subst T (C.other i j (inr h)) t)

          inside : (i j : ℕ) → i < 128 → j < 128 → T (step (masked (with_step k.0 b a)) i j) → Dec (i ≡ b) → Dec (j ≡ a) → Has x (i / 2) × Has x (j / 2)
          inside i j li lj t (yes e) (yes h) = rw (e, h) (here.1, here.0)
          inside i j li lj t (no e) h = low i j li lj (subst T (B.other i j (inl e)) t) (ℕ_discrete i a) (ℕ_discrete j b)
          inside i j li lj t (yes e) (no h) = low i j li lj (subst T (B.other i j (inr h)) t) (ℕ_discrete i a) (ℕ_discrete j b)
