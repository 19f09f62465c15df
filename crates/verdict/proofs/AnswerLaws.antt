-- The verdict is one.
-- Assumes nothing.
--
--   rounds_from        rounds from capacities that are the same
--   capacity_same      the network does not depend on how X is tested
--   after_rounds       rounds on the network of X, on the computed test of X
--   verdict_unique     two verdicts with the same allowance are equal
use mathlib.Core.Path.{◌≡◌, refl, sym, ap, ◌∙◌, subst}
use mathlib.Core.Bool.{Bool}
use Prim.Native.Nat.{ℕ, ◌*◌, ◌/◌, ◌<◌, ◌≤◌}
use native.Mathlib.Omega.{arith}
use native.Mathlib.Decide.{ℕ_discrete}
use lib.Dec.{T}
use Rattle.bits.proofs.Masks.{mask_unique, mask_same}
use Rattle.sums.specs.Sum.{sum, gate}
use Rattle.sums.proofs.SumLaws.{sum_cong}
use Rattle.walks.specs.Walk.{Reaches}
use Rattle.graph.specs.Rings.{InX}
use Rattle.network.specs.Rooms.{Room, step}
use Rattle.network.specs.Rounds.{Rounds, Stuck}
use Rattle.network.specs.Rounds.Rounds.{none, more}
use Rattle.network.specs.Arcs.{inn, out, within, total, job_capacity, net, capacity}
use Rattle.network.specs.Sets.{Best, price}
use Rattle.network.proofs.SameRooms.{Same, walk_same}
use Rattle.network.proofs.RoundLaws.{rounds_unique, stuck_last, count_unique}
use Rattle.network.proofs.SetLaws.{exactly_unique, price_same, in_x, inx_exact}
use Rattle.network.proofs.BestLaws.{best_unique}
use Rattle.verdict.specs.Answers.{After, Victims, Verdict}
use Rattle.verdict.specs.Answers.Verdict.{stays, itself, others, unfinished}

pub rounds_from : (N s t : ℕ) (c d : Room) (k : ℕ) (r : Room) → Same N c d → Rounds N s t c k r → Rounds N s t d k r
rounds_from N s t c d k r same (none f) = none (λ a b la lb. f a b la lb ∙ same a b la lb)
rounds_from N s t c d k r same (more {k = j} {r = q} x u) = more (rounds_from N s t c d j q same x) u

module _ (w : ℕ → ℕ → Bool) (n τ : ℕ) (cost : ℕ → ℕ) where
  pub capacity_same : (x y : ℕ → Bool) → ((u : ℕ) → u < n → x u ≡ y u) → Same (2 * n) (capacity w x n τ cost) (capacity w y n τ cost)
  unfolding capacity net within job_capacity total
  capacity_same x y h a b la lb =
      let p : x (a / 2) ≡ y (a / 2) = h (a / 2) (omega arith) in
      let q : x (b / 2) ≡ y (b / 2) = h (b / 2) (omega arith) in
      let s : sum n (λ u. gate (x u) (cost u)) ≡ sum n (λ u. gate (y u) (cost u)) = sum_cong n _ _ (λ u l. ap (λ (z : Bool). gate z (cost u)) (h u l)) in
      cc (p, q, s)

  module _ (lτ : τ < n) where
    source : out τ < 2 * n
    source = omega arith

    -- the capacities on the computed test of X
    abbrev pub known : Room
    known = capacity w (in_x w n τ) n τ cost

    pub after_rounds : (k : ℕ) (r : Room) → After w n τ cost k r → Rounds (2 * n) (out τ) (inn τ) (capacity w (in_x w n τ) n τ cost) k r
    after_rounds k r a =
        rounds_from (2 * n) (out τ) (inn τ) (capacity w a.x n τ cost) known k r
        (capacity_same a.x (in_x w n τ) (exactly_unique n (InX w n τ) a.x (in_x w n τ) a.exact (inx_exact w n τ lτ))) a.made

    -- where no path is left after k rounds, none is left after k or more
    ended : (j k : ℕ) (q r : Room) → After w n τ cost j q → Stuck (2 * n) (out τ) (inn τ) q → j ≤ k → After w n τ cost k r → Reaches (step r) (2 * n) (out τ) (inn τ) → ⊥
    ended j k q r a stuck l b path = go (ℕ_discrete j k)
      where
        go : Dec (j ≡ k) → ⊥
        go (yes e) = stuck path.path (walk_same (2 * n) r q
            (rounds_unique (2 * n) (out τ) (inn τ) known k r q source (after_rounds k r b) (subst (λ (z : ℕ). Rounds (2 * n) (out τ) (inn τ) known z q) e (after_rounds j q a)))
            (out τ) (inn τ) path.path source path.walk)
        go (no e) = let m = stuck_last (2 * n) (out τ) (inn τ) known j k q r source (after_rounds j q a) stuck (after_rounds k r b) in omega arith

    same_count : (j k : ℕ) (q r : Room) → After w n τ cost j q → Stuck (2 * n) (out τ) (inn τ) q → After w n τ cost k r → Stuck (2 * n) (out τ) (inn τ) r → j ≡ k
    same_count j k q r a g b h = count_unique (2 * n) (out τ) (inn τ) known j k q r source (after_rounds j q a) g (after_rounds k r b) h

    module _ (apart : (u : ℕ) → u < n → T (w u u) → ⊥) (positive : (u : ℕ) → u < n → 0 < cost u) where
      same_set : (M L : ℕ → Bool) → Best w n τ cost M → Best w n τ cost L → (u : ℕ) → u < n → M u ≡ L u
      same_set = best_unique w n τ cost lτ apart positive

      same_price : (M L : ℕ → Bool) → Best w n τ cost M → Best w n τ cost L → price n cost M ≡ price n cost L
      same_price M L b d = price_same n cost M L (same_set M L b d)

      same_victims : (M L : ℕ → Bool) → Best w n τ cost M → Best w n τ cost L → (v z : ℕ) → Victims n M v → Victims n L z → v ≡ z
      same_victims M L b d v z p q = mask_unique _ v z p (mask_same _ _ z q
          (λ u h. (h.0, subst T (sym (same_set M L b d u h.0)) h.1))
          (λ u h. (h.0, subst T (same_set M L b d u h.0) h.1)))

      pub verdict_unique : (a o p k v o' p' k' v' : ℕ) → Verdict w n τ cost a o p k v → Verdict w n τ cost a o' p' k' v'
          → (o ≡ o') × (p ≡ p') × (k ≡ k') × (v ≡ v')
      verdict_unique a o p k v o' p' k' v' (stays f) (stays g) = (refl, refl, refl, refl)
      verdict_unique a o p k v o' p' k' v' (stays f) (itself y g j r h s l M b c) = absurd (f y g)
      verdict_unique a o p k v o' p' k' v' (stays f) (others y g j r h s l M b c z m) = absurd (f y g)
      verdict_unique a o p k v o' p' k' v' (stays f) (unfinished y g r h m) = absurd (f y g)
      verdict_unique a o p k v o' p' k' v' (itself y g j r h s l M b c) (stays f) = absurd (f y g)
      verdict_unique a o p k v o' p' k' v' (itself y g j r h s l M b c) (itself y' g' j' r' h' s' l' M' b' c') = (refl, refl, same_count j j' r r' h s h' s', refl)
      verdict_unique a o p k v o' p' k' v' (itself y g j r h s l M b c) (others y' g' j' r' h' s' l' M' b' c' z m) = absurd (omega (arith, same_price M M' b b'))
      verdict_unique a o p k v o' p' k' v' (itself y g j r h s l M b c) (unfinished y' g' r' h' m') = absurd (ended j a r r' h s l h' m')
      verdict_unique a o p k v o' p' k' v' (others y g j r h s l M b c z m) (stays f) = absurd (f y g)
      verdict_unique a o p k v o' p' k' v' (others y g j r h s l M b c z m) (itself y' g' j' r' h' s' l' M' b' c') = absurd (omega (arith, same_price M M' b b'))
      verdict_unique a o p k v o' p' k' v' (others y g j r h s l M b c z m) (others y' g' j' r' h' s' l' M' b' c' z' m') =
          (refl, same_price M M' b b', same_count j j' r r' h s h' s', same_victims M M' b b' z z' m m')
      verdict_unique a o p k v o' p' k' v' (others y g j r h s l M b c z m) (unfinished y' g' r' h' m') = absurd (ended j a r r' h s l h' m')
      verdict_unique a o p k v o' p' k' v' (unfinished y g r h m) (stays f) = absurd (f y g)
      verdict_unique a o p k v o' p' k' v' (unfinished y g r h m) (itself y' g' j' r' h' s' l' M' b' c') = absurd (ended j' a r' r h' s' l' h m)
      verdict_unique a o p k v o' p' k' v' (unfinished y g r h m) (others y' g' j' r' h' s' l' M' b' c' z' m') = absurd (ended j' a r' r h' s' l' h m)
      verdict_unique a o p k v o' p' k' v' (unfinished y g r h m) (unfinished y' g' r' h' m') = (refl, refl, refl, refl)
