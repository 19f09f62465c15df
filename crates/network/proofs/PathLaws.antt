-- The path of a round: there is one wherever any path is left, and only one (document 01: "A round takes a shortest path of steps from source to sink.
-- Among shortest paths it takes the one whose list of nodes is first when compared node number by node number.").
-- Assumes nothing.
--
--   before_antisym            lists of one length that come before each other are equal
--   Down N D a p              each step of the path p from a leads one nearer, D being the distances
--   route r N t k a           of the walks of k steps from a to t the first, computed
--   route_walk, route_length, route_first, route_taken    it is one, it has k steps, it is the first; the path of a round
--   taken_exists              where a path is left there is the path of a round
--   taken_length              it has as many steps as the sink is away
--   taken_unique              there is only one
--   walk_down                 on a shortest walk each step leads one nearer
--   most_one, most_more       the largest amount of one step, and with one step more in front
--   most_exists, most_unique  a path of one or more steps has one largest amount
use mathlib.Core.Path.{◌≡◌, refl, sym, ap, ◌∙◌, subst}
use mathlib.Core.Logic.{◌⊎◌, inl, inr}
use mathlib.Core.List.{List, [], ◌∷◌}
use Prim.Native.Nat.{ℕ, zero, suc, ◌≤◌, ◌<◌, min}
use native.Mathlib.Nat.{le_refl}
use native.Mathlib.Decide.{ℕ_discrete}
use native.Mathlib.Omega.{arith}
use lib.Dec.{T}
use lib.ListN.{length}
use Rattle.sums.specs.Tests.{both}
use Rattle.sums.proofs.TestLaws.{both_intro, both_left, both_right}
use Rattle.sums.proofs.Least.{least, least_le, least_holds}
use Rattle.walks.specs.Walk.{Walk, Reaches}
use Rattle.walks.proofs.Distance.{levels, near, dist, dist_le, dist_near, dist_step, dist_in, dist_zero, dist_down, walk_near, walk_dist, walk_long}
use Rattle.network.specs.Rooms.{Room, step}
use Rattle.network.specs.Paths.{Before, Taken, Allows, Most}

pub before_antisym : (p q : List ℕ) → length p ≡ length q → Before p q → Before q p → p ≡ q
before_antisym [] [] e f g = refl
before_antisym [] (y ∷ q) e f g = absurd g
before_antisym (x ∷ p) [] e f g = absurd f
before_antisym (x ∷ p) (y ∷ q) e f g = go (before_antisym p q (omega arith)) f g
  where
    go : (Before p q → Before q p → p ≡ q) → (x < y) ⊎ ((x ≡ y) × Before p q) → (y < x) ⊎ ((y ≡ x) × Before q p) → x ∷ p ≡ y ∷ q
    go rec (inl l) (inl m) = absurd (omega arith)
    go rec (inl l) (inr m) = absurd (omega arith)
    go rec (inr l) (inl m) = absurd (omega arith)
    go rec (inr l) (inr m) = cc (l.0, rec l.1 m.1)

abbrev pub Down : ℕ → (ℕ → ℕ) → ℕ → List ℕ → Type 0
Down N D a [] = Unit {0}
Down N D a (b ∷ p) = (b < N) × (D a ≡ suc (D b)) × Down N D b p

-- ---- computed: the first walk of k steps, each time to the least node that is one nearer

unfoldable pub route : Room → ℕ → ℕ → ℕ → ℕ → List ℕ
unfolding least levels
route r N t zero a = []
route r N t (suc k) a =
    let b = least N (λ x. both (step r a x) (near (step r) N t k x)) in
    b ∷ route r N t k b

module _ (r : Room) (N t : ℕ) where
  -- the next node of the route
  abbrev next_of : ℕ → ℕ → ℕ
  next_of k a = least N (λ x. both (step r a x) (near (step r) N t k x))

  -- what is known of it, where t is k + 1 steps away from a
  next_good : (k a : ℕ) → dist (step r) N t a ≡ suc k → suc k < N
      → (next_of k a < N) × T (step r a (next_of k a)) × (dist (step r) N t (next_of k a) ≡ k)
  next_good k a e h =
      let w = dist_down (step r) N t k a e h in
      let near-w : T (near (step r) N t k w.0) = subst (λ (x : ℕ). T (near (step r) N t x w.0)) w.3 (dist_near (step r) N t w.0 (omega arith)) in
      let low : next_of k a ≤ w.0 = least_le N (λ x. both (step r a x) (near (step r) N t k x)) w.0 (both_intro (step r a w.0) (near (step r) N t k w.0) w.2 near-w) in
      let ok = least_holds N (λ x. both (step r a x) (near (step r) N t k x)) (omega arith) in
      let st : T (step r a (next_of k a)) = both_left (step r a (next_of k a)) (near (step r) N t k (next_of k a)) ok in
      let up : dist (step r) N t (next_of k a) ≤ k = dist_le (step r) N t k (next_of k a) (both_right (step r a (next_of k a)) (near (step r) N t k (next_of k a)) ok) in
      let down = dist_step (step r) N t a (next_of k a) (dist_in (step r) N t a (omega arith)) st in
      (omega arith, st, omega arith)

  pub route_walk : (k a : ℕ) → dist (step r) N t a ≡ k → k < N → Walk (step r) N a t (route r N t k a)
  unfolding route
  route_walk zero a e h = dist_zero (step r) N t a e h
  route_walk (suc k) a e h =
      let g = next_good k a e h in
      (g.0, g.1, route_walk k (next_of k a) g.2 (omega arith))

  pub route_length : (k a : ℕ) → length (route r N t k a) ≡ k
  unfolding route
  route_length zero a = refl
  route_length (suc k) a = ap suc (route_length k (next_of k a))

  pub route_first : (k a : ℕ) → dist (step r) N t a ≡ k → k < N → (q : List ℕ) → Walk (step r) N a t q → length q ≡ k → Before (route r N t k a) q
  unfolding route
  route_first zero a e h q w l = tt
  route_first (suc k) a e h [] w l = absurd (omega arith)
  route_first (suc k) a e h (y ∷ q) w l = go (ℕ_discrete (next_of k a) y)
      (λ same. route_first k (next_of k a) (next_good k a e h).2 (omega arith) q (subst (λ (x : ℕ). Walk (step r) N x t q) (sym same) w.2) (omega arith))
    where
      near_y : T (near (step r) N t k y)
      near_y = let e' : length q ≡ k = omega arith in subst (λ (x : ℕ). T (near (step r) N t x y)) e' (walk_near (step r) N t y q w.0 w.2)

      low : next_of k a ≤ y
      low = least_le N (λ x. both (step r a x) (near (step r) N t k x)) y (both_intro (step r a y) (near (step r) N t k y) w.1 near_y)

      go : Dec (next_of k a ≡ y) → (next_of k a ≡ y → Before (route r N t k (next_of k a)) q)
          → (next_of k a < y) ⊎ ((next_of k a ≡ y) × Before (route r N t k (next_of k a)) q)
      go (yes e) rec = inr (e, rec e)
      go (no e) rec = inl (omega (arith, low))

  -- ---- the path of a round

  module _ (s : ℕ) (in-s : s < N) where
    pub route_taken : dist (step r) N t s < N → Taken r N s t (route r N t (dist (step r) N t s) s)
    route_taken h =
        let e = route_length (dist (step r) N t s) s in
        record {
          walk = route_walk (dist (step r) N t s) s refl h;
          shortest = λ q w. omega (arith, walk_long (step r) N t s q in-s w, e);
          first = λ q w l. route_first (dist (step r) N t s) s refl h q w (l ∙ e);
        }

    pub taken_exists : Reaches (step r) N s t → (p : List ℕ) × Taken r N s t p
    taken_exists k = (route r N t (dist (step r) N t s) s, route_taken (walk_dist (step r) N t s k.path in-s k.walk))

    pub taken_length : (p : List ℕ) → Taken r N s t p → length p ≡ dist (step r) N t s
    taken_length p k =
        let h = walk_dist (step r) N t s p in-s k.walk in
        let a = walk_long (step r) N t s p in-s k.walk in
        let b = k.shortest (route r N t (dist (step r) N t s) s) (route_walk (dist (step r) N t s) s refl h) in
        omega (arith, a, b, route_length (dist (step r) N t s) s)

    pub taken_unique : (p q : List ℕ) → Taken r N s t p → Taken r N s t q → p ≡ q
    taken_unique p q k l =
        let e : length p ≡ length q = taken_length p k ∙ sym (taken_length q l) in
        before_antisym p q e (k.first q l.walk (sym e)) (l.first p k.walk e)

  pub walk_down : (a : ℕ) (p : List ℕ) → a < N → Walk (step r) N a t p → length p ≡ dist (step r) N t a → Down N (dist (step r) N t) a p
  walk_down a [] l w e = tt
  walk_down a (b ∷ p) l w e =
      let i = dist_step (step r) N t a b l w.1 in
      let j = walk_long (step r) N t b p w.0 w.2 in
      (w.0, omega arith, walk_down b p w.0 w.2 (omega arith))

-- ---- the largest amount that every step allows

allows_less : (r : Room) (d x a : ℕ) (p : List ℕ) → x ≤ d → Allows r d a p → Allows r x a p
allows_less r d x a [] l h = tt
allows_less r d x a (b ∷ p) l h = (omega (arith, h.0), allows_less r d x b p l h.1)

pub most_one : (r : Room) (a b : ℕ) → Most r a (b ∷ []) (r a b)
most_one r a b = record { allowed = (le_refl (r a b), tt); largest = λ x h. h.0 }

pub most_more : (r : Room) (a b : ℕ) (p : List ℕ) (d : ℕ) → Most r b p d → Most r a (b ∷ p) (min (r a b) d)
most_more r a b p d m = record {
  allowed = (omega arith, allows_less r d (min (r a b) d) b p (omega arith) m.allowed);
  largest = λ x h. omega (arith, h.0, m.largest x h.1);
}

pub most_exists : (r : Room) (a b : ℕ) (p : List ℕ) → (d : ℕ) × Most r a (b ∷ p) d
most_exists r a b [] = (r a b, most_one r a b)
most_exists r a b (c ∷ p) = let m = most_exists r b c p in (min (r a b) m.0, most_more r a b (c ∷ p) m.0 m.1)

pub most_unique : (r : Room) (a : ℕ) (p : List ℕ) (d e : ℕ) → Most r a p d → Most r a p e → d ≡ e
most_unique r a p d e m k = omega (arith, m.largest e k.allowed, k.largest d m.allowed)
