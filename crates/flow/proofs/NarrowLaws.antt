-- From masks of 128 nodes to the rooms of a network of n jobs: the same walks, the same path of a round, and the same jobs from which the sink is reached.
-- Assumes nothing.
--
--   narrow_walk, widen_walk     a walk by the masks is one by the rooms, and the other way round
--   narrow_taken, narrow_stuck  so the path that a search finds is the round's, and where it finds none no path is left
--   narrow_side                 the masks of the sink's side are those of the rooms
use mathlib.Core.Path.{◌≡◌, sym, subst}
use mathlib.Core.List.{List, [], ◌∷◌}
use Prim.Native.Nat.{ℕ, ◌*◌, ◌/◌, ◌<◌, ◌≤◌}
use native.Mathlib.Omega.{arith}
use lib.Dec.{T}
use Rattle.bits.specs.Mask.{Has, MaskOf}
use Rattle.bits.proofs.Masks.{mask_same}
use Rattle.walks.specs.Walk.{Walk}
use Rattle.network.specs.Rooms.{Room, step}
use Rattle.network.specs.Paths.{Taken}
use Rattle.network.specs.Rounds.{Stuck}
use Rattle.network.specs.Arcs.{inn}
use Rattle.search.specs.Masks.{masked}
use Rattle.side.specs.Home.{Home}
use Rattle.flow.specs.Flowed.{Side}
use Rattle.flow.proofs.ShownLaws.{Shown}

module _ (r : Room) (n x : ℕ) (S : List ℕ) (few : n ≤ 64) (members : (u : ℕ) → Has x u → u < n) (W : Shown r n x S) where
  to : (a b : ℕ) → a < 2 * n → b < 128 → T (step (masked S) a b) → b < 2 * n
  to a b la lb t = omega (arith, members (b / 2) (W.only a b (omega arith) lb t).1)

  pub narrow_walk : (a t : ℕ) (p : List ℕ) → a < 2 * n → Walk (step (masked S)) 128 a t p → Walk (step r) (2 * n) a t p
  narrow_walk a t [] l w = w
  narrow_walk a t (b ∷ p) l w =
      let lb = to a b l w.0 w.1 in
      (lb, subst T (W.right a b l lb) w.1, narrow_walk b t p lb w.2)

  pub widen_walk : (a t : ℕ) (p : List ℕ) → a < 2 * n → Walk (step r) (2 * n) a t p → Walk (step (masked S)) 128 a t p
  widen_walk a t [] l w = w
  widen_walk a t (b ∷ p) l w = (omega (arith, w.0), subst T (sym (W.right a b l w.0)) w.1, widen_walk b t p w.0 w.2)

  pub narrow_taken : (s t : ℕ) (p : List ℕ) → s < 2 * n → Taken (masked S) 128 s t p → Taken r (2 * n) s t p
  narrow_taken s t p l k = record {
    walk = narrow_walk s t p l k.walk;
    shortest = λ q w. k.shortest q (widen_walk s t q l w);
    first = λ q w e. k.first q (widen_walk s t q l w) e;
  }

  pub narrow_stuck : (s t : ℕ) → s < 2 * n → Stuck 128 s t (masked S) → Stuck (2 * n) s t r
  narrow_stuck s t l k p w = k p (widen_walk s t p l w)

  -- a node of a job from which the sink is reached is a node of the network
  module _ (τ : ℕ) (lτ : τ < n) (node : ℕ → ℕ) (half : (u : ℕ) → node u / 2 ≡ u) where
    below : (u : ℕ) → u < n → node u < 2 * n
    below u l = omega (arith, half u)

    inside : (u : ℕ) (p : List ℕ) → u < 64 → Walk (step (masked S)) 128 (node u) (inn τ) p → u < n
    inside u [] l w = let e : node u / 2 ≡ inn τ / 2 = (let q : node u ≡ inn τ = w in omega arith) in omega (arith, half u)
    inside u (b ∷ p) l w = members u (subst (Has x) (half u) (W.only (node u) b (omega (arith, half u)) w.0 w.1).0)

    pub narrow_side : (mask : ℕ) → MaskOf (Home S τ node) mask → MaskOf (Side r n τ node) mask
    narrow_side mask M = mask_same (Home S τ node) (Side r n τ node) mask M
        (λ u H. let l = inside u H.home.path H.job H.home.walk in
        record { job = l; home = record { path = H.home.path; walk = narrow_walk (node u) (inn τ) H.home.path (below u l) H.home.walk } })
        (λ u D. record { job = (let l = D.job in omega arith); home = record { path = D.home.path; walk = widen_walk (node u) (inn τ) D.home.path (below u D.job) D.home.walk } })
