-- Rooms that agree between the nodes below N: whatever is said of the rounds is said of both alike.
-- Assumes nothing.
--
--   Same N r q                    the same room for each step between nodes
--   same_sym                      in either order
--   walk_same, reaches_same, most_same, dist_same, taken_same    the same paths, amounts and distances
--   push1_same, push_same         the same push gives the same rooms
use mathlib.Core.Path.{◌≡◌, sym, subst}
use mathlib.Core.Logic.{◌⊎◌, inl, inr}
use mathlib.Core.Bool.{Bool}
use mathlib.Core.List.{List, [], ◌∷◌}
use Prim.Native.Nat.{ℕ, zero, suc, ◌≤◌, ◌<◌}
use native.Mathlib.Decide.{dec_lt}
use native.Mathlib.Omega.{arith}
use lib.Dec.{T, ltb}
use Rattle.walks.specs.Walk.{Walk, Reaches}
use Rattle.walks.proofs.Distance.{near, dist, near_zero, near_zero_eq, near_in, near_keep, near_step, near_cases, dist_le, dist_near, dist_bound}
use Rattle.network.specs.Rooms.{Room, step, upd, push1, push}
use Rattle.network.specs.Paths.{Taken, Allows, Most}

abbrev pub Same : ℕ → Room → Room → Type 0
Same N r q = (a b : ℕ) → a < N → b < N → r a b ≡ q a b

pub same_sym : (N : ℕ) (r q : Room) → Same N r q → Same N q r
same_sym N r q h a b la lb = sym (h a b la lb)

module _ (N : ℕ) (r q : Room) (same : Same N r q) where
  step_same : (a b : ℕ) → a < N → b < N → T (step r a b) → T (step q a b)
  step_same a b la lb t = subst (λ (x : ℕ). T (ltb 0 x)) (same a b la lb) t

  pub walk_same : (a t : ℕ) (p : List ℕ) → a < N → Walk (step r) N a t p → Walk (step q) N a t p
  walk_same a t [] l w = w
  walk_same a t (b ∷ p) l w = (w.0, step_same a b l w.0 w.1, walk_same b t p w.0 w.2)

  pub reaches_same : (a t : ℕ) → a < N → Reaches (step r) N a t → Reaches (step q) N a t
  reaches_same a t l k = record { path = k.path; walk = walk_same a t k.path l k.walk }

  allows_same : (st : ℕ → ℕ → Bool) (d a t : ℕ) (p : List ℕ) → a < N → Walk st N a t p → Allows r d a p → Allows q d a p
  allows_same st d a t [] l w h = tt
  allows_same st d a t (b ∷ p) l w h = (omega (arith, h.0, same a b l w.0), allows_same st d b t p w.0 w.2 h.1)

  near_same : (t k a : ℕ) → T (near (step r) N t k a) → T (near (step q) N t k a)
  near_same t zero a h =
      let e = near_zero_eq (step r) N t a h in
      subst (λ (x : ℕ). T (near (step q) N t 0 x)) (sym e) (near_zero (step q) N t (subst (λ (x : ℕ). x < N) e (near_in (step r) N t 0 a h)))
  near_same t (suc k) a h = go (near_same t k a) (λ b. near_same t k b) (near_cases (step r) N t k a h)
    where
      go : (T (near (step r) N t k a) → T (near (step q) N t k a)) → ((b : ℕ) → T (near (step r) N t k b) → T (near (step q) N t k b))
          → T (near (step r) N t k a) ⊎ ((b : ℕ) × (b < N) × T (step r a b) × T (near (step r) N t k b)) → T (near (step q) N t (suc k) a)
      go f g (inl x) = near_keep (step q) N t k a (f x)
      go f g (inr w) =
          let l = near_in (step r) N t (suc k) a h in
          near_step (step q) N t k a w.0 l (step_same a w.0 l w.1 w.2) (g w.0 w.3)

  dist_same_le : (t a : ℕ) → dist (step q) N t a ≤ dist (step r) N t a
  dist_same_le t a = go (dec_lt (dist (step r) N t a) N)
    where
      go : Dec (dist (step r) N t a < N) → dist (step q) N t a ≤ dist (step r) N t a
      go (yes h) = dist_le (step q) N t _ a (near_same t _ a (dist_near (step r) N t a h))
      go (no h) = omega (arith, dist_bound (step q) N t a)

module _ (N : ℕ) (r q : Room) (same : Same N r q) where
  pub dist_same : (t a : ℕ) → dist (step r) N t a ≡ dist (step q) N t a
  dist_same t a = omega (arith, dist_same_le N r q same t a, dist_same_le N q r (same_sym N r q same) t a)

  pub most_same : (st : ℕ → ℕ → Bool) (a t : ℕ) (p : List ℕ) (d : ℕ) → a < N → Walk st N a t p → Most r a p d → Most q a p d
  most_same st a t p d l w m = record {
    allowed = allows_same N r q same st d a t p l w m.allowed;
    largest = λ e h. m.largest e (allows_same N q r (same_sym N r q same) st e a t p l w h);
  }

  pub taken_same : (s t : ℕ) (p : List ℕ) → s < N → Taken r N s t p → Taken q N s t p
  taken_same s t p l k = record {
    walk = walk_same N r q same s t p l k.walk;
    shortest = λ z w. k.shortest z (walk_same N q r (same_sym N r q same) s t z l w);
    first = λ z w e. k.first z (walk_same N q r (same_sym N r q same) s t z l w) e;
  }

pub push1_same : (N : ℕ) (r q : Room) (d a b : ℕ) → Same N r q → a < N → b < N → Same N (push1 r d a b) (push1 q d a b)
unfolding push1 upd
push1_same N r q d a b h la lb x y lx ly = cc (h x y lx ly, h a b la lb, h b a lb la)

pub push_same : (N : ℕ) (st : ℕ → ℕ → Bool) (r q : Room) (d a t : ℕ) (p : List ℕ) → Same N r q → a < N → Walk st N a t p → Same N (push r d a p) (push q d a p)
unfolding push
push_same N st r q d a t [] h l w = h
push_same N st r q d a t (b ∷ p) h l w = push_same N st (push1 r d a b) (push1 q d a b) d b t p (push1_same N r q d a b h l w.0) w.0 w.2
