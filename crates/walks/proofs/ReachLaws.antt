-- Reaching: the computed test and the fact, a step more, and how far away what is reached lies.
-- Assumes nothing.
--
--   reach st n t a                       t is reached from a, computed
--   reach_walk, walk_reach               the test and walks
--   reach_reaches, reaches_reach         the test and the fact
--   reaches_here, reaches_step, reaches_on, reaches_in
--   reaches_away, away_unique            what is reached is a definite number of steps away, below N
use mathlib.Core.Path.{◌≡◌, refl, sym, ap, subst}
use mathlib.Core.Bool.{Bool}
use mathlib.Core.List.{List, [], ◌∷◌}
use Prim.Native.Nat.{ℕ, zero, suc, ◌<◌}
use native.Mathlib.Omega.{arith}
use lib.Dec.{T, ltb, lt→ltb, ltb→lt}
use lib.ListN.{length}
use Rattle.walks.specs.Walk.{Walk, Reaches, Away}
use Rattle.walks.proofs.Distance.{dist, dist_walk, dist_closed, dist_in, dist_down, dist_zero, walk_dist, walk_long}

unfoldable pub reach : (ℕ → ℕ → Bool) → ℕ → ℕ → ℕ → Bool
unfolding dist
reach st n t a = ltb (dist st n t a) n

pub reach_walk : (st : ℕ → ℕ → Bool) (n t a : ℕ) → T (reach st n t a) → (p : List ℕ) × Walk st n a t p
unfolding reach
reach_walk st n t a h = dist_walk st n t (dist st n t a) a refl (ltb→lt (dist st n t a) n h)

pub walk_reach : (st : ℕ → ℕ → Bool) (n t a : ℕ) (p : List ℕ) → a < n → Walk st n a t p → T (reach st n t a)
unfolding reach
walk_reach st n t a p l w = lt→ltb (dist st n t a) n (walk_dist st n t a p l w)

pub reach_self : (st : ℕ → ℕ → Bool) (n t : ℕ) → t < n → T (reach st n t t)
reach_self st n t l = walk_reach st n t t [] l refl

pub reach_step : (st : ℕ → ℕ → Bool) (n t a b : ℕ) → a < n → T (st a b) → T (reach st n t b) → T (reach st n t a)
unfolding reach
reach_step st n t a b l s h = lt→ltb (dist st n t a) n (dist_closed st n t a b l s (ltb→lt (dist st n t b) n h))

pub reach_in : (st : ℕ → ℕ → Bool) (n t a : ℕ) → T (reach st n t a) → a < n
unfolding reach
reach_in st n t a h = dist_in st n t a (ltb→lt (dist st n t a) n h)

-- ---- the fact

pub reach_reaches : (st : ℕ → ℕ → Bool) (n t a : ℕ) → T (reach st n t a) → Reaches st n a t
reach_reaches st n t a h = let r = reach_walk st n t a h in record { path = r.0; walk = r.1 }

pub reaches_reach : (st : ℕ → ℕ → Bool) (n t a : ℕ) → a < n → Reaches st n a t → T (reach st n t a)
reaches_reach st n t a l r = walk_reach st n t a r.path l r.walk

pub reaches_here : (st : ℕ → ℕ → Bool) (n a : ℕ) → Reaches st n a a
reaches_here st n a = record { path = []; walk = refl }

-- a step in front
pub reaches_step : (st : ℕ → ℕ → Bool) (n a b t : ℕ) → b < n → T (st a b) → Reaches st n b t → Reaches st n a t
reaches_step st n a b t l s r = record { path = b ∷ r.path; walk = (l, s, r.walk) }

-- a step behind
pub reaches_on : (st : ℕ → ℕ → Bool) (n a b c : ℕ) → Reaches st n a b → T (st b c) → c < n → Reaches st n a c
reaches_on st n a b c r s l = go a r.path r.walk
  where
    go : (x : ℕ) (p : List ℕ) → Walk st n x b p → Reaches st n x c
    go x [] e = reaches_step st n x c c l (subst (λ (z : ℕ). T (st z c)) (sym e) s) (reaches_here st n c)
    go x (y ∷ p) w = reaches_step st n x y c w.0 w.1 (go y p w.2)

-- what is reached is below n
pub reaches_in : (st : ℕ → ℕ → Bool) (n a t : ℕ) → a < n → Reaches st n a t → t < n
reaches_in st n a t l r = go a l r.path r.walk
  where
    go : (x : ℕ) → x < n → (p : List ℕ) → Walk st n x t p → t < n
    go x m [] e = subst (λ (z : ℕ). z < n) e m
    go x m (y ∷ p) w = go y w.0 p w.2

-- ---- how far away

-- a walk of as many steps as the distance
short_walk : (st : ℕ → ℕ → Bool) (n t k a : ℕ) → dist st n t a ≡ k → k < n → (p : List ℕ) × Walk st n a t p × (length p ≡ k)
short_walk st n t zero a e h = ([], dist_zero st n t a e h, refl)
short_walk st n t (suc k) a e h =
    let w = dist_down st n t k a e h in
    let r = short_walk st n t k w.0 w.3 (omega arith) in
    (w.0 ∷ r.0, (w.1, w.2, r.1), ap suc r.2)

-- what is reached is some number of steps away, below n
pub reaches_away : (st : ℕ → ℕ → Bool) (n a t : ℕ) → a < n → Reaches st n a t → (k : ℕ) × (k < n) × Away st n a t k
reaches_away st n a t l r =
    let h = walk_dist st n t a r.path l r.walk in
    let w = short_walk st n t (dist st n t a) a refl h in
    (dist st n t a, h, record { path = w.0; walk = w.1; steps = w.2; shortest = λ p q. walk_long st n t a p l q })

-- and no other number
pub away_unique : (st : ℕ → ℕ → Bool) (n a t j k : ℕ) → Away st n a t j → Away st n a t k → j ≡ k
away_unique st n a t j k x y =
    let p = x.shortest y.path y.walk in
    let q = y.shortest x.path x.walk in
    omega (arith, x.steps, y.steps, p, q)
