-- How many steps away the target is, computed level by level from the target backwards, and what that says of walks.
-- Assumes nothing.
--
--   tab n f               f 0, .., f (n - 1) as a list
--   patched_exists        a list of which the first n places are replaced
--   levels st N t k       the nodes below N from which t is at most k steps away, as a list of N marks
--   near st N t k a       a is one of them
--   dist st N t a         how many steps t is away from a, and N where t is not reached
--   near_step, near_cases, near_mono      from level to level
--   dist_step, dist_down, dist_closed     from node to node; N levels are enough
--   walk_dist, walk_long, dist_walk       walks and distances
use mathlib.Core.Path.{◌≡◌, refl, sym, ap, ◌∙◌, subst}
use mathlib.Core.Logic.{◌⊎◌, inl, inr}
use mathlib.Core.Bool.{Bool, false}
use mathlib.Core.List.{List, [], ◌∷◌}
use Prim.Native.Nat.{ℕ, zero, suc, ◌≤◌, ◌<◌}
use native.Mathlib.Nat.{not-suc-le-zero, le_of_suc-le-suc}
use native.Mathlib.Decide.{ℕ_discrete, dec_lt}
use native.Mathlib.Omega.{arith}
use lib.Dec.{T, leb, eqb, leb→le, le→leb, eqb→eq, eqb_refl}
use lib.ListN.{length, get_or, get_or-eq_default}
use Rattle.sums.specs.Tests.{both, either, any}
use Rattle.sums.specs.Sum.{sum, gate}
use Rattle.sums.proofs.TestLaws.{both_intro, both_left, both_right, either_left, either_right, either_cases, any_intro, any_elim}
use Rattle.sums.proofs.SumLaws.{gate_on, gate_off, gate_le, sum_strict, sum_term, sum_const}
use Rattle.sums.proofs.Least.{least, least_bound, least_le, least_holds}
use Rattle.walks.specs.Walk.{Walk}

unfoldable pub tab : {A : Type 0} → ℕ → (ℕ → A) → List A
tab zero f = []
tab (suc n) f = f 0 ∷ tab n (λ i. f (suc i))

-- the nodes from which a node marked in l is one step away, or none
unfoldable pub grow : (ℕ → ℕ → Bool) → ℕ → List Bool → List Bool
unfolding tab any
grow st N l = tab N (λ a. either (get_or l a false) (any N (λ b. both (st a b) (get_or l b false))))

unfoldable pub levels : (ℕ → ℕ → Bool) → ℕ → ℕ → ℕ → List Bool
unfolding tab grow
levels st N t zero = tab N (λ a. eqb a t)
levels st N t (suc k) = grow st N (levels st N t k)

abbrev pub near : (ℕ → ℕ → Bool) → ℕ → ℕ → ℕ → ℕ → Bool
near st N t k a = get_or (levels st N t k) a false

unfoldable pub dist : (ℕ → ℕ → Bool) → ℕ → ℕ → ℕ → ℕ
unfolding least levels
dist st N t a = least N (λ k. near st N t k a)

pub length_tab : {A : Type 0} (n : ℕ) (f : ℕ → A) → length (tab n f) ≡ n
unfolding tab
length_tab zero f = refl
length_tab (suc n) f = ap suc (length_tab n (λ i. f (suc i)))

pub get_d_tab : {A : Type 0} (n : ℕ) (f : ℕ → A) (d : A) (i : ℕ) → i < n → get_or (tab n f) i d ≡ f i
unfolding tab
get_d_tab zero f d i l = absurd (not-suc-le-zero l)
get_d_tab (suc n) f d zero l = refl
get_d_tab (suc n) f d (suc i) l = get_d_tab n (λ j. f (suc j)) d i (le_of_suc-le-suc l)

pub get_d_tab_out : {A : Type 0} (n : ℕ) (f : ℕ → A) (d : A) (i : ℕ) → n ≤ i → get_or (tab n f) i d ≡ d
unfolding tab
get_d_tab_out zero f d i l = refl
get_d_tab_out (suc n) f d zero l = absurd (not-suc-le-zero l)
get_d_tab_out (suc n) f d (suc i) l = get_d_tab_out n (λ j. f (suc j)) d i (le_of_suc-le-suc l)

-- a list whose first n places are those of f and whose other places are those of another list
pub record Patched (n : ℕ) (f : ℕ → ℕ) (before after : List ℕ) : Type 0 where
  pub size : length after ≡ length before
  pub first : (i : ℕ) → i < n → get_or after i 0 ≡ f i
  pub rest : (i : ℕ) → n ≤ i → get_or after i 0 ≡ get_or before i 0

pub patched_exists : (n : ℕ) (f : ℕ → ℕ) (before : List ℕ) → n ≤ length before → (after : List ℕ) × Patched n f before after
patched_exists n f before l = (
  tab (length before) value,
  record {
    size = length_tab (length before) value;
    first = λ i m. get_d_tab (length before) value 0 i (omega arith) ∙ here i (dec_lt i n) m;
    rest = λ i m. past i m (dec_lt i (length before));
  },
)
  where
    by : (i : ℕ) → Dec (i < n) → ℕ
    by i (yes m) = f i
    by i (no m) = get_or before i 0

    value : ℕ → ℕ
    value i = by i (dec_lt i n)

    here : (i : ℕ) (d : Dec (i < n)) → i < n → by i d ≡ f i
    here i (yes m) h = refl
    here i (no m) h = absurd (m h)

    there : (i : ℕ) (d : Dec (i < n)) → n ≤ i → by i d ≡ get_or before i 0
    there i (yes m) h = absurd (omega arith)
    there i (no m) h = refl

    past : (i : ℕ) → n ≤ i → Dec (i < length before) → get_or (tab (length before) value) i 0 ≡ get_or before i 0
    past i m (yes h) = get_d_tab (length before) value 0 i h ∙ there i (dec_lt i n) m
    past i m (no h) = get_d_tab_out (length before) value 0 i (omega arith) ∙ sym (get_or-eq_default before 0 (omega arith))

-- ---- levels

pub leb_on : (m n : ℕ) → m ≤ n → gate (leb m n) 1 ≡ 1
leb_on m n h = gate_on (leb m n) 1 (le→leb m n h)

pub leb_off : (m n : ℕ) → n < m → gate (leb m n) 1 ≡ 0
leb_off m n h = gate_off (leb m n) 1 (λ t. let k : m ≤ n = leb→le m n t in omega arith)

-- a step leads from a to a marked node
abbrev hop : (ℕ → ℕ → Bool) → ℕ → List Bool → ℕ → Bool
hop st N l a = any N (λ b. both (st a b) (get_or l b false))

module _ (st : ℕ → ℕ → Bool) (N t : ℕ) where
  grown : (l : List Bool) (a : ℕ) → a < N → get_or (grow st N l) a false ≡ either (get_or l a false) (any N (λ b. both (st a b) (get_or l b false)))
  unfolding grow
  grown l a h = get_d_tab N _ false a h

  outside : (k a : ℕ) → N ≤ a → near st N t k a ≡ false
  unfolding levels grow
  outside zero a h = get_d_tab_out N _ false a h
  outside (suc k) a h = get_d_tab_out N _ false a h

  pub near_in : (k a : ℕ) → T (near st N t k a) → a < N
  near_in k a h = go (dec_lt a N)
    where
      go : Dec (a < N) → a < N
      go (yes l) = l
      go (no l) = absurd (subst T (outside k a (omega arith)) h)

  pub near_zero : t < N → T (near st N t 0 t)
  unfolding levels
  near_zero h = subst T (sym (get_d_tab N (λ a. eqb a t) false t h)) (eqb_refl t)

  pub near_zero_eq : (a : ℕ) → T (near st N t 0 a) → a ≡ t
  unfolding levels
  near_zero_eq a h = eqb→eq a t (subst T (go (near_in 0 a h)) h)
    where
      go : a < N → near st N t 0 a ≡ eqb a t
      go l = get_d_tab N (λ x. eqb x t) false a l

  pub near_step : (k a b : ℕ) → a < N → T (st a b) → T (near st N t k b) → T (near st N t (suc k) a)
  unfolding levels
  near_step k a b l s h =
      subst T (sym (grown (levels st N t k) a l))
      (either_right (near st N t k a) (hop st N (levels st N t k) a)
      (any_intro N (λ x. both (st a x) (near st N t k x)) b (near_in k b h) (both_intro (st a b) (near st N t k b) s h)))

  pub near_keep : (k a : ℕ) → T (near st N t k a) → T (near st N t (suc k) a)
  unfolding levels
  near_keep k a h = subst T (sym (grown (levels st N t k) a (near_in k a h))) (either_left (near st N t k a) (hop st N (levels st N t k) a) h)

  pub near_cases : (k a : ℕ) → T (near st N t (suc k) a) → T (near st N t k a) ⊎ ((b : ℕ) × (b < N) × T (st a b) × T (near st N t k b))
  unfolding levels
  near_cases k a h = go (either_cases (near st N t k a) (hop st N (levels st N t k) a) (subst T (grown (levels st N t k) a (near_in (suc k) a h)) h))
    where
      go : T (near st N t k a) ⊎ T (any N (λ b. both (st a b) (near st N t k b)))
          → T (near st N t k a) ⊎ ((b : ℕ) × (b < N) × T (st a b) × T (near st N t k b))
      go (inl x) = inl x
      go (inr x) =
          let w = any_elim N (λ b. both (st a b) (near st N t k b)) x in
          inr (w.0, w.1, both_left (st a w.0) (near st N t k w.0) w.2, both_right (st a w.0) (near st N t k w.0) w.2)

  pub near_mono : (j k a : ℕ) → j ≤ k → T (near st N t j a) → T (near st N t k a)
  near_mono j zero a h n = subst (λ (x : ℕ). T (near st N t x a)) (omega arith) n
  near_mono j (suc k) a h n = go (λ l. near_mono j k a l n) (ℕ_discrete j (suc k))
    where
      go : (j ≤ k → T (near st N t k a)) → Dec (j ≡ suc k) → T (near st N t (suc k) a)
      go rec (yes e) = subst (λ (x : ℕ). T (near st N t x a)) e n
      go rec (no e) = near_keep k a (rec (omega arith))

  -- ---- walks

  pub walk_near : (a : ℕ) (p : List ℕ) → a < N → Walk st N a t p → T (near st N t (length p) a)
  walk_near a [] l e = subst (λ (x : ℕ). T (near st N t 0 x)) (sym e) (near_zero (subst (λ (x : ℕ). x < N) e l))
  walk_near a (b ∷ p) l w = near_step (length p) a b l w.1 (walk_near b p w.0 w.2)

  -- ---- distances

  pub dist_le : (k a : ℕ) → T (near st N t k a) → dist st N t a ≤ k
  unfolding dist
  dist_le k a h = least_le N (λ j. near st N t j a) k h

  pub dist_bound : (a : ℕ) → dist st N t a ≤ N
  unfolding dist
  dist_bound a = least_bound N (λ j. near st N t j a)

  pub dist_near : (a : ℕ) → dist st N t a < N → T (near st N t (dist st N t a) a)
  unfolding dist
  dist_near a h = least_holds N (λ j. near st N t j a) h

  pub dist_step : (a b : ℕ) → a < N → T (st a b) → dist st N t a ≤ suc (dist st N t b)
  dist_step a b l s = go (dec_lt (dist st N t b) N)
    where
      go : Dec (dist st N t b < N) → dist st N t a ≤ suc (dist st N t b)
      go (yes h) = dist_le _ a (near_step _ a b l s (dist_near b h))
      go (no h) = omega (arith, dist_bound a)

  pub dist_in : (a : ℕ) → dist st N t a < N → a < N
  dist_in a h = near_in _ a (dist_near a h)

  pub dist_zero : (a : ℕ) → dist st N t a ≡ 0 → 0 < N → a ≡ t
  dist_zero a e h = near_zero_eq a (subst (λ (x : ℕ). T (near st N t x a)) e (dist_near a (omega arith)))

  pub dist_target : t < N → dist st N t t ≡ 0
  dist_target h = omega (arith, dist_le 0 t (near_zero h))

  pub dist_down : (k a : ℕ) → dist st N t a ≡ suc k → suc k < N → (b : ℕ) × (b < N) × T (st a b) × (dist st N t b ≡ k)
  dist_down k a e h = go (near_cases k a here)
    where
      here : T (near st N t (suc k) a)
      here = subst (λ (x : ℕ). T (near st N t x a)) e (dist_near a (omega arith))

      go : T (near st N t k a) ⊎ ((b : ℕ) × (b < N) × T (st a b) × T (near st N t k b)) → (b : ℕ) × (b < N) × T (st a b) × (dist st N t b ≡ k)
      go (inl x) = let c : dist st N t a ≤ k = dist_le k a x in absurd (omega arith)
      go (inr w) =
          let c = dist_le k w.0 w.3 in
          let d = dist_step a w.0 (near_in (suc k) a here) w.2 in
          (w.0, w.1, w.2, omega arith)

  -- a node at distance k has a node at each smaller distance: at least k + 1 nodes are no further than k
  crowd : (k a : ℕ) → dist st N t a ≡ k → k < N → suc k ≤ sum N (λ x. gate (leb (dist st N t x) k) 1)
  crowd zero a e h =
      let q : gate (leb (dist st N t a) 0) 1 ≡ 1 = leb_on (dist st N t a) 0 (omega arith) in
      omega (arith, sum_term N (λ x. gate (leb (dist st N t x) 0) 1) a (dist_in a (omega arith)))
  crowd (suc k) a e h =
      let w = dist_down k a e h in
      let r : suc k ≤ sum N (λ x. gate (leb (dist st N t x) k) 1) = crowd k w.0 w.3 (omega arith) in
      let off : gate (leb (dist st N t a) k) 1 ≡ 0 = leb_off (dist st N t a) k (omega arith) in
      let on : gate (leb (dist st N t a) (suc k)) 1 ≡ 1 = leb_on (dist st N t a) (suc k) (omega arith) in
      let more : sum N (λ x. gate (leb (dist st N t x) k) 1) < sum N (λ x. gate (leb (dist st N t x) (suc k)) 1)
      = sum_strict N (λ x. gate (leb (dist st N t x) k) 1) (λ x. gate (leb (dist st N t x) (suc k)) 1) a (dist_in a (omega arith)) (λ x l. grows x) (omega arith) in
      omega arith
    where
      grows : (x : ℕ) → gate (leb (dist st N t x) k) 1 ≤ gate (leb (dist st N t x) (suc k)) 1
      grows x = go (dec_lt k (dist st N t x))
        where
          go : Dec (k < dist st N t x) → gate (leb (dist st N t x) k) 1 ≤ gate (leb (dist st N t x) (suc k)) 1
          go (yes l) = omega (arith, leb_off (dist st N t x) k l)
          go (no l) = omega (arith, leb_on (dist st N t x) (suc k) (omega arith), gate_le (leb (dist st N t x) k) 1)

  -- so a step back from a node that is reached leads to a node that is reached
  pub dist_closed : (a b : ℕ) → a < N → T (st a b) → dist st N t b < N → dist st N t a < N
  dist_closed a b l s h = go (dec_lt (dist st N t a) N)
    where
      go : Dec (dist st N t a < N) → dist st N t a < N
      go (yes x) = x
      go (no x) =
          let d = dist_step a b l s in
          let c : suc (dist st N t b) ≤ sum N (λ x. gate (leb (dist st N t x) (dist st N t b)) 1) = crowd (dist st N t b) b refl h in
          let off : gate (leb (dist st N t a) (dist st N t b)) 1 ≡ 0 = leb_off (dist st N t a) (dist st N t b) (omega arith) in
          let few : sum N (λ x. gate (leb (dist st N t x) (dist st N t b)) 1) < sum N (λ x. 1)
          = sum_strict N (λ x. gate (leb (dist st N t x) (dist st N t b)) 1) (λ x. 1) a l (λ x m. gate_le (leb (dist st N t x) (dist st N t b)) 1) (omega arith) in
          omega (arith, sum_const N 1)

  pub walk_dist : (a : ℕ) (p : List ℕ) → a < N → Walk st N a t p → dist st N t a < N
  walk_dist a [] l e = omega (arith, ap (λ (x : ℕ). dist st N t x) e, dist_target (subst (λ (x : ℕ). x < N) e l))
  walk_dist a (b ∷ p) l w = dist_closed a b l w.1 (walk_dist b p w.0 w.2)

  pub walk_long : (a : ℕ) (p : List ℕ) → a < N → Walk st N a t p → dist st N t a ≤ length p
  walk_long a p l w = dist_le (length p) a (walk_near a p l w)

  pub dist_walk : (k a : ℕ) → dist st N t a ≡ k → k < N → (p : List ℕ) × Walk st N a t p
  dist_walk zero a e h = ([], dist_zero a e h)
  dist_walk (suc k) a e h =
      let w = dist_down k a e h in
      let r = dist_walk k w.0 w.3 (omega arith) in
      (w.0 ∷ r.0, (w.1, w.2, r.1))
