-- A search in breadth from the source s that scans the neighbours of each node met in rising order, and ends at once when the sink t is met
-- (document 01: "the search ends at once when T's in-node is met"): the path back along its parents is the one that a round takes.
-- Q i is the node met as the i-th, from 0; P i is the place of the node from which it was met; e is the place of the sink. st tests the steps.
-- Assumes nothing.
--
--   Found st N s t e Q P    what such a search has when it ends at the sink
--   found_met               so it is where the sink is the last node met
--   Chain P e i cs          cs has the places after i, each the parent of the next, down to e
--   chain_taken             the nodes of a chain from place 0 are the path that a round takes
use mathlib.Core.Path.{◌≡◌, sym, ap, ◌∙◌, subst}
use mathlib.Core.Logic.{◌⊎◌, inl, inr, ◌≢◌}
use mathlib.Core.Bool.{Bool}
use mathlib.Core.List.{List, [], ◌∷◌, map}
use Prim.Native.Nat.{ℕ, suc, ◌≤◌, ◌<◌, zero-le, suc-le-suc}
use native.Mathlib.Nat.{le_refl}
use native.Mathlib.Decide.{ℕ_discrete, dec_lt}
use native.Mathlib.Omega.{arith}
use lib.Dec.{T}
use lib.ListN.{length}
use Rattle.std.proofs.lemmas.List.{length-map}
use Rattle.walks.specs.Walk.{Walk}
use Rattle.network.specs.Rooms.{Room, step}
use Rattle.network.specs.Paths.{Before, Taken}
use Rattle.search.specs.Sought.{Met}

-- what the search has when it ends at the sink
pub record Found (st : ℕ → ℕ → Bool) (N s t e : ℕ) (Q P : ℕ → ℕ) : Type 0 where
  pub start : Q 0 ≡ s
  pub goal : Q e ≡ t
  pub only : (k : ℕ) → k ≤ e → Q k ≡ t → k ≡ e
  pub inside : (k : ℕ) → k ≤ e → Q k < N
  pub parent : (i : ℕ) → 0 < i → i ≤ e → P i < i
  pub along : (i : ℕ) → 0 < i → i ≤ e → T (st (Q (P i)) (Q i))
  -- found in the order of the parents' places, and from one parent in the order of the node numbers
  pub order : (i j : ℕ) → 0 < i → i < j → j ≤ e → (P i < P j) ⊎ ((P i ≡ P j) × (Q i < Q j))
  -- the nodes scanned before the one from which the sink was found: each neighbour is found, from that node or an earlier one
  pub complete : (j y : ℕ) → j < P e → y < N → T (st (Q j) y) → (k : ℕ) × (k ≤ e) × (Q k ≡ y) × ((k ≡ 0) ⊎ (P k ≤ j))

pub found_met : (st : ℕ → ℕ → Bool) (N s t e : ℕ) (Q P : ℕ → ℕ) → 0 < e → Met st N s (suc e) (P e) t Q P → Q e ≡ t → ((k : ℕ) → k < e → Q k ≢ t) → Found st N s t e Q P
found_met st N s t e Q P pos M g other = record {
  start = M.start;
  goal = g;
  only = λ k l q. by k l q (ℕ_discrete k e);
  inside = λ k l. M.inside k (omega arith);
  parent = λ i p l. M.parent i p (omega arith);
  along = λ i p l. M.along i p (omega arith);
  order = λ i j p l q. M.order i j p l (omega arith);
  complete = λ j y l ly w. let f = M.complete j y (omega (arith, M.parent e pos (le_refl (suc e)))) (inl l) ly w in (f.0, omega (arith, f.1), f.2, f.3);
}
  where
    by : (k : ℕ) → k ≤ e → Q k ≡ t → Dec (k ≡ e) → k ≡ e
    by k l q (yes z) = z
    by k l q (no z) = absurd (other k (omega arith) q)

-- the places from i to e, each the parent of the next
abbrev pub Chain : (ℕ → ℕ) → ℕ → ℕ → List ℕ → Type 0
Chain P e i [] = i ≡ e
Chain P e i (j ∷ cs) = (P j ≡ i) × (0 < j) × (j ≤ e) × Chain P e j cs

module _ (st : ℕ → ℕ → Bool) (N s t e : ℕ) (Q P : ℕ → ℕ) (F : Found st N s t e Q P) where
  earlier : (k j : ℕ) → 0 < j → j ≤ e → k ≤ e → P k < P j → k < j
  earlier k j pj le lk h = go (dec_lt k j) (ℕ_discrete k j)
    where
      go : Dec (k < j) → Dec (k ≡ j) → k < j
      go (yes l) q = l
      go (no l) (yes q) = absurd (omega (arith, ap P q))
      go (no l) (no q) = by (F.order j k pj (omega arith) lk)
        where
          by : (P j < P k) ⊎ ((P j ≡ P k) × (Q j < Q k)) → k < j
          by (inl x) = absurd (omega arith)
          by (inr x) = absurd (omega (arith, x.0))

  sibling : (k j : ℕ) → 0 < j → j ≤ e → k ≤ e → P k ≡ P j → Q k < Q j → k < j
  sibling k j pj le lk h g = go (dec_lt k j) (ℕ_discrete k j)
    where
      go : Dec (k < j) → Dec (k ≡ j) → k < j
      go (yes l) q = l
      go (no l) (yes q) = absurd (omega (arith, ap Q q))
      go (no l) (no q) = by (F.order j k pj (omega arith) lk)
        where
          by : (P j < P k) ⊎ ((P j ≡ P k) × (Q j < Q k)) → k < j
          by (inl x) = absurd (omega arith)
          by (inr x) = absurd (omega (arith, x.1))

  -- a parent's place is at most that of the sink's parent
  to_last : (j : ℕ) → 0 < j → j ≤ e → P j ≤ P e
  to_last j p l = go (ℕ_discrete j e)
    where
      go : Dec (j ≡ e) → P j ≤ P e
      go (yes q) = omega (arith, ap P q)
      go (no q) = by (F.order j e p (omega arith) (le_refl e))
        where
          by : (P j < P e) ⊎ ((P j ≡ P e) × (Q j < Q e)) → P j ≤ P e
          by (inl x) = omega arith
          by (inr x) = omega (arith, x.0)

  -- from a place before j the sink takes more steps than the chain from j has
  slower : (j : ℕ) (cs : List ℕ) → Chain P e j cs → (k : ℕ) → k < j → j ≤ e → (q : List ℕ) → Walk st N (Q k) t q → length cs < length q
  slower j cs c k h l [] w = absurd (omega (arith, F.only k (omega arith) w))
  slower j [] c k h l (y ∷ q) w = omega arith
  slower j (i ∷ cs) c k h l (y ∷ q) w =
      let m = to_last i c.1 c.2 in
      let f = F.complete k y (omega (arith, m, c.0)) w.0 w.1 in
      let w' : Walk st N (Q f.0) t q = subst (λ (z : ℕ). Walk st N z t q) (sym f.2) w.2 in
      suc-le-suc (slower i cs c.3 f.0 (before f.3 f.1) c.2 q w')
    where
      before : {a : ℕ} → (a ≡ 0) ⊎ (P a ≤ k) → a ≤ e → a < i
      before (inl z) la = omega (arith, c.1)
      before {a} (inr z) la = earlier a i c.1 c.2 la (omega (arith, c.0))

  chain_walk : (i : ℕ) (cs : List ℕ) → Chain P e i cs → Walk st N (Q i) t (map Q cs)
  chain_walk i [] c = ap Q c ∙ F.goal
  chain_walk i (j ∷ cs) c = (F.inside j c.2, subst (λ (z : ℕ). T (st (Q z) (Q j))) c.0 (F.along j c.1 c.2), chain_walk j cs c.3)

  chain_first : (i : ℕ) (cs : List ℕ) → Chain P e i cs → (q : List ℕ) → Walk st N (Q i) t q → length q ≡ length cs → Before (map Q cs) q
  chain_first i [] c q w h = tt
  chain_first i (j ∷ cs) c [] w h = absurd (omega arith)
  chain_first i (j ∷ cs) c (y ∷ q) w h = go (ℕ_discrete (Q j) y) (dec_lt (Q j) y) (λ g. chain_first j cs c.3 q g (omega arith))
    where
      m : P j ≤ P e
      m = to_last j c.1 c.2

      less : y < Q j → Dec (i < P e) → ⊥
      less g (yes l) =
          let f = F.complete i y l w.0 w.1 in
          let w' : Walk st N (Q f.0) t q = subst (λ (z : ℕ). Walk st N z t q) (sym f.2) w.2 in
          omega (arith, slower j cs c.3 f.0 (before f.0 f.3 f.1 f.2) c.2 q w')
        where
          before : (a : ℕ) → (a ≡ 0) ⊎ (P a ≤ i) → a ≤ e → Q a ≡ y → a < j
          before a (inl z) la u = omega (arith, c.1)
          before a (inr z) la u = by (ℕ_discrete (P a) (P j))
            where
              by : Dec (P a ≡ P j) → a < j
              by (yes v) = sibling a j c.1 c.2 la v (omega arith)
              by (no v) = earlier a j c.1 c.2 la (omega (arith, c.0))
      less g (no l) = last cs c.3 q w.2 h
        where
          last : (cs : List ℕ) → Chain P e j cs → (q : List ℕ) → Walk st N y t q → suc (length q) ≡ suc (length cs) → ⊥
          last [] d [] v r = omega (arith, v, F.goal, ap Q d)
          last [] d (z ∷ q) v r = omega arith
          last (a ∷ cs) d q v r = omega (arith, to_last a d.1 d.2, d.0, c.0, F.parent j c.1 c.2)

      go : Dec (Q j ≡ y) → Dec (Q j < y) → (Walk st N (Q j) t q → Before (map Q cs) q) → (Q j < y) ⊎ ((Q j ≡ y) × Before (map Q cs) q)
      go (yes g) l rec = inr (g, rec (subst (λ (z : ℕ). Walk st N z t q) (sym g) w.2))
      go (no g) (yes l) rec = inl l
      go (no g) (no l) rec = absurd (less (omega arith) (dec_lt i (P e)))

  -- THE SEARCH FINDS THE ROUND'S PATH
  pub chain_shortest : (cs : List ℕ) → Chain P e 0 cs → (q : List ℕ) → Walk st N s t q → length (map Q cs) ≤ length q
  chain_shortest cs c q w = omega (arith, length-map cs Q, go cs c)
    where
      w' : Walk st N (Q 0) t q
      w' = subst (λ (z : ℕ). Walk st N z t q) (sym F.start) w

      go : (cs : List ℕ) → Chain P e 0 cs → length cs ≤ length q
      go [] c = zero-le
      go (j ∷ cs) c = slower j cs c.3 0 c.1 c.2 q w'

pub chain_taken : (r : Room) (N s t e : ℕ) (Q P : ℕ → ℕ) → Found (step r) N s t e Q P → (cs : List ℕ) → Chain P e 0 cs → Taken r N s t (map Q cs)
chain_taken r N s t e Q P F cs c = record {
  walk = subst (λ (z : ℕ). Walk (step r) N z t (map Q cs)) F.start (chain_walk (step r) N s t e Q P F 0 cs c);
  shortest = λ q w. chain_shortest (step r) N s t e Q P F cs c q w;
  first = λ q w h. chain_first (step r) N s t e Q P F 0 cs c q (subst (λ (z : ℕ). Walk (step r) N z t q) (sym F.start) w)
      (h ∙ length-map cs Q);
}
