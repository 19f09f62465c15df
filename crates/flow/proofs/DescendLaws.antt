-- The way down the levels: its invariant, and one law for each way through the loop.
-- Assumes nothing.
--
--   Descending            the first places of the queue lead from the source down to level k, each to the lowest node of its level that a step leads to
--   descend_start         at the source
--   descend_below         where the sink is not reached there is a level below
--   descend_on            one level down
--   descend_back, descend_turn
--                         a node that leads nowhere leaves its level, one level up, where the nodes are on the other side
--   descend_less          the levels have then fallen by more than the way has
--   descend_some, descend_found
--                         the sink is reached, by one step or more: the way is the path that a round takes
use mathlib.Core.Path.{◌≡◌, refl, sym, ap, ◌∙◌, subst}
use mathlib.Core.Logic.{◌⊎◌, inl, inr, ◌≢◌}
use mathlib.Core.List.{List, [], ◌∷◌, ◌++◌}
use Prim.Native.Nat.{ℕ, zero, suc, ◌+◌, ◌-◌, ◌*◌, ◌/◌, ◌%◌, ◌^◌, ◌<◌, ◌≤◌, zero-le, suc-le-suc}
use native.Mathlib.Decide.{ℕ_discrete, dec_lt}
use native.Mathlib.Omega.{arith}
use lib.Bits.{bit_and, bit_xor, and_le_r}
use lib.Count.{count_trailing_zeros}
use lib.Dec.{T}
use lib.ListN.{length, set, length-set}
use lib.Seq.{get_or-set_same, get_or-set_other}
use Rattle.bits.specs.Mask.{Has}
use Rattle.bits.proofs.Lowest.{trailing_has, trailing_least}
use Rattle.bits.proofs.Masks.{has_and, and_has, has_xor, xor_has, has_pow_cases, xor_falls}
use Rattle.bits.proofs.Rest.{rest_end}
use Rattle.sums.specs.Sum.{sum}
use Rattle.sums.proofs.SumLaws.{sum_strict}
use Rattle.walks.specs.Walk.{Walk}
use Rattle.network.specs.Rooms.{step}
use Rattle.network.specs.Paths.{Before, Taken}
use Rattle.search.specs.Masks.{at, masked}
use Rattle.search.specs.Sought.{Ready, Leads}
use Rattle.search.specs.Sought.Leads.{source, onward}
use Rattle.search.proofs.MaskSteps.{step_parts, step_made}
use Rattle.flow.specs.Levels.{Levels, Descendable, Descended}
use Rattle.flow.proofs.LastingLaws.{walk_climb, walk_rise}

pub record Descending (S : List ℕ) (s t : ℕ) (L qs ps : List ℕ) (k a : ℕ) : Type 0 where
  pub levels : Levels S s t L
  pub ready : Ready s t qs ps
  pub start : at qs 0 ≡ s
  pub here : at qs k ≡ a
  pub within : k ≤ levels.depth
  pub inside : (i : ℕ) → i ≤ k → at qs i < 128
  pub sides : (i : ℕ) → i ≤ k → (s + i + at qs i) % 2 ≡ 0
  pub ranks : (i : ℕ) → i ≤ k → levels.rank (at qs i) ≡ i
  pub there : (i : ℕ) → 0 < i → i ≤ k → Has (at L i) (at qs i / 2)
  pub along : (i : ℕ) → i < k → T (step (masked S) (at qs i) (at qs (suc i)))
  pub least : (i b : ℕ) → i < k → b < 128 → T (step (masked S) (at qs i) b) → Has (at L (suc i)) (b / 2) → at qs (suc i) ≤ b
  pub up : (i : ℕ) → i < k → at ps (suc i) ≡ i

pub descend_start : (S : List ℕ) (s t : ℕ) (L qs ps : List ℕ) → Descendable S s t L qs ps → Descending S s t L (set qs 0 s) ps 0 s
descend_start S s t L qs ps D = record {
  levels = D.levels;
  ready = record { source = D.ready.source; sink = D.ready.sink; apart = D.ready.apart; queue = length-set qs 0 s ∙ D.ready.queue; parent = D.ready.parent };
  start = first;
  here = first;
  within = zero-le;
  inside = λ i l. omega (arith, alone i l, D.ready.source);
  sides = λ i l. omega (arith, alone i l);
  ranks = λ i l. ap D.levels.rank (alone i l) ∙ (let z = D.levels.source in omega arith);
  there = λ i p l. absurd (omega arith);
  along = λ i l. absurd (omega arith);
  least = λ i b l. absurd (omega arith);
  up = λ i l. absurd (omega arith);
}
  where
    first : at (set qs 0 s) 0 ≡ s
    first = get_or-set_same qs 0 s 0 (omega (arith, D.ready.queue))

    alone : (i : ℕ) → i ≤ 0 → at (set qs 0 s) i ≡ s
    alone i l = ap (at (set qs 0 s)) (omega arith) ∙ first

-- ---- walks to the sink

-- each step changes the side
walk_sides : (S : List ℕ) (t a : ℕ) (p : List ℕ) → Walk (step (masked S)) 128 a t p → (a + length p + t) % 2 ≡ 0
walk_sides S t a [] w = omega (arith, w)
walk_sides S t a (b ∷ p) w = omega (arith, (step_parts S a b w.1).0, walk_sides S t b p w.2)

module _ (S : List ℕ) (s t : ℕ) (L : List ℕ) (W : Levels S s t L) where
  -- a walk to the sink with just as many steps as levels are left goes through the next level
  levels_next : (a b : ℕ) (p : List ℕ) → a < 128 → Walk (step (masked S)) 128 a t (b ∷ p) → W.rank a + suc (length p) ≡ W.depth → (W.rank b ≡ suc (W.rank a)) × Has (at L (suc (W.rank a))) (b / 2)
  levels_next a b p l w h = (e, subst (λ (z : ℕ). Has (at L z) (b / 2)) e (W.all b p w.0 w.2 (omega (arith, e))))
    where
      e : W.rank b ≡ suc (W.rank a)
      e = walk_rise S t W.rank W.slow a b p l w (h ∙ sym W.sink)

-- ---- the nodes of m places behind place i

abbrev span : List ℕ → ℕ → ℕ → List ℕ
span qs i zero = []
span qs i (suc m) = at qs (suc i) ∷ span qs (suc i) m

span_length : (qs : List ℕ) (i m : ℕ) → length (span qs i m) ≡ m
span_length qs i zero = refl
span_length qs i (suc m) = ap suc (span_length qs (suc i) m)

span_snoc : (qs : List ℕ) (i m : ℕ) → span qs i (suc m) ≡ span qs i m ++ (at qs (suc (i + m)) ∷ [])
span_snoc qs i zero = ap (λ (z : ℕ). at qs (suc z) ∷ []) (let e : i ≡ i + 0 = omega arith in e)
span_snoc qs i (suc m) =
    let e : suc i + m ≡ i + suc m = omega arith in
    ap (λ (p : List ℕ). at qs (suc i) ∷ p) (span_snoc qs (suc i) m ∙ ap (λ (z : ℕ). span qs (suc i) m ++ (at qs (suc z) ∷ [])) e)

-- ---- a turn

module _ (S : List ℕ) (s t : ℕ) (L qs ps : List ℕ) (k a : ℕ) (D : Descending S s t L qs ps k a) where
  abbrev W : Levels S s t L
  W = D.levels

  node : a < 128
  node = subst (λ (z : ℕ). z < 128) D.here (D.inside k (omega arith))

  side : (s + k + a) % 2 ≡ 0
  side = subst (λ (z : ℕ). (s + k + z) % 2 ≡ 0) D.here (D.sides k (omega arith))

  rank : W.rank a ≡ k
  rank = subst (λ (z : ℕ). W.rank z ≡ k) D.here (D.ranks k (omega arith))

  pub descend_node : a < 128
  descend_node = node

  pub descend_below : a ≢ t → k < W.depth
  descend_below ne = go (ℕ_discrete k W.depth)
    where
      go : Dec (k ≡ W.depth) → k < W.depth
      go (no z) = omega (arith, D.within)
      go (yes z) = absurd (ne (W.last a node (subst (λ (d : ℕ). (s + d + a) % 2 ≡ 0) z side)
          (subst (λ (d : ℕ). Has (at L d) (a / 2)) z (subst (λ (b : ℕ). Has (at L k) (b / 2)) D.here (D.there k (omega (arith, W.some)) (omega arith))))))

  -- ---- one level down

  module _ (ne : a ≢ t) (some : bit_and (at S a) (at L (k + 1)) ≢ 0) (other : ℕ) (turn : other ≡ 1 - a % 2) where
    abbrev rest : ℕ
    rest = bit_and (at S a) (at L (k + 1))

    below : k < W.depth
    below = descend_below ne

    small : rest < 2 ^ 64
    small = omega (arith, and_le_r (at S a) (at L (k + 1)), W.small (k + 1) (omega (arith, below)))

    pub descend_low : count_trailing_zeros 64 rest < 64
    descend_low = (trailing_has 64 rest small some).1

    abbrev b : ℕ
    b = 2 * count_trailing_zeros 64 rest + other

    pub descend_to : b < 128
    descend_to = omega (arith, descend_low)

    has : Has (at S a) (b / 2) × Has (at L (k + 1)) (b / 2)
    has = subst (λ (j : ℕ). Has (at S a) j × Has (at L (k + 1)) j) (omega arith) (has_and (at S a) (at L (k + 1)) (count_trailing_zeros 64 rest) (trailing_has 64 rest small some).0)

    pub descend_on : Descending S s t L (set qs (k + 1) b) (set ps (k + 1) k) (k + 1) b
    descend_on = record {
      levels = W;
      ready = record {
        source = D.ready.source;
        sink = D.ready.sink;
        apart = D.ready.apart;
        queue = length-set qs (k + 1) b ∙ D.ready.queue;
        parent = length-set ps (k + 1) k ∙ D.ready.parent;
      };
      start = old 0 zero-le ∙ D.start;
      here = new;
      within = omega (arith, below);
      inside = λ i l. by_place (λ z. z < 128) i l (λ o. D.inside i o) (λ e. descend_to);
      sides = λ i l. by_place (λ z. (s + i + z) % 2 ≡ 0) i l (λ o. D.sides i o) (λ e. omega (arith, side));
      ranks = λ i l. by_place (λ z. W.rank z ≡ i) i l (λ o. D.ranks i o) (λ e. lower ∙ sym e);
      there = λ i p l. by_place (λ z. Has (at L i) (z / 2)) i l (λ o. D.there i p o) (λ e. subst (λ (h : ℕ). Has (at L h) (b / 2)) (sym e) has.1);
      along = λ i l. along i l (ℕ_discrete i k);
      least = λ i c l lc st h. least i c l lc st h (ℕ_discrete i k);
      up = λ i l. up i l (ℕ_discrete i k);
    }
      where
        new : at (set qs (k + 1) b) (k + 1) ≡ b
        new = get_or-set_same qs (k + 1) b 0 (omega (arith, below, W.deep, D.ready.queue))

        old : (i : ℕ) → i ≤ k → at (set qs (k + 1) b) i ≡ at qs i
        old i l = get_or-set_other qs (k + 1) i b 0 (λ e. omega arith)

        by_place : (P : ℕ → Type 0) (i : ℕ) → i ≤ k + 1 → (i ≤ k → P (at qs i)) → (i ≡ k + 1 → P b) → P (at (set qs (k + 1) b) i)
        by_place P i l f g = go (dec_lt k i)
          where
            go : Dec (k < i) → P (at (set qs (k + 1) b) i)
            go (no z) = subst P (sym (old i (omega arith))) (f (omega arith))
            go (yes z) = let e : i ≡ k + 1 = omega arith in subst P (sym (ap (at (set qs (k + 1) b)) e ∙ new)) (g e)

        st : T (step (masked S) a b)
        st = step_made S a b (omega arith) has.0

        lower : W.rank b ≡ k + 1
        lower = W.only b (k + 1) descend_to (omega (arith, below)) (omega (arith, side)) has.1

        from : (i : ℕ) → i ≡ k → at (set qs (k + 1) b) i ≡ a
        from i e = old i (omega arith) ∙ ap (at qs) e ∙ D.here

        to : (i : ℕ) → i ≡ k → at (set qs (k + 1) b) (suc i) ≡ b
        to i e = ap (at (set qs (k + 1) b)) (omega arith) ∙ new

        along : (i : ℕ) → i < k + 1 → Dec (i ≡ k) → T (step (masked S) (at (set qs (k + 1) b) i) (at (set qs (k + 1) b) (suc i)))
        along i l (yes e) = rw (from i e, to i e) st
        along i l (no e) = rw (old i (omega arith), old (suc i) (omega arith)) (D.along i (omega arith))

        least : (i c : ℕ) → i < k + 1 → c < 128 → T (step (masked S) (at (set qs (k + 1) b) i) c) → Has (at L (suc i)) (c / 2) → Dec (i ≡ k) → at (set qs (k + 1) b) (suc i) ≤ c
        least i c l lc w h (yes e) =
            let q = step_parts S a c (subst (λ (z : ℕ). T (step (masked S) z c)) (from i e) w) in
            let m = trailing_least 64 rest (c / 2) (and_has (at S a) (at L (k + 1)) (c / 2) q.1 (subst (λ (z : ℕ). Has (at L z) (c / 2)) (omega arith) h)) in
            omega (arith, to i e, q.0, m)
        least i c l lc w h (no e) =
            omega (arith, old (suc i) (omega arith), D.least i c (omega arith) lc (subst (λ (z : ℕ). T (step (masked S) z c)) (old i (omega arith)) w) h)

        up : (i : ℕ) → i < k + 1 → Dec (i ≡ k) → at (set ps (k + 1) k) (suc i) ≡ i
        up i l (yes e) = ap (at (set ps (k + 1) k)) (omega arith) ∙ get_or-set_same ps (k + 1) k 0 (omega (arith, below, W.deep, D.ready.parent)) ∙ sym e
        up i l (no e) = get_or-set_other ps (k + 1) (suc i) k 0 (λ z. omega arith) ∙ D.up i (omega arith)

  -- ---- one level up

  module _ (ne : a ≢ t) (none : bit_and (at S a) (at L (k + 1)) ≡ 0) where
    -- no walk of the length that is left leads on
    stuck : (p : List ℕ) → Walk (step (masked S)) 128 a t p → W.rank a + length p ≢ W.depth
    stuck [] w h = ne w
    stuck (c ∷ p) w h =
        let n = levels_next S s t L W a c p node w h in
        let q = step_parts S a c w.1 in
        rest_end (bit_and (at S a) (at L (k + 1))) (c / 2) none (and_has (at S a) (at L (k + 1)) (c / 2) q.1 (subst (λ (z : ℕ). Has (at L z) (c / 2)) (omega (arith, rank)) n.1))

    module _ (pos : k ≢ 0) where
      abbrev L' : List ℕ
      L' = set L k (bit_xor (at L k) (2 ^ (a / 2)))

      new : at L' k ≡ bit_xor (at L k) (2 ^ (a / 2))
      new = get_or-set_same L k (bit_xor (at L k) (2 ^ (a / 2))) 0 (omega (arith, D.within, W.deep, W.size))

      old : (i : ℕ) → i ≢ k → at L' i ≡ at L i
      old i n = get_or-set_other L k i (bit_xor (at L k) (2 ^ (a / 2))) 0 n

      had : Has (at L k) (a / 2)
      had = subst (λ (b : ℕ). Has (at L k) (b / 2)) D.here (D.there k (omega arith) (omega arith))

      less : bit_xor (at L k) (2 ^ (a / 2)) < at L k
      less = xor_falls 64 (at L k) (a / 2) (W.small k D.within) (let l = node in omega arith) had

      fewer : (i j : ℕ) → Has (at L' i) j → Has (at L i) j
      fewer i j h = go (ℕ_discrete i k)
        where
          go : Dec (i ≡ k) → Has (at L i) j
          go (no n) = subst (λ (m : ℕ). Has m j) (old i n) h
          go (yes e) = subst (λ (z : ℕ). Has (at L z) j) (sym e)
              (has_xor (at L k) (2 ^ (a / 2)) j (λ p. subst (Has (at L k)) (sym (has_pow_cases (a / 2) j p)) had) (subst (λ (m : ℕ). Has m j) (ap (at L') e ∙ new) h)).0

      -- the levels fall by more than the way does
      pub descend_less : 2 * sum 128 (at L') + (128 - (k - 1)) < 2 * sum 128 (at L) + (128 - k)
      descend_less = omega (arith, sum_strict 128 (at L') (at L) k (omega (arith, D.within, W.deep)) (λ i l. most i (ℕ_discrete i k)) (omega (arith, new, less)))
        where
          most : (i : ℕ) → Dec (i ≡ k) → at L' i ≤ at L i
          most i (no n) = omega (arith, old i n)
          most i (yes e) = omega (arith, ap (at L') e, ap (at L) e, new, less)

      levels : Levels S s t L'
      levels = record {
        size = length-set L k (bit_xor (at L k) (2 ^ (a / 2))) ∙ W.size;
        depth = W.depth;
        rank = W.rank;
        some = W.some;
        deep = W.deep;
        small = λ i l. small i l (ℕ_discrete i k);
        source = W.source;
        sink = W.sink;
        sides = W.sides;
        slow = W.slow;
        only = λ c i lc l o h. W.only c i lc l o (fewer i (c / 2) h);
        all = λ c p l w h. all c p l w h (ℕ_discrete (W.rank c) k);
        last = λ c l o h. W.last c l o (fewer W.depth (c / 2) h);
      }
        where
          small : (i : ℕ) → i ≤ W.depth → Dec (i ≡ k) → at L' i < 2 ^ 64
          small i l (no n) = omega (arith, old i n, W.small i l)
          small i l (yes e) = omega (arith, ap (at L') e, new, less, W.small k D.within)

          all : (c : ℕ) (p : List ℕ) → c < 128 → Walk (step (masked S)) 128 c t p → W.rank c + length p ≡ W.depth → Dec (W.rank c ≡ k) → Has (at L' (W.rank c)) (c / 2)
          all c p l w h (no n) = subst (λ (m : ℕ). Has m (c / 2)) (sym (old (W.rank c) n)) (W.all c p l w h)
          all c p l w h (yes e) = subst (λ (m : ℕ). Has m (c / 2)) (sym (ap (at L') e ∙ new))
              (xor_has (at L k) (2 ^ (a / 2)) (c / 2) (subst (λ (z : ℕ). Has (at L z) (c / 2)) e (W.all c p l w h)) (λ g. other (has_pow_cases (a / 2) (c / 2) g)))
            where
              other : c / 2 ≡ a / 2 → ⊥
              other q = let z : c ≡ a = omega (arith, q, side, W.sides, walk_sides S t c p w) in stuck p (subst (λ (x : ℕ). Walk (step (masked S)) 128 x t p) z w) (omega (arith, h, e, rank))

      -- the node one level up is on the other side
      pub descend_turn : at qs (k - 1) % 2 ≡ 1 - a % 2
      descend_turn = omega (arith, side, D.sides (k - 1) (omega arith))

      pub descend_back : Descending S s t L' qs ps (k - 1) (at qs (k - 1))
      unfolding levels
      descend_back = record {
        levels = levels;
        ready = D.ready;
        start = D.start;
        here = refl;
        within = omega (arith, D.within);
        inside = λ i l. D.inside i (omega arith);
        sides = λ i l. D.sides i (omega arith);
        ranks = λ i l. D.ranks i (omega arith);
        there = λ i p l. subst (λ (m : ℕ). Has m (at qs i / 2)) (sym (old i (λ e. omega arith))) (D.there i p (omega arith));
        along = λ i l. D.along i (omega arith);
        least = λ i c l lc w h. D.least i c (omega arith) lc w (fewer (suc i) (c / 2) h);
        up = λ i l. D.up i (omega arith);
      }

  -- ---- the sink is reached

  module _ (goal : a ≡ t) where
    far : k ≡ W.depth
    far = sym rank ∙ ap W.rank goal ∙ W.sink

    span_leads : (i : ℕ) → i ≤ k → Leads qs ps i (span qs 0 i)
    span_leads zero l = source
    span_leads (suc i) l = subst (Leads qs ps (suc i)) (sym (span_snoc qs 0 i))
        (subst (λ (z : ℕ). Leads qs ps (suc i) (span qs 0 i ++ (at qs (suc z) ∷ []))) e
        (onward (suc-le-suc zero-le) (omega (arith, D.up i l)) (subst (λ (z : ℕ). Leads qs ps z (span qs 0 i)) (sym (D.up i l)) (span_leads i (omega arith)))))
      where
        e : i ≡ 0 + i
        e = omega arith

    span_walk : (i m : ℕ) → i + m ≡ k → Walk (step (masked S)) 128 (at qs i) t (span qs i m)
    span_walk i zero e = ap (at qs) (omega arith) ∙ D.here ∙ goal
    span_walk i (suc m) e = (D.inside (suc i) (omega arith), D.along i (omega arith), span_walk (suc i) m (omega arith))

    span_first : (i m : ℕ) → i + m ≡ k → (q : List ℕ) → Walk (step (masked S)) 128 (at qs i) t q → length q ≡ m → Before (span qs i m) q
    span_first i zero e q w h = tt
    span_first i (suc m) e [] w h = absurd (omega arith)
    span_first i (suc m) e (c ∷ q) w h = go (ℕ_discrete (at qs (suc i)) c) (λ v. span_first (suc i) m (omega arith) q v (omega arith))
      where
        r : W.rank (at qs i) ≡ i
        r = D.ranks i (omega arith)

        n : (W.rank c ≡ suc (W.rank (at qs i))) × Has (at L (suc (W.rank (at qs i)))) (c / 2)
        n = levels_next S s t L W (at qs i) c q (D.inside i (omega arith)) w (omega (arith, r, far))

        low : at qs (suc i) ≤ c
        low = D.least i c (omega arith) w.0 w.1 (subst (λ (z : ℕ). Has (at L (suc z)) (c / 2)) r n.1)

        go : Dec (at qs (suc i) ≡ c) → (Walk (step (masked S)) 128 (at qs (suc i)) t q → Before (span qs (suc i) m) q) → (at qs (suc i) < c) ⊎ ((at qs (suc i) ≡ c) × Before (span qs (suc i) m) q)
        go (yes z) rec = inr (z, rec (subst (λ (x : ℕ). Walk (step (masked S)) 128 x t q) (sym z) w.2))
        go (no z) rec = inl (omega (arith, low))

    taken : Taken (masked S) 128 s t (span qs 0 k)
    taken = record {
      walk = subst (λ (x : ℕ). Walk (step (masked S)) 128 x t (span qs 0 k)) D.start (span_walk 0 k (omega arith));
      shortest = λ q w. omega (arith, span_length qs 0 k, far, walk_climb S t W.rank W.slow s q D.ready.source w, W.source, W.sink);
      first = λ q w h. span_first 0 k (omega arith) q (subst (λ (x : ℕ). Walk (step (masked S)) 128 x t q) (sym D.start) w) (h ∙ span_length qs 0 k);
    }

    pub descend_some : 0 < k
    descend_some = omega (arith, far, W.some)

    pub descend_found : Descended S s t L qs ps k
    descend_found = record {
      queue = D.ready.queue;
      parent = D.ready.parent;
      place = omega (arith, D.within, W.deep);
      levels = W;
      found = λ n. record {
        levels = W;
        path = record { start = D.start; nodes = span qs 0 k; leads = span_leads k (omega arith); taken = taken };
        even = span_length qs 0 k ∙ far;
      };
    }
