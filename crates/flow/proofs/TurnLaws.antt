-- The levels of a queue that a search has left: place by place they are the turns of its sides, and `layer` leaves masks of them.
-- qs has the nodes in the order in which they were met, ps for each the place of the node from which it was met; the search ended at the sink, at place e.
-- Assumes nothing.
--
--   turn_layerable   such a queue is what `layer` is given
--   turn_descent     what `layer` leaves has the levels, and the search's path is of their length
use mathlib.Core.Path.{◌≡◌, refl, sym, ap, ◌∙◌, subst}
use mathlib.Core.Logic.{◌⊎◌, inl, inr, ◌≢◌}
use mathlib.Core.List.{List, [], ◌∷◌}
use Prim.Native.Nat.{ℕ, zero, suc, ◌+◌, ◌/◌, ◌%◌, ◌^◌, ◌<◌, ◌≤◌, zero-le}
use native.Mathlib.Nat.{le_refl}
use native.Mathlib.Decide.{ℕ_discrete, dec_lt}
use native.Mathlib.Omega.{arith}
use lib.Dec.{T}
use lib.ListN.{length, length-append}
use Rattle.bits.specs.Mask.{Has}
use Rattle.bits.proofs.Digits.{bit_pow_same}
use Rattle.bits.proofs.Masks.{has_pow_cases}
use Rattle.walks.specs.Walk.{Walk}
use Rattle.network.specs.Rooms.{step}
use Rattle.search.specs.Masks.{at, masked}
use Rattle.search.specs.Sought.{Leads, Met, Sought}
use Rattle.search.specs.Sought.Leads.{source, onward}
use Rattle.search.proofs.MaskSteps.{step_parts}
use Rattle.flow.specs.Levels.{turns, Layerable, Layered, Levels, Descent}
use Rattle.flow.proofs.LayerLaws.{turns_first, turns_next, turns_le, turns_mono}

-- the number of turns says on which side a place's node is
turns_side : (qs : List ℕ) (i : ℕ) → (at qs 0 + turns qs i + at qs i) % 2 ≡ 0
turns_side qs zero = omega (arith, turns_first qs)
turns_side qs (suc i) = omega (arith, turns_next qs i, turns_side qs i)

-- ---- the place of a node

abbrev choose : {A : Type 0} → Dec A → ℕ → ℕ → ℕ
choose (yes a) x y = x
choose (no n) x y = y

-- v has a place below m, and r turns lead there
abbrev Placed : List ℕ → ℕ → ℕ → ℕ → Type 0
Placed qs m v r = (i : ℕ) × (i < m) × (at qs i ≡ v) × (r ≡ turns qs i)

-- the turns up to the place of v among the first m places, else d
unfoldable rank_of : List ℕ → ℕ → ℕ → ℕ → ℕ
rank_of qs d zero v = d
rank_of qs d (suc m) v = choose (ℕ_discrete (at qs m) v) (turns qs m) (rank_of qs d m v)

module _ (qs : List ℕ) (d : ℕ) where
  rank_cases : (m v : ℕ) → (rank_of qs d m v ≡ d) ⊎ Placed qs m v (rank_of qs d m v)
  unfolding rank_of
  rank_cases zero v = inl refl
  rank_cases (suc m) v = go (ℕ_discrete (at qs m) v) (rank_cases m v)
    where
      go : (w : Dec (at qs m ≡ v)) → (rank_of qs d m v ≡ d) ⊎ Placed qs m v (rank_of qs d m v)
          → (choose w (turns qs m) (rank_of qs d m v) ≡ d) ⊎ Placed qs (suc m) v (choose w (turns qs m) (rank_of qs d m v))
      go (yes z) r = inr (m, le_refl (suc m), z, refl)
      go (no z) (inl r) = inl r
      go (no z) (inr r) = inr (r.0, omega (arith, r.1), r.2, r.3)

  rank_place : (m i : ℕ) → ((h j : ℕ) → h < j → j < m → at qs h ≢ at qs j) → i < m → rank_of qs d m (at qs i) ≡ turns qs i
  unfolding rank_of
  rank_place zero i apart l = absurd (omega arith)
  rank_place (suc m) i apart l = go (ℕ_discrete (at qs m) (at qs i)) (ℕ_discrete i m) (rank_place m i (λ h j p q. apart h j p (omega arith)))
    where
      go : (w : Dec (at qs m ≡ at qs i)) → Dec (i ≡ m) → (i < m → rank_of qs d m (at qs i) ≡ turns qs i) → choose w (turns qs m) (rank_of qs d m (at qs i)) ≡ turns qs i
      go (yes z) (yes q) rec = ap (turns qs) (sym q)
      go (yes z) (no q) rec = absurd (apart i m (omega arith) (le_refl (suc m)) (sym z))
      go (no z) (yes q) rec = absurd (z (ap (at qs) (sym q)))
      go (no z) (no q) rec = rec (omega arith)

-- ---- the search's queue

module _ (S : List ℕ) (s t : ℕ) (qs ps : List ℕ) (e : ℕ) (M : Met (step (masked S)) 128 s (suc e) (at ps e) t (at qs) (at ps)) where
  -- the parent's place of a later place is no earlier one
  parents : (i : ℕ) → 0 < i → i < e → at ps i ≤ at ps (suc i)
  parents i p l = go (M.order i (suc i) p (le_refl (suc i)) (omega arith))
    where
      go : (at ps i < at ps (suc i)) ⊎ ((at ps i ≡ at ps (suc i)) × (at qs i < at qs (suc i))) → at ps i ≤ at ps (suc i)
      go (inl x) = omega arith
      go (inr x) = omega (arith, x.0)

  -- a place has one turn more than its parent's
  turns_up : (i : ℕ) → 0 < i → i ≤ e → turns qs i ≡ suc (turns qs (at ps i))
  turns_up zero p l = absurd (omega arith)
  turns_up (suc i) p l = omega (
    arith,
    turns_next qs i,
    turns_side qs (suc i),
    turns_side qs (at ps (suc i)),
    (step_parts S (at qs (at ps (suc i))) (at qs (suc i)) (M.along (suc i) p (omega arith))).0,
    turns_mono qs (at ps (suc i)) i (omega (arith, M.parent (suc i) p (omega arith))),
    low (ℕ_discrete i 0) (turns_up i),
  )
    where
      low : Dec (i ≡ 0) → (0 < i → i ≤ e → turns qs i ≡ suc (turns qs (at ps i))) → turns qs i ≤ suc (turns qs (at ps (suc i)))
      low (yes z) rec = omega (arith, turns_le qs i)
      low (no z) rec = omega (arith, rec (omega arith) (omega arith), turns_mono qs (at ps i) (at ps (suc i)) (parents i (omega arith) l))

  -- the way up the parents from a place is as long as its turns
  leads_turns : (i : ℕ) (p : List ℕ) → Leads qs ps i p → i ≤ e → length p ≡ turns qs i
  leads_turns i p source l = sym (turns_first qs)
  leads_turns i p (onward {p = q} pos up w) l = omega (arith, length-append q (at qs i ∷ []), leads_turns (at ps i) q w (omega arith), turns_up i pos l)

  -- ---- the levels

  abbrev rank : ℕ → ℕ
  rank = rank_of qs (turns qs e) (suc e)

  rank_at : (i v : ℕ) → i ≤ e → at qs i ≡ v → rank v ≡ turns qs i
  rank_at i v l z = ap rank (sym z) ∙ rank_place qs (turns qs e) (suc e) i M.distinct (omega arith)

  rank_le : (v : ℕ) → rank v ≤ turns qs e
  rank_le v = go (rank_cases qs (turns qs e) (suc e) v)
    where
      go : (rank v ≡ turns qs e) ⊎ Placed qs (suc e) v (rank v) → rank v ≤ turns qs e
      go (inl r) = omega arith
      go (inr r) = omega (arith, r.3, turns_mono qs r.0 e (omega (arith, r.1)))

  -- a node of a level before the last one has a place before e
  rank_below : (v : ℕ) → rank v < turns qs e → Placed qs e v (rank v)
  rank_below v l = go (rank_cases qs (turns qs e) (suc e) v)
    where
      go : (rank v ≡ turns qs e) ⊎ Placed qs (suc e) v (rank v) → Placed qs e v (rank v)
      go (inl r) = absurd (omega arith)
      go (inr r) = by (ℕ_discrete r.0 e)
        where
          by : Dec (r.0 ≡ e) → Placed qs e v (rank v)
          by (yes z) = absurd (omega (arith, r.3, ap (turns qs) z))
          by (no z) = (r.0, omega (arith, r.1), r.2, r.3)

  module _ (some : 0 < e) where
    slow : (a b : ℕ) → b < 128 → T (step (masked S) a b) → rank b ≤ suc (rank a)
    slow a b lb w = go (dec_lt (suc (rank a)) (turns qs e))
      where
        go : Dec (suc (rank a) < turns qs e) → rank b ≤ suc (rank a)
        go (no n) = omega (arith, rank_le b)
        go (yes l) = by (M.complete k.0 b (omega (arith, k.1)) (inl (early (dec_lt k.0 (at ps e)))) lb (subst (λ (z : ℕ). T (step (masked S) z b)) (sym k.2) w))
          where
            k : Placed qs e a (rank a)
            k = rank_below a (omega arith)

            -- its place was scanned
            early : Dec (k.0 < at ps e) → k.0 < at ps e
            early (yes q) = q
            early (no q) = absurd (omega (arith, k.3, turns_up e some (le_refl e), turns_mono qs (at ps e) k.0 (omega arith)))

            by : (h : ℕ) × (h < suc e) × (at qs h ≡ b) × ((h ≡ 0) ⊎ (at ps h ≤ k.0)) → rank b ≤ suc (rank a)
            by f = at_most f.3 (ℕ_discrete f.0 0)
              where
                here : rank b ≡ turns qs f.0
                here = rank_at f.0 b (omega (arith, f.1)) f.2

                at_most : (f.0 ≡ 0) ⊎ (at ps f.0 ≤ k.0) → Dec (f.0 ≡ 0) → rank b ≤ suc (rank a)
                at_most q (yes z) = omega (arith, here, turns_le qs f.0)
                at_most (inl q) (no z) = absurd (z q)
                at_most (inr q) (no z) = omega (arith, here, k.3, turns_up f.0 (omega arith) (omega (arith, f.1)), turns_mono qs (at ps f.0) k.0 q)

    module _ (L : List ℕ) (small : e < 128) (goal : at qs e ≡ t) (Y : Layered qs e L) where
      -- the side says which node of a job it is
      which : (i a : ℕ) → (s + turns qs i + a) % 2 ≡ 0 → at qs i / 2 ≡ a / 2 → at qs i ≡ a
      which i a q j = omega (arith, turns_side qs i, M.start)

      at_last : (a : ℕ) → (s + turns qs e + a) % 2 ≡ 0 → Has (at L (turns qs e)) (a / 2) → at qs e ≡ a
      at_last a q h = which e a q (sym (has_pow_cases (at qs e / 2) (a / 2) (subst (λ (z : ℕ). Has z (a / 2)) Y.last h)))

      only : (a k : ℕ) → k ≤ turns qs e → (s + k + a) % 2 ≡ 0 → Has (at L k) (a / 2) → rank a ≡ k
      only a k l q h = go (ℕ_discrete k (turns qs e))
        where
          go : Dec (k ≡ turns qs e) → rank a ≡ k
          go (yes z) = rank_at e a (le_refl e) (at_last a (omega arith) (subst (λ (x : ℕ). Has (at L x) (a / 2)) z h)) ∙ sym z
          go (no z) =
              let f = Y.only k (a / 2) (omega arith) h in
              rank_at f.0 a (omega (arith, f.1)) (which f.0 a (omega (arith, f.2)) f.3) ∙ f.2

      all : (a : ℕ) (p : List ℕ) → Walk (step (masked S)) 128 a t p → rank a + length p ≡ turns qs e → Has (at L (rank a)) (a / 2)
      all a p w len = go (dec_lt (rank a) (turns qs e))
        where
          end : (p : List ℕ) → Walk (step (masked S)) 128 a t p → length p ≡ 0 → a ≡ t
          end [] w z = w
          end (b ∷ p) w z = absurd (omega arith)

          go : Dec (rank a < turns qs e) → Has (at L (rank a)) (a / 2)
          go (yes l) =
              let k = rank_below a l in
              subst (λ (z : ℕ). Has (at L (rank a)) (z / 2)) k.2 (subst (λ (z : ℕ). Has (at L z) (at qs k.0 / 2)) (sym k.3) (Y.all k.0 k.1 (omega (arith, k.3))))
          go (no l) =
              let top : rank a ≡ turns qs e = omega (arith, rank_le a) in
              let z : at qs e ≡ a = goal ∙ sym (end p w (omega arith)) in
              subst (λ (x : ℕ). Has x (a / 2)) (sym (ap (at L) top ∙ Y.last ∙ ap (λ (x : ℕ). 2 ^ (x / 2)) z)) (bit_pow_same (a / 2))

      levels : Levels S s t L
      levels = record {
        size = Y.size;
        depth = turns qs e;
        rank = rank;
        some = omega (arith, turns_up e some (le_refl e));
        deep = omega (arith, turns_le qs e);
        small = Y.small;
        source = rank_at 0 s zero-le M.start ∙ turns_first qs;
        sink = rank_at e t (le_refl e) goal;
        sides = omega (arith, turns_side qs e, M.start);
        slow = λ a b la lb w. slow a b lb w;
        only = λ a k la l q h. only a k l q h;
        all = λ a p la w len. all a p w len;
        last = λ a la q h. sym (at_last a q h) ∙ goal;
      }

module _ (S : List ℕ) (s t : ℕ) (qs₀ ps₀ qs ps : List ℕ) (e : ℕ) where
  module _ (n : e ≢ 0) (F : Sought S s t qs₀ ps₀ qs ps e) where
    -- the search ended at the sink
    ended : (suc e ≡ F.lists.met) × (at ps e ≡ F.lists.head) × (at qs e ≡ t) × (F.lists.next ≡ t)
    ended = go F.lists.ended
      where
        go : ((e ≡ 0) × (F.lists.head ≡ F.lists.met)) ⊎ ((0 < e) × (suc e ≡ F.lists.met) × (at ps e ≡ F.lists.head) × (at qs e ≡ t) × (F.lists.next ≡ t))
            → (suc e ≡ F.lists.met) × (at ps e ≡ F.lists.head) × (at qs e ≡ t) × (F.lists.next ≡ t)
        go (inl x) = absurd (n x.0)
        go (inr x) = (x.1, x.2, x.3, x.4)

    places : Met (step (masked S)) 128 s (suc e) (at ps e) t (at qs) (at ps)
    places = rw (ended.0, ended.1, sym ended.3) F.lists.places

  pub turn_layerable : (L : List ℕ) → Sought S s t qs₀ ps₀ qs ps e → e ≢ 0 → length L ≡ 128 → Layerable qs e L
  turn_layerable L F n l = record { queue = F.queue; levels = l; place = F.place; nodes = λ i q. (places n F).inside i (omega arith) }

  pub turn_descent : (L : List ℕ) → e ≢ 0 → Sought S s t qs₀ ps₀ qs ps e → Layered qs e L → Descent S s t L qs ps e
  unfolding levels
  turn_descent L n F Y = record {
    levels = levels S s t qs ps e (places n F) (omega arith) L F.place (ended n F).2 Y;
    path = F.found n;
    even = leads_turns S s t qs ps e (places n F) e (F.found n).nodes (F.found n).leads (le_refl e);
  }
