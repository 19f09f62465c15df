-- What a search leaves is settled: the place of the sink, or that there is no path, and both lists, place by place.
-- Assumes nothing.
--
--   met_same         two orders in breadth agree as far as both go
--   sought_unique    two results of a search from the same lists are equal
--   searched_unique  and so are two answers of it
--   trail_unique     two trails before the first search are equal
use mathlib.Core.Path.{◌≡◌, refl, sym, ap, ◌∙◌, subst}
use mathlib.Core.Logic.{◌⊎◌, inl, inr}
use mathlib.Core.Bool.{Bool}
use mathlib.Core.List.{List}
use Prim.Native.Nat.{ℕ, zero, suc, ◌<◌, ◌≤◌}
use native.Mathlib.Nat.{le_refl}
use native.Mathlib.Decide.{ℕ_discrete, dec_lt}
use native.Mathlib.Omega.{arith}
use Rattle.std.specs.Prelude.{replicate}
use Rattle.std.proofs.Common.{Option, None, Some}
use lib.Dec.{T}
use lib.Seq.{ext_get_or}
use Rattle.network.specs.Rooms.{step}
use Rattle.search.specs.Masks.{at, masked}
use Rattle.search.specs.Sought.{Met, Sought}
use Rattle.search.specs.Searched.{Searched}

-- ---- two orders in breadth

module _ (st : ℕ → ℕ → Bool) (N s : ℕ) where
  -- where the places before i agree, the second has no later node at place i than the first
  no_later : (m h y m' h' y' : ℕ) (Q P Q' P' : ℕ → ℕ) → Met st N s m h y Q P → Met st N s m' h' y' Q' P' → (i : ℕ) → 0 < i → i < m → i < m'
      → ((j : ℕ) → j < i → Q j ≡ Q' j) → (P i < P' i) ⊎ ((P i ≡ P' i) × (Q i < Q' i)) → ⊥
  no_later m h y m' h' y' Q P Q' P' A B i pos lm lm' same less = go (found (within less (B.late i pos lm')))
    where
      -- what the first has at place i was scanned by the second
      within : (P i < P' i) ⊎ ((P i ≡ P' i) × (Q i < Q' i)) → (P' i < h') ⊎ ((P' i ≡ h') × (Q' i ≤ y')) → (P i < h') ⊎ ((P i ≡ h') × (Q i < y'))
      within (inl a) (inl b) = inl (omega arith)
      within (inl a) (inr b) = inl (omega (arith, b.0))
      within (inr a) (inl b) = inl (omega (arith, a.0))
      within (inr a) (inr b) = inr (a.0 ∙ b.0, omega (arith, a.1, b.1))

      up : P i < i
      up = A.parent i pos lm

      found : (P i < h') ⊎ ((P i ≡ h') × (Q i < y')) → (k : ℕ) × (k < m') × (Q' k ≡ Q i) × ((k ≡ 0) ⊎ (P' k ≤ P i))
      found o = B.complete (P i) (Q i) (omega (arith, up)) o (A.inside i lm) (subst (λ (z : ℕ). T (st z (Q i))) (same (P i) up) (A.along i pos lm))

      go : (k : ℕ) × (k < m') × (Q' k ≡ Q i) × ((k ≡ 0) ⊎ (P' k ≤ P i)) → ⊥
      go f = by (dec_lt f.0 i)
        where
          last : P' f.0 ≤ P i → Dec (f.0 ≡ i) → i ≤ f.0 → ⊥
          last c (yes e) g = at_i less
            where
              at_i : (P i < P' i) ⊎ ((P i ≡ P' i) × (Q i < Q' i)) → ⊥
              at_i (inl a) = omega (arith, ap P' e, c)
              at_i (inr a) = omega (arith, a.1, ap Q' e, f.2)
          last c (no e) g = past less (B.order i f.0 pos (omega arith) f.1)
            where
              past : (P i < P' i) ⊎ ((P i ≡ P' i) × (Q i < Q' i)) → (P' i < P' f.0) ⊎ ((P' i ≡ P' f.0) × (Q' i < Q' f.0)) → ⊥
              past (inl a) (inl b) = omega (arith, c)
              past (inl a) (inr b) = omega (arith, c, b.0)
              past (inr a) (inl b) = omega (arith, c, a.0)
              past (inr a) (inr b) = omega (arith, a.1, b.1, f.2)

          parent : (f.0 ≡ 0) ⊎ (P' f.0 ≤ P i) → i ≤ f.0 → ⊥
          parent (inl z) g = omega arith
          parent (inr c) g = last c (ℕ_discrete f.0 i) g

          by : Dec (f.0 < i) → ⊥
          by (yes l) = A.distinct f.0 i l lm (same f.0 l ∙ f.2)
          by (no l) = parent f.3 (omega arith)

  pub met_same : (m h y m' h' y' : ℕ) (Q P Q' P' : ℕ → ℕ) → Met st N s m h y Q P → Met st N s m' h' y' Q' P' → (n i : ℕ) → i < n → i < m → i < m'
      → (Q i ≡ Q' i) × (0 < i → P i ≡ P' i)
  met_same m h y m' h' y' Q P Q' P' A B zero i l lm lm' = absurd (omega arith)
  met_same m h y m' h' y' Q P Q' P' A B (suc n) i l lm lm' = go (ℕ_discrete i 0) (λ j lj. (met_same m h y m' h' y' Q P Q' P' A B n j (omega arith) (omega arith) (omega arith)).0)
    where
      go : Dec (i ≡ 0) → ((j : ℕ) → j < i → Q j ≡ Q' j) → (Q i ≡ Q' i) × (0 < i → P i ≡ P' i)
      go (yes z) same = (ap Q z ∙ A.start ∙ sym B.start ∙ ap Q' (sym z), λ pos. absurd (omega arith))
      go (no z) same = (equal.1, λ pos. equal.0)
        where
          pos : 0 < i
          pos = omega arith

          one : (P i < P' i) ⊎ ((P i ≡ P' i) × (Q i < Q' i)) → ⊥
          one = no_later m h y m' h' y' Q P Q' P' A B i pos lm lm' same

          two : (P' i < P i) ⊎ ((P' i ≡ P i) × (Q' i < Q i)) → ⊥
          two = no_later m' h' y' m h y Q' P' Q P B A i pos lm' lm (λ j lj. sym (same j lj))

          equal : (P i ≡ P' i) × (Q i ≡ Q' i)
          equal = by (ℕ_discrete (P i) (P' i))
            where
              by : Dec (P i ≡ P' i) → (P i ≡ P' i) × (Q i ≡ Q' i)
              by (yes e) = (e, nodes (ℕ_discrete (Q i) (Q' i)))
                where
                  nodes : Dec (Q i ≡ Q' i) → Q i ≡ Q' i
                  nodes (yes q) = q
                  nodes (no q) = cases (dec_lt (Q i) (Q' i))
                    where
                      cases : Dec (Q i < Q' i) → Q i ≡ Q' i
                      cases (yes c) = absurd (one (inr (e, c)))
                      cases (no c) = absurd (two (inr (sym e, omega arith)))
              by (no e) = cases (dec_lt (P i) (P' i))
                where
                  cases : Dec (P i < P' i) → (P i ≡ P' i) × (Q i ≡ Q' i)
                  cases (yes c) = absurd (one (inl c))
                  cases (no c) = absurd (two (inl (omega arith)))

  -- where all is scanned, the other has met no more
  no_more : (m y m' h' y' : ℕ) (Q P Q' P' : ℕ → ℕ) → Met st N s m m y Q P → Met st N s m' h' y' Q' P' → 0 < m → m < m' → ⊥
  no_more m y m' h' y' Q P Q' P' A B pos l =
      let up = B.parent m pos l in
      let same : (j : ℕ) → j < m → Q j ≡ Q' j = λ j lj. (met_same m m y m' h' y' Q P Q' P' A B (suc j) j (le_refl (suc j)) lj (omega arith)).0 in
      let f = A.complete (P' m) (Q' m) up (inl up) (B.inside m l) (subst (λ (z : ℕ). T (st z (Q' m))) (sym (same (P' m) up)) (B.along m pos l)) in
      B.distinct f.0 m f.1 l (sym (same f.0 f.1) ∙ f.2)

-- ---- two results of a search

pub record Alike (qs ps : List ℕ) (e : ℕ) (qs' ps' : List ℕ) (e' : ℕ) : Type 0 where
  pub place : e ≡ e'
  pub queue : qs ≡ qs'
  pub parent : ps ≡ ps'

module _ (steps : List ℕ) (s t : ℕ) (qs₀ ps₀ qs ps qs' ps' : List ℕ) (e e' : ℕ) (A : Sought steps s t qs₀ ps₀ qs ps e) (B : Sought steps s t qs₀ ps₀ qs' ps' e') where
  common : (i : ℕ) → i < A.lists.met → i < B.lists.met → (at qs i ≡ at qs' i) × (0 < i → at ps i ≡ at ps' i)
  common i l k = met_same (step (masked steps)) 128 s A.lists.met A.lists.head A.lists.next B.lists.met B.lists.head B.lists.next
      (at qs) (at ps) (at qs') (at ps') A.lists.places B.lists.places (suc i) i (le_refl (suc i)) l k

  -- both have met as many, and end alike
  counts : (e ≡ e') × (A.lists.met ≡ B.lists.met)
  counts = go A.lists.ended B.lists.ended
    where
      go : ((e ≡ 0) × (A.lists.head ≡ A.lists.met)) ⊎ ((0 < e) × (suc e ≡ A.lists.met) × (at ps e ≡ A.lists.head) × (at qs e ≡ t) × (A.lists.next ≡ t))
          → ((e' ≡ 0) × (B.lists.head ≡ B.lists.met)) ⊎ ((0 < e') × (suc e' ≡ B.lists.met) × (at ps' e' ≡ B.lists.head) × (at qs' e' ≡ t) × (B.lists.next ≡ t))
          → (e ≡ e') × (A.lists.met ≡ B.lists.met)
      go (inl a) (inl b) = (a.0 ∙ sym b.0, even (dec_lt A.lists.met B.lists.met) (dec_lt B.lists.met A.lists.met))
        where
          even : Dec (A.lists.met < B.lists.met) → Dec (B.lists.met < A.lists.met) → A.lists.met ≡ B.lists.met
          even (yes l) k = absurd (no_more (step (masked steps)) 128 s A.lists.met A.lists.next B.lists.met B.lists.head B.lists.next (at qs) (at ps) (at qs') (at ps')
              (subst (λ (z : ℕ). Met (step (masked steps)) 128 s A.lists.met z A.lists.next (at qs) (at ps)) a.1 A.lists.places) B.lists.places A.lists.some l)
          even (no l) (yes k) = absurd (no_more (step (masked steps)) 128 s B.lists.met B.lists.next A.lists.met A.lists.head A.lists.next (at qs') (at ps') (at qs) (at ps)
              (subst (λ (z : ℕ). Met (step (masked steps)) 128 s B.lists.met z B.lists.next (at qs') (at ps')) b.1 B.lists.places) A.lists.places B.lists.some k)
          even (no l) (no k) = omega arith
      go (inl a) (inr b) = let p = B.found (λ z. (let l = b.0 in omega arith)) in absurd (A.none a.0 p.nodes p.taken.walk)
      go (inr a) (inl b) = let p = A.found (λ z. (let l = a.0 in omega arith)) in absurd (B.none b.0 p.nodes p.taken.walk)
      go (inr a) (inr b) = both (dec_lt e e') (dec_lt e' e)
        where
          both : Dec (e < e') → Dec (e' < e) → (e ≡ e') × (A.lists.met ≡ B.lists.met)
          both (yes l) k = absurd (B.lists.before e (omega (arith, b.1)) (λ z. omega arith) (sym (common e (omega (arith, a.1)) (omega (arith, b.1))).0 ∙ a.3))
          both (no l) (yes k) = absurd (A.lists.before e' (omega (arith, a.1)) (λ z. omega arith) ((common e' (omega (arith, a.1)) (omega (arith, b.1))).0 ∙ b.3))
          both (no l) (no k) = (omega arith, omega (arith, a.1, b.1))

  pub sought_unique : Alike qs ps e qs' ps' e'
  sought_unique = record {
    place = counts.0;
    queue = ext_get_or 0 qs qs' (A.queue ∙ sym B.queue) (λ i l. nodes i (dec_lt i A.lists.met));
    parent = ext_get_or 0 ps ps' (A.parent ∙ sym B.parent) (λ i l. parents i (dec_lt i A.lists.met) (ℕ_discrete i 0));
  }
    where
      nodes : (i : ℕ) → Dec (i < A.lists.met) → at qs i ≡ at qs' i
      nodes i (yes l) = (common i l (omega (arith, counts.1))).0
      nodes i (no l) = A.lists.queue_rest i (omega arith) ∙ sym (B.lists.queue_rest i (omega (arith, counts.1)))

      parents : (i : ℕ) → Dec (i < A.lists.met) → Dec (i ≡ 0) → at ps i ≡ at ps' i
      parents i l (yes z) = ap (at ps) z ∙ A.lists.parent_first ∙ sym B.lists.parent_first ∙ ap (at ps') (sym z)
      parents i (yes l) (no z) = (common i l (omega (arith, counts.1))).1 (omega arith)
      parents i (no l) (no z) = A.lists.parent_rest i (omega arith) ∙ sym (B.lists.parent_rest i (omega (arith, counts.1)))

pub searched_unique : (steps : List ℕ) (s t : ℕ) (qs₀ ps₀ qs ps qs' ps' : List ℕ) (r r' : Option ℕ)
    → Searched steps s t qs₀ ps₀ qs ps r → Searched steps s t qs₀ ps₀ qs' ps' r' → (r ≡ r') × (qs ≡ qs') × (ps ≡ ps')
searched_unique steps s t qs₀ ps₀ qs ps qs' ps' None None A B =
    let u = sought_unique steps s t qs₀ ps₀ qs ps qs' ps' 0 0 A B in (refl, u.queue, u.parent)
searched_unique steps s t qs₀ ps₀ qs ps qs' ps' None (Some e) A B =
    let u = sought_unique steps s t qs₀ ps₀ qs ps qs' ps' 0 e A B.1 in absurd (omega (arith, u.place, B.0))
searched_unique steps s t qs₀ ps₀ qs ps qs' ps' (Some e) None A B =
    let u = sought_unique steps s t qs₀ ps₀ qs ps qs' ps' e 0 A.1 B in absurd (omega (arith, u.place, A.0))
searched_unique steps s t qs₀ ps₀ qs ps qs' ps' (Some e) (Some e') A B =
    let u = sought_unique steps s t qs₀ ps₀ qs ps qs' ps' e e' A.1 B.1 in (ap Some u.place, u.queue, u.parent)

pub trail_unique : (qs ps qs' ps' : List ℕ) → qs ≡ replicate 128 0 → ps ≡ replicate 128 0 → qs' ≡ replicate 128 0 → ps' ≡ replicate 128 0 → (qs ≡ qs') × (ps ≡ ps')
trail_unique qs ps qs' ps' a b c d = (a ∙ sym c, b ∙ sym d)
