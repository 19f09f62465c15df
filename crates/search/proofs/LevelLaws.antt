-- The search goes on level by level: all places of a level hold nodes of one side, and their neighbours lie on the other.
-- qs is the queue, side the side of these neighbours (0 for in-nodes, 1 for out-nodes), h the place whose neighbours are scanned, e the end of the level, m the number of places met.
-- fr are the two masks of what is not met yet, but for `side`, whose mask is f while the level is scanned.
-- Assumes nothing.
--
--   Level                                  it, place by place
--   level_start, level_add, level_next     the source alone; a neighbour is met; a place is scanned
--   level_turn                             the level is scanned, and the next one begins
--   level_enter, level_open                the masks at the start of a level, and where a place is taken
use mathlib.Core.Path.{◌≡◌, sym, ap, ◌∙◌, subst}
use mathlib.Core.List.{List}
use Prim.Native.Nat.{ℕ, ◌+◌, ◌-◌, ◌%◌, ◌<◌, ◌≤◌, zero-le}
use native.Mathlib.Decide.{ℕ_discrete}
use native.Mathlib.Omega.{arith}
use lib.Bits.{bit_and, bit_xor}
use lib.ListN.{length, get_or, set, length-set}
use lib.Seq.{get_or-set_same, get_or-set_other, set-set, set-get_or}
use Rattle.search.specs.Masks.{at}
use Rattle.search.proofs.OuterLaws.{Outer, Inner, outer_open}

pub record Level (qs : List ℕ) (side h e m : ℕ) : Type 0 where
  pub binary : side < 2
  pub below : h ≤ e
  pub within : e ≤ m
  -- what is left of the level, and what it has met
  pub here : (i : ℕ) → h ≤ i → i < e → 1 - at qs i % 2 ≡ side
  pub there : (i : ℕ) → e ≤ i → i < m → at qs i % 2 ≡ side

pub level_start : (qs : List ℕ) (s : ℕ) → 0 < length qs → Level (set qs 0 s) (1 - s % 2) 0 1 1
level_start qs s l = record {
  binary = omega arith;
  below = zero-le;
  within = omega arith;
  here = λ i p q. let z : i ≡ 0 = omega arith in ap (λ (k : ℕ). 1 - at (set qs 0 s) k % 2) z ∙ ap (λ (k : ℕ). 1 - k % 2) (get_or-set_same qs 0 s 0 l);
  there = λ i p q. absurd (omega arith);
}

module _ (qs : List ℕ) (side h e m : ℕ) (W : Level qs side h e m) where
  pub level_add : (b : ℕ) → b % 2 ≡ side → m < length qs → Level (set qs m b) side h e (m + 1)
  level_add b p l = record {
    binary = W.binary;
    below = W.below;
    within = omega (arith, W.within);
    here = λ i q r. ap (λ (k : ℕ). 1 - k % 2) (old i (omega (arith, W.within))) ∙ W.here i q r;
    there = λ i q r. new i q r (ℕ_discrete i m);
  }
    where
      old : (i : ℕ) → i < m → at (set qs m b) i ≡ at qs i
      old i r = get_or-set_other qs m i b 0 (λ z. omega arith)

      new : (i : ℕ) → e ≤ i → i < m + 1 → Dec (i ≡ m) → at (set qs m b) i % 2 ≡ side
      new i q r (yes z) = ap (λ (k : ℕ). k % 2) (ap (at (set qs m b)) z ∙ get_or-set_same qs m b 0 l) ∙ p
      new i q r (no n) = let i<m : i < m = omega arith in ap (λ (k : ℕ). k % 2) (old i i<m) ∙ W.there i q i<m

  pub level_next : h < e → Level qs side (h + 1) e m
  level_next l = record { binary = W.binary; below = omega arith; within = W.within; here = λ i p q. W.here i (omega arith) q; there = W.there }

  pub level_turn : e ≤ h → Level qs (1 - side) h m m
  level_turn l = record {
    binary = omega arith;
    below = omega (arith, W.below, W.within);
    within = omega arith;
    here = λ i p q. ap (λ (k : ℕ). 1 - k) (W.there i (omega arith) q);
    there = λ i p q. absurd (omega arith);
  }

-- ---- the masks

module _ (steps : List ℕ) (s t : ℕ) (qs ps fr : List ℕ) (m h side : ℕ) where
  pub level_enter : Outer steps s t qs ps fr m h → Outer steps s t qs ps (set fr side (get_or fr side 0)) m h
  level_enter O = subst (λ (z : List ℕ). Outer steps s t qs ps z m h) (sym (set-get_or fr side 0)) O

  pub level_open : (f e : ℕ) → Outer steps s t qs ps (set fr side f) m h → Level qs side h e m → h < e
      → Inner steps s t qs ps (set fr side (bit_xor f (bit_and (get_or steps (at qs h) 0) f))) m h side (bit_and (get_or steps (at qs h) 0) f)
  level_open f e O W l = subst (λ (z : List ℕ). Inner steps s t qs ps z m h side (rest f)) (set-set fr side f (bit_xor f (rest f))) (subst (λ (z : ℕ). Inner steps s t qs ps (set masks side (bit_xor z (rest z))) m h side (rest z)) mine
      (subst (λ (z : ℕ). Inner steps s t qs ps (set masks z (bit_xor (get_or masks z 0) (rest (get_or masks z 0)))) m h z (rest (get_or masks z 0))) (W.here h (omega arith) l)
      (outer_open steps s t qs ps masks m h O (omega (arith, W.within)))))
    where
      rest : ℕ → ℕ
      rest z = bit_and (get_or steps (at qs h) 0) z

      masks : List ℕ
      masks = set fr side f

      mine : get_or masks side 0 ≡ f
      mine = get_or-set_same fr side f 0 (omega (arith, W.binary, O.sizes.free, length-set fr side f))
