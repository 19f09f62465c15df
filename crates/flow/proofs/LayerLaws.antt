-- The loop of `layer`, and the turns of a queue, place by place.
-- Assumes nothing.
--
--   turns_first, turns_next          the turns up to place 0, and up to the next place
--   turns_le, turns_mono             at most one a place, and never fewer
--   Noted qs i k j                   a place below i is of level k and has a node of job j
--   Layering qs e L i p k side met   the places below i are noted, those of the levels before k in L and those of level k in met; k and side are those of place p
--   layer_start                      no place is noted
--   layer_small, layer_node          k is a place of L, and a node's job one of a mask
--   layer_turn                       the level of the next place, as the branch leaves it
--   layer_add, layer_end             its node is noted; all are
use mathlib.Core.Path.{◌≡◌, refl, sym, ap, ◌∙◌, subst}
use mathlib.Core.Logic.{◌⊎◌, inl, inr, ◌≢◌}
use mathlib.Core.List.{List}
use Prim.Native.Nat.{ℕ, zero, suc, ◌+◌, ◌-◌, ◌/◌, ◌%◌, ◌^◌, ◌<◌, ◌≤◌, zero-le}
use native.Mathlib.Decide.{ℕ_discrete}
use native.Mathlib.Omega.{arith}
use lib.Pow.{pow-lt}
use lib.Bits.{bit_or, or_lt}
use lib.ListN.{set, length-set}
use lib.Seq.{get_or-set_same, get_or-set_other}
use Rattle.bits.specs.Mask.{Has}
use Rattle.bits.proofs.Digits.{bit_pow_same, bit_zero}
use Rattle.bits.proofs.Masks.{has_or_l, has_or_r, has_or_cases, has_pow_cases}
use Rattle.search.specs.Masks.{at}
use Rattle.flow.specs.Levels.{turns, Layerable, Layered}

-- ---- the turns

module _ (qs : List ℕ) where
  pub turns_first : turns qs 0 ≡ 0
  unfolding turns
  turns_first = refl

  pub turns_next : (i : ℕ) → turns qs (suc i) ≡ turns qs i + (at qs i + at qs (suc i)) % 2
  unfolding turns
  turns_next i = refl

  pub turns_le : (i : ℕ) → turns qs i ≤ i
  turns_le zero = omega (arith, turns_first)
  turns_le (suc i) = omega (arith, turns_next i, turns_le i)

  pub turns_mono : (i j : ℕ) → i ≤ j → turns qs i ≤ turns qs j
  turns_mono i zero l = let z : i ≡ 0 = omega arith in omega (arith, ap (turns qs) z)
  turns_mono i (suc j) l = go (ℕ_discrete i (suc j)) (turns_mono i j)
    where
      go : Dec (i ≡ suc j) → (i ≤ j → turns qs i ≤ turns qs j) → turns qs i ≤ turns qs (suc j)
      go (yes z) rec = omega (arith, ap (turns qs) z)
      go (no z) rec = omega (arith, turns_next j, rec (omega arith))

-- ---- the loop

abbrev pub Noted : List ℕ → ℕ → ℕ → ℕ → Type 0
Noted qs i k j = (h : ℕ) × (h < i) × (turns qs h ≡ k) × (at qs h / 2 ≡ j)

pub record Layering (qs : List ℕ) (e : ℕ) (L : List ℕ) (i p k side met : ℕ) : Type 0 where
  pub given : Layerable qs e L
  pub place : p ≤ e
  pub done : i ≤ suc p
  pub level : k ≡ turns qs p
  pub sided : side ≡ at qs p % 2
  pub all : (h : ℕ) → h < i → turns qs h < k → Has (at L (turns qs h)) (at qs h / 2)
  pub only : (m j : ℕ) → m < k → Has (at L m) j → Noted qs i m j
  pub met_all : (h : ℕ) → h < i → turns qs h ≡ k → Has met (at qs h / 2)
  pub met_only : (j : ℕ) → Has met j → Noted qs i k j
  pub small : (m : ℕ) → m < k → at L m < 2 ^ 64
  pub met_small : met < 2 ^ 64

-- the masks of one job, and of none
one_job : (j : ℕ) → j < 64 → 2 ^ j < 2 ^ 64
one_job j l = pow-lt l

none : (qs : List ℕ) (i k j : ℕ) → Has 0 j → Noted qs i k j
none qs i k j h = absurd (omega (arith, bit_zero j))

pub layer_start : (qs : List ℕ) (e : ℕ) (L : List ℕ) → Layerable qs e L → Layering qs e L 0 (0 - 1) 0 (at qs 0 % 2) 0
layer_start qs e L G = record {
  given = G;
  place = zero-le;
  done = zero-le;
  level = sym (turns_first qs);
  sided = refl;
  all = λ h l q. absurd (omega arith);
  only = λ m j l q. absurd (omega arith);
  met_all = λ h l q. absurd (omega arith);
  met_only = none qs 0 0;
  small = λ m l. absurd (omega arith);
  met_small = omega arith;
}

module _ (qs : List ℕ) (e : ℕ) (L : List ℕ) (i p k side met : ℕ) (W : Layering qs e L i p k side met) where
  pub layer_small : k < 128
  layer_small = omega (arith, W.level, turns_le qs p, W.place, W.given.place)

  pub layer_node : (h : ℕ) → h ≤ e → at qs h / 2 < 64
  layer_node h l = omega (arith, W.given.nodes h l)

module _ (qs : List ℕ) (e : ℕ) (L : List ℕ) (i k side met : ℕ) (W : Layering qs e L i (i - 1) k side met) (l : i ≤ e) where
  -- the level of the next place
  next : turns qs i ≡ k + (side + at qs i) % 2
  next = go i W.level W.sided
    where
      go : (i : ℕ) → k ≡ turns qs (i - 1) → side ≡ at qs (i - 1) % 2 → turns qs i ≡ k + (side + at qs i) % 2
      go zero q s = omega arith
      go (suc i) q s =
          let z : suc i - 1 ≡ i = omega arith in
          omega (arith, ap (turns qs) z, ap (at qs) z, turns_next qs i)

  -- it is of the same level
  layer_same : at qs i % 2 ≡ side → Layering qs e L i i k side met
  layer_same s = record {
    given = W.given;
    place = l;
    done = omega arith;
    level = omega (arith, next);
    sided = sym s;
    all = W.all;
    only = W.only;
    met_all = W.met_all;
    met_only = W.met_only;
    small = W.small;
    met_small = W.met_small;
  }

  -- or of the next one
  layer_change : at qs i % 2 ≢ side → Layering qs e (set L k met) i i (k + 1) (1 - side) 0
  layer_change s = record {
    given = record { queue = W.given.queue; levels = length-set L k met ∙ W.given.levels; place = W.given.place; nodes = W.given.nodes };
    place = l;
    done = omega arith;
    level = omega (arith, next, W.sided);
    sided = omega (arith, W.sided);
    all = λ h q r. all h q r (ℕ_discrete (turns qs h) k);
    only = λ m j q r. only m j q r (ℕ_discrete m k);
    met_all = λ h q r. absurd (omega (arith, W.level, turns_mono qs h (i - 1) (omega arith)));
    met_only = none qs i (k + 1);
    small = λ m q. small m q (ℕ_discrete m k);
    met_small = omega arith;
  }
    where
      same : at (set L k met) k ≡ met
      same = get_or-set_same L k met 0 (omega (arith, W.given.levels, layer_small qs e L i (i - 1) k side met W))

      all : (h : ℕ) → h < i → turns qs h < k + 1 → Dec (turns qs h ≡ k) → Has (at (set L k met) (turns qs h)) (at qs h / 2)
      all h q r (yes z) = subst (λ (y : ℕ). Has y (at qs h / 2)) (sym (ap (at (set L k met)) z ∙ same)) (W.met_all h q z)
      all h q r (no z) = subst (λ (y : ℕ). Has y (at qs h / 2)) (sym (get_or-set_other L k (turns qs h) met 0 z)) (W.all h q (omega arith))

      only : (m j : ℕ) → m < k + 1 → Has (at (set L k met) m) j → Dec (m ≡ k) → Noted qs i m j
      only m j q r (yes z) = subst (λ (y : ℕ). Noted qs i y j) (sym z) (W.met_only j (subst (λ (y : ℕ). Has y j) (ap (at (set L k met)) z ∙ same) r))
      only m j q r (no z) = W.only m j (omega arith) (subst (λ (y : ℕ). Has y j) (get_or-set_other L k m met 0 z) r)

      small : (m : ℕ) → m < k + 1 → Dec (m ≡ k) → at (set L k met) m < 2 ^ 64
      small m q (yes z) = omega (arith, ap (at (set L k met)) z, same, W.met_small)
      small m q (no z) = omega (arith, get_or-set_other L k m met 0 z, W.small m (omega arith))

  pub layer_turn : (L' : List ℕ) (k' side' met' : ℕ)
      → ((at qs i % 2 ≢ side) × (L' ≡ set L k met) × (k' ≡ k + 1) × (side' ≡ 1 - side) × (met' ≡ 0)) ⊎ ((at qs i % 2 ≡ side) × (L' ≡ L) × (k' ≡ k) × (side' ≡ side) × (met' ≡ met))
      → Layering qs e L' i i k' side' met'
  layer_turn L' k' side' met' (inl w) = rw (w.1, w.2, w.3, w.4) (layer_change w.0)
  layer_turn L' k' side' met' (inr w) = rw (w.1, w.2, w.3, w.4) (layer_same w.0)

module _ (qs : List ℕ) (e : ℕ) (L : List ℕ) (i k side met : ℕ) (W : Layering qs e L i i k side met) where
  pub layer_add : (y : ℕ) → y ≡ 2 ^ (at qs i / 2) → Layering qs e L (i + 1) (i + 1 - 1) k side (bit_or met y)
  layer_add y v = subst (λ (p : ℕ). Layering qs e L (i + 1) p k side (bit_or met y)) (omega arith) (record {
    given = W.given;
    place = W.place;
    done = omega arith;
    level = W.level;
    sided = W.sided;
    all = λ h q r. all h q r (ℕ_discrete h i);
    only = λ m j q r. later m j (W.only m j q r);
    met_all = λ h q r. met_all h q r (ℕ_discrete h i);
    met_only = λ j r. met_only j (has_or_cases met y j r);
    small = W.small;
    met_small = or_lt 64 met y W.met_small (omega (arith, v, one_job (at qs i / 2) (layer_node qs e L i i k side met W i W.place)));
  })
    where
      all : (h : ℕ) → h < i + 1 → turns qs h < k → Dec (h ≡ i) → Has (at L (turns qs h)) (at qs h / 2)
      all h q r (yes z) = absurd (omega (arith, W.level, ap (turns qs) z))
      all h q r (no z) = W.all h (omega arith) r

      later : (m j : ℕ) → Noted qs i m j → Noted qs (i + 1) m j
      later m j n = (n.0, omega (arith, n.1), n.2, n.3)

      met_all : (h : ℕ) → h < i + 1 → turns qs h ≡ k → Dec (h ≡ i) → Has (bit_or met y) (at qs h / 2)
      met_all h q r (yes z) = has_or_r met y (at qs h / 2) (subst (λ (x : ℕ). Has x (at qs h / 2)) (ap (λ (x : ℕ). 2 ^ (at qs x / 2)) z ∙ sym v) (bit_pow_same (at qs h / 2)))
      met_all h q r (no z) = has_or_l met y (at qs h / 2) (W.met_all h (omega arith) r)

      met_only : (j : ℕ) → Has met j ⊎ Has y j → Noted qs (i + 1) k j
      met_only j (inl r) = later k j (W.met_only j r)
      met_only j (inr r) = (i, omega arith, sym W.level, sym (has_pow_cases (at qs i / 2) j (subst (λ (x : ℕ). Has x j) v r)))

pub layer_end : (qs : List ℕ) (e : ℕ) (L : List ℕ) (i k side met : ℕ) → Layering qs e L i (i - 1) k side met → e < i → (y : ℕ) → y ≡ 2 ^ (at qs e / 2) → Layered qs e (set L k y)
layer_end qs e L i k side met W l y v = record {
  size = length-set L k y ∙ W.given.levels;
  all = λ h q r. subst (λ (x : ℕ). Has x (at qs h / 2)) (sym (get_or-set_other L k (turns qs h) y 0 (λ z. omega (arith, top)))) (W.all h (omega arith) (omega (arith, top)));
  only = λ m j q r. only m j q (W.only m j (omega (arith, top)) (subst (λ (x : ℕ). Has x j) (get_or-set_other L k m y 0 (λ z. omega (arith, top))) r));
  last = last;
  small = λ m q. small m q (ℕ_discrete m (turns qs e));
}
  where
    top : k ≡ turns qs e
    top = let z : i - 1 ≡ e = omega (arith, W.place) in W.level ∙ ap (turns qs) z

    last : at (set L k y) (turns qs e) ≡ 2 ^ (at qs e / 2)
    last = ap (at (set L k y)) (sym top) ∙ get_or-set_same L k y 0 (omega (arith, W.given.levels, layer_small qs e L i (i - 1) k side met W)) ∙ v

    small : (m : ℕ) → m ≤ turns qs e → Dec (m ≡ turns qs e) → at (set L k y) m < 2 ^ 64
    small m q (yes z) = omega (arith, ap (at (set L k y)) z, last, one_job (at qs e / 2) (layer_node qs e L i (i - 1) k side met W e (omega arith)))
    small m q (no z) = omega (arith, get_or-set_other L k m y 0 (λ w. omega (arith, top)), W.small m (omega (arith, top)))

    -- a place of a level before that of place e stands before it
    only : (m j : ℕ) → m < turns qs e → Noted qs i m j → Noted qs e m j
    only m j q n = go (ℕ_discrete n.0 e)
      where
        go : Dec (n.0 ≡ e) → Noted qs e m j
        go (yes z) = absurd (omega (arith, n.2, ap (turns qs) z))
        go (no z) = (n.0, omega (arith, n.1, W.place), n.2, n.3)
