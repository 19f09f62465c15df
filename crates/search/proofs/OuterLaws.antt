-- The search over masks: what holds at each turn of its two loops, and the laws of the outer one.
-- steps are the masks, qs the queue, ps the parents, fr the two masks of the jobs whose in-nodes (place 0) and out-nodes (place 1) are not met yet,
-- m the number of places met, h the place whose neighbours are scanned.
-- Assumes nothing.
--
--   Free fr x, Unseen fr rest side x   node x is not met yet: by the two masks; by these and the neighbours `rest` that are still to be taken
--   Outer, Inner                       the invariants of the loop over places and of the loop over neighbours
--   outer_start, outer_open            before the first place; a place is taken, and its neighbours are those in `rest`
--   outer_few, outer_node              at most 128 places; their nodes
--   outer_sought                       no place is left
use mathlib.Core.Path.{◌≡◌, refl, sym, ap, ◌∙◌, subst}
use mathlib.Core.Logic.{◌⊎◌, inl, inr, ◌≢◌}
use mathlib.Core.List.{List}
use Prim.Native.Nat.{ℕ, zero, suc, ◌+◌, ◌-◌, ◌*◌, ◌/◌, ◌%◌, ◌^◌, ◌<◌, ◌≤◌, zero-le}
use native.Mathlib.Decide.{ℕ_discrete}
use native.Mathlib.Omega.{arith}
use lib.Dec.{T, lit<}
use lib.Pow.{pow-lt}
use lib.Bits.{bit_and, bit_xor, xor_lt, and_le_r}
use lib.ListN.{length, get_or, set, length-set, replicate}
use lib.Seq.{get_or-set_same, get_or-set_other}
use Rattle.bits.specs.Mask.{bit, Has}
use Rattle.bits.proofs.Digits.{bit_pow_same}
use Rattle.bits.proofs.Masks.{has_and, and_has, has_xor, xor_has, xor_lacks, has_pow_cases, has_full}
use Rattle.walks.specs.Walk.{Walk}
use Rattle.network.specs.Rooms.{step}
use Rattle.search.specs.Masks.{at, masked}
use Rattle.search.specs.Sought.{Sought}
use Rattle.search.proofs.KeepLaws.{Keep, keep_start, keep_few, keep_set, keep_so_far, keep_end}
use Rattle.search.proofs.MaskSteps.{step_parts}
use Rattle.search.proofs.SinceLaws.{Since}

-- ---- the nodes that are not found yet

abbrev pub Free : List ℕ → ℕ → Type 0
Free fr x = Has (get_or fr (x % 2) 0) (x / 2)

abbrev pub Unseen : List ℕ → ℕ → ℕ → ℕ → Type 0
Unseen fr rest side x = Free fr x ⊎ ((x % 2 ≡ side) × Has rest (x / 2))

-- the lists have their lengths, and the two masks their sizes
pub record Sizes (qs ps fr : List ℕ) : Type 0 where
  pub queue : length qs ≡ 128
  pub parent : length ps ≡ 128
  pub free : length fr ≡ 2
  pub small : (i : ℕ) → i < 2 → get_or fr i 0 < 2 ^ 64

-- the neighbours of the places before h are scanned; what fr holds is not met
pub record Outer (steps : List ℕ) (s t : ℕ) (qs ps fr : List ℕ) (m h : ℕ) : Type 0 where
  pub sizes : Sizes qs ps fr
  pub keep : Keep (step (masked steps)) 128 s t m h 0 (at qs) (at ps) (Free fr)
  pub most : h ≤ m

pub record Inner (steps : List ℕ) (s t : ℕ) (qs ps fr : List ℕ) (m h side rest : ℕ) : Type 0 where
  pub sizes : Sizes qs ps fr
  -- the neighbours of place h below y are scanned
  pub y : ℕ
  pub keep : Keep (step (masked steps)) 128 s t m h y (at qs) (at ps) (Unseen fr rest side)
  pub under : y ≤ 128
  pub more : h < m
  pub fits : rest < 2 ^ 64
  -- its neighbours lie on the other side
  pub other : side ≡ 1 - at qs h % 2
  -- rest has just the neighbours from y on that are not met
  pub ours : (j : ℕ) → Has rest j → Has (get_or steps (at qs h) 0) j × (y ≤ 2 * j + side)
  pub all : (x : ℕ) → x < 128 → y ≤ x → T (step (masked steps) (at qs h) x) → Unseen fr rest side x → Has rest (x / 2)
  pub apart : (j : ℕ) → Has rest j → Has (get_or fr side 0) j → ⊥

-- ---- the start

full : (k : ℕ) → k < 64 → Has 18446744073709551615 k
full k l = has_full 64 k l

pub outer_start : (steps : List ℕ) (s t : ℕ) (qs ps : List ℕ) (L : ℕ) → L ≡ 2 → s < 128 → s ≢ t → length qs ≡ 128 → length ps ≡ 128
    → (b : ℕ) → b ≡ 2 ^ (s / 2) → Outer steps s t (set qs 0 s) ps (set (replicate L 18446744073709551615) (s % 2) (bit_xor 18446744073709551615 b)) 1 0
outer_start steps s t qs ps L eL ls ne lq lp b eb = record {
  sizes = record { queue = length-set qs 0 s ∙ lq; parent = lp; free = length-set (replicate L 18446744073709551615) (s % 2) (bit_xor 18446744073709551615 b) ∙ len; small = λ i l. little i l (ℕ_discrete i (s % 2)) };
  keep = keep_start (step (masked steps)) 128 s t (at (set qs 0 s)) (at ps) (Free fr) ls ne (get_or-set_same qs 0 s 0 (omega arith)) gone (λ x lx n. there x lx n (ℕ_discrete (x % 2) (s % 2)));
  most = zero-le;
}
  where
    fr : List ℕ
    fr = set (replicate L 18446744073709551615) (s % 2) (bit_xor 18446744073709551615 b)

    len : length {A = ℕ} (replicate L 18446744073709551615) ≡ 2
    len = rw eL refl

    each : (i : ℕ) → i < 2 → get_or {A = ℕ} (replicate L 18446744073709551615) i 0 ≡ 18446744073709551615
    each i l = rw eL (two i l)
      where
        two : (i : ℕ) → i < 2 → get_or {A = ℕ} (replicate 2 18446744073709551615) i 0 ≡ 18446744073709551615
        two zero l = refl
        two (suc zero) l = refl
        two (suc (suc i)) l = absurd (omega arith)

    here : get_or fr (s % 2) 0 ≡ bit_xor 18446744073709551615 (2 ^ (s / 2))
    here = get_or-set_same (replicate L 18446744073709551615) (s % 2) (bit_xor 18446744073709551615 b) 0 (omega (arith, len)) ∙ ap (bit_xor 18446744073709551615) eb

    away : (i : ℕ) → i < 2 → i ≢ s % 2 → get_or fr i 0 ≡ 18446744073709551615
    away i l n = get_or-set_other (replicate L 18446744073709551615) (s % 2) i (bit_xor 18446744073709551615 b) 0 n ∙ each i l

    little : (i : ℕ) → i < 2 → Dec (i ≡ s % 2) → get_or fr i 0 < 2 ^ 64
    little i l (yes e) = subst (λ (z : ℕ). z < 2 ^ 64) (sym (ap (λ (z : ℕ). get_or fr z 0) e ∙ here)) (xor_lt 64 18446744073709551615 (2 ^ (s / 2)) (lit< tt) (let l : s / 2 < 64 = omega arith in pow-lt l))
    little i l (no n) = subst (λ (z : ℕ). z < 2 ^ 64) (sym (away i l n)) (lit< tt)

    gone : Free fr s → ⊥
    gone f = xor_lacks 18446744073709551615 (2 ^ (s / 2)) (s / 2) (full (s / 2) (omega arith)) (bit_pow_same (s / 2)) (subst (λ (z : ℕ). Has z (s / 2)) here f)

    there : (x : ℕ) → x < 128 → x ≢ s → Dec (x % 2 ≡ s % 2) → Free fr x
    there x lx n (yes e) = subst (λ (z : ℕ). Has z (x / 2)) (sym (ap (λ (z : ℕ). get_or fr z 0) e ∙ here))
        (xor_has 18446744073709551615 (2 ^ (s / 2)) (x / 2) (full (x / 2) (omega arith)) (λ q. let z = has_pow_cases (s / 2) (x / 2) q in n (omega arith)))
    there x lx n (no e) = subst (λ (z : ℕ). Has z (x / 2)) (sym (away (x % 2) (omega arith) e)) (full (x / 2) (omega arith))

-- ---- a node is taken from the queue

module _ (steps : List ℕ) (s t : ℕ) (qs ps fr : List ℕ) (m h : ℕ) (O : Outer steps s t qs ps fr m h) where
  pub outer_few : m ≤ 128
  outer_few = keep_few (step (masked steps)) 128 s t m h 0 (at qs) (at ps) (Free fr) O.keep

  pub outer_node : h < m → at qs h < 128
  outer_node l = O.keep.scan.inside h l

  pub outer_end : m ≤ h → (p : List ℕ) → Walk (step (masked steps)) 128 s t p → ⊥
  outer_end l p w = keep_end (step (masked steps)) 128 s t m h 0 (at qs) (at ps) (Free fr) O.keep l p w

  pub outer_sought : m ≤ h → (qs₀ ps₀ : List ℕ) → Since 1 m qs₀ ps₀ qs ps → Sought steps s t qs₀ ps₀ qs ps 0
  outer_sought l qs₀ ps₀ R = record {
    queue = O.sizes.queue;
    parent = O.sizes.parent;
    place = omega arith;
    none = λ q. outer_end l;
    found = λ q. absurd (q refl);
    lists = record {
      met = m;
      head = h;
      next = 0;
      places = keep_so_far (step (masked steps)) 128 s t m h 0 (at qs) (at ps) (Free fr) O.keep;
      some = (let q = R.grown in omega arith);
      ended = inl (refl, (let q = O.most in omega arith));
      before = λ i q n. O.keep.scan.lacks i q;
      queue_rest = R.queue;
      parent_rest = R.parent;
      parent_first = R.first;
    };
  }

  pub outer_open : h < m → Inner steps s t qs ps (set fr (1 - at qs h % 2) (bit_xor (get_or fr (1 - at qs h % 2) 0) (bit_and (get_or steps (at qs h) 0) (get_or fr (1 - at qs h % 2) 0)))) m h (1 - at qs h % 2)
      (bit_and (get_or steps (at qs h) 0) (get_or fr (1 - at qs h % 2) 0))
  outer_open lh = record {
    sizes = record {
      queue = O.sizes.queue;
      parent = O.sizes.parent;
      free = length-set fr side (bit_xor f rest) ∙ O.sizes.free;
      small = λ i l. little i l (ℕ_discrete i side);
    };
    y = 0;
    keep = keep_set (step (masked steps)) 128 s t m h 0 (at qs) (at ps) (Free fr) O.keep (Unseen fr' rest side) (λ x l u. to x l u (ℕ_discrete (x % 2) side) (ℕ_discrete (bit rest (x / 2)) 1)) from;
    under = zero-le;
    more = lh;
    fits = omega (arith, and_le_r (get_or steps (at qs h) 0) f, O.sizes.small side lside);
    other = refl;
    ours = λ j r. ((has_and (get_or steps (at qs h) 0) f j r).0, zero-le);
    all = λ x lx ly e u. whole x lx e u;
    apart = λ j r g. xor_lacks f rest j (has_and (get_or steps (at qs h) 0) f j r).1 r (subst (λ (z : ℕ). Has z j) here g);
  }
    where
      side : ℕ
      side = 1 - at qs h % 2

      lside : side < 2
      lside = omega arith

      f : ℕ
      f = get_or fr side 0

      rest : ℕ
      rest = bit_and (get_or steps (at qs h) 0) f

      fr' : List ℕ
      fr' = set fr side (bit_xor f rest)

      here : get_or fr' side 0 ≡ bit_xor f rest
      here = get_or-set_same fr side (bit_xor f rest) 0 (omega (arith, O.sizes.free, lside))

      away : (i : ℕ) → i ≢ side → get_or fr' i 0 ≡ get_or fr i 0
      away i n = get_or-set_other fr side i (bit_xor f rest) 0 n

      little : (i : ℕ) → i < 2 → Dec (i ≡ side) → get_or fr' i 0 < 2 ^ 64
      little i l (yes e) = subst (λ (z : ℕ). z < 2 ^ 64) (sym (ap (λ (z : ℕ). get_or fr' z 0) e ∙ here))
          (xor_lt 64 f rest (O.sizes.small side lside) (omega (arith, and_le_r (get_or steps (at qs h) 0) f, O.sizes.small side lside)))
      little i l (no n) = subst (λ (z : ℕ). z < 2 ^ 64) (sym (away i n)) (O.sizes.small i l)

      to : (x : ℕ) → x < 128 → Free fr x → Dec (x % 2 ≡ side) → Dec (bit rest (x / 2) ≡ 1) → Unseen fr' rest side x
      to x lx u (no n) d = inl (subst (λ (z : ℕ). Has z (x / 2)) (sym (away (x % 2) n)) u)
      to x lx u (yes e) (yes r) = inr (e, r)
      to x lx u (yes e) (no r) = inl (subst (λ (z : ℕ). Has z (x / 2)) (sym (ap (λ (z : ℕ). get_or fr' z 0) e ∙ here)) (xor_has f rest (x / 2) (subst (λ (z : ℕ). Has (get_or fr z 0) (x / 2)) e u) r))

      old : (x : ℕ) → Free fr' x → Dec (x % 2 ≡ side) → Free fr x
      old x u (no n) = subst (λ (z : ℕ). Has z (x / 2)) (away (x % 2) n) u
      old x u (yes e) = subst (λ (z : ℕ). Has (get_or fr z 0) (x / 2)) (sym e)
          (has_xor f rest (x / 2) (λ r. (has_and (get_or steps (at qs h) 0) f (x / 2) r).1) (subst (λ (z : ℕ). Has z (x / 2)) (ap (λ (z : ℕ). get_or fr' z 0) e ∙ here) u)).0

      from : (x : ℕ) → x < 128 → Unseen fr' rest side x → Free fr x
      from x lx (inl u) = old x u (ℕ_discrete (x % 2) side)
      from x lx (inr u) = subst (λ (z : ℕ). Has (get_or fr z 0) (x / 2)) (sym u.0) (has_and (get_or steps (at qs h) 0) f (x / 2) u.1).1

      whole : (x : ℕ) → x < 128 → T (step (masked steps) (at qs h) x) → Unseen fr' rest side x → Has rest (x / 2)
      whole x lx e u =
          let k = step_parts steps (at qs h) x e in
          let p : x % 2 ≡ side = (let q = k.0 in omega arith) in
          and_has (get_or steps (at qs h) 0) f (x / 2) k.1 (subst (λ (z : ℕ). Has (get_or fr z 0) (x / 2)) p (from x lx u))
