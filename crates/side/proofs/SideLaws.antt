-- The loop of `sink_side`: its invariant, one law for each way through it, and that two results are equal.
-- Assumes nothing.
--
--   Siding                         ins and outs are parts of the sink's side
--   Shut                           outs has all out-nodes with a step to ins
--   side_others, side_start        a call of `gather` is allowed; the sink alone
--   side_out, side_shut, out_side  outs gets the out-nodes with a step to ins
--   side_grow, side_small, side_turn    ins gets what is fresh, the in-nodes with a step to outs
--   side_end                       nothing is fresh
--   sided_unique                   two results of `sink_side` are equal
use mathlib.Core.Path.{◌≡◌, refl, sym, subst}
use mathlib.Core.Logic.{◌⊎◌, inl, inr, ◌≢◌}
use mathlib.Core.List.{List, [], ◌∷◌}
use Prim.Native.Nat.{ℕ, ◌+◌, ◌*◌, ◌/◌, ◌^◌, ◌<◌}
use native.Mathlib.Decide.{ℕ_discrete}
use native.Mathlib.Numerals.{suc-eq-add-one}
use native.Mathlib.Omega.{arith}
use lib.Bits.{bit_or, bit_xor, or_lt, xor_lt}
use lib.Count.{count_trailing_zeros}
use lib.Dec.{T, lit<}
use lib.ListN.{length}
use lib.Pow.{pow-lt}
use Rattle.bits.specs.Mask.{bit, Has, MaskOf}
use Rattle.bits.proofs.Digits.{bit_pow_same}
use Rattle.bits.proofs.Masks.{has_or_l, has_or_r, has_or_cases, has_xor, xor_has, has_pow_cases, or_grows, mask_unique}
use Rattle.bits.proofs.Lowest.{trailing_has, has_below}
use Rattle.bits.proofs.Rest.{rest_end}
use Rattle.walks.specs.Walk.{Walk, Reaches}
use Rattle.walks.proofs.ReachLaws.{reaches_here, reaches_step}
use Rattle.graph.specs.Hits.{Gatherable, Hits}
use Rattle.network.specs.Rooms.{step}
use Rattle.network.specs.Arcs.{inn, out}
use Rattle.search.specs.Masks.{at, masked}
use Rattle.search.proofs.MaskSteps.{step_parts, step_made}
use Rattle.side.specs.Home.{Sidable, Home, Sided}

pub record Siding (S : List ℕ) (t x ins outs : ℕ) : Type 0 where
  pub given : Sidable S t x
  pub in_small : ins < 2 ^ 64
  pub out_small : outs < 2 ^ 64
  -- both are of x, and of the sink's side
  pub in_part : (u : ℕ) → Has ins u → Has x u
  pub out_part : (u : ℕ) → Has outs u → Has x u
  pub in_home : (u : ℕ) → Has ins u → Home S t inn u
  pub out_home : (u : ℕ) → Has outs u → Home S t out u
  pub sink : Has ins t

-- each out-node with a step to ins is in outs
abbrev pub Shut : List ℕ → ℕ → ℕ → ℕ → Type 0
Shut S x ins outs = (u v : ℕ) → Has x u → Has (at S (2 * u + 1)) v → Has ins v → Has outs u

-- each node of the jobs that are not yet marked has its mask
pub side_others : (S : List ℕ) (side x marked : ℕ) → length S ≡ 128 → side < 2 → x < 2 ^ 64 → marked < 2 ^ 64 → Gatherable S 2 side (bit_xor x marked)
side_others S side x marked e l small fits = record { place = λ u h. omega (arith, e, has_below 64 (bit_xor x marked) u (xor_lt 64 x marked small fits) h) }

-- a step to a node from which the sink is reached
home_step : (S : List ℕ) (t a b : ℕ) → b < 128 → T (step (masked S) a b) → Reaches (step (masked S)) 128 b (inn t) → Reaches (step (masked S)) 128 a (inn t)
home_step S t a b l s r = reaches_step (step (masked S)) 128 a b (inn t) l s r

module _ (S : List ℕ) (t x : ℕ) (G : Sidable S t x) (small : x < 2 ^ 64) where
  -- from an out-node to an in-node, and from an in-node to an out-node
  from_out : (u v : ℕ) → Has (at S (2 * u + 1)) v → Home S t inn v → u < 64 → Home S t out u
  from_out u v h H l = record { job = l; home = home_step S t (out u) (inn v) (omega (arith, H.job)) (step_made S (out u) (inn v) (omega arith) held) H.home }
    where
      held : Has (at S (out u)) (inn v / 2)
      held = let e : inn v / 2 ≡ v = omega arith in let f : out u ≡ 2 * u + 1 = suc-eq-add-one (2 * u) in subst (λ (z : ℕ). Has (at S (out u)) z) (sym e) (subst (λ (z : ℕ). Has (at S z) v) (sym f) h)

  from_in : (u v : ℕ) → Has (at S (2 * u + 0)) v → Home S t out v → u < 64 → Home S t inn u
  from_in u v h H l = record { job = l; home = home_step S t (inn u) (out v) (omega (arith, H.job)) (step_made S (inn u) (out v) (omega arith) held) H.home }
    where
      held : Has (at S (inn u)) (out v / 2)
      held = let e : out v / 2 ≡ v = omega arith in let f : inn u ≡ 2 * u + 0 = omega arith in subst (λ (z : ℕ). Has (at S (inn u)) z) (sym e) (subst (λ (z : ℕ). Has (at S z) v) (sym f) h)

  pub side_start : (b : ℕ) → b ≡ 2 ^ t → Siding S t x b 0
  side_start b eb = record {
    given = G;
    in_small = subst (λ (z : ℕ). z < 2 ^ 64) (sym eb) (pow-lt G.job);
    out_small = lit< tt;
    in_part = λ u h. subst (Has x) (sym (only u h)) G.member;
    out_part = λ u h. absurd (rest_end 0 u refl h);
    in_home = λ u h. subst (Home S t inn) (sym (only u h)) (record { job = G.job; home = reaches_here (step (masked S)) 128 (inn t) });
    out_home = λ u h. absurd (rest_end 0 u refl h);
    sink = subst (λ (z : ℕ). Has z t) (sym eb) (bit_pow_same t);
  }
    where
      only : (u : ℕ) → Has b u → u ≡ t
      only u h = has_pow_cases t u (subst (λ (z : ℕ). Has z u) eb h)

-- ---- the out-nodes

module _ (S : List ℕ) (t x ins outs : ℕ) (small : x < 2 ^ 64) (D : Siding S t x ins outs) (more : ℕ) (M : MaskOf (Hits S 2 1 (bit_xor x outs) ins) more) where
  -- what is added is of x
  late : (u : ℕ) → Has more u → Has x u
  late u h = (has_xor x outs u (D.out_part u) (M.sound u h).member).0

  pub side_out : Siding S t x ins (bit_or outs more)
  side_out = record {
    given = D.given;
    in_small = D.in_small;
    out_small = or_lt 64 outs more D.out_small M.small;
    in_part = D.in_part;
    out_part = λ u h. part u (has_or_cases outs more u h);
    in_home = D.in_home;
    out_home = λ u h. home u (has_or_cases outs more u h);
    sink = D.sink;
  }
    where
      part : (u : ℕ) → Has outs u ⊎ Has more u → Has x u
      part u (inl h) = D.out_part u h
      part u (inr h) = late u h

      home : (u : ℕ) → Has outs u ⊎ Has more u → Home S t out u
      home u (inl h) = D.out_home u h
      home u (inr h) = let m = M.sound u h in from_out S t x D.given small u m.other m.named (D.in_home m.other m.hit) (has_below 64 x u small (late u h))

  pub side_shut : Shut S x ins (bit_or outs more)
  side_shut u v m s h = go (ℕ_discrete (bit outs u) 1)
    where
      go : Dec (bit outs u ≡ 1) → Has (bit_or outs more) u
      go (yes e) = has_or_l outs more u e
      go (no e) = has_or_r outs more u (M.complete u (record { member = xor_has x outs u m e; other = v; named = s; hit = h }))

-- steps from the nodes of side i, where that is the out-nodes
pub out_side : (S : List ℕ) (x ins outs i more : ℕ) → i ≡ 1 → MaskOf (Hits S 2 i (bit_xor x outs) ins) more → MaskOf (Hits S 2 1 (bit_xor x outs) ins) more
out_side S x ins outs i more e M = subst (λ (j : ℕ). MaskOf (Hits S 2 j (bit_xor x outs) ins) more) e M

-- ---- the in-nodes

module _ (S : List ℕ) (t x ins outs : ℕ) (small : x < 2 ^ 64) (D : Siding S t x ins outs) (fresh : ℕ) (M : MaskOf (Hits S 2 0 (bit_xor x ins) outs) fresh) where
  -- what is fresh is of x, and not in ins
  new : (u : ℕ) → Has fresh u → Has x u × (Has ins u → ⊥)
  new u h = has_xor x ins u (D.in_part u) (M.sound u h).member

  pub side_grow : fresh ≢ 0 → ins < bit_or ins fresh
  side_grow ne = let k = (trailing_has 64 fresh M.small ne).0 in or_grows ins fresh (count_trailing_zeros 64 fresh) (new (count_trailing_zeros 64 fresh) k).1 k

  pub side_small : bit_or ins fresh < 2 ^ 64
  side_small = or_lt 64 ins fresh D.in_small M.small

  pub side_turn : Siding S t x (bit_or ins fresh) outs
  side_turn = record {
    given = D.given;
    in_small = side_small;
    out_small = D.out_small;
    in_part = λ u h. part u (has_or_cases ins fresh u h);
    out_part = D.out_part;
    in_home = λ u h. home u (has_or_cases ins fresh u h);
    out_home = D.out_home;
    sink = has_or_l ins fresh t D.sink;
  }
    where
      part : (u : ℕ) → Has ins u ⊎ Has fresh u → Has x u
      part u (inl h) = D.in_part u h
      part u (inr h) = (new u h).0

      home : (u : ℕ) → Has ins u ⊎ Has fresh u → Home S t inn u
      home u (inl h) = D.in_home u h
      home u (inr h) = let m = M.sound u h in from_in S t x D.given small u m.other m.named (D.out_home m.other m.hit) (has_below 64 x u small (new u h).0)

  pub side_end : fresh ≡ 0 → Shut S x ins outs → Sided S t ins outs
  side_end z shut = record {
    inns = record { small = D.in_small; sound = D.in_home; complete = λ u H. (walked (inn u) H.home.path (let l = H.job in omega arith) H.home.walk).0 u refl };
    outer = record { small = D.out_small; sound = D.out_home; complete = λ u H. (walked (out u) H.home.path (let l = H.job in omega arith) H.home.walk).1 u refl };
  }
    where
      -- from a node of the side the walk's first node was reached
      back_out : (u v : ℕ) → u < 64 → v < 64 → T (step (masked S) (out u) (inn v)) → Has ins v → Has outs u
      back_out u v lu lv s h =
          let k = step_parts S (out u) (inn v) s in
          let m : Has x u = (let e : out u / 2 ≡ u = omega arith in subst (Has x) e (D.given.only (out u) (inn v) (omega arith) (omega arith) s)) in
          let e : inn v / 2 ≡ v = omega arith in
          let f : out u ≡ 2 * u + 1 = suc-eq-add-one (2 * u) in
          shut u v m (subst (λ (z : ℕ). Has (at S z) v) f (subst (λ (z : ℕ). Has (at S (out u)) z) e k.1)) h

      back_in : (u v : ℕ) → u < 64 → v < 64 → T (step (masked S) (inn u) (out v)) → Has outs v → Has ins u
      back_in u v lu lv s h = go (ℕ_discrete (bit ins u) 1)
        where
          go : Dec (bit ins u ≡ 1) → Has ins u
          go (yes q) = q
          go (no q) =
              let k = step_parts S (inn u) (out v) s in
              let m : Has x u = (let e : inn u / 2 ≡ u = omega arith in subst (Has x) e (D.given.only (inn u) (out v) (omega arith) (omega arith) s)) in
              let e : out v / 2 ≡ v = omega arith in
              let f : inn u ≡ 2 * u + 0 = omega arith in
              absurd (rest_end fresh u z (M.complete u (record {
                member = xor_has x ins u m q;
                other = v;
                named = subst (λ (z : ℕ). Has (at S z) v) f (subst (λ (z : ℕ). Has (at S (inn u)) z) e k.1);
                hit = h;
              })))

      -- a walk to the sink starts on the side
      walked : (a : ℕ) (p : List ℕ) → a < 128 → Walk (step (masked S)) 128 a (inn t) p → ((u : ℕ) → a ≡ inn u → Has ins u) × ((u : ℕ) → a ≡ out u → Has outs u)
      walked a [] l w = (λ u e. let q : t ≡ u = omega (arith, w) in subst (Has ins) q D.sink, λ u e. absurd (omega (arith, w)))
      walked a (b ∷ p) l w =
          let r = walked b p w.0 w.2 in
          let o = (step_parts S a b w.1).0 in
          let lb : b / 2 < 64 = omega (arith, w.0) in (
            λ u e.
                let q : b ≡ out (b / 2) = omega arith in
                back_in u (b / 2) (omega arith) lb (subst (λ (z : ℕ). T (step (masked S) (inn u) z)) q (subst (λ (z : ℕ). T (step (masked S) z b)) e w.1)) (r.1 (b / 2) q),
            λ u e.
                let q : b ≡ inn (b / 2) = omega arith in
                back_out u (b / 2) (omega arith) lb (subst (λ (z : ℕ). T (step (masked S) (out u) z)) q (subst (λ (z : ℕ). T (step (masked S) z b)) e w.1)) (r.0 (b / 2) q),
          )

-- ---- one result

pub sided_unique : (S : List ℕ) (t ins outs ins' outs' : ℕ) → Sided S t ins outs → Sided S t ins' outs' → (ins ≡ ins') × (outs ≡ outs')
sided_unique S t ins outs ins' outs' a b = (mask_unique (Home S t inn) ins ins' a.inns b.inns, mask_unique (Home S t out) outs outs' a.outer b.outer)
