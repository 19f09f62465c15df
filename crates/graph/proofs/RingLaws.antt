-- X and the rings through T.
-- Assumes nothing.
--
--   Homing                       x has jobs that T reaches and that reach T; the invariant of `on_rings`
--   home_start, home_gatherable, home_grow, home_small, home_turn, home_end
--   ring_some, ring_none         a ring through T passes a job of X that T waits for; ring_tested: so the code tests it
--   Lies u p                     job u stands in the list p
--   x_lies, lies_x               X is "T with all jobs that lie on a ring through T"
use mathlib.Core.Path.{◌≡◌, refl, sym, subst}
use mathlib.Core.Logic.{◌⊎◌, inl, inr, ⊎_elim, ◌≢◌}
use mathlib.Core.Bool.{Bool, not}
use mathlib.Core.List.{List, [], ◌∷◌}
use Prim.Native.Nat.{ℕ, ◌+◌, ◌*◌, ◌^◌, ◌<◌, zero-le, suc-le-suc}
use native.Mathlib.Omega.{arith}
use native.Mathlib.Decide.{ℕ_discrete}
use lib.Bits.{bit_and, bit_or, bit_xor, and_lt, or_lt}
use lib.Count.{count_trailing_zeros}
use lib.Dec.{T, eqb}
use lib.Pow.{pow-lt}
use lib.ListN.{length, get_or}
use Rattle.bits.specs.Mask.{bit, Has, MaskOf}
use Rattle.bits.proofs.Digits.{bit_zero, bit_pow_same}
use Rattle.bits.proofs.Masks.{has_and, and_has, has_or_l, has_or_cases, has_pow_cases, has_xor, xor_has, or_grows}
use Rattle.bits.proofs.Lowest.{trailing_has}
use Rattle.bits.proofs.Rest.{rest_end}
use Rattle.sums.proofs.TestLaws.{eqb_off}
use Rattle.walks.specs.Walk.{Walk, Reaches}
use Rattle.walks.proofs.ReachLaws.{reaches_here, reaches_step, reaches_on, reaches_in}
use Rattle.graph.specs.Waits.{waits, Jobs}
use Rattle.graph.specs.Rings.{Ring, InX, RingThrough}
use Rattle.graph.specs.Rings.RingThrough.{some, none}
use Rattle.graph.specs.Hits.{Gatherable, Hits}
use Rattle.graph.proofs.WaitLaws.{waits_has, has_waits}

-- ---- the way back

-- x has only jobs that T reaches and that reach T, among them T
pub record Homing (rows : List ℕ) (t away x : ℕ) : Type 0 where
  pub jobs : Jobs rows
  pub job : t < length rows
  pub reached : MaskOf (Reaches (waits rows) (length rows) t) away
  pub small : x < 2 ^ 64
  pub part : (u : ℕ) → Has x u → Has away u
  pub home : (u : ℕ) → Has x u → Reaches (waits rows) (length rows) u t
  pub sink : Has x t

-- what T reaches are jobs of the list
away_job : (rows : List ℕ) (t away : ℕ) → t < length rows → MaskOf (Reaches (waits rows) (length rows) t) away → (u : ℕ) → Has away u → u < length rows
away_job rows t away l A u h = reaches_in (waits rows) (length rows) t u l (A.sound u h)

pub home_start : (rows : List ℕ) (t away b : ℕ) → Jobs rows → t < length rows → MaskOf (Reaches (waits rows) (length rows) t) away → b ≡ 2 ^ t → Homing rows t away b
home_start rows t away b G l A e = record {
  jobs = G;
  job = l;
  reached = A;
  small = subst (λ (z : ℕ). z < 2 ^ 64) (sym e) (pow-lt {i = t} {j = 64} (omega (arith, G.few)));
  part = λ u h. subst (Has away) (sym (only u h)) (A.complete t (reaches_here (waits rows) (length rows) t));
  home = λ u h. subst (λ (z : ℕ). Reaches (waits rows) (length rows) z t) (sym (only u h)) (reaches_here (waits rows) (length rows) t);
  sink = subst (λ (z : ℕ). Has z t) (sym e) (bit_pow_same t);
}
  where
    only : (u : ℕ) → Has b u → u ≡ t
    only u h = has_pow_cases t u (subst (λ (z : ℕ). Has z u) e h)

module _ (rows : List ℕ) (t away x : ℕ) (H : Homing rows t away x) where
  -- the jobs that are looked at: what T reaches, without x
  left : (u : ℕ) → Has (bit_xor away x) u → Has away u × (Has x u → ⊥)
  left u h = has_xor away x u (H.part u) h

  pub home_gatherable : Gatherable rows 1 0 (bit_xor away x)
  home_gatherable = record { place = λ u h. let l = away_job rows t away H.job H.reached u (left u h).0 in omega arith }

  module _ (fresh : ℕ) (F : MaskOf (Hits rows 1 0 (bit_xor away x) x) fresh) where
    -- whoever is fresh waits for one of x
    wait : (u v : ℕ) → Has (get_or rows (1 * u + 0) 0) v → T (waits rows u v)
    wait u v h = let e : 1 * u + 0 ≡ u = omega arith in has_waits rows u v (subst (λ (z : ℕ). Has (get_or rows z 0) v) e h)

    pub home_grow : fresh ≢ 0 → x < bit_or x fresh
    home_grow ne =
        let h = (trailing_has 64 fresh F.small ne).0 in
        or_grows x fresh (count_trailing_zeros 64 fresh) (left (count_trailing_zeros 64 fresh) (F.sound (count_trailing_zeros 64 fresh) h).member).1 h

    pub home_small : bit_or x fresh < 2 ^ 64
    home_small = or_lt 64 x fresh H.small F.small

    pub home_turn : Homing rows t away (bit_or x fresh)
    home_turn = record {
      jobs = H.jobs;
      job = H.job;
      reached = H.reached;
      small = home_small;
      part = λ u h. ⊎_elim (H.part u) (λ k. (left u (F.sound u k).member).0) (has_or_cases x fresh u h);
      home = λ u h. ⊎_elim (H.home u) (far u) (has_or_cases x fresh u h);
      sink = has_or_l x fresh t H.sink;
    }
      where
        far : (u : ℕ) → Has fresh u → Reaches (waits rows) (length rows) u t
        far u k =
            let m = F.sound u k in
            let w = wait u m.other m.named in
            reaches_step (waits rows) (length rows) u m.other t (H.jobs.known u m.other w) w (H.home m.other m.hit)

    pub home_end : fresh ≡ 0 → MaskOf (InX (waits rows) (length rows) t) x
    home_end z = record {
      small = H.small;
      sound = λ u h. record { out = H.reached.sound u (H.part u h); home = H.home u h };
      complete = λ u m. back u m.home.path m.out m.home.walk;
    }
      where
        -- on a walk to T from what T reaches, every job is in x
        back : (u : ℕ) (p : List ℕ) → Reaches (waits rows) (length rows) t u → Walk (waits rows) (length rows) u t p → Has x u
        back u [] r e = subst (Has x) (sym e) H.sink
        back u (v ∷ p) r k = go (back v p (reaches_on (waits rows) (length rows) t u v r k.1 k.0) k.2) (ℕ_discrete (bit x u) 1)
          where
            go : Has x v → Dec (bit x u ≡ 1) → Has x u
            go h (yes q) = q
            go h (no q) =
                let e : u ≡ 1 * u + 0 = omega arith in
                absurd (rest_end fresh u z (F.complete u (record {
                  member = xor_has away x u (H.reached.complete u r) q;
                  other = v;
                  named = subst (λ (i : ℕ). Has (get_or rows i 0) v) e (waits_has rows u v k.1);
                  hit = h;
                })))

-- ---- a ring through T

module _ (rows : List ℕ) (t x : ℕ) (l : t < length rows) (X : MaskOf (InX (waits rows) (length rows) t) x) where
  pub ring_some : (row : ℕ) → row ≡ get_or rows t 0 → row < 2 ^ 64 → (bit_and row x ≡ 0 → ⊥) → (p : List ℕ) × Ring (waits rows) (length rows) t p
  ring_some row e small ne =
      let v = count_trailing_zeros 64 (bit_and row x) in
      let h = has_and row x v (trailing_has 64 (bit_and row x) (and_lt 64 row x small X.small) ne).0 in
      let m = X.sound v h.1 in
      let w : T (waits rows t v) = has_waits rows t v (subst (λ (z : ℕ). Has z v) e h.0) in
      (v ∷ m.home.path, (suc-le-suc zero-le, (reaches_in (waits rows) (length rows) t v l m.out, w, m.home.walk)))

  pub ring_none : (row : ℕ) → row ≡ get_or rows t 0 → bit_and row x ≡ 0 → (p : List ℕ) → Ring (waits rows) (length rows) t p → ⊥
  ring_none row e z [] r = omega (arith, r.0)
  ring_none row e z (v ∷ p) r =
      let q : Reaches (waits rows) (length rows) v t = record { path = p; walk = r.1.2 } in
      let s = reaches_on (waits rows) (length rows) t t v (reaches_here (waits rows) (length rows) t) r.1.1 r.1.0 in
      let h = and_has row x v (subst (λ (y : ℕ). Has y v) (sym e) (waits_has rows t v r.1.1)) (X.complete v (record { out = s; home = q })) in
      omega (arith, bit_zero v, subst (λ (y : ℕ). Has y v) z h)

  -- as the code tests it
  pub ring_tested : get_or rows t 0 < 2 ^ 64 → RingThrough (waits rows) (length rows) t (not (eqb (bit_and (get_or rows t 0) x) 0))
  ring_tested small = go (ℕ_discrete (bit_and (get_or rows t 0) x) 0)
    where
      go : Dec (bit_and (get_or rows t 0) x ≡ 0) → RingThrough (waits rows) (length rows) t (not (eqb (bit_and (get_or rows t 0) x) 0))
      go (yes e) = rw e (none (ring_none (get_or rows t 0) refl e))
      go (no e) = rw (eqb_off (bit_and (get_or rows t 0) x) 0 e) (let r = ring_some (get_or rows t 0) refl small e in some r.0 r.1)

-- ---- X in the document's other words

abbrev pub Lies : ℕ → List ℕ → Type 0
Lies u [] = ⊥
Lies u (v ∷ p) = (u ≡ v) ⊎ Lies u p

module _ (w : ℕ → ℕ → Bool) (n τ : ℕ) where
  -- a walk out and a walk home, one behind the other
  join : (a u : ℕ) (p q : List ℕ) → Walk w n a u p → Walk w n u τ q → (a ≡ u) ⊎ ((r : List ℕ) × Walk w n a τ r × Lies u r × (0 < length r))
  join a u [] q e h = inl e
  join a u (b ∷ p) q k h = go (join b u p q k.2 h)
    where
      go : (b ≡ u) ⊎ ((r : List ℕ) × Walk w n b τ r × Lies u r × (0 < length r)) → (a ≡ u) ⊎ ((r : List ℕ) × Walk w n a τ r × Lies u r × (0 < length r))
      go (inl e) = inr (b ∷ q, (k.0, k.1, subst (λ (z : ℕ). Walk w n z τ q) (sym e) h), inl (sym e), suc-le-suc zero-le)
      go (inr r) = inr (b ∷ r.0, (k.0, k.1, r.1), inr r.2, suc-le-suc zero-le)

  pub x_lies : (u : ℕ) → InX w n τ u → (u ≡ τ) ⊎ ((p : List ℕ) × Ring w n τ p × Lies u p)
  x_lies u m = go (join τ u m.out.path m.home.path m.out.walk m.home.walk)
    where
      go : (τ ≡ u) ⊎ ((r : List ℕ) × Walk w n τ τ r × Lies u r × (0 < length r)) → (u ≡ τ) ⊎ ((p : List ℕ) × Ring w n τ p × Lies u p)
      go (inl e) = inl (sym e)
      go (inr r) = inr (r.0, (r.3, r.1), r.2)

  -- on a walk to T from what T reaches, every job is in X
  split : (a u : ℕ) (p : List ℕ) → Reaches w n τ a → Walk w n a τ p → Lies u p → InX w n τ u
  split a u [] r k s = absurd s
  split a u (b ∷ p) r k (inl e) = subst (InX w n τ) (sym e) (record { out = reaches_on w n τ a b r k.1 k.0; home = record { path = p; walk = k.2 } })
  split a u (b ∷ p) r k (inr s) = split b u p (reaches_on w n τ a b r k.1 k.0) k.2 s

  pub lies_x : (u : ℕ) (p : List ℕ) → Ring w n τ p → Lies u p → InX w n τ u
  lies_x u p r s = split τ u p (reaches_here w n τ) r.1 s
