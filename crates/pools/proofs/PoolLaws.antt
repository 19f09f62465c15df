-- Waits out of a pool table: what `active_at` and `row` collect.
-- Assumes nothing.
--
--   active_at_lem, at_active  a job is active where its state is 1
--   Met states n s j k i     at one of the first k pools job j is waiting and job i is active
--   met_start, met_waits, met_skips, met_end   the start, a pool where j waits, one where it does not, the end
use mathlib.Core.Path.{◌≡◌, sym, subst}
use mathlib.Core.Logic.{◌⊎◌, inl, inr, ⊎_elim, ◌≢◌}
use mathlib.Core.List.{List}
use Prim.Native.Nat.{ℕ, ◌+◌, ◌<◌}
use native.Mathlib.Omega.{arith}
use native.Mathlib.Decide.{ℕ_discrete}
use lib.Bits.{bit_or}
use lib.Dec.{T, eqb, eqb→eq}
use lib.Pow.{pow_pos}
use Rattle.bits.specs.Mask.{MaskOf}
use Rattle.bits.proofs.Digits.{bit_zero}
use Rattle.bits.proofs.Masks.{mask_or, mask_same}
use Rattle.sums.proofs.TestLaws.{both_intro, both_left, both_right}
use Rattle.pools.specs.Pools.{is_active, is_waiting, blocks, state_at, ActiveAt, WaitsFor}

-- what the test of a state says
pub active_at_lem : (states : List ℕ) (n s p i : ℕ) → i < n → state_at states s i p ≡ 1 → ActiveAt states n s p i
active_at_lem states n s p i l e = record { job = l; active = subst (λ (z : ℕ). T (eqb z 1)) (sym e) tt }

pub at_active : (states : List ℕ) (n s p i : ℕ) → ActiveAt states n s p i → state_at states s i p ≡ 1
at_active states n s p i a = eqb→eq (state_at states s i p) 1 a.active

pub record Met (states : List ℕ) (n s j k i : ℕ) : Type 0 where
  pub job : i < n
  pub pool : ℕ
  pub here : pool < k
  pub blocked : T (blocks (state_at states s j pool) (state_at states s i pool))

module _ (states : List ℕ) (n s j : ℕ) where
  pub met_start : MaskOf (Met states n s j 0) 0
  met_start = record { small = pow_pos 64; sound = λ i h. absurd (omega (arith, bit_zero i)); complete = λ i h. absurd (omega (arith, h.here)) }

  more : (k i : ℕ) → Met states n s j k i → Met states n s j (k + 1) i
  more k i m = record { job = m.job; pool = m.pool; here = omega (arith, m.here); blocked = m.blocked }

  -- at the pool k, or before it
  parted : (k i : ℕ) → Met states n s j (k + 1) i → Met states n s j k i ⊎ T (blocks (state_at states s j k) (state_at states s i k))
  parted k i m = go (ℕ_discrete m.pool k)
    where
      go : Dec (m.pool ≡ k) → Met states n s j k i ⊎ T (blocks (state_at states s j k) (state_at states s i k))
      go (yes e) = inr (subst (λ (z : ℕ). T (blocks (state_at states s j z) (state_at states s i z))) e m.blocked)
      go (no e) = inl (record { job = m.job; pool = m.pool; here = omega (arith, m.here); blocked = m.blocked })

  pub met_waits : (k mask active : ℕ) → MaskOf (Met states n s j k) mask → state_at states s j k ≡ 2 → MaskOf (ActiveAt states n s k) active
      → MaskOf (Met states n s j (k + 1)) (bit_or mask active)
  unfolding blocks
  met_waits k mask active M e A = mask_same _ _ (bit_or mask active) (mask_or _ _ mask active M A)
      (λ i h. ⊎_elim (more k i) (λ a. record { job = a.job; pool = k; here = omega arith; blocked = both_intro (is_waiting (state_at states s j k)) (is_active (state_at states s i k)) waiting a.active }) h)
      (λ i m. ⊎_elim (λ a. inl a) (λ b. inr (record { job = m.job; active = both_right (is_waiting (state_at states s j k)) (is_active (state_at states s i k)) b })) (parted k i m))
    where
      waiting : T (is_waiting (state_at states s j k))
      waiting = subst (λ (z : ℕ). T (eqb z 2)) (sym e) tt

  pub met_skips : (k mask : ℕ) → MaskOf (Met states n s j k) mask → (state_at states s j k ≡ 2 → ⊥) → MaskOf (Met states n s j (k + 1)) mask
  unfolding blocks
  met_skips k mask M ne = mask_same _ _ mask M (more k)
      (λ i m. ⊎_elim (λ a. a) (λ b. absurd (ne (eqb→eq (state_at states s j k) 2 (both_left (is_waiting (state_at states s j k)) (is_active (state_at states s i k)) b)))) (parted k i m))

  -- a job is never active where it is waiting, so it is no other than itself that it waits for
  pub met_end : (k mask : ℕ) → MaskOf (Met states n s j k) mask → k ≡ s → MaskOf (WaitsFor states n s j) mask
  unfolding blocks
  met_end k mask M e = mask_same _ _ mask M
      (λ i m. record { job = m.job; apart = apart i m; pool = m.pool; here = omega (arith, m.here); blocked = m.blocked })
      (λ i w. record { job = w.job; pool = w.pool; here = omega (arith, w.here); blocked = w.blocked })
    where
      apart : (i : ℕ) → Met states n s j k i → j ≢ i
      apart i m q =
          let a = eqb→eq (state_at states s j m.pool) 2 (both_left (is_waiting (state_at states s j m.pool)) (is_active (state_at states s i m.pool)) m.blocked) in
          let b = eqb→eq (state_at states s i m.pool) 1 (both_right (is_waiting (state_at states s j m.pool)) (is_active (state_at states s i m.pool)) m.blocked) in
          let c : state_at states s j m.pool ≡ 1 = subst (λ (z : ℕ). state_at states s z m.pool ≡ 1) (sym q) b in
          omega (arith, a, c)
