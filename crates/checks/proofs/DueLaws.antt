-- Every input has its refusal or none: what the checks promise can be met by any lists of numbers.
-- Assumes nothing.
--
--   known_exists, looped_exists, summed_exists   what the single checks say
--   due_exists                                   a number is due, of 0 to 8; with `due_unique`: exactly one
use mathlib.Core.Path.{◌≡◌, refl}
use mathlib.Core.Logic.{◌⊎◌, inl, inr}
use mathlib.Core.Bool.{Bool, true, false}
use mathlib.Core.List.{List}
use Prim.Native.Nat.{ℕ, zero, suc, ◌+◌, ◌*◌, ◌^◌, ◌<◌, ◌≤◌}
use native.Mathlib.Nat.{pow-suc}
use native.Mathlib.Omega.{arith}
use native.Mathlib.Decide.{ℕ_discrete, dec_lt, dec_le}
use lib.Dec.{T, eqb, ltb, leb, eqb→eq, ltb→lt, lt→ltb, leb→le, le→leb}
use lib.Pow.{pow_pos}
use lib.ListN.{length, get_or}
use Rattle.bits.proofs.Lowest.{has_below}
use Rattle.sums.specs.Tests.{both, either, any}
use Rattle.sums.proofs.TestLaws.{both_intro, both_left, both_right, either_left, either_right, either_cases, tested, any_intro, any_elim, eqb_on}
use Rattle.graph.specs.Waits.{waits, Known}
use Rattle.graph.specs.Waits.Known.{all, stray as named}
use Rattle.graph.proofs.WaitLaws.{waits_has, waits_below}
use Rattle.network.specs.Costs.{cost_at}
use Rattle.checks.specs.Checks.{Looped, Summed}
use Rattle.checks.specs.Checks.Looped.{some, none as apart}
use Rattle.checks.specs.Checks.Summed.{strayed, whole}
use Rattle.checks.specs.Refusals.{Due}
use Rattle.checks.specs.Refusals.Due.{none}
use Rattle.checks.specs.Refusals.Fault.{empty, crowded, uneven, short, absent}
use Rattle.checks.proofs.CheckedLaws.{Checked, checked_1, checked_2, checked_3, checked_4, checked_5, checked_6, checked_7, checked_8, checked_9, checked_faultless, fault_4, fault_5, fault_7, fault_8, refuse}

-- ---- the single checks

below_pow : (x : ℕ) → x < 2 ^ x
below_pow zero = pow_pos 0
below_pow (suc x) = omega (arith, below_pow x, pow-suc 2 x)

pub known_exists : (rows : List ℕ) → (b : Bool) × Known rows b
known_exists rows = go (tested (any (length rows) strays))
  where
    -- row j names a job n or above; a row names numbers below itself
    strays : ℕ → Bool
    strays j = any (get_or rows j 0) (λ i. both (waits rows j i) (leb (length rows) i))

    known : (T (any (length rows) strays) → ⊥) → (j i : ℕ) → T (waits rows j i) → Dec (i < length rows) → i < length rows
    known f j i w (yes l) = l
    known f j i w (no l) = absurd (f (any_intro (length rows) strays j (waits_below rows j i w)
        (any_intro (get_or rows j 0) _ i (has_below (get_or rows j 0) (get_or rows j 0) i (below_pow (get_or rows j 0)) (waits_has rows j i w))
        (both_intro (waits rows j i) (leb (length rows) i) w (le→leb (length rows) i (omega arith))))))

    go : T (any (length rows) strays) ⊎ (T (any (length rows) strays) → ⊥) → (b : Bool) × Known rows b
    go (inl t) =
        let j = any_elim (length rows) strays t in
        let i = any_elim (get_or rows j.0 0) (λ i. both (waits rows j.0 i) (leb (length rows) i)) j.2 in
        (false, named j.0 i.0 (both_left (waits rows j.0 i.0) _ i.2) (leb→le (length rows) i.0 (both_right (waits rows j.0 i.0) _ i.2)))
    go (inr f) = (true, all (λ j i w. known f j i w (dec_lt i (length rows))))

pub looped_exists : (rows : List ℕ) → (b : Bool) × Looped rows b
looped_exists rows = go (tested (any (length rows) (λ j. waits rows j j)))
  where
    go : T (any (length rows) (λ j. waits rows j j)) ⊎ (T (any (length rows) (λ j. waits rows j j)) → ⊥) → (b : Bool) × Looped rows b
    go (inl t) = let j = any_elim (length rows) (λ j. waits rows j j) t in (true, some j.0 j.2)
    go (inr f) = (false, apart (λ j w. f (any_intro (length rows) (λ j. waits rows j j) j (waits_below rows j j w) w)))

pub summed_exists : (costs : List ℕ) → (s : ℕ) × Summed costs s
summed_exists costs = go (tested (any (length costs) strays))
  where
    strays : ℕ → Bool
    strays j = either (eqb (cost_at costs j) 0) (ltb (2 ^ 42) (cost_at costs j))

    out : (j : ℕ) → T (eqb (cost_at costs j) 0) ⊎ T (ltb (2 ^ 42) (cost_at costs j)) → (cost_at costs j ≡ 0) ⊎ (2 ^ 42 < cost_at costs j)
    out j (inl t) = inl (eqb→eq (cost_at costs j) 0 t)
    out j (inr t) = inr (ltb→lt (2 ^ 42) (cost_at costs j) t)

    fits : (j : ℕ) → (T (strays j) → ⊥) → Dec (cost_at costs j ≡ 0) → Dec (2 ^ 42 < cost_at costs j) → (0 < cost_at costs j) × (cost_at costs j ≤ 2 ^ 42)
    fits j f (yes e) d = absurd (f (either_left (eqb (cost_at costs j) 0) _ (rw (eqb_on (cost_at costs j) 0 e) tt)))
    fits j f (no e) (yes l) = absurd (f (either_right (eqb (cost_at costs j) 0) _ (lt→ltb (2 ^ 42) (cost_at costs j) l)))
    fits j f (no e) (no l) = (omega arith, omega arith)

    go : T (any (length costs) strays) ⊎ (T (any (length costs) strays) → ⊥) → (s : ℕ) × Summed costs s
    go (inl t) =
        let j = any_elim (length costs) strays t in
        (0, strayed j.0 j.1 (out j.0 (either_cases (eqb (cost_at costs j.0) 0) (ltb (2 ^ 42) (cost_at costs j.0)) j.2)))
    go (inr f) = (_, whole (λ j l. fits j (λ t. f (any_intro (length costs) strays j l t)) (ℕ_discrete (cost_at costs j) 0) (dec_lt (2 ^ 42) (cost_at costs j))))

-- ---- the chain of checks

module _ (rows costs : List ℕ) (τ work : ℕ) where
  abbrev Some : Type 0
  Some = (k : ℕ) × Due rows costs τ work k

  light : Checked rows costs τ work 8 → (s : ℕ) → Summed costs s → (s ≡ 0 → ⊥) → Dec (2 ^ 63 < s + 1) → Some
  light C s e ne (yes l) = (8, refuse rows costs τ work 8 C (fault_8 rows costs τ work C s e ne l))
  light C s e ne (no l) = (0, none (checked_faultless rows costs τ work (checked_9 rows costs τ work C s e ne (omega arith))))

  fit : Checked rows costs τ work 7 → (s : ℕ) → Summed costs s → Dec (s ≡ 0) → Some
  fit C s e (yes z) = (7, refuse rows costs τ work 7 C (fault_7 rows costs τ work s C e z))
  fit C s e (no z) = light (checked_8 rows costs τ work s C e z) s e z (dec_lt (2 ^ 63) (s + 1))

  there : Checked rows costs τ work 6 → Dec (length rows ≤ τ) → Some
  there C (yes l) = (6, refuse rows costs τ work 6 C (absent l))
  there C (no l) = let s = summed_exists costs in fit (checked_7 rows costs τ work C (omega arith)) s.0 s.1 (ℕ_discrete s.0 0)

  loose : Checked rows costs τ work 5 → (b : Bool) → Looped rows b → (b ≡ true) ⊎ (b ≡ false) → Some
  loose C b e (inl t) = (5, refuse rows costs τ work 5 C (fault_5 rows costs τ work b e t))
  loose C b e (inr f) = there (checked_6 rows costs τ work b C e f) (dec_le (length rows) τ)

  which : (b : Bool) → (b ≡ true) ⊎ (b ≡ false)
  which true = inl refl
  which false = inr refl

  known : Checked rows costs τ work 4 → (b : Bool) → Known rows b → (b ≡ true) ⊎ (b ≡ false) → Some
  known C b e (inl t) = let l = looped_exists rows in loose (checked_5 rows costs τ work b C e t) l.0 l.1 (which l.0)
  known C b e (inr f) = (4, refuse rows costs τ work 4 C (fault_4 rows costs τ work b e f))

  wide : Checked rows costs τ work 3 → Dec (work < length rows * length rows) → Some
  wide C (yes l) = (3, refuse rows costs τ work 3 C (short l))
  wide C (no l) = let k = known_exists rows in known (checked_4 rows costs τ work C (omega arith)) k.0 k.1 (which k.0)

  even : Checked rows costs τ work 2 → Dec (length costs ≡ length rows) → Some
  even C (yes e) = wide (checked_3 rows costs τ work C e) (dec_lt work (length rows * length rows))
  even C (no e) = (2, refuse rows costs τ work 2 C (uneven e))

  few : (length rows ≡ 0 → ⊥) → Dec (64 < length rows) → Some
  few ne (yes l) = (1, refuse rows costs τ work 1 (checked_1 rows costs τ work) (crowded l))
  few ne (no l) = even (checked_2 rows costs τ work ne (omega arith)) (ℕ_discrete (length costs) (length rows))

  pub due_exists : (k : ℕ) × Due rows costs τ work k
  due_exists = go (ℕ_discrete (length rows) 0)
    where
      go : Dec (length rows ≡ 0) → Some
      go (yes e) = (1, refuse rows costs τ work 1 (checked_1 rows costs τ work) (empty e))
      go (no e) = few e (dec_lt 64 (length rows))
