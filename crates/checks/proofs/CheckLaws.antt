-- The checks' loops: their invariants, start, turn and end.
-- Assumes nothing.
--
--   Itself, Apart p     job p.0 with the row p.1 waits for itself, or does not; looped_cases: what a search of the jobs for one says
--   Added costs k s     the costs below k are in range, and s is their sum; added_start, added_turn, added_fits, added_zero, added_dear, added_positive, added_end
--   summed_small        what the sum of all costs is at most
use mathlib.Core.Path.{◌≡◌, refl, sym, ap, ◌∙◌, subst}
use mathlib.Core.Logic.{◌≢◌, inl, inr}
use mathlib.Core.Bool.{Bool, true, false}
use mathlib.Core.List.{List}
use Prim.Native.Nat.{ℕ, ◌+◌, ◌*◌, ◌/◌, ◌%◌, ◌^◌, ◌<◌, ◌≤◌, zero-le}
use native.Mathlib.Omega.{arith}
use native.Mathlib.Numerals.{suc-eq-add-one}
use borrow.Author.Count.{below_more}
use lib.ListN.{length, get_or}
use Rattle.std.proofs.Common.{zero-add}
use Rattle.std.specs.Bool.{MatchBool}
use Rattle.std.specs.List.{HoldsAt, AllWithin, enumerate_from}
use Rattle.std.proofs.lemmas.List.FromFn.{get_or-enumerate_from, length-enumerate_from}
use Rattle.bits.specs.Mask.{bit}
use Rattle.sums.specs.Sum.{sum}
use Rattle.sums.proofs.SumLaws.{sum_mono, sum_const, sum_term}
use Rattle.graph.proofs.WaitLaws.{waits_has, has_waits, waits_below}
use Rattle.network.specs.Costs.{cost_at}
use Rattle.checks.specs.Checks.{Looped, Summed}
use Rattle.checks.specs.Checks.Looped.{some, none}
use Rattle.checks.specs.Checks.Summed.{strayed, whole}

-- ---- no job waits for itself

-- a job with its row waits for itself
abbrev pub Itself : ℕ × ℕ → Type 0
Itself p = p.1 / 2 ^ p.0 % 2 ≡ 1

abbrev pub Apart : ℕ × ℕ → Type 0
Apart p = p.1 / 2 ^ p.0 % 2 ≢ 1

-- the jobs with their rows
abbrev pub numbered : List ℕ → List (ℕ × ℕ)
numbered rows = enumerate_from 0 rows

job_with_row : (rows : List ℕ) (j : ℕ) → j < length rows → get_or (numbered rows) j (0, 0) ≡ (j, get_or rows j 0)
job_with_row rows j l = get_or-enumerate_from 0 rows j (0, 0) l ∙ ap (λ (k : ℕ). (k, get_or rows j 0)) (zero-add j)

pub looped_cases : (rows : List ℕ) (b : Bool)
    → MatchBool b ((k : ℕ) × (k < length (numbered rows)) × HoldsAt Itself (numbered rows) k) (AllWithin Apart (numbered rows) 0 (length (numbered rows)))
    → Looped rows b
unfolding bit
looped_cases rows true h =
    let l : h.0 < length rows = omega (arith, length-enumerate_from 0 rows) in
    some h.0 (has_waits rows h.0 h.0 (subst Itself (job_with_row rows h.0 l) (h.2 (0, 0))))
looped_cases rows false h = none (λ j t.
    let l = waits_below rows j j t in
    let m : j < length (numbered rows) = omega (arith, length-enumerate_from 0 rows) in
    subst Apart (job_with_row rows j l) (h j (0, 0) zero-le m) (waits_has rows j j t))

-- ---- the sum of costs in range

pub record Added (costs : List ℕ) (k s : ℕ) : Type 0 where
  pub few : length costs ≤ 64
  pub under : k ≤ length costs
  pub fit : (j : ℕ) → j < k → (0 < cost_at costs j) × (cost_at costs j ≤ 2 ^ 42)
  pub total : s ≡ sum k (cost_at costs)
  pub small : s ≤ k * 2 ^ 42

pub added_start : (costs : List ℕ) → length costs ≤ 64 → Added costs 0 0
unfolding sum
added_start costs l = record { few = l; under = zero-le; fit = λ j m. absurd (omega arith); total = refl; small = zero-le }

pub added_turn : (costs : List ℕ) (k s : ℕ) → Added costs k s → k < length costs → (get_or costs k 0 ≡ 0 → ⊥) → get_or costs k 0 ≤ 2 ^ 42 → Added costs (k + 1) (s + get_or costs k 0)
unfolding sum cost_at
added_turn costs k s A l ne m = record {
  few = A.few;
  under = omega arith;
  fit = below_more (λ (j : ℕ). (0 < cost_at costs j) × (cost_at costs j ≤ 2 ^ 42)) k A.fit (omega arith, m);
  total = ap (λ (z : ℕ). z + get_or costs k 0) A.total ∙ ap (λ (z : ℕ). sum z (cost_at costs)) (suc-eq-add-one k);
  small = omega (arith, m, A.small);
}

-- what is added fits
pub added_fits : (costs : List ℕ) (k s : ℕ) → Added costs k s → k < length costs → get_or costs k 0 ≤ 2 ^ 42 → s + get_or costs k 0 < 2 ^ 64
added_fits costs k s A l m = omega (arith, m, A.small, A.few)

pub added_zero : (costs : List ℕ) (k : ℕ) → k < length costs → get_or costs k 0 ≡ 0 → Summed costs 0
unfolding cost_at
added_zero costs k l e = strayed k l (inl e)

pub added_dear : (costs : List ℕ) (k : ℕ) → k < length costs → 2 ^ 42 < get_or costs k 0 → Summed costs 0
unfolding cost_at
added_dear costs k l e = strayed k l (inr e)

-- the sum of some costs in range is above 0
pub added_positive : (costs : List ℕ) (k s : ℕ) → Added costs k s → length costs ≤ k → 0 < length costs → 0 < s
added_positive costs k s A l nonempty =
    let m : 0 < k = omega arith in
    omega (arith, (A.fit 0 m).0, sum_term k (cost_at costs) 0 m, A.total)

pub added_end : (costs : List ℕ) (k s : ℕ) → Added costs k s → length costs ≤ k → Summed costs s
added_end costs k s A l =
    let e : k ≡ length costs = omega (arith, A.under) in
    subst (Summed costs) (sym (A.total ∙ ap (λ (z : ℕ). sum z (cost_at costs)) e)) (whole (λ j m. A.fit j (omega arith)))

-- the sum of at most 64 such costs
pub summed_small : (costs : List ℕ) (s : ℕ) → length costs ≤ 64 → Summed costs s → s ≤ 64 * 2 ^ 42
summed_small costs s few (strayed j l k) = zero-le
summed_small costs s few (whole f) =
    let m = sum_mono (length costs) (cost_at costs) (λ j. 2 ^ 42) (λ j l. (f j l).1) in
    omega (arith, m, sum_const (length costs) (2 ^ 42), few)
