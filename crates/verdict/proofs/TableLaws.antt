-- The snapshots worked by hand: every entry of the table is right, by one test that antt computes.
-- Assumes nothing.
--
--   agrees n M v      the mask v names just the jobs below n of the set M; agrees_victims
--   accepted c        the case is an accepted snapshot, tested; accepted_faultless
--   test c            the verdict of the case computed, and held against what the table says
--   test_right        a case that passes is right
--   worked            every case of the table is right
--   program_case      and so is the document's program case
use mathlib.Core.Path.{◌≡◌, refl, sym, subst}
use mathlib.Core.Logic.{◌⊎◌, inl, inr}
use mathlib.Core.Bool.{Bool, true, false, not}
use mathlib.Core.List.{List, [], ◌∷◌}
use Prim.Native.Nat.{ℕ, suc, ◌*◌, ◌^◌, ◌<◌, ◌≤◌}
use native.Mathlib.Nat.{le_refl, lt_of_lt_of_le}
use native.Mathlib.Decide.{ℕ_discrete, dec_lt}
use native.Mathlib.Omega.{arith}
use lib.Dec.{T, eqb, ltb, leb, eqb→eq, ltb→lt, lt→ltb, leb→le, le→leb, T_not, not_T}
use lib.Pow.{pow_mono}
use lib.ListN.{length, get_or}
use Rattle.bits.specs.Mask.{has}
use Rattle.bits.proofs.Masks.{has_test, test_has}
use Rattle.bits.proofs.Lowest.{has_below}
use Rattle.sums.specs.Tests.{both, either, any}
use Rattle.sums.specs.Sum.{sum}
use Rattle.sums.proofs.TestLaws.{both_left, both_right, either_left, either_right, any_intro, tested, eqb_on}
use Rattle.walks.specs.Walk.{Reaches}
use Rattle.walks.proofs.ReachLaws.{reach, reach_reaches}
use Rattle.graph.specs.Waits.{waits}
use Rattle.graph.proofs.WaitLaws.{waits_has, waits_below}
use Rattle.graph.specs.Rings.{Ring, RingThrough}
use Rattle.graph.specs.Rings.RingThrough.{some, none}
use Rattle.network.specs.Rooms.{Room, step}
use Rattle.network.specs.Rounds.{Stuck}
use Rattle.network.specs.Arcs.{inn, out, capacity}
use Rattle.network.specs.Sets.{price}
use Rattle.network.proofs.SetLaws.{in_x, inx_exact}
use Rattle.network.proofs.BestLaws.{sink_set}
use Rattle.network.proofs.Computed.{ringed, ringed_right, run, Ran, run_right, run_best, unreached_stuck}
use Rattle.network.specs.Costs.{cost_at}
use Rattle.checks.specs.Refusals.{Faultless}
use Rattle.checks.proofs.RefusalLaws.{faultless_job, faultless_apart}
use Rattle.checks.proofs.CheckedLaws.{checked_faultless}
use Rattle.verdict.specs.Answers.{After, Victims, Verdict}
use Rattle.verdict.specs.Answers.Verdict.{stays, itself, others, unfinished}
use Rattle.verdict.specs.Worked.{Case, entry, Right, All, table}

-- ---- the victims

-- two tests that are equal
same : Bool → Bool → Bool
same true b = b
same false b = not b

same_eq : (a b : Bool) → T (same a b) → a ≡ b
unfolding same
same_eq true true t = refl
same_eq true false t = absurd t
same_eq false true t = absurd t
same_eq false false t = refl

agrees : ℕ → (ℕ → Bool) → ℕ → Bool
agrees n M v = both (both (leb n 64) (ltb v (2 ^ n))) (not (any n (λ u. not (same (has v u) (M u)))))

agrees_victims : (n : ℕ) (M : ℕ → Bool) (v : ℕ) → T (agrees n M v) → Victims n M v
unfolding agrees
agrees_victims n M v t = record {
  small = lt_of_lt_of_le below (pow_mono few);
  sound = λ u h. let l = has_below n v u below h in (l, subst T (equal u l) (has_test v u h));
  complete = λ u h. test_has v u (subst T (sym (equal u h.0)) h.1);
}
  where
    head : T (both (leb n 64) (ltb v (2 ^ n)))
    head = both_left (both (leb n 64) (ltb v (2 ^ n))) _ t

    few : n ≤ 64
    few = leb→le n 64 (both_left (leb n 64) (ltb v (2 ^ n)) head)

    below : v < 2 ^ n
    below = ltb→lt v (2 ^ n) (both_right (leb n 64) (ltb v (2 ^ n)) head)

    equal : (u : ℕ) → u < n → has v u ≡ M u
    equal u l = go (tested (same (has v u) (M u)))
      where
        go : T (same (has v u) (M u)) ⊎ (T (same (has v u) (M u)) → ⊥) → has v u ≡ M u
        go (inl s) = same_eq (has v u) (M u) s
        go (inr s) = absurd (T_not (any n (λ z. not (same (has v z) (M z)))) (both_right (both (leb n 64) (ltb v (2 ^ n))) _ t)
            (any_intro n (λ z. not (same (has v z) (M z))) u l (not_T (same (has v u) (M u)) s)))

-- ---- one case

-- outcome, price, rounds and victims are these
says : Case → ℕ → ℕ → ℕ → ℕ → Bool
says c o p k v = both (both (eqb c.outcome o) (eqb c.price p)) (both (eqb c.rounds k) (eqb c.victims v))

says_eq : (c : Case) (o p k v : ℕ) → T (says c o p k v) → (c.outcome ≡ o) × (c.price ≡ p) × (c.rounds ≡ k) × (c.victims ≡ v)
unfolding says
says_eq c o p k v t =
    let l = both_left (both (eqb c.outcome o) (eqb c.price p)) (both (eqb c.rounds k) (eqb c.victims v)) t in
    let r = both_right (both (eqb c.outcome o) (eqb c.price p)) (both (eqb c.rounds k) (eqb c.victims v)) t in (
      eqb→eq c.outcome o (both_left (eqb c.outcome o) (eqb c.price p) l),
      eqb→eq c.price p (both_right (eqb c.outcome o) (eqb c.price p) l),
      eqb→eq c.rounds k (both_left (eqb c.rounds k) (eqb c.victims v) r),
      eqb→eq c.victims v (both_right (eqb c.rounds k) (eqb c.victims v) r),
    )

-- the network of a case, and its jobs of X
abbrev w : Case → ℕ → ℕ → Bool
w c = waits c.rows

abbrev n : Case → ℕ
n c = length c.rows

abbrev cost : Case → ℕ → ℕ
cost c = cost_at c.costs

abbrev x : Case → ℕ → Bool
x c = in_x (w c) (n c) 0

-- no path is left: the set against T
settled : Case → ℕ × Room → Bool
settled c z =
    let M = sink_set (x c) (n c) 0 z.1 in
    elim (ltb (cost c 0) (price (n c) (cost c) M)) [
      | true ↦ says c 1 (cost c 0) z.0 1
      | false ↦ both (says c 2 (price (n c) (cost c) M) z.0 c.victims) (agrees (n c) M c.victims)
    ]

-- a ring passes through T
ended : Case → ℕ × Room → Bool
ended c z = elim (reach (step z.1) (2 * n c) (inn 0) (out 0)) [ true ↦ says c 3 0 c.allowance 0 | false ↦ settled c z ]

-- a job that no accepted snapshot has: its row names a job n or above or itself, or its cost is out of range
abbrev misnamed : Case → ℕ → Bool
misnamed c u = either (leb (2 ^ n c) (get_or c.rows u 0)) (w c u u)

abbrev mispriced : Case → ℕ → Bool
mispriced c u = either (eqb (cost c u) 0) (ltb (2 ^ 42) (cost c u))

unfit : Case → ℕ → Bool
unfit c u = either (misnamed c u) (mispriced c u)

accepted : Case → Bool
accepted c = both (both (ltb 0 (n c)) (leb (n c) 64)) (both (both (eqb (length c.costs) (n c)) (leb (suc (sum (n c) (cost c))) (2 ^ 63))) (not (any (n c) (unfit c))))

test : Case → Bool
test c =
    both (accepted c)
    (elim (ringed (w c) (n c) 0) [ true ↦ ended c (run (2 * n c) (out 0) (inn 0) c.allowance 0 (capacity (w c) (x c) (n c) 0 (cost c))) | false ↦ says c 0 0 0 0 ])

-- ---- a case that passes is right

accepted_faultless : (c : Case) → T (accepted c) → Faultless c.rows c.costs 0 (n c * n c)
unfolding accepted unfit
accepted_faultless c t = checked_faultless c.rows c.costs 0 (n c * n c) (record {
  some = λ m. let l = some in λ e. omega arith;
  few = λ m. leb→le (n c) 64 (both_right (ltb 0 (n c)) (leb (n c) 64) size);
  even = λ m. eqb→eq (length c.costs) (n c) (both_left (eqb (length c.costs) (n c)) (leb (suc (sum (n c) (cost c))) (2 ^ 63)) sums);
  wide = λ m. le_refl (n c * n c);
  known = λ m j i h. let l = waits_below c.rows j i h in has_below (n c) (get_or c.rows j 0) i (fits j l).0 (waits_has c.rows j i h);
  apart = λ m j h. (fits j (waits_below c.rows j j h)).1 h;
  there = λ m. some;
  fit = λ m j l. ((fits j l).2, (fits j l).3);
  light = λ m. leb→le (suc (sum (n c) (cost c))) (2 ^ 63) (both_right (eqb (length c.costs) (n c)) (leb (suc (sum (n c) (cost c))) (2 ^ 63)) sums);
})
  where
    size : T (both (ltb 0 (n c)) (leb (n c) 64))
    size = both_left (both (ltb 0 (n c)) (leb (n c) 64)) _ t

    some : 0 < n c
    some = ltb→lt 0 (n c) (both_left (ltb 0 (n c)) (leb (n c) 64) size)

    rest : T (both (both (eqb (length c.costs) (n c)) (leb (suc (sum (n c) (cost c))) (2 ^ 63))) (not (any (n c) (unfit c))))
    rest = both_right (both (ltb 0 (n c)) (leb (n c) 64)) _ t

    sums : T (both (eqb (length c.costs) (n c)) (leb (suc (sum (n c) (cost c))) (2 ^ 63)))
    sums = both_left (both (eqb (length c.costs) (n c)) (leb (suc (sum (n c) (cost c))) (2 ^ 63))) _ rest

    -- what a job is that is not unfit
    fits : (u : ℕ) → u < n c → (get_or c.rows u 0 < 2 ^ n c) × (T (w c u u) → ⊥) × (0 < cost c u) × (cost c u ≤ 2 ^ 42)
    fits u l = (go (dec_lt (get_or c.rows u 0) (2 ^ n c)), (λ h. none (either_left (misnamed c u) (mispriced c u) (either_right (leb (2 ^ n c) (get_or c.rows u 0)) (w c u u) h))), paid (ℕ_discrete (cost c u) 0), cheap (dec_lt (2 ^ 42) (cost c u)))
      where
        none : T (unfit c u) → ⊥
        none h = T_not (any (n c) (unfit c)) (both_right (both (eqb (length c.costs) (n c)) (leb (suc (sum (n c) (cost c))) (2 ^ 63))) _ rest) (any_intro (n c) (unfit c) u l h)

        go : Dec (get_or c.rows u 0 < 2 ^ n c) → get_or c.rows u 0 < 2 ^ n c
        go (yes m) = m
        go (no m) = absurd (none (either_left (misnamed c u) (mispriced c u) (either_left (leb (2 ^ n c) (get_or c.rows u 0)) (w c u u) (le→leb (2 ^ n c) (get_or c.rows u 0) (omega arith)))))

        paid : Dec (cost c u ≡ 0) → 0 < cost c u
        paid (yes e) = absurd (none (either_right (misnamed c u) (mispriced c u) (either_left (eqb (cost c u) 0) (ltb (2 ^ 42) (cost c u)) (rw (eqb_on (cost c u) 0 e) tt))))
        paid (no e) = omega arith

        cheap : Dec (2 ^ 42 < cost c u) → cost c u ≤ 2 ^ 42
        cheap (yes m) = absurd (none (either_right (misnamed c u) (mispriced c u) (either_right (eqb (cost c u) 0) (ltb (2 ^ 42) (cost c u)) (lt→ltb (2 ^ 42) (cost c u) m))))
        cheap (no m) = omega arith

-- the verdict of the case is what the table says
abbrev Says : Case → Type 0
Says c = Verdict (w c) (n c) 0 (cost c) c.allowance c.outcome c.price c.rounds c.victims

module _ (c : Case) (lτ : 0 < n c) (apart : (u : ℕ) → u < n c → T (w c u u) → ⊥) (p : List ℕ) (ring : Ring (w c) (n c) 0 p) (z : ℕ × Room)
    (R : Ran (2 * n c) (out 0) (inn 0) (capacity (w c) (x c) (n c) 0 (cost c)) c.allowance z) where
  after : After (w c) (n c) 0 (cost c) z.0 z.1
  after = record { x = x c; exact = inx_exact (w c) (n c) 0 lτ; made = R.rounds }

  settled_right : (b : Bool) → ltb (cost c 0) (price (n c) (cost c) (sink_set (x c) (n c) 0 z.1)) ≡ b → Stuck (2 * n c) (out 0) (inn 0) z.1
      → T (elim b [
        | true ↦ says c 1 (cost c 0) z.0 1
        | false ↦ both (says c 2 (price (n c) (cost c) (sink_set (x c) (n c) 0 z.1)) z.0 c.victims) (agrees (n c) (sink_set (x c) (n c) 0 z.1) c.victims)
      ]) → Says c
  settled_right true e stuck t =
      let q = says_eq c 1 (cost c 0) z.0 1 t in
      let M = sink_set (x c) (n c) 0 z.1 in
      let best = run_best (w c) (n c) 0 (cost c) lτ apart z.0 z.1 R.rounds stuck in
      rw (q.0, q.1, q.2, q.3) (itself p ring z.0 z.1 after stuck R.limit M best (ltb→lt (cost c 0) (price (n c) (cost c) M) (subst T (sym e) tt)))
  settled_right false e stuck t =
      let M = sink_set (x c) (n c) 0 z.1 in
      let q = says_eq c 2 (price (n c) (cost c) M) z.0 c.victims (both_left (says c 2 (price (n c) (cost c) M) z.0 c.victims) (agrees (n c) M c.victims) t) in
      let g = agrees_victims (n c) M c.victims (both_right (says c 2 (price (n c) (cost c) M) z.0 c.victims) (agrees (n c) M c.victims) t) in
      let best = run_best (w c) (n c) 0 (cost c) lτ apart z.0 z.1 R.rounds stuck in
      let few : price (n c) (cost c) M ≤ cost c 0 = at_most (cost c 0) (price (n c) (cost c) M) e in
      rw (q.0, q.1, q.2) (others p ring z.0 z.1 after stuck R.limit M best few c.victims g)
    where
      at_most : (i j : ℕ) → ltb i j ≡ false → j ≤ i
      at_most i j e = go (dec_lt i j)
        where
          go : Dec (i < j) → j ≤ i
          go (yes l) = absurd (subst T e (lt→ltb i j l))
          go (no l) = omega arith

  ended_right : (b : Bool) → reach (step z.1) (2 * n c) (inn 0) (out 0) ≡ b → T (elim b [ true ↦ says c 3 0 c.allowance 0 | false ↦ settled c z ]) → Says c
  unfolding settled
  ended_right true e t = go R.ended
    where
      path : Reaches (step z.1) (2 * n c) (out 0) (inn 0)
      path = reach_reaches (step z.1) (2 * n c) (inn 0) (out 0) (subst T (sym e) tt)

      go : Stuck (2 * n c) (out 0) (inn 0) z.1 ⊎ (z.0 ≡ c.allowance) → Says c
      go (inl stuck) = absurd (stuck path.path path.walk)
      go (inr k) =
          let q = says_eq c 3 0 c.allowance 0 t in
          rw (q.0, q.1, q.2, q.3) (unfinished p ring z.1 (subst (λ (i : ℕ). After (w c) (n c) 0 (cost c) i z.1) k after) path)
  ended_right false e t =
      settled_right (ltb (cost c 0) (price (n c) (cost c) (sink_set (x c) (n c) 0 z.1))) refl
      (unreached_stuck (2 * n c) (out 0) (inn 0) z.1 (omega arith) (λ h. subst T e h)) t

test_right : (c : Case) → T (test c) → Right c
unfolding test ended
test_right c t = (ok, go (ringed (w c) (n c) 0) (ringed_right (w c) (n c) 0) (both_right (accepted c) _ t))
  where
    ok : Faultless c.rows c.costs 0 (n c * n c)
    ok = accepted_faultless c (both_left (accepted c) _ t)

    lτ : 0 < n c
    lτ = faultless_job c.rows c.costs 0 (n c * n c) ok

    apart : (u : ℕ) → u < n c → T (w c u u) → ⊥
    apart u l = faultless_apart c.rows c.costs 0 (n c * n c) ok u

    go : (b : Bool) → RingThrough (w c) (n c) 0 b
        → T (elim b [ true ↦ ended c (run (2 * n c) (out 0) (inn 0) c.allowance 0 (capacity (w c) (x c) (n c) 0 (cost c))) | false ↦ says c 0 0 0 0 ]) → Says c
    go true (some p ring) s = ended_right c lτ apart p ring (run (2 * n c) (out 0) (inn 0) c.allowance 0 (capacity (w c) (x c) (n c) 0 (cost c)))
        (run_right (2 * n c) (out 0) (inn 0) (capacity (w c) (x c) (n c) 0 (cost c)) (omega (arith, lτ)) (λ e. omega arith) c.allowance)
        (reach (step (run (2 * n c) (out 0) (inn 0) c.allowance 0 (capacity (w c) (x c) (n c) 0 (cost c))).1) (2 * n c) (inn 0) (out 0)) refl s
    go false (none f) s = let q = says_eq c 0 0 0 0 s in rw (q.0, q.1, q.2, q.3) (stays f)

-- ---- the table

every : List Case → Bool
every [] = true
every (c ∷ cs) = both (test c) (every cs)

each : (cs : List Case) → T (every cs) → All Right cs
unfolding every
each [] t = tt
each (c ∷ cs) t = (test_right c (both_left (test c) (every cs) t), each cs (both_right (test c) (every cs) t))

-- THE THEOREM: each case of the table is right
pub worked : All Right table
unfolding every test accepted unfit ended settled says agrees same any sum waits ringed run capacity in_x cost_at price sink_set
worked = each table tt

-- the verdict of the document's program case: "costs 35 and 13, job 1 goes"
pub program_case : Right (entry (2 ∷ 1 ∷ []) (35 ∷ 13 ∷ []) 64 2 13 1 2)
unfolding every test accepted unfit ended settled says agrees same any sum waits ringed run capacity in_x cost_at price sink_set
program_case = test_right (entry (2 ∷ 1 ∷ []) (35 ∷ 13 ∷ []) 64 2 13 1 2) tt
