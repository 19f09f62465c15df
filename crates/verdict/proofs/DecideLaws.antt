-- From the flow layer's statement to the verdict: what `decide` returns in each of its four cases is what the document says.
-- Assumes nothing.
--
--   through_none, through_some   what the graph layer says of rings through T
--   x_exact            the mask of X tests X
--   decide_accepted    an input without faults, with its X, is what the rounds are made on
--   decide_waits, decide_unfinished, decide_itself, decide_others   the four cases
--   cleared_faultless, cleared_ringed, called_cleared   the same input on the cleared list, and a call on it
--   price_inflow, inflow_summable   the flow into T is the price of the set, and can be added up
use mathlib.Core.Path.{◌≡◌, refl, sym, ◌∙◌, subst}
use mathlib.Core.Bool.{Bool, true, false}
use mathlib.Core.List.{List}
use Prim.Native.Nat.{ℕ, suc, ◌+◌, ◌*◌, ◌^◌, ◌<◌, ◌≤◌}
use native.Mathlib.Omega.{arith}
use lib.Bits.{bit_and, bit_xor, and_lt, xor_lt}
use lib.Arith.{digits_lt}
use lib.Dec.{T}
use lib.ListN.{length, get_or}
use Rattle.bits.specs.Mask.{Has, has, MaskOf}
use Rattle.bits.proofs.Masks.{has_test, test_has, has_and, and_has, has_xor, xor_has}
use Rattle.sums.specs.Sum.{gate}
use Rattle.sums.specs.Tests.{both}
use Rattle.sums.proofs.TestLaws.{both_left}
use Rattle.sums.proofs.SumLaws.{sum_cong, sum_mono, gate_le}
use Rattle.walks.specs.Walk.{Reaches}
use Rattle.walks.proofs.ReachLaws.{reaches_here, reaches_in}
use Rattle.graph.specs.Waits.{waits}
use Rattle.graph.specs.Rings.{Ring, InX, RingThrough}
use Rattle.graph.specs.Rings.RingThrough.{some, none}
use Rattle.network.specs.Rooms.{Room, step}
use Rattle.network.specs.Rounds.{Stuck}
use Rattle.network.specs.Rounds.Rounds.{none as no-round}
use Rattle.network.specs.Arcs.{inn, out, within, total, job_capacity, capacity}
use Rattle.network.specs.Sets.{Exactly, Best, price}
use Rattle.network.proofs.ArcLaws.{net_unused}
use Rattle.network.proofs.SinkSide.{Crossing}
use Rattle.network.proofs.BestLaws.{crossing_best, best_price}
use Rattle.network.specs.Costs.{cost_at}
use Rattle.flow.specs.Accepted.{Accepted}
use Rattle.sheet.specs.Cleared.{Cleared}
use Rattle.flow.specs.Flowed.{Side, Ends, Flowed}
use Rattle.flow.specs.Flowed.Ends.{settled, unfinished as ends-unfinished}
use Rattle.sheet.specs.Inflow.{inflow_of, Summable}
use Rattle.verdict.specs.declared.Outcome.TheVariants.{Wait, AbortT, AbortOthers, NotYet}
use Rattle.verdict.specs.declared.Decision.{Decision}
use Rattle.verdict.specs.Results.Answer.{Decided}
use Rattle.checks.specs.Refusals.{Faultless}
use Rattle.verdict.specs.Answers.{After, Victims, Verdict}
use Rattle.verdict.specs.Answers.Verdict.{stays, itself, others, unfinished}
use Rattle.verdict.specs.Called.{Flows, Ringed, Called}
use Rattle.verdict.specs.Called.Called.{answers}
use Rattle.checks.proofs.RefusalLaws.{faultless_few, faultless_job, faultless_jobs, faultless_apart, faultless_priced, faultless_positive, faultless_bounded, faultless_size}

-- ---- what the last round leaves, by whether a path is left

ends_left : (r : Room) (n τ k a : ℕ) (b : Bool) (ins outs : ℕ) → Ends r n τ k a b ins outs → b ≡ true → (k ≡ a) × Reaches (step r) (2 * n) (out τ) (inn τ)
ends_left r n τ k a b ins outs (settled s i o) e = absurd (subst T (sym e) tt)
ends_left r n τ k a b ins outs (ends-unfinished q p) e = (q, p)

ends_settled : (r : Room) (n τ k a : ℕ) (b : Bool) (ins outs : ℕ) → Ends r n τ k a b ins outs → b ≡ false
    → Stuck (2 * n) (out τ) (inn τ) r × MaskOf (Side r n τ inn) ins × MaskOf (Side r n τ out) outs
ends_settled r n τ k a b ins outs (settled s i o) e = (s, i, o)
ends_settled r n τ k a b ins outs (ends-unfinished q p) e = absurd (subst T e tt)

-- ---- whether a ring passes through T

pub through_none : (w : ℕ → ℕ → Bool) (n τ : ℕ) (b : Bool) → RingThrough w n τ b → b ≡ false → (p : List ℕ) → Ring w n τ p → ⊥
through_none w n τ b (some p r) e = absurd (subst T e tt)
through_none w n τ b (none f) e = f

pub through_some : (w : ℕ → ℕ → Bool) (n τ : ℕ) (b : Bool) → RingThrough w n τ b → b ≡ true → (p : List ℕ) × Ring w n τ p
through_some w n τ b (some p r) e = (p, r)
through_some w n τ b (none f) e = absurd (subst T (sym e) tt)

-- ---- the four cases

module _ (rows costs : List ℕ) (τ x : ℕ) (X : MaskOf (InX (waits rows) (length rows) τ) x) where
  pub x_exact : Exactly (length rows) (InX (waits rows) (length rows) τ) (has x)
  x_exact = record { sound = λ u l t. X.sound u (test_has x u t); complete = λ u l m. has_test x u (X.complete u m) }

  module _ (before : List ℕ) (F : Faultless rows costs τ (length before)) (B : (i : ℕ) → i < length rows * length rows → get_or before i 0 ≡ 0) where
    lτ : τ < length rows
    lτ = faultless_job rows costs τ (length before) F

    pub decide_accepted : Accepted rows costs τ x before
    decide_accepted = record {
      jobs = faultless_jobs rows costs τ (length before) F;
      apart = faultless_apart rows costs τ (length before) F;
      priced = faultless_priced rows costs τ (length before) F;
      positive = faultless_positive rows costs τ (length before) F;
      bounded = faultless_bounded rows costs τ (length before) F;
      job = lτ;
      member = X.complete τ (record { out = reaches_here (waits rows) (length rows) τ; home = reaches_here (waits rows) (length rows) τ });
      members = λ u h. reaches_in (waits rows) (length rows) τ u lτ (X.sound u h).out;
      size = faultless_size rows costs τ (length before) F;
      blank = B;
    }

    apart : (u : ℕ) → u < length rows → T (waits rows u u) → ⊥
    apart u l t = faultless_apart rows costs τ (length before) F u t

    -- ---- no ring: the list of zeros is that of no round

    within_apart : (u : ℕ) → T (within (waits rows) (has x) u u) → ⊥
    unfolding within
    within_apart u t = faultless_apart rows costs τ (length before) F u (both_left (waits rows u u) (both (has x u) (has x u)) t)

    unmoved : Flows rows costs τ 0 before before
    unfolding capacity
    unmoved = record {
      room = capacity (waits rows) (has x) (length rows) τ (cost_at costs);
      rounds = record { x = has x; exact = x_exact; made = no-round (λ a b la lb. refl) };
      flow = λ u v lu lv.
          B (u * length rows + v) (digits_lt lu lv)
          ∙ sym (net_unused (within (waits rows) (has x)) (job_capacity (has x) τ (cost_at costs)) (suc (total (length rows) (has x) (cost_at costs))) u v (within_apart u));
      size = refl;
      rest = λ i l. refl;
    }

    pub decide_waits : (allowance : ℕ) → ((p : List ℕ) → Ring (waits rows) (length rows) τ p → ⊥)
        → Called rows costs τ allowance before (Decided (record { outcome = Wait; price = 0; rounds = 0; victims = 0 })) before
    decide_waits allowance f = answers _ before F (stays f) unmoved

    module _ (allowance : ℕ) (after : List ℕ) (k : ℕ) (left : Bool) (ins outs : ℕ) (M : Flowed rows costs τ x allowance before after k left ins outs) where
      abbrev after_made : After (waits rows) (length rows) τ (cost_at costs) k M.room
      after_made = record { x = has x; exact = x_exact; made = M.made }

      flows_made : Flows rows costs τ k before after
      flows_made = record { room = M.room; rounds = after_made; flow = M.flow; size = M.size; rest = M.rest }

      pub decide_unfinished : (p : List ℕ) → Ring (waits rows) (length rows) τ p → left ≡ true
          → (d : Decision) → d ≡ record { outcome = NotYet; price = 0; rounds = k; victims = 0 } → Called rows costs τ allowance before (Decided d) after
      decide_unfinished p g l d e =
          let z = ends_left M.room (length rows) τ k allowance left ins outs M.ends l in
          let q : Verdict (waits rows) (length rows) τ (cost_at costs) allowance 3 0 k 0 =
          subst (λ (i : ℕ). Verdict (waits rows) (length rows) τ (cost_at costs) allowance 3 0 i 0) (sym z.0)
          (unfinished p g M.room (subst (λ (i : ℕ). After (waits rows) (length rows) τ (cost_at costs) i M.room) z.0 after_made) z.1) in
          rw e (answers _ after F q flows_made)

      -- ---- no path is left

      module _ (p : List ℕ) (g : Ring (waits rows) (length rows) τ p) (l : left ≡ false) where
        stuck : Stuck (2 * length rows) (out τ) (inn τ) M.room
        stuck = (ends_settled M.room (length rows) τ k allowance left ins outs M.ends l).0

        I : MaskOf (Side M.room (length rows) τ inn) ins
        I = (ends_settled M.room (length rows) τ k allowance left ins outs M.ends l).1

        O : MaskOf (Side M.room (length rows) τ out) outs
        O = (ends_settled M.room (length rows) τ k allowance left ins outs M.ends l).2

        -- the jobs of X from whose out-node the sink is reached, without those from whose in-node it is
        abbrev side : ℕ
        side = bit_and x outs

        abbrev pub set : ℕ
        set = bit_xor side (bit_and side ins)

        set_parts : (u : ℕ) → Has set u → Has x u × Has outs u × (Has ins u → ⊥)
        set_parts u h =
            let a = has_xor side (bit_and side ins) u (λ q. (has_and side ins u q).0) h in
            let b = has_and x outs u a.0 in
            (b.0, b.1, λ i. a.1 (and_has side ins u a.0 i))

        parts_set : (u : ℕ) → Has x u → Has outs u → (Has ins u → ⊥) → Has set u
        parts_set u hx ho hi = xor_has side (bit_and side ins) u (and_has x outs u hx ho) (λ q. hi (has_and side ins u q).1)

        crossing : Exactly (length rows) (Crossing M.room (has x) (length rows) τ) (has set)
        crossing = record {
          sound = λ u lu t.
              let s = set_parts u (test_has set u t) in
              let o = O.sound u s.1 in
              record {
                member = has_test x u s.0;
                other = λ e. let q = subst (λ (z : ℕ). Reaches (step M.room) (2 * length rows) (out z) (inn τ)) e o.home in stuck q.path q.walk;
                home = o.home;
                barred = λ q. s.2 (I.complete u (record { job = lu; home = q }));
              };
          complete = λ u lu q. has_test set u (parts_set u (test_has x u q.member) (O.complete u (record { job = lu; home = q.home })) (λ h. q.barred (I.sound u h).home));
        }

        best : Best (waits rows) (length rows) τ (cost_at costs) (has set)
        best = crossing_best (waits rows) (length rows) τ (has x) x_exact lτ apart (cost_at costs) k M.room M.made stuck (has set) crossing

        -- its price is what flows into T
        pub price_inflow : inflow_of after (length rows) τ ≡ price (length rows) (cost_at costs) (has set)
        unfolding inflow_of
        price_inflow =
            sum_cong (length rows) (λ v. get_or after (v * length rows + τ) 0) (λ v. gate (within (waits rows) (has x) v τ) (M.room (inn τ) (out v))) (λ v lv. M.flow v τ lv lτ)
            ∙ sym (best_price (waits rows) (length rows) τ (has x) x_exact lτ apart (cost_at costs) k M.room M.made stuck (has set) best)

        -- which can be added up: no set costs more than all jobs
        pub inflow_summable : Summable after (length rows) τ
        unfolding price
        inflow_summable = record {
          few = faultless_few rows costs τ (length before) F;
          size = omega (arith, M.size, faultless_size rows costs τ (length before) F);
          job = lτ;
          fits = omega (
            arith,
            price_inflow,
            sum_mono (length rows) (λ u. gate (has set u) (cost_at costs u)) (cost_at costs) (λ u l. gate_le (has set u) (cost_at costs u)),
            faultless_bounded rows costs τ (length before) F,
          );
        }

        victims : Victims (length rows) (has set) set
        victims = record {
          small = xor_lt 64 side (bit_and side ins) side_small (and_lt 64 side ins side_small I.small);
          sound = λ u h. (decide_accepted.members u (set_parts u h).0, has_test set u h);
          complete = λ u h. test_has set u h.1;
        }
          where
            side_small : bit_and x outs < 2 ^ 64
            side_small = and_lt 64 x outs X.small O.small

        pub decide_itself : (q v : ℕ) → q ≡ inflow_of after (length rows) τ → get_or costs τ 0 < q → v ≡ 2 ^ τ
            → Called rows costs τ allowance before (Decided (record { outcome = AbortT; price = get_or costs τ 0; rounds = k; victims = v })) after
        unfolding cost_at
        decide_itself q v e c f = rw f (answers _ after F
            (itself p g k M.room after_made stuck M.limit (has set) best (subst (λ (z : ℕ). cost_at costs τ < z) (e ∙ price_inflow) c)) flows_made)

        pub decide_others : (q : ℕ) → q ≡ inflow_of after (length rows) τ → q ≤ get_or costs τ 0
            → Called rows costs τ allowance before (Decided (record { outcome = AbortOthers; price = q; rounds = k; victims = set })) after
        unfolding cost_at
        decide_others q e c = answers _ after F
            (subst (λ (z : ℕ). Verdict (waits rows) (length rows) τ (cost_at costs) allowance 2 z k set) (sym (e ∙ price_inflow))
            (others p g k M.room after_made stuck M.limit (has set) best (subst (λ (z : ℕ). z ≤ cost_at costs τ) (e ∙ price_inflow) c) set victims)) flows_made

-- ---- the list before it was cleared

module _ (rows costs : List ℕ) (τ : ℕ) (old before : List ℕ) (C : Cleared (length rows) old before) where
  pub cleared_faultless : Faultless rows costs τ (length old) → Faultless rows costs τ (length before)
  cleared_faultless = subst (λ (z : ℕ). Faultless rows costs τ z) (sym C.size)

  pub cleared_ringed : Faultless rows costs τ (length old) → (x : ℕ) → MaskOf (InX (waits rows) (length rows) τ) x
      → (b : Bool) → RingThrough (waits rows) (length rows) τ b → b ≡ true → Ringed rows costs τ x before
  cleared_ringed F x X b r e = record {
    faultless = cleared_faultless F;
    exact = X;
    ring = subst (RingThrough (waits rows) (length rows) τ) e r;
    blank = C.none;
  }

  pub called_cleared : (allowance : ℕ) (after : List ℕ) (d : Decision) → Called rows costs τ allowance before (Decided d) after → Called rows costs τ allowance old (Decided d) after
  called_cleared allowance after d (answers e after' F v M) = answers e after'
      (subst (λ (z : ℕ). Faultless rows costs τ z) C.size F) v
      (record { room = M.room; rounds = M.rounds; flow = M.flow; size = M.size ∙ C.size; rest = λ i l. M.rest i l ∙ C.rest i l })
