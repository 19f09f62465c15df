-- The rounds made so far, whichever way the path of the next one is found.
-- Assumes nothing.
--
--   Running                                  k rounds were made, and the lists hold and show their rooms
--   accepted_costed, accepted_fits, accepted_beginnable, accepted_ready
--                                            what `begin`, `search` and `descend` ask for
--   running_start                            before the first round
--   running_reaches, running_roundable       a path is left; what `round` asks for
--   running_next, running_aside              one more round
--   running_settled, running_left            no path is left; the allowance is used up
use mathlib.Core.Path.{◌≡◌, refl, sym, ap, ◌∙◌, subst}
use mathlib.Core.Logic.{◌≢◌}
use mathlib.Core.Bool.{Bool, true, false}
use mathlib.Core.List.{List}
use Prim.Native.Nat.{ℕ, ◌+◌, ◌*◌, ◌<◌, ◌≤◌, zero-le, ◌^◌}
use native.Mathlib.Numerals.{suc-eq-add-one}
use native.Mathlib.Omega.{arith}
use lib.ListN.{length, get_or, replicate, length-replicate}
use Rattle.bits.specs.Mask.{Has, has}
use Rattle.sums.specs.Sum.{gate}
use Rattle.walks.specs.Walk.{Reaches}
use Rattle.graph.specs.Waits.{waits}
use Rattle.network.specs.Rooms.{Room, step, push}
use Rattle.network.specs.Paths.{Taken}
use Rattle.network.specs.Rounds.{Rounds, Stuck}
use Rattle.network.specs.Rounds.Rounds.{none, more}
use Rattle.network.specs.Arcs.{inn, out, within, total, capacity}
use Rattle.search.specs.Masks.{at, masked}
use Rattle.search.specs.Sought.{Ready, Path}
use Rattle.push.specs.Way.{Way, Amount, PushedAlong, Roundable, Rounded}
use Rattle.side.specs.Home.{Sided}
use Rattle.network.specs.Costs.{cost_at}
use Rattle.flow.specs.Accepted.{Accepted}
use Rattle.flow.specs.Flowed.{Ends, Flowed}
use Rattle.flow.specs.Flowed.Ends.{settled, unfinished}
use Rattle.flow.specs.Inside.{Costed, Beginnable, Begun}
use Rattle.flow.proofs.StartLaws.{zeros}
use Rattle.flow.proofs.HeldLaws.{Held}
use Rattle.flow.proofs.ShownLaws.{Shown}
use Rattle.flow.proofs.NarrowLaws.{narrow_taken, narrow_stuck, narrow_side}
use Rattle.flow.proofs.WayLaws.{Aside, Kept, way_measurable, way_most, way_pushable, way_pushed}
use Rattle.flow.proofs.BeginLaws.{arc_of, job_of, wide_of, net_of, accepted_few, accepted_members, accepted_job, total_small, framed, held_start, shown_start}

pub record Running (rows costs : List ℕ) (τ x allowance wide : ℕ) (F G S : List ℕ) (k : ℕ) : Type 0 where
  -- the work list before the first round
  pub start : List ℕ
  pub accepted : Accepted rows costs τ x start
  -- the code's number is S + 1
  pub width : wide_of costs x ≡ wide
  -- the rooms after the rounds so far
  pub room : Room
  pub held : Held (arc_of rows x) (job_of costs τ x) (wide_of costs x) (length costs) room F G
  pub shown : Shown room (length costs) x S
  pub made : Rounds (2 * length costs) (out τ) (inn τ) (net_of rows costs τ x) k room
  pub limit : k ≤ allowance

pub accepted_costed : (rows costs : List ℕ) (τ x : ℕ) (F : List ℕ) → Accepted rows costs τ x F → Costed costs x
accepted_costed rows costs τ x F A = record { members = accepted_members rows costs τ x F A; bounded = omega (arith, total_small rows costs τ x F A) }

pub accepted_fits : (rows costs : List ℕ) (τ x : ℕ) (F : List ℕ) → Accepted rows costs τ x F → total (length costs) (has x) (cost_at costs) + 1 < 2 ^ 64
accepted_fits rows costs τ x F A = omega (arith, total_small rows costs τ x F A)

pub accepted_ready : (rows costs : List ℕ) (τ x : ℕ) (F qs ps : List ℕ) → Accepted rows costs τ x F → length qs ≡ 128 → length ps ≡ 128 → Ready (2 * τ + 1) (2 * τ) qs ps
accepted_ready rows costs τ x F qs ps A lq lp =
    let l = accepted_job rows costs τ x F A in
    let m = accepted_few rows costs τ x F A in
    record { source = omega arith; sink = omega arith; apart = λ e. omega arith; queue = lq; parent = lp }

pub accepted_beginnable : (rows costs : List ℕ) (τ x : ℕ) (F : List ℕ) → Accepted rows costs τ x F → Beginnable rows x
accepted_beginnable rows costs τ x F A = record { few = A.jobs.few; members = A.members }

pub running_start : (rows costs : List ℕ) (τ x allowance wide : ℕ) (F G S : List ℕ) → Accepted rows costs τ x F
    → wide ≡ total (length costs) (has x) (cost_at costs) + 1 → G ≡ replicate 64 0 → Begun rows τ x S → Running rows costs τ x allowance wide F G S 0
running_start rows costs τ x allowance wide F G S A ew eG B = record {
  start = F;
  accepted = A;
  width = omega arith;
  room = net_of rows costs τ x;
  held = held_start rows costs τ x F A G (ap length eG ∙ length-replicate {A = ℕ} 64 0) (λ u. ap (λ (g : List ℕ). at g u) eG ∙ zeros 64 u);
  shown = shown_start rows costs τ x F A S B;
  made = none (λ a b la lb. refl);
  limit = zero-le;
}

module _ (rows costs : List ℕ) (τ x allowance wide : ℕ) (F G S : List ℕ) (k : ℕ) (R : Running rows costs τ x allowance wide F G S k) where
  source : out τ < 2 * length costs
  source = let l = accepted_job rows costs τ x R.start R.accepted in omega arith

  few : length costs ≤ 64
  few = accepted_few rows costs τ x R.start R.accepted

  members : (u : ℕ) → Has x u → u < length costs
  members = accepted_members rows costs τ x R.start R.accepted

  -- ---- the next round

  module _ (qs ps : List ℕ) (e : ℕ) (lq : length qs ≡ 128) (lp : length ps ≡ 128) (le : e < 128) (some : e ≢ 0) (path : Path S (2 * τ + 1) (2 * τ) qs ps e) where
    way : Way qs ps e path.nodes
    way = record { queue = lq; parent = lp; place = le; some = some; leads = path.leads }

    start : at qs 0 ≡ out τ
    start = path.start ∙ sym (suc-eq-add-one (2 * τ))

    taken : Taken R.room (2 * length costs) (out τ) (inn τ) path.nodes
    taken = narrow_taken R.room (length costs) x S few members R.shown (out τ) (inn τ) path.nodes source
        (subst (λ (s : ℕ). Taken (masked S) 128 s (inn τ) path.nodes) (sym (suc-eq-add-one (2 * τ))) path.taken)

    pub running_reaches : Reaches (step R.room) (2 * length costs) (out τ) (inn τ)
    running_reaches = record { path = path.nodes; walk = taken.walk }

    pub running_roundable : Roundable costs wide F G S qs ps e
    running_roundable = subst (λ (z : ℕ). Roundable costs z F G S qs ps e) R.width (record {
      measurable = way_measurable (arc_of rows x) (job_of costs τ x) (wide_of costs x) costs (framed rows costs τ x R.start R.accepted) x R.room F G S R.held R.shown
          (out τ) (inn τ) source qs ps e start path.nodes way taken;
      pushable = way_pushable (arc_of rows x) (job_of costs τ x) (wide_of costs x) costs (framed rows costs τ x R.start R.accepted) x R.room F G S R.held R.shown
          (out τ) (inn τ) source qs ps e start path.nodes way taken;
    })

    module _ (F₁ G₁ S₁ : List ℕ) (P : Rounded costs wide F G S qs ps e F₁ G₁ S₁) where
      most : Amount costs (wide_of costs x) F G qs ps e P.amount
      most = subst (λ (z : ℕ). Amount costs z F G qs ps e P.amount) (sym R.width) P.most

      kept : Kept (arc_of rows x) (job_of costs τ x) (wide_of costs x) (length costs) x F (push R.room P.amount (out τ) path.nodes) F₁ G₁ S₁
      kept = way_pushed (arc_of rows x) (job_of costs τ x) (wide_of costs x) costs (framed rows costs τ x R.start R.accepted) x R.room F G S R.held R.shown
          (out τ) (inn τ) source qs ps e start path.nodes way taken P.amount most F₁ G₁ S₁ (subst (λ (z : ℕ). PushedAlong costs z F G S qs ps e P.amount F₁ G₁ S₁) (sym R.width) P.pushed)

      pub running_aside : Aside (length costs) F F₁
      running_aside = kept.aside

      pub running_next : k ≢ allowance → Running rows costs τ x allowance wide F₁ G₁ S₁ (k + 1)
      running_next ne = record {
        start = R.start;
        accepted = R.accepted;
        width = R.width;
        room = push R.room P.amount (out τ) path.nodes;
        held = kept.held;
        shown = kept.shown;
        made = subst (λ (z : ℕ). Rounds (2 * length costs) (out τ) (inn τ) (net_of rows costs τ x) z (push R.room P.amount (out τ) path.nodes)) (suc-eq-add-one k)
            (more R.made (record {
              path = path.nodes;
              amount = P.amount;
              taken = taken;
              most = way_most (arc_of rows x) (job_of costs τ x) (wide_of costs x) costs (framed rows costs τ x R.start R.accepted) x R.room F G S R.held R.shown
                  (out τ) (inn τ) source qs ps e start path.nodes way taken P.amount most;
              after = λ a b la lb. refl;
            }));
        limit = (let l = R.limit in omega arith);
      }

  -- ---- the end

  -- the statement over any number n that is the number of jobs
  ending : (before : List ℕ) → Aside (length costs) before F → (n : ℕ) → length costs ≡ n → n ≡ length rows → (left : Bool) (ins outs : ℕ)
      → Ends R.room (length costs) τ k allowance left ins outs → Flowed rows costs τ x allowance before F k left ins outs
  unfolding capacity
  ending before B n en er left ins outs E = record {
    room = R.room;
    made = subst (λ (z : ℕ). Rounds (2 * z) (out τ) (inn τ) (capacity (waits rows) (has x) z τ (cost_at costs)) k R.room) (en ∙ er) R.made;
    limit = R.limit;
    ends = subst (λ (z : ℕ). Ends R.room z τ k allowance left ins outs) (en ∙ er) E;
    flow = subst (λ (z : ℕ). (u v : ℕ) → u < z → v < z → get_or F (u * z + v) 0 ≡ gate (within (waits rows) (has x) u v) (R.room (inn v) (out u))) (en ∙ er) R.held.wait;
    size = B.size;
    rest = λ i l. B.rest i (omega (arith, ap (λ (z : ℕ). z * z) (en ∙ er)));
  }

  pub running_settled : (before : List ℕ) → Aside (length costs) before F → Stuck 128 (2 * τ + 1) (2 * τ) (masked S) → (ins outs : ℕ) → Sided S τ ins outs
      → Flowed rows costs τ x allowance before F k false ins outs
  running_settled before B stuck ins outs D = ending before B (length costs) refl R.accepted.priced false ins outs
      (settled
      (narrow_stuck R.room (length costs) x S few members R.shown (out τ) (inn τ) source (subst (λ (s : ℕ). Stuck 128 s (inn τ) (masked S)) (sym (suc-eq-add-one (2 * τ))) stuck))
      (narrow_side R.room (length costs) x S few members R.shown τ (accepted_job rows costs τ x R.start R.accepted) inn (λ u. omega arith) ins D.inns)
      (narrow_side R.room (length costs) x S few members R.shown τ (accepted_job rows costs τ x R.start R.accepted) out (λ u. omega arith) outs D.outer))

  pub running_left : (before : List ℕ) → Aside (length costs) before F → Reaches (step R.room) (2 * length costs) (out τ) (inn τ) → k ≡ allowance → Flowed rows costs τ x allowance before F k true 0 0
  running_left before B reaches full = ending before B (length costs) refl R.accepted.priced true 0 0 (unfinished full reaches)
