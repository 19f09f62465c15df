-- Demand 3: one number of rounds, what an allowance gives, and that a larger one changes nothing.
-- Assumes nothing.
--
--   verdict_gives     what an allowance gives, where K rounds lead to where no path is left
--   verdict_steady    a verdict that is given stays with any larger allowance; call_steady: so does the answer of a call, and its work list
--   needs_exists      an input without faults has its number of rounds
--   needs_unique      and only one
use mathlib.Core.Path.{◌≡◌, refl, sym, subst}
use mathlib.Core.Logic.{◌≢◌}
use mathlib.Core.Bool.{Bool}
use mathlib.Core.List.{List}
use Prim.Native.Nat.{ℕ, ◌+◌, ◌*◌, ◌<◌, ◌≤◌}
use native.Mathlib.Omega.{arith}
use lib.ListN.{length}
use Rattle.graph.specs.Waits.{waits}
use Rattle.network.specs.Rooms.{Room}
use Rattle.network.specs.Rounds.{Rounds, Stuck}
use Rattle.network.specs.Arcs.{inn, out, capacity, wait_count}
use Rattle.network.specs.Costs.{cost_at}
use Rattle.network.proofs.SameRooms.{walk_same}
use Rattle.network.proofs.RoundLaws.{rounds_unique, count_unique}
use Rattle.network.proofs.SetLaws.{in_x, inx_exact}
use Rattle.network.proofs.RingPaths.{no_ring_rounds}
use Rattle.network.proofs.Counted.{Counted}
use Rattle.network.proofs.Tally.{capacity_counted}
use Rattle.checks.specs.Refusals.{Faultless}
use Rattle.checks.proofs.RefusalLaws.{faultless_job}
use Rattle.verdict.specs.declared.Decision.{Decision}
use Rattle.verdict.specs.Results.{Answer}
use Rattle.verdict.specs.Results.Answer.{Decided}
use Rattle.verdict.specs.Answers.{outcome_number, After, Verdict}
use Rattle.verdict.specs.Answers.Verdict.{stays, itself, others, unfinished}
use Rattle.verdict.specs.Called.{Called}
use Rattle.verdict.specs.Called.Called.{answers}
use Rattle.verdict.proofs.AnswerLaws.{known, after_rounds}
use Rattle.verdict.proofs.CallLaws.{call_unique, decided_verdict}
use Rattle.demands.specs.Demands.{Gives, Needs}

module _ (w : ℕ → ℕ → Bool) (n τ : ℕ) (cost : ℕ → ℕ) (lτ : τ < n) where
  -- the number of rounds, and where they lead
  z : (K : ℕ) × Counted (2 * n) (out τ) (inn τ) (capacity w (in_x w n τ) n τ cost) K × (K ≤ 2 * n * (wait_count w n + n))
  z = capacity_counted w (in_x w n τ) n τ cost lτ

  last : After w n τ cost z.0 z.1.room
  last = record { x = in_x w n τ; exact = inx_exact w n τ lτ; made = z.1.made }

  at : (k : ℕ) (r : Room) → After w n τ cost k r → Stuck (2 * n) (out τ) (inn τ) r → k ≡ z.0
  at k r h s = (z.1.only k r (after_rounds w n τ cost lτ k r h) s).0

  counted_gives : (a o p k v : ℕ) → Verdict w n τ cost a o p k v → Gives z.0 a o k
  counted_gives a o p k v (stays f) =
      let e = no_ring_rounds w (in_x w n τ) n τ cost lτ f z.0 z.1.room z.1.made in
      record { enough = λ l. ((λ q. omega arith), sym e); less = λ l. absurd (omega (arith, e)) }
  counted_gives a o p k v (itself y g j r h s l M b c) = record { enough = λ m. ((λ q. omega arith), at j r h s); less = λ m. absurd (omega (arith, at j r h s)) }
  counted_gives a o p k v (others y g j r h s l M b c t m) = record { enough = λ m. ((λ q. omega arith), at j r h s); less = λ m. absurd (omega (arith, at j r h s)) }
  counted_gives a o p k v (unfinished y g r h m) = record { enough = λ l. absurd (over l); less = λ l. (refl, refl) }
    where
      -- with an allowance of all rounds no path is left
      over : z.0 ≤ a → ⊥
      over l =
          let e : a ≡ z.0 = omega (arith, z.1.most a r (after_rounds w n τ cost lτ a r h)) in
          let q : Rounds (2 * n) (out τ) (inn τ) (known w n τ cost lτ) a z.1.room = subst (λ (i : ℕ). Rounds (2 * n) (out τ) (inn τ) (known w n τ cost lτ) i z.1.room) (sym e) z.1.made in
          z.1.ended m.path (walk_same (2 * n) r z.1.room
          (rounds_unique (2 * n) (out τ) (inn τ) (known w n τ cost lτ) a r z.1.room (omega arith) (after_rounds w n τ cost lτ a r h) q) (out τ) (inn τ) m.path (omega arith) m.walk)

  -- where K rounds lead to where no path is left
  pub verdict_gives : (K : ℕ) (r : Room) → After w n τ cost K r → Stuck (2 * n) (out τ) (inn τ) r → (a o p k v : ℕ) → Verdict w n τ cost a o p k v → Gives K a o k
  verdict_gives K r h s a o p k v y = subst (λ (i : ℕ). Gives i a o k) (sym (at K r h s)) (counted_gives a o p k v y)

pub verdict_steady : (w : ℕ → ℕ → Bool) (n τ : ℕ) (cost : ℕ → ℕ) (a b o p k v : ℕ) → a ≤ b → o ≢ 3 → Verdict w n τ cost a o p k v → Verdict w n τ cost b o p k v
verdict_steady w n τ cost a b o p k v l ne (stays f) = stays f
verdict_steady w n τ cost a b o p k v l ne (itself y g j r h s m M q c) = itself y g j r h s (omega (arith, m, l)) M q c
verdict_steady w n τ cost a b o p k v l ne (others y g j r h s m M q c t x) = others y g j r h s (omega (arith, m, l)) M q c t x
verdict_steady w n τ cost a b o p k v l ne (unfinished y g r h m) = absurd (ne refl)

module _ (rows costs : List ℕ) (τ : ℕ) where
  pub call_steady : (a b : ℕ) (before : List ℕ) (d : Decision) (x : Answer) (after after' : List ℕ) → a ≤ b → outcome_number d.outcome ≢ 3
      → Called rows costs τ a before (Decided d) after → Called rows costs τ b before x after' → (x ≡ Decided d) × (after' ≡ after)
  call_steady a b before d x after after' l ne c e =
      let q = decided_verdict rows costs τ a before d after c in
      call_unique rows costs τ b before x (Decided d) after' after e
      (answers d after q.0 (verdict_steady (waits rows) (length rows) τ (cost_at costs) a b (outcome_number d.outcome) d.price d.rounds d.victims l ne q.1) q.2)

  module _ (work : ℕ) (f : Faultless rows costs τ work) where
    lτ : τ < length rows
    lτ = faultless_job rows costs τ work f

    pub needs_exists : (K : ℕ) × Needs rows costs τ K
    needs_exists =
        let y = z (waits rows) (length rows) τ (cost_at costs) lτ in (
          y.0,
          record {
            room = y.1.room;
            made = last (waits rows) (length rows) τ (cost_at costs) lτ;
            ended = y.1.ended;
            bound = y.2;
            gives = λ a before d after c.
                let q = decided_verdict rows costs τ a before d after c in
                counted_gives (waits rows) (length rows) τ (cost_at costs) lτ a (outcome_number d.outcome) d.price d.rounds d.victims q.1;
            steady = call_steady;
          },
        )

    pub needs_unique : (j k : ℕ) → Needs rows costs τ j → Needs rows costs τ k → j ≡ k
    needs_unique j k x y = count_unique (2 * length rows) (out τ) (inn τ) (known (waits rows) (length rows) τ (cost_at costs) lτ) j k x.room y.room (omega (arith, lτ))
        (after_rounds (waits rows) (length rows) τ (cost_at costs) lτ j x.room x.made) x.ended
        (after_rounds (waits rows) (length rows) τ (cost_at costs) lτ k y.room y.made) y.ended
