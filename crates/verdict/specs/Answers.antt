-- The verdict of an accepted snapshot (document 01, "The verdict", "The network and its rounds", "What a call takes, returns and writes").
-- w tests the waits of n jobs, τ is the timed-out job, cost the jobs' costs.
--
--   outcome_number o                    the document's number of an outcome: "00 wait, 01 abort T, 02 abort others, 03 not yet"
--   not_yet k                           the decision "not yet" after k rounds: "For wait and for not yet, price and victims are 0."
--   After w n τ cost k r               k rounds on the network of X lead to the rooms r
--   Victims n M v                      the mask v names the jobs of the set M: "job k as 2^k"
--   Verdict w n τ cost a o p k v       with the allowance a the verdict has the outcome o, by its number, the price p, k rounds and the victims v
use Rattle.std.specs.Prelude.{Bool, List, ℕ, ◌*◌, ◌^◌, ◌<◌, ◌≤◌, T}
use Rattle.bits.specs.Mask.{MaskOf}
use Rattle.walks.specs.Walk.{Reaches}
use Rattle.graph.specs.Rings.{Ring, InX}
use Rattle.network.specs.Rooms.{Room, step}
use Rattle.network.specs.Rounds.{Rounds, Stuck}
use Rattle.network.specs.Arcs.{inn, out, capacity}
use Rattle.network.specs.Sets.{Exactly, Best, price}
use Rattle.verdict.specs.declared.Outcome.{Outcome}
use Rattle.verdict.specs.declared.Decision.{Decision}
use Rattle.verdict.specs.declared.Outcome.TheVariants.{Wait, AbortT, AbortOthers, NotYet}

abbrev pub outcome_number : Outcome → ℕ
outcome_number Wait = 0
outcome_number AbortT = 1
outcome_number AbortOthers = 2
outcome_number NotYet = 3

abbrev pub not_yet : ℕ → Decision
not_yet k = record { outcome = NotYet; price = 0; rounds = k; victims = 0 }

pub record After (w : ℕ → ℕ → Bool) (n τ : ℕ) (cost : ℕ → ℕ) (k : ℕ) (r : Room) : Type 0 where
  -- X as a test of jobs
  pub x : ℕ → Bool
  pub exact : Exactly n (InX w n τ) x
  pub made : Rounds (2 * n) (out τ) (inn τ) (capacity w x n τ cost) k r

abbrev pub Victims : ℕ → (ℕ → Bool) → ℕ → Type 0
Victims n M v = MaskOf (λ (u : ℕ). (u < n) × T (M u)) v

pub data Verdict (w : ℕ → ℕ → Bool) (n τ : ℕ) (cost : ℕ → ℕ) (allowance : ℕ) : ℕ → ℕ → ℕ → ℕ → Type 0 where
  -- 00: "No ring through T: wait." "For wait and for not yet, price and victims are 0." "A wait verdict takes no round."
  stays : ((p : List ℕ) → Ring w n τ p → ⊥) → Verdict w n τ cost allowance 0 0 0 0
  -- 01: "If T's cost is smaller than that set's cost, abort T."
  itself : (p : List ℕ) → Ring w n τ p → (k : ℕ) (r : Room) → After w n τ cost k r → Stuck (2 * n) (out τ) (inn τ) r → k ≤ allowance
      → (M : ℕ → Bool) → Best w n τ cost M → cost τ < price n cost M → Verdict w n τ cost allowance 1 (cost τ) k (2 ^ τ)
  -- 02: "Otherwise abort the set"
  others : (p : List ℕ) → Ring w n τ p → (k : ℕ) (r : Room) → After w n τ cost k r → Stuck (2 * n) (out τ) (inn τ) r → k ≤ allowance
      → (M : ℕ → Bool) → Best w n τ cost M → price n cost M ≤ cost τ → (v : ℕ) → Victims n M v → Verdict w n τ cost allowance 2 (price n cost M) k v
  -- 03: "The answer is "not yet" exactly when a path is still left then", when the allowance is used up
  unfinished : (p : List ℕ) → Ring w n τ p → (r : Room) → After w n τ cost allowance r → Reaches (step r) (2 * n) (out τ) (inn τ)
      → Verdict w n τ cost allowance 3 0 allowance 0
