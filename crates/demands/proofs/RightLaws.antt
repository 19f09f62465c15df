-- Demand 2: what a verdict says is right, by the cases of its definition.
-- Assumes nothing.
--
--   walk_passes     a walk of one or more steps passes each set that has its end
--   ring_passes     so a ring through T passes each set with T in it
--   set_passes      a walk that passes a set passes a larger one
--   verdict_right   a verdict is right
--   faultless_right, call_right   so is that of an input without faults, and of every call that is answered
use mathlib.Core.Path.{◌≡◌, refl, sym, subst}
use mathlib.Core.Logic.{◌⊎◌, inl, inr}
use mathlib.Core.Bool.{Bool}
use mathlib.Core.List.{List, [], ◌∷◌}
use Prim.Native.Nat.{ℕ, ◌^◌, ◌<◌}
use native.Mathlib.Omega.{arith}
use lib.Dec.{T}
use lib.ListN.{length}
use Rattle.bits.specs.Mask.{has}
use Rattle.bits.proofs.Digits.{bit_pow_same}
use Rattle.bits.proofs.Masks.{has_test}
use Rattle.walks.specs.Walk.{Walk}
use Rattle.graph.specs.Waits.{waits}
use Rattle.graph.specs.Rings.{Ring}
use Rattle.network.specs.Costs.{cost_at}
use Rattle.network.specs.Sets.{Passes, Best}
use Rattle.network.proofs.BestLaws.{best_unique, best_one}
use Rattle.checks.specs.Refusals.{Faultless}
use Rattle.checks.proofs.RefusalLaws.{faultless_job, faultless_apart, faultless_positive}
use Rattle.verdict.specs.declared.Decision.{Decision}
use Rattle.verdict.specs.Results.Answer.{Decided}
use Rattle.verdict.specs.Answers.{outcome_number, Verdict}
use Rattle.verdict.specs.Answers.Verdict.{stays, itself, others, unfinished}
use Rattle.verdict.specs.Called.{Called}
use Rattle.verdict.proofs.CallLaws.{decided_verdict}
use Rattle.demands.specs.Demands.{Right}

walk_passes : (w : ℕ → ℕ → Bool) (n : ℕ) (M : ℕ → Bool) (a t b : ℕ) (q : List ℕ) → T (M t) → Walk w n a t (b ∷ q) → Passes M (b ∷ q)
walk_passes w n M a t b [] m h = inl (subst (λ (z : ℕ). T (M z)) (sym h.2) m)
walk_passes w n M a t b (c ∷ q) m h = inr (walk_passes w n M b t c q m h.2)

ring_passes : (w : ℕ → ℕ → Bool) (n τ : ℕ) (M : ℕ → Bool) → T (M τ) → (q : List ℕ) → Ring w n τ q → Passes M q
ring_passes w n τ M m [] r = absurd (omega (arith, r.0))
ring_passes w n τ M m (b ∷ q) r = walk_passes w n M τ τ b q m r.1

-- the jobs of a walk are jobs of the list
set_passes : (w : ℕ → ℕ → Bool) (n : ℕ) (M L : ℕ → Bool) → ((u : ℕ) → u < n → T (M u) → T (L u)) → (a t : ℕ) (q : List ℕ) → Walk w n a t q → Passes M q → Passes L q
set_passes w n M L h a t [] k p = absurd p
set_passes w n M L h a t (b ∷ q) k (inl m) = inl (h b k.0 m)
set_passes w n M L h a t (b ∷ q) k (inr p) = inr (set_passes w n M L h b t q k.2 p)

module _ (w : ℕ → ℕ → Bool) (n τ : ℕ) (cost : ℕ → ℕ) (lτ : τ < n) (apart : (u : ℕ) → u < n → T (w u u) → ⊥) (positive : (u : ℕ) → u < n → 0 < cost u) where
  -- an outcome is none of two others
  neither : (o a b : ℕ) → (o ≡ a) ⊎ (o ≡ b) → (o ≡ a → ⊥) → (o ≡ b → ⊥) → ⊥
  neither o a b (inl e) f g = f e
  neither o a b (inr e) f g = g e

  same : (L M : ℕ → Bool) → Best w n τ cost L → Best w n τ cost M → (u : ℕ) → u < n → L u ≡ M u
  same = best_unique w n τ cost lτ apart positive

  one : (M : ℕ → Bool) × Best w n τ cost M × ((L : ℕ → Bool) → Best w n τ cost L → (u : ℕ) → u < n → L u ≡ M u)
  one = best_one w n τ cost lτ apart positive

  pub verdict_right : (a o p k v : ℕ) → Verdict w n τ cost a o p k v → Right w n τ cost o p v
  verdict_right a o p k v (stays f) = record {
    outcome = omega arith;
    waits_no_ring = λ e. f;
    no_ring_waits = λ g. refl;
    opens = λ e q r. absurd (f q r);
    cheapest = λ e L h. omega arith;
    set = one.0;
    best = one.1;
    only = one.2;
    itself = λ e. absurd (omega arith);
    others = λ e. absurd (omega arith);
    nothing = λ e. (refl, refl);
  }
  verdict_right a o p k v (itself y g j r h s l M b c) = record {
    outcome = omega arith;
    waits_no_ring = λ e. absurd (omega arith);
    no_ring_waits = λ f. absurd (f y g);
    opens = λ e. ring_passes w n τ (has (2 ^ τ)) (has_test (2 ^ τ) τ (bit_pow_same τ));
    cheapest = λ e L o. omega (arith, c, b.cheapest L o);
    set = M;
    best = b;
    only = λ L d u i. same L M d b u i;
    itself = λ e. (c, refl, refl);
    others = λ e. absurd (omega arith);
    nothing = λ e. absurd (neither 1 0 3 e (λ q. omega arith) (λ q. omega arith));
  }
  verdict_right a o p k v (others y g j r h s l M b c z m) = record {
    outcome = omega arith;
    waits_no_ring = λ e. absurd (omega arith);
    no_ring_waits = λ f. absurd (f y g);
    opens = λ e q r. set_passes w n M (has z) (λ u i t. has_test z u (m.complete u (i, t))) τ τ q r.1 (b.opens.met q r);
    cheapest = λ e L o. b.cheapest L o;
    set = M;
    best = b;
    only = λ L d u i. same L M d b u i;
    itself = λ e. absurd (omega arith);
    others = λ e. (c, refl, m);
    nothing = λ e. absurd (neither 2 0 3 e (λ q. omega arith) (λ q. omega arith));
  }
  verdict_right a o p k v (unfinished y g r h m) = record {
    outcome = omega arith;
    waits_no_ring = λ e. absurd (omega arith);
    no_ring_waits = λ f. absurd (f y g);
    opens = λ e. absurd (neither 3 1 2 e (λ q. omega arith) (λ q. omega arith));
    cheapest = λ e. absurd (neither 3 1 2 e (λ q. omega arith) (λ q. omega arith));
    set = one.0;
    best = one.1;
    only = one.2;
    itself = λ e. absurd (omega arith);
    others = λ e. absurd (omega arith);
    nothing = λ e. (refl, refl);
  }

module _ (rows costs : List ℕ) (τ : ℕ) where
  -- with any work list that is long enough
  pub faultless_right : (work a o p k v : ℕ) → Faultless rows costs τ work → Verdict (waits rows) (length rows) τ (cost_at costs) a o p k v
      → Right (waits rows) (length rows) τ (cost_at costs) o p v
  faultless_right work a o p k v f = verdict_right (waits rows) (length rows) τ (cost_at costs)
      (faultless_job rows costs τ work f) (λ u l t. faultless_apart rows costs τ work f u t) (faultless_positive rows costs τ work f) a o p k v

  pub call_right : (a : ℕ) (before : List ℕ) (d : Decision) (after : List ℕ) → Called rows costs τ a before (Decided d) after
      → Right (waits rows) (length rows) τ (cost_at costs) (outcome_number d.outcome) d.price d.victims
  call_right a before d after c =
      let q = decided_verdict rows costs τ a before d after c in
      faultless_right (length before) a (outcome_number d.outcome) d.price d.rounds d.victims q.0 q.1
