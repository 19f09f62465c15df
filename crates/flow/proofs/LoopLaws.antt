-- The loops of `make_rounds`: what is kept, and one law for each way through them.
-- Assumes nothing.
--
--   Ahead                                the path of the next round, up the parents from place e
--   searched_ahead                       a search has found one
--   searched_layerable, searched_descent what `layer` asks for, and the levels that it leaves
--   lowered_descent, lowered_ahead       the way down the levels has found one
--   Rounding                             k rounds were made; F₀ is the work list before them
--   rounding_start                       before the first round
--   rounding_ready                       what `search` and `descend` ask for
--   rounding_roundable                   what `round` asks for
--   rounding_next, rounding_levels       one more round: the levels outlast it
--   rounding_left, rounding_settled      the allowance is used up; no path is left
use mathlib.Core.Path.{◌≡◌}
use mathlib.Core.Logic.{◌≢◌}
use mathlib.Core.Bool.{true, false}
use mathlib.Core.List.{List}
use Prim.Native.Nat.{ℕ, ◌+◌, ◌*◌, ◌<◌}
use native.Mathlib.Omega.{arith}
use lib.ListN.{length, replicate, length-replicate}
use Rattle.network.specs.Arcs.{total}
use Rattle.network.specs.Rounds.{Stuck}
use Rattle.network.specs.Costs.{cost_at}
use Rattle.bits.specs.Mask.{has}
use Rattle.search.specs.Masks.{masked}
use Rattle.search.specs.Sought.{Ready, Path, Sought}
use Rattle.push.specs.Way.{Roundable, Rounded}
use Rattle.side.specs.Home.{Sided}
use Rattle.flow.specs.Accepted.{Accepted}
use Rattle.flow.specs.Flowed.{Flowed}
use Rattle.flow.specs.Inside.{Begun}
use Rattle.flow.specs.Levels.{Layerable, Layered, Levels, Descent, Descended}
use Rattle.flow.proofs.TurnLaws.{turn_layerable, turn_descent}
use Rattle.flow.proofs.LastingLaws.{descent_lasts}
use Rattle.flow.proofs.WayLaws.{Aside, aside_none, aside_trans}
use Rattle.flow.proofs.RunLaws.{Running, accepted_ready, running_start, running_reaches, running_roundable, running_aside, running_next, running_settled, running_left}

-- ---- the next path

pub record Ahead (S : List ℕ) (s t : ℕ) (qs ps : List ℕ) (e : ℕ) : Type 0 where
  pub queue : length qs ≡ 128
  pub parent : length ps ≡ 128
  pub place : e < 128
  pub some : e ≢ 0
  pub path : Path S s t qs ps e

module _ (S : List ℕ) (s t : ℕ) (qs₀ ps₀ qs ps : List ℕ) (e : ℕ) (F : (0 < e) × Sought S s t qs₀ ps₀ qs ps e) where
  some : e ≢ 0
  some z = omega (arith, F.0)

  pub searched_ahead : Ahead S s t qs ps e
  searched_ahead = record { queue = F.1.queue; parent = F.1.parent; place = F.1.place; some = some; path = F.1.found some }

  pub searched_layerable : Layerable qs e (replicate 128 0)
  searched_layerable = turn_layerable S s t qs₀ ps₀ qs ps e (replicate 128 0) F.1 some (length-replicate {A = ℕ} 128 0)

  pub searched_descent : (L : List ℕ) → Layered qs e L → Descent S s t L qs ps e
  searched_descent L Y = turn_descent S s t qs₀ ps₀ qs ps e L some F.1 Y

module _ (S : List ℕ) (s t : ℕ) (L qs ps : List ℕ) (e : ℕ) (D : (0 < e) × Descended S s t L qs ps e) where
  pub lowered_descent : Descent S s t L qs ps e
  lowered_descent = D.1.found (λ z. omega (arith, D.0))

  pub lowered_ahead : Ahead S s t qs ps e
  lowered_ahead = record { queue = D.1.queue; parent = D.1.parent; place = D.1.place; some = λ z. omega (arith, D.0); path = lowered_descent.path }

-- ---- the rounds

pub record Rounding (rows costs : List ℕ) (τ x allowance wide : ℕ) (F₀ F G S : List ℕ) (k : ℕ) : Type 0 where
  pub running : Running rows costs τ x allowance wide F G S k
  pub aside : Aside (length costs) F₀ F

pub rounding_start : (rows costs : List ℕ) (τ x allowance wide : ℕ) (F G S : List ℕ) → Accepted rows costs τ x F → wide ≡ total (length costs) (has x) (cost_at costs) + 1
    → G ≡ replicate 64 0 → Begun rows τ x S → Rounding rows costs τ x allowance wide F F G S 0
rounding_start rows costs τ x allowance wide F G S A ew eG B = record { running = running_start rows costs τ x allowance wide F G S A ew eG B; aside = aside_none (length costs) F }

module _ (rows costs : List ℕ) (τ x allowance wide : ℕ) (F₀ F G S : List ℕ) (k : ℕ) (I : Rounding rows costs τ x allowance wide F₀ F G S k) where
  -- two lists of 128 places are what `search` and `descend` ask for
  pub rounding_ready : (qs ps : List ℕ) → length qs ≡ 128 → length ps ≡ 128 → Ready (2 * τ + 1) (2 * τ) qs ps
  rounding_ready qs ps lq lp = accepted_ready rows costs τ x I.running.start qs ps I.running.accepted lq lp

  module _ (qs ps : List ℕ) (e : ℕ) (N : Ahead S (2 * τ + 1) (2 * τ) qs ps e) where
    pub rounding_roundable : Roundable costs wide F G S qs ps e
    rounding_roundable = running_roundable rows costs τ x allowance wide F G S k I.running qs ps e N.queue N.parent N.place N.some N.path

    pub rounding_left : k ≡ allowance → (after : List ℕ) → after ≡ F → Flowed rows costs τ x allowance F₀ after k true 0 0
    rounding_left full after same = rw same (running_left rows costs τ x allowance wide F G S k I.running F₀ I.aside
        (running_reaches rows costs τ x allowance wide F G S k I.running qs ps e N.queue N.parent N.place N.some N.path) full)

    module _ (F₁ G₁ S₁ : List ℕ) (P : Rounded costs wide F G S qs ps e F₁ G₁ S₁) where
      pub rounding_next : k ≢ allowance → Rounding rows costs τ x allowance wide F₀ F₁ G₁ S₁ (k + 1)
      rounding_next ne = record {
        running = running_next rows costs τ x allowance wide F G S k I.running qs ps e N.queue N.parent N.place N.some N.path F₁ G₁ S₁ P ne;
        aside = aside_trans (length costs) F₀ F F₁ I.aside (running_aside rows costs τ x allowance wide F G S k I.running qs ps e N.queue N.parent N.place N.some N.path F₁ G₁ S₁ P);
      }

      pub rounding_levels : (L : List ℕ) → Descent S (2 * τ + 1) (2 * τ) L qs ps e → Levels S₁ (2 * τ + 1) (2 * τ) L
      rounding_levels L D = descent_lasts S (2 * τ + 1) (2 * τ) L qs ps e I.running.shown.size (rounding_ready qs ps N.queue N.parent).source D costs wide P.amount F G F₁ G₁ S₁ P.pushed

  pub rounding_settled : Stuck 128 (2 * τ + 1) (2 * τ) (masked S) → (ins outs : ℕ) → Sided S τ ins outs → (after : List ℕ) → after ≡ F → Flowed rows costs τ x allowance F₀ after k false ins outs
  rounding_settled stuck ins outs D after same = rw same (running_settled rows costs τ x allowance wide F G S k I.running F₀ I.aside stuck ins outs D)
