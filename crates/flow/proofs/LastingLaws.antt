-- The levels outlast a push along a path of their length: it gives room to steps back from level to level only, and no path of that length has such a step.
-- Assumes nothing.
--
--   Between a b S S'                   the masks differ at most in the step from a to b and the one back
--   advanced_between                   so it is after one step's push
--   Slow S rank                        no step leads more than one level on
--   walk_climb, walk_rise              a walk has at least as many steps as it climbs levels; where it has just as many, each step leads one level on
--   Back S rank S', pushed_back        the steps after the push are those before it, and steps that lead one level back
--   levels_pushed, descent_lasts       the levels outlast the push along a path of their length; so they do where it is the round's
use mathlib.Core.Path.{◌≡◌, sym, ap, ◌∙◌, subst}
use mathlib.Core.Logic.{◌⊎◌, inl, inr, ◌≢◌}
use mathlib.Core.Bool.{true}
use mathlib.Core.List.{List, [], ◌∷◌}
use Prim.Native.Nat.{ℕ, suc, ◌+◌, ◌%◌, ◌<◌, ◌≤◌}
use native.Mathlib.Decide.{ℕ_discrete}
use native.Mathlib.Omega.{arith}
use lib.Dec.{T}
use lib.ListN.{length}
use Rattle.walks.specs.Walk.{Walk}
use Rattle.network.specs.Rooms.{step}
use Rattle.network.proofs.PushLaws.{Spot, ahead, back, aside, spot}
use Rattle.search.specs.Masks.{masked}
use Rattle.search.proofs.MaskSteps.{step_parts}
use Rattle.push.specs.Reading.{reads}
use Rattle.push.specs.Advance.{with_step, without_step, Advanced}
use Rattle.push.specs.Way.{Pushed, PushedAlong}
use Rattle.push.specs.Way.Pushed.{none, more}
use Rattle.flow.specs.Levels.{Levels, Descent}
use Rattle.flow.proofs.ShownLaws.{Changed, with_step_lem, without_other}

-- ---- one step's push

pub record Between (a b : ℕ) (S S' : List ℕ) : Type 0 where
  pub size : length S' ≡ 128
  pub other : (i j : ℕ) → (i ≢ a) ⊎ (j ≢ b) → (i ≢ b) ⊎ (j ≢ a) → step (masked S') i j ≡ step (masked S) i j

pub advanced_between : (costs : List ℕ) (wide a b d : ℕ) (F G S F' G' S' : List ℕ) → length S ≡ 128 → a < 128 → b < 128 → (a + b) % 2 ≡ 1 → Advanced costs wide a b d F G S F' G' S'
    → Between a b S S'
advanced_between costs wide a b d F G S F' G' S' size la lb sides A = go (ℕ_discrete (reads costs wide F G a b) d)
  where
    marked : (S₁ : List ℕ) → length S₁ ≡ 128 → Changed b a true S₁ (with_step S₁ b a)
    marked S₁ l = with_step_lem S₁ b a l lb (omega (arith, sides))

    go : Dec (reads costs wide F G a b ≡ d) → Between a b S S'
    go (yes e) =
        let C = without_other S a b size la sides in
        let B = marked (without_step S a b) C.size in
        subst (Between a b S) (sym (A.filled e)) (record { size = B.size; other = λ i j h k. B.other i j k ∙ C.other i j h })
    go (no e) =
        let B = marked S size in
        subst (Between a b S) (sym (A.partly e)) (record { size = B.size; other = λ i j h k. B.other i j k })

-- ---- walks and levels

abbrev pub Slow : List ℕ → (ℕ → ℕ) → Type 0
Slow S rank = (a b : ℕ) → a < 128 → b < 128 → T (step (masked S) a b) → rank b ≤ suc (rank a)

module _ (S : List ℕ) (t : ℕ) (rank : ℕ → ℕ) (slow : Slow S rank) where
  pub walk_climb : (a : ℕ) (p : List ℕ) → a < 128 → Walk (step (masked S)) 128 a t p → rank t ≤ rank a + length p
  walk_climb a [] l w = omega (arith, ap rank w)
  walk_climb a (b ∷ p) l w = omega (arith, walk_climb b p w.0 w.2, slow a b l w.0 w.1)

  pub walk_rise : (a b : ℕ) (p : List ℕ) → a < 128 → Walk (step (masked S)) 128 a t (b ∷ p) → rank a + suc (length p) ≡ rank t → rank b ≡ suc (rank a)
  walk_rise a b p l w e = omega (arith, walk_climb b p w.0 w.2, slow a b l w.0 w.1)

-- ---- the whole push

pub record Back (S : List ℕ) (rank : ℕ → ℕ) (S' : List ℕ) : Type 0 where
  pub size : length S' ≡ 128
  pub steps : (i j : ℕ) → T (step (masked S') i j) → T (step (masked S) i j) ⊎ (rank i ≡ suc (rank j))

back_more : (S : List ℕ) (rank : ℕ → ℕ) (a b : ℕ) (S₁ S₂ : List ℕ) → T (step (masked S) a b) → rank b ≡ suc (rank a) → Back S rank S₁ → Between a b S₁ S₂ → Back S rank S₂
back_more S rank a b S₁ S₂ on rise K B = record { size = B.size; steps = λ i j u. go i j u (spot a b i j) }
  where
    go : (i j : ℕ) → T (step (masked S₂) i j) → Spot a b i j → T (step (masked S) i j) ⊎ (rank i ≡ suc (rank j))
    go i j u (ahead e h) = inl (rw (e, h) on)
    go i j u (back e h) = inr (cc (ap rank e, ap rank h, rise))
    go i j u (aside e h) = K.steps i j (subst T (B.other i j e h) u)

pub pushed_back : (S : List ℕ) (t : ℕ) (rank : ℕ → ℕ) → length S ≡ 128 → Slow S rank → (costs : List ℕ) (wide d : ℕ) (F G : List ℕ) (a : ℕ) (p F' G' S' : List ℕ) → a < 128
    → Walk (step (masked S)) 128 a t p → rank a + length p ≡ rank t → Pushed costs wide d F G S a p F' G' S' → Back S rank S'
pushed_back S t rank size slow costs wide d F G a [] F' G' S' l w e none = record { size = size; steps = λ i j u. inl u }
pushed_back S t rank size slow costs wide d F G a (b ∷ p) F' G' S' l w e (more {F₁ = F₁} {G₁ = G₁} {S₁ = S₁} x A) =
    let rise = walk_rise S t rank slow a b p l w e in
    let K = pushed_back S t rank size slow costs wide d F G b p F₁ G₁ S₁ w.0 w.2 (omega (arith, rise)) x in
    back_more S rank a b S₁ S' w.1 rise K (advanced_between costs wide a b d F₁ G₁ S₁ F' G' S' K.size l w.0 (step_parts S a b w.1).0 A)

-- ---- the levels

pub levels_pushed : (S : List ℕ) (s t : ℕ) (L : List ℕ) → length S ≡ 128 → s < 128 → (K : Levels S s t L) → (p : List ℕ) → Walk (step (masked S)) 128 s t p → length p ≡ K.depth
    → (costs : List ℕ) (wide d : ℕ) (F G F' G' S' : List ℕ) → Pushed costs wide d F G S s p F' G' S' → Levels S' s t L
levels_pushed S s t L size l K p w e costs wide d F G F' G' S' x = record {
  size = K.size;
  depth = K.depth;
  rank = K.rank;
  some = K.some;
  deep = K.deep;
  small = K.small;
  source = K.source;
  sink = K.sink;
  sides = K.sides;
  slow = slow;
  only = K.only;
  all = λ a q la v h. K.all a q la (before a q la v (h ∙ sym K.sink)) h;
  last = K.last;
}
  where
    after : Back S K.rank S'
    after = pushed_back S t K.rank size K.slow costs wide d F G s p F' G' S' l w (omega (arith, K.source, K.sink)) x

    slow : Slow S' K.rank
    slow a b la lb u = go (after.steps a b u)
      where
        go : T (step (masked S) a b) ⊎ (K.rank a ≡ suc (K.rank b)) → K.rank b ≤ suc (K.rank a)
        go (inl k) = K.slow a b la lb k
        go (inr k) = omega arith

    -- a walk after the push, of just as many steps as levels, has no step back
    before : (a : ℕ) (q : List ℕ) → a < 128 → Walk (step (masked S')) 128 a t q → K.rank a + length q ≡ K.rank t → Walk (step (masked S)) 128 a t q
    before a [] la v h = v
    before a (b ∷ q) la v h =
        let rise = walk_rise S' t K.rank slow a b q la v h in
        (v.0, go rise (after.steps a b v.1), before b q v.0 v.2 (omega (arith, rise)))
      where
        go : K.rank b ≡ suc (K.rank a) → T (step (masked S) a b) ⊎ (K.rank a ≡ suc (K.rank b)) → T (step (masked S) a b)
        go rise (inl k) = k
        go rise (inr k) = absurd (omega arith)

pub descent_lasts : (S : List ℕ) (s t : ℕ) (L qs ps : List ℕ) (e : ℕ) → length S ≡ 128 → s < 128 → Descent S s t L qs ps e
    → (costs : List ℕ) (wide d : ℕ) (F G F' G' S' : List ℕ) → PushedAlong costs wide F G S qs ps e d F' G' S' → Levels S' s t L
descent_lasts S s t L qs ps e size l D costs wide d F G F' G' S' A =
    levels_pushed S s t L size l D.levels D.path.nodes D.path.taken.walk D.even costs wide d F G F' G' S'
    (subst (λ (a : ℕ). Pushed costs wide d F G S a D.path.nodes F' G' S') D.path.start (A.pushed D.path.nodes D.path.leads))
