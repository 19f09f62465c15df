-- One step of a push in the lists: that it can be made, and that it leaves one result.
-- Assumes nothing.
--
--   advance_shiftable                     what `shift` asks for
--   advance_from, advance_to              two nodes have masks
--   advanced                              what is left with the masks of both ways
--   shifted_size                          the work list keeps its length
--   advanced_unique                       two results of one step are equal
use mathlib.Core.Path.{◌≡◌, sym, ap, ◌∙◌}
use mathlib.Core.Logic.{◌⊎◌, inl, inr, ◌≢◌}
use mathlib.Core.List.{List}
use Prim.Native.Nat.{ℕ, ◌+◌, ◌-◌, ◌*◌, ◌/◌, ◌<◌}
use native.Mathlib.Decide.{ℕ_discrete}
use native.Mathlib.Omega.{arith}
use lib.ListN.{length, length-set}
use Rattle.search.specs.Masks.{at}
use Rattle.push.specs.Reading.{reads}
use Rattle.push.specs.Advance.{Shiftable, Shifted, with_step, without_step, Advanceable, Advanced}
use Rattle.push.specs.Advance.Shifted.{drops, rises, along, against}
use Rattle.push.proofs.ReadLaws.{read_drops, read_rises, read_along, read_against}

module _ (costs : List ℕ) (wide : ℕ) (F G S : List ℕ) (a b d : ℕ) (A : Advanceable costs wide F G S a b d) where
  pub advance_shiftable : Shiftable (length costs) F G a b d
  advance_shiftable = record {
    few = A.readable.few;
    size = A.readable.size;
    thru = A.readable.thru;
    from = A.readable.from;
    to = A.readable.to;
    dropped = λ e o. omega (arith, A.allowed, read_drops costs wide F G a b e o);
    risen = λ e o. omega (arith, A.allowed, A.priced, A.readable.job, read_rises costs wide F G a b e o);
    added = λ e o. omega (arith, A.allowed, A.bound, A.readable.wait, read_along costs wide F G a b e o);
    lifted = λ e o. omega (arith, A.allowed, read_against costs wide F G a b e o);
  }

  pub advance_from : a < 128
  advance_from = omega (arith, A.readable.from, A.readable.few)

  pub advance_to : b < 128
  advance_to = omega (arith, A.readable.to, A.readable.few)

  -- x is the room of the step, and S₁ the masks after the branch: without the step where its room is used up
  module _ (x : ℕ) (S₁ : List ℕ) (ex : x ≡ reads costs wide F G a b) where
    pub advanced : ((x ≡ d) × (S₁ ≡ without_step S a b)) ⊎ ((x ≢ d) × (S₁ ≡ S)) → (F' G' S' : List ℕ) → Shifted (length costs) a b d F G F' G' → S' ≡ with_step S₁ b a
        → Advanced costs wide a b d F G S F' G' S'
    advanced (inl (e, m)) F' G' S' H B = record { shifted = H; filled = λ q. B ∙ ap (λ (s : List ℕ). with_step s b a) m; partly = λ q. absurd (q (sym ex ∙ e)) }
    advanced (inr (n, m)) F' G' S' H B = record { shifted = H; filled = λ q. absurd (n (ex ∙ q)); partly = λ q. B ∙ ap (λ (s : List ℕ). with_step s b a) m }

pub shifted_size : (n a b d : ℕ) (F G F' G' : List ℕ) → Shifted n a b d F G F' G' → length F' ≡ length F
shifted_size n a b d F G F' G' (drops e o f g) = ap length f
shifted_size n a b d F G F' G' (rises e o f g) = ap length f
shifted_size n a b d F G F' G' (along e o f g) = ap length f ∙ length-set F (a / 2 * n + b / 2) (at F (a / 2 * n + b / 2) + d)
shifted_size n a b d F G F' G' (against e o f g) = ap length f ∙ length-set F (b / 2 * n + a / 2) (at F (b / 2 * n + a / 2) - d)

-- ---- one result

shifted_unique : (n a b d : ℕ) (F G F' G' F'' G'' : List ℕ) → Shifted n a b d F G F' G' → Shifted n a b d F G F'' G'' → (F' ≡ F'') × (G' ≡ G'')
shifted_unique n a b d F G F' G' F'' G'' (drops e o f g) (drops e' o' f' g') = (f ∙ sym f', g ∙ sym g')
shifted_unique n a b d F G F' G' F'' G'' (rises e o f g) (rises e' o' f' g') = (f ∙ sym f', g ∙ sym g')
shifted_unique n a b d F G F' G' F'' G'' (along e o f g) (along e' o' f' g') = (f ∙ sym f', g ∙ sym g')
shifted_unique n a b d F G F' G' F'' G'' (against e o f g) (against e' o' f' g') = (f ∙ sym f', g ∙ sym g')
shifted_unique n a b d F G F' G' F'' G'' (drops e o f g) (rises e' o' f' g') = absurd (o' o)
shifted_unique n a b d F G F' G' F'' G'' (drops e o f g) (along e' o' f' g') = absurd (e' e)
shifted_unique n a b d F G F' G' F'' G'' (drops e o f g) (against e' o' f' g') = absurd (e' e)
shifted_unique n a b d F G F' G' F'' G'' (rises e o f g) (drops e' o' f' g') = absurd (o o')
shifted_unique n a b d F G F' G' F'' G'' (rises e o f g) (along e' o' f' g') = absurd (e' e)
shifted_unique n a b d F G F' G' F'' G'' (rises e o f g) (against e' o' f' g') = absurd (e' e)
shifted_unique n a b d F G F' G' F'' G'' (along e o f g) (drops e' o' f' g') = absurd (e e')
shifted_unique n a b d F G F' G' F'' G'' (along e o f g) (rises e' o' f' g') = absurd (e e')
shifted_unique n a b d F G F' G' F'' G'' (along e o f g) (against e' o' f' g') = absurd (o' o)
shifted_unique n a b d F G F' G' F'' G'' (against e o f g) (drops e' o' f' g') = absurd (e e')
shifted_unique n a b d F G F' G' F'' G'' (against e o f g) (rises e' o' f' g') = absurd (e e')
shifted_unique n a b d F G F' G' F'' G'' (against e o f g) (along e' o' f' g') = absurd (o o')

pub advanced_unique : (costs : List ℕ) (wide a b d : ℕ) (F G S F' G' S' F'' G'' S'' : List ℕ) → Advanced costs wide a b d F G S F' G' S' → Advanced costs wide a b d F G S F'' G'' S''
    → (F' ≡ F'') × (G' ≡ G'') × (S' ≡ S'')
advanced_unique costs wide a b d F G S F' G' S' F'' G'' S'' x y =
    let k = shifted_unique (length costs) a b d F G F' G' F'' G'' x.shifted y.shifted in
    (k.0, k.1, go (ℕ_discrete (reads costs wide F G a b) d))
  where
    go : Dec (reads costs wide F G a b ≡ d) → S' ≡ S''
    go (yes e) = x.filled e ∙ sym (y.filled e)
    go (no e) = x.partly e ∙ sym (y.partly e)
