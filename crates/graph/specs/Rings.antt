-- Rings through the timed-out job, over any n jobs and any test w of their waits: w j i where job j waits for job i.
-- The document's T is written τ here, since the kit's T is the fact that a test passes.
--
--   Ring w n a p           a ring through job a, as the jobs after a up to a again (document 01, first section: "a closed walk along one or more waits; it may pass a job twice")
--   InX w n τ u            u is in X: "those that T reaches along waits and that reach T" ("The verdict")
--   RingThrough w n τ b    b says whether a ring passes through T
use Rattle.std.specs.Prelude.{Bool, true, false, List, ℕ, ◌<◌, length}
use Rattle.walks.specs.Walk.{Walk, Reaches}

abbrev pub Ring : (ℕ → ℕ → Bool) → ℕ → ℕ → List ℕ → Type 0
Ring w n a p = (0 < length p) × Walk w n a a p

pub record InX (w : ℕ → ℕ → Bool) (n τ u : ℕ) : Type 0 where
  pub out : Reaches w n τ u
  pub home : Reaches w n u τ

pub data RingThrough (w : ℕ → ℕ → Bool) (n τ : ℕ) : Bool → Type 0 where
  some : (p : List ℕ) → Ring w n τ p → RingThrough w n τ true
  none : ((p : List ℕ) → Ring w n τ p → ⊥) → RingThrough w n τ false
