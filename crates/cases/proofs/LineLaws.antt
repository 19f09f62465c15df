-- Lines that were answered.
-- Assumes nothing.
--
--   answered_none    none stands on, or there is no room for the next
--   answered_more    the line in front of those that were answered was answered before them
use Rattle.std.proofs.Common.{◌≡◌, ◌⊎◌, List, [], ◌∷◌, ℕ, ◌<◌, length, refl}
use Rattle.cases.specs.Lines.{Answered}
use Rattle.cases.specs.Lines.Lines.{none, more}

module _ {L F : Type 0} {LineAt : List ℕ → ℕ → L → ℕ → Type 0} {NoRoom : List ℕ → ℕ → Type 0} {Step : F → L → F → Type 0} {text : List ℕ} {at : ℕ} {first : F} where
  pub answered_none : (at ≡ length text) ⊎ NoRoom text at → Answered LineAt NoRoom Step text at first
  answered_none h = record { lines = []; end = at; last = first; stand = none; all = h; answered = refl }

  pub answered_more : (line : L) (next : ℕ) (then : F) → at < length text → LineAt text at line next → Step first line then → Answered LineAt NoRoom Step text next then → Answered LineAt NoRoom Step text at first
  answered_more line next then i h s A = record { lines = line ∷ A.lines; end = A.end; last = A.last; stand = more i h A.stand; all = A.all; answered = (then, s, A.answered) }
