-- The lines of a text, read and answered one after another. What stands on a line, and where there is no room for it, each program says.
--
--   Lines LineAt text at lines end    these lines stand from a place of the text on, up to a place
--   Answered ..                       all lines of a text, or those before the first that there is no room for, were passed on in their order
use Rattle.std.specs.Prelude.{◌≡◌, ◌⊎◌, List, [], ◌∷◌, ℕ, ◌<◌, length}
use Rattle.std.specs.List.{FoldsTo}

pub data Lines {L : Type 0} (LineAt : List ℕ → ℕ → L → ℕ → Type 0) (text : List ℕ) : ℕ → List L → ℕ → Type 0 where
  none : {at : ℕ} → Lines LineAt text at [] at
  more : {at next end : ℕ} {line : L} {lines : List L} → at < length text → LineAt text at line next → Lines LineAt text next lines end → Lines LineAt text at (line ∷ lines) end

-- Step is what one answer does to the state of what answers
pub record Answered {L F : Type 0} (LineAt : List ℕ → ℕ → L → ℕ → Type 0) (NoRoom : List ℕ → ℕ → Type 0) (Step : F → L → F → Type 0) (text : List ℕ) (at : ℕ) (first : F) : Type 0 where
  pub lines : List L
  pub end : ℕ
  pub last : F
  pub stand : Lines LineAt text at lines end
  pub all : (end ≡ length text) ⊎ NoRoom text end
  pub answered : FoldsTo Step first lines last
