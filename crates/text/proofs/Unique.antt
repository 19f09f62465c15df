-- Two results that meet the statement of a public function are equal.
-- Assumes nothing.
--
--   line_length_unique, bad_line_unique   of the function of that name
use mathlib.Core.Path.{◌≡◌, sym, ◌∙◌}
use mathlib.Core.Bool.{Bool}
use mathlib.Core.List.{List}
use Prim.Native.Nat.{ℕ}
use lib.ListN.{length}
use Rattle.text.specs.Line.{line_at, bad_line}

pub line_length_unique : (text : List ℕ) (at a b : ℕ) → a ≡ length (line_at text at) → b ≡ length (line_at text at) → a ≡ b
line_length_unique text at a b p q = p ∙ sym q

pub bad_line_unique : (text : List ℕ) (at : ℕ) (a b : Bool) → a ≡ bad_line text at → b ≡ bad_line text at → a ≡ b
bad_line_unique text at a b p q = p ∙ sym q
