-- Two results that meet the statement of a public function are equal: each statement is an equation.
-- Assumes nothing.
--
--   number_at_unique, put_number_unique, put_answer_unique   of the function of that name
use mathlib.Core.Path.{◌≡◌, sym, ◌∙◌}
use mathlib.Core.List.{List, ◌++◌}
use Prim.Native.Nat.{ℕ, ◌+◌}
use lib.ListN.{take, drop}
use Rattle.frames.specs.declared.Answer.{Answer}
use Rattle.codec.specs.Bytes.{number_at, bytes_of}
use Rattle.codec.specs.Frame.{answer_bytes}

pub number_at_unique : (bytes : List ℕ) (at r s : ℕ) → r ≡ number_at bytes at 8 → s ≡ number_at bytes at 8 → r ≡ s
number_at_unique bytes at r s p q = p ∙ sym q

pub put_number_unique : (before : List ℕ) (at k x : ℕ) (a b : List ℕ) → a ≡ take at before ++ bytes_of k x ++ drop (at + k) before → b ≡ take at before ++ bytes_of k x ++ drop (at + k) before → a ≡ b
put_number_unique before at k x a b p q = p ∙ sym q

pub put_answer_unique : (frame : Answer) (before a b : List ℕ) → a ≡ answer_bytes frame ++ drop 22 before → b ≡ answer_bytes frame ++ drop 22 before → a ≡ b
put_answer_unique frame before a b p q = p ∙ sym q
