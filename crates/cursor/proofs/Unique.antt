-- Two results that meet the statement of a public function are equal.
-- Assumes nothing.
--
--   frame_settled, further_settled   of the method of that name: two results whose numbers meet its statement
--   frame_unique, further_unique     of these numbers
--   place_unique                     of `new`: two readers of one text at one place
use mathlib.Core.Path.{◌≡◌, sym, ◌∙◌}
use mathlib.Core.List.{List}
use Prim.Native.Nat.{ℕ}
use denote.Ref.{Bor}
use Rattle.std.specs.Prelude.{Result}
use Rattle.reasons.specs.declared.Reason.{Reason}
use Rattle.reasons.specs.Numbers.{refusal_number}
use Rattle.reasons.proofs.NumberLaws.{refusal_one}
use Rattle.cursor.specs.declared.Reader.{Reader}
use Rattle.cursor.specs.Frame.{frame_fault, further_fault}

pub frame_unique : (text : List ℕ) (at kind due a b : ℕ) → a ≡ frame_fault text at kind due → b ≡ frame_fault text at kind due → a ≡ b
frame_unique text at kind due a b p q = p ∙ sym q

pub frame_settled : (text : List ℕ) (at kind due : ℕ) (a b : Result (Unit {0}) Reason) → refusal_number a ≡ frame_fault text at kind due → refusal_number b ≡ frame_fault text at kind due → a ≡ b
frame_settled text at kind due a b p q = refusal_one a b (frame_unique text at kind due _ _ p q)

pub further_unique : (text : List ℕ) (at a b : ℕ) → a ≡ further_fault text at → b ≡ further_fault text at → a ≡ b
further_unique text at a b p q = p ∙ sym q

pub further_settled : (text : List ℕ) (at : ℕ) (a b : Result (Unit {0}) Reason) → refusal_number a ≡ further_fault text at → refusal_number b ≡ further_fault text at → a ≡ b
further_settled text at a b p q = refusal_one a b (further_unique text at _ _ p q)

pub place_unique : (text : Bor (List ℕ)) (at : ℕ) (a b : Reader) → (a.text ≡ text) × (a.at ≡ at) → (b.text ≡ text) × (b.at ≡ at) → a ≡ b
place_unique text at a b p q = λ i. record { text = (p.0 ∙ sym q.0) i; at = (p.1 ∙ sym q.1) i }
