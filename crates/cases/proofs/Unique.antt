-- Two results that meet the statement of a public function are equal.
-- Assumes nothing.
--
--   Read, read_unique      of `Numbers::read`: the numbers, if there is room for them, the place and the text
--   as_slice_unique, call_unique, places_unique, yes_or_no_unique   of the function of that name
--   case_unique, case_room what stands on the line of a case; where a case is read there is room for it
use Rattle.std.proofs.Common.{◌≡◌, refl, sym, ap, ◌∙◌, Bool, Option, Some, None, if◌then◌else◌, List, ℕ, ◌≤◌, take, length, inl, inr, arith}
use Rattle.std.specs.Prelude.{◌↔◌, IsSome, IfSome, IfNone, codes}
use Rattle.words.specs.Words.{words_at, words_end}
use Rattle.words.proofs.ListLaws.{words_length}
use Rattle.cases.specs.Cases.{opening, rows_from, costs_from, CaseAt, NoRoom}

module _ (text : List ℕ) (at count size : ℕ) where
  -- the clauses of `Numbers::read`, of its numbers, the place after it and the text
  pub record Read (numbers : Option (List ℕ)) (place : ℕ) (after : List ℕ) : Type 0 where
    pub same : after ≡ text
    pub room : IsSome numbers ↔ (count ≤ size)
    pub read : IfSome numbers (λ list. list ≡ words_at text at count)
    pub onward : IfSome numbers (λ list. place ≡ words_end text at count)
    pub kept : IfNone numbers (place ≡ at)

  pub read_unique : (a b : Option (List ℕ)) (i j : ℕ) (t u : List ℕ) → Read a i t → Read b j u → (a ≡ b) × (i ≡ j) × (t ≡ u)
  read_unique (Some l) (Some m) i j t u A B = (ap Some (A.read ∙ sym B.read), A.onward ∙ sym B.onward, A.same ∙ sym B.same)
  read_unique (Some l) None i j t u A B = absurd (cc (B.room.1 (A.room.0 refl)))
  read_unique None (Some m) i j t u A B = absurd (cc (A.room.1 (B.room.0 refl)))
  read_unique None None i j t u A B = (refl, A.kept ∙ sym B.kept, A.same ∙ sym B.same)

pub as_slice_unique : (list : List ℕ) (count : ℕ) (a b : List ℕ) → a ≡ take count list → b ≡ take count list → a ≡ b
as_slice_unique list count a b p q = p ∙ sym q

pub call_unique : (rows costs : List ℕ) (t allowance : ℕ) (r c r' c' : List ℕ) (s k s' k' : ℕ) → r ≡ rows → c ≡ costs → s ≡ t → k ≡ allowance → r' ≡ rows → c' ≡ costs → s' ≡ t → k' ≡ allowance
    → (r ≡ r') × (c ≡ c') × (s ≡ s') × (k ≡ k')
call_unique rows costs t allowance r c r' c' s k s' k' p q x y p' q' x' y' = (p ∙ sym p', q ∙ sym q', x ∙ sym x', y ∙ sym y')

pub places_unique : (places a b : ℕ) → a ≡ places → b ≡ places → a ≡ b
places_unique places a b p q = p ∙ sym q

pub yes_or_no_unique : (x : Bool) (a b : List ℕ) → a ≡ (if x then codes "yes" else codes "no") → b ≡ (if x then codes "yes" else codes "no") → a ≡ b
yes_or_no_unique x a b p q = p ∙ sym q

pub case_unique : (text : List ℕ) (at : ℕ) (r c r' c' : List ℕ) (w t k i w' t' k' i' : ℕ) → CaseAt text at r c w t k i → CaseAt text at r' c' w' t' k' i'
    → (r ≡ r') × (c ≡ c') × (w ≡ w') × (t ≡ t') × (k ≡ k') × (i ≡ i')
case_unique text at r c r' c' w t k i w' t' k' i' A B = (
  A.rows_read ∙ sym B.rows_read,
  A.costs_read ∙ sym B.costs_read,
  A.places_read ∙ sym B.places_read,
  A.t_read ∙ sym B.t_read,
  A.allowance_read ∙ sym B.allowance_read,
  A.next_read ∙ sym B.next_read,
)

-- a case has room for 80 rows, 80 costs and 6,400 work places
pub case_room : (text : List ℕ) (at : ℕ) (r c : List ℕ) (w t k i : ℕ) → length r ≤ 80 → length c ≤ 80 → w ≤ 6400 → CaseAt text at r c w t k i → NoRoom text at → ⊥
case_room text at r c w t k i few cheap small A (inl h) = omega (arith, ap length A.rows_read, words_length text (rows_from text at) (opening text at 0))
case_room text at r c w t k i few cheap small A (inr (inl h)) = omega (arith, ap length A.costs_read, words_length text (costs_from text at) (opening text at 1))
case_room text at r c w t k i few cheap small A (inr (inr h)) = omega (arith, A.places_read)
