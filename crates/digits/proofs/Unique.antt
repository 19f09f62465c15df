-- Two results that meet the statement of a public function are equal.
-- Assumes nothing.
--
--   digit_unique, byte_at_unique, number_unique, put_digits_unique   of the function of that name
--   is_digit_unique, digit_value_unique                              of both words that `digit` holds
--   number2_unique, number4_unique                                   of numbers of two and of four bytes
use Rattle.std.proofs.Common.{◌≡◌, sym, ◌∙◌, Bool, Option, Some, None, if◌then◌else◌, List, ◌++◌, ℕ, ◌+◌, take, drop}
use Rattle.digits.specs.Digits.{is_digit, digit, byte_at, number}
use Rattle.digits.specs.Spell.{spell}

pub digit_unique : (c : ℕ) (a b : Option ℕ) → a ≡ (if is_digit c then Some (digit c) else None) → b ≡ (if is_digit c then Some (digit c) else None) → a ≡ b
digit_unique c a b p q = p ∙ sym q

pub is_digit_unique : (c : ℕ) (a b : Bool) → a ≡ is_digit c → b ≡ is_digit c → a ≡ b
is_digit_unique c a b p q = p ∙ sym q

pub digit_value_unique : (c a b : ℕ) → a ≡ digit c → b ≡ digit c → a ≡ b
digit_value_unique c a b p q = p ∙ sym q

pub byte_at_unique : (text : List ℕ) (at a b : ℕ) → a ≡ byte_at text at → b ≡ byte_at text at → a ≡ b
byte_at_unique text at a b p q = p ∙ sym q

pub number_unique : (text : List ℕ) (at bytes a b : ℕ) → a ≡ number text at bytes → b ≡ number text at bytes → a ≡ b
number_unique text at bytes a b p q = p ∙ sym q

pub number2_unique : (text : List ℕ) (at a b : ℕ) → a ≡ number text at 2 → b ≡ number text at 2 → a ≡ b
number2_unique text at = number_unique text at 2

pub number4_unique : (text : List ℕ) (at a b : ℕ) → a ≡ number text at 4 → b ≡ number text at 4 → a ≡ b
number4_unique text at = number_unique text at 4

pub put_digits_unique : (out : List ℕ) (at k x : ℕ) (l m : List ℕ)
    → l ≡ take at out ++ spell k x ++ drop (at + k) out → m ≡ take at out ++ spell k x ++ drop (at + k) out → l ≡ m
put_digits_unique out at k x l m p q = p ∙ sym q
