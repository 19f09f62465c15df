-- Two results that meet the statement of a public function are equal.
-- Assumes nothing.
--
--   new_unique, has_more_unique   of the function of that name; of `new` the text and the place
--   word_settled                  of `word`: the number, the place behind it and the text
--   word_unique                   the number and the place as one
--   fill_settled                  of `fill`: the place, the list and the text
--   words_unique                  the place and the list
use mathlib.Core.Path.{◌≡◌, refl, sym, ◌∙◌}
use mathlib.Core.List.{List}
use mathlib.Core.Bool.{Bool, true, false}
use Prim.Native.Nat.{ℕ, ◌<◌}
use Rattle.std.specs.Prelude.{◌↔◌, IsTrue, length}
use Rattle.words.specs.Number.{Number}
use Rattle.words.specs.Words.{word_at, words_at, words_end}

pub new_unique : (text : List ℕ) (at : ℕ) (l m : List ℕ) (a b : ℕ) → l ≡ text → a ≡ at → m ≡ text → b ≡ at → (l ≡ m) × (a ≡ b)
new_unique text at l m a b p x q y = (p ∙ sym q, x ∙ sym y)

pub has_more_unique : (text : List ℕ) (at : ℕ) (a b : Bool) → IsTrue a ↔ (at < length text) → IsTrue b ↔ (at < length text) → a ≡ b
has_more_unique text at true true p q = refl
has_more_unique text at true false p q = sym (q.1 (p.0 refl))
has_more_unique text at false true p q = p.1 (q.0 refl)
has_more_unique text at false false p q = refl

pub word_settled : (text : List ℕ) (at a b i j : ℕ) (l m : List ℕ) → a ≡ (word_at text at).value → i ≡ (word_at text at).next → l ≡ text
    → b ≡ (word_at text at).value → j ≡ (word_at text at).next → m ≡ text → (a ≡ b) × (i ≡ j) × (l ≡ m)
word_settled text at a b i j l m p x s q y t = (p ∙ sym q, x ∙ sym y, s ∙ sym t)

pub word_unique : (text : List ℕ) (at : ℕ) (a b : Number) → a ≡ word_at text at → b ≡ word_at text at → a ≡ b
word_unique text at a b p q = p ∙ sym q

pub words_unique : (text : List ℕ) (at k a b : ℕ) (l m : List ℕ) → a ≡ words_end text at k → l ≡ words_at text at k → b ≡ words_end text at k → m ≡ words_at text at k
    → (a ≡ b) × (l ≡ m)
words_unique text at k a b l m p x q y = (p ∙ sym q, x ∙ sym y)

pub fill_settled : (text : List ℕ) (at k a b : ℕ) (l m t u : List ℕ) → a ≡ words_end text at k → l ≡ words_at text at k → t ≡ text → b ≡ words_end text at k → m ≡ words_at text at k → u ≡ text
    → (a ≡ b) × (l ≡ m) × (t ≡ u)
fill_settled text at k a b l m t u p x s q y r = (p ∙ sym q, x ∙ sym y, s ∙ sym r)
