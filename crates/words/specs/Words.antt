-- Numbers of a text in capital hexadecimal digits, one byte that is no digit behind each.
--
--   grown v t             the number v with the digits at the front of t put behind its own
--   taken t               how many bytes the number at the front of t takes: its digits, and the byte that ends them if there is one
--   word_at text at        the number at a place of the text, modulo 2 ^ 64, and the place behind it
--   words_at text at k     the k numbers from a place on
--   words_end text at k    the place behind them
use Rattle.std.specs.Prelude.{cond, List, [], ◌∷◌, ℕ, zero, suc, ◌+◌, ◌*◌, ◌%◌, ◌^◌, drop}
use Rattle.digits.specs.Digits.{is_digit, digit}
use Rattle.words.specs.Number.{Number}

unfoldable pub grown : ℕ → List ℕ → ℕ
grown v [] = v
grown v (c ∷ t) = cond (is_digit c) (grown (v * 16 + digit c) t) v

unfoldable pub taken : List ℕ → ℕ
taken [] = 0
taken (c ∷ t) = cond (is_digit c) (1 + taken t) 1

unfoldable pub word_at : List ℕ → ℕ → Number
word_at text at = record { value = grown 0 (drop at text) % 2 ^ 64; next = at + taken (drop at text) }

unfoldable pub words_at : List ℕ → ℕ → ℕ → List ℕ
words_at text at zero = []
words_at text at (suc k) = (word_at text at).value ∷ words_at text (word_at text at).next k

unfoldable pub words_end : List ℕ → ℕ → ℕ → ℕ
words_end text at zero = at
words_end text at (suc k) = words_end text (word_at text at).next k
