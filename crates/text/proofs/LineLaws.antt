-- The line at a place and its refusal, in the words of the library.
-- Assumes nothing.
--
--   line_front                   the bytes of a line are the first ones of its list
--   line_is, line_long           how long a line is, out of the place of the first line feed
--   line_fits                    a line ends within the text
--   bad_odd, bad_torn, bad_is    a line with an odd number of digits, one with no line feed, and any other
use Rattle.std.proofs.Common.{◌≡◌, refl, sym, ap, ◌∙◌, Bool, true, false, cond, not, ◌||◌, ◌&&◌, List, [], ◌∷◌, length, get_or, take, drop, ℕ, zero, suc, ◌+◌, ◌-◌, ◌%◌, ◌≤◌, nat_lt, Option, Some, None, arith, length-drop}
use Rattle.std.specs.List.{list_all, position, position_or_len}
use Rattle.std.specs.Option.{unwrap_or}
use Rattle.std.proofs.Math.Dec.{eqb}
use Rattle.std.proofs.Math.Seq.{take-length}
use Rattle.std.proofs.lemmas.List.Sums.{prefix_len-le-length}
use Rattle.std.proofs.lemmas.Bool.Decides.{nat_tests}
use Rattle.sums.specs.Tests.{either, any}
use Rattle.digits.specs.Digits.{is_digit}
use Rattle.text.specs.Line.{line_of, has_feed, line_at, bad_line}

-- a byte that ends a line
abbrev feed : ℕ → Bool
feed c = eqb c 10

line_of_length : (t : List ℕ) → length (line_of t) ≡ position_or_len feed t
unfolding line_of
line_of_length [] = refl
line_of_length (c ∷ t) = go (feed c) (line_of_length t)
  where
    go : (b : Bool) → length (line_of t) ≡ position_or_len feed t → length (cond b [] (c ∷ line_of t)) ≡ cond (not b) (1 + position_or_len feed t) 0
    go true e = refl
    go false e = omega (arith, e)

-- a line is the front of its list
pub line_front : (t : List ℕ) → take (length (line_of t)) t ≡ line_of t
unfolding line_of
line_front [] = refl
line_front (c ∷ t) = go (feed c) (line_front t)
  where
    go : (b : Bool) → take (length (line_of t)) t ≡ line_of t → take (length (cond b [] (c ∷ line_of t))) (c ∷ t) ≡ cond b [] (c ∷ line_of t)
    go true e = refl
    go false e = ap (λ l. c ∷ l) e

line_short : (t : List ℕ) → length (line_of t) ≤ length t
unfolding line_of
line_short [] = omega arith
line_short (c ∷ t) = go (feed c) (line_short t)
  where
    go : (b : Bool) → length (line_of t) ≤ length t → length (cond b [] (c ∷ line_of t)) ≤ suc (length t)
    go true h = omega arith
    go false h = omega arith

-- a line is shorter than its list exactly where a line feed ends it
fed_is : (t : List ℕ) → has_feed t ≡ not (eqb (length (line_of t)) (length t))
unfolding line_of has_feed
fed_is [] = refl
fed_is (c ∷ t) = go (feed c) (fed_is t)
  where
    go : (b : Bool) → has_feed t ≡ not (eqb (length (line_of t)) (length t)) → (b || has_feed t) ≡ not (eqb (length (cond b [] (c ∷ line_of t))) (suc (length t)))
    go true e = grind (arith, nat_tests)
    go false e = grind (arith, nat_tests)

-- the test of `any` from its front
any_front : (n : ℕ) (p : ℕ → Bool) → any (suc n) p ≡ (p 0 || any n (λ i. p (suc i)))
unfolding any
any_front zero p = elim (p 0) as (λ b. b ≡ (b || false)) [ true ↦ refl | false ↦ refl ]
any_front (suc n) p =
    rw (any_front n p)
    (elim (p 0) as (λ b. either (b || any n (λ i. p (suc i))) (p (suc n)) ≡ (b || either (any n (λ i. p (suc i))) (p (suc n)))) [ true ↦ refl | false ↦ refl ])

any_other : (p : ℕ → Bool) (l : List ℕ) → any (length l) (λ i. not (p (get_or l i 0))) ≡ not (list_all p l)
any_other p [] = unfold any in refl
any_other p (x ∷ l) =
    any_front (length l) (λ i. not (p (get_or (x ∷ l) i 0)))
    ∙ rw (any_other p l) (elim (p x) as (λ b. (not b || not (list_all p l)) ≡ not (b && list_all p l)) [ true ↦ refl | false ↦ refl ])

-- a place or else the length, where the place is not behind it
found_or : (p n : ℕ) → p ≤ n → unwrap_or (cond (nat_lt p n) (Some p) None) n ≡ p
found_or p n h = grind (arith, nat_tests)

pub line_is : (t : List ℕ) (at : ℕ) → let rest = take (length t - at) (drop at t) in unwrap_or (position feed rest) (length rest) ≡ length (line_at t at)
unfolding line_at
line_is t at =
    let rest = drop at t in
    let whole : take (length t - at) rest ≡ rest = ap (λ n. take n rest) (sym (length-drop at t)) ∙ take-length rest in
    rw whole (found_or (position_or_len feed rest) (length rest) (prefix_len-le-length (λ c. not (feed c)) rest) ∙ sym (line_of_length rest))

pub bad_odd : (t : List ℕ) (at : ℕ) → length (line_at t at) % 2 ≡ 1 → bad_line t at ≡ true
unfolding bad_line
bad_odd t at o = grind (arith, nat_tests)

-- so long is it, where u is what `feed` gives or else the length
pub line_long : (t : List ℕ) (at u : ℕ) (p : Option ℕ) → let rest = take (length t - at) (drop at t) in u ≡ unwrap_or p (length rest) → p ≡ position feed rest → u ≡ length (line_at t at)
line_long t at u p e f = e ∙ rw f (line_is t at)

module _ (t : List ℕ) (at : ℕ) (h : at ≤ length t) where
  pub line_fits : at + length (line_at t at) ≤ length t
  unfolding line_at
  line_fits = omega (arith, line_short (drop at t), length-drop at t)

  pub bad_torn : at + length (line_at t at) ≡ length t → bad_line t at ≡ true
  unfolding bad_line line_at
  bad_torn o = rw (fed_is (drop at t)) (let e = length-drop at t in grind (arith, nat_tests))

  pub bad_is : (length (line_at t at) % 2 ≡ 1 → ⊥) → (at + length (line_at t at) ≡ length t → ⊥) → bad_line t at ≡ not (list_all is_digit (take (length (line_at t at)) (drop at t)))
  unfolding bad_line line_at
  bad_is o n =
      let e = length-drop at t in
      rw (fed_is (drop at t), line_front (drop at t), any_other is_digit (line_of (drop at t))) (grind (arith, nat_tests))
