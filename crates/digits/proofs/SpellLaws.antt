-- Digits written from the last to the first, and parts of a list written one behind another.
-- Assumes nothing.
--
--   spelt_low, spelt_high          the digit worth d, below 10 and from 10 on
--   based, spell_based             the last k digits of a number to any base, each written as a function says; capital digits to the base 16 are such
--   Spelling, spelling-..          the writing of k digits to a base: its invariant, its start, a turn, its end
--   part_next                      the next part behind what is written
--   spell_length                   k digits are k long
use mathlib.Core.Path.{◌≡◌, refl, sym, ap, ◌∙◌}
use mathlib.Core.List.{List, [], ◌∷◌, ◌++◌, append_assoc}
use Prim.Native.Nat.{ℕ, zero, suc, ◌+◌, ◌-◌, ◌/◌, ◌%◌, ◌^◌, ◌<◌, ◌≤◌}
use native.Mathlib.Nat.{pow-zero, pow-suc, div-div-eq-div-mul, div-one}
use native.Mathlib.Omega.{arith}
use borrow.Author.Tests.{lt-ltb, le-ltb}
use lib.ListN.{length, get_or, take, drop, set, length-set, take-append-drop}
use lib.Seq.{take-suc, set_at, append_snoc, length-take-le, take_at, drop-append-add, drop-drop}
use Rattle.digits.specs.Spell.{spelt, spell}

pub spelt_low : (d : ℕ) → d < 10 → 48 + d ≡ spelt d
unfolding spelt
spelt_low d a = simp (lt-ltb _ _ a)

pub spelt_high : (d : ℕ) → 10 ≤ d → 55 + d ≡ spelt d
unfolding spelt
spelt_high d a = simp (le-ltb _ _ a)

-- a store in front of what is written
put_before : (d rest : List ℕ) (p v : ℕ) → p < length d → set (take (suc p) d ++ rest) p v ≡ take p d ++ v ∷ rest
put_before d rest p v l = rw (take-suc d p 0 l, append_snoc (take p d) (get_or d p 0) rest) (set_at (take p d) (get_or d p 0) rest v p (length-take-le p d (omega arith)))

-- the last k digits of x to a base, each written as f says
unfoldable pub based : ℕ → (ℕ → ℕ) → ℕ → ℕ → List ℕ
based base f zero x = []
based base f (suc k) x = f (x / base ^ k % base) ∷ based base f k x

pub spell_based : (k x : ℕ) → based 16 spelt k x ≡ spell k x
unfolding based spell
spell_based zero x = refl
spell_based (suc k) x = ap (λ (l : List ℕ). spelt (x / 16 ^ k % 16) ∷ l) (spell_based k x)

module _ (base : ℕ) (f : ℕ → ℕ) where
  -- the digits from i on are written
  pub record Spelling (d : List ℕ) (at k x : ℕ) (l : List ℕ) (rest i : ℕ) : Type 0 where
    pub small : i ≤ k
    pub room : length l ≡ length d
    pub left : rest ≡ x / base ^ (k - i)
    pub done : l ≡ take (at + i) d ++ based base f (k - i) x ++ drop (at + k) d

  pub spelling_none : (d : List ℕ) (at k x : ℕ) → Spelling d at k x d x k
  unfolding based
  spelling_none d at k x =
      let z : k - k ≡ 0 = omega arith in record {
        small = omega arith;
        room = refl;
        left = rw (z, pow-zero base) (sym (div-one x));
        done = rw z (sym (append_nil_mid (take (at + k) d) (drop (at + k) d) ∙ take-append-drop (at + k) d));
      }
    where
      append_nil_mid : (a b : List ℕ) → (a ++ []) ++ b ≡ a ++ b
      append_nil_mid a b = append_assoc a [] b

  pub spelling_more : (d : List ℕ) (at k x : ℕ) (l : List ℕ) (rest i v : ℕ) → at + k ≤ length d → 0 < i → v ≡ f (rest % base) → Spelling d at k x l rest i
      → Spelling d at k x (set l (at + (i - 1)) v) (rest / base) (i - 1)
  unfolding based
  spelling_more d at k x l rest i v room o e s =
      let a = s.small in
      let m : k - (i - 1) ≡ suc (k - i) = omega arith in
      let p : at + i ≡ suc (at + (i - 1)) = omega arith in
      record {
        small = omega arith;
        room = length-set l (at + (i - 1)) v ∙ s.room;
        left = rw (m, s.left, pow-suc base (k - i)) (div-div-eq-div-mul x (base ^ (k - i)) base);
        done =
            rw (m, s.done, p, e, s.left)
            (ap (λ (q : List ℕ). set q (at + (i - 1)) (f (x / base ^ (k - i) % base))) (append_assoc (take (suc (at + (i - 1))) d) (based base f (k - i) x) (drop (at + k) d))
            ∙ put_before d (based base f (k - i) x ++ drop (at + k) d) (at + (i - 1)) (f (x / base ^ (k - i) % base)) (omega arith)
            ∙ sym (append_assoc (take (at + (i - 1)) d) (f (x / base ^ (k - i) % base) ∷ based base f (k - i) x) (drop (at + k) d)));
      }

  pub spelling_end : (d : List ℕ) (at k x : ℕ) (l : List ℕ) (rest i : ℕ) → i ≤ 0 → Spelling d at k x l rest i → l ≡ take at d ++ based base f k x ++ drop (at + k) d
  spelling_end d at k x l rest i o s =
      let z : i ≡ 0 = omega arith in
      let a : at + i ≡ at = omega arith in
      let b : k - i ≡ k = omega arith in
      s.done ∙ rw (a, b) refl

-- the next part behind what is written
pub part_next : (d pre part l l' : List ℕ) (a k : ℕ) → length pre ≡ a → l ≡ pre ++ drop a d → l' ≡ take a l ++ part ++ drop (a + k) l
    → l' ≡ pre ++ part ++ drop (a + k) d
part_next d pre part l l' a k e f g =
    let t : take a l ≡ pre = rw f (take_at pre (drop a d) a e) in
    let r : drop (a + k) l ≡ drop (a + k) d = rw (f, ← e) (drop-append-add pre (drop (length pre) d) k ∙ drop-drop k (length pre) d) in
    g ∙ rw (t, r) refl

pub spell_length : (k x : ℕ) → length (spell k x) ≡ k
unfolding spell
spell_length zero x = refl
spell_length (suc k) x = let e = spell_length k x in omega (arith, e)
