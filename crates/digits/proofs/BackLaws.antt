-- What was spelt is read back: the definitions of reading and of writing agree.
-- Assumes nothing.
--
--   digit_spelt      the digit worth d is a digit, and worth d
--   spell_at         digit i of k
--   number_back      a number is read from its digits, wherever they stand
--   number_spell     a number spelt in 2k digits is read back as k bytes
use mathlib.Core.Path.{◌≡◌, refl, sym, ap, ◌∙◌}
use mathlib.Core.Bool.{true}
use mathlib.Core.List.{List}
use Prim.Native.Nat.{ℕ, zero, suc, ◌+◌, ◌*◌, ◌-◌, ◌/◌, ◌%◌, ◌^◌, ◌<◌}
use native.Mathlib.Nat.{zero-add, pow-suc, div-div-eq-div-mul, div-one, mod-lt, one-le-pow}
use Rattle.std.proofs.lemmas.Bool.Decides.{nat_tests}
use native.Mathlib.Omega.{arith}
use lib.Arith.{mod-mul}
use lib.Dec.{lit<}
use lib.ListN.{get_or}
use Rattle.digits.specs.Digits.{is_digit, digit, byte_at, number}
use Rattle.digits.specs.Spell.{spelt, spell}

digit_spelt : (d : ℕ) → d < 16 → (is_digit (spelt d) ≡ true) × (digit (spelt d) ≡ d)
unfolding is_digit digit spelt
digit_spelt d l = (grind (arith, nat_tests), grind (arith, nat_tests))

pub spell_at : (k x i : ℕ) → i < k → get_or (spell k x) i 0 ≡ spelt (x / 16 ^ (k - suc i) % 16)
unfolding spell
spell_at zero x i l = absurd (omega arith)
spell_at (suc k) x zero l = let e : suc k - 1 ≡ k = omega arith in rw e refl
spell_at (suc k) x (suc i) l = let e : suc k - suc (suc i) ≡ k - suc i = omega arith in rw e (spell_at k x i (omega arith))

shift : (x a b : ℕ) → a ≡ suc (suc b) → x / 16 ^ a ≡ x / 256 / 16 ^ b
shift x a b e =
    let p : 16 ^ suc (suc b) ≡ 256 * 16 ^ b = let u = pow-suc 16 (suc b) in let v = pow-suc 16 b in omega (arith, u, v) in
    rw (e, p) (sym (div-div-eq-div-mul x 256 (16 ^ b)))

pub number_back : (k : ℕ) (t : List ℕ) (at x : ℕ) → ((i : ℕ) → i < 2 * k → get_or t (at + i) 0 ≡ spelt (x / 16 ^ (2 * k - suc i) % 16)) → number t at k ≡ x % 256 ^ k
unfolding number byte_at
number_back zero t at x h = omega arith
number_back (suc k) t at x h =
    let ih = number_back k t at (x / 256) (λ i l. h i (omega arith) ∙ ap (λ (y : ℕ). spelt (y % 16)) (shift x (2 * suc k - suc i) (2 * k - suc i) (omega arith))) in
    let a : 2 * suc k - suc (2 * k) ≡ 1 = omega arith in
    let b : 2 * suc k - suc (2 * k + 1) ≡ 0 = omega arith in
    let f : digit (get_or t (at + 2 * k) 0) ≡ x / 16 % 16 =
    ap digit (h (2 * k) (omega arith)) ∙ (digit_spelt (x / 16 ^ (2 * suc k - suc (2 * k)) % 16) (mod-lt _ (lit< tt))).1 ∙ ap (λ (e : ℕ). x / 16 ^ e % 16) a in
    let g : digit (get_or t (at + 2 * k + 1) 0) ≡ x % 16 =
    ap (λ (e : ℕ). digit (get_or t e 0)) (omega arith)
    ∙ ap digit (h (2 * k + 1) (omega arith)) ∙ (digit_spelt (x / 16 ^ (2 * suc k - suc (2 * k + 1)) % 16) (mod-lt _ (lit< tt))).1 ∙ ap (λ (e : ℕ). x / 16 ^ e % 16) b ∙ ap (λ (e : ℕ). e % 16) (div-one x) in
    let m = mod-mul x {m = 256 ^ k} {c = 256} (one-le-pow k 256 (lit< tt)) (lit< tt) in
    rw (pow-suc 256 k, m, ih, f, g) (omega arith)

pub number_spell : (k x : ℕ) → number (spell (2 * k) x) 0 k ≡ x % 256 ^ k
number_spell k x = number_back k (spell (2 * k) x) 0 x (λ i l. ap (λ (e : ℕ). get_or (spell (2 * k) x) e 0) (zero-add i) ∙ spell_at (2 * k) x i l)
