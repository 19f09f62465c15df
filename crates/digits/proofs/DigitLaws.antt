-- How much a digit can be worth, and a number read byte by byte.
-- Assumes nothing.
--
--   digit_small             a digit is worth less than 16
--   digit_some, digit_or    what `digits::digit` gives says whether a byte is a digit, and what it is worth, 0 for any other
--   Read, read_..           the first k bytes of a number are read: the loop's invariant, its start, a turn, and that a turn fits in 64 bits
use Rattle.std.proofs.Common.{◌≡◌, refl, true, false, Some, None, if◌then◌else◌, List, ℕ, suc, ◌+◌, ◌*◌, ◌^◌, ◌<◌, lit<, arith}
use Rattle.std.proofs.Math.Nat.{pow-suc, pow-le-pow_right}
use Rattle.std.proofs.lemmas.Bool.Decides.{nat_tests}
use Rattle.std.specs.Option.{is_some, unwrap_or}
use Rattle.digits.specs.Digits.{is_digit, digit, byte_at, number}

pub digit_small : (c : ℕ) → digit c < 16
unfolding digit
digit_small c = grind (arith, nat_tests)

pub digit_some : (c : ℕ) → is_some (if is_digit c then Some (digit c) else None) ≡ is_digit c
digit_some c = elim (is_digit c) as (λ b. is_some (if b then Some (digit c) else None) ≡ b) [ true ↦ refl | false ↦ refl ]

pub digit_or : (c : ℕ) → unwrap_or (if is_digit c then Some (digit c) else None) 0 ≡ digit c
unfolding is_digit digit
digit_or c = grind (arith, nat_tests)

-- the first k bytes of the number at a place are read, and v is what they spell
pub record Read (t : List ℕ) (at k v : ℕ) : Type 0 where
  pub value : v ≡ number t at k
  pub bound : v < 256 ^ k

module _ (t : List ℕ) (at : ℕ) where
  pub read_none : Read t at 0 0
  unfolding number
  read_none = record { value = refl; bound = omega arith }

  -- w is read with the byte b at place p
  pub read_more : (k v b p w : ℕ) → Read t at k v → b ≡ byte_at t p → p ≡ at + 2 * k → w ≡ v * 256 + b → b < 256 → Read t at (k + 1) w
  unfolding number
  read_more k v b p w r e f g l =
      let s : k + 1 ≡ suc k = omega arith in
      rw (s, g) (record { value = rw (r.value, e, f) refl; bound = let p = pow-suc 256 k in omega (arith, p, r.bound, l) })

pub read_fits : (t : List ℕ) (at k v : ℕ) → Read t at k v → k < 8 → v < 2 ^ 56
read_fits t at k v r h = let p = pow-le-pow_right {n = 256} (lit< tt) {i = k} {j = 7} (omega arith) in omega (arith, p, r.bound)
