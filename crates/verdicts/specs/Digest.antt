-- The digest of the work places.
--
--   stirred d place    the digest d with one more place in it
use Rattle.std.specs.Prelude.{ℕ, ◌*◌, ◌/◌, ◌%◌, ◌^◌, bit_xor}

-- a number joined with itself shifted down by 29
abbrev pub folded : ℕ → ℕ
folded product = bit_xor product (product / 2 ^ 29)

abbrev pub stirred : ℕ → ℕ → ℕ
stirred d place = folded ((bit_xor d place * 1099511628211) % 2 ^ 64)
