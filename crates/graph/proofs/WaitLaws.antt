-- Rows and the waits that they say.
-- Assumes nothing.
--
--   waits_has, has_waits   a wait and the digit of the row
--   waits_below            past the end of the list nobody waits
--   known_cases            the rows name only jobs that are there where each is below 2 ^ n
--   known_jobs             what a call of `rows_known` with the answer true gives
use mathlib.Core.Path.{◌≡◌, sym, ap, ◌∙◌, subst}
use mathlib.Core.List.{List}
use mathlib.Core.Bool.{Bool, true, false}
use Prim.Native.Nat.{ℕ, ◌+◌, ◌*◌, ◌%◌, ◌/◌, ◌^◌, ◌<◌, ◌≤◌, zero-le}
use native.Mathlib.Omega.{arith}
use native.Mathlib.Decide.{dec_lt}
use lib.Dec.{T}
use lib.Pow.{pow_pos}
use lib.ListN.{length, get_or, get_or-eq_default}
use Rattle.std.specs.Bool.{MatchBool}
use Rattle.std.specs.List.{AllWithin, HoldsAt}
use Rattle.bits.specs.Mask.{bit, Has}
use Rattle.bits.proofs.Digits.{bit_zero}
use Rattle.bits.proofs.Masks.{has_test, test_has}
use Rattle.bits.proofs.Lowest.{shifted_some, has_below}
use Rattle.graph.specs.Waits.{waits, Jobs, Known}
use Rattle.graph.specs.Waits.Known.{all, stray}

pub waits_has : (rows : List ℕ) (j i : ℕ) → T (waits rows j i) → Has (get_or rows j 0) i
unfolding waits
waits_has rows j i t = test_has (get_or rows j 0) i t

pub has_waits : (rows : List ℕ) (j i : ℕ) → Has (get_or rows j 0) i → T (waits rows j i)
unfolding waits
has_waits rows j i h = has_test (get_or rows j 0) i h

pub waits_below : (rows : List ℕ) (j i : ℕ) → T (waits rows j i) → j < length rows
waits_below rows j i t = go (dec_lt j (length rows))
  where
    go : Dec (j < length rows) → j < length rows
    go (yes l) = l
    go (no l) = absurd (omega (arith, sym (waits_has rows j i t) ∙ ap (λ (x : ℕ). bit x i) (get_or-eq_default rows 0 (omega arith)) ∙ bit_zero i))

-- ---- rows that name only jobs of the list

-- a row that is not below 2 ^ n names a job n or above
row_stray : (row n : ℕ) → row < 2 ^ 64 → 2 ^ n ≤ row → (i : ℕ) × Has row i × (n ≤ i)
row_stray row n small l = shifted_some row n small some
  where
    some : row / 2 ^ n ≡ 0 → ⊥
    some e =
        let p = pow_pos n in
        let split : row ≡ 2 ^ n * (row / 2 ^ n) + row % 2 ^ n = omega arith in
        let low : row ≡ 2 ^ n * 0 + row % 2 ^ n = rw e at split in
        omega arith

pub known_cases : (rows : List ℕ) (b : Bool) → ((k : ℕ) → get_or rows k 0 < 2 ^ 64)
    → MatchBool b (AllWithin (λ row. row < 2 ^ length rows) rows 0 (length rows)) ((k : ℕ) × (k < length rows) × HoldsAt (λ row. 2 ^ length rows ≤ row) rows k)
    → Known rows b
known_cases rows true small h = all (λ j i w. has_below (length rows) (get_or rows j 0) i (h j 0 zero-le (waits_below rows j i w)) (waits_has rows j i w))
known_cases rows false small h = let s = row_stray (get_or rows h.0 0) (length rows) (small h.0) (h.2 0) in stray h.0 s.0 (has_waits rows h.0 s.0 s.1) s.2

-- where all is known, the rows are an accepted list of jobs
pub known_jobs : (rows : List ℕ) (b : Bool) → length rows ≤ 64 → Known rows b → b ≡ true → Jobs rows
known_jobs rows true few (all k) e = record { few = few; known = k }
known_jobs rows false few k e = absurd (subst T (sym e) tt)
