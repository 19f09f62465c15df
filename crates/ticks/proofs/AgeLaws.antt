-- What an age means where the counter wraps, and that the statements of `age` and `cost` leave one result.
-- Assumes nothing.
--
--   counter time       what the tick counter shows at a true time in milliseconds
--   age_exact          a run's age is the true time since it was issued, below 2^32, whatever wraps in between
--   age_small          an age is below 2^32
--   age_back           the issue tick and the age give the present tick back
--   age_32             present 00000010 with issue FFFFFFF0 gives 32
--   age_equal          equal ticks give 0
--   product_small      a weight of 16 bits times a number of 32
--   age_unique, cost_unique   two results that meet the statement are equal
use Rattle.std.proofs.Common.{◌≡◌, ℕ, ◌+◌, ◌*◌, ◌%◌, ◌^◌, ◌<◌, ◌≤◌, sym, refl, ◌∙◌, mul-le-mul, arith}
use Rattle.ticks.specs.declared.Ticks.{Ticks}
use Rattle.ticks.specs.declared.Operations.{Operations}
use Rattle.ticks.specs.Costs.{age_of, cost_of}

abbrev pub counter : ℕ → Ticks
counter time = record { 0 = time % 2 ^ 32 }

pub age_exact : (issued d : ℕ) → d < 2 ^ 32 → (age_of (counter (issued + d)) (counter issued)).0 ≡ d
unfolding age_of
age_exact issued d h = omega arith

pub age_small : (present issue : Ticks) → (age_of present issue).0 < 2 ^ 32
unfolding age_of
age_small present issue = omega arith

pub age_back : (present issue : Ticks) → present.0 < 2 ^ 32 → issue.0 < 2 ^ 32 → (issue.0 + (age_of present issue).0) % 2 ^ 32 ≡ present.0
unfolding age_of
age_back present issue hp hi = omega arith

pub age_32 : (age_of (record { 0 = 0x10 }) (record { 0 = 0xFFFF_FFF0 })).0 ≡ 32
unfolding age_of
age_32 = refl

pub age_equal : (at : Ticks) → at.0 < 2 ^ 32 → (age_of at at).0 ≡ 0
unfolding age_of
age_equal at h = omega arith

pub product_small : (w x : ℕ) → w < 2 ^ 16 → x < 2 ^ 32 → w * x ≤ 65536 * 4294967296
product_small w x h k =
    let a : w ≤ 65536 = omega arith in
    let b : x ≤ 4294967296 = omega arith in
    mul-le-mul a b

pub age_unique : (present issue r s : Ticks) → r ≡ age_of present issue → s ≡ age_of present issue → r ≡ s
age_unique present issue r s a b = a ∙ sym b

pub cost_unique : (a b : ℕ) (operations : Operations) (age : Ticks) (r s : ℕ) → r ≡ cost_of a b operations age → s ≡ cost_of a b operations age → r ≡ s
cost_unique a b operations age r s p q = p ∙ sym q
