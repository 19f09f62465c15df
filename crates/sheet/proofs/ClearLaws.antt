-- That the result of `clear` is one.
-- Assumes nothing.
--
--   clear_unique    two results of `clear` are equal
use mathlib.Core.Path.{◌≡◌, sym, ◌∙◌}
use mathlib.Core.List.{List}
use Prim.Native.Nat.{ℕ, ◌*◌, ◌<◌}
use native.Mathlib.Decide.{dec_lt}
use native.Mathlib.Omega.{arith}
use lib.ListN.{get_or}
use lib.Seq.{ext_get_or}
use Rattle.sheet.specs.Cleared.{Cleared}

pub clear_unique : (n : ℕ) (before a b : List ℕ) → Cleared n before a → Cleared n before b → a ≡ b
clear_unique n before a b A B = ext_get_or 0 a b (A.size ∙ sym B.size) (λ i l. go i (dec_lt i (n * n)))
  where
    go : (i : ℕ) → Dec (i < n * n) → get_or a i 0 ≡ get_or b i 0
    go i (yes m) = A.none i m ∙ sym (B.none i m)
    go i (no m) = A.rest i (omega arith) ∙ sym (B.rest i (omega arith))
