-- Local lists of zeros for at most k jobs, of which the first places are lent. One law for every k.
-- Assumes nothing.
--
--   front            the first m of N zeros are m zeros
--   prefix           the first places of a list whose front was lent are that front
--   fronts_opened    behind a start with a ring, the rounds on the first places, written out, are an answer of the entry
use mathlib.Core.Path.{◌≡◌, refl, sym, ap, ◌∙◌}
use mathlib.Core.List.{List, ◌∷◌, ◌++◌}
use Prim.Native.Nat.{ℕ, zero, suc, ◌*◌, ◌/◌, ◌≤◌}
use native.Mathlib.Omega.{arith}
use lib.ListN.{length, take, replicate}
use lib.Seq.{take_at}
use Rattle.bytewise.specs.Faults.{Sized}
use Rattle.bytewise.specs.Entered.{Entered}
use Rattle.bytewise.proofs.FaultLaws.{count, square_under}
use Rattle.relay.specs.Inside.{Ahead, Opened}
use Rattle.relay.proofs.StartLaws.{ahead_opened}

front : (N m : ℕ) → m ≤ N → take {A = ℕ} m (replicate N 0) ≡ replicate m 0
front N zero l = refl
front zero (suc m) l = absurd (omega arith)
front (suc N) (suc m) l = ap (λ (z : List ℕ). 0 ∷ z) (front N m (omega arith))

prefix : (r t : List ℕ) (n : ℕ) → n ≡ length r → take n (r ++ t) ≡ r
prefix r t n e = take_at r t n (sym e)

module _ (rows costs work answer : List ℕ) (n jobs places : ℕ) (S : Sized rows costs (length work) (length answer) n jobs) (l : jobs * jobs ≤ places)
    (τ allowance : ℕ) (r c : List ℕ) (x : ℕ) (A : Ahead rows costs τ r c x) where
  row_count : n ≡ length r
  row_count = S.count ∙ sym (ap length A.row_numbers ∙ count rows)

  cost_count : n ≡ length c
  cost_count = S.count ∙ ap (λ (m : ℕ). m / 8) (sym S.shape.priced) ∙ sym (ap length A.cost_numbers ∙ count costs)

  blank : take {A = ℕ} (n * n) (replicate places 0) ≡ replicate (length r * length r) 0
  blank = front places (n * n) (omega (arith, square_under n jobs S.limit)) ∙ ap (λ (m : ℕ). replicate (m * m) 0) row_count

  pub fronts_opened : (t s w a w' a' : List ℕ) → w ≡ work → a ≡ answer → Opened (take n (r ++ t)) (take n (c ++ s)) τ allowance (take (n * n) (replicate places 0)) w a w' a'
      → Entered rows costs τ allowance work answer 0 w' a'
  fronts_opened t s w a w' a' p q O =
      ahead_opened rows costs r c τ x A _ blank allowance work answer w' a' S.shape
      (rw (p, q, prefix r t n row_count, prefix c s n cost_count) at O)
