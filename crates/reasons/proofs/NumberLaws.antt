-- A number names one reason: a contract over `reason_number` or `refusal_number` leaves no choice of the result.
--
--   reason_one    two reasons with one number are one
--   refusal_one   two results with one number are one
--   reason_number_unique   a reason has one number
--   reason_some, reason_positive   no reason has the number 0
use Rattle.std.proofs.Common.{◌≡◌, ◌≢◌, ◌≤◌, ℕ, arith, List, [], ◌∷◌, get_or, refl, sym, ◌∙◌, ap, Result, Ok, Err}
use Rattle.reasons.specs.declared.Reason.{Reason}
use Rattle.reasons.specs.declared.Reason.TheVariants.{BadRows, BadCosts, TooFewPlaces, StrayJob, WaitsForItself, NoSuchJob, BadCost, CostsTooHigh, TextTooLong, BadLine, WrongFrame, BadHeader, NotTheNextJob, BadOperations, ClockWentBack, BadState, WaitsTwice, TWaitsNowhere}
use Rattle.reasons.specs.Numbers.{reason_number, refusal_number}

-- the results by their numbers
table : List (Result (Unit {0}) Reason)
table =
    Ok (tt {0}) ∷ Err BadRows ∷ Err BadCosts ∷ Err TooFewPlaces ∷ Err StrayJob ∷ Err WaitsForItself ∷ Err NoSuchJob ∷ Err BadCost ∷ Err CostsTooHigh
    ∷ Err TextTooLong ∷ Err BadLine ∷ Err WrongFrame ∷ Err BadHeader ∷ Err NotTheNextJob ∷ Err BadOperations ∷ Err ClockWentBack ∷ Err BadState
    ∷ Err WaitsTwice ∷ Err TWaitsNowhere ∷ []

numbered : ℕ → Result (Unit {0}) Reason
numbered k = get_or table k (Ok (tt {0}))

numbered-back : (r : Result (Unit {0}) Reason) → numbered (refusal_number r) ≡ r
unfolding numbered table
numbered-back (Ok _) = refl
numbered-back (Err BadRows) = refl
numbered-back (Err BadCosts) = refl
numbered-back (Err TooFewPlaces) = refl
numbered-back (Err StrayJob) = refl
numbered-back (Err WaitsForItself) = refl
numbered-back (Err NoSuchJob) = refl
numbered-back (Err BadCost) = refl
numbered-back (Err CostsTooHigh) = refl
numbered-back (Err TextTooLong) = refl
numbered-back (Err BadLine) = refl
numbered-back (Err WrongFrame) = refl
numbered-back (Err BadHeader) = refl
numbered-back (Err NotTheNextJob) = refl
numbered-back (Err BadOperations) = refl
numbered-back (Err ClockWentBack) = refl
numbered-back (Err BadState) = refl
numbered-back (Err WaitsTwice) = refl
numbered-back (Err TWaitsNowhere) = refl

pub refusal_one : (r s : Result (Unit {0}) Reason) → refusal_number r ≡ refusal_number s → r ≡ s
refusal_one r s e = sym (numbered-back r) ∙ (ap numbered e ∙ numbered-back s)

reason_in : Result (Unit {0}) Reason → Reason
reason_in (Ok _) = BadRows
reason_in (Err reason) = reason

pub reason_one : (r s : Reason) → reason_number r ≡ reason_number s → r ≡ s
unfolding reason_in
reason_one r s e = ap reason_in (refusal_one (Err r) (Err s) e)

pub reason_number_unique : (reason : Reason) (a b : ℕ) → a ≡ reason_number reason → b ≡ reason_number reason → a ≡ b
reason_number_unique reason a b p q = p ∙ sym q

pub reason_some : (reason : Reason) → reason_number reason ≢ 0
reason_some reason e = cc (refusal_one (Err reason) (Ok (tt {0})) e)

pub reason_positive : (reason : Reason) → 1 ≤ reason_number reason
reason_positive reason = go (reason_number reason) (reason_some reason)
  where
    go : (k : ℕ) → k ≢ 0 → 1 ≤ k
    go k n = omega arith
