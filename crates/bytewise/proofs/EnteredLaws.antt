-- The whole statement of the call on bytes: two results that meet it are equal, and what meets it.
-- Assumes nothing.
--
--   entry_unique      two results of a call are equal, and so are the lists that it leaves; on all inputs
--   refused_byte      a byte fault is refused
--   refused_number    a refusal of the call on the numbers is refused
--   entered_given     a decision on the numbers, written out, is an answer
--   entry_exists      every call has a result; with `entry_unique`: exactly one
use mathlib.Core.Path.{◌≡◌, refl, ap, subst}
use mathlib.Core.List.{List, ◌++◌}
use Prim.Native.Nat.{ℕ, ◌*◌, ◌/◌, ◌%◌, ◌<◌}
use native.Mathlib.Omega.{arith}
use native.Mathlib.Decide.{ℕ_discrete, dec_lt}
use lib.ListN.{length, drop, replicate, length-replicate}
use Rattle.codec.specs.Frame.{answer_bytes}
use Rattle.lists.specs.Numbers.{numbers_of, all_bytes}
use Rattle.verdict.specs.declared.Decision.{Decision}
use Rattle.verdict.specs.Results.{Answer}
use Rattle.verdict.specs.Results.Answer.{Decided}
use Rattle.checks.specs.Refusals.{Refusal, Faultless}
use Rattle.verdict.specs.Called.{Called}
use Rattle.verdict.specs.Called.Called.{refuses as refused, answers as answered}
use Rattle.verdict.proofs.CallLaws.{call_unique}
use Rattle.verdict.proofs.ExistsLaws.{call_exists}
use Rattle.framed.specs.Framed.{frame_of}
use Rattle.bytewise.specs.Faults.{EntryFault, Shaped}
use Rattle.bytewise.specs.Faults.EntryFault.{broken_rows, narrow}
use Rattle.bytewise.specs.Entered.{Entered}
use Rattle.bytewise.specs.Entered.Entered.{refuses, answers}
use Rattle.bytewise.proofs.FaultLaws.{Passed, passed_1, passed_2, passed_3, shaped, refusal_unique, refuse_byte, refuse_number, shaped_faultless, fault_empty, fault_crowded, fault_uneven, fault_short}

-- how many flows there are
abbrev pub square : List ℕ → ℕ
square rows = length (numbers_of rows) * length (numbers_of rows)

-- the verdict call that the statement names
abbrev pub OnNumbers : List ℕ → List ℕ → ℕ → ℕ → Answer → List ℕ → Type 0
OnNumbers rows costs τ allowance x after = Called (numbers_of rows) (numbers_of costs) τ allowance (replicate (square rows) 0) x after

module _ (rows costs : List ℕ) (τ allowance : ℕ) (work answer : List ℕ) where
  pub entry_unique : (j k : ℕ) (w w' a a' : List ℕ) → Entered rows costs τ allowance work answer j w a → Entered rows costs τ allowance work answer k w' a'
      → (j ≡ k) × (w ≡ w') × (a ≡ a')
  entry_unique j k w w' a a' (refuses m r) (refuses n s) = (refusal_unique rows costs τ (length work) (length answer) m n r s, refl, refl)
  entry_unique j k w w' a a' (refuses m r) (answers e flows g c) = absurd (g m r.fault)
  entry_unique j k w w' a a' (answers d flows f b) (refuses n s) = absurd (f n s.fault)
  entry_unique j k w w' a a' (answers d flows f b) (answers e flows' g c) =
      let q = call_unique (numbers_of rows) (numbers_of costs) τ allowance (replicate (square rows) 0) (Decided d) (Decided e) flows flows' b c in
      let p : d ≡ e = cc q.0 in
      (refl, ap (λ (z : List ℕ). all_bytes z ++ drop (8 * length z) work) q.1, ap (λ (z : Decision). answer_bytes (frame_of z) ++ drop 22 answer) p)

  -- a byte fault found after the checks before it is the refusal that is due, and nothing was written
  pub refused_byte : (m : ℕ) → Passed rows costs m → EntryFault rows costs τ (length work) (length answer) m → Entered rows costs τ allowance work answer m work answer
  refused_byte m P f = refuses m (refuse_byte rows costs τ (length work) (length answer) m P f)

-- ---- the call on the numbers, behind the byte checks

module _ (rows costs : List ℕ) (τ allowance : ℕ) (work answer : List ℕ) (S : Shaped rows costs (length work) (length answer)) where
  pub refused_number : (k : ℕ) → Refusal (numbers_of rows) (numbers_of costs) τ (square rows) k → Entered rows costs τ allowance work answer k work answer
  refused_number k r = refuses k (refuse_number rows costs τ (length work) (length answer) S k r)

  pub entered_given : (d : Decision) (after w a : List ℕ) → Faultless (numbers_of rows) (numbers_of costs) τ (square rows) → OnNumbers rows costs τ allowance (Decided d) after
      → w ≡ all_bytes after ++ drop (8 * length after) work → a ≡ answer_bytes (frame_of d) ++ drop 22 answer → Entered rows costs τ allowance work answer 0 w a
  entered_given d after w a F C p q = rw (p, q) (answers d after (shaped_faultless rows costs τ (length work) (length answer) S F) C)

-- ---- every call has a result

module _ (rows costs : List ℕ) (τ allowance : ℕ) (work answer : List ℕ) where
  abbrev Some : Type 0
  Some = (k : ℕ) × (w : List ℕ) × (a : List ℕ) × Entered rows costs τ allowance work answer k w a

  -- a byte fault
  byte : (m : ℕ) → Passed rows costs m → EntryFault rows costs τ (length work) (length answer) m → Some
  byte m P f = (m, work, answer, refused_byte rows costs τ allowance work answer m P f)

  on_numbers : Shaped rows costs (length work) (length answer) → Some
  on_numbers S = let c = call_exists (numbers_of rows) (numbers_of costs) τ allowance (replicate (square rows) 0) in go c.0 c.1 c.2
    where
      places : length {A = ℕ} (replicate (square rows) 0) ≡ square rows
      places = length-replicate {A = ℕ} (square rows) 0

      go : (x : Answer) (after : List ℕ) → OnNumbers rows costs τ allowance x after → Some
      go x after (refused k r) =
          (k, work, answer, refused_number rows costs τ allowance work answer S k (subst (λ (z : ℕ). Refusal (numbers_of rows) (numbers_of costs) τ z k) places r))
      go x after (answered d after' f v F) = (
        0,
        all_bytes after ++ drop (8 * length after) work,
        answer_bytes (frame_of d) ++ drop 22 answer,
        entered_given rows costs τ allowance work answer S d after _ _ (subst (λ (z : ℕ). Faultless (numbers_of rows) (numbers_of costs) τ z) places f) (answered d after f v F) refl refl,
      )

  room : Passed rows costs 3 → Dec (length answer < 22) → Dec (length work / 8 < length rows / 8 * (length rows / 8)) → Some
  room P (yes l) d = byte 3 P (narrow l)
  room P (no l) (yes m) = byte 3 P (fault_short rows costs τ (length work) (length answer) m)
  room P (no l) (no m) = on_numbers (shaped rows costs (length work) (length answer) P (omega arith) (omega arith))

  priced : Passed rows costs 2 → Dec (length costs ≡ length rows) → Some
  priced P (yes e) = room (passed_3 rows costs P e) (dec_lt (length answer) 22) (dec_lt (length work / 8) (length rows / 8 * (length rows / 8)))
  priced P (no e) = byte 2 P (fault_uneven rows costs τ (length work) (length answer) (P.full (omega arith)) e)

  pub entry_exists : Some
  entry_exists = go (ℕ_discrete (length rows % 8) 0) (ℕ_discrete (length rows / 8) 0) (dec_lt 64 (length rows / 8))
    where
      go : Dec (length rows % 8 ≡ 0) → Dec (length rows / 8 ≡ 0) → Dec (64 < length rows / 8) → Some
      go (no e) d l = byte 1 (passed_1 rows costs) (broken_rows e)
      go (yes e) (yes z) l = byte 1 (passed_1 rows costs) (fault_empty rows costs τ (length work) (length answer) z)
      go (yes e) (no z) (yes l) = byte 1 (passed_1 rows costs) (fault_crowded rows costs τ (length work) (length answer) l)
      go (yes e) (no z) (no l) = priced (passed_2 rows costs e z (omega arith)) (ℕ_discrete (length costs) (length rows))
