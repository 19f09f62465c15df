-- How a call on bytes starts, and what its start and its rounds leave.
-- Assumes nothing.
--
--   still             the decision of a wait
--   Read, read        the lists that were read: their numbers, and how many they are
--   lent_readable, lent_few, lent_room   the lists to be read, and their room
--   read_refused, read_waits, read_ahead   the three ways in which a call starts
--   ahead_ringed      behind a start with a ring the rounds may be made
--   ahead_opened      and the rounds, written out, are an answer of the entry
use mathlib.Core.Path.{◌≡◌, sym, ap, ◌∙◌, subst}
use mathlib.Core.Bool.{Bool, true, false}
use mathlib.Core.List.{List, ◌++◌}
use Prim.Native.Nat.{ℕ, ◌*◌, ◌/◌, ◌≤◌}
use native.Mathlib.Omega.{arith}
use lib.ListN.{length, get_or, drop, replicate, length-replicate, get_or-replicate}
use Rattle.bits.specs.Mask.{MaskOf}
use Rattle.graph.specs.Waits.{waits}
use Rattle.graph.specs.Rings.{Ring, InX, RingThrough}
use Rattle.codec.specs.Frame.{answer_bytes}
use Rattle.lists.specs.Numbers.{numbers, numbers_of, all_bytes, Readable}
use Rattle.lists.proofs.ReadLaws.{numbers_length}
use Rattle.verdict.specs.declared.Outcome.TheVariants.{Wait}
use Rattle.verdict.specs.declared.Decision.{Decision}
use Rattle.verdict.specs.Results.Answer.{Decided}
use Rattle.checks.specs.Refusals.{Refusal, Faultless}
use Rattle.verdict.specs.Called.{Ringed, Called}
use Rattle.verdict.proofs.DecideLaws.{through_none, decide_waits}
use Rattle.framed.specs.Framed.{frame_of}
use Rattle.bytewise.specs.Faults.{Shaped}
use Rattle.bytewise.specs.Entered.{Entered}
use Rattle.bytewise.proofs.EnteredLaws.{square, OnNumbers, refused_number, entered_given}
use Rattle.relay.specs.Inside.{Lent, Ahead, Opened}

-- "wait", with no round
abbrev pub still : Decision
still = record { outcome = Wait; price = 0; rounds = 0; victims = 0 }

-- ---- the lists that are read

pub record Read (rows costs r c : List ℕ) (n : ℕ) : Type 0 where
  pub row_numbers : r ≡ numbers_of rows
  pub cost_numbers : c ≡ numbers_of costs
  pub count : n ≡ length r

module _ (rows costs rowList costList work answer : List ℕ) (L : Lent rows costs rowList costList work answer) where
  pub lent_readable : Readable rows costs rowList costList
  lent_readable = record {
    even = L.cost_places ∙ sym L.row_places;
    row_bytes = omega (arith, L.row_places);
    cost_bytes = omega (arith, L.cost_places, L.shape.priced);
  }

  pub lent_few : length rowList ≤ 64
  lent_few = omega (arith, L.row_places, L.shape.few)

  pub lent_room : 8 * (length rowList * length rowList) ≤ length work
  lent_room = let e = ap (λ (z : ℕ). z * z) L.row_places in omega (arith, e, L.shape.room)

  pub read : (r c : List ℕ) → r ≡ numbers (length rowList) rows → c ≡ numbers (length costList) costs → Read rows costs r c (length rowList)
  read r c p q = record {
    row_numbers = p ∙ ap (λ (z : ℕ). numbers z rows) L.row_places;
    cost_numbers = q ∙ ap (λ (z : ℕ). numbers z costs) (L.cost_places ∙ ap (λ (z : ℕ). z / 8) (sym L.shape.priced));
    count = sym (ap length p ∙ numbers_length (length rowList) rows);
  }

-- what is true of the lists that were read is true of the numbers
on_numbers : (rows costs r c : List ℕ) (P : List ℕ → List ℕ → Type 0) → r ≡ numbers_of rows → c ≡ numbers_of costs → P r c → P (numbers_of rows) (numbers_of costs)
on_numbers rows costs r c P p q h = subst (P (numbers_of rows)) q (subst (λ (l : List ℕ). P l c) p h)

-- ---- how a call starts

module _ (rows costs work answer r c : List ℕ) (n τ : ℕ) (S : Shaped rows costs (length work) (length answer)) (R : Read rows costs r c n) where
  moved : (P : List ℕ → List ℕ → Type 0) → P r c → P (numbers_of rows) (numbers_of costs)
  moved P = on_numbers rows costs r c P R.row_numbers R.cost_numbers

  pub read_refused : (allowance k : ℕ) → Refusal r c τ (n * n) k → Entered rows costs τ allowance work answer k work answer
  read_refused allowance k D = refused_number rows costs τ allowance work answer S k
      (moved (λ a b. Refusal a b τ (length a * length a) k) (subst (λ (z : ℕ). Refusal r c τ (z * z) k) R.count D))

  module _ (x : ℕ) (b : Bool) (F : Faultless r c τ (n * n)) (X : MaskOf (InX (waits r) (length r) τ) x) (ring : RingThrough (waits r) (length r) τ b) where
    faultless : Faultless (numbers_of rows) (numbers_of costs) τ (square rows)
    faultless = moved (λ a b. Faultless a b τ (length a * length a)) (subst (λ (z : ℕ). Faultless r c τ (z * z)) R.count F)

    places : n * n ≡ square rows
    places = ap (λ (z : ℕ). z * z) (R.count ∙ ap length R.row_numbers)

    pub read_waits : (allowance : ℕ) (w a : List ℕ) → b ≡ false → w ≡ all_bytes (replicate (n * n) 0) ++ drop (8 * (n * n)) work
        → a ≡ answer_bytes (frame_of still) ++ drop 22 answer → Entered rows costs τ allowance work answer 0 w a
    read_waits allowance w a f u v = entered_given rows costs τ allowance work answer S still (replicate (square rows) 0) w a faultless waiting bytes v
      where
        no_ring : (l : List ℕ) → Ring (waits (numbers_of rows)) (length (numbers_of rows)) τ l → ⊥
        no_ring = subst (λ (z : List ℕ). (l : List ℕ) → Ring (waits z) (length z) τ l → ⊥) R.row_numbers (through_none (waits r) (length r) τ b ring f)

        waiting : OnNumbers rows costs τ allowance (Decided still) (replicate (square rows) 0)
        waiting = decide_waits (numbers_of rows) (numbers_of costs) τ x (subst (λ (z : List ℕ). MaskOf (InX (waits z) (length z) τ) x) R.row_numbers X) (replicate (square rows) 0)
            (subst (λ (z : ℕ). Faultless (numbers_of rows) (numbers_of costs) τ z) (sym (length-replicate (square rows) 0)) faultless) (λ i l. get_or-replicate (square rows) i 0 0 l) allowance no_ring

        bytes : w ≡ all_bytes (replicate (square rows) 0) ++ drop (8 * length {A = ℕ} (replicate (square rows) 0)) work
        bytes =
            u ∙ ap (λ (z : ℕ). all_bytes (replicate z 0) ++ drop (8 * z) work) places
            ∙ ap (λ (z : ℕ). all_bytes (replicate (square rows) 0) ++ drop (8 * z) work) (sym (length-replicate (square rows) 0))

    pub read_ahead : b ≡ true → Ahead rows costs τ r c x
    read_ahead f = record {
      row_numbers = R.row_numbers;
      cost_numbers = R.cost_numbers;
      faultless = subst (λ (z : ℕ). Faultless r c τ (z * z)) R.count F;
      exact = X;
      ring = subst (RingThrough (waits r) (length r) τ) f ring;
    }

-- ---- behind the start

module _ (rows costs r c : List ℕ) (τ x : ℕ) (A : Ahead rows costs τ r c x) (flows : List ℕ) (blank : flows ≡ replicate (length r * length r) 0) where
  pub ahead_ringed : Ringed r c τ x flows
  ahead_ringed = record {
    faultless = subst (Faultless r c τ) (sym (ap length blank ∙ length-replicate (length r * length r) 0)) A.faultless;
    exact = A.exact;
    ring = A.ring;
    blank = λ i l. ap (λ (f : List ℕ). get_or f i 0) blank ∙ get_or-replicate (length r * length r) i 0 0 l;
  }

  pub ahead_opened : (allowance : ℕ) (work answer w a : List ℕ) → Shaped rows costs (length work) (length answer) → Opened r c τ allowance flows work answer w a
      → Entered rows costs τ allowance work answer 0 w a
  ahead_opened allowance work answer w a S O =
      entered_given rows costs τ allowance work answer S O.decision O.after w a
      (on_numbers rows costs r c (λ a b. Faultless a b τ (length a * length a)) A.row_numbers A.cost_numbers A.faultless)
      (on_numbers rows costs r c (λ a b. Called a b τ allowance (replicate (length a * length a) 0) (Decided O.decision) O.after) A.row_numbers A.cost_numbers
      (subst (λ (l : List ℕ). Called r c τ allowance l (Decided O.decision) O.after) blank O.called)) O.flow_bytes O.frame
