-- The whole statement of a verdict call: two results that meet it are equal.
-- Assumes nothing.
--
--   flows_unique      the work list after k rounds is one
--   answer_one        two results of a call with one answer are equal
--   number_unique     an outcome is known by its number; outcome_number_unique, outcome_word_unique: and has one, and one word
--   not_yet_unique    "not yet" after so many rounds is one decision
--   call_unique       two results of a call are equal, and so are the work lists; on all inputs
--   decided_verdict   what a call that is decided says
--   wait_zero         "after "wait" these n × n places are 0"
use mathlib.Core.Path.{◌≡◌, refl, sym, ap, ◌∙◌, subst}
use mathlib.Core.List.{List, [], ◌∷◌}
use Prim.Native.Nat.{ℕ, suc, ◌+◌, ◌*◌, ◌/◌, ◌%◌, ◌<◌}
use native.Mathlib.Nat.{div-add-mod', div-lt_iff_lt-mul, mod-lt}
use native.Mathlib.Omega.{arith}
use native.Mathlib.Decide.{dec_lt}
use lib.ListN.{length, get_or}
use lib.Seq.{ext_get_or}
use Rattle.sums.specs.Sum.{gate}
use Rattle.sums.specs.Tests.{both}
use Rattle.sums.proofs.TestLaws.{both_left}
use Rattle.graph.specs.Waits.{waits}
use Rattle.graph.specs.Rings.{InX}
use Rattle.network.specs.Rooms.{Room}
use Rattle.network.specs.Rounds.{Rounds}
use Rattle.network.specs.Rounds.Rounds.{none, more}
use Rattle.network.specs.Arcs.{inn, out, within, total, job_capacity, capacity}
use Rattle.network.proofs.ArcLaws.{net_unused}
use Rattle.network.proofs.RoundLaws.{rounds_unique}
use Rattle.network.proofs.SetLaws.{exactly_unique}
use Rattle.network.specs.Costs.{cost_at}
use Rattle.verdict.specs.declared.Outcome.{Outcome}
use Rattle.verdict.specs.declared.Outcome.TheVariants.{Wait, AbortT, AbortOthers, NotYet}
use Rattle.verdict.specs.declared.Decision.{Decision}
use Rattle.std.specs.Prelude.{Result, Ok, Err}
use Rattle.reasons.specs.declared.Reason.{Reason}
use Rattle.reasons.specs.Numbers.{reason_number}
use Rattle.reasons.proofs.NumberLaws.{reason_one}
use Rattle.verdict.specs.Results.{Answer, answer_of}
use Rattle.verdict.specs.Results.Answer.{Refused, Decided}
use Rattle.checks.specs.Refusals.{Faultless}
use Rattle.verdict.specs.Answers.{outcome_number, not_yet, Verdict}
use Rattle.verdict.specs.Answers.Verdict.{stays, itself, others, unfinished}
use Rattle.verdict.specs.Words.{outcome_word}
use Rattle.verdict.specs.Called.{Flows, Called}
use Rattle.verdict.specs.Called.Called.{refuses, answers}
use Rattle.checks.proofs.RefusalLaws.{refusal_unique, refusal_faultless, faultless_job, faultless_apart, faultless_positive}
use Rattle.verdict.proofs.AnswerLaws.{after_rounds, known, verdict_unique}

-- a place below n × n is that of a pair of jobs
grid : (n i : ℕ) → i < n * n → (u : ℕ) × (v : ℕ) × (u < n) × (v < n) × (i ≡ u * n + v)
grid n i l = go (dec_lt 0 n)
  where
    go : Dec (0 < n) → (u : ℕ) × (v : ℕ) × (u < n) × (v < n) × (i ≡ u * n + v)
    go (yes p) = (i / n, i % n, (div-lt_iff_lt-mul p).1 l, mod-lt i p, sym (div-add-mod' i n))
    go (no p) = let e : n ≡ 0 = omega arith in absurd (omega (arith, subst (λ (z : ℕ). i < z * z) e l))

module _ (rows costs : List ℕ) (τ : ℕ) where
  pub flows_unique : (j k : ℕ) (before a b : List ℕ) → τ < length rows → j ≡ k → Flows rows costs τ j before a → Flows rows costs τ k before b → a ≡ b
  unfolding within
  flows_unique j k before a b lτ e F G = ext_get_or 0 a b (F.size ∙ sym G.size) (λ i l. go i (dec_lt i (length rows * length rows)))
    where
      same_x : (u : ℕ) → u < length rows → F.rounds.x u ≡ G.rounds.x u
      same_x = exactly_unique (length rows) (InX (waits rows) (length rows) τ) F.rounds.x G.rounds.x F.rounds.exact G.rounds.exact

      same_room : (p q : ℕ) → p < 2 * length rows → q < 2 * length rows → F.room p q ≡ G.room p q
      same_room = rounds_unique (2 * length rows) (out τ) (inn τ) (known (waits rows) (length rows) τ (cost_at costs) lτ) k F.room G.room (omega arith)
          (subst (λ (z : ℕ). Rounds (2 * length rows) (out τ) (inn τ) (known (waits rows) (length rows) τ (cost_at costs) lτ) z F.room) e (after_rounds (waits rows) (length rows) τ (cost_at costs) lτ j F.room F.rounds))
          (after_rounds (waits rows) (length rows) τ (cost_at costs) lτ k G.room G.rounds)

      go : (i : ℕ) → Dec (i < length rows * length rows) → get_or a i 0 ≡ get_or b i 0
      go i (yes l) =
          let g = grid (length rows) i l in
          let u = g.0 in let v = g.1 in
          ap (λ (z : ℕ). get_or a z 0) g.4 ∙ F.flow u v g.2 g.3 ∙ same u v g.2 g.3 ∙ sym (G.flow u v g.2 g.3) ∙ ap (λ (z : ℕ). get_or b z 0) (sym g.4)
        where
          same : (u v : ℕ) → u < length rows → v < length rows
              → gate (within (waits rows) F.rounds.x u v) (F.room (inn v) (out u)) ≡ gate (within (waits rows) G.rounds.x u v) (G.room (inn v) (out u))
          same u v lu lv =
              let p = same_x u lu in
              let q = same_x v lv in
              let r : F.room (inn v) (out u) ≡ G.room (inn v) (out u) = same_room (inn v) (out u) (omega arith) (omega arith) in
              cc (p, q, r)
      go i (no l) = F.rest i (omega arith) ∙ sym (G.rest i (omega arith))

-- ---- the outcome

-- the outcomes, each at its number
outcomes : List Outcome
outcomes = Wait ∷ AbortT ∷ AbortOthers ∷ NotYet ∷ []

outcome_back : (o : Outcome) → get_or outcomes (outcome_number o) Wait ≡ o
unfolding outcomes
outcome_back Wait = refl
outcome_back AbortT = refl
outcome_back AbortOthers = refl
outcome_back NotYet = refl

pub number_unique : (a b : Outcome) → outcome_number a ≡ outcome_number b → a ≡ b
number_unique a b e = sym (outcome_back a) ∙ (ap (λ (k : ℕ). get_or outcomes k Wait) e ∙ outcome_back b)

pub outcome_number_unique : (o : Outcome) (a b : ℕ) → a ≡ outcome_number o → b ≡ outcome_number o → a ≡ b
outcome_number_unique o a b p q = p ∙ sym q

pub outcome_word_unique : (o : Outcome) (a b : List ℕ) → a ≡ outcome_word o → b ≡ outcome_word o → a ≡ b
outcome_word_unique o a b p q = p ∙ sym q

pub not_yet_unique : (k : ℕ) (a b : Decision) → a ≡ not_yet k → b ≡ not_yet k → a ≡ b
not_yet_unique k a b p q = p ∙ sym q

-- ---- the call

-- an answer says which result it is
pub answer_one : (r s : Result Decision Reason) → answer_of r ≡ answer_of s → r ≡ s
answer_one (Ok d) (Ok e) q = cc q
answer_one (Ok d) (Err s) q = cc q
answer_one (Err r) (Ok e) q = cc q
answer_one (Err r) (Err s) q = let n : reason_number r ≡ reason_number s = cc q in ap Err (reason_one r s n)

-- the decision of an answer
decision_of : Decision → Answer → Decision
decision_of d (Refused k) = d
decision_of d (Decided e) = e

abbrev pub is_decided : Answer → Type 0
is_decided (Refused k) = ⊥
is_decided (Decided d) = Unit {0}

pub decided_unique : (d e : Decision) → Decided d ≡ Decided e → d ≡ e
unfolding decision_of
decided_unique d e q = ap (decision_of d) q

module _ (rows costs : List ℕ) (τ : ℕ) where
  -- two decisions on an input without faults
  decision_unique : (a work : ℕ) (d e : Decision) → Faultless rows costs τ work
      → Verdict (waits rows) (length rows) τ (cost_at costs) a (outcome_number d.outcome) d.price d.rounds d.victims
      → Verdict (waits rows) (length rows) τ (cost_at costs) a (outcome_number e.outcome) e.price e.rounds e.victims
      → d ≡ e
  decision_unique a work d e f v w =
      let q = verdict_unique (waits rows) (length rows) τ (cost_at costs) (faultless_job rows costs τ work f) (λ u l t. faultless_apart rows costs τ work f u t) (faultless_positive rows costs τ work f)
      a (outcome_number d.outcome) d.price d.rounds d.victims (outcome_number e.outcome) e.price e.rounds e.victims v w in
      let o = number_unique d.outcome e.outcome q.0 in
      λ i. record { outcome = o i; price = q.1 i; rounds = q.2 i; victims = q.3 i }

  pub call_unique : (a : ℕ) (before : List ℕ) (x y : Answer) (after after' : List ℕ)
      → Called rows costs τ a before x after → Called rows costs τ a before y after' → (x ≡ y) × (after ≡ after')
  call_unique a before x y after after' (refuses j r) (refuses k s) = (ap Refused (refusal_unique rows costs τ (length before) j k r s), refl)
  call_unique a before x y after after' (refuses j r) (answers e after'' f w G) = absurd (refusal_faultless rows costs τ (length before) j r f)
  call_unique a before x y after after' (answers d after'' f v F) (refuses k s) = absurd (refusal_faultless rows costs τ (length before) k s f)
  call_unique a before x y after after' (answers d after'' f v F) (answers e after''' g w G) =
      let q = decision_unique a (length before) d e f v w in
      (ap Decided q, flows_unique rows costs τ d.rounds e.rounds before after after' (faultless_job rows costs τ (length before) f) (ap (λ (z : Decision). z.rounds) q) F G)

  -- what a call that is decided says
  pub decided_verdict : (a : ℕ) (before : List ℕ) (d : Decision) (after : List ℕ) → Called rows costs τ a before (Decided d) after
      → Faultless rows costs τ (length before)
      × Verdict (waits rows) (length rows) τ (cost_at costs) a (outcome_number d.outcome) d.price d.rounds d.victims
      × Flows rows costs τ d.rounds before after
  decided_verdict a before d after c = go (Decided d) after c d refl
    where
      go : (x : Answer) (y : List ℕ) → Called rows costs τ a before x y → (e : Decision) → x ≡ Decided e
          → Faultless rows costs τ (length before)
          × Verdict (waits rows) (length rows) τ (cost_at costs) a (outcome_number e.outcome) e.price e.rounds e.victims
          × Flows rows costs τ e.rounds before y
      go x y (refuses k r) e q = absurd (subst is_decided (sym q) tt)
      go x y (answers d' y' f v F) e q = rw (← decided_unique d' e q) (f, v, F)

  -- no round, no flow
  flows_none : (k : ℕ) (before after : List ℕ) → Faultless rows costs τ (length before) → k ≡ 0 → Flows rows costs τ k before after
      → (u v : ℕ) → u < length rows → v < length rows → get_or after (u * length rows + v) 0 ≡ 0
  unfolding capacity within
  flows_none k before after f e F u v lu lv =
      let x = F.rounds.x in
      F.flow u v lu lv
      ∙ ap (gate (within (waits rows) x u v)) (start k F.room e F.rounds.made (inn v) (out u) (omega arith) (omega arith))
      ∙ net_unused (within (waits rows) x) (job_capacity x τ (cost_at costs)) (suc (total (length rows) x (cost_at costs))) u v
      (λ t. faultless_apart rows costs τ (length before) f u (both_left (waits rows u u) (both (x u) (x u)) t))
    where
      start : (j : ℕ) (r : Room) → j ≡ 0 → Rounds (2 * length rows) (out τ) (inn τ) (capacity (waits rows) F.rounds.x (length rows) τ (cost_at costs)) j r
          → (a b : ℕ) → a < 2 * length rows → b < 2 * length rows → r a b ≡ capacity (waits rows) F.rounds.x (length rows) τ (cost_at costs) a b
      start j r z (none h) = h
      start j r z (more h s) = absurd (omega (arith, z))

  wait_rounds : (a o p k v : ℕ) → Verdict (waits rows) (length rows) τ (cost_at costs) a o p k v → o ≡ 0 → k ≡ 0
  wait_rounds a o p k v (stays f) e = refl
  wait_rounds a o p k v (itself y g j r h s m M q c) e = absurd (omega (arith, e))
  wait_rounds a o p k v (others y g j r h s m M q c z x) e = absurd (omega (arith, e))
  wait_rounds a o p k v (unfinished y g r h m) e = absurd (omega (arith, e))

  pub wait_zero : (a : ℕ) (before : List ℕ) (d : Decision) (after : List ℕ) → Called rows costs τ a before (Decided d) after → outcome_number d.outcome ≡ 0
      → (u v : ℕ) → u < length rows → v < length rows → get_or after (u * length rows + v) 0 ≡ 0
  wait_zero a before d after c z =
      let q = decided_verdict a before d after c in
      flows_none d.rounds before after q.0 (wait_rounds a (outcome_number d.outcome) d.price d.rounds d.victims q.1 z) q.2
