-- THE THREE DEMANDS, each as a theorem over every text and every call. specs/Demands.antt says what they mean.
-- Assumes nothing.
--
--   demand_1_text, demand_1_reply, demand_1_reader, demand_1_call, demand_1_entry
--                                    every text and every call has exactly one answer
--   demand_2_call, demand_2_ages     what is answered is right
--   demand_3                         there is one number of rounds, and what an allowance gives
--   demands_text                     demands 2 and 3 of the line of a text
--   starred                          what document 01 marks by a star
use mathlib.Core.Path.{◌≡◌, refl, sym, ap, ◌∙◌}
use mathlib.Core.Logic.{◌⊎◌, inl, inr}
use mathlib.Core.List.{List, ◌++◌}
use Prim.Native.Nat.{ℕ, ◌*◌, ◌<◌}
use native.Mathlib.Omega.{arith}
use native.Mathlib.Decide.{dec_lt}
use lib.ListN.{length, drop}
use Rattle.graph.specs.Waits.{waits}
use Rattle.network.specs.Costs.{cost_at}
use Rattle.checks.specs.Refusals.{Refusal, Faultless}
use Rattle.checks.proofs.RefusalLaws.{faultless_job}
use Rattle.verdict.specs.declared.Decision.{Decision}
use Rattle.verdict.specs.Results.{Answer}
use Rattle.verdict.specs.Results.Answer.{Refused, Decided}
use Rattle.verdict.specs.Answers.{outcome_number}
use Rattle.verdict.specs.Called.{Called}
use Rattle.verdict.specs.Called.Called.{refuses, answers}
use Rattle.verdict.proofs.CallLaws.{call_unique}
use Rattle.verdict.proofs.ExistsLaws.{call_exists}
use Rattle.verdict.proofs.TableLaws.{worked}
use Rattle.ticks.proofs.AgeLaws.{age_exact, age_32}
use Rattle.frames.specs.declared.Refusal.{Refusal as Frame}
use Rattle.frames.specs.Records.{answered}
use Rattle.frames.specs.Fields.{header_at}
use Rattle.refusals.specs.Refused.{refusal_of, Unrefused}
use Rattle.reader.proofs.ReadLaws.{read_unique}
use Rattle.lines.specs.Lines.{answer_line, refusal_line}
use Rattle.reply.specs.Replied.{LineOf, Replied}
use Rattle.reply.specs.Replied.LineOf.{refuses as lineRefuses, answers as lineAnswers}
use Rattle.reply.specs.Replied.Replied.{short, written}
use Rattle.reply.proofs.GivenLaws.{given_faultless}
use Rattle.reply.proofs.LineLaws.{reply_unique}
use Rattle.reply.proofs.TotalLaws.{line_one}
use Rattle.codec.specs.Frame.{answer_bytes}
use Rattle.lists.specs.Numbers.{all_bytes}
use Rattle.framed.specs.Framed.{frame_of}
use Rattle.bytewise.specs.Faults.{EntryRefusal, EntryFaultless}
use Rattle.bytewise.specs.Entered.{Entered}
use Rattle.bytewise.specs.Entered.Entered.{refuses as entryRefuses, answers as entryAnswers}
use Rattle.bytewise.proofs.EnteredLaws.{OnNumbers, entry_unique, entry_exists}
use Rattle.demands.specs.Demands.{OneLine, OneReply, OneReading, OneAnswer, OneEntry, Right, TrueAges, Needs, RightLine}
use Rattle.demands.specs.Starred.{Starred}
use Rattle.demands.proofs.RightLaws.{faultless_right, call_right}
use Rattle.demands.proofs.NeedLaws.{verdict_gives, needs_exists, needs_unique}
use Rattle.demands.proofs.ReadingLaws.{reading_exists}

-- ---- Demand 1. "Every snapshot and text, broken or not, gets an answer and an end; bad input meets document 01's numbered refusal in its order;
-- a refused call writes nothing to lent lists."

pub demand_1_text : (text : List ℕ) → OneLine text
demand_1_text text =
    let z = line_one text in
    record { line = z.0; its = z.1; only = z.2; refused = λ h. sym (z.2 (refusal_line (refusal_of 64 64 text)) (lineRefuses (refusal_of 64 64 text) refl h)); taken = taken z.0 z.1 }
  where
    taken : (line : List ℕ) → LineOf text line → (refusal_of 64 64 text).number ≡ 0 → (o : ℕ) × (p : ℕ) × (k : ℕ) × (v : ℕ) × (line ≡ answer_line (answered o p k v))
    taken line (lineRefuses r e h) u = absurd (h (ap (λ (x : Frame). x.number) (sym e) ∙ u))
    taken line (lineAnswers u' rows costs G o p k v y) u = (o, p, k, v, refl)

pub demand_1_reply : (text before : List ℕ) → OneReply text before
demand_1_reply text before = go (dec_lt (length before) 45)
  where
    go : Dec (length before < 45) → OneReply text before
    go (yes l) = record { size = 0; after = before; its = short l; only = λ r x c. reply_unique text before r 0 x before c (short l); short = λ m. (refl, refl) }
    go (no l) =
        let z = line_one text in
        let y : Replied text before (length z.0) (z.0 ++ drop (length z.0) before) = written (omega arith) z.0 z.1 in
        record { size = length z.0; after = z.0 ++ drop (length z.0) before; its = y; only = λ r x c. reply_unique text before r _ x _ c y; short = λ m. absurd (l m) }

pub demand_1_reader : (text rows costs : List ℕ) → OneReading text rows costs
demand_1_reader text rows costs =
    let z = reading_exists text rows costs in
    record {
      result = z.0;
      rows' = z.1;
      costs' = z.2;
      its = z.3;
      only = λ r x y h. let q = read_unique text rows costs x y z.1 z.2 r z.0 h z.3 in (q.2, q.0, q.1);
      refused = λ h. let k = z.3.kept (λ e. h (ap (λ (x : Frame). x.number) (sym z.3.refusal) ∙ e)) in (z.3.refusal, k.0, k.1);
    }

pub demand_1_call : (rows costs : List ℕ) (τ allowance : ℕ) (before : List ℕ) → OneAnswer rows costs τ allowance before
demand_1_call rows costs τ allowance before =
    let z = call_exists rows costs τ allowance before in
    record {
      answer = z.0;
      after = z.1;
      its = z.2;
      only = λ x y c. call_unique rows costs τ allowance before x z.0 y z.1 c z.2;
      refused = λ k r. call_unique rows costs τ allowance before z.0 (Refused k) z.1 before z.2 (refuses k r);
      ends = ends z.0 z.1 z.2;
    }
  where
    ends : (x : Answer) (y : List ℕ) → Called rows costs τ allowance before x y
        → ((k : ℕ) × Refusal rows costs τ (length before) k × (x ≡ Refused k) × (y ≡ before)) ⊎ ((d : Decision) × Faultless rows costs τ (length before) × (x ≡ Decided d))
    ends x y (refuses k r) = inl (k, r, refl, refl)
    ends x y (answers d y' f v F) = inr (d, f, refl)

pub demand_1_entry : (rows costs : List ℕ) (τ allowance : ℕ) (work answer : List ℕ) → OneEntry rows costs τ allowance work answer
demand_1_entry rows costs τ allowance work answer =
    let z = entry_exists rows costs τ allowance work answer in
    record {
      number = z.0;
      work' = z.1;
      answer' = z.2;
      its = z.3;
      only = λ k x y c. entry_unique rows costs τ allowance work answer k z.0 x z.1 y z.2 c z.3;
      refused = λ k r. entry_unique rows costs τ allowance work answer z.0 k z.1 work z.2 answer z.3 (entryRefuses k r);
      ends = ends z.0 z.1 z.2 z.3;
    }
  where
    ends : (k : ℕ) (x y : List ℕ) → Entered rows costs τ allowance work answer k x y
        → ((j : ℕ) × EntryRefusal rows costs τ (length work) (length answer) j × (k ≡ j) × (x ≡ work) × (y ≡ answer))
        ⊎ ((d : Decision) × (flows : List ℕ) × EntryFaultless rows costs τ (length work) (length answer) × OnNumbers rows costs τ allowance (Decided d) flows
        × (k ≡ 0) × (x ≡ all_bytes flows ++ drop (8 * length flows) work) × (y ≡ answer_bytes (frame_of d) ++ drop 22 answer))
    ends k x y (entryRefuses j r) = inl (j, r, refl, refl, refl)
    ends k x y (entryAnswers d flows f c) = inr (d, flows, f, c, refl, refl, refl)

-- ---- Demand 2. "Wait exactly when no ring passes through T; else the named jobs open every such ring, none cheaper, ties as document 01 says.
-- Ages below 2^31 are right across a wrap."

pub demand_2_call : (rows costs : List ℕ) (τ allowance : ℕ) (before : List ℕ) (d : Decision) (after : List ℕ) → Called rows costs τ allowance before (Decided d) after
    → Right (waits rows) (length rows) τ (cost_at costs) (outcome_number d.outcome) d.price d.victims
demand_2_call = call_right

pub demand_2_ages : TrueAges
demand_2_ages issued d l = age_exact issued d (omega arith)

-- ---- Demand 3. "For n jobs and m waits there is one number of rounds, at most 2n(m + n); an allowance of that many or more gives the verdict and that count,
-- a smaller one gives "not yet" and the allowance."

pub demand_3 : (rows costs : List ℕ) (τ work : ℕ) → Faultless rows costs τ work → (K : ℕ) × Needs rows costs τ K × ((j : ℕ) → Needs rows costs τ j → j ≡ K)
demand_3 rows costs τ work f = let z = needs_exists rows costs τ work f in (z.0, z.1, λ j y. needs_unique rows costs τ work f j z.0 y z.1)

-- ---- Demands 2 and 3 of the line of a text

pub demands_text : (text line : List ℕ) → Unrefused text → LineOf text line → RightLine text line
demands_text text line u (lineRefuses r e h) = absurd (h (ap (λ (x : Frame). x.number) (sym e ∙ u)))
demands_text text line u (lineAnswers u' rows costs G o p k v y) =
    let τ = (header_at text 0).t in
    let f = given_faultless text rows costs u G in
    let z = needs_exists rows costs τ 4096 f in
    record {
      rows = rows;
      costs = costs;
      given = G;
      outcome = o;
      price = p;
      rounds = k;
      victims = v;
      says = refl;
      right = faultless_right rows costs τ 4096 (header_at text 0).allowance o p k v f y;
      needed = z.0;
      needs = z.1;
      gives = verdict_gives (waits rows) (length rows) τ (cost_at costs) (faultless_job rows costs τ 4096 f) z.0 z.1.room z.1.made z.1.ended (header_at text 0).allowance o p k v y;
    }

-- ---- What document 01 marks by a star

pub starred : Starred
starred = (worked, age_32)
