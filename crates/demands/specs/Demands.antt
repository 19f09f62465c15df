-- The three demands on every answer, each in the words of those who act on it. proofs/Demands.antt proves them of every text and every call.
-- They stand over what the functions promise: `LineOf` for a text (reply), `IsRead` (reader), `Called` and `Verdict` for a verdict call (verdict),
-- `Entered` for the C entry (bytewise). Rings are those of graph, sets and rounds those of network. τ is the timed-out job, which the document calls T.
--
--   OneLine, OneReply, OneReading, OneAnswer, OneEntry
--                                               demand 1: of a text, of the text function, of the reader, of a verdict call, of a verdict call through the C entry
--   Right w n τ cost o p v                      demand 2: what the outcome o, the price p and the victims v say of a snapshot
--   TrueAges                                    demand 2: ages across a wrap
--   Gives K a o k                               what the allowance a gives where K rounds are needed: the outcome o and k rounds
--   Needs rows costs τ K                        demand 3: K is the number of rounds of a snapshot
--   RightLine text line                         demands 2 and 3 of the line that answers a text
use Rattle.std.specs.Prelude.{◌≡◌, ◌⊎◌, ◌≢◌, Bool, List, ◌++◌, ℕ, ◌+◌, ◌*◌, ◌%◌, ◌^◌, ◌<◌, ◌≤◌, length, drop, replicate}
use Rattle.bits.specs.Mask.{has}
use Rattle.graph.specs.Waits.{waits}
use Rattle.graph.specs.Rings.{Ring}
use Rattle.network.specs.Rooms.{Room}
use Rattle.network.specs.Rounds.{Stuck}
use Rattle.network.specs.Arcs.{inn, out, wait_count}
use Rattle.network.specs.Costs.{cost_at}
use Rattle.network.specs.Sets.{Passes, Opens, Best, price}
use Rattle.checks.specs.Refusals.{Refusal, Faultless}
use Rattle.verdict.specs.declared.Decision.{Decision}
use Rattle.verdict.specs.Results.{Answer}
use Rattle.verdict.specs.Results.Answer.{Refused, Decided}
use Rattle.verdict.specs.Answers.{outcome_number, After, Victims}
use Rattle.verdict.specs.Called.{Called}
use Rattle.ticks.specs.Costs.{age_of}
use Rattle.frames.specs.Records.{answered}
use Rattle.frames.specs.Fields.{header_at}
use Rattle.refusals.specs.Refused.{refusal_of}
use Rattle.reader.specs.Reading.{Reading as Snapshot}
use Rattle.reader.specs.Snapshots.{IsRead}
use Rattle.lines.specs.Lines.{answer_line, refusal_line}
use Rattle.reply.specs.Replied.{Given, LineOf, Replied}
use Rattle.codec.specs.Frame.{answer_bytes}
use Rattle.lists.specs.Numbers.{numbers_of, all_bytes}
use Rattle.framed.specs.Framed.{frame_of}
use Rattle.bytewise.specs.Faults.{EntryRefusal, EntryFaultless}
use Rattle.bytewise.specs.Entered.{Entered}

-- ---- Demand 1. "Every snapshot and text, broken or not, gets an answer and an end; bad input meets document 01's numbered refusal in its order;
-- a refused call writes nothing to lent lists." That every function ends is part of the check of each.

-- of a text: there is exactly one line for it, that of its first refusal, or an answer
pub record OneLine (text : List ℕ) : Type 0 where
  pub line : List ℕ
  pub its : LineOf text line
  pub only : (other : List ℕ) → LineOf text other → other ≡ line
  pub refused : ((refusal_of 64 64 text).number ≡ 0 → ⊥) → line ≡ refusal_line (refusal_of 64 64 text)
  pub taken : (refusal_of 64 64 text).number ≡ 0 → (o : ℕ) × (p : ℕ) × (k : ℕ) × (v : ℕ) × (line ≡ answer_line (answered o p k v))

-- of the text function, for C too, with a list of any length lent: one length and one value of the list, which is as it was where it has fewer than 45 places
pub record OneReply (text before : List ℕ) : Type 0 where
  pub size : ℕ
  pub after : List ℕ
  pub its : Replied text before size after
  pub only : (r : ℕ) (x : List ℕ) → Replied text before r x → (r ≡ size) × (x ≡ after)
  pub short : length before < 45 → (size ≡ 0) × (after ≡ before)

-- of the reader, with lists of any length lent: one result, and both lists as they were where the text is refused
pub record OneReading (text rows costs : List ℕ) : Type 0 where
  pub result : Snapshot
  pub rows' : List ℕ
  pub costs' : List ℕ
  pub its : IsRead text rows costs rows' costs' result
  pub only : (r : Snapshot) (x y : List ℕ) → IsRead text rows costs x y r → (r ≡ result) × (x ≡ rows') × (y ≡ costs')
  pub refused : ((refusal_of (length rows) (length costs) text).number ≡ 0 → ⊥) → (result.refusal ≡ refusal_of (length rows) (length costs) text) × (rows' ≡ rows) × (costs' ≡ costs)

-- of a verdict call: one answer and one work list; the refusal that is due, with the work list as it was, or a verdict
pub record OneAnswer (rows costs : List ℕ) (τ allowance : ℕ) (before : List ℕ) : Type 0 where
  pub answer : Answer
  pub after : List ℕ
  pub its : Called rows costs τ allowance before answer after
  pub only : (x : Answer) (y : List ℕ) → Called rows costs τ allowance before x y → (x ≡ answer) × (y ≡ after)
  pub refused : (k : ℕ) → Refusal rows costs τ (length before) k → (answer ≡ Refused k) × (after ≡ before)
  pub ends : ((k : ℕ) × Refusal rows costs τ (length before) k × (answer ≡ Refused k) × (after ≡ before))
      ⊎ ((d : Decision) × Faultless rows costs τ (length before) × (answer ≡ Decided d))

-- of a call through the C entry: one number and one value of each lent list; the number of the refusal that is due, with both lists as they were,
-- or 0 with the bytes of a verdict call on the numbers
pub record OneEntry (rows costs : List ℕ) (τ allowance : ℕ) (work answer : List ℕ) : Type 0 where
  pub number : ℕ
  pub work' : List ℕ
  pub answer' : List ℕ
  pub its : Entered rows costs τ allowance work answer number work' answer'
  pub only : (k : ℕ) (x y : List ℕ) → Entered rows costs τ allowance work answer k x y → (k ≡ number) × (x ≡ work') × (y ≡ answer')
  pub refused : (k : ℕ) → EntryRefusal rows costs τ (length work) (length answer) k → (number ≡ k) × (work' ≡ work) × (answer' ≡ answer)
  pub ends : ((k : ℕ) × EntryRefusal rows costs τ (length work) (length answer) k × (number ≡ k) × (work' ≡ work) × (answer' ≡ answer))
      ⊎ ((d : Decision) × (flows : List ℕ) × EntryFaultless rows costs τ (length work) (length answer)
      × Called (numbers_of rows) (numbers_of costs) τ allowance (replicate (length (numbers_of rows) * length (numbers_of rows)) 0) (Decided d) flows
      × (number ≡ 0) × (work' ≡ all_bytes flows ++ drop (8 * length flows) work) × (answer' ≡ answer_bytes (frame_of d) ++ drop 22 answer))

-- ---- Demand 2. "Wait exactly when no ring passes through T; else the named jobs open every such ring, none cheaper, ties as document 01 says.
-- Ages below 2^31 are right across a wrap."

pub record Right (w : ℕ → ℕ → Bool) (n τ : ℕ) (cost : ℕ → ℕ) (o p v : ℕ) : Type 0 where
  pub outcome : o ≤ 3
  -- "No ring through T: wait."
  pub waits_no_ring : o ≡ 0 → (q : List ℕ) → Ring w n τ q → ⊥
  pub no_ring_waits : ((q : List ℕ) → Ring w n τ q → ⊥) → o ≡ 0
  -- where jobs are named, T or others, they open every ring through T, and no set of others that does so costs less
  pub opens : (o ≡ 1) ⊎ (o ≡ 2) → (q : List ℕ) → Ring w n τ q → Passes (has v) q
  pub cheapest : (o ≡ 1) ⊎ (o ≡ 2) → (L : ℕ → Bool) → Opens w n τ L → p ≤ price n cost L
  -- "There is exactly one such set": of least cost, and among these the one that leaves the fewest jobs
  pub set : ℕ → Bool
  pub best : Best w n τ cost set
  pub only : (L : ℕ → Bool) → Best w n τ cost L → (u : ℕ) → u < n → L u ≡ set u
  -- "If T's cost is smaller than that set's cost, abort T. Otherwise abort the set"
  pub itself : o ≡ 1 → (cost τ < price n cost set) × (p ≡ cost τ) × (v ≡ 2 ^ τ)
  pub others : o ≡ 2 → (price n cost set ≤ cost τ) × (p ≡ price n cost set) × Victims n set v
  -- "For wait and for not yet, price and victims are 0."
  pub nothing : (o ≡ 0) ⊎ (o ≡ 3) → (p ≡ 0) × (v ≡ 0)

-- a job issued at any time and asked about d ticks later, by a counter of 32 bits
abbrev pub TrueAges : Type 0
TrueAges = (issued d : ℕ) → d < 2 ^ 31 → (age_of (record { 0 = (issued + d) % 2 ^ 32 }) (record { 0 = issued % 2 ^ 32 })).0 ≡ d

-- ---- Demand 3. "For n jobs and m waits there is one number of rounds, at most 2n(m + n); an allowance of that many or more gives the verdict and that count,
-- a smaller one gives "not yet" and the allowance."

pub record Gives (K a o k : ℕ) : Type 0 where
  pub enough : K ≤ a → (o ≢ 3) × (k ≡ K)
  pub less : a < K → (o ≡ 3) × (k ≡ a)

pub record Needs (rows costs : List ℕ) (τ K : ℕ) : Type 0 where
  -- after K rounds of the document's sequence no path is left
  pub room : Room
  pub made : After (waits rows) (length rows) τ (cost_at costs) K room
  pub ended : Stuck (2 * length rows) (out τ) (inn τ) room
  pub bound : K ≤ 2 * length rows * (wait_count (waits rows) (length rows) + length rows)
  -- whatever allowance is given and whatever work list is lent
  pub gives : (a : ℕ) (before : List ℕ) (d : Decision) (after : List ℕ) → Called rows costs τ a before (Decided d) after → Gives K a (outcome_number d.outcome) d.rounds
  -- a larger allowance changes neither a verdict that was given nor its work list
  pub steady : (a b : ℕ) (before : List ℕ) (d : Decision) (x : Answer) (after after' : List ℕ) → a ≤ b → outcome_number d.outcome ≢ 3
      → Called rows costs τ a before (Decided d) after → Called rows costs τ b before x after' → (x ≡ Decided d) × (after' ≡ after)

-- ---- Demands 2 and 3 of the line of a text that nothing refuses

pub record RightLine (text line : List ℕ) : Type 0 where
  pub rows : List ℕ
  pub costs : List ℕ
  pub given : Given text rows costs
  pub outcome : ℕ
  pub price : ℕ
  pub rounds : ℕ
  pub victims : ℕ
  pub says : line ≡ answer_line (answered outcome price rounds victims)
  pub right : Right (waits rows) (length rows) (header_at text 0).t (cost_at costs) outcome price victims
  pub needed : ℕ
  pub needs : Needs rows costs (header_at text 0).t needed
  pub gives : Gives needed (header_at text 0).allowance outcome rounds
