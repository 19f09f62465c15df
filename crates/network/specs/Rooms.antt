-- The state of a network: the room of each step from node to node, that is, what can still be pushed that way.
-- Document 01, "The network and its rounds": "A step may follow an arc with capacity left, or go back along an arc with flow above zero."
-- At the start the room of a step is the capacity of its arc. A push takes from the room that way and gives to the room back,
-- so forward along an arc the room is the capacity left, and back along it the flow on it (`rounds_pair` in proofs/RoundLaws.antt: after any rounds
-- the two add up to the capacities; `wait_room` and `job_room` in proofs/FlowLaws.antt say it of waits and jobs).
--
--   Room               the rooms of all steps: r a b from node a to node b
--   step r a b         the step may be taken: there is room
--   upd r a b x        r with x for the room of the step a → b
--   push1 r d a b      the rooms after d is pushed along the step a → b
--   push r d a p       the rooms after d is pushed along the path from a through the nodes p
use Rattle.std.specs.Prelude.{Bool, true, false, List, [], ◌∷◌, ℕ, ◌+◌, ◌-◌, eqb, ltb}
use Rattle.sums.specs.Tests.{both}

abbrev pub Room : Type 0
Room = ℕ → ℕ → ℕ

abbrev pub step : Room → ℕ → ℕ → Bool
step r a b = ltb 0 (r a b)

abbrev pub pick : Bool → ℕ → ℕ → ℕ
pick true x y = x
pick false x y = y

unfoldable pub upd : Room → ℕ → ℕ → ℕ → Room
upd r a b x c d = pick (both (eqb c a) (eqb d b)) x (r c d)

unfoldable pub push1 : Room → ℕ → ℕ → ℕ → Room
unfolding upd
push1 r d a b = upd (upd r a b (r a b - d)) b a (r b a + d)

unfoldable pub push : Room → ℕ → ℕ → List ℕ → Room
unfolding push1
push r d a [] = r
push r d a (b ∷ p) = push (push1 r d a b) d b p
