-- The flow in a network of jobs: what the rooms after any rounds say of it (document 01: "the flow on the wait from u to v after the counted rounds").
-- The flow on an arc is the room back along it. Over any arcs between jobs of which none leads from a job to itself, any job capacities and any capacity of waits.
-- Assumes nothing.
--
--   row_kept, row_sink    what leaves a node, all steps together: the same as at the start, and at the sink more by what was pushed
--   Flowing               rooms with some amount pushed from T's out-node to T's in-node; rounds_flowing: so they are after any rounds
--   wait_room             room along a wait and flow on it add up to its capacity
--   job_room              room along a job's arc and room back, the flow through the job, add up to its capacity
--   into_job, from_job    what flows into a job other than T, and what flows out of it, is what flows through it
--   flow_conserved        so the two are equal
--   into_sink             what flows into T is what was pushed
--   room_limit            what bounds the capacities bounds the rooms
--   capacity_conserved    in the document's network what flows into a job other than T flows out of it
--   capacity_limit        and no room is above S + 1, which refusal 8 keeps at 2^63 or below: nothing leaves 64 bits
use mathlib.Core.Path.{◌≡◌, sym, ◌∙◌}
use mathlib.Core.Logic.{◌⊎◌, inl, inr, ◌≢◌}
use mathlib.Core.Bool.{Bool, not}
use Prim.Native.Nat.{ℕ, suc, ◌+◌, ◌*◌, ◌≤◌, ◌<◌}
use native.Mathlib.Nat.{le_refl}
use native.Mathlib.Decide.{ℕ_discrete}
use native.Mathlib.Omega.{arith}
use lib.Dec.{T, eqb, eqb_refl, not_T, T_not}
use Rattle.sums.specs.Tests.{both}
use Rattle.sums.specs.Sum.{sum, gate}
use Rattle.sums.proofs.TestLaws.{both_intro, both_left, both_right, tested, ne_test}
use Rattle.sums.proofs.SumLaws.{gate_on, gate_off, gate_le, sum_cong, sum_zero, sum_add, sum_point, sum_single, sum_pairs}
use Rattle.sums.proofs.DoubleSums.{dsum}
use Rattle.network.specs.Rooms.{Room}
use Rattle.network.specs.Rounds.{Rounds}
use Rattle.network.specs.Arcs.{inn, out, flow_on, within, total, job_capacity, net, capacity}
use Rattle.network.proofs.RoundLaws.{rounds_pair}
use Rattle.network.proofs.CutLaws.{cut, Carried, rounds_carried}
use Rattle.network.proofs.ArcLaws.{node_cases, net_job, net_in, net_wait, net_out, job_total}

-- ---- what leaves a node, all steps together: the cut into all nodes but that one

abbrev but : ℕ → ℕ → Bool
but a x = not (eqb x a)

cut_row : (N a : ℕ) (r : Room) → a < N → cut N (but a) r + r a a ≡ sum N (λ b. r a b)
unfolding cut dsum
cut_row N a r l =
    let one : sum N (λ x. sum N (λ y. gate (both (not (but a x)) (but a y)) (r x y))) ≡ sum N (λ y. gate (both (not (but a a)) (but a y)) (r a y))
    = sum_single N (λ x. sum N (λ y. gate (both (not (but a x)) (but a y)) (r x y))) a l
    (λ x lx ne. sum_zero N (λ y. gate (both (not (but a x)) (but a y)) (r x y)) (λ y ly. gate_off (both (not (but a x)) (but a y)) (r x y)
    (λ t. T_not (but a x) (both_left (not (but a x)) (but a y) t) (ne_test x a ne)))) in
    let here : gate (both (not (but a a)) (but a a)) (r a a) ≡ 0 = gate_off (both (not (but a a)) (but a a)) (r a a) (λ t. itself (both_right (not (but a a)) (but a a) t)) in
    let two : sum N (λ y. gate (both (not (but a a)) (but a y)) (r a y)) + r a a ≡ sum N (λ y. r a y) + 0
    = sum_point N (λ y. gate (both (not (but a a)) (but a y)) (r a y)) (λ y. r a y) a (r a a) 0 l
    (λ y ly ne. gate_on (both (not (but a a)) (but a y)) (r a y) (both_intro (not (but a a)) (but a y) (not_T (but a a) itself) (ne_test y a ne))) (omega arith) in
    omega (arith, one, two)
  where
    itself : T (but a a) → ⊥
    itself t = T_not (eqb a a) t (eqb_refl a)

module _ (N s t : ℕ) (c r : Room) (v : ℕ) (car : Carried N s t c r v) where
  row_kept : (a : ℕ) → a < N → a ≢ s → a ≢ t → r a a ≡ c a a → sum N (λ b. r a b) ≡ sum N (λ b. c a b)
  row_kept a l ns nt e =
      let g₁ = gate_off (not (but a s)) v (λ h. T_not (but a s) h (ne_test s a (λ q. ns (sym q)))) in
      let g₂ = gate_off (not (but a t)) v (λ h. T_not (but a t) h (ne_test t a (λ q. nt (sym q)))) in
      omega (arith, car (but a), g₁, g₂, cut_row N a r l, cut_row N a c l)

  row_sink : t < N → s ≢ t → r t t ≡ c t t → sum N (λ b. r t b) ≡ sum N (λ b. c t b) + v
  row_sink l ne e =
      let g₁ = gate_off (not (but t s)) v (λ h. T_not (but t s) h (ne_test s t ne)) in
      let g₂ = gate_on (not (but t t)) v (not_T (but t t) (λ h. T_not (eqb t t) h (eqb_refl t))) in
      omega (arith, car (but t), g₁, g₂, cut_row N t r l, cut_row N t c l)

-- ---- jobs

pub record Flowing (n τ : ℕ) (c r : Room) (v : ℕ) : Type 0 where
  -- the room of a step and of the step back add up to their capacities
  pub pair : (a b : ℕ) → a < 2 * n → b < 2 * n → r a b + r b a ≡ c a b + c b a
  -- v was pushed
  pub carried : Carried (2 * n) (out τ) (inn τ) c r v

pub rounds_flowing : (n τ : ℕ) (c : Room) (k : ℕ) (r : Room) → τ < n → Rounds (2 * n) (out τ) (inn τ) c k r → (v : ℕ) × Flowing n τ c r v
rounds_flowing n τ c k r l x =
    let w = rounds_carried (2 * n) (out τ) (inn τ) c k r (omega arith) x in
    (w.0, record { pair = rounds_pair (2 * n) (out τ) (inn τ) c k r (omega arith) x; carried = w.1 })

module _ (arc : ℕ → ℕ → Bool) (job : ℕ → ℕ) (wide n τ : ℕ) (apart : (u : ℕ) → u < n → T (arc u u) → ⊥) (r : Room) (v : ℕ)
    (flow : Flowing n τ (net arc job wide) r v) where
  c : Room
  c = net arc job wide

  none_in : (u y : ℕ) → u < n → y < n → r (inn u) (inn y) ≡ 0
  none_in u y lu ly = omega (
    arith,
    flow.pair (inn u) (inn y) (omega arith) (omega arith),
    net_in arc job wide u (inn y) (λ e. omega arith),
    net_in arc job wide y (inn u) (λ e. omega arith),
  )

  none_out : (u y : ℕ) → u < n → y < n → r (out u) (out y) ≡ 0
  none_out u y lu ly = omega (arith, flow.pair (out u) (out y) (omega arith) (omega arith), net_out arc job wide u y, net_out arc job wide y u)

  self_none : (u : ℕ) → u < n → flow_on arc r u u ≡ 0
  self_none u l = gate_off (arc u u) (r (inn u) (out u)) (apart u l)

  -- between two jobs the room back along a wait is the flow on it
  back_flow : (u y : ℕ) → u < n → y < n → u ≢ y → r (inn y) (out u) ≡ flow_on arc r u y
  back_flow u y lu ly ne = go (tested (arc u y))
    where
      p : r (out u) (inn y) + r (inn y) (out u) ≡ gate (arc u y) wide
      p = omega (arith, flow.pair (out u) (inn y) (omega arith) (omega arith), net_wait arc job wide u y, net_in arc job wide y (out u) (λ e. ne (omega arith)))

      go : T (arc u y) ⊎ (T (arc u y) → ⊥) → r (inn y) (out u) ≡ gate (arc u y) (r (inn y) (out u))
      go (inl t) = sym (gate_on (arc u y) (r (inn y) (out u)) t)
      go (inr t) = omega (arith, p, gate_off (arc u y) wide t, gate_off (arc u y) (r (inn y) (out u)) t)

  pub wait_room : (u y : ℕ) → u < n → y < n → u ≢ y → r (out u) (inn y) + flow_on arc r u y ≡ gate (arc u y) wide
  wait_room u y lu ly ne = omega (
    arith,
    back_flow u y lu ly ne,
    flow.pair (out u) (inn y) (omega arith) (omega arith),
    net_wait arc job wide u y,
    net_in arc job wide y (out u) (λ e. ne (omega arith)),
  )

  pub job_room : (u : ℕ) → u < n → r (inn u) (out u) + r (out u) (inn u) ≡ job u
  job_room u l = omega (
    arith,
    flow.pair (inn u) (out u) (omega arith) (omega arith),
    net_job arc job wide u,
    net_wait arc job wide u u,
    gate_off (arc u u) wide (apart u l),
  )

  -- all steps from an in-node: back along the waits that lead there, and along the job's arc
  row_in : (u : ℕ) → u < n → sum (2 * n) (λ b. r (inn u) b) ≡ sum n (λ y. flow_on arc r y u) + r (inn u) (out u)
  row_in u l = omega (
    arith,
    sum_pairs n (λ b. r (inn u) b),
    sum_cong n (λ y. r (inn u) (inn y) + r (inn u) (out y)) (λ y. r (inn u) (out y)) (λ y ly. omega (arith, none_in u y l ly)),
    sum_point n (λ y. r (inn u) (out y)) (λ y. flow_on arc r y u) u 0 (r (inn u) (out u)) l (λ y ly ne. back_flow y u ly l ne) (omega (arith, self_none u l)),
  )

  row_in_start : (u : ℕ) → u < n → sum (2 * n) (λ b. c (inn u) b) ≡ job u
  unfolding c
  row_in_start u l = sum_single (2 * n) (λ b. net arc job wide (inn u) b) (out u) (omega arith) (λ b lb ne. net_in arc job wide u b ne) ∙ net_job arc job wide u

  -- all steps from an out-node: along the waits, and back along the job's arc
  row_out : (u : ℕ) → u < n → sum (2 * n) (λ b. r (out u) b) + sum n (λ y. flow_on arc r u y) ≡ sum n (λ y. gate (arc u y) wide) + r (out u) (inn u)
  row_out u l = omega (
    arith,
    sum_pairs n (λ b. r (out u) b),
    sum_cong n (λ y. r (out u) (inn y) + r (out u) (out y)) (λ y. r (out u) (inn y)) (λ y ly. omega (arith, none_out u y l ly)),
    sum_add n (λ y. r (out u) (inn y)) (λ y. flow_on arc r u y),
    sum_point n (λ y. r (out u) (inn y) + flow_on arc r u y) (λ y. gate (arc u y) wide) u 0 (r (out u) (inn u)) l
        (λ y ly ne. wait_room u y l ly (λ e. ne (sym e))) (omega (arith, self_none u l, gate_off (arc u u) wide (apart u l))),
  )

  row_out_start : (u : ℕ) → u < n → sum (2 * n) (λ b. c (out u) b) ≡ sum n (λ y. gate (arc u y) wide)
  unfolding c
  row_out_start u l =
      sum_pairs n (λ b. net arc job wide (out u) b)
      ∙ sum_cong n _ _ (λ y ly. omega (arith, net_wait arc job wide u y, net_out arc job wide u y))

  same_place : (a : ℕ) → a < 2 * n → r a a ≡ c a a
  unfolding c
  same_place a l = omega (arith, flow.pair a a l l)

  pub into_job : (u : ℕ) → u < n → u ≢ τ → sum n (λ y. flow_on arc r y u) ≡ r (out u) (inn u)
  unfolding c
  into_job u l ne =
      let e = row_kept (2 * n) (out τ) (inn τ) c r v flow.carried (inn u) (omega arith) (λ q. omega arith) (λ q. ne (omega arith)) (same_place (inn u) (omega arith)) in
      omega (arith, e, row_in u l, row_in_start u l, job_room u l)

  pub from_job : (u : ℕ) → u < n → u ≢ τ → sum n (λ y. flow_on arc r u y) ≡ r (out u) (inn u)
  unfolding c
  from_job u l ne =
      let e = row_kept (2 * n) (out τ) (inn τ) c r v flow.carried (out u) (omega arith) (λ q. ne (omega arith)) (λ q. omega arith) (same_place (out u) (omega arith)) in
      omega (arith, e, row_out u l, row_out_start u l)

  pub flow_conserved : (u : ℕ) → u < n → u ≢ τ → sum n (λ y. flow_on arc r y u) ≡ sum n (λ y. flow_on arc r u y)
  flow_conserved u l ne = into_job u l ne ∙ sym (from_job u l ne)

  pub into_sink : τ < n → job τ ≡ 0 → sum n (λ y. flow_on arc r y τ) ≡ v
  unfolding c
  into_sink l z =
      let e = row_sink (2 * n) (out τ) (inn τ) c r v flow.carried (omega arith) (λ q. omega arith) (same_place (inn τ) (omega arith)) in
      omega (arith, e, row_in τ l, row_in_start τ l, job_room τ l, z)

-- ---- bounds

module _ (arc : ℕ → ℕ → Bool) (job : ℕ → ℕ) (wide n : ℕ) (apart : (u : ℕ) → u < n → T (arc u u) → ⊥)
    (limit : ℕ) (few : (u : ℕ) → u < n → job u ≤ limit) (width : wide ≤ limit) where
  in_out : (u y : ℕ) → u < n → net arc job wide (inn u) (out y) + net arc job wide (out y) (inn u) ≤ limit
  in_out u y l = go (ℕ_discrete y u)
    where
      go : Dec (y ≡ u) → net arc job wide (inn u) (out y) + net arc job wide (out y) (inn u) ≤ limit
      go (yes e) = rw e (omega (arith, net_job arc job wide u, few u l, net_wait arc job wide u u, gate_off (arc u u) wide (apart u l)))
      go (no e) = omega (arith, net_in arc job wide u (out y) (λ q. e (omega arith)), net_wait arc job wide y u, gate_le (arc y u) wide)

  net_limit : (a b : ℕ) → a < 2 * n → b < 2 * n → net arc job wide a b + net arc job wide b a ≤ limit
  net_limit a b la lb = let x = node_cases n a la in let y = node_cases n b lb in cases x.0 y.0 x.1 y.1 x.2 y.2
    where
      c : Room
      c = net arc job wide

      cases : (u y : ℕ) → u < n → y < n → (a ≡ inn u) ⊎ (a ≡ out u) → (b ≡ inn y) ⊎ (b ≡ out y) → c a b + c b a ≤ limit
      cases u y lu ly (inl e) (inl f) = rw (e, f) (omega (arith, net_in arc job wide u (inn y) (λ q. omega arith), net_in arc job wide y (inn u) (λ q. omega arith)))
      cases u y lu ly (inl e) (inr f) = rw (e, f) (in_out u y lu)
      cases u y lu ly (inr e) (inl f) = rw (e, f) (omega (arith, in_out y u ly))
      cases u y lu ly (inr e) (inr f) = rw (e, f) (omega (arith, net_out arc job wide u y, net_out arc job wide y u))

  pub room_limit : (τ v : ℕ) (r : Room) → Flowing n τ (net arc job wide) r v → (a b : ℕ) → a < 2 * n → b < 2 * n → r a b + r b a ≤ limit
  room_limit τ v r flow a b la lb = omega (arith, flow.pair a b la lb, net_limit a b la lb)

-- ---- the document's network

module _ (w : ℕ → ℕ → Bool) (x : ℕ → Bool) (n τ : ℕ) (cost : ℕ → ℕ) (lτ : τ < n) (apart : (u : ℕ) → u < n → T (w u u) → ⊥) (k : ℕ) (r : Room)
    (made : Rounds (2 * n) (out τ) (inn τ) (capacity w x n τ cost) k r) where
  flowing : (v : ℕ) × Flowing n τ (net (within w x) (job_capacity x τ cost) (suc (total n x cost))) r v
  unfolding capacity
  flowing = rounds_flowing n τ (net (within w x) (job_capacity x τ cost) (suc (total n x cost))) k r lτ made

  no_self : (u : ℕ) → u < n → T (within w x u u) → ⊥
  unfolding within
  no_self u l t = apart u l (both_left (w u u) (both (x u) (x u)) t)

  pub capacity_conserved : (u : ℕ) → u < n → u ≢ τ → sum n (λ y. flow_on (within w x) r y u) ≡ sum n (λ y. flow_on (within w x) r u y)
  capacity_conserved u l ne = flow_conserved (within w x) (job_capacity x τ cost) (suc (total n x cost)) n τ no_self r flowing.0 flowing.1 u l ne

  pub capacity_limit : (a b : ℕ) → a < 2 * n → b < 2 * n → r a b + r b a ≤ suc (total n x cost)
  capacity_limit = room_limit (within w x) (job_capacity x τ cost) (suc (total n x cost)) n no_self (suc (total n x cost)) few (le_refl (suc (total n x cost))) τ flowing.0 r flowing.1
    where
      few : (u : ℕ) → u < n → job_capacity x τ cost u ≤ suc (total n x cost)
      few u l = omega (arith, job_total n x τ cost u l)
