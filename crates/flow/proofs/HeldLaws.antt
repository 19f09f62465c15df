-- The flow in the lists and the rooms of the network: what the code reads of a step is its room, and what it writes is one step of a push.
-- Over any arcs between jobs, any job capacities and any capacity of waits, as far as the lists of costs and the number `wide` have them.
-- F is the work list, G has the flow through each job, n is the number of jobs.
-- Assumes nothing.
--
--   Framed arc job wide costs    the lists of a network: where a job has an arc, its capacity is its cost; no wait of a job for itself; numbers of 64 bits
--   Held arc job wide n r F G    F and G hold the flow that the rooms r say
--   held_sides                   a step with room joins an in-node and an out-node
--   held_read, held_readable     what is read of it is its room, and it can be read
--   held_step                    after one step's push the lists hold the flow of the rooms after it
--   held_same                    so it is with rooms that agree
use mathlib.Core.Path.{◌≡◌, sym, ap, ◌∙◌, subst}
use mathlib.Core.Logic.{◌⊎◌, inl, inr, ◌≢◌}
use mathlib.Core.Bool.{Bool}
use mathlib.Core.List.{List}
use Prim.Native.Nat.{ℕ, ◌+◌, ◌-◌, ◌*◌, ◌/◌, ◌%◌, ◌^◌, ◌<◌, ◌≤◌}
use native.Mathlib.Decide.{ℕ_discrete}
use native.Mathlib.Omega.{arith}
use lib.Arith.{digits_lt, digits_div, digits_mod}
use lib.Dec.{T}
use lib.ListN.{length, set, length-set}
use lib.Seq.{get_or-set_same, get_or-set_other}
use Rattle.sums.specs.Sum.{gate}
use Rattle.sums.proofs.TestLaws.{tested}
use Rattle.sums.proofs.SumLaws.{gate_on, gate_off, gate_le}
use Rattle.network.specs.Rooms.{Room, push1}
use Rattle.network.specs.Arcs.{inn, out, net}
use Rattle.network.proofs.PushLaws.{room_at, Spot, ahead, back, aside, spot, push1_ahead, push1_back, push1_aside}
use Rattle.network.proofs.SameRooms.{Same}
use Rattle.network.proofs.ArcLaws.{net_job, net_in, net_wait, net_out}
use Rattle.search.specs.Masks.{at}
use Rattle.push.specs.Reading.{reads, Readable}
use Rattle.push.specs.Advance.{Shifted}
use Rattle.push.specs.Advance.Shifted.{drops, rises, along, against}
use Rattle.push.proofs.ReadLaws.{read_drops, read_rises, read_along, read_against}

pub record Framed (arc : ℕ → ℕ → Bool) (job : ℕ → ℕ) (wide : ℕ) (costs : List ℕ) : Type 0 where
  pub few : length costs ≤ 64
  pub apart : (u : ℕ) → u < length costs → T (arc u u) → ⊥
  pub priced : (u : ℕ) → u < length costs → 0 < job u → job u ≡ at costs u
  pub small : (u : ℕ) → u < length costs → at costs u < 2 ^ 64
  pub bound : wide < 2 ^ 64

pub record Held (arc : ℕ → ℕ → Bool) (job : ℕ → ℕ) (wide n : ℕ) (r : Room) (F G : List ℕ) : Type 0 where
  pub size : n * n ≤ length F
  pub thru : length G ≡ 64
  -- room forward and room back add up to the capacities
  pub pair : (a b : ℕ) → a < 2 * n → b < 2 * n → r a b + r b a ≡ net arc job wide a b + net arc job wide b a
  -- the flow on an arc is the room back along it
  pub wait : (u v : ℕ) → u < n → v < n → at F (u * n + v) ≡ gate (arc u v) (r (inn v) (out u))
  pub through : (u : ℕ) → u < n → at G u ≡ r (out u) (inn u)

pub held_same : (arc : ℕ → ℕ → Bool) (job : ℕ → ℕ) (wide n : ℕ) (r q : Room) (F G : List ℕ) → Same (2 * n) r q → Held arc job wide n r F G → Held arc job wide n q F G
held_same arc job wide n r q F G e H = record {
  size = H.size;
  thru = H.thru;
  pair = λ a b la lb. omega (arith, e a b la lb, e b a lb la, H.pair a b la lb);
  wait = λ u v lu lv. H.wait u v lu lv ∙ ap (gate (arc u v)) (e (inn v) (out u) (omega arith) (omega arith));
  through = λ u l. H.through u l ∙ e (out u) (inn u) (omega arith) (omega arith);
}

module _ (arc : ℕ → ℕ → Bool) (job : ℕ → ℕ) (wide : ℕ) (costs : List ℕ) (K : Framed arc job wide costs) (r : Room) (F G : List ℕ) (H : Held arc job wide (length costs) r F G) where
  abbrev n : ℕ
  n = length costs

  -- ---- the rooms of each kind of step, and of the step back

  pair_wait : (u v : ℕ) → u < n → v < n → u ≢ v → r (out u) (inn v) + r (inn v) (out u) ≡ gate (arc u v) wide
  pair_wait u v lu lv ne = omega (arith, H.pair (out u) (inn v) (omega arith) (omega arith), net_wait arc job wide u v, net_in arc job wide v (out u) (λ e. ne (omega arith)))

  pair_job : (u : ℕ) → u < n → r (inn u) (out u) + r (out u) (inn u) ≡ job u
  pair_job u l = omega (arith, H.pair (inn u) (out u) (omega arith) (omega arith), net_job arc job wide u, net_wait arc job wide u u, gate_off (arc u u) wide (K.apart u l))

  none_in : (u v : ℕ) → u < n → v < n → r (inn u) (inn v) ≡ 0
  none_in u v lu lv = omega (
    arith,
    H.pair (inn u) (inn v) (omega arith) (omega arith),
    net_in arc job wide u (inn v) (λ e. omega arith),
    net_in arc job wide v (inn u) (λ e. omega arith),
  )

  none_out : (u v : ℕ) → u < n → v < n → r (out u) (out v) ≡ 0
  none_out u v lu lv = omega (arith, H.pair (out u) (out v) (omega arith) (omega arith), net_out arc job wide u v, net_out arc job wide v u)

  -- a wait with flow or room on it is an arc
  arc_on : (u v : ℕ) → u < n → v < n → u ≢ v → 0 < r (out u) (inn v) + r (inn v) (out u) → T (arc u v)
  arc_on u v lu lv ne l = go (tested (arc u v))
    where
      go : T (arc u v) ⊎ (T (arc u v) → ⊥) → T (arc u v)
      go (inl t) = t
      go (inr t) = absurd (omega (arith, l, pair_wait u v lu lv ne, gate_off (arc u v) wide t))

  job_cost_lem : (u : ℕ) → u < n → job u ≤ at costs u
  job_cost_lem u l = go (ℕ_discrete (job u) 0)
    where
      go : Dec (job u ≡ 0) → job u ≤ at costs u
      go (yes z) = omega arith
      go (no z) = omega (arith, K.priced u l (omega arith))

  wait_le : (u v : ℕ) → u < n → v < n → at F (u * n + v) ≤ wide
  wait_le u v lu lv = go (tested (arc u v))
    where
      go : T (arc u v) ⊎ (T (arc u v) → ⊥) → at F (u * n + v) ≤ wide
      go (inr t) = omega (arith, H.wait u v lu lv, gate_off (arc u v) (r (inn v) (out u)) t)
      go (inl t) =
          let ne : u ≢ v = λ e. K.apart u lu (subst (λ (z : ℕ). T (arc u z)) (sym e) t) in
          omega (arith, H.wait u v lu lv, gate_le (arc u v) (r (inn v) (out u)), pair_wait u v lu lv ne, gate_le (arc u v) wide)

  module _ (a b : ℕ) (la : a < 2 * length costs) (lb : b < 2 * length costs) where
    lu : a / 2 < n
    lu = omega arith

    lv : b / 2 < n
    lv = omega arith

    pub held_sides : 0 < r a b → (a + b) % 2 ≡ 1
    held_sides l = go (ℕ_discrete (a % 2) 1) (ℕ_discrete (b % 2) 1)
      where
        go : Dec (a % 2 ≡ 1) → Dec (b % 2 ≡ 1) → (a + b) % 2 ≡ 1
        go (yes x) (yes y) = absurd (omega (arith, l, room_at r a b (out (a / 2)) (out (b / 2)) (omega arith) (omega arith), none_out (a / 2) (b / 2) lu lv))
        go (no x) (no y) = absurd (omega (arith, l, room_at r a b (inn (a / 2)) (inn (b / 2)) (omega arith) (omega arith), none_in (a / 2) (b / 2) lu lv))
        go (yes x) (no y) = omega arith
        go (no x) (yes y) = omega arith

    pub held_readable : Readable costs wide F G a b
    held_readable = record {
      few = K.few;
      size = H.size;
      thru = H.thru;
      from = la;
      to = lb;
      job = omega (arith, H.through (a / 2) lu, pair_job (a / 2) lu, job_cost_lem (a / 2) lu);
      wait = wait_le (a / 2) (b / 2) lu lv;
    }

    module _ (some : 0 < r a b) where
      pub held_read : reads costs wide F G a b ≡ r a b
      held_read = go (ℕ_discrete (a / 2) (b / 2)) (ℕ_discrete (a % 2) 1)
        where
          s : (a + b) % 2 ≡ 1
          s = held_sides some

          go : Dec (a / 2 ≡ b / 2) → Dec (a % 2 ≡ 1) → reads costs wide F G a b ≡ r a b
          go (yes e) (yes o) = read_drops costs wide F G a b e o ∙ H.through (a / 2) lu ∙ room_at r (out (a / 2)) (inn (a / 2)) a b (omega arith) (omega (arith, s))
          go (yes e) (no o) =
              let q : r (inn (a / 2)) (out (a / 2)) ≡ r a b = room_at r (inn (a / 2)) (out (a / 2)) a b (omega arith) (omega (arith, s)) in
              let j = pair_job (a / 2) lu in
              omega (arith, read_rises costs wide F G a b e o, q, j, H.through (a / 2) lu, K.priced (a / 2) lu (omega (arith, q, j)))
          go (no e) (yes o) =
              let q : r (out (a / 2)) (inn (b / 2)) ≡ r a b = room_at r (out (a / 2)) (inn (b / 2)) a b (omega arith) (omega (arith, s)) in
              let t : T (arc (a / 2) (b / 2)) = arc_on (a / 2) (b / 2) lu lv e (omega (arith, q)) in
              omega (
                arith,
                q,
                read_along costs wide F G a b e o,
                pair_wait (a / 2) (b / 2) lu lv e,
                gate_on (arc (a / 2) (b / 2)) wide t,
                H.wait (a / 2) (b / 2) lu lv,
                gate_on (arc (a / 2) (b / 2)) (r (inn (b / 2)) (out (a / 2))) t,
              )
          go (no e) (no o) =
              let q : r (inn (a / 2)) (out (b / 2)) ≡ r a b = room_at r (inn (a / 2)) (out (b / 2)) a b (omega arith) (omega (arith, s)) in
              let t : T (arc (b / 2) (a / 2)) = arc_on (b / 2) (a / 2) lv lu (λ f. e (sym f)) (omega (arith, q)) in
              read_against costs wide F G a b e o ∙ H.wait (b / 2) (a / 2) lv lu ∙ gate_on (arc (b / 2) (a / 2)) (r (inn (a / 2)) (out (b / 2))) t ∙ q

      -- ---- one step of a push

      module _ (d : ℕ) (allowed : d ≤ r a b) where
        ne : a ≢ b
        ne e = omega (arith, held_sides some)

        pair' : (x y : ℕ) → push1 r d a b x y + push1 r d a b y x ≡ r x y + r y x
        pair' x y = go (spot a b x y)
          where
            turn : {A B : Type 0} → A ⊎ B → B ⊎ A
            turn (inl k) = inr k
            turn (inr k) = inl k

            go : Spot a b x y → push1 r d a b x y + push1 r d a b y x ≡ r x y + r y x
            go (ahead e f) = omega (arith, push1_ahead r d a b ne x y e f, push1_back r d a b ne y x f e, room_at r x y a b e f)
            go (back e f) = omega (arith, push1_back r d a b ne x y e f, push1_ahead r d a b ne y x f e, room_at r y x a b f e)
            go (aside e f) = omega (arith, push1_aside r d a b ne x y e f, push1_aside r d a b ne y x (turn f) (turn e))

        place : (u v x y : ℕ) → v < n → y < n → u * n + v ≡ x * n + y → (u ≡ x) × (v ≡ y)
        place u v x y l m e = (sym (digits_div u l) ∙ ap (λ (z : ℕ). z / n) e ∙ digits_div x m, sym (digits_mod u l) ∙ ap (λ (z : ℕ). z % n) e ∙ digits_mod x m)

        -- the step is not one of a wait: no wait's flow changes
        wait_kept : a / 2 ≡ b / 2 → (u v : ℕ) → u < n → v < n → at F (u * n + v) ≡ gate (arc u v) (push1 r d a b (inn v) (out u))
        wait_kept e u v lu lv = H.wait u v lu lv ∙ go (tested (arc u v)) (spot a b (inn v) (out u))
          where
            go : T (arc u v) ⊎ (T (arc u v) → ⊥) → Spot a b (inn v) (out u) → gate (arc u v) (r (inn v) (out u)) ≡ gate (arc u v) (push1 r d a b (inn v) (out u))
            go (inr t) k = gate_off (arc u v) (r (inn v) (out u)) t ∙ sym (gate_off (arc u v) (push1 r d a b (inn v) (out u)) t)
            go (inl t) (ahead p q) = absurd (K.apart u lu (subst (λ (z : ℕ). T (arc u z)) (let z : v ≡ u = omega arith in z) t))
            go (inl t) (back p q) = absurd (K.apart u lu (subst (λ (z : ℕ). T (arc u z)) (let z : v ≡ u = omega arith in z) t))
            go (inl t) (aside p q) = ap (gate (arc u v)) (sym (push1_aside r d a b ne (inn v) (out u) p q))

        -- the step is one of a wait: nothing changes through a job
        through_kept : a / 2 ≢ b / 2 → (u : ℕ) → u < n → at G u ≡ push1 r d a b (out u) (inn u)
        through_kept e u l = H.through u l ∙ go (spot a b (out u) (inn u))
          where
            go : Spot a b (out u) (inn u) → r (out u) (inn u) ≡ push1 r d a b (out u) (inn u)
            go (ahead p q) = absurd (e (omega arith))
            go (back p q) = absurd (e (omega arith))
            go (aside p q) = sym (push1_aside r d a b ne (out u) (inn u) p q)

        held_thru : (x : ℕ) → (a / 2 ≡ b / 2) → ((u : ℕ) → u ≡ a / 2 → x ≡ push1 r d a b (out u) (inn u)) → Held arc job wide n (push1 r d a b) F (set G (a / 2) x)
        held_thru x e here = record {
          size = H.size;
          thru = length-set G (a / 2) x ∙ H.thru;
          pair = λ i j li lj. pair' i j ∙ H.pair i j li lj;
          wait = wait_kept e;
          through = λ u l. go u l (ℕ_discrete u (a / 2));
        }
          where
            s : (a + b) % 2 ≡ 1
            s = held_sides some

            go : (u : ℕ) → u < n → Dec (u ≡ a / 2) → at (set G (a / 2) x) u ≡ push1 r d a b (out u) (inn u)
            go u l (yes q) = ap (at (set G (a / 2) x)) q ∙ get_or-set_same G (a / 2) x 0 (omega (arith, lu, K.few, H.thru)) ∙ here u q
            go u l (no q) = get_or-set_other G (a / 2) u x 0 q ∙ H.through u l ∙ sym (push1_aside r d a b ne (out u) (inn u) (inl (λ z. q (omega arith))) (inl (λ z. q (omega arith))))

        held_work : (u v x : ℕ) → u < n → v < n → a / 2 ≢ b / 2 → ((a ≡ out u) × (b ≡ inn v)) ⊎ ((a ≡ inn v) × (b ≡ out u)) → x ≡ gate (arc u v) (push1 r d a b (inn v) (out u))
            → Held arc job wide n (push1 r d a b) (set F (u * n + v) x) G
        held_work u v x lu lv e at-step here = record {
          size = omega (arith, H.size, length-set F (u * n + v) x);
          thru = H.thru;
          pair = λ i j li lj. pair' i j ∙ H.pair i j li lj;
          wait = λ i j li lj. go i j li lj (ℕ_discrete i u) (ℕ_discrete j v);
          through = through_kept e;
        }
          where
            away : (i j : ℕ) → (i ≢ u) ⊎ (j ≢ v) → ((a ≡ out u) × (b ≡ inn v)) ⊎ ((a ≡ inn v) × (b ≡ out u))
                → ((inn j ≢ a) ⊎ (out i ≢ b)) × ((inn j ≢ b) ⊎ (out i ≢ a))
            away i j (inl q) (inl k) = (inl (λ z. omega (arith, k.0)), inr (λ z. q (omega (arith, k.0))))
            away i j (inr q) (inl k) = (inl (λ z. omega (arith, k.0)), inl (λ z. q (omega (arith, k.1))))
            away i j (inl q) (inr k) = (inr (λ z. q (omega (arith, k.1))), inl (λ z. omega (arith, k.1)))
            away i j (inr q) (inr k) = (inl (λ z. q (omega (arith, k.0))), inl (λ z. omega (arith, k.1)))

            rest : (i j : ℕ) → i < n → j < n → (i ≢ u) ⊎ (j ≢ v) → at (set F (u * n + v) x) (i * n + j) ≡ gate (arc i j) (push1 r d a b (inn j) (out i))
            rest i j li lj o =
                let k = away i j o at-step in
                get_or-set_other F (u * n + v) (i * n + j) x 0 (λ z. let p = place i j u v lj lv z in by o p.0 p.1)
                ∙ H.wait i j li lj ∙ ap (gate (arc i j)) (sym (push1_aside r d a b ne (inn j) (out i) k.0 k.1))
              where
                by : (i ≢ u) ⊎ (j ≢ v) → i ≡ u → j ≡ v → ⊥
                by (inl q) y z = q y
                by (inr q) y z = q z

            go : (i j : ℕ) → i < n → j < n → Dec (i ≡ u) → Dec (j ≡ v) → at (set F (u * n + v) x) (i * n + j) ≡ gate (arc i j) (push1 r d a b (inn j) (out i))
            go i j li lj (no q) k = rest i j li lj (inl q)
            go i j li lj (yes p) (no q) = rest i j li lj (inr q)
            go i j li lj (yes p) (yes q) = rw (p, q) (get_or-set_same F (u * n + v) x 0 (omega (arith, H.size, digits_lt lu lv)) ∙ here)

        pub held_step : (F' G' : List ℕ) → Shifted n a b d F G F' G' → Held arc job wide n (push1 r d a b) F' G'
        held_step F' G' (drops e o f g) = rw (f, g) (held_thru (at G (a / 2) - d) e (λ u q.
            let s = held_sides some in
            omega (arith, H.through (a / 2) lu, room_at r (out (a / 2)) (inn (a / 2)) (out u) (inn u) (omega arith) (omega arith), push1_ahead r d a b ne (out u) (inn u) (omega arith) (omega arith))))
        held_step F' G' (rises e o f g) = rw (f, g) (held_thru (at G (a / 2) + d) e (λ u q.
            let s = held_sides some in
            omega (arith, H.through (a / 2) lu, room_at r (out (a / 2)) (inn (a / 2)) (out u) (inn u) (omega arith) (omega arith), push1_back r d a b ne (out u) (inn u) (omega arith) (omega arith))))
        held_step F' G' (along e o f g) = rw (f, g) (held_work (a / 2) (b / 2) (at F (a / 2 * n + b / 2) + d) lu lv e (inl (omega arith, omega (arith, s)))
            (omega (
              arith,
              H.wait (a / 2) (b / 2) lu lv,
              gate_on (arc (a / 2) (b / 2)) (r (inn (b / 2)) (out (a / 2))) t,
              gate_on (arc (a / 2) (b / 2)) (push1 r d a b (inn (b / 2)) (out (a / 2))) t,
              push1_back r d a b ne (inn (b / 2)) (out (a / 2)) (omega (arith, s)) (omega arith),
            )))
          where
            s : (a + b) % 2 ≡ 1
            s = held_sides some

            t : T (arc (a / 2) (b / 2))
            t = arc_on (a / 2) (b / 2) lu lv e (omega (arith, room_at r (out (a / 2)) (inn (b / 2)) a b (omega arith) (omega (arith, s))))
        held_step F' G' (against e o f g) = rw (f, g) (held_work (b / 2) (a / 2) (at F (b / 2 * n + a / 2) - d) lv lu e (inr (omega arith, omega (arith, s)))
            (omega (
              arith,
              H.wait (b / 2) (a / 2) lv lu,
              gate_on (arc (b / 2) (a / 2)) (r (inn (a / 2)) (out (b / 2))) t,
              gate_on (arc (b / 2) (a / 2)) (push1 r d a b (inn (a / 2)) (out (b / 2))) t,
              push1_ahead r d a b ne (inn (a / 2)) (out (b / 2)) (omega arith) (omega (arith, s)),
            )))
          where
            s : (a + b) % 2 ≡ 1
            s = held_sides some

            t : T (arc (b / 2) (a / 2))
            t = arc_on (b / 2) (a / 2) lv lu (λ z. e (sym z)) (omega (arith, room_at r (inn (a / 2)) (out (b / 2)) a b (omega arith) (omega (arith, s))))
