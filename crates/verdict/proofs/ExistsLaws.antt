-- Every accepted snapshot has a verdict, and every call an answer, whatever the allowance: the statements can always be met.
-- Assumes nothing.
--
--   verdict_exists    for at most 64 jobs of which none waits for itself there is a verdict; with `verdict_unique`: exactly one
--   verdict_rounds    the rounds that a verdict counts lead to some rooms
--   flows_exist       so there is a work list that holds their flows
--   call_exists       every call has an answer and a work list; with `call_unique`: exactly one
use mathlib.Core.Path.{◌≡◌, refl, ap, ◌∙◌}
use native.Mathlib.Nat.{le_refl, suc-mul, mul-le-mul, mul-add-div_right, mul-add-mod_self_right, div-eq_of_lt, mod-eq_of_lt}
use lib.ListN.{length, get_or}
use Rattle.walks.proofs.Distance.{Patched, patched_exists}
use Rattle.graph.specs.Waits.{waits}
use Rattle.network.specs.Rooms.{Room}
use Rattle.network.specs.Rounds.Rounds.{none as start}
use Rattle.network.specs.Costs.{cost_at}
use Rattle.checks.specs.Refusals.{Faultless, Due}
use Rattle.checks.specs.Refusals.Due.{refused, none as nothing}
use Rattle.checks.proofs.RefusalLaws.{faultless_few, faultless_job, faultless_apart, faultless_size}
use Rattle.checks.proofs.DueLaws.{due_exists}
use Rattle.verdict.specs.declared.Outcome.TheVariants.{Wait, AbortT, AbortOthers, NotYet}
use Rattle.verdict.specs.declared.Decision.{Decision}
use Rattle.verdict.specs.Results.{Answer}
use Rattle.verdict.specs.Results.Answer.{Refused, Decided}
use Rattle.verdict.specs.Called.{Flows, Called}
use Rattle.verdict.specs.Called.Called.{refuses, answers}
use mathlib.Core.Bool.{Bool, true, false}
use mathlib.Core.List.{List}
use Prim.Native.Nat.{ℕ, ◌+◌, ◌*◌, ◌/◌, ◌%◌, ◌^◌, ◌<◌, ◌≤◌}
use native.Mathlib.Omega.{arith}
use native.Mathlib.Decide.{dec_lt, dec_le}
use lib.Dec.{T}
use Rattle.bits.proofs.Collected.{mask_exists}
use Rattle.graph.specs.Rings.{Ring, RingThrough}
use Rattle.graph.specs.Rings.RingThrough.{some, none}
use Rattle.network.specs.Arcs.{inn, out, flow_on, within, capacity, wait_count}
use Rattle.network.specs.Sets.{Best, price}
use Rattle.network.proofs.SetLaws.{in_x, inx_exact}
use Rattle.network.proofs.Counted.{Counted}
use Rattle.network.proofs.Tally.{capacity_counted}
use Rattle.network.proofs.BestLaws.{best_exists}
use Rattle.network.proofs.Computed.{ringed, ringed_right}
use Rattle.verdict.specs.Answers.{outcome_number, After, Verdict}
use Rattle.verdict.specs.Answers.Verdict.{stays, itself, others, unfinished}

module _ (w : ℕ → ℕ → Bool) (n τ : ℕ) (cost : ℕ → ℕ) (few : n ≤ 64) (lτ : τ < n) (apart : (u : ℕ) → u < n → T (w u u) → ⊥) (a : ℕ) where
  abbrev Some : Type 0
  Some = (o : ℕ) × (p : ℕ) × (k : ℕ) × (v : ℕ) × Verdict w n τ cost a o p k v

  z : (K : ℕ) × Counted (2 * n) (out τ) (inn τ) (capacity w (in_x w n τ) n τ cost) K × (K ≤ 2 * n * (wait_count w n + n))
  z = capacity_counted w (in_x w n τ) n τ cost lτ

  -- all rounds fit the allowance
  settled : (p : List ℕ) → Ring w n τ p → z.0 ≤ a → (M : ℕ → Bool) → Best w n τ cost M → Dec (cost τ < price n cost M) → Some
  settled p g l M b (yes c) =
      (1, cost τ, z.0, 2 ^ τ, itself p g z.0 z.1.room (record { x = in_x w n τ; exact = inx_exact w n τ lτ; made = z.1.made }) z.1.ended l M b c)
  settled p g l M b (no c) =
      let v = mask_exists n M few in
      (2, price n cost M, z.0, v.0, others p g z.0 z.1.room (record { x = in_x w n τ; exact = inx_exact w n τ lτ; made = z.1.made }) z.1.ended l M b (omega arith) v.0 v.1)

  ringing : (p : List ℕ) → Ring w n τ p → Dec (z.0 ≤ a) → Some
  ringing p g (yes l) = let b = best_exists w n τ cost lτ apart in settled p g l b.0 b.1 (dec_lt (cost τ) (price n cost b.0))
  ringing p g (no l) =
      let r = z.1.upto a (omega arith) in
      (3, 0, a, 0, unfinished p g r.0 (record { x = in_x w n τ; exact = inx_exact w n τ lτ; made = r.1 }) (z.1.before a r.0 r.1 (omega arith)))

  pub verdict_exists : (o : ℕ) × (p : ℕ) × (k : ℕ) × (v : ℕ) × Verdict w n τ cost a o p k v
  verdict_exists = go (ringed w n τ) (ringed_right w n τ)
    where
      go : (b : Bool) → RingThrough w n τ b → Some
      go true (some p g) = ringing p g (dec_le z.0 a)
      go false (none f) = (0, 0, 0, 0, stays f)

-- ---- the call

verdict_rounds : (w : ℕ → ℕ → Bool) (n τ : ℕ) (cost : ℕ → ℕ) (a o p k v : ℕ) → τ < n → Verdict w n τ cost a o p k v → (r : Room) × After w n τ cost k r
verdict_rounds w n τ cost a o p k v lτ (stays f) = (_, record { x = in_x w n τ; exact = inx_exact w n τ lτ; made = start (λ a b la lb. refl) })
verdict_rounds w n τ cost a o p k v lτ (itself y g j r h s l M b c) = (r, h)
verdict_rounds w n τ cost a o p k v lτ (others y g j r h s l M b c z m) = (r, h)
verdict_rounds w n τ cost a o p k v lτ (unfinished y g r h m) = (r, h)

module _ (rows costs : List ℕ) (τ : ℕ) where
  pub flows_exist : (k : ℕ) (before : List ℕ) (r : Room) → length rows * length rows ≤ length before → After (waits rows) (length rows) τ (cost_at costs) k r
      → (after : List ℕ) × Flows rows costs τ k before after
  flows_exist k before r room a =
      let z = patched_exists (length rows * length rows) value before room in
      (z.0, record { room = r; rounds = a; flow = λ u v lu lv. flow z.0 z.1 u v lu lv; size = z.1.size; rest = z.1.rest })
    where
      value : ℕ → ℕ
      value i = flow_on (within (waits rows) a.x) r (i / length rows) (i % length rows)

      flow : (after : List ℕ) → Patched (length rows * length rows) value before after
          → (u v : ℕ) → u < length rows → v < length rows → get_or after (u * length rows + v) 0 ≡ flow_on (within (waits rows) a.x) r u v
      flow after P u v lu lv =
          let l : u * length rows + v < length rows * length rows = omega (arith, suc-mul u (length rows), mul-le-mul lu (le_refl (length rows))) in
          let p : (u * length rows + v) / length rows ≡ u = omega (arith, mul-add-div_right (let q : 0 < length rows = omega arith in q) u v, div-eq_of_lt lv) in
          let q : (u * length rows + v) % length rows ≡ v = mul-add-mod_self_right u (length rows) v ∙ mod-eq_of_lt lv in
          P.first (u * length rows + v) l
          ∙ ap (λ (z : ℕ). flow_on (within (waits rows) a.x) r z ((u * length rows + v) % length rows)) p
          ∙ ap (λ (z : ℕ). flow_on (within (waits rows) a.x) r u z) q

  -- a verdict as a decision
  decided : (a o p k v : ℕ) → Verdict (waits rows) (length rows) τ (cost_at costs) a o p k v
      → (d : Decision) × Verdict (waits rows) (length rows) τ (cost_at costs) a (outcome_number d.outcome) d.price d.rounds d.victims
  decided a o p k v (stays f) = (record { outcome = Wait; price = 0; rounds = 0; victims = 0 }, stays f)
  decided a o p k v (itself y g j r h s l M b c) = (record { outcome = AbortT; price = cost_at costs τ; rounds = j; victims = 2 ^ τ }, itself y g j r h s l M b c)
  decided a o p k v (others y g j r h s l M b c z m) = (record { outcome = AbortOthers; price = price (length rows) (cost_at costs) M; rounds = j; victims = z }, others y g j r h s l M b c z m)
  decided a o p k v (unfinished y g r h m) = (record { outcome = NotYet; price = 0; rounds = a; victims = 0 }, unfinished y g r h m)

  answered : (a : ℕ) (before : List ℕ) → Faultless rows costs τ (length before) → (d : Decision) × (after : List ℕ) × Called rows costs τ a before (Decided d) after
  answered a before f =
      let lτ = faultless_job rows costs τ (length before) f in
      let z = verdict_exists (waits rows) (length rows) τ (cost_at costs) (faultless_few rows costs τ (length before) f) lτ (λ u l t. faultless_apart rows costs τ (length before) f u t) a in
      let d = decided a z.0 z.1 z.2 z.3 z.4 in
      let r = verdict_rounds (waits rows) (length rows) τ (cost_at costs) a _ _ _ _ lτ d.1 in
      let F = flows_exist d.0.rounds before r.0 (faultless_size rows costs τ (length before) f) r.1 in
      (d.0, F.0, answers d.0 F.0 f d.1 F.1)

  pub call_exists : (a : ℕ) (before : List ℕ) → (x : Answer) × (after : List ℕ) × Called rows costs τ a before x after
  call_exists a before = go (due_exists rows costs τ (length before)).0 (due_exists rows costs τ (length before)).1
    where
      go : (k : ℕ) → Due rows costs τ (length before) k → (x : Answer) × (after : List ℕ) × Called rows costs τ a before x after
      go k (refused j r) = (Refused j, before, refuses j r)
      go k (nothing f) = let d = answered a before f in (Decided d.0, d.1, d.2)
