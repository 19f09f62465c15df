-- One round and many: the rooms before it settle a round, so k rounds from given capacities lead to one state
-- (document 01: "The count in the result is the number of rounds made by this rule").
-- Assumes nothing.
--
--   left_or_stuck       a path is left, or none
--   round_down          on the path of a round each step leads one nearer
--   round_exists        where a path is left a round can be made
--   round_unique        two rounds from the same rooms lead to the same rooms
--   rounds_unique       and so do k rounds
--   rounds_before       after fewer rounds a path was left
--   rounds_upto         every smaller number of rounds is made on the way
--   stuck_last          no round is made once no path is left
--   count_unique        the number of rounds after which no path is left is one
--   rounds_pair         after any rounds the room of a step and the room back add up to their capacities
use mathlib.Core.Path.{◌≡◌, refl, sym, ◌∙◌, subst}
use mathlib.Core.Logic.{◌⊎◌, inl, inr, ◌≢◌}
use mathlib.Core.List.{List, [], ◌∷◌}
use Prim.Native.Nat.{ℕ, ◌+◌, ◌≤◌, ◌<◌}
use native.Mathlib.Nat.{not-suc-le-zero}
use native.Mathlib.Decide.{ℕ_discrete, dec_lt}
use native.Mathlib.Omega.{arith}
use Rattle.walks.specs.Walk.{Reaches}
use Rattle.walks.proofs.Distance.{dist, dist_walk, walk_dist}
use Rattle.network.specs.Rooms.{Room, step, push}
use Rattle.network.specs.Paths.{Taken, Most}
use Rattle.network.specs.Rounds.{Round, Rounds, none, more, Stuck}
use Rattle.network.proofs.PathLaws.{Down, taken_exists, taken_length, taken_unique, walk_down, most_exists, most_unique}
use Rattle.network.proofs.PushLaws.{push_pair}
use Rattle.network.proofs.SameRooms.{Same, reaches_same, taken_same, most_same, push_same}

pub left_or_stuck : (N s t : ℕ) (r : Room) → s < N → Reaches (step r) N s t ⊎ Stuck N s t r
left_or_stuck N s t r l = go (dec_lt (dist (step r) N t s) N)
  where
    go : Dec (dist (step r) N t s < N) → Reaches (step r) N s t ⊎ Stuck N s t r
    go (yes h) = let w = dist_walk (step r) N t (dist (step r) N t s) s refl h in inl (record { path = w.0; walk = w.1 })
    go (no h) = inr (λ p w. h (walk_dist (step r) N t s p l w))

-- ---- one round

pub round_down : (N s t : ℕ) (r r' : Room) → s < N → (k : Round N s t r r') → Down N (dist (step r) N t) s k.path
round_down N s t r r' l k = walk_down r N t s k.path l k.taken.walk (taken_length r N t s l k.path k.taken)

pub round_exists : (N s t : ℕ) (r : Room) → s < N → s ≢ t → Reaches (step r) N s t → (r' : Room) × Round N s t r r'
round_exists N s t r l ne h = let k = taken_exists r N t s l h in go k.0 k.1
  where
    go : (p : List ℕ) → Taken r N s t p → (r' : Room) × Round N s t r r'
    go [] k = absurd (ne k.walk)
    go (b ∷ p) k =
        let m = most_exists r s b p in
        (push r m.0 s (b ∷ p), record { path = b ∷ p; amount = m.0; taken = k; most = m.1; after = λ x y lx ly. refl })

pub round_unique : (N s t : ℕ) (r q r' q' : Room) → s < N → Same N r q → Round N s t r r' → Round N s t q q' → Same N r' q'
round_unique N s t r q r' q' l h k m = go (taken_unique q N t s l k.path m.path (taken_same N r q h s t k.path l k.taken) m.taken)
  where
    go : k.path ≡ m.path → Same N r' q'
    go e a b la lb =
        let most : Most q s m.path k.amount
        = subst (λ (z : List ℕ). Most q s z k.amount) e (most_same N r q h (step r) s t k.path k.amount l k.taken.walk k.most) in
        let same : k.amount ≡ m.amount = most_unique q s m.path k.amount m.amount most m.most in
        k.after a b la lb
        ∙ push_same N (step r) r q k.amount s t k.path h l k.taken.walk a b la lb
        ∙ cc (e, same)
        ∙ sym (m.after a b la lb)

-- ---- many

pub rounds_unique : (N s t : ℕ) (c : Room) (k : ℕ) (r q : Room) → s < N → Rounds N s t c k r → Rounds N s t c k q → Same N r q
rounds_unique N s t c k r q l (none f) (none g) = λ a b la lb. f a b la lb ∙ sym (g a b la lb)
rounds_unique N s t c k r q l (more {k = j} {r = r₀} x u) (more {r = q₀} y v) = round_unique N s t r₀ q₀ r q l (rounds_unique N s t c j r₀ q₀ l x y) u v

pub rounds_before : (N s t : ℕ) (c : Room) (k : ℕ) (r : Room) → Rounds N s t c k r → (j : ℕ) → j < k
    → (q : Room) × Rounds N s t c j q × Reaches (step q) N s t
rounds_before N s t c k r (none f) j h = absurd (not-suc-le-zero h)
rounds_before N s t c k r (more {k = i} {r = r₀} x u) j h = go (λ m. rounds_before N s t c i r₀ x j m) (ℕ_discrete j i)
  where
    go : (j < i → (q : Room) × Rounds N s t c j q × Reaches (step q) N s t) → Dec (j ≡ i) → (q : Room) × Rounds N s t c j q × Reaches (step q) N s t
    go rec (yes e) = (r₀, subst (λ (z : ℕ). Rounds N s t c z r₀) (sym e) x, record { path = u.path; walk = u.taken.walk })
    go rec (no e) = rec (omega arith)

pub rounds_upto : (N s t : ℕ) (c : Room) (k : ℕ) (r : Room) → Rounds N s t c k r → (j : ℕ) → j ≤ k → (q : Room) × Rounds N s t c j q
rounds_upto N s t c k r x j h = go (ℕ_discrete j k)
  where
    go : Dec (j ≡ k) → (q : Room) × Rounds N s t c j q
    go (yes e) = (r, subst (λ (z : ℕ). Rounds N s t c z r) (sym e) x)
    go (no e) = let w = rounds_before N s t c k r x j (omega arith) in (w.0, w.1)

pub stuck_last : (N s t : ℕ) (c : Room) (j k : ℕ) (q r : Room) → s < N → Rounds N s t c j q → Stuck N s t q → Rounds N s t c k r → k ≤ j
stuck_last N s t c j k q r l x e y = go (dec_lt j k)
  where
    go : Dec (j < k) → k ≤ j
    go (no h) = omega arith
    go (yes h) =
        let w = rounds_before N s t c k r y j h in
        let p = reaches_same N w.0 q (rounds_unique N s t c j w.0 q l w.1 x) s t l w.2 in
        absurd (e p.path p.walk)

pub count_unique : (N s t : ℕ) (c : Room) (j k : ℕ) (q r : Room) → s < N → Rounds N s t c j q → Stuck N s t q → Rounds N s t c k r → Stuck N s t r → j ≡ k
count_unique N s t c j k q r l x e y f = omega (arith, stuck_last N s t c j k q r l x e y, stuck_last N s t c k j r q l y f x)

pub rounds_pair : (N s t : ℕ) (c : Room) (k : ℕ) (r : Room) → s < N → Rounds N s t c k r → (x y : ℕ) → x < N → y < N → r x y + r y x ≡ c x y + c y x
rounds_pair N s t c k r l (none f) x y lx ly = omega (arith, f x y lx ly, f y x ly lx)
rounds_pair N s t c k r l (more {k = j} {r = r₀} z u) x y lx ly =
    omega (
      arith,
      u.after x y lx ly,
      u.after y x ly lx,
      push_pair N (dist (step r₀) N t) r₀ u.amount s u.path (round_down N s t r₀ r l u) u.most.allowed x y,
      rounds_pair N s t c j r₀ l z x y lx ly,
    )
