-- How many rounds there can be: each takes at least one from a number, the potential, that the capacities settle. Distances are those to the sink.
-- The potential adds up, over the steps a → b that have room or whose step back has, half of what N + 1 has above
--     the distance of b, where a → b has room now, and
--     one more than the distance of a, where it has none: it gets room again only from a path through b → a, and b is then one further off than a.
-- Assumes nothing.
--
--   Change N D r r'         what a round does to the rooms, D being the distances before it
--   round_change            a round does that
--   distance_grows          no round brings a node nearer
--   worth N x da db         what a step adds, x being its room, da and db its ends' distances
--   share N D r a b         the same, and 0 for a step that never has room
--   potential N t r         the whole
--   potential_falls         a round lowers it
--   rounds_bound            k rounds lower it by k or more
use mathlib.Core.Path.{◌≡◌, refl, sym, ap, subst}
use mathlib.Core.Logic.{◌⊎◌, inl, inr}
use mathlib.Core.Bool.{Bool}
use mathlib.Core.List.{List, [], ◌∷◌}
use Prim.Native.Nat.{ℕ, zero, suc, ◌+◌, ◌-◌, ◌/◌, ◌≤◌, ◌<◌}
use native.Mathlib.Decide.{dec_lt}
use native.Mathlib.Omega.{arith}
use lib.Dec.{T, ltb, lt→ltb, ltb→lt}
use Rattle.sums.specs.Sum.{gate}
use Rattle.sums.proofs.SumLaws.{gate_on, gate_mono}
use Rattle.sums.proofs.DoubleSums.{dsum, dsum_cong, dsum_strict}
use Rattle.walks.specs.Walk.{Walk}
use Rattle.walks.proofs.Distance.{near, dist, near_in, near_zero_eq, near_cases, dist_near, dist_bound, dist_step, dist_target}
use Rattle.network.specs.Rooms.{Room, step, pick}
use Rattle.network.specs.Paths.{Allows}
use Rattle.network.specs.Rounds.{Round, Rounds, none, more}
use Rattle.network.proofs.PathLaws.{Down}
use Rattle.network.proofs.PushLaws.{pick_on, pick_off, On, on_in, push_on, push_less, push_more, push_pair}
use Rattle.network.proofs.SameRooms.{Same, dist_same}
use Rattle.network.proofs.RoundLaws.{round_down}

pub record Change (N : ℕ) (D : ℕ → ℕ) (r r' : Room) : Type 0 where
  -- a room grows only where the step leads one further off
  pub less : (x y : ℕ) → x < N → y < N → (r' x y ≤ r x y) ⊎ (D y ≡ suc (D x))
  -- and falls only where it leads one nearer
  pub grown : (x y : ℕ) → x < N → y < N → (r x y ≤ r' x y) ⊎ (D x ≡ suc (D y))
  pub pair : (x y : ℕ) → x < N → y < N → r' x y + r' y x ≡ r x y + r y x
  -- some step loses all its room
  pub full : (x : ℕ) × (y : ℕ) × (x < N) × (y < N) × (0 < r x y) × (r' x y ≡ 0)

on_room : (r : Room) (N a t : ℕ) (p : List ℕ) (x y : ℕ) → Walk (step r) N a t p → On a p x y → 0 < r x y
on_room r N a t [] x y w o = absurd o
on_room r N a t (b ∷ p) x y w (inl o) = rw (o.0, o.1) (ltb→lt 0 (r a b) w.1)
on_room r N a t (b ∷ p) x y w (inr o) = on_room r N b t p x y w.2 o

-- every step allows one more, or some step allows just d
tight_or_more : (r : Room) (d a : ℕ) (p : List ℕ) → Allows r d a p → Allows r (suc d) a p ⊎ ((x : ℕ) × (y : ℕ) × On a p x y × (r x y ≡ d))
tight_or_more r d a [] h = inl tt
tight_or_more r d a (b ∷ p) h = go (dec_lt d (r a b)) (tight_or_more r d b p h.1)
  where
    go : Dec (d < r a b) → Allows r (suc d) b p ⊎ ((x : ℕ) × (y : ℕ) × On b p x y × (r x y ≡ d))
        → ((suc d ≤ r a b) × Allows r (suc d) b p) ⊎ ((x : ℕ) × (y : ℕ) × (((x ≡ a) × (y ≡ b)) ⊎ On b p x y) × (r x y ≡ d))
    go (no q) rest = inr (a, b, inl (refl, refl), (let z : d ≤ r a b = h.0 in omega arith))
    go (yes q) (inl rest) = inl (q, rest)
    go (yes q) (inr w) = inr (w.0, w.1, inr w.2, w.3)

pub round_change : (N s t : ℕ) (r r' : Room) → s < N → Round N s t r r' → Change N (dist (step r) N t) r r'
round_change N s t r r' l k = record {
  less = λ x y lx ly. subst (λ (z : ℕ). (z ≤ r x y) ⊎ (D y ≡ suc (D x))) (sym (k.after x y lx ly)) (push_less N D r d s p g x y);
  grown = λ x y lx ly. subst (λ (z : ℕ). (r x y ≤ z) ⊎ (D x ≡ suc (D y))) (sym (k.after x y lx ly)) (push_more N D r d s p g x y);
  pair = λ x y lx ly. omega (arith, k.after x y lx ly, k.after y x ly lx, push_pair N D r d s p g k.most.allowed x y);
  full = go (tight_or_more r d s p k.most.allowed);
}
  where
    D : ℕ → ℕ
    D = dist (step r) N t

    p : List ℕ
    p = k.path

    d : ℕ
    d = k.amount

    g : Down N D s p
    g = round_down N s t r r' l k

    go : Allows r (suc d) s p ⊎ ((x : ℕ) × (y : ℕ) × On s p x y × (r x y ≡ d)) → (x : ℕ) × (y : ℕ) × (x < N) × (y < N) × (0 < r x y) × (r' x y ≡ 0)
    go (inl h) = absurd (omega (arith, k.most.largest (suc d) h))
    go (inr w) =
        let b = on_in N D s p w.0 w.1 l g w.2 in (
          w.0,
          w.1,
          b.0,
          b.1,
          on_room r N s t p w.0 w.1 k.taken.walk w.2,
          omega (arith, k.after w.0 w.1 b.0 b.1, push_on N D r d s p w.0 w.1 g w.2, w.3),
        )

-- ---- distances never fall

module _ (N t : ℕ) (r r' : Room) (ch : Change N (dist (step r) N t) r r') where
  no_closer : (k a : ℕ) → T (near (step r') N t k a) → dist (step r) N t a ≤ k
  no_closer zero a h =
      let e = near_zero_eq (step r') N t a h in
      let l = near_in (step r') N t 0 a h in
      omega (arith, ap (λ (x : ℕ). dist (step r) N t x) e, dist_target (step r) N t (subst (λ (x : ℕ). x < N) e l))
  no_closer (suc k) a h = go (λ x. no_closer k a x) (λ b x. no_closer k b x) (near_cases (step r') N t k a h)
    where
      go : (T (near (step r') N t k a) → dist (step r) N t a ≤ k) → ((b : ℕ) → T (near (step r') N t k b) → dist (step r) N t b ≤ k)
          → T (near (step r') N t k a) ⊎ ((b : ℕ) × (b < N) × T (step r' a b) × T (near (step r') N t k b)) → dist (step r) N t a ≤ suc k
      go f g (inl x) = omega (arith, f x)
      go f g (inr w) = by (dec_lt 0 (r a w.0)) (ch.less a w.0 (near_in (step r') N t (suc k) a h) w.1)
        where
          by : Dec (0 < r a w.0) → (r' a w.0 ≤ r a w.0) ⊎ (dist (step r) N t w.0 ≡ suc (dist (step r) N t a)) → dist (step r) N t a ≤ suc k
          by (yes q) c = omega (arith, dist_step (step r) N t a w.0 (near_in (step r') N t (suc k) a h) (lt→ltb 0 (r a w.0) q), g w.0 w.3)
          by (no q) (inl c) = absurd (omega (arith, ltb→lt 0 (r' a w.0) w.2))
          by (no q) (inr c) = omega (arith, g w.0 w.3)

  pub distance_grows : (a : ℕ) → dist (step r) N t a ≤ dist (step r') N t a
  distance_grows a = go (dec_lt (dist (step r') N t a) N)
    where
      go : Dec (dist (step r') N t a < N) → dist (step r) N t a ≤ dist (step r') N t a
      go (yes h) = no_closer (dist (step r') N t a) a (dist_near (step r') N t a h)
      go (no h) = omega (arith, dist_bound (step r) N t a)

-- ---- the number that falls

unfoldable pub worth : ℕ → ℕ → ℕ → ℕ → ℕ
worth N x da db = (suc N - pick (ltb 0 x) db (suc da)) / 2

worth_room : (N x da db : ℕ) → 0 < x → worth N x da db ≡ (suc N - db) / 2
unfolding worth
worth_room N x da db h = ap (λ (z : ℕ). (suc N - z) / 2) (pick_on (ltb 0 x) db (suc da) (lt→ltb 0 x h))

worth_none : (N x da db : ℕ) → x ≡ 0 → worth N x da db ≡ (suc N - suc da) / 2
unfolding worth
worth_none N x da db h = ap (λ (z : ℕ). (suc N - z) / 2) (pick_off (ltb 0 x) db (suc da) (λ t. let l = ltb→lt 0 x t in omega arith))

worth_falls : (N x x' da db da' db' : ℕ) → da ≤ da' → db ≤ db' → (x' ≤ x) ⊎ (db ≡ suc da) → (x ≤ x') ⊎ (da ≡ suc db) → worth N x' da' db' ≤ worth N x da db
worth_falls N x x' da db da' db' ha hb lo hi = go (dec_lt 0 x) (dec_lt 0 x') lo hi
  where
    go : Dec (0 < x) → Dec (0 < x') → (x' ≤ x) ⊎ (db ≡ suc da) → (x ≤ x') ⊎ (da ≡ suc db) → worth N x' da' db' ≤ worth N x da db
    go (yes p) (yes q) u v = omega (arith, worth_room N x da db p, worth_room N x' da' db' q)
    go (no p) (no q) u v = omega (arith, worth_none N x da db (omega arith), worth_none N x' da' db' (omega arith))
    go (yes p) (no q) u (inl v) = absurd (omega arith)
    go (yes p) (no q) u (inr v) = omega (arith, worth_room N x da db p, worth_none N x' da' db' (omega arith))
    go (no p) (yes q) (inl u) v = absurd (omega arith)
    go (no p) (yes q) (inr u) v = omega (arith, worth_none N x da db (omega arith), worth_room N x' da' db' q)

-- the step that loses all its room
worth_full : (N x x' da db da' db' : ℕ) → da ≤ da' → da ≤ N → 0 < x → x' ≡ 0 → da ≡ suc db → worth N x' da' db' < worth N x da db
worth_full N x x' da db da' db' ha hn p q e = omega (arith, worth_room N x da db p, worth_none N x' da' db' q)

unfoldable pub share : ℕ → (ℕ → ℕ) → Room → ℕ → ℕ → ℕ
unfolding worth
share N D r a b = gate (ltb 0 (r a b + r b a)) (worth N (r a b) (D a) (D b))

unfoldable pub potential : ℕ → ℕ → Room → ℕ
potential N t r = dsum N (share N (dist (step r) N t) r)

potential_same : (N t : ℕ) (r q : Room) → Same N r q → potential N t r ≡ potential N t q
unfolding potential share
potential_same N t r q h = dsum_cong N _ _ (λ i j li lj.
    cc (h i j li lj, h j i lj li, dist_same N r q h t i, dist_same N r q h t j))

pub potential_falls : (N t : ℕ) (r r' : Room) → Change N (dist (step r) N t) r r' → potential N t r' < potential N t r
unfolding potential share
potential_falls N t r r' ch =
    dsum_strict N (share N (dist (step r') N t) r') (share N (dist (step r) N t) r) a b la lb
    (λ i j li lj. each i j li lj)
    strict
  where
    w : (x : ℕ) × (y : ℕ) × (x < N) × (y < N) × (0 < r x y) × (r' x y ≡ 0)
    w = ch.full

    a : ℕ
    a = w.0

    b : ℕ
    b = w.1

    la : a < N
    la = w.2

    lb : b < N
    lb = w.3

    up : (x : ℕ) → dist (step r) N t x ≤ dist (step r') N t x
    up = distance_grows N t r r' ch

    alive : (i j : ℕ) → i < N → j < N → ltb 0 (r' i j + r' j i) ≡ ltb 0 (r i j + r j i)
    alive i j li lj = ap (λ (z : ℕ). ltb 0 z) (ch.pair i j li lj)

    each : (i j : ℕ) → i < N → j < N → share N (dist (step r') N t) r' i j ≤ share N (dist (step r) N t) r i j
    each i j li lj =
        subst (λ (c : Bool). gate c (worth N (r' i j) (dist (step r') N t i) (dist (step r') N t j)) ≤ share N (dist (step r) N t) r i j) (sym (alive i j li lj))
        (gate_mono (ltb 0 (r i j + r j i)) (worth N (r' i j) (dist (step r') N t i) (dist (step r') N t j)) (worth N (r i j) (dist (step r) N t i) (dist (step r) N t j))
        (worth_falls N (r i j) (r' i j) (dist (step r) N t i) (dist (step r) N t j) (dist (step r') N t i) (dist (step r') N t j) (up i) (up j) (ch.less i j li lj) (ch.grown i j li lj)))

    on : T (ltb 0 (r a b + r b a))
    on = lt→ltb 0 (r a b + r b a) (omega (arith, w.4))

    nearer : (r a b ≤ r' a b) ⊎ (dist (step r) N t a ≡ suc (dist (step r) N t b)) → dist (step r) N t a ≡ suc (dist (step r) N t b)
    nearer (inl h) = absurd (omega (arith, w.4, w.5))
    nearer (inr h) = h

    strict : share N (dist (step r') N t) r' a b < share N (dist (step r) N t) r a b
    strict =
        let f = worth_full N (r a b) (r' a b) (dist (step r) N t a) (dist (step r) N t b) (dist (step r') N t a) (dist (step r') N t b) (up a) (dist_bound (step r) N t a) w.4 w.5 (nearer (ch.grown a b la lb)) in
        let g₁ = gate_on (ltb 0 (r a b + r b a)) (worth N (r a b) (dist (step r) N t a) (dist (step r) N t b)) on in
        let g₂ = gate_on (ltb 0 (r' a b + r' b a)) (worth N (r' a b) (dist (step r') N t a) (dist (step r') N t b)) (subst T (sym (alive a b la lb)) on) in
        omega (arith, f, g₁, g₂)

pub rounds_bound : (N s t : ℕ) (c : Room) (k : ℕ) (r : Room) → s < N → Rounds N s t c k r → k + potential N t r ≤ potential N t c
rounds_bound N s t c k r l (none f) = omega (arith, potential_same N t r c f)
rounds_bound N s t c k r l (more {k = j} {r = r₀} x u) =
    omega (arith, rounds_bound N s t c j r₀ l x, potential_falls N t r₀ r (round_change N s t r₀ r l u))
