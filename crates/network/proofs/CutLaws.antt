-- Cuts: the room of all steps that lead into a set of nodes. One equation holds for every set and any rounds; duality, conservation and the tie rule are read off it
-- by choosing the set. Document 01 has no cuts: they stand between its rounds and its sets of jobs.
-- Assumes nothing.
--
--   cut N R r             the room of the steps from outside the set R into R
--   cut_push1, cut_push   how a push changes it
--   Carried N s t c r v   v was pushed from s to t: the room across each cut is short of the capacity by what it carries of v
--   rounds_carried        so it is after any rounds
--   cut_shut              no room across: no walk leads into R
--   carried_cut           where no room is left into R, which has t and not s, what was pushed is R's capacity
use mathlib.Core.Path.{◌≡◌, refl, sym, ap, subst}
use mathlib.Core.Logic.{◌⊎◌, inl, inr, ◌≢◌}
use mathlib.Core.Bool.{Bool, true, false, not}
use mathlib.Core.List.{List, [], ◌∷◌}
use Prim.Native.Nat.{ℕ, ◌+◌, ◌-◌, ◌≤◌, ◌<◌}
use native.Mathlib.Omega.{arith}
use lib.Dec.{T, ltb→lt, not_T, T_not}
use Rattle.sums.specs.Tests.{both}
use Rattle.sums.specs.Sum.{gate}
use Rattle.sums.proofs.TestLaws.{both_intro, tested}
use Rattle.sums.proofs.SumLaws.{gate_on, gate_off}
use Rattle.sums.proofs.DoubleSums.{dsum, dsum_cong, dsum_point, dsum_term}
use Rattle.walks.specs.Walk.{Walk}
use Rattle.walks.proofs.Distance.{dist}
use Rattle.network.specs.Rooms.{Room, step, upd, push1, push}
use Rattle.network.specs.Paths.{Allows}
use Rattle.network.specs.Rounds.{Rounds, none, more}
use Rattle.network.proofs.PathLaws.{Down}
use Rattle.network.proofs.PushLaws.{upd_at, upd_other, last_of, walk_last, down_apart, allows_later}
use Rattle.network.proofs.SameRooms.{Same}
use Rattle.network.proofs.RoundLaws.{round_down}

unfoldable pub cut : ℕ → (ℕ → Bool) → Room → ℕ
cut N R r = dsum N (λ x y. gate (both (not (R x)) (R y)) (r x y))

gate_less : (c : Bool) (x d : ℕ) → d ≤ x → gate c (x - d) + gate c d ≡ gate c x + 0
gate_less true x d h = omega arith
gate_less false x d h = refl

gate_more : (c : Bool) (x d : ℕ) → gate c (x + d) + 0 ≡ gate c x + gate c d
gate_more true x d = omega arith
gate_more false x d = refl

gate_add : (b : Bool) (x y : ℕ) → gate b (x + y) ≡ gate b x + gate b y
gate_add true x y = refl
gate_add false x y = refl

gate_zero : (b : Bool) → gate b 0 ≡ 0
gate_zero true = refl
gate_zero false = refl

-- a step into R and the step back, at the four ways in which its ends may lie
crossing : (p q : Bool) (d : ℕ) → gate (both (not q) p) d + gate (not p) d ≡ gate (both (not p) q) d + gate (not q) d
crossing true true d = refl
crossing true false d = omega arith
crossing false true d = omega arith
crossing false false d = refl

pub cut_push1 : (N : ℕ) (R : ℕ → Bool) (r : Room) (d a b : ℕ) → a < N → b < N → a ≢ b → d ≤ r a b
    → cut N R (push1 r d a b) + gate (not (R a)) d ≡ cut N R r + gate (not (R b)) d
unfolding cut push1
cut_push1 N R r d a b la lb ne h =
    let mid = upd r a b (r a b - d) in
    let e₁ : upd r a b (r a b - d) a b ≡ r a b - d = upd_at r a b (r a b - d) a b refl refl in
    let e₂ : upd r a b (r a b - d) b a ≡ r b a = upd_other r a b (r a b - d) b a (inl (λ q. ne (sym q))) in
    let s₁ : dsum N (λ x y. gate (both (not (R x)) (R y)) (mid x y)) + gate (both (not (R a)) (R b)) d ≡ dsum N (λ x y. gate (both (not (R x)) (R y)) (r x y)) + 0
    = dsum_point N (λ x y. gate (both (not (R x)) (R y)) (mid x y)) (λ x y. gate (both (not (R x)) (R y)) (r x y)) a b (gate (both (not (R a)) (R b)) d) 0 la lb
    (λ i j li lj o. ap (λ (z : ℕ). gate (both (not (R i)) (R j)) z) (upd_other r a b (r a b - d) i j o))
    (subst (λ (z : ℕ). gate (both (not (R a)) (R b)) z + gate (both (not (R a)) (R b)) d ≡ gate (both (not (R a)) (R b)) (r a b) + 0) (sym e₁)
    (gate_less (both (not (R a)) (R b)) (r a b) d h)) in
    let s₂ : dsum N (λ x y. gate (both (not (R x)) (R y)) (upd mid b a (r b a + d) x y)) + 0 ≡ dsum N (λ x y. gate (both (not (R x)) (R y)) (mid x y)) + gate (both (not (R b)) (R a)) d
    = dsum_point N (λ x y. gate (both (not (R x)) (R y)) (upd mid b a (r b a + d) x y)) (λ x y. gate (both (not (R x)) (R y)) (mid x y)) b a 0 (gate (both (not (R b)) (R a)) d) lb la
    (λ i j li lj o. ap (λ (z : ℕ). gate (both (not (R i)) (R j)) z) (upd_other mid b a (r b a + d) i j o))
    (cc (upd_at mid b a (r b a + d) b a refl refl, e₂, gate_more (both (not (R b)) (R a)) (r b a) d)) in
    omega (arith, s₁, s₂, crossing (R a) (R b) d)

-- along a path from outside R into R it falls by d
pub cut_push : (N : ℕ) (D : ℕ → ℕ) (R : ℕ → Bool) (r : Room) (d a : ℕ) (p : List ℕ) → a < N → Down N D a p → Allows r d a p
    → cut N R (push r d a p) + gate (not (R a)) d ≡ cut N R r + gate (not (R (last_of a p))) d
unfolding push last_of
cut_push N D R r d a [] l g h = refl
cut_push N D R r d a (b ∷ p) l g h =
    let one = cut_push1 N R r d a b l g.0 (down_apart N D a b g.1) h.0 in
    let rest = cut_push N D R (push1 r d a b) d b p g.0 g.2 (allows_later N D r d a b g.1 b p (let f = g.1 in omega arith) g.2 h.1) in
    omega (arith, one, rest)

cut_same : (N : ℕ) (R : ℕ → Bool) (r q : Room) → Same N r q → cut N R r ≡ cut N R q
unfolding cut
cut_same N R r q h = dsum_cong N _ _ (λ i j li lj. ap (λ (z : ℕ). gate (both (not (R i)) (R j)) z) (h i j li lj))

-- ---- after any rounds

abbrev pub Carried : ℕ → ℕ → ℕ → Room → Room → ℕ → Type 0
Carried N s t c r v = (R : ℕ → Bool) → cut N R r + gate (not (R s)) v ≡ cut N R c + gate (not (R t)) v

pub rounds_carried : (N s t : ℕ) (c : Room) (k : ℕ) (r : Room) → s < N → Rounds N s t c k r → (v : ℕ) × Carried N s t c r v
rounds_carried N s t c k r l (none f) = (0, λ R. omega (arith, cut_same N R r c f, gate_zero (not (R s)), gate_zero (not (R t))))
rounds_carried N s t c k r l (more {k = j} {r = r₀} x u) = go (rounds_carried N s t c j r₀ l x)
  where
    go : (v : ℕ) × Carried N s t c r₀ v → (v : ℕ) × Carried N s t c r v
    go w = (
      w.0 + u.amount,
      λ R.
          let a = cut_same N R r (push r₀ u.amount s u.path) u.after in
          let b = cut_push N (dist (step r₀) N t) R r₀ u.amount s u.path l (round_down N s t r₀ r l u) u.most.allowed in
          let e : gate (not (R (last_of s u.path))) u.amount ≡ gate (not (R t)) u.amount
          = ap (λ (z : ℕ). gate (not (R z)) u.amount) (walk_last (step r₀) N s t u.path u.taken.walk) in
          omega (arith, a, b, e, w.1 R, gate_add (not (R s)) w.0 u.amount, gate_add (not (R t)) w.0 u.amount),
    )

pub carried_cut : (N s t : ℕ) (c r : Room) (v : ℕ) → Carried N s t c r v → (R : ℕ → Bool) → T (R t) → (T (R s) → ⊥) → cut N R r + v ≡ cut N R c
carried_cut N s t c r v car R it is =
    let a = gate_on (not (R s)) v (not_T (R s) is) in
    let b = gate_off (not (R t)) v (λ h. T_not (R t) h it) in
    omega (arith, car R, a, b)

-- ---- no room across

pub cut_shut : (N : ℕ) (R : ℕ → Bool) (r : Room) → cut N R r ≡ 0 → (a t : ℕ) (p : List ℕ) → a < N → T (R t) → Walk (step r) N a t p → T (R a)
unfolding cut
cut_shut N R r z a t [] l it w = subst (λ (y : ℕ). T (R y)) (sym w) it
cut_shut N R r z a t (b ∷ p) l it w = go (tested (R a)) (cut_shut N R r z b t p w.0 it w.2)
  where
    go : T (R a) ⊎ (T (R a) → ⊥) → T (R b) → T (R a)
    go (inl h) k = h
    go (inr h) k =
        let on = gate_on (both (not (R a)) (R b)) (r a b) (both_intro (not (R a)) (R b) (not_T (R a) h) k) in
        let term : gate (both (not (R a)) (R b)) (r a b) ≤ cut N R r = dsum_term N (λ x y. gate (both (not (R x)) (R y)) (r x y)) a b l w.0 in
        absurd (omega (arith, on, term, z, ltb→lt 0 (r a b) w.1))
