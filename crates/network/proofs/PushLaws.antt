-- What a push does to the rooms: along one step, and along a path on which each step leads one nearer (document 01: "It pushes the largest amount that every step allows.").
-- Assumes nothing.
--
--   pick_on, pick_off                   one of two numbers, by a test
--   room_at                             the room of a step whose ends are known
--   upd_at, upd_other                   the changed room, and any other
--   Spot a b x y                        the step x → y is the step a → b (ahead), or the step back, or aside from both; `spot` tells
--   push1_ahead, push1_back, push1_aside    the rooms after d is pushed along a → b
--   down_apart                          the ends of a step that leads one nearer differ
--   last_of a p                          where the path p from a ends; walk_last: for a walk to t that is t
--   On a p x y                          x → y is a step of the path p from a
--   on_in, on_near                      its ends are nodes, it leads one nearer
--   push_away                           a step further off than the path keeps its room
--   push_on                             each step of the path loses the amount
--   push_less, push_more                where a room grew the step leads one further off; where it fell, one nearer
--   push_pair                           the rooms of a step and of the step back add up to the same
--   push_entry                          a push acts on each room by itself
--   push_last                           the first step may be pushed last
--   allows_later                        what the later steps allow is as before the first step was pushed
use mathlib.Core.Path.{◌≡◌, refl, sym, ap, ◌∙◌}
use mathlib.Core.Logic.{◌⊎◌, inl, inr, ◌≢◌}
use mathlib.Core.Bool.{Bool, true, false}
use mathlib.Core.List.{List, [], ◌∷◌}
use Prim.Native.Nat.{ℕ, suc, ◌+◌, ◌-◌, ◌≤◌, ◌<◌}
use native.Mathlib.Nat.{le_refl}
use native.Mathlib.Decide.{ℕ_discrete}
use native.Mathlib.Omega.{arith}
use lib.Dec.{T, eqb, eqb→eq, eqb_refl}
use Rattle.sums.specs.Tests.{both}
use Rattle.sums.proofs.TestLaws.{both_intro, both_left, both_right}
use Rattle.walks.specs.Walk.{Walk}
use Rattle.network.specs.Rooms.{Room, pick, upd, push1, push}
use Rattle.network.specs.Paths.{Allows}
use Rattle.network.proofs.PathLaws.{Down}

pub pick_on : (b : Bool) (x y : ℕ) → T b → pick b x y ≡ x
pick_on true x y t = refl
pick_on false x y t = absurd t

pub pick_off : (b : Bool) (x y : ℕ) → (T b → ⊥) → pick b x y ≡ y
pick_off true x y t = absurd (t tt)
pick_off false x y t = refl

pub room_at : (r : Room) (x y a b : ℕ) → x ≡ a → y ≡ b → r x y ≡ r a b
room_at r x y a b e f = cc

upd_same : (r : Room) (a b v : ℕ) → upd r a b v a b ≡ v
unfolding upd
upd_same r a b v = pick_on (both (eqb a a) (eqb b b)) v (r a b) (both_intro (eqb a a) (eqb b b) (eqb_refl a) (eqb_refl b))

pub upd_at : (r : Room) (a b v x y : ℕ) → x ≡ a → y ≡ b → upd r a b v x y ≡ v
upd_at r a b v x y e f = cc (e, f, upd_same r a b v)

pub upd_other : (r : Room) (a b v x y : ℕ) → (x ≢ a) ⊎ (y ≢ b) → upd r a b v x y ≡ r x y
unfolding upd
upd_other r a b v x y (inl h) = pick_off (both (eqb x a) (eqb y b)) v (r x y) (λ t. h (eqb→eq x a (both_left (eqb x a) (eqb y b) t)))
upd_other r a b v x y (inr h) = pick_off (both (eqb x a) (eqb y b)) v (r x y) (λ t. h (eqb→eq y b (both_right (eqb x a) (eqb y b) t)))

-- ---- one step

pub data Spot (a b x y : ℕ) : Type 0 where
  ahead : x ≡ a → y ≡ b → Spot a b x y
  back : x ≡ b → y ≡ a → Spot a b x y
  aside : (x ≢ a) ⊎ (y ≢ b) → (x ≢ b) ⊎ (y ≢ a) → Spot a b x y

pub spot : (a b x y : ℕ) → Spot a b x y
spot a b x y = go (ℕ_discrete x a) (ℕ_discrete y b)
  where
    rest : (x ≢ a) ⊎ (y ≢ b) → Dec (x ≡ b) → Dec (y ≡ a) → Spot a b x y
    rest o (yes e) (yes f) = back e f
    rest o (no e) f = aside o (inl e)
    rest o (yes e) (no f) = aside o (inr f)

    go : Dec (x ≡ a) → Dec (y ≡ b) → Spot a b x y
    go (yes e) (yes f) = ahead e f
    go (no e) f = rest (inl e) (ℕ_discrete x b) (ℕ_discrete y a)
    go (yes e) (no f) = rest (inr f) (ℕ_discrete x b) (ℕ_discrete y a)

module _ (r : Room) (d a b : ℕ) (apart : a ≢ b) where
  pub push1_ahead : (x y : ℕ) → x ≡ a → y ≡ b → push1 r d a b x y ≡ r x y - d
  unfolding push1
  push1_ahead x y e f =
      upd_other (upd r a b (r a b - d)) b a _ x y (inl (λ q. apart (sym e ∙ q)))
      ∙ upd_at r a b (r a b - d) x y e f
      ∙ ap (λ (z : ℕ). z - d) (sym (room_at r x y a b e f))

  pub push1_back : (x y : ℕ) → x ≡ b → y ≡ a → push1 r d a b x y ≡ r x y + d
  unfolding push1
  push1_back x y e f = upd_at (upd r a b (r a b - d)) b a (r b a + d) x y e f ∙ ap (λ (z : ℕ). z + d) (sym (room_at r x y b a e f))

  pub push1_aside : (x y : ℕ) → (x ≢ a) ⊎ (y ≢ b) → (x ≢ b) ⊎ (y ≢ a) → push1 r d a b x y ≡ r x y
  unfolding push1
  push1_aside x y h k = upd_other (upd r a b (r a b - d)) b a _ x y k ∙ upd_other r a b (r a b - d) x y h

-- ---- paths

unfoldable pub last_of : ℕ → List ℕ → ℕ
last_of a [] = a
last_of a (b ∷ p) = last_of b p

pub walk_last : (st : ℕ → ℕ → Bool) (N a t : ℕ) (p : List ℕ) → Walk st N a t p → last_of a p ≡ t
unfolding last_of
walk_last st N a t [] w = w
walk_last st N a t (b ∷ p) w = walk_last st N b t p w.2

abbrev pub On : ℕ → List ℕ → ℕ → ℕ → Type 0
On a [] x y = ⊥
On a (b ∷ p) x y = ((x ≡ a) × (y ≡ b)) ⊎ On b p x y

flip : {A B : Type 0} → A ⊎ B → B ⊎ A
flip (inl x) = inr x
flip (inr x) = inl x

-- ---- along a path on which D falls by one at each step, so that its steps do not meet

module _ (N : ℕ) (D : ℕ → ℕ) where
  pub down_apart : (a b : ℕ) → D a ≡ suc (D b) → a ≢ b
  down_apart a b e q = omega (arith, ap D q)

  far : (a x : ℕ) → D x < D a → x ≢ a
  far a x h q = omega (arith, ap D q)

  pub on_in : (a : ℕ) (p : List ℕ) (x y : ℕ) → a < N → Down N D a p → On a p x y → (x < N) × (y < N)
  on_in a [] x y l g o = absurd o
  on_in a (b ∷ p) x y l g (inl o) = let m = g.0 in (omega (arith, o.0), omega (arith, o.1))
  on_in a (b ∷ p) x y l g (inr o) = on_in b p x y g.0 g.2 o

  pub on_near : (a : ℕ) (p : List ℕ) (x y : ℕ) → Down N D a p → On a p x y → (D x ≤ D a) × (D x ≡ suc (D y))
  on_near a [] x y g o = absurd o
  on_near a (b ∷ p) x y g (inl o) =
      let e₁ = ap D o.0 in let e₂ = ap D o.1 in let f = g.1 in
      (omega arith, omega arith)
  on_near a (b ∷ p) x y g (inr o) = let w = on_near b p x y g.2 o in let f = g.1 in (omega (arith, w.0), w.1)

  -- a step that begins or ends further off than where the path begins
  pub push_away : (r : Room) (d b : ℕ) (p : List ℕ) (x y : ℕ) → Down N D b p → (D b < D x) ⊎ (D b < D y) → push r d b p x y ≡ r x y
  unfolding push
  push_away r d b [] x y g h = refl
  push_away r d b (c ∷ p) x y g h = push_away (push1 r d b c) d c p x y g.2 (nearer h) ∙ push1_aside r d b c (down_apart b c g.1) x y (one h) (two h)
    where
      nearer : (D b < D x) ⊎ (D b < D y) → (D c < D x) ⊎ (D c < D y)
      nearer (inl q) = inl (omega arith)
      nearer (inr q) = inr (omega arith)

      one : (D b < D x) ⊎ (D b < D y) → (x ≢ b) ⊎ (y ≢ c)
      one (inl q) = inl (λ e. omega (arith, ap D e))
      one (inr q) = inr (λ e. omega (arith, ap D e))

      two : (D b < D x) ⊎ (D b < D y) → (x ≢ c) ⊎ (y ≢ b)
      two (inl q) = inl (λ e. omega (arith, ap D e))
      two (inr q) = inr (λ e. omega (arith, ap D e))

  -- the later steps' rooms are as before the first step was pushed
  later : (r : Room) (d a b : ℕ) → D a ≡ suc (D b) → (x y : ℕ) → D x < D a → D y < D a → push1 r d a b x y ≡ r x y
  later r d a b e x y hx hy = push1_aside r d a b (down_apart a b e) x y (inl (far a x hx)) (inr (far a y hy))

  pub allows_later : (r : Room) (d a b : ℕ) → D a ≡ suc (D b) → (x : ℕ) (p : List ℕ) → D x < D a → Down N D x p → Allows r d x p → Allows (push1 r d a b) d x p
  allows_later r d a b e x [] h g k = tt
  allows_later r d a b e x (y ∷ p) h g k =
      let f = g.1 in
      let same = later r d a b e x y h (omega arith) in
      (omega (arith, k.0), allows_later r d a b e y p (omega arith) g.2 k.1)

  pub push_on : (r : Room) (d a : ℕ) (p : List ℕ) (x y : ℕ) → Down N D a p → On a p x y → push r d a p x y ≡ r x y - d
  unfolding push
  push_on r d a [] x y g o = absurd o
  push_on r d a (b ∷ p) x y g (inl o) =
      let f : D a ≡ suc (D b) = g.1 in
      let e = ap D o.0 in
      push_away (push1 r d a b) d b p x y g.2 (inl (omega arith)) ∙ push1_ahead r d a b (down_apart a b g.1) x y o.0 o.1
  push_on r d a (b ∷ p) x y g (inr o) =
      let f : D a ≡ suc (D b) = g.1 in
      let w = on_near b p x y g.2 o in
      push_on (push1 r d a b) d b p x y g.2 o
      ∙ ap (λ (z : ℕ). z - d) (later r d a b g.1 x y (omega arith) (omega arith))

  pub push_less : (r : Room) (d a : ℕ) (p : List ℕ) → Down N D a p → (x y : ℕ) → (push r d a p x y ≤ r x y) ⊎ (D y ≡ suc (D x))
  unfolding push
  push_less r d a [] g x y = inl (le_refl (r x y))
  push_less r d a (b ∷ p) g x y = go (spot a b x y) (push_less (push1 r d a b) d b p g.2 x y)
    where
      ne : a ≢ b
      ne = down_apart a b g.1

      go : Spot a b x y → (push (push1 r d a b) d b p x y ≤ push1 r d a b x y) ⊎ (D y ≡ suc (D x)) → (push (push1 r d a b) d b p x y ≤ r x y) ⊎ (D y ≡ suc (D x))
      go s (inr w) = inr w
      go (ahead e f) (inl w) = inl (omega (arith, w, push1_ahead r d a b ne x y e f))
      go (back e f) (inl w) = inr (cc (ap D e, ap D f, g.1))
      go (aside e f) (inl w) = inl (omega (arith, w, push1_aside r d a b ne x y e f))

  pub push_more : (r : Room) (d a : ℕ) (p : List ℕ) → Down N D a p → (x y : ℕ) → (r x y ≤ push r d a p x y) ⊎ (D x ≡ suc (D y))
  unfolding push
  push_more r d a [] g x y = inl (le_refl (r x y))
  push_more r d a (b ∷ p) g x y = go (spot a b x y) (push_more (push1 r d a b) d b p g.2 x y)
    where
      ne : a ≢ b
      ne = down_apart a b g.1

      go : Spot a b x y → (push1 r d a b x y ≤ push (push1 r d a b) d b p x y) ⊎ (D x ≡ suc (D y)) → (r x y ≤ push (push1 r d a b) d b p x y) ⊎ (D x ≡ suc (D y))
      go s (inr w) = inr w
      go (ahead e f) (inl w) = inr (cc (ap D e, ap D f, g.1))
      go (back e f) (inl w) = inl (omega (arith, w, push1_back r d a b ne x y e f))
      go (aside e f) (inl w) = inl (omega (arith, w, push1_aside r d a b ne x y e f))

  pub push_pair : (r : Room) (d a : ℕ) (p : List ℕ) → Down N D a p → Allows r d a p → (x y : ℕ) → push r d a p x y + push r d a p y x ≡ r x y + r y x
  unfolding push
  push_pair r d a [] g h x y = refl
  push_pair r d a (b ∷ p) g h x y =
      push_pair (push1 r d a b) d b p g.2 (allows_later r d a b g.1 b p (let f = g.1 in omega arith) g.2 h.1) x y
      ∙ go (spot a b x y)
    where
      ne : a ≢ b
      ne = down_apart a b g.1

      go : Spot a b x y → push1 r d a b x y + push1 r d a b y x ≡ r x y + r y x
      go (ahead e f) = omega (arith, push1_ahead r d a b ne x y e f, push1_back r d a b ne y x f e, room_at r x y a b e f, h.0)
      go (back e f) = omega (arith, push1_back r d a b ne x y e f, push1_ahead r d a b ne y x f e, room_at r y x a b f e, h.0)
      go (aside e f) = omega (arith, push1_aside r d a b ne x y e f, push1_aside r d a b ne y x (flip f) (flip e))

  -- ---- the order of the steps is free

  pub push_entry : (r q : Room) (d a : ℕ) (p : List ℕ) (x y : ℕ) → Down N D a p → r x y ≡ q x y → push r d a p x y ≡ push q d a p x y
  unfolding push
  push_entry r q d a [] x y g h = h
  push_entry r q d a (b ∷ p) x y g h = push_entry (push1 r d a b) (push1 q d a b) d b p x y g.2 (one (spot a b x y))
    where
      ne : a ≢ b
      ne = down_apart a b g.1

      one : Spot a b x y → push1 r d a b x y ≡ push1 q d a b x y
      one (ahead e f) = omega (arith, push1_ahead r d a b ne x y e f, push1_ahead q d a b ne x y e f)
      one (back e f) = omega (arith, push1_back r d a b ne x y e f, push1_back q d a b ne x y e f)
      one (aside e f) = omega (arith, push1_aside r d a b ne x y e f, push1_aside q d a b ne x y e f)

  -- so one may push from the sink up, the last step first
  pub push_last : (r : Room) (d a b : ℕ) (p : List ℕ) → Down N D a (b ∷ p) → (x y : ℕ) → push r d a (b ∷ p) x y ≡ push1 (push r d b p) d a b x y
  unfolding push
  push_last r d a b p g x y = go (spot a b x y)
    where
      ne : a ≢ b
      ne = down_apart a b g.1

      further : D b < D a
      further = omega (arith, g.1)

      go : Spot a b x y → push (push1 r d a b) d b p x y ≡ push1 (push r d b p) d a b x y
      go (ahead e f) =
          let k : (D b < D x) ⊎ (D b < D y) = inl (omega (arith, ap D e, further)) in
          omega (arith, push_away (push1 r d a b) d b p x y g.2 k, push1_ahead r d a b ne x y e f, push1_ahead (push r d b p) d a b ne x y e f, push_away r d b p x y g.2 k)
      go (back e f) =
          let k : (D b < D x) ⊎ (D b < D y) = inr (omega (arith, ap D f, further)) in
          omega (arith, push_away (push1 r d a b) d b p x y g.2 k, push1_back r d a b ne x y e f, push1_back (push r d b p) d a b ne x y e f, push_away r d b p x y g.2 k)
      go (aside e f) = push_entry (push1 r d a b) r d b p x y g.2 (push1_aside r d a b ne x y e f) ∙ sym (push1_aside (push r d b p) d a b ne x y e f)
