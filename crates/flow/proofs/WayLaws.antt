-- One round along the way that the search has left: its steps can be read, the amount is the largest that the rooms allow, each step has room for it, and the push is the round's.
-- Assumes nothing.
--
--   Along r N t D d a q       a path on which each step has room for d and leads one nearer to the sink t
--   along_from                what is left of it behind its first nodes
--   way_measurable            what `amount` asks for
--   way_most                  what it gives is the largest amount of the rooms
--   way_pushable              what `push` asks for
--   Aside, aside_none, aside_trans
--                             a work list keeps its length and what is no flow
--   Kept, way_pushed          what it leaves holds and shows the rooms after the push
use mathlib.Core.Path.{◌≡◌, refl, sym, ap, ◌∙◌, subst}
use mathlib.Core.Logic.{inl}
use mathlib.Core.Bool.{Bool}
use mathlib.Core.List.{List, [], ◌∷◌, ◌++◌}
use Prim.Native.Nat.{ℕ, ◌+◌, ◌-◌, ◌*◌, ◌/◌, ◌<◌, ◌≤◌}
use native.Mathlib.Omega.{arith}
use lib.Dec.{ltb→lt}
use lib.ListN.{length}
use lib.Seq.{get_or-set_other}
use Rattle.walks.specs.Walk.{Walk}
use Rattle.walks.proofs.Distance.{dist}
use Rattle.network.specs.Rooms.{Room, step, push1, push}
use Rattle.network.specs.Paths.{Taken, Allows, Most}
use Rattle.network.proofs.PathLaws.{Down, taken_length, walk_down}
use Rattle.network.proofs.PushLaws.{last_of, push_away, push_last}
use Rattle.network.proofs.SameRooms.{Same}
use Rattle.search.specs.Masks.{at}
use Rattle.search.specs.Sought.{Leads}
use Rattle.search.specs.Sought.Leads.{source, onward}
use Rattle.push.specs.Reading.{reads}
use Rattle.push.specs.Advance.{Shifted, Advanceable, Advanced}
use Rattle.push.specs.Advance.Shifted.{drops, rises, along, against}
use Rattle.push.proofs.ReadLaws.{place_along, place_against}
use Rattle.push.proofs.AdvanceLaws.{shifted_size}
use Rattle.push.specs.Way.{On, Way, Measurable, Amount, Pushed, Pushable, PushedAlong}
use Rattle.push.specs.Way.Pushed.{none, more}
use Rattle.flow.proofs.HeldLaws.{Framed, Held, held_read, held_readable, held_step, held_same}
use Rattle.flow.proofs.ShownLaws.{Shown, shown_there, shown_step, shown_same}

-- ---- the end of a way

last_snoc : (s : ℕ) (p : List ℕ) (b : ℕ) → last_of s (p ++ (b ∷ [])) ≡ b
unfolding last_of
last_snoc s [] b = refl
last_snoc s (c ∷ p) b = last_snoc c p b

leads_last : (qs ps : List ℕ) (i : ℕ) (p : List ℕ) → Leads qs ps i p → at qs i ≡ last_of (at qs 0) p
unfolding last_of
leads_last qs ps i p source = refl
leads_last qs ps i p (onward {p = q} pos l w) = sym (last_snoc (at qs 0) q (at qs i))

-- ---- the places of the work list that are no flow

shifted_rest : (n a b d : ℕ) (F G F' G' : List ℕ) → a < 2 * n → b < 2 * n → Shifted n a b d F G F' G' → (i : ℕ) → n * n ≤ i → at F' i ≡ at F i
shifted_rest n a b d F G F' G' la lb (drops e o f g) i l = ap (λ (z : List ℕ). at z i) f
shifted_rest n a b d F G F' G' la lb (rises e o f g) i l = ap (λ (z : List ℕ). at z i) f
shifted_rest n a b d F G F' G' la lb (along e o f g) i l =
    ap (λ (z : List ℕ). at z i) f ∙ get_or-set_other F (a / 2 * n + b / 2) i (at F (a / 2 * n + b / 2) + d) 0 (λ q. omega (arith, place_along n a b la lb))
shifted_rest n a b d F G F' G' la lb (against e o f g) i l =
    ap (λ (z : List ℕ). at z i) f ∙ get_or-set_other F (b / 2 * n + a / 2) i (at F (b / 2 * n + a / 2) - d) 0 (λ q. omega (arith, place_against n a b la lb))

-- ---- a path with room for d

pub record Along (r : Room) (N t : ℕ) (D : ℕ → ℕ) (d a : ℕ) (q : List ℕ) : Type 0 where
  pub inside : a < N
  pub walk : Walk (step r) N a t q
  pub down : Down N D a q
  pub allows : Allows r d a q

along_tail : (r : Room) (N t : ℕ) (D : ℕ → ℕ) (d a b : ℕ) (q : List ℕ) → Along r N t D d a (b ∷ q) → Along r N t D d b q
along_tail r N t D d a b q A = record { inside = A.walk.0; walk = A.walk.2; down = A.down.2; allows = A.allows.1 }

pub along_from : (r : Room) (N t : ℕ) (D : ℕ → ℕ) (d s : ℕ) (p q : List ℕ) → Along r N t D d s (p ++ q) → Along r N t D d (last_of s p) q
unfolding last_of
along_from r N t D d s [] q A = A
along_from r N t D d s (b ∷ p) q A = along_from r N t D d b p q (along_tail r N t D d s b (p ++ q) A)

ones : (r : Room) (N a t : ℕ) (p : List ℕ) → Walk (step r) N a t p → Allows r 1 a p
ones r N a t [] w = tt
ones r N a t (b ∷ p) w = (ltb→lt 0 (r a b) w.1, ones r N b t p w.2)

-- the path of a round is such a path
taken_along : (r : Room) (N s t d : ℕ) (p : List ℕ) → s < N → Taken r N s t p → Allows r d s p → Along r N t (dist (step r) N t) d s p
taken_along r N s t d p l k al = record { inside = l; walk = k.walk; down = walk_down r N t s p l k.walk (taken_length r N t s l p k); allows = al }

-- a work list keeps its length and what is no flow
pub record Aside (n : ℕ) (F F' : List ℕ) : Type 0 where
  pub size : length F' ≡ length F
  pub rest : (i : ℕ) → n * n ≤ i → at F' i ≡ at F i

pub aside_none : (n : ℕ) (F : List ℕ) → Aside n F F
aside_none n F = record { size = refl; rest = λ i l. refl }

pub aside_trans : (n : ℕ) (F F' F'' : List ℕ) → Aside n F F' → Aside n F' F'' → Aside n F F''
aside_trans n F F' F'' a b = record { size = b.size ∙ a.size; rest = λ i l. b.rest i l ∙ a.rest i l }

-- the lists after a push along a path hold and show the rooms q, and the work list keeps what is no flow
pub record Kept (arc : ℕ → ℕ → Bool) (job : ℕ → ℕ) (wide n x : ℕ) (F : List ℕ) (q : Room) (F₁ G₁ S₁ : List ℕ) : Type 0 where
  pub held : Held arc job wide n q F₁ G₁
  pub shown : Shown q n x S₁
  pub aside : Aside n F F₁

module _ (arc : ℕ → ℕ → Bool) (job : ℕ → ℕ) (wide : ℕ) (costs : List ℕ) (K : Framed arc job wide costs) (x : ℕ) (r : Room) (F G S : List ℕ)
    (H : Held arc job wide (length costs) r F G) (W : Shown r (length costs) x S) where
  abbrev N : ℕ
  N = 2 * length costs

  -- ---- the push along a path, its last step first

  module _ (t d : ℕ) (D : ℕ → ℕ) (pos : 0 < d) where
    -- the first step of the path still has its room when the steps behind it have taken d
    ahead_room : (a b : ℕ) (q : List ℕ) → Along r N t D d a (b ∷ q) → push r d b q a b ≡ r a b
    ahead_room a b q A = push_away N D r d b q a b A.down.2 (inl (omega (arith, A.down.1)))

    first : (a b : ℕ) (q F₁ G₁ S₁ : List ℕ) → Along r N t D d a (b ∷ q) → Kept arc job wide (length costs) x F (push r d b q) F₁ G₁ S₁ → Advanceable costs wide F₁ G₁ S₁ a b d
    first a b q F₁ G₁ S₁ A C = record {
      readable = held_readable arc job wide costs K (push r d b q) F₁ G₁ C.held a b A.inside A.walk.0;
      allowed = omega (arith, read, e, A.allows.0);
      masks = C.shown.size;
      there = shown_there (push r d b q) (length costs) x S₁ C.shown K.few a b d A.inside A.walk.0 pos (omega (arith, e, A.allows.0));
      priced = K.small (a / 2) (omega (arith, A.inside));
      bound = K.bound;
    }
      where
        e : push r d b q a b ≡ r a b
        e = ahead_room a b q A

        read : reads costs wide F₁ G₁ a b ≡ push r d b q a b
        read = held_read arc job wide costs K (push r d b q) F₁ G₁ C.held a b A.inside A.walk.0 (omega (arith, e, pos, A.allows.0))

    next : (a b : ℕ) (q F₁ G₁ S₁ F₂ G₂ S₂ : List ℕ) → Along r N t D d a (b ∷ q) → Kept arc job wide (length costs) x F (push r d b q) F₁ G₁ S₁ → Advanced costs wide a b d F₁ G₁ S₁ F₂ G₂ S₂
        → Kept arc job wide (length costs) x F (push r d a (b ∷ q)) F₂ G₂ S₂
    unfolding push
    next a b q F₁ G₁ S₁ F₂ G₂ S₂ A C v = record {
      held = held_same arc job wide (length costs) (push1 m d a b) (push r d a (b ∷ q)) F₂ G₂ same (held_step arc job wide costs K m F₁ G₁ C.held a b A.inside A.walk.0 some d allowed F₂ G₂ v.shifted);
      shown = shown_same (push1 m d a b) (push r d a (b ∷ q)) (length costs) x S₂ same
          (shown_step m (length costs) x S₁ C.shown K.few a b d A.inside A.walk.0 pos allowed S₂ (λ z. v.filled (read ∙ z)) (λ z. v.partly (λ y. z (sym read ∙ y))));
      aside = aside_trans (length costs) F F₁ F₂ C.aside
          (record { size = shifted_size (length costs) a b d F₁ G₁ F₂ G₂ v.shifted; rest = shifted_rest (length costs) a b d F₁ G₁ F₂ G₂ A.inside A.walk.0 v.shifted });
    }
      where
        m : Room
        m = push r d b q

        e : push r d b q a b ≡ r a b
        e = ahead_room a b q A

        allowed : d ≤ push r d b q a b
        allowed = omega (arith, e, A.allows.0)

        some : 0 < push r d b q a b
        some = omega (arith, allowed, pos)

        read : reads costs wide F₁ G₁ a b ≡ push r d b q a b
        read = held_read arc job wide costs K (push r d b q) F₁ G₁ C.held a b A.inside A.walk.0 some

        same : Same N (push1 (push r d b q) d a b) (push r d a (b ∷ q))
        same i j li lj = sym (push_last N D r d a b q A.down i j)

    along_kept : (a : ℕ) (q F₁ G₁ S₁ : List ℕ) → Along r N t D d a q → Pushed costs wide d F G S a q F₁ G₁ S₁ → Kept arc job wide (length costs) x F (push r d a q) F₁ G₁ S₁
    unfolding push
    along_kept a [] F₁ G₁ S₁ A none = record { held = H; shown = W; aside = aside_none (length costs) F }
    along_kept a (b ∷ q) F₂ G₂ S₂ A (more {F₁ = F₁} {G₁ = G₁} {S₁ = S₁} m v) = next a b q F₁ G₁ S₁ F₂ G₂ S₂ A (along_kept b q F₁ G₁ S₁ (along_tail r N t D d a b q A) m) v

  -- ---- the round's way

  module _ (s t : ℕ) (ls : s < 2 * length costs) (qs ps : List ℕ) (e : ℕ) (start : at qs 0 ≡ s) (p : List ℕ) (way : Way qs ps e p) (taken : Taken r (2 * length costs) s t p) where
    -- what is left of the path at place i
    behind : (d i : ℕ) (q : List ℕ) → Allows r d s p → On qs ps p i q → Along r (2 * length costs) t (dist (step r) (2 * length costs) t) d (at qs (at ps i)) (at qs i ∷ q)
    behind d i q al O =
        let whole : Along r N t (dist (step r) N t) d s (O.front ++ (at qs i ∷ q)) = subst (Along r N t (dist (step r) N t) d s) O.whole (taken_along r N s t d p ls taken al) in
        let at-end : last_of s O.front ≡ at qs (at ps i) = ap (λ (z : ℕ). last_of z O.front) (sym start) ∙ sym (leads_last qs ps (at ps i) O.front O.leads) in
        subst (λ (z : ℕ). Along r N t (dist (step r) N t) d z (at qs i ∷ q)) at-end (along_from r N t (dist (step r) N t) d s O.front (at qs i ∷ q) whole)

    pub way_measurable : Measurable costs wide F G qs ps e
    way_measurable = record {
      nodes = p;
      way = way;
      steps = λ i q O. let A = behind 1 i q (ones r N s t p taken.walk) O in held_readable arc job wide costs K r F G H (at qs (at ps i)) (at qs i) A.inside A.walk.0;
    }

    -- on the path what is read is the room
    allows_rooms : (d a : ℕ) (q : List ℕ) → a < N → Walk (step r) N a t q → Allows (reads costs wide F G) d a q → Allows r d a q
    allows_rooms d a [] l w al = tt
    allows_rooms d a (b ∷ q) l w al = (
      omega (arith, held_read arc job wide costs K r F G H a b l w.0 (ltb→lt 0 (r a b) w.1), al.0),
      allows_rooms d b q w.0 w.2 al.1,
    )

    rooms_allow : (d a : ℕ) (q : List ℕ) → a < N → Walk (step r) N a t q → Allows r d a q → Allows (reads costs wide F G) d a q
    rooms_allow d a [] l w al = tt
    rooms_allow d a (b ∷ q) l w al = (
      omega (arith, held_read arc job wide costs K r F G H a b l w.0 (ltb→lt 0 (r a b) w.1), al.0),
      rooms_allow d b q w.0 w.2 al.1,
    )

    module _ (d : ℕ) (A : Amount costs wide F G qs ps e d) where
      pub way_most : Most r s p d
      way_most =
          let m : Most (reads costs wide F G) s p d = subst (λ (z : ℕ). Most (reads costs wide F G) z p d) start (A.most p way.leads) in
          record { allowed = allows_rooms d s p ls taken.walk m.allowed; largest = λ c al. m.largest c (rooms_allow c s p ls taken.walk al) }

      positive : 0 < d
      positive = way_most.largest 1 (ones r N s t p taken.walk)

      pub way_pushable : Pushable costs wide F G S qs ps e d
      way_pushable = record {
        nodes = p;
        way = way;
        steps = λ i q F₁ G₁ S₁ O m.
            let B = behind d i q way_most.allowed O in
            first t d (dist (step r) N t) positive (at qs (at ps i)) (at qs i) q F₁ G₁ S₁ B
            (along_kept t d (dist (step r) N t) positive (at qs i) q F₁ G₁ S₁ (along_tail r N t (dist (step r) N t) d (at qs (at ps i)) (at qs i) q B) m);
      }

      pub way_pushed : (F₁ G₁ S₁ : List ℕ) → PushedAlong costs wide F G S qs ps e d F₁ G₁ S₁
          → Kept arc job wide (length costs) x F (push r d s p) F₁ G₁ S₁
      way_pushed F₁ G₁ S₁ P =
          let m : Pushed costs wide d F G S s p F₁ G₁ S₁ = subst (λ (z : ℕ). Pushed costs wide d F G S z p F₁ G₁ S₁) start (P.pushed p way.leads) in
          along_kept t d (dist (step r) N t) positive s p F₁ G₁ S₁ (taken_along r N s t d p ls taken way_most.allowed) m
