-- The two loops up the parents: what holds at place i, and one law for each way through them.
-- Assumes nothing.
--
--   Climb qs ps e p i q              the climb has come to place i of the way with the nodes p, and q has the nodes behind it
--   climb_start, climb_on, climb_up, climb_end
--                                    at the sink; the step that leads to place i; one step up; at the source
--   Climbing                         the invariant of `amount`: d is the most that the steps behind place i allow
--   Rising                           the invariant of `push`: d is pushed along the steps behind place i
--   amount_unique, pushed_unique, rounded_unique
--                                    two results are equal
use mathlib.Core.Path.{◌≡◌, refl, sym, ap, ◌∙◌, subst}
use mathlib.Core.Logic.{◌≢◌, ◌⊎◌, inl, inr}
use mathlib.Core.List.{List, [], ◌∷◌, ◌++◌, append-nil}
use Prim.Native.Nat.{ℕ, ◌<◌, ◌≤◌, ◌-◌, ◌^◌, min}
use native.Mathlib.Nat.{le_refl}
use native.Mathlib.Omega.{arith}
use lib.ListN.{length}
use lib.Seq.{append_snoc}
use Rattle.network.specs.Paths.{Most}
use Rattle.network.proofs.PathLaws.{most_one, most_more, most_unique}
use Rattle.search.specs.Masks.{at}
use Rattle.search.specs.Sought.{Leads}
use Rattle.search.proofs.LeadsLaws.{leads_up, leads_top, leads_same}
use Rattle.push.specs.Reading.{reads, Readable}
use Rattle.push.specs.Advance.{Advanceable, Advanced}
use Rattle.push.specs.Way.{On, Way, Measurable, Amount, Pushed, Pushable, PushedAlong, Roundable, Rounded}
use Rattle.push.specs.Way.Pushed.{none, more}
use Rattle.push.proofs.AdvanceLaws.{shifted_size, advanced_unique}

pub record Climb (qs ps : List ℕ) (e : ℕ) (p : List ℕ) (i : ℕ) (q : List ℕ) : Type 0 where
  pub way : Way qs ps e p
  -- what is still to come, from place 0 to place i
  pub front : List ℕ
  pub leads : Leads qs ps i front
  pub whole : p ≡ front ++ q
  pub low : i ≤ e

pub climb_start : (qs ps : List ℕ) (e : ℕ) (p : List ℕ) → Way qs ps e p → Climb qs ps e p e []
climb_start qs ps e p W = record { way = W; front = p; leads = W.leads; whole = sym (append-nil p); low = le_refl e }

module _ (qs ps : List ℕ) (e : ℕ) (p : List ℕ) (i : ℕ) (q : List ℕ) (C : Climb qs ps e p i q) where
  module _ (n : i ≢ 0) where
    pub climb_earlier : at ps i < i
    climb_earlier = (leads_up qs ps i C.front C.leads n).0

    pub climb_on : On qs ps p i q
    climb_on =
        let u = leads_up qs ps i C.front C.leads n in
        record { front = u.1.0; leads = u.1.1; whole = C.whole ∙ ap (λ (x : List ℕ). x ++ q) u.1.2 ∙ append_snoc u.1.0 (at qs i) q }

    pub climb_up : Climb qs ps e p (at ps i) (at qs i ∷ q)
    climb_up = record { way = C.way; front = climb_on.front; leads = climb_on.leads; whole = climb_on.whole; low = omega (arith, climb_earlier, C.low) }

  pub climb_end : i ≡ 0 → p ≡ q
  climb_end z = C.whole ∙ ap (λ (x : List ℕ). x ++ q) (leads_top qs ps i C.front C.leads z)

-- ---- the amount

pub record Climbing (costs : List ℕ) (wide : ℕ) (F G qs ps : List ℕ) (e i d : ℕ) : Type 0 where
  pub given : Measurable costs wide F G qs ps e
  pub behind : List ℕ
  pub climb : Climb qs ps e given.nodes i behind
  -- at the sink no step is behind, and d is the largest number of 64 bits
  pub most : ((i ≡ e) × (behind ≡ []) × (d ≡ 2 ^ 64 - 1)) ⊎ Most (reads costs wide F G) (at qs i) behind d

pub amount_start : (costs : List ℕ) (wide : ℕ) (F G qs ps : List ℕ) (e : ℕ) → Measurable costs wide F G qs ps e → Climbing costs wide F G qs ps e e (2 ^ 64 - 1)
amount_start costs wide F G qs ps e M = record { given = M; behind = []; climb = climb_start qs ps e M.nodes M.way; most = inl (refl, refl, refl) }

module _ (costs : List ℕ) (wide : ℕ) (F G qs ps : List ℕ) (e i d : ℕ) (K : Climbing costs wide F G qs ps e i d) where
  module _ (n : i ≢ 0) where
    pub amount_step : Readable costs wide F G (at qs (at ps i)) (at qs i)
    amount_step = K.given.steps i K.behind (climb_on qs ps e K.given.nodes i K.behind K.climb n)

    abbrev room : ℕ
    room = reads costs wide F G (at qs (at ps i)) (at qs i)

    pub amount_more : (x : ℕ) → x ≡ room → x < 2 ^ 64 → Climbing costs wide F G qs ps e (at ps i) (min d x)
    amount_more x ex small = record {
      given = K.given;
      behind = at qs i ∷ K.behind;
      climb = climb_up qs ps e K.given.nodes i K.behind K.climb n;
      most = inr (go K.most);
    }
      where
        r : ℕ → ℕ → ℕ
        r = reads costs wide F G

        go : ((i ≡ e) × (K.behind ≡ []) × (d ≡ 2 ^ 64 - 1)) ⊎ Most (reads costs wide F G) (at qs i) K.behind d
            → Most (reads costs wide F G) (at qs (at ps i)) (at qs i ∷ K.behind) (min d x)
        go (inl (_, sink, full)) =
            let same : room ≡ min d x = omega (arith, ex, small, full) in
            subst (λ (q : List ℕ). Most (reads costs wide F G) (at qs (at ps i)) (at qs i ∷ q) (min d x)) (sym sink)
            (subst (λ (y : ℕ). Most (reads costs wide F G) (at qs (at ps i)) (at qs i ∷ []) y) same (most_one (reads costs wide F G) (at qs (at ps i)) (at qs i)))
        go (inr m) =
            let same : min room d ≡ min d x = omega (arith, ex) in
            subst (λ (y : ℕ). Most (reads costs wide F G) (at qs (at ps i)) (at qs i ∷ K.behind) y) same
            (most_more (reads costs wide F G) (at qs (at ps i)) (at qs i) K.behind d m)

  pub amount_end : i ≡ 0 → Amount costs wide F G qs ps e d
  amount_end z = record { most = λ p l. (let same : K.behind ≡ p = behind l in subst (λ (q : List ℕ). Most (reads costs wide F G) (at qs 0) q d) same (go K.most)) }
    where
      behind : {p : List ℕ} → Leads qs ps e p → K.behind ≡ p
      behind {p} l = sym (climb_end qs ps e K.given.nodes i K.behind K.climb z) ∙ leads_same qs ps e K.given.nodes p K.given.way.leads l

      go : ((i ≡ e) × (K.behind ≡ []) × (d ≡ 2 ^ 64 - 1)) ⊎ Most (reads costs wide F G) (at qs i) K.behind d → Most (reads costs wide F G) (at qs 0) K.behind d
      go (inl (first, _, _)) = absurd (K.given.way.some (sym first ∙ z))
      go (inr m) = subst (λ (x : ℕ). Most (reads costs wide F G) (at qs x) K.behind d) z m

-- ---- the push

pub record Rising (costs : List ℕ) (wide : ℕ) (F G S qs ps : List ℕ) (e d i : ℕ) (F₁ G₁ S₁ : List ℕ) : Type 0 where
  pub given : Pushable costs wide F G S qs ps e d
  pub behind : List ℕ
  pub climb : Climb qs ps e given.nodes i behind
  pub pushed : Pushed costs wide d F G S (at qs i) behind F₁ G₁ S₁
  pub size : length F₁ ≡ length F

pub push_start : (costs : List ℕ) (wide : ℕ) (F G S qs ps : List ℕ) (e d : ℕ) → Pushable costs wide F G S qs ps e d → Rising costs wide F G S qs ps e d e F G S
push_start costs wide F G S qs ps e d P = record { given = P; behind = []; climb = climb_start qs ps e P.nodes P.way; pushed = none; size = refl }

module _ (costs : List ℕ) (wide : ℕ) (F G S qs ps : List ℕ) (e d i : ℕ) (F₁ G₁ S₁ : List ℕ) (K : Rising costs wide F G S qs ps e d i F₁ G₁ S₁) where
  module _ (n : i ≢ 0) where
    pub push_up : at ps i < i
    push_up = climb_earlier qs ps e K.given.nodes i K.behind K.climb n

    pub push_inside : at ps i < 128
    push_inside = omega (arith, push_up, K.climb.low, K.climb.way.place)

    pub push_step : Advanceable costs wide F₁ G₁ S₁ (at qs (at ps i)) (at qs i) d
    push_step = K.given.steps i K.behind F₁ G₁ S₁ (climb_on qs ps e K.given.nodes i K.behind K.climb n) K.pushed

    pub push_more : (F₂ G₂ S₂ : List ℕ) → Advanced costs wide (at qs (at ps i)) (at qs i) d F₁ G₁ S₁ F₂ G₂ S₂ → Rising costs wide F G S qs ps e d (at ps i) F₂ G₂ S₂
    push_more F₂ G₂ S₂ A = record {
      given = K.given;
      behind = at qs i ∷ K.behind;
      climb = climb_up qs ps e K.given.nodes i K.behind K.climb n;
      pushed = more K.pushed A;
      size = shifted_size (length costs) (at qs (at ps i)) (at qs i) d F₁ G₁ F₂ G₂ A.shifted ∙ K.size;
    }

  pub push_end : i ≡ 0 → PushedAlong costs wide F G S qs ps e d F₁ G₁ S₁
  push_end z = record {
    pushed = λ p l.
        let same : K.behind ≡ p = sym (climb_end qs ps e K.given.nodes i K.behind K.climb z) ∙ leads_same qs ps e K.given.nodes p K.given.way.leads l in
        subst (λ (x : List ℕ). Pushed costs wide d F G S (at qs 0) x F₁ G₁ S₁) same (subst (λ (x : ℕ). Pushed costs wide d F G S (at qs x) K.behind F₁ G₁ S₁) z K.pushed);
  }

-- ---- one result

pub amount_unique : (costs : List ℕ) (wide : ℕ) (F G qs ps : List ℕ) (e c d : ℕ) → Measurable costs wide F G qs ps e → Amount costs wide F G qs ps e c → Amount costs wide F G qs ps e d → c ≡ d
amount_unique costs wide F G qs ps e c d M x y = most_unique (reads costs wide F G) (at qs 0) M.nodes c d (x.most M.nodes M.way.leads) (y.most M.nodes M.way.leads)

along_unique : (costs : List ℕ) (wide d : ℕ) (F G S : List ℕ) (a : ℕ) (p F' G' S' F'' G'' S'' : List ℕ) → Pushed costs wide d F G S a p F' G' S' → Pushed costs wide d F G S a p F'' G'' S''
    → (F' ≡ F'') × (G' ≡ G'') × (S' ≡ S'')
along_unique costs wide d F G S a [] F' G' S' F'' G'' S'' none none = (refl, refl, refl)
along_unique costs wide d F G S a (b ∷ p) F' G' S' F'' G'' S'' (more {F₁ = F₁} {G₁ = G₁} {S₁ = S₁} x u) (more {F₁ = F₂} {G₁ = G₂} {S₁ = S₂} y v) =
    let k = along_unique costs wide d F G S b p F₁ G₁ S₁ F₂ G₂ S₂ x y in
    advanced_unique costs wide a b d F₂ G₂ S₂ F' G' S' F'' G'' S'' (rw (sym k.0, sym k.1, sym k.2) u) v

pub pushed_unique : (costs : List ℕ) (wide : ℕ) (F G S qs ps : List ℕ) (e d : ℕ) (F' G' S' F'' G'' S'' : List ℕ) → Pushable costs wide F G S qs ps e d
    → PushedAlong costs wide F G S qs ps e d F' G' S' → PushedAlong costs wide F G S qs ps e d F'' G'' S'' → (F' ≡ F'') × (G' ≡ G'') × (S' ≡ S'')
pushed_unique costs wide F G S qs ps e d F' G' S' F'' G'' S'' P x y =
    along_unique costs wide d F G S (at qs 0) P.nodes F' G' S' F'' G'' S'' (x.pushed P.nodes P.way.leads) (y.pushed P.nodes P.way.leads)

pub rounded_unique : (costs : List ℕ) (wide : ℕ) (F G S qs ps : List ℕ) (e : ℕ) (F' G' S' F'' G'' S'' : List ℕ) → Roundable costs wide F G S qs ps e
    → Rounded costs wide F G S qs ps e F' G' S' → Rounded costs wide F G S qs ps e F'' G'' S'' → (F' ≡ F'') × (G' ≡ G'') × (S' ≡ S'')
rounded_unique costs wide F G S qs ps e F' G' S' F'' G'' S'' R x y =
    let same = amount_unique costs wide F G qs ps e x.amount y.amount R.measurable x.most y.most in
    pushed_unique costs wide F G S qs ps e y.amount F' G' S' F'' G'' S'' (R.pushable y.amount y.most)
    (subst (λ (d : ℕ). PushedAlong costs wide F G S qs ps e d F' G' S') same x.pushed) y.pushed
