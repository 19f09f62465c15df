-- The way of a round, up the parents that the search has left, and what is done along it. qs and ps are the queue and the parents, e the sink's place (`Sought` of the search).
-- Document 01, "The network and its rounds": "It pushes the largest amount that every step allows."
--
--   On qs ps p i q                 place i is on the way with the nodes p, and q has the nodes behind it: one step of the way leads from its parent's node to its own
--   Way qs ps e p                  a way of one step or more, with the nodes p, in lists of 128 places
--   Measurable, Amount             what `amount` is given: each step of the way can be read. What it gives: the largest amount that every step allows
--   Pushed costs wide d F G S a p F' G' S'
--                                  d is pushed along the path p from a, its last step first: the lists F, G, S (as in `Advance`) become F', G', S'
--   Pushable, PushedAlong          what `push` is given: each step of the way has room for d when the steps behind it have taken theirs. What it leaves
--   Roundable, Rounded             what `round` is given: a way that can be read, and that has room for the largest amount. What it leaves: that amount, pushed along it
use Rattle.std.specs.Prelude.{◌≡◌, ◌≢◌, List, [], ◌∷◌, ◌++◌, ℕ, ◌<◌, length}
use Rattle.network.specs.Paths.{Most}
use Rattle.search.specs.Masks.{at}
use Rattle.search.specs.Sought.{Leads}
use Rattle.push.specs.Reading.{reads, Readable}
use Rattle.push.specs.Advance.{Advanceable, Advanced}

pub record On (qs ps p : List ℕ) (i : ℕ) (q : List ℕ) : Type 0 where
  pub front : List ℕ
  pub leads : Leads qs ps (at ps i) front
  pub whole : p ≡ front ++ (at qs i ∷ q)

pub record Way (qs ps : List ℕ) (e : ℕ) (p : List ℕ) : Type 0 where
  pub queue : length qs ≡ 128
  pub parent : length ps ≡ 128
  pub place : e < 128
  pub some : e ≢ 0
  pub leads : Leads qs ps e p

-- ---- the amount

pub record Measurable (costs : List ℕ) (wide : ℕ) (F G qs ps : List ℕ) (e : ℕ) : Type 0 where
  pub nodes : List ℕ
  pub way : Way qs ps e nodes
  pub steps : (i : ℕ) (q : List ℕ) → On qs ps nodes i q → Readable costs wide F G (at qs (at ps i)) (at qs i)

pub record Amount (costs : List ℕ) (wide : ℕ) (F G qs ps : List ℕ) (e d : ℕ) : Type 0 where
  pub most : (p : List ℕ) → Leads qs ps e p → Most (reads costs wide F G) (at qs 0) p d

-- ---- the push

pub data Pushed (costs : List ℕ) (wide d : ℕ) (F G S : List ℕ) : ℕ → List ℕ → List ℕ → List ℕ → List ℕ → Type 0 where
  none : {a : ℕ} → Pushed costs wide d F G S a [] F G S
  more : {a b : ℕ} {p F₁ G₁ S₁ F₂ G₂ S₂ : List ℕ} → Pushed costs wide d F G S b p F₁ G₁ S₁ → Advanced costs wide a b d F₁ G₁ S₁ F₂ G₂ S₂
      → Pushed costs wide d F G S a (b ∷ p) F₂ G₂ S₂

pub record Pushable (costs : List ℕ) (wide : ℕ) (F G S qs ps : List ℕ) (e d : ℕ) : Type 0 where
  pub nodes : List ℕ
  pub way : Way qs ps e nodes
  pub steps : (i : ℕ) (q F₁ G₁ S₁ : List ℕ) → On qs ps nodes i q → Pushed costs wide d F G S (at qs i) q F₁ G₁ S₁
      → Advanceable costs wide F₁ G₁ S₁ (at qs (at ps i)) (at qs i) d

pub record PushedAlong (costs : List ℕ) (wide : ℕ) (F G S qs ps : List ℕ) (e d : ℕ) (F' G' S' : List ℕ) : Type 0 where
  pub pushed : (p : List ℕ) → Leads qs ps e p → Pushed costs wide d F G S (at qs 0) p F' G' S'

-- ---- the round

pub record Roundable (costs : List ℕ) (wide : ℕ) (F G S qs ps : List ℕ) (e : ℕ) : Type 0 where
  pub measurable : Measurable costs wide F G qs ps e
  pub pushable : (d : ℕ) → Amount costs wide F G qs ps e d → Pushable costs wide F G S qs ps e d

pub record Rounded (costs : List ℕ) (wide : ℕ) (F G S qs ps : List ℕ) (e : ℕ) (F' G' S' : List ℕ) : Type 0 where
  pub amount : ℕ
  pub most : Amount costs wide F G qs ps e amount
  pub pushed : PushedAlong costs wide F G S qs ps e amount F' G' S'
