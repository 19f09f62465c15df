-- The way up the parents: it is there, it is one, and along it stands the path that a round takes.
-- Assumes nothing.
--
--   leads_same      the parents lead along one list of nodes
--   leads_top       from place 0 there is no way to go
--   leads_up        where i is not place 0: the way from its parent, and i's node behind it
--   path_found      a search that has met the sink leaves the path that a round takes
use mathlib.Core.Path.{◌≡◌, refl, sym, ap, ◌∙◌, subst}
use mathlib.Core.Logic.{◌≢◌}
use mathlib.Core.Bool.{Bool}
use mathlib.Core.List.{List, [], ◌∷◌, ◌++◌, map, append-nil}
use Prim.Native.Nat.{ℕ, zero, suc, ◌≤◌, ◌<◌, zero-le, suc-le-suc}
use native.Mathlib.Nat.{le_refl}
use native.Mathlib.Decide.{ℕ_discrete}
use native.Mathlib.Omega.{arith}
use lib.Seq.{append_snoc}
use Rattle.network.specs.Rooms.{step}
use Rattle.network.specs.Paths.{Taken}
use Rattle.search.specs.Masks.{at, masked}
use Rattle.search.specs.Sought.{Leads, Path}
use Rattle.search.specs.Sought.Leads.{source, onward}
use Rattle.search.proofs.FoundLaws.{Found, Chain, chain_taken}

pub leads_up : (qs ps : List ℕ) (i : ℕ) (p : List ℕ) → Leads qs ps i p → i ≢ 0 → (at ps i < i) × ((q : List ℕ) × Leads qs ps (at ps i) q × (p ≡ q ++ (at qs i ∷ [])))
leads_up qs ps i p source n = absurd (n refl)
leads_up qs ps i p (onward {p = q} pos l w) n = (l, (q, w, refl))

pub leads_top : (qs ps : List ℕ) (i : ℕ) (p : List ℕ) → Leads qs ps i p → i ≡ 0 → p ≡ []
leads_top qs ps i p source z = refl
leads_top qs ps i p (onward pos l w) z = absurd (omega arith)

same : (qs ps : List ℕ) (f i : ℕ) (p q : List ℕ) → i ≤ f → Leads qs ps i p → Leads qs ps i q → p ≡ q
same qs ps zero i p q l v w = leads_top qs ps i p v (omega arith) ∙ sym (leads_top qs ps i q w (omega arith))
same qs ps (suc f) i p q l v w = go (ℕ_discrete i 0) (λ a b h. same qs ps f (at ps i) a b h)
  where
    go : Dec (i ≡ 0) → ((a b : List ℕ) → at ps i ≤ f → Leads qs ps (at ps i) a → Leads qs ps (at ps i) b → a ≡ b) → p ≡ q
    go (yes z) rec = leads_top qs ps i p v z ∙ sym (leads_top qs ps i q w z)
    go (no z) rec =
        let a = leads_up qs ps i p v z in
        let b = leads_up qs ps i q w z in
        a.1.2 ∙ ap (λ (x : List ℕ). x ++ (at qs i ∷ [])) (rec a.1.0 b.1.0 (omega (arith, a.0)) a.1.1 b.1.1) ∙ sym b.1.2

pub leads_same : (qs ps : List ℕ) (i : ℕ) (p q : List ℕ) → Leads qs ps i p → Leads qs ps i q → p ≡ q
leads_same qs ps i p q v w = same qs ps i i p q (le_refl i) v w

-- ---- what the search has found

module _ (st : ℕ → ℕ → Bool) (N s t e : ℕ) (qs ps : List ℕ) (F : Found st N s t e (at qs) (at ps)) where
  -- the way up from place i, and the whole chain, which goes on from there by the places cs
  climb : (f i : ℕ) (cs : List ℕ) → i ≤ f → i ≤ e → Chain (at ps) e i cs
      → (p : List ℕ) × Leads qs ps i p × ((ds : List ℕ) × Chain (at ps) e 0 ds × (map (at qs) ds ≡ p ++ map (at qs) cs))
  climb zero i cs l le c =
      let z : 0 ≡ i = omega arith in
      ([], subst (λ (k : ℕ). Leads qs ps k []) z source, (cs, subst (λ (k : ℕ). Chain (at ps) e k cs) (sym z) c, refl))
  climb (suc f) zero cs l le c = ([], source, (cs, c, refl))
  climb (suc f) (suc i) cs l le c =
      let pos : 0 < suc i = suc-le-suc zero-le in
      let up : at ps (suc i) < suc i = F.parent (suc i) pos le in
      let r = climb f (at ps (suc i)) (suc i ∷ cs) (omega arith) (omega arith) (refl, pos, le, c) in
      (r.0 ++ (at qs (suc i) ∷ []), onward pos up r.1, (r.2.0, r.2.1, r.2.2 ∙ sym (append_snoc r.0 (at qs (suc i)) (map (at qs) cs))))

pub path_found : (steps : List ℕ) (s t e : ℕ) (qs ps : List ℕ) → Found (step (masked steps)) 128 s t e (at qs) (at ps) → Path steps s t qs ps e
path_found steps s t e qs ps F =
    let r = climb (step (masked steps)) 128 s t e qs ps F e e [] (le_refl e) (le_refl e) refl in
    record {
      start = F.start;
      nodes = r.0;
      leads = r.1;
      taken = subst (λ (p : List ℕ). Taken (masked steps) 128 s t p) (r.2.2 ∙ append-nil r.0) (chain_taken (masked steps) 128 s t e (at qs) (at ps) F r.2.0 r.2.1);
    }
