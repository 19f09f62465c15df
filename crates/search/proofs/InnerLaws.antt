-- The search over masks: the laws of its inner loop, over the neighbours of one place.
-- Assumes nothing.
--
--   inner_lt, inner_room           the next neighbour is a node below 128, and there is a place for it
--   inner_more, inner_sought       it is taken, and is not the sink; it is the sink
--   inner_close                    no neighbour is left
use mathlib.Core.Path.{◌≡◌, refl, sym, ap, ◌∙◌, subst}
use mathlib.Core.Logic.{inl, inr, ◌≢◌}
use mathlib.Core.List.{List}
use Prim.Native.Nat.{ℕ, suc, ◌+◌, ◌-◌, ◌*◌, ◌/◌, ◌%◌, ◌<◌, ◌≤◌, zero-le, suc-le-suc}
use native.Mathlib.Nat.{le_refl}
use native.Mathlib.Numerals.{suc-eq-add-one}
use native.Mathlib.Omega.{arith}
use lib.Dec.{T}
use lib.ListN.{get_or, set, length-set}
use lib.Seq.{get_or-set_same, get_or-set_other}
use Rattle.bits.specs.Mask.{Has}
use Rattle.bits.specs.Members.{Turn}
use Rattle.bits.proofs.TurnLaws.{turn_below, turn_none}
use Rattle.std.specs.Prelude.{Some, None}
use Rattle.network.specs.Rooms.{step}
use Rattle.search.specs.Masks.{at, masked}
use Rattle.search.specs.Sought.{Met, Sought}
use Rattle.search.proofs.FoundLaws.{Found, found_met}
use Rattle.search.proofs.KeepLaws.{Keep, keep_set, keep_jump, keep_next, keep_room, keep_met, keep_other, keep_add}
use Rattle.search.proofs.MaskSteps.{step_parts, step_made}
use Rattle.search.proofs.LeadsLaws.{path_found}
use Rattle.search.proofs.SinceLaws.{Since, since_add, since_trans}
use Rattle.search.proofs.OuterLaws.{Free, Unseen, Outer, Inner}

-- ---- a neighbour is taken from the mask

module _ (steps : List ℕ) (s t : ℕ) (qs ps fr : List ℕ) (m h side rest : ℕ) (I : Inner steps s t qs ps fr m h side rest) where
  lside : side < 2
  lside = let e = I.other in omega arith

  -- none is left
  pub inner_close : (rest' : ℕ) → Turn rest None rest' → Outer steps s t qs ps fr m (h + 1)
  inner_close rest' U = record {
    sizes = I.sizes;
    keep = subst (λ (i : ℕ). Keep (step (masked steps)) 128 s t m i 0 (at qs) (at ps) (Free fr)) (suc-eq-add-one h) next;
    most = let l = I.more in omega arith;
  }
    where
      empty : (j : ℕ) → Has rest j → ⊥
      empty j r = turn_none rest rest' j U r

      end : Keep (step (masked steps)) 128 s t m h 128 (at qs) (at ps) (Unseen fr rest side)
      end = keep_jump (step (masked steps)) 128 s t m h I.y (at qs) (at ps) (Unseen fr rest side) I.keep 128 I.under (le_refl 128) (λ x ly lx e u. empty (x / 2) (I.all x lx ly e u))

      next : Keep (step (masked steps)) 128 s t m (suc h) 0 (at qs) (at ps) (Free fr)
      next = keep_set (step (masked steps)) 128 s t m (suc h) 0 (at qs) (at ps) (Unseen fr rest side) (keep_next (step (masked steps)) 128 s t m h 128 (at qs) (at ps) (Unseen fr rest side) end (le_refl 128)) (Free fr) free (λ x l u. inl u)
        where
          free : (x : ℕ) → x < 128 → Unseen fr rest side x → Free fr x
          free x l (inl u) = u
          free x l (inr u) = absurd (empty (x / 2) u.1)

  module _ (j rest' : ℕ) (U : Turn rest (Some j) rest') where
    low_lt : j < 64
    low_lt = turn_below rest j rest' I.fits U

    pub inner_lt : 2 * j + side < 128
    inner_lt = omega (arith, low_lt, lside)

    half : (2 * j + side) / 2 ≡ j
    half = omega (arith, lside)

    odd : (2 * j + side) % 2 ≡ side
    odd = omega (arith, lside)

    stp : T (step (masked steps) (at qs h) (2 * j + side))
    stp = step_made steps (at qs h) (2 * j + side) (omega (arith, I.other)) (subst (λ (z : ℕ). Has (get_or steps (at qs h) 0) z) (sym half) (I.ours j U.0).0)

    new : Unseen fr rest side (2 * j + side)
    new = inr (odd, subst (λ (z : ℕ). Has rest z) (sym half) U.0)

    K : Keep (step (masked steps)) 128 s t m h (2 * j + side) (at qs) (at ps) (Unseen fr rest side)
    K = keep_jump (step (masked steps)) 128 s t m h I.y (at qs) (at ps) (Unseen fr rest side) I.keep (2 * j + side) (I.ours j U.0).1 (omega (arith, inner_lt)) before
      where
        before : (x : ℕ) → I.y ≤ x → x < 2 * j + side → T (step (masked steps) (at qs h) x) → Unseen fr rest side x → ⊥
        before x ly lx e u =
            let k = step_parts steps (at qs h) x e in
            let q = k.0 in
            omega (arith, inner_lt, lside, I.other, U.1 (x / 2) (I.all x (omega (arith, inner_lt)) ly e u))

    pub inner_room : m < 128
    inner_room = keep_room (step (masked steps)) 128 s t m h (2 * j + side) (at qs) (at ps) (Unseen fr rest side) K I.more inner_lt stp new

    module _ (b : ℕ) (eb : b ≡ 2 * j + side) where
      same_q : (k : ℕ) → k < m → at (set qs m b) k ≡ at qs k
      same_q k l = get_or-set_other qs m k b 0 (λ q. omega arith)

      same_p : (k : ℕ) → k < m → at (set ps m h) k ≡ at ps k
      same_p k l = get_or-set_other ps m k h 0 (λ q. omega arith)

      at_q : at (set qs m b) m ≡ 2 * j + side
      at_q = get_or-set_same qs m b 0 (omega (arith, I.sizes.queue, inner_room)) ∙ eb

      at_p : at (set ps m h) m ≡ h
      at_p = get_or-set_same ps m h 0 (omega (arith, I.sizes.parent, inner_room))

      -- what is met with it
      met : Met (step (masked steps)) 128 s (suc m) h (2 * j + side) (at (set qs m b)) (at (set ps m h))
      met = keep_met (step (masked steps)) 128 s t m h (2 * j + side) (at qs) (at ps) (Unseen fr rest side) K I.more inner_lt stp new
          (at (set qs m b)) (at (set ps m h)) same_q same_p at_q at_p

      others : (k : ℕ) → k < m → at (set qs m b) k ≢ t
      others = keep_other (step (masked steps)) 128 s t m h (2 * j + side) (at qs) (at ps) (Unseen fr rest side) K I.more inner_lt stp new
          (at (set qs m b)) (at (set ps m h)) same_q same_p at_q at_p

      inner_found : b ≡ t → Found (step (masked steps)) 128 s t m (at (set qs m b)) (at (set ps m h))
      inner_found q = found_met (step (masked steps)) 128 s t m (at (set qs m b)) (at (set ps m h)) (omega (arith, I.more))
          (subst (λ (z : ℕ). Met (step (masked steps)) 128 s (suc m) z t (at (set qs m b)) (at (set ps m h))) (sym at_p)
          (subst (λ (z : ℕ). Met (step (masked steps)) 128 s (suc m) h z (at (set qs m b)) (at (set ps m h))) (sym eb ∙ q) met))
          (at_q ∙ sym eb ∙ q) others

      pub inner_sought : b ≡ t → (m₀ : ℕ) (qs₀ ps₀ qs₁ ps₁ : List ℕ) → Since 1 m₀ qs₀ ps₀ qs₁ ps₁ → Since m₀ m qs₁ ps₁ qs ps → Sought steps s t qs₀ ps₀ (set qs m b) (set ps m h) m
      inner_sought q m₀ qs₀ ps₀ qs₁ ps₁ A B = record {
        queue = length-set qs m b ∙ I.sizes.queue;
        parent = length-set ps m h ∙ I.sizes.parent;
        place = inner_room;
        none = λ z. absurd (omega (arith, I.more));
        found = λ z. path_found steps s t m (set qs m b) (set ps m h) (inner_found q);
        lists = record {
          met = suc m;
          head = h;
          next = 2 * j + side;
          places = met;
          some = suc-le-suc zero-le;
          ended = inr (omega (arith, I.more), refl, at_p, at_q ∙ sym eb ∙ q, sym eb ∙ q);
          before = λ i l n. others i (omega arith);
          queue_rest = λ i l. since.queue i (omega arith);
          parent_rest = λ i l. since.parent i (omega arith);
          parent_first = since.first;
        };
      }
        where
          since : Since 1 (m + 1) qs₀ ps₀ (set qs m b) (set ps m h)
          since = since_trans 1 m₀ (m + 1) qs₀ ps₀ qs₁ ps₁ (set qs m b) (set ps m h) A (since_add m₀ m qs₁ ps₁ qs ps b h B)

      pub inner_more : b ≢ t → Inner steps s t (set qs m b) (set ps m h) fr (m + 1) h side rest'
      inner_more ne = record {
        sizes = record { queue = length-set qs m b ∙ I.sizes.queue; parent = length-set ps m h ∙ I.sizes.parent; free = I.sizes.free; small = I.sizes.small };
        y = suc (2 * j + side);
        keep = subst (λ (i : ℕ). Keep (step (masked steps)) 128 s t i h (suc (2 * j + side)) (at (set qs m b)) (at (set ps m h)) (Unseen fr rest' side)) (suc-eq-add-one m) kept;
        under = inner_lt;
        more = let l = I.more in omega arith;
        fits = U.2.small;
        other = I.other ∙ ap (λ (z : ℕ). 1 - z % 2) (sym (same_q h I.more));
        ours = λ i r. let k = U.2.sound i r in (subst (λ (z : ℕ). Has (get_or steps z 0) i) (sym (same_q h I.more)) (I.ours i k.0).0, omega (arith, U.1 i k.0, k.1));
        all = λ x lx ly e u. whole x lx ly (subst (λ (z : ℕ). T (step (masked steps) z x)) (same_q h I.more) e) u;
        apart = λ i r g. I.apart i (U.2.sound i r).0 g;
      }
        where
          to : (x : ℕ) → x < 128 → x ≢ 2 * j + side → Unseen fr rest side x → Unseen fr rest' side x
          to x lx n (inl u) = inl u
          to x lx n (inr u) = inr (u.0, U.2.complete (x / 2) (u.1, λ e. n (let q = u.0 in omega (arith, lside))))

          from : (x : ℕ) → Unseen fr rest' side x → Unseen fr rest side x
          from x (inl u) = inl u
          from x (inr u) = inr (u.0, (U.2.sound (x / 2) u.1).0)

          gone : Unseen fr rest' side (2 * j + side) → ⊥
          gone (inr u) = (U.2.sound ((2 * j + side) / 2) u.1).1 half
          gone (inl u) = I.apart j U.0 (subst (λ (z : ℕ). Has (get_or fr z 0) j) odd (subst (λ (z : ℕ). Has (get_or fr ((2 * j + side) % 2) 0) z) half u))

          kept : Keep (step (masked steps)) 128 s t (suc m) h (suc (2 * j + side)) (at (set qs m b)) (at (set ps m h)) (Unseen fr rest' side)
          kept = keep_add (step (masked steps)) 128 s t m h (2 * j + side) (at qs) (at ps) (Unseen fr rest side) K I.more inner_lt stp new
              (at (set qs m b)) (at (set ps m h)) same_q same_p at_q at_p (λ q. ne (eb ∙ q)) (Unseen fr rest' side) to (λ x l u. from x u) gone

          whole : (x : ℕ) → x < 128 → suc (2 * j + side) ≤ x → T (step (masked steps) (at qs h) x) → Unseen fr rest' side x → Has rest' (x / 2)
          whole x lx ly e u =
              let k = step_parts steps (at qs h) x e in
              let q = k.0 in
              U.2.complete (x / 2) (I.all x lx (omega (arith, (I.ours j U.0).1)) e (from x u), λ z. omega (arith, lside, I.other))
