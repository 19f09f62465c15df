-- The masks in the loop of `begin`, which are those before the first round.
-- Assumes nothing.
--
--   Beginning rows τ x rest steps        the masks of the jobs that are no more in rest are those of the start, all others 0
--   begin_start, begin_turn, begin_end
--   zeros                                each place of a list of zeros
use mathlib.Core.Path.{◌≡◌, refl, sym, ap, ◌∙◌, subst}
use mathlib.Core.Logic.{◌⊎◌, inl, inr, ◌≢◌}
use mathlib.Core.Bool.{Bool, not}
use mathlib.Core.List.{List}
use Prim.Native.Nat.{ℕ, zero, suc, ◌+◌, ◌-◌, ◌*◌, ◌/◌, ◌%◌, ◌^◌, ◌<◌, ◌≤◌}
use native.Mathlib.Decide.{ℕ_discrete}
use native.Mathlib.Omega.{arith}
use lib.Bits.{bit_and}
use lib.Count.{count_trailing_zeros}
use lib.Dec.{eqb}
use lib.ListN.{length, get_or, replicate, length-replicate, set, length-set}
use lib.Seq.{get_or-set_same, get_or-set_other}
use Rattle.bits.specs.Mask.{Has, has}
use Rattle.bits.proofs.Masks.{has_test, test_has}
use Rattle.bits.proofs.Rest.{Rest, rest_start, rest_end, rest_low, rest_here, rest_below, rest_next, rest_gone, rest_cases}
use Rattle.sums.specs.Sum.{gate}
use Rattle.sums.proofs.TestLaws.{ne_test, test_ne, eqb_on, eqb_off}
use Rattle.sums.proofs.SumLaws.{gate_on, gate_off}
use Rattle.network.specs.Rooms.{pick}
use Rattle.search.specs.Masks.{at}
use Rattle.flow.specs.Inside.{start_mask, Beginnable, Begun}

pub zeros : (L i : ℕ) → get_or {A = ℕ} (replicate L 0) i 0 ≡ 0
zeros zero i = refl
zeros (suc L) zero = refl
zeros (suc L) (suc i) = zeros L i

-- ---- the masks of the start, node by node

pub start_outside : (rows : List ℕ) (τ x a : ℕ) → (Has x (a / 2) → ⊥) → start_mask rows τ x a ≡ 0
unfolding start_mask
start_outside rows τ x a no-job = gate_off (has x (a / 2)) _ (λ t. no-job (test_has x (a / 2) t))

pub start_out : (rows : List ℕ) (τ x a : ℕ) → Has x (a / 2) → a % 2 ≡ 1 → start_mask rows τ x a ≡ bit_and (at rows (a / 2)) x
unfolding start_mask
start_out rows τ x a h o = gate_on (has x (a / 2)) _ (has_test x (a / 2) h)
    ∙ ap (λ (b : Bool). pick b (bit_and (at rows (a / 2)) x) (gate (not (eqb (a / 2) τ)) (2 ^ (a / 2)))) (eqb_on (a % 2) 1 o)

start_in : (rows : List ℕ) (τ x a : ℕ) → Has x (a / 2) → a % 2 ≢ 1 → start_mask rows τ x a ≡ gate (not (eqb (a / 2) τ)) (2 ^ (a / 2))
unfolding start_mask
start_in rows τ x a h o = gate_on (has x (a / 2)) _ (has_test x (a / 2) h)
    ∙ ap (λ (b : Bool). pick b (bit_and (at rows (a / 2)) x) (gate (not (eqb (a / 2) τ)) (2 ^ (a / 2)))) (eqb_off (a % 2) 1 o)

pub start_own : (rows : List ℕ) (τ x a : ℕ) → Has x (a / 2) → a % 2 ≢ 1 → a / 2 ≢ τ → start_mask rows τ x a ≡ 2 ^ (a / 2)
start_own rows τ x a h o ne = start_in rows τ x a h o ∙ gate_on (not (eqb (a / 2) τ)) (2 ^ (a / 2)) (ne_test (a / 2) τ ne)

pub start_sink : (rows : List ℕ) (τ x a : ℕ) → Has x (a / 2) → a % 2 ≢ 1 → a / 2 ≡ τ → start_mask rows τ x a ≡ 0
start_sink rows τ x a h o e = start_in rows τ x a h o ∙ gate_off (not (eqb (a / 2) τ)) (2 ^ (a / 2)) (λ t. test_ne (a / 2) τ t e)

-- ---- the loop

pub record Beginning (rows : List ℕ) (τ x rest : ℕ) (steps : List ℕ) : Type 0 where
  pub few : length rows ≤ 64
  pub members : (u : ℕ) → Has x u → u < length rows
  pub rest_part : Rest x rest
  pub size : length steps ≡ 128
  pub done : (a : ℕ) → a < 128 → (Has rest (a / 2) → ⊥) → at steps a ≡ start_mask rows τ x a
  -- the jobs of rest have no step yet
  pub undone : (a : ℕ) → Has rest (a / 2) → at steps a ≡ 0

pub begin_start : (rows : List ℕ) (τ x : ℕ) → Beginnable rows x → x < 2 ^ 64 → Beginning rows τ x x (replicate 128 0)
begin_start rows τ x B l = record {
  few = B.few;
  members = B.members;
  rest_part = rest_start x l;
  size = length-replicate {A = ℕ} 128 0;
  done = λ a la n. zeros 128 a ∙ sym (start_outside rows τ x a n);
  undone = λ a h. zeros 128 a;
}

module _ (rows : List ℕ) (τ x rest : ℕ) (steps : List ℕ) (B : Beginning rows τ x rest steps) where
  module _ (some : rest ≢ 0) where
    pub begin_below : count_trailing_zeros 64 rest < 64
    begin_below = rest_below x rest B.rest_part some

    pub begin_job : count_trailing_zeros 64 rest < length rows
    begin_job = B.members (count_trailing_zeros 64 rest) (rest_low x rest B.rest_part some)

    abbrev wide : List ℕ
    wide = set steps (2 * count_trailing_zeros 64 rest + 1) (bit_and (at rows (count_trailing_zeros 64 rest)) x)

    -- as the branch leaves the masks
    pub begin_turn : (b : ℕ) → b ≡ 2 ^ count_trailing_zeros 64 rest → (steps' : List ℕ)
        → ((count_trailing_zeros 64 rest ≢ τ) × (steps' ≡ set wide (2 * count_trailing_zeros 64 rest) b)) ⊎ ((count_trailing_zeros 64 rest ≡ τ) × (steps' ≡ wide))
        → Beginning rows τ x (bit_and rest (rest - 1)) steps'
    begin_turn b eb steps' K = record {
      few = B.few;
      members = B.members;
      rest_part = rest_next x rest B.rest_part some;
      size = len K;
      done = λ a la n. go a la n (ℕ_discrete (a / 2) (count_trailing_zeros 64 rest));
      undone = λ a h. let k = rest_gone x rest B.rest_part some (a / 2) h in other a k.1 ∙ B.undone a k.0;
    }
      where
        M : ℕ
        M = bit_and (at rows (count_trailing_zeros 64 rest)) x

        len : ((count_trailing_zeros 64 rest ≢ τ) × (steps' ≡ set wide (2 * count_trailing_zeros 64 rest) b)) ⊎ ((count_trailing_zeros 64 rest ≡ τ) × (steps' ≡ wide)) → length steps' ≡ 128
        len (inl k) = ap length k.1 ∙ length-set wide (2 * count_trailing_zeros 64 rest) b ∙ length-set steps (2 * count_trailing_zeros 64 rest + 1) M ∙ B.size
        len (inr k) = ap length k.1 ∙ length-set steps (2 * count_trailing_zeros 64 rest + 1) M ∙ B.size

        first : (a : ℕ) → a ≢ 2 * count_trailing_zeros 64 rest + 1 → at wide a ≡ at steps a
        first a n = get_or-set_other steps (2 * count_trailing_zeros 64 rest + 1) a M 0 n

        -- a node that is not the in-node of u
        past : (a : ℕ) → a ≢ 2 * count_trailing_zeros 64 rest → ((count_trailing_zeros 64 rest ≢ τ) × (steps' ≡ set wide (2 * count_trailing_zeros 64 rest) b)) ⊎ ((count_trailing_zeros 64 rest ≡ τ) × (steps' ≡ wide))
            → at steps' a ≡ at wide a
        past a n (inl k) = ap (λ (z : List ℕ). at z a) k.1 ∙ get_or-set_other wide (2 * count_trailing_zeros 64 rest) a b 0 n
        past a n (inr k) = ap (λ (z : List ℕ). at z a) k.1

        other : (a : ℕ) → a / 2 ≢ count_trailing_zeros 64 rest → at steps' a ≡ at steps a
        other a n = past a (λ e. n (omega arith)) K ∙ first a (λ e. n (omega arith))

        member : (a : ℕ) → a / 2 ≡ count_trailing_zeros 64 rest → Has x (a / 2)
        member a e = subst (Has x) (sym e) (rest_low x rest B.rest_part some)

        here : (a : ℕ) → a / 2 ≡ count_trailing_zeros 64 rest → Dec (a % 2 ≡ 1) → at steps' a ≡ start_mask rows τ x a
        here a e (yes o) =
            let q : a ≡ 2 * count_trailing_zeros 64 rest + 1 = omega arith in
            past a (λ z. omega arith) K ∙ ap (at wide) q ∙ get_or-set_same steps (2 * count_trailing_zeros 64 rest + 1) M 0 (omega (arith, B.size, begin_below))
            ∙ ap (λ (z : ℕ). bit_and (at rows z) x) (sym e) ∙ sym (start_out rows τ x a (member a e) o)
        here a e (no o) = own K
          where
            q : a ≡ 2 * count_trailing_zeros 64 rest
            q = omega arith

            own : ((count_trailing_zeros 64 rest ≢ τ) × (steps' ≡ set wide (2 * count_trailing_zeros 64 rest) b)) ⊎ ((count_trailing_zeros 64 rest ≡ τ) × (steps' ≡ wide)) → at steps' a ≡ start_mask rows τ x a
            own (inl k) =
                ap (λ (z : List ℕ). at z a) k.1 ∙ ap (at (set wide (2 * count_trailing_zeros 64 rest) b)) q
                ∙ get_or-set_same wide (2 * count_trailing_zeros 64 rest) b 0 (omega (arith, B.size, begin_below, length-set steps (2 * count_trailing_zeros 64 rest + 1) M))
                ∙ eb ∙ ap (λ (z : ℕ). 2 ^ z) (sym e) ∙ sym (start_own rows τ x a (member a e) o (λ z. k.0 (sym e ∙ z)))
            own (inr k) =
                ap (λ (z : List ℕ). at z a) k.1 ∙ first a (λ z. omega arith) ∙ B.undone a (subst (Has rest) (sym e) (rest_here x rest B.rest_part some))
                ∙ sym (start_sink rows τ x a (member a e) o (e ∙ k.0))

        go : (a : ℕ) → a < 128 → (Has (bit_and rest (rest - 1)) (a / 2) → ⊥) → Dec (a / 2 ≡ count_trailing_zeros 64 rest) → at steps' a ≡ start_mask rows τ x a
        go a la n (yes e) = here a e (ℕ_discrete (a % 2) 1)
        go a la n (no e) = other a e ∙ B.done a la (λ h. stays (rest_cases x rest B.rest_part some (a / 2) h))
          where
            stays : (a / 2 ≡ count_trailing_zeros 64 rest) ⊎ Has (bit_and rest (rest - 1)) (a / 2) → ⊥
            stays (inl q) = e q
            stays (inr q) = n q

  pub begin_end : rest ≡ 0 → Begun rows τ x steps
  begin_end z = record { size = B.size; masks = λ a la. B.done a la (rest_end rest (a / 2) z) }
