-- Sets of jobs as tests: sets that are known exactly, X, and the jobs that a set leaves (document 01, "The verdict").
-- Assumes nothing.
--
--   exactly_unique           two tests that pass exactly for the same jobs agree below n
--   price_same               sets that agree below n cost the same
--   count_mono, count_tight  a set within another has no more jobs, and where it has no fewer it is the other
--   in_x w n τ u              X, computed; inx_exact: it is X exactly
--   still w n τ M u          the jobs that M leaves, computed; still_exact: they are those exactly
--   left_count_exists, left_count_unique   a set leaves some number of jobs, and only one
--   x_self, x_next           T is in X, and so is a job that one of X waits for and that reaches T
--   within_intro, within_wait    a wait within X
use mathlib.Core.Path.{◌≡◌, refl, sym, ap, ◌∙◌}
use mathlib.Core.Bool.{Bool, true, false, not}
use Prim.Native.Nat.{ℕ, ◌≤◌, ◌<◌, zero-le}
use native.Mathlib.Nat.{le_refl}
use native.Mathlib.Omega.{arith}
use lib.Dec.{T, eqb, not_T, T_not}
use Rattle.sums.specs.Tests.{both}
use Rattle.sums.specs.Sum.{gate, count}
use Rattle.sums.proofs.TestLaws.{both_intro, both_left, both_right, T_eq, ne_test, test_ne}
use Rattle.sums.proofs.SumLaws.{sum_cong, sum_mono, sum_tight}
use Rattle.walks.specs.Walk.{Reaches}
use Rattle.walks.proofs.ReachLaws.{reach, reach_reaches, reaches_reach, reaches_here, reaches_on}
use Rattle.graph.specs.Rings.{InX}
use Rattle.network.specs.Arcs.{within}
use Rattle.network.specs.Sets.{Exactly, price, avoid, Left, LeftCount}

pub exactly_unique : (n : ℕ) (P : ℕ → Type 0) (M L : ℕ → Bool) → Exactly n P M → Exactly n P L → (u : ℕ) → u < n → M u ≡ L u
exactly_unique n P M L a b u l = T_eq (M u) (L u) (λ t. b.complete u l (a.sound u l t)) (λ t. a.complete u l (b.sound u l t))

pub price_same : (n : ℕ) (cost : ℕ → ℕ) (M L : ℕ → Bool) → ((u : ℕ) → u < n → M u ≡ L u) → price n cost M ≡ price n cost L
unfolding price
price_same n cost M L h = sum_cong n _ _ (λ u l. ap (λ (b : Bool). gate b (cost u)) (h u l))

-- ---- how many

gate_imp : (a b : Bool) → (T a → T b) → gate a 1 ≤ gate b 1
gate_imp true true h = le_refl 1
gate_imp true false h = absurd (h tt)
gate_imp false b h = zero-le

gate_back : (a b : Bool) → gate a 1 ≡ gate b 1 → T b → T a
gate_back true b e t = tt
gate_back false true e t = absurd (omega arith)
gate_back false false e t = t

pub count_mono : (n : ℕ) (a b : ℕ → Bool) → ((u : ℕ) → u < n → T (a u) → T (b u)) → count n a ≤ count n b
unfolding count
count_mono n a b h = sum_mono n _ _ (λ u l. gate_imp (a u) (b u) (h u l))

pub count_tight : (n : ℕ) (a b : ℕ → Bool) → ((u : ℕ) → u < n → T (a u) → T (b u)) → count n b ≤ count n a → (u : ℕ) → u < n → T (b u) → T (a u)
unfolding count
count_tight n a b h few u l t =
    gate_back (a u) (b u) (sum_tight n (λ x. gate (a x) 1) (λ x. gate (b x) 1) (λ x m. gate_imp (a x) (b x) (h x m)) few u l) t

-- ---- computed: X, and the jobs that a set leaves

unfoldable pub in_x : (ℕ → ℕ → Bool) → ℕ → ℕ → ℕ → Bool
unfolding reach
in_x w n τ u = both (reach w n u τ) (reach w n τ u)

pub inx_exact : (w : ℕ → ℕ → Bool) (n τ : ℕ) → τ < n → Exactly n (InX w n τ) (in_x w n τ)
unfolding in_x
inx_exact w n τ lτ = record {
  sound = λ u l t. record {
    out = reach_reaches w n u τ (both_left (reach w n u τ) (reach w n τ u) t);
    home = reach_reaches w n τ u (both_right (reach w n u τ) (reach w n τ u) t);
  };
  complete = λ u l k. both_intro (reach w n u τ) (reach w n τ u) (reaches_reach w n u τ lτ k.out) (reaches_reach w n τ u l k.home);
}

unfoldable pub still : (ℕ → ℕ → Bool) → ℕ → ℕ → (ℕ → Bool) → ℕ → Bool
unfolding reach in_x
still w n τ M u = both (in_x w n τ u) (both (not (M u)) (both (not (eqb u τ)) (reach (avoid w M) n τ u)))

pub still_exact : (w : ℕ → ℕ → Bool) (n τ : ℕ) (M : ℕ → Bool) → τ < n → Exactly n (Left w n τ M) (still w n τ M)
unfolding still
still_exact w n τ M lτ = record { sound = into; complete = back }
  where
    into : (u : ℕ) → u < n → T (both (in_x w n τ u) (both (not (M u)) (both (not (eqb u τ)) (reach (avoid w M) n τ u)))) → Left w n τ M u
    into u l t =
        let a = both_right (in_x w n τ u) (both (not (M u)) (both (not (eqb u τ)) (reach (avoid w M) n τ u))) t in
        let b = both_right (not (M u)) (both (not (eqb u τ)) (reach (avoid w M) n τ u)) a in
        record {
          member = (inx_exact w n τ lτ).sound u l (both_left (in_x w n τ u) (both (not (M u)) (both (not (eqb u τ)) (reach (avoid w M) n τ u))) t);
          outside = λ m. T_not (M u) (both_left (not (M u)) (both (not (eqb u τ)) (reach (avoid w M) n τ u)) a) m;
          other = test_ne u τ (both_left (not (eqb u τ)) (reach (avoid w M) n τ u) b);
          home = reach_reaches (avoid w M) n τ u (both_right (not (eqb u τ)) (reach (avoid w M) n τ u) b);
        }

    back : (u : ℕ) → u < n → Left w n τ M u → T (both (in_x w n τ u) (both (not (M u)) (both (not (eqb u τ)) (reach (avoid w M) n τ u))))
    back u l k =
        both_intro (in_x w n τ u) (both (not (M u)) (both (not (eqb u τ)) (reach (avoid w M) n τ u))) ((inx_exact w n τ lτ).complete u l k.member)
        (both_intro (not (M u)) (both (not (eqb u τ)) (reach (avoid w M) n τ u)) (not_T (M u) k.outside)
        (both_intro (not (eqb u τ)) (reach (avoid w M) n τ u) (ne_test u τ k.other) (reaches_reach (avoid w M) n τ u l k.home)))

pub left_count_exists : (w : ℕ → ℕ → Bool) (n τ : ℕ) (M : ℕ → Bool) → τ < n → LeftCount w n τ M (count n (still w n τ M))
left_count_exists w n τ M lτ = record { left = still w n τ M; exact = still_exact w n τ M lτ; number = refl }

pub left_count_unique : (w : ℕ → ℕ → Bool) (n τ : ℕ) (M : ℕ → Bool) (j k : ℕ) → LeftCount w n τ M j → LeftCount w n τ M k → j ≡ k
unfolding count
left_count_unique w n τ M j k a b =
    sym a.number
    ∙ sum_cong n _ _ (λ u l. ap (λ (c : Bool). gate c 1) (exactly_unique n (Left w n τ M) a.left b.left a.exact b.exact u l))
    ∙ b.number

-- ---- X

module _ (w : ℕ → ℕ → Bool) (n τ : ℕ) (x : ℕ → Bool) (exact : Exactly n (InX w n τ) x) where
  pub x_self : τ < n → T (x τ)
  x_self l = exact.complete τ l (record { out = reaches_here w n τ; home = reaches_here w n τ })

  pub x_next : (u v : ℕ) → u < n → v < n → T (x u) → T (w u v) → Reaches w n v τ → T (x v)
  x_next u v lu lv t s h = exact.complete v lv (record { out = reaches_on w n τ u v (exact.sound u lu t).out s lv; home = h })

pub within_intro : (w : ℕ → ℕ → Bool) (x : ℕ → Bool) (u v : ℕ) → T (w u v) → T (x u) → T (x v) → T (within w x u v)
unfolding within
within_intro w x u v s a b = both_intro (w u v) (both (x u) (x v)) s (both_intro (x u) (x v) a b)

pub within_wait : (w : ℕ → ℕ → Bool) (x : ℕ → Bool) (u v : ℕ) → T (within w x u v) → T (w u v)
unfolding within
within_wait w x u v t = both_left (w u v) (both (x u) (x v)) t
