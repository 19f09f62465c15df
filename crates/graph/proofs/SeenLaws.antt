-- The search over masks: `Seen` is the invariant of `reach`. What is seen is reached, and the waits of what is done are seen.
-- Assumes nothing.
--
--   Seen rows s seen done   the invariant
--   next seen done          the lowest job that is seen and not done
--   seen_start, seen_next, seen_turn, seen_less, seen_end   the start, the next job, a turn, the measure, the end
use mathlib.Core.Path.{◌≡◌, sym, subst}
use mathlib.Core.Logic.{⊎_elim}
use mathlib.Core.List.{List, [], ◌∷◌}
use Prim.Native.Nat.{ℕ, ◌-◌, ◌^◌, ◌<◌}
use native.Mathlib.Omega.{arith}
use lib.Bits.{bit_or, bit_xor, or_lt, xor_lt}
use lib.Pow.{pow-lt, pow_pos}
use lib.Count.{count_trailing_zeros}
use lib.Dec.{T}
use lib.ListN.{length, get_or}
use Rattle.bits.specs.Mask.{Has, MaskOf}
use Rattle.bits.proofs.Digits.{bit_zero, bit_pow_same}
use Rattle.bits.proofs.Masks.{has_or_l, has_or_r, has_or_cases, has_pow_cases, has_xor, xor_zero, or_grows}
use Rattle.bits.proofs.Lowest.{trailing_has}
use Rattle.walks.specs.Walk.{Walk, Reaches}
use Rattle.walks.proofs.ReachLaws.{reaches_here, reaches_on}
use Rattle.graph.specs.Waits.{waits, Jobs}
use Rattle.graph.proofs.WaitLaws.{waits_has, has_waits}

pub record Seen (rows : List ℕ) (s seen done : ℕ) : Type 0 where
  pub seen_small : seen < 2 ^ 64
  pub done_small : done < 2 ^ 64
  -- the start is seen, and what is done is seen
  pub start : Has seen s
  pub sub : (v : ℕ) → Has done v → Has seen v
  -- what is seen is a job, and is reached
  pub known : (v : ℕ) → Has seen v → v < length rows
  pub sound : (v : ℕ) → Has seen v → Reaches (waits rows) (length rows) s v
  -- whom a job that is done waits for is seen
  pub closed : (u v : ℕ) → Has done u → T (waits rows u v) → Has seen v

abbrev pub next : ℕ → ℕ → ℕ
next seen done = count_trailing_zeros 64 (bit_xor seen done)

module _ (rows : List ℕ) (J : Jobs rows) (s : ℕ) where
  pub below_64 : (u : ℕ) → u < length rows → u < 64
  below_64 u l = omega (arith, J.few)

  pub seen_start : s < length rows → Seen rows s (2 ^ s) 0
  seen_start l = record {
    seen_small = pow-lt (below_64 s l);
    done_small = pow_pos 64;
    start = bit_pow_same s;
    sub = λ v d. absurd (omega (arith, bit_zero v));
    known = λ v d. subst (λ (k : ℕ). k < length rows) (sym (has_pow_cases s v d)) l;
    sound = λ v d. subst (λ (k : ℕ). Reaches (waits rows) (length rows) s k) (sym (has_pow_cases s v d)) (reaches_here (waits rows) (length rows) s);
    closed = λ u v d e. absurd (omega (arith, bit_zero u));
  }

  -- where not all that is seen is done, the lowest such job is a job, seen, and not done
  pub seen_next : (seen done : ℕ) → Seen rows s seen done → (seen ≡ done → ⊥)
      → (next seen done < length rows) × Has seen (next seen done) × (Has done (next seen done) → ⊥)
  seen_next seen done S ne =
      let t = trailing_has 64 (bit_xor seen done) (xor_lt 64 seen done S.seen_small S.done_small) (λ z. ne (xor_zero 64 seen done S.seen_small S.done_small z)) in
      let b = has_xor seen done (next seen done) (S.sub (next seen done)) t.0 in
      (S.known (next seen done) b.0, b.0, b.1)

  -- a turn: u is done, and its row is seen
  pub seen_turn : (seen done u row : ℕ) → Seen rows s seen done → u < length rows → Has seen u → row ≡ get_or rows u 0 → row < 2 ^ 64
      → Seen rows s (bit_or seen row) (bit_or done (2 ^ u))
  seen_turn seen done u row S lu hu e small = record {
    seen_small = or_lt 64 seen row S.seen_small small;
    done_small = or_lt 64 done (2 ^ u) S.done_small (pow-lt (below_64 u lu));
    start = has_or_l seen row s S.start;
    sub = λ v d. ⊎_elim
        (λ p. has_or_l seen row v (S.sub v p))
        (λ p. has_or_l seen row v (subst (Has seen) (sym (has_pow_cases u v p)) hu))
        (has_or_cases done (2 ^ u) v d);
    known = λ v d. ⊎_elim (λ p. S.known v p) (λ p. J.known u v (wait v p)) (has_or_cases seen row v d);
    sound = λ v d. ⊎_elim
        (λ p. S.sound v p)
        (λ p. reaches_on (waits rows) (length rows) s u v (S.sound u hu) (wait v p) (J.known u v (wait v p)))
        (has_or_cases seen row v d);
    closed = λ a v d w. ⊎_elim
        (λ p. has_or_l seen row v (S.closed a v p w))
        (λ p. has_or_r seen row v (subst (λ (k : ℕ). Has k v) (sym e) (waits_has rows u v (subst (λ (k : ℕ). T (waits rows k v)) (has_pow_cases u a p) w))))
        (has_or_cases done (2 ^ u) a d);
  }
    where
      wait : (v : ℕ) → Has row v → T (waits rows u v)
      wait v p = has_waits rows u v (subst (λ (k : ℕ). Has k v) e p)

  -- the mask of what is done grows as a number
  pub seen_less : (seen done u : ℕ) → Seen rows s seen done → u < length rows → (Has done u → ⊥) → 2 ^ 64 - bit_or done (2 ^ u) < 2 ^ 64 - done
  seen_less seen done u S lu fresh =
      let grows = or_grows done (2 ^ u) u fresh (bit_pow_same u) in
      let fits = or_lt 64 done (2 ^ u) S.done_small (pow-lt (below_64 u lu)) in
      omega (arith, grows, fits)

  -- all that is seen is done: it is all that is reached
  pub seen_end : (seen done : ℕ) → Seen rows s seen done → seen ≡ done → MaskOf (Reaches (waits rows) (length rows) s) seen
  seen_end seen done S same = record { small = S.seen_small; sound = S.sound; complete = λ v r. from s S.start v r.path r.walk }
    where
      from : (a : ℕ) → Has seen a → (v : ℕ) (p : List ℕ) → Walk (waits rows) (length rows) a v p → Has seen v
      from a h v [] e = subst (Has seen) e h
      from a h v (b ∷ p) w = from b (S.closed a b (subst (λ (k : ℕ). Has k a) same h) w.1) v p w.2
