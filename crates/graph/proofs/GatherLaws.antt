-- The loop of `gather`: its invariant, and one law for each way through it.
-- Assumes nothing.
--
--   Gathering                              hits has those of the jobs that are no more in rest from which a marked one is hit
--   gather_start, gather_below, gather_hit, gather_miss, gather_end
use mathlib.Core.Path.{◌≡◌, sym, ◌∙◌, subst}
use mathlib.Core.Logic.{◌⊎◌, inl, inr, ⊎_elim, ◌≢◌}
use mathlib.Core.List.{List}
use Prim.Native.Nat.{ℕ, ◌+◌, ◌*◌, ◌^◌, ◌<◌}
use native.Mathlib.Decide.{ℕ_discrete}
use native.Mathlib.Omega.{arith}
use lib.Bits.{bit_and, bit_or, or_lt, and_le_r}
use lib.Count.{count_trailing_zeros}
use lib.ListN.{get_or}
use lib.Pow.{pow-lt, pow_pos}
use Rattle.std.specs.Prelude.{Some, None}
use Rattle.bits.specs.Mask.{Has, MaskOf}
use Rattle.bits.specs.Members.{Turn}
use Rattle.bits.proofs.Digits.{bit_zero, bit_pow_same}
use Rattle.bits.proofs.Masks.{has_or_l, has_or_r, has_or_cases, has_and, and_has, has_pow_cases}
use Rattle.bits.proofs.Lowest.{trailing_has}
use Rattle.bits.proofs.Rest.{rest_end}
use Rattle.bits.proofs.TurnLaws.{turn_below, turn_cases, turn_none}
use Rattle.graph.specs.Hits.{Gatherable, Hits}

pub record Gathering (S : List ℕ) (k first jobs marked rest hits : ℕ) : Type 0 where
  pub given : Gatherable S k first jobs
  pub part : (u : ℕ) → Has rest u → Has jobs u
  pub rest_small : rest < 2 ^ 64
  pub small : hits < 2 ^ 64
  -- each hit is one, and each that is no more in rest is there
  pub sound : (u : ℕ) → Has hits u → Hits S k first jobs marked u
  pub complete : (u : ℕ) → Hits S k first jobs marked u → (Has rest u → ⊥) → Has hits u

pub gather_start : (S : List ℕ) (k first jobs marked : ℕ) → Gatherable S k first jobs → jobs < 2 ^ 64 → Gathering S k first jobs marked jobs 0
gather_start S k first jobs marked G l = record {
  given = G;
  part = λ u h. h;
  rest_small = l;
  small = pow_pos 64;
  sound = λ u h. let e : ◌≡◌ {A = ℕ} 0 1 = sym (bit_zero u) ∙ h in absurd (omega arith);
  complete = λ u h n. absurd (n h.member);
}

module _ (S : List ℕ) (k first jobs marked rest hits u others : ℕ) (G : Gathering S k first jobs marked rest hits) (t : Turn rest (Some u) others) where
  pub gather_below : u < 64
  gather_below = turn_below rest u others G.rest_small t

  part : (v : ℕ) → Has others v → Has jobs v
  part v h = G.part v (t.2.sound v h).0

  -- not among the others: it was not in rest, or is the one that was taken
  out : (v : ℕ) → (Has others v → ⊥) → (v ≡ u) ⊎ (Has rest v → ⊥)
  out v n = go (ℕ_discrete v u)
    where
      go : Dec (v ≡ u) → (v ≡ u) ⊎ (Has rest v → ⊥)
      go (yes e) = inl e
      go (no e) = inr (λ h. ⊎_elim e n (turn_cases rest u others t v h))

  pub gather_miss : bit_and (get_or S (k * u + first) 0) marked ≡ 0 → Gathering S k first jobs marked others hits
  gather_miss z = record {
    given = G.given;
    part = part;
    rest_small = t.2.small;
    small = G.small;
    sound = G.sound;
    complete = λ v h n. by v h (out v n);
  }
    where
      by : (v : ℕ) → Hits S k first jobs marked v → (v ≡ u) ⊎ (Has rest v → ⊥) → Has hits v
      by v h (inr n) = G.complete v h n
      by v h (inl e) = absurd (rest_end (bit_and (get_or S (k * u + first) 0) marked) h.other z
          (and_has (get_or S (k * u + first) 0) marked h.other (subst (λ (z : ℕ). Has (get_or S (k * z + first) 0) h.other) e h.named) h.hit))

  pub gather_hit : marked < 2 ^ 64 → bit_and (get_or S (k * u + first) 0) marked ≢ 0 → (b : ℕ) → b ≡ 2 ^ u → Gathering S k first jobs marked others (bit_or hits b)
  gather_hit l z b e = subst (λ (d : ℕ). Gathering S k first jobs marked others (bit_or hits d)) (sym e) (record {
    given = G.given;
    part = part;
    rest_small = t.2.small;
    small = or_lt 64 hits (2 ^ u) G.small (pow-lt gather_below);
    sound = λ v h. ⊎_elim (G.sound v) (λ q. subst (Hits S k first jobs marked) (sym (has_pow_cases u v q)) here) (has_or_cases hits (2 ^ u) v h);
    complete = λ v h n. ⊎_elim (λ e. has_or_r hits (2 ^ u) v (subst (λ (z : ℕ). Has (2 ^ u) z) (sym e) (bit_pow_same u))) (λ n. has_or_l hits (2 ^ u) v (G.complete v h n)) (out v n);
  })
    where
      met : ℕ
      met = count_trailing_zeros 64 (bit_and (get_or S (k * u + first) 0) marked)

      pair : Has (get_or S (k * u + first) 0) met × Has marked met
      pair = has_and (get_or S (k * u + first) 0) marked met
          (trailing_has 64 (bit_and (get_or S (k * u + first) 0) marked) (omega (arith, and_le_r (get_or S (k * u + first) 0) marked)) z).0

      here : Hits S k first jobs marked u
      here = record { member = G.part u t.0; other = met; named = pair.0; hit = pair.1 }

pub gather_end : (S : List ℕ) (k first jobs marked rest hits others : ℕ) → Gathering S k first jobs marked rest hits → Turn rest None others → MaskOf (Hits S k first jobs marked) hits
gather_end S k first jobs marked rest hits others G t = record { small = G.small; sound = G.sound; complete = λ u h. G.complete u h (turn_none rest others u t) }
