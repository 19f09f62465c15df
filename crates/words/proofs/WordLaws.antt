-- The number at a place, digit by digit.
-- Assumes nothing.
--
--   front_digit, front_other, front_end    a digit, another byte, the end of the text: what the number and its bytes are there
--   grown_same                             numbers that are equal modulo 2 ^ 64 stay so behind further digits
--   Reading                                the loop's invariant; reading_start, reading_digit, reading_other, reading_end
use mathlib.Core.Path.{◌≡◌, refl, sym, ap, ◌∙◌}
use mathlib.Core.Bool.{Bool, true, false, cond}
use mathlib.Core.List.{List, [], ◌∷◌}
use Prim.Native.Nat.{ℕ, suc, ◌+◌, ◌-◌, ◌*◌, ◌%◌, ◌^◌, ◌<◌, ◌≤◌}
use native.Mathlib.Omega.{arith}
use lib.ListN.{length, get_or, take, drop, drop_of_length-le, length-drop}
use lib.Seq.{drop-cons}
use Rattle.std.proofs.Common.{Option, Some, None, if◌then◌else◌, add-zero, add_assoc}
use Rattle.std.proofs.lemmas.List.{take_rest, get_or-drop}
use Rattle.digits.specs.Digits.{is_digit, digit}
use Rattle.words.specs.Words.{grown, taken, word_at}

module _ (t : List ℕ) (i v : ℕ) where
  pub front_end : length t ≤ i → (grown v (drop i t) ≡ v) × (taken (drop i t) ≡ 0)
  unfolding grown taken
  front_end h = (simp (drop_of_length-le t h), simp (drop_of_length-le t h))

  module _ (h : i < length t) where
    pub front_digit : is_digit (get_or t i 0) ≡ true → (grown v (drop i t) ≡ grown (v * 16 + digit (get_or t i 0)) (drop (i + 1) t)) × (taken (drop i t) ≡ 1 + taken (drop (i + 1) t))
    unfolding grown taken
    front_digit d = let e : i + 1 ≡ suc i = omega arith in rw e (simp (drop-cons t i 0 h, d), simp (drop-cons t i 0 h, d))

    pub front_other : is_digit (get_or t i 0) ≡ false → (grown v (drop i t) ≡ v) × (taken (drop i t) ≡ 1)
    unfolding grown taken
    front_other d = (simp (drop-cons t i 0 h, d), simp (drop-cons t i 0 h, d))

-- what a byte is worth, as `digit` says it
digit_some : (b : Bool) (v d : ℕ) → ◌≡◌ {A = Option ℕ} (Some d) (if b then Some v else None) → (b ≡ true) × (d ≡ v)
digit_some true v d e = (refl, cc)
digit_some false v d e = absurd (cc)

digit_none : (b : Bool) (v : ℕ) → ◌≡◌ {A = Option ℕ} None (if b then Some v else None) → b ≡ false
digit_none true v e = absurd (cc)
digit_none false v e = refl

pub grown_same : (t : List ℕ) (a b : ℕ) → a % 2 ^ 64 ≡ b % 2 ^ 64 → grown a t % 2 ^ 64 ≡ grown b t % 2 ^ 64
unfolding grown
grown_same [] a b e = e
grown_same (c ∷ t) a b e = go (is_digit c) (grown_same t (a * 16 + digit c) (b * 16 + digit c) (omega arith))
  where
    go : (d : Bool) → grown (a * 16 + digit c) t % 2 ^ 64 ≡ grown (b * 16 + digit c) t % 2 ^ 64
        → cond d (grown (a * 16 + digit c) t) a % 2 ^ 64 ≡ cond d (grown (b * 16 + digit c) t) b % 2 ^ 64
    go true f = f
    go false f = e

-- the loop has read k bytes from the place on, and what it has read is worth v
pub record Reading (t : List ℕ) (at v k : ℕ) : Type 0 where
  pub inside : at + k ≤ length t
  pub small : v < 2 ^ 64
  -- the number is v with the digits behind those bytes behind it
  pub worth : grown 0 (drop at t) % 2 ^ 64 ≡ grown v (drop (at + k) t) % 2 ^ 64
  -- and it ends where they end
  pub rest : taken (drop at t) ≡ k + taken (drop (at + k) t)

module _ (t : List ℕ) (at : ℕ) where
  pub reading_start : at ≤ length t → Reading t at 0 0
  reading_start h = record { inside = omega arith; small = omega arith; worth = rw (add-zero at) refl; rest = rw (add-zero at) (omega arith) }

  module _ (v k : ℕ) (R : Reading t at v k) where
    -- the bytes that the loop goes over are those from the place on
    module _ (h : k < length (take (length t - at) (drop at t))) where
      there : at + k < length t
      there = let f : k < length (drop at t) = rw (← take_rest t at) h in omega (arith, length-drop at t)

      abbrev byte : ℕ
      byte = get_or (take (length t - at) (drop at t)) k 0

      byte_is : byte ≡ get_or t (at + k) 0
      byte_is = rw (take_rest t at, get_or-drop at t k 0) refl

      pub reading_digit : (d w : ℕ) → ◌≡◌ {A = Option ℕ} (Some d) (if is_digit byte then Some (digit byte) else None) → w ≡ (v * 16 + d) % 2 ^ 64 → Reading t at w (k + 1)
      reading_digit d w e q =
          let c = get_or t (at + k) 0 in
          let f = digit_some _ _ d (rw byte_is at e) in
          let g = front_digit t (at + k) v there f.0 in
          record {
            inside = let i = there in omega arith;
            small = omega arith;
            worth =
                rw (← add_assoc at k 1)
                (R.worth ∙ ap (λ (x : ℕ). x % 2 ^ 64) g.0 ∙ grown_same (drop (at + k + 1) t) (v * 16 + digit c) w (let u = f.1 in omega arith));
            rest = rw (← add_assoc at k 1) (omega (arith, R.rest, g.1));
          }

      pub reading_other : ◌≡◌ {A = Option ℕ} None (if is_digit byte then Some (digit byte) else None) → (v ≡ (word_at t at).value) × (at + k + 1 ≡ (word_at t at).next)
      unfolding word_at
      reading_other e =
          let f = front_other t (at + k) v there (digit_none _ _ (rw byte_is at e)) in
          let w = R.worth in
          let s = R.small in
          (sym (w ∙ ap (λ (x : ℕ). x % 2 ^ 64) f.0 ∙ omega arith), omega (arith, R.rest, f.1))

    pub reading_end : length (take (length t - at) (drop at t)) ≤ k → (v ≡ (word_at t at).value) × (at + k ≡ (word_at t at).next)
    unfolding word_at
    reading_end h =
        let i : length (drop at t) ≤ k = rw (← take_rest t at) h in
        let f = front_end t (at + k) v (omega (arith, length-drop at t)) in
        let w = R.worth in
        let s = R.small in
        (sym (w ∙ ap (λ (x : ℕ). x % 2 ^ 64) f.0 ∙ omega arith), omega (arith, R.rest, f.1))
