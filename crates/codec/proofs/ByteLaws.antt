-- The bytes of one number, as std writes and reads them.
-- Assumes nothing.
--
--   bytes_length        k bytes are k long
--   bytes_based         they are its digits to the base 256
--   number_put          zeros and the bytes of a number behind them, written over a part of a list
--   number_eight        the number of eight bytes
use mathlib.Core.Path.{◌≡◌, refl, sym, ap, ◌∙◌}
use mathlib.Core.List.{List, ◌∷◌, ◌++◌, append_assoc}
use Prim.Native.Nat.{ℕ, zero, suc, ◌+◌, ◌-◌, ◌/◌, ◌%◌, ◌^◌, ◌<◌, ◌≤◌, min}
use native.Mathlib.Nat.{zero-add, suc-add, div-one, div-eq_of_lt, pow-le-pow_right}
use native.Mathlib.Omega.{arith}
use borrow.Rule.Slice.PartMut.{put_mid}
use lib.ListN.{length, get_or, take, drop, replicate, length-append, length-drop, length-replicate}
use lib.Seq.{get_or-take, get_or-drop, length-take-le, take_all, paste}
use Rattle.std.proofs.lemmas.Slice.{put_mid-paste}
use Rattle.std.proofs.lemmas.List.Edits.{paste-paste, paste_all}
use Rattle.std.proofs.lemmas.Bool.{cases_lt}
use Rattle.std.proofs.Common.{inl, inr, lit<}
use Rattle.std.specs.Int.{w64, from_be_bytes, to_be_bytes, bytes_high_first}
use Rattle.digits.proofs.SpellLaws.{based}
use Rattle.codec.specs.Bytes.{number_at, bytes_of}

pub bytes_based : (k x : ℕ) → based 256 (λ d. d) k x ≡ bytes_of k x
unfolding based bytes_of
bytes_based zero x = refl
bytes_based (suc k) x = ap (λ (l : List ℕ). x / 256 ^ k % 256 ∷ l) (bytes_based k x)

pub bytes_length : (k x : ℕ) → length (bytes_of k x) ≡ k
unfolding bytes_of
bytes_length zero x = refl
bytes_length (suc k) x = ap suc (bytes_length k x)

-- ---- written

-- std's bytes
high_first : (k x : ℕ) → bytes_high_first k x ≡ bytes_of k x
unfolding bytes_of
high_first zero x = refl
high_first (suc zero) x = rw (div-one x) refl
high_first (suc (suc k)) x = ap (λ (l : List ℕ). x / 256 ^ suc k % 256 ∷ l) (high_first (suc k) x)

last_bytes : (m k x : ℕ) → drop m (bytes_of (m + k) x) ≡ bytes_of k x
unfolding bytes_of
last_bytes zero k x = rw (zero-add k) refl
last_bytes (suc m) k x = rw (suc-add m k) (last_bytes m k x)

-- in front of the 8 there are zeros
zeros_first : (m x : ℕ) → x < 256 ^ 8 → bytes_of (m + 8) x ≡ replicate m 0 ++ bytes_of 8 x
unfolding bytes_of
zeros_first zero x h = refl
zeros_first (suc m) x h =
    let b : 256 ^ 8 ≤ 256 ^ (m + 8) = pow-le-pow_right (lit< tt) {i = 8} {j = m + 8} (omega arith) in
    let z : x / 256 ^ (m + 8) ≡ 0 = div-eq_of_lt (omega arith) in
    rw (suc-add m 8, z) (ap (λ (l : List ℕ). 0 ∷ l) (zeros_first m x h))

-- the last k bytes: of the 8 that a number has its own last ones, with zeros in front of them
number_bytes : (k own x : ℕ) → own ≡ min k 8 → x < 2 ^ 64 → replicate (k - own) 0 ++ drop (8 - own) (to_be_bytes w64 x) ≡ bytes_of k x
number_bytes k own x e h = elim (cases_lt k 8) [ inl l ↦ short (omega arith) | inr l ↦ long l ]
  where
    short : k ≤ 8 → replicate (k - own) 0 ++ drop (8 - own) (to_be_bytes w64 x) ≡ bytes_of k x
    short l =
        let z : k - own ≡ 0 = omega arith in
        let n : 8 - own ≡ 8 - k = omega arith in
        let m : 8 - k + k ≡ 8 = omega arith in
        rw (z, n, high_first 8 x) (ap (λ (i : ℕ). drop (8 - k) (bytes_of i x)) (sym m) ∙ last_bytes (8 - k) k x)

    long : 8 ≤ k → replicate (k - own) 0 ++ drop (8 - own) (to_be_bytes w64 x) ≡ bytes_of k x
    long l =
        let z : 8 - own ≡ 0 = omega arith in
        let m : k - own + 8 ≡ k = omega arith in
        rw (z, high_first 8 x) (sym (zeros_first (k - own) x h) ∙ ap (λ (i : ℕ). bytes_of i x) m)

-- zeros written from a place on, and bytes of the number behind them
pub number_put : (d z w : List ℕ) (at k x y own start n₁ n₂ : ℕ) → at + k ≤ length d → own ≡ min k 8 → x < 2 ^ 64 → start ≡ at + (k - own) → n₁ ≡ k - own → n₂ ≡ own
    → z ≡ replicate (length (take n₁ (drop at d))) 0 → w ≡ take (8 - (8 - own)) (drop (8 - own) (to_be_bytes w64 y)) → y ≡ x
    → put_mid start n₂ (put_mid at n₁ d z) w ≡ take at d ++ bytes_of k x ++ drop (at + k) d
number_put d z w at k x y own start n₁ n₂ room f h s e₁ e₂ u o q =
    let v : w ≡ take (8 - (8 - own)) (drop (8 - own) (to_be_bytes w64 x)) = o ∙ ap (λ (i : ℕ). take (8 - (8 - own)) (drop (8 - own) (to_be_bytes w64 i))) q in
    let m = k - own in
    let long : length (take n₁ (drop at d)) ≡ m = length-take-le n₁ (drop at d) (omega (arith, length-drop at d)) ∙ e₁ in
    let zs : z ≡ replicate m 0 = u ∙ ap (λ (i : ℕ). replicate i 0) long in
    let ws : w ≡ drop (8 - own) (to_be_bytes w64 x) = v ∙ take_all (8 - (8 - own)) (drop (8 - own) (to_be_bytes w64 x)) (omega (arith, length-drop (8 - own) (to_be_bytes w64 x))) in
    let zn : m ≡ length z = sym (ap length zs ∙ length-replicate m 0) in
    let wn : own ≡ length w = sym (ap length ws ∙ length-drop (8 - own) (to_be_bytes w64 x) ∙ omega arith) in
    let zw : z ++ w ≡ bytes_of k x = rw (zs, ws) (number_bytes k own x f h) in
    let n : at + (m + own) ≡ at + k = omega arith in
    ap (λ (l : List ℕ). put_mid start n₂ l w) (put_mid-paste at n₁ d z z m refl (sym e₁) zn) ∙ put_mid-paste start n₂ (paste d at z m) w w own refl (sym e₂) wn
    ∙ ap (λ (i : ℕ). paste (paste d at z m) i w own) s ∙ paste-paste d at z w m own zn wn (omega arith)
    ∙ paste_all d at (z ++ w) (m + own) (sym (length-append z w ∙ omega (arith, zn, wn))) ∙ rw (zw, n) (sym (append_assoc (take at d) (bytes_of k x) (drop (at + k) d)))

-- ---- read

-- a byte of a part of a list
byte : (l : List ℕ) (at n i : ℕ) → i < n → get_or (take n (drop at l)) i 0 ≡ get_or l (at + i) 0
byte l at n i h = get_or-take n (drop at l) i 0 h ∙ get_or-drop at l i 0

pub number_eight : (l : List ℕ) (at n : ℕ) → n ≡ 8 → from_be_bytes w64 (take n (drop at l)) ≡ number_at l at 8
unfolding number_at
number_eight l at n e =
    let b = λ (i : ℕ) (h : i < 8). byte l at n i (omega arith) in
    omega (arith, b 0 (omega arith), b 1 (omega arith), b 2 (omega arith), b 3 (omega arith), b 4 (omega arith), b 5 (omega arith), b 6 (omega arith), b 7 (omega arith))
