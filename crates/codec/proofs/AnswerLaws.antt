-- An answer frame, field by field.
-- Assumes nothing.
--
--   answer_bytes_lem    what the fields written one behind another make
use mathlib.Core.Path.{◌≡◌, refl, ap, ◌∙◌}
use mathlib.Core.List.{List, [], ◌∷◌, ◌++◌}
use Prim.Native.Nat.{ℕ, ◌+◌, ◌/◌, ◌%◌, ◌<◌, ◌≤◌}
use native.Mathlib.Nat.{div-one}
use native.Mathlib.Omega.{arith}
use lib.ListN.{length, take, drop, set, length-append, length-set}
use lib.Seq.{length-take-le}
use Rattle.digits.proofs.SpellLaws.{part_next}
use Rattle.frames.specs.declared.Answer.{Answer}
use Rattle.codec.specs.Bytes.{bytes_of}
use Rattle.codec.specs.Frame.{answer_bytes}
use Rattle.codec.proofs.ByteLaws.{bytes_length}

-- one field more
longer : (pre : List ℕ) (a k x : ℕ) → length pre ≡ a → length (pre ++ bytes_of k x) ≡ a + k
longer pre a k x e = let p = length-append pre (bytes_of k x) in let q = bytes_length k x in omega (arith, p, q, e)

-- a number of one byte is its byte
byte_one : (x : ℕ) → x < 256 → bytes_of 1 x ≡ x ∷ []
unfolding bytes_of
byte_one x l = let e : x / 1 % 256 ≡ x = rw (div-one x) (omega arith) in ap (λ (z : ℕ). z ∷ []) e

-- the first two bytes
front_two : (d : List ℕ) (o : ℕ) → 2 ≤ length d → o < 256 → take 2 (set (set d 0 3) 1 o) ≡ bytes_of 1 3 ++ bytes_of 1 o
front_two [] o room small = absurd (omega arith)
front_two (x ∷ []) o room small = absurd (omega arith)
front_two (x ∷ y ∷ r) o room small = rw (byte_one 3 (omega arith), byte_one o small) refl

behind_two : (d : List ℕ) (o : ℕ) → 2 ≤ length d → drop 22 (set (set d 0 3) 1 o) ≡ drop 22 d
behind_two [] o room = absurd (omega arith)
behind_two (x ∷ []) o room = absurd (omega arith)
behind_two (x ∷ y ∷ r) o room = refl

pub answer_bytes_lem : (d d' l₁ l₂ l₃ : List ℕ) (a : Answer) → 22 ≤ length d → a.outcome < 256
    → d' ≡ set (set d 0 3) 1 a.outcome
    → l₁ ≡ take 2 d' ++ bytes_of 8 a.price ++ drop 10 d'
    → l₂ ≡ take 10 l₁ ++ bytes_of 4 a.rounds ++ drop 14 l₁
    → l₃ ≡ take 14 l₂ ++ bytes_of 8 a.victims ++ drop 22 l₂
    → l₃ ≡ answer_bytes a ++ drop 22 d
unfolding answer_bytes
answer_bytes_lem d d' l₁ l₂ l₃ a room small e₀ e₁ e₂ e₃ =
    let front : take 2 d' ≡ bytes_of 1 3 ++ bytes_of 1 a.outcome = ap (λ (l : List ℕ). take 2 l) e₀ ∙ front_two d a.outcome (omega arith) small in
    let behind : drop 22 d' ≡ drop 22 d = ap (λ (l : List ℕ). drop 22 l) e₀ ∙ behind_two d a.outcome (omega arith) in
    let n₁ : length (take 2 d') ≡ 2 = rw e₀ (length-take-le 2 _ (simp length-set (omega arith))) in
    let n₂ = longer (take 2 d') 2 8 a.price n₁ in
    let n₃ = longer (take 2 d' ++ bytes_of 8 a.price) 10 4 a.rounds n₂ in
    let f₂ = part_next d' (take 2 d' ++ bytes_of 8 a.price) (bytes_of 4 a.rounds) l₁ l₂ 10 4 n₂ e₁ e₂ in
    let f₃ = part_next d' (take 2 d' ++ bytes_of 8 a.price ++ bytes_of 4 a.rounds) (bytes_of 8 a.victims) l₂ l₃ 14 8 n₃ f₂ e₃ in
    f₃ ∙ rw (front, behind) refl
