-- Numbers written in a list of bytes, as a loop writes them from the front.
-- Assumes nothing.
--
--   write_turn     a turn of the loop
use mathlib.Core.Path.{◌≡◌, refl, sym, ap, ◌∙◌}
use mathlib.Core.List.{List, [], ◌∷◌, ◌++◌, append-nil}
use Prim.Native.Nat.{ℕ, ◌+◌, ◌*◌, ◌<◌}
use native.Mathlib.Numerals.{add-one}
use native.Mathlib.Omega.{arith}
use lib.ListN.{length, get_or, take, drop}
use lib.Seq.{take-suc, length-take-le, take_at, drop_at, drop-drop}
use Rattle.codec.specs.Bytes.{bytes_of}
use Rattle.lists.specs.Numbers.{all_bytes}
use Rattle.lists.proofs.ByteLists.{all_length, all_append}

all_snoc : (l : List ℕ) (x : ℕ) → all_bytes (l ++ (x ∷ [])) ≡ all_bytes l ++ bytes_of 8 x
unfolding all_bytes
all_snoc l x = all_append l (x ∷ []) ∙ ap (λ (z : List ℕ). all_bytes l ++ z) (append-nil (bytes_of 8 x))

-- one number more: the bytes of the first i numbers of the list are written over b₀, the rest is as it was
pub write_turn : (list b₀ b b' : List ℕ) (i : ℕ) → i < length list → b ≡ all_bytes (take i list) ++ drop (8 * i) b₀
    → b' ≡ take (8 * i) b ++ bytes_of 8 (get_or list i 0) ++ drop (8 * i + 8) b → b' ≡ all_bytes (take (i + 1) list) ++ drop (8 * (i + 1)) b₀
write_turn list b₀ b b' i under done e =
    let first = all_bytes (take i list) in
    let long : length first ≡ 8 * i = all_length (take i list) ∙ ap (λ (z : ℕ). 8 * z) (length-take-le i list (omega arith)) in
    let front = take_at first (drop (8 * i) b₀) (8 * i) long in
    let behind : drop (8 * i + 8) (first ++ drop (8 * i) b₀) ≡ drop (8 * i + 8) b₀ =
    sym (drop-drop 8 (8 * i) (first ++ drop (8 * i) b₀)) ∙ ap (λ (z : List ℕ). drop 8 z) (drop_at first (drop (8 * i) b₀) (8 * i) long) ∙ drop-drop 8 (8 * i) b₀ in
    let n : 8 * (i + 1) ≡ 8 * i + 8 = omega arith in
    e ∙ rw (done, front, behind, n, add-one i, take-suc list i 0 under, all_snoc (take i list) (get_or list i 0)) refl
