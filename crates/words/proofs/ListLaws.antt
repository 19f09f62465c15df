-- The numbers from a place on, one after another.
-- Assumes nothing.
--
--   words_length                             k numbers are k
--   words_snoc, end_snoc                     one more behind them
--   Filling                                  the loop's invariant; filling_start, filling_turn, filling_end
use mathlib.Core.Path.{◌≡◌, refl, sym, ap, ◌∙◌}
use mathlib.Core.List.{List, [], ◌∷◌, ◌++◌, append-nil}
use Prim.Native.Nat.{ℕ, zero, suc, ◌+◌, ◌<◌, ◌≤◌}
use native.Mathlib.Numerals.{add-one}
use native.Mathlib.Omega.{arith}
use lib.ListN.{get_or, drop, set, length}
use lib.Seq.{drop-cons, set_at, append_snoc, drop-length}
use Rattle.words.specs.Number.{Number}
use Rattle.words.specs.Words.{word_at, words_at, words_end}

pub words_length : (t : List ℕ) (at k : ℕ) → length (words_at t at k) ≡ k
unfolding words_at
words_length t at zero = refl
words_length t at (suc k) = ap suc (words_length t (word_at t at).next k)

pub end_snoc : (t : List ℕ) (at k : ℕ) → words_end t at (suc k) ≡ (word_at t (words_end t at k)).next
unfolding words_end
end_snoc t at zero = refl
end_snoc t at (suc k) = end_snoc t (word_at t at).next k

pub words_snoc : (t : List ℕ) (at k : ℕ) → words_at t at (suc k) ≡ words_at t at k ++ ((word_at t (words_end t at k)).value ∷ [])
unfolding words_at words_end
words_snoc t at zero = refl
words_snoc t at (suc k) = ap (λ (r : List ℕ). (word_at t at).value ∷ r) (words_snoc t (word_at t at).next k)

-- a place that goes on by no or more steps, and by one where there is text left
moved : (at next n size : ℕ) → at ≤ next → next ≤ n → (next < size → next < n) → at < size → at < n
moved at next n size b o g a = grind arith

-- the first i places of the list l₀ hold the numbers of t from a place on, the rest are as they were, and the text left is s from `next` on
pub record Filling (t : List ℕ) (at : ℕ) (l₀ s : List ℕ) (next : ℕ) (l : List ℕ) (i : ℕ) : Type 0 where
  pub text : s ≡ t
  pub place : next ≡ words_end t at i
  pub forward : 0 < i → at < length t → at < next
  pub onward : at ≤ next
  pub done : l ≡ words_at t at i ++ drop i l₀

module _ (t : List ℕ) (at : ℕ) (l₀ : List ℕ) where
  pub filling_start : Filling t at l₀ t at l₀ 0
  unfolding words_at words_end
  filling_start = record { text = refl; place = refl; forward = λ z h. absurd (omega arith); onward = omega arith; done = refl }

  module _ (s : List ℕ) (next : ℕ) (l : List ℕ) (i : ℕ) (F : Filling t at l₀ s next l i) where
    pub filling_turn : (t' : List ℕ) (v n : ℕ) → i < length l₀ → t' ≡ s → v ≡ (word_at s next).value → n ≡ (word_at s next).next → (next < length s → next < n) → next ≤ n
        → Filling t at l₀ t' n (set l i v) (i + 1)
    filling_turn t' v n lt h e f g o =
        let w : word_at s next ≡ word_at t (words_end t at i) = rw (F.text, F.place) refl in
        record {
          text = h ∙ F.text;
          place = rw (add-one i, end_snoc t at i) (f ∙ ap (λ (r : Number). r.next) w);
          forward = λ z a. moved at next n (length s) F.onward o g (rw (← F.text) at a);
          onward = let b = F.onward in omega arith;
          done =
              rw (e ∙ ap (λ (r : Number). r.value) w, F.done, add-one i, words_snoc t at i, drop-cons l₀ i 0 lt)
              (set_at (words_at t at i) (get_or l₀ i 0) (drop (suc i) l₀) (word_at t (words_end t at i)).value i (words_length t at i)
              ∙ sym (append_snoc (words_at t at i) (word_at t (words_end t at i)).value (drop (suc i) l₀)));
        }

    pub filling_end : i ≡ length l₀ → (next ≡ words_end t at (length l₀)) × (l ≡ words_at t at (length l₀))
    filling_end e = (F.place ∙ ap (words_end t at) e, F.done ∙ rw (e, drop-length l₀) (append-nil (words_at t at (length l₀))))
