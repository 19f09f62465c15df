-- What a search leaves of the lists that it was lent: behind the places that it has met they are as before.
-- Assumes nothing.
--
--   Since m₀ m qs₀ ps₀ qs ps     from m₀ places met to m: the lists qs₀ and ps₀ have become qs and ps
--   since_none, since_source     nothing more; the source in place 0
--   since_add, since_trans       one more place; one after the other
use mathlib.Core.Path.{◌≡◌, refl, ◌∙◌}
use mathlib.Core.List.{List}
use Prim.Native.Nat.{ℕ, ◌+◌, ◌<◌, ◌≤◌}
use native.Mathlib.Nat.{le_refl}
use native.Mathlib.Omega.{arith}
use lib.ListN.{set}
use lib.Seq.{get_or-set_other}
use Rattle.search.specs.Masks.{at}

pub record Since (m₀ m : ℕ) (qs₀ ps₀ qs ps : List ℕ) : Type 0 where
  pub some : 0 < m₀
  pub grown : m₀ ≤ m
  -- behind the m places met
  pub queue : (i : ℕ) → m ≤ i → at qs i ≡ at qs₀ i
  pub parent : (i : ℕ) → m ≤ i → at ps i ≡ at ps₀ i
  pub first : at ps 0 ≡ at ps₀ 0

pub since_none : (m : ℕ) (qs ps : List ℕ) → 0 < m → Since m m qs ps qs ps
since_none m qs ps l = record { some = l; grown = le_refl m; queue = λ i q. refl; parent = λ i q. refl; first = refl }

-- the source is put in place 0
pub since_source : (s : ℕ) (qs ps : List ℕ) → Since 1 1 qs ps (set qs 0 s) ps
since_source s qs ps = record { some = le_refl 1; grown = le_refl 1; queue = λ i q. get_or-set_other qs 0 i s 0 (λ e. omega arith); parent = λ i q. refl; first = refl }

pub since_add : (m₀ m : ℕ) (qs₀ ps₀ qs ps : List ℕ) (b h : ℕ) → Since m₀ m qs₀ ps₀ qs ps → Since m₀ (m + 1) qs₀ ps₀ (set qs m b) (set ps m h)
since_add m₀ m qs₀ ps₀ qs ps b h S = record {
  some = S.some;
  grown = (let l = S.grown in omega arith);
  queue = λ i q. get_or-set_other qs m i b 0 (λ e. omega arith) ∙ S.queue i (omega arith);
  parent = λ i q. get_or-set_other ps m i h 0 (λ e. omega arith) ∙ S.parent i (omega arith);
  first = get_or-set_other ps m 0 h 0 (λ e. omega (arith, S.some, S.grown)) ∙ S.first;
}

pub since_trans : (m₀ m₁ m₂ : ℕ) (qs₀ ps₀ qs₁ ps₁ qs₂ ps₂ : List ℕ) → Since m₀ m₁ qs₀ ps₀ qs₁ ps₁ → Since m₁ m₂ qs₁ ps₁ qs₂ ps₂ → Since m₀ m₂ qs₀ ps₀ qs₂ ps₂
since_trans m₀ m₁ m₂ qs₀ ps₀ qs₁ ps₁ qs₂ ps₂ S R = record {
  some = S.some;
  grown = (let l = S.grown in let k = R.grown in omega arith);
  queue = λ i q. R.queue i q ∙ S.queue i (let k = R.grown in omega arith);
  parent = λ i q. R.parent i q ∙ S.parent i (let k = R.grown in omega arith);
  first = R.first ∙ S.first;
}
