-- The search over any steps, with the nodes that are not met yet as any set U, and its moves.
-- Assumes nothing.
--
--   Keep st N s t m h y Q P U                what holds while it goes on: `Scan`, no node stands twice in the queue, and U has just the nodes that do not stand in it
--   keep_start, keep_add                     the start; a node is met, and is not the sink
--   keep_so_far, keep_met, keep_other        what is met before and after a node is met; the others are not the sink
--   keep_jump, keep_next, keep_end           no new neighbour from y to z; all neighbours are scanned; no place is left
--   keep_set, keep_few, keep_room            the same nodes by another set; at most N places; one place more is there for a new node
use mathlib.Core.Path.{◌≡◌, refl, sym, ap, ◌∙◌, subst}
use mathlib.Core.Logic.{◌⊎◌, inl, inr, ◌≢◌}
use mathlib.Core.Bool.{Bool}
use mathlib.Core.List.{List}
use Prim.Native.Nat.{ℕ, zero, suc, ◌+◌, ◌-◌, ◌<◌, ◌≤◌}
use native.Mathlib.Nat.{le_refl}
use native.Mathlib.Decide.{ℕ_discrete}
use native.Mathlib.Omega.{arith}
use lib.Dec.{T, ltb, lt→ltb, ltb→lt}
use Rattle.sums.proofs.TestLaws.{tested}
use Rattle.walks.specs.Walk.{Walk}
use Rattle.network.specs.Rooms.{pick}
use Rattle.network.proofs.PushLaws.{pick_on, pick_off}
use Rattle.search.specs.Sought.{Met}
use Rattle.search.proofs.ScanLaws.{Scan, scan_start, scan_skip, scan_seen, scan_next, scan_add, scan_so_far, scan_met, scan_end}
use Rattle.search.proofs.Distinct.{Distinct, distinct_le, distinct_add}

pub record Keep (st : ℕ → ℕ → Bool) (N s t m h y : ℕ) (Q P : ℕ → ℕ) (U : ℕ → Type 0) : Type 0 where
  pub scan : Scan st N s t m h y Q P
  pub distinct : Distinct m Q
  pub fresh : (x : ℕ) → x < N → U x → (k : ℕ) → k < m → Q k ≢ x
  pub held : (x : ℕ) → x < N → (U x → ⊥) → (k : ℕ) × (k < m) × (Q k ≡ x)

pub keep_start : (st : ℕ → ℕ → Bool) (N s t : ℕ) (Q P : ℕ → ℕ) (U : ℕ → Type 0) → s < N → s ≢ t → Q 0 ≡ s
    → (U s → ⊥) → ((x : ℕ) → x < N → x ≢ s → U x) → Keep st N s t 1 0 0 Q P U
keep_start st N s t Q P U l ne first out all = record {
  scan = scan_start st N s t Q P l ne first;
  distinct = λ i j a b. absurd (omega arith);
  fresh = λ x lx u k q w. let z : 0 ≡ k = omega arith in out (subst U (sym w ∙ ap Q (sym z) ∙ first) u);
  held = λ x lx u. (0, le_refl 1, only x lx u (ℕ_discrete x s));
}
  where
    only : (x : ℕ) → x < N → (U x → ⊥) → Dec (x ≡ s) → Q 0 ≡ x
    only x lx u (yes e) = first ∙ sym e
    only x lx u (no e) = absurd (u (all x lx e))

module _ (st : ℕ → ℕ → Bool) (N s t m h y : ℕ) (Q P : ℕ → ℕ) (U : ℕ → Type 0) (K : Keep st N s t m h y Q P U) where
  pub keep_few : m ≤ N
  keep_few = distinct_le N m Q K.distinct K.scan.inside

  -- the same nodes are not found yet
  pub keep_set : (W : ℕ → Type 0) → ((x : ℕ) → x < N → U x → W x) → ((x : ℕ) → x < N → W x → U x) → Keep st N s t m h y Q P W
  keep_set W f g = record {
    scan = K.scan;
    distinct = K.distinct;
    fresh = λ x l v. K.fresh x l (g x l v);
    held = λ x l v. K.held x l (λ u. v (f x l u));
  }

  -- nothing to find from y to z
  jump : (z g : ℕ) → z ≡ y + g → z ≤ N → ((x : ℕ) → y ≤ x → x < z → T (st (Q h) x) → U x → ⊥) → Scan st N s t m h z Q P
  jump z zero e l f = subst (λ (i : ℕ). Scan st N s t m h i Q P) (let q : y ≡ z = omega arith in q) K.scan
  jump z (suc g) e l f = subst (λ (i : ℕ). Scan st N s t m h i Q P) (let q : suc (y + g) ≡ z = omega arith in q)
      (go (jump (y + g) g refl (omega arith) (λ x a b. f x a (omega arith))) (tested (st (Q h) (y + g))))
    where
      go : Scan st N s t m h (y + g) Q P → T (st (Q h) (y + g)) ⊎ (T (st (Q h) (y + g)) → ⊥) → Scan st N s t m h (suc (y + g)) Q P
      go S (inl a) = let k = K.held (y + g) (omega arith) (f (y + g) (omega arith) (omega arith) a) in scan_seen st N s t m h (y + g) Q P S k.0 k.1 k.2
      go S (inr a) = scan_skip st N s t m h (y + g) Q P S a

  scanned : {z : ℕ} → Scan st N s t m h z Q P → Keep st N s t m h z Q P U
  scanned S = record { scan = S; distinct = K.distinct; fresh = K.fresh; held = K.held }

  pub keep_jump : (z : ℕ) → y ≤ z → z ≤ N → ((x : ℕ) → y ≤ x → x < z → T (st (Q h) x) → U x → ⊥) → Keep st N s t m h z Q P U
  keep_jump z a l f = scanned (jump z (z - y) (omega arith) l f)

  pub keep_next : N ≤ y → Keep st N s t m (suc h) 0 Q P U
  keep_next l = record { scan = scan_next st N s t m h y Q P K.scan l; distinct = K.distinct; fresh = K.fresh; held = K.held }

  pub keep_end : m ≤ h → (p : List ℕ) → Walk st N s t p → ⊥
  keep_end l p w = scan_end st N s t m h y Q P K.scan l p w

  pub keep_so_far : Met st N s m h y Q P
  keep_so_far = scan_so_far st N s t m h y Q P K.scan K.distinct

  -- a node is found
  module _ (lh : h < m) (ly : y < N) (e : T (st (Q h) y)) (new : U y) where
    pub keep_room : m < N
    keep_room = distinct_le N (suc m) Q' (distinct_add m y Q Q' K.distinct same end (K.fresh y ly new)) (λ k l. inside k l (ℕ_discrete k m))
      where
        Q' : ℕ → ℕ
        Q' k = pick (ltb k m) (Q k) y

        same : (k : ℕ) → k < m → Q' k ≡ Q k
        same k l = pick_on (ltb k m) (Q k) y (lt→ltb k m l)

        end : Q' m ≡ y
        end = pick_off (ltb m m) (Q m) y (λ t. let l = ltb→lt m m t in omega arith)

        inside : (k : ℕ) → k < suc m → Dec (k ≡ m) → Q' k < N
        inside k l (yes q) = omega (arith, ap Q' q, end)
        inside k l (no q) = omega (arith, same k (omega arith), K.scan.inside k (omega arith))

    module _ (Q' P' : ℕ → ℕ) (same_q : (k : ℕ) → k < m → Q' k ≡ Q k) (same_p : (k : ℕ) → k < m → P' k ≡ P k) (at_q : Q' m ≡ y) (at_p : P' m ≡ h) where
      distinct' : Distinct (suc m) Q'
      distinct' = distinct_add m y Q Q' K.distinct same_q at_q (K.fresh y ly new)

      pub keep_met : Met st N s (suc m) h y Q' P'
      keep_met = scan_met st N s t m h y Q P K.scan Q' P' same_q same_p at_q at_p lh ly e distinct'

      -- no other node is the sink
      pub keep_other : (k : ℕ) → k < m → Q' k ≢ t
      keep_other k l q = K.scan.lacks k l (sym (same_q k l) ∙ q)

      pub keep_add : y ≢ t → (W : ℕ → Type 0) → ((x : ℕ) → x < N → x ≢ y → U x → W x) → ((x : ℕ) → x < N → W x → U x) → (W y → ⊥) → Keep st N s t (suc m) h (suc y) Q' P' W
      keep_add q W f g off = record {
        scan = scan_add st N s t m h y Q P K.scan Q' P' same_q same_p at_q at_p lh ly e q;
        distinct = distinct';
        fresh = λ x lx v k lk w. by x lx v k lk w (ℕ_discrete k m);
        held = λ x lx v. hold x lx v (ℕ_discrete x y);
      }
        where
          by : (x : ℕ) → x < N → W x → (k : ℕ) → k < suc m → Q' k ≡ x → Dec (k ≡ m) → ⊥
          by x lx v k lk w (yes b) = off (subst W (sym w ∙ ap Q' b ∙ at_q) v)
          by x lx v k lk w (no b) = K.fresh x lx (g x lx v) k (omega arith) (sym (same_q k (omega arith)) ∙ w)

          hold : (x : ℕ) → x < N → (W x → ⊥) → Dec (x ≡ y) → (k : ℕ) × (k < suc m) × (Q' k ≡ x)
          hold x lx v (yes a) = (m, le_refl (suc m), at_q ∙ sym a)
          hold x lx v (no a) =
              let k = K.held x lx (λ u. v (f x lx a u)) in
              (k.0, omega (arith, k.1), same_q k.0 k.1 ∙ k.2)
