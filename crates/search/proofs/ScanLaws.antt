-- The search in breadth over any steps: what holds while it goes on, the moves of its nested scan over place and neighbour, and what it comes to.
-- m places are met; the neighbours of the places before h have been scanned, and of place h those below y.
-- Assumes nothing.
--
--   Scan st N s t m h y Q P                        it, place by place
--   scan_start                                     the source alone is met
--   scan_skip, scan_seen, scan_next                no step to y; y is met already; all neighbours of place h are scanned
--   scan_add                                       y is met, and is not the sink
--   scan_so_far, scan_met                          what is met before and after y is met
--   scan_end                                       no place is left, so no path is left
use mathlib.Core.Path.{◌≡◌, sym, ap, ◌∙◌, subst}
use mathlib.Core.Logic.{◌⊎◌, inl, inr, ◌≢◌}
use mathlib.Core.Bool.{Bool}
use mathlib.Core.List.{List, [], ◌∷◌}
use Prim.Native.Nat.{ℕ, suc, ◌≤◌, ◌<◌, zero-le, suc-le-suc}
use native.Mathlib.Nat.{not-suc-le-zero, le_refl}
use native.Mathlib.Decide.{ℕ_discrete}
use native.Mathlib.Omega.{arith}
use lib.Dec.{T}
use Rattle.walks.specs.Walk.{Walk}
use Rattle.search.specs.Sought.{Met}

pub record Scan (st : ℕ → ℕ → Bool) (N s t m h y : ℕ) (Q P : ℕ → ℕ) : Type 0 where
  pub some : 0 < m
  pub start : Q 0 ≡ s
  pub lacks : (k : ℕ) → k < m → Q k ≢ t
  pub inside : (k : ℕ) → k < m → Q k < N
  pub parent : (i : ℕ) → 0 < i → i < m → P i < i
  pub along : (i : ℕ) → 0 < i → i < m → T (st (Q (P i)) (Q i))
  pub late : (i : ℕ) → 0 < i → i < m → (P i < h) ⊎ ((P i ≡ h) × (Q i < y))
  pub order : (i j : ℕ) → 0 < i → i < j → j < m → (P i < P j) ⊎ ((P i ≡ P j) × (Q i < Q j))
  pub complete : (j x : ℕ) → j < m → (j < h) ⊎ ((j ≡ h) × (x < y)) → x < N → T (st (Q j) x) → (k : ℕ) × (k < m) × (Q k ≡ x) × ((k ≡ 0) ⊎ (P k ≤ j))

-- the start: the source alone is found
pub scan_start : (st : ℕ → ℕ → Bool) (N s t : ℕ) (Q P : ℕ → ℕ) → s < N → s ≢ t → Q 0 ≡ s → Scan st N s t 1 0 0 Q P
scan_start st N s t Q P l ne e = record {
  some = le_refl 1;
  start = e;
  lacks = λ k h q. ne (sym e ∙ (let z : 0 ≡ k = omega arith in ap Q z) ∙ q);
  inside = λ k h. let z : k ≡ 0 = omega arith in subst (λ (i : ℕ). i < N) (sym e ∙ ap Q (sym z)) l;
  parent = λ i p h. absurd (omega arith);
  along = λ i p h. absurd (omega arith);
  late = λ i p h. absurd (omega arith);
  order = λ i j p q h. absurd (omega arith);
  complete = λ j x h o. no j x o;
}
  where
    no : (j x : ℕ) → (j < 0) ⊎ ((j ≡ 0) × (x < 0)) → x < N → T (st (Q j) x) → (k : ℕ) × (k < 1) × (Q k ≡ x) × ((k ≡ 0) ⊎ (P k ≤ j))
    no j x (inl a) = absurd (not-suc-le-zero a)
    no j x (inr a) = absurd (not-suc-le-zero a.1)

module _ (st : ℕ → ℕ → Bool) (N s t m h y : ℕ) (Q P : ℕ → ℕ) (S : Scan st N s t m h y Q P) where
  -- there is no step to y
  pub scan_skip : (T (st (Q h) y) → ⊥) → Scan st N s t m h (suc y) Q P
  scan_skip f = record {
    some = S.some;
    start = S.start;
    lacks = S.lacks;
    inside = S.inside;
    parent = S.parent;
    along = S.along;
    order = S.order;
    late = λ i p l. wide (S.late i p l);
    complete = λ j x l o lx w. go j x l o lx w;
  }
    where
      wide : {A B : Type 0} {a : ℕ} → A ⊎ (B × (a < y)) → A ⊎ (B × (a < suc y))
      wide (inl z) = inl z
      wide (inr z) = inr (z.0, (let q = z.1 in omega arith))

      go : (j x : ℕ) → j < m → (j < h) ⊎ ((j ≡ h) × (x < suc y)) → x < N → T (st (Q j) x) → (k : ℕ) × (k < m) × (Q k ≡ x) × ((k ≡ 0) ⊎ (P k ≤ j))
      go j x l (inl o) lx w = S.complete j x l (inl o) lx w
      go j x l (inr o) lx w = by (ℕ_discrete x y)
        where
          by : Dec (x ≡ y) → (k : ℕ) × (k < m) × (Q k ≡ x) × ((k ≡ 0) ⊎ (P k ≤ j))
          by (yes e) = absurd (f (subst (λ (z : ℕ). T (st z y)) (ap Q o.0) (subst (λ (z : ℕ). T (st (Q j) z)) e w)))
          by (no e) = S.complete j x l (inr (o.0, (let q = o.1 in omega arith))) lx w

  -- y is found already
  pub scan_seen : (k : ℕ) → k < m → Q k ≡ y → Scan st N s t m h (suc y) Q P
  scan_seen k lk e = record {
    some = S.some;
    start = S.start;
    lacks = S.lacks;
    inside = S.inside;
    parent = S.parent;
    along = S.along;
    order = S.order;
    late = λ i p l. wide (S.late i p l);
    complete = λ j x l o lx w. go j x l o lx w;
  }
    where
      wide : {A B : Type 0} {a : ℕ} → A ⊎ (B × (a < y)) → A ⊎ (B × (a < suc y))
      wide (inl z) = inl z
      wide (inr z) = inr (z.0, (let q = z.1 in omega arith))

      from : (j : ℕ) → j ≡ h → (k ≡ 0) ⊎ (P k ≤ j)
      from j q = by (ℕ_discrete k 0)
        where
          late_le : (P k < h) ⊎ ((P k ≡ h) × (Q k < y)) → P k ≤ j
          late_le (inl z) = omega arith
          late_le (inr z) = omega (arith, z.0)

          by : Dec (k ≡ 0) → (k ≡ 0) ⊎ (P k ≤ j)
          by (yes z) = inl z
          by (no z) = inr (late_le (S.late k (omega arith) lk))

      go : (j x : ℕ) → j < m → (j < h) ⊎ ((j ≡ h) × (x < suc y)) → x < N → T (st (Q j) x) → (k : ℕ) × (k < m) × (Q k ≡ x) × ((k ≡ 0) ⊎ (P k ≤ j))
      go j x l (inl o) lx w = S.complete j x l (inl o) lx w
      go j x l (inr o) lx w = by (ℕ_discrete x y)
        where
          by : Dec (x ≡ y) → (k : ℕ) × (k < m) × (Q k ≡ x) × ((k ≡ 0) ⊎ (P k ≤ j))
          by (yes q) = (k, lk, e ∙ sym q, from j o.0)
          by (no q) = S.complete j x l (inr (o.0, (let z = o.1 in omega arith))) lx w

  -- all neighbours of place h are scanned
  pub scan_next : N ≤ y → Scan st N s t m (suc h) 0 Q P
  scan_next l = record {
    some = S.some;
    start = S.start;
    lacks = S.lacks;
    inside = S.inside;
    parent = S.parent;
    along = S.along;
    order = S.order;
    late = λ i p q. inl (before (S.late i p q));
    complete = λ j x q o lx w. go j x q o lx w;
  }
    where
      before : {i : ℕ} → (P i < h) ⊎ ((P i ≡ h) × (Q i < y)) → P i < suc h
      before (inl z) = omega arith
      before (inr z) = omega (arith, z.0)

      go : (j x : ℕ) → j < m → (j < suc h) ⊎ ((j ≡ suc h) × (x < 0)) → x < N → T (st (Q j) x) → (k : ℕ) × (k < m) × (Q k ≡ x) × ((k ≡ 0) ⊎ (P k ≤ j))
      go j x q (inr o) lx w = absurd (not-suc-le-zero o.1)
      go j x q (inl o) lx w = by (ℕ_discrete j h)
        where
          by : Dec (j ≡ h) → (k : ℕ) × (k < m) × (Q k ≡ x) × ((k ≡ 0) ⊎ (P k ≤ j))
          by (yes e) = S.complete j x q (inr (e, omega arith)) lx w
          by (no e) = S.complete j x q (inl (omega arith)) lx w

  -- what is met so far
  pub scan_so_far : ((i j : ℕ) → i < j → j < m → Q i ≢ Q j) → Met st N s m h y Q P
  scan_so_far distinct = record {
    start = S.start;
    inside = S.inside;
    distinct = distinct;
    parent = S.parent;
    along = S.along;
    order = S.order;
    late = λ i p l. by i (S.late i p l);
    complete = S.complete;
  }
    where
      by : (i : ℕ) → (P i < h) ⊎ ((P i ≡ h) × (Q i < y)) → (P i < h) ⊎ ((P i ≡ h) × (Q i ≤ y))
      by i (inl z) = inl z
      by i (inr z) = inr (z.0, (let q = z.1 in omega arith))

  -- no place is left: no path is left
  pub scan_end : m ≤ h → (p : List ℕ) → Walk st N s t p → ⊥
  scan_end l p w = go 0 S.some p (subst (λ (z : ℕ). Walk st N z t p) (sym S.start) w)
    where
      go : (k : ℕ) → k < m → (p : List ℕ) → Walk st N (Q k) t p → ⊥
      go k lk [] v = S.lacks k lk v
      go k lk (x ∷ p) v =
          let f = S.complete k x lk (inl (omega arith)) v.0 v.1 in
          go f.0 f.1 p (subst (λ (z : ℕ). Walk st N z t p) (sym f.2) v.2)

  -- ---- a node is found: the lists get one place more

  module _ (Q' P' : ℕ → ℕ) (same_q : (k : ℕ) → k < m → Q' k ≡ Q k) (same_p : (k : ℕ) → k < m → P' k ≡ P k) (at_q : Q' m ≡ y) (at_p : P' m ≡ h)
      (lh : h < m) (ly : y < N) (stp : T (st (Q h) y)) where
    inside' : (k : ℕ) → k < suc m → Q' k < N
    inside' k l = by (ℕ_discrete k m)
      where
        by : Dec (k ≡ m) → Q' k < N
        by (yes e) = omega (arith, ap Q' e, at_q)
        by (no e) = omega (arith, same_q k (omega arith), S.inside k (omega arith))

    parent' : (i : ℕ) → 0 < i → i < suc m → P' i < i
    parent' i p l = by (ℕ_discrete i m)
      where
        by : Dec (i ≡ m) → P' i < i
        by (yes e) = omega (arith, ap P' e, at_p)
        by (no e) = omega (arith, same_p i (omega arith), S.parent i p (omega arith))

    along' : (i : ℕ) → 0 < i → i < suc m → T (st (Q' (P' i)) (Q' i))
    along' i p l = by (ℕ_discrete i m)
      where
        by : Dec (i ≡ m) → T (st (Q' (P' i)) (Q' i))
        by (yes e) =
            let a : P' i ≡ h = ap P' e ∙ at_p in
            let b : Q' (P' i) ≡ Q h = ap Q' a ∙ same_q h lh in
            let c : Q' i ≡ y = ap Q' e ∙ at_q in
            rw (b, c) stp
        by (no e) =
            let li : i < m = omega arith in
            let a : P' i ≡ P i = same_p i li in
            let lp : P i < m = omega (arith, S.parent i p li) in
            let b : Q' (P' i) ≡ Q (P i) = ap Q' a ∙ same_q (P i) lp in
            rw (b, same_q i li) (S.along i p li)

    order' : (i j : ℕ) → 0 < i → i < j → j < suc m → (P' i < P' j) ⊎ ((P' i ≡ P' j) × (Q' i < Q' j))
    order' i j p l q = by (ℕ_discrete j m)
      where
        li : i < m
        li = omega arith

        last : j ≡ m → (P i < h) ⊎ ((P i ≡ h) × (Q i < y)) → (P' i < P' j) ⊎ ((P' i ≡ P' j) × (Q' i < Q' j))
        last e (inl z) = inl (omega (arith, same_p i li, ap P' e, at_p))
        last e (inr z) = inr (omega (arith, same_p i li, ap P' e, at_p, z.0), omega (arith, same_q i li, ap Q' e, at_q, z.1))

        old : j < m → (P i < P j) ⊎ ((P i ≡ P j) × (Q i < Q j)) → (P' i < P' j) ⊎ ((P' i ≡ P' j) × (Q' i < Q' j))
        old lj (inl z) = inl (omega (arith, same_p i li, same_p j lj))
        old lj (inr z) = inr (omega (arith, same_p i li, same_p j lj, z.0), omega (arith, same_q i li, same_q j lj, z.1))

        by : Dec (j ≡ m) → (P' i < P' j) ⊎ ((P' i ≡ P' j) × (Q' i < Q' j))
        by (yes e) = last e (S.late i p li)
        by (no e) = old (omega arith) (S.order i j p l (omega arith))

    start' : Q' 0 ≡ s
    start' = same_q 0 S.some ∙ S.start

    -- a place found before, in the new lists
    carry : (j : ℕ) {x : ℕ} → ((k : ℕ) × (k < m) × (Q k ≡ x) × ((k ≡ 0) ⊎ (P k ≤ j))) → (k : ℕ) × (k < suc m) × (Q' k ≡ x) × ((k ≡ 0) ⊎ (P' k ≤ j))
    carry j f = (f.0, omega (arith, f.1), same_q f.0 f.1 ∙ f.2, by f.3)
      where
        by : (f.0 ≡ 0) ⊎ (P f.0 ≤ j) → (f.0 ≡ 0) ⊎ (P' f.0 ≤ j)
        by (inl z) = inl z
        by (inr z) = inr (omega (arith, same_p f.0 f.1))

    -- it is met, be it the sink or not
    pub scan_met : ((i j : ℕ) → i < j → j < suc m → Q' i ≢ Q' j) → Met st N s (suc m) h y Q' P'
    scan_met distinct = record {
      start = start';
      inside = inside';
      distinct = distinct;
      parent = parent';
      along = along';
      order = order';
      late = λ i p l. by i p l (ℕ_discrete i m);
      complete = λ j x l o lx w. all j x o lx w;
    }
      where
        by : (i : ℕ) → 0 < i → i < suc m → Dec (i ≡ m) → (P' i < h) ⊎ ((P' i ≡ h) × (Q' i ≤ y))
        by i p l (yes e) = inr (ap P' e ∙ at_p, omega (arith, ap Q' e, at_q))
        by i p l (no e) = old (omega arith) (S.late i p (omega arith))
          where
            old : i < m → (P i < h) ⊎ ((P i ≡ h) × (Q i < y)) → (P' i < h) ⊎ ((P' i ≡ h) × (Q' i ≤ y))
            old li (inl z) = inl (omega (arith, same_p i li))
            old li (inr z) = inr (same_p i li ∙ z.0, omega (arith, same_q i li, z.1))

        below : (j x : ℕ) → (j < h) ⊎ ((j ≡ h) × (x < y)) → j < m
        below j x (inl o) = omega arith
        below j x (inr o) = omega (arith, o.0)

        all : (j x : ℕ) → (j < h) ⊎ ((j ≡ h) × (x < y)) → x < N → T (st (Q' j) x) → (k : ℕ) × (k < suc m) × (Q' k ≡ x) × ((k ≡ 0) ⊎ (P' k ≤ j))
        all j x o lx w = carry j (S.complete j x (below j x o) o lx (subst (λ (z : ℕ). T (st z x)) (same_q j (below j x o)) w))

    -- it is another node, not found before
    pub scan_add : y ≢ t → Scan st N s t (suc m) h (suc y) Q' P'
    scan_add ne = record {
      some = suc-le-suc zero-le;
      start = start';
      lacks = λ k l q. by k l q (ℕ_discrete k m);
      inside = inside';
      parent = parent';
      along = along';
      order = order';
      late = λ i p l. end i p l (ℕ_discrete i m);
      complete = λ j x l o lx w. go j x l o lx w;
    }
      where
        by : (k : ℕ) → k < suc m → Q' k ≡ t → Dec (k ≡ m) → ⊥
        by k l q (yes z) = ne (sym at_q ∙ ap Q' (sym z) ∙ q)
        by k l q (no z) = S.lacks k (omega arith) (sym (same_q k (omega arith)) ∙ q)

        end : (i : ℕ) → 0 < i → i < suc m → Dec (i ≡ m) → (P' i < h) ⊎ ((P' i ≡ h) × (Q' i < suc y))
        end i p l (yes e) = inr (ap P' e ∙ at_p, omega (arith, ap Q' e, at_q))
        end i p l (no e) = old (omega arith) (S.late i p (omega arith))
          where
            old : i < m → (P i < h) ⊎ ((P i ≡ h) × (Q i < y)) → (P' i < h) ⊎ ((P' i ≡ h) × (Q' i < suc y))
            old li (inl z) = inl (omega (arith, same_p i li))
            old li (inr z) = inr (same_p i li ∙ z.0, omega (arith, same_q i li, z.1))

        at_h : (j x : ℕ) → j ≡ h → x < suc y → x < N → T (st (Q' j) x) → Dec (x ≡ y) → (k : ℕ) × (k < suc m) × (Q' k ≡ x) × ((k ≡ 0) ⊎ (P' k ≤ j))
        at_h j x e lx ln w (yes q) = (m, le_refl (suc m), at_q ∙ sym q, inr (omega (arith, at_p)))
        at_h j x e lx ln w (no q) =
            carry j (S.complete j x (omega arith) (inr (e, omega arith)) ln (subst (λ (z : ℕ). T (st z x)) (same_q j (omega arith)) w))

        go : (j x : ℕ) → j < suc m → (j < h) ⊎ ((j ≡ h) × (x < suc y)) → x < N → T (st (Q' j) x) → (k : ℕ) × (k < suc m) × (Q' k ≡ x) × ((k ≡ 0) ⊎ (P' k ≤ j))
        go j x l (inl o) lx w = carry j (S.complete j x (omega arith) (inl o) lx (subst (λ (z : ℕ). T (st z x)) (same_q j (omega arith)) w))
        go j x l (inr o) lx w = at_h j x o.0 o.1 lx w (ℕ_discrete x y)
