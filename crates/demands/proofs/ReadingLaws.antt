-- Demand 1 of the reader: every text is read with one result, whatever lists are lent.
-- Assumes nothing.
--
--   reading_exists    there is a result that meets the reader's statement; with `read_unique`: exactly one
use mathlib.Core.Path.{◌≡◌, refl, sym, subst}
use mathlib.Core.List.{List}
use Prim.Native.Nat.{ℕ, ◌<◌, ◌≤◌}
use native.Mathlib.Omega.{arith}
use native.Mathlib.Decide.{ℕ_discrete}
use lib.ListN.{length, get_or}
use Rattle.walks.proofs.Distance.{patched_exists}
use Rattle.frames.specs.Fields.{header_at}
use Rattle.refusals.specs.Refused.{refusal_of}
use Rattle.refusals.proofs.UnrefusedLaws.{unrefused_any, unrefused_whole}
use Rattle.reader.specs.Reading.{Reading as Snapshot}
use Rattle.reader.specs.Snapshots.{RowOf, CostOf, Filled, IsRead}
use Rattle.reply.proofs.TotalLaws.{given_exists}

-- a list filled with numbers that are right
filled : (P : ℕ → ℕ → Type 0) (n : ℕ) (given before : List ℕ) → n ≤ length before → ((j : ℕ) → j < n → P j (get_or given j 0)) → (after : List ℕ) × Filled P n before after
filled P n given before l h =
    let z = patched_exists n (λ j. get_or given j 0) before l in
    (z.0, record { same = z.1.size; each = λ j m. subst (P j) (let e : get_or given j 0 ≡ get_or z.0 j 0 = sym (z.1.first j m) in e) (h j m); rest = z.1.rest })

module _ (text rows costs : List ℕ) where
  abbrev Some : Type 0
  Some = (r : Snapshot) × (x : List ℕ) × (y : List ℕ) × IsRead text rows costs x y r

  pub reading_exists : (r : Snapshot) × (x : List ℕ) × (y : List ℕ) × IsRead text rows costs x y r
  reading_exists = go (ℕ_discrete (refusal_of (length rows) (length costs) text).number 0)
    where
      go : Dec ((refusal_of (length rows) (length costs) text).number ≡ 0) → Some
      go (no e) = (
        record { refusal = refusal_of (length rows) (length costs) text; n = 0; t = 0; allowance = 0 },
        rows,
        costs,
        record {
          refusal = refl;
          kept = λ h. (refl, refl, refl, refl, refl);
          header = λ h. absurd (e h);
          rowed = λ h. absurd (e h);
          priced = λ h. absurd (e h);
        },
      )
      go (yes e) =
          let u = unrefused_any (length rows) (length costs) text e in
          let n = (header_at text 0).n in
          let few : (header_at text 0).n ≤ 64 = (unrefused_whole text u.0).ranged.n.1 in
          let g = given_exists text u.0 in
          let x = filled (RowOf (header_at text 0) text) n g.0 rows (omega (arith, few, u.1)) g.2.row in
          let y = filled (CostOf (header_at text 0) text) n g.1 costs (omega (arith, few, u.2)) g.2.cost in (
            record { refusal = refusal_of (length rows) (length costs) text; n = (header_at text 0).n; t = (header_at text 0).t; allowance = (header_at text 0).allowance },
            x.0,
            y.0,
            record {
              refusal = refl;
              kept = λ h. absurd (h e);
              header = λ h. (refl, refl, refl);
              rowed = λ h. x.1;
              priced = λ h. y.1;
            },
          )
