-- Where the lines of a text start, as long as nothing refuses them: behind frames of their due length.
-- Assumes nothing.
--
--   place_at h j          behind the header and j job frames, each with its line feed
--   place_small          it is below 4,000
--   place_header         the first job frame starts behind a header that nothing refuses
--   place_next           the next one starts behind a job frame that nothing refuses
--   job_start            where job j's line starts, by the lines before it
use mathlib.Core.Path.{◌≡◌, ap, subst}
use mathlib.Core.List.{List}
use Prim.Native.Nat.{ℕ, suc, ◌+◌, ◌*◌, ◌-◌, ◌≤◌}
use native.Mathlib.Nat.{mul-le-mul}
use native.Mathlib.Omega.{arith}
use lib.ListN.{length}
use Rattle.text.specs.Line.{line_at}
use Rattle.frames.specs.declared.Header.{Header}
use Rattle.frames.specs.Kinds.{header_digits, job_digits}
use Rattle.faults.specs.HeaderFault.{header_fault}
use Rattle.faults.specs.JobFault.{job_fault}
use Rattle.faults.proofs.RangeLaws.{header_length, job_length}
use Rattle.refusals.specs.Places.{next_line, start_of, job_line, job_place}

abbrev pub place_at : Header → ℕ → ℕ
place_at h j = header_digits + 1 + j * (job_digits h.s + 1)

pub place_small : (h : Header) (j : ℕ) → h.s ≤ 16 → j ≤ 64 → place_at h j ≤ 4000
place_small h j b a = let w : 20 + 2 * h.s + 1 ≤ 53 = omega arith in omega (arith, mul-le-mul a w)

pub job_start : (h : Header) (t : List ℕ) (j : ℕ) → job_place h t j ≡ start_of t (suc j)
unfolding job_place job_line
job_start h t j = ap (start_of t) (let e : j + 2 - 1 ≡ suc j = omega arith in e)

pub place_header : (h : Header) (t : List ℕ) → header_fault t 0 ≡ 0 → job_place h t 0 ≡ place_at h 0
unfolding start_of next_line
place_header h t e = let l = header_length t 0 e in let s = job_start h t 0 in omega (arith, s, l)

pub place_next : (h : Header) (t : List ℕ) (j : ℕ) → job_place h t j ≡ place_at h j → job_fault h t j (job_place h t j) ≡ 0 → job_place h t (suc j) ≡ place_at h (suc j)
unfolding start_of next_line
place_next h t j e f =
    let l = job_length h t j (job_place h t j) f in
    let p = job_start h t j in
    let q = job_start h t (suc j) in
    let m : length (line_at t (start_of t (suc j))) ≡ 20 + 2 * h.s = subst (λ (x : ℕ). length (line_at t x) ≡ job_digits h.s) p l in
    omega (arith, p, q, m, e)
