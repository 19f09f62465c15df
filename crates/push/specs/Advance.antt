-- d pushed along one step from node a to node b, in the lists: F and G as in `Reading`, S the masks of the steps that have room.
--
--   Shiftable n F G a b d                         the flow on the step's arc can take d more, or d less where the step goes back
--   Shifted n a b d F G F' G'                     it has: drops and rises are the arc of a job, against and along it; along and against are a wait
--   with_step S a b, without_step S a b             the masks with and without the step from a to b
--   Advanceable costs wide F G S a b d            the step has room for d, and the masks have it
--   Advanced costs wide a b d F G S F' G' S'      d is pushed along it: the step has room no more where d was all of it, and the step back has room
use Rattle.std.specs.Prelude.{◌≡◌, ◌≢◌, List, ℕ, ◌+◌, ◌-◌, ◌*◌, ◌/◌, ◌%◌, ◌^◌, ◌<◌, ◌≤◌, length, set}
use Rattle.std.specs.Int.Bits.{bit_or, bit_xor}
use Rattle.bits.specs.Mask.{Has}
use Rattle.search.specs.Masks.{at}
use Rattle.push.specs.Reading.{reads, Readable}

pub record Shiftable (n : ℕ) (F G : List ℕ) (a b d : ℕ) : Type 0 where
  pub few : n ≤ 64
  pub size : n * n ≤ length F
  pub thru : length G ≡ 64
  pub from : a < 2 * n
  pub to : b < 2 * n
  pub dropped : a / 2 ≡ b / 2 → a % 2 ≡ 1 → d ≤ at G (a / 2)
  pub risen : a / 2 ≡ b / 2 → a % 2 ≢ 1 → at G (a / 2) + d < 2 ^ 64
  pub added : a / 2 ≢ b / 2 → a % 2 ≡ 1 → at F (a / 2 * n + b / 2) + d < 2 ^ 64
  pub lifted : a / 2 ≢ b / 2 → a % 2 ≢ 1 → d ≤ at F (b / 2 * n + a / 2)

pub data Shifted (n a b d : ℕ) (F G F' G' : List ℕ) : Type 0 where
  drops : a / 2 ≡ b / 2 → a % 2 ≡ 1 → F' ≡ F → G' ≡ set G (a / 2) (at G (a / 2) - d) → Shifted n a b d F G F' G'
  rises : a / 2 ≡ b / 2 → a % 2 ≢ 1 → F' ≡ F → G' ≡ set G (a / 2) (at G (a / 2) + d) → Shifted n a b d F G F' G'
  along : a / 2 ≢ b / 2 → a % 2 ≡ 1 → F' ≡ set F (a / 2 * n + b / 2) (at F (a / 2 * n + b / 2) + d) → G' ≡ G → Shifted n a b d F G F' G'
  against : a / 2 ≢ b / 2 → a % 2 ≢ 1 → F' ≡ set F (b / 2 * n + a / 2) (at F (b / 2 * n + a / 2) - d) → G' ≡ G → Shifted n a b d F G F' G'

unfoldable pub with_step : List ℕ → ℕ → ℕ → List ℕ
with_step S a b = set S a (bit_or (at S a) (2 ^ (b / 2)))

-- of masks that have it (`Advanceable`)
unfoldable pub without_step : List ℕ → ℕ → ℕ → List ℕ
without_step S a b = set S a (bit_xor (at S a) (2 ^ (b / 2)))

pub record Advanceable (costs : List ℕ) (wide : ℕ) (F G S : List ℕ) (a b d : ℕ) : Type 0 where
  pub readable : Readable costs wide F G a b
  pub allowed : d ≤ reads costs wide F G a b
  pub masks : length S ≡ 128
  pub there : Has (at S a) (b / 2)
  -- the capacities are numbers of 64 bits
  pub priced : at costs (a / 2) < 2 ^ 64
  pub bound : wide < 2 ^ 64

pub record Advanced (costs : List ℕ) (wide a b d : ℕ) (F G S F' G' S' : List ℕ) : Type 0 where
  pub shifted : Shifted (length costs) a b d F G F' G'
  pub filled : reads costs wide F G a b ≡ d → S' ≡ with_step (without_step S a b) b a
  pub partly : reads costs wide F G a b ≢ d → S' ≡ with_step S b a
