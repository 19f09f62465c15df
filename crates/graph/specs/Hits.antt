-- Masks of jobs, one for each job of a set, and which of them name a marked job: a step back along waits, or along the steps of a network.
--
--   Gatherable masks k first jobs      each job u of the set has its mask in the list, at place k × u + first
--   Hits masks k first jobs marked u   u is one of the jobs, and its mask names a marked job
use Rattle.std.specs.Prelude.{List, ℕ, ◌+◌, ◌*◌, ◌<◌, length, get_or}
use Rattle.bits.specs.Mask.{Has}

pub record Gatherable (masks : List ℕ) (k first jobs : ℕ) : Type 0 where
  pub place : (u : ℕ) → Has jobs u → k * u + first < length masks

pub record Hits (masks : List ℕ) (k first jobs marked u : ℕ) : Type 0 where
  pub member : Has jobs u
  pub other : ℕ
  pub named : Has (get_or masks (k * u + first) 0) other
  pub hit : Has marked other
