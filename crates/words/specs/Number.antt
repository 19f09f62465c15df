-- What is read at a place.
--
--   Number    a number, and the place behind it
use Rattle.std.specs.Prelude.{ℕ}

pub record Number : Type 0 where
  pub value : ℕ
  pub next : ℕ
