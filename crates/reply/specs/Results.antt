-- What the text function gives, as the number that `Replied` has of it.
--
--   written_as result    how long the line is, or 0 where none is written
use Rattle.std.specs.Prelude.{ℕ, Option, None, Some}

abbrev pub written_as : Option ℕ → ℕ
written_as None = 0
written_as (Some length) = length
