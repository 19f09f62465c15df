-- What `make_rounds` answers, as the numbers of `Flowed`: the sink's side where no path is left, or none where one is.
--
--   is_left sides              whether a path is left
--   ins_of sides, outs_of sides
--                              the masks of the jobs from whose in-node and out-node the sink is still reached, 0 where a path is left
use Rattle.std.specs.Prelude.{ℕ, Bool, true, false, Option, None, Some}
use Rattle.side.specs.declared.Sides.{Sides}

abbrev pub is_left : Option Sides → Bool
is_left None = true
is_left (Some s) = false

abbrev pub ins_of : Option Sides → ℕ
ins_of None = 0
ins_of (Some s) = s.ins

abbrev pub outs_of : Option Sides → ℕ
outs_of None = 0
outs_of (Some s) = s.outs
