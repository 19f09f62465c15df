-- What document 01 marks by a star: "Marked * are proved" ("Snapshots worked by hand").
--
--   Starred     the snapshots A to J, with K and L, as `table` of the verdict layer has them; and the age: "present 00000010 with issue FFFFFFF0 gives 32*"
use Rattle.std.specs.Prelude.{◌≡◌}
use Rattle.ticks.specs.Costs.{age_of}
use Rattle.verdict.specs.Worked.{Right, All, table}

abbrev pub Starred : Type 0
Starred = All Right table × ((age_of (record { 0 = 0x0000_0010 }) (record { 0 = 0xFFFF_FFF0 })).0 ≡ 32)
