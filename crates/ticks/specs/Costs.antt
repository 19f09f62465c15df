-- Age and cost (document 01, "Waits and costs"): "Ticks and submitted operations stay apart until the weights turn both into cost."
--
--   age_of present issue          "the present tick minus the tick at which the job's present run was issued, both in 32 bits, subtracted modulo 2^32"
--   cost_of a b operations age    "Cost = a × N + b × age"
use Rattle.std.specs.Prelude.{ℕ, ◌+◌, ◌-◌, ◌*◌, ◌%◌, ◌^◌}
use Rattle.ticks.specs.declared.Ticks.{Ticks}
use Rattle.ticks.specs.declared.Operations.{Operations}

unfoldable pub age_of : Ticks → Ticks → Ticks
age_of present issue = record { 0 = (present.0 + 2 ^ 32 - issue.0) % 2 ^ 32 }

unfoldable pub cost_of : ℕ → ℕ → Operations → Ticks → ℕ
cost_of a b operations age = a * operations.0 + b * age.0
