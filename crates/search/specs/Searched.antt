-- What a search answers: the place of the sink in the queue, or that no path is left.
--
--   Searched steps s t qs₀ ps₀ qs ps r    `Sought` at the place that r names, which is not place 0, or at 0 where r is none
use Rattle.std.specs.Prelude.{List, ℕ, ◌<◌, Option, None, Some}
use Rattle.search.specs.Sought.{Sought}

abbrev pub Searched : List ℕ → ℕ → ℕ → List ℕ → List ℕ → List ℕ → List ℕ → Option ℕ → Type 0
Searched steps s t qs₀ ps₀ qs ps None = Sought steps s t qs₀ ps₀ qs ps 0
Searched steps s t qs₀ ps₀ qs ps (Some e) = (0 < e) × Sought steps s t qs₀ ps₀ qs ps e
