-- The rest of a paragraph, after the end of a line.
use Rattle.std.specs.Prelude.{◌≡◌, ℕ, ◌+◌, ◌-◌, ◌<◌, ◌≤◌, ℤ, ◌-ℤ◌, List, drop, length, map}
use Rattle.total_fit.specs.declared.plan.Stop.{Stop}
use Rattle.total_fit.specs.declared.plan.Measures.{Measures}
use Rattle.total_fit.specs.Lines.{hyphen_cost, stop_of, width_of}

-- stops whose lines are those between the stops from e on: e is their start, there are as many of them, and each line
-- is as wide and costs as much for its hyphen
pub record AreRest (stops : List Stop) (e : ℕ) (later : List Stop) : Type 0 where
  pub some : 0 < e
  pub count : e + length later ≡ length stops
  pub widths : (i j : ℕ) → i < j → j ≤ length later → width_of later i j ≡ width_of stops (e + i) (e + j)
  pub hyphens : (j : ℕ) → 0 < j → j ≤ length later →
      hyphen_cost (stop_of later j).hyphen ≡ hyphen_cost (stop_of stops (e + j)).hyphen

-- a stop with its widths measured from a later place on
abbrev pub stop_from : ℤ → Stop → Stop
stop_from by s = record { seen = s.seen -ℤ by; hyphen = s.hyphen; next = s.next -ℤ by }

-- the stops after a stop, with their widths measured from where the line begins that begins there
abbrev pub stops_after : List Stop → ℕ → List Stop
stops_after stops e = map (stop_from (stop_of stops e).next) (drop e stops)

-- the measures of the rest: none of its lines is the paragraph's first
abbrev pub measures_after : Measures → Measures
measures_after measures = record { first = measures.rest; rest = measures.rest }

-- ends with the numbers that stops have after a stop
abbrev pub ends_after : ℕ → List ℕ → List ℕ
ends_after e ends = map (λ j. j - e) ends
