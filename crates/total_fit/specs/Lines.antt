-- The lines between the stops of a paragraph: how wide they are, which of them fit, and what each costs.
use Rattle.std.specs.Prelude.{◌≡◌, ℕ, ◌+◌, ◌-◌, ◌*◌, ◌^◌, ◌≤◌, ◌==◌, ℤ, pos, ◌+ℤ◌, ◌-ℤ◌, ◌≤ℤ◌, unsigned_abs}
use Rattle.std.specs.Prelude.{List, length, slice_index_or, Option, Some, None, if◌then◌else◌}
use Rattle.std.specs.List.{All}
use Rattle.std.specs.Int.{int_max}
use Rattle.std.specs.Ordering.{int_eq}
use Rattle.bk_num.specs.Numbers.{IsWithin}
use Rattle.total_fit.specs.declared.plan.Stop.{Stop}
use Rattle.total_fit.specs.declared.plan.Measures.{Measures}

pub record IsGoodStop (stop : Stop) : Type 0 where
  pub seen : IsWithin (2 ^ 60) stop.seen
  pub hyphen : IsWithin (2 ^ 60) stop.hyphen
  pub next : IsWithin (2 ^ 60) stop.next

-- the most stops of a paragraph that is planned as a whole: a longer one is filled line by line
abbrev pub most_stops : ℕ
most_stops = 4096

-- the stops of a paragraph, in order: its legal breakpoints, and its end as the last one
pub record AreGoodStops (stops : List Stop) : Type 0 where
  pub some : 1 ≤ length stops
  pub few : length stops ≤ most_stops
  pub each : All IsGoodStop stops

pub record AreGoodMeasures (measures : Measures) : Type 0 where
  pub first : IsWithin (2 ^ 41) measures.first
  pub rest : IsWithin (2 ^ 41) measures.rest

abbrev pub no_stop : Stop
no_stop = record { seen = pos 0; hyphen = pos 0; next = pos 0 }

-- the stop of a number; stops are numbered from 1, and 0 is the paragraph's start
abbrev pub stop_of : List Stop → ℕ → Stop
stop_of stops j = slice_index_or stops (j - 1) no_stop

-- where a line begins that begins at a stop, or at the start
abbrev pub begin_of : List Stop → ℕ → ℤ
begin_of stops i = if i == 0 then pos 0 else (stop_of stops i).next

-- the measure of a line that begins there
abbrev pub measure_of : Measures → ℕ → ℤ
measure_of measures i = if i == 0 then measures.first else measures.rest

-- how far a line that ends at a stop reaches, with the hyphen that it shows
abbrev pub reach_of : Stop → ℤ
reach_of stop = stop.seen +ℤ stop.hyphen

-- the width of the line from one stop to another
unfoldable pub width_of : List Stop → ℕ → ℕ → ℤ
width_of stops i j = int_max (pos 0) (reach_of (stop_of stops j) -ℤ begin_of stops i)

-- whether the line from one stop to another is no wider than its measure
unfoldable pub Fits : List Stop → Measures → ℕ → ℕ → Type 0
Fits stops measures i j = width_of stops i j ≤ℤ measure_of measures i

-- what a line costs for the hyphen at its end
abbrev pub hyphen_cost : ℤ → ℕ
hyphen_cost hyphen = if int_eq hyphen (pos 0) then 0 else 1048576

abbrev pub square : ℕ → ℕ
square n = n * n

-- the cost of the line from one stop to another, its demerits: the square of what is left of its measure, and what its
-- hyphen costs; nothing for the paragraph's last line
unfoldable pub cost_of : List Stop → Measures → ℕ → ℕ → ℕ
cost_of stops measures i j =
    if j == length stops then 0
    else (square (unsigned_abs (measure_of measures i -ℤ width_of stops i j)) + hyphen_cost (stop_of stops j).hyphen)

-- the cost of a line that fits, and None for one that doesn't
abbrev pub IsLineCost : List Stop → Measures → ℕ → ℕ → Option ℕ → Type 0
IsLineCost stops measures i j None = Fits stops measures i j → ⊥
IsLineCost stops measures i j (Some cost) = Fits stops measures i j × (cost ≡ cost_of stops measures i j)
