-- Which notes are called before a place of the main tree (css-gcpm-3, 2.4: footnote calls).
use Rattle.std.specs.Prelude.{ℕ, suc, ◌==◌, nat_lt, List, Option, None, Some, length, if◌then◌else◌}
use Rattle.std.specs.List.{prefix_len}
use Rattle.boxes.specs.Tree.{Tree}
use Rattle.boxes.specs.declared.flow.Note.{Note}
use Rattle.boxes.specs.declared.place.Position.{Position}
use Rattle.page_seq.specs.Places.{anchor_of, is_before}
use Rattle.seams.specs.Runs.{solid_before}

-- the start of a tree
abbrev pub start_place : Position
start_place = record { event = 0; offset = 0 }

-- where a solid ends, by its event; the start of the tree without one
abbrev pub end_after : Option ℕ → Position
end_after None = start_place
end_after (Some event) = record { event = suc event; offset = 0 }

-- where the last solid before a place ends: at the place itself inside a leaf, else after the event of that solid; the
-- start where there is none
abbrev pub end_before : Tree → Position → Position
end_before t at = if nat_lt 0 at.offset then at else end_after (solid_before t at.event)

-- how many notes are called before a place, by the order of their calls. A call belongs to the line that holds it, else
-- to the next solid, else to the last one: it is called before a place if a solid before the place ends after the call.
-- All are called before the tree's end
abbrev pub called_before : Tree → List Note → Position → ℕ
called_before t notes at =
    if at.event == length t.events then length notes else prefix_len (λ n.
    is_before (anchor_of t n.call) (end_before t at)) notes
