-- On which page an element begins, by its place in the page list (css-gcpm-3, "target-counter()"; footnotes by 2).
use Rattle.std.specs.Prelude.{ℕ, List, Option, None, Some, slice_get, unwrap_or}
use Rattle.boxes.specs.declared.flow.Flow.{Flow}
use Rattle.boxes.specs.declared.flow.Note.{Note}
use Rattle.boxes.specs.declared.flow.Start.{Start}
use Rattle.boxes.specs.declared.page.Page.{Page}
use Rattle.page_seq.specs.Noted.{begins_on}
use Rattle.page_seq.specs.Places.{page_of}

-- what stands in a note begins on the page of the note's first solid, and where no page has one, on that of the note's
-- call
abbrev pub page_of_note : Flow → List Page → ℕ → Note → ℕ
page_of_note flow pages n note = unwrap_or (begins_on pages n) (page_of flow.main pages note.call)

-- a place whose note isn't one of the flow is taken as one of the main tree
abbrev pub page_in_note : Flow → List Page → Start → ℕ → Option Note → ℕ
page_in_note flow pages s n None = page_of flow.main pages s.at
page_in_note flow pages s n (Some note) = page_of_note flow pages n note

-- the page of a start: that of its place, or that of the note in which it stands
abbrev pub page_within : Flow → List Page → Start → Option ℕ → ℕ
page_within flow pages s None = page_of flow.main pages s.at
page_within flow pages s (Some n) = page_in_note flow pages s n (slice_get flow.notes n)

-- the page on which an element begins: outside notes that of the solid to which its start belongs, in a note that of
-- the note
abbrev pub page_of_start : Flow → List Page → Start → ℕ
page_of_start flow pages s = page_within flow pages s s.note
