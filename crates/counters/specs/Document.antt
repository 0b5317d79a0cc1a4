-- What a document does to its counters (CSS 2.1, 12.4 and 12.4.1; css-gcpm-3 on notes and named strings).
use Rattle.std.specs.Prelude.{ℕ, ◌+◌, ◌*◌, Bool, false, not, ◌&&◌, ◌==◌, if◌then◌else◌, List, [], ◌∷◌, ◌++◌, Option, None, Some, option_map, map, filter, length, slice_get, codes, ℤ, pos}
use Rattle.std.specs.Str.{bytes_eq}
use Rattle.std.specs.List.{position, flat_map}
use Rattle.bk_num.specs.declared.values.Pseudo.{Pseudo}
use Rattle.bk_num.specs.declared.values.Pseudo.TheVariants as pseudo
use Rattle.dom.specs.Nodes.{Node, parents_of, parent_at, IsTree}
use Rattle.dom.specs.Walk.{steps_of}
use Rattle.dom.specs.declared.walk.Step.{Step}
use Rattle.dom.specs.declared.walk.Step.TheVariants.{Enter, Leave}
use Rattle.style.specs.Counters.{is_page_counter}
use Rattle.style.specs.declared.content.Part.{Part}
use Rattle.style.specs.declared.content.Part.TheVariants as part
use Rattle.style.specs.declared.style.Style.{Style}
use Rattle.style.specs.Nodes.{NodeStyles, style_in}
use Rattle.counters.specs.declared.scopes.Act.{Act}
use Rattle.counters.specs.declared.scopes.Act.TheVariants as act
use Rattle.counters.specs.declared.scopes.CounterEvent.{CounterEvent}
use Rattle.counters.specs.Scopes.{AreNested, values_by}
use Rattle.counters.specs.Markers.{has_marker, list_item}
use Rattle.counters.specs.Numerals.{is_numeral}

-- ---- what a place does: names of counters with resets and increments

-- the resets of a list
abbrev pub resets_in : List (List ℕ × ℤ) → List (List ℕ × Act)
resets_in l = map (λ c. (c.0, act.Reset c.1)) l

-- the increments of a list
abbrev pub increments_in : List (List ℕ × ℤ) → List (List ℕ × Act)
increments_in l = map (λ c. (c.0, act.Add c.1)) l

-- a use: it resets the counter to 0 outside every scope, and adds nothing
abbrev pub use_of : List ℕ → List (List ℕ × Act)
use_of name = (name, act.Add (pos 0)) ∷ []

-- `counter()` and `counters()` use their counter; `target-counter()` uses none
abbrev pub uses_by : Part → List (List ℕ × Act)
uses_by (part.Counter name style) = use_of name
uses_by (part.Counters name between style) = use_of name
uses_by (part.Text t) = []
uses_by (part.Attr name) = []
uses_by (part.Target link name style) = []
uses_by part.Own = []
uses_by (part.Running name keyword) = []
uses_by (part.Page style) = []
uses_by (part.Pages style) = []

-- the counters that a content uses
abbrev pub uses_in : List Part → List (List ℕ × Act)
uses_in content = flat_map uses_by content

-- the same of a content that may be missing
abbrev pub uses_in_some : Option (List Part) → List (List ℕ × Act)
uses_in_some None = []
uses_in_some (Some content) = uses_in content

-- an element whose marker is a number uses `list-item`
abbrev pub marker_use : Bool → Style → List (List ℕ × Act)
marker_use root s =
    if has_marker root s && is_numeral s.list_style_type then use_of list_item else []

-- the counter of notes (css-gcpm-3, 2)
abbrev pub footnote : List ℕ
footnote = codes "footnote"

-- the root begins the notes' counter, and each note counts itself
abbrev pub note_start : Bool → List (List ℕ × Act)
note_start root = if root then (footnote, act.Reset (pos 0)) ∷ [] else []

-- a note element counts as one
abbrev pub note_count : Bool → List (List ℕ × Act)
note_count note = if note then (footnote, act.Add (pos 1)) ∷ [] else []

-- an element: resets, increments, the note's own, and uses by its named strings and its marker
abbrev pub by_element : Bool → Bool → Style → List (List ℕ × Act)
by_element root note s =
    note_start root ++ (resets_in s.counter_reset ++
    (increments_in s.counter_increment ++ (note_count note ++
    (flat_map (λ e. uses_in e.1) s.string_set ++ marker_use root s))))

-- a pseudo-element: resets, increments, and uses by its content
abbrev pub by_generated : Style → List (List ℕ × Act)
by_generated s = resets_in s.counter_reset ++ (increments_in s.counter_increment ++ uses_in_some s.content)

-- what an element or a pseudo-element does to counters by its style, in order
abbrev pub by_style : Bool → Bool → Pseudo → Option Style → List (List ℕ × Act)
by_style root note p None = []
by_style root note pseudo.Element (Some s) = by_element root note s
by_style root note pseudo.Before (Some s) = by_generated s
by_style root note pseudo.After (Some s) = by_generated s
by_style root note pseudo.Call (Some s) = by_generated s
by_style root note pseudo.Marker (Some s) = by_generated s

-- `page` counts pages, and isn't a counter of the document
abbrev pub not_page : List (List ℕ × Act) → List (List ℕ × Act)
not_page l = filter (λ c. not (is_page_counter c.0)) l

-- elements that aren't shown change no counter
abbrev pub changes_in : ℕ → Pseudo → Option NodeStyles → List (List ℕ × Act)
changes_in n p None = []
changes_in n p (Some r) = if r.shown then not_page (by_style (n == 0) r.note p (style_in r p)) else []

-- the same at a node
abbrev pub changes_at : List NodeStyles → ℕ → Pseudo → List (List ℕ × Act)
changes_at styles n p = changes_in n p (slice_get styles n)

-- ---- in document order

-- places are numbered in document order: four at each step into an element, itself, its call, its marker and its
-- `::before`, and its `::after` at the step out of it
abbrev pub place_number : Option ℕ → Option ℕ → Pseudo → Option ℕ
place_number into out pseudo.Element = option_map (λ i. 4 * i) into
place_number into out pseudo.Call = option_map (λ i. 4 * i + 1) into
place_number into out pseudo.Marker = option_map (λ i. 4 * i + 2) into
place_number into out pseudo.Before = option_map (λ i. 4 * i + 3) into
place_number into out pseudo.After = option_map (λ i. 4 * i) out

-- a step into a node
abbrev pub enters : ℕ → Step → Bool
enters n (Enter m) = m.0 == n
enters n (Leave m) = false

-- a step out of a node
abbrev pub leaves : ℕ → Step → Bool
leaves n (Enter m) = false
leaves n (Leave m) = m.0 == n

-- the steps into a node and out of it
abbrev pub into : List Step → ℕ → Option ℕ
into steps n = position (enters n) steps

-- the step out of a node
abbrev pub out_of : List Step → ℕ → Option ℕ
out_of steps n = position (leaves n) steps

-- where scopes end that begin at a node's children: after its last place, which is its `::after`
abbrev pub end_at : List Step → Option ℕ → ℕ
end_at steps None = 4 * length steps
end_at steps (Some i) = 4 * i + 1

-- the number after the last place within a node
abbrev pub end_in : List Step → ℕ → ℕ
end_in steps p = end_at steps (out_of steps p)

-- the number after the last place within a parent; under none, after the document's
abbrev pub end_under : List Step → Option ℕ → ℕ
end_under steps None = 4 * length steps
end_under steps (Some p) = end_in steps p

-- changes as events at a place
abbrev pub named : ℕ → ℕ → List (List ℕ × Act) → List (List ℕ × CounterEvent)
named at end changes = map (λ c. (c.0, record { at = at; end = end; act = c.1 })) changes

-- at a step into an element stand the element itself, its call, its marker and its `::before`, and at the step out of
-- it its `::after`. A pseudo-element counts as a child of its element
abbrev pub step_events : List (Option ℕ) → List NodeStyles → List Step → ℕ → Step → List (List ℕ × CounterEvent)
step_events ps styles steps i (Enter n) =
    named (4 * i) (end_under steps (parent_at ps n.0)) (changes_at styles n.0 pseudo.Element) ++
    (named (4 * i + 1) (end_in steps n.0) (changes_at styles n.0 pseudo.Call) ++
    (named (4 * i + 2) (end_in steps n.0) (changes_at styles n.0 pseudo.Marker) ++
    named (4 * i + 3) (end_in steps n.0) (changes_at styles n.0 pseudo.Before)))
step_events ps styles steps i (Leave n) = named (4 * i) (end_in steps n.0) (changes_at styles n.0 pseudo.After)

-- the events of steps from the i-th on
abbrev pub events_from : List (Option ℕ) → List NodeStyles → List Step → ℕ → List Step → List (List ℕ × CounterEvent)
events_from ps styles steps i [] = []
events_from ps styles steps i (s ∷ rest) = step_events ps styles steps i s ++ events_from ps styles steps (i + 1) rest

-- all events of a document, and those of one counter
abbrev pub document_events : List Node → List NodeStyles → List (List ℕ × CounterEvent)
document_events nodes styles = events_from (parents_of nodes) styles (steps_of nodes) 0 (steps_of nodes)

-- the events of one counter
abbrev pub events_of : List Node → List NodeStyles → List ℕ → List CounterEvent
events_of nodes styles name = map (λ e. e.1) (filter (λ e. bytes_eq e.0 name) (document_events nodes styles))

-- the values of a counter at a place; 0 alone where there is none
abbrev pub values_up_to : List CounterEvent → Option ℕ → List ℤ
values_up_to events None = pos 0 ∷ []
values_up_to events (Some k) = values_by events k

-- the values of a counter at an element or a pseudo-element, the outermost scope first
abbrev pub values_of : List Node → List NodeStyles → ℕ → Pseudo → List ℕ → List ℤ
values_of nodes styles n p name =
    values_up_to (events_of nodes styles name) (place_number (into (steps_of nodes) n) (out_of (steps_of nodes) n) p)

-- ---- law

-- the events of each counter are in document order
abbrev pub EventsAreNested : Type 0
EventsAreNested =
    (nodes : List Node) (styles : List NodeStyles) (name : List ℕ) → IsTree nodes →
    AreNested (events_of nodes styles name)
