-- Which pages a page selector takes (css-page-3, 3).
use Rattle.std.specs.Prelude.{ℕ, ◌==◌, Bool, true, false, not, ◌&&◌, ◌||◌, List, [], ◌∷◌, Option, None, Some}
use Rattle.std.specs.List.{flat_map}
use Rattle.std.specs.Str.{bytes_eq}
use Rattle.boxes.specs.Frames.{is_first, side_of, is_left}
use Rattle.boxes.specs.declared.frames.PageKind.{PageKind}
use Rattle.boxes.specs.declared.frames.PageKind.TheVariants.{Flow, Blank, Notes}
use Rattle.css_page.specs.declared.rules.PageRule.{PageRule}
use Rattle.css_page.specs.declared.selectors.PageSelector.{PageSelector}
use Rattle.page_ctx.specs.declared.classes.PageClasses.{PageClasses}

-- a page that a forced break leaves empty
abbrev pub is_blank : PageKind → Bool
is_blank Flow = false
is_blank Blank = true
is_blank Notes = false

-- the pseudo-classes of a page: page 1 is the first one, and sides alternate from a right page
abbrev pub classes_of : ℕ → PageKind → PageClasses
classes_of index kind = record { first = is_first index; left = is_left (side_of index); blank = is_blank kind }

-- a pseudo-class that stands in a selector must hold
abbrev pub holds_if : ℕ → Bool → Bool
holds_if count holds = (count == 0) || holds

-- a selector without a name takes each name; the text of no name is empty
abbrev pub takes_name : Option (List ℕ) → List ℕ → Bool
takes_name None name = true
takes_name (Some asked) name = bytes_eq asked name

-- a selector asks for a name
abbrev pub is_for : List ℕ → Option (List ℕ) → Bool
is_for name None = false
is_for name (Some asked) = bytes_eq asked name

-- a selector asks for no name
abbrev pub is_for_each : Option (List ℕ) → Bool
is_for_each None = true
is_for_each (Some asked) = false

-- a selector asks for a name, or, without one, for none
abbrev pub asks : Option (List ℕ) → Option (List ℕ) → Bool
asks None o = is_for_each o
asks (Some name) o = is_for name o

-- a page has each pseudo-class of a selector
abbrev pub takes_classes : PageSelector → PageClasses → Bool
takes_classes s c =
    (holds_if s.firsts c.first && holds_if s.blanks c.blank) &&
    (holds_if s.lefts c.left && holds_if s.rights (not c.left))

-- a selector takes the pages that have its name and each of its pseudo-classes
abbrev pub takes : PageSelector → List ℕ → PageClasses → Bool
takes s name c = takes_name s.name name && takes_classes s c

-- a name that is asked for, if any
abbrev pub name_in : Option (List ℕ) → List (List ℕ)
name_in None = []
name_in (Some name) = name ∷ []

-- the name that a selector asks for
abbrev pub asked_by : PageSelector → List (List ℕ)
asked_by s = name_in s.name

-- the names that selectors ask for
abbrev pub asked_in : List PageSelector → List (List ℕ)
asked_in selectors = flat_map asked_by selectors

-- the names that the selectors of rules ask for
abbrev pub all_asked : List PageRule → List (List ℕ)
all_asked rules = flat_map (λ r. asked_in r.selectors) rules
