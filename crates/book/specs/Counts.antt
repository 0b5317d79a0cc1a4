-- The line that tells the counts of a sample book.
use Rattle.std.specs.Prelude.{ℕ, ◌+◌, Bool, true, false, List, [], ◌∷◌, codes, count_by, decimal}
use Rattle.std.specs.List.{flat_map, sum_by}
use Rattle.boxes.specs.declared.page.Page.{Page}
use Rattle.boxes.specs.declared.page.SolidKind.{SolidKind}
use Rattle.boxes.specs.declared.page.SolidKind.TheVariants as kind

-- whether a solid is a line
abbrev pub is_line : SolidKind → Bool
is_line kind.Line = true
is_line (kind.OpenEdge box) = false
is_line (kind.CloseEdge box) = false

-- how many lines stand on a page, in its flow and in its notes
abbrev pub lines_on : Page → ℕ
lines_on page = count_by (λ solid. is_line solid.kind) page.solids + count_by (λ note. is_line note.1.kind) page.notes

-- how many lines stand on these pages
abbrev pub lines_of : List Page → ℕ
lines_of pages = sum_by lines_on pages

-- `sample N: P pages, L lines, M notes, R references, K passes`, text by text
abbrev pub counts_texts : ℕ → ℕ → ℕ → ℕ → ℕ → ℕ → List (List ℕ)
counts_texts chapters pages lines notes references passes =
    codes "sample " ∷ decimal chapters ∷ codes ": " ∷ decimal pages ∷ codes " pages, " ∷ decimal lines
    ∷ codes " lines, " ∷ decimal notes ∷
    codes " notes, " ∷ decimal references ∷ codes " references, " ∷ decimal passes ∷ codes " passes\n" ∷ []

-- the line of counts that `sample` writes
unfoldable pub counts_line : ℕ → ℕ → ℕ → ℕ → ℕ → ℕ → List ℕ
counts_line chapters pages lines notes references passes =
    flat_map (λ t. t) (counts_texts chapters pages lines notes references passes)
