-- Lists that a loop passes, and the number of collapsed texts.
use Rattle.std.proofs.Common.{◌≡◌, ◌∙◌, ℕ, suc, ◌+◌, ◌<◌, true, false, List, [], ◌∷◌, map, length, drop, get_or, refl, sym, ap, Option}
use Rattle.std.proofs.lemmas.List.{drop_more, length-map}
use Rattle.inline_text.specs.Joined.{ends_from}
use Rattle.inline_text.proofs.EndLemmas.{NextText, next-text}
use Rattle.inline_text.specs.Space.{Char, appended, collapsed, spelled, placed, squeezed, trimmed, chars_from}
use Rattle.inline_text.specs.declared.space.TextPart.{TextPart}
use Rattle.inline_text.proofs.JoinedLemmas.{appended-length}
use Rattle.soft_hyphens.specs.Words.{Points}
use Rattle.box_gen.specs.Items.{InlineItem}
use Rattle.box_gen.specs.Items as item
use Rattle.box_gen.specs.Runs.{autos_in, printed_in, parts_in, marks_in, styles_in}
use Rattle.box_gen.proofs.HyphenLemmas.{hyphenated-length}

placed-length : (ts : List (List ℕ)) (cs : List Char) → length (placed ts cs) ≡ length ts
placed-length ts [] = refl
placed-length ts (c ∷ cs) = placed-length (appended ts c.part (spelled c.class c.code)) cs ∙ appended-length ts c.part (spelled c.class c.code)

styles-length : (items : List InlineItem) → length (parts_in items) ≡ length (styles_in (marks_in items))
styles-length [] = refl
styles-length (item.Text t ∷ items) = ap suc (styles-length items)
styles-length (item.Start n ∷ items) = styles-length items

-- one text is left for each text, and one printed
pub collapsed-length : (items : List InlineItem) → length (collapsed (parts_in items)) ≡ length (styles_in (marks_in items))
collapsed-length items = placed-length (map (λ (p : TextPart). []) (parts_in items)) (squeezed true (trimmed false (chars_from 0 (parts_in items)))) ∙ length-map (parts_in items) (λ (p : TextPart). []) ∙ styles-length items

pub printed-length : (points : Option Points) (items : List InlineItem) → length (printed_in points items) ≡ length (styles_in (marks_in items))
printed-length points items = hyphenated-length points (autos_in items) (collapsed (parts_in items)) ∙ collapsed-length items

-- a text ends where the next one begins
pub ends-step : (ts : List (List ℕ)) (ends : List ℕ) (next at : ℕ) → next < length ends → drop next ends ≡ ends_from at (drop next ts) → NextText ts next at (get_or ends next 0) (drop (next + 1) ends)
ends-step ts ends next at l h = next-text ts next at (get_or ends next 0) (drop (next + 1) ends) (sym (drop_more ends next 0 l) ∙ h)
