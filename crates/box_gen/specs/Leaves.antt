-- The leaves of inline text.
use Rattle.std.specs.Prelude.{◌≡◌, ℕ, ◌≤◌, List, length}
use Rattle.bk_num.specs.declared.ids.FaceId.{FaceId}
use Rattle.bk_num.specs.Limits.{most_text_bytes}
use Rattle.boxes.specs.declared.leaf.Leaf.{Leaf}
use Rattle.boxes.specs.declared.leaf.Lead.{Lead}
use Rattle.boxes.specs.declared.leaf.Span.{Span}
use Rattle.boxes.specs.Contents.{AreSpans}
use Rattle.inline_text.specs.Passed.{HasPassed}
use Rattle.inline_text.specs.Places.{opportunities_of, emergencies_of}
use Rattle.style.specs.declared.style.Style.{Style}
use Rattle.box_gen.specs.declared.leaf.LeafStyle.{LeafStyle}
use Rattle.box_gen.specs.declared.leaf.RunPass.{RunPass}
use Rattle.box_gen.specs.declared.leaf.RunText.{RunText}
use Rattle.box_gen.specs.Items.{InlineItem}
use Rattle.box_gen.specs.Runs.{marks_in, parts_in}
use Rattle.box_gen.specs.TextStyles.{span_by, text_style_of}

-- what a block of a style gives to the leaves in it: its strut (CSS 2.1, 10.8.1), the indent of the first line (16.1),
-- how lines are aligned (16.2), and whether they are chosen for a paragraph as a whole
abbrev pub leaf_style_of : Style → FaceId → LeafStyle
leaf_style_of s face = record {
  strut = text_style_of s s.white_space face;
  indent = s.text_indent;
  align = s.text_align;
  fit = s.book_fill;
}

-- the leaf of a text in a block, with the markers that hang before its first line
unfoldable pub leaf_by : List ℕ → List Span → LeafStyle → List Lead → Leaf
leaf_by text spans block leads = record {
  text = text;
  spans = spans;
  places = opportunities_of text spans;
  graphemes = emergencies_of text spans;
  leads = leads;
  indent = block.indent;
  align = block.align;
  fit = block.fit;
  strut = span_by block.strut 0 (length text);
}

-- spans cover the text of a run, none of them empty, and it isn't too long
pub record IsGoodRun (run : RunText) : Type 0 where
  pub spans : AreSpans run.text 0 run.spans
  pub few : length run.spans ≤ length run.text
  pub short : length run.text ≤ most_text_bytes

-- the pass over a run has come past these items
pub record HasRun (p : RunPass) (items : List InlineItem) : Type 0 where
  pub parts : HasPassed p.collapser (parts_in items)
  pub marks : p.marks.items ≡ marks_in items
