-- What a run of inline text is made of.
use Rattle.std.specs.Prelude.{ℕ, ◌<◌, List, Option, Some, option_map, slice_get}
use Rattle.std.specs.List.{filter_map}
use Rattle.bk_num.specs.declared.ids.NodeId.{NodeId}
use Rattle.gen_text.specs.Texts.{generated_text, source_in}
use Rattle.inline_text.specs.declared.space.TextPart.{TextPart}
use Rattle.box_gen.specs.declared.inline.GeneratedText.{GeneratedText}
use Rattle.box_gen.specs.declared.inline.InlineText.{InlineText}
use Rattle.box_gen.specs.declared.inline.InlineText.TheVariants as inline
use Rattle.box_gen.specs.declared.inline.StyledText.{StyledText}
use Rattle.box_gen.specs.declared.run.RunEntry.{RunEntry}
use Rattle.box_gen.specs.declared.run.RunEntry.TheVariants as entry

-- a text, or a place at which an inline element begins
pub data InlineItem : Type 0 where
  Text : StyledText → InlineItem
  Start : NodeId → InlineItem

-- what a pseudo-element prints, and how its white space is treated
abbrev pub generated_part : GeneratedText → TextPart
generated_part g = record { text = generated_text (source_in g.texts.now) g.node.0 g.pseudo; space = g.space }

-- a text of a run, where one that is generated is made
abbrev pub text_in : InlineText → StyledText
text_in (inline.Own t) = t
text_in (inline.Generated g) = record { part = generated_part g; style = g.style }

-- what comes next in a run, by its texts
abbrev pub item_in : List StyledText → RunEntry → Option InlineItem
item_in texts (entry.Text k) = option_map Text (slice_get texts k)
item_in texts (entry.Start n) = Some (Start n)

-- the items of a run, by its texts
abbrev pub items_in : List StyledText → List RunEntry → List InlineItem
items_in texts entries = filter_map (item_in texts) entries

-- a text is one of so many
abbrev pub IsTextOf : ℕ → RunEntry → Type 0
IsTextOf count (entry.Text k) = k < count
IsTextOf count (entry.Start n) = Unit {0}
