-- Parts and steps of the reader as contracts see them.
use Rattle.std.specs.Prelude.{◌≡◌, ◌++◌, ℕ, List, option_map}
use Rattle.css_rules.specs.Decls.{decl_in}
use Rattle.unread_list.specs.Lines.{left_in}
use Rattle.unread_list.specs.Parts.{PartOf, Selectors, PageSelectors, Declaration, AtRule, Media, NoBlock, PlacedOf, StepOf}
use Rattle.unread_list.specs.declared.reader.Lines.{Lines}
use Rattle.unread_list.specs.declared.part.Part.{Part}
use Rattle.unread_list.specs.declared.part.Part.TheVariants as part
use Rattle.unread_list.specs.declared.part.Placed.{Placed}
use Rattle.unread_list.specs.declared.part.Step.{Step}

-- a part by the bytes of its texts
abbrev pub part_in : Part → PartOf
part_in (part.Selectors text) = Selectors text.now
part_in (part.PageSelectors text selectors) = PageSelectors text.now selectors.now
part_in (part.Declaration o text d) = Declaration o text.now (option_map decl_in d)
part_in (part.AtRule text) = AtRule text.now
part_in (part.Media text) = Media text.now
part_in (part.NoBlock text) = NoBlock text.now

-- a part and its line
abbrev pub placed_in : Placed → PlacedOf
placed_in p = record { line = p.line; part = part_in p.part }

-- a text begins with another
pub record BeginsWith (text front : List ℕ) : Type 0 where
  pub rest : List ℕ
  pub is : text ≡ front ++ rest

-- a step was made from one place to another
pub record IsStep (s : StepOf) (r : Step) (now : Lines) : Type 0 where
  pub part : option_map placed_in r.part ≡ s.part
  pub state : r.state ≡ s.state
  pub rest : left_in now ≡ s.rest
