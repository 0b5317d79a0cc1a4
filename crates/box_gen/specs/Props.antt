-- The boxes of blocks, and anonymous boxes (CSS 2.1, 9.2.1 and 9.2.1.1).
use Rattle.std.specs.Prelude.{ℕ, [], ◌∷◌, Option, None, Some, Bool, false, ◌&&◌}
use Rattle.bk_num.specs.declared.ids.NodeId.{NodeId}
use Rattle.boxes.specs.declared.props.BoxProps.{BoxProps}
use Rattle.style.specs.declared.style.Style.{Style}
use Rattle.style.specs.Styles.{child_style}

-- a box of a style, and the element that it is the box of; in a note its edges never stand again (css-break-3, 5.4)
abbrev pub props_by : Bool → Style → Option NodeId → BoxProps
props_by clones s node = record {
  margin = s.margin_top ∷ s.margin_right ∷ s.margin_bottom ∷ s.margin_left ∷ [];
  border = s.border_top_width ∷ s.border_right_width ∷ s.border_bottom_width ∷ s.border_left_width ∷ [];
  padding = s.padding_top ∷ s.padding_right ∷ s.padding_bottom ∷ s.padding_left ∷ [];
  width = s.width;
  before = s.break_before;
  after = s.break_after;
  avoid_inside = s.break_inside;
  clones = clones && s.box_decoration_break;
  widows = s.widows;
  orphans = s.orphans;
  name = s.page;
  background = s.background_color;
  colors = s.border_top_color ∷ s.border_right_color ∷ s.border_bottom_color ∷ s.border_left_color ∷ [];
  node = node;
}

-- the box of a block element, which may be one whose edges stand again
abbrev pub props_of : Bool → Style → ℕ → BoxProps
props_of clones s n = props_by clones s (Some (record { 0 = n }))

-- an anonymous box in a block of this style: it has the style of a child without declarations
abbrev pub anonymous_props : Style → BoxProps
anonymous_props s = props_by false (child_style s) None
