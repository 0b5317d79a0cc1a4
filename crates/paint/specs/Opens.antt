-- The boxes that are open at a place of a tree, with the places of their contents and border boxes (CSS 2.1, 10.3.3).
use Rattle.std.specs.Prelude.{◌≡◌, ◌≤◌, ◌^◌, ◌*◌, ◌+◌, ◌≤ℤ◌, pos, neg_ℤ, ℕ, suc, ℤ, ◌+ℤ◌, List, [], ◌∷◌, ◌++◌, ◌==◌, Some, length, slice_get, if◌then◌else◌}
use Rattle.bk_num.specs.Limits.{most_open}
use Rattle.bk_num.specs.declared.sides.BoxSide.TheVariants as side
use Rattle.boxes.specs.declared.props.BoxProps.{BoxProps}
use Rattle.boxes.specs.Spans.{frame_at, left_in_block, span_along, width_in_block}
use Rattle.boxes.specs.Tree.{Tree, open_before}
use Rattle.boxes.specs.declared.span.Content.{Content}
use Rattle.paint.specs.declared.item.SolidOrigin.{SolidOrigin}
use Rattle.paint.specs.declared.opens.PlacedBox.{PlacedBox}

-- a content box by its left and its width
abbrev pub content_of : ℤ × ℤ → Content
content_of span = record { left = span.0; width = span.1 }

-- the left and the width of a content box
abbrev pub pair_of : Content → ℤ × ℤ
pair_of c = (c.left, c.width)

-- the content of the innermost of some boxes, each in the next one, in a frame of a width; the frame's where there is
-- none
abbrev pub content_along : Tree → ℤ → List ℕ → Content
content_along t measure boxes = content_of (span_along t.boxes measure boxes)

-- a containing block is from 0 to 2^40 units wide
pub record IsWide (c : Content) : Type 0 where
  pub low : pos 0 ≤ℤ c.width
  pub high : c.width ≤ℤ pos (2 ^ 40)

-- a containing block begins within 2^60 units of the frame's left
pub record IsNear (c : Content) : Type 0 where
  pub low : neg_ℤ (pos (2 ^ 60)) ≤ℤ c.left
  pub high : c.left ≤ℤ pos (2 ^ 60)

-- the content of the innermost of n boxes in a frame from 0 to 2^30 units wide: each is at most 2^28 units wider than
-- the one around it, and begins at most 2^42 units beside it
pub record IsContentWithin (n : ℕ) (c : Content) : Type 0 where
  pub low : pos 0 ≤ℤ c.width
  pub high : c.width ≤ℤ pos (2 ^ 30 + 2 ^ 28 * n)
  pub left_low : neg_ℤ (pos (2 ^ 42 * n)) ≤ℤ c.left
  pub left_high : c.left ≤ℤ pos (2 ^ 42 * n)

-- at most 2,048 boxes are open one in another, and the contents of all, the outermost first, are so bounded
pub record AreBoxesWithin (opens : List PlacedBox) : Type 0 where
  pub few : length opens ≤ most_open
  pub each :
      (k : ℕ) (open_box : PlacedBox) → slice_get opens k ≡ Some open_box → IsContentWithin (suc k) open_box.content

-- some boxes that are open one in another, the outermost first
abbrev pub opens_of : Tree → ℤ → List ℕ → List PlacedBox
opens_of t measure [] = []
opens_of t measure (b ∷ boxes) =
    opens_of t measure boxes ++ record { number = b; content = content_along t measure (b ∷ boxes) } ∷ []

-- the boxes that are open before an event, the outermost first
pub record AreOpen (t : Tree) (o : SolidOrigin) (at : ℕ) (opens : List PlacedBox) : Type 0 where
  pub are : opens ≡ opens_of t o.width (open_before t.events at)
  pub bounded : AreBoxesWithin opens

-- the boxes from one of them on, which is then the innermost; none where it isn't among them
abbrev pub boxes_from : ℕ → List ℕ → List ℕ
boxes_from b [] = []
boxes_from b (x ∷ boxes) = if x == b then x ∷ boxes else boxes_from b boxes

-- the left of the content of a box that is open before an event
abbrev pub open_left : Tree → SolidOrigin → ℕ → ℕ → ℤ
open_left t o at b = (content_along t o.width (boxes_from b (open_before t.events at))).left

-- the width of the border box of a box in a containing block of a width
abbrev pub border_width : BoxProps → ℤ → ℤ
border_width p width = width_in_block p width +ℤ (frame_at p side.Left width +ℤ frame_at p side.Right width)

-- the left and the width of the border box of a box in a containing block: its left margin stands before it
unfoldable pub border_in : BoxProps → Content → Content
border_in p outer = record { left = outer.left +ℤ left_in_block p outer.width; width = border_width p outer.width }
