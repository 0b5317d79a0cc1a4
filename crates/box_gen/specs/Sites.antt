-- What is built so far, as the code keeps it.
use Rattle.std.specs.Prelude.{◌≡◌, ◌≤◌, ◌<◌, ℕ, suc, ◌+◌, ◌==◌, Bool, true, false, List, [], ◌∷◌, ◌++◌, length, IsTrue, if◌then◌else◌}
use Rattle.std.specs.List.{All}
use Rattle.bk_num.specs.Limits.{most_events, most_text_bytes}
use Rattle.boxes.specs.declared.leaf.Leaf.{Leaf}
use Rattle.boxes.specs.declared.leaf.Span.{Span}
use Rattle.boxes.specs.declared.props.BoxProps.{BoxProps}
use Rattle.boxes.specs.Contents.{IsGoodSpan}
use Rattle.boxes.specs.Tree.{HaveOwners, takes_box, takes_leaf, with_box, with_leaf}
use Rattle.box_gen.specs.declared.inline.InlineStart.{InlineStart}
use Rattle.box_gen.specs.declared.leaf.LeafStyle.{LeafStyle}
use Rattle.box_gen.specs.declared.put.Site.{Site}
use Rattle.box_gen.specs.declared.put.TreeRoom.{TreeRoom}
use Rattle.box_gen.specs.Flow.{Built, built, shut, starts_by}
use Rattle.box_gen.specs.Leaves.{leaf_by}

-- what is built, as the definitions have it
abbrev pub built_in : Site → Built
built_in site = built site.tree site.starts.items site.pending.items

-- how many bytes the texts of leaves have
abbrev pub leaf_bytes : List Leaf → ℕ
leaf_bytes [] = 0
leaf_bytes (l ∷ ls) = length l.text + leaf_bytes ls

-- the room of a tree is no more than that of a flow
pub record IsGoodRoom (room : TreeRoom) : Type 0 where
  pub bytes : room.bytes ≤ most_text_bytes
  pub events : room.events ≤ most_events

-- the bytes of the leaves are counted, and not too many
pub record IsCounted (site : Site) : Type 0 where
  pub count : site.bytes ≡ leaf_bytes site.tree.leaves
  pub few : site.bytes ≤ site.room.bytes
  pub most : site.room.bytes ≤ most_text_bytes

-- a tree is within its room
pub record IsWithinRoom (site : Site) : Type 0 where
  pub bytes : IsCounted site
  pub events : length site.tree.events ≤ site.room.events
  pub most : site.room.events ≤ most_events

-- a tree has room for the events of a step, of which there are four at most
pub record HasRoom (site : Site) : Type 0 where
  pub few : length site.tree.events < 7999990
  pub left : length site.tree.events + 10 < site.room.events

-- a step may be taken: the tree is within its room, which has place for its events
pub record TakesStep (site : Site) : Type 0 where
  pub within : IsWithinRoom site
  pub room : HasRoom site

-- a run may be put into a tree, in an anonymous box or not: it has room for more events, a box or a leaf may stand
-- there, and the markers that wait are those of open boxes and of no negative size
pub record TakesRun (wrap : Bool) (site : Site) : Type 0 where
  pub few : length site.tree.events < 7999990
  pub place : IsTrue (if wrap then takes_box site.tree.events else takes_leaf site.tree.events)
  pub owners : HaveOwners site.tree.events site.pending.items
  pub leads : All (λ lead. IsGoodSpan lead.span) site.pending.items

-- a leaf of a text with its spans is put, in an anonymous box or not, in which elements begin
abbrev pub with_text : Bool → LeafStyle → BoxProps → Built → List ℕ → List Span → List InlineStart → Built
with_text true look anonymous b text spans starts =
    built (shut (with_leaf (with_box b.tree anonymous) (leaf_by text spans look b.pending)))
    (b.starts ++ starts_by (suc (length b.tree.events)) starts) []
with_text false look anonymous b text spans starts = built (with_leaf b.tree (leaf_by text spans look b.pending))
    (b.starts ++ starts_by (length b.tree.events) starts) []

-- the same, unless the text is empty
abbrev pub with_any : Bool → LeafStyle → BoxProps → Built → List ℕ → List Span → List InlineStart → Built
with_any wrap look anonymous b text spans starts = if length text == 0 then
    built b.tree (b.starts ++ starts_by (length b.tree.events) starts) b.pending
    else with_text wrap look anonymous b text spans starts
