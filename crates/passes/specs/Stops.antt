-- Why passes are not answered by a settled one.
use Rattle.std.specs.Prelude.{◌≡◌, ◌<◌, ◌≤◌, List}
use Rattle.bk_num.specs.Limits.{most_pages, most_text_bytes}
use Rattle.boxes.specs.declared.flow.Flow.{Flow}
use Rattle.box_gen.specs.Notes.{bytes_in}
use Rattle.box_gen.specs.declared.inline.BuildErr.{BuildErr}
use Rattle.box_gen.specs.declared.inline.BuildErr.TheVariants as by_build
use Rattle.dom.specs.Nodes.{Node}
use Rattle.fragment.specs.declared.paginate.PageErr.{PageErr}
use Rattle.fragment.specs.declared.paginate.PageErr.TheVariants as by_pages
use Rattle.gen_text.specs.declared.table.Entry.{Entry}
use Rattle.page_list.specs.Pages.{LeavesSome}
use Rattle.passes.specs.declared.settle.PassErr.{PassErr}
use Rattle.passes.specs.declared.settle.PassErr.TheVariants as err
use Rattle.passes.specs.Passes.{id_of}
use Rattle.passes.specs.Work.{Work, IsFlowUnder}

-- the answer where a flow is not built
abbrev pub of_build : BuildErr → PassErr
of_build by_build.Text = err.Text
of_build by_build.NoMemory = err.NoMemory

-- the answer where a flow has no pages
abbrev pub of_pages : PageErr → PassErr
of_pages by_pages.Pages = err.Pages
of_pages by_pages.NoMemory = err.NoMemory

-- the flow under a table has more text than is laid out
pub record HasLongFlow (w : Work) (table : List Entry) : Type 0 where
  pub flow : Flow
  pub is : IsFlowUnder w table flow
  pub much : most_text_bytes < bytes_in flow

-- the most frames leave something of it unplaced
pub record HasMorePages (w : Work) (table : List Entry) : Type 0 where
  pub flow : Flow
  pub is : IsFlowUnder w table flow
  pub fits : bytes_in flow ≤ most_text_bytes
  pub left : LeavesSome w.faces flow w.frames most_pages

-- why there is no pass under a table: it never is that two tables differ
abbrev pub Stops : Work → List Entry → PassErr → Type 0
Stops w table err.Text = HasLongFlow w table
Stops w table err.Pages = HasMorePages w table
Stops w table err.NoMemory = Unit {0}
Stops w table (err.NotSettled target before after) = ⊥

-- the answer where the last two tables have these entries for a target: its id with its two numbers, or memory runs out
abbrev pub IsNotSettled : List Node → Entry → Entry → PassErr → Type 0
IsNotSettled nodes a b (err.NotSettled target before after) = (target ≡ id_of nodes a.node.0) × (before ≡ a.number) ×
    (after ≡ b.number)
IsNotSettled nodes a b err.NoMemory = Unit {0}
IsNotSettled nodes a b err.Text = ⊥
IsNotSettled nodes a b err.Pages = ⊥
