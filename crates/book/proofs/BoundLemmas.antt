-- Pages that settled are pages of their flow, within the bounds of what is painted.
use Rattle.std.proofs.Common.{◌-◌, ℕ, ℤ, List, [], ◌∷◌, get_or, sym, subst}
use Rattle.std.proofs.lemmas.List.Elements.{All-cons, All-nil}
use Rattle.std.specs.List.{All}
use Rattle.columns.specs.Steps.{column_below}
use Rattle.bk_num.specs.declared.ids.NameId.{NameId}
use Rattle.boxes.specs.Frames.{IsGoodFrame, PageFrames, column_at, page_at}
use Rattle.boxes.specs.Steps.{IsRun}
use Rattle.boxes.specs.declared.flow.Flow.{Flow}
use Rattle.boxes.specs.declared.frames.PageKind.{PageKind}
use Rattle.boxes.specs.declared.frames.PageKind.TheVariants as kind
use Rattle.boxes.specs.declared.page.Page.{Page}
use Rattle.boxes.specs.declared.table.PageRow.{PageRow}
use Rattle.columns.specs.Columns.{AreColumns, column_frames}
use Rattle.columns.proofs.NearLemmas.{near_frame}
use Rattle.gen_text.specs.declared.table.Entry.{Entry}
use Rattle.metrics.specs.Face.{FontFace}
use Rattle.page_list.specs.Pages.{AreNear, HaveNearTops, IsEnded, IsStep, State, name_at, start_of}
use Rattle.page_list.specs.Pages.IsStep.{blank, flows, noted}
use Rattle.page_seq.specs.Frames.{frame_of as page_frame_of}
use Rattle.page_seq.specs.GoodFrames.{good_frame}
use Rattle.note_list.specs.Conditions.{CanBePaged}
use Rattle.page_list.proofs.NoteRunLemmas.{paged_notes}
use Rattle.page_list.proofs.PartLemmas.{paged_parts}
use Rattle.paint.specs.Bounds.{IsBoundedPage}
use Rattle.paint.specs.Order.{IsPageOf}
use Rattle.passes.specs.Passes.{End, EndsIn, IsLast, settled, unsettled, long, many, settles, differs, too_long, too_many}
use Rattle.passes.specs.Work.{Work}
use Rattle.book.proofs.ColumnLemmas.{good_column}
use Rattle.book.proofs.OrderLemmas.{pages_of_flow}

-- each frame is a good one
abbrev pub HasGoodFrames : PageFrames → Type 0
HasGoodFrames frames = (index : ℕ) (name : NameId) (which : PageKind) → IsGoodFrame (frames.frame_of index name which)

pub table_good : (count : ℕ) (gap : ℤ) (rows : List PageRow) → AreColumns rows count gap → HasGoodFrames (column_frames rows count gap)
table_good count gap rows are index name which = good_column count (column_at count index) gap (page_frame_of rows (page_at count index) name which) are.per (column_below count index are.per.low) are.gap_low are.gap_high (good_frame rows are.table (page_at count index) name which) (near_frame rows are.near (page_at count index) name which)

-- ---- the frames of a page list
module _ (faces : List FontFace) (flow : Flow) (frames : PageFrames) (good : HasGoodFrames frames) where
  step_good : (s : State) (p : Page) (u : State) → IsStep faces flow frames s p u → IsGoodFrame p.frame
  step_good s p u (blank going misses p_is u_is) = subst (λ (q : Page). IsGoodFrame q.frame) (sym p_is) (good s.index (name_at flow.main s.at) kind.Blank)
  step_good s p u (flows going meets cut is p_is u_is) = subst (λ (q : Page). IsGoodFrame q.frame) (sym p_is) (good s.index (name_at flow.main s.at) kind.Flow)
  step_good s p u (noted done some notes left is p_is u_is) = subst (λ (q : Page). IsGoodFrame q.frame) (sym p_is) (good s.index s.name kind.Notes)

  frames_on : (s : State) (pages : List Page) → IsRun (IsStep faces flow frames) IsEnded s pages → All (λ (p : Page). IsGoodFrame p.frame) pages
  frames_on s [] r = All-nil (λ (p : Page). IsGoodFrame p.frame)
  frames_on s (p ∷ pages) r = All-cons (λ (p : Page). IsGoodFrame p.frame) p pages (step_good s p r.0 r.1) (frames_on r.0 pages r.2)

-- ---- the pages
pages_bounded : (pages : List Page) → All (λ (p : Page). IsGoodFrame p.frame) pages → HaveNearTops pages → All IsBoundedPage pages
pages_bounded pages frames tops = λ k d low.
    let page : Page = get_or pages k d in
    let near : AreNear page.solids page.notes = tops k d low in
    record {
      frame = frames k d low;
      solids = near.0;
      notes = near.1;
    }

abbrev PagesEnd : Work → End → Type 0
PagesEnd w (settled passes flow pages table) = CanBePaged w.faces flow → HaveNearTops pages → All (IsPageOf flow) pages
PagesEnd w (unsettled target before after) = Unit {0}
PagesEnd w long = Unit {0}
PagesEnd w many = Unit {0}

end_pages : (w : Work) → HasGoodFrames w.frames → (limit k : ℕ) (table : List Entry) (end : End) → IsLast w limit k table end → PagesEnd w end
end_pages w good limit k table _ (settles flow pages pass) = λ can tops. pages_of_flow flow pages (pages_bounded pages (frames_on w.faces flow w.frames good (start_of flow.main) pages pass.paged) tops) (paged_parts w.faces flow w.frames can pages pass.paged) (paged_notes w.faces flow w.frames pages can pass.paged)
end_pages w good limit k table _ (differs a b u n s place d x y) = tt
end_pages w good limit k table _ (too_long flow is much) = tt
end_pages w good limit k table _ (too_many flow is fits left) = tt

pub are_pages : (w : Work) (limit passes : ℕ) (flow : Flow) (pages : List Page) (table : List Entry) → EndsIn w limit (settled passes flow pages table) → HasGoodFrames w.frames → CanBePaged w.faces flow → HaveNearTops pages → All (IsPageOf flow) pages
are_pages w limit passes flow pages table (k, below, t, o, last) good can tops = end_pages w good limit k t (settled passes flow pages table) last can tops
