-- One column is the frame of its page.
use Rattle.std.proofs.Common.{◌≡◌, ℕ, ◌+◌, ◌-◌, ◌*◌, ◌/◌, ℤ, pos, negsuc, ◌≤ℤ◌, ◌+ℤ◌, ◌-ℤ◌, ◌*ℤ◌, List, Bool, refl, sym, ap, ◌∙◌, arith}
use Rattle.std.specs.Int.{int_max}
use Rattle.std.proofs.lemmas.Int.{ints, clamps}
use Rattle.bk_num.specs.Units.{floor_div}
use Rattle.std.proofs.Math.Path.{fun_ext}
use Rattle.bk_num.specs.declared.ids.NameId.{NameId}
use Rattle.boxes.specs.Frames.{PageFrames, column_at, meets_by, meets_by_parity, page_at}
use Rattle.boxes.specs.Sides.{parity_by_page}
use Rattle.boxes.specs.declared.frames.Demand.{Demand}
use Rattle.boxes.specs.declared.frames.PageKind.{PageKind}
use Rattle.boxes.specs.declared.table.PageRow.{PageRow}
use Rattle.boxes.specs.declared.frames.Frame.{Frame}
use Rattle.columns.specs.Columns.{column_of, column_width, frame_of}
use Rattle.columns.specs.Laws.{OneColumnIsThePage}
use Rattle.page_seq.specs.Frames.{IsGoodTable, frame_of as page_frame_of}
use Rattle.page_seq.specs.GoodFrames.{good_frame}

whole_width : (gap width : ℤ) → pos 0 ≤ℤ width → column_width 1 gap width ≡ width
whole_width gap (pos n) low = let e : pos n -ℤ pos (1 - 1) *ℤ gap ≡ pos n = grind (arith, ints) in ap (λ z. int_max (pos 0) (floor_div z 1)) e ∙ (let d : n / 1 ≡ n = grind arith in ap (λ k. int_max (pos 0) (pos k)) d ∙ omega (arith, ints, clamps))
whole_width gap (negsuc n) low = absurd (omega (arith, ints))

no_step : (left step : ℤ) → left +ℤ pos 0 *ℤ step ≡ left
no_step left step = grind (arith, ints)

pub only_column : (gap : ℤ) (f : Frame) → pos 0 ≤ℤ f.width → column_of 1 gap f 0 ≡ f
only_column gap f low = rw (no_step f.left (column_width 1 gap f.width +ℤ gap), whole_width gap f.width low) refl

same_frame : (rows : List PageRow) (gap : ℤ) → IsGoodTable rows → (index : ℕ) (name : NameId) (kind : PageKind) → frame_of rows 1 gap index name kind ≡ page_frame_of rows index name kind
same_frame rows gap good index name kind =
    let page : page_at 1 index ≡ index = grind arith in
    let column : column_at 1 index ≡ 0 = grind arith in
    ap (λ k. column_of 1 gap (page_frame_of rows (page_at 1 index) name kind) k) column ∙ (ap (λ i. column_of 1 gap (page_frame_of rows i name kind) 0) page ∙ only_column gap (page_frame_of rows index name kind) (good_frame rows good index name kind).width_low)

abbrev seen : (ℕ → Demand → Bool) → (ℕ → NameId → PageKind → Frame) → PageFrames
seen meets frame = record { meets = meets; frame_of = frame }

pub one_column : OneColumnIsThePage
one_column rows gap good =
    let meets : meets_by 1 ≡ meets_by_parity = fun_ext (λ index. fun_ext (λ d. sym (parity_by_page index d))) in
    let frames : frame_of rows 1 gap ≡ page_frame_of rows = fun_ext (λ index. fun_ext (λ name. fun_ext (λ kind. same_frame rows gap good index name kind))) in
    ap (λ m. seen m (frame_of rows 1 gap)) meets ∙ ap (λ f. seen meets_by_parity f) frames
