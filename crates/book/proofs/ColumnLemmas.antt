-- Columns keep the bounds of frames, and one column is the frame of its page.
use Rattle.std.proofs.Common.{◌≡◌, ◌≤◌, ◌<◌, ◌∙◌, ℕ, ◌+◌, ◌-◌, ◌*◌, ◌/◌, ◌^◌, ⊎_elim, length, ℤ, pos, negsuc, ◌≤ℤ◌, ◌+ℤ◌, ◌-ℤ◌, ◌*ℤ◌, List, sym, ap, subst, arith, div-le_self}
use Rattle.std.specs.Int.{int_max}
use Rattle.std.specs.Prelude.{neg_ℤ}
use Rattle.std.proofs.lemmas.Int.{ints, clamps}
use Rattle.std.proofs.lemmas.Nat.{mul-le}
use Rattle.std.proofs.lemmas.Bool.{cases_lt}
use Rattle.std.proofs.Math.IntN.{pos-*ℤ-pos}
use Rattle.std.proofs.Math.Nat.{div-mul-le_self, mul-le-mul_left, mul-le-mul_right}
use Rattle.bk_num.specs.Limits.{most_pages}
use Rattle.bk_num.specs.Units.{floor_div}
use Rattle.bk_num.specs.declared.ids.NameId.{NameId}
use Rattle.boxes.specs.Frames.{IsGoodFrame, IsPerPage, PageFrames, column_at, meets_by, meets_by_parity, page_at}
use Rattle.boxes.specs.Sides.{parity_by_page}
use Rattle.boxes.specs.declared.frames.Frame.{Frame}
use Rattle.boxes.specs.declared.frames.PageKind.{PageKind}
use Rattle.boxes.specs.declared.page.Page.{Page}
use Rattle.columns.specs.Columns.{IsNearFrame, column_of, column_width}
use Rattle.columns.proofs.OneLemmas.{only_column}
use Rattle.page_seq.specs.FoldLaws.{FoldsKeepAll}
use Rattle.page_seq.specs.Folds.{fold_of}

-- ---- bounds

times_bound : (k m : ℕ) (z : ℤ) → k ≤ 8 → pos 0 ≤ℤ z → z ≤ℤ pos m → (pos 0 ≤ℤ (pos k *ℤ z)) × ((pos k *ℤ z) ≤ℤ pos (8 * m))
times_bound k m (pos n) few low high =
    let less : n ≤ m = omega (arith, ints) in
    let all : k * n ≤ 8 * m = mul-le k n 8 m few less in
    subst (λ z. (pos 0 ≤ℤ z) × (z ≤ℤ pos (8 * m))) (sym (pos-*ℤ-pos k n)) (omega (arith, ints), omega (arith, ints))
times_bound k m (negsuc n) few low high = absurd (omega (arith, ints))

held_pos : (k m : ℕ) → k ≤ m → (pos 0 ≤ℤ int_max (pos 0) (pos k)) × (int_max (pos 0) (pos k) ≤ℤ pos m)
held_pos k m few = (omega (arith, ints, clamps), omega (arith, ints, clamps))

held_neg : (k m : ℕ) → (pos 0 ≤ℤ int_max (pos 0) (negsuc k)) × (int_max (pos 0) (negsuc k) ≤ℤ pos m)
held_neg k m = (omega (arith, ints, clamps), omega (arith, ints, clamps))

part_bound : (z : ℤ) (d m : ℕ) → z ≤ℤ pos m → (pos 0 ≤ℤ int_max (pos 0) (floor_div z d)) × (int_max (pos 0) (floor_div z d) ≤ℤ pos m)
part_bound (pos n) d m high =
    let less : n / d ≤ n = div-le_self n d in
    let few : n ≤ m = omega (arith, ints) in
    held_pos (n / d) m (omega arith)
part_bound (negsuc n) d m high = held_neg (n / d) m

less_bound : (w g : ℤ) (m : ℕ) → pos 0 ≤ℤ g → w ≤ℤ pos m → (w -ℤ g) ≤ℤ pos m
less_bound w g m low high = omega (arith, ints)

step_bound : (w g : ℤ) → pos 0 ≤ℤ w → w ≤ℤ pos (2 ^ 30) → pos 0 ≤ℤ g → g ≤ℤ pos 64000 → (pos 0 ≤ℤ (w +ℤ g)) × ((w +ℤ g) ≤ℤ pos (2 ^ 31))
step_bound w g a b c d = (omega (arith, ints), omega (arith, ints))

sum_bound : (l z : ℤ) → neg_ℤ (pos (2 ^ 39)) ≤ℤ l → l ≤ℤ pos (2 ^ 39) → pos 0 ≤ℤ z → z ≤ℤ pos (8 * 2 ^ 31) → (neg_ℤ (pos (2 ^ 40)) ≤ℤ (l +ℤ z)) × ((l +ℤ z) ≤ℤ pos (2 ^ 40))
sum_bound l z a b c d = (omega (arith, ints), omega (arith, ints))

width_bound : (count : ℕ) (gap width : ℤ) → IsPerPage count → pos 0 ≤ℤ gap → gap ≤ℤ pos 64000 → width ≤ℤ pos (2 ^ 30) → (pos 0 ≤ℤ column_width count gap width) × (column_width count gap width ≤ℤ pos (2 ^ 30))
width_bound count gap width per low high wide =
    let most = per.high in
    let gaps = times_bound (count - 1) 64000 gap (omega arith) low high in
    part_bound (width -ℤ pos (count - 1) *ℤ gap) count (2 ^ 30) (less_bound width (pos (count - 1) *ℤ gap) (2 ^ 30) gaps.0 wide)

pub good_column : (count place : ℕ) (gap : ℤ) (f : Frame) → IsPerPage count → place < count → pos 0 ≤ℤ gap → gap ≤ℤ pos 64000 → IsGoodFrame f → IsNearFrame f → IsGoodFrame (column_of count gap f place)
good_column count place gap f per within low high good near =
    let most = per.high in
    let width = width_bound count gap f.width per low high good.width_high in
    let step = step_bound (column_width count gap f.width) gap width.0 width.1 low high in
    let move = times_bound place (2 ^ 31) (column_width count gap f.width +ℤ gap) (omega arith) step.0 step.1 in
    let left = sum_bound f.left (pos place *ℤ (column_width count gap f.width +ℤ gap)) near.low near.high move.0 move.1 in
    record {
      height_low = good.height_low;
      height_high = good.height_high;
      width_low = width.0;
      width_high = width.1;
      left_low = left.0;
      left_high = left.1;
      top_low = good.top_low;
      top_high = good.top_high;
    }

-- ---- one column

-- columns of the frames of pages
abbrev pub columns_in : (ℕ → NameId → PageKind → Frame) → ℕ → ℤ → PageFrames
columns_in frame count gap = record {
  meets = meets_by count;
  frame_of = λ index name kind. column_of count gap (frame (page_at count index) name kind) (column_at count index);
}

abbrev pub HasWidths : (ℕ → NameId → PageKind → Frame) → Type 0
HasWidths frame = (index : ℕ) (name : NameId) (kind : PageKind) → pos 0 ≤ℤ (frame index name kind).width

one_frame : (frame : ℕ → NameId → PageKind → Frame) → HasWidths frame → (gap : ℤ) (index : ℕ) (name : NameId) (kind : PageKind) →
    column_of 1 gap (frame (page_at 1 index) name kind) (column_at 1 index) ≡ frame index name kind
one_frame frame wide gap index name kind =
    let page : page_at 1 index ≡ index = grind arith in
    let column : column_at 1 index ≡ 0 = grind arith in
    ap (λ k. column_of 1 gap (frame (page_at 1 index) name kind) k) column ∙ ap (λ i. column_of 1 gap (frame i name kind) 0) page ∙ only_column gap (frame index name kind) (wide index name kind)

-- one column is the frame of its page
one_by_one : (frame : ℕ → NameId → PageKind → Frame) → HasWidths frame → (gap : ℤ) → columns_in frame 1 gap ≡ record { meets = meets_by_parity; frame_of = frame }
one_by_one frame wide gap = λ i. record {
  meets = λ index d. sym (parity_by_page index d) i;
  frame_of = λ index name kind. one_frame frame wide gap index name kind i;
}

pub one_column : (frame : ℕ → NameId → PageKind → Frame) → HasWidths frame → (count : ℕ) (gap : ℤ) → count ≡ 1 → columns_in frame count gap ≡ record { meets = meets_by_parity; frame_of = frame }
one_column frame wide count gap one = ap (λ n. columns_in frame n gap) one ∙ one_by_one frame wide gap

-- ---- pages

-- there are no more pages than frames
pub pages_few : (per : ℕ) (frames pages : List Page) → IsPerPage per → FoldsKeepAll → pages ≡ fold_of per frames → length frames ≤ most_pages → length pages ≤ most_pages
pages_few per frames pages is keep same few =
    let low = is.low in
    let count : length pages ≡ page_at per (length frames) = ap (λ (ps : List Page). length ps) same ∙ (keep per frames is).count in
    let whole : (length frames + (per - 1)) / per * per ≤ length frames + (per - 1) = div-mul-le_self (length frames + (per - 1)) per in
    by (length frames) few (page_at per (length frames)) count whole low
  where
    by : (n : ℕ) → n ≤ most_pages → (m : ℕ) → length pages ≡ m → m * per ≤ n + (per - 1) → 1 ≤ per → length pages ≤ most_pages
    by n few m count whole low = ⊎_elim (λ (h : n < m). absurd (let more : (n + 1) * per ≤ m * per = mul-le-mul_right per (omega arith) in let sum : (n + 1) * per ≡ n * per + per = grind arith in let least : n * 1 ≤ n * per = mul-le-mul_left n low in omega arith)) (λ (h : m ≤ n). omega arith) (cases_lt n m)
