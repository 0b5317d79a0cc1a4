-- The frames on a page are there.
use Rattle.std.proofs.Common.{◌≡◌, ◌≤◌, ◌<◌, ◌∙◌, ℕ, ◌+◌, ◌-◌, ◌*◌, ◌/◌, List, length, ap, arith}
use Rattle.std.proofs.Math.Nat.{mul-div-le, mul-le-mul_left}
use Rattle.boxes.specs.Frames.{IsPerPage, page_at}
use Rattle.boxes.specs.declared.page.Page.{Page}
use Rattle.page_seq.specs.FoldLaws.{FoldsKeepAll}
use Rattle.page_seq.specs.Folds.{fold_of}

begins_before : (per n place : ℕ) → 1 ≤ per → place < page_at per n → per * place < n
begins_before per n place some low =
    let whole : per * ((n + (per - 1)) / per) ≤ n + (per - 1) = mul-div-le (n + (per - 1)) per in
    let more : per * (place + 1) ≤ per * ((n + (per - 1)) / per) = mul-le-mul_left per (omega arith) in
    let sum : per * (place + 1) ≡ per * place + per = grind arith in
    omega arith

pub page_begins : (per place : ℕ) (frames pages : List Page) → FoldsKeepAll → IsPerPage per → pages ≡ fold_of per frames → place < length pages → per * place < length frames
page_begins per place frames pages law is same low =
    let count : length pages ≡ page_at per (length frames) = ap (λ (ps : List Page). length ps) same ∙ (law per frames is).count in
    begins_before per (length frames) place is.low (omega arith)
