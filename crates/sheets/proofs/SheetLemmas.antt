-- Sheets and texts one after another.
use Rattle.std.proofs.Common.{◌≡◌, ℕ, suc, ◌+◌, ◌-◌, ◌<◌, List, ◌++◌, length, ap, arith}
use Rattle.dom.specs.Nodes.{Node}
use Rattle.sheets.specs.Sheets.{sheet_at, sheets_from, text_under, text_from}

module _ (nodes : List Node) where
  pub sheets-step : (i : ℕ) → i < length nodes → sheets_from nodes i (length nodes - i) ≡ sheet_at nodes i ++ sheets_from nodes (i + 1) (length nodes - (i + 1))
  sheets-step i h = let e : length nodes - i ≡ suc (length nodes - (i + 1)) = omega arith in ap (sheets_from nodes i) e

  pub text-step : (element i : ℕ) → i < length nodes → text_from nodes element i (length nodes - i) ≡ text_under nodes element i ++ text_from nodes element (i + 1) (length nodes - (i + 1))
  text-step element i h = let e : length nodes - i ≡ suc (length nodes - (i + 1)) = omega arith in ap (text_from nodes element i) e
