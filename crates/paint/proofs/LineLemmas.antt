-- A line between two places of a leaf is one of its text.
use Rattle.std.proofs.Common.{◌≡◌, ◌<◌, ℕ, zero, suc, length, refl, arith, ◌⊎◌, inl, inr}
use Rattle.std.proofs.lemmas.Str.{IsCharBoundary-start}
use Rattle.std.specs.Str.{IsCharBoundary, IsUtf8}
use Rattle.boxes.specs.Contents.{IsGoodLeaf}
use Rattle.boxes.specs.declared.leaf.Leaf.{Leaf}
use Rattle.line_fill.proofs.EndLemmas.{place_stands}
use Rattle.line_fill.specs.LineEnd.{IsEndPlace, IsLineBetween}
use Rattle.line_place.specs.Conditions.{IsInLeaf}
use Rattle.paint.specs.Items.{line_between}

-- lines begin at characters
begins_at : (leaf : Leaf) (from : ℕ) → IsGoodLeaf leaf → IsUtf8 leaf.text → from < length leaf.text → (from ≡ 0) ⊎ IsEndPlace leaf from → IsCharBoundary leaf.text from
begins_at leaf zero good utf8 low place = IsCharBoundary-start leaf.text utf8
begins_at leaf (suc n) good utf8 low (inl none) = absurd (omega arith)
begins_at leaf (suc n) good utf8 low (inr place) = place_stands leaf (suc n) good utf8 (omega arith) (omega arith) place

pub line_inside : (leaf : Leaf) (from to : ℕ) → IsGoodLeaf leaf → IsUtf8 leaf.text → IsLineBetween leaf from to → IsInLeaf leaf (line_between leaf from to)
line_inside leaf from to good utf8 is =
    let after = is.after in
    let within = is.within in
    record {
      some = after;
      begins = begins_at leaf from good utf8 (omega arith) is.begins;
      ends = place_stands leaf to good utf8 (omega arith) within is.ends;
      hyphen = refl;
    }
