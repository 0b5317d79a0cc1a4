use Rattle.std.proofs.Common.{arith, ◌≤ℤ◌, ◌^◌, ℤ, pos, to_z, of_z, [], ◌∷◌}
use Rattle.std.proofs.lemmas.Int.{ints}
use Rattle.std.proofs.lemmas.List.Elements.{All-cons, All-nil}
use Rattle.std.specs.List.{All}
use mir.Syntax.{w64}
use Rattle.cuts.specs.Areas.{IsArea}
use Rattle.page_rows.proofs.lines_cut.areas.Goals as goal

-- the number that a machine keeps for a number
abbrev kept : ℤ → ℤ
kept z = to_z w64 (of_z w64 z)

-- for an area it is the same one
kept_area : (z : ℤ) → IsArea z → IsArea (kept z)
kept_area z area =
    let low : pos 0 ≤ℤ z = area.low in
    let high : z ≤ℤ pos (2 ^ 60) = area.high in
    record { low = omega (arith, ints); high = omega (arith, ints) }

six : (a b c d e f : ℤ) → IsArea a → IsArea b → IsArea c → IsArea d → IsArea e → IsArea f →
    All IsArea (kept a ∷ kept b ∷ kept c ∷ kept d ∷ kept e ∷ kept f ∷ [])
six a b c d e f one two three four five last =
    All-cons IsArea (kept a) (kept b ∷ kept c ∷ kept d ∷ kept e ∷ kept f ∷ []) (kept_area a one)
    (All-cons IsArea (kept b) (kept c ∷ kept d ∷ kept e ∷ kept f ∷ []) (kept_area b two)
    (All-cons IsArea (kept c) (kept d ∷ kept e ∷ kept f ∷ []) (kept_area c three)
    (All-cons IsArea (kept d) (kept e ∷ kept f ∷ []) (kept_area d four)
    (All-cons IsArea (kept e) (kept f ∷ []) (kept_area e five)
    (All-cons IsArea (kept f) [] (kept_area f last) (All-nil IsArea))))))

pub returns : goal.returns
returns c = six c.area.result c.area-2.result c.area-3.result c.area-4.result c.area-5.result c.area-6.result
    c.area.ensures c.area-2.ensures c.area-3.ensures c.area-4.ensures c.area-5.ensures c.area-6.ensures
