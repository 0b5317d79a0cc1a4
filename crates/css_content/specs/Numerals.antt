-- The styles of numerals by their names (CSS 2.1, 12.5).
use Rattle.std.specs.Prelude.{ℕ, List, [], ◌∷◌, codes}
use Rattle.bk_num.specs.declared.values.NumStyle.{NumStyle}
use Rattle.bk_num.specs.declared.values.NumStyle.TheVariants as style

-- the styles; `lower-latin` and `upper-latin` are other names
unfoldable pub styles : List (List ℕ × NumStyle)
styles =
    (codes "decimal", style.Decimal) ∷ (codes "decimal-leading-zero", style.LeadingZero) ∷
    (codes "lower-roman", style.LowerRoman) ∷ (codes "upper-roman", style.UpperRoman) ∷
    (codes "lower-alpha", style.LowerAlpha) ∷ (codes "lower-latin", style.LowerAlpha) ∷
    (codes "upper-alpha", style.UpperAlpha) ∷ (codes "upper-latin", style.UpperAlpha) ∷ (codes "disc", style.Disc) ∷
    (codes "circle", style.Circle) ∷ (codes "square", style.Square) ∷ (codes "none", style.Nothing) ∷ []
