-- Which parts of a leaf are passed.
use Rattle.std.specs.Prelude.{◌≡◌, List, [], ◌++◌, length}
use Rattle.inline_text.specs.declared.space.Collapser.{Collapser}
use Rattle.inline_text.specs.declared.space.Gap.TheVariants.{Spaced}
use Rattle.inline_text.specs.declared.space.TextPart.{TextPart}
use Rattle.inline_text.specs.Gaps.{laid, left_from}
use Rattle.inline_text.specs.Joined.{laid_texts}
use Rattle.inline_text.specs.Space.{Char, chars_from}

-- some parts of a leaf are passed, and no other: whatever characters follow theirs, what is left of all is what is laid
-- so far and then what is left of those
pub record HasPassed (c : Collapser) (ps : List TextPart) : Type 0 where
  pub count : c.parts ≡ length ps
  pub goes : (rest : List Char) → laid (laid_texts []) (left_from Spaced (chars_from 0 ps ++ rest)) ≡
      laid c.joined (left_from c.gap rest)
