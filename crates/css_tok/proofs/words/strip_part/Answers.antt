use Rattle.std.proofs.Common.{◌&&◌, ◌∙◌, ap, sym, drop, length}
use Rattle.std.specs.Str.{str_eq_ignore_ascii_case}
use Rattle.css_tok.proofs.WordLemmas.{parted, same_case}
use Rattle.css_tok.proofs.words.strip_part.Goals as goal

pub returns-then-eq_ignore_ascii_case : goal.returns-then-eq_ignore_ascii_case
returns-then-eq_ignore_ascii_case c =
    let same = ap (str_eq_ignore_ascii_case c.args.part.now) (sym c.split_at.ensures.front) ∙ same_case c.args.part.now c.split_at.result.0.now c.eq_ignore_ascii_case.result c.eq_ignore_ascii_case.ensures.test ∙ c.if-eq_ignore_ascii_case.true in
    λ rest. parted c.args.part.now c.args.word.now rest c.if-word-part.false ∙ ap (λ z. z && str_eq_ignore_ascii_case rest (drop (length c.args.part.now) c.args.word.now)) same ∙ ap (str_eq_ignore_ascii_case rest) (sym c.split_at.ensures.back)

pub returns-else-eq_ignore_ascii_case : goal.returns-else-eq_ignore_ascii_case
returns-else-eq_ignore_ascii_case c =
    let same = ap (str_eq_ignore_ascii_case c.args.part.now) (sym c.split_at.ensures.front) ∙ same_case c.args.part.now c.split_at.result.0.now c.eq_ignore_ascii_case.result c.eq_ignore_ascii_case.ensures.test ∙ c.if-eq_ignore_ascii_case.false in
    λ rest. parted c.args.part.now c.args.word.now rest c.if-word-part.false ∙ ap (λ z. z && str_eq_ignore_ascii_case rest (drop (length c.args.part.now) c.args.word.now)) same
