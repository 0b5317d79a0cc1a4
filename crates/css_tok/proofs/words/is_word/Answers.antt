use Rattle.std.proofs.Common.{◌≡◌, List, ℕ, ◌++◌, [], ◌∙◌, ap, sym, append-nil, Bor}
use Rattle.std.specs.Str.{str_eq_ignore_ascii_case}
use Rattle.css_tok.specs.Lengths.{quoted_len}
use Rattle.css_tok.specs.Plain.{plain_of, plain_from, escaped}
use Rattle.css_tok.proofs.WordLemmas.{begins, empty_is}
use Rattle.css_tok.proofs.words.is_word.Goals as goal

pub returns-in_default : goal.returns-in_default
returns-in_default c =
    let b = begins {X = Bor (List ℕ)} c.until_escape.result.1 (plain_of c.parts.rest.now) c.until_escape.result.0.now (λ a. escaped a.now ++ plain_from (quoted_len a.now) a.now) c.until_escape.ensures.parts in
    sym (c.parts.invariant.same ∙ ap (λ z. str_eq_ignore_ascii_case z c.parts.left.now) (b.1 ∙ ap (λ z. z ++ b.0) (sym c.as_bytes.ensures.value)) ∙ c.in_default.ensures b.0)

pub returns-in_default-after : goal.returns-in_default-after
returns-in_default-after c =
    let whole : plain_of c.parts.rest.now ≡ c.until_escape.result.0.now = rw c.in_default-after.is at c.until_escape.ensures.parts in
    c.is_empty.ensures ∙ sym (c.parts.invariant.same ∙ ap (λ z. str_eq_ignore_ascii_case z c.parts.left.now) (whole ∙ sym c.as_bytes.ensures.value ∙ sym (append-nil c.as_bytes.result.now)) ∙ c.in-Some.ensures [] ∙ empty_is c.in-Some.past_prefix.now)
