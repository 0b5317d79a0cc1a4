use Rattle.std.proofs.Common.{◌≡◌, drop, arith, ◌∙◌}
use Rattle.std.specs.List.{position_or_len}
use Rattle.std.proofs.lemmas.List.{take_rest}
use Rattle.html_tok.specs.Classes.{ends_attribute_name}
use Rattle.html_tok.proofs.TagLemmas.{name-len}
use Rattle.html_tok.proofs.attrs.split_name.Goals as goal

pub overflow_add-place : goal.overflow_add-place
overflow_add-place c =
    let place : c.place.result ≡ position_or_len ends_attribute_name (drop 1 c.args.text.now) = rw (take_rest, c.as_bytes.ensures.value) at c.place.ensures in
    let at = name-len c.args.text.now c.place.result c.requires place in
    omega (arith, at.boundary.0)

pub split_at-requires : goal.split_at-requires
split_at-requires c =
    let place : c.place.result ≡ position_or_len ends_attribute_name (drop 1 c.args.text.now) = rw (take_rest, c.as_bytes.ensures.value) at c.place.ensures in
    (name-len c.args.text.now c.place.result c.requires place).boundary

pub returns-clause-name : goal.returns-clause-name
returns-clause-name c =
    let place : c.place.result ≡ position_or_len ends_attribute_name (drop 1 c.args.text.now) = rw (take_rest, c.as_bytes.ensures.value) at c.place.ensures in
    c.split_at.ensures.front ∙ (name-len c.args.text.now c.place.result c.requires place).text

pub returns-clause-rest : goal.returns-clause-rest
returns-clause-rest c =
    let place : c.place.result ≡ position_or_len ends_attribute_name (drop 1 c.args.text.now) = rw (take_rest, c.as_bytes.ensures.value) at c.place.ensures in
    c.split_at.ensures.back ∙ (name-len c.args.text.now c.place.result c.requires place).rest
