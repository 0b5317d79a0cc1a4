-- What the code's own values stand for: what the readers of tokens and attributes have left, and what is looked for.
use Rattle.std.specs.Prelude.{ℕ, ◌+◌, ◌-◌, ◌≤◌, ◌^◌, Bool, not, List, Option, option_map, length}
use Rattle.std.specs.Borrow.{Bor}
use Rattle.std.specs.Char.{is_ascii_whitespace}
use Rattle.html_tok.specs.Classes.{is_between, ends_name, ends_attribute_name, ends_value}
use Rattle.html_tok.specs.Tags.{attributes_of}
use Rattle.html_tok.specs.Pieces.{Opening, opens_comment, opens_bogus, opens_end, opens_start, opens_text, TextEnd, by_markup, by_end_of}
use Rattle.html_tok.specs.Listed.{TokenView, tokens_after}
use Rattle.html_tok.specs.declared.attrs.Attrs.TheInside as attrs
use Rattle.html_tok.specs.declared.classes.Stop.{Stop}
use Rattle.html_tok.specs.declared.classes.Stop.TheVariants as stop
use Rattle.html_tok.specs.declared.scan.Opening.{Opening as Begun}
use Rattle.html_tok.specs.declared.scan.Opening.TheVariants as begun
use Rattle.html_tok.specs.declared.scan.Until.{Until}
use Rattle.html_tok.specs.declared.scan.Until.TheVariants as until
use Rattle.html_tok.specs.declared.tokens.Tokens.TheInside as tokens

-- the attributes that a reader has left
abbrev pub attributes_left : attrs.Inside → List (List ℕ × List ℕ)
attributes_left a = attributes_of a.rest.now

-- the raw element whose text may come, by its name
abbrev pub awaited_in : Option (Bor (List ℕ)) → Option (List ℕ)
awaited_in name = option_map (λ n. n.now) name

-- the tokens that a reader has left
abbrev pub tokens_left : tokens.Inside → List TokenView
tokens_left t = tokens_after 0 t.at (awaited_in t.raw) t.rest.now

-- the place of each byte that is left is below 2^64
abbrev pub Fits : tokens.Inside → Type 0
Fits t = t.at + length t.rest.now ≤ 2 ^ 64 - 1

-- what begins at a place
abbrev pub opening_in : Begun → Opening
opening_in begun.Comment = opens_comment
opening_in begun.Bogus = opens_bogus
opening_in begun.End = opens_end
opening_in begun.Start = opens_start
opening_in begun.Text = opens_text

-- what ends a text
abbrev pub end_in : Until → TextEnd
end_in until.Markup = by_markup
end_in (until.EndOf name) = by_end_of name.now

-- what a part of a tag ends before
abbrev pub stops : Stop → ℕ → Bool
stops stop.NotSpace b = not (is_ascii_whitespace b)
stops stop.NotBetween b = not (is_between b)
stops stop.Name b = ends_name b
stops stop.AttributeName b = ends_attribute_name b
stops stop.Value b = ends_value b
