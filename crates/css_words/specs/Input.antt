-- What a reader has ahead: the tokens that are left, without those that separate and mean nothing else.
use Rattle.std.specs.Prelude.{Bool, false, not, drop, List, Option, Some, None, filter}
use Rattle.std.specs.List.{prefix_len}
use Rattle.css_tok.specs.declared.kind.CssKind.{CssKind}
use Rattle.css_tok.specs.Marks.{is_space_kind, is_comment_kind, is_gap_kind}
use Rattle.css_tok.specs.Tokens.{Item}
use Rattle.css_words.specs.declared.reader.Skipped.{Skipped}
use Rattle.css_words.specs.declared.reader.Skipped.TheVariants as skipped

-- whether a reader passes a token over: comments in selectors, and white space too in values
abbrev pub is_skipped : Skipped → CssKind → Bool
is_skipped skipped.Comments k = is_comment_kind k
is_skipped skipped.CommentsAndSpaces k = is_gap_kind k

-- the tokens that a reader hands out, in their order
unfoldable pub kept : Skipped → List Item → List Item
kept s ts = filter (λ t. not (is_skipped s t.kind)) ts

-- what follows white space
unfoldable pub past_spaces : List Item → List Item
past_spaces ts = drop (prefix_len (λ t. is_space_kind t.kind) ts) ts

-- whether a token is there and is white space
abbrev pub is_space : Option Item → Bool
is_space None = false
is_space (Some t) = is_space_kind t.kind
