use Rattle.std.proofs.Common.{◌≡◌, Bool, List, map, refl, ◌∙◌}
use Rattle.std.proofs.lemmas.List.{length-map}
use Rattle.std.specs.Prelude.{not}
use Rattle.std.specs.Str.{bytes_eq}
use Rattle.std.specs.List.{position}
use Rattle.std.specs.String.{string_bytes}
use Rattle.bk_num.proofs.ListLemmas.{prefix_len-map}
use Rattle.named_lists.proofs.lists.number_of.Goals as goal

position-map : {A B : Type 0} (f : A → B) (p : B → Bool) (xs : List A) → position (λ x. p (f x)) xs ≡ position p (map f xs)
position-map f p xs = rw (prefix_len-map f (λ x. not (p x)) xs, length-map xs f) refl

pub returns : goal.returns
returns c = c.get_index_of.ensures.index ∙ position-map (λ k. string_bytes k) (bytes_eq c.args.name.now) c.args.names.now.keys
