-- What the filling of a line reads of a leaf.
use Rattle.std.specs.Prelude.{ℕ, ℤ, Bool, List, [], ◌∷◌}
use Rattle.std.specs.List.{fold}
use Rattle.std.specs.Hash.{HashWrites, bool, i32, i64, u16, u32, u8}
use Rattle.std.specs.Hash.FoldHasher.{finish, initial, write}
use Rattle.std.specs.declared.hash.FoldHasher.{FoldHasher}
use Rattle.bk_num.specs.declared.length.Len.{Len}
use Rattle.bk_num.specs.declared.length.Len.TheVariants.{Px, Percent, Auto}
use Rattle.boxes.specs.declared.leaf.Leaf.{Leaf}
use Rattle.boxes.specs.declared.leaf.Span.{Span}
use Rattle.line_fill.specs.declared.kept.KeptLeaf.{KeptLeaf}

-- a leaf as far as its lines go: its text, its spans, its places of both kinds, its indent, and whether its lines are
-- chosen as a whole
pub record LeafKey : Type 0 where
  pub text : List ℕ
  pub spans : List Span
  pub places : List ℕ
  pub graphemes : List ℕ
  pub indent : Len
  pub fit : Bool

-- the key of a leaf
abbrev pub key_of : Leaf → LeafKey
key_of leaf = record {
  text = leaf.text;
  spans = leaf.spans;
  places = leaf.places;
  graphemes = leaf.graphemes;
  indent = leaf.indent;
  fit = leaf.fit;
}

-- the key of a leaf that is kept
abbrev pub key_in : KeptLeaf → LeafKey
key_in kept = key_of kept.leaf.value

-- a hasher after some writes
abbrev pub fed : FoldHasher → HashWrites → FoldHasher
fed hasher writes = fold write hasher writes

-- a hasher after a length
abbrev pub fed_length : FoldHasher → Len → FoldHasher
fed_length hasher (Px p) = fed hasher (i32 p)
fed_length hasher (Percent d) = fed hasher (i64 d.units)
fed_length hasher Auto = hasher

-- a hasher after the style of a span
abbrev pub fed_style : FoldHasher → Span → FoldHasher
fed_style hasher s =
    let sized = fed (fed (fed hasher (u16 s.face.0)) (i32 s.size)) (i32 s.line_height) in
    fed (fed (fed sized (u8 s.color.red)) (u8 s.color.green)) (u8 s.color.blue)

-- a hasher after a span
abbrev pub fed_span : FoldHasher → Span → FoldHasher
fed_span hasher s = fed (fed (fed (fed (fed_style hasher s) (u32 s.from)) (u32 s.to)) (bool s.wrap)) (bool s.anywhere)

-- a hasher after spans
abbrev pub fed_spans : FoldHasher → List Span → FoldHasher
fed_spans hasher [] = hasher
fed_spans hasher (s ∷ ss) = fed_spans (fed_span hasher s) ss

-- a number that equal keys have at a measure: a hash of the text, the measure, the indent and the spans, of which the
-- places of a text follow
abbrev pub print_of : LeafKey → ℤ → ℕ
print_of key measure = finish (fed_spans (fed_length (fed (write initial key.text) (i64 measure)) key.indent) key.spans)
