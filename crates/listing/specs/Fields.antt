-- A record is a line: its name, and its fields each after a space.
use Rattle.std.specs.Prelude.{ℕ, List, ◌++◌, codes}
use Rattle.std.specs.List.{flat_map}
use Rattle.listing.specs.Records.{color_field, face_field, field, string_field, word}
use Rattle.listing.specs.declared.fields.Field.{Field}
use Rattle.listing.specs.declared.fields.Field.TheVariants as kind

-- the bytes of a field, the space before it among them
abbrev pub field_bytes : Field → List ℕ
field_bytes (kind.Number n) = field n
field_bytes (kind.Word text) = word text.now
field_bytes (kind.Quoted text) = string_field text.now
field_bytes (kind.Color color) = color_field color
field_bytes (kind.Face face) = face_field face.name.now face.italic face.weight

-- the bytes of a record
unfoldable pub record_bytes : List ℕ → List Field → List ℕ
record_bytes name fields = name ++ flat_map field_bytes fields ++ codes "\n"
