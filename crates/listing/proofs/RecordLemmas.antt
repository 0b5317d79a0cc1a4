-- Records by their fields.
use Rattle.std.proofs.Common.{◌≡◌, ◌∙◌, ℕ, ℤ, pos, Bool, true, List, [], ◌∷◌, ◌++◌, Bor, codes, map, append-nil, append_assoc, arith, refl, sym, ap}
use Rattle.std.specs.Fmt.{signed_decimal}
use Rattle.std.specs.List.{flat_map, list_all}
use Rattle.bk_io.specs.Escapes.{is_control, shown_byte}
use Rattle.bk_io.proofs.Escaping.{all_stand}
use Rattle.bk_num.specs.declared.values.Color.{Color}
use Rattle.listing.specs.Records.{area_fields, book_record, edge_name, edge_record, escape, face_field, field, hyphen_record, item_record, kind_name, line_record, page_record, quoted, rect_record, side_name, stands, string_field, style_name, text_record, word}
use Rattle.listing.specs.declared.fields.FaceLabel.{FaceLabel}
use Rattle.listing.specs.declared.records.PageHead.{PageHead}
use Rattle.margin_box.specs.declared.items.MarginText.{MarginText}
use Rattle.metrics.specs.Face.{FontFace}
use Rattle.paint.specs.Faces.{face_text}
use Rattle.paint.specs.Views.{area_item, edge_item, hyphen_item, item_of, items_in, rect_item, text_item}
use Rattle.paint.specs.declared.item.Area.{Area}
use Rattle.paint.specs.declared.item.ItemRef.{ItemRef}
use Rattle.paint.specs.declared.item.TextPlace.{TextPlace}
use Rattle.listing.specs.Fields.{field_bytes, record_bytes}
use Rattle.listing.specs.Pages.{page_records}
use Rattle.listing.specs.declared.fields.Field.{Field}
use Rattle.listing.specs.declared.fields.Field.TheVariants as kind

-- a byte that stands as it is
escape_same : (b : ℕ) → stands b ≡ true → escape b ≡ b ∷ []
unfolding stands escape is_control shown_byte
escape_same b h = grind (arith)

-- a string whose bytes all stand as they are
pub string_same : (bs : List ℕ) → list_all stands bs ≡ true → flat_map escape bs ≡ bs
string_same bs h = all_stand escape stands escape_same bs h

pub string-is : (text : List ℕ) → codes " \"" ++ flat_map escape text ++ codes "\"" ≡ string_field text
unfolding string_field quoted
string-is text = refl

pub number-is : (n : ℤ) (digits : List ℕ) → digits ≡ signed_decimal n → 32 ∷ (digits ++ []) ≡ field n
unfolding field
number-is n digits e = ap (λ (z : List ℕ). 32 ∷ z) (append-nil digits ∙ e)

pub word-is : (text : List ℕ) → 32 ∷ (text ++ []) ≡ word text
unfolding word
word-is text = ap (λ (z : List ℕ). 32 ∷ z) (append-nil text)

pub face-is : (name : List ℕ) (italic : Bool) (weight : ℕ) (style digits : List ℕ) → style ≡ style_name italic → digits ≡ signed_decimal (pos weight) →
    (32 ∷ (name ++ [])) ++ (style ++ (digits ++ [])) ≡ face_field name italic weight
unfolding face_field
face-is name italic weight style digits p q =
    ap (λ (z : List ℕ). (32 ∷ z) ++ (style ++ (digits ++ []))) (append-nil name) ∙
    ap (λ (z : List ℕ). (32 ∷ name) ++ (style ++ z)) (append-nil digits ∙ q) ∙
    ap (λ (z : List ℕ). (32 ∷ name) ++ (z ++ signed_decimal (pos weight))) p ∙
    ap (λ (z : List ℕ). 32 ∷ z) (sym (append_assoc name (style_name italic) (signed_decimal (pos weight))))

pub record-parts : (name : List ℕ) (fields : List Field) → name ++ flat_map field_bytes fields ++ codes "\n" ≡ record_bytes name fields
unfolding record_bytes
record-parts name fields = refl

-- brackets in a line of fields
two-fields : (n a b z : List ℕ) → n ++ (a ++ (b ++ [])) ++ z ≡ n ++ a ++ b ++ z
two-fields n a b z = simp (append_assoc, append-nil)

four-fields : (n a b c d z : List ℕ) → n ++ (a ++ (b ++ (c ++ (d ++ [])))) ++ z ≡ n ++ (a ++ b ++ c ++ d) ++ z
four-fields n a b c d z = simp (append_assoc, append-nil)

rect-fields : (n a b c d e z : List ℕ) → n ++ (a ++ (b ++ (c ++ (d ++ (e ++ []))))) ++ z ≡ n ++ (a ++ b ++ c ++ d) ++ e ++ z
rect-fields n a b c d e z = simp (append_assoc, append-nil)

edge-fields : (n w a b c d z : List ℕ) → n ++ (w ++ (a ++ (b ++ (c ++ (d ++ []))))) ++ z ≡ n ++ w ++ (a ++ b ++ c ++ d) ++ z
edge-fields n w a b c d z = simp (append_assoc, append-nil)

six-fields : (n a b c d e f z : List ℕ) → n ++ (a ++ (b ++ (c ++ (d ++ (e ++ (f ++ [])))))) ++ z ≡ n ++ a ++ b ++ c ++ d ++ e ++ f ++ z
six-fields n a b c d e f z = simp (append_assoc, append-nil)

seven-fields : (n a b c d e f g z : List ℕ) →
    n ++ (a ++ (b ++ (c ++ (d ++ (e ++ (f ++ (g ++ []))))))) ++ z ≡ n ++ a ++ b ++ c ++ d ++ e ++ f ++ g ++ z
seven-fields n a b c d e f g z = simp (append_assoc, append-nil)

pub book-is : (pages passes : ℕ) (m n : ℤ) → m ≡ pos pages → n ≡ pos passes → record_bytes (codes "book") (kind.Number m ∷ kind.Number n ∷ []) ≡ book_record pages passes
unfolding record_bytes book_record
book-is pages passes m n p q =
    two-fields (codes "book") (field m) (field n) (codes "\n") ∙
    ap (λ (z : ℤ). codes "book" ++ field z ++ field n ++ codes "\n") p ∙ ap (λ (z : ℤ). codes "book" ++ field (pos pages) ++ field z ++ codes "\n") q

-- numbers and words as they are given, and as they are in what is written
pub page-is : (head : PageHead) (index number width height : ℤ) (side sort : Bor (List ℕ)) → side.now ≡ side_name head.side → sort.now ≡ kind_name head.kind →
    index ≡ pos head.index → number ≡ head.number → width ≡ head.width → height ≡ head.height →
    record_bytes (codes "page") (kind.Number index ∷ kind.Number number ∷ kind.Word side ∷ kind.Word sort ∷ kind.Quoted head.name ∷ kind.Number width ∷ kind.Number height ∷ [])
    ≡ page_record head.index head.number head.side head.kind head.name.now head.width head.height
unfolding record_bytes page_record
page-is head index number width height side sort p q i n w h =
    let parts : ℤ → ℤ → List ℕ → List ℕ → ℤ → ℤ → List ℕ =
    λ a b c d e f. codes "page" ++ field a ++ field b ++ word c ++ word d ++ string_field head.name.now ++ field e ++ field f ++ codes "\n" in
    seven-fields (codes "page") (field index) (field number) (word side.now) (word sort.now) (string_field head.name.now) (field width) (field height) (codes "\n") ∙
    ap (λ (z : ℤ). parts z number side.now sort.now width height) i ∙
    ap (λ (z : ℤ). parts (pos head.index) z side.now sort.now width height) n ∙
    ap (λ (z : List ℕ). parts (pos head.index) head.number z sort.now width height) p ∙
    ap (λ (z : List ℕ). parts (pos head.index) head.number (side_name head.side) z width height) q ∙
    ap (λ (z : ℤ). parts (pos head.index) head.number (side_name head.side) (kind_name head.kind) z height) w ∙
    ap (λ (z : ℤ). parts (pos head.index) head.number (side_name head.side) (kind_name head.kind) head.width z) h

area-is : (a : Area) (x y w h : ℤ) → x ≡ a.x → y ≡ a.y → w ≡ a.w → h ≡ a.h → area_fields x y w h ≡ area_fields a.x a.y a.w a.h
area-is a x y w h p q r s =
    ap (λ (z : ℤ). area_fields z y w h) p ∙ ap (λ (z : ℤ). area_fields a.x z w h) q ∙ ap (λ (z : ℤ). area_fields a.x a.y z h) r ∙ ap (λ (z : ℤ). area_fields a.x a.y a.w z) s

pub rect-is : (a : Area) (color : Color) (x y w h : ℤ) → x ≡ a.x → y ≡ a.y → w ≡ a.w → h ≡ a.h →
    record_bytes (codes "rect") (kind.Number x ∷ kind.Number y ∷ kind.Number w ∷ kind.Number h ∷ kind.Color color ∷ []) ≡ item_record (rect_item a color)
unfolding record_bytes item_record rect_record
rect-is a color x y w h p q r s =
    rect-fields (codes "rect") (field x) (field y) (field w) (field h) (field_bytes (kind.Color color)) (codes "\n") ∙
    ap (λ (z : List ℕ). codes "rect" ++ z ++ field_bytes (kind.Color color) ++ codes "\n") (area-is a x y w h p q r s)

pub edge-is : (opens : Bool) (name : Bor (List ℕ)) (a : Area) (x y w h : ℤ) → name.now ≡ edge_name opens → x ≡ a.x → y ≡ a.y → w ≡ a.w → h ≡ a.h →
    record_bytes (codes "edge") (kind.Word name ∷ kind.Number x ∷ kind.Number y ∷ kind.Number w ∷ kind.Number h ∷ []) ≡ item_record (edge_item opens a)
unfolding record_bytes item_record edge_record
edge-is opens name a x y w h e p q r s =
    edge-fields (codes "edge") (word name.now) (field x) (field y) (field w) (field h) (codes "\n") ∙
    ap (λ (z : List ℕ). codes "edge" ++ word z ++ area_fields x y w h ++ codes "\n") e ∙
    ap (λ (z : List ℕ). codes "edge" ++ word (edge_name opens) ++ z ++ codes "\n") (area-is a x y w h p q r s)

pub line-is : (a : Area) (x y w h : ℤ) → x ≡ a.x → y ≡ a.y → w ≡ a.w → h ≡ a.h →
    record_bytes (codes "line") (kind.Number x ∷ kind.Number y ∷ kind.Number w ∷ kind.Number h ∷ []) ≡ item_record (area_item a)
unfolding record_bytes item_record line_record
line-is a x y w h p q r s =
    four-fields (codes "line") (field x) (field y) (field w) (field h) (codes "\n") ∙
    ap (λ (z : List ℕ). codes "line" ++ z ++ codes "\n") (area-is a x y w h p q r s)

pub text-is : (faces : List FontFace) (s : TextPlace) (label : FaceLabel) (x y size : ℤ) (text : Bor (List ℕ)) →
    face_field label.name.now label.italic label.weight ≡ word (face_text faces s.face) → x ≡ s.x → y ≡ s.y → size ≡ s.size →
    record_bytes (codes "text") (kind.Number x ∷ kind.Number y ∷ kind.Face label ∷ kind.Number size ∷ kind.Color s.color ∷ kind.Quoted text ∷ [])
    ≡ item_record (text_item faces s text.now)
unfolding record_bytes item_record text_record
text-is faces s label x y size text face p q r =
    let color : List ℕ = field_bytes (kind.Color s.color) in
    let parts : ℤ → ℤ → List ℕ → ℤ → List ℕ = λ a b c d. codes "text" ++ field a ++ field b ++ c ++ field d ++ color ++ string_field text.now ++ codes "\n" in
    six-fields (codes "text") (field x) (field y) (face_field label.name.now label.italic label.weight) (field size) color (string_field text.now) (codes "\n") ∙
    ap (λ (z : List ℕ). parts x y z size) face ∙
    ap (λ (z : ℤ). parts z y (word (face_text faces s.face)) size) p ∙
    ap (λ (z : ℤ). parts s.x z (word (face_text faces s.face)) size) q ∙
    ap (λ (z : ℤ). parts s.x s.y (word (face_text faces s.face)) z) r

pub hyphen-is : (faces : List FontFace) (s : TextPlace) (label : FaceLabel) (x y size : ℤ) (hyphen : Bor (List ℕ)) →
    face_field label.name.now label.italic label.weight ≡ word (face_text faces s.face) → x ≡ s.x → y ≡ s.y → size ≡ s.size → hyphen.now ≡ codes "-" →
    record_bytes (codes "hyphen") (kind.Number x ∷ kind.Number y ∷ kind.Face label ∷ kind.Number size ∷ kind.Color s.color ∷ kind.Quoted hyphen ∷ [])
    ≡ item_record (hyphen_item faces s)
unfolding record_bytes item_record hyphen_record
hyphen-is faces s label x y size hyphen face p q r own =
    let color : List ℕ = field_bytes (kind.Color s.color) in
    let parts : ℤ → ℤ → List ℕ → ℤ → List ℕ → List ℕ = λ a b c d e. codes "hyphen" ++ field a ++ field b ++ c ++ field d ++ color ++ string_field e ++ codes "\n" in
    six-fields (codes "hyphen") (field x) (field y) (face_field label.name.now label.italic label.weight) (field size) color (string_field hyphen.now) (codes "\n") ∙
    ap (λ (z : List ℕ). parts x y z size hyphen.now) face ∙
    ap (λ (z : ℤ). parts z y (word (face_text faces s.face)) size hyphen.now) p ∙
    ap (λ (z : ℤ). parts s.x z (word (face_text faces s.face)) size hyphen.now) q ∙
    ap (λ (z : ℤ). parts s.x s.y (word (face_text faces s.face)) z hyphen.now) r ∙
    ap (λ (z : List ℕ). parts s.x s.y (word (face_text faces s.face)) s.size z) own

flat_of_map : {X Y : Type 0} (g : Y → List ℕ) (h : X → Y) (xs : List X) → flat_map (λ x. g (h x)) xs ≡ flat_map g (map h xs)
flat_of_map g h [] = refl
flat_of_map g h (x ∷ xs) = ap (λ (z : List ℕ). g (h x) ++ z) (flat_of_map g h xs)

pub page-parts : (faces : List FontFace) (head : PageHead) (items : List ItemRef) (texts : List MarginText) →
    page_record head.index head.number head.side head.kind head.name.now head.width head.height ++
    flat_map (λ (i : ItemRef). item_record (item_of faces i)) items ++ flat_map (λ (m : MarginText). item_record (text_item faces m.style m.text)) texts
    ≡ page_records faces head items texts
unfolding page_records
page-parts faces head items texts =
    let own : List ℕ = page_record head.index head.number head.side head.kind head.name.now head.width head.height in
    ap (λ (z : List ℕ). own ++ z ++ flat_map (λ (m : MarginText). item_record (text_item faces m.style m.text)) texts) (flat_of_map item_record (item_of faces) items) ∙
    ap (λ (z : List ℕ). own ++ flat_map item_record (items_in faces items) ++ z) (flat_of_map item_record (λ (m : MarginText). text_item faces m.style m.text) texts)
