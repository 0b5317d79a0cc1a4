-- What items with borrowed texts stand for.
use Rattle.std.specs.Prelude.{◌≡◌, ◌<◌, ◌++◌, ℕ, Bool, List, length, map}
use Rattle.std.specs.List.{All}
use Rattle.bk_num.specs.declared.values.Color.{Color}
use Rattle.metrics.specs.Face.{FontFace}
use Rattle.boxes.specs.declared.item.Item.{Item}
use Rattle.boxes.specs.declared.item.Item.TheVariants as item
use Rattle.paint.specs.declared.item.Area.{Area}
use Rattle.paint.specs.declared.item.TextPlace.{TextPlace}
use Rattle.paint.specs.declared.item.ItemRef.{ItemRef}
use Rattle.paint.specs.declared.item.ItemRef.TheVariants as ref
use Rattle.paint.specs.Faces.{face_text}

-- a rectangle of a colour
abbrev pub rect_item : Area → Color → Item
rect_item a color = item.Rect a.x a.y a.w a.h color

-- the upper or the lower edge of a box, in its area
abbrev pub edge_item : Bool → Area → Item
edge_item opens a = item.Edge opens a.x a.y a.w a.h

-- the area of a line
abbrev pub area_item : Area → Item
area_item a = item.Line a.x a.y a.w a.h

-- a text and a hyphen in a style, the face by its name
abbrev pub text_item : List FontFace → TextPlace → List ℕ → Item
text_item faces s text = item.Text s.x s.y (face_text faces s.face) s.size s.color text

-- a shown hyphen in a style, the face by its name
abbrev pub hyphen_item : List FontFace → TextPlace → Item
hyphen_item faces s = item.Hyphen s.x s.y (face_text faces s.face) s.size s.color

-- the item with texts of its own
abbrev pub item_of : List FontFace → ItemRef → Item
item_of faces (ref.Rect area color) = rect_item area color
item_of faces (ref.Edge opens area) = edge_item opens area
item_of faces (ref.Line area) = area_item area
item_of faces (ref.Text style text) = text_item faces style text.now
item_of faces (ref.Hyphen style) = hyphen_item faces style

-- the items with texts of their own
abbrev pub items_in : List FontFace → List ItemRef → List Item
items_in faces items = map (item_of faces) items

-- items stand for some more behind those that were there
abbrev pub Adds : List FontFace → List ItemRef → List Item → List ItemRef → Type 0
Adds faces old more new = items_in faces new ≡ items_in faces old ++ more

-- the face that an item names is there
abbrev pub HasItemFace : List FontFace → ItemRef → Type 0
HasItemFace faces (ref.Rect area color) = Unit {0}
HasItemFace faces (ref.Edge opens area) = Unit {0}
HasItemFace faces (ref.Line area) = Unit {0}
HasItemFace faces (ref.Text style text) = style.face.0 < length faces
HasItemFace faces (ref.Hyphen style) = style.face.0 < length faces

-- the faces that items name are there
abbrev pub HaveItemFaces : List FontFace → List ItemRef → Type 0
HaveItemFaces faces items = All (HasItemFace faces) items
