-- Elements that do nothing.
use Rattle.std.specs.Prelude.{ℕ, zero, suc, ◌+◌, Bool, false, not, if◌then◌else◌, List, [], ◌∷◌, ◌++◌, Option, Some, None, length, codes, is_some}
use Rattle.std.specs.Str.{bytes_eq}
use Rattle.css_tok.specs.Tokens.{tokens_of}
use Rattle.css_rules.specs.Media.{is_media_list}
use Rattle.std.specs.List.{list_any}
use Rattle.dom.specs.Nodes.{Node, name_at, attribute_at, attribute_in}
use Rattle.dom.specs.Order.{is_text}
use Rattle.gen_text.specs.Target.{id_of}
use Rattle.sheets.specs.Sheets.{media_of}
use Rattle.unread_list.specs.declared.elements.Idle.{Idle}
use Rattle.unread_list.specs.declared.elements.Idle.TheVariants as idle

-- an element that does nothing: its number, and why
pub record IdleOf : Type 0 where
  pub element : ℕ
  pub why : Idle

-- an image shows its `alt`, and nothing without one
abbrev pub image_idle : Bool → Option Idle
image_idle has_alt = if has_alt then None else Some idle.Image

-- a `style` element is a sheet where its media list is read
abbrev pub style_idle : Bool → Option Idle
style_idle is_sheet = if is_sheet then None else Some idle.Style

-- why an element of a name does nothing, if it does
abbrev pub idle_named : List Node → ℕ → List ℕ → Option Idle
idle_named nodes k name =
    if bytes_eq name (codes "link") then Some idle.Link else
    if bytes_eq name (codes "table") then Some idle.Table else
    if bytes_eq name (codes "img") then image_idle (is_some (attribute_at nodes k (codes "alt"))) else
    if bytes_eq name (codes "style") then style_idle (is_media_list (tokens_of (media_of nodes k))) else None

-- why a node does nothing by its name; a text has none
abbrev pub idle_by : List Node → ℕ → Option (List ℕ) → Option Idle
idle_by nodes k None = None
idle_by nodes k (Some name) = idle_named nodes k name

-- a node is an element of this id
abbrev pub is_of_id : List ℕ → Node → Bool
is_of_id id n = is_text id (attribute_in (codes "id") n.what)

-- an element has this id
abbrev pub has_some : List Node → List ℕ → Bool
has_some nodes id = list_any (is_of_id id) nodes

-- an id that no element has
abbrev pub is_missing : List Node → Option (List ℕ) → Bool
is_missing nodes None = false
is_missing nodes (Some id) = not (has_some nodes id)

-- an element whose address has no target
abbrev pub reference_idle : List Node → Option (List ℕ) → Option Idle
reference_idle nodes None = None
reference_idle nodes (Some address) = if is_missing nodes (id_of address) then Some idle.Reference else None

-- the first reason, if there is one, else the other
abbrev pub idle_or : Option Idle → Option Idle → Option Idle
idle_or (Some why) other = Some why
idle_or None other = other

-- why a node does nothing, by its name or else by its address
abbrev pub idle_at : List Node → ℕ → Option Idle
idle_at nodes k =
    idle_or (idle_by nodes k (name_at nodes k)) (reference_idle nodes (attribute_at nodes k (codes "href")))

-- an element that does nothing, under its number
abbrev pub numbered : ℕ → Option Idle → List IdleOf
numbered k None = []
numbered k (Some why) = record { element = k; why = why } ∷ []

-- the elements that do nothing among the n nodes from k on
abbrev pub idle_from : List Node → ℕ → ℕ → List IdleOf
idle_from nodes k zero = []
idle_from nodes k (suc n) = numbered k (idle_at nodes k) ++ idle_from nodes (k + 1) n

-- the elements of a document that do nothing, in tree order
abbrev pub idle_elements : List Node → List IdleOf
idle_elements nodes = idle_from nodes 0 (length nodes)
