-- The faces of margin boxes, and those that are kept by keys of pages.
use Rattle.std.proofs.Common.{◌≡◌, ◌⊎◌, inl, inr, ℕ, ◌+◌, ◌==◌, true, List, Option, Some, sym, ◌∙◌, ap, subst, slice_get, slice_set, arith}
use Rattle.std.specs.List.{All}
use Rattle.std.specs.Map.{lookup}
use Rattle.std.proofs.lemmas.Bool.{and_parts, eqb-true}
use Rattle.std.proofs.lemmas.List.Elements.{All-contains}
use Rattle.std.proofs.lemmas.Map.Views.{Contains-from_lookup}
use Rattle.bk_num.proofs.ListLemmas.{get-set}
use Rattle.bk_num.specs.declared.ids.FaceId.{FaceId}
use Rattle.metrics.specs.Face.{FontFace}
use Rattle.boxes.specs.declared.page.Page.{Page}
use Rattle.page_ctx.specs.Margins.{MarginStyleOf}
use Rattle.paint.specs.Items.{for_some}
use Rattle.paint.specs.declared.item.Area.{Area}
use Rattle.margin_box.specs.declared.keys.PageKey.{PageKey}
use Rattle.margin_box.specs.Chosen.{AreFacesBelow, IsFaceOf, is_same}
use Rattle.margin_box.specs.Margins.{box_items, styled_items}
use Rattle.margin_box.specs.Texts.{MarginsOf}

-- the face of one box more
pub faces_more : (faces : List FontFace) (style : ℕ → Option MarginStyleOf) (chosen : List FaceId) (n : ℕ) (y : FaceId) →
    ((s : MarginStyleOf) → style n ≡ Some s → IsFaceOf faces s y) → AreFacesBelow n faces style chosen → AreFacesBelow (n + 1) faces style (slice_set chosen n y)
faces_more faces style chosen n y here before place s f l styled at = by (get-set chosen n place y f at)
  where
    by : ((old : FaceId) × (slice_get chosen place ≡ Some old) × (((place ≡ n) × (f ≡ y)) ⊎ ((place ≡ n → ⊥) × (f ≡ old)))) → IsFaceOf faces s f
    by (old, stood, inl (now, is)) = subst (IsFaceOf faces s) (sym is) (here s (ap style (sym now) ∙ styled))
    by (old, stood, inr (other, is)) = before place s f (omega arith) styled (stood ∙ ap (λ g. Some g) (sym is))

abbrev key : ℕ → ℕ → PageKey
key name cell = record { name = name; cell = cell }

same-key : (k q : PageKey) → is_same k q ≡ true → k ≡ q
same-key k q h =
    let parts = and_parts (k.name == q.name) (k.cell == q.cell) h in
    ap (λ name. key name k.cell) (eqb-true k.name q.name parts.0) ∙ ap (key q.name) (eqb-true k.cell q.cell parts.1)

-- what holds of each that is kept holds of what is found
pub of-found : (P : PageKey × List FaceId → Type 0) (k : PageKey) (f : List FaceId) (kept : List (PageKey × List FaceId)) → lookup (is_same k) kept ≡ Some f → All P kept → P (k, f)
of-found P k f kept h all = All-contains P kept (k, f) all (Contains-from_lookup same-key k f kept h)

-- the items of a box whose style and area are these
pub box-is : (m : MarginsOf) (number : ℕ) (page : Page) (areas : List Area) (place : ℕ) (area : Area) (style : Option MarginStyleOf) → slice_get areas place ≡ Some area → style ≡ m.style page.index page.name page.kind place → styled_items m number area style ≡ box_items m number page areas place
box-is m number page areas place area style at e =
    ap (styled_items m number area) e ∙ sym (ap (for_some (λ (a : Area). styled_items m number a (m.style page.index page.name page.kind place))) at)
