-- Laws of winning declarations and of the specificity of rules.
use Rattle.std.specs.Prelude.{◌≡◌, ℕ, false, List, None, Some, slice_get}
use Rattle.css_page.specs.declared.selectors.PageSelector.{PageSelector}
use Rattle.page_ctx.specs.declared.classes.PageClasses.{PageClasses}
use Rattle.page_ctx.specs.declared.property.PageProperty.{PageProperty}
use Rattle.page_ctx.specs.declared.weight.PageWeight.{PageWeight}
use Rattle.page_ctx.specs.Selectors.{takes}
use Rattle.page_ctx.specs.Weights.{greatest, IsGreatest}
use Rattle.page_ctx.specs.Winners.{Declared, winner, is_of, IsWinner}

-- a winner is a greatest declaration of its property, there is none only where nothing declares the property, and it is
-- one
pub record WinnersAreGreatest : Type 0 where
  pub found :
      (p : PageProperty) (ds : List Declared) (d : Declared) → winner p ds ≡ Some d →
      (place : ℕ) × IsWinner p ds place d
  pub none :
      (p : PageProperty) (ds : List Declared) → winner p ds ≡ None → (k : ℕ) (d : Declared) → slice_get ds k ≡ Some d →
      is_of p d.long ≡ false
  pub one :
      (p : PageProperty) (ds : List Declared) (j k : ℕ) (d e : Declared) → IsWinner p ds j d → IsWinner p ds k e →
      (j ≡ k) × (d ≡ e)

-- the specificity of a rule is a greatest one among those of its selectors that take the page, there is none only where
-- none of them takes it, and there is one
pub record GreatestIsGreatest : Type 0 where
  pub found :
      (name : List ℕ) (c : PageClasses) (selectors : List PageSelector) (w : PageWeight) →
      greatest name c selectors ≡ Some w →
      IsGreatest name c selectors w
  pub none :
      (name : List ℕ) (c : PageClasses) (selectors : List PageSelector) → greatest name c selectors ≡ None →
      (k : ℕ) (s : PageSelector) → slice_get selectors k ≡ Some s → takes s name c ≡ false
  pub one :
      (name : List ℕ) (c : PageClasses) (selectors : List PageSelector) (v w : PageWeight) →
      IsGreatest name c selectors v →
      IsGreatest name c selectors w → v ≡ w
