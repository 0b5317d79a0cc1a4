-- The declarations among which the cascade chooses.
use Rattle.std.specs.Prelude.{◌≡◌, ℕ, Some, List, slice_get}
use Rattle.style.specs.Longhands.{number_of}
use Rattle.style.specs.Longs.{longhand_of}
use Rattle.style.specs.declared.long.Long.{Long}
use Rattle.cascade.specs.declared.weight.DeclWeight.{DeclWeight}
use Rattle.cascade.specs.declared.decl.ReadDecl.{ReadDecl}
use Rattle.cascade.specs.declared.choice.AppliedDecls.{AppliedDecls}
use Rattle.cascade.specs.Weights.{of_decl, at_place}

-- a longhand that is declared, with what decides
pub record Declared : Type 0 where
  pub weight : DeclWeight
  pub long : Long

-- the place of a declaration's longhand in the list of all
abbrev pub slot_of : Long → ℕ
slot_of long = number_of (longhand_of long)

-- it is a longhand of one of these declarations, under the weight that they have in common
pub record IsDeclared (weight : DeclWeight) (decls : List ReadDecl) (d : Declared) : Type 0 where
  pub decl : ℕ
  pub source : ReadDecl
  pub there : slice_get decls decl ≡ Some source
  pub place : ℕ
  pub long : slice_get source.longs place ≡ Some d.long
  pub is : d.weight ≡ at_place (of_decl weight source.important decl) place

-- the declarations of a rule that applies, or of a style attribute
pub record AppliedDeclsOf : Type 0 where
  pub weight : DeclWeight
  pub decls : List ReadDecl

-- the same with the declarations as values
abbrev pub applied_in : AppliedDecls → AppliedDeclsOf
applied_in a = record { weight = a.weight; decls = a.decls.now }

-- it is declared by one of these rules
pub record DeclaredBy (rules : List AppliedDeclsOf) (d : Declared) : Type 0 where
  pub place : ℕ
  pub rule : AppliedDeclsOf
  pub there : slice_get rules place ≡ Some rule
  pub is : IsDeclared rule.weight rule.decls d
