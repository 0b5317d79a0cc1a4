-- What decides between two declarations of a longhand (CSS 2.1, 6.4.1 and 6.4.3).
use Rattle.std.specs.Prelude.{ℕ, Bool, true, false, ◌&&◌, List, [], ◌∷◌}
use Rattle.std.specs.Int.{from_bool}
use Rattle.style.specs.Ranking.{outranks}
use Rattle.cascade.specs.declared.weight.DeclWeight.{DeclWeight}

-- importance, origin, style attribute, specificity, order of appearance: what comes first decides first
abbrev pub ranks_of : DeclWeight → List ℕ
ranks_of w =
    from_bool w.important ∷ from_bool w.author ∷ from_bool w.styled ∷ w.ids ∷ w.classes ∷ w.types ∷ w.rule ∷ w.decl ∷
    w.place ∷ []

-- a weight wins over another
abbrev pub is_above : DeclWeight → DeclWeight → Bool
is_above a b = outranks (ranks_of a) (ranks_of b)

-- the weight of a longhand of a declaration
abbrev pub at_place : DeclWeight → ℕ → DeclWeight
at_place w place = record w { place = place }

-- the weight of a declaration of a rule; a default one is never important
abbrev pub of_decl : DeclWeight → Bool → ℕ → DeclWeight
of_decl w important decl = record w { important = w.author && important; decl = decl; place = 0 }

-- the weight of the declarations of a style attribute
abbrev pub of_style : DeclWeight
of_style = record {
  important = false;
  author = true;
  styled = true;
  ids = 0;
  classes = 0;
  types = 0;
  rule = 0;
  decl = 0;
  place = 0;
}
