-- A longhand has one winner.
use Rattle.std.proofs.Common.{◌≡◌, List, Option, Some, get_or, slice_get, sym, ◌∙◌, ap, subst}
use Rattle.cascade.specs.declared.weight.DeclWeight.{DeclWeight}
use Rattle.cascade.specs.declared.decl.ReadDecl.{ReadDecl}
use Rattle.style.proofs.RankingLemmas.{same-ranks, same-rank}
use Rattle.cascade.specs.Weights.{ranks_of}
use Rattle.cascade.specs.Laws.{OneWins}

pub some_same : {A : Type 0} (o : Option A) (x y : A) → o ≡ Some x → o ≡ Some y → x ≡ y
some_same o x y e f = cc

pub one_wins : OneWins
one_wins rules placed slot a b x y =
    let p = x.there in
    let q = y.there in
    let same : ranks_of a.weight ≡ ranks_of b.weight = same-ranks (ranks_of a.weight) (ranks_of b.weight) (y.greatest a p x.of_slot) (x.greatest b q y.of_slot) in
    let styled : a.weight.styled ≡ b.weight.styled = same-rank a.weight.styled b.weight.styled (ap (λ l. get_or l 2 0) same) in
    let rule : a.weight.rule ≡ b.weight.rule = ap (λ l. get_or l 6 0) same in
    let decl : a.weight.decl ≡ b.weight.decl = ap (λ l. get_or l 7 0) same in
    let place : a.weight.place ≡ b.weight.place = ap (λ l. get_or l 8 0) same in
    let decls : p.rule.decls ≡ q.rule.decls = placed p.place q.place p.rule q.rule p.there q.there
    (sym (ap (λ (w : DeclWeight). w.styled) p.is.is) ∙ styled ∙ ap (λ (w : DeclWeight). w.styled) q.is.is) (sym (ap (λ (w : DeclWeight). w.rule) p.is.is) ∙ rule ∙ ap (λ (w : DeclWeight). w.rule) q.is.is) in
    let at : p.is.decl ≡ q.is.decl = sym (ap (λ (w : DeclWeight). w.decl) p.is.is) ∙ decl ∙ ap (λ (w : DeclWeight). w.decl) q.is.is in
    let here : p.is.place ≡ q.is.place = sym (ap (λ (w : DeclWeight). w.place) p.is.is) ∙ place ∙ ap (λ (w : DeclWeight). w.place) q.is.is in
    let source : p.is.source ≡ q.is.source = some_same (slice_get q.rule.decls q.is.decl) p.is.source q.is.source (subst (λ k. slice_get q.rule.decls k ≡ Some p.is.source) at (subst (λ (ds : List ReadDecl). slice_get ds p.is.decl ≡ Some p.is.source) decls p.is.there)) q.is.there in
    some_same (slice_get q.is.source.longs q.is.place) a.long b.long (subst (λ k. slice_get q.is.source.longs k ≡ Some a.long) here (subst (λ (s : ReadDecl). slice_get s.longs p.is.place ≡ Some a.long) source p.is.long)) q.is.long
