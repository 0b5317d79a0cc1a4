-- What wins for a node is one list.
use Rattle.std.proofs.Common.{◌≡◌, ℕ, suc, zero, ◌<◌, true, false, List, [], ◌∷◌, Some, get_or, slice_get, refl, sym, ◌∙◌, ap, subst, arith, inl, inr}
use Rattle.bk_num.specs.declared.values.Pseudo.{Pseudo}
use Rattle.selectors.specs.Match.{Tree}
use Rattle.style.specs.declared.long.Long.{Long}
use Rattle.cascade.specs.declared.weight.DeclWeight.{DeclWeight}
use Rattle.cascade.specs.declared.decl.ReadDecl.{ReadDecl}
use Rattle.cascade.specs.declared.sheet.ReadSheet.{ReadSheet}
use Rattle.cascade.specs.Weights.{ranks_of}
use Rattle.cascade.specs.Candidates.{Declared, AppliedDeclsOf, slot_of}
use Rattle.cascade.specs.Winners.{IsWinner, AreWinners}
use Rattle.cascade.specs.Document.{RuleIn, rules_of, Applies, IsDeclaredAt}
use Rattle.cascade.specs.Laws.{WinnersAreOne}
use Rattle.style.proofs.RankingLemmas.{same-ranks, same-rank}
use Rattle.cascade.proofs.OneLemmas.{some_same}

-- ---- one winner

-- declarations of equal weight are those of one rule or of the style attribute
one_source : (dom : Tree) (sheets : List ReadSheet) (n : ℕ) (p : Pseudo) (a b : AppliedDeclsOf) → Applies dom sheets n p a → Applies dom sheets n p b → a.weight.styled ≡ b.weight.styled → a.weight.rule ≡ b.weight.rule → a.decls ≡ b.decls
one_source dom sheets n p a b (inl x) (inl y) styled rule =
    let place : x.place ≡ y.place = sym (ap (λ (w : DeclWeight). w.rule) x.weight) ∙ rule ∙ ap (λ (w : DeclWeight). w.rule) y.weight in
    let same : x.rule ≡ y.rule = some_same (slice_get (rules_of sheets) y.place) x.rule y.rule (subst (λ k. slice_get (rules_of sheets) k ≡ Some x.rule) place x.there) y.there in
    x.decls ∙ ap (λ (r : RuleIn). r.read.decls) same ∙ sym y.decls
one_source dom sheets n p a b (inl x) (inr y) styled rule =
    let z : false ≡ true = sym (ap (λ (w : DeclWeight). w.styled) x.weight) ∙ styled ∙ ap (λ (w : DeclWeight). w.styled) y.weight in cc
one_source dom sheets n p a b (inr x) (inl y) styled rule =
    let z : true ≡ false = sym (ap (λ (w : DeclWeight). w.styled) x.weight) ∙ styled ∙ ap (λ (w : DeclWeight). w.styled) y.weight in cc
one_source dom sheets n p a b (inr x) (inr y) styled rule = x.decls ∙ sym y.decls

-- so has a longhand of a node or of its pseudo-element
abbrev OneWinsAt : Type 0
OneWinsAt =
    (dom : Tree) (sheets : List ReadSheet) (n : ℕ) (p : Pseudo) (slot : ℕ) (a b : Declared) →
    IsWinner (IsDeclaredAt dom sheets n p) slot a → IsWinner (IsDeclaredAt dom sheets n p) slot b → a.long ≡ b.long

one_wins_at : OneWinsAt
one_wins_at dom sheets n p slot a b x y =
    let s = x.there in
    let t = y.there in
    let same : ranks_of a.weight ≡ ranks_of b.weight = same-ranks (ranks_of a.weight) (ranks_of b.weight) (y.greatest a s x.of_slot) (x.greatest b t y.of_slot) in
    let styled : a.weight.styled ≡ b.weight.styled = same-rank a.weight.styled b.weight.styled (ap (λ l. get_or l 2 0) same) in
    let rule : a.weight.rule ≡ b.weight.rule = ap (λ l. get_or l 6 0) same in
    let decl : a.weight.decl ≡ b.weight.decl = ap (λ l. get_or l 7 0) same in
    let place : a.weight.place ≡ b.weight.place = ap (λ l. get_or l 8 0) same in
    let decls : s.source.decls ≡ t.source.decls = one_source dom sheets n p s.source t.source s.applies t.applies
    (sym (ap (λ (w : DeclWeight). w.styled) s.is.is) ∙ styled ∙ ap (λ (w : DeclWeight). w.styled) t.is.is) (sym (ap (λ (w : DeclWeight). w.rule) s.is.is) ∙ rule ∙ ap (λ (w : DeclWeight). w.rule) t.is.is) in
    let at : s.is.decl ≡ t.is.decl = sym (ap (λ (w : DeclWeight). w.decl) s.is.is) ∙ decl ∙ ap (λ (w : DeclWeight). w.decl) t.is.is in
    let here : s.is.place ≡ t.is.place = sym (ap (λ (w : DeclWeight). w.place) s.is.is) ∙ place ∙ ap (λ (w : DeclWeight). w.place) t.is.is in
    let source : s.is.source ≡ t.is.source = some_same (slice_get t.source.decls t.is.decl) s.is.source t.is.source (subst (λ k. slice_get t.source.decls k ≡ Some s.is.source) at (subst (λ (ds : List ReadDecl). slice_get ds s.is.decl ≡ Some s.is.source) decls s.is.there)) t.is.there in
    some_same (slice_get t.is.source.longs t.is.place) a.long b.long (subst (λ k. slice_get t.is.source.longs k ≡ Some a.long) here (subst (λ (d : ReadDecl). slice_get d.longs s.is.place ≡ Some a.long) source s.is.long)) t.is.long

-- ---- one list

abbrev AreOrdered : List Long → Type 0
AreOrdered longs = (j k : ℕ) (a b : Long) → j < k → slice_get longs j ≡ Some a → slice_get longs k ≡ Some b → slot_of a < slot_of b

abbrev AreAmong : List Long → List Long → Type 0
AreAmong longs more = (k : ℕ) (x : Long) → slice_get longs k ≡ Some x → (j : ℕ) × (slice_get more j ≡ Some x)

ordered_rest : (x : Long) (xs : List Long) → AreOrdered (x ∷ xs) → AreOrdered xs
ordered_rest x xs o j k a b less h g = o (suc j) (suc k) a b (omega (arith, less)) h g

-- the first of two ordered lists with the same entries
first_same : (x y : Long) (xs ys : List Long) → AreOrdered (x ∷ xs) → AreOrdered (y ∷ ys) → AreAmong (x ∷ xs) (y ∷ ys) → AreAmong (y ∷ ys) (x ∷ xs) → x ≡ y
first_same x y xs ys o p to from = by (to 0 x refl) (from 0 y refl)
  where
    by : ((j : ℕ) × (slice_get (y ∷ ys) j ≡ Some x)) → ((i : ℕ) × (slice_get (x ∷ xs) i ≡ Some y)) → x ≡ y
    by (zero, h) g = cc
    by (suc j, h) (zero, g) = cc
    by (suc j, h) (suc i, g) =
        let up : slot_of y < slot_of x = p 0 (suc j) y x (omega arith) refl h in
        let down : slot_of x < slot_of y = o 0 (suc i) x y (omega arith) refl g in
        absurd (omega (arith, up, down))

rest_among : (x y : Long) (xs ys : List Long) → x ≡ y → AreOrdered (x ∷ xs) → AreAmong (x ∷ xs) (y ∷ ys) → AreAmong xs ys
rest_among x y xs ys same o to k z h = by (to (suc k) z h)
  where
    by : ((j : ℕ) × (slice_get (y ∷ ys) j ≡ Some z)) → (j : ℕ) × (slice_get ys j ≡ Some z)
    by (suc j, g) = (j, g)
    by (zero, g) =
        let e : x ≡ z = cc in
        let up : slot_of x < slot_of z = o 0 (suc k) x z (omega arith) refl h in
        let level : slot_of x ≡ slot_of z = ap slot_of e in
        absurd (omega (arith, up, level))

one_list : (xs ys : List Long) → AreOrdered xs → AreOrdered ys → AreAmong xs ys → AreAmong ys xs → xs ≡ ys
one_list [] [] o p to from = refl
one_list [] (y ∷ ys) o p to from = let h = from 0 y refl in let g = h.1 in cc
one_list (x ∷ xs) [] o p to from = let h = to 0 x refl in let g = h.1 in cc
one_list (x ∷ xs) (y ∷ ys) o p to from =
    let same = first_same x y xs ys o p to from in
    ap (λ z. z ∷ xs) same ∙ ap (λ zs. y ∷ zs) (one_list xs ys (ordered_rest x xs o) (ordered_rest y ys p) (rest_among x y xs ys same o to) (rest_among y x ys xs (sym same) p from))

among : (P : Declared → Type 0) → ((slot : ℕ) (a b : Declared) → IsWinner P slot a → IsWinner P slot b → a.long ≡ b.long) → (longs more : List Long) → AreWinners P longs → AreWinners P more → AreAmong longs more
among P one longs more w v k x h =
    let d = w.each k x h in
    let e = v.all d.0 d.2.there in
    let f = v.each e.0 e.1 e.2 in
    let slot : slot_of e.1 ≡ slot_of x = e.3 ∙ ap slot_of d.1 in
    let same : d.0.long ≡ f.0.long = one (slot_of x) d.0 f.0 d.2 (subst (λ s. IsWinner P s f.0) slot f.2) in
    (e.0, e.2 ∙ ap (λ l. Some l) (sym f.1 ∙ sym same ∙ d.1))

pub winners_are_one : WinnersAreOne
winners_are_one dom sheets n p longs more w v =
    let one = one_wins_at dom sheets n p in
    one_list longs more w.ordered v.ordered (among (IsDeclaredAt dom sheets n p) one longs more w v) (among (IsDeclaredAt dom sheets n p) one more longs v w)
