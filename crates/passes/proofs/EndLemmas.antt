-- Passes end in one way, and without page references at once.
use Rattle.std.proofs.Common.{◌≡◌, ◌≢◌, ◌∙◌, ◌⊎◌, inl, inr, ℕ, zero, suc, ◌+◌, ◌-◌, ◌<◌, ◌≤◌, List, [], Some, slice_get, refl, sym, ap, subst, arith}
use Rattle.std.proofs.lemmas.Bool.{cases_order}
use Rattle.std.proofs.lemmas.Option.{none-some}
use Rattle.bk_num.specs.Limits.{most_pages, most_text_bytes}
use Rattle.boxes.specs.declared.flow.Flow.{Flow}
use Rattle.boxes.specs.declared.page.Page.{Page}
use Rattle.box_gen.specs.Notes.{bytes_in}
use Rattle.gen_text.specs.declared.table.Entry.{Entry}
use Rattle.page_seq.specs.Folds.{fold_of}
use Rattle.page_list.specs.Pages.{HasOnePageList, IsPaged, LeavesNothing, LeavesSome}
use Rattle.refs.proofs.LawLemmas.{differences}
use Rattle.refs.specs.Differences.{IsFirstDifference}
use Rattle.refs.specs.Tables.{opening_of, table_of}
use Rattle.passes.specs.Passes.{End, EndsIn, HaveOneEnd, IsAtOnce, IsLast, IsOpenAfter, IsPass, SettleAtOnce, Shows, differs, id_of, settled, settles, too_long, too_many, unsettled}
use Rattle.passes.specs.Work.{IsFlowUnder, Work}

module _ (list : HasOnePageList) (nothing : LeavesNothing) (w : Work) where
  one_flow : (t : List Entry) (f g : Flow) → IsFlowUnder w t f → IsFlowUnder w t g → f ≡ g
  one_flow t f g x y = x.is ∙ sym y.is

  -- ---- a pass

  pass_flow : (t u v : List Entry) (f g : Flow) (ps qs : List Page) → IsPass w t f ps u → IsPass w t g qs v → f ≡ g
  pass_flow t u v f g ps qs p q = one_flow t f g p.flow_is q.flow_is

  pass_pages : (t u v : List Entry) (f g : Flow) (ps qs : List Page) → IsPass w t f ps u → IsPass w t g qs v → ps ≡ qs
  pass_pages t u v f g ps qs p q = list w.faces g w.frames ps qs (subst (λ (h : Flow). IsPaged w.faces h w.frames ps) (pass_flow t u v f g ps qs p q) p.paged) q.paged

  -- a pass shows one table
  pass_table : (t u v : List Entry) (f g : Flow) (ps qs : List Page) → IsPass w t f ps u → IsPass w t g qs v → u ≡ v
  pass_table t u v f g ps qs p q = p.shown ∙ ap (λ (h : Flow). table_of h (fold_of w.per ps) w.targets) (pass_flow t u v f g ps qs p q) ∙ ap (λ (rs : List Page). table_of g (fold_of w.per rs) w.targets) (pass_pages t u v f g ps qs p q) ∙ sym q.shown

  one_table : (t u v : List Entry) → Shows w t u → Shows w t v → u ≡ v
  one_table t u v (f, ps, p) (g, qs, q) = pass_table t u v f g ps qs p q

  open_one : (k : ℕ) (s t : List Entry) → IsOpenAfter w k s → IsOpenAfter w k t → s ≡ t
  open_one zero s t p q = p ∙ sym q
  open_one (suc k) s t (a, x, m, d) (b, y, n, e) = one_table b s t (subst (λ (z : List Entry). Shows w z s) (open_one k a b x y) m) n

  -- before the table after a pass stands one that this pass changed
  open_back : (j d : ℕ) (t : List Entry) → IsOpenAfter w (suc (d + j)) t → (s : List Entry) × (u : List Entry) × IsOpenAfter w j s × Shows w s u × (s ≢ u)
  open_back j zero t (s, o, m, d) =
      let e : 0 + j ≡ j = omega arith in
      (s, t, subst (λ (x : ℕ). IsOpenAfter w x s) e o, m, d)
  open_back j (suc n) t (s, o, m, d) =
      let e : suc n + j ≡ suc (n + j) = omega arith in
      open_back j n s (subst (λ (x : ℕ). IsOpenAfter w x s) e o)

  -- ---- the last pass

  fits_not_long : (t u : List Entry) (f g : Flow) (ps : List Page) → IsPass w t f ps u → IsFlowUnder w t g → most_text_bytes < bytes_in g → ⊥
  fits_not_long t u f g ps p is much =
      let fits : bytes_in g ≤ most_text_bytes = subst (λ (h : Flow). bytes_in h ≤ most_text_bytes) (one_flow t f g p.flow_is is) p.fits in
      absurd (omega arith)

  few_not_many : (t u : List Entry) (f g : Flow) (ps : List Page) → IsPass w t f ps u → IsFlowUnder w t g → LeavesSome w.faces g w.frames most_pages → ⊥
  few_not_many t u f g ps p is left = nothing w.faces g w.frames ps most_pages (subst (λ (h : Flow). IsPaged w.faces h w.frames ps) (one_flow t f g p.flow_is is) p.paged) p.few left

  long_not_many : (t : List Entry) (f g : Flow) → IsFlowUnder w t f → most_text_bytes < bytes_in f → IsFlowUnder w t g → bytes_in g ≤ most_text_bytes → ⊥
  long_not_many t f g is much same fits =
      let more : most_text_bytes < bytes_in g = subst (λ (h : Flow). most_text_bytes < bytes_in h) (one_flow t f g is same) much in
      absurd (omega arith)

  -- a pass that ends the passes before the limit doesn't change its table
  ends_there : (limit k : ℕ) (t u : List Entry) (e : End) → suc k < limit → IsLast w limit k t e → Shows w t u → t ≢ u → ⊥
  ends_there limit k t u _ low (settles g qs q) (f, ps, p) d = d (pass_table t t u g f qs ps q p)
  ends_there limit k t u _ low (differs a b v n s place x y z) (f, ps, p) d = absurd (omega arith)
  ends_there limit k t u _ low (too_long g is much) (f, ps, p) d = fits_not_long t u f g ps p is much
  ends_there limit k t u _ low (too_many g is fits left) (f, ps, p) d = few_not_many t u f g ps p is left

  same_entries : (t u v : List Entry) (i j : ℕ) (a b c d : Entry) → u ≡ v → i ≡ j → slice_get t i ≡ Some a → slice_get u i ≡ Some b → slice_get t j ≡ Some c → slice_get v j ≡ Some d → unsettled (id_of w.nodes a.node.0) a.number b.number ≡ unsettled (id_of w.nodes c.node.0) c.number d.number
  same_entries t u v i j a b c d is at x y z o =
      let l : Some a ≡ Some c = sym x ∙ ap (slice_get t) at ∙ z in
      let r : Some b ≡ Some d = sym y ∙ ap (slice_get u) at ∙ ap (λ (q : List Entry). slice_get q j) is ∙ o in
      let f : a ≡ c = cc in
      let g : b ≡ d = cc in
      ap (λ (e : Entry). unsettled (id_of w.nodes e.node.0) e.number b.number) f ∙ ap (λ (e : Entry). unsettled (id_of w.nodes c.node.0) c.number e.number) g

  last_one : (limit k : ℕ) (t : List Entry) (d e : End) → IsLast w limit k t d → IsLast w limit k t e → d ≡ e
  last_one limit k t _ _ (settles f ps p) (settles g qs q) = ap (λ (h : Flow). settled (suc k) h ps t) (pass_flow t t t f g ps qs p q) ∙ ap (λ (rs : List Page). settled (suc k) g rs t) (pass_pages t t t f g ps qs p q)
  last_one limit k t _ _ (settles f ps p) (differs a b u n (g, qs, q) place d x y) = absurd (differences.apart t u place d (pass_table t t u f g ps qs p q))
  last_one limit k t _ _ (settles f ps p) (too_long g is much) = absurd (fits_not_long t t f g ps p is much)
  last_one limit k t _ _ (settles f ps p) (too_many g is fits left) = absurd (few_not_many t t f g ps p is left)
  last_one limit k t _ _ (differs a b u n (g, qs, q) place d x y) (settles f ps p) = absurd (differences.apart t u place d (pass_table t t u f g ps qs p q))
  last_one limit k t _ _ (differs a b u n s place d x y) (differs c e v m r other i z o) =
      let is : u ≡ v = one_table t u v s r in
      same_entries t u v place other a b c e is (differences.one t v place other (subst (λ (q : List Entry). IsFirstDifference t q place) is d) i) x y z o
  last_one limit k t _ _ (differs a b u n (g, qs, q) place d x y) (too_long f is much) = absurd (fits_not_long t u g f qs q is much)
  last_one limit k t _ _ (differs a b u n (g, qs, q) place d x y) (too_many f is fits left) = absurd (few_not_many t u g f qs q is left)
  last_one limit k t _ _ (too_long g is much) (settles f ps p) = absurd (fits_not_long t t f g ps p is much)
  last_one limit k t _ _ (too_long f is much) (differs a b u n (g, qs, q) place d x y) = absurd (fits_not_long t u g f qs q is much)
  last_one limit k t _ _ (too_long f is much) (too_long g so more) = refl
  last_one limit k t _ _ (too_long f is much) (too_many g so fits left) = absurd (long_not_many t f g is much so fits)
  last_one limit k t _ _ (too_many g is fits left) (settles f ps p) = absurd (few_not_many t t f g ps p is left)
  last_one limit k t _ _ (too_many f is fits left) (differs a b u n (g, qs, q) place d x y) = absurd (few_not_many t u g f qs q is left)
  last_one limit k t _ _ (too_many g so fits left) (too_long f is much) = absurd (long_not_many t f g is much so fits)
  last_one limit k t _ _ (too_many f is fits left) (too_many g so few more) = refl

  -- ---- the passes

  -- none end before others
  not_before : (limit j k : ℕ) (s t : List Entry) (d : End) → j < k → k < limit → IsOpenAfter w j s → IsLast w limit j s d → IsOpenAfter w k t → ⊥
  not_before limit j k s t d low most o last p =
      let n : k ≡ suc ((k - suc j) + j) = omega arith in
      let (a, b, q, m, ne) = open_back j (k - suc j) t (subst (λ (x : ℕ). IsOpenAfter w x t) n p) in
      let below : suc j < limit = omega arith in
      let same : a ≡ s = open_one j a s q o in
      ends_there limit j s b d below last (subst (λ (x : List Entry). Shows w x b) same m) (λ e. ne (same ∙ e))

  one_of : (limit : ℕ) (d e : End) → EndsIn w limit d → EndsIn w limit e → d ≡ e
  one_of limit d e (j, below, s, o, last) (k, most, t, p, other) = by (cases_order j k)
    where
      by : (j ≡ k) ⊎ ((j < k) ⊎ (k < j)) → d ≡ e
      by (inl is) =
          let q : IsOpenAfter w j t = subst (λ (x : ℕ). IsOpenAfter w x t) (sym is) p in
          let same : t ≡ s = open_one j t s q o in
          last_one limit j s d e last (subst (λ (x : List Entry). IsLast w limit j x e) same (subst (λ (x : ℕ). IsLast w limit x t e) (sym is) other))
      by (inr (inl l)) = absurd (not_before limit j k s t d l most o last p)
      by (inr (inr l)) = absurd (not_before limit k j t s e l below p other o)

pub one_end : HasOnePageList → LeavesNothing → HaveOneEnd
one_end list nothing w limit a b p q = one_of list nothing w limit a b p q

-- ---- without page references

no_shown : (w : Work) → w.targets ≡ [] → (s t : List Entry) → Shows w s t → t ≡ []
no_shown w none s t (flow, pages, is) = is.shown ∙ ap (table_of flow (fold_of w.per pages)) none

no_entries : (w : Work) → w.targets ≡ [] → (k : ℕ) (t : List Entry) → IsOpenAfter w k t → t ≡ []
no_entries w none zero t is = is ∙ ap opening_of none
no_entries w none (suc k) t (s, o, shows, other) = no_shown w none s t shows

-- so each pass shows the table under which it is laid out
no_second : (w : Work) → w.targets ≡ [] → (k : ℕ) (t : List Entry) → IsOpenAfter w (suc k) t → ⊥
no_second w none k t (s, o, shows, other) = other (no_entries w none k s o ∙ sym (no_shown w none s t shows))

first_alone : (w : Work) → w.targets ≡ [] → (k : ℕ) (t : List Entry) → IsOpenAfter w k t → suc k ≡ 1
first_alone w none zero t is = refl
first_alone w none (suc k) t is = absurd (no_second w none k t is)

pub at_once : SettleAtOnce
at_once w limit end none (k, below, t, o, last) = by end last
  where
    by : (e : End) → IsLast w limit k t e → IsAtOnce e
    by _ (settles flow pages is) = first_alone w none k t o
    by _ (differs a b u n s place d x y) = absurd (none-some a (ap (λ (r : List Entry). slice_get r place) (sym (no_entries w none k t o)) ∙ x))
    by _ (too_long flow is much) = tt
    by _ (too_many flow is fits left) = tt
