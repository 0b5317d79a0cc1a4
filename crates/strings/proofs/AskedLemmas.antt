-- Assignments of names that aren't asked for change nothing that pages show.
use Rattle.std.proofs.Common.{◌≡◌, ◌∙◌, ℕ, suc, nat_eq, Bool, true, false, cond, List, [], ◌∷◌, Option, None, Some, option_map, map, filter, slice_get, refl, ap, sym, true≢false}
use Rattle.std.specs.Option.{option_or}
use Rattle.std.proofs.lemmas.Slice.Eq.{bytes_eq-Decides}
use Rattle.std.specs.Cmp.Lexicographic.{pointwise}
use Rattle.bk_num.specs.Names.{has_name}
use Rattle.boxes.specs.Tree.{Tree}
use Rattle.boxes.specs.declared.flow.Assign.{Assign}
use Rattle.boxes.specs.declared.page.Page.{Page}
use Rattle.page_seq.specs.Places.{first_place, last_or_here, last_place, page_of}
use Rattle.style.specs.declared.content.Keyword.{Keyword}
use Rattle.style.specs.declared.content.Keyword.TheVariants as keyword
use Rattle.strings.specs.Laws.{UnaskedChangeNothing}
use Rattle.strings.specs.Shown.{assign_at, entry_of, first_on, is_earlier, is_on, last_on, mark_of, unless, shown_by, shown_on, starts_page, value_of}

-- two places stand for the same assignment, or neither stands for one
abbrev ArePicksOf : List Assign → Option ℕ → List Assign → Option ℕ → Type 0
ArePicksOf xs None ys None = Unit {0}
ArePicksOf xs (Some i) ys (Some j) = slice_get xs i ≡ slice_get ys j
ArePicksOf xs None ys (Some j) = ⊥
ArePicksOf xs (Some i) ys None = ⊥

later : (x : Assign) (xs ys : List Assign) (o p : Option ℕ) → ArePicksOf xs o ys p → ArePicksOf (x ∷ xs) (option_map suc o) ys p
later x xs ys None None s = s
later x xs ys (Some i) (Some j) s = s
later x xs ys None (Some j) s = s
later x xs ys (Some i) None s = s

later_both : (x : Assign) (xs ys : List Assign) (o p : Option ℕ) → ArePicksOf xs o ys p → ArePicksOf (x ∷ xs) (option_map suc o) (x ∷ ys) (option_map suc p)
later_both x xs ys None None s = s
later_both x xs ys (Some i) (Some j) s = s
later_both x xs ys None (Some j) s = s
later_both x xs ys (Some i) None s = s

other : (x : Assign) (xs ys : List Assign) (o p : Option ℕ) → ArePicksOf xs o ys p → ArePicksOf xs o (x ∷ ys) (option_map suc p)
other x xs ys None None s = s
other x xs ys (Some i) (Some j) s = s
other x xs ys None (Some j) s = s
other x xs ys (Some i) None s = s

last_other : (x : Assign) (xs ys : List Assign) (o p : Option ℕ) → ArePicksOf xs o ys p → ArePicksOf xs o (x ∷ ys) (last_or_here false p)
last_other x xs ys None None s = s
last_other x xs ys (Some i) (Some j) s = s
last_other x xs ys None (Some j) s = s
last_other x xs ys (Some i) None s = s

last_both : (here : Bool) (x : Assign) (xs ys : List Assign) (o p : Option ℕ) → ArePicksOf xs o ys p → ArePicksOf (x ∷ xs) (last_or_here here o) (x ∷ ys) (last_or_here here p)
last_both true x xs ys None None s = refl
last_both false x xs ys None None s = s
last_both here x xs ys (Some i) (Some j) s = s
last_both here x xs ys None (Some j) s = absurd s
last_both here x xs ys (Some i) None s = absurd s

at_both : (xs ys : List Assign) (o p : Option ℕ) → ArePicksOf xs o ys p → assign_at xs o ≡ assign_at ys p
at_both xs ys None None s = refl
at_both xs ys (Some i) (Some j) s = s
at_both xs ys None (Some j) s = absurd s
at_both xs ys (Some i) None s = absurd s

or_both : (xs ys : List Assign) (o p o' p' : Option ℕ) → ArePicksOf xs o ys p → ArePicksOf xs o' ys p' → ArePicksOf xs (option_or o o') ys (option_or p p')
or_both xs ys None None o' p' s t = t
or_both xs ys (Some i) (Some j) o' p' s t = s
or_both xs ys None (Some j) o' p' s t = absurd s
or_both xs ys (Some i) None o' p' s t = absurd s

unless_both : (xs ys : List Assign) (o p o' p' : Option ℕ) → ArePicksOf xs o ys p → ArePicksOf xs o' ys p' → ArePicksOf xs (unless o o') ys (unless p p')
unless_both xs ys None None o' p' s t = t
unless_both xs ys (Some i) (Some j) o' p' s t = tt
unless_both xs ys None (Some j) o' p' s t = absurd s
unless_both xs ys (Some i) None o' p' s t = absurd s

module _ (t : Tree) (pages : List Page) (name : List ℕ) (keep : Assign → Bool) (drops : (a : Assign) → keep a ≡ false → mark_of t pages name a ≡ None) where
  abbrev numbers : List Assign → List (Option ℕ)
  numbers assigns = map (mark_of t pages name) assigns

  module _ (q : Option ℕ → Bool) (none : q None ≡ false) where
    first_kept : (assigns : List Assign) → ArePicksOf (filter keep assigns) (first_place q (numbers (filter keep assigns))) assigns (first_place q (numbers assigns))
    first_kept [] = tt
    first_kept (a ∷ assigns) = by (keep a) refl (first_kept assigns)
      where
        Rest : Type 0
        Rest = ArePicksOf (filter keep assigns) (first_place q (numbers (filter keep assigns))) assigns (first_place q (numbers assigns))

        on : (w : Bool) → Rest → ArePicksOf (a ∷ filter keep assigns) (cond w (Some 0) (option_map suc (first_place q (numbers (filter keep assigns))))) (a ∷ assigns) (cond w (Some 0) (option_map suc (first_place q (numbers assigns))))
        on true rest = refl
        on false rest = later_both a _ _ _ _ rest

        off : (m : Option ℕ) → m ≡ None → Rest → ArePicksOf (filter keep assigns) (first_place q (numbers (filter keep assigns))) (a ∷ assigns) (cond (q m) (Some 0) (option_map suc (first_place q (numbers assigns))))
        off m e rest = rw e (rw none (other a _ _ _ _ rest))

        by : (v : Bool) → keep a ≡ v → Rest → ArePicksOf (cond v (a ∷ filter keep assigns) (filter keep assigns)) (first_place q (numbers (cond v (a ∷ filter keep assigns) (filter keep assigns)))) (a ∷ assigns) (first_place q (numbers (a ∷ assigns)))
        by true e rest = on (q (mark_of t pages name a)) rest
        by false e rest = off (mark_of t pages name a) (drops a e) rest

    last_kept : (assigns : List Assign) → ArePicksOf (filter keep assigns) (last_place q (numbers (filter keep assigns))) assigns (last_place q (numbers assigns))
    last_kept [] = tt
    last_kept (a ∷ assigns) = by (keep a) refl (last_kept assigns)
      where
        Rest : Type 0
        Rest = ArePicksOf (filter keep assigns) (last_place q (numbers (filter keep assigns))) assigns (last_place q (numbers assigns))

        off : (m : Option ℕ) → m ≡ None → Rest → ArePicksOf (filter keep assigns) (last_place q (numbers (filter keep assigns))) (a ∷ assigns) (last_or_here (q m) (last_place q (numbers assigns)))
        off m e rest = rw e (rw none (last_other a _ _ _ _ rest))

        by : (v : Bool) → keep a ≡ v → Rest → ArePicksOf (cond v (a ∷ filter keep assigns) (filter keep assigns)) (last_place q (numbers (cond v (a ∷ filter keep assigns) (filter keep assigns)))) (a ∷ assigns) (last_place q (numbers (a ∷ assigns)))
        by true e rest = last_both (q (mark_of t pages name a)) a _ _ _ _ rest
        by false e rest = off (mark_of t pages name a) (drops a e) rest

  shown_kept : (assigns : List Assign) (page : ℕ) (k : Keyword) →
      ArePicksOf (filter keep assigns) (shown_by k (shown_on t pages (filter keep assigns) name page)) assigns (shown_by k (shown_on t pages assigns name page))
  shown_kept assigns page k = by k
    where
      first : ArePicksOf (filter keep assigns) (first_on page (numbers (filter keep assigns))) assigns (first_on page (numbers assigns))
      first = first_kept (is_on page) refl assigns

      last : ArePicksOf (filter keep assigns) (last_on page (numbers (filter keep assigns))) assigns (last_on page (numbers assigns))
      last = last_kept (is_on page) refl assigns

      entry : ArePicksOf (filter keep assigns) (entry_of page (numbers (filter keep assigns))) assigns (entry_of page (numbers assigns))
      entry = last_kept (is_earlier page) refl assigns

      starts : List Assign → Bool
      starts list = starts_page t (slice_get pages page) (assign_at list (first_on page (numbers list)))

      same : starts (filter keep assigns) ≡ starts assigns
      same = ap (starts_page t (slice_get pages page)) (at_both _ _ _ _ first)

      on : (v : Bool) → ArePicksOf (filter keep assigns) (cond v (option_or (first_on page (numbers (filter keep assigns))) (entry_of page (numbers (filter keep assigns)))) (entry_of page (numbers (filter keep assigns)))) assigns
          (cond v (option_or (first_on page (numbers assigns)) (entry_of page (numbers assigns))) (entry_of page (numbers assigns)))
      on true = or_both _ _ _ _ _ _ first entry
      on false = entry

      by : (k : Keyword) → ArePicksOf (filter keep assigns) (shown_by k (shown_on t pages (filter keep assigns) name page)) assigns (shown_by k (shown_on t pages assigns name page))
      by keyword.First = or_both _ _ _ _ _ _ first entry
      by keyword.Start = rw same (on (starts assigns))
      by keyword.Last = or_both _ _ _ _ _ _ last entry
      by keyword.FirstExcept = unless_both _ _ _ _ _ _ first entry

-- an assignment of a name that nothing asks for has another name than one that is asked for
unmarked : (t : Tree) (pages : List Page) (asked : List (List ℕ)) (name : List ℕ) → has_name asked name ≡ true → (a : Assign) → has_name asked a.name ≡ false → mark_of t pages name a ≡ None
unmarked t pages asked name asks a unasked = by (pointwise nat_eq a.name name) refl
  where
    by : (v : Bool) → pointwise nat_eq a.name name ≡ v → cond v (Some (page_of t pages a.at)) None ≡ None
    by true e = let same : a.name ≡ name = (bytes_eq-Decides a.name name).0 e in absurd (true≢false (sym asks ∙ (ap (has_name asked) (sym same) ∙ unasked)))
    by false e = refl

pub unasked_change_nothing : UnaskedChangeNothing
unasked_change_nothing t pages assigns asked page name k asks =
    ap value_of (at_both _ _ _ _ (shown_kept t pages name (λ a. has_name asked a.name) (unmarked t pages asked name asks) assigns page k))
