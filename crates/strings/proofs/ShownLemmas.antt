-- What pages know of a string by the assignments of its name is what they know by those of the flow.
use Rattle.std.proofs.Common.{◌≡◌, ℕ, suc, ◌+◌, ◌==◌, nat_lt, Bool, true, false, cond, List, [], ◌∷◌, Option, None, Some, option_map, map, filter, slice_get, refl, ◌∙◌, ap, arith}
use Rattle.std.specs.List.{last_or}
use Rattle.std.specs.Option.{option_map_or, option_or}
use Rattle.std.specs.Str.{bytes_eq}
use Rattle.std.proofs.lemmas.Bool.{eqb-true}
use Rattle.boxes.specs.Tree.{Tree}
use Rattle.boxes.specs.declared.flow.Assign.{Assign}
use Rattle.boxes.specs.declared.page.Page.{Page}
use Rattle.page_seq.specs.Places.{first_place, last_or_here, last_place, page_of}
use Rattle.strings.specs.Assigned.{AreStrings, Named, before_page, marks_named, on_page, shown_of}
use Rattle.strings.specs.Shown.{assign_at, entry_of, first_on, is_earlier, is_on, last_on, mark_of, marks_of, shown_on, starts_page}
use Rattle.strings.specs.StringFields.{mark_on, marked, marks_with}
use Rattle.strings.specs.declared.assigned.Mark.{Mark}
use Rattle.strings.specs.declared.shown.Shown.{Shown}

shift : (b : ℕ) (o : Option ℕ) → option_map (λ k. suc b + k) o ≡ option_map (λ k. b + k) (option_map suc o)
shift b None = refl
shift b (Some k) = ap (λ n. Some n) (omega arith)

starts_none : (t : Tree) (page : Option Page) → false ≡ starts_page t page None
starts_none t None = refl
starts_none t (Some page) = refl

assign_later : (a : Assign) (assigns : List Assign) (o : Option ℕ) → assign_at assigns o ≡ assign_at (a ∷ assigns) (option_map suc o)
assign_later a assigns None = refl
assign_later a assigns (Some k) = refl

-- of entries with their names, those whose pages pass a test
abbrev passing : (ℕ → Bool) → List (List ℕ × Mark) → List Mark
passing f es = filter (λ m. f m.page) (map (λ e. e.1) es)

abbrev place_of : Option Mark → Option ℕ
place_of mark = option_map (λ (m : Mark). m.assign) mark

abbrev start_of : Option Mark → Bool
start_of mark = option_map_or (λ (m : Mark). m.starts) mark false

module _ (t : Tree) (pages : List Page) (name : List ℕ) where
  abbrev named : ℕ → List Assign → List (List ℕ × Mark)
  named b assigns = filter (λ e. bytes_eq e.0 name) (marked t pages b assigns)

  abbrev entry : ℕ → Assign → List ℕ × Mark
  entry b a = (a.name, mark_on t pages a b (page_of t pages a.at))

  abbrev numbers : List Assign → List (Option ℕ)
  numbers assigns = map (mark_of t pages name) assigns

  -- q is the test f of an assignment's page
  module _ (f : ℕ → Bool) (q : Option ℕ → Bool) (none : q None ≡ false) (some : (n : ℕ) → q (Some n) ≡ f n) where
    abbrev FirstLater : ℕ → List Assign → Type 0
    FirstLater b assigns = place_of (slice_get (passing f (named (suc b) assigns)) 0) ≡ option_map (λ k. b + k) (option_map suc (first_place q (numbers assigns)))

    first_same : (b : ℕ) (assigns : List Assign) → place_of (slice_get (passing f (named b assigns)) 0) ≡ option_map (λ k. b + k) (first_place q (numbers assigns))
    first_same b [] = refl
    first_same b (a ∷ assigns) = by (bytes_eq a.name name) (first_same (suc b) assigns ∙ shift b (first_place q (numbers assigns)))
      where
        on : (w : Bool) → FirstLater b assigns → place_of (slice_get (cond w ((entry b a).1 ∷ passing f (named (suc b) assigns)) (passing f (named (suc b) assigns))) 0) ≡ option_map (λ k. b + k) (cond w (Some 0) (option_map suc (first_place q (numbers assigns))))
        on true later = ap (λ n. Some n) (omega arith)
        on false later = later

        by : (v : Bool) → FirstLater b assigns → place_of (slice_get (passing f (cond v (entry b a ∷ named (suc b) assigns) (named (suc b) assigns))) 0) ≡ option_map (λ k. b + k) (first_place q (cond v (Some (page_of t pages a.at)) None ∷ numbers assigns))
        by true later = rw (some (page_of t pages a.at)) (on (f (page_of t pages a.at)) later)
        by false later = rw none later

    abbrev LastLater : ℕ → List Assign → Type 0
    LastLater b assigns = (x : Option Mark) → place_of (last_or x (passing f (named (suc b) assigns))) ≡ option_or (option_map (λ k. suc b + k) (last_place q (numbers assigns))) (place_of x)

    last_same : (b : ℕ) (assigns : List Assign) (o : Option Mark) → place_of (last_or o (passing f (named b assigns))) ≡ option_or (option_map (λ k. b + k) (last_place q (numbers assigns))) (place_of o)
    last_same b [] o = refl
    last_same b (a ∷ assigns) o = by (bytes_eq a.name name) (λ x. last_same (suc b) assigns x)
      where
        skip : (l : Option ℕ) (x : Option ℕ) → option_or (option_map (λ k. suc b + k) l) x ≡ option_or (option_map (λ k. b + k) (last_or_here false l)) x
        skip None x = refl
        skip (Some k) x = ap (λ n. Some n) (omega arith)

        take_it : (l : Option ℕ) (x : Option ℕ) → option_or (option_map (λ k. suc b + k) l) (Some b) ≡ option_or (option_map (λ k. b + k) (last_or_here true l)) x
        take_it None x = ap (λ n. Some n) (omega arith)
        take_it (Some k) x = ap (λ n. Some n) (omega arith)

        on : (w : Bool) → LastLater b assigns → place_of (last_or o (cond w ((entry b a).1 ∷ passing f (named (suc b) assigns)) (passing f (named (suc b) assigns)))) ≡ option_or (option_map (λ k. b + k) (last_or_here w (last_place q (numbers assigns)))) (place_of o)
        on true later = later (Some (entry b a).1) ∙ take_it (last_place q (numbers assigns)) (place_of o)
        on false later = later o ∙ skip (last_place q (numbers assigns)) (place_of o)

        by : (v : Bool) → LastLater b assigns → place_of (last_or o (passing f (cond v (entry b a ∷ named (suc b) assigns) (named (suc b) assigns)))) ≡ option_or (option_map (λ k. b + k) (last_place q (cond v (Some (page_of t pages a.at)) None ∷ numbers assigns))) (place_of o)
        by true later = rw (some (page_of t pages a.at)) (on (f (page_of t pages a.at)) later)
        by false later = rw none (later o ∙ skip (last_place q (numbers assigns)) (place_of o))

  module _ (page : ℕ) where
    abbrev StartsLater : ℕ → Assign → List Assign → Type 0
    StartsLater b a assigns = start_of (slice_get (passing (λ n. n == page) (named (suc b) assigns)) 0) ≡ starts_page t (slice_get pages page) (assign_at (a ∷ assigns) (option_map suc (first_place (is_on page) (numbers assigns))))

    starts_same : (b : ℕ) (assigns : List Assign) → start_of (slice_get (passing (λ n. n == page) (named b assigns)) 0) ≡ starts_page t (slice_get pages page) (assign_at assigns (first_place (is_on page) (numbers assigns)))
    starts_same b [] = starts_none t (slice_get pages page)
    starts_same b (a ∷ assigns) =
        by (bytes_eq a.name name) (starts_same (suc b) assigns ∙ ap (starts_page t (slice_get pages page)) (assign_later a assigns (first_place (is_on page) (numbers assigns))))
      where
        on : (w : Bool) → (page_of t pages a.at == page) ≡ w → StartsLater b a assigns → start_of (slice_get (cond w ((entry b a).1 ∷ passing (λ n. n == page) (named (suc b) assigns)) (passing (λ n. n == page) (named (suc b) assigns))) 0)
            ≡ starts_page t (slice_get pages page) (assign_at (a ∷ assigns) (cond w (Some 0) (option_map suc (first_place (is_on page) (numbers assigns)))))
        on true e later = ap (λ n. starts_page t (slice_get pages n) (Some a)) (eqb-true (page_of t pages a.at) page e)
        on false e later = later

        by : (v : Bool) → StartsLater b a assigns → start_of (slice_get (passing (λ n. n == page) (cond v (entry b a ∷ named (suc b) assigns) (named (suc b) assigns))) 0) ≡ starts_page t (slice_get pages page) (assign_at (a ∷ assigns) (first_place (is_on page) (cond v (Some (page_of t pages a.at)) None ∷ numbers assigns)))
        by true later = on (page_of t pages a.at == page) refl later
        by false later = later

same_shown : (a b c a' b' c' : Option ℕ) (d d' : Bool) → a ≡ a' → b ≡ b' → c ≡ c' → d ≡ d' →
    let one : Shown = record { first = a; last = b; entry = c; starts = d } in let other : Shown = record { first = a'; last = b'; entry = c'; starts = d' } in one ≡ other
same_shown a b c a' b' c' d d' e f g h = rw (e, f, g, h) refl

all_from : (o : Option ℕ) → option_map (λ k. 0 + k) o ≡ o
all_from None = refl
all_from (Some k) = ap (λ n. Some n) (omega arith)

or_none : (o : Option ℕ) → option_or o None ≡ o
or_none None = refl
or_none (Some k) = refl

pub shown_same : (t : Tree) (pages : List Page) (assigns : List Assign) (name : List ℕ) (page : ℕ) → shown_of (on_page page (marks_with t pages assigns name)) (before_page page (marks_with t pages assigns name)) ≡ shown_on t pages assigns name page
shown_same t pages assigns name page =
    same_shown _ _ _ _ _ _ _ _ (first_same t pages name (λ n. n == page) (is_on page) refl (λ n. refl) 0 assigns ∙ all_from (first_on page (marks_of t pages assigns name))) (last_same t pages name (λ n. n == page) (is_on page) refl (λ n. refl) 0 assigns None ∙ (or_none (option_map (λ k. 0 + k) (last_on page (marks_of t pages assigns name))) ∙ all_from (last_on page (marks_of t pages assigns name))))
    (last_same t pages name (λ n. nat_lt n page) (is_earlier page) refl (λ n. refl) 0 assigns None ∙ (or_none (option_map (λ k. 0 + k) (entry_of page (marks_of t pages assigns name))) ∙ all_from (entry_of page (marks_of t pages assigns name))))
    (starts_same t pages name page 0 assigns)

pub are_strings : (t : Tree) (pages : List Page) (assigns : List Assign) (s : Named) → ((name : List ℕ) → marks_named s name ≡ marks_with t pages assigns name) → AreStrings t pages assigns s
are_strings t pages assigns s are page name h = ap (λ (ms : List Mark). shown_of (on_page page ms) (before_page page ms)) (are name) ∙ shown_same t pages assigns name page
