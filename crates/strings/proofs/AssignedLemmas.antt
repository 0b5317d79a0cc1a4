-- Assignments by name and page: searches, filters, what a map keeps, and the order of pages.
use Rattle.std.proofs.Common.{◌≡◌, ◌<◌, ◌≤◌, ℕ, zero, suc, ◌+◌, ◌-◌, ◌==◌, nat_lt, nat_le, Bool, true, false, cond, List, [], ◌∷◌, ◌++◌, Option, None, Some, unwrap_or, length, map, filter, take, drop, get_or, slice_get, refl, sym, ◌∙◌, ap, arith, ◌⊎◌, inl, inr, append-nil, take_all}
use Rattle.std.specs.List.{last_or}
use Rattle.std.specs.List.Sorted.{IsNonDecreasingBy, IsPartitionedBy}
use Rattle.std.specs.Map.{lookup}
use Rattle.std.specs.Str.{bytes_eq}
use Rattle.std.specs.String.{string_bytes}
use Rattle.std.specs.declared.string.String.{String}
use Rattle.std.proofs.lemmas.Bool.{cases_lt}
use Rattle.std.proofs.lemmas.Bool.Decides.{nat_tests}
use Rattle.std.proofs.lemmas.List.{get_or-map, length-map, map-append}
use Rattle.std.proofs.lemmas.List.Elements.{filter_more}
use Rattle.std.proofs.lemmas.List.Kept.{IsNonDecreasingBy-filter}
use Rattle.std.proofs.lemmas.Option.{slice_get-get_or}
use Rattle.indexmap.specs.IndexMap.{IndexMap}
use Rattle.boxes.specs.Tree.{Tree}
use Rattle.boxes.specs.declared.flow.Assign.{Assign}
use Rattle.boxes.specs.declared.page.Page.{Page}
use Rattle.page_seq.specs.Places.{NeverFall, page_of}
use Rattle.page_seq.proofs.PlaceLemmas.{no_page, page_of_lower}
use Rattle.strings.specs.Assigned.{PagesNeverFall, before_page, marks_named, on_page}
use Rattle.strings.specs.StringFields.{mark_on, marked, marks_in, marks_with}
use Rattle.strings.specs.declared.assigned.Mark.{Mark}

-- ---- searches

pub parted_by_ltb : (marks : List Mark) (page : ℕ) → PagesNeverFall marks → IsPartitionedBy (λ m. nat_lt m.page page) marks
parted_by_ltb marks page order i j d h l e = let low = order i j d h l in grind (arith, nat_tests)

pub parted_by_leb : (marks : List Mark) (page : ℕ) → PagesNeverFall marks → IsPartitionedBy (λ m. nat_le m.page page) marks
parted_by_leb marks page order i j d h l e = let low = order i j d h l in grind (arith, nat_tests)

pub ends_meet : (marks : List Mark) (page from to : ℕ) → from ≤ length marks → ((k : ℕ) (d : Mark) → k < from → (get_or marks k d).page < page) → ((k : ℕ) (d : Mark) → to ≤ k → k < length marks → page < (get_or marks k d).page) → from ≤ to
ends_meet marks page from to within before after = by (cases_lt to from)
  where
    d : Mark
    d = record { assign = 0; page = 0; starts = false }

    by : (to < from) ⊎ (from ≤ to) → from ≤ to
    by (inl l) = absurd (let low = before to d l in let high = after to d (omega arith) (omega arith) in omega arith)
    by (inr h) = h

-- ---- filters

filter_none : {X : Type 0} (p : X → Bool) (xs : List X) → ((k : ℕ) (d : X) → k < length xs → p (get_or xs k d) ≡ false) → filter p xs ≡ []
filter_none p [] none = refl
filter_none p (x ∷ xs) none = rw (none 0 x (omega arith)) (filter_none p xs (λ k d h. none (suc k) d (omega arith)))

-- those that pass come first
filter_front : {X : Type 0} (p : X → Bool) (xs : List X) (to : ℕ) → to ≤ length xs → ((k : ℕ) (d : X) → k < to → p (get_or xs k d) ≡ true) → ((k : ℕ) (d : X) → to ≤ k → k < length xs → p (get_or xs k d) ≡ false) → filter p xs ≡ take to xs
filter_front p xs zero h pass fail = filter_none p xs (λ k d l. fail k d (omega arith) l)
filter_front p [] (suc to) h pass fail = absurd (omega arith)
filter_front {X} p (x ∷ xs) (suc to) h pass fail =
    rw (pass 0 x (omega arith)) (ap (λ (ys : List X). x ∷ ys) (filter_front p xs to (omega arith) (λ k d l. pass (suc k) d (omega arith)) (λ k d l m. fail (suc k) d (omega arith) (omega arith))))

-- those that pass stand side by side
filter_run : {X : Type 0} (p : X → Bool) (xs : List X) (from to : ℕ) → from ≤ to → to ≤ length xs → ((k : ℕ) (d : X) → k < from → p (get_or xs k d) ≡ false) → ((k : ℕ) (d : X) → from ≤ k → k < to → p (get_or xs k d) ≡ true) → ((k : ℕ) (d : X) → to ≤ k → k < length xs → p (get_or xs k d) ≡ false)
    → filter p xs ≡ drop from (take to xs)
filter_run p xs zero to h l low pass high = filter_front p xs to l (λ k d m. pass k d (omega arith) m) high
filter_run p [] (suc from) to h l low pass high = absurd (omega arith)
filter_run p (x ∷ xs) (suc from) zero h l low pass high = absurd (omega arith)
filter_run p (x ∷ xs) (suc from) (suc to) h l low pass high =
    rw (low 0 x (omega arith)) (filter_run p xs from to (omega arith) (omega arith) (λ k d m. low (suc k) d (omega arith)) (λ k d m n. pass (suc k) d (omega arith) (omega arith)) (λ k d m n. high (suc k) d (omega arith) (omega arith)))

take_less : {X : Type 0} (xs : List X) (from to : ℕ) → from ≤ to → take from (take to xs) ≡ take from xs
take_less xs zero to h = refl
take_less xs (suc from) zero h = absurd (omega arith)
take_less [] (suc from) (suc to) h = refl
take_less {X} (x ∷ xs) (suc from) (suc to) h = ap (λ (ys : List X). x ∷ ys) (take_less xs from to (omega arith))

pub before_is : (marks : List Mark) (page from to : ℕ) → from ≤ length marks → ((k : ℕ) (d : Mark) → k < from → (get_or marks k d).page < page) → ((k : ℕ) (d : Mark) → from ≤ k → k < length marks → page ≤ (get_or marks k d).page) → from ≤ to → before_page page marks ≡ take from (take to marks)
before_is marks page from to within before after h =
    filter_front (λ (m : Mark). nat_lt m.page page) marks from within (λ k d l. let low = before k d l in grind (arith, nat_tests)) (λ k d l m. let high = after k d l m in grind (arith, nat_tests)) ∙ sym (take_less marks from to h)

pub here_is : (marks : List Mark) (page from to : ℕ) → to ≤ length marks → ((k : ℕ) (d : Mark) → k < from → (get_or marks k d).page < page) → ((k : ℕ) (d : Mark) → from ≤ k → k < length marks → page ≤ (get_or marks k d).page)
    → ((k : ℕ) (d : Mark) → k < to → (get_or marks k d).page ≤ page) → ((k : ℕ) (d : Mark) → to ≤ k → k < length marks → page < (get_or marks k d).page) → from ≤ to → on_page page marks ≡ drop from (take to marks)
here_is marks page from to end before after upto beyond h =
    filter_run (λ (m : Mark). m.page == page) marks from to h end (λ k d l. let low = before k d l in grind (arith, nat_tests)) (λ k d l m. let low = after k d l (omega arith) in let high = upto k d m in grind (arith, nat_tests)) (λ k d l m. let high = beyond k d l m in grind (arith, nat_tests))

-- ---- the last of a list

last_read : {X : Type 0} (o : Option X) (x : X) (xs : List X) → slice_get (x ∷ xs) (length xs) ≡ last_or o (x ∷ xs)
last_read o x [] = refl
last_read o x (y ∷ ys) = last_read (Some x) y ys

pub last_is : {X : Type 0} (xs : List X) → slice_get xs (length xs - 1) ≡ last_or None xs
last_is [] = refl
last_is {X} (x ∷ xs) = let n : length (x ∷ xs) - 1 ≡ length xs = omega arith in ap (λ k. slice_get (x ∷ xs) k) n ∙ last_read None x xs

-- ---- what a map keeps

lookup_named : {Y : Type 0} (es : List (String Y × List Mark)) (name : List ℕ) → lookup (bytes_eq name) (map (λ e. (string_bytes e.0, e.1)) es) ≡ lookup (λ k. bytes_eq name (string_bytes k)) es
lookup_named [] name = refl
lookup_named (e ∷ es) name = ap (λ o. cond (bytes_eq name (string_bytes e.0)) (Some e.1) o) (lookup_named es name)

pub named_is : {Y S : Type 0} (named : IndexMap (String Y) (List Mark) S) (name : List ℕ) → marks_named (map (λ e. (string_bytes e.0, e.1)) named.entries) name ≡ marks_in named name
named_is named name = ap (λ o. unwrap_or o []) (lookup_named named.entries name)

-- ---- the assignments of a flow

length-marked : (t : Tree) (pages : List Page) (place : ℕ) (assigns : List Assign) → length (marked t pages place assigns) ≡ length assigns
length-marked t pages place [] = refl
length-marked t pages place (a ∷ assigns) = ap (λ n. suc n) (length-marked t pages (suc place) assigns)

abbrev entry_at : Tree → List Page → ℕ → Assign → List ℕ × Mark
entry_at t pages place a = (a.name, mark_on t pages a place (page_of t pages a.at))

get_or-marked : (t : Tree) (pages : List Page) (place : ℕ) (assigns : List Assign) (i : ℕ) (e : List ℕ × Mark) (d : Assign) → i < length assigns → get_or (marked t pages place assigns) i e ≡ entry_at t pages (place + i) (get_or assigns i d)
get_or-marked t pages place [] i e d h = absurd (omega arith)
get_or-marked t pages place (a ∷ assigns) zero e d h = let same : place ≡ place + 0 = omega arith in ap (λ n. entry_at t pages n a) same
get_or-marked t pages place (a ∷ assigns) (suc i) e d h =
    let same : suc place + i ≡ place + suc i = omega arith in
    get_or-marked t pages (suc place) assigns i e d (omega arith) ∙ ap (λ n. entry_at t pages n (get_or assigns i d)) same

-- the page of an assignment, among those of all
pub number_at : (t : Tree) (pages : List Page) (assigns : List Assign) (numbers : List ℕ) (i n : ℕ) (d : Assign) → i < length assigns → numbers ≡ map (page_of t pages) (map (λ (a : Assign). a.at) assigns) → n ≡ get_or numbers i n → n ≡ page_of t pages (get_or assigns i d).at
number_at t pages assigns numbers i n d h is read =
    read ∙ (ap (λ (ns : List ℕ). get_or ns i n) is
    ∙ (get_or-map (page_of t pages) (map (λ (a : Assign). a.at) assigns) i d.at n (rw length-map h)
    ∙ ap (page_of t pages) (get_or-map (λ (a : Assign). a.at) assigns i d d.at h)))

-- one more assignment
added : (name : List ℕ) (es : List (List ℕ × Mark)) (i : ℕ) (e : List ℕ × Mark) (old : List Mark) → i < length es → e ≡ get_or es i e → old ≡ map (λ e. e.1) (filter (λ e. bytes_eq e.0 name) (take i es))
    → cond (bytes_eq e.0 name) (old ++ e.1 ∷ []) old ≡ map (λ e. e.1) (filter (λ e. bytes_eq e.0 name) (take (i + 1) es))
added name es i e old h is so_far = by (bytes_eq e.0 name) refl
  where
    p : List ℕ × Mark → Bool
    p = λ f. bytes_eq f.0 name

    more : filter (λ f. bytes_eq f.0 name) (take (i + 1) es) ≡ filter (λ f. bytes_eq f.0 name) (take i es) ++ cond (bytes_eq e.0 name) (e ∷ []) []
    more = filter_more (λ f. bytes_eq f.0 name) es i e h ∙ ap (λ (f : List ℕ × Mark). filter (λ g. bytes_eq g.0 name) (take i es) ++ cond (bytes_eq f.0 name) (f ∷ []) []) (sym is)

    by : (v : Bool) → bytes_eq e.0 name ≡ v → cond v (old ++ e.1 ∷ []) old ≡ map (λ f. f.1) (filter (λ f. bytes_eq f.0 name) (take (i + 1) es))
    by true v = ap (λ (ms : List Mark). ms ++ e.1 ∷ []) so_far ∙ (sym (map-append (λ (f : List ℕ × Mark). f.1) (filter (λ f. bytes_eq f.0 name) (take i es)) (e ∷ [])) ∙ ap (λ (fs : List (List ℕ × Mark)). map (λ f. f.1) fs) (sym (more ∙ ap (λ b. filter (λ f. bytes_eq f.0 name) (take i es) ++ cond b (e ∷ []) []) v)))
    by false v = so_far ∙ ap (λ (fs : List (List ℕ × Mark)). map (λ f. f.1) fs) (sym (append-nil (filter (λ f. bytes_eq f.0 name) (take i es))) ∙ sym (more ∙ ap (λ b. filter (λ f. bytes_eq f.0 name) (take i es) ++ cond b (e ∷ []) []) v))

pub one_more : (t : Tree) (pages : List Page) (assigns : List Assign) (place number : ℕ) (d : Assign) (name text : List ℕ) (mark : Mark) (old new : List Mark) → place < length assigns → d ≡ get_or assigns place d → text ≡ d.name → number ≡ page_of t pages d.at → mark ≡ mark_on t pages d place number
    → old ≡ map (λ e. e.1) (filter (λ e. bytes_eq e.0 name) (take place (marked t pages 0 assigns))) → new ≡ cond (bytes_eq text name) (old ++ mark ∷ []) old → new ≡ map (λ e. e.1) (filter (λ e. bytes_eq e.0 name) (take (place + 1) (marked t pages 0 assigns)))
one_more t pages assigns place number d name text mark old new h read named numbered marked_is so_far is =
    let e : List ℕ × Mark = entry_at t pages place d in
    let there : e ≡ get_or (marked t pages 0 assigns) place e = ap (λ (a : Assign). entry_at t pages place a) read ∙ (ap (λ n. entry_at t pages n (get_or assigns place d)) (omega arith) ∙ sym (get_or-marked t pages 0 assigns place e d h)) in
    let size : length (marked t pages 0 assigns) ≡ length assigns = length-marked t pages 0 assigns in
    let mark_is : mark ≡ e.1 = marked_is ∙ ap (λ n. mark_on t pages d place n) numbered in
    is ∙ (ap (λ bs. cond (bytes_eq bs name) (old ++ mark ∷ []) old) named ∙ (ap (λ (m : Mark). cond (bytes_eq d.name name) (old ++ m ∷ []) old) mark_is ∙ added name (marked t pages 0 assigns) place e old (omega arith) there so_far))

pub all_marked : (t : Tree) (pages pages' : List Page) (assigns assigns' : List Assign) (place : ℕ) (name : List ℕ) (found : List Mark) → length assigns ≤ place → pages ≡ pages' → assigns ≡ assigns' → found ≡ map (λ e. e.1) (filter (λ e. bytes_eq e.0 name) (take place (marked t pages 0 assigns))) → found ≡ marks_with t pages' assigns' name
all_marked t pages pages' assigns assigns' place name found h same_pages same_assigns is =
    let size : length (marked t pages 0 assigns) ≡ length assigns = length-marked t pages 0 assigns in
    is ∙ (ap (λ (es : List (List ℕ × Mark)). map (λ e. e.1) (filter (λ e. bytes_eq e.0 name) es)) (take_all place (marked t pages 0 assigns) (omega arith))
    ∙ (ap (λ (ps : List Page). marks_with t ps assigns name) same_pages ∙ ap (λ (xs : List Assign). marks_with t pages' xs name) same_assigns))

-- ---- pages never fall

abbrev no_assign : Assign
no_assign = record { name = []; value = []; at = record { event = 0; offset = 0 } }

pages_ascend : (t : Tree) (pages : List Page) (assigns : List Assign) (i j : ℕ) → NeverFall (map (λ (a : Assign). a.at) assigns) → i ≤ j → j < length assigns → page_of t pages (get_or assigns i no_assign).at ≤ page_of t pages (get_or assigns j no_assign).at
pages_ascend t pages assigns i zero order l h = let z : i ≡ 0 = omega arith in rw z (omega arith)
pages_ascend t pages assigns i (suc j) order l h = by (cases_lt i (suc j)) (λ g. pages_ascend t pages assigns i j order g (omega arith))
  where
    at_get : (k : ℕ) → k < length assigns → slice_get (map (λ (a : Assign). a.at) assigns) k ≡ Some (get_or assigns k no_assign).at
    at_get k l = slice_get-get_or (map (λ (a : Assign). a.at) assigns) k no_assign.at (rw length-map l) ∙ ap (λ x. Some x) (get_or-map (λ (a : Assign). a.at) assigns k no_assign no_assign.at l)

    by : (i < suc j) ⊎ (suc j ≤ i) → (i ≤ j → page_of t pages (get_or assigns i no_assign).at ≤ page_of t pages (get_or assigns j no_assign).at) → page_of t pages (get_or assigns i no_assign).at ≤ page_of t pages (get_or assigns (suc j) no_assign).at
    by (inr g) rest = let same : i ≡ suc j = omega arith in rw same (omega arith)
    by (inl g) rest =
        let before = rest (omega arith) in
        let step = page_of_lower t pages (get_or assigns j no_assign).at (get_or assigns (suc j) no_assign).at no_page (order j (get_or assigns j no_assign).at (get_or assigns (suc j) no_assign).at (at_get j (omega arith)) (at_get (suc j) h)) in
        omega arith

marked_ascend : (t : Tree) (pages : List Page) (assigns : List Assign) → NeverFall (map (λ (a : Assign). a.at) assigns) → IsNonDecreasingBy (λ (e : List ℕ × Mark). e.1.page) (marked t pages 0 assigns)
marked_ascend t pages assigns order i j e h l =
    let size : length (marked t pages 0 assigns) ≡ length assigns = length-marked t pages 0 assigns in
    let low = pages_ascend t pages assigns i j order h (omega arith) in
    rw (get_or-marked t pages 0 assigns i e no_assign (omega arith), get_or-marked t pages 0 assigns j e no_assign (omega arith)) low

values_ascend : (es : List (List ℕ × Mark)) → IsNonDecreasingBy (λ (e : List ℕ × Mark). e.1.page) es → PagesNeverFall (map (λ e. e.1) es)
values_ascend es order i j d h l =
    let size : length (map (λ (e : List ℕ × Mark). e.1) es) ≡ length es = simp length-map refl in
    let low = order i j ([], d) h (omega arith) in
    rw (get_or-map (λ (e : List ℕ × Mark). e.1) es i ([], d) d (omega arith), get_or-map (λ (e : List ℕ × Mark). e.1) es j ([], d) d (omega arith)) low

pub in_order : (t : Tree) (pages : List Page) (assigns : List Assign) (name : List ℕ) → NeverFall (map (λ (a : Assign). a.at) assigns) → PagesNeverFall (marks_with t pages assigns name)
in_order t pages assigns name order = values_ascend _ (IsNonDecreasingBy-filter (λ (e : List ℕ × Mark). e.1.page) (λ e. bytes_eq e.0 name) (marked t pages 0 assigns) (marked_ascend t pages assigns order))
