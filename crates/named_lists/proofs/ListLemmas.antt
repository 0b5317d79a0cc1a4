-- values by names, one more at a time
use Rattle.std.proofs.Common.{◌≡◌, ℕ, zero, suc, ◌+◌, ◌≤◌, Bool, true, false, cond, ◌||◌, List, [], ◌∷◌, ◌++◌, Option, None, Some, length, length-append, map, slice_get, slice_set, refl, sym, ◌∙◌, ap, subst, arith, append-nil, append_assoc, ◌⊎◌, inl, inr}
use Rattle.std.specs.Prelude.{option_map, not, filter, nat_lt, OnOk, Result, Ok, Err}
use Rattle.std.specs.Option.{option_or}
use Rattle.std.specs.Str.{bytes_eq}
use Rattle.std.specs.List.{list_any, position, position_or_len, prefix_len}
use Rattle.std.specs.String.{string_bytes, string_eq}
use Rattle.std.specs.declared.string.String.{String}
use Rattle.std.proofs.lemmas.List.{map-append}
use Rattle.std.proofs.lemmas.List.Elements.{filter-append}
use Rattle.std.proofs.lemmas.Bool.Decides.{nat_tests}
use Rattle.indexmap.specs.IndexSet.{insert_key}
use Rattle.bk_num.proofs.ListLemmas.{get-push, prefix_len-map, bytes_same, bytes_self, any-map}
use Rattle.bk_num.specs.Names.{with_name}
use Rattle.named_lists.specs.Lists.{ListsOf, lists_in, no_lists, of_name, with_new, with_item, with_item_at, with_items, list_at, items_of, AreDistinct, AreListed, AreOfNames}

-- the first place where a test passes, element by element
abbrev pub first : {A : Type 0} → (A → Bool) → List A → Option ℕ
first p [] = None
first p (x ∷ xs) = cond (p x) (Some 0) (option_map (λ i. suc i) (first p xs))

pub position-first : {A : Type 0} (p : A → Bool) (xs : List A) → position p xs ≡ first p xs
position-first p [] = refl
position-first p (x ∷ xs) = by (p x) refl (position-first p xs)
  where
    by : (b : Bool) → p x ≡ b → position p xs ≡ first p xs → position p (x ∷ xs) ≡ cond (p x) (Some 0) (option_map (λ i. suc i) (first p xs))
    by true e r =
        let k : prefix_len (λ y. not (p y)) (x ∷ xs) ≡ 0 = rw e refl in
        let t : nat_lt 0 (suc (length xs)) ≡ true = grind (arith, nat_tests) in
        ap (λ m. cond {A = Option ℕ} (nat_lt m (suc (length xs))) (Some m) None) k ∙ ap (λ b. cond {A = Option ℕ} b (Some 0) None) t ∙ ap (λ b. cond {A = Option ℕ} b (Some 0) (option_map (λ (i : ℕ). suc i) (first p xs))) (sym e)
    by false e r =
        let k : prefix_len (λ y. not (p y)) (x ∷ xs) ≡ suc (prefix_len (λ y. not (p y)) xs) = rw e (omega arith) in
        ap (λ m. cond {A = Option ℕ} (nat_lt m (suc (length xs))) (Some m) None) k ∙ past (nat_lt (prefix_len (λ y. not (p y)) xs) (length xs)) refl ∙ ap (option_map (λ (i : ℕ). suc i)) r ∙ ap (λ b. cond {A = Option ℕ} b (Some 0) (option_map (λ (i : ℕ). suc i) (first p xs))) (sym e)
      where
        past : (c : Bool) → nat_lt (prefix_len (λ y. not (p y)) xs) (length xs) ≡ c → cond (nat_lt (suc (prefix_len (λ y. not (p y)) xs)) (suc (length xs))) (Some (suc (prefix_len (λ y. not (p y)) xs))) None ≡ option_map (λ i. suc i) (cond (nat_lt (prefix_len (λ y. not (p y)) xs) (length xs)) (Some (prefix_len (λ y. not (p y)) xs)) None)
        past true h = let t : nat_lt (suc (prefix_len (λ y. not (p y)) xs)) (suc (length xs)) ≡ true = grind (arith, nat_tests, h) in rw (h, t) refl
        past false h = let t : nat_lt (suc (prefix_len (λ y. not (p y)) xs)) (suc (length xs)) ≡ false = grind (arith, nat_tests, h) in rw (h, t) refl

first-more : {A : Type 0} (p : A → Bool) (xs : List A) (x : A) → first p (xs ++ x ∷ []) ≡ option_or (first p xs) (cond (p x) (Some (length xs)) None)
first-more p [] x = refl
first-more p (y ∷ ys) x = by (p y) (first p ys) (p x) (first-more p ys x)
  where
    by : (b : Bool) (o : Option ℕ) (c : Bool) → first p (ys ++ x ∷ []) ≡ option_or o (cond c (Some (length ys)) None) → cond {A = Option ℕ} b (Some 0) (option_map (λ i. suc i) (first p (ys ++ x ∷ []))) ≡ option_or (cond {A = Option ℕ} b (Some 0) (option_map (λ i. suc i) o)) (cond c (Some (suc (length ys))) None)
    by true o c r = refl
    by false None true r = rw r refl
    by false None false r = rw r refl
    by false (Some i) c r = rw r refl

pub position-more : {A : Type 0} (p : A → Bool) (xs : List A) (x : A) → position p (xs ++ x ∷ []) ≡ option_or (position p xs) (cond (p x) (Some (length xs)) None)
position-more p xs x = position-first p (xs ++ x ∷ []) ∙ first-more p xs x ∙ ap (λ o. option_or o (cond (p x) (Some (length xs)) None)) (sym (position-first p xs))

pub of_name-append : {T : Type 0} (xs ys : List (List ℕ × T)) (name : List ℕ) → of_name (xs ++ ys) name ≡ of_name xs name ++ of_name ys name
of_name-append xs ys name = ap (map (λ e. e.1)) (filter-append (λ e. bytes_eq e.0 name) xs ys) ∙ map-append (λ e. e.1) (filter (λ e. bytes_eq e.0 name) xs) (filter (λ e. bytes_eq e.0 name) ys)

-- a text goes among the names as a key does
pub named-key : {Y : Type 0} (ks new : List (String Y)) (k : String Y) (name : List ℕ) → string_bytes k ≡ name → new ≡ insert_key string_eq ks k → map (λ s. string_bytes s) new ≡ with_name (map (λ s. string_bytes s) ks) name
named-key {Y} ks new k name e g = ap (map (λ s. string_bytes s)) g ∙ by (list_any (string_eq k) ks) refl
  where
    same : list_any (bytes_eq name) (map (λ s. string_bytes s) ks) ≡ list_any (string_eq k) ks
    same = any-map name ks ∙ ap (λ cs. list_any (λ q. bytes_eq cs (string_bytes q)) ks) (sym e)

    by : (v : Bool) → list_any (string_eq k) ks ≡ v → map (λ s. string_bytes s) (cond v ks (ks ++ k ∷ [])) ≡ with_name (map (λ s. string_bytes s) ks) name
    by true t = rw (same, t) refl
    by false t = rw (same, t, map-append (λ (s : String Y). string_bytes s) ks (k ∷ []), e) refl

pub numbered-key : {Y : Type 0} (ks : List (String Y)) (k : String Y) (name : List ℕ) (i : ℕ) → string_bytes k ≡ name → i ≡ position_or_len (string_eq k) ks → i ≡ position_or_len (bytes_eq name) (map (λ s. string_bytes s) ks)
numbered-key ks k name i e g = g ∙ ap (λ cs. position_or_len (λ q. bytes_eq cs (string_bytes q)) ks) e ∙ sym (prefix_len-map (λ s. string_bytes s) (λ b. not (bytes_eq name b)) ks)

pub number-within : (name : List ℕ) (names : List (List ℕ)) → position_or_len (bytes_eq name) names ≤ length names
number-within name [] = omega arith
number-within name (n ∷ ns) = by (bytes_eq name n) refl (number-within name ns)
  where
    by : (b : Bool) → bytes_eq name n ≡ b → position_or_len (bytes_eq name) ns ≤ length ns → position_or_len (bytes_eq name) (n ∷ ns) ≤ suc (length ns)
    by true e l = rw e (omega arith)
    by false e l = rw e (omega arith)

-- an event more in a list
pub item-set : {T : Type 0} (lists : List (List T)) (i : ℕ) (l : List T) (e : T) → slice_get lists i ≡ Some l → slice_set lists i (l ++ e ∷ []) ≡ with_item_at lists i e
item-set [] i l e g = cc
item-set (x ∷ xs) zero l e g = let h : l ≡ x = cc in rw h refl
item-set (x ∷ xs) (suc i) l e g = ap (λ r. x ∷ r) (item-set xs i l e g)

pub item-end : {T : Type 0} (lists : List (List T)) (e : T) → lists ++ (e ∷ []) ∷ [] ≡ with_item_at lists (length lists) e
item-end [] e = refl
item-end (x ∷ xs) e = ap (λ r. x ∷ r) (item-end xs e)

pub turned : (a b : List ℕ) → bytes_eq a b ≡ bytes_eq b a
turned a b = by (bytes_eq a b) refl (bytes_eq b a) refl
  where
    by : (v : Bool) → bytes_eq a b ≡ v → (w : Bool) → bytes_eq b a ≡ w → v ≡ w
    by true e true f = refl
    by false e false f = refl
    by true e false f = let s = bytes_same a b e in absurd (let t : bytes_eq b a ≡ true = subst (λ (x : List ℕ). bytes_eq b x ≡ true) (sym s) (bytes_self b) in cc)
    by false e true f = let s = bytes_same b a f in absurd (let t : bytes_eq a b ≡ true = subst (λ (x : List ℕ). bytes_eq a x ≡ true) (sym s) (bytes_self a) in cc)

with-other : (n name : List ℕ) (ns : List (List ℕ)) → bytes_eq name n ≡ false → with_name (n ∷ ns) name ≡ n ∷ with_name ns name
with-other n name ns e = rw e (by (list_any (bytes_eq name) ns))
  where
    by : (v : Bool) → cond v (n ∷ ns) (n ∷ (ns ++ name ∷ [])) ≡ n ∷ cond v ns (ns ++ name ∷ [])
    by true = refl
    by false = refl

with-same : (n name : List ℕ) (ns : List (List ℕ)) → bytes_eq name n ≡ true → with_name (n ∷ ns) name ≡ n ∷ ns
with-same n name ns e = rw e refl

number-same : (n name : List ℕ) (ns : List (List ℕ)) → bytes_eq name n ≡ true → position_or_len (bytes_eq name) (n ∷ ns) ≡ 0
number-same n name ns e = rw e refl

number-other : (n name : List ℕ) (ns : List (List ℕ)) → bytes_eq name n ≡ false → position_or_len (bytes_eq name) (n ∷ ns) ≡ suc (position_or_len (bytes_eq name) ns)
number-other n name ns e = rw e (omega arith)

first-same : (n x : List ℕ) (ns : List (List ℕ)) → bytes_eq x n ≡ true → first (bytes_eq x) (n ∷ ns) ≡ Some 0
first-same n x ns e = rw e refl

first-other : (n x : List ℕ) (ns : List (List ℕ)) → bytes_eq x n ≡ false → first (bytes_eq x) (n ∷ ns) ≡ option_map (λ i. suc i) (first (bytes_eq x) ns)
first-other n x ns e = rw e refl

beyond-front : {T : Type 0} (l : List T) (ls : List (List T)) (o : Option ℕ) → list_at (l ∷ ls) (option_map (λ i. suc i) o) ≡ list_at ls o
beyond-front l ls None = refl
beyond-front l ls (Some i) = refl

-- what a name has
abbrev Has : {T : Type 0} → List (List ℕ) → List (List T) → List ℕ → List ℕ → T → Type 0
Has names lists name x e = list_at (with_item_at lists (position_or_len (bytes_eq name) names) e) (first (bytes_eq x) (with_name names name)) ≡ list_at lists (first (bytes_eq x) names) ++ cond (bytes_eq name x) (e ∷ []) []

has-more : {T : Type 0} (names : List (List ℕ)) (lists : List (List T)) (name x : List ℕ) (e : T) → length names ≡ length lists → Has names lists name x e
has-more [] (l ∷ ls) name x e h = cc
has-more (n ∷ ns) [] name x e h = cc
has-more [] [] name x e h = by (bytes_eq x name) refl
  where
    by : (b : Bool) → bytes_eq x name ≡ b → Has [] [] name x e
    by true t = rw (turned name x, t) refl
    by false t = rw (turned name x, t) refl
has-more (n ∷ ns) (l ∷ ls) name x e h = by (bytes_eq name n) refl (bytes_eq x n) refl (has-more ns ls name x e (let z : suc (length ns) ≡ suc (length ls) = h in omega arith))
  where
    by : (b : Bool) → bytes_eq name n ≡ b → (c : Bool) → bytes_eq x n ≡ c → Has ns ls name x e → Has (n ∷ ns) (l ∷ ls) name x e
    by true s true t r =
        let same : name ≡ x = bytes_same name n s ∙ sym (bytes_same x n t) in
        let yes : bytes_eq name x ≡ true = subst (λ (y : List ℕ). bytes_eq name y ≡ true) same (bytes_self name) in
        rw (with-same n name ns s, number-same n name ns s, first-same n x ns t, yes) refl
    by true s false t r =
        let no : bytes_eq name x ≡ false = turned name x ∙ ap (bytes_eq x) (bytes_same name n s) ∙ t in
        rw (with-same n name ns s, number-same n name ns s, first-other n x ns t, beyond-front (l ++ e ∷ []) ls (first (bytes_eq x) ns), beyond-front l ls (first (bytes_eq x) ns), no) (sym (append-nil (list_at ls (first (bytes_eq x) ns))))
    by false s true t r =
        let no : bytes_eq name x ≡ false = ap (bytes_eq name) (bytes_same x n t) ∙ s in
        rw (with-other n name ns s, number-other n name ns s, first-same n x (with_name ns name) t, first-same n x ns t, no) (sym (append-nil l))
    by false s false t r =
        rw (with-other n name ns s, number-other n name ns s, first-other n x (with_name ns name) t, first-other n x ns t, beyond-front l (with_item_at ls (position_or_len (bytes_eq name) ns) e) (first (bytes_eq x) (with_name ns name)), beyond-front l ls (first (bytes_eq x) ns)) r

pub len-more : {T : Type 0} (names : List (List ℕ)) (lists : List (List T)) (name : List ℕ) (e : T) → length names ≡ length lists → length (with_name names name) ≡ length (with_item_at lists (position_or_len (bytes_eq name) names) e)
len-more [] (l ∷ ls) name e h = cc
len-more (n ∷ ns) [] name e h = cc
len-more [] [] name e h = refl
len-more (n ∷ ns) (l ∷ ls) name e h = by (bytes_eq name n) refl (len-more ns ls name e (let z : suc (length ns) ≡ suc (length ls) = h in omega arith))
  where
    by : (b : Bool) → bytes_eq name n ≡ b → length (with_name ns name) ≡ length (with_item_at ls (position_or_len (bytes_eq name) ns) e) → length (with_name (n ∷ ns) name) ≡ length (with_item_at (l ∷ ls) (position_or_len (bytes_eq name) (n ∷ ns)) e)
    by true s r = rw (with-same n name ns s, number-same n name ns s) h
    by false s r = rw (with-other n name ns s, number-other n name ns s) (ap (λ (k : ℕ). suc k) r)

none-first : (names : List (List ℕ)) (name : List ℕ) → list_any (bytes_eq name) names ≡ false → first (bytes_eq name) names ≡ None
none-first [] name h = refl
none-first (n ∷ ns) name h = by (bytes_eq name n) refl (λ g. none-first ns name g)
  where
    by : (b : Bool) → bytes_eq name n ≡ b → (list_any (bytes_eq name) ns ≡ false → first (bytes_eq name) ns ≡ None) → first (bytes_eq name) (n ∷ ns) ≡ None
    by true e r = absurd (let g : list_any (bytes_eq name) (n ∷ ns) ≡ true = rw e refl in cc)
    by false e r = let g : list_any (bytes_eq name) ns ≡ false = sym (ap (λ b. b || list_any (bytes_eq name) ns) e) ∙ h in rw (first-other n name ns e, r g) refl

pub distinct-more : (names : List (List ℕ)) (name : List ℕ) → AreDistinct names → AreDistinct (with_name names name)
distinct-more names name d = by (list_any (bytes_eq name) names) refl
  where
    add : list_any (bytes_eq name) names ≡ false → AreDistinct (names ++ name ∷ [])
    add f i x g = at (get-push names name x i g)
      where
        at : ((i ≡ length names) × (x ≡ name)) ⊎ (slice_get names i ≡ Some x) → position (bytes_eq x) (names ++ name ∷ []) ≡ Some i
        at (inl h) = ap (λ (y : List ℕ). position (bytes_eq y) (names ++ name ∷ [])) h.1 ∙ position-more (bytes_eq name) names name ∙ rw (position-first (bytes_eq name) names, none-first names name f, bytes_self name) (ap (λ (k : ℕ). Some k) (sym h.0))
        at (inr h) = position-more (bytes_eq x) names name ∙ rw (d i x h) refl

    by : (b : Bool) → list_any (bytes_eq name) names ≡ b → AreDistinct (cond b names (names ++ name ∷ []))
    by true e = d
    by false e = add e

-- what a name has after one value more
pub items-more : {T : Type 0} (l : ListsOf T) (name x : List ℕ) (e : T) → length l.names ≡ length l.lists → items_of (with_item l (name, e)) x ≡ items_of l x ++ cond (bytes_eq name x) (e ∷ []) []
items-more l name x e h = ap (list_at (with_item_at l.lists (position_or_len (bytes_eq name) l.names) e)) (position-first (bytes_eq x) (with_name l.names name)) ∙ has-more l.names l.lists name x e h ∙ ap (λ i. list_at l.lists i ++ cond (bytes_eq name x) (e ∷ []) []) (sym (position-first (bytes_eq x) l.names))

pub of-one : {T : Type 0} (name x : List ℕ) (e : T) (b : Bool) → bytes_eq name x ≡ b → cond (bytes_eq name x) (e ∷ []) [] ≡ of_name ((name, e) ∷ []) x
of-one name x e true t = rw t refl
of-one name x e false t = rw t refl

pub listed-more : {T : Type 0} (pairs : List (List ℕ × T)) (l : ListsOf T) (p : List ℕ × T) → AreListed pairs l → AreListed (pairs ++ p ∷ []) (with_item l p)
listed-more pairs l p a = record {
  len = len-more l.names l.lists p.0 p.1 a.len;
  distinct = distinct-more l.names p.0 a.distinct;
  each = λ x. items-more l p.0 x p.1 a.len ∙ ap (λ v. v ++ cond (bytes_eq p.0 x) (p.1 ∷ []) []) (a.each x) ∙ ap (λ v. of_name pairs x ++ v) (of-one p.0 x p.1 (bytes_eq p.0 x) refl) ∙ sym (of_name-append pairs (p ∷ []) x);
}

pub listed-all : {T : Type 0} (before pairs : List (List ℕ × T)) (l : ListsOf T) → AreListed before l → AreListed (before ++ pairs) (with_items l pairs)
listed-all before [] l a = rw (append-nil before) a
listed-all before (p ∷ pairs) l a = subst (λ v. AreListed v (with_items (with_item l p) pairs)) (append_assoc before (p ∷ []) pairs) (listed-all (before ++ p ∷ []) pairs (with_item l p) (listed-more before l p a))

pub are-of-names : (T : Type 0) → AreOfNames T
are-of-names T pairs = listed-all [] pairs no_lists (record { len = refl; distinct = λ i x g. absurd (cc); each = λ name. refl })

-- a list of one value after the last is that of a new name
pub new-named : {T : Type 0} (lists : List (List T)) (i : ℕ) (e : T) → i ≡ length lists → with_new lists e ≡ with_item_at lists i e
new-named lists i e h = item-end lists e ∙ ap (λ n. with_item_at lists n e) (sym h)

-- one name more is one more
pub longer-key : {Y : Type 0} (ks new : List (String Y)) (k : String Y) (name : List ℕ) → string_bytes k ≡ name → new ≡ insert_key string_eq ks k → list_any (bytes_eq name) (map (λ s. string_bytes s) ks) ≡ false → length new ≡ length ks + 1
longer-key {Y} ks new k name e g h =
    let same : list_any (string_eq k) ks ≡ false = sym (any-map name ks ∙ ap (λ cs. list_any (λ q. bytes_eq cs (string_bytes q)) ks) (sym e)) ∙ h in
    let pushed : new ≡ ks ++ k ∷ [] = g ∙ ap (λ (v : Bool). cond v ks (ks ++ k ∷ [])) same in
    ap (λ (v : List (String Y)). length v) pushed ∙ length-append ks (k ∷ [])

-- the number of a name that is there
known-first : (name : List ℕ) (names : List (List ℕ)) (i : ℕ) → first (bytes_eq name) names ≡ Some i → (list_any (bytes_eq name) names ≡ true) × (position_or_len (bytes_eq name) names ≡ i)
known-first name [] i h = cc
known-first name (n ∷ ns) i h = by (bytes_eq name n) refl (first (bytes_eq name) ns) refl (λ j f. known-first name ns j f)
  where
    by : (b : Bool) → bytes_eq name n ≡ b → (o : Option ℕ) → first (bytes_eq name) ns ≡ o → ((j : ℕ) → first (bytes_eq name) ns ≡ Some j → (list_any (bytes_eq name) ns ≡ true) × (position_or_len (bytes_eq name) ns ≡ j)) → (list_any (bytes_eq name) (n ∷ ns) ≡ true) × (position_or_len (bytes_eq name) (n ∷ ns) ≡ i)
    by true e o f more = (rw e refl, number-same n name ns e ∙ (let z : Some 0 ≡ Some i = sym (first-same n name ns e) ∙ h in let y : 0 ≡ i = cc in y))
    by false e None f more = absurd (let z : None ≡ Some i = sym (first-other n name ns e ∙ ap (option_map (λ (k : ℕ). suc k)) f) ∙ h in cc)
    by false e (Some j) f more =
        let r = more j f in
        let z : Some (suc j) ≡ Some i = sym (first-other n name ns e ∙ ap (option_map (λ (k : ℕ). suc k)) f) ∙ h in
        (rw e r.0, number-other n name ns e ∙ ap (λ (k : ℕ). suc k) r.1 ∙ (let y : suc j ≡ i = cc in y))

-- that of a new one
new-first : (name : List ℕ) (names : List (List ℕ)) → first (bytes_eq name) names ≡ None → (list_any (bytes_eq name) names ≡ false) × (position_or_len (bytes_eq name) names ≡ length names)
new-first name [] h = (refl, refl)
new-first name (n ∷ ns) h = by (bytes_eq name n) refl (first (bytes_eq name) ns) refl (λ f. new-first name ns f)
  where
    by : (b : Bool) → bytes_eq name n ≡ b → (o : Option ℕ) → first (bytes_eq name) ns ≡ o → (first (bytes_eq name) ns ≡ None → (list_any (bytes_eq name) ns ≡ false) × (position_or_len (bytes_eq name) ns ≡ length ns)) → (list_any (bytes_eq name) (n ∷ ns) ≡ false) × (position_or_len (bytes_eq name) (n ∷ ns) ≡ suc (length ns))
    by true e o f more = absurd (let z : Some 0 ≡ None = sym (first-same n name ns e) ∙ h in cc)
    by false e None f more = let r = more f in (rw e r.0, number-other n name ns e ∙ ap (λ (k : ℕ). suc k) r.1)
    by false e (Some j) f more = absurd (let z : Some (suc j) ≡ None = sym (first-other n name ns e ∙ ap (option_map (λ (k : ℕ). suc k)) f) ∙ h in cc)

-- a value more under a name that is there
pub with-known : {T : Type 0} (names : List (List ℕ)) (lists : List (List T)) (name : List ℕ) (item : T) (i : ℕ) → position (bytes_eq name) names ≡ Some i → lists_in names (with_item_at lists i item) ≡ with_item (lists_in names lists) (name, item)
with-known names lists name item i h =
    let k = known-first name names i (sym (position-first (bytes_eq name) names) ∙ h) in
    rw (k.0, k.1) refl

-- and under a new one
pub with-unknown : {T : Type 0} (names : List (List ℕ)) (lists : List (List T)) (name : List ℕ) (item : T) → length names ≡ length lists → position (bytes_eq name) names ≡ None → lists_in (with_name names name) (with_new lists item) ≡ with_item (lists_in names lists) (name, item)
with-unknown names lists name item l h =
    let k = new-first name names (sym (position-first (bytes_eq name) names) ∙ h) in
    ap (lists_in (with_name names name)) (new-named lists (position_or_len (bytes_eq name) names) item (k.1 ∙ l))

pub is-unknown : (names : List (List ℕ)) (name : List ℕ) → position (bytes_eq name) names ≡ None → list_any (bytes_eq name) names ≡ false
is-unknown names name h = (new-first name names (sym (position-first (bytes_eq name) names) ∙ h)).0

pub on-both : {X E : Type 0} {P Q R : Type 0} (r : Result X E) → (P → Q → R) → OnOk r P → OnOk r Q → OnOk r R
on-both (Ok x) f p q = f p q
on-both (Err e) f p q = p
