-- The number that a parse gives an argument of whole numbers.
use Rattle.std.proofs.Common.{zero, suc, ◌≡◌, ◌∙◌, ◌<◌, ◌≤◌, ◌^◌, ap, ℕ, Bool, true, false, List, [], ◌∷◌, length, is_some, Option, Some, None, refl, sym, subst, inl, inr, arith}
use Rattle.std.specs.List.{All, slice_index_or}
use Rattle.std.specs.Str.{bytes_eq}
use Rattle.std.specs.Str.Parse.{ExplainsUnsignedError, HasUnsignedDigitsIfOk, ParsesUnsigned, digits_value, without_leading_plus}
use Rattle.std.specs.Prelude.{find, option_map, slice_get, unwrap_or, pos}
use Rattle.std.specs.Borrow.{Bor}
use Rattle.std.proofs.lemmas.Bool.{both_ways}
use Rattle.std.proofs.lemmas.Slice.Eq.{bytes_eq-Decides}
use Rattle.std.proofs.lemmas.List.{length-map}
use Rattle.std.proofs.lemmas.List.Elements.{All-get_or}
use Rattle.clap.specs.Words.{Accepts, IsParsedFrom, IsSignedIn, ReadsOne, Rule, Text, found_of, items_of, matched_of, one_of, one_text, read_as, reading_of, rows_of, without_minus}
use Rattle.clap.specs.Facts.{args_of, groups_of, EntryPasses, Entry, HasIn, PassesArg, is_present, least_values, parser_of, parser_of_value}
use Rattle.clap.specs.Built.{SameRules}
use Rattle.clap.specs.Walk.{texts}
use Rattle.clap.specs.declared.builder.action.ArgAction.TheVariants.{Count, Set}
use Rattle.clap.specs.declared.builder.arg.Arg.{Arg}
use Rattle.clap.specs.declared.builder.command.Command.{Command}
use Rattle.clap.specs.declared.builder.value_parser.Reading.{Reading}
use Rattle.clap.specs.declared.builder.value_parser.ValueParser.{ValueParser}
use Rattle.clap.specs.declared.parser.matches.ArgMatches.{ArgMatches}
use Rattle.clap.specs.declared.parser.matches.Found.{Found}
use Rattle.clap.specs.declared.parser.matches.MatchedArg.{MatchedArg}
use Rattle.clap.proofs.CallerLemmas.{default_present, entry_by_id, present_has_entry, required_present, same_rules_by_id}
use Rattle.clap.proofs.CallerReads.{signed_reads}
use Rattle.clap.proofs.WalkLemmas.{one_text-rows}
use Rattle.words.specs.Asked.{number_in}
use Rattle.words.proofs.ArgumentLemmas.{IsPlainCommand, TakesOne, delimiter, has_id, is_set, is_simple_here, no_condition, not_auto, takes_a_value}

-- the first of some values, and how it is read
first_read : (P : Text → Type 0) (how : Reading) (vs : List (Bor Text)) → 0 < length vs → All (λ v. P v.now) vs
    → (t : Text) × (option_map (λ s. read_as how s.now) (slice_get vs 0) ≡ Some (read_as how t)) × P t
first_read P how [] lt all = absurd (omega arith)
first_read P how (v ∷ vs) lt all = (v.now, refl, All-get_or (λ v. P v.now) (v ∷ vs) 0 v (omega arith) all)

text_at : (f : Found) (id : Text) (x : MatchedArg) (t : Text) → matched_of f id ≡ Some x
    → option_map (λ s. read_as x.reading s.now) (slice_get x.vals.items 0) ≡ Some t → one_text f id ≡ Some t
text_at f id x t found v = rw found v

found_in : (xs : List Entry) (id : Text) → HasIn xs id → is_some (option_map (λ e. e.1) (find (λ e. bytes_eq e.0.now id) xs)) ≡ true
found_in [] id h =
    let lt : h.0 < 0 = h.1 in
    absurd (omega arith)
found_in (x ∷ xs) id h = go (bytes_eq x.0.now id) refl h (found_in xs id)
  where
    rest : bytes_eq x.0.now id ≡ false → HasIn (x ∷ xs) id → HasIn xs id
    rest other (zero, lt, at) =
        let bad : bytes_eq x.0.now id ≡ true = at x in
        absurd (both_ways (bytes_eq x.0.now id) other bad)
    rest other (suc i, lt, at) = (i, omega arith, at)

    go : (t : Bool) → bytes_eq x.0.now id ≡ t → HasIn (x ∷ xs) id → (HasIn xs id → is_some (option_map (λ e. e.1) (find (λ e. bytes_eq e.0.now id) xs)) ≡ true)
        → is_some (option_map (λ e. e.1) (find (λ e. bytes_eq e.0.now id) (x ∷ xs))) ≡ true
    go true t h later = rw t refl
    go false t h later = rw t (later (rest t h))

module _ (c : Command) (k : ℕ) (d : Arg) (rule : Rule) (one : TakesOne c k d rule) (m : ArgMatches) (p : IsParsedFrom c m) (plain : IsPlainCommand c) (q : ValueParser)
    (parser : rule.parser ≡ Some q) (cased : rule.ignore_case ≡ false) where
  -- each argument of the built command with this id has the same rules
  same : (j : ℕ) (x : Arg) → j < length (args_of p.built) → slice_index_or (args_of p.built) j x ≡ x → bytes_eq x.id.now rule.id ≡ true
      → SameRules (slice_index_or (args_of c) k d) x
  same j x lt at here = same_rules_by_id c m p k d one.within one.unique (not_auto c k d rule one) j x lt at
      (subst (λ id. bytes_eq x.id.now id ≡ true) (sym (has_id c k d rule one)) here)

  same_parser : (x : Arg) → SameRules (slice_index_or (args_of c) k d) x → parser_of x ≡ q
  same_parser x s = ap parser_of_value (s.parser q (ap (λ r. r.parser) one.read ∙ parser))

  accepted : (t : Text) → PassesArg p.built rule.id t → Accepts false q t
  accepted t pass =
      let s = same pass.0 pass.1 pass.2 pass.3 pass.4.0 in
      let case : pass.1.ignore_case ≡ false = s.ignore_case ∙ (ap (λ r. r.ignore_case) one.read ∙ cased) in
      let by_q : Accepts pass.1.ignore_case q t = subst (λ (w : ValueParser). Accepts pass.1.ignore_case w t) (same_parser pass.1 s) pass.4.1 in
      subst (λ (b : Bool). Accepts b q t) case by_q

  -- what an entry of this id gives
  entry_read : (e : Entry) → e.0.now ≡ rule.id → EntryPasses p.built e
      → (t : Text) × (option_map (λ s. read_as e.1.reading s.now) (slice_get e.1.vals.items 0) ≡ Some (read_as (reading_of q) t)) × Accepts false q t
  entry_read e key pass =
      let no_groups : groups_of p.built ≡ [] = (p.from.plain plain.plain).1 in
      let no_group : e.1.is_group ≡ true → ⊥ = λ g. elim (pass.3 g) [
        | inl empty ↦ one.named (sym key ∙ empty)
        | inr some ↦
            let bad : 0 < 0 = rw no_groups at some in
            absurd (omega arith)
      ] in
      let filled : 0 < length e.1.vals.items = elim pass.1 [
        | inl g ↦ absurd (no_group g.0)
        | inr (inl some) ↦ some
        | inr (inr (inl counts)) ↦
            let any = counts.1 in
            let s = same any.0 any.1 any.2 any.3 (subst (λ id. bytes_eq any.1.id.now id ≡ true) key any.4.0) in
            let set : any.1.action ≡ Some Set = s.action Set (is_set c k d rule one) in
            let bad : Set ≡ Count = rw set at any.4.1 in
            cc
        | inr (inr (inr any)) ↦
            let s = same any.0 any.1 any.2 any.3 (subst (λ id. bytes_eq any.1.id.now id ≡ true) key any.4.0) in
            elim any.4.1 [
              | inl empty ↦
                  let least : 1 ≤ least_values any.1 = s.least (is_set c k d rule one) (takes_a_value c k d rule one) in
                  absurd (omega arith)
              | inr cut ↦
                  let bad : false ≡ true = rw (s.val_delim, delimiter c k d rule one) at cut in
                  cc
            ]
      ] in
      let passes : All (λ v. PassesArg p.built rule.id v.now) e.1.vals.items = elim pass.0 [
        | inl g ↦ absurd (no_group g)
        | inr all ↦ subst (λ id. All (λ v. PassesArg p.built id v.now) e.1.vals.items) key all
      ] in
      let how : e.1.reading ≡ reading_of q = elim pass.4 [
        | inl g ↦ absurd (no_group g)
        | inr any ↦
            let s = same any.0 any.1 any.2 any.3 (subst (λ id. bytes_eq any.1.id.now id ≡ true) key any.4.0) in
            sym any.4.1 ∙ ap reading_of (same_parser any.1 s)
      ] in
      let first = first_read (PassesArg p.built rule.id) e.1.reading e.1.vals.items filled passes in
      (first.0, first.1 ∙ ap (λ r. Some (read_as r first.0)) how, accepted first.0 first.2)

  -- an argument that has an entry is read as its parser says
  read_in : is_some (matched_of (found_of m) rule.id) ≡ true
      → (t : Text) × (one_text (found_of m) rule.id ≡ Some (read_as (reading_of q) t)) × Accepts false q t
  read_in some = go (matched_of (found_of m) rule.id) refl some
    where
      go : (o : Option MatchedArg) → matched_of (found_of m) rule.id ≡ o → is_some (matched_of (found_of m) rule.id) ≡ true
          → (t : Text) × (one_text (found_of m) rule.id ≡ Some (read_as (reading_of q) t)) × Accepts false q t
      go None at some =
          let bad : false ≡ true = rw at at some in
          cc
      go (Some x) at some =
          let parsed = p.parsed (p.from.globals ∙ plain.globals) in
          let got = entry_by_id (EntryPasses p.built) (found_of m).entries.items rule.id x parsed.values at in
          let read = entry_read got.0 ((bytes_eq-Decides got.0.0.now rule.id).0 got.2) got.3 in
          let text = subst (λ (y : MatchedArg). option_map (λ s. read_as y.reading s.now) (slice_get y.vals.items 0) ≡ Some (read_as (reading_of q) read.0)) got.1 read.1 in
          (read.0, text_at (found_of m) rule.id x (read_as (reading_of q) read.0) at text, read.2)

  pub required_read : rule.required ≡ true
      → (t : Text) × (one_text (found_of m) rule.id ≡ Some (read_as (reading_of q) t)) × Accepts false q t
  required_read required =
      let present = required_present c m p plain.plain plain.globals plain.negates k d one.within (ap (λ r. r.required) one.read ∙ required) in
      read_in (present_has_entry (found_of m) rule.id (subst (λ id. is_present (found_of m) id ≡ true) (has_id c k d rule one) present))

  pub default_read : 0 < length rule.defaults
      → (t : Text) × (one_text (found_of m) rule.id ≡ Some (read_as (reading_of q) t)) × Accepts false q t
  default_read some =
      let a = slice_index_or (args_of c) k d in
      let wants : 0 < length (texts (items_of a.default_vals)) = subst (λ (r : Rule). 0 < length r.defaults) (sym one.read) some in
      let count : length (texts (items_of a.default_vals)) ≡ length (items_of a.default_vals) = length-map (items_of a.default_vals) (λ s. s.now) in
      let has = default_present c m p plain.globals k d one.within (no_condition a (is_simple_here c k d rule one), omega arith) in
      read_in (found_in (found_of m).entries.items rule.id (subst (λ id. HasIn (found_of m).entries.items id) (has_id c k d rule one) has))

-- a getter of unsigned numbers of k bits reads the text of this argument
abbrev pub Reads : ℕ → Found → Text → Option ℕ → Type 0
Reads k f id r = (u : Text) → one_text f id ≡ Some u
    → ReadsOne (λ bs x. ParsesUnsigned k 10 bs x × ExplainsUnsignedError 10 bs x × HasUnsignedDigitsIfOk bs x) u r

-- the number that is read of an argument whose numbers lie in a range
pub number_read : (k low high : ℕ) (f : Found) (id : Text) (r : Option ℕ) (t : Text)
    → one_text f id ≡ Some (without_minus t) → Reads k f id r → high < 2 ^ k → IsSignedIn (pos low) (pos high) t
    → (n : ℕ) × (r ≡ Some n) × (low ≤ n) × (n ≤ high) × (n ≡ number_in (rows_of f) id)
number_read k low high f id r t text reads fits passed =
    let read = reads (without_minus t) text in
    let got = signed_reads _ (λ bs x. ParsesUnsigned k 10 bs x × ExplainsUnsignedError 10 bs x × HasUnsignedDigitsIfOk bs x)
    k low high t r read (λ u x g. g.0) fits passed in
    let gives = subst (λ o. ReadsOne (λ bs x. ParsesUnsigned k 10 bs x × ExplainsUnsignedError 10 bs x × HasUnsignedDigitsIfOk bs x) (without_minus t) o)
    got.1 read in
    let value : got.0 ≡ digits_value 10 (without_leading_plus (without_minus t)) = gives.0.1 in
    let shown : one_of id (rows_of f) ≡ Some (without_minus t) = sym (one_text-rows f id) ∙ text in
    (got.0, got.1, got.2, got.3, value ∙ ap (λ o. digits_value 10 (without_leading_plus (unwrap_or o []))) (sym shown))
