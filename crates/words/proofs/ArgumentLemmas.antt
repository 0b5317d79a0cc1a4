-- What a parse by a command gives its arguments, from what the parse reads of the command.
use Rattle.std.proofs.Common.{zero, suc, ◌≡◌, ◌⊎◌, ◌∙◌, ◌<◌, ◌≤◌, ap, ap₂, codes, ◌&&◌, ℕ, true, false, not, List, [], ◌∷◌, length, map, is_some, Option, Some, None, refl, sym, subst, inl, inr, arith}
use Rattle.std.specs.List.{slice_index_or, list_all}
use Rattle.std.specs.Str.{bytes_eq}
use Rattle.std.proofs.lemmas.Bool.{both_ways, eqb-true, not-true}
use Rattle.std.proofs.lemmas.Slice.Eq.{bytes_eq-Decides}
use Rattle.std.proofs.lemmas.List.{get_or-map, length-map}
use Rattle.clap.specs.Words.{App, IsParsedFrom, Rule, Text, app_of, found_of, first_value, rule_of}
use Rattle.clap.specs.Walk.{is_empty, is_free_arg, is_simple_arg}
use Rattle.clap.specs.Facts.{args_of, least_values, unwrap_or_range}
use Rattle.clap.specs.Built.{IsAuto, IsPlain, IsPlainArg}
use Rattle.clap.specs.Simple.{has_plain_fields, has_simple_rules}
use Rattle.clap.specs.declared.builder.action.ArgAction.TheVariants.{Set}
use Rattle.clap.specs.declared.builder.arg.Arg.{Arg}
use Rattle.clap.specs.declared.builder.command.Command.{Command}
use Rattle.clap.specs.declared.builder.command.Command.TheViews.{out-Command}
use Rattle.clap.specs.declared.parser.matches.ArgMatches.{ArgMatches}
use Rattle.clap.proofs.CallerLemmas.{required_has_value}
use Rattle.clap.proofs.WalkLemmas.{both}

none_in : {X : Type 0} (xs : List X) → is_empty xs ≡ true → xs ≡ []
none_in [] h = refl
none_in (x ∷ xs) h =
    let zero_long : length (x ∷ xs) ≡ 0 = eqb-true (length (x ∷ xs)) 0 h in
    absurd (omega arith)

is_none : {X : Type 0} (o : Option X) → not (is_some o) ≡ true → o ≡ None
is_none None h = refl
is_none (Some x) h = cc

-- an argument without rules on others that uses no setting excludes nothing
plain_arg : (a : Arg) → is_simple_arg a ≡ true → is_free_arg a ≡ true → IsPlainArg a
plain_arg a simple free =
    let overrides = both _ _ simple in
    let ifs = both _ _ overrides.1 in
    let groups = both _ _ ifs.1 in
    let exclusive = both _ _ free in
    let conflicts = both _ _ exclusive.1 in
    (not-true _ exclusive.0, none_in _ conflicts.0, none_in _ overrides.0, none_in _ groups.0)

no_delimiter : (a : Arg) → is_simple_arg a ≡ true → a.val_delim ≡ None
no_delimiter a simple =
    let others = not (is_some a.terminator) && (not a.allow_hyphen_values && (not a.allow_negative_numbers
    && (not a.require_equals && (not a.last && not a.global)))) in
    let delimiter = not (is_some a.val_delim) && others in
    let groups = is_empty a.groups.items && delimiter in
    let ifs = is_empty a.default_vals_ifs.items && groups in
    let second = both (is_empty a.overrides.items) ifs simple in
    let third = both (is_empty a.default_vals_ifs.items) groups second.1 in
    let fourth = both (is_empty a.groups.items) delimiter third.1 in
    let fifth = both (not (is_some a.val_delim)) others fourth.1 in
    is_none a.val_delim fifth.0

pub no_condition : (a : Arg) → is_simple_arg a ≡ true → a.default_vals_ifs.items ≡ []
no_condition a simple =
    let overrides = both _ _ simple in
    let ifs = both _ _ overrides.1 in
    none_in _ ifs.0

all_plain : (xs : List Arg) → list_all (λ r. r.is_simple) (map rule_of xs) ≡ true → list_all (λ r. r.is_free) (map rule_of xs) ≡ true
    → (k : ℕ) (d : Arg) → k < length xs → IsPlainArg (slice_index_or xs k d)
all_plain [] simple free k d lt = absurd (omega arith)
all_plain (x ∷ xs) simple free zero d lt =
    let here = both _ _ simple in
    let free_here = both _ _ free in
    plain_arg x here.0 free_here.0
all_plain (x ∷ xs) simple free (suc k) d lt =
    let within : k < length xs = omega arith in
    let here = both _ _ simple in
    let free_here = both _ _ free in
    all_plain xs here.1 free_here.1 k d within

-- a command that uses no setting and whose arguments have no rules on one another
pub record IsPlainCommand (c : Command) : Type 0 where
  pub plain : IsPlain c
  pub globals : (out-Command c).has_globals ≡ false
  pub negates : (out-Command c).subcommand_negates_reqs ≡ false

pub plain_command : (c : Command) (app : App) → app_of c ≡ app → has_simple_rules app.top ≡ true → list_all (λ r. r.is_free) app.top.rules ≡ true
    → app.top.subcommand_negates_reqs ≡ false → IsPlainCommand c
plain_command c app shape simple free negates =
    let here : has_simple_rules (app_of c).top ≡ true = ap (λ a. has_simple_rules a.top) shape ∙ simple in
    let parts = both _ _ here in
    let fields : has_plain_fields (out-Command c) ≡ true = parts.0 in
    let groups = both _ _ fields in
    let external = both _ _ groups.1 in
    let globals = both _ _ external.1 in
    let others : list_all (λ r. r.is_free) (map rule_of (args_of c)) ≡ true = ap (λ a. list_all (λ r. r.is_free) a.top.rules) shape ∙ free in
    record {
      plain = (all_plain (args_of c) parts.1 others, none_in _ groups.0);
      globals = not-true _ globals.0;
      negates = ap (λ a. a.top.subcommand_negates_reqs) shape ∙ negates;
    }

-- ---- the argument at one place

-- what is read of the argument at this place
pub rule_at : (c : Command) (app : App) → app_of c ≡ app → (k : ℕ) (d : Arg) (e : Rule) → k < length (args_of c)
    → rule_of (slice_index_or (args_of c) k d) ≡ slice_index_or app.top.rules k e
rule_at c app shape k d e lt =
    sym (get_or-map rule_of (args_of c) k d e lt) ∙ ap (λ a. slice_index_or a.top.rules k e) shape

-- an argument that takes one value: what its rule says, and that no other has its id
pub record TakesOne (c : Command) (k : ℕ) (d : Arg) (rule : Rule) : Type 0 where
  pub within : k < length (args_of c)
  pub read : rule_of (slice_index_or (args_of c) k d) ≡ rule
  pub simple : rule.is_simple ≡ true
  pub set : rule.action ≡ Some Set
  pub range : rule.range ≡ None
  pub named : rule.id ≡ [] → ⊥
  pub own : (rule.id ≡ codes "help") ⊎ (rule.id ≡ codes "version") → ⊥
  pub unique : (j : ℕ) (e : Arg) → j < length (args_of c)
      → bytes_eq (slice_index_or (args_of c) j e).id.now (slice_index_or (args_of c) k d).id.now ≡ true → j ≡ k

not_text : (a b : Text) → bytes_eq a b ≡ false → a ≡ b → ⊥
not_text a b off same = both_ways (bytes_eq a b) off ((bytes_eq-Decides a b).1 same)

pub arg_count : (c : Command) (app : App) → app_of c ≡ app → length (args_of c) ≡ length app.top.rules
arg_count c app shape = sym (length-map (args_of c) rule_of) ∙ ap (λ a. length a.top.rules) shape

-- some argument of a command that has one
pub an_arg : (xs : List Arg) → 0 < length xs → Arg
an_arg [] lt = absurd (omega arith)
an_arg (x ∷ xs) lt = x

-- an argument takes one value where its rule says so and no other rule has its id
pub takes_one : (c : Command) (app : App) → app_of c ≡ app → (k : ℕ) (d : Arg) (rule : Rule) → k < length app.top.rules
    → slice_index_or app.top.rules k (rule_of d) ≡ rule → rule.is_simple ≡ true → rule.action ≡ Some Set → rule.range ≡ None
    → bytes_eq rule.id [] ≡ false → bytes_eq rule.id (codes "help") ≡ false → bytes_eq rule.id (codes "version") ≡ false
    → ((j : ℕ) (e : Rule) → j < length app.top.rules → bytes_eq (slice_index_or app.top.rules j e).id rule.id ≡ true → j ≡ k)
    → TakesOne c k d rule
takes_one c app shape k d rule lt here simple set range named help version alone =
    let count = arg_count c app shape in
    let within : k < length (args_of c) = omega arith in
    let read : rule_of (slice_index_or (args_of c) k d) ≡ rule = rule_at c app shape k d (rule_of d) within ∙ here in
    record {
      within = within;
      read = read;
      simple = simple;
      set = set;
      range = range;
      named = not_text rule.id [] named;
      own = λ auto. elim auto [ inl h ↦ not_text rule.id (codes "help") help h | inr h ↦ not_text rule.id (codes "version") version h ];
      unique = λ j e low same.
          let other : (slice_index_or (args_of c) j e).id.now ≡ (slice_index_or app.top.rules j (rule_of e)).id = ap (λ r. r.id) (rule_at c app shape j e (rule_of e) low) in
          let this : (slice_index_or (args_of c) k d).id.now ≡ rule.id = ap (λ r. r.id) read in
          let both_ids = ap₂ bytes_eq other this in
          alone j (rule_of e) (omega arith) (sym both_ids ∙ same);
    }

module _ (c : Command) (k : ℕ) (d : Arg) (rule : Rule) (one : TakesOne c k d rule) where
  pub is_set : (slice_index_or (args_of c) k d).action ≡ Some Set
  is_set = ap (λ r. r.action) one.read ∙ one.set

  pub is_simple_here : is_simple_arg (slice_index_or (args_of c) k d) ≡ true
  is_simple_here = ap (λ r. r.is_simple) one.read ∙ one.simple

  pub delimiter : (slice_index_or (args_of c) k d).val_delim ≡ None
  delimiter = no_delimiter (slice_index_or (args_of c) k d) is_simple_here

  pub takes_a_value : 1 ≤ least_values (slice_index_or (args_of c) k d)
  takes_a_value =
      let range : (slice_index_or (args_of c) k d).num_vals ≡ None = ap (λ r. r.range) one.read ∙ one.range in
      let one_value : 1 ≤ 1 = omega arith in
      subst (λ n. 1 ≤ (unwrap_or_range n).start_inclusive) (sym range) one_value

  pub has_id : (slice_index_or (args_of c) k d).id.now ≡ rule.id
  has_id = ap (λ r. r.id) one.read

  pub not_auto : IsAuto (slice_index_or (args_of c) k d) → ⊥
  not_auto auto = one.own (elim auto [ inl h ↦ inl (sym has_id ∙ h) | inr h ↦ inr (sym has_id ∙ h) ])

  module _ (m : ArgMatches) (p : IsParsedFrom c m) (plain : IsPlainCommand c) where
    -- a required argument has a value
    pub required_given : rule.required ≡ true → is_some (first_value (found_of m) rule.id) ≡ true
    required_given required = subst (λ id. is_some (first_value (found_of m) id) ≡ true) has_id
        (required_has_value c m p plain.plain plain.globals plain.negates k d one.within (ap (λ r. r.required) one.read ∙ required)
        is_set delimiter takes_a_value one.unique (λ e. one.named (sym has_id ∙ e)) not_auto)
