use Rattle.std.proofs.Common.{◌≡◌, ◌≤◌, ◌∙◌, ◌⊎◌, ℕ, List, [], ◌∷◌, map, string_bytes, ap, sym, subst, refl, inl, inr, arith, length}
use Rattle.clap.specs.Words.{IsAmong, HasKind, Kinds, app_of, fault_of, is_simple, kind_of}
use Rattle.clap.specs.Simple.{built}
use Rattle.clap.specs.Faults.{is_free_app}
use Rattle.clap.specs.declared.error.ErrorKind.{ErrorKind}
use Rattle.clap.specs.declared.error.ErrorKind.TheVariants as kind
use Rattle.clap.proofs.WalkLemmas.{both}
use Rattle.words.specs.Parsed.{IsRefusal, err_for}
use Rattle.words.proofs.OneKind.{IsOne, one_kind}
use Rattle.words.proofs.read.matches_by.Goals as goal

refused_at : (k : ErrorKind) → IsRefusal (k ∷ []) (err_for k)
refused_at kind.OutOfMemory = tt
refused_at kind.DisplayHelp = λ asked. refl
refused_at k = λ asked. refl

refused_by : (kinds : Kinds) (k : ErrorKind) → IsOne kinds → (k ≡ kind.OutOfMemory) ⊎ IsAmong k kinds → IsRefusal kinds (err_for k)
refused_by kinds k one (inl memory) = subst (λ x. IsRefusal kinds (err_for x)) (sym memory) tt
refused_by [] k one (inr among) = absurd among
refused_by (x ∷ []) k one (inr (inl here)) = subst (λ y. IsRefusal (y ∷ []) (err_for k)) here (refused_at k)
refused_by (x ∷ []) k one (inr (inr among)) = absurd among
refused_by (x ∷ y ∷ rest) k one (inr among) =
    let most : length (x ∷ y ∷ rest) ≤ 1 = one.most in
    absurd (omega arith)

pub returns-in-Ok : goal.returns-in-Ok
returns-in-Ok c =
    let simple = both (is_simple (app_of c.args.command)) (is_free_app (built (app_of c.args.command))) c.requires.simple in
    record {
      faultless = c.in-Ok.ensures.kinds c.requires.simple;
      rows = (c.in-Ok.ensures.matches simple.0).0;
      by = record { command = c.args.command; shape = refl; parsed = c.in-Ok.ensures.parsed };
    }

pub returns-in-Err : goal.returns-in-Err
returns-in-Err c =
    let words : List (List ℕ) = map (λ w. string_bytes w) c.args.words.now in
    let faults = fault_of (app_of c.args.command) words in
    let kinds : HasKind faults c.in-Err.error = c.in-Err.ensures.kinds c.requires.simple in
    let fault : c.err_of.result ≡ err_for (kind_of c.in-Err.error) = c.err_of.ensures ∙ ap err_for c.kind.ensures in
    let one = one_kind (app_of c.args.command) words c.requires.leaf.leaf c.requires.leaf.subs in
    subst (IsRefusal faults) (sym fault) (refused_by faults (kind_of c.in-Err.error) one kinds)
