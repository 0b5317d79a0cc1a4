-- Why a run writes no report.
use Rattle.std.proofs.Common.{ℕ, List, Option, None, Result, Ok, Err}
use Rattle.std.specs.Prelude.{IfOk, IfErr}
use Rattle.std.proofs.lemmas.Option.{none-some}
use Rattle.dom.specs.Nodes.{Node}
use Rattle.dom.specs.declared.dom.DomErr.{DomErr}
use Rattle.metrics.specs.Face.{FontFace}
use Rattle.metrics.specs.declared.fault.MetricsWhy.{MetricsWhy}
use Rattle.unread.specs.Causes.{IsDue, book_due, faces_due, html_due, tree_due}
use Rattle.unread.specs.declared.outcome.Outcome.{Outcome}
use Rattle.unread.specs.declared.outcome.Outcome.TheVariants as out

-- where no refusal is due, memory ran out
due_none : (due : Option Outcome) (o : Outcome) → IsDue None o → IsDue due o
due_none due out.NoMemory h = tt
due_none due out.Clean h = absurd (none-some out.Clean h)
due_none due out.Found h = absurd (none-some out.Found h)
due_none due out.Help h = absurd (none-some out.Help h)
due_none due out.Usage h = absurd (none-some out.Usage h)
due_none due (out.CannotRead f) h = absurd (none-some (out.CannotRead f) h)
due_none due (out.TooLarge f) h = absurd (none-some (out.TooLarge f) h)
due_none due (out.NotUtf8 f) h = absurd (none-some (out.NotUtf8 f) h)
due_none due (out.BadMetrics line) h = absurd (none-some (out.BadMetrics line) h)
due_none due out.Limit h = absurd (none-some out.Limit h)
due_none due out.CannotWrite h = absurd (none-some out.CannotWrite h)

-- the refusal of the metrics text is the first
pub faces_first : (said : Result (List FontFace) (ℕ × MetricsWhy)) (tree : Result (List Node) DomErr) (files : ℕ) (o : Outcome) → IsDue (faces_due said) o → IsDue (book_due said tree files) o
faces_first (Ok faces) tree files o h = due_none (html_due tree files) o h
faces_first (Err e) tree files o h = h

-- the refusal of the HTML comes before that of the sheets
pub tree_first : (tree : Result (List Node) DomErr) (files : ℕ) (o : Outcome) → IsDue (tree_due tree) o → IsDue (html_due tree files) o
tree_first (Ok nodes) files o h = due_none (html_due (Ok nodes) files) o h
tree_first (Err e) files o h = h

-- what follows from a fact of the value of an answer that is Ok
pub if_ok_map : {A E : Type 0} {P Q : A → Type 0} (r : Result A E) → ((x : A) → P x → Q x) → IfOk r P → IfOk r Q
if_ok_map (Ok x) f p = f x p
if_ok_map (Err e) f p = tt

-- the same of an error
pub if_err_map : {A E : Type 0} {P Q : E → Type 0} (r : Result A E) → ((e : E) → P e → Q e) → IfErr r P → IfErr r Q
if_err_map (Ok x) f p = tt
if_err_map (Err e) f p = f e p
