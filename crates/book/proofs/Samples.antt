-- The texts of a sample book are those that are expected.
use Rattle.std.proofs.Common.{◌≡◌, ℕ, ◌≤◌, List, [], ◌∷◌, length, None, refl, ap, ◌∙◌, arith}
use Rattle.bk_num.specs.Limits.{most_text_bytes}
use Rattle.bk_io.specs.Texts.{unmarked}
use Rattle.sample.specs.Html.{html_of}
use Rattle.sample.specs.Texts.{css_text, metrics_text}
use Rattle.book.specs.Document.{BookTexts}
use Rattle.book.specs.Run.{sample_texts}
use Rattle.book.specs.declared.document.Output.TheVariants as output

pub metrics_short : (m : List ℕ) → m ≡ metrics_text → length m ≤ most_text_bytes
unfolding metrics_text
metrics_short m is = rw is (omega arith)

-- no sheet of a sample begins with U+FEFF
css_unmarked : unmarked css_text ≡ css_text
unfolding css_text unmarked
css_unmarked = refl

pub sheets_are : (css : List ℕ) → css ≡ css_text → unmarked css ∷ [] ≡ css_text ∷ []
sheets_are css is = ap (λ (z : List ℕ). unmarked z ∷ []) is ∙ ap (λ (z : List ℕ). z ∷ []) css_unmarked

pub texts_are : (n : ℕ) (m h : List ℕ) (s : List (List ℕ)) → m ≡ metrics_text → h ≡ html_of n → s ≡ css_text ∷ [] →
    ◌≡◌ {A = BookTexts} (record { passes = 8; grid = record { columns = 1; gap = 0 }; output = output.Counts n; metrics = m; patterns = None; html = h; sheets = s }) (sample_texts n)
texts_are n m h s a b c = λ i. record { passes = 8; grid = record { columns = 1; gap = 0 }; output = output.Counts n; metrics = a i; patterns = None; html = b i; sheets = c i }
