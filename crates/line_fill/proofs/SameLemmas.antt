-- A line is that of each leaf of its key.
use Rattle.std.proofs.Common.{◌≡◌, ◌∙◌, ℕ, ℤ, List, ap, subst}
use Rattle.std.proofs.Math.Logic.{⊎_map}
use Rattle.metrics.specs.Face.{FontFace}
use Rattle.boxes.specs.Lines.{LineView}
use Rattle.boxes.specs.declared.leaf.Leaf.{Leaf}
use Rattle.line_fill.specs.LineEnd.{IsEmergency, IsEnd, IsLine, IsLineEnd}
use Rattle.line_fill.specs.LineEnd.IsEnd.{at_greedy, at_plan}
use Rattle.line_fill.specs.Stops.{measures_of, offsets_of, stop_at, stops_of}
use Rattle.line_fill.specs.Breaks.IsLineEnd.{at_ordinary, at_emergency, at_least}
use Rattle.line_fill.specs.LineEnd.{indent_of, line_measure}
use Rattle.line_fill.specs.Widths.{hyphen_at, unit_at}
use Rattle.line_fill.specs.Keys.{LeafKey, key_of, print_of}

-- equal keys have equal prints
pub print_same : {k k' : LeafKey} {m m' : ℤ} → k ≡ k' → m ≡ m' → print_of k m ≡ print_of k' m'
print_same {k = k} {k' = k'} {m = m} {m' = m'} e f = ap (λ (x : LeafKey). print_of x m) e ∙ ap (print_of k') f

-- the leaf with another's key
abbrev with_key : Leaf → LeafKey → Leaf
with_key leaf k = record leaf { text = k.text; spans = k.spans; places = k.places; graphemes = k.graphemes; indent = k.indent; fit = k.fit }

-- what of a leaf doesn't count for its lines
abbrev with_rest : Leaf → Leaf → Leaf
with_rest leaf other = record leaf { leads = other.leads; align = other.align; strut = other.strut }

emergency_on : (leaf other : Leaf) (from to : ℕ) → IsEmergency leaf from to → IsEmergency (with_rest leaf other) from to
emergency_on leaf other from to e = record { after = e.after; before = e.before; named = e.named; allowed = e.allowed }

emergency_off : (leaf other : Leaf) (from to : ℕ) → IsEmergency (with_rest leaf other) from to → IsEmergency leaf from to
emergency_off leaf other from to e = record { after = e.after; before = e.before; named = e.named; allowed = e.allowed }

pub end_on : {F G O E H : ℕ → Type 0} → ((q : ℕ) → F q → G q) → ((q : ℕ) → G q → F q) → ((q : ℕ) → E q → H q) → ((q : ℕ) → H q → E q) → (to : ℕ) → IsLineEnd F O E to → IsLineEnd G O H to
end_on f g e h to (at_ordinary o i m) = at_ordinary o (f to i) (λ q o' i'. m q o' (g q i'))
end_on f g e h to (at_emergency n o i m) = at_emergency (λ q o' i'. n q o' (g q i')) (e to o) (f to i) (λ q o' i'. m q (h q o') (g q i'))
end_on f g e h to (at_least n o m) = at_least (λ q o' i'. n q (⊎_map (λ x. x) (h q) o') (g q i')) (⊎_map (λ x. x) (e to) o) (λ q o'. m q (⊎_map (λ x. x) (h q) o'))

ends_on : (faces : List FontFace) (leaf other : Leaf) (from : ℕ) (measure : ℤ) (to : ℕ) → IsEnd faces leaf from measure to → IsEnd faces (with_rest leaf other) from measure to
unfolding unit_at hyphen_at line_measure indent_of offsets_of stop_at stops_of measures_of
ends_on faces leaf other from measure to (at_greedy u e) = at_greedy u (end_on (λ q f. f) (λ q f. f) (λ q e. emergency_on leaf other from q e) (λ q e. emergency_off leaf other from q e) to e)
ends_on faces leaf other from measure to (at_plan fit few e ends best is) = at_plan fit few e ends best is

line_on : (faces : List FontFace) (leaf other : Leaf) (from : ℕ) (measure : ℤ) (line : LineView) → IsLine faces leaf from measure line → IsLine faces (with_rest leaf other) from measure line
line_on faces leaf other from measure line is = record {
  begins = is.begins;
  ends = ends_on faces leaf other from measure line.to is.ends;
  hyphen = is.hyphen;
}

pub same_line : (faces : List FontFace) (leaf leaf' : Leaf) (from : ℕ) (measure : ℤ) (line : LineView) → key_of leaf ≡ key_of leaf' → IsLine faces leaf from measure line → IsLine faces leaf' from measure line
same_line faces leaf leaf' from measure line e is =
    let s : with_rest leaf leaf' ≡ leaf' = ap (λ (k : LeafKey). with_key leaf' k) e in
    subst (λ (l : Leaf). IsLine faces l from measure line) s (line_on faces leaf leaf' from measure line is)
