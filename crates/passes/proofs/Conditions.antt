-- What is asked of a flow that is paged holds of one that is built.
use Rattle.std.proofs.Common.{◌≡◌, ◌∙◌, ◌+◌, ◌≤◌, ℕ, zero, suc, All, List, [], ◌∷◌, Some, length, map, slice_get, refl, sym, ap, get_or, subst, arith}
use Rattle.std.proofs.lemmas.List.Sums.{sum_by-cons}
use Rattle.std.proofs.lemmas.Option.{get_or_from_slice_get, none-some, slice_get-get_or, slice_get_within}
use Rattle.std.specs.List.{sum_by}
use Rattle.bk_num.specs.Limits.{most_entries, most_open, most_text_bytes}
use Rattle.metrics.specs.Face.{FontFace}
use Rattle.boxes.specs.Tree.{Tree, IsTree, IsWhole, depth_of}
use Rattle.boxes.specs.Tree.IsTree.{empty, opened, filled, closed}
use Rattle.boxes.specs.declared.flow.Flow.{Flow}
use Rattle.boxes.specs.declared.flow.Note.{Note}
use Rattle.box_gen.specs.Faces.{AreFaced}
use Rattle.box_gen.specs.Notes.{IsGoodBody, bytes_in}
use Rattle.box_gen.specs.Sites.{leaf_bytes}
use Rattle.box_gen.proofs.ByteLemmas.{bytes-push}
use Rattle.note_list.specs.Conditions.{CanBeCut, CanBePaged, text_size}
use Rattle.note_list.proofs.SizeLemmas.{bytes_opened, bytes_filled, bytes_closed}
use Rattle.page_seq.specs.Places.{NeverFall}

-- each leaf of a tree stands in it once
text_once : (t : Tree) → IsTree t → text_size t.leaves t.events ≡ leaf_bytes t.leaves
text_once t empty = refl
text_once t (opened u p tree few place good) = bytes_opened u p ∙ text_once u tree
text_once t (filled u leaf tree few place good owners) = bytes_filled u leaf tree ∙ ap (λ (n : ℕ). n + length leaf.text) (text_once u tree) ∙ sym (bytes-push u.leaves leaf)
text_once t (closed u b tree few inner) = bytes_closed u b ∙ text_once u tree

-- the body of a note has no more bytes than all notes together
body_bytes : (notes : List Note) (n : ℕ) (note : Note) → slice_get notes n ≡ Some note → leaf_bytes note.body.leaves ≤ sum_by (λ m. leaf_bytes m.body.leaves) notes
body_bytes [] n note e = absurd (none-some note e)
body_bytes (m ∷ notes) zero note e =
    let same : m ≡ note = cc in
    let all = sum_by-cons (λ (k : Note). leaf_bytes k.body.leaves) m notes in
    subst (λ (k : Note). leaf_bytes k.body.leaves ≤ sum_by (λ l. leaf_bytes l.body.leaves) (m ∷ notes)) same (omega arith)
body_bytes (m ∷ notes) (suc n) note e =
    let all = sum_by-cons (λ (k : Note). leaf_bytes k.body.leaves) m notes in
    let rest = body_bytes notes n note e in
    omega arith

module _ (faces : List FontFace) (flow : Flow) (depth : depth_of flow.main.events ≤ most_open) (faced : AreFaced faces flow.main.leaves) (bodies : All (IsGoodBody faces) flow.notes) where
  pub body_at : (n : ℕ) (note : Note) → slice_get flow.notes n ≡ Some note → IsGoodBody faces note
  body_at n note e = subst (IsGoodBody faces) (get_or_from_slice_get flow.notes n note note e) (bodies n note (slice_get_within flow.notes n note e))

  module _ (tree : IsTree flow.main) (whole : IsWhole flow.main.events) (few : bytes_in flow ≤ most_text_bytes) where
    body_cut : (n : ℕ) (note : Note) → slice_get flow.notes n ≡ Some note → CanBeCut faces note.body
    body_cut n note e =
        let good = body_at n note e in
        let own = body_bytes flow.notes n note e in
        let bytes : leaf_bytes note.body.leaves ≤ most_text_bytes = omega arith in
        record {
          is = good.tree;
          tree = record { whole = good.whole; depth = good.depth; faced = λ l leaf is. (good.faced l leaf is).0 };
          bytes = subst (λ (k : ℕ). k ≤ most_text_bytes) (sym (text_once note.body good.tree)) bytes;
        }

    pub can_be_paged : NeverFall (map (λ n. n.call) flow.notes) → length flow.notes ≤ most_entries → CanBePaged faces flow
    can_be_paged calls count = record {
      main = record {
        is = tree;
        tree = record { whole = whole; depth = depth; faced = λ l leaf is. (faced l leaf is).0 };
        bytes = let own : leaf_bytes flow.main.leaves ≤ most_text_bytes = omega arith in subst (λ (n : ℕ). n ≤ most_text_bytes) (sym (text_once flow.main tree)) own;
      };
      notes = λ n d less. body_cut n (get_or flow.notes n d) (slice_get-get_or flow.notes n d less);
      calls = calls;
      count = count;
      sliced = λ n d less. (bodies n d less).sliced;
    }
