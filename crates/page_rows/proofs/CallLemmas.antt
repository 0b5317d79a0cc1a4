-- Calls that never fall along a list of notes.
use Rattle.std.proofs.Common.{◌≡◌, ◌<◌, ◌+◌, ◌++◌, ◌∷◌, [], ℕ, suc, false, List, Option, None, Some, length, map, slice_get, option_map, refl, sym, subst, arith, ◌∙◌, ◌⊎◌, inl, inr}
use Rattle.std.proofs.lemmas.List.{length-map, map-append}
use Rattle.std.proofs.lemmas.Option.{slice_get-map, slice_get_within}
use Rattle.boxes.proofs.ListLemmas.{get-push}
use Rattle.boxes.specs.declared.flow.Note.{Note}
use Rattle.boxes.specs.declared.place.Position.{Position}
use Rattle.page_seq.specs.Places.{NeverFall, is_before}

abbrev call_of : Note → Position
call_of n = n.call

-- a list of calls that never fall, with one more that doesn't stand before the last
pub never_push : (notes : List Note) (n : Note) → NeverFall (map (λ m. m.call) notes) → ((k : ℕ) (a : Note) → k + 1 ≡ length notes → slice_get notes k ≡ Some a → is_before n.call a.call ≡ false) → NeverFall (map (λ m. m.call) (notes ++ n ∷ []))
never_push notes n before last = subst NeverFall (sym (map-append call_of notes (n ∷ []))) go
  where
    size : length (map call_of notes) ≡ length notes
    size = length-map notes call_of

    here : (k : ℕ) (a b : Position) → slice_get (map call_of notes) k ≡ Some a → suc k ≡ length (map call_of notes) → b ≡ n.call → is_before b a ≡ false
    here k a b at end is = by (slice_get notes k) (sym (slice_get-map call_of notes k) ∙ at) refl
      where
        by : (o : Option Note) → option_map call_of o ≡ Some a → slice_get notes k ≡ o → is_before b a ≡ false
        by None e f = absurd (cc)
        by (Some m) e f = let same : m.call ≡ a = cc in subst (λ (p : Position). is_before b p ≡ false) same (subst (λ (p : Position). is_before p m.call ≡ false) (sym is) (last k m (let s = size in omega (arith, end, s)) f))

    old : (k : ℕ) (a : Position) → suc k < length (map call_of notes) + 1 → slice_get (map call_of notes ++ n.call ∷ []) k ≡ Some a → slice_get (map call_of notes) k ≡ Some a
    old k a low e = by (get-push (map call_of notes) n.call a k e)
      where
        by : ((k ≡ length (map call_of notes)) × (a ≡ n.call)) ⊎ (slice_get (map call_of notes) k ≡ Some a) → slice_get (map call_of notes) k ≡ Some a
        by (inl (end, is)) = absurd (omega arith)
        by (inr there) = there

    go : NeverFall (map call_of notes ++ n.call ∷ [])
    go k a b at next = by (get-push (map call_of notes) n.call b (suc k) next)
      where
        by : ((suc k ≡ length (map call_of notes)) × (b ≡ n.call)) ⊎ (slice_get (map call_of notes) (suc k) ≡ Some b) → is_before b a ≡ false
        by (inl (end, is)) = here k a b (old k a (omega arith) at) end is
        by (inr there) = let low = slice_get_within (map call_of notes) (suc k) b there in before k a b (old k a (omega arith) at) there
