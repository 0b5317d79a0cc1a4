-- Families one after another.
use Rattle.std.proofs.Common.{◌≡◌, ℕ, ◌∙◌, List, [], ◌∷◌, ◌++◌, map, not, refl, ap, sym, append_assoc, inl, inr}
use Rattle.std.specs.List.{filter, flat_map}
use Rattle.std.specs.Prelude.{if◌then◌else◌}
use Rattle.std.proofs.lemmas.Bool.{cases_Bool}
use Rattle.std.proofs.lemmas.Grind.{flat_map-append}
use Rattle.metrics.specs.Face.{FontFace}
use Rattle.unread_list.specs.Families.{Family, faceless, families_in, is_faceless, part_findings, unread_in}
use Rattle.unread_list.specs.Parts.{PlacedOf}
use Rattle.unread_list.specs.Reading.{is_read}

pub faceless_first : (faces : List FontFace) (line : ℕ) (n : List ℕ) (ns : List (List ℕ)) →
    faceless faces line (n ∷ ns) ≡ (if is_faceless faces n then Family line n ∷ [] else []) ++ faceless faces line ns
faceless_first faces line n ns = elim (cases_Bool (is_faceless faces n)) [ inl hit ↦ rw hit refl | inr miss ↦ rw miss refl ]

pub faceless_append : (faces : List FontFace) (line : ℕ) (ms ns : List (List ℕ)) → faceless faces line (ms ++ ns) ≡ faceless faces line ms ++ faceless faces line ns
faceless_append faces line [] ns = refl
faceless_append faces line (m ∷ ms) ns =
    faceless_first faces line m (ms ++ ns) ∙ ap (λ z. (if is_faceless faces m then Family line m ∷ [] else []) ++ z) (faceless_append faces line ms ns)
    ∙ sym (ap (λ z. z ++ faceless faces line ns) (faceless_first faces line m ms) ∙ append_assoc (if is_faceless faces m then Family line m ∷ [] else []) (faceless faces line ms) (faceless faces line ns))

-- ---- parts without a reading among what is found

no_family : (line : ℕ) (names : List (List ℕ)) → flat_map unread_in (map (Family line) names) ≡ []
no_family line [] = refl
no_family line (n ∷ ns) = no_family line ns

pub unread_are : (faces : List FontFace) (ps : List PlacedOf) → flat_map unread_in (flat_map (part_findings faces) ps) ≡ filter (λ (p : PlacedOf). not (is_read p.part)) ps
unread_are faces [] = refl
unread_are faces (p ∷ ps) =
    flat_map-append unread_in (part_findings faces p) (flat_map (part_findings faces) ps) ∙ ap (λ z. flat_map unread_in (part_findings faces p) ++ z) (unread_are faces ps) ∙ here
  where
    here : flat_map unread_in (part_findings faces p) ++ filter (λ (p : PlacedOf). not (is_read p.part)) ps ≡ filter (λ (p : PlacedOf). not (is_read p.part)) (p ∷ ps)
    here = elim (cases_Bool (is_read p.part)) [
      | inl read ↦ rw read (ap (λ z. z ++ filter (λ (p : PlacedOf). not (is_read p.part)) ps) (no_family p.line (filter (is_faceless faces) (families_in p.part))))
      | inr unread ↦ rw unread refl
    ]
