-- Attributes that an empty value leaves out: their order, that they tell their values, and their length.
use Rattle.std.proofs.Common.{ap, ◌≡◌, ℕ, ◌<◌, List, [], ◌∷◌, ◌++◌, codes, drop, get_or, refl, sym, ◌∙◌, subst, arith, append_assoc}
use Rattle.std.specs.Ordering.{ordering_then}
use Rattle.std.specs.declared.cmp.Ordering.{Ordering}
use Rattle.ifmap_ident.specs.Leading.{FrontsCompare}
use Rattle.ifmap_ident.specs.Written.{OptionalsLead, attribute_written, closed_text, optional_written}
use Rattle.ifmap_elem.specs.declared.escaping.TextPlace.TheVariants.{Value}
use Rattle.ifmap_lemmas.specs.Orderings.{then_equal}
use Rattle.ifmap_ident.proofs.LeadingLaws.{leads_after, leads_both, leads_same}
use Rattle.ifmap_ident.proofs.PlacedLaws.{text_alike}
use Rattle.ifmap_lemmas.specs.Lists.{same_front}
use Rattle.ifmap_elem.specs.Chars.{space_character, double_quote, equals_sign}

-- ---- order

-- attributes of one name are ordered as their values
pub attributes_lead : (o : Ordering) (local v w : List ℕ) → FrontsCompare o (closed_text Value v) (closed_text Value w)
    → FrontsCompare o (attribute_written local v) (attribute_written local w)
attributes_lead o local v w f = leads_after (space_character ∷ []) (leads_after local (leads_after (codes "=\"") f))

pub optionals_lead : (o : Ordering) (v w : List ℕ) → (v ≡ [] → ⊥) → (w ≡ [] → ⊥)
    → FrontsCompare o (closed_text Value v) (closed_text Value w)
    → OptionalsLead o v w
optionals_lead o [] w n m f = absurd (n refl)
optionals_lead o (b ∷ v) [] n m f = absurd (m refl)
optionals_lead o (b ∷ v) (c ∷ w) n m f = λ first letter local h.
    subst (λ r. FrontsCompare r (attribute_written (first ∷ local) (b ∷ v) ++ (space_character ∷ (letter ∷ [])))
    (attribute_written (first ∷ local) (c
    ∷ w)
    ++ (space_character ∷ (letter ∷ [])))) (then_equal o)
    (leads_both (attributes_lead o (first ∷ local) (b ∷ v) (c ∷ w) f) (leads_same (space_character ∷ (letter ∷ []))))

-- ---- one part and then another

pub leads_before : {o : Ordering} {p q : List ℕ} → FrontsCompare o p q → (s : List ℕ) → FrontsCompare o (p ++ s) (q ++ s)
leads_before {o} {p} {q} f s = subst (λ r. FrontsCompare r (p ++ s) (q ++ s)) (then_equal o) (leads_both f (leads_same s))

-- an attribute that may be left out, a space, a greater letter, and then others
pub optional_then : (o r : Ordering) (first letter : ℕ) (local v w s t : List ℕ) → first < letter → OptionalsLead o v w
    → FrontsCompare r s t
    → FrontsCompare (ordering_then o r) (optional_written (first ∷ local) v ++ (space_character ∷ (letter ∷ s)))
    (optional_written (first ∷ local) w
    ++ (space_character ∷
    (letter ∷ t)))
optional_then o r first letter local v w s t h f g =
    subst (λ p. FrontsCompare (ordering_then o r) p (optional_written (first ∷ local) w ++ (space_character ∷ (letter ∷ t))))
    (append_assoc (optional_written (first ∷ local) v) (space_character ∷ (letter ∷ [])) s)
    (subst (λ q. FrontsCompare (ordering_then o r) ((optional_written (first ∷ local) v ++ (space_character ∷ (letter ∷ []))) ++ s) q)
    (append_assoc (optional_written (first ∷ local) w) (space_character ∷ (letter ∷ [])) t) (leads_both (f first letter local h) g))

-- ---- values are told apart

pub optional_alike : (first letter : ℕ) (local v w s t : List ℕ) → first < letter
    → optional_written (first ∷ local) v ++ (space_character ∷ (letter ∷ s)) ≡ optional_written (first ∷ local) w ++
    (space_character ∷ (letter ∷ t))
    → (v ≡ w) × (s ≡ t)
optional_alike first letter local [] [] s t h e = (refl, cc)
optional_alike first letter local [] (c ∷ w) s t h e = let wrong : letter ≡ first = ap (λ text. get_or text 1 0) e in absurd (omega arith)
optional_alike first letter local (b ∷ v) [] s t h e = let wrong : first ≡ letter = ap (λ text. get_or text 1 0) e in absurd (omega arith)
optional_alike first letter local (b ∷ v) (c ∷ w) s t h e =
    let parts = λ (u x : List ℕ). append_assoc local (equals_sign ∷ (double_quote ∷ closed_text Value u)) x in
    let rest = same_front local _ _
    (sym (parts (b ∷ v) (space_character ∷ (letter ∷ s))) ∙ ap (drop 2) e ∙ parts (c ∷ w) (space_character ∷ (letter ∷ t))) in
    let both = text_alike Value (b ∷ v) (c ∷ w) (space_character ∷ (letter ∷ s)) (space_character ∷ (letter ∷ t)) (ap (drop 2) rest) in
    (both.0, ap (drop 2) both.1)
