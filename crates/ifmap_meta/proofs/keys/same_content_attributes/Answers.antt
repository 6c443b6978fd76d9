use Rattle.std.proofs.Common.{◌≡◌, ◌↔◌, ℕ, ◌≤◌, Bool, IsTrue, List, [], ◌∷◌, drop, length, refl, ap, sym, ◌∙◌, arith, inl, inr}
use Rattle.std.specs.List.{list_all}
use Rattle.std.proofs.Math.ListN.{drop_of_length-le}
use Rattle.std.proofs.lemmas.Bool.{cases_Bool}
use Rattle.ifmap_elem.specs.declared.elements.Attribute.{Attribute}
use Rattle.ifmap_meta.specs.Stamps.{is_stamp, without_stamps}
use Rattle.ifmap_meta.proofs.keys.same_content_attributes.Goals as goal

stamps_alone : (xs : List Attribute) → IsTrue (list_all is_stamp xs) ↔ ([] ≡ without_stamps xs)
stamps_alone [] = (λ t. refl, λ e. refl)
stamps_alone (x ∷ xs) = elim (cases_Bool (is_stamp x)) [
  | inl e ↦ rw e (stamps_alone xs)
  | inr e ↦ rw e (λ t. cc, λ q. cc)
]

-- at the end of the one, the rest of the other is stamps alone
rest_is_stamps : (one rest : List Attribute) (i : ℕ) (r : Bool) (P : Type 0) → length one ≤ i
    → (P ↔ (without_stamps (drop i one) ≡ without_stamps rest)) → r ≡ list_all is_stamp rest → IsTrue r ↔ P
rest_is_stamps one rest i r P l h e = (
  λ t. h.1 (ap without_stamps (drop_of_length-le one l) ∙ (stamps_alone rest).0 (sym e ∙ t)),
  λ p. e ∙ (stamps_alone rest).1 (sym (ap without_stamps (drop_of_length-le one l)) ∙ h.0 p),
)

pub returns : goal.returns
returns c =
    rest_is_stamps c.args.one.now c.loop-attribute.rest.now c.loop-attribute.attribute-index c.are_stamps.result
    (without_stamps c.args.one.now ≡ without_stamps c.args.other.now)
    (omega (arith, c.loop-attribute-test.false, c.loop-attribute.auto.attribute-index-end)) c.loop-attribute.invariant
    c.are_stamps.ensures
