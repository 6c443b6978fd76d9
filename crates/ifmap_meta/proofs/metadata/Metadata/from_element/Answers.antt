use Rattle.std.proofs.Common.{◌≡◌, ◌↔◌, ℕ, Bool, true, false, IsTrue, List, length, ◌<◌, ◌≤◌, IsSome, ap, sym, ◌∙◌, subst, refl, inl, inr}
use Rattle.std.proofs.lemmas.Bool.{cases_lt}
use Rattle.ifmap_elem.specs.Arranged.{arrange}
use Rattle.ifmap_elem.specs.Canonical.{canonical_bytes}
use Rattle.ifmap_elem.specs.declared.elements.Element.{Element}
use Rattle.ifmap_meta.specs.Keys.{content_bytes}
use Rattle.ifmap_meta.specs.Stamps.{content_of}
use Rattle.ifmap_meta.specs.Whole.{content_limit}
use Rattle.ifmap_meta.specs.laws.ContentLaws.{content_printed}
use Rattle.ifmap_meta.specs.laws.WholeLaws.{made_is_metadata}
use Rattle.ifmap_meta.proofs.metadata.Metadata.from_element.Goals as goal

-- how long the printed content is
long_content : (e content : Element) → content ≡ arrange (content_of e) → length (canonical_bytes content) ≡ length (content_bytes e)
long_content e content is = ap (λ (x : Element). length (canonical_bytes x)) is ∙ ap (λ (bytes : List ℕ). length bytes) (content_printed e)

within : (n : ℕ) (b : Bool) → (IsTrue b ↔ (content_limit < n)) → b ≡ false → n ≤ content_limit
within n b told e = elim (cases_lt content_limit n) [
  | inl l ↦ let q : b ≡ true = told.1 l in absurd (let r : true ≡ false = sym q ∙ e in cc)
  | inr g ↦ g
]

pub returns-then-branch-clause-too_long : goal.returns-then-branch-clause-too_long
returns-then-branch-clause-too_long c e =
    let told : IsTrue c.in_ok-is_too_long.field-0 ↔ (content_limit < length (canonical_bytes c.arrange_content-element.result)) =
    c.in_ok-is_too_long.ensures in (
      subst IsSome (sym (sym c.cardinality_of.ensures ∙ c.in-Some.is)) refl,
      subst (λ (n : ℕ). content_limit < n) (long_content c.args.element _ c.arrange_content-element.ensures) (told.0 c.if-branch.true),
    )

pub returns-clause-made : goal.returns-clause-made
returns-clause-made c =
    let told : IsTrue c.in_ok-is_too_long.field-0 ↔ (content_limit < length (canonical_bytes c.arrange_content-element.result)) =
    c.in_ok-is_too_long.ensures in
    record {
      element = c.arrange_content-element.ensures;
      cardinality = sym c.cardinality_of.ensures ∙ c.in-Some.is;
      size = subst (λ (n : ℕ). n ≤ content_limit) (long_content c.args.element _ c.arrange_content-element.ensures)
          (within _ _ told c.if-branch.false);
    }

pub returns-clause-metadata : goal.returns-clause-metadata
returns-clause-metadata c fit levels = made_is_metadata c.args.element _ fit levels (returns-clause-made c)
