-- Contents of whole elements are one exactly where their bytes are, so keys are told without printing.
use Rattle.std.proofs.Common.{◌≡◌, ◌↔◌, ◌⊎◌, Bool, true, false, ◌&&◌, ◌||◌, not, IsTrue, refl, ap, sym, ◌∙◌, inl, inr}
use Rattle.std.specs.Str.{bytes_eq}
use Rattle.ifmap_elem.specs.Arranged.{arrange}
use Rattle.ifmap_elem.specs.Canonical.{canonical_bytes}
use Rattle.ifmap_elem.specs.declared.elements.Element.{Element}
use Rattle.ifmap_elem.specs.laws.ArrangedLaws.{arranged_is}
use Rattle.ifmap_elem.specs.laws.CanonicalSpells.{same_when_alike}
use Rattle.ifmap_lemmas.specs.Texts.{eq_itself, eq_tells}
use Rattle.ifmap_meta.specs.declared.stored.Stored.{Stored}
use Rattle.ifmap_meta.specs.Cardinality.{is_single}
use Rattle.ifmap_meta.specs.Keys.{HaveOneKey, content_bytes, same_key, same_type}
use Rattle.ifmap_meta.specs.Stamps.{content_of, is_stamp, without_stamps}
use Rattle.ifmap_meta.specs.Whole.{IsArranged, IsSent, IsWhole}
use Rattle.ifmap_meta.specs.laws.Order.{filter_sorted}
use Rattle.ifmap_meta.specs.laws.WholeLaws.{fit_content}

-- content of an arranged element is arranged
pub content_arranged : (e : Element) → IsArranged e → arrange (content_of e) ≡ content_of e
content_arranged e arranged =
    let parts = sym (arranged_is e) ∙ arranged in
    let sorted = ap (λ (x : Element). x.attributes) parts in
    let children = ap (λ (x : Element). x.children) parts in
    let content = sym (filter_sorted (λ a. not (is_stamp a)) e.attributes) ∙ ap without_stamps sorted in
    arranged_is (content_of e) ∙ (λ i. record { name = e.name; attributes = content i; children = children i })

pub contents_alike : (a b : Element) → IsSent a → IsSent b → content_bytes a ≡ content_bytes b → content_of a ≡ content_of b
unfolding content_bytes
contents_alike a b s t e =
    sym (content_arranged a s.arranged)
    ∙ same_when_alike (content_of a) (content_of b) (fit_content a s.fit) (fit_content b t.fit) e
    ∙ content_arranged b t.arranged

same_bytes : (a b : Element) → content_of a ≡ content_of b → content_bytes a ≡ content_bytes b
unfolding content_bytes
same_bytes a b e = ap canonical_bytes e

-- where one type, and publisher and content where there may be many, are told by tests
told : (t s p q : Bool) (P Q : Type 0) → (IsTrue p ↔ P) → (IsTrue q ↔ Q)
    → IsTrue (t && (s || (p && q))) ↔ (IsTrue t × (IsTrue s ⊎ (P × Q)))
told true true p q P Q h k = (λ e. (refl, inl refl), λ f. refl)
told true false true true P Q h k = (λ e. (refl, inr (h.0 refl, k.0 refl)), λ f. refl)
told true false true false P Q h k = (λ e. cc, λ f. elim f.1 [ inl e ↦ cc | inr g ↦ k.1 g.1 ])
told true false false q P Q h k = (λ e. cc, λ f. elim f.1 [ inl e ↦ cc | inr g ↦ h.1 g.0 ])
told false s p q P Q h k = (λ e. cc, λ f. f.0)

-- so keys are
pub keys_told : (a b : Stored) → IsWhole a → IsWhole b → IsTrue (same_key a b) ↔ HaveOneKey a b
keys_told a b v w =
    told (same_type a.element b.element) (is_single a.element) (bytes_eq a.publisher b.publisher)
    (bytes_eq (content_bytes a.element) (content_bytes b.element)) (a.publisher ≡ b.publisher) (content_of a.element ≡ content_of b.element)
    (eq_tells a.publisher b.publisher, λ e. ap (bytes_eq a.publisher) (sym e) ∙ eq_itself a.publisher) (
      λ t. contents_alike a.element b.element v.sent w.sent (eq_tells (content_bytes a.element) (content_bytes b.element) t),
      λ e. ap (bytes_eq (content_bytes a.element)) (sym (same_bytes a.element b.element e))
          ∙ eq_itself (content_bytes a.element),
    )
