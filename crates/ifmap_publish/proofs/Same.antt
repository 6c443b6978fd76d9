-- When two stored elements are one.
use Rattle.std.proofs.Common.{◌≡◌, ◌∙◌, refl, sym, ap, true, false, ◌&&◌}
use Rattle.std.proofs.lemmas.Bool.{and_parts}
use Rattle.std.proofs.lemmas.Cmp.{nat_eq_equiv, nat_list_eq_equiv}
use Rattle.std.proofs.lemmas.Map.Text.{is_eq-slice_cmp}
use Rattle.std.specs.Ordering.{is_eq}
use Rattle.std.specs.Str.{bytes_eq}
use Rattle.std.specs.declared.cmp.Ordering.{Ordering}
use Rattle.std.specs.declared.cmp.Ordering.TheVariants.{Less, Greater}
use Rattle.ifmap_elem.specs.laws.CanonicalSpells.{same_when_alike}
use Rattle.ifmap_lemmas.specs.Numbers.{equal_numbers}
use Rattle.ifmap_lemmas.specs.Texts.{eq_itself, eq_tells}
use Rattle.ifmap_meta.specs.declared.stored.Life.{Life}
use Rattle.ifmap_meta.specs.declared.stored.Life.TheVariants.{Session, Forever}
use Rattle.ifmap_meta.specs.declared.stored.Stored.{Stored}
use Rattle.ifmap_meta.specs.Whole.{IsWhole}
use Rattle.ifmap_rows.specs.ifmap_plans.Lists.{same_life, same_stored}
use Rattle.ifmap_view.specs.Attachments.{stored_bytes, stored_order}

-- those that the order tells apart are not one
differ_by : (a b : Stored) (o : Ordering) → stored_order a b ≡ o → is_eq o ≡ false → same_stored a b ≡ false
differ_by a b o e d =
    let bytes : bytes_eq (stored_bytes a) (stored_bytes b) ≡ false =
    sym (is_eq-slice_cmp (stored_bytes a) (stored_bytes b)) ∙ ap is_eq e ∙ d in
    rw bytes refl

pub less_differs : (a b : Stored) → stored_order a b ≡ Less → same_stored a b ≡ false
less_differs a b e = differ_by a b Less e refl

pub greater_differs : (a b : Stored) → stored_order a b ≡ Greater → same_stored a b ≡ false
greater_differs a b e = differ_by a b Greater e refl

life_turned : (a b : Life) → same_life a b ≡ same_life b a
life_turned (Session a) (Session b) = nat_eq_equiv.symm a b
life_turned (Session a) Forever = refl
life_turned Forever (Session b) = refl
life_turned Forever Forever = refl

pub same_turned : (a b : Stored) → same_stored a b ≡ same_stored b a
same_turned a b =
    rw (nat_list_eq_equiv.symm (stored_bytes a) (stored_bytes b), nat_list_eq_equiv.symm a.publisher b.publisher, life_turned a.life b.life)
    refl

life_tells : (a b : Life) → same_life a b ≡ true → a ≡ b
life_tells (Session a) (Session b) e = ap Session (equal_numbers a b e)
life_tells (Session a) Forever e = cc
life_tells Forever (Session b) e = cc
life_tells Forever Forever e = refl

life_itself : (a : Life) → same_life a a ≡ true
life_itself (Session a) = nat_eq_equiv.refl a
life_itself Forever = refl

pub same_itself : (a : Stored) → same_stored a a ≡ true
same_itself a = rw (eq_itself (stored_bytes a), eq_itself a.publisher, life_itself a.life) refl

pub elements_one : (a b : Stored) → IsWhole a → IsWhole b → stored_bytes a ≡ stored_bytes b → a.element ≡ b.element
unfolding stored_bytes
elements_one a b v w e =
    sym v.sent.arranged ∙ same_when_alike a.element b.element v.sent.fit w.sent.fit e ∙ w.sent.arranged

-- whole ones that are the same are one value
pub same_is : (a b : Stored) → IsWhole a → IsWhole b → same_stored a b ≡ true → a ≡ b
same_is a b v w e =
    let parts = and_parts (bytes_eq (stored_bytes a) (stored_bytes b) && bytes_eq a.publisher b.publisher) (same_life a.life b.life) e in
    let texts = and_parts (bytes_eq (stored_bytes a) (stored_bytes b)) (bytes_eq a.publisher b.publisher) parts.0 in
    let element = elements_one a b v w (eq_tells (stored_bytes a) (stored_bytes b) texts.0) in
    let publisher = eq_tells a.publisher b.publisher texts.1 in
    let life = life_tells a.life b.life parts.1 in
    (λ i. record { element = element i; publisher = publisher i; life = life i })

-- and of one lifetime and publisher, whole or not
pub life_same : (a b : Stored) → same_stored a b ≡ true → a.life ≡ b.life
life_same a b e =
    life_tells a.life b.life
    (and_parts (bytes_eq (stored_bytes a) (stored_bytes b) && bytes_eq a.publisher b.publisher) (same_life a.life b.life) e).1

pub publisher_same : (a b : Stored) → same_stored a b ≡ true → a.publisher ≡ b.publisher
publisher_same a b e =
    let parts = and_parts (bytes_eq (stored_bytes a) (stored_bytes b) && bytes_eq a.publisher b.publisher) (same_life a.life b.life) e in
    eq_tells a.publisher b.publisher (and_parts (bytes_eq (stored_bytes a) (stored_bytes b)) (bytes_eq a.publisher b.publisher) parts.0).1
