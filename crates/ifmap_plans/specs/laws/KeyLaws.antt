-- The order of attachments is total, and having one key is an equivalence.
use Rattle.std.proofs.Common.{◌≡◌, refl, Bool, true, false, ◌&&◌}
use Rattle.std.proofs.lemmas.Bool.{and_parts}
use Rattle.std.proofs.lemmas.Cmp.{and_equiv, nat_list_cmp_total, nat_list_eq_equiv, on_equiv, on_total}
use Rattle.std.proofs.lemmas.Cmp.{then_total}
use Rattle.std.specs.Cmp.{IsEquivalence, IsTotalOrder, bool_eq_equiv}
use Rattle.std.specs.Str.{bytes_eq}
use Rattle.std.proofs.Math.Bool.{beq}
use Rattle.ifmap_elem.specs.declared.elements.Element.{Element}
use Rattle.ifmap_ident.specs.SameLaws.{items_equiv, items_total}
use Rattle.ifmap_lemmas.specs.Equivalences.{guarded_equiv}
use Rattle.ifmap_meta.specs.declared.stored.Stored.{Stored}
use Rattle.ifmap_meta.specs.Cardinality.{is_single}
use Rattle.ifmap_meta.specs.Keys as stored
use Rattle.ifmap_view.specs.declared.attachments.Attachment.{Attachment}
use Rattle.ifmap_view.specs.Attachments.{attachment_order, of_one_key, stored_bytes, stored_order}

-- what is stored
pub stored_total : IsTotalOrder stored_order
stored_total = on_total stored_bytes nat_list_cmp_total

pub attachments_total : IsTotalOrder attachment_order
attachments_total = then_total (on_total (λ (a : Attachment). a.item) items_total) (on_total (λ (a : Attachment). a.stored) stored_total)

-- elements of one type
types_equiv : IsEquivalence stored.same_type
types_equiv = and_equiv (and_equiv (on_equiv (λ (e : Element). e.name.space) nat_list_eq_equiv)
    (on_equiv (λ (e : Element). e.name.local) nat_list_eq_equiv)) (on_equiv is_single bool_eq_equiv)

beq_same : (a b : Bool) → beq a b ≡ true → a ≡ b
beq_same true true e = refl
beq_same true false e = cc
beq_same false true e = cc
beq_same false false e = refl

one_cardinality : (a b : Element) → stored.same_type a b ≡ true → is_single a ≡ is_single b
one_cardinality a b e = beq_same (is_single a) (is_single b) (and_parts _ _ e).1

pub stored_equiv : IsEquivalence stored.same_key
stored_equiv =
    guarded_equiv (λ (a : Stored) (b : Stored). stored.same_type a.element b.element)
    (λ (a : Stored) (b : Stored). bytes_eq a.publisher b.publisher && bytes_eq (stored.content_bytes a.element)
    (stored.content_bytes b.element)) (λ (a : Stored). is_single a.element)
    (on_equiv (λ (a : Stored). a.element) types_equiv)
    (and_equiv (on_equiv (λ (a : Stored). a.publisher) nat_list_eq_equiv)
    (on_equiv (λ (a : Stored). stored.content_bytes a.element) nat_list_eq_equiv))
    (λ a b e. one_cardinality a.element b.element e)

pub keys_equiv : IsEquivalence of_one_key
keys_equiv = and_equiv (on_equiv (λ (a : Attachment). a.item) items_equiv) (on_equiv (λ (a : Attachment). a.stored) stored_equiv)
