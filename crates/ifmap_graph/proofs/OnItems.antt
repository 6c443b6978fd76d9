-- Graphs with the same on each item are one.
use Rattle.std.proofs.Common.{◌≡◌, true, List, ap, ◌∙◌, sym, subst}
use Rattle.std.proofs.lemmas.Cmp.{tied_itself}
use Rattle.std.specs.Cmp.{Equal-is}
use Rattle.std.specs.List.{filter}
use Rattle.std.specs.Ordering.{is_eq}
use Rattle.std.specs.declared.cmp.Ordering.TheVariants.{Equal}
use Rattle.ifmap_lemmas.specs.Having.{Has, filter_has, has_filter, has_map, map_has, all_has}
use Rattle.ifmap_ident.specs.declared.items.Item.{Item}
use Rattle.ifmap_ident.specs.declared.items.Item.TheVariants.{One, Pair}
use Rattle.ifmap_ident.specs.Items.{IsCanonItem, item_order, same_item}
use Rattle.ifmap_plans.specs.laws.KeyLaws.{attachments_total}
use Rattle.ifmap_view.specs.declared.attachments.Attachment.{Attachment}
use Rattle.ifmap_view.specs.Attachments.{IsGraph, attachment_order}
use Rattle.ifmap_view.specs.Rows.{stored_on}
use Rattle.ifmap_graph.proofs.Alike.{one_tied, pair_tied}
use Rattle.ifmap_ident.specs.SameLaws.{items_total, ties, BytesTellIdentifiers}
use Rattle.ifmap_lemmas.specs.Rising.{rising_same}

tied_with : (x k : Item) → same_item k x ≡ true → item_order x k ≡ Equal
tied_with x k e = (Equal-is (item_order x k)).0 (ties x k ∙ e)

-- items that tie are one, where elements gave their identifiers
canon_tied : BytesTellIdentifiers → (x y : Item) → IsCanonItem x → IsCanonItem y → item_order x y ≡ Equal → y ≡ x
canon_tied tells (One k) y p q e =
    let t = one_tied k y e
    in t.1 ∙ ap One (tells t.0 k (subst IsCanonItem t.1 q).identifiers.0 p.identifiers.0 t.2)
canon_tied tells (Pair k m) y p q e =
    let t = pair_tied k m y e
    in let c : IsCanonItem (Pair t.0 t.1) = subst IsCanonItem t.2 q
    in t.2 ∙ ap (λ a. Pair a t.1) (tells t.0 k c.identifiers.0 p.identifiers.0 t.3)
    ∙ ap (λ b. Pair k b) (tells t.1 m c.identifiers.1.0 p.identifiers.1.0 t.4)

has_on : (r : Attachment) (rows : List Attachment) → Has rows r → Has (stored_on r.item rows) r.stored
has_on r rows h =
    let t : same_item r.item r.item ≡ true = sym (ties r.item r.item) ∙ ap is_eq (tied_itself items_total r.item)
    in has_map (λ (a : Attachment). a.stored) (filter (λ (a : Attachment). same_item a.item r.item) rows) r
    (has_filter (λ (a : Attachment). same_item a.item r.item) rows r h t)

on_has : BytesTellIdentifiers → (r : Attachment) (rows : List Attachment) → IsCanonItem r.item → IsGraph rows → Has (stored_on r.item rows)
    r.stored
    → Has rows r
on_has tells r rows canon g h =
    let m = map_has (λ (a : Attachment). a.stored) (filter (λ (a : Attachment). same_item a.item r.item) rows) r.stored h
    in let k = filter_has (λ (a : Attachment). same_item a.item r.item) rows m.0 m.1
    in let e : m.0.item ≡ r.item
    = canon_tied tells r.item m.0.item canon (all_has (λ (a : Attachment). IsCanonItem a.item) rows g.items m.0 k.0)
    (tied_with r.item m.0.item k.1)
    in let same : m.0 ≡ r = ap (λ i. record { item = i; stored = m.0.stored }) e ∙ ap (λ s. record { item = r.item; stored = s }) m.2
    in subst (Has rows) same k.0

pub rows_same : BytesTellIdentifiers → (a b : List Attachment) → IsGraph a → IsGraph b → ((x : Item) → stored_on x a ≡ stored_on x b) → a ≡
    b
rows_same tells a b p q f =
    rising_same attachment_order attachments_total a b p.rising q.rising
    (λ r h. on_has tells r b (all_has (λ (k : Attachment). IsCanonItem k.item) a p.items r h) q
    (subst (λ l. Has l r.stored) (f r.item) (has_on r a h)))
    (λ r h. on_has tells r a (all_has (λ (k : Attachment). IsCanonItem k.item) b q.items r h) p
    (subst (λ l. Has l r.stored) (sym (f r.item)) (has_on r b h)))
