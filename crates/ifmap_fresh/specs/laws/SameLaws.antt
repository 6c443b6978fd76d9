-- The item that is the pair of two identifiers.
use Rattle.std.proofs.Common.{◌≡◌, ◌⊎◌, inl, inr, Some, None, List, [], ◌∷◌, refl, ap, ◌∙◌, sym, subst}
use Rattle.std.specs.List.{AllByRecursion}
use Rattle.std.specs.Ordering.{ordering_reverse}
use Rattle.std.specs.declared.cmp.Ordering.{Ordering}
use Rattle.std.specs.declared.cmp.Ordering.TheVariants.{Less, Equal, Greater}
use Rattle.std.proofs.lemmas.Option.{same_Some, none-some}
use Rattle.ifmap_lemmas.specs.Having.{Has}
use Rattle.ifmap_lemmas.specs.Texts.{slice_cmp-same}
use Rattle.ifmap_ident.specs.Canon.{IsIdentifier}
use Rattle.ifmap_view.specs.declared.attachments.Attachment.{Attachment}
use Rattle.ifmap_ident.specs.Items.{IsCanonItem}
use Rattle.ifmap_ident.specs.declared.identifiers.Identifier.{Identifier}
use Rattle.ifmap_ident.specs.declared.items.Item.{Item}
use Rattle.ifmap_ident.specs.declared.items.Item.TheVariants.{Pair}
use Rattle.ifmap_ident.specs.Identifiers.{identifier_bytes, identifier_order}
use Rattle.ifmap_ident.specs.Items.{IsItem, identifiers_of, ordered_pair, pair_of, same_item}
use Rattle.ifmap_ident.specs.SameLaws.{turned_order}

-- the pair of two identifiers is that of them the other way round, and of one there is none
pub pair_turned : (a b : Identifier) → pair_of a b ≡ pair_of b a
pair_turned a b = by (identifier_order b a) refl
  where
    by : (o : Ordering) → identifier_order b a ≡ o → ordered_pair (identifier_order a b) a b ≡ ordered_pair (identifier_order b a) b a
    by Less is = ap (λ o. ordered_pair o a b) (turned_order a b ∙ ap ordering_reverse is) ∙ sym (ap (λ o. ordered_pair o b a) is)
    by Equal is = ap (λ o. ordered_pair o a b) (turned_order a b ∙ ap ordering_reverse is) ∙ sym (ap (λ o. ordered_pair o b a) is)
    by Greater is = ap (λ o. ordered_pair o a b) (turned_order a b ∙ ap ordering_reverse is) ∙ sym (ap (λ o. ordered_pair o b a) is)

pub pair_of_one : (a : Identifier) → pair_of a a ≡ None
pair_of_one a = ap (λ o. ordered_pair o a a) (slice_cmp-same (identifier_bytes a) (identifier_bytes a) refl)

-- an item of two is the pair of them
pub pair_is : (a b : Identifier) → IsItem (Pair a b) → pair_of a b ≡ Some (Pair a b)
pair_is a b i = ap (λ o. ordered_pair o a b) i

-- the pair of two identifiers is one of them and the other
pub pair_parts : (a b : Identifier) (item : Item) → pair_of a b ≡ Some item → (item ≡ Pair a b) ⊎ (item ≡ Pair b a)
pair_parts a b item e = by (identifier_order a b) refl
  where
    by : (o : Ordering) → identifier_order a b ≡ o → (item ≡ Pair a b) ⊎ (item ≡ Pair b a)
    by Less is = inl (same_Some item (Pair a b) (sym e ∙ ap (λ o. ordered_pair o a b) is))
    by Equal is = absurd (none-some item (sym (ap (λ o. ordered_pair o a b) is) ∙ e))
    by Greater is = inr (same_Some item (Pair b a) (sym e ∙ ap (λ o. ordered_pair o a b) is))

-- the pair of two identifiers is an item
pub pair_canon : (a b : Identifier) (item : Item) → IsIdentifier a → IsIdentifier b → pair_of a b ≡ Some item → IsCanonItem item
pair_canon a b item p q e = by (identifier_order a b) refl
  where
    by : (o : Ordering) → identifier_order a b ≡ o → IsCanonItem item
    by Less is = subst IsCanonItem (same_Some (Pair a b) item (sym (ap (λ o. ordered_pair o a b) is) ∙ e))
        (record { ordered = is; identifiers = (p, (q, tt)) })
    by Equal is = absurd (none-some item (sym (ap (λ o. ordered_pair o a b) is) ∙ e))
    by Greater is = subst IsCanonItem (same_Some (Pair b a) item (sym (ap (λ o. ordered_pair o a b) is) ∙ e))
        (record { ordered = turned_order b a ∙ ap ordering_reverse is; identifiers = (q, (p, tt)) })

-- what holds of all attachments holds of each
pub member : (P : Attachment → Type 0) (rs : List Attachment) → AllByRecursion P rs → (r : Attachment) → Has rs r → P r
member P [] a r h = absurd h
member P (x ∷ xs) a r (inl e) = subst P e a.0
member P (x ∷ xs) a r (inr h) = member P xs a.1 r h
