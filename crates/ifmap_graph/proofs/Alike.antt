-- Identifiers and items of the same canonical bytes: whatever looks at bytes alone answers the same.
use Rattle.std.proofs.Common.{◌≡◌, ◌&&◌, true, false, Some, List, [], ◌∷◌, refl, ap, ◌∙◌, sym, inl, inr}
use Rattle.std.proofs.lemmas.Bool.{and_parts, cases_Bool}
use Rattle.std.specs.Cmp.Lexicographic.{nat_list_cmp_total}
use Rattle.std.specs.Ordering.{is_eq, ordering_reverse}
use Rattle.std.specs.Str.{bytes_eq}
use Rattle.std.specs.declared.cmp.Ordering.TheVariants.{Less, Equal}
use Rattle.std.specs.Cmp.{Equal-is}
use Rattle.ifmap_lemmas.specs.Texts.{eq_tells, same_texts, slice_cmp-same}
use Rattle.ifmap_ident.specs.declared.identifiers.Identifier.{Identifier}
use Rattle.ifmap_ident.specs.declared.items.Item.{Item}
use Rattle.ifmap_ident.specs.declared.items.Item.TheVariants.{One, Pair}
use Rattle.ifmap_ident.specs.Identifiers.{identifier_bytes, identifier_order, same_identifier}
use Rattle.ifmap_ident.specs.Items.{item_order, ordered_pair, pair_of, same_item}
use Rattle.ifmap_view.specs.declared.attachments.Attachment.{Attachment}
use Rattle.ifmap_view.specs.Rows.{stored_on}
use Rattle.ifmap_ident.specs.SameLaws.{turned_order, ties, item_itself}

abbrev pub Alike : Identifier → Identifier → Type 0
Alike a b = identifier_bytes a ≡ identifier_bytes b

pub equal_alike : (a b : Identifier) → identifier_order a b ≡ Equal → Alike a b
equal_alike a b e = same_texts (identifier_bytes a) (identifier_bytes b) e

pub alike_equal : (a b : Identifier) → Alike a b → identifier_order a b ≡ Equal
alike_equal a b e = slice_cmp-same (identifier_bytes a) (identifier_bytes b) e

pub order_alike : (a b k m : Identifier) → Alike k a → Alike m b → identifier_order k m ≡ identifier_order a b
order_alike a b k m p q =
    nat_list_cmp_total.congr (identifier_bytes k) (identifier_bytes a) (identifier_bytes m) (alike_equal k a p)
    ∙ turned_order a m ∙ ap ordering_reverse (nat_list_cmp_total.congr (identifier_bytes m) (identifier_bytes b) (identifier_bytes a)
    (alike_equal m b q))
    ∙ sym (turned_order a b)

same_to_right : (x k a : Identifier) → Alike k a → same_identifier x k ≡ same_identifier x a
same_to_right x k a e = ap (λ l. bytes_eq (identifier_bytes x) l) e

-- the same pair is stored on
pub same_pair : (a b k m : Identifier) → Alike k a → Alike m b → (x : Item) → same_item x (Pair k m) ≡ same_item x (Pair a b)
same_pair a b k m p q (One x) = ap (λ c. c && false) (same_to_right x k a p)
same_pair a b k m p q (Pair x y) =
    ap (λ c. c && (same_identifier y m && true)) (same_to_right x k a p) ∙ ap (λ c. same_identifier x a && (c && true))
    (same_to_right y m b q)

pub same_one : (a k : Identifier) → Alike k a → (x : Item) → same_item x (One k) ≡ same_item x (One a)
same_one a k p (One x) = ap (λ c. c && true) (same_to_right x k a p)
same_one a k p (Pair x y) = ap (λ c. c && false) (same_to_right x k a p)

pub stored_alike : (x y : Item) → ((z : Item) → same_item z x ≡ same_item z y) → (rows : List Attachment) → stored_on x rows ≡ stored_on y
    rows
stored_alike x y t [] = refl
stored_alike x y t (r ∷ rs) = elim (cases_Bool (same_item r.item x)) [
  | inl e ↦ let f : same_item r.item y ≡ true = sym (t r.item) ∙ e in rw (e, f) (ap (λ l. r.stored ∷ l) (stored_alike x y t rs))
  | inr e ↦ let f : same_item r.item y ≡ false = sym (t r.item) ∙ e in rw (e, f) (stored_alike x y t rs)
]

-- the pair of two identifiers whose like come in order, and the other way round
pub pair_less : (a b k m : Identifier) → Alike k a → Alike m b → identifier_order a b ≡ Less → pair_of k m ≡ Some (Pair k m)
pair_less a b k m p q l = ap (λ o. ordered_pair o k m) (order_alike a b k m p q ∙ l)

pub pair_more : (a b k m : Identifier) → Alike k a → Alike m b → identifier_order a b ≡ Less → pair_of m k ≡ Some (Pair k m)
pair_more a b k m p q l = ap (λ o. ordered_pair o m k) (turned_order m k ∙ ap ordering_reverse (order_alike a b k m p q ∙ l))

-- an item that ties with a pair is a pair of alike
pub pair_tied : (k m : Identifier) (x : Item) → item_order (Pair k m) x ≡ Equal
    → (a : Identifier) × (b : Identifier) × (x ≡ Pair a b) × Alike a k × Alike b m
pair_tied k m (One a) e =
    let t : same_item (One a) (Pair k m) ≡ true = sym (ties (Pair k m) (One a)) ∙ ap is_eq e
    in let r : false ≡ true = (and_parts (same_identifier a k) false t).1 in cc
pair_tied k m (Pair a b) e =
    let t : same_item (Pair a b) (Pair k m) ≡ true = sym (ties (Pair k m) (Pair a b)) ∙ ap is_eq e
    in let f = and_parts (same_identifier a k) (same_identifier b m && true) t
    in let g = and_parts (same_identifier b m) true f.1
    in (a, b, refl, eq_tells (identifier_bytes a) (identifier_bytes k) f.0, eq_tells (identifier_bytes b) (identifier_bytes m) g.0)

pub one_tied : (k : Identifier) (x : Item) → item_order (One k) x ≡ Equal → (a : Identifier) × (x ≡ One a) × Alike a k
one_tied k (One a) e =
    let t : same_item (One a) (One k) ≡ true = sym (ties (One k) (One a)) ∙ ap is_eq e
    in (a, refl, eq_tells (identifier_bytes a) (identifier_bytes k) (and_parts (same_identifier a k) true t).0)
one_tied k (Pair a b) e =
    let t : same_item (Pair a b) (One k) ≡ true = sym (ties (One k) (Pair a b)) ∙ ap is_eq e
    in let r : false ≡ true = (and_parts (same_identifier a k) false t).1 in cc

pub pairs_tie : (a b k m : Identifier) → Alike a k → Alike b m → item_order (Pair a b) (Pair k m) ≡ Equal
pairs_tie a b k m p q =
    (Equal-is (item_order (Pair a b) (Pair k m))).0 (ties (Pair a b) (Pair k m) ∙ same_pair k m a b p q (Pair k m) ∙ item_itself (Pair k m))
