-- Items and identifiers are the same or differ.
use Rattle.std.proofs.Common.{◌≡◌, true, refl, ◌∙◌, sym, false, ap, rules, Bool, ◌&&◌}
use Rattle.ifmap_lemmas.specs.Texts.{eq_itself, eq_tells, slice_cmp-less}
use Rattle.ifmap_ident.specs.declared.identifiers.Identifier.{Identifier}
use Rattle.ifmap_ident.specs.Identifiers.{identifier_bytes, same_identifier, identifier_order}
use Rattle.ifmap_ident.specs.declared.items.Item.{Item}
use Rattle.ifmap_ident.specs.declared.items.Item.TheVariants.{One, Pair}
use Rattle.ifmap_ident.specs.Items.{same_item, item_order, items_tie, identifiers_of}
use Rattle.std.specs.Cmp.Lexicographic.{nat_list_cmp_total}
use Rattle.std.specs.Ordering.{ordering_reverse, is_eq}
use Rattle.std.specs.Cmp.{Equal-is, IsEquivalence, IsTotalOrder}
use Rattle.std.specs.declared.cmp.Ordering.TheVariants.{Equal, Less}
use Rattle.std.specs.Cmp.Rules.{comparing}
use Rattle.std.specs.BTreeMap.{is_at}
use Rattle.std.specs.List.{AllByRecursion}
use Rattle.std.proofs.lemmas.Bool.{and_parts}
use Rattle.ifmap_lemmas.specs.Orderings.{eq_reversed}
use Rattle.ifmap_ident.specs.Canon.{IsIdentifier}

pub identifier_itself : (a : Identifier) → same_identifier a a ≡ true
identifier_itself a = eq_itself (identifier_bytes a)

pub item_itself : (x : Item) → same_item x x ≡ true
item_itself (One a) = rw (identifier_itself a) refl
item_itself (Pair a b) = rw (identifier_itself a, identifier_itself b) refl

-- the order the other way round
pub turned_order : (a b : Identifier) → identifier_order a b ≡ ordering_reverse (identifier_order b a)
turned_order a b = nat_list_cmp_total.antisymm (identifier_bytes a) (identifier_bytes b)

pub same_equal : (a b : Item) → same_item a b ≡ true → item_order a b ≡ Equal
same_equal a b e = (Equal-is (item_order a b)).0 (sym (items_tie a b) ∙ e)

pub less_item_differs : (a b : Item) → item_order a b ≡ Less → same_item a b ≡ false
less_item_differs a b e = items_tie a b ∙ ap is_eq e

pub items_total : IsTotalOrder item_order
items_total = search (comparing, rules)

pub items_equiv : IsEquivalence same_item
items_equiv = search (comparing, rules)

-- one that stands on x is told from another as x is
pub told_as : (x a b : Item) → same_item b x ≡ true → same_item a b ≡ same_item a x
told_as x a b e = items_equiv.symm a b ∙ items_equiv.congr b x a e ∙ items_equiv.symm x a

-- the test of a look-up is that of what is stored on an item
pub ties : (item other : Item) → is_at (item_order item) other ≡ same_item other item
ties item other = sym (items_tie other item ∙ ap is_eq (items_total.antisymm other item) ∙ eq_reversed (item_order item other))

-- an item below another is not the same
pub greater_item_differs : (i y : Item) → item_order i y ≡ Less → same_item y i ≡ false
greater_item_differs i y e = sym (ties i y) ∙ ap is_eq e

-- an identifier above another is not the same
pub greater_identifier_differs : (a b : Identifier) → identifier_order a b ≡ Less → same_identifier b a ≡ false
greater_identifier_differs a b less = by_test (same_identifier b a) refl
  where
    by_test : (t : Bool) → same_identifier b a ≡ t → t ≡ false
    by_test true is =
        let same : identifier_bytes b ≡ identifier_bytes a = eq_tells (identifier_bytes b) (identifier_bytes a) is in
        let wrong : true ≡ false = slice_cmp-less (identifier_bytes a) (identifier_bytes b) (sym less) (sym same) in
        wrong
    by_test false is = refl

-- identifiers of one list of canonical bytes are one
abbrev pub BytesTellIdentifiers : Type 0
BytesTellIdentifiers = (one other : Identifier) → IsIdentifier one → IsIdentifier other → identifier_bytes one ≡ identifier_bytes other →
    one ≡ other

-- the identifiers of the item are canonical
abbrev pub AreCanon : Item → Type 0
AreCanon x = AllByRecursion IsIdentifier (identifiers_of x)

-- what compares as the same is the same
module _ (tells : BytesTellIdentifiers) where
  pub same_is : (a b : Identifier) → IsIdentifier a → IsIdentifier b → same_identifier a b ≡ true → a ≡ b
  same_is a b p q e = tells a b p q (eq_tells (identifier_bytes a) (identifier_bytes b) e)

  pub same_item_is : (x y : Item) → AreCanon x → AreCanon y → same_item x y ≡ true → x ≡ y
  same_item_is (One a) (One b) p q e = ap One (same_is a b p.0 q.0 (and_parts (same_identifier a b) true e).0)
  same_item_is (One a) (Pair b c) p q e = let r : false ≡ true = (and_parts (same_identifier a b) false e).1 in cc
  same_item_is (Pair a b) (One c) p q e = let r : false ≡ true = (and_parts (same_identifier a c) false e).1 in cc
  same_item_is (Pair a b) (Pair c d) p q e =
      let f = and_parts (same_identifier a c) (same_identifier b d && true) e
      in let g = and_parts (same_identifier b d) true f.1
      in ap (λ x. Pair x b) (same_is a c p.0 q.0 f.0) ∙ ap (λ x. Pair c x) (same_is b d p.1.0 q.1.0 g.0)
