-- Subscriptions and items of one name, beside those of another.
use Rattle.std.proofs.Common.{◌≡◌, ◌≢◌, sym, ◌∙◌, ap, ℕ, ◌+◌, ◌==◌, true, false, not, cond, List, length, None, Some}
use Rattle.std.proofs.lemmas.Bool.{and_from, and_parts, both_ways, eq-eqb, false_from_ne_true}
use Rattle.std.proofs.lemmas.Map.Lookups.{exact_unsigned}
use Rattle.std.proofs.lemmas.Map.Text.{is_eq-slice_cmp}
use Rattle.std.specs.BTreeMap.{is_at}
use Rattle.std.specs.Cmp.Lexicographic.{slice_cmp}
use Rattle.std.specs.List.{filter, list_any}
use Rattle.std.specs.List.Sorted.{IsStrictlySortedBy}
use Rattle.std.specs.Ordering.{nat_cmp}
use Rattle.std.specs.declared.cmp.Ordering.TheVariants.{Equal}
use Rattle.ifmap_lemmas.specs.AnyOf.{any_within}
use Rattle.ifmap_lemmas.specs.Filters.{all_weaker, filter_passes}
use Rattle.ifmap_lemmas.specs.Numbers.{equal_numbers}
use Rattle.ifmap_lemmas.specs.Orderings.{both_equal}
use Rattle.ifmap_lemmas.specs.Parted.{length_without}
use Rattle.ifmap_lemmas.specs.Texts.{eq_tells, same_texts}
use Rattle.ifmap_changes.specs.ifmap_machine.State.{Standing, standing_in, standing_order}
use Rattle.ifmap_changes.specs.ifmap_machine.Subscribing.{is_of_name}
use Rattle.ifmap_changes.specs.ifmap_plans.Placing.{put}
use Rattle.ifmap_search.specs.declared.results.PollItem.{PollItem}
use Rattle.ifmap_search.specs.declared.results.PollItem.TheVariants as the_item
use Rattle.ifmap_changes.specs.ifmap_session.Sessions.{is_named, is_same_text}
use Rattle.ifmap_changes.specs.ifmap_session.laws.TextLaws.{text_is, text_same}
use Rattle.ifmap_subscribes.proofs.Parting.{any_put, any_put_other, length_put}
use Rattle.ifmap_changes.specs.ifmap_machine.OrderLaws.{order_same}

-- a subscription of a session's name has that serial and that name, and no other has both
pub of_name : (serial : ℕ) (name : List ℕ) (x : Standing) → is_of_name serial name x ≡ true → (x.serial ≡ serial) × (x.name ≡ name)
of_name serial name x h =
    let both = and_parts (x.serial == serial) (is_same_text x.name name) h in
    (equal_numbers x.serial serial both.0, text_is x.name name both.1)

pub is_of : (serial : ℕ) (name : List ℕ) (x : Standing) → x.serial ≡ serial → x.name ≡ name → is_of_name serial name x ≡ true
is_of serial name x s n = and_from (x.serial == serial) (is_same_text x.name name) (eq-eqb x.serial serial s) (text_same x.name name n)

not_of_other : (serial : ℕ) (name other : List ℕ) (x : Standing) → other ≢ name → is_of_name serial other x ≡ true
    → not (is_of_name serial name x) ≡ true
not_of_other serial name other x apart h =
    ap not (false_from_ne_true (is_of_name serial name x) (λ k. apart (sym (of_name serial other x h).1 ∙ (of_name serial name x k).1)))

pub same_order : (x y : Standing) → standing_order x y ≡ Equal → (x.serial ≡ y.serial) × (x.name ≡ y.name)
same_order x y e =
    let both = both_equal (nat_cmp x.serial y.serial) (slice_cmp nat_cmp x.name y.name) e in
    (exact_unsigned x.serial y.serial both.0, same_texts x.name y.name both.1)

module _ (serial : ℕ) (name : List ℕ) where
  abbrev others_of : List Standing → List Standing
  others_of xs = filter (λ x. not (is_of_name serial name x)) xs

  -- the subscription of a name goes: those of other names stay, and the session has one less where there was one
  pub others_stand : (other : List ℕ) (xs : List Standing) → other ≢ name
      → list_any (is_of_name serial other) (others_of xs) ≡ list_any (is_of_name serial other) xs
  others_stand other xs apart =
      any_within (is_of_name serial other) (λ x. not (is_of_name serial name x)) (λ x h. not_of_other serial name other x apart h) xs

  pub one_fewer : (xs : List Standing) → IsStrictlySortedBy standing_order xs
      → length (standing_in serial (others_of xs)) + cond (list_any (is_of_name serial name) xs) 1 0 ≡ length (standing_in serial xs)
  one_fewer xs up =
      length_without (is_of_name serial name) (λ x. x.serial == serial)
      (λ x h. (and_parts (x.serial == serial) (is_same_text x.name name) h).0) standing_order
      (λ x y h k. order_same x y ((of_name serial name x h).0 ∙ sym (of_name serial name y k).0)
      ((of_name serial name x h).1 ∙ sym (of_name serial name y k).1)) xs up

  -- and a subscription of it comes
  module _ (x : Standing) (s : x.serial ≡ serial) (n : x.name ≡ name) where
    pub put_stands : (xs : List Standing) → list_any (is_of_name serial name) (put standing_order x xs) ≡ true
    put_stands xs = any_put standing_order x (is_of_name serial name) xs (is_of serial name x s n)

    pub others_beside : (other : List ℕ) (xs : List Standing) → other ≢ name
        → list_any (is_of_name serial other) (put standing_order x xs) ≡ list_any (is_of_name serial other) xs
    others_beside other xs apart =
        any_put_other standing_order x (is_of_name serial other) xs
        (false_from_ne_true (is_of_name serial other x) (λ h. apart (sym (of_name serial other x h).1 ∙ n)))
        (λ y h e. apart (sym (of_name serial other y h).1 ∙ (same_order y x e).1 ∙ n))

    pub one_more : (xs : List Standing)
        → length (standing_in serial (put standing_order x (others_of xs))) ≡ length (standing_in serial (others_of xs)) + 1
    one_more xs =
        length_put standing_order x (λ y. y.serial == serial) (others_of xs)
        (all_weaker (λ y. not (is_of_name serial name y) ≡ true) (λ y. standing_order y x ≢ Equal)
        (λ y h e. both_ways (not (is_of_name serial name y)) (ap not (is_of serial name y
        ((same_order y x e).0 ∙ s) ((same_order y x e).1 ∙ n))) h)
        (others_of xs) (filter_passes (λ y. not (is_of_name serial name y)) xs))
        ∙ ap (λ b. length (standing_in serial (others_of xs)) + cond b 1 0) (eq-eqb x.serial serial s)

-- an item tells of one name at most
pub named_once : (a b : List ℕ) (item : PollItem) → is_named a item ≡ true → is_named b item ≡ true → a ≡ b
named_once a b (the_item.Search own entries) h k = sym (text_is own a h) ∙ text_is own b k
named_once a b (the_item.Update own entries) h k = sym (text_is own a h) ∙ text_is own b k
named_once a b (the_item.Delete own entries) h k = sym (text_is own a h) ∙ text_is own b k
named_once a b (the_item.Notify own entries) h k = sym (text_is own a h) ∙ text_is own b k
named_once a b (the_item.Error None code note) h k = cc
named_once a b (the_item.Error (Some own) code note) h k = sym (text_is own a h) ∙ text_is own b k

pub not_named_other : (name other : List ℕ) (item : PollItem) → other ≢ name → is_named other item ≡ true → not (is_named name item) ≡ true
not_named_other name other item apart h = ap not (false_from_ne_true (is_named name item) (λ k. apart (named_once other name item h k)))

-- another text is at another place of a map
pub apart_at : (name other : List ℕ) → other ≢ name → is_at (slice_cmp nat_cmp name) other ≡ false
apart_at name other apart = false_from_ne_true (is_at (slice_cmp nat_cmp name) other)
    (λ e. apart (sym (eq_tells name other (sym (is_eq-slice_cmp name other) ∙ e))))
