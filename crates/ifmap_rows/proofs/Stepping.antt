-- Rows that go or come one after the other.
use Rattle.std.proofs.Common.{◌≡◌, ◌∙◌, sym, ap, subst, ℕ, ◌+◌, ◌<◌, ◌≤◌, refl, List, [], ◌∷◌, length, get_or, drop}
use Rattle.std.proofs.Math.ListN.{drop_of_length-le}
use Rattle.std.proofs.lemmas.List.{drop_more}
use Rattle.std.specs.List.Sorted.{IsStrictlySortedBy}
use Rattle.ifmap_meta.specs.declared.stored.Stored.{Stored}
use Rattle.ifmap_plans.specs.Lists.{list_without, put_each}
use Rattle.ifmap_plans.specs.Placing.{put}
use Rattle.ifmap_plans.specs.laws.KeyLaws.{stored_total}
use Rattle.ifmap_plans.specs.ifmap_view.Attachments.{stored_order}
use Rattle.ifmap_rows.specs.Indexed.{without_one}
use Rattle.ifmap_rows.specs.laws.RisingLaws.{without_next}

module _ (rows : List Stored) (i : ℕ) (x : Stored) (list all : List Stored) (low : i < length rows) (at : x ≡ get_or rows i x) where
  front : drop i rows ≡ x ∷ drop (i + 1) rows
  front = subst (λ y. drop i rows ≡ y ∷ drop (i + 1) rows) (sym at) (drop_more rows i x low)

  pub take_next : list_without (drop i rows) list ≡ all → list_without (drop (i + 1) rows) (without_one stored_order x list) ≡ all
  take_next so =
      sym (without_next Stored stored_order stored_total x (drop (i + 1) rows) list) ∙ sym (ap (λ l. list_without l list) front) ∙ so

  pub put_next : put_each (drop i rows) list ≡ all → put_each (drop (i + 1) rows) (put stored_order x list) ≡ all
  put_next so = sym (ap (λ l. put_each l list) front) ∙ so

pub nothing_out : (list : List Stored) → list_without [] list ≡ list
nothing_out [] = refl
nothing_out (x ∷ xs) = ap (λ l. x ∷ l) (nothing_out xs)

pub all_taken : (rows : List Stored) (i : ℕ) (list all : List Stored) → length rows ≤ i → list_without (drop i rows) list ≡ all → list ≡ all
all_taken rows i list all le so = sym (nothing_out list) ∙ ap (λ l. list_without l list) (sym (drop_of_length-le rows le)) ∙ so

-- nothing rises
pub none_rise : IsStrictlySortedBy stored_order []
unfolding IsStrictlySortedBy
none_rise = tt
