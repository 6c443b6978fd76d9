-- Which list an edit makes: where it begins, as more is taken and put, and what it tells at the end.
-- Plan: (1) what makes an edit make a list (`makes_by`), and that it is the one that it means (`makes_it`); (2) where nothing is
-- taken or put, all stays; (3) as more is taken and put; (4) keys: whole elements of the same bytes are of one key
-- (`tied_key`), told by their words; (5) one more is attached, or what is stored under a key is taken.
use Rattle.std.proofs.Common.{◌≡◌, ◌∙◌, refl, sym, ap, subst, ℕ, Bool, true, false, not, ◌||◌, List, [], ◌∷◌}
use Rattle.std.proofs.lemmas.List.Kept.{IsStrictlySortedBy-filter}
use Rattle.std.proofs.lemmas.Map.Text.{is_eq-slice_cmp}
use Rattle.std.specs.List.{AllByRecursion, filter}
use Rattle.std.specs.List.Sorted.{IsStrictlySortedBy}
use Rattle.std.specs.Ordering.{eq_by_cmp, is_eq}
use Rattle.std.specs.declared.cmp.Ordering.{Ordering}
use Rattle.ifmap_elem.specs.declared.elements.Attribute.{Attribute}
use Rattle.ifmap_elem.specs.declared.elements.Element.{Element}
use Rattle.ifmap_lemmas.specs.Filtered.{filter_agrees, filter_neither, filter_turned}
use Rattle.ifmap_lemmas.specs.Filters.{filter_none}
use Rattle.ifmap_lemmas.specs.Having.{Has}
use Rattle.ifmap_lemmas.specs.Texts.{eq_tells}
use Rattle.ifmap_meta.specs.declared.stored.Stored.{Stored}
use Rattle.ifmap_meta.specs.Keys.{HaveOneKey, same_key}
use Rattle.ifmap_meta.specs.Stamps.{is_stamp, stamps_of}
use Rattle.ifmap_meta.specs.Whole.{IsWhole}
use Rattle.ifmap_meta.specs.laws.KeyLaws.{keys_told}
use Rattle.ifmap_rows.specs.ifmap_plans.Lists.{is_among, list_without, next_on, put_each, stored_difference}
use Rattle.ifmap_rows.specs.ifmap_plans.Placing.{put}
use Rattle.ifmap_rows.specs.ifmap_plans.laws.KeyLaws.{stored_equiv}
use Rattle.ifmap_view.specs.Attachments.{stored_bytes, stored_order}
use Rattle.ifmap_publish.specs.Working.{EditMakes, IsEdit, IsSound, list_by}
use Rattle.ifmap_publish.specs.declared.edits.Edit.{Edit}
use Rattle.ifmap_publish.proofs.Attaching.{sound_filter}
use Rattle.ifmap_publish.proofs.Rising.{among_filter, difference_stays, parts_join, put_back, put_filtered, put_unfiltered}
use Rattle.ifmap_publish.proofs.Same.{elements_one}

-- ---- what makes an edit make a list

pub makes_by : (t q : Stored → Bool) (stored list : List Stored) (e : Edit) → IsStrictlySortedBy stored_order stored → IsSound list
    → e.taken ≡ filter t stored → e.put ≡ filter q list
    → filter (λ s. not (t s)) stored ≡ filter (λ s. not (q s)) list → EditMakes stored e list
makes_by t q stored list e up s taken came stays =
    let t_alike : (r : Stored) → Has stored r → is_among e.taken r ≡ t r =
    λ r h. ap (λ l. is_among l r) taken ∙ among_filter t stored up r h in
    let q_alike : (r : Stored) → Has list r → is_among e.put r ≡ q r =
    λ r h. ap (λ l. is_among l r) came ∙ among_filter q list s.keyed.rising r h in
    record {
      taken = taken ∙ sym (filter_agrees (is_among e.taken) t stored t_alike);
      put = came ∙ sym (filter_agrees (is_among e.put) q list q_alike);
      stays = filter_agrees (λ r. not (is_among e.taken r)) (λ r. not (t r)) stored (λ r h. ap not (t_alike r h))
          ∙ stays
          ∙ sym (filter_agrees (λ r. not (is_among e.put r)) (λ r. not (q r)) list (λ r h. ap not (q_alike r h)));
      sound = s;
    }

-- the list that it makes is the one that it means
pub makes_it : (stored list : List Stored) (e : Edit) → EditMakes stored e list → list_by e stored ≡ list
makes_it stored list e m =
    ap (put_each e.put) m.stays
    ∙ ap (λ l. put_each l (list_without e.put list)) m.put
    ∙ put_back (is_among e.put) list m.sound.keyed.rising

pub is_edit : (stored list : List Stored) (e : Edit) → EditMakes stored e list → IsEdit stored e
is_edit stored list e m = subst (EditMakes stored e) (sym (makes_it stored list e m)) m

none_among : (xs : List Stored) → AllByRecursion (λ s. is_among [] s ≡ false) xs
none_among [] = tt
none_among (x ∷ xs) = (refl, none_among xs)

-- where nothing is taken or put, all stays
pub nothing_moved : (stored : List Stored) → next_on [] [] stored ≡ stored
nothing_moved [] = refl
nothing_moved (x ∷ xs) = ap (λ l. x ∷ l) (nothing_moved xs)

pub nothing_made : (stored : List Stored) → IsSound stored → EditMakes stored (record { taken = []; put = [] }) stored
nothing_made stored s = record {
  taken = sym (filter_none (is_among []) stored (none_among stored));
  put = sym (filter_none (is_among []) stored (none_among stored));
  stays = refl;
  sound = s;
}

-- what an edit takes and puts stands in order
pub taken_rises : (stored list : List Stored) (e : Edit) → IsStrictlySortedBy stored_order stored → EditMakes stored e list
    → IsStrictlySortedBy stored_order e.taken
taken_rises stored list e up m =
    subst (IsStrictlySortedBy stored_order) (sym m.taken) (IsStrictlySortedBy-filter stored_order (is_among e.taken) stored up)

pub put_sound : (stored list : List Stored) (e : Edit) → EditMakes stored e list → IsSound e.put
put_sound stored list e m = subst IsSound (sym m.put) (sound_filter (is_among e.put) list m.sound)

-- ---- as more is taken and put

module _ (stored list : List Stored) (e e2 : Edit) (up : IsStrictlySortedBy stored_order stored) (m : EditMakes stored e list) where
  -- what passes a test is taken wherever it stands
  pub makes_less : (k : Stored → Bool) → e2.taken ≡ filter (λ s. is_among e.taken s || k s) stored
      → e2.put ≡ filter (λ s. not (k s)) e.put → EditMakes stored e2 (filter (λ s. not (k s)) list)
  makes_less k taken left =
      let t = is_among e.taken in
      let q = is_among e.put in
      let n : Stored → Bool = λ s. not (k s) in
      makes_by (λ s. t s || k s) q stored (filter n list) e2 up (sound_filter n list m.sound) taken
      (left ∙ ap (filter n) m.put ∙ filter_turned n q list)
      (filter_neither t k stored ∙ ap (filter n) m.stays ∙ filter_turned n (λ s. not (q s)) list)

  -- one is put whose key none has
  pub makes_more : (row : Stored) → IsWhole row → AllByRecursion (λ s. same_key row s ≡ false) list
      → AllByRecursion (λ s. is_eq (stored_order s row) ≡ false) list
      → e2.taken ≡ e.taken → e2.put ≡ put stored_order row e.put → IsSound (put stored_order row list)
      → EditMakes stored e2 (put stored_order row list)
  makes_more row w differ apart taken came s =
      let t = is_among e.taken in
      let q = is_among e.put in
      makes_by t (λ r. q r || eq_by_cmp stored_order row r) stored (put stored_order row list) e2 up s
      (taken ∙ m.taken)
      (came ∙ ap (put stored_order row) m.put ∙ sym (put_filtered q row list))
      (m.stays ∙ ap (filter (λ r. not (q r))) (sym (parts_join row list m.sound.keyed.rising apart)) ∙ sym (put_unfiltered q row list))

-- ---- keys

abbrev first_value : List Attribute → List ℕ
first_value [] = []
first_value (a ∷ more) = a.value

is_equal_bytes : (a b : Stored) (o : Ordering) → stored_order a b ≡ o → is_eq o ≡ true → stored_bytes a ≡ stored_bytes b
is_equal_bytes a b o e t =
    eq_tells (stored_bytes a) (stored_bytes b) (sym (is_eq-slice_cmp (stored_bytes a) (stored_bytes b)) ∙ ap is_eq e ∙ t)

-- whole ones of the same canonical bytes are of one key, since their stamps tell their publisher
pub tied_key : (a b : Stored) → IsWhole a → IsWhole b → is_eq (stored_order a b) ≡ true → same_key a b ≡ true
tied_key a b v w t =
    let one : a.element ≡ b.element = elements_one a b v w (is_equal_bytes a b (stored_order a b) refl t) in
    let stamps : stamps_of a.publisher v.stamped.0 ≡ stamps_of b.publisher w.stamped.0 =
    sym v.stamped.1 ∙ ap (λ (x : Element). filter is_stamp x.attributes) one ∙ w.stamped.1 in
    let publisher : a.publisher ≡ b.publisher = ap first_value stamps in
    sym (λ i. same_key a (record { element = one i; publisher = publisher i; life = b.life })) ∙ stored_equiv.refl a

pub apart_of_keys : (row : Stored) (list : List Stored) → IsWhole row → AllByRecursion IsWhole list
    → AllByRecursion (λ s. same_key row s ≡ false) list → AllByRecursion (λ s. is_eq (stored_order s row) ≡ false) list
apart_of_keys row [] w all differ = tt
apart_of_keys row (x ∷ xs) w all differ = (by (is_eq (stored_order x row)) refl, apart_of_keys row xs w all.1 differ.1)
  where
    by : (b : Bool) → is_eq (stored_order x row) ≡ b → is_eq (stored_order x row) ≡ false
    by true e =
        let bad : true ≡ false = sym (tied_key x row all.0 w e) ∙ stored_equiv.symm x row ∙ differ.0 in cc
    by false e = e

pub key_told : (row s : Stored) → IsWhole row → IsWhole s → HaveOneKey row s → same_key row s ≡ true
key_told row s v w h = (keys_told row s v w).1 h

pub key_not_told : (row s : Stored) → IsWhole row → IsWhole s → (HaveOneKey row s → ⊥) → same_key row s ≡ false
key_not_told row s v w h = by (same_key row s) refl
  where
    by : (b : Bool) → same_key row s ≡ b → same_key row s ≡ false
    by true e = absurd (h ((keys_told row s v w).0 e))
    by false e = e

-- what is taken out of a list by name is what passed
pub passed_out : (k : Stored → Bool) (rows : List Stored) → IsStrictlySortedBy stored_order rows
    → next_on (filter k rows) [] rows ≡ filter (λ s. not (k s)) rows
passed_out k rows up =
    filter_agrees (λ s. not (is_among (filter k rows) s)) (λ s. not (k s)) rows (λ s h. ap not (among_filter k rows up s h))

-- ---- what is told at the end

pub removed_is : (stored list : List Stored) (e : Edit) → IsStrictlySortedBy stored_order stored → EditMakes stored e list
    → stored_difference e.taken e.put ≡ stored_difference stored list
removed_is stored list e up m = difference_stays stored list e.taken e.put up m.taken m.put m.stays

pub added_is : (stored list : List Stored) (e : Edit) → EditMakes stored e list
    → stored_difference e.put e.taken ≡ stored_difference list stored
added_is stored list e m = difference_stays list stored e.put e.taken m.sound.keyed.rising m.put m.taken (sym m.stays)
