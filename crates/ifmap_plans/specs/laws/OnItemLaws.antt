-- What is stored on an item.
use Rattle.std.proofs.Common.{List, [], ◌∷◌, ◌≡◌, sym, subst, refl, Option, Some, None, ap, ◌∙◌, Bool, true, false, cond, map}
use Rattle.std.specs.List.{AllByRecursion, filter}
use Rattle.std.specs.Ordering.{is_gt, is_lt, is_eq}
use Rattle.ifmap_lemmas.specs.Filters.{all_around, all_filter, found_all}
use Rattle.ifmap_meta.specs.declared.stored.Stored.{Stored}
use Rattle.ifmap_meta.specs.Whole.{IsWhole}
use Rattle.ifmap_plans.specs.Lists.{list_without, put_each}
use Rattle.ifmap_plans.specs.Placing.{put}
use Rattle.ifmap_view.specs.Attachments.{stored_order}
use Rattle.ifmap_lemmas.specs.Members.{map_of_all}
use Rattle.ifmap_ident.specs.declared.items.Item.{Item}
use Rattle.ifmap_ident.specs.Items.{same_item, item_order}
use Rattle.ifmap_plans.specs.Plans.{AreWhole, Fits, FitsItem, IsAfter, change_of, list_after}
use Rattle.ifmap_view.specs.declared.attachments.Attachment.{Attachment}
use Rattle.ifmap_view.specs.Rows.{stored_on}
use Rattle.ifmap_lemmas.specs.Having.{has_filter, has_map, all_has, has_all}
use Rattle.ifmap_ident.specs.SameLaws.{item_itself, items_total, ties}
use Rattle.ifmap_plans.specs.declared.plans.ItemChange.{ItemChange}
use Rattle.std.specs.declared.cmp.Ordering.TheVariants.{Equal}

pub all_put : (added list : List Stored) → AllByRecursion IsWhole added → AllByRecursion IsWhole list
    → AllByRecursion IsWhole (put_each added list)
all_put [] list h k = k
all_put (a ∷ added) list h k =
    all_put added (put stored_order a list) h.1
    (all_around IsWhole (filter (λ y. is_lt (stored_order y a)) list) a (filter (λ y. is_gt (stored_order y a)) list)
    (all_filter IsWhole (λ y. is_lt (stored_order y a)) list k) h.0 (all_filter IsWhole (λ y. is_gt (stored_order y a)) list k))

pub whole_on : (rows : List Attachment) → AreWhole rows → (x : Item) → AllByRecursion IsWhole (stored_on x rows)
whole_on rows w x = map_of_all IsWhole (λ (r : Attachment). r.stored) (filter (λ (r : Attachment). same_item r.item x) rows)
    (all_filter (λ (r : Attachment). IsWhole r.stored) (λ (r : Attachment). same_item r.item x) rows w)

pub on_whole : (rows : List Attachment) → ((x : Item) → AllByRecursion IsWhole (stored_on x rows)) → AreWhole rows
on_whole rows f = has_all (λ (r : Attachment). IsWhole r.stored) rows (λ r there.
    all_has IsWhole (stored_on r.item rows) (f r.item) r.stored
    (has_map (λ (q : Attachment). q.stored) (filter (λ (q : Attachment). same_item q.item r.item) rows) r
    (has_filter (λ (q : Attachment). same_item q.item r.item) rows r there (item_itself r.item))))

pub whole_after : (before after : List Attachment) (changes : List ItemChange) → Fits before changes → IsAfter changes before after
    → AreWhole before → AreWhole after
whole_after before after changes fits is w =
    on_whole after (λ x. subst (AllByRecursion IsWhole) (sym (is x)) (on x (change_of changes x) refl))
  where
    on : (x : Item) (o : Option ItemChange) → change_of changes x ≡ o → AllByRecursion IsWhole (list_after o (stored_on x before))
    on x None e = whole_on before w x
    on x (Some c) e =
        let f : FitsItem before c = found_all (FitsItem before) (λ (d : ItemChange). same_item d.item x) changes fits.each c e
        in all_put c.added (list_without c.removed (stored_on x before)) f.whole
        (all_filter IsWhole _ (stored_on x before) (whole_on before w x))

-- the tests of two items that tie
pub tied_alike : (i x y : Item) → item_order i x ≡ Equal → same_item y i ≡ same_item y x
tied_alike i x y e = sym (ties i y) ∙ ap is_eq (items_total.congr i x y e) ∙ ties x y

-- what is stored on what ties is the same
pub stored_tied : (i x : Item) (rows : List Attachment) → item_order i x ≡ Equal → stored_on i rows ≡ stored_on x rows
stored_tied i x [] e = refl
stored_tied i x (r ∷ rs) e =
    ap (λ b. map (λ (a : Attachment). a.stored) (cond b (r ∷ filter (λ a. same_item a.item i) rs) (filter (λ a. same_item a.item i) rs)))
    (tied_alike i x r.item e)
    ∙ by (same_item r.item x) (stored_tied i x rs e)
  where
    by : (b : Bool) → stored_on i rs ≡ stored_on x rs
        → map (λ (a : Attachment). a.stored) (cond b (r ∷ filter (λ a. same_item a.item i) rs) (filter (λ a. same_item a.item i) rs))
        ≡ map (λ (a : Attachment). a.stored) (cond b (r ∷ filter (λ a. same_item a.item x) rs) (filter (λ a. same_item a.item x) rs))
    by true rest = ap (λ l. r.stored ∷ l) rest
    by false rest = rest
