-- Weights, flips and notes, one more at a time.
use Rattle.std.proofs.Common.{◌≡◌, ℕ, Bool, true, ◌+◌, ◌<◌, Option, Some, None, IfSome, List, [], ◌∷◌, ◌++◌, map, length, take, get_or}
use Rattle.std.proofs.Common.{refl, ap, ◌∙◌, sym, subst, inl, inr}
use Rattle.std.proofs.lemmas.List.{map-append, take_more}
use Rattle.std.proofs.lemmas.List.Elements.{filter-append}
use Rattle.std.specs.List.{cons_option, filter}
use Rattle.ifmap_lemmas.specs.Having.{Has, has_either, has_left, has_right}
use Rattle.ifmap_plans.specs.declared.plans.ItemChange.{ItemChange}
use Rattle.ifmap_plans.specs.declared.plans.Note.{Note}
use Rattle.ifmap_region.specs.declared.flips.Flip.{Flip}
use Rattle.ifmap_search.specs.declared.results.Entry.{Entry}
use Rattle.ifmap_search.specs.declared.searches.Search.{Search}
use Rattle.ifmap_view.specs.declared.attachments.Attachment.{Attachment}
use Rattle.ifmap_delta.specs.Flipped.{AreFlipsOf, IsFlipAt, is_one_marked}
use Rattle.ifmap_folds.specs.Notes.{is_told, told_notes}
use Rattle.ifmap_delta.specs.SeenViews.{ViewSeen}
use Rattle.ifmap_delta.specs.Touched.{planned_items}
use Rattle.ifmap_ident.specs.declared.items.Item.{Item}

-- flips of one change more
pub flips_more : (old new : ViewSeen) (s : Search) (mark : ℕ → Option ℕ) (cs : List ItemChange) (fs : List Flip) (i : ℕ)
    (c : ItemChange) (r : Option Flip)
    → i < length cs → c ≡ get_or cs i c → AreFlipsOf old new s mark (take i cs) fs
    → IfSome r (IsFlipAt old new s c.item)
    → ((f : Flip) → IsFlipAt old new s c.item f → is_one_marked mark (Some f.a) (Some f.b) ≡ true → r ≡ Some f)
    → AreFlipsOf old new s mark (take (i + 1) cs) (fs ++ cons_option r [])
flips_more old new s mark cs fs i c r h e are some each =
    subst (λ l. AreFlipsOf old new s mark l (fs ++ cons_option r [])) (sym (take_more cs i c h ∙ ap (λ x. take i cs ++ x ∷ []) (sym e)))
    (record {
      only = λ f k. elim (has_either fs (cons_option r []) f k) [
        | inl p ↦ let o = are.only f p in (o.0, has_left (take i cs) (c ∷ []) o.0 o.1, o.2)
        | inr p ↦ (c, has_right (take i cs) (c ∷ []) c (inl refl), one r f some p)
      ];
      each = λ d f k at near. elim (has_either (take i cs) (c ∷ []) d k) [
        | inl p ↦ has_left fs (cons_option r []) f (are.each d f p at near)
        | inr p ↦ elim p [
          | inl q ↦ has_right fs (cons_option r []) f (subst (λ o. Has (cons_option o []) f)
              (sym (each f (subst (λ y. IsFlipAt old new s y.item f) (sym q) at) near)) (inl refl))
          | inr q ↦ absurd q
        ]
      ];
    })
  where
    one : (r : Option Flip) (f : Flip) → IfSome r (IsFlipAt old new s c.item) → Has (cons_option r []) f → IsFlipAt old new s c.item f
    one None f p k = absurd k
    one (Some g) f p (inl q) = subst (λ y. IsFlipAt old new s c.item y) q p
    one (Some g) f p (inr k) = absurd k

-- what is told of one note more
pub notes_more : (rows : List Attachment) (s : Search) (ns : List Note) (i : ℕ) (n : Note) → i < length ns → n ≡ get_or ns i n
    → told_notes rows s (take (i + 1) ns) ≡ told_notes rows s (take i ns) ++ told_notes rows s (n ∷ [])
notes_more rows s ns i n h e =
    let entry : Note → Entry = λ m. record { item = m.item; element = m.element }
    in ap (told_notes rows s) (take_more ns i n h ∙ ap (λ x. take i ns ++ x ∷ []) (sym e))
    ∙ ap (map entry) (filter-append (is_told rows s) (take i ns) (n ∷ []))
    ∙ map-append entry (filter (is_told rows s) (take i ns)) (filter (is_told rows s) (n ∷ []))

-- the items of one change more
pub planned_more : (p : Item → Bool) (cs : List ItemChange) (i : ℕ) (c : ItemChange) → i < length cs → c ≡ get_or cs i c
    → planned_items p (take (i + 1) cs) ≡ planned_items p (take i cs) ++ planned_items p (c ∷ [])
planned_more p cs i c h e =
    let item : ItemChange → Item = λ d. d.item
    in let looks : ItemChange → Bool = λ d. p d.item
    in ap (planned_items p) (take_more cs i c h ∙ ap (λ x. take i cs ++ x ∷ []) (sym e))
    ∙ ap (map item) (filter-append looks (take i cs) (c ∷ []))
    ∙ map-append item (filter looks (take i cs)) (filter looks (c ∷ []))
