-- Which numbers have a link before a change and afterwards, by what is stored for their identifiers, and the flips between.
-- In order: links by identifiers (`linked_have_identifiers`, `linked_by`); those before the change by the numbers afterwards; an item whose
-- match changes, and of which an end has a mark, is a flip (`is_flip`), and a flip is of such an item (`flip_of`); from a number
-- with a mark, the links of the region's words are those of the two views (`old_there`, `there_mid`), and flips are theirs.
use Rattle.std.proofs.Common.{◌≡◌, ◌⊎◌, inl, inr, ℕ, Bool, true, false, not, Option, Some, None, List, [], ◌∷◌, refl, ap, ◌∙◌}
use Rattle.std.proofs.Common.{sym, subst, is_some}
use Rattle.std.proofs.lemmas.Bool.{cases_Bool, or_left, or_right}
use Rattle.std.proofs.lemmas.Option.{none-some, same_Some}
use Rattle.std.specs.List.{Contains, find}
use Rattle.ifmap_ident.specs.declared.identifiers.Identifier.{Identifier}
use Rattle.ifmap_ident.specs.declared.items.Item.{Item}
use Rattle.ifmap_ident.specs.declared.items.Item.TheVariants.{One, Pair}
use Rattle.ifmap_ident.specs.Items.{IsCanonItem, pair_of, same_item}
use Rattle.ifmap_lemmas.specs.Having.{Has, from_has, has_from, all_has}
use Rattle.ifmap_plans.specs.declared.plans.ItemChange.{ItemChange}
use Rattle.ifmap_plans.specs.Plans.{change_of, list_after}
use Rattle.ifmap_region.specs.declared.flips.Flip.{Flip}
use Rattle.ifmap_region.specs.Flips as region
use Rattle.ifmap_region.specs.Flips.{InBoth, IsFlipped, Joins}
use Rattle.ifmap_search.specs.declared.searches.Search.{Search}
use Rattle.ifmap_view.specs.declared.attachments.Attachment.{Attachment}
use Rattle.ifmap_view.specs.Rows.{stored_between, stored_linked, stored_on, stored_where}
use Rattle.ifmap_view.specs.Views.{IsView}
use Rattle.ifmap_fresh.specs.Matching.{is_match, one_meets}
use Rattle.ifmap_delta.specs.Bounds.{IsFlip}
use Rattle.ifmap_delta.specs.Changes.{ShowsAfter}
use Rattle.ifmap_delta.specs.Flipped.{AreFlipsOf, IsFlipAt, is_one_marked}
use Rattle.ifmap_delta.specs.SeenViews.{Links, ViewSeen}
use Rattle.ifmap_fresh.specs.laws.JoiningLaws.{linked_matches, match_turned, matches_linked, some_if_met}
use Rattle.ifmap_fresh.specs.laws.SameLaws.{pair_canon, pair_is, pair_parts}
use Rattle.ifmap_ident.specs.SameLaws.{BytesTellIdentifiers, same_item_is}

pub found_change : (p : ItemChange → Bool) (cs : List ItemChange) (c : ItemChange) → find p cs ≡ Some c → Has cs c × (p c ≡ true)
found_change p [] c e = absurd (none-some c e)
found_change p (x ∷ xs) c e = elim (cases_Bool (p x)) [
  | inl t ↦ let same : x ≡ c = same_Some x c (rw t at e) in (inl same, subst (λ y. p y ≡ true) same t)
  | inr t ↦ let rest : find p xs ≡ Some c = rw t at e in let f = found_change p xs c rest in (inr f.0, f.1)
]

-- numbers with a link have identifiers whose link matches
module _ (g : ViewSeen) (s : Search) where
  pub linked_have_identifiers : (v w : ℕ) → Links g s v w
      → (a : Identifier) × (b : Identifier) × (g.id_at v ≡ Some a) × (g.id_at w ≡ Some b) × (is_match g.rows s.match_links a b ≡ true)
  linked_have_identifiers v w l = by (g.id_at v) (g.id_at w) refl refl (linked_matches g.rows g.id_at g.links s.match_links v w l)
    where
      by : (a b : Option Identifier) → g.id_at v ≡ a → g.id_at w ≡ b → one_meets s.match_links (stored_linked a b g.rows) ≡ true
          → (a : Identifier) × (b : Identifier) × (g.id_at v ≡ Some a) × (g.id_at w ≡ Some b)
          × (is_match g.rows s.match_links a b ≡ true)
      by None b i j m = absurd (some_if_met s.match_links [] m refl)
      by (Some a) None i j m = absurd (some_if_met s.match_links [] m refl)
      by (Some a) (Some b) i j m = (a, b, i, j, m)

  pub linked_by : IsView g.rows g.id_at g.links → (v w : ℕ) (a b : Identifier) → g.id_at v ≡ Some a → g.id_at w ≡ Some b
      → is_match g.rows s.match_links a b ≡ true → Links g s v w
  linked_by is v w a b i j m =
      matches_linked g.rows g.id_at g.links s.match_links is v w
      (subst (λ o. one_meets s.match_links (stored_linked o (g.id_at w) g.rows) ≡ true) (sym i)
      (subst (λ o. one_meets s.match_links (stored_linked (Some a) o g.rows) ≡ true) (sym j) m))

module _ (tells : BytesTellIdentifiers) (old new : ViewSeen) (s : Search) (was : IsView old.rows old.id_at old.links)
    (is : IsView new.rows new.id_at new.links) (changes : List ItemChange) (change : ShowsAfter old new changes) where
  -- an identifier with a match before has the number that it has afterwards
  pub number_before : (w : ℕ) (a b : Identifier) → new.id_at w ≡ Some b → is_match old.rows s.match_links a b ≡ true
      → old.id_at w ≡ Some b
  number_before w a b j m =
      let n = was.linked a b (is.canon w b j) (some_if_met s.match_links (stored_between a b old.rows) m)
      in subst (λ x. old.id_at x ≡ Some b) (is.one_to_one n.0 w b (change.numbers n.0 b n.1) j) n.1

  pub linked_before : (v w : ℕ) (a b : Identifier) → new.id_at v ≡ Some a → new.id_at w ≡ Some b
      → is_match old.rows s.match_links a b ≡ true → Links old s v w
  linked_before v w a b i j m =
      linked_by old s was v w a b (number_before v b a i (match_turned old.rows s.match_links b a ∙ m)) (number_before w a b j m) m

  -- numbers with a link before, by their identifiers afterwards
  pub named_before : (v w : ℕ) → Links old s v w
      → (a : Identifier) × (b : Identifier) × (new.id_at v ≡ Some a) × (new.id_at w ≡ Some b)
      × (is_match old.rows s.match_links a b ≡ true)
  named_before v w l =
      let n = linked_have_identifiers old s v w l
      in (n.0, n.1, change.numbers v n.0 n.2, change.numbers w n.1 n.3, n.4)

  -- what is stored on an item without a change stays
  pub stored_same : (x : Item) → change_of changes x ≡ None → stored_on x new.rows ≡ stored_on x old.rows
  stored_same x e = change.after x ∙ ap (λ o. list_after o (stored_on x old.rows)) e

  pub change_at : (x : Item) (c : ItemChange) → IsCanonItem x → change_of changes x ≡ Some c → Has changes c × (c.item ≡ x)
  change_at x c i e =
      let f = found_change (λ d. same_item d.item x) changes c e
      in (f.0, same_item_is tells c.item x (all_has (λ d. IsCanonItem d.item) changes change.canon c f.0).identifiers i.identifiers f.1)

  module _ (mark : ℕ → Option ℕ) (flips : List Flip) (are : AreFlipsOf old new s mark changes flips) where
    abbrev Marked : ℕ → Type 0
    Marked v = is_some (mark v) ≡ true

    match_at : (rows : List Attachment) (a b : Identifier) (x : Item) → pair_of a b ≡ Some x
        → is_match rows s.match_links a b ≡ one_meets s.match_links (stored_on x rows)
    match_at rows a b x e = ap (λ o. one_meets s.match_links (stored_where o rows)) e

    -- an item whose match changes is a flip, where an end has a mark
    pub is_flip : (v w : ℕ) (a b : Identifier) (added : Bool) → Marked v → new.id_at v ≡ Some a → new.id_at w ≡ Some b
        → is_match old.rows s.match_links a b ≡ not added → is_match new.rows s.match_links a b ≡ added → IsFlipped flips added v w
    is_flip v w a b added marked i j m n = by_pair (pair_of a b) refl
      where
        no_pair : (c : Bool) → one_meets s.match_links [] ≡ not c → one_meets s.match_links [] ≡ c → ⊥
        no_pair true e f = some_if_met s.match_links [] f refl
        no_pair false e f = some_if_met s.match_links [] e refl

        -- the flip of the item of such a change is among them
        is_there : (x : Item) → pair_of a b ≡ Some x → (c : ItemChange) → Has changes c → c.item ≡ x → (flip : Flip)
            → ((one_meets s.match_links (stored_on x old.rows) ≡ not added) → (one_meets s.match_links (stored_on x new.rows) ≡ added)
            → IsFlipAt old new s x flip)
            → is_one_marked mark (Some flip.a) (Some flip.b) ≡ true → Contains flips flip
        is_there x e c h at flip turned near =
            let here = turned (sym (match_at old.rows a b x e) ∙ m) (sym (match_at new.rows a b x e) ∙ n)
            in from_has flips flip (are.each c flip h (subst (λ y. IsFlipAt old new s y flip) (sym at) here) near)

        at_pair : (x : Item) → pair_of a b ≡ Some x → (c : ItemChange) → Has changes c → c.item ≡ x → (x ≡ Pair a b) ⊎ (x ≡ Pair b a)
            → IsFlipped flips added v w
        at_pair x e c h at (inl q) =
            let flip : Flip = record { a = v; b = w; added = added }
            in let there = is_there (Pair a b) (e ∙ ap Some q) c h (at ∙ q) flip (λ k l. (i, j, k, l))
            (or_left (is_some (mark v)) (is_some (mark w)) marked)
            in (flip, there, refl, inl (refl, refl))
        at_pair x e c h at (inr q) =
            let flip : Flip = record { a = w; b = v; added = added }
            in let there = is_there (Pair b a) (e ∙ ap Some q) c h (at ∙ q) flip (λ k l. (j, i, k, l))
            (or_right (is_some (mark w)) (is_some (mark v)) marked)
            in (flip, there, refl, inr (refl, refl))

        differs : (c : Bool) → c ≡ not c → ⊥
        differs true e = let q : true ≡ false = e in cc
        differs false e = let q : false ≡ true = e in cc

        by_change : (x : Item) → pair_of a b ≡ Some x → (o : Option ItemChange) → change_of changes x ≡ o → IsFlipped flips added v w
        by_change x e None f =
            absurd (differs added (sym n ∙ match_at new.rows a b x e ∙ ap (one_meets s.match_links) (stored_same x f)
            ∙ sym (match_at old.rows a b x e) ∙ m))
        by_change x e (Some c) f =
            let p = change_at x c (pair_canon a b x (is.canon v a i) (is.canon w b j) e) f
            in at_pair x e c p.0 p.1 (pair_parts a b x e)

        by_pair : (o : Option Item) → pair_of a b ≡ o → IsFlipped flips added v w
        by_pair None e =
            absurd (no_pair added (sym (ap (λ o. one_meets s.match_links (stored_where o old.rows)) e) ∙ m)
            (sym (ap (λ o. one_meets s.match_links (stored_where o new.rows)) e) ∙ n))
        by_pair (Some x) e = by_change x e (change_of changes x) refl

    abbrev Named : Bool → ℕ → ℕ → Type 0
    Named added v w = (a : Identifier) × (b : Identifier) × (new.id_at v ≡ Some a) × (new.id_at w ≡ Some b)
        × (is_match old.rows s.match_links a b ≡ not added) × (is_match new.rows s.match_links a b ≡ added)

    -- a flip is of an item whose match changes
    pub flip_of : (v w : ℕ) (added : Bool) → IsFlipped flips added v w → Named added v w
    flip_of v w added f =
        let o = are.only f.0 (has_from flips f.0 f.1)
        in by o.0.item (all_has (λ d. IsCanonItem d.item) changes change.canon o.0 o.1) f.0 f.2 f.3 o.2
      where
        by : (x : Item) → IsCanonItem x → (flip : Flip) → flip.added ≡ added → Joins flip v w → IsFlipAt old new s x flip → Named added v w
        by (One a) i flip e (inl p) at = absurd at
        by (One a) i flip e (inr p) at = absurd at
        by (Pair a b) i flip e (inl p) at = (
          a,
          b,
          subst (λ n. new.id_at n ≡ Some a) p.0 at.0,
          subst (λ n. new.id_at n ≡ Some b) p.1 at.1,
          match_at old.rows a b (Pair a b) (pair_is a b i.ordered) ∙ at.2 ∙ ap not e,
          match_at new.rows a b (Pair a b) (pair_is a b i.ordered) ∙ at.3 ∙ e,
        )
        by (Pair a b) i flip e (inr p) at = (
          b,
          a,
          subst (λ n. new.id_at n ≡ Some b) p.1 at.1,
          subst (λ n. new.id_at n ≡ Some a) p.0 at.0,
          match_turned old.rows s.match_links b a ∙ match_at old.rows a b (Pair a b) (pair_is a b i.ordered) ∙ at.2 ∙ ap not e,
          match_turned new.rows s.match_links b a ∙ match_at new.rows a b (Pair a b) (pair_is a b i.ordered) ∙ at.3 ∙ e,
        )

    pub added_linked : (v w : ℕ) → IsFlipped flips true v w → Links new s v w
    added_linked v w f = let n = flip_of v w true f in linked_by new s is v w n.0 n.1 n.2 n.3 n.5

    pub added_unlinked : (v w : ℕ) → IsFlipped flips true v w → Links old s v w → ⊥
    added_unlinked v w f l =
        let n = flip_of v w true f
        in let o = named_before v w l
        in let a : o.0 ≡ n.0 = same_Some o.0 n.0 (sym o.2 ∙ n.2)
        in let b : o.1 ≡ n.1 = same_Some o.1 n.1 (sym o.3 ∙ n.3)
        in let q : true ≡ false = sym o.4 ∙ ap (λ x. is_match old.rows s.match_links x o.1) a
        ∙ ap (λ x. is_match old.rows s.match_links n.0 x) b ∙ n.4
        in cc

    pub removed_linked : (v w : ℕ) → IsFlipped flips false v w → Links old s v w
    removed_linked v w f = let n = flip_of v w false f in linked_before v w n.0 n.1 n.2 n.3 n.4

    pub removed_unlinked : (v w : ℕ) → IsFlipped flips false v w → Links new s v w → ⊥
    removed_unlinked v w f l =
        let n = flip_of v w false f
        in let o = linked_have_identifiers new s v w l
        in let a : o.0 ≡ n.0 = same_Some o.0 n.0 (sym o.2 ∙ n.2)
        in let b : o.1 ≡ n.1 = same_Some o.1 n.1 (sym o.3 ∙ n.3)
        in let q : true ≡ false = sym o.4 ∙ ap (λ x. is_match new.rows s.match_links x o.1) a
        ∙ ap (λ x. is_match new.rows s.match_links n.0 x) b ∙ n.5
        in cc

    -- a link of the new view that is not added was there
    pub link_stays : (v w : ℕ) → Marked v → Links new s v w → ¬ IsFlipped flips true v w → Links old s v w
    link_stays v w marked l apart =
        let n = linked_have_identifiers new s v w l
        in elim (cases_Bool (is_match old.rows s.match_links n.0 n.1)) [
          | inl t ↦ linked_before v w n.0 n.1 n.2 n.3 t
          | inr t ↦ absurd (apart (is_flip v w n.0 n.1 true marked n.2 n.3 t n.4))
        ]

    -- the region's old links are those of the old view
    pub old_there : (v w : ℕ) → Marked v → region.OldLinks (Links new s) flips v w → Links old s v w
    old_there v w marked (inl p) = link_stays v w marked p.0 p.1
    old_there v w marked (inr f) = removed_linked v w f

    pub there_old : (v w : ℕ) → Marked v → Links old s v w → region.OldLinks (Links new s) flips v w
    there_old v w marked l =
        let n = named_before v w l
        in elim (cases_Bool (is_match new.rows s.match_links n.0 n.1)) [
          | inl t ↦ inl (linked_by new s is v w n.0 n.1 n.2 n.3 t, λ f. added_unlinked v w f l)
          | inr t ↦ inr (is_flip v w n.0 n.1 false marked n.2 n.3 n.4 t)
        ]

    -- and the links of both stay
    pub there_mid : (v w : ℕ) → InBoth (Links old s) (Links new s) v w → region.Mid (Links new s) flips v w
    there_mid v w p = (p.1, λ f. added_unlinked v w f p.0)

    -- flips join numbers that have a link in one of the two alone
    pub added_flip : (v w : ℕ) → IsFlipped flips true v w → IsFlip old new s v w
    added_flip v w f = inr (added_linked v w f, added_unlinked v w f)

    pub removed_flip : (v w : ℕ) → IsFlipped flips false v w → IsFlip old new s v w
    removed_flip v w f = inl (removed_linked v w f, removed_unlinked v w f)
