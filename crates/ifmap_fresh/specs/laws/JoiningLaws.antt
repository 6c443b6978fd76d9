-- Links of numbers that match, and those of identifiers.
use Rattle.std.proofs.Common.{◌≡◌, ◌≢◌, ℕ, ◌<◌, Bool, true, false, cond, Option, Some, None, List, [], length, get_or, slice_get}
use Rattle.std.proofs.Common.{refl, ap, ◌∙◌, sym, subst, inl, inr}
use Rattle.std.proofs.lemmas.List.{get_or-map, length-map}
use Rattle.std.proofs.lemmas.Option.{slice_get-get_or, same_Some, none-some}
use Rattle.std.specs.List.{AllByRecursion, filter}
use Rattle.ifmap_search.specs.ifmap_filter.declared.filters.Filter.{Filter}
use Rattle.ifmap_ident.specs.declared.identifiers.Identifier.{Identifier}
use Rattle.ifmap_ident.specs.declared.items.Item.{Item}
use Rattle.ifmap_ident.specs.Canon.{IsIdentifier}
use Rattle.ifmap_ident.specs.Items.{identifiers_of, pair_of, same_item}
use Rattle.ifmap_lemmas.specs.Having.{Has, filter_has, has_joined, map_has, first_of}
use Rattle.ifmap_meta.specs.declared.stored.Stored.{Stored}
use Rattle.ifmap_region.specs.Links.{Linked, IsSymmetric}
use Rattle.ifmap_view.specs.declared.attachments.Attachment.{Attachment}
use Rattle.ifmap_view.specs.declared.views.LinkSeen.{LinkSeen}
use Rattle.ifmap_ident.specs.Items.{IsCanonItem}
use Rattle.ifmap_view.specs.Rows.{stored_between, stored_linked, stored_on, stored_where}
use Rattle.ifmap_view.specs.Views.{IsView}
use Rattle.ifmap_fresh.specs.Matching.{is_match, one_meets}
use Rattle.ifmap_fresh.specs.Linking.{end_where}
use Rattle.ifmap_fresh.specs.Reached.{identifiers_in}
use Rattle.ifmap_fresh.specs.laws.SameLaws.{member, pair_canon, pair_of_one, pair_parts, pair_turned}
use Rattle.ifmap_ident.specs.SameLaws.{BytesTellIdentifiers, same_item_is}

pub linked_turned : (a b : Option Identifier) (rows : List Attachment) → stored_linked a b rows ≡ stored_linked b a rows
linked_turned None None rows = refl
linked_turned None (Some b) rows = refl
linked_turned (Some a) None rows = refl
linked_turned (Some a) (Some b) rows = ap (λ i. stored_where i rows) (pair_turned a b)

pub match_turned : (rows : List Attachment) (filter : Option Filter) (a b : Identifier)
    → is_match rows filter a b ≡ is_match rows filter b a
match_turned rows filter a b = ap (λ i. one_meets filter (stored_where i rows)) (pair_turned a b)

pub none_to_itself : (a : Option Identifier) (rows : List Attachment) → stored_linked a a rows ≡ []
none_to_itself None rows = refl
none_to_itself (Some a) rows = ap (λ i. stored_where i rows) (pair_of_one a)

pub some_if_met : (filter : Option Filter) (xs : List Stored) → one_meets filter xs ≡ true → xs ≢ []
some_if_met filter xs e n = let p : one_meets filter [] ≡ true = subst (λ ys. one_meets filter ys ≡ true) n e in cc

-- where something is stored on the pair of two identifiers, the second stands in an item
pub stands_in : BytesTellIdentifiers → (rows : List Attachment) → AllByRecursion (λ r. IsCanonItem r.item) rows → (a b : Identifier) →
    IsIdentifier a
    → IsIdentifier b
    → stored_between a b rows ≢ [] → Has (identifiers_in rows) b
stands_in tells rows items a b ia ib n = by (pair_of a b) refl
  where
    on : (item : Item) → pair_of a b ≡ Some item → stored_on item rows ≢ [] → Has (identifiers_in rows) b
    on item e m =
        let stored = first_of (stored_on item rows) m
        in let row = map_has (λ (r : Attachment). r.stored) (filter (λ r. same_item r.item item) rows) stored.0 stored.1
        in let kept = filter_has (λ (r : Attachment). same_item r.item item) rows row.0 row.1
        in let same : row.0.item ≡ item = same_item_is tells row.0.item item
        (member (λ r. IsCanonItem r.item) rows items row.0 kept.0).identifiers
        (pair_canon a b item ia ib e).identifiers kept.1
        in has_joined (λ (r : Attachment). identifiers_of r.item) rows row.0 b kept.0
        (subst (λ i. Has (identifiers_of i) b) (sym same) (elim (pair_parts a b item e) [
          | inl p ↦ subst (λ i. Has (identifiers_of i) b) (sym p) (inr (inl refl))
          | inr p ↦ subst (λ i. Has (identifiers_of i) b) (sym p) (inl refl)
        ]))

    by : (o : Option Item) → pair_of a b ≡ o → Has (identifiers_in rows) b
    by None e = absurd (n (ap (λ i. stored_where i rows) e))
    by (Some item) e = on item e (λ m. n (ap (λ i. stored_where i rows) e ∙ m))

module _ (rows : List Attachment) (id_at : ℕ → Option Identifier) (links : ℕ → List LinkSeen) (filter : Option Filter) where
  abbrev pub count : ℕ → ℕ
  count v = length (links v)

  abbrev pub link : ℕ → ℕ → Option ℕ
  link v i = end_where rows id_at filter v (slice_get (links v) i)

  abbrev pub Matches : ℕ → ℕ → Type 0
  Matches v w = one_meets filter (stored_linked (id_at v) (id_at w) rows) ≡ true

  end_matches : (v w : ℕ) (seen : Option LinkSeen) → end_where rows id_at filter v seen ≡ Some w → Matches v w
  end_matches v w None e = absurd (none-some w e)
  end_matches v w (Some seen) e = match_of_end (one_meets filter (stored_linked (id_at v) (id_at seen.other) rows)) refl e
    where
      match_of_end : (b : Bool) → one_meets filter (stored_linked (id_at v) (id_at seen.other) rows) ≡ b
          → cond b (Some seen.other) None ≡ Some w → Matches v w
      match_of_end true is k = subst (λ x. Matches v x) (same_Some seen.other w k) is
      match_of_end false is k = absurd (none-some w k)

  pub linked_matches : (v w : ℕ) → Linked count link v w → Matches v w
  linked_matches v w l = end_matches v w (slice_get (links v) l.0) l.2

  module _ (is : IsView rows id_at links) where
    pub matches_linked : (v w : ℕ) → Matches v w → Linked count link v w
    matches_linked v w m =
        let c = is.each v w (some_if_met filter (stored_linked (id_at v) (id_at w) rows) m)
        in let within : c.0 < length (links v) = subst (λ n. c.0 < n) (length-map (links v) (λ l. l.other)) c.1
        in let seen : LinkSeen = get_or (links v) c.0 (record { other = w; at = 0 })
        in let other : seen.other ≡ w = sym (get_or-map (λ l. l.other) (links v) c.0 (record { other = w; at = 0 }) w within) ∙ c.2
        in (
          c.0,
          within,
          ap (λ o. end_where rows id_at filter v o) (slice_get-get_or (links v) c.0 (record { other = w; at = 0 }) within)
              ∙ ap (λ b. cond b (Some seen.other) None) (subst (λ x. Matches v x) (sym other) m)
              ∙ ap Some other,
        )

    pub links_are_symmetric : IsSymmetric (Linked count link)
    links_are_symmetric v w l =
        matches_linked w v (subst (λ xs. one_meets filter xs ≡ true) (linked_turned (id_at v) (id_at w) rows) (linked_matches v w l))

    pub no_loop : (v : ℕ) → Linked count link v v → ⊥
    no_loop v l = some_if_met filter (stored_linked (id_at v) (id_at v) rows) (linked_matches v v l) (none_to_itself (id_at v) rows)
