-- What contracts see of a graph's parts, as the parts have it: the numbers of shelves, and the links of those that are not empty.
use Rattle.std.proofs.Common.{◌≡◌, ◌⊎◌, ℕ, Option, Some, None, IsSome, List, nat_eq, option_map, refl, ap, ◌∙◌, sym, subst, inl, inr}
use Rattle.std.proofs.lemmas.Option.{none-some}
use Rattle.std.specs.BTreeMap.{is_at}
use Rattle.std.specs.List.{IsDistinct}
use Rattle.std.specs.Map.{lookup}
use Rattle.ifmap_lemmas.specs.Having.{Has}
use Rattle.ifmap_ident.specs.declared.identifiers.Identifier.{Identifier}
use Rattle.ifmap_ident.specs.declared.items.Item.{Item}
use Rattle.ifmap_ident.specs.Items.{item_order}
use Rattle.ifmap_pool.specs.Holdings.{Holdings}
use Rattle.ifmap_view.specs.declared.attachments.Attachment.{Attachment}
use Rattle.ifmap_view.specs.declared.views.LinkSeen.{LinkSeen}
use Rattle.ifmap_view.specs.Rows.{stored_on}
use Rattle.ifmap_graph.specs.declared.shelves.Shelf.{Shelf}
use Rattle.ifmap_graph.specs.Back.{AreLinks, AreBothEnds}
use Rattle.ifmap_graph.specs.Inside.{GraphInside, shown_shelves}
use Rattle.ifmap_graph.specs.Joined.{is_not_empty, joined_pair, full_some, some_full}
use Rattle.ifmap_graph.specs.Linked.{AreListed, link_places}
use Rattle.ifmap_graph.specs.Shelved.{IsPlaced, list_at, rows_by}
use Rattle.ifmap_graph.specs.Sides.{Sides, list_now}
use Rattle.ifmap_graph.specs.Stays.{HasSameShelf, ends_in, ends_there_in}
use Rattle.ifmap_graph.proofs.Finding.{entry_stores}
use Rattle.ifmap_graph.proofs.Following.{entry_hits}
use Rattle.ifmap_graph.proofs.Insides.{live_by, lookup_shown}
use Rattle.ifmap_graph.proofs.Shelving.{Entries}
use Rattle.ifmap_graph.proofs.Staying.{ends_of}

-- what contracts see of shelves with a pool and links
abbrev pub seen_of : (ℕ → Option Shelf) → Entries → Holdings Identifier → List (Sides LinkSeen) → GraphInside
seen_of look es names links = record { shelves = shown_shelves look es; names = names; links = links; places = es }

module _ (look : ℕ → Option Shelf) (es : Entries) (names : Holdings Identifier) (links : List (Sides LinkSeen)) where
  pub seen_ends : (x : Item) (at : ℕ) → lookup (is_at (item_order x)) es ≡ Some at
      → ends_in (seen_of look es names links) x ≡ ends_of (look at)
  seen_ends x at e = ap ends_there_in (lookup_shown look (is_at (item_order x)) es ∙ ap (option_map look) e)

  pub seen_none : (x : Item) → lookup (is_at (item_order x)) es ≡ None → ends_in (seen_of look es names links) x ≡ None
  seen_none x e = ap ends_there_in (lookup_shown look (is_at (item_order x)) es ∙ ap (option_map look) e)

-- shelves that are written stay where they are
pub stays_there : (look later : ℕ → Option Shelf) (es : Entries) (names others : Holdings Identifier) (links moved : List (Sides LinkSeen))
    → ((at : ℕ) → ends_of (later at) ≡ ends_of (look at)) → (x : Item)
    → HasSameShelf (seen_of look es names links) (seen_of later es others moved) x
stays_there look later es names others links moved f x = by (lookup (is_at (item_order x)) es) refl
  where
    by : (o : Option ℕ) → lookup (is_at (item_order x)) es ≡ o → HasSameShelf (seen_of look es names links) (seen_of later es others moved)
        x
    by None e = (refl, seen_none later es others moved x e ∙ sym (seen_none look es names links x e))
    by (Some at) e = (refl, seen_ends later es others moved x at e ∙ f at ∙ sym (seen_ends look es names links x at e))

two_by : (o : Option Shelf) (v w : ℕ) → (joined_pair o ≡ Some (v, w)) ⊎ (joined_pair o ≡ Some (w, v)) → AreBothEnds (ends_of o) v w
two_by None v w (inl e) = absurd (none-some _ e)
two_by None v w (inr e) = absurd (none-some _ e)
two_by (Some shelf) v w e = e

by_two : (o : Option Shelf) (v w : ℕ) → AreBothEnds (ends_of o) v w → (joined_pair o ≡ Some (v, w)) ⊎ (joined_pair o ≡ Some (w, v))
by_two None v w e = absurd e
by_two (Some shelf) v w e = e

-- the links of the slots that are full, by the items that have something stored on them; and the other way round
module _ (look : ℕ → Option Shelf) (es : Entries) (names : Holdings Identifier) (sides : List (Sides LinkSeen)) (rows : List Attachment)
    (links : ℕ → List LinkSeen) (placed : IsPlaced look es) (used : (at : ℕ) → IsSome (look at) → (item : Item) × Has es (item, at))
    (same : (x : Item) → stored_on x (rows_by (λ at. list_at list_now (look at)) es) ≡ stored_on x rows) where
  on_slot : (x : Item) (at : ℕ) → lookup (is_at (item_order x)) es ≡ Some at → list_at list_now (look at) ≡ stored_on x rows
  on_slot x at e = entry_stores (λ n. list_at list_now (look n)) x es at placed.rising e ∙ same x

  pub links_by_items : AreListed (λ at. joined_pair (look at)) (λ at. is_not_empty (list_at list_now (look at))) links
      → ((v : ℕ) → IsDistinct nat_eq (link_places (links v))) → AreLinks rows links (seen_of look es names sides)
  links_by_items is once = record {
    only = λ v seen c.
        let p = is.only v seen c
        in let u = used seen.at (live_by look seen.at v seen.other p.0)
        in let e : lookup (is_at (item_order u.0)) es ≡ Some seen.at = entry_hits es u.0 seen.at placed.rising u.1
        in (
          u.0,
          e,
          subst (λ o. AreBothEnds o v seen.other) (sym (seen_ends look es names sides u.0 seen.at e))
              (two_by (look seen.at) v seen.other p.0),
          (λ n. full_some (list_at list_now (look seen.at)) p.1 (on_slot u.0 seen.at e ∙ n)),
        );
    each = λ x v w at e two full.
        is.each v w at (by_two (look at) v w (subst (λ o. AreBothEnds o v w) (seen_ends look es names sides x at e) two))
        (some_full (list_at list_now (look at)) (λ n. full (sym (on_slot x at e) ∙ n)));
    once = once;
  }

  pub links_by_slots : AreLinks rows links (seen_of look es names sides)
      → AreListed (λ at. joined_pair (look at)) (λ at. is_not_empty (list_at list_now (look at))) links
  links_by_slots is = record {
    only = λ v seen c.
        let p = is.only v seen c
        in (
          by_two (look seen.at) v seen.other (subst (λ o. AreBothEnds o v seen.other) (seen_ends look es names sides p.0 seen.at p.1) p.2),
          some_full (list_at list_now (look seen.at)) (λ n. p.3 (sym (on_slot p.0 seen.at p.1) ∙ n)),
        );
    each = λ v w at e full.
        let u = used at (live_by look at v w e)
        in let h : lookup (is_at (item_order u.0)) es ≡ Some at = entry_hits es u.0 at placed.rising u.1
        in is.each u.0 v w at h (subst (λ o. AreBothEnds o v w) (sym (seen_ends look es names sides u.0 at h)) (two_by (look at) v w e))
        (λ n. full_some (list_at list_now (look at)) full (on_slot u.0 at h ∙ n));
  }
