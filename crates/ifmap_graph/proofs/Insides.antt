-- What a graph's parts owe to whoever views it, on either side.
use Rattle.std.proofs.Common.{◌≡◌, ℕ, ◌+◌, Bool, Option, Some, None, IsSome, List, [], ◌∷◌, ◌++◌, map, option_map, refl, ap, ◌∙◌, sym, subst, inl, inr}
use Rattle.std.proofs.lemmas.Bool.{cases_Bool}
use Rattle.std.proofs.lemmas.Option.{same_Some, none-some}
use Rattle.std.specs.List.{Contains}
use Rattle.std.specs.Map.{lookup}
use Rattle.ifmap_lemmas.specs.Having.{Has, all_has}
use Rattle.ifmap_ident.specs.declared.identifiers.Identifier.{Identifier}
use Rattle.ifmap_ident.specs.declared.items.Item.{Item}
use Rattle.ifmap_ident.specs.declared.items.Item.TheVariants.{One, Pair}
use Rattle.ifmap_ident.specs.Identifiers.{identifier_bytes, identifier_order}
use Rattle.ifmap_pool.specs.Holdings.{Holdings, IsPool, Names, entry_at, key_at}
use Rattle.ifmap_view.specs.Attachments.{row_on}
use Rattle.ifmap_view.specs.declared.views.LinkSeen.{LinkSeen}
use Rattle.ifmap_view.specs.Rows.{stored_linked}
use Rattle.ifmap_view.specs.Views.{IsView}
use Rattle.ifmap_graph.specs.declared.ends.ItemEnds as the_ends
use Rattle.ifmap_graph.specs.declared.ends.ItemEnds.TheVariants as ends
use Rattle.ifmap_graph.specs.declared.shelves.Shelf.{Shelf}
use Rattle.ifmap_graph.specs.Inside.{IsSide, shown_shelves}
use Rattle.ifmap_graph.specs.Joined.{AreJoined, AreSingle, IsNumber, joined_pair, two_of}
use Rattle.ifmap_graph.specs.Linked.{JoinsNumbers}
use Rattle.ifmap_graph.specs.Named.{AreEnds, AreIdentifiers, AreNumbered, HasEnds, uses_of, uses_in}
use Rattle.ifmap_graph.specs.Shelved.{IsPlaced, StoredSide, list_at, rows_by}
use Rattle.ifmap_graph.proofs.Alike.{alike_equal, equal_alike}
use Rattle.ifmap_graph.proofs.Graphs.{graph_is}
use Rattle.ifmap_graph.proofs.Viewed.{alone_on, links_apart, each_link, handle_leads, linked_is_numbered, only_links}
use Rattle.ifmap_ident.specs.SameLaws.{BytesTellIdentifiers}

-- the rows of shelves are those of their entries
pub rows_shown : (side : StoredSide) (look : ℕ → Option Shelf) (es : List (Item × ℕ)) → rows_by (list_at side) (shown_shelves look es) ≡
    rows_by
    (λ at. list_at side (look at)) es
rows_shown side look [] = refl
rows_shown side look (e ∷ es) = ap (λ l. map (row_on e.0) (list_at side (look e.1)) ++ l) (rows_shown side look es)

-- and they name the same
pub named_shown : (look : ℕ → Option Shelf) (es : List (Item × ℕ)) (a : Identifier) → uses_in (shown_shelves look es) a ≡ uses_in es a
named_shown look [] a = refl
named_shown look (e ∷ es) a = ap (λ n. uses_of e.0 a + n) (named_shown look es a)

-- an item is looked up among shelves as among entries
pub lookup_shown : (look : ℕ → Option Shelf) (test : Item → Bool) (es : List (Item × ℕ))
    → lookup test (shown_shelves look es) ≡ option_map look
    (lookup test es)
lookup_shown look test [] = refl
lookup_shown look test (e ∷ es) = elim (cases_Bool (test e.0)) [
  | inl t ↦ rw t refl
  | inr t ↦ rw t (lookup_shown look test es)
]

pub no_entry : (look : ℕ → Option Shelf) (test : Item → Bool) (es : List (Item × ℕ)) → lookup test (shown_shelves look es) ≡ None
    → lookup test es ≡ None
no_entry look test es h = by (lookup test es) (sym (lookup_shown look test es) ∙ h)
  where
    by : (o : Option ℕ) → option_map look o ≡ None → o ≡ None
    by None e = refl
    by (Some at) e = absurd (none-some _ (sym e))

there : (o : Option Shelf) (v w : ℕ) → joined_pair o ≡ Some (v, w) → IsSome o
there None v w j = absurd (none-some _ j)
there (Some shelf) v w j = refl

-- a slot that joins numbers is live
pub live_by : (look : ℕ → Option Shelf) (at v w : ℕ) → JoinsNumbers (λ n. joined_pair (look n)) at v w → IsSome (look at)
live_by look at v w (inl j) = there (look at) v w j
live_by look at v w (inr j) = there (look at) w v j

module _ (names : Holdings Identifier) where
  -- the key of a number that has one
  pub key_is : (v : ℕ) (entry : Identifier × ℕ) → entry_at names v ≡ Some entry → key_at names v ≡ Some entry.0
  key_is v entry e = ap (option_map (λ x. x.0)) e

  pub is_number : (v : ℕ) (a : Identifier) → Names identifier_order names v a → IsNumber (key_at names) v a
  is_number v a n = (n.0.0, key_is v n.0 n.1, equal_alike n.0.0 a n.2)

  entry_of : (v : ℕ) (a : Identifier) (o : Option (Identifier × ℕ)) → entry_at names v ≡ o → option_map (λ x. x.0) o ≡ Some a
      → (entry : Identifier × ℕ) × (entry_at names v ≡ Some entry) × (entry.0 ≡ a)
  entry_of v a None is e = absurd (none-some _ e)
  entry_of v a (Some entry) is e = (entry, is, same_Some _ _ e)

  -- what a number's identifier ties with, it names
  pub names_by : (v : ℕ) (a b : Identifier) → key_at names v ≡ Some a → identifier_bytes a ≡ identifier_bytes b
      → Names identifier_order names v b
  names_by v a b e q =
      let x = entry_of v a (entry_at names v) refl e
      in (x.0, x.1, ap (λ k. identifier_order k b) x.2 ∙ alike_equal a b q)

  -- a number that was found is that of the identifier, where the two are told apart by their bytes
  pub number_found : (v : ℕ) (id k : Identifier) → Names identifier_order names v id → key_at names v ≡ Some k
      → (identifier_bytes k ≡ identifier_bytes id → k ≡ id)
      → key_at names v ≡ Some id
  number_found v id k n e t = e ∙ ap Some (t (ap identifier_bytes (same_Some k n.0.0 (sym e ∙ key_is v n.0 n.1))
      ∙ equal_alike n.0.0 id n.2))

  pub names_are_single : IsPool identifier_order names → AreSingle (key_at names)
  names_are_single p v w a b e f q = p.one_to_one v w b (names_by v a b e q) (names_by w b b f refl)

  module _ (a b : Identifier) where
    ones_by : (e : the_ends.ItemEnds) → AreEnds names (One a) e → (v : ℕ) × IsNumber (key_at names) v a
    ones_by (ends.One v) n = (v, is_number v a n)
    ones_by (ends.Pair v w) n = absurd n

    ones_of : (o : Option Shelf) → HasEnds names (One a) o → (v : ℕ) × IsNumber (key_at names) v a
    ones_of None n = absurd n
    ones_of (Some shelf) n = ones_by shelf.ends n

    pairs_by : (e : the_ends.ItemEnds) → AreEnds names (Pair a b) e
        → (v : ℕ) × (w : ℕ) × (two_of e ≡ Some (v, w)) × IsNumber (key_at names) v a × IsNumber (key_at names) w b
    pairs_by (ends.One v) n = absurd n
    pairs_by (ends.Pair v w) n = (v, w, refl, is_number v a n.0, is_number w b n.1)

    pairs_of : (o : Option Shelf) → HasEnds names (Pair a b) o
        → (v : ℕ) × (w : ℕ) × (joined_pair o ≡ Some (v, w)) × IsNumber (key_at names) v a × IsNumber (key_at names) w b
    pairs_of None n = absurd n
    pairs_of (Some shelf) n = pairs_by shelf.ends n

  module _ (v w : ℕ) where
    only_by : (item : Item) (e : the_ends.ItemEnds) → two_of e ≡ Some (v, w) → AreEnds names item e
        → (a : Identifier) × (b : Identifier) × (item ≡ Pair a b) × IsNumber (key_at names) v a × IsNumber (key_at names) w b
    only_by (One a) (ends.One u) j n = absurd (none-some _ j)
    only_by (Pair a b) (ends.One u) j n = absurd n
    only_by (One a) (ends.Pair u t) j n = absurd n
    only_by (Pair a b) (ends.Pair u t) j n =
        let e : (u, t) ≡ (v, w) = same_Some _ _ j
        in (
          a,
          b,
          refl,
          is_number v a (subst (λ k. Names identifier_order names k a) (ap (λ p. p.0) e) n.0),
          is_number w b (subst (λ k. Names identifier_order names k b) (ap (λ p. p.1) e) n.1),
        )

    only_of : (item : Item) (o : Option Shelf) → joined_pair o ≡ Some (v, w) → HasEnds names item o
        → (a : Identifier) × (b : Identifier) × (item ≡ Pair a b) × IsNumber (key_at names) v a × IsNumber (key_at names) w b
    only_of item None j n = absurd (none-some _ j)
    only_of item (Some shelf) j n = only_by item shelf.ends j n

  pub are_joined : (look : ℕ → Option Shelf) (entries : List (Item × ℕ)) → ((at : ℕ) → IsSome (look at) → (item : Item) × Has entries
      (item, at))
      → AreNumbered names look entries → AreJoined entries (key_at names) (λ at. joined_pair (look at))
  are_joined look entries used numbered = record {
    ones = λ a at h. ones_of a a (look at) (all_has (λ e. HasEnds names e.0 (look e.1)) entries numbered (One a, at) h);
    pairs = λ a b at h. pairs_of a b (look at) (all_has (λ e. HasEnds names e.0 (look e.1)) entries numbered (Pair a b, at) h);
    only = λ at v w j.
        let u = used at (there (look at) v w j)
        in let x = only_of v w u.0 (look at) j (all_has (λ e. HasEnds names e.0 (look e.1)) entries numbered (u.0, at) u.1)
        in (x.0, x.1, subst (λ i. Has entries (i, at)) x.2 u.1, x.3, x.4);
  }

module _ (names : Holdings Identifier) (look : ℕ → Option Shelf) (entries : List (Item × ℕ)) (links : ℕ → List LinkSeen) (side : StoredSide)
    (placed : IsPlaced look entries) (used : (at : ℕ) → IsSome (look at) → (item : Item) × Has entries (item, at))
    (numbered : AreNumbered names look entries)
    (pool : IsPool identifier_order names) (keys : AreIdentifiers names) (is : IsSide side look entries links) where
  -- a handle leads to what is stored on its link
  pub handle_of : (v : ℕ) (seen : LinkSeen) → Contains (links v) seen
      → list_at side (look seen.at) ≡ stored_linked (key_at names v) (key_at names seen.other)
      (rows_by (list_at side) (shown_shelves look entries))
  handle_of v seen c =
      handle_leads (λ at. list_at side (look at)) entries (key_at names) (λ at. joined_pair (look at)) links placed.rising placed.canon
      (names_are_single names pool)
      (are_joined names look entries used numbered) is.listed v seen c
      ∙ sym (ap (stored_linked (key_at names v) (key_at names seen.other)) (rows_shown side look entries))

  module _ (tells : BytesTellIdentifiers) where
    -- a side is a view
    pub view_of : IsView (rows_by (λ at. list_at side (look at)) entries) (key_at names) links
    view_of =
        let j = are_joined names look entries used numbered
        in let s = names_are_single names pool
        in record {
          graph = graph_is (λ at. list_at side (look at)) entries placed.rising placed.canon is.lists;
          canon = keys;
          one_to_one = λ v w a e f. s v w a a e f refl;
          alone = alone_on (λ at. list_at side (look at)) entries (key_at names)
              (λ at. joined_pair (look at)) links placed.rising placed.canon s
              j is.listed tells keys;
          linked = linked_is_numbered (λ at. list_at side (look at)) entries (key_at names)
              (λ at. joined_pair (look at)) links placed.rising placed.canon
              s j is.listed tells keys;
          apart = λ v. links_apart (λ at. list_at side (look at)) entries (key_at names) (λ at. joined_pair (look at)) links placed.rising
              placed.canon s j is.listed v (is.once v);
          only = only_links (λ at. list_at side (look at)) entries (key_at names)
              (λ at. joined_pair (look at)) links placed.rising placed.canon s j
              is.listed;
          each = each_link (λ at. list_at side (look at)) entries (key_at names)
              (λ at. joined_pair (look at)) links placed.rising placed.canon s j
              is.listed;
        }

    pub shown_view : IsView (rows_by (list_at side) (shown_shelves look entries)) (key_at names) links
    shown_view = subst (λ rows. IsView rows (key_at names) links) (sym (rows_shown side look entries)) view_of
