-- From lists of links to what is stored between identifiers.
-- 1. What a slot that joins two numbers has is what is stored on the link of their identifiers, either way round.
-- 2. So a handle leads to what is stored on its link, and a number's list names only numbers with which it has a link.
-- 3. What is stored on a link stands at a slot that joins its two numbers, so the list names each of them.
-- 4. With that the laws of a view hold, where bytes tell the identifiers of elements apart.
use Rattle.std.proofs.Common.{◌≡◌, ◌≢◌, ℕ, true, false, Option, Some, None, List, [], ◌∷◌, refl, ap, ◌∙◌, sym, subst, inl, inr, nat_eq}
use Rattle.std.proofs.lemmas.Bool.{cases_Bool, eqb-false}
use Rattle.std.proofs.lemmas.Option.{same_Some}
use Rattle.std.specs.BTreeMap.{is_at}
use Rattle.std.specs.List.{AllByRecursion, Contains, IsDistinct}
use Rattle.std.specs.Map.{lookup}
use Rattle.std.specs.Ordering.{ordering_reverse}
use Rattle.std.specs.declared.cmp.Ordering.{Ordering}
use Rattle.std.specs.declared.cmp.Ordering.TheVariants.{Less, Equal, Greater}
use Rattle.std.proofs.lemmas.Map.Keys.{IsDistinct-cons, IsDistinct-head, IsDistinct-tail}
use Rattle.ifmap_lemmas.specs.Having.{Has, from_has, has_from, has_map, map_has, all_has}
use Rattle.ifmap_lemmas.specs.Numbers.{equal_numbers}
use Rattle.ifmap_lemmas.specs.Rising.{to_distinct}
use Rattle.ifmap_ident.specs.declared.identifiers.Identifier.{Identifier}
use Rattle.ifmap_ident.specs.declared.items.Item.{Item}
use Rattle.ifmap_ident.specs.declared.items.Item.TheVariants.{One, Pair}
use Rattle.ifmap_ident.specs.Canon.{IsIdentifier}
use Rattle.ifmap_ident.specs.Identifiers.{identifier_bytes, identifier_order}
use Rattle.ifmap_ident.specs.Items.{IsCanonItem, item_order, ordered_pair}
use Rattle.ifmap_meta.specs.declared.stored.Stored.{Stored}
use Rattle.ifmap_view.specs.declared.attachments.Attachment.{Attachment}
use Rattle.ifmap_view.specs.declared.views.LinkSeen.{LinkSeen}
use Rattle.ifmap_view.specs.Rows.{stored_on, stored_where, stored_between, stored_linked}
use Rattle.ifmap_view.specs.Views.{IsLink, others}
use Rattle.ifmap_graph.specs.Joined.{AreJoined, AreSingle, IsNumber, is_not_empty, full_some, some_full}
use Rattle.ifmap_graph.specs.Linked.{AreListed, JoinsNumbers, link_places}
use Rattle.ifmap_graph.specs.Shelved.{ItemsRise, rows_by}
use Rattle.ifmap_graph.proofs.Alike.{Alike, one_tied, order_alike, pair_less, pair_more, pair_tied, pairs_tie, same_pair, stored_alike}
use Rattle.ifmap_graph.proofs.Following.{entry_hits, lookup_tied, looked_up, stands}
use Rattle.ifmap_graph.proofs.Finding.{unlisted_empty, entry_stores}
use Rattle.ifmap_ident.specs.SameLaws.{turned_order, BytesTellIdentifiers}

others_differ : (l : LinkSeen) (ls : List LinkSeen) → AllByRecursion (λ y. nat_eq l.at y ≡ false) (link_places ls)
    → ((m : LinkSeen) → Has ls m → l.other ≡ m.other → l.at ≡ m.at) → AllByRecursion (λ y. nat_eq l.other y ≡ false) (others ls)
others_differ l [] a f = tt
others_differ l (m ∷ ms) a f = (
  elim (cases_Bool (nat_eq l.other m.other)) [
    | inl t ↦ let same : l.at ≡ m.at = f m (inl refl) (equal_numbers l.other m.other t)
        in let q : nat_eq l.at l.at ≡ false = subst (λ y. nat_eq l.at y ≡ false) (sym same) a.0
        in absurd (eqb-false l.at l.at q refl)
    | inr t ↦ t
  ],
  others_differ l ms a.1 (λ x h. f x (inr h)),
)

distinct_by : (ls : List LinkSeen) → IsDistinct nat_eq (link_places ls)
    → ((l m : LinkSeen) → Has ls l → Has ls m → l.other ≡ m.other → l.at ≡ m.at)
    → IsDistinct nat_eq (others ls)
distinct_by [] d f = to_distinct nat_eq [] tt
distinct_by (l ∷ ls) d f =
    IsDistinct-cons nat_eq l.other (others ls)
    (others_differ l ls (IsDistinct-head nat_eq l.at (link_places ls) d) (λ m h. f l m (inl refl) (inr h)))
    (distinct_by ls (IsDistinct-tail nat_eq l.at (link_places ls) d) (λ x y h k. f x y (inr h) (inr k)))

module _ (list_of : ℕ → List Stored) (entries : List (Item × ℕ)) (id_at : ℕ → Option Identifier) (joins : ℕ → Option (ℕ × ℕ))
    (links : ℕ → List LinkSeen)
    (rising : ItemsRise entries) (canon : AllByRecursion (λ e. IsCanonItem e.0) entries) (single : AreSingle id_at)
    (joined : AreJoined entries id_at joins)
    (listed : AreListed joins (λ at. is_not_empty (list_of at)) links) where
  abbrev rows : List Attachment
  rows = rows_by list_of entries

  pair_is_ordered : (a b : Identifier) (at : ℕ) → Has entries (Pair a b, at) → identifier_order a b ≡ Less
  pair_is_ordered a b at h = (all_has (λ e. IsCanonItem e.0) entries canon (Pair a b, at) h).ordered

  -- what stands on the pair of two that are alike
  on_pair : (a b k m : Identifier) (at : ℕ) → Has entries (Pair a b, at) → Alike k a → Alike m b → list_of at ≡ stored_on (Pair k m) rows
  on_pair a b k m at h p q = stands list_of entries rising None (Pair a b) at h
      ∙ sym (stored_alike (Pair k m) (Pair a b) (same_pair a b k m p q) rows)

  on_ends : (at v w : ℕ) → joins at ≡ Some (v, w) → list_of at ≡ stored_linked (id_at v) (id_at w) rows
  on_ends at v w j =
      let e = joined.only at v w j
      in on_pair e.0 e.1 e.3.0 e.4.0 at e.2 e.3.2 e.4.2
      ∙ sym (ap (λ o. stored_linked o (id_at w) rows) e.3.1 ∙ ap (λ o. stored_linked (Some e.3.0) o rows) e.4.1
      ∙ ap (λ i. stored_where i rows) (pair_less e.0 e.1 e.3.0 e.4.0 e.3.2 e.4.2 (pair_is_ordered e.0 e.1 at e.2)))

  on_turned : (at v w : ℕ) → joins at ≡ Some (w, v) → list_of at ≡ stored_linked (id_at v) (id_at w) rows
  on_turned at v w j =
      let e = joined.only at w v j
      in on_pair e.0 e.1 e.3.0 e.4.0 at e.2 e.3.2 e.4.2
      ∙ sym (ap (λ o. stored_linked o (id_at w) rows) e.4.1 ∙ ap (λ o. stored_linked (Some e.4.0) o rows) e.3.1
      ∙ ap (λ i. stored_where i rows) (pair_more e.0 e.1 e.3.0 e.4.0 e.3.2 e.4.2 (pair_is_ordered e.0 e.1 at e.2)))

  -- what a slot that joins two numbers has is what is stored between them
  pub on_place : (at v w : ℕ) → JoinsNumbers joins at v w → list_of at ≡ stored_linked (id_at v) (id_at w) rows
  on_place at v w (inl j) = on_ends at v w j
  on_place at v w (inr j) = on_turned at v w j

  -- and so each handle leads to what is stored on its link
  pub handle_leads : (v : ℕ) (seen : LinkSeen) → Contains (links v) seen → list_of seen.at ≡ stored_linked (id_at v) (id_at seen.other) rows
  handle_leads v seen c = on_place seen.at v seen.other (listed.only v seen c).0

  pub only_links : (v w : ℕ) → Contains (others (links v)) w → IsLink rows id_at v w
  only_links v w c =
      let s = map_has (λ (l : LinkSeen). l.other) (links v) w (has_from _ _ c)
      in let l = listed.only v s.0 (from_has _ _ s.1)
      in subst (λ x. stored_linked (id_at v) (id_at x) rows ≢ []) s.2 (λ n. full_some (list_of s.0.at) l.1 (on_place s.0.at v s.0.other l.0
      ∙ n))

  slot_is_link : (v w at : ℕ) → JoinsNumbers joins at v w → is_not_empty (list_of at) ≡ true → Contains (others (links v)) w
  slot_is_link v w at j f = from_has _ _ (has_map (λ (l : LinkSeen). l.other) (links v) (record { other = w; at = at })
      (has_from _ _ (listed.each v w at j f)))

  -- what is stored on a pair stands at a slot that joins its numbers
  pair_has_slot : (k m : Identifier) → stored_on (Pair k m) rows ≢ [] → (o : Option ℕ) → lookup (is_at (item_order (Pair k m))) entries ≡ o
      → (at : ℕ) × (v : ℕ) × (w : ℕ) × (joins at ≡ Some (v, w)) × IsNumber id_at v k × IsNumber id_at w m ×
      (is_not_empty (list_of at) ≡ true)
  pair_has_slot k m n None e = absurd (n (sym (unlisted_empty list_of (Pair k m) entries e)))
  pair_has_slot k m n (Some at) e =
      let h = looked_up entries (Pair k m) at e
      in let t = pair_tied k m h.0 h.2
      in let j = joined.pairs t.0 t.1 at (subst (λ i. Has entries (i, at)) t.2 h.1)
      in (
        at,
        j.0,
        j.1,
        j.2,
        (j.3.0, j.3.1, j.3.2 ∙ t.3),
        (j.4.0, j.4.1, j.4.2 ∙ t.4),
        ap is_not_empty (entry_stores list_of (Pair k m) entries at rising e) ∙ some_full _ n,
      )

  same_number : (v w : ℕ) (a : Identifier) → IsNumber id_at v a → id_at w ≡ Some a → v ≡ w
  same_number v w a n e = single v w n.0 a n.1 e n.2

  stored_is_link : (v w : ℕ) (a b : Identifier) → id_at v ≡ Some a → id_at w ≡ Some b → stored_between a b rows ≢ []
      → Contains (others (links v)) w
  stored_is_link v w a b p q n = by (identifier_order a b) refl
    where
      by : (o : Ordering) → identifier_order a b ≡ o → Contains (others (links v)) w
      by Less is =
          let x = pair_has_slot a b (λ m. n (ap (λ o. stored_where (ordered_pair o a b) rows) is ∙ m)) _ refl
          in slot_is_link v w x.0 (inl (x.3 ∙ ap Some (ap (λ k. (k, x.2)) (same_number x.1 v a x.4 p) ∙ ap (λ k. (v, k))
          (same_number x.2 w b x.5 q)))) x.6
      by Equal is = absurd (n (ap (λ o. stored_where (ordered_pair o a b) rows) is))
      by Greater is =
          let x = pair_has_slot b a (λ m. n (ap (λ o. stored_where (ordered_pair o a b) rows) is ∙ m)) _ refl
          in slot_is_link v w x.0 (inr (x.3 ∙ ap Some (ap (λ k. (k, x.2)) (same_number x.1 w b x.4 q) ∙ ap (λ k. (w, k))
          (same_number x.2 v a x.5 p)))) x.6

  pub each_link : (v w : ℕ) → IsLink rows id_at v w → Contains (others (links v)) w
  each_link v w l = by (id_at v) (id_at w) refl refl l
    where
      by : (a b : Option Identifier) → id_at v ≡ a → id_at w ≡ b → stored_linked a b rows ≢ [] → Contains (others (links v)) w
      by None b p q n = absurd (n refl)
      by (Some a) None p q n = absurd (n refl)
      by (Some a) (Some b) p q n = stored_is_link v w a b p q n

  -- the number of an identifier, where bytes tell identifiers of elements apart
  module _ (tells : BytesTellIdentifiers) (keys : (v : ℕ) (a : Identifier) → id_at v ≡ Some a → IsIdentifier a) where
    exact : (v : ℕ) (a : Identifier) → IsIdentifier a → IsNumber id_at v a → id_at v ≡ Some a
    exact v a i n = n.1 ∙ ap Some (tells n.0 a (keys v n.0 n.1) i n.2)

    numbered : (a : Identifier) → stored_on (One a) rows ≢ [] → (o : Option ℕ) → lookup (is_at (item_order (One a))) entries ≡ o → (v : ℕ)
        × IsNumber id_at v a
    numbered a n None e = absurd (n (sym (unlisted_empty list_of (One a) entries e)))
    numbered a n (Some at) e =
        let h = looked_up entries (One a) at e
        in let t = one_tied a h.0 h.2
        in let j = joined.ones t.0 at (subst (λ i. Has entries (i, at)) t.1 h.1)
        in (j.0, (j.1.0, j.1.1, j.1.2 ∙ t.2))

    pub alone_on : (a : Identifier) → IsIdentifier a → stored_on (One a) rows ≢ [] → (v : ℕ) × (id_at v ≡ Some a)
    alone_on a i n = let x = numbered a n _ refl in (x.0, exact x.0 a i x.1)

    pub linked_is_numbered : (a b : Identifier) → IsIdentifier b → stored_between a b rows ≢ [] → (w : ℕ) × (id_at w ≡ Some b)
    linked_is_numbered a b i n = by (identifier_order a b) refl
      where
        by : (o : Ordering) → identifier_order a b ≡ o → (w : ℕ) × (id_at w ≡ Some b)
        by Less is = let x = pair_has_slot a b (λ m. n (ap (λ o. stored_where (ordered_pair o a b) rows) is ∙ m)) _ refl in
            (x.2, exact x.2 b i x.5)
        by Equal is = absurd (n (ap (λ o. stored_where (ordered_pair o a b) rows) is))
        by Greater is = let x = pair_has_slot b a (λ m. n (ap (λ o. stored_where (ordered_pair o a b) rows) is ∙ m)) _ refl in
            (x.1, exact x.1 b i x.4)

  -- one slot joins two numbers
  alike_of : (v : ℕ) (a b : Identifier) → IsNumber id_at v a → IsNumber id_at v b → Alike a b
  alike_of v a b p q = sym p.2 ∙ ap identifier_bytes (same_Some p.0 q.0 (sym p.1 ∙ q.1)) ∙ q.2

  straight : (at bt v w : ℕ) → joins at ≡ Some (v, w) → joins bt ≡ Some (v, w) → at ≡ bt
  straight at bt v w j k =
      let e = joined.only at v w j
      in let f = joined.only bt v w k
      in let t : item_order (Pair e.0 e.1) (Pair f.0 f.1) ≡ Equal = pairs_tie e.0 e.1 f.0 f.1 (alike_of v e.0 f.0 e.3 f.3)
      (alike_of w e.1 f.1 e.4 f.4)
      in same_Some at bt (sym (entry_hits entries (Pair e.0 e.1) at rising e.2) ∙ lookup_tied (Pair e.0 e.1) (Pair f.0 f.1) entries t
      ∙ entry_hits entries (Pair f.0 f.1) bt rising f.2)

  never_crossed : (at bt v w : ℕ) → joins at ≡ Some (v, w) → joins bt ≡ Some (w, v) → ⊥
  never_crossed at bt v w j k =
      let e = joined.only at v w j
      in let f = joined.only bt w v k
      in let back : identifier_order f.0 f.1 ≡ identifier_order e.1 e.0
      = order_alike e.1 e.0 f.0 f.1 (alike_of w f.0 e.1 f.3 e.4) (alike_of v f.1 e.0 f.4 e.3)
      in let q : Less ≡ Greater =
      sym (pair_is_ordered f.0 f.1 bt f.2) ∙ back ∙ turned_order e.1 e.0 ∙ ap ordering_reverse (pair_is_ordered e.0 e.1 at e.2)
      in cc

  one_slot : (at bt v w : ℕ) → JoinsNumbers joins at v w → JoinsNumbers joins bt v w → at ≡ bt
  one_slot at bt v w (inl j) (inl k) = straight at bt v w j k
  one_slot at bt v w (inl j) (inr k) = absurd (never_crossed at bt v w j k)
  one_slot at bt v w (inr j) (inl k) = absurd (never_crossed at bt w v j k)
  one_slot at bt v w (inr j) (inr k) = straight at bt w v j k

  -- so no other end is named twice, where no slot is
  pub links_apart : (v : ℕ) → IsDistinct nat_eq (link_places (links v)) → IsDistinct nat_eq (others (links v))
  links_apart v d = distinct_by (links v) d (λ l m h k e. one_slot l.at m.at v m.other
      (subst (λ w. JoinsNumbers joins l.at v w) e (listed.only v l (from_has _ _ h)).0) (listed.only v m (from_has _ _ k)).0)
