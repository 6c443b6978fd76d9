-- The items collected number by number are those that the search looks at, and give the result.
-- 1. Which numbers are passed: those of the identifiers that are expanded (`passed_expanded`,
--    `expanded_passed`).
-- 2. An item that is collected is looked at (`looked_at`), and is one that elements mean
--    (`canon_of`).
-- 3. An item that is looked at is brought by one of its ends, so it is collected (`collects`); all
--    together is `all_collected`.
-- 4. Entries item by item are a filtered list of attachments (`entries_gathered`).
-- 5. So what stands on the items and meets the filter is the result (`entries_are`).
use Rattle.std.proofs.Common.{◌≡◌, ◌≢◌, ℕ, ◌<◌, Bool, true, false, cond, not, ◌&&◌, ◌||◌, Option, Some, None, List, [], ◌∷◌}
use Rattle.std.proofs.Common.{◌++◌, map, nat_lt, option_and_then, refl, ap, ◌∙◌, sym, subst, inl, inr, arith}
use Rattle.std.proofs.lemmas.Bool.{and_parts, cases_Bool, lt-ltb, ltb-true, not-true, or_cases, or_right}
use Rattle.std.proofs.lemmas.List.{map-append}
use Rattle.std.proofs.lemmas.List.Elements.{filter-append}
use Rattle.std.proofs.lemmas.Option.{same_Some, none-some}
use Rattle.std.specs.Cmp.{both_ways}
use Rattle.std.specs.List.{AllByRecursion, filter, filter_map}
use Rattle.ifmap_search.specs.ifmap_filter.declared.filters.Filter.{Filter}
use Rattle.ifmap_search.specs.ifmap_filter.Meets.{meets_optional}
use Rattle.ifmap_ident.specs.declared.identifiers.Identifier.{Identifier}
use Rattle.ifmap_ident.specs.declared.items.Item.{Item}
use Rattle.ifmap_ident.specs.declared.items.Item.TheVariants.{One, Pair}
use Rattle.ifmap_ident.specs.Canon.{IsIdentifier}
use Rattle.ifmap_ident.specs.Items.{IsCanonItem, pair_of, same_item}
use Rattle.ifmap_lemmas.specs.Having.{Has, any_has, has_either, has_filter, has_from, has_joined, has_left, has_map, has_mapped, has_right, joined_has, map_has, mapped_has}
use Rattle.ifmap_lemmas.specs.Filters.{filter_alike, filter_twice}
use Rattle.ifmap_lemmas.specs.Numbers.{less_one_way}
use Rattle.ifmap_meta.specs.declared.stored.Stored.{Stored}
use Rattle.ifmap_region.specs.Walks.{AreDepths}
use Rattle.ifmap_search.specs.declared.searches.Search.{Search}
use Rattle.ifmap_view.specs.declared.attachments.Attachment.{Attachment}
use Rattle.ifmap_view.specs.declared.views.LinkSeen.{LinkSeen}
use Rattle.ifmap_view.specs.Attachments.{IsGraph, row_on}
use Rattle.ifmap_view.specs.Rows.{stored_between, stored_linked, stored_on}
use Rattle.ifmap_view.specs.Views.{IsView}
use Rattle.ifmap_fresh.specs.Collected.{AreLookedAt, is_below, is_passed, item_along, item_to, items_of_number, items_of_numbers}
use Rattle.ifmap_fresh.specs.Fresh.{fresh, is_found, is_looked_at}
use Rattle.ifmap_fresh.specs.Gathered.{entries_of, entries_on, stored_entry, gathered_rows, has_item}
use Rattle.ifmap_fresh.specs.Items.{item_alone, pair_at}
use Rattle.ifmap_fresh.specs.Linking.{end_where, is_terminal_at}
use Rattle.ifmap_fresh.specs.Matching.{is_match, is_terminal, one_meets}
use Rattle.ifmap_fresh.specs.Numbered.{HaveMatchingLink, is_terminal_number}
use Rattle.ifmap_fresh.specs.Reached.{is_expanded, is_reached}
use Rattle.ifmap_fresh.specs.laws.GatheringLaws.{gathers, items_grouped, all_items, row_entry}
use Rattle.ifmap_fresh.specs.laws.JoiningLaws.{match_turned, some_if_met}
use Rattle.ifmap_fresh.proofs.Levels.{expanded_walk, reached_by_walks, walk_expanded}
use Rattle.ifmap_fresh.proofs.Meaning.{mark_walk, to_identifier, to_number, walk_mark}
use Rattle.ifmap_fresh.specs.laws.SameLaws.{member, pair_canon, pair_is, pair_parts, pair_turned}
use Rattle.ifmap_ident.specs.SameLaws.{item_itself, BytesTellIdentifiers, same_item_is}

-- items that a search looks at, each of them at least once
pub record AreCollected (rows : List Attachment) (s : Search) (items : List Item) : Type 0 where
  pub there : (x : Item) → Has items x → is_looked_at rows s x ≡ true
  pub back : (x : Item) → IsCanonItem x → is_looked_at rows s x ≡ true → Has items x
  pub canon : (x : Item) → Has items x → IsCanonItem x

module _ (tells : BytesTellIdentifiers) (rows : List Attachment) (id_at : ℕ → Option Identifier) (links : ℕ → List LinkSeen) (s : Search)
    (is : IsView rows id_at links)
    (first : IsIdentifier s.start) (start : ℕ) (here : id_at start ≡ Some s.start) (mark : ℕ → Option ℕ)
    (depths : AreDepths (HaveMatchingLink rows id_at links s) (is_terminal_number rows id_at links s) start s.max_depth mark)
    (keys : List ℕ) (keyed : (v k : ℕ) → mark v ≡ Some k → Has keys v) (marked : (v : ℕ) → Has keys v → (k : ℕ) × (mark v ≡ Some k)) where
  abbrev is_crossed : ℕ → Bool
  is_crossed v = is_passed rows id_at links s mark v

  below_mark : (o : Option ℕ) → is_below s.max_depth o ≡ true → (k : ℕ) × (o ≡ Some k) × (k < s.max_depth)
  below_mark None e = let q : false ≡ true = e in cc
  below_mark (Some k) e = (k, refl, ltb-true k s.max_depth e)

  passed_expanded : (v : ℕ) (a : Identifier) → id_at v ≡ Some a → is_crossed v ≡ true → is_expanded rows s a ≡ true
  passed_expanded v a i e =
      let p = and_parts (is_below s.max_depth (mark v)) (not (is_terminal_at s.terminal (id_at v))) e
      in let m = below_mark (mark v) p.0
      in let w = to_identifier rows id_at links s is start here m.0 v (mark_walk rows id_at links s is start here mark depths v m.0 m.1).1
      in let same : w.0 ≡ a = same_Some w.0 a (sym w.1 ∙ i)
      in let t : is_terminal s.terminal a ≡ false = not-true (is_terminal s.terminal a)
      (subst (λ o. not (is_terminal_at s.terminal o) ≡ true) i p.1)
      in subst (λ x. is_expanded rows s x ≡ true) same
      (walk_expanded tells rows is.graph.items s first w.0 m.0 (subst (λ x. is_terminal s.terminal x ≡ false) (sym same) t) m.2 w.2)

  -- the number of an expanded identifier is passed, and is among the keys
  expanded_passed : (a : Identifier) → IsIdentifier a → is_expanded rows s a ≡ true → (v : ℕ) × (id_at v ≡ Some a) × (is_crossed v ≡ true)
      × Has keys v
  expanded_passed a i e =
      let x = expanded_walk tells rows is.graph.items s first a i e
      in let n = to_number rows id_at links s is start here x.1.0 a x.1.2
      in let m = walk_mark rows id_at links s is start here mark depths n.0 x.1.0 (omega (arith, x.1.1)) n.2
      in let low : is_below s.max_depth (mark n.0) ≡ true = subst (λ o. is_below s.max_depth o ≡ true) (sym m.1)
      (lt-ltb m.0 s.max_depth (omega (arith, m.2, x.1.1)))
      in let t : is_terminal_at s.terminal (id_at n.0) ≡ false = subst (λ o. is_terminal_at s.terminal o ≡ false) (sym n.1) x.0
      in (n.0, n.1, rw (low, t) refl, keyed n.0 m.0 m.1)

  -- an item of a link that is brought is looked at
  linked_looked : (v w : ℕ) (a b : Identifier) (item : Item) → id_at v ≡ Some a → is_crossed v ≡ true
      → is_match rows s.match_links a b ≡ true → pair_of a b ≡ Some item
      → is_looked_at rows s item ≡ true
  linked_looked v w a b item i p m e = elim (pair_parts a b item e) [
    | inl q ↦ subst (λ x. is_looked_at rows s x ≡ true) (sym q) (rw (m, passed_expanded v a i p) refl)
    | inr q ↦ subst (λ x. is_looked_at rows s x ≡ true) (sym q)
        (let n : is_match rows s.match_links b a ≡ true = match_turned rows s.match_links b a ∙ m
        in rw n (or_right (is_expanded rows s b) (is_expanded rows s a) (passed_expanded v a i p)))
  ]

  along_looked : (v : ℕ) (seen : LinkSeen) (item : Item) → is_crossed v ≡ true → item_along rows id_at links s mark v seen ≡ Some item
      → is_looked_at rows s item ≡ true
  along_looked v seen item p e = by_match (one_meets s.match_links (stored_linked (id_at v) (id_at seen.other) rows)) refl e
    where
      by_ends : (a b : Option Identifier) → id_at v ≡ a → id_at seen.other ≡ b → one_meets s.match_links (stored_linked a b rows) ≡ true
          → pair_at a b ≡ Some item → is_looked_at rows s item ≡ true
      by_ends None b i j m q = absurd (none-some item q)
      by_ends (Some a) None i j m q = absurd (none-some item q)
      by_ends (Some a) (Some b) i j m q = linked_looked v seen.other a b item i p m q

      by_lesser : (c : Bool) → one_meets s.match_links (stored_linked (id_at v) (id_at seen.other) rows) ≡ true
          → cond c None (pair_at (id_at v) (id_at seen.other)) ≡ Some item → is_looked_at rows s item ≡ true
      by_lesser true m q = absurd (none-some item q)
      by_lesser false m q = by_ends (id_at v) (id_at seen.other) refl refl m q

      by_match : (c : Bool) → one_meets s.match_links (stored_linked (id_at v) (id_at seen.other) rows) ≡ c
          → option_and_then (item_to rows id_at links s mark v) (cond c (Some seen.other) None) ≡ Some item
          → is_looked_at rows s item ≡ true
      by_match true m q = by_lesser (nat_lt seen.other v && is_crossed seen.other) m q
      by_match false m q = absurd (none-some item q)

  looked_at : (item : Item) → Has (items_of_numbers rows id_at links s mark keys) item → is_looked_at rows s item ≡ true
  looked_at item h =
      let j = joined_has (items_of_number rows id_at links s mark) keys item h
      in elim (has_either (item_alone (id_at j.0)) (cond (is_crossed j.0)
      (filter_map (item_along rows id_at links s mark j.0) (links j.0)) []) item j.2) [
        | inl p ↦ own j.0 (id_at j.0) refl j.1 p
        | inr p ↦ others j.0 (is_crossed j.0) refl p
      ]
    where
      own : (v : ℕ) (o : Option Identifier) → id_at v ≡ o → Has keys v → Has (item_alone o) item → is_looked_at rows s item ≡ true
      own v None i k h = absurd h
      own v (Some a) i k (inr h) = absurd h
      own v (Some a) i k (inl e) =
          let m = marked v k
          in let w = mark_walk rows id_at links s is start here mark depths v m.0 m.1
          in let x = to_identifier rows id_at links s is start here m.0 v w.1
          in let same : x.0 ≡ a = same_Some x.0 a (sym x.1 ∙ i)
          in subst (λ y. is_looked_at rows s y ≡ true) e
          (subst (λ y. is_reached rows s y ≡ true) same ((reached_by_walks tells rows is.graph.items s first x.0 (is.canon v x.0 x.1)).1
          (m.0, w.0, x.2)))

      others : (v : ℕ) (c : Bool) → is_crossed v ≡ c → Has (cond c (filter_map (item_along rows id_at links s mark v) (links v)) []) item
          → is_looked_at rows s item ≡ true
      others v true p h = let x = mapped_has (item_along rows id_at links s mark v) (links v) item h in along_looked v x.0 item p x.2
      others v false p h = absurd h

  -- and it is an item that elements mean
  canon_of : (item : Item) → Has (items_of_numbers rows id_at links s mark keys) item → IsCanonItem item
  canon_of item h =
      let j = joined_has (items_of_number rows id_at links s mark) keys item h
      in elim (has_either (item_alone (id_at j.0)) (cond (is_crossed j.0)
      (filter_map (item_along rows id_at links s mark j.0) (links j.0)) []) item j.2) [
        | inl p ↦ own j.0 (id_at j.0) refl p
        | inr p ↦ others j.0 (is_crossed j.0) p
      ]
    where
      own : (v : ℕ) (o : Option Identifier) → id_at v ≡ o → Has (item_alone o) item → IsCanonItem item
      own v None i h = absurd h
      own v (Some a) i (inr h) = absurd h
      own v (Some a) i (inl e) = subst IsCanonItem e (record { ordered = tt; identifiers = (is.canon v a i, tt) })

      ends : (v w : ℕ) (a b : Option Identifier) → id_at v ≡ a → id_at w ≡ b → pair_at a b ≡ Some item → IsCanonItem item
      ends v w None b i j q = absurd (none-some item q)
      ends v w (Some a) None i j q = absurd (none-some item q)
      ends v w (Some a) (Some b) i j q = pair_canon a b item (is.canon v a i) (is.canon w b j) q

      lesser : (v w : ℕ) (c : Bool) → cond c None (pair_at (id_at v) (id_at w)) ≡ Some item → IsCanonItem item
      lesser v w true q = absurd (none-some item q)
      lesser v w false q = ends v w (id_at v) (id_at w) refl refl q

      along : (v : ℕ) (o : Option ℕ) → option_and_then (item_to rows id_at links s mark v) o ≡ Some item → IsCanonItem item
      along v None q = absurd (none-some item q)
      along v (Some w) q = lesser v w (nat_lt w v && is_crossed w) q

      others : (v : ℕ) (c : Bool) → Has (cond c (filter_map (item_along rows id_at links s mark v) (links v)) []) item → IsCanonItem item
      others v true h =
          let x = mapped_has (item_along rows id_at links s mark v) (links v) item h
          in along v (end_where rows id_at s.match_links v (Some x.0)) x.2
      others v false h = absurd h

  -- a number that is passed brings the item of a matching link, where no lesser number does
  brings : (v w : ℕ) (a b : Identifier) (item : Item) → id_at v ≡ Some a → id_at w ≡ Some b → is_crossed v ≡ true
      → (nat_lt w v && is_crossed w) ≡ false
      → is_match rows s.match_links a b ≡ true → pair_of a b ≡ Some item → Has keys v
      → Has (items_of_numbers rows id_at links s mark keys) item
  brings v w a b item i j p first m e k =
      let linked : stored_linked (id_at v) (id_at w) rows ≡ stored_between a b rows
      = ap (λ o. stored_linked o (id_at w) rows) i ∙ ap (λ o. stored_linked (Some a) o rows) j
      in let matches : one_meets s.match_links (stored_linked (id_at v) (id_at w) rows) ≡ true = ap (one_meets s.match_links) linked ∙ m
      in let there = map_has (λ (l : LinkSeen). l.other) (links v) w
      (has_from _ w (is.each v w (some_if_met s.match_links (stored_linked (id_at v) (id_at w) rows) matches)))
      in let along : item_along rows id_at links s mark v there.0 ≡ Some item
      = ap (λ b. option_and_then (item_to rows id_at links s mark v) (cond b (Some there.0.other) None))
      (ap (λ x. one_meets s.match_links (stored_linked (id_at v) (id_at x) rows)) there.2 ∙ matches)
      ∙ ap (λ x. item_to rows id_at links s mark v x) there.2
      ∙ ap (λ b. cond b None (pair_at (id_at v) (id_at w))) first
      ∙ ap (λ o. pair_at o (id_at w)) i ∙ ap (λ o. pair_at (Some a) o) j ∙ e
      in has_joined (items_of_number rows id_at links s mark) keys v item k
      (has_right (item_alone (id_at v)) (cond (is_crossed v) (filter_map (item_along rows id_at links s mark v) (links v)) []) item
      (subst (λ c. Has (cond c (filter_map (item_along rows id_at links s mark v) (links v)) []) item) (sym p)
      (has_mapped (item_along rows id_at links s mark v) (links v) there.0 item there.1 along)))

  from_end : (a b : Identifier) (item : Item) → IsIdentifier a → IsIdentifier b → is_match rows s.match_links a b ≡ true
      → pair_of a b ≡ Some item → is_expanded rows s a ≡ true
      → Has (items_of_numbers rows id_at links s mark keys) item
  from_end a b item i j m e x =
      let v = expanded_passed a i x
      in let w = is.linked a b j (some_if_met s.match_links (stored_between a b rows) m)
      in elim (cases_Bool (nat_lt w.0 v.0 && is_crossed w.0)) [
        | inr f ↦ brings v.0 w.0 a b item v.1 w.1 v.2 f m e v.3
        | inl t ↦ let p = and_parts (nat_lt w.0 v.0) (is_crossed w.0) t
            in let first : (nat_lt v.0 w.0 && is_crossed v.0) ≡ false = ap (λ c. c && is_crossed v.0) (less_one_way w.0 v.0 p.0)
            in brings w.0 v.0 b a item w.1 v.1 p.1 first (match_turned rows s.match_links b a ∙ m) (pair_turned b a ∙ e) (key_of w.0 p.1)
      ]
    where
      key_of : (v : ℕ) → is_crossed v ≡ true → Has keys v
      key_of v p =
          let q = and_parts (is_below s.max_depth (mark v)) (not (is_terminal_at s.terminal (id_at v))) p
          in let m = below_mark (mark v) q.0 in keyed v m.0 m.1

  collects : (item : Item) → IsCanonItem item → is_looked_at rows s item ≡ true
      → Has (items_of_numbers rows id_at links s mark keys) item
  collects (One a) i e =
      let r = (reached_by_walks tells rows is.graph.items s first a i.identifiers.0).0 e
      in let n = to_number rows id_at links s is start here r.0 a r.2
      in let m = walk_mark rows id_at links s is start here mark depths n.0 r.0 r.1 n.2
      in has_joined (items_of_number rows id_at links s mark) keys n.0 (One a) (keyed n.0 m.0 m.1)
      (has_left (item_alone (id_at n.0)) (cond (is_crossed n.0) (filter_map (item_along rows id_at links s mark n.0) (links n.0)) [])
      (One a)
      (subst (λ o. Has (item_alone o) (One a)) (sym n.1) (inl refl)))
  collects (Pair a b) i e =
      let p = and_parts (is_match rows s.match_links a b) (is_expanded rows s a || is_expanded rows s b) e
      in elim (or_cases (is_expanded rows s a) (is_expanded rows s b) p.1) [
        | inl x ↦ from_end a b (Pair a b) i.identifiers.0 i.identifiers.1.0 p.0 (pair_is a b i.ordered) x
        | inr x ↦ from_end b a (Pair a b) i.identifiers.1.0 i.identifiers.0 (match_turned rows s.match_links b a ∙ p.0)
            (pair_turned b a ∙ pair_is a b i.ordered) x
      ]

  -- so the items that are collected are what the search looks at
  pub all_collected : (items : List Item) → items ≡ items_of_numbers rows id_at links s mark keys → AreCollected rows s items
  all_collected items e = record {
    there = λ x h. looked_at x (subst (λ (l : List Item). Has l x) e h);
    back = λ x i l. subst (λ (xs : List Item). Has xs x) (sym e) (collects x i l);
    canon = λ x h. canon_of x (subst (λ (l : List Item). Has l x) e h);
  }

module _ (by : Option Filter) where
  abbrev meets_filter : Attachment → Bool
  meets_filter r = meets_optional by r.stored.element

  one_item : (i : Item) (xs : List Stored) → entries_of by i xs ≡ map row_entry (filter meets_filter (map (row_on i) xs))
  one_item i [] = refl
  one_item i (x ∷ xs) = elim (cases_Bool (meets_optional by x.element)) [
    | inl t ↦ rw t (ap (λ l. stored_entry i x ∷ l) (one_item i xs))
    | inr t ↦ rw t (one_item i xs)
  ]

  pub entries_gathered : (rows : List Attachment) (items : List Item)
      → entries_on by rows items ≡ map row_entry (filter meets_filter (gathered_rows rows items))
  entries_gathered rows [] = refl
  entries_gathered rows (i ∷ is) =
      ap (λ l. l ++ entries_on by rows is) (one_item i (stored_on i rows))
      ∙ ap (λ l. map row_entry (filter meets_filter (map (row_on i) (stored_on i rows))) ++ l) (entries_gathered rows is)
      ∙ sym (map-append row_entry (filter meets_filter (map (row_on i) (stored_on i rows))) (filter meets_filter (gathered_rows rows is)))
      ∙ sym (ap (map row_entry) (filter-append meets_filter (map (row_on i) (stored_on i rows)) (gathered_rows rows is)))

all_of : (P : Attachment → Type 0) (rs : List Attachment) → ((r : Attachment) → Has rs r → P r) → AllByRecursion P rs
all_of P [] f = tt
all_of P (r ∷ rs) f = (f r (inl refl), all_of P rs (λ x h. f x (inr h)))

-- an item of an attachment carries something
carries : (rows : List Attachment) (r : Attachment) → Has rows r → stored_on r.item rows ≢ []
carries rows r h e =
    subst (λ l. Has l r.stored) e
    (has_map (λ (x : Attachment). x.stored) (filter (λ x. same_item x.item r.item) rows) r
    (has_filter (λ x. same_item x.item r.item) rows r h (item_itself r.item)))

module _ (tells : BytesTellIdentifiers) (rows : List Attachment) (s : Search) (items : List Item) (graph : IsGraph rows)
    (are : AreLookedAt rows s items) where
  among : (x : Item) → IsCanonItem x → stored_on x rows ≢ [] → has_item items x ≡ is_looked_at rows s x
  among x i n = both_ways (has_item items x) (is_looked_at rows s x)
      (λ h. let f = any_has (same_item x) items h
      in are.there x (subst (λ y. Has items y) (sym (same_item_is tells x f.0 i.identifiers (are.canon f.0 f.1).identifiers f.2)) f.1))
      (λ e. are.back x i n e)

  all_among : AllByRecursion (λ r. (has_item items r.item && meets_filter s.result_filter r) ≡ is_found rows s r) rows
  all_among = all_of (λ r. (has_item items r.item && meets_filter s.result_filter r) ≡ is_found rows s r) rows
      (λ r h. ap (λ b. b && meets_filter s.result_filter r) (among r.item (member (λ r. IsCanonItem r.item) rows graph.items r h)
      (carries rows r h)))

  -- what stands on the items and meets the filter is the result
  pub entries_are : entries_on s.result_filter rows items ≡ fresh rows s
  entries_are =
      entries_gathered s.result_filter rows items
      ∙ ap (λ l. map row_entry (filter (meets_filter s.result_filter) l))
      (gathers tells rows items graph.items (all_items items are.canon) (items_grouped rows graph.rising) are.rising)
      ∙ ap (map row_entry) (filter_twice (λ r. has_item items r.item) (meets_filter s.result_filter) rows
      ∙ filter_alike (λ r. has_item items r.item && meets_filter s.result_filter r) (is_found rows s) rows all_among)
