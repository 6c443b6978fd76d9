-- There is more room, or a shelf more: what is there stays, and others hold identifiers as often as before.
use Rattle.std.proofs.Common.{◌≡◌, ℕ, ◌+◌, ◌*◌, ◌-◌, ◌^◌, ◌<◌, ◌≤◌, Bool, cond, Option, Some, None, IsSome, unwrap_or, List, [], ◌∷◌, ◌++◌, length, option_map, take, get_or, refl, ap, ◌∙◌, sym, subst, inl, inr, arith, add-one}
use Rattle.std.proofs.lemmas.List.{append-nil, take_all}
use Rattle.std.proofs.Math.Seq.{take-suc}
use Rattle.std.specs.List.{AllByRecursion}
use Rattle.ifmap_ident.specs.declared.identifiers.Identifier.{Identifier}
use Rattle.ifmap_ident.specs.declared.items.Item.{Item}
use Rattle.ifmap_ident.specs.declared.items.Item.TheVariants.{One, Pair}
use Rattle.ifmap_ident.specs.Identifiers.{identifier_order}
use Rattle.ifmap_pool.specs.Holdings.{Holdings, IsPool, Names, entry_at, holds_at}
use Rattle.ifmap_view.specs.declared.views.LinkSeen.{LinkSeen}
use Rattle.slab.specs.Slab.{get}
use Rattle.ifmap_graph.specs.declared.shelves.Shelves.{Shelves}
use Rattle.ifmap_graph.specs.Bringing.{AreGrown, AreInside, BringsShelves, GraphFields, HasOwn, HaveFewOwn, flagged_items, graph_fields}
use Rattle.ifmap_graph.specs.Named.{uses_of, uses_in}
use Rattle.ifmap_graph.specs.Shelved.{slot_of_item}
use Rattle.ifmap_graph.specs.Sides.{Sides}
use Rattle.ifmap_graph.specs.Turning.{sides_at}
use Rattle.ifmap_graph.proofs.Alike.{alike_equal}
use Rattle.ifmap_graph.proofs.Brought.{brings_both, brings_none, there_still}
use Rattle.ifmap_graph.proofs.Changed.{held_alike, names_alike, holds_with_more_room}
use Rattle.ifmap_graph.proofs.Flags.{flagged_more, flagged_none}
use Rattle.ifmap_graph.proofs.Shelving.{Entries}
use Rattle.ifmap_graph.specs.NumberLaws.{once_few}

pub grown_itself : (p : GraphFields) → AreInside p → AreGrown p p
grown_itself p is = record {
  inside = is;
  now = refl;
  next = refl;
  bare = λ b. b;
  links = λ v. refl;
  longer = omega arith;
  kept = λ v a n. n;
  own = λ a own h. h;
}

pub grown_both : (p q r : GraphFields) → AreGrown p q → AreGrown q r → AreGrown p r
grown_both p q r a b = record {
  inside = b.inside;
  now = b.now ∙ a.now;
  next = b.next ∙ a.next;
  bare = λ x. b.bare (a.bare x);
  links = λ v. b.links v ∙ a.links v;
  longer = omega (arith, a.longer, b.longer);
  kept = λ v k n. b.kept v k (a.kept v k n);
  own = λ k own h. b.own k own (a.own k own h);
}

pub few_kept : (p q : GraphFields) → AreGrown p q → HaveFewOwn p → HaveFewOwn q
few_kept p q g few a = let f = few a in (f.0, g.own a f.0 f.1, f.2)

pub grown_room : (names more : Holdings Identifier) (s : Shelves) (links longer : List (Sides LinkSeen)) → more.live ≡ names.live
    → IsPool identifier_order more
    → ((v : ℕ) → sides_at longer v ≡ sides_at links v) → length links ≤ length longer → AreInside (graph_fields names s links)
    → AreGrown (graph_fields names s links) (graph_fields more s longer)
grown_room names more s links longer live pool same long is = record {
  inside = holds_with_more_room names more live (get s.slots) s.places.entries links longer pool same long is;
  now = refl;
  next = refl;
  bare = λ b. b;
  links = same;
  longer = long;
  kept = names_alike names more live;
  own = λ a own h. held_alike names more live a (uses_in s.places.entries a + own) h;
}

by_most : (i : Item) (a : Identifier) → uses_of i a ≤ 2
by_most (One b) a = omega (arith, once_few b a)
by_most (Pair b c) a = omega (arith, once_few b a, once_few c a)

in_most : (es : Entries) (a : Identifier) → uses_in es a ≤ 2 * length es
in_most [] a = omega arith
in_most (e ∷ es) a = omega (arith, by_most e.0 a, in_most es a)

-- so no number is held too often to be held twice more
pub few_holds : (p : GraphFields) → AreInside p → HaveFewOwn p → length p.shelves.places.entries < 2 ^ 62 → (v : ℕ)
    → holds_at p.names v < 2 ^ 64 - 2
few_holds p is few small v = by (entry_at p.names v) refl
  where
    none_held : (o : Option (Identifier × ℕ)) → o ≡ None → unwrap_or (option_map (λ x. x.1) o) 0 ≡ 0
    none_held o e = ap (λ o. unwrap_or (option_map (λ (x : Identifier × ℕ). x.1) o) 0) e

    held_so : (a : Identifier) → Names identifier_order p.names v a → (own : ℕ) → HasOwn p a own → own < 2 ^ 32
        → holds_at p.names v < 2 ^ 64 - 2
    held_so a n own (inl h) less =
        let same : holds_at p.names v ≡ uses_in p.shelves.places.entries a + own
        = ap (holds_at p.names) (is.pool.one_to_one v h.0 a n h.1) ∙ h.2
        in omega (arith, same, in_most p.shelves.places.entries a, small, less)
    held_so a n own (inr h) less = absurd (h.0 v n)

    by : (o : Option (Identifier × ℕ)) → entry_at p.names v ≡ o → holds_at p.names v < 2 ^ 64 - 2
    by None e = let zero : holds_at p.names v ≡ 0 = none_held (entry_at p.names v) e in omega (arith, zero)
    by (Some x) e = let f = few x.0 in held_so x.0 (x, e, alike_equal x.0 x.0 refl) f.0 f.1 f.2

-- the items of a change get their shelves, one after another
module _ (items : List Item) (first : GraphFields) where
  pub record Placing (p : GraphFields) (flags : List Bool) (i : ℕ) : Type 0 where
    pub grown : AreGrown first p
    pub long : length flags ≡ i
    pub brought : BringsShelves (flagged_items items flags) first.shelves p.shelves
    pub there : AllByRecursion (λ x. IsSome (slot_of_item p.shelves x)) (take i items)

  pub begins_placing : AreInside first → (flags : List Bool) → flags ≡ [] → Placing first flags 0
  begins_placing is flags e = record {
    grown = grown_itself first is;
    long = ap length e;
    brought = subst (λ l. BringsShelves (flagged_items items l) first.shelves first.shelves) (sym e)
        (subst (λ l. BringsShelves l first.shelves first.shelves) (sym (flagged_none items))
        (brings_none first.shelves first.shelves refl (λ at. refl) (λ x. refl)));
    there = tt;
  }

  module _ (p q : GraphFields) (flags : List Bool) (i : ℕ) (g : Placing p flags i) (grown : AreGrown p q) where
    -- one that fails brings none
    pub places_none : BringsShelves [] p.shelves q.shelves → BringsShelves (flagged_items items flags) first.shelves q.shelves
    places_none b =
        subst (λ l. BringsShelves l first.shelves q.shelves) (append-nil (flagged_items items flags))
        (brings_both (flagged_items items flags) [] first.shelves p.shelves q.shelves g.brought b)

    pub grown_on : AreGrown first q
    grown_on = grown_both first p q g.grown grown

    all_still : (xs : List Item) (came : List Item) → BringsShelves came p.shelves q.shelves
        → AllByRecursion (λ x. IsSome (slot_of_item p.shelves x)) xs
        → AllByRecursion (λ x. IsSome (slot_of_item q.shelves x)) xs
    all_still [] came b a = tt
    all_still (x ∷ xs) came b a = (there_still came p.shelves q.shelves b x a.0, all_still xs came b a.1)

    all_snoc : (P : Item → Type 0) (xs : List Item) (x : Item) → AllByRecursion P xs → P x → AllByRecursion P (xs ++ x ∷ [])
    all_snoc P [] x a h = (h, tt)
    all_snoc P (y ∷ ys) x a h = (a.0, all_snoc P ys x a.1 h)

    pub places_on : (x : Item) (came : Bool) (later : List Bool) → i < length items → get_or items i x ≡ x → later ≡ flags ++ came ∷ []
        → BringsShelves (cond came (x ∷ []) []) p.shelves q.shelves → IsSome (slot_of_item q.shelves x) → Placing q later (i + 1)
    places_on x came later h is e b there = record {
      grown = grown_on;
      long = ap length e ∙ one_longer flags came ∙ ap (λ n. n + 1) g.long;
      brought =
          subst (λ l. BringsShelves (flagged_items items l) first.shelves q.shelves) (sym e)
          (subst (λ l. BringsShelves l first.shelves q.shelves) (sym one_flag)
          (brings_both (flagged_items items flags) (cond came (x ∷ []) []) first.shelves p.shelves q.shelves g.brought b));
      there = subst (λ l. AllByRecursion (λ x. IsSome (slot_of_item q.shelves x)) l)
          (ap (λ y. take i items ++ y ∷ []) (sym is) ∙ sym (take-suc items i x h) ∙ ap (λ n. take n items) (sym (add-one i)))
          (all_snoc (λ x. IsSome (slot_of_item q.shelves x)) (take i items) x
          (all_still (take i items) (cond came (x ∷ []) []) b g.there) there);
    }
      where
        one_longer : (ms : List Bool) (m : Bool) → length (ms ++ m ∷ []) ≡ length ms + 1
        one_longer [] m = refl
        one_longer (x ∷ xs) m = omega (arith, one_longer xs m)

        one_flag : flagged_items items (flags ++ came ∷ []) ≡ flagged_items items flags ++ cond came (x ∷ []) []
        one_flag =
            flagged_more items flags came x (omega (arith, h, g.long))
            ∙ ap (λ n. flagged_items items flags ++ cond came (get_or items n x ∷ []) []) g.long
            ∙ ap (λ y. flagged_items items flags ++ cond came (y ∷ []) []) is

  pub placed_there : (p : GraphFields) (flags : List Bool) (i : ℕ) → length items ≤ i → Placing p flags i
      → AllByRecursion (λ x. IsSome (slot_of_item p.shelves x)) items
  placed_there p flags i h g = subst (λ l. AllByRecursion (λ x. IsSome (slot_of_item p.shelves x)) l) (take_all i items h) g.there
