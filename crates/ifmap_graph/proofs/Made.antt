-- A change came to be out, or did not: what is there then.
use Rattle.std.proofs.Common.{◌≡◌, ℕ, ◌+◌, ◌<◌, ◌≤◌, Option, None, IsSome, List, [], ◌∷◌, length, refl, ap, ◌∙◌, sym, subst, inl, inr, arith}
use Rattle.std.specs.BTreeMap.{is_at}
use Rattle.std.specs.List.{AllByRecursion}
use Rattle.std.specs.Map.{lookup}
use Rattle.ifmap_ident.specs.declared.identifiers.Identifier.{Identifier}
use Rattle.ifmap_ident.specs.declared.items.Item.{Item}
use Rattle.ifmap_ident.specs.Identifiers.{identifier_order}
use Rattle.ifmap_ident.specs.Items.{IsCanonItem, item_order}
use Rattle.ifmap_plans.specs.declared.plans.ItemChange.{ItemChange}
use Rattle.ifmap_plans.specs.Plans.{FitsItem, IsAfter}
use Rattle.ifmap_pool.specs.Holdings.{Holdings, IsHeld, IsPool, Names, holds_at}
use Rattle.ifmap_view.specs.declared.attachments.Attachment.{Attachment}
use Rattle.ifmap_view.specs.declared.views.LinkSeen.{LinkSeen}
use Rattle.ifmap_graph.specs.declared.shelves.Shelves.{Shelves}
use Rattle.ifmap_graph.specs.Bringing.{AreGrown, AreInside, BringsShelves, GraphFields, HasOwn, IsOther, graph_fields}
use Rattle.ifmap_graph.specs.Drafted.{AreBare, AreOut, ends_at}
use Rattle.ifmap_graph.specs.Making.{IsMade, IsUnmade}
use Rattle.ifmap_graph.specs.Named.{uses_in}
use Rattle.ifmap_graph.specs.Out.{items_changed}
use Rattle.ifmap_graph.specs.Shelved.{slot_of_item, rows_on_side}
use Rattle.ifmap_graph.specs.Sides.{Sides, list_next, list_now}
use Rattle.ifmap_graph.specs.Touched.{AreExactlyDrafted, KeepsLinks}
use Rattle.ifmap_graph.specs.Turning.{sides_at}
use Rattle.ifmap_graph.specs.Waits.{WaitsFor}
use Rattle.ifmap_graph.proofs.Brought.{other_absent}
use Rattle.ifmap_lemmas.specs.Options.{is_some_of}

-- the items of changes that fit are such as elements mean
pub all_canon : (rows : List Attachment) (changes : List ItemChange) → AllByRecursion (FitsItem rows) changes
    → AllByRecursion IsCanonItem (items_changed changes)
all_canon rows [] a = tt
all_canon rows (c ∷ cs) a = (a.0.canon, all_canon rows cs a.1)

-- where nothing is drafted, no way is named
pub none_ready : (ways : List (ℕ × List LinkSeen)) (links : List (Sides LinkSeen)) → ways ≡ [] → ((v : ℕ) → (sides_at links v).draft ≡ None)
    → AreExactlyDrafted ways links
none_ready ways links e none = subst (λ w. AreExactlyDrafted w links) (sym e) (record { drafted = tt; no_others = λ v. inl (none v) })

pub made_by : (changes : List ItemChange) (ways : List (ℕ × List LinkSeen)) (items : List Item) (first old : GraphFields) (t : Shelves)
    (links : List (Sides LinkSeen))
    → AreGrown first old → BringsShelves items first.shelves old.shelves → AreInside (graph_fields old.names t links)
    → rows_on_side list_now t ≡ rows_on_side list_now old.shelves
    → IsAfter changes (rows_on_side list_now old.shelves) (rows_on_side list_next t) → AreOut (items_changed changes) t
    → AreExactlyDrafted ways links
    → KeepsLinks old.links links
    → ((at : ℕ) → ends_at t at ≡ ends_at old.shelves at) → t.places ≡ old.shelves.places
    → ((x : Item) → IsOther (items_changed changes) x → IsOther items x) → WaitsFor (items_changed changes) old.shelves t
    → IsMade changes ways first (graph_fields old.names t links)
made_by changes ways items first old t links grown brought inside rows after out ready kept ends places within waits = record {
  inside = inside;
  rows = rows ∙ grown.now;
  after = subst (λ r. IsAfter changes r (rows_on_side list_next t)) grown.now after;
  out = out;
  ready = ready;
  links = λ v. kept.now v ∙ ap (λ s. s.now) (grown.links v);
  longer = omega (arith, grown.longer, kept.long);
  kept = grown.kept;
  own = λ a own h. subst (λ p. IsHeld identifier_order old.names a (uses_in p.entries a + own)) (sym places) (grown.own a own h);
  places = λ x at e.
      let o = other_absent first.shelves items x brought.absent (is_some_of (slot_of_item first.shelves x) at e)
      in (ap (λ p. lookup (is_at (item_order x)) p.entries) places ∙ brought.places x o ∙ e, ends at ∙ brought.ends x at e);
  same = λ x o. ap (λ p. lookup (is_at (item_order x)) p.entries) places ∙ brought.places x (within x o);
  waits = λ x. omega (arith, waits x, brought.waits x);
}

-- what was held so often before and is now, has the numbers that it had
module _ (one two mid : Holdings Identifier) (first : IsPool identifier_order one) (between : IsPool identifier_order mid)
    (from : (v : ℕ) (a : Identifier) → Names identifier_order one v a → Names identifier_order mid v a)
    (into : (v : ℕ) (a : Identifier) → Names identifier_order two v a → Names identifier_order mid v a)
    (counts : (a : Identifier) → (n : ℕ) × IsHeld identifier_order one a n × IsHeld identifier_order two a n) where
  held_once : (v : ℕ) (a : Identifier) (n : ℕ) → Names identifier_order one v a → IsHeld identifier_order one a n → 0 < n
  held_once v a n m (inl h) =
      let same : holds_at one v ≡ n = ap (holds_at one) (first.one_to_one v h.0 a m h.1) ∙ h.2
      in let some : 0 < holds_at one v
      = first.held v (subst (λ (o : Option (Identifier × ℕ)). IsSome o) (sym m.1) refl) in omega (arith, same, some)
  held_once v a n m (inr h) = absurd (h.0 v m)

  uses_of : (v : ℕ) (a : Identifier) (n : ℕ) → Names identifier_order one v a → 0 < n → IsHeld identifier_order two a n
      → Names identifier_order two v a
  uses_of v a n m some (inl h) = subst (λ k. Names identifier_order two k a) (between.one_to_one h.0 v a (into h.0 a h.1) (from v a m)) h.1
  uses_of v a n m some (inr h) = absurd (omega (arith, some, h.1))

  pub same_names : (v : ℕ) (a : Identifier) → Names identifier_order one v a → Names identifier_order two v a
  same_names v a m = let c = counts a in uses_of v a c.0 m (held_once v a c.0 m c.1) c.2

pub unmade_by : (first : GraphFields) (mid left : Holdings Identifier) (t : Shelves) (links : List (Sides LinkSeen)) → AreInside first
    → IsPool identifier_order mid
    → AreInside (graph_fields left t links) → AreBare t → ((v : ℕ) → (sides_at links v).draft ≡ None)
    → rows_on_side list_now t ≡ rows_on_side list_now first.shelves
    → ((v : ℕ) → (sides_at links v).now ≡ (sides_at first.links v).now) → length first.links ≤ length links
    → ((a : Identifier) (own : ℕ) → HasOwn first a own → HasOwn (graph_fields left t links) a own) → BringsShelves [] first.shelves t
    → ((v : ℕ) (a : Identifier) → Names identifier_order first.names v a → Names identifier_order mid v a)
    → ((v : ℕ) (a : Identifier) → Names identifier_order left v a → Names identifier_order mid v a) → IsUnmade first
    (graph_fields left t links)
unmade_by first mid left t links is pool inside bare none rows same longer own brought from into = record {
  inside = inside;
  bare = bare;
  none = none;
  rows = rows;
  links = same;
  longer = longer;
  kept = same_names first.names left mid is.pool pool from into counts;
  before = same_names left first.names mid inside.pool pool into from (λ a. let c = counts a in (c.0, c.2, c.1));
  own = own;
  shelves = brought;
}
  where
    counts : (a : Identifier) → (n : ℕ) × IsHeld identifier_order first.names a n × IsHeld identifier_order left a n
    counts a =
        let h = is.held a
        in let e : uses_in t.places.entries a + h.0 ≡ uses_in first.shelves.places.entries a + h.0 = omega (arith, brought.named a)
        in (
          uses_in first.shelves.places.entries a + h.0,
          h.1,
          subst (λ (n : ℕ). IsHeld identifier_order left a n) e (own a h.0 h.1),
        )
