-- What is stored stays whole; what holds of a graph from one change to the next, and of a subscription. In order: what is whole
-- on each item (`whole_like`); a new graph (`new_quiet`); the notes of a publish (`notes_canon`); a change that is out
-- (`few_still`), and made (`quiet_made`, `kept_made`); what a subscription keeps as a change comes to be out (`kept_begun`), and
-- as it gets room (`would_still`).
use Rattle.std.proofs.Common.{◌≡◌, ℕ, ◌+◌, Option, List, [], ◌∷◌}
use Rattle.std.proofs.Common.{◌∙◌, sym, subst, arith}
use Rattle.std.proofs.lemmas.Option.{same_Some}
use Rattle.std.specs.List.{AllByRecursion, filter}
use Rattle.ifmap_delta.specs.Changes.{WouldKeep}
use Rattle.ifmap_delta.specs.SeenViews.{AreMarks, IsUpToDate, ViewSeen, SameLinks}
use Rattle.ifmap_delta.specs.SameSearches.{HasSameSearch}
use Rattle.ifmap_delta.specs.declared.subscriptions.Subscription.{Subscription}
use Rattle.ifmap_fresh.specs.Fresh.{fresh_size}
use Rattle.ifmap_graph.specs.declared.changes.Ready.{Ready}
use Rattle.ifmap_graph.specs.Inside.{GraphInside, IsOwn}
use Rattle.ifmap_graph.specs.Seen.{HasFewOwn, IsStill, KeepsOwn, links_next, links_now, rows_next, rows_now}
use Rattle.ifmap_graph.specs.Shelved.{list_at, rows_by}
use Rattle.ifmap_graph.specs.Sides.{list_now}
use Rattle.ifmap_ident.specs.declared.identifiers.Identifier.{Identifier}
use Rattle.ifmap_ident.specs.declared.items.Item.{Item}
use Rattle.ifmap_ident.specs.Identifiers.{identifier_order}
use Rattle.ifmap_ident.specs.Items.{IsCanonItem, same_item}
use Rattle.ifmap_lemmas.specs.Filters.{all_filter}
use Rattle.ifmap_lemmas.specs.Having.{has_filter, has_map, all_has, has_all}
use Rattle.ifmap_lemmas.specs.Members.{map_of_all}
use Rattle.ifmap_meta.specs.Whole.{IsWhole}
use Rattle.ifmap_plans.specs.declared.plans.Note.{Note}
use Rattle.ifmap_plans.specs.Plans.{AreWhole}
use Rattle.ifmap_graph.specs.ifmap_pool.Holdings.{key_at, once}
use Rattle.ifmap_publish.specs.Apply.{Authorship}
use Rattle.ifmap_publish.specs.Notes.{note_of, notes_of_op}
use Rattle.ifmap_region.specs.Marks.{mark_of, mark_over}
use Rattle.ifmap_requests.specs.Fit.{IsFitOp}
use Rattle.ifmap_requests.specs.declared.publish_ops.PublishOp.{PublishOp}
use Rattle.ifmap_requests.specs.declared.publish_ops.PublishOp.TheVariants.{Delete, Notify, Update}
use Rattle.ifmap_view.specs.declared.attachments.Attachment.{Attachment}
use Rattle.ifmap_view.specs.Rows.{stored_on}
use Rattle.ifmap_view.specs.Views.{IsView}
use Rattle.ifmap_changes.specs.Between.{seen_now}
use Rattle.ifmap_changes.specs.Changes.{seen_next}
use Rattle.ifmap_delta_tests.specs.Worlds.{IsQuiet, IsUnderWay, ShowsSame}
use Rattle.ifmap_ident.specs.SameLaws.{item_itself}
use Rattle.ifmap_graph.specs.NumberLaws.{once_few}

-- ---- what is whole

-- what is whole is so by what is stored on items
pub whole_like : (one other : List Attachment) → ((x : Item) → stored_on x other ≡ stored_on x one) → AreWhole one → AreWhole other
whole_like one other same w = has_all (λ (r : Attachment). IsWhole r.stored) other (λ r there.
    all_has IsWhole (stored_on r.item other)
    (subst (AllByRecursion IsWhole) (sym (same r.item))
    (map_of_all IsWhole (λ (q : Attachment). q.stored) (filter (λ (q : Attachment). same_item q.item r.item) one)
    (all_filter (λ (q : Attachment). IsWhole q.stored) (λ (q : Attachment). same_item q.item r.item) one w)))
    r.stored
    (has_map (λ (q : Attachment). q.stored) (filter (λ (q : Attachment). same_item q.item r.item) other) r
    (has_filter (λ (q : Attachment). same_item q.item r.item) other r there (item_itself r.item))))

-- ---- a new graph

pub new_quiet : (old new : GraphInside) (id : Identifier) → old.shelves ≡ [] → new.shelves ≡ old.shelves → IsStill new
    → ((a : Identifier) → IsOwn old a 0)
    → ((a : Identifier) (own : ℕ) → IsOwn old a own → IsOwn new a (own + once identifier_order id a)) → IsQuiet new
new_quiet old new id empty same still none own = record {
  still = still;
  whole = subst (λ s. AreWhole (rows_by (list_at list_now) s)) (sym (same ∙ empty)) tt;
  few = λ a. (0 + once identifier_order id a, own a 0 (none a), omega (arith, once_few id a));
}

pub few_empty : (h : GraphInside) → ((a : Identifier) → IsOwn h a 0) → HasFewOwn h
few_empty h none a = (0, none a, omega arith)

-- ---- notes

all_alike : {X : Type 0} (P : Type 0) → P → (xs : List X) → AllByRecursion (λ x. P) xs
all_alike P p [] = tt
all_alike P p (x ∷ xs) = (p, all_alike P p xs)

notes_of_one : (by : Authorship) (op : PublishOp) → IsFitOp op → AllByRecursion (λ (n : Note). IsCanonItem n.item) (notes_of_op by op)
notes_of_one by (Notify item elements) f =
    map_of_all (λ (n : Note). IsCanonItem n.item) (note_of by item) elements (all_alike (IsCanonItem item) f.0 elements)
notes_of_one by (Update item elements forever) f = tt
notes_of_one by (Delete item filter_by) f = tt

-- ---- a change is out, and made

pub few_still : (old new : GraphInside) → KeepsOwn old new → HasFewOwn old → HasFewOwn new
few_still old new keeps few a = let o = few a in (o.0, keeps a o.0 o.1, o.2)

pub quiet_made : (mid new : GraphInside) → AreWhole (rows_next mid) → HasFewOwn mid → rows_now new ≡ rows_next mid → IsStill new
    → KeepsOwn mid new → IsQuiet new
quiet_made mid new whole few rows still own = record {
  still = still;
  whole = subst AreWhole (sym rows) whole;
  few = few_still mid new own few;
}

-- the graph shows what it was to show
sight_made : (mid new : GraphInside) → rows_now new ≡ rows_next mid → ((v : ℕ) → links_now new v ≡ links_next mid v)
    → new.names ≡ mid.names → seen_next mid ≡ seen_now new
sight_made mid new rows links names = λ i. record {
  rows = sym rows i;
  id_at = λ v. key_at (sym names i) v;
  links = λ v. sym (links v) i;
}

pub kept_made : (mid new : GraphInside) (sub : Subscription) → rows_now new ≡ rows_next mid
    → ((v : ℕ) → links_now new v ≡ links_next mid v) → new.names ≡ mid.names → IsUpToDate (seen_next mid) sub → IsUpToDate (seen_now new)
    sub
kept_made mid new sub rows links names kept = subst (λ (g : ViewSeen). IsUpToDate g sub) (sight_made mid new rows links names) kept

-- ---- a subscription

pub kept_begun : SameLinks → (old new : GraphInside) (ready : Ready) (sub : Subscription)
    → IsView (rows_now old) (key_at old.names) (links_now old)
    → IsUnderWay new ready → ShowsSame old new → IsUpToDate (seen_now old) sub → IsUpToDate (seen_now new) sub
kept_begun law old new ready sub seen way same kept =
    law (seen_now old) (seen_now new) sub seen way.now same.rows same.links
    (λ v a b p q. same_Some b a (sym q ∙ same.numbers v a p))
    (same.numbers sub.region.start sub.search.start kept.marks.here) kept

-- a patch serves as well where the marks are the same
pub would_still : (g : ViewSeen) (one other : Subscription) (patch : List (ℕ × Option ℕ)) (size : ℕ) → HasSameSearch one other
    → ((v : ℕ) → mark_of other.region.marks.entries v ≡ mark_of one.region.marks.entries v) → WouldKeep g one patch size
    → WouldKeep g other patch size
would_still g one other patch size same marks would = record {
  marks = subst (λ s. AreMarks g s other.region.start other.region.max_depth (mark_over patch (mark_of other.region.marks.entries)))
      (sym same.search)
      (subst (λ n. AreMarks g one.search n other.region.max_depth (mark_over patch (mark_of other.region.marks.entries))) (sym same.start)
      (subst (λ n. AreMarks g one.search one.region.start n (mark_over patch (mark_of other.region.marks.entries))) (sym same.max_depth)
      (subst (λ (m : ℕ → Option ℕ). AreMarks g one.search one.region.start one.region.max_depth (mark_over patch m))
      (λ i v. sym (marks v) i) would.marks)));
  size = subst (λ s. size ≡ fresh_size g.rows s) (sym same.search) would.size;
}
