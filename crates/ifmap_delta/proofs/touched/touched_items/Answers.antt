use Rattle.std.proofs.Common.{◌≡◌, ◌∙◌, ap, sym, subst, ◌++◌, ◌||◌, false, true, List}
use Rattle.ifmap_ident.specs.declared.items.Item.{Item}
use Rattle.ifmap_lemmas.specs.Having.{Has}
use Rattle.ifmap_fresh.specs.Collected.{numbers_of}
use Rattle.ifmap_fresh.specs.Fresh.{is_looked_at}
use Rattle.ifmap_region.specs.Marks.{mark_of}
use Rattle.ifmap_delta.specs.Located.{IsLocatedTwice}
use Rattle.ifmap_delta.specs.Shown.{patched_mark}
use Rattle.ifmap_delta.specs.SeenViews.{HaveMarks, view_seen}
use Rattle.ifmap_delta.specs.Touched.{is_looked_at_either, moved_items, planned_items}
use Rattle.ifmap_fresh.specs.laws.OrderedLaws.{came_from, rises, stays}
use Rattle.ifmap_delta.proofs.InStep.{each_long}
use Rattle.ifmap_delta.proofs.Settling.{gathered_canon, in_patch, ungathered_stay}
use Rattle.ifmap_delta.proofs.touched.touched_items.Goals as goal

pub add_planned-requires-clause-canon : goal.add_planned-requires-clause-canon
add_planned-requires-clause-canon g c = c.requires.change.canon

pub add_planned-requires-clause-long : goal.add_planned-requires-clause-long
add_planned-requires-clause-long g c =
    let old = view_seen g.G.View.rows g.G.View.id_at g.G.View.links c.args.before.now.view.now
    in let new = view_seen g.D.View.rows g.D.View.id_at g.D.View.links c.args.after.now.view.now
    in each_long (λ d l. IsLocatedTwice old new d.item l) c.args.changes.now c.args.located.now c.requires.located

pub returns-clause-touched : goal.returns-clause-touched
returns-clause-touched g c =
    let before = c.args.before.now
    in let after = c.args.after.now
    in let old = view_seen g.G.View.rows g.G.View.id_at g.G.View.links before.view.now
    in let new = view_seen g.D.View.rows g.D.View.id_at g.D.View.links after.view.now
    in let s = after.search.now
    in let mark = mark_of after.marks.now.region.now.marks.entries
    in let mark' = patched_mark after.marks.now
    in let numbers = numbers_of after.marks.now.patch.now
    in let changes = c.args.changes.now
    in let b : HaveMarks old s mark = subst (λ t. HaveMarks old t mark) c.requires.search
    (subst (λ r. HaveMarks old before.search.now (mark_of r.marks.entries)) c.requires.region c.requires.before)
    in let a : HaveMarks new s mark' = c.requires.after
    in let keeps = c.numbers_keep_walks.ensures old.rows old.id_at old.links s b.0 c.requires.graph b.2.here
    in let keeps' = c.numbers_keep_walks.ensures new.rows new.id_at new.links s a.0 c.requires.draft a.2.here
    in let all : List Item = planned_items (is_looked_at_either old new s) changes ++ moved_items new s mark mark' numbers
    in let first = c.add_moved.new.items.items
    in let is : first ≡ all = c.in_ok-add_moved.ensures.items
    ∙ ap (λ l. l ++ moved_items new s mark mark' numbers) (c.in_ok-add_planned.ensures
    ∙ ap (λ l. l ++ planned_items (λ x. is_looked_at old.rows before.search.now x || is_looked_at new.rows s x) changes)
    c.new-items.ensures.items
    ∙ ap (λ t. planned_items (λ x. is_looked_at old.rows t x || is_looked_at new.rows s x) changes) c.requires.search)
    in let sorted = c.sort_unstable.new.self.items
    in let made = c.dedup.new.self.items
    in let turned = c.sort_unstable.ensures.permutation
    in let ordered = c.sort_unstable.ensures.sorted
    in let kept = c.dedup.ensures.filtered
    in record {
      rising = rises first sorted made turned ordered kept;
      canon = λ x h. gathered_canon old new s c.requires.draft changes c.requires.change.canon mark mark' numbers x
          (subst (λ l. Has l x) is (came_from first sorted made turned ordered kept x h));
      others = λ x i f. ungathered_stay c.bytes_tell_identifiers_apart.ensures c.levels_are_walks.ensures.reached
          c.levels_are_walks.ensures.expanded old new s c.requires.graph c.requires.draft changes c.requires.change b.0 b.1 a.0 a.1
          mark mark' b.2 a.2 keeps keeps' numbers (λ v d. in_patch after.marks.now.patch.now mark v d) x i
          (λ h. let q : false ≡ true = sym f ∙ stays first sorted made turned ordered kept x (subst (λ l. Has l x) (sym is) h) in cc);
    }
