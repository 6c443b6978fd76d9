use Rattle.std.proofs.Common.{[], length, subst, sym}
use Rattle.std.specs.List.Sorted.{IsStrictlySortedBy}
use Rattle.ifmap_ident.specs.Items.{item_order}
use Rattle.ifmap_region.specs.Bounds.{within_nothing}
use Rattle.ifmap_fresh.specs.Collected.{AreLookedAt}
use Rattle.ifmap_fresh.specs.Linking.{IsReachedAt}
use Rattle.ifmap_fresh.specs.laws.OrderedLaws.{came_from, rises, stays}
use Rattle.ifmap_fresh.proofs.Unnumbered.{finds_nothing}
use Rattle.ifmap_fresh.proofs.finding.items_looked_at.Goals as goal

none_rise : IsStrictlySortedBy item_order []
unfolding IsStrictlySortedBy
none_rise = tt

pub returns-in_default-clause-items : goal.returns-in_default-clause-items
returns-in_default-clause-items g c =
    let view = c.args.view.now
    in subst (λ l. AreLookedAt (g.V.View.rows view) c.args.search.now l) (sym c.new.ensures.items)
    (record {
      rising = none_rise;
      there = λ x h. absurd h;
      canon = λ x h. absurd h;
      back = λ x i n e. absurd (finds_nothing c.bytes_tell_identifiers_apart.ensures (g.V.View.rows view) (g.V.View.id_at view)
          (g.V.View.links view) c.args.search.now
          c.in_default.ensures.whole c.requires.start (λ v f. c.in_default.not-Some v (c.number.ensures.only v f)) x i n e);
    })

pub returns-in_default-clause-steps : goal.returns-in_default-clause-steps
returns-in_default-clause-steps g c =
    let view = c.args.view.now
    in within_nothing (λ v. length (g.V.View.links view v)) (IsReachedAt (g.V.View.rows view)
    (g.V.View.id_at view) c.args.search.now) 2 c.args.steps.now

pub returns-clause-items : goal.returns-clause-items
returns-clause-items g c =
    let old = c.in_ok-items.items.items
    in let sorted = c.sort_unstable.new.self.items
    in let new = c.dedup.new.self.items
    in let moved = c.sort_unstable.ensures.permutation
    in let ordered = c.sort_unstable.ensures.sorted
    in let kept = c.dedup.ensures.filtered
    in record {
      rising = rises old sorted new moved ordered kept;
      there = λ x h. c.in_ok-items.ensures.there x (came_from old sorted new moved ordered kept x h);
      canon = λ x h. c.in_ok-items.ensures.canon x (came_from old sorted new moved ordered kept x h);
      back = λ x i n e. stays old sorted new moved ordered kept x (c.in_ok-items.ensures.back x i e);
    }
