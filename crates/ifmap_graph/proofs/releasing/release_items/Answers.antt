use Rattle.std.proofs.Common.{◌≡◌, ◌+◌, ◌≤◌, ◌∷◌, List, [], drop, length, ap, sym, ◌∙◌, arith}
use Rattle.std.proofs.lemmas.List.{drop_all}
use Rattle.ifmap_ident.specs.declared.items.Item.{Item}
use Rattle.ifmap_plans.specs.declared.plans.ItemChange.{ItemChange}
use Rattle.ifmap_graph.specs.Out.{items_changed}
use Rattle.ifmap_graph.specs.Waits.{times_in}
use Rattle.ifmap_graph.proofs.Accepting.{as_many, here_changed}
use Rattle.ifmap_graph.proofs.Lessening.{less_itself, less_on}
use Rattle.ifmap_graph.proofs.Waited.{one_time, times_append}
use Rattle.ifmap_graph.proofs.releasing.release_items.Goals as goal

pub loop-change-init : goal.loop-change-init
loop-change-init c = (less_itself c.args.names.now c.args.shelves.now, λ x. omega arith, λ f. f)

pub release_item-requires : goal.release_item-requires
release_item-requires c =
    let i = c.loop-change.change-index
    in let items = items_changed c.args.changes.now
    in let x = c.change-item.result.item
    in let here : times_in (drop i items) x ≡ times_in (x ∷ drop (i + 1) items) x
    = ap (λ (l : List Item). times_in l x)
    (here_changed c.args.changes.now i c.change-item.result c.loop-change-test.true
    ∙ ap (λ (y : ItemChange). y.item ∷ drop (i + 1) items) (sym c.change-item.is))
    in record {
      inside = (c.requires.inside.0, c.loop-change.invariant.0.inside c.requires.inside.0 c.requires.inside.1);
      bare = c.loop-change.invariant.0.bare c.requires.bare;
      waited = omega (arith, here, c.loop-change.invariant.1 x, c.requires.waits x, one_time x (drop (i + 1) items));
    }

pub loop-change-preserved : goal.loop-change-preserved
loop-change-preserved c =
    let i = c.loop-change.change-index
    in let items = items_changed c.args.changes.now
    in let here : drop i items ≡ c.change-item.result.item ∷ drop (i + 1) items
    = here_changed c.args.changes.now i c.change-item.result c.loop-change-test.true
    ∙ ap (λ (x : ItemChange). x.item ∷ drop (i + 1) items) (sym c.change-item.is)
    in (
      less_on c.args.names.now c.loop-change.names c.release_item.new.names c.args.shelves.now c.loop-change.shelves
          c.release_item.new.shelves
          c.loop-change.invariant.0 c.release_item.ensures.less,
      λ x. omega (
        arith,
        ap (λ (l : List Item). times_in l x) here,
        c.loop-change.invariant.1 x,
        c.release_item.ensures.waits x,
        times_append (c.change-item.result.item ∷ []) (drop (i + 1) items) x,
      ),
      λ f. c.release_item.ensures.filled (c.loop-change.invariant.2 f),
    )

pub returns : goal.returns
returns c =
    let items = items_changed c.args.changes.now
    in let all : length items ≤ c.loop-change.change-index
    = omega (arith, c.loop-change-test.false, as_many c.args.changes.now)
    in record {
      less = c.loop-change.invariant.0;
      waits = λ x. omega (
        arith,
        c.loop-change.invariant.1 x,
        ap (λ (l : List Item). times_in l x) (drop_all c.loop-change.change-index items all),
      );
      filled = c.loop-change.invariant.2;
    }
