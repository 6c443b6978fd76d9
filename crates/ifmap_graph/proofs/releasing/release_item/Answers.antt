use Rattle.std.proofs.Common.{refl, ap, sym, ◌∙◌, subst, inl, inr, IsSome, arith}
use Rattle.ifmap_lemmas.specs.Emptiness.{nothing_in, some_there}
use Rattle.ifmap_view.specs.Rows.{stored_on}
use Rattle.ifmap_graph.proofs.Filling.{filled_less, filled_still}
use Rattle.ifmap_graph.proofs.Lessening.{inside_written, is_bare, is_there_still, less_on, less_removed, less_written, waited_there}
use Rattle.ifmap_graph.proofs.releasing.release_item.Goals as goal

pub unwait-requires : goal.unwait-requires
unwait-requires c = record {
  shelved = c.requires.inside.1.placed;
  there = let p = waited_there c.args.shelves.now c.args.item.now c.requires.waited in subst IsSome (sym p.1) refl;
  waited = c.requires.waited;
}

pub rows_at-requires : goal.rows_at-requires
rows_at-requires c = c.unwait.ensures.keeps.shelved

pub returns-then-unwait-gt0-clause-less : goal.returns-then-unwait-gt0-clause-less
returns-then-unwait-gt0-clause-less c =
    less_written c.args.names.now c.args.shelves.now c.unwait.new.self c.unwait.ensures.keeps.shelved c.unwait.ensures.keeps.places
    c.unwait.ensures.keeps.ends
    c.unwait.ensures.keeps.now c.unwait.ensures.keeps.next c.unwait.ensures.bare

pub returns-then-not-is_empty-clause-less : goal.returns-then-not-is_empty-clause-less
returns-then-not-is_empty-clause-less c =
    less_written c.args.names.now c.args.shelves.now c.unwait.new.self c.unwait.ensures.keeps.shelved c.unwait.ensures.keeps.places
    c.unwait.ensures.keeps.ends
    c.unwait.ensures.keeps.now c.unwait.ensures.keeps.next c.unwait.ensures.bare

pub remove_shelf-requires-clause-inside : goal.remove_shelf-requires-clause-inside
remove_shelf-requires-clause-inside c = (
  c.requires.inside.0,
  inside_written c.args.names.now c.args.shelves.now c.unwait.new.self c.unwait.ensures.keeps.shelved c.unwait.ensures.keeps.places
      c.unwait.ensures.keeps.ends
      c.unwait.ensures.keeps.now c.unwait.ensures.keeps.next c.requires.inside.0 c.requires.inside.1,
)

pub remove_shelf-requires-clause-empty : goal.remove_shelf-requires-clause-empty
remove_shelf-requires-clause-empty c =
    let p = waited_there c.args.shelves.now c.args.item.now c.requires.waited
    in is_bare c.unwait.new.self c.args.item.now p.0 c.unwait.ensures.keeps.shelved (c.unwait.ensures.bare c.requires.bare)
    (is_there_still c.args.shelves.now c.unwait.new.self c.args.item.now p.0 c.unwait.ensures.keeps.places p.1)
    (sym c.rows_at.ensures ∙ nothing_in _ (sym c.is_empty.ensures ∙ c.if-not-is_empty.false))

pub returns-clause-less : goal.returns-clause-less
returns-clause-less c =
    let inside = inside_written c.args.names.now c.args.shelves.now c.unwait.new.self c.unwait.ensures.keeps.shelved
    c.unwait.ensures.keeps.places c.unwait.ensures.keeps.ends
    c.unwait.ensures.keeps.now c.unwait.ensures.keeps.next c.requires.inside.0 c.requires.inside.1
    in less_on c.args.names.now c.args.names.now c.remove_shelf.new.names c.args.shelves.now c.unwait.new.self c.remove_shelf.new.shelves
    (less_written c.args.names.now c.args.shelves.now c.unwait.new.self c.unwait.ensures.keeps.shelved c.unwait.ensures.keeps.places
    c.unwait.ensures.keeps.ends
    c.unwait.ensures.keeps.now c.unwait.ensures.keeps.next c.unwait.ensures.bare)
    (less_removed c.args.names.now c.remove_shelf.new.names c.unwait.new.self c.remove_shelf.new.shelves c.args.item.now
    c.unwait.ensures.keeps.shelved
    (c.remove_shelf.ensures.inside c.requires.inside.0 inside).placed
    (sym c.rows_at.ensures ∙ nothing_in _ (sym c.is_empty.ensures ∙ c.if-not-is_empty.false))
    c.remove_shelf.ensures.inside c.remove_shelf.ensures.now c.remove_shelf.ensures.before c.remove_shelf.ensures.others
    c.remove_shelf.ensures.named c.remove_shelf.ensures.own)

pub returns-clause-waits : goal.returns-clause-waits
returns-clause-waits c = λ x.
    omega (
      arith,
      c.unwait.ensures.waits x,
      (c.remove_shelf.ensures.taken (sym c.unwait.ensures.left ∙ omega (arith, c.if-unwait-gt0.false))).waits x,
    )

pub returns-then-unwait-gt0-clause-filled : goal.returns-then-unwait-gt0-clause-filled
returns-then-unwait-gt0-clause-filled c =
    filled_still c.args.shelves.now c.unwait.new.self c.args.item.now c.unwait.ensures.keeps.places c.unwait.ensures.keeps.now
    c.unwait.ensures.waits
    (inl (omega (arith, c.if-unwait-gt0.true, c.unwait.ensures.left)))

pub returns-then-not-is_empty-clause-filled : goal.returns-then-not-is_empty-clause-filled
returns-then-not-is_empty-clause-filled c =
    filled_still c.args.shelves.now c.unwait.new.self c.args.item.now c.unwait.ensures.keeps.places c.unwait.ensures.keeps.now
    c.unwait.ensures.waits
    (inr (λ e. some_there c.rows_at.result.now (sym c.is_empty.ensures ∙ c.if-not-is_empty.true)
    (c.rows_at.ensures ∙ ap (stored_on c.args.item.now) c.unwait.ensures.keeps.now ∙ e)))

pub returns-clause-filled : goal.returns-clause-filled
returns-clause-filled c =
    filled_less c.args.shelves.now c.unwait.new.self c.args.item.now c.unwait.ensures.keeps.places c.unwait.ensures.keeps.now
    c.unwait.ensures.waits
    c.remove_shelf.new.shelves (c.remove_shelf.ensures.taken (sym c.unwait.ensures.left ∙ omega (arith, c.if-unwait-gt0.false)))
    c.remove_shelf.ensures.now
