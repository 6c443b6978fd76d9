use Rattle.std.proofs.Common.{◌∙◌, arith}
use Rattle.std.proofs.lemmas.List.{nil_from_length}
use Rattle.std.specs.Vec.Iter.{into_iter_items}
use Rattle.ifmap_subscribes.proofs.RenamingTold.{can_rename, renames_all, renames_can, renames_more, renames_none}
use Rattle.ifmap_subscribes.proofs.renamings.rename_each.Goals as goal

pub loop-renaming-init : goal.loop-renaming-init
loop-renaming-init c =
    renames_none c.args.serial c.args.renamings (into_iter_items c.into_iter-renaming-iterator.result) c.args.parts.now
    (c.into_iter-renaming-iterator.ensures.into_iter_gives.0 ∙ c.renamings.view_is) c.requires.can

pub rename_one-requires : goal.rename_one-requires
rename_one-requires c = record {
  can = can_rename c.args.serial c.args.renamings c.args.parts.now c.loop-renaming.parts (into_iter_items c.loop-renaming.renaming-iterator)
      c.in-Some.renaming (into_iter_items c.next.new.self) c.loop-renaming.invariant c.in-Some.ensures.steps.0;
}

pub loop-renaming-preserved : goal.loop-renaming-preserved
loop-renaming-preserved c =
    renames_more c.args.serial c.args.renamings c.args.parts.now c.loop-renaming.parts (into_iter_items c.loop-renaming.renaming-iterator)
    c.in-Some.renaming (into_iter_items c.next.new.self) c.loop-renaming.invariant c.in-Some.ensures.steps.0 c.rename_one.new.parts
    c.rename_one.ensures.renamed c.rename_one.ensures.rest

pub returns-clause-renamed : goal.returns-clause-renamed
returns-clause-renamed c =
    renames_all c.args.serial c.args.renamings c.args.parts.now c.loop-renaming.parts (into_iter_items c.loop-renaming.renaming-iterator)
    c.loop-renaming.invariant (nil_from_length (into_iter_items c.loop-renaming.renaming-iterator)
    (omega (arith, c.loop-renaming.renaming-iterator.rest.ok.0, c.in-None.ensures.steps.0))) c.is_table.ensures.rising

pub returns-clause-rest : goal.returns-clause-rest
returns-clause-rest c =
    renames_can c.args.serial c.args.renamings c.args.parts.now c.loop-renaming.parts (into_iter_items c.loop-renaming.renaming-iterator)
    c.loop-renaming.invariant (nil_from_length (into_iter_items c.loop-renaming.renaming-iterator)
    (omega (arith, c.loop-renaming.renaming-iterator.rest.ok.0, c.in-None.ensures.steps.0)))
