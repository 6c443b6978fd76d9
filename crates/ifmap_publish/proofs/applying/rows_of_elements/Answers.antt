use Rattle.std.proofs.Common.{◌∙◌, [], ◌∷◌, subst, sym}
use Rattle.std.specs.List.{AllByRecursion}
use Rattle.ifmap_lemmas.specs.Members.{both_all}
use Rattle.ifmap_lemmas.specs.Stepping.{member_holds}
use Rattle.ifmap_meta.specs.Whole.{IsMetadata, IsWhole}
use Rattle.ifmap_publish.proofs.Attaching.{stored_more}
use Rattle.ifmap_publish.proofs.applying.rows_of_elements.Goals as goal

pub loop-metadata-preserved : goal.loop-metadata-preserved
loop-metadata-preserved c = record {
  rows = c.in_ok-push.ensures.items
      ∙ stored_more c.args.author.now c.args.life c.args.elements.now c.loop-metadata.metadata-index c.metadata-item.result
      c.in_ok-row_of_element.field-0 c.loop-metadata.rows.items c.loop-metadata-test.true c.metadata-item.is
      c.in_ok-row_of_element.ensures.row c.loop-metadata.invariant.rows;
  whole = subst (AllByRecursion IsWhole) (sym c.in_ok-push.ensures.items)
      (both_all IsWhole c.loop-metadata.rows.items (c.in_ok-row_of_element.field-0 ∷ []) c.loop-metadata.invariant.whole (
        c.in_ok-row_of_element.ensures.whole (member_holds IsMetadata c.args.elements.now c.loop-metadata.metadata-index
            c.metadata-item.result c.loop-metadata-test.true c.metadata-item.is c.requires),
        tt,
      ));
}
