use Rattle.std.proofs.Common.{◌∙◌, ◌+◌, ap, arith, drop, subst, sym}
use Rattle.std.specs.List.{AllByRecursion}
use Rattle.ifmap_lemmas.specs.Stepping.{member_holds}
use Rattle.ifmap_meta.specs.Whole.{IsWhole}
use Rattle.ifmap_meta.specs.declared.stored.Stored.{Stored}
use Rattle.ifmap_publish.specs.OnItems.{attach_all}
use Rattle.ifmap_publish.specs.Working.{IsSound, over_keys}
use Rattle.ifmap_publish.proofs.Attaching.{attach_end, attach_next, sound_attached}
use Rattle.ifmap_publish.proofs.Gathering.{none_sound, one_attached}
use Rattle.ifmap_publish.proofs.edits.keep_last_of_few.Goals as goal

pub loop-row-init : goal.loop-row-init
loop-row-init c = record {
  sound = subst IsSound (sym c.new-last.ensures) none_sound;
  rest = ap (λ l. attach_all l c.args.rows.now) c.new-last.ensures;
}

pub put_over_keys-requires-clause-more : goal.put_over_keys-requires-clause-more
put_over_keys-requires-clause-more c =
    subst (AllByRecursion IsWhole) (sym c.from_ref.ensures.value)
    (member_holds IsWhole c.args.rows.now c.loop-row.row-index c.row-item.result c.loop-row-test.true c.row-item.is c.requires, tt)

pub loop-row-preserved : goal.loop-row-preserved
loop-row-preserved c =
    let row : Stored = c.row-item.result in
    let w : IsWhole row = member_holds IsWhole c.args.rows.now c.loop-row.row-index row c.loop-row-test.true c.row-item.is c.requires in
    let is = c.in_ok-put_over_keys.ensures ∙ ap (over_keys c.loop-row.last) c.from_ref.ensures.value
    ∙ one_attached c.loop-row.last row row (λ i. row) in
    record {
      sound = subst IsSound (sym is) (sound_attached row c.loop-row.last w c.loop-row.invariant.sound);
      rest = ap (λ l. attach_all l (drop (c.loop-row.row-index + 1) c.args.rows.now)) is
          ∙ attach_next c.args.rows.now c.loop-row.row-index row c.loop-row-test.true c.row-item.is row c.loop-row.last _ (λ i. row)
          c.loop-row.invariant.rest;
    }

pub returns : goal.returns
returns c =
    attach_end c.args.rows.now c.loop-row.row-index c.loop-row.last _ (omega (arith, c.loop-row-test.false)) c.loop-row.invariant.rest
