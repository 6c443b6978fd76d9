use Rattle.std.proofs.Common.{◌∙◌, ap, sym, set, true, arith}
use Rattle.std.proofs.lemmas.Option.{slice_get-get_or}
use Rattle.std.specs.BTreeMap.{get}
use Rattle.std.specs.Ordering.{nat_cmp}
use Rattle.ifmap_lemmas.specs.Flags.{flag_stays, flag_turns, flags_all}
use Rattle.ifmap_tellings.specs.Tellings.{is_alone}
use Rattle.ifmap_tellings.proofs.flagging.flag_alone.Goals as goal
use Rattle.ifmap_tellings.proofs.flagging.flag_alone.Goals.{then-is_alone, else-is_alone}

pub loop-at-preserved : goal.loop-at-preserved
loop-at-preserved c =
    let test = λ (x : _). is_alone (get nat_cmp c.args.tellings.now x.serial)
    in let here = slice_get-get_or c.args.standing.now c.loop-at.at c.index-standing-at.result c.loop-at-test.true
    in elim c.if-is_alone.branch [
      | then-is_alone w ↦
          ap (λ v. v.items) w.gone-is ∙ ap (λ flags. set flags c.loop-at.at true) c.loop-at.invariant
          ∙ sym (flag_turns test c.loop-at.at c.args.gone.now.items c.args.standing.now _ here
          (sym c.is_alone.ensures ∙ w.if-is_alone.true))
      | else-is_alone w ↦
          ap (λ v. v.items) w.gone-is ∙ c.loop-at.invariant
          ∙ sym (flag_stays test c.loop-at.at c.args.gone.now.items c.args.standing.now _ here
          (sym c.is_alone.ensures ∙ w.if-is_alone.false))
    ]

pub returns : goal.returns
returns c =
    c.loop-at.invariant
    ∙ flags_all (λ x. is_alone (get nat_cmp c.args.tellings.now x.serial)) c.loop-at.at c.args.gone.now.items c.args.standing.now
    (omega (arith, c.loop-at-test.false, c.loop-at.auto.at-end)) c.requires
