use Rattle.std.proofs.Common.{◌∙◌, ap, sym, set, true, arith}
use Rattle.std.proofs.lemmas.Option.{slice_get-get_or}
use Rattle.ifmap_lemmas.specs.Flags.{flag_stays, flag_turns, flags_all}
use Rattle.ifmap_tellings.proofs.flagging.flag_too_big.Goals as goal
use Rattle.ifmap_tellings.proofs.flagging.flag_too_big.Goals.{then-news-at, else-news-at}

pub loop-at-preserved : goal.loop-at-preserved
loop-at-preserved c =
    let here = slice_get-get_or c.args.news.now c.loop-at.at c.index-news-at.result c.loop-at-test.true
    in elim c.if-news-at.branch [
      | then-news-at w ↦
          ap (λ v. v.items) w.gone-is ∙ ap (λ flags. set flags c.loop-at.at true) c.loop-at.invariant
          ∙ sym (flag_turns (λ one. one.is_too_big) c.loop-at.at c.args.gone.now.items c.args.news.now _ here w.if-news-at.true)
      | else-news-at w ↦
          ap (λ v. v.items) w.gone-is ∙ c.loop-at.invariant
          ∙ sym (flag_stays (λ one. one.is_too_big) c.loop-at.at c.args.gone.now.items c.args.news.now _ here w.if-news-at.false)
    ]

pub returns : goal.returns
returns c =
    c.loop-at.invariant
    ∙ flags_all (λ one. one.is_too_big) c.loop-at.at c.args.gone.now.items c.args.news.now
    (omega (arith, c.loop-at-test.false, c.loop-at.auto.at-end)) c.requires
