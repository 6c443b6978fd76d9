use Rattle.std.proofs.Common.{◌≡◌, ◌==◌, ◌∙◌, ◌-◌, refl, subst, sym, length}
use Rattle.std.proofs.lemmas.Bool.Decides.{Decides-eqb}
use Rattle.std.proofs.lemmas.Result.{err_from_is_err_and}
use Rattle.ifmap_lemmas.specs.Branches.{fails_where_false}
use Rattle.ifmap_filter.specs.Progress.{filter_state}
use Rattle.ifmap_filter.specs.Reaching.{IsRefused, ReachesWhite}
use Rattle.ifmap_filter.specs.Texts.{IsParsed}
use Rattle.ifmap_filter.proofs.ParseLaws.{begin, ends_parse, go_on, refusal_is_parsed, reading_on_shortens}
use Rattle.ifmap_filter.proofs.parsing.read_filter.Goals as goal

pub loop-rest-init : goal.loop-rest-init
loop-rest-init c = (
  c.without_white-rest.utf8,
  subst (λ w. ReachesWhite c.args.text.now c.args.scope.now w c.without_white-rest.result.now) (sym c.new-standing.ensures)
      (begin c.args.text.now c.args.scope.now c.utf8.text c.without_white-rest.result.now c.without_white-rest.utf8
      c.without_white-rest.ensures),
)

pub loop-rest-preserved : goal.loop-rest-preserved
loop-rest-preserved c =
    let reads_on = c.in_ok-left.ensures.next in (
      reads_on.is_text,
      go_on c.args.text.now c.args.scope.now c.utf8.text (filter_state c.loop-rest.standing) c.loop-rest.rest.now c.loop-rest.invariant.0
          c.loop-rest.invariant.1 (filter_state c.read_token.new.standing) c.in_ok-left.left.now reads_on,
    )

pub loop-rest-smaller : goal.loop-rest-smaller
loop-rest-smaller c =
    reading_on_shortens c.args.scope.now (filter_state c.loop-rest.standing) (filter_state c.read_token.new.standing) c.loop-rest.rest.now
    c.in_ok-left.left.now c.loop-rest.invariant.0 c.in_ok-left.ensures.next

pub returns : goal.returns
returns c =
    ends_parse c.args.text.now c.args.scope.now c.utf8.text (filter_state c.loop-rest.standing) c.loop-rest.rest.now c.loop-rest.invariant.0
    c.loop-rest.invariant.1 ((Decides-eqb (length c.loop-rest.rest.now) 0).0 (sym c.is_empty.ensures ∙ c.loop-rest-test.false))
    (length c.args.text.now) refl c.whole_filter.result c.whole_filter.ensures

pub returns-in_err-left : goal.returns-in_err-left
returns-in_err-left c =
    let p = err_from_is_err_and c.from_residual.result c.from_residual.ensures.1 in
    let stuck : IsRefused c.args.scope.now (filter_state c.loop-rest.standing) c.loop-rest.rest.now
    (length c.args.text.now - length c.loop-rest.rest.now) c.in_err-left.field-0.0 =
    c.in_err-left.ensures.refused in
    subst (IsParsed c.args.text.now c.args.scope.now) (sym p.1)
    (refusal_is_parsed c.args.text.now c.args.scope.now c.utf8.text (filter_state c.loop-rest.standing) c.loop-rest.rest.now
    c.loop-rest.invariant.0 c.loop-rest.invariant.1 (fails_where_false (length c.loop-rest.rest.now == 0) (length c.loop-rest.rest.now ≡ 0)
    (Decides-eqb (length c.loop-rest.rest.now) 0) (sym c.is_empty.ensures ∙ c.loop-rest-test.true))
    (length c.args.text.now - length c.loop-rest.rest.now) refl p.0
    (subst (IsRefused c.args.scope.now (filter_state c.loop-rest.standing) c.loop-rest.rest.now
    (length c.args.text.now - length c.loop-rest.rest.now)) (sym p.2) stuck))
