use Rattle.std.proofs.Common.{subst, sym}
use Rattle.ifmap_forms.specs.Answers.{IsChecked}
use Rattle.ifmap_replies.specs.declared.kinds.ResultKind.{ResultKind}
use Rattle.ifmap_replies.specs.declared.kinds.ResultKind.TheVariants as kinds
use Rattle.ifmap_replies.specs.ResultForms.{result_kind_check}
use Rattle.ifmap_replies.proofs.responses.read_result_kind.Goals as goal

pub returns-in-Renewed : goal.returns-in-Renewed
returns-in-Renewed c =
    subst (λ (kind : ResultKind). IsChecked (result_kind_check kind c.args.element) c.read_plain.result) (sym c.in-Renewed.is)
    (c.read_plain.ensures kinds.Renewed)

pub returns-in-Ended : goal.returns-in-Ended
returns-in-Ended c =
    subst (λ (kind : ResultKind). IsChecked (result_kind_check kind c.args.element) c.read_plain-in-Ended.result) (sym c.in-Ended.is)
    (c.read_plain-in-Ended.ensures kinds.Ended)

pub returns-in-Published : goal.returns-in-Published
returns-in-Published c =
    subst (λ (kind : ResultKind). IsChecked (result_kind_check kind c.args.element) c.read_plain-in-Published.result)
    (sym c.in-Published.is) (c.read_plain-in-Published.ensures kinds.Published)

pub returns-in-Subscribed : goal.returns-in-Subscribed
returns-in-Subscribed c =
    subst (λ (kind : ResultKind). IsChecked (result_kind_check kind c.args.element) c.read_plain-in-Subscribed.result)
    (sym c.in-Subscribed.is) (c.read_plain-in-Subscribed.ensures kinds.Subscribed)

pub returns-in-Purged : goal.returns-in-Purged
returns-in-Purged c =
    subst (λ (kind : ResultKind). IsChecked (result_kind_check kind c.args.element) c.read_plain-in-Purged.result) (sym c.in-Purged.is)
    (c.read_plain-in-Purged.ensures kinds.Purged)
