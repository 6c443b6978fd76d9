use Rattle.ifmap_forms.specs.AnswerLaws.{made_as_read, refused_as_read, refused_exit}
use Rattle.ifmap_forms.specs.Tables.{both, form_check}
use Rattle.ifmap_requests.specs.RequestForms.{renew_form, renewal_of}
use Rattle.ifmap_requests.proofs.asking.read_renewal.Goals as goal

pub returns-in_err-session : goal.returns-in_err-session
returns-in_err-session c = λ scopes.
    refused_exit (form_check renew_form renewal_of scopes c.args.element.now) c.from_residual.result c.in_err-session.field-0.0
    c.from_residual.ensures.1
    (refused_as_read renew_form renewal_of scopes c.args.element.now c.in_err-session.field-0.0 (c.in_err-session.ensures scopes))

pub returns : goal.returns
returns c = λ scopes.
    made_as_read renew_form renewal_of scopes c.args.element.now (both c.in_ok-session.session tt) tt (c.in_ok-session.ensures scopes)
