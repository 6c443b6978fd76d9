use Rattle.std.proofs.Common.{refl, ◌∙◌, arith}
use Rattle.std.proofs.lemmas.Fmt.{parse-decimal}
use Rattle.std.proofs.lemmas.Str.Pattern.{split_after}
use Rattle.std.specs.Fmt.{decimal}
use Rattle.ifmap_session.specs.SessionIds.{hyphen}
use Rattle.ifmap_session.specs.laws.IdLaws.{no_hyphen}
use Rattle.ifmap_session.proofs.ids.serial_of.Goals as goal

pub returns-in_err-digits : goal.returns-in_err-digits
returns-in_err-digits c = λ serial rest small e.
    let parts = split_after hyphen c.args.id.now (decimal serial) rest c.split_once.result c.split_once.ensures.cases (omega arith) e
    (no_hyphen serial small) in
    absurd (rw c.in_err-digits.was at parts)

pub returns : goal.returns
returns c = λ serial rest small e.
    let parts = split_after hyphen c.args.id.now (decimal serial) rest c.split_once.result c.split_once.ensures.cases (omega arith) e
    (no_hyphen serial small) in
    let digits = rw c.in_ok-digits.was at parts in
    c.ok.ensures.value ∙ rw (parse-decimal 64 serial c.in_ok-digits.digits.now c.parse.result small small digits.0 c.parse.ensures.value.0)
    refl
