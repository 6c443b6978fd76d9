use Rattle.std.proofs.lemmas.Result.{err_from_is_err_and}
use Rattle.ifmap_lexer.proofs.Basics.{refuses_by}
use Rattle.ifmap_lexer.proofs.NameLaws.{name_run}
use Rattle.ifmap_lexer.proofs.names.name_of.Goals as goal

pub returns-in_err-name-clause-refused : goal.returns-in_err-name-clause-refused
returns-in_err-name-clause-refused c =
    let p = err_from_is_err_and c.from_residual.result c.from_residual.ensures.1 in
    rw (p.1, p.2) (refuses_by c.in_err-name.field-0.0 _ _
    (name_run c.args.bytes.now c.split_name.result.0.now c.split_name.result.1.now c.split_name.ensures) c.in_err-name.ensures.refused)
