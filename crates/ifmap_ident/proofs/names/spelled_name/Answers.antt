use Rattle.std.proofs.Common.{◌∙◌, ap, subst, Err}
use Rattle.ifmap_reader.specs.Reads.{IsRead}
use Rattle.ifmap_ident.proofs.SpelledLaws.{not_spelled}
use Rattle.ifmap_ident.proofs.names.spelled_name.Goals as goal

pub returns-in-Err-Unreadable : goal.returns-in-Err-Unreadable
returns-in-Err-Unreadable c = λ name s.
    not_spelled c.args.text.now c.read.result c.in-Err-Unreadable.field-0-0
    (c.in-Err-Unreadable.is ∙ ap Err c.in-Err-Unreadable.field-0-is)
    (subst (λ bytes. IsRead bytes 64 c.read.result) c.as_bytes.ensures c.read.ensures.answer) name s.0
