use Rattle.std.proofs.lemmas.Result.{err_from_is_err_and}
use Rattle.ifmap_elem.specs.Names.{IsNamePart}
use Rattle.ifmap_lexer.proofs.Basics.{refuses_by}
use Rattle.ifmap_lexer.proofs.NameLaws.{prefixed_found, prefixed_parts, unprefixed_part}
use Rattle.ifmap_lexer.proofs.names.qualified_name.Goals as goal
use Rattle.ifmap_lexer.specs.There.{AreQualifiedName}

pub returns-in_err-prefix-in-Some-clause-refused : goal.returns-in_err-prefix-in-Some-clause-refused
returns-in_err-prefix-in-Some-clause-refused c =
    let p = err_from_is_err_and c.from_residual.result c.from_residual.ensures.1 in
    let f = λ (q : AreQualifiedName c.args.bytes.now).
    (prefixed_parts c.args.bytes.now c.in-Some.prefix.now c.in-Some.local.now c.in-Some.ensures.found q.0 q.1 q.2).0 in
    rw (p.1, p.2) (refuses_by c.in_err-prefix-in-Some.field-0.0 (IsNamePart c.in-Some.prefix.now) (AreQualifiedName c.args.bytes.now) f
    c.in_err-prefix-in-Some.ensures.refused)

pub returns-in_err-local-in-Some-clause-refused : goal.returns-in_err-local-in-Some-clause-refused
returns-in_err-local-in-Some-clause-refused c =
    let p = err_from_is_err_and c.from_residual-in_err-local-in-Some.result c.from_residual-in_err-local-in-Some.ensures.1 in
    let f = λ (q : AreQualifiedName c.args.bytes.now).
    (prefixed_parts c.args.bytes.now c.in-Some.prefix.now c.in-Some.local.now c.in-Some.ensures.found q.0 q.1 q.2).1 in
    rw (p.1, p.2) (refuses_by c.in_err-local-in-Some.field-0.0 (IsNamePart c.in-Some.local.now) (AreQualifiedName c.args.bytes.now) f
    c.in_err-local-in-Some.ensures.refused)

pub returns-in_err-local-in-None-clause-refused : goal.returns-in_err-local-in-None-clause-refused
returns-in_err-local-in-None-clause-refused c =
    let p = err_from_is_err_and c.from_residual-in_err-local-in-None.result c.from_residual-in_err-local-in-None.ensures.1 in
    let f = λ (q : AreQualifiedName c.args.bytes.now). unprefixed_part c.args.bytes.now c.in-None.ensures.none q.0 q.1 q.2 in
    rw (p.1, p.2) (refuses_by c.in_err-local-in-None.field-0.0 (IsNamePart c.args.bytes.now) (AreQualifiedName c.args.bytes.now) f
    c.in_err-local-in-None.ensures.refused)

pub returns-in_ok-local-in-Some-clause-found : goal.returns-in_ok-local-in-Some-clause-found
returns-in_ok-local-in-Some-clause-found c =
    prefixed_found c.args.bytes.now c.in-Some.prefix.now c.in-Some.local.now c.in-Some.ensures.found
    c.in_ok-prefix-in-Some.ensures.found.1 c.in_ok-local-in-Some.ensures.found.1
    (record { prefix = c.in_ok-prefix-in-Some.prefix; local = c.in_ok-local-in-Some.local }) c.in_ok-prefix-in-Some.ensures.found.0
    c.in_ok-local-in-Some.ensures.found.0
