use Rattle.ifmap_lexer.proofs.AssignmentLaws.{SomeValue, value_meant}
use Rattle.ifmap_lexer.proofs.Basics.{refused_by}
use Rattle.ifmap_lexer.proofs.tags.value_of.Goals as goal
use Rattle.ifmap_lexer.specs.There.{SomeGiven}

pub returns-clause-refused : goal.returns-clause-refused
returns-clause-refused c =
    refused_by c.meaning.result (SomeValue c.in-Some.text.now) (SomeGiven c.args.written.now)
    (value_meant c.args.written.now c.in-Some.text.now c.in-Some.ensures.found.0) c.meaning.ensures.refused
