use Rattle.std.proofs.lemmas.Bool.Decides.{Decides-eqb}
use Rattle.std.proofs.lemmas.Slice.Eq.{strip_prefix_is}
use Rattle.ifmap_elem.proofs.fronts.after_word.Goals as goal
use Rattle.ifmap_lemmas.specs.Options.{some_of, none_of}

pub returns-clause-found : goal.returns-clause-found
returns-clause-found c =
    some_of c.strip_prefix.result _ _
    (strip_prefix_is Decides-eqb c.args.bytes.now c.args.word.now c.strip_prefix.result c.strip_prefix.ensures.cases)

pub returns-clause-none : goal.returns-clause-none
returns-clause-none c =
    none_of c.strip_prefix.result _ _
    (strip_prefix_is Decides-eqb c.args.bytes.now c.args.word.now c.strip_prefix.result c.strip_prefix.ensures.cases)
