use Rattle.std.proofs.Common.{sym, subst}
use Rattle.ifmap_filter.specs.Printing.{NestsNoDeeper, WritesBack}
use Rattle.ifmap_filter.proofs.PrintedBack.{nests_no_deeper, printed_back}
use Rattle.ifmap_filter.proofs.filters.Filter.print.Goals as goal

pub returns-clause-parsed_back : goal.returns-clause-parsed_back
returns-clause-parsed_back c =
    subst (λ t. WritesBack t c.args.spaces.now c.args.self.now) (sym c.in_ok-text.ensures)
    (printed_back c.args.spaces.now c.args.self.now c.requires)

pub returns-clause-nesting : goal.returns-clause-nesting
returns-clause-nesting c =
    subst (λ t. NestsNoDeeper t c.args.spaces.now c.args.self.now) (sym c.in_ok-text.ensures)
    (nests_no_deeper c.args.spaces.now c.args.self.now c.requires)
