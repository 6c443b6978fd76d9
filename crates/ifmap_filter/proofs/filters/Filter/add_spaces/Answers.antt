use Rattle.std.proofs.Common.{sym, subst}
use Rattle.ifmap_elem.specs.Namespaces.{AddsSpaces, IsFront}
use Rattle.ifmap_filter.specs.Spaces.{HasSpaces, filter_spaces}
use Rattle.ifmap_filter.proofs.SpaceLaws.{adds_each, front_each, serve_each}
use Rattle.ifmap_filter.proofs.filters.Filter.add_spaces.Goals as goal

pub returns-clause-begins : goal.returns-clause-begins
returns-clause-begins c =
    subst (IsFront c.args.spaces) (sym c.in_ok-all.ensures) (front_each c.args.spaces (filter_spaces c.args.self.now))

pub returns-clause-listed : goal.returns-clause-listed
returns-clause-listed c =
    subst (AddsSpaces c.args.spaces (filter_spaces c.args.self.now)) (sym c.in_ok-all.ensures)
    (adds_each c.args.spaces (filter_spaces c.args.self.now))

pub returns-clause-serve : goal.returns-clause-serve
returns-clause-serve c =
    subst (λ all. HasSpaces all c.args.self.now) (sym c.in_ok-all.ensures) (serve_each c.args.spaces (filter_spaces c.args.self.now))
