use Rattle.std.proofs.Common.{◌≡◌, sym, ◌∙◌}
use Rattle.ifmap_filter.specs.Spaces.{has_each, filter_spaces, test_spaces}
use Rattle.std.specs.List.{list_all}
use Rattle.ifmap_filter.proofs.SpaceLaws.{tests_had}
use Rattle.ifmap_filter.proofs.filters.Filter.has_spaces.Goals as goal

pub returns : goal.returns
returns c =
    let e : c.has_tests.result ≡ has_each c.args.spaces.now (filter_spaces c.args.self.now) =
    c.has_tests.ensures
    ∙ (λ i. list_all (λ test. has_each (c.as_slice.ensures i) (test_spaces test)) (c.as_slice-2.ensures i))
    ∙ tests_had c.args.spaces.now c.args.self.now.tests in
    (λ is. sym e ∙ is, λ has. e ∙ has)
