use Rattle.std.proofs.Common.{◌≡◌, take}
use Rattle.std.specs.List.{filter}
use Rattle.ifmap_requests.specs.ifmap_filter.Meets.{meets_optional}
use Rattle.ifmap_publish.proofs.edits.share_met.Given as goal

abbrev pub invariant-loop-row : goal.invariant-loop-row
invariant-loop-row l = l.list.items ≡ filter (λ s. meets_optional l.test s.element) (take l.row-index l.rows)
