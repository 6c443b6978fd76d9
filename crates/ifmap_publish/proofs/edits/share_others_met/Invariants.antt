use Rattle.std.proofs.Common.{◌≡◌, ◌&&◌, drop, not, take}
use Rattle.std.specs.List.{filter}
use Rattle.ifmap_requests.specs.ifmap_filter.Meets.{meets_optional}
use Rattle.ifmap_rows.specs.ifmap_plans.Lists.{is_among}
use Rattle.ifmap_publish.proofs.edits.share_others_met.Given as goal

-- what is taken of those that follow, and what was met
abbrev pub invariant-loop-row : goal.invariant-loop-row
invariant-loop-row l = record {
  rest : l.rest ≡ filter (is_among l.taken) (drop l.row-index l.rows);
  met : l.met.items ≡ filter (λ s. not (is_among l.taken s) && meets_optional l.test s.element) (take l.row-index l.rows);
}
