use Rattle.std.specs.List.{flat_map}
use Rattle.ifmap_filter.specs.Spaces.{filter_spaces}
use Rattle.ifmap_writing.specs.RequestSpaces.{request_filters}
use Rattle.ifmap_writing.proofs.SpaceLaws.{all_listed}
use Rattle.ifmap_writing.proofs.spaces.request_spaces.Goals as goal

pub returns : goal.returns
returns c = all_listed (flat_map filter_spaces (request_filters c.args.request.now)) c.in_ok-spaces.spaces c.in_ok-spaces.ensures
