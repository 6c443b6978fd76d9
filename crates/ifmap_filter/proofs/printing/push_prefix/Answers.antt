use Rattle.std.specs.Prelude.{string_bytes}
use Rattle.ifmap_filter.proofs.PrintLaws.{prefix_printed}
use Rattle.ifmap_filter.proofs.printing.push_prefix.Goals as goal

pub returns : goal.returns
returns c =
    prefix_printed (string_bytes c.args.out.now) (string_bytes c.push_str.new.self) (string_bytes c.push_str-2.new.self) c.format.result.now
    c.args.number c.ranges.number.fits c.in_ok-push_str.ensures.bytes c.in_ok-push_str-2.ensures.bytes c.format.ensures.text
