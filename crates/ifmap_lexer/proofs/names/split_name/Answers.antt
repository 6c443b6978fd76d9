use Rattle.std.proofs.Common.{ℕ, ◌≤◌, length, sym, subst}
use Rattle.std.proofs.lemmas.List.Sums.{prefix_len-le-length}
use Rattle.ifmap_elem.specs.laws.NameBytes.{is_name_byte}
use Rattle.ifmap_lexer.proofs.SplitLaws.{cuts_at_len}
use Rattle.ifmap_lexer.proofs.names.split_name.Goals as goal

pub split_at-requires : goal.split_at-requires
split_at-requires c =
    subst (λ (n : ℕ). n ≤ length c.args.bytes.now) (sym c.name_len.ensures) (prefix_len-le-length is_name_byte c.args.bytes.now)

pub returns : goal.returns
returns c = cuts_at_len is_name_byte c.args.bytes.now c.split_at.result.0.now c.split_at.result.1.now c.name_len.result c.name_len.ensures
    c.split_at.ensures.front c.split_at.ensures.back
