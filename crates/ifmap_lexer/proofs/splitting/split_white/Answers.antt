use Rattle.std.proofs.Common.{ℕ, ◌≤◌, length, sym, subst}
use Rattle.std.proofs.lemmas.List.Sums.{prefix_len-le-length}
use Rattle.ifmap_elem.specs.Chars.{is_white}
use Rattle.ifmap_lexer.proofs.SplitLaws.{cuts_at_len}
use Rattle.ifmap_lexer.proofs.splitting.split_white.Goals as goal

pub split_at-requires : goal.split_at-requires
split_at-requires c =
    subst (λ (n : ℕ). n ≤ length c.args.bytes.now) (sym c.white_len.ensures) (prefix_len-le-length is_white c.args.bytes.now)

pub returns : goal.returns
returns c = cuts_at_len is_white c.args.bytes.now c.split_at.result.0.now c.split_at.result.1.now c.white_len.result c.white_len.ensures
    c.split_at.ensures.front c.split_at.ensures.back
