use Rattle.ifmap_ident.proofs.BlockLaws.{all_shared, some_shared}
use Rattle.ifmap_ident.proofs.written.shared_in_block.Goals as goal

pub returns-then-differing-eq0-clause-shared : goal.returns-then-differing-eq0-clause-shared
returns-then-differing-eq0-clause-shared c =
    (all_shared c.args.one.now c.args.other.now c.args.at c.requires.one c.requires.other c.if-differing-eq0.true).1

pub returns-clause-within : goal.returns-clause-within
returns-clause-within c =
    (some_shared c.args.one.now c.args.other.now c.args.at c.requires.one c.requires.other c.if-differing-eq0.false).0

pub returns-clause-shared : goal.returns-clause-shared
returns-clause-shared c =
    (some_shared c.args.one.now c.args.other.now c.args.at c.requires.one c.requires.other c.if-differing-eq0.false).1

pub returns-clause-apart : goal.returns-clause-apart
returns-clause-apart c =
    (some_shared c.args.one.now c.args.other.now c.args.at c.requires.one c.requires.other c.if-differing-eq0.false).2
