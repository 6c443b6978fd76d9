use Rattle.std.proofs.Common.{refl}
use Rattle.ifmap_delta.proofs.Keeping.{takes_over}
use Rattle.ifmap_delta.proofs.subscriptions.Subscription.commit.Goals as goal

pub returns-clause-kept : goal.returns-clause-kept
returns-clause-kept c =
    takes_over c.args.self.now (record { search = c.args.self.now.search; region = c.commit.new.self; size = c.args.new_size })
    c.args.patch c.args.new_size (record { search = refl; start = c.commit.ensures.start; max_depth = c.commit.ensures.max_depth }) refl
    c.commit.ensures.marks
