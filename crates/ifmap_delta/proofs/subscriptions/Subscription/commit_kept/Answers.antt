use Rattle.std.proofs.Common.{refl}
use Rattle.ifmap_delta.proofs.Keeping.{takes_over}
use Rattle.ifmap_delta.proofs.subscriptions.Subscription.commit_kept.Goals as goal

pub returns-clause-kept : goal.returns-clause-kept
returns-clause-kept c =
    let kept = c.commit_kept-region
    in takes_over c.args.self.now (record { search = c.args.self.now.search; region = kept.new.self; size = c.args.new_size })
    c.args.patch c.args.new_size (record { search = refl; start = kept.ensures.start; max_depth = kept.ensures.max_depth }) refl
    kept.ensures.makes.marks
