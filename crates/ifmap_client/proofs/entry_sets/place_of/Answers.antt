use Rattle.std.proofs.Common.{rules, ◌≡◌}
use Rattle.std.proofs.lemmas.Fn.{always_returns_same}
use Rattle.ifmap_folds.specs.Differences.{entry_order}
use Rattle.ifmap_client.proofs.Placing.{search_gives_entry_place}
use Rattle.ifmap_client.proofs.entry_sets.place_of.Goals as goal

pub returns : goal.returns
returns c =
    search_gives_entry_place c.args.entry.now c.args.set.now _ c.requires c.binary_search_by.ensures.bound
    (c.binary_search_by.ensures.position (λ b. entry_order b c.args.entry.now)
    (always_returns_same _ (λ b r. r ≡ entry_order b.0.now c.args.entry.now) _ (λ b r f k. search rules)))
