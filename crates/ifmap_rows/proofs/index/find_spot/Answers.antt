use Rattle.std.proofs.Common.{rules, ◌≡◌}
use Rattle.std.proofs.lemmas.Fn.{always_returns_same}
use Rattle.ifmap_meta.specs.declared.stored.Stored.{Stored}
use Rattle.ifmap_plans.specs.laws.PlacingLaws.{spot}
use Rattle.ifmap_rows.specs.Indexed.{word_order}
use Rattle.ifmap_rows.proofs.Keeping.{words_total}
use Rattle.ifmap_rows.proofs.index.find_spot.Goals as goal

pub returns : goal.returns
returns c =
    spot Stored word_order words_total c.args.worded.now c.args.index.now _ c.requires c.binary_search_by.ensures.bound
    (c.binary_search_by.ensures.position (λ b. word_order b c.args.worded.now)
    (always_returns_same _ (λ b r. r ≡ word_order b.0.now c.args.worded.now) _ (λ b r f k. search rules)))
