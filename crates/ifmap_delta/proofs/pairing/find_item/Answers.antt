use Rattle.std.proofs.Common.{rules, ◌≡◌, None}
use Rattle.std.proofs.lemmas.Fn.{always_returns_same}
use Rattle.ifmap_ident.specs.Items.{item_order}
use Rattle.ifmap_delta.specs.declared.pairing.TouchedItem.{TouchedItem}
use Rattle.ifmap_delta.proofs.Beside.{none_same, rises_on, same_turned, touched_order, touched_total}
use Rattle.ifmap_delta.proofs.pairing.find_item.Goals as goal
use Rattle.ifmap_lemmas.specs.Inserted.{gap_none}

pub returns-in-Ok-clause-same : goal.returns-in-Ok-clause-same
returns-in-Ok-clause-same c d =
    let item = c.args.item.now
    in same_turned item _ (c.in-Ok.ensures.position (λ (b : TouchedItem). item_order b.item item)
    (always_returns_same _ (λ b r. r ≡ item_order b.0.now.item c.args.item.now) _ (λ b r f k. search rules)) d)

pub returns-in-Err-clause-none : goal.returns-in-Err-clause-none
returns-in-Err-clause-none c e =
    let item = c.args.item.now
    in let touched = c.args.touched.now
    in none_same item touched
    (gap_none TouchedItem touched_order touched_total (record { item = item; place = None }) touched c.in-Err.field-0
    (rises_on touched c.requires) c.in-Err.ensures.bound
    (c.in-Err.ensures.position (λ (b : TouchedItem). item_order b.item item)
    (always_returns_same _ (λ b r. r ≡ item_order b.0.now.item c.args.item.now) _ (λ b r f k. search rules))))
