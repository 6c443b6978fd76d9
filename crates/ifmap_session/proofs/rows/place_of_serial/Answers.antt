use Rattle.std.proofs.Common.{rules, ◌≡◌, sym, ◌∙◌}
use Rattle.std.proofs.lemmas.List.Sorted.{answers_always}
use Rattle.ifmap_session.proofs.PlaceLaws.{no_place_no_session, row_empty, row_there}
use Rattle.ifmap_session.proofs.rows.place_of_serial.Goals as goal

pub returns-in_err-place : goal.returns-in_err-place
returns-in_err-place c =
    let is = c.binary_search_by_key.ensures.position (λ x. x.serial)
    (answers_always _ (λ a r. r ≡ a.0.now.serial) _ (λ f a r q k. search rules)) in
    rw c.from_residual.ensures (no_place_no_session c.args.rows.now c.args.serial c.requires c.binary_search_by_key.result
    c.binary_search_by_key.ensures.bound is (sym c.ok.ensures.value ∙ c.in_err-place.was))

pub returns-then-is_some : goal.returns-then-is_some
returns-then-is_some c =
    let is = c.binary_search_by_key.ensures.position (λ x. x.serial)
    (answers_always _ (λ a r. r ≡ a.0.now.serial) _ (λ f a r q k. search rules)) in
    row_there c.args.rows.now c.args.serial c.requires c.binary_search_by_key.result c.in_ok-place.place c.index-rows-place.result
    c.binary_search_by_key.ensures.bound is (sym c.ok.ensures.value ∙ c.in_ok-place.was) c.index-rows-place.is
    (sym c.is_some.ensures ∙ c.if-is_some.true)

pub returns-else-is_some : goal.returns-else-is_some
returns-else-is_some c =
    let is = c.binary_search_by_key.ensures.position (λ x. x.serial)
    (answers_always _ (λ a r. r ≡ a.0.now.serial) _ (λ f a r q k. search rules)) in
    row_empty c.args.rows.now c.args.serial c.requires c.binary_search_by_key.result c.in_ok-place.place c.index-rows-place.result
    c.binary_search_by_key.ensures.bound is (sym c.ok.ensures.value ∙ c.in_ok-place.was) c.index-rows-place.is
    (sym c.is_some.ensures ∙ c.if-is_some.false)
