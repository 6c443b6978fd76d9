use Rattle.std.proofs.Common.{◌≡◌, ℕ, None, sym, ap, ◌∙◌, arith}
use Rattle.std.proofs.lemmas.Option.{none-some}
use Rattle.std.specs.Prelude.{option_map, unwrap_or}
use Rattle.std.specs.Ordering.{nat_cmp}
use Rattle.std.specs.FinMap.{get, get-empty}
use Rattle.ifmap_pool.specs.Holdings.{entry_at, holds_at}
use Rattle.ifmap_region_tests.proofs.pools.a_number_is_kept_until_its_last_hold.Goals as goal

pub hold-first-requires-clause-few : goal.hold-first-requires-clause-few
hold-first-requires-clause-few g c number names =
    let none : entry_at c.reserve.new.self number ≡ None = ap (λ m. get m number) (c.reserve.ensures.live ∙ c.new-pool.ensures.live) ∙
    get-empty nat_cmp number in
    absurd (none-some names.0 (sym none ∙ names.1))

pub hold-second-requires-clause-few : goal.hold-second-requires-clause-few
hold-second-requires-clause-few g c number names =
    let first = c.hold-first.result in
    let none : entry_at c.reserve.new.self first ≡ None = ap (λ m. get m first) (c.reserve.ensures.live ∙ c.new-pool.ensures.live) ∙
    get-empty nat_cmp first in
    let free : holds_at c.reserve.new.self first ≡ 0 = ap (λ o. unwrap_or (option_map (λ (entry : ℕ × ℕ). entry.1) o) 0) none in
    let one : number ≡ first = c.hold-first.ensures.whole.one_to_one number first 7 names c.hold-first.ensures.named in
    omega (arith, ap (holds_at c.hold-first.new.self) one, c.hold-first.ensures.counted, free)
