-- What the calls of a subscription leave as it is.
use Rattle.std.specs.Prelude.{◌≡◌}
use Rattle.ifmap_delta.specs.declared.subscriptions.Subscription.{Subscription}

-- the search, and the start and greatest depth of the region, stay
pub record HasSameSearch (old new : Subscription) : Type 0 where
  pub search : new.search ≡ old.search
  pub start : new.region.start ≡ old.region.start
  pub max_depth : new.region.max_depth ≡ old.region.max_depth
