-- Subscriptions in their order.
use Rattle.std.proofs.Common.{◌≡◌, sym, ◌∙◌, ap, []}
use Rattle.std.proofs.lemmas.Cmp.{nat_cmp_total, nat_list_cmp_total, on_total, then_total}
use Rattle.std.specs.Cmp.{tied_itself, IsTotalOrder}
use Rattle.std.specs.Cmp.Lexicographic.{slice_cmp}
use Rattle.std.specs.Ordering.{nat_cmp, ordering_then}
use Rattle.std.specs.declared.cmp.Ordering.TheVariants.{Equal}
use Rattle.ifmap_machine.specs.State.{Standing, standing_order}
use Rattle.std.proofs.lemmas.List.{append-nil}
use Rattle.ifmap_machine.specs.Telling.{tell_session}
use Rattle.ifmap_session.specs.Sessions.{Session}

-- the order of subscriptions is total
pub standing_total : IsTotalOrder standing_order
standing_total =
    then_total (on_total (λ (x : Standing). x.serial) nat_cmp_total) (on_total (λ (x : Standing). x.name) nat_list_cmp_total)

-- in the order of subscriptions those of one serial and name are equal, and no others are
pub order_same : (x y : Standing) → x.serial ≡ y.serial → x.name ≡ y.name → standing_order x y ≡ Equal
order_same x y s n =
    ap (λ r. ordering_then r (slice_cmp nat_cmp x.name y.name)) (ap (nat_cmp x.serial) (sym s) ∙ tied_itself nat_cmp_total x.serial)
    ∙ (ap (slice_cmp nat_cmp x.name) (sym n) ∙ tied_itself nat_list_cmp_total x.name)

pub tell_nothing : (s : Session) → tell_session [] s ≡ s
tell_nothing s = ap (λ queue. record s { queue = queue }) (append-nil s.queue)
