use Rattle.std.proofs.Common.{◌≡◌, false, true, nat_eq, ap, refl, sym, ◌∙◌}
use Rattle.ifmap_addresses.proofs.Paired.{after_first, after_next, none_left, six_pairs}
use Rattle.ifmap_addresses.proofs.mac_addresses.mac_address_of.Goals as goal

pub returns-in_err-a-clause-none : goal.returns-in_err-a-clause-none
returns-in_err-a-clause-none c is value spelled =
    let p = six_pairs value c.as_bytes.ensures.value spelled in
    c.in_err-a.ensures.none refl p.0 p.1 p.2 p.3

pub returns-in_err-b-clause-none : goal.returns-in_err-b-clause-none
returns-in_err-b-clause-none c is value spelled =
    let p = after_first 5 c.in_ok-a.a c.in_ok-a.ensures.found (six_pairs value c.as_bytes.ensures.value spelled) in
    c.in_err-b.ensures.none refl p.0 p.1 p.2 p.3

pub returns-in_err-c-clause-none : goal.returns-in_err-c-clause-none
returns-in_err-c-clause-none c is value spelled =
    let p = after_next 4 c.in_ok-b.b c.in_ok-b.ensures.found (after_first 5 c.in_ok-a.a c.in_ok-a.ensures.found
    (six_pairs value c.as_bytes.ensures.value spelled)) in
    c.in_err-c.ensures.none refl p.0 p.1 p.2 p.3

pub returns-in_err-d-clause-none : goal.returns-in_err-d-clause-none
returns-in_err-d-clause-none c is value spelled =
    let p = after_next 3 c.in_ok-c.c c.in_ok-c.ensures.found (after_next 4 c.in_ok-b.b c.in_ok-b.ensures.found
    (after_first 5 c.in_ok-a.a c.in_ok-a.ensures.found (six_pairs value c.as_bytes.ensures.value spelled))) in
    c.in_err-d.ensures.none refl p.0 p.1 p.2 p.3

pub returns-in_err-e-clause-none : goal.returns-in_err-e-clause-none
returns-in_err-e-clause-none c is value spelled =
    let p = after_next 2 c.in_ok-d.d c.in_ok-d.ensures.found (after_next 3 c.in_ok-c.c c.in_ok-c.ensures.found
    (after_next 4 c.in_ok-b.b c.in_ok-b.ensures.found (after_first 5 c.in_ok-a.a c.in_ok-a.ensures.found
    (six_pairs value c.as_bytes.ensures.value spelled)))) in
    c.in_err-e.ensures.none refl p.0 p.1 p.2 p.3

pub returns-in_err-f-clause-none : goal.returns-in_err-f-clause-none
returns-in_err-f-clause-none c is value spelled =
    let p = after_next 1 c.in_ok-e.e c.in_ok-e.ensures.found (after_next 2 c.in_ok-d.d c.in_ok-d.ensures.found
    (after_next 3 c.in_ok-c.c c.in_ok-c.ensures.found (after_next 4 c.in_ok-b.b c.in_ok-b.ensures.found
    (after_first 5 c.in_ok-a.a c.in_ok-a.ensures.found (six_pairs value c.as_bytes.ensures.value spelled))))) in
    c.in_err-f.ensures.none refl p.0 p.1 p.2 p.3

pub returns-then-not-is_empty-clause-none : goal.returns-then-not-is_empty-clause-none
returns-then-not-is_empty-clause-none c is value spelled =
    let p = after_next 0 c.in_ok-f.f c.in_ok-f.ensures.found (after_next 1 c.in_ok-e.e c.in_ok-e.ensures.found
    (after_next 2 c.in_ok-d.d c.in_ok-d.ensures.found (after_next 3 c.in_ok-c.c c.in_ok-c.ensures.found
    (after_next 4 c.in_ok-b.b c.in_ok-b.ensures.found (after_first 5 c.in_ok-a.a c.in_ok-a.ensures.found
    (six_pairs value c.as_bytes.ensures.value spelled)))))) in
    let some : false ≡ true = sym c.if-not-is_empty.true ∙ c.is_empty.ensures ∙ ap (λ n. nat_eq n 0) (none_left c.in_ok-f.rest.now p) in
    cc
