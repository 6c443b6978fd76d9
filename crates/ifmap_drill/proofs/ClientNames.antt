-- The names of the clients of a drill.
use Rattle.std.proofs.Common.{◌≡◌, ℕ, ◌<◌, ◌+◌, ◌∷◌, [], ◌++◌, codes, List, true, refl, sym, subst, arith}
use Rattle.std.proofs.lemmas.Fmt.{decimal_digit}
use Rattle.std.proofs.lemmas.Bool.Decides.{nat_tests}
use Rattle.ifmap_meta.specs.ClientNames.{IsClientName, is_client_byte}
use Rattle.ifmap_drill.specs.Events.{client_name}

digit_fits : (d : ℕ) → d < 10 → is_client_byte (0x30 + d) ≡ true
digit_fits d few = grind (arith, nat_tests)

spelled_is : (d : ℕ) → d < 10 → IsClientName (codes "d" ++ (0x30 + d) ∷ [])
spelled_is d few = (omega arith, omega arith, (let fits = digit_fits d few in rw fits refl))

pub name_is : (client : ℕ) → client < 10 → IsClientName (client_name client)
name_is client few =
    subst (λ (digits : List ℕ). IsClientName (codes "d" ++ digits)) (sym (decimal_digit client few)) (spelled_is client few)
