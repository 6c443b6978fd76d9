-- Sessions by their serials: those of one serial are one (`one_of_serial`).
use Rattle.std.proofs.Common.{◌≡◌, sym, ◌∙◌, ap, List, [], ◌∷◌}
use Rattle.std.proofs.Common.{inl, inr, arith}
use Rattle.std.proofs.lemmas.Bool.Decides.{nat_tests}
use Rattle.std.specs.List.Sorted.{IsStrictlySortedBy}
use Rattle.std.specs.declared.cmp.Ordering.TheVariants.{Less}
use Rattle.ifmap_lemmas.specs.Having.{Has, all_has}
use Rattle.ifmap_session.specs.Sessions.{Session, session_order}

pub one_of_serial : (live : List Session) (one other : Session) → IsStrictlySortedBy session_order live → Has live one → Has live other
    → one.serial ≡ other.serial → one ≡ other
unfolding IsStrictlySortedBy
one_of_serial [] one other up h k same = absurd h
one_of_serial (y ∷ live) one other up (inl e) (inl d) same = sym e ∙ d
one_of_serial (y ∷ live) one other up (inl e) (inr k) same =
    let less : session_order y other ≡ Less = all_has (λ z. session_order y z ≡ Less) live up.0 other k in
    let serials : y.serial ≡ other.serial = ap (λ (s : Session). s.serial) e ∙ same in
    absurd (grind (arith, nat_tests, less, serials))
one_of_serial (y ∷ live) one other up (inr h) (inl d) same =
    let less : session_order y one ≡ Less = all_has (λ z. session_order y z ≡ Less) live up.0 one h in
    let serials : y.serial ≡ one.serial = ap (λ (s : Session). s.serial) d ∙ sym same in
    absurd (grind (arith, nat_tests, less, serials))
one_of_serial (y ∷ live) one other up (inr h) (inr k) same = one_of_serial live one other up.1 h k same
