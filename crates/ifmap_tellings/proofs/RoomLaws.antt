-- Sessions that stay but for their room: the same sessions twice (`same_twice`), of which what can be told can be told still
-- (`tells_still`). Then what is found by a serial (`found_serial`, `found_here`).
use Rattle.std.proofs.Common.{◌≡◌, sym, ap, subst, ℕ, ◌==◌, false, List, [], ◌∷◌, Some, inl, inr, arith}
use Rattle.std.proofs.lemmas.Bool.{eq-eqb}
use Rattle.std.proofs.lemmas.Bool.Decides.{nat_tests}
use Rattle.std.specs.List.Sorted.{IsStrictlySortedBy}
use Rattle.std.specs.declared.cmp.Ordering.TheVariants.{Less}
use Rattle.ifmap_lemmas.specs.Having.{Has, all_has}
use Rattle.ifmap_standing.specs.ifmap_session.Sessions.{IsLive, Session, SessionTable, session_order, session_with_serial}
use Rattle.ifmap_tellings.specs.declared.tellings.Telling.{Telling}
use Rattle.ifmap_tellings.specs.Tellings.{CanTell, HasSameSessions}

pub tells_still : (a b : SessionTable) (n : ℕ) (t : Telling) → HasSameSessions a b → CanTell a n t → CanTell b n t
tells_still a b n t same can = record {
  live = subst (λ l. IsLive n l) (sym same.live) can.live;
  room = omega (arith, can.room, same.spare n);
}

-- a session that is there is found by its serial
pub found_here : (live : List Session) (s : Session) → IsStrictlySortedBy session_order live → Has live s
    → session_with_serial s.serial live ≡ Some s
unfolding IsStrictlySortedBy
found_here [] s up h = absurd h
found_here (x ∷ live) s up (inl e) = rw (eq-eqb x.serial s.serial (ap (λ (t : Session). t.serial) e)) (ap Some e)
found_here (x ∷ live) s up (inr h) =
    let less : session_order x s ≡ Less = all_has (λ z. session_order x z ≡ Less) live up.0 s h in
    let other : (x.serial == s.serial) ≡ false = grind (arith, nat_tests, less) in
    rw other (found_here live s up.1 h)
