-- What changes of one session make: one that changes nothing leaves all, and two after each other are one.
use Rattle.std.proofs.Common.{◌≡◌, refl, sym, ◌∙◌, ap, ℕ, ◌==◌, true, false, List, [], ◌∷◌, inl, inr, arith}
use Rattle.std.proofs.lemmas.Bool.{cases_Bool}
use Rattle.std.proofs.lemmas.Bool.Decides.{nat_tests}
use Rattle.std.specs.List.{AllByRecursion}
use Rattle.std.specs.declared.cmp.Ordering.TheVariants.{Less}
use Rattle.ifmap_standing.specs.ifmap_session.Sessions.{Changes, Session, SessionTable, change, session_order}

module _ (n : ℕ) where
  pub change_none : (f : Session → Session) → ((s : Session) → f s ≡ s) → (live : List Session) → change n f live ≡ live
  change_none f same [] = refl
  change_none f same (s ∷ live) =
      elim (cases_Bool (s.serial == n)) [
        | inl hit ↦ rw (hit, same s, change_none f same live) refl
        | inr miss ↦ rw (miss, change_none f same live) refl
      ]

  pub change_both : (f g h : Session → Session) → ((s : Session) → (f s).serial ≡ s.serial) → ((s : Session) → g (f s) ≡ h s)
      → (live : List Session) → change n g (change n f live) ≡ change n h live
  change_both f g h keeps same [] = refl
  change_both f g h keeps same (s ∷ live) =
      elim (cases_Bool (s.serial == n)) [
        | inl hit ↦
            let again : ((f s).serial == n) ≡ true = ap (λ m. m == n) (keeps s) ∙ hit in
            rw (hit, again, same s, change_both f g h keeps same live) refl
        | inr miss ↦ rw (miss, miss, change_both f g h keeps same live) refl
      ]

  -- the same of tables
  pub changes_none : (f : Session → Session) → ((s : Session) → f s ≡ s) → (table : SessionTable) → Changes n f table table
  changes_none f same table = record {
    live = sym (change_none f same table.live);
    counter = refl;
    others = λ other apart. refl;
    room = omega arith;
  }

  pub changes_both : (f g h : Session → Session) → ((s : Session) → (f s).serial ≡ s.serial) → ((s : Session) → g (f s) ≡ h s)
      → (old mid new : SessionTable) → Changes n f old mid → Changes n g mid new → Changes n h old new
  changes_both f g h keeps same old mid new a b = record {
    live = b.live ∙ ap (change n g) a.live ∙ change_both f g h keeps same old.live;
    counter = b.counter ∙ a.counter;
    others = λ other apart. b.others other apart ∙ a.others other apart;
    room = omega (arith, a.room, b.room);
  }

  -- where serials rise, no session after the one with that serial changes
  pub others_same : (x : Session) (f : Session → Session) (live : List Session) → (x.serial == n) ≡ true
      → AllByRecursion (λ y. session_order x y ≡ Less) live → change n f live ≡ live
  others_same x f [] is up = refl
  others_same x f (y ∷ live) is up =
      let other : (y.serial == n) ≡ false = let less = up.0 in grind (arith, nat_tests, is, less) in
      rw other (ap (λ t. y ∷ t) (others_same x f live is up.1))
