-- Whose a session is that is left.
use Rattle.std.proofs.Common.{◌≡◌, refl, sym, ◌∙◌, ap, subst, ℕ, ◌==◌, Bool, true, false, not, List, Option, None, Some, is_none, inl, inr}
use Rattle.std.proofs.lemmas.Bool.{cases_Bool}
use Rattle.std.specs.List.{list_any}
use Rattle.std.specs.Option.{is_some, option_map}
use Rattle.ifmap_lemmas.specs.Parted.{found_in_rest, none_in_rest}
use Rattle.ifmap_core.proofs.Ended.{client_lost, rising_left}
use Rattle.ifmap_session.specs.Sessions.{IsLive, IsTable, Session, SessionTable, is_same_text, session_of_client, session_with_id, session_with_serial, without_sessions}
use Rattle.ifmap_session.specs.laws.TableLaws.{found_by_serial, is_left}
use Rattle.ifmap_session.specs.laws.TextLaws.{text_is}

pub other_text : (a b : List ℕ) (r : Bool) → (a ≡ b → r ≡ true) → r ≡ false → is_same_text a b ≡ false
other_text a b r f no_text =
    elim (cases_Bool (is_same_text a b)) [
      | inl hit ↦ let bad : true ≡ false = sym (f (text_is a b hit)) ∙ no_text in cc
      | inr miss ↦ miss
    ]

-- it is left, and found by its id and its serial
pub id_left : (serials : List ℕ) (live : List Session) (id : List ℕ) (s : Session) → session_with_id id live ≡ Some s
    → list_any (λ n. n == s.serial) serials ≡ false → session_with_id id (without_sessions serials live) ≡ Some s
id_left serials live id s e stays = found_in_rest (λ (t : Session). is_same_text t.id id) (is_left serials) live s e (ap not stays)

pub serial_left : (serials : List ℕ) (live : List Session) (n : ℕ) (s : Session) → session_with_serial s.serial live ≡ Some s → n ≡ s.serial
    → list_any (λ m. m == s.serial) serials ≡ false → session_with_serial n (without_sessions serials live) ≡ Some s
serial_left serials live n s e is stays =
    subst (λ m. session_with_serial m (without_sessions serials live) ≡ Some s) (sym is)
    (found_in_rest (λ (t : Session). t.serial == s.serial) (is_left serials) live s e (ap not stays))

-- whether a serial is among some, for a session that has it
pub among : (serials : List ℕ) (n : ℕ) (s : Session) (b : Bool) → n ≡ s.serial → list_any (λ m. m == n) serials ≡ b
    → list_any (λ m. m == s.serial) serials ≡ b
among serials n s b is e = subst (λ k. list_any (λ m. m == k) serials ≡ b) is e

-- the client's session, by what is found of it
module _ (table : SessionTable) (serials client : List ℕ) (h : IsTable table) where
  pub former_none : option_map (λ (s : Session). s.serial) (session_of_client client table.live) ≡ None
      → option_map (λ (s : Session). s.serial) (session_of_client client (without_sessions serials table.live)) ≡ None
  former_none e =
      ap (option_map (λ (s : Session). s.serial)) (none_in_rest (λ (s : Session). is_same_text s.client client) (is_left serials) table.live
      (was_none (session_of_client client table.live) e))
    where
      was_none : (o : Option Session) → option_map (λ (s : Session). s.serial) o ≡ None → o ≡ None
      was_none None e = refl
      was_none (Some s) e = cc

  some_of : (o : Option Session) (n : ℕ) → option_map (λ (s : Session). s.serial) o ≡ Some n → (s : Session) × (o ≡ Some s) × (n ≡ s.serial)
  some_of None n e = cc
  some_of (Some s) n e = let same : s.serial ≡ n = cc e in (s, refl, sym same)

  pub former_gone : (n : ℕ) → option_map (λ (s : Session). s.serial) (session_of_client client table.live) ≡ Some n
      → list_any (λ m. m == n) serials ≡ true
      → option_map (λ (s : Session). s.serial) (session_of_client client (without_sessions serials table.live)) ≡ None
  former_gone n e out =
      let o = some_of (session_of_client client table.live) n e in
      let goes : is_left serials o.0 ≡ false = ap not (among serials n o.0 true o.2 out) in
      ap (option_map (λ (s : Session). s.serial)) (client_lost (is_left serials) table.live client o.0 h.apart o.1 goes)

  pub former_left : (n : ℕ) → option_map (λ (s : Session). s.serial) (session_of_client client table.live) ≡ Some n
      → list_any (λ m. m == n) serials ≡ false
      → (option_map (λ (s : Session). s.serial) (session_of_client client (without_sessions serials table.live)) ≡ Some n)
      × IsLive n (without_sessions serials table.live)
  former_left n e stays =
      let o = some_of (session_of_client client table.live) n e in
      let keeps : is_left serials o.0 ≡ true = ap not (among serials n o.0 false o.2 stays) in
      let found = found_in_rest (λ (s : Session). is_same_text s.client client) (is_left serials) table.live o.0 o.1 keeps in
      let numbered = found_by_serial (λ (s : Session). is_same_text s.client client) (without_sessions serials table.live) o.0
      (rising_left serials table.live h.rising) found in (
        ap (option_map (λ (s : Session). s.serial)) found ∙ ap Some (sym o.2),
        rw (o.2, numbered) refl,
      )

pub none_told : (former : Option ℕ) (o : Option Session) (b : Bool) → former ≡ option_map (λ (s : Session). s.serial) o
    → is_some former ≡ not b → b ≡ is_none o
none_told former None true e is = refl
none_told former (Some s) false e is = refl
none_told former None false e is = let bad : false ≡ true = sym (ap is_some e) ∙ is in cc
none_told former (Some s) true e is = let bad : true ≡ false = sym (ap is_some e) ∙ is in cc
