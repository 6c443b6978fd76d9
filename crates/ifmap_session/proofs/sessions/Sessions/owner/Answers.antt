use Rattle.std.proofs.Common.{◌≡◌, sym, ◌∙◌, subst, false, Some}
use Rattle.std.proofs.lemmas.Bool.{both_ways, false_from_ne_true}
use Rattle.ifmap_session.specs.Rows.{live_in}
use Rattle.ifmap_session.specs.Sessions.{is_same_text, session_with_serial}
use Rattle.ifmap_session.proofs.RowLaws.{found_in_row}
use Rattle.ifmap_session.specs.laws.TextLaws.{text_is, text_same}
use Rattle.ifmap_session.proofs.SessionLaws.{none_of_serial, none_unread, one_in_row, own_at}
use Rattle.ifmap_session.proofs.sessions.Sessions.owner.Goals as goal

pub returns-in_err-serial-clause-none : goal.returns-in_err-serial-clause-none
returns-in_err-serial-clause-none c =
    rw (c.from_residual.ensures, ← c.self.view_is)
    (none_unread _ _ c.args.id.now c.serial_of.result c.self.invariant.sessions
    (λ n rest small e. c.serial_of.ensures n rest small (c.as_str.ensures ∙ e)) c.in_err-serial.was)

pub returns-in_err-kept-clause-none : goal.returns-in_err-kept-clause-none
returns-in_err-kept-clause-none c =
    let none = rw (c.in_err-kept.was, c.deref.ensures.value) at c.find_live.ensures in
    rw (c.from_residual-in_err-kept.ensures, ← c.self.view_is)
    (none_of_serial _ _ c.args.id.now c.serial_of.result c.self.invariant.sessions
    (λ n rest small e. c.serial_of.ensures n rest small (c.as_str.ensures ∙ e)) c.in_ok-serial.serial c.in_ok-serial.was none)

pub returns-then-equals-clause-some : goal.returns-then-equals-clause-some
returns-then-equals-clause-some c =
    let k = c.self.invariant.sessions in
    let live = live_in c.self.inside.rows.items in
    let got = rw (c.in_ok-kept.was, c.deref.ensures.value) at c.find_live.ensures in
    let seat = c.in_ok-kept.kept.now in
    let at = one_in_row _ _ c.args.id.now c.serial_of.result c.self.invariant.sessions
    (λ n rest small e. c.serial_of.ensures n rest small (c.as_str.ensures ∙ e)) c.in_ok-serial.serial got.0 seat c.in_ok-serial.was got.1 in
    let same = sym c.id.ensures ∙ c.equals.ensures.0 c.if-equals.true in
    let own = own_at c.in_ok-serial.serial c.self.inside.rows.items got.0 seat k.own.own got.1 in
    let there : session_with_serial seat.session.serial live ≡ Some seat.session =
    subst (λ n. session_with_serial n live ≡ Some seat.session) (sym own.numbered)
    (found_in_row c.in_ok-serial.serial c.self.inside.rows.items got.0 seat k.own.rising k.own.own got.1) in (
      seat.session,
      rw (← c.self.view_is) (rw (text_same seat.session.id c.args.id.now same) at at),
      sym own.numbered,
      c.client.ensures,
      rw (← c.self.view_is) there,
    )

pub returns-else-equals-clause-none : goal.returns-else-equals-clause-none
returns-else-equals-clause-none c =
    let got = rw (c.in_ok-kept.was, c.deref.ensures.value) at c.find_live.ensures in
    let seat = c.in_ok-kept.kept.now in
    let at = one_in_row _ _ c.args.id.now c.serial_of.result c.self.invariant.sessions
    (λ n rest small e. c.serial_of.ensures n rest small (c.as_str.ensures ∙ e)) c.in_ok-serial.serial got.0 seat c.in_ok-serial.was got.1 in
    let differ : is_same_text seat.session.id c.args.id.now ≡ false =
    false_from_ne_true (is_same_text seat.session.id c.args.id.now)
    (λ e. both_ways c.equals.result c.if-equals.false (c.equals.ensures.1 (c.id.ensures ∙ text_is seat.session.id c.args.id.now e))) in
    rw (← c.self.view_is) (rw differ at at)
