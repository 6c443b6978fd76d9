use Rattle.std.proofs.Common.{◌≡◌, sym, ◌∙◌, subst, ◌==◌, Bool, true, false, None, Some}
use Rattle.std.specs.List.{list_any}
use Rattle.std.specs.Option.{option_map}
use Rattle.ifmap_subscribes.specs.ifmap_changes.Between.{Asking, sessions_left}
use Rattle.ifmap_core.proofs.Owned.{former_gone, former_left, former_none}
use Rattle.ifmap_core.proofs.owning.former_of.Goals as goal
use Rattle.ifmap_core.proofs.owning.former_of.Goals.{After-contains}
use Rattle.ifmap_session.specs.Sessions.{IsLive, Session, session_of_client}

-- the serial is that of the client's session
serial_of_client : (c : After-contains)
    → option_map (λ (s : Session). s.serial) (session_of_client c.args.asking.now.client c.args.sessions.now.live)
    ≡ Some c.in_ok-serial.serial
serial_of_client c =
    sym (subst (λ (a : Asking). Some c.in_ok-serial.serial
    ≡ option_map (λ (s : Session). s.serial) (session_of_client a.client c.args.sessions.now.live)) c.asking.view_is
    c.in_ok-serial.ensures.serial)

-- whether it is among those that have ended
is_among_ended : (c : After-contains) (b : Bool) → c.contains.result ≡ b
    → list_any (λ m. m == c.in_ok-serial.serial) c.args.asking.now.ended ≡ b
is_among_ended c b is =
    subst (λ (a : Asking). list_any (λ m. m == c.in_ok-serial.serial) a.ended ≡ b) c.asking.view_is (sym c.contains.ensures.value ∙ is)

-- it is left, where it is not
left_unless_ended : (c : After-contains) → c.contains.result ≡ false
    → (option_map (λ (s : Session). s.serial) (session_of_client c.args.asking.now.client
    (sessions_left c.args.asking.now c.args.sessions.now)) ≡ Some c.in_ok-serial.serial)
    × IsLive c.in_ok-serial.serial (sessions_left c.args.asking.now c.args.sessions.now)
left_unless_ended c stays =
    former_left c.args.sessions.now c.args.asking.now.ended c.args.asking.now.client c.is_table.ensures c.in_ok-serial.serial
    (serial_of_client c) (is_among_ended c false stays)

pub returns-in_err-serial-clause-serial : goal.returns-in_err-serial-clause-serial
returns-in_err-serial-clause-serial c =
    let none = subst (λ (a : Asking). None ≡ option_map (λ (s : Session). s.serial) (session_of_client a.client c.args.sessions.now.live))
    c.asking.view_is c.in_err-serial.ensures.serial in
    c.from_residual.ensures
    ∙ sym (former_none c.args.sessions.now c.args.asking.now.ended c.args.asking.now.client c.is_table.ensures (sym none))

pub returns-then-contains-clause-serial : goal.returns-then-contains-clause-serial
returns-then-contains-clause-serial c =
    let place = (goal.at.returns-then-contains-clause-serial c).After-contains in
    sym (former_gone c.args.sessions.now c.args.asking.now.ended c.args.asking.now.client c.is_table.ensures c.in_ok-serial.serial
    (serial_of_client place) (is_among_ended place true c.if-contains.true))

pub returns-clause-serial : goal.returns-clause-serial
returns-clause-serial c = sym (left_unless_ended (goal.at.returns-clause-serial c).After-contains c.if-contains.false).0

pub returns-clause-live : goal.returns-clause-live
returns-clause-live c = (left_unless_ended (goal.at.returns-clause-live c).After-contains c.if-contains.false).1
