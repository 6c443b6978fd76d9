use Rattle.std.proofs.Common.{◌≡◌, sym, ◌∙◌, ap, subst, ◌==◌, true, false, not}
use Rattle.std.specs.List.{list_any}
use Rattle.ifmap_lemmas.specs.Parted.{none_in_rest}
use Rattle.ifmap_subscribes.specs.ifmap_changes.Between.{Asking}
use Rattle.ifmap_core.proofs.Ended.{id_lost}
use Rattle.ifmap_core.proofs.Owned.{among, id_left, other_text, serial_left}
use Rattle.ifmap_core.proofs.owning.owner_of.Goals as goal
use Rattle.ifmap_session.specs.Sessions.{Session, is_same_text}
use Rattle.ifmap_session.specs.laws.TextLaws.{text_same}
use Rattle.ifmap_session.specs.laws.TableLaws.{is_left}

pub returns-in_default : goal.returns-in_default
returns-in_default c =
    none_in_rest (λ (t : Session). is_same_text t.id c.args.id.now) (is_left c.args.asking.now.ended) c.args.sessions.now.live
    c.in_default.ensures.none

pub returns-then-contains : goal.returns-then-contains
returns-then-contains c =
    let o = c.in-Some.ensures.some in
    let out : list_any (λ m. m == c.in-Some.serial) c.args.asking.now.ended ≡ true =
    subst (λ (a : Asking). list_any (λ m. m == c.in-Some.serial) a.ended ≡ true) c.asking.view_is
    (sym c.contains.ensures.value ∙ c.if-contains.true) in
    id_lost c.args.sessions.now c.args.asking.now.ended c.args.id.now o.0 c.is_table.ensures o.1
    (ap not (among c.args.asking.now.ended c.in-Some.serial o.0 true o.2 out))

pub returns-then-equals : goal.returns-then-equals
returns-then-equals c =
    let o = c.in-Some.ensures.some in
    let stays : list_any (λ m. m == c.in-Some.serial) c.args.asking.now.ended ≡ false =
    subst (λ (a : Asking). list_any (λ m. m == c.in-Some.serial) a.ended ≡ false) c.asking.view_is
    (sym c.contains.ensures.value ∙ c.if-contains.false) in
    let left = among c.args.asking.now.ended c.in-Some.serial o.0 false o.2 stays in
    let own : o.0.client ≡ c.args.asking.now.client =
    sym o.3 ∙ c.equals.ensures.0 c.if-equals.true ∙ ap (λ (a : Asking). a.client) c.asking.view_is in (
      o.0,
      id_left c.args.asking.now.ended c.args.sessions.now.live c.args.id.now o.0 o.1 left,
      text_same o.0.client c.args.asking.now.client own,
      sym o.2,
      serial_left c.args.asking.now.ended c.args.sessions.now.live c.in-Some.serial o.0 o.4 o.2 left,
    )

pub returns-else-equals : goal.returns-else-equals
returns-else-equals c =
    let o = c.in-Some.ensures.some in
    let stays : list_any (λ m. m == c.in-Some.serial) c.args.asking.now.ended ≡ false =
    subst (λ (a : Asking). list_any (λ m. m == c.in-Some.serial) a.ended ≡ false) c.asking.view_is
    (sym c.contains.ensures.value ∙ c.if-contains.false) in
    let left = among c.args.asking.now.ended c.in-Some.serial o.0 false o.2 stays in
    let client = ap (λ (a : Asking). a.client) c.asking.view_is in (
      o.0,
      id_left c.args.asking.now.ended c.args.sessions.now.live c.args.id.now o.0 o.1 left,
      other_text o.0.client c.args.asking.now.client c.equals.result (λ e. c.equals.ensures.1 (o.3 ∙ e ∙ sym client)) c.if-equals.false,
    )
