use Rattle.std.proofs.Common.{◌≡◌, sym, ◌∙◌, ap, subst, List}
use Rattle.std.specs.List.Sorted.{IsStrictlySortedBy}
use Rattle.ifmap_core.specs.Completions.{first_renewed, poll_answer}
use Rattle.ifmap_core.proofs.Applying.{live_emptied, poll_told}
use Rattle.ifmap_core.proofs.completions.tell_queue.Goals as goal
use Rattle.ifmap_lemmas.specs.Options.{some_is}
use Rattle.ifmap_session.specs.Sessions.{IsLive, Session, change, session_order, session_with_serial, without_items}

pub renew_first-requires : goal.renew_first-requires
renew_first-requires c =
    subst (IsLive c.args.serial) (sym c.take_all-items.ensures.changes.live)
    (live_emptied c.args.serial c.args.sessions.now.live c.requires)

pub returns-clause-told : goal.returns-clause-told
returns-clause-told c = λ state moment sessions.
    let there = some_is (session_with_serial c.args.serial c.args.sessions.now.live) c.requires in
    let rising : IsStrictlySortedBy session_order state.sessions =
    subst (IsStrictlySortedBy session_order) (sym sessions) c.is_table.ensures.rising in
    let found : session_with_serial c.args.serial state.sessions ≡ _ =
    ap (λ (l : List Session). session_with_serial c.args.serial l) sessions ∙ there.1 in
    let renewed : first_renewed c.args.again c.args.serial state.moment (change c.args.serial without_items state.sessions)
    ≡ c.renew_first.new.sessions.live =
    ap (λ m. first_renewed c.args.again c.args.serial m (change c.args.serial without_items state.sessions)) moment
    ∙ ap (λ (l : List Session). first_renewed c.args.again c.args.serial c.args.moment (change c.args.serial without_items l)) sessions
    ∙ ap (λ (l : List Session). first_renewed c.args.again c.args.serial c.args.moment l) (sym c.take_all-items.ensures.changes.live)
    ∙ sym c.renew_first.ensures.live in
    poll_told state c.args.again c.args.serial there.0 rising found c.take_all-items.result (c.take_all-items.ensures.items there.0 there.1)
    ∙ ap (λ (l : List Session). (record state { sessions = l }, poll_answer c.take_all-items.result)) renewed
    ∙ ap (λ a. (record state { sessions = c.renew_first.new.sessions.live }, a)) (sym c.answer_with.ensures)
