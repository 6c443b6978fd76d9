use Rattle.std.proofs.Common.{◌+◌, ◌∷◌, [], refl, sym, ◌∙◌, ap, subst}
use Rattle.ifmap_subscribes.specs.ifmap_changes.Between.{AreWithinLimits, AreOrdered}
use Rattle.ifmap_core.specs.Completions.{CanApplyTo, WouldBeParts, after_completion, starts_in}
use Rattle.ifmap_core.proofs.Applied.{accept_leaves, end_leaves, open_leaves, parts_moved, parts_renamed, poll_leaves, rename_leaves, say_leaves}
use Rattle.ifmap_core.proofs.Applying.{former_ordered, live_begun, live_changed, live_first, ordered_beside, ordered_moved, within_begun, within_emptied, within_first, within_former, within_left, within_renewed, emptied_keeps}
use Rattle.ifmap_core.proofs.completions.apply_completion.Goals as goal
use Rattle.ifmap_lemmas.specs.Options.{some_is}
use Rattle.ifmap_session.specs.Sessions.{change, session_from, session_with_serial, with_last, without_items}
use Rattle.ifmap_session.specs.laws.TableLaws.{renewed_keeps}

pub returns-in-Say : goal.returns-in-Say
returns-in-Say c =
    let would = subst (λ o. WouldBeParts (starts_in o) c.args.parts.now) c.in-Say.is c.requires.parts in
    record {
      answer = λ state m s n t. ap (λ o. after_completion o state) c.in-Say.is
          ∙ say_leaves state c.args.moment c.args.parts.now.sessions.counter
          c.args.parts.now.sessions.live c.args.parts.now.standing.items m s n t c.in-Say.answer;
      parts = parts_moved c.args.parts.now c.args.parts.now.sessions would would.ordered would.within;
      rows = refl;
      lean = λ rest l. l;
    }

pub returns-in-Accept : goal.returns-in-Accept
returns-in-Accept c =
    let would = subst (λ o. WouldBeParts (starts_in o) c.args.parts.now) c.in-Accept.is c.requires.parts in
    record {
      answer = λ state m s n t. ap (λ o. after_completion o state) c.in-Accept.is
          ∙ accept_leaves state c.args.moment c.args.parts.now.sessions.counter
          c.args.parts.now.sessions.live c.args.parts.now.standing.items m s n t c.in-Accept.serial c.renew.new.self.counter
          c.in-Accept.answer c.renew.new.self.live c.renew.ensures.changes.counter c.renew.ensures.changes.live;
      parts = parts_moved c.args.parts.now c.renew.new.self would
          (subst (λ l. AreOrdered l c.args.parts.now.standing.items) (sym c.renew.ensures.changes.live)
          (ordered_moved c.args.parts.now.sessions.live (change c.in-Accept.serial (with_last c.args.moment) c.args.parts.now.sessions.live)
          (λ m l. live_changed c.in-Accept.serial (with_last c.args.moment)
          (renewed_keeps c.args.moment) m c.args.parts.now.sessions.live l)
          c.args.parts.now.standing.items would.ordered))
          (subst AreWithinLimits (sym c.renew.ensures.changes.live)
          (within_renewed c.in-Accept.serial c.args.moment c.args.parts.now.sessions.live would.within));
      rows = refl;
      lean = λ rest l. l;
    }

pub returns-in-End : goal.returns-in-End
returns-in-End c =
    let would = subst (λ o. WouldBeParts (starts_in o) c.args.parts.now) c.in-End.is c.requires.parts in
    let can = subst (λ o. CanApplyTo o c.args.parts.now) c.in-End.is c.requires.can in
    record {
      answer = λ state m s n t. ap (λ o. after_completion o state) c.in-End.is
          ∙ end_leaves state c.args.moment c.args.parts.now.sessions.counter
          c.args.parts.now.sessions.live c.args.parts.now.standing.items m s n t c.in-End.serial c.end.new.self.counter
          c.in-End.answer c.end.new.self.live c.end.ensures.counter c.end.ensures.live can.1;
      parts = parts_moved c.args.parts.now c.end.new.self would
          (subst (λ l. AreOrdered l c.args.parts.now.standing.items) (sym c.end.ensures.live)
          (ordered_beside c.in-End.serial c.args.parts.now.sessions.live c.args.parts.now.standing.items can.1 would.ordered))
          (subst AreWithinLimits (sym c.end.ensures.live)
          (within_left (c.in-End.serial ∷ []) c.args.parts.now.sessions.live would.within));
      rows = refl;
      lean = λ rest l. l;
    }

pub returns-in-Open : goal.returns-in-Open
returns-in-Open c =
    let would = subst (λ o. WouldBeParts (starts_in o) c.args.parts.now) c.in-Open.is c.requires.parts in
    let can = subst (λ o. CanApplyTo o c.args.parts.now) c.in-Open.is c.requires.can in
    let ordered = subst (λ l. AreOrdered l c.args.parts.now.standing.items) (sym c.end_former.ensures.live)
    (former_ordered c.in-Open.former c.args.parts.now.sessions.live c.args.parts.now.standing.items can.1 would.ordered) in
    let within = subst AreWithinLimits (sym c.end_former.ensures.live)
    (within_former c.in-Open.former c.args.parts.now.sessions.live would.within) in
    record {
      answer = λ state m s n t. ap (λ o. after_completion o state) c.in-Open.is
          ∙ open_leaves state c.args.moment c.args.parts.now.sessions.counter
          c.args.parts.now.sessions.live c.args.parts.now.standing.items m s n t c.in-Open.former c.in-Open.opening c.in-Open.limit
          c.in-Open.publisher c.open-session.result.id c.open-session.new.self.counter c.open-session.new.self.live
          c.end_former.new.sessions.live (ap (λ b. b.id) c.open-session.ensures.begun)
          (c.open-session.ensures.counter ∙ ap (λ k. k + 1) c.end_former.ensures.counter) c.end_former.ensures.live
          c.open-session.ensures.live can.1;
      parts = parts_moved c.args.parts.now c.open-session.new.self would
          (subst (λ l. AreOrdered l c.args.parts.now.standing.items) (sym c.open-session.ensures.live)
          (ordered_moved c.end_former.new.sessions.live _
          (λ m l. live_begun m c.end_former.new.sessions.live (session_from c.in-Open.opening c.in-Open.limit c.args.moment) l)
          c.args.parts.now.standing.items ordered))
          (subst AreWithinLimits (sym c.open-session.ensures.live)
          (within_begun c.in-Open.opening c.in-Open.limit c.args.moment c.end_former.new.sessions.live can.0.wide within));
      rows = refl;
      lean = λ rest l. l;
    }

pub returns-in-Rename : goal.returns-in-Rename
returns-in-Rename c =
    let would = subst (λ o. WouldBeParts (starts_in o) c.args.parts.now) c.in-Rename.is c.requires.parts in
    let can = subst (λ o. CanApplyTo o c.args.parts.now) c.in-Rename.is c.requires.can in
    let one = some_is (session_with_serial c.in-Rename.serial c.args.parts.now.sessions.live) can.0.live in
    let told = c.rename_each.ensures.renamed.told one.0 one.1 in
    record {
      answer = λ state m s n t. ap (λ o. after_completion o state) c.in-Rename.is
          ∙ rename_leaves state c.args.moment c.args.parts.now.sessions.counter
          c.args.parts.now.sessions.live c.args.parts.now.standing.items m s n t c.in-Rename.serial c.renew-in-Rename.new.self.counter
          c.in-Rename.renamings c.rename_each.new.parts.sessions.live c.renew-in-Rename.new.self.live c.rename_each.new.parts.standing.items
          one.0 (c.renew-in-Rename.ensures.changes.counter ∙ c.rename_each.ensures.renamed.counter) one.1 told.0 told.1
          c.renew-in-Rename.ensures.changes.live;
      parts = parts_renamed c.in-Rename.serial c.args.moment c.in-Rename.renamings c.args.parts.now c.rename_each.new.parts
          c.renew-in-Rename.new.self would.ordered would.within c.is_table.ensures.rising can.0.session can.1 one.0 one.1
          c.rename_each.ensures.renamed c.rename_each.ensures.rest c.renew-in-Rename.ensures.changes.live;
      rows = c.rename_each.ensures.renamed.rows;
      lean = c.rename_each.ensures.renamed.lean;
    }

pub returns-in-Poll : goal.returns-in-Poll
returns-in-Poll c =
    let would = subst (λ o. WouldBeParts (starts_in o) c.args.parts.now) c.in-Poll.is c.requires.parts in
    let live = change c.in-Poll.serial without_items c.args.parts.now.sessions.live in
    record {
      answer = λ state m s n t. ap (λ o. after_completion o state) c.in-Poll.is
          ∙ poll_leaves state c.args.moment c.args.parts.now.sessions.counter
          c.args.parts.now.sessions.live c.args.parts.now.standing.items m s n t c.in-Poll.serial c.tell_queue.new.sessions.counter
          c.in-Poll.again c.tell_queue.result c.tell_queue.new.sessions.live c.tell_queue.ensures.counter
          (c.tell_queue.ensures.told state m s);
      parts = parts_moved c.args.parts.now c.tell_queue.new.sessions would
          (subst (λ l. AreOrdered l c.args.parts.now.standing.items) (sym c.tell_queue.ensures.live)
          (ordered_moved c.args.parts.now.sessions.live _
          (λ m l. live_first c.in-Poll.again c.in-Poll.serial c.args.moment m live
          (live_changed c.in-Poll.serial without_items emptied_keeps m c.args.parts.now.sessions.live l))
          c.args.parts.now.standing.items would.ordered))
          (subst AreWithinLimits (sym c.tell_queue.ensures.live) (within_first c.in-Poll.again c.in-Poll.serial c.args.moment live
          (within_emptied c.in-Poll.serial c.args.parts.now.sessions.live would.within)));
      rows = refl;
      lean = λ rest l. l;
    }
