use Rattle.ifmap_dialogue.specs.Answers.{closes}
use Rattle.ifmap_dialogue.proofs.Answering.{held_out_answer, replied_answer, spent_answer, told_answer, unreadable_answer, wanting_answer}
use Rattle.ifmap_dialogue.proofs.rounds.answer.Goals as goal

pub conclude-requires : goal.conclude-requires
conclude-requires g c = record { fit = rw c.in-Told.is at c.requires.fit }

pub returns-in-Replied : goal.returns-in-Replied
returns-in-Replied g c words =
    let (output, writes, gained) = c.send_reply-sent.ensures.writes in
    replied_answer _ _ _ _ words c.args.finding (closes c.args.then) _ c.in-Replied.is c.send_reply-sent.result _ _ output writes gained
    c.send_reply-sent.ensures.fault c.end_after.ensures c.next_after.ensures

pub returns-in-Told : goal.returns-in-Told
returns-in-Told g c words =
    let (output, writes, gained) = c.send_reply-sent-in-Told.ensures.writes in
    let (turns, tells, loses) = c.conclude.ensures in
    told_answer _ _ _ _ _ words c.args.finding _ _ (closes c.args.then) c.send_reply-sent-in-Told.result turns output _ c.in-Told.is
    writes gained c.send_reply-sent-in-Told.ensures.fault tells loses

pub returns-in-Unreadable : goal.returns-in-Unreadable
returns-in-Unreadable g c words =
    let (output, writes, gained) = c.send_bare-sent.ensures.writes in
    unreadable_answer _ _ _ _ words c.args.finding (closes c.args.then) c.in-Unreadable.is c.send_bare-sent.result _ output writes gained
    c.send_bare-sent.ensures.fault c.next_after-in-Unreadable.ensures

pub returns-in-HeldOut : goal.returns-in-HeldOut
returns-in-HeldOut g c words = held_out_answer _ _ _ words c.args.finding (closes c.args.then) c.in-HeldOut.turns c.in-HeldOut.is

pub returns-in-Spent : goal.returns-in-Spent
returns-in-Spent g c words =
    let (output, writes, gained) = c.send_bare-sent-in-Spent.ensures.writes in
    spent_answer _ _ _ _ words c.args.finding (closes c.args.then) c.in-Spent.entries c.in-Spent.is
    c.send_bare-sent-in-Spent.result _ output writes gained c.send_bare-sent-in-Spent.ensures.fault c.next_after-in-Spent.ensures

pub returns-in-NoMemory : goal.returns-in-NoMemory
returns-in-NoMemory g c words =
    let (output, given, gained) = c.give_up.ensures in
    wanting_answer _ _ _ _ words c.args.finding (closes c.args.then) c.in-NoMemory.is output given gained
