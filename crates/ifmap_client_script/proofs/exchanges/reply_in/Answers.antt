use Rattle.std.proofs.Common.{subst, ℕ, List}
use Rattle.ifmap_replies.specs.Means.{MeansReply}
use Rattle.ifmap_replies.specs.declared.replies.Reply.{Reply}
use Rattle.ifmap_client_script.proofs.exchanges.reply_in.Goals as goal

pub returns-in-Err-NotAReply : goal.returns-in-Err-NotAReply
returns-in-Err-NotAReply c =
    subst (λ (b : List ℕ). (answer : Reply) → MeansReply b answer → ⊥) c.as_slice.ensures
    (rw c.in-Err-NotAReply.field-0-is at c.in-Err-NotAReply.ensures)
