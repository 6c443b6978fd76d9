-- What the calls answer.
use Rattle.std.specs.Prelude.{Result, Ok, Err}
use Rattle.ifmap_forms.specs.declared.errors.FormError.{FormError}
use Rattle.ifmap_forms.specs.declared.errors.FormError.TheVariants as form
use Rattle.ifmap_replies.specs.declared.errors.ReplyError.{ReplyError}
use Rattle.ifmap_replies.specs.declared.errors.ReplyError.TheVariants.{NotAReply, NoMemory}
use Rattle.ifmap_replies.specs.declared.replies.Reply.{Reply}

-- the refusal of an element or a body for that of a part
abbrev pub as_reply_error : FormError → ReplyError
as_reply_error (form.Named code) = NotAReply
as_reply_error form.NoMemory = NoMemory

-- the answer is the reply that is meant, or that none is; want of memory says nothing
abbrev pub IsMeantReply : (Reply → Type 0) → Result Reply ReplyError → Type 0
IsMeantReply Meant (Ok answer) = Meant answer
IsMeantReply Meant (Err NotAReply) = (answer : Reply) → Meant answer → ⊥
IsMeantReply Meant (Err NoMemory) = Unit {0}
