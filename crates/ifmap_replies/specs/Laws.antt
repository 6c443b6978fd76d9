-- What holds of every reply.
use Rattle.std.specs.Prelude.{◌≡◌, ◌⊎◌, ℕ, List, Err}
use Rattle.ifmap_elem.specs.declared.elements.Element.{Element}
use Rattle.ifmap_envelopes.specs.Envelopes.{IsEnvelope}
use Rattle.ifmap_ident.specs.declared.codes.Code.{Code}
use Rattle.ifmap_replies.specs.declared.replies.Reply.{Reply}
use Rattle.ifmap_replies.specs.Fit.{IsFitReply}
use Rattle.ifmap_replies.specs.Means.{IsReplyOf, MeansReply}
use Rattle.ifmap_replies.specs.ResultForms.{response_check}
use Rattle.ifmap_replies.specs.Results.{reply_bytes, reply_element}

-- an element means one reply at most
abbrev pub OneReply : Type 0
OneReply = (e : Element) (one other : Reply) → IsReplyOf e one → IsReplyOf e other → one ≡ other

-- an envelope of a response in which the check finds a defect means none
abbrev pub NoReplyWithDefect : Type 0
NoReplyWithDefect =
    (e : Element) (path : List ℕ) (response : Element) (code : Code) → IsEnvelope e path response → response_check response (Err code)
    → (answer : Reply) → IsReplyOf e answer → ⊥

-- bytes mean one reply at most
abbrev pub OneReplyMeaning : Type 0
OneReplyMeaning = (bytes : List ℕ) (one other : Reply) → MeansReply bytes one → MeansReply bytes other → one ≡ other

-- an envelope means a reply or none
abbrev pub ReplyOrNone : Type 0
ReplyOrNone =
    (e : Element) (path : List ℕ) (response : Element) → IsEnvelope e path response
    → ((answer : Reply) × IsReplyOf e answer) ⊎ ((answer : Reply) → IsReplyOf e answer → ⊥)

-- the element of a reply that is fit means it, and so do its bytes
abbrev pub ElementsReadBack : Type 0
ElementsReadBack = (answer : Reply) → IsFitReply answer → IsReplyOf (reply_element answer) answer

abbrev pub BytesReadBack : Type 0
BytesReadBack = (answer : Reply) → IsFitReply answer → MeansReply (reply_bytes answer) answer
