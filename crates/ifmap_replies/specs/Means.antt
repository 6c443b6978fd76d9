-- Which reply elements and bodies mean.
use Rattle.std.specs.Prelude.{ℕ, ◌≤◌, List, Ok}
use Rattle.ifmap_elem.specs.Nesting.{nesting}
use Rattle.ifmap_elem.specs.Spells.{Spells}
use Rattle.ifmap_elem.specs.declared.elements.Element.{Element}
use Rattle.ifmap_elem.specs.declared.readings.Reading.{Reading}
use Rattle.ifmap_envelopes.specs.Envelopes.{IsEnvelope}
use Rattle.ifmap_replies.specs.declared.replies.Reply.{Reply}
use Rattle.ifmap_replies.specs.ResultForms.{response_check}

-- the element is an envelope of a response of this reply
pub record IsReplyOf (e : Element) (answer : Reply) : Type 0 where
  pub path : List ℕ
  pub response : Element
  pub envelope : IsEnvelope e path response
  pub checked : response_check response (Ok answer)

-- how many levels a reply that is read can have; one that is fit has 71 at most, as an element of 64 stands below seven others
abbrev pub reply_levels : ℕ
reply_levels = 80

-- the bytes spell an element of so many levels at most that means this reply
pub record MeansReply (bytes : List ℕ) (answer : Reply) : Type 0 where
  pub reading : Reading
  pub spelled : Spells bytes reading
  pub shallow : nesting reading.root ≤ reply_levels
  pub reply : IsReplyOf reading.root answer
