-- What stands around a result, by the names of it.
use Rattle.std.specs.Prelude.{codes}
use Rattle.ifmap_elem.specs.declared.elements.Element.{Element}
use Rattle.ifmap_envelopes.specs.Envelopes.{element_around, envelope_name}
use Rattle.ifmap_replies.specs.declared.writing.ReplyNames.{ReplyNames}
use Rattle.ifmap_replies.specs.Results.{response_name}

-- the names of an envelope, of its body and of a response
abbrev pub reply_names : ReplyNames
reply_names = record { envelope = envelope_name (codes "Envelope"); body = envelope_name (codes "Body"); response = response_name }

-- a result in a response in a body in an envelope of these names
abbrev pub wrap_element : ReplyNames → Element → Element
wrap_element names result =
    element_around names.envelope (element_around names.body (element_around names.response result))
