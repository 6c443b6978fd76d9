use Rattle.std.proofs.Common.{◌≡◌, ◌∙◌, ap, subst}
use Rattle.std.specs.Prelude.{IfOk}
use Rattle.ifmap_elem.specs.Canonical.{canonical_bytes}
use Rattle.ifmap_elem.specs.declared.elements.Element.{Element}
use Rattle.ifmap_replies.specs.Results.{reply_bytes, result_element}
use Rattle.ifmap_replies.specs.Wrapping.{wrap_element}
use Rattle.ifmap_replies.proofs.writing.write_reply.Goals as goal

pub returns : goal.returns
unfolding reply_bytes
returns c =
    subst (λ (e : Element). IfOk c.canonical_outline.result (λ bytes. bytes ≡ canonical_bytes e))
    (c.in_ok-outline.ensures ∙ ap (λ n. wrap_element n (result_element c.args.reply.now)) c.in_ok-names.ensures)
    c.canonical_outline.ensures.bytes
