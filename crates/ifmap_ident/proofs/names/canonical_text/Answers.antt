use Rattle.std.proofs.Common.{sym, ◌∙◌, subst}
use Rattle.std.specs.Prelude.{IsUtf8}
use Rattle.ifmap_ident.proofs.Utf8Laws.{canonical_utf8}
use Rattle.ifmap_ident.proofs.names.canonical_text.Goals as goal

pub unwrap-requires : goal.unwrap-requires
unwrap-requires c =
    c.from_utf8.ensures.succeeds (subst IsUtf8 (sym (c.bytes.view_is ∙ c.in_ok-bytes.ensures.bytes))
    (canonical_utf8 c.args.element.now c.requires))
