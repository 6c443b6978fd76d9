use Rattle.std.proofs.Common.{rules, sym, subst}
use Rattle.std.specs.Prelude.{Result, Ok, Err, IsOk, MatchResult}
use Rattle.std.specs.Str.{IsUtf8}
use Rattle.ifmap_meta.proofs.Texts.{civil_text_is_utf8}
use Rattle.ifmap_meta.proofs.stored.moment_text.Goals as goal

-- a result whose error cannot be
ok_of_never : {A E : Type 0} (P : A → Type 0) (Q : E → Type 0) (r : Result A E) → ((e : E) → Q e → ⊥) → MatchResult r P Q → IsOk r
ok_of_never P Q (Ok a) never h = search rules
ok_of_never P Q (Err e) never h = absurd (never e h)

pub unwrap-text-requires : goal.unwrap-text-requires
unwrap-text-requires c =
    let p = c.text-bytes.ensures.shown in
    let text : IsUtf8 c.text-bytes.result = subst IsUtf8 (sym p.3) (civil_text_is_utf8 p.0) in
    ok_of_never _ _ c.from_utf8.result (λ e h. h.0 text) c.from_utf8.ensures.cases
