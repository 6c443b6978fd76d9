-- The end tag of a name that is known.
use Rattle.std.proofs.Common.{◌≡◌, ℕ, ◌-◌, ◌≤◌, List, [], ◌∷◌, ◌++◌, drop, length, ap, sym, ◌∙◌, subst, append_assoc, inl, inr}
use Rattle.std.proofs.Common.{Bor}
use Rattle.std.specs.Prelude.{codes, Option, Some, None, IfSome}
use Rattle.ifmap_elem.specs.Chars.{is_white, colon}
use Rattle.ifmap_elem.specs.Names.{IsNamePart, name_bytes, with_prefix}
use Rattle.ifmap_elem.specs.Tokens.{TakesEnd, TakesToken}
use Rattle.ifmap_elem.specs.declared.tokens.Token.{Token}
use Rattle.ifmap_elem.specs.laws.NameBytes.{part_is_some}
use Rattle.ifmap_elem.specs.laws.OneToken.{one_token}
use Rattle.ifmap_lexer.specs.Cutting.{Cuts}
use Rattle.ifmap_lexer.specs.There.{BeginsNamed, IsAlone, TakesEndTag, end_token, qualified_of}
use Rattle.ifmap_lexer.proofs.NameLaws.{prefixed_some}
use Rattle.ifmap_lexer.proofs.TokenLaws.{token_length}

pub local_named : (prefix local bytes rest : List ℕ) → prefix ≡ [] → IsNamePart local → bytes ≡ local ++ rest
    → BeginsNamed prefix local bytes rest
local_named prefix local bytes rest none l e =
    (record { prefix_is = inl none; local_is = l }, e ∙ ap (λ p. with_prefix p local ++ rest) (sym none))

pub both_named : (prefix local bytes mid after rest : List ℕ) → IsNamePart prefix → bytes ≡ prefix ++ mid → mid ≡ codes ":" ++ after
    → IsNamePart local → after ≡ local ++ rest → BeginsNamed prefix local bytes rest
both_named prefix local bytes mid after rest p e f l g = (
  record { prefix_is = inr p; local_is = l },
  e ∙ ap (λ x. prefix ++ x) (f ∙ ap (λ x. colon ∷ x) g) ∙ sym (append_assoc prefix (colon ∷ local) rest)
      ∙ ap (λ x. x ++ rest) (sym (prefixed_some prefix local (part_is_some prefix p))),
)

pub both_named_if : (o : Option (Bor (List ℕ))) (prefix local bytes mid after : List ℕ) → IsNamePart prefix → bytes ≡ prefix ++ mid
    → mid ≡ codes ":" ++ after → IfSome o (λ rest. IsNamePart local × (after ≡ local ++ rest.now))
    → IfSome o (λ rest. BeginsNamed prefix local bytes rest.now)
both_named_if None prefix local bytes mid after p e f h = tt
both_named_if (Some rest) prefix local bytes mid after p e f h = both_named prefix local bytes mid after rest.now p e f h.0 h.1

pub end_taken : (prefix local bytes inner after white end rest : List ℕ) → bytes ≡ codes "</" ++ inner
    → BeginsNamed prefix local inner after → Cuts is_white after white end → end ≡ codes ">" ++ rest
    → TakesEnd bytes (qualified_of prefix local) rest
end_taken prefix local bytes inner after white end rest e n c is = record {
  white = white;
  bytes_are = e ∙ ap (λ x. codes "</" ++ x) (n.1 ∙ ap (λ x. name_bytes (qualified_of prefix local) ++ x)
      (c.bytes_are ∙ ap (λ x. white ++ x) is));
  is_name = n.0;
  is_white = c.passes;
}

pub end_alone : (prefix local bytes rest : List ℕ) → TakesToken bytes (end_token prefix local) rest
    → TakesEndTag prefix local bytes (drop (length bytes - length rest) bytes)
end_alone prefix local bytes rest l =
    let same = (token_length bytes (end_token prefix local) rest l).2 in
    subst (TakesEndTag prefix local bytes) (sym same)
    (l, (λ t left taken. one_token bytes t (end_token prefix local) left rest taken l))
