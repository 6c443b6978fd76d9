-- Whether a name stands at the front of bytes.
use Rattle.std.proofs.Common.{◌≡◌, ℕ, true, List, [], ◌∷◌, refl, ap, sym, ◌∙◌, subst, inl, inr}
use Rattle.std.specs.Prelude.{encode_utf8_all}
use Rattle.std.specs.Str.{chars}
use Rattle.std.proofs.lemmas.Str.{chars_from_encodes}
use Rattle.ifmap_lemmas.specs.Deciding.{Decided, decided_both, decided_by, decided_test, same_or_not}
use Rattle.ifmap_elem.specs.Chars.{AllAre, colon}
use Rattle.ifmap_elem.specs.declared.tokens.Qualified.{Qualified}
use Rattle.ifmap_elem.specs.Names.{IsNamePart, is_name_start, is_name_character}
use Rattle.ifmap_elem.specs.laws.NameBytes.{is_name_byte}
use Rattle.ifmap_lexer.specs.There.{SomeName, AreQualifiedName}
use Rattle.ifmap_lexer.proofs.NameLaws.{part_is_utf8, prefixed_found, unprefixed_found, prefixed_parts, unprefixed_part, name_found}
use Rattle.ifmap_lexer.proofs.NameLaws.{name_run}
use Rattle.ifmap_lexer.proofs.deciding.Runs.{are_or_not, cut_of, cut_or_none}

-- these characters are the bytes, and a name part
abbrev PartOf : List ℕ → ℕ → List ℕ → Type 0
PartOf bytes c cs = (encode_utf8_all (c ∷ cs) ≡ bytes) × ((is_name_start c ≡ true) × AllAre is_name_character cs)

part_by : (bytes : List ℕ) (cs : List ℕ) → cs ≡ chars bytes → Decided (IsNamePart bytes)
part_by bytes [] e = inr (λ p.
    let same : p.first ∷ p.others ≡ [] = chars_from_encodes (p.first ∷ p.others) bytes (part_is_utf8 bytes p) p.bytes_are ∙ sym e in
    cc)
part_by bytes (c ∷ cs) e =
    decided_by
    (λ (h : PartOf bytes c cs). record { first = c; others = cs; bytes_are = h.0; begins = h.1.0; goes_on = h.1.1 })
    from
    (decided_both (same_or_not (encode_utf8_all (c ∷ cs)) bytes)
    (decided_both (decided_test (is_name_start c)) (are_or_not is_name_character cs)))
  where
    from : IsNamePart bytes → PartOf bytes c cs
    from p =
        let same : p.first ∷ p.others ≡ c ∷ cs = chars_from_encodes (p.first ∷ p.others) bytes (part_is_utf8 bytes p) p.bytes_are ∙ sym e in
        let head : p.first ≡ c = cc in
        let tail : p.others ≡ cs = cc in
        let begins = subst (λ (n : ℕ). is_name_start n ≡ true) head p.begins in
        (ap encode_utf8_all (sym same) ∙ p.bytes_are, (begins, subst (AllAre is_name_character) tail p.goes_on))

pub part_or_not : (bytes : List ℕ) → Decided (IsNamePart bytes)
part_or_not bytes = part_by bytes (chars bytes) refl

written_or_not : (bytes : List ℕ) → Decided (AreQualifiedName bytes)
written_or_not bytes = elim (cut_or_none colon bytes) [
  | inl c ↦ decided_by
      (λ (h : IsNamePart c.0 × IsNamePart c.1).
      let q : Qualified = record { prefix = c.0; local = c.1 } in
      let f = prefixed_found bytes c.0 c.1 c.2 h.0 h.1 q refl refl in
      (q, f.0, f.1))
      (λ w. prefixed_parts bytes c.0 c.1 c.2 w.0 w.1 w.2)
      (decided_both (part_or_not c.0) (part_or_not c.1))
  | inr none ↦ decided_by
      (λ h. let q : Qualified = record { prefix = []; local = bytes } in let f = unprefixed_found bytes h q refl refl in (q, f.0, f.1))
      (λ w. unprefixed_part bytes none w.0 w.1 w.2)
      (part_or_not bytes)
]

-- the name at the front
pub name_or_none : (bytes : List ℕ) → Decided (SomeName bytes)
name_or_none bytes =
    let c = cut_of is_name_byte bytes in
    decided_by
    (λ w. let f = name_found bytes c.0 c.1 w.0 c.2 (w.1, w.2) in (w.0, c.1, f.0, f.1, f.2))
    (name_run bytes c.0 c.1 c.2)
    (written_or_not c.0)
