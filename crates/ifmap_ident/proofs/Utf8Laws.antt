-- Canonical bytes are characters that a document can have, and so UTF-8, since they spell an element and each token is such characters.
-- 1. Characters, parts of names and ASCII but for control characters are such.
-- 2. So is white space, a name or a quoted value before such.
-- 3. So is each part of a token: an assignment, a tag, a setting of the declaration.
-- 4. So is each token before such, and then a list of tokens up to the end.
-- 5. The canonical bytes of an element that fits spell it, and begin with no byte order mark.
use Rattle.std.proofs.Common.{◌≡◌, ℕ, ◌==◌, ◌||◌, true, List, [], ◌∷◌, ◌++◌, map, codes, refl, sym, subst, ◌⊎◌, inl, inr, arith}
use Rattle.std.specs.Prelude.{IsUtf8}
use Rattle.std.specs.Char.{to_ascii_uppercase}
use Rattle.std.proofs.lemmas.Bool.Decides.{nat_tests}
use Rattle.ifmap_elem.specs.declared.elements.Element.{Element}
use Rattle.ifmap_elem.specs.declared.tokens.Assignment.{Assignment}
use Rattle.ifmap_elem.specs.declared.tokens.Qualified.{Qualified}
use Rattle.ifmap_elem.specs.declared.tokens.Tag.{Tag}
use Rattle.ifmap_elem.specs.declared.tokens.Token.{Token}
use Rattle.ifmap_elem.specs.declared.tokens.Token.TheVariants.{Declaration, Comment, Start, Empty, End, Section, Characters}
use Rattle.ifmap_elem.specs.Canonical.{canonical_bytes, canonical_reading}
use Rattle.ifmap_elem.specs.Chars.{AllAre, IsCharacters, IsWhite, colon, double_quote, equals_sign, is_white, less_than, single_quote}
use Rattle.ifmap_elem.specs.Fit.{IsFit}
use Rattle.ifmap_elem.specs.laws.CanonicalSpells.{canonical_spelled}
use Rattle.ifmap_elem.specs.Names.{IsQualified, name_bytes, with_prefix}
use Rattle.ifmap_elem.specs.Spells.{Spells}
use Rattle.ifmap_elem.specs.Tokens.{TakesAssignment, TakesBetween, TakesDeclaration, TakesEnd, TakesOptional, TakesQuoted, TakesSetting, TakesTag, TakesToken}
use Rattle.ifmap_lemmas.specs.Items.{To}
use Rattle.ifmap_lemmas.specs.Members.{all_of_test}
use Rattle.ifmap_elem.specs.laws.CharacterLaws.{is_plain, plain_characters, characters_both, characters_are_utf8, part_characters, no_characters}

-- ---- characters

-- ---- what stands before characters

cons_characters : (b : ℕ) (bs : List ℕ) → is_plain b ≡ true → IsCharacters bs → IsCharacters (b ∷ bs)
cons_characters b bs h u = characters_both (b ∷ []) bs (plain_characters (b ∷ []) (h, tt)) u

white_plain : (b : ℕ) → is_white b ≡ true → is_plain b ≡ true
white_plain b h = grind (arith, nat_tests)

after_white : (white bs : List ℕ) → IsWhite white → IsCharacters bs → IsCharacters (white ++ bs)
after_white [] bs f u = u
after_white (b ∷ white) bs f u = cons_characters b (white ++ bs) (white_plain b f.0) (after_white white bs f.1 u)

prefixed_characters : (prefix local : List ℕ) → IsCharacters prefix → IsCharacters local → IsCharacters (with_prefix prefix local)
prefixed_characters [] local p l = l
prefixed_characters (b ∷ bs) local p l = characters_both (b ∷ bs) (colon ∷ local) p (cons_characters colon local refl l)

name_characters : (q : Qualified) → IsQualified q → IsCharacters (name_bytes q)
name_characters q i =
    let first : IsCharacters q.prefix = elim i.prefix_is [
      | inl none ↦ subst IsCharacters (sym none) no_characters
      | inr part ↦ part_characters q.prefix part
    ] in prefixed_characters q.prefix q.local first (part_characters q.local i.local_is)

quote_plain : (q : ℕ) → (q == double_quote || q == single_quote) ≡ true → is_plain q ≡ true
quote_plain q h = grind (arith, nat_tests)

quoted_characters : (bytes written rest : List ℕ) → TakesQuoted bytes written rest → IsCharacters written → IsCharacters rest
    → IsCharacters bytes
quoted_characters bytes written rest t w u =
    let q : is_plain t.quote ≡ true = quote_plain t.quote t.is_quote in
    let last : IsCharacters (t.quote ∷ rest) = cons_characters t.quote rest q u in
    let value : IsCharacters (t.quote ∷ (written ++ (t.quote ∷ rest))) =
    cons_characters t.quote (written ++ (t.quote ∷ rest)) q (characters_both written (t.quote ∷ rest) w last) in
    let sign : IsCharacters (equals_sign ∷ (t.after ++ (t.quote ∷ (written ++ (t.quote ∷ rest))))) =
    cons_characters equals_sign (t.after ++ (t.quote ∷ (written ++ (t.quote ∷ rest)))) refl
    (after_white t.after (t.quote ∷ (written ++ (t.quote ∷ rest))) t.white_after value) in
    subst IsCharacters (sym t.bytes_are) (after_white t.before
    (equals_sign ∷ (t.after ++ (t.quote ∷ (written ++ (t.quote ∷ rest))))) t.white_before sign)

-- ---- tokens

assignment_characters : (bytes : List ℕ) (a : Assignment) (rest : List ℕ) → TakesAssignment bytes a rest → IsCharacters rest
    → IsCharacters bytes
assignment_characters bytes a rest t u =
    let given : IsCharacters t.after = quoted_characters t.after t.written rest t.given t.characters u in
    subst IsCharacters (sym t.bytes_are) (after_white t.white (name_bytes a.name ++ t.after) t.is_white
    (characters_both (name_bytes a.name) t.after (name_characters a.name t.is_name) given))

assignments_characters : (bytes : List ℕ) (many : List Assignment) (rest : List ℕ) → To TakesAssignment bytes many rest → IsCharacters rest
    → IsCharacters bytes
assignments_characters bytes [] rest l u = subst IsCharacters (sym l) u
assignments_characters bytes (a ∷ many) rest l u = assignment_characters bytes a l.0 l.1 (assignments_characters l.0 many rest l.2 u)

tag_characters : (bytes : List ℕ) (tag : Tag) (end : List ℕ) → TakesTag bytes tag end → IsCharacters end → IsCharacters bytes
tag_characters bytes tag end t u =
    let assigned : IsCharacters t.after = assignments_characters t.after tag.assignments (t.white ++ end) t.assigned
    (after_white t.white end t.is_white u) in
    subst IsCharacters (sym t.bytes_are) (cons_characters less_than (name_bytes tag.name ++ t.after) refl
    (characters_both (name_bytes tag.name) t.after (name_characters tag.name t.is_name) assigned))

setting_characters : (name : List ℕ) (IsAllowed : List ℕ → Type 0) → IsCharacters name → ((v : List ℕ) → IsAllowed v → IsCharacters v)
    → (bytes rest : List ℕ) → TakesSetting name IsAllowed bytes rest → IsCharacters rest → IsCharacters bytes
setting_characters name IsAllowed n f bytes rest t u =
    subst IsCharacters (sym t.bytes_are) (after_white t.white (name ++ t.after) t.is_white (characters_both name t.after n
    (quoted_characters t.after t.written rest t.given (f t.written t.allowed) u)))

optional_characters : (name : List ℕ) (IsAllowed : List ℕ → Type 0) → IsCharacters name → ((v : List ℕ) → IsAllowed v → IsCharacters v)
    → (bytes rest : List ℕ) → TakesOptional name IsAllowed bytes rest → IsCharacters rest → IsCharacters bytes
optional_characters name IsAllowed n f bytes rest t u = elim t [
  | inl none ↦ subst IsCharacters (sym none) u
  | inr some ↦ setting_characters name IsAllowed n f bytes rest some u
]

upper_plain : (b : ℕ) → is_plain (to_ascii_uppercase b) ≡ true → is_plain b ≡ true
upper_plain b h = grind (arith, nat_tests)

uppers_plain : (v : List ℕ) → AllAre is_plain (map to_ascii_uppercase v) → AllAre is_plain v
uppers_plain [] f = tt
uppers_plain (b ∷ v) f = (upper_plain b f.0, uppers_plain v f.1)

word_characters : (word v : List ℕ) → AllAre is_plain word → v ≡ word → IsCharacters v
word_characters word v f e = subst IsCharacters (sym e) (plain_characters word f)

declaration_characters : (bytes rest : List ℕ) → TakesDeclaration bytes rest → IsCharacters rest → IsCharacters bytes
declaration_characters bytes rest t u =
    let end : IsCharacters (t.white ++ (codes "?>" ++ rest)) = after_white t.white (codes "?>" ++ rest) t.is_white
    (characters_both (codes "?>") rest (plain_characters (codes "?>") (all_of_test is_plain (codes "?>") refl)) u) in
    let third : IsCharacters t.third = optional_characters (codes "standalone") (λ v. (v ≡ codes "yes") ⊎ (v ≡ codes "no"))
    (plain_characters (codes "standalone") (all_of_test is_plain (codes "standalone") refl))
    (λ v a. elim a [
      | inl yes_is ↦ word_characters (codes "yes") v (all_of_test is_plain (codes "yes") refl) yes_is
      | inr no_is ↦ word_characters (codes "no") v (all_of_test is_plain (codes "no") refl) no_is
    ]) t.third (t.white ++ (codes "?>" ++ rest)) t.standalone end in
    let second : IsCharacters t.second = optional_characters (codes "encoding") (λ v. map to_ascii_uppercase v ≡ codes "UTF-8")
    (plain_characters (codes "encoding") (all_of_test is_plain (codes "encoding") refl))
    (λ v a. plain_characters v (uppers_plain v (subst (AllAre is_plain) (sym a) (all_of_test is_plain (codes "UTF-8") refl))))
    t.second t.third t.encoding third in
    let first : IsCharacters t.first = setting_characters (codes "version") (λ v. v ≡ codes "1.0")
    (plain_characters (codes "version") (all_of_test is_plain (codes "version") refl))
    (λ v a. word_characters (codes "1.0") v (all_of_test is_plain (codes "1.0") refl) a) t.first t.second t.version second in
    subst IsCharacters (sym t.bytes_are) (characters_both (codes "<?xml") t.first
    (plain_characters (codes "<?xml") (all_of_test is_plain (codes "<?xml") refl)) first)

between_characters : (start finish bytes between rest : List ℕ) → AllAre is_plain start → AllAre is_plain finish
    → TakesBetween start finish bytes between rest → IsCharacters rest → IsCharacters bytes
between_characters start finish bytes between rest s f t u =
    subst IsCharacters (sym t.bytes_are) (characters_both start (between ++ (finish ++ rest)) (plain_characters start s)
    (characters_both between (finish ++ rest) t.characters (characters_both finish rest (plain_characters finish f) u)))

end_characters : (bytes : List ℕ) (name : Qualified) (rest : List ℕ) → TakesEnd bytes name rest → IsCharacters rest → IsCharacters bytes
end_characters bytes name rest t u =
    subst IsCharacters (sym t.bytes_are) (characters_both (codes "</") (name_bytes name ++ (t.white ++ (codes ">" ++ rest)))
    (plain_characters (codes "</") (all_of_test is_plain (codes "</") refl))
    (characters_both (name_bytes name) (t.white ++ (codes ">" ++ rest)) (name_characters name t.is_name)
    (after_white t.white (codes ">" ++ rest) t.is_white (characters_both (codes ">") rest
    (plain_characters (codes ">") (all_of_test is_plain (codes ">") refl)) u))))

token_characters : (bytes : List ℕ) (token : Token) (rest : List ℕ) → TakesToken bytes token rest → IsCharacters rest → IsCharacters bytes
token_characters bytes Declaration rest t u = declaration_characters bytes rest t u
token_characters bytes Comment rest t u =
    between_characters (codes "<!--") (codes "-->") bytes t.0 rest (all_of_test is_plain (codes "<!--") refl)
    (all_of_test is_plain (codes "-->") refl) t.1 u
token_characters bytes (Start tag) rest t u =
    tag_characters bytes tag (codes ">" ++ rest) t (characters_both (codes ">") rest
    (plain_characters (codes ">") (all_of_test is_plain (codes ">") refl)) u)
token_characters bytes (Empty tag) rest t u =
    tag_characters bytes tag (codes "/>" ++ rest) t (characters_both (codes "/>") rest
    (plain_characters (codes "/>") (all_of_test is_plain (codes "/>") refl)) u)
token_characters bytes (End name) rest t u = end_characters bytes name rest t u
token_characters bytes (Section text) rest t u =
    between_characters (codes "<![CDATA[") (codes "]]>") bytes t.0 rest (all_of_test is_plain (codes "<![CDATA[") refl)
    (all_of_test is_plain (codes "]]>") refl) t.1 u
token_characters bytes (Characters blank text) rest t u =
    subst IsCharacters (sym t.bytes_are) (characters_both t.own rest t.characters u)

tokens_characters : (bytes : List ℕ) (tokens : List Token) → To TakesToken bytes tokens [] → IsCharacters bytes
tokens_characters bytes [] l = subst IsCharacters (sym l) no_characters
tokens_characters bytes (t ∷ tokens) l = token_characters bytes t l.0 l.1 (tokens_characters l.0 tokens l.2)

-- the canonical bytes of an element that fits are characters; they begin with `<`, and so with no byte order mark
pub canonical_characters : (e : Element) → IsFit e → IsCharacters (canonical_bytes e)
canonical_characters e fit =
    let s : Spells (canonical_bytes e) (canonical_reading e) = canonical_spelled e fit in
    tokens_characters (canonical_bytes e) s.tokens s.lexed

pub canonical_utf8 : (e : Element) → IsFit e → IsUtf8 (canonical_bytes e)
canonical_utf8 e fit = characters_are_utf8 (canonical_bytes e) (canonical_characters e fit)
