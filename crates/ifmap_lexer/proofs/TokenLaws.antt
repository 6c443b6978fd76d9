-- Tokens that are read are those that stand there.
-- 1. The kind at the front decides which token can stand there (`of_kind`, `kind_refused`).
-- 2. Then kind by kind, with the steps of its function as parameters: what is found is a token
--    (`comment_found`, `section_found`, `end_found`), and a refusal of a step is one of the whole
--    (`no_..`).
-- 3. So for start tags and empty ones (`start_found`, `empty_found`), and for text (`text_found`).
-- 4. What each token takes is not empty (`token_front`), so a reader goes on (`token_length`).
-- 5. A refusal as malformed says that no token stands there (`malformed_of`).
use Rattle.std.proofs.Common.{◌≡◌, ◌≢◌, ℕ, ◌+◌, ◌-◌, ◌≤◌, Bool, true, false, not, List, [], ◌∷◌, ◌++◌, length, drop, refl, ap, sym, ◌∙◌}
use Rattle.std.proofs.Common.{subst, arith, append_assoc, length-append}
use Rattle.std.specs.Prelude.{◌==◌, codes, Result, Ok, Err, IfErr}
use Rattle.std.specs.List.{list_all}
use Rattle.std.proofs.Math.Seq.{drop-append_seam}
use Rattle.ifmap_lemmas.specs.Items.{To}
use Rattle.ifmap_elem.specs.Chars.{IsCharacters, is_white, equals_sign, less_than}
use Rattle.ifmap_elem.specs.Names.{name_bytes}
use Rattle.ifmap_elem.specs.Values.{IsText, line_ends}
use Rattle.ifmap_elem.specs.Tokens.{Lacks, TakesDeclaration, TakesEnd, TakesTag, TakesText, TakesToken, TakesAssignment, EndsText}
use Rattle.ifmap_elem.specs.declared.tokens.Assignment.{Assignment}
use Rattle.ifmap_elem.specs.declared.tokens.Qualified.{Qualified}
use Rattle.ifmap_elem.specs.declared.tokens.Tag.{Tag}
use Rattle.ifmap_elem.specs.declared.tokens.Token.{Token}
use Rattle.ifmap_elem.specs.declared.tokens.Token.TheVariants.{Declaration, Comment, Start, Empty, End, Section, Characters}
use Rattle.ifmap_lemmas.specs.Cuts.{Stops, one_cut}
use Rattle.ifmap_elem.specs.laws.Delimiters.{dash_cut, bracket_cut}
use Rattle.ifmap_lemmas.specs.Numbers.{equal_numbers}
use Rattle.ifmap_elem.specs.laws.NameBytes.{name_cut, name_stops_at_white}
use Rattle.ifmap_elem.specs.laws.OneToken.{one_tag, text_stops, declaration_no_end}
use Rattle.ifmap_lexer.specs.Cutting.{Cuts, CutsWord, is_but}
use Rattle.ifmap_elem.specs.Kinds.{Stands, kind_at, kind_of}
use Rattle.ifmap_lexer.specs.Tags.{ClosesTag}
use Rattle.ifmap_lexer.specs.Refusing.{Refuses}
use Rattle.ifmap_lexer.specs.declared.errors.LexError.{LexError}
use Rattle.ifmap_lexer.specs.declared.errors.LexError.TheVariants.{Malformed, NoMemory}
use Rattle.ifmap_elem.specs.declared.tokens.TokenKind.{TokenKind}
use Rattle.ifmap_elem.specs.declared.tokens.TokenKind.TheVariants as kinds
use Rattle.ifmap_lexer.proofs.AssignmentLaws.{closes_ends}
use Rattle.ifmap_lexer.proofs.Basics.{refuses_by}
use Rattle.ifmap_elem.specs.laws.OneToken.{kind_is}
use Rattle.ifmap_lexer.specs.There.{NameAt, SomeName, SomeTag, SomeToken}

abbrev pub SomeMeaning : List ℕ → Type 0
SomeMeaning written = (text : List ℕ) × IsText written text

-- by kinds

pub of_kind : (kind : TokenKind) (bytes : List ℕ) → kind ≡ kind_at bytes → SomeToken bytes → Stands kind bytes
of_kind kind bytes e s = (s.0, s.1, s.2, sym (kind_is bytes s.0 s.1 s.2) ∙ sym e)

pub of_no_kind : (bytes : List ℕ) → kinds.Nothing ≡ kind_at bytes → SomeToken bytes → ⊥
of_no_kind bytes e s = none s.0 (sym (kind_is bytes s.0 s.1 s.2) ∙ sym e)
  where
    none : (t : Token) → kind_of t ≡ kinds.Nothing → ⊥
    none Declaration h = cc
    none Comment h = cc
    none (Start tag) h = cc
    none (Empty tag) h = cc
    none (End name) h = cc
    none (Section text) h = cc
    none (Characters blank text) h = cc

pub kind_refused : {X : Type 0} (kind : TokenKind) (bytes : List ℕ) (r : Result X LexError) → kind ≡ kind_at bytes
    → IfErr r (λ e. Refuses e (Stands kind bytes)) → IfErr r (λ e. Refuses e (SomeToken bytes))
kind_refused kind bytes (Ok x) e h = tt
kind_refused kind bytes (Err d) e h = refuses_by d (Stands kind bytes) (SomeToken bytes) (of_kind kind bytes e) h

declaration_by : (bytes : List ℕ) (t : Token) (rest : List ℕ) → TakesToken bytes t rest → kind_of t ≡ kinds.Declaration
    → TakesDeclaration bytes rest
declaration_by bytes Declaration rest l e = l
declaration_by bytes t rest l e = cc

comment_by : (bytes : List ℕ) (t : Token) (rest : List ℕ) → TakesToken bytes t rest → kind_of t ≡ kinds.Comment
    → TakesToken bytes Comment rest
comment_by bytes Comment rest l e = l
comment_by bytes t rest l e = cc

section_by : (bytes : List ℕ) (t : Token) (rest : List ℕ) → TakesToken bytes t rest → kind_of t ≡ kinds.Section → (text : List ℕ)
    × TakesToken bytes (Section text) rest
section_by bytes (Section text) rest l e = (text, l)
section_by bytes t rest l e = cc

end_by : (bytes : List ℕ) (t : Token) (rest : List ℕ) → TakesToken bytes t rest → kind_of t ≡ kinds.End → (name : Qualified)
    × TakesEnd bytes name rest
end_by bytes (End name) rest l e = (name, l)
end_by bytes t rest l e = cc

text_by : (bytes : List ℕ) (t : Token) (rest : List ℕ) → TakesToken bytes t rest → kind_of t ≡ kinds.Text → (blank : Bool)
    × (text : List ℕ) × TakesText bytes blank text rest
text_by bytes (Characters blank text) rest l e = (blank, text, l)
text_by bytes t rest l e = cc

-- how a tag's bytes end
abbrev pub EndsAs : List ℕ → Type 0
EndsAs bytes = (tag : Tag) × (end : List ℕ) × TakesTag bytes tag end × ClosesTag end
    × (((rest : List ℕ) → end ≡ codes ">" ++ rest → ⊥) → ((rest : List ℕ) → end ≡ codes "/>" ++ rest → ⊥) → ⊥)

tag_by : (bytes : List ℕ) (t : Token) (rest : List ℕ) → TakesToken bytes t rest → kind_of t ≡ kinds.Tag → EndsAs bytes
tag_by bytes (Start tag) rest l e = (tag, codes ">" ++ rest, l, refl, (λ one two. one rest refl))
tag_by bytes (Empty tag) rest l e = (tag, codes "/>" ++ rest, l, refl, (λ one two. two rest refl))
tag_by bytes t rest l e = cc

-- the declaration

pub no_declaration : (bytes : List ℕ) → ((rest : List ℕ) → TakesDeclaration bytes rest → ⊥) → Stands kinds.Declaration bytes → ⊥
no_declaration bytes none s = none s.1 (declaration_by bytes s.0 s.1 s.2 s.3)

-- comments

pub no_comment_begins : (bytes : List ℕ) → ((rest : List ℕ) → bytes ≡ codes "<!--" ++ rest → ⊥) → Stands kinds.Comment bytes → ⊥
no_comment_begins bytes none s = let t = comment_by bytes s.0 s.1 s.2 s.3 in none (t.0 ++ (codes "-->" ++ s.1)) t.1.bytes_are

lacks_back : (w a b : List ℕ) → Lacks w (a ++ b) → Lacks w b
lacks_back w [] b l = l
lacks_back w (x ∷ xs) b l = lacks_back w xs b l.1

module _ (bytes inner : List ℕ) (e : bytes ≡ codes "<!--" ++ inner) where
  comment_inner : (rest : List ℕ) (t : TakesToken bytes Comment rest) → inner ≡ t.0 ++ (codes "-->" ++ rest)
  comment_inner rest t = let both : codes "<!--" ++ inner ≡ codes "<!--" ++ (t.0 ++ (codes "-->" ++ rest)) = sym e ∙ t.1.bytes_are in cc

  pub no_dashes : Lacks (codes "--") inner → Stands kinds.Comment bytes → ⊥
  no_dashes l s =
      let t = comment_by bytes s.0 s.1 s.2 s.3 in
      let wrong : true ≡ false =
      (lacks_back (codes "--") t.0 (codes "-->" ++ s.1) (subst (Lacks (codes "--")) (comment_inner s.1 t) l)).0 in
      cc

  module _ (content end : List ℕ) (c : CutsWord (codes "--") inner content end) where
    comment_cut : (rest : List ℕ) (t : TakesToken bytes Comment rest) → (content ≡ t.0) × (end ≡ codes ">" ++ rest)
    comment_cut rest t = dash_cut content t.0 end (codes ">" ++ rest) c.lacks t.2 (sym c.bytes_are ∙ comment_inner rest t)

    pub no_comment_end : ((rest : List ℕ) → end ≡ codes ">" ++ rest → ⊥) → Stands kinds.Comment bytes → ⊥
    no_comment_end none s = none s.1 (comment_cut s.1 (comment_by bytes s.0 s.1 s.2 s.3)).1

    pub no_comment_characters : (IsCharacters content → ⊥) → Stands kinds.Comment bytes → ⊥
    no_comment_characters none s = let t =
        comment_by bytes s.0 s.1 s.2 s.3 in none (subst IsCharacters (sym (comment_cut s.1 t).0) t.1.characters)

    pub comment_found : (rest : List ℕ) → end ≡ codes ">" ++ rest → IsCharacters content → TakesToken bytes Comment rest
    comment_found rest is f = (
      content,
      record {
        bytes_are =
            e ∙ ap (λ x. codes "<!--" ++ x) (c.bytes_are ∙ ap (λ x. content ++ (codes "--" ++ x)) is);
        characters = f;
      },
      c.lacks,
    )

-- character sections

pub no_section_begins : (bytes : List ℕ) → ((rest : List ℕ) → bytes ≡ codes "<![CDATA[" ++ rest → ⊥) → Stands kinds.Section bytes → ⊥
no_section_begins bytes none s = let t = (section_by bytes s.0 s.1 s.2 s.3).1 in none (t.0 ++ (codes "]]>" ++ s.1)) t.1.bytes_are

module _ (bytes inner : List ℕ) (e : bytes ≡ codes "<![CDATA[" ++ inner) where
  section_inner : (text rest : List ℕ) (t : TakesToken bytes (Section text) rest) → inner ≡ t.0 ++ (codes "]]>" ++ rest)
  section_inner text rest t = let both : codes "<![CDATA[" ++ inner ≡ codes "<![CDATA[" ++ (t.0 ++ (codes "]]>" ++ rest)) =
      sym e ∙ t.1.bytes_are in cc

  pub no_brackets : Lacks (codes "]]>") inner → Stands kinds.Section bytes → ⊥
  no_brackets l s =
      let t = section_by bytes s.0 s.1 s.2 s.3 in
      let wrong : true ≡ false =
      (lacks_back (codes "]]>") t.1.0 (codes "]]>" ++ s.1) (subst (Lacks (codes "]]>")) (section_inner t.0 s.1 t.1) l)).0 in
      cc

  module _ (content rest : List ℕ) (c : CutsWord (codes "]]>") inner content rest) where
    section_cut : (text later : List ℕ) (t : TakesToken bytes (Section text) later) → (content ≡ t.0) × (rest ≡ later)
    section_cut text later t = bracket_cut content t.0 rest later c.front_lacks t.2 (sym c.bytes_are ∙ section_inner text later t)

    pub no_section_characters : (IsCharacters content → ⊥) → Stands kinds.Section bytes → ⊥
    no_section_characters none s = let t =
        section_by bytes s.0 s.1 s.2 s.3 in none (subst IsCharacters (sym (section_cut t.0 s.1 t.1).0) t.1.1.characters)

    pub section_found : (text : List ℕ) → IsCharacters content → text ≡ line_ends content → TakesToken bytes (Section text) rest
    section_found text f is =
        (content, record { bytes_are = e ∙ ap (λ x. codes "<![CDATA[" ++ x) c.bytes_are; characters = f }, c.front_lacks, is)

-- end tags

pub no_end_begins : (bytes : List ℕ) → ((rest : List ℕ) → bytes ≡ codes "</" ++ rest → ⊥) → Stands kinds.End bytes → ⊥
no_end_begins bytes none s = let t =
    end_by bytes s.0 s.1 s.2 s.3 in none (name_bytes t.0 ++ (t.1.white ++ (codes ">" ++ s.1))) t.1.bytes_are

module _ (bytes inner : List ℕ) (e : bytes ≡ codes "</" ++ inner) where
  end_inner : (name : Qualified) (rest : List ℕ) (t : TakesEnd bytes name rest) → inner ≡ name_bytes name
      ++ (t.white ++ (codes ">" ++ rest))
  end_inner name rest t = let both : codes "</" ++ inner ≡ codes "</" ++ (name_bytes name ++ (t.white ++ (codes ">" ++ rest))) =
      sym e ∙ t.bytes_are in cc

  pub end_name : Stands kinds.End bytes → SomeName inner
  end_name s =
      let t = end_by bytes s.0 s.1 s.2 s.3 in (
        t.0,
        t.1.white ++ (codes ">" ++ s.1),
        t.1.is_name,
        end_inner t.0 s.1 t.1,
        name_stops_at_white t.1.white (codes ">" ++ s.1)
            t.1.is_white refl,
      )

  module _ (name : Qualified) (after white end : List ℕ) (n : NameAt inner name after) (c : Cuts is_white after white end) where
    pub no_end_end : ((rest : List ℕ) → end ≡ codes ">" ++ rest → ⊥) → Stands kinds.End bytes → ⊥
    no_end_end none s =
        let o = end_by bytes s.0 s.1 s.2 s.3 in
        let t = o.1 in
        let both = name_cut name o.0 after (t.white ++ (codes ">" ++ s.1)) n.0 t.is_name n.2
        (name_stops_at_white t.white (codes ">" ++ s.1) t.is_white refl) (sym n.1 ∙ end_inner o.0 s.1 t) in
        none s.1 (one_cut is_white white t.white end (codes ">" ++ s.1) c.passes t.is_white c.stops refl (sym c.bytes_are ∙ both.1)).1

    pub end_found : (rest : List ℕ) → end ≡ codes ">" ++ rest → TakesEnd bytes name rest
    end_found rest is = record {
      white = white;
      bytes_are = e ∙ ap (λ x. codes "</" ++ x) (n.1 ∙ ap (λ x. name_bytes name ++ x) (c.bytes_are ∙ ap (λ x. white ++ x) is));
      is_name = n.0;
      is_white = c.passes;
    }

-- start tags and empty tags

pub some_tag : (bytes : List ℕ) → Stands kinds.Tag bytes → SomeTag bytes
some_tag bytes s = let t = tag_by bytes s.0 s.1 s.2 s.3 in (t.0, t.1, t.2, t.3)

pub no_tag_end : (bytes : List ℕ) (tag : Tag) (end : List ℕ) → TakesTag bytes tag end → ClosesTag end
    → ((rest : List ℕ) → end ≡ codes ">" ++ rest → ⊥) → ((rest : List ℕ) → end ≡ codes "/>" ++ rest → ⊥) → Stands kinds.Tag bytes → ⊥
no_tag_end bytes tag end l closes one two s =
    let t = tag_by bytes s.0 s.1 s.2 s.3 in
    let same : end ≡ t.1 = (one_tag bytes tag t.0 end t.1 (closes_ends end closes) (closes_ends t.1 t.3) l t.2).1 in
    t.4 (λ r e. one r (same ∙ e)) (λ r e. two r (same ∙ e))

pub start_found : (bytes : List ℕ) (tag : Tag) (end rest : List ℕ) → TakesTag bytes tag end → end ≡ codes ">" ++ rest
    → TakesToken bytes (Start tag) rest
start_found bytes tag end rest t e = subst (TakesTag bytes tag) e t

pub empty_found : (bytes : List ℕ) (tag : Tag) (end rest : List ℕ) → TakesTag bytes tag end → end ≡ codes "/>" ++ rest
    → TakesToken bytes (Empty tag) rest
empty_found bytes tag end rest t e = subst (TakesTag bytes tag) e t

-- text

ends_text : (rest : List ℕ) → Stops (is_but less_than) rest → EndsText rest
ends_text [] s = tt
ends_text (b ∷ bs) s = by_test (b == less_than) refl
  where
    by_test : (t : Bool) → (b == less_than) ≡ t → b ≡ less_than
    by_test true e = equal_numbers b less_than e
    by_test false e = let wrong : true ≡ false = sym (ap not e) ∙ s in cc

module _ (bytes own rest : List ℕ) (c : Cuts (is_but less_than) bytes own rest) where
  text_cut : (blank : Bool) (text later : List ℕ) (t : TakesText bytes blank text later) → own ≡ t.own
  text_cut blank text later t =
      (one_cut (is_but less_than) own t.own rest later c.passes t.no_tag c.stops (text_stops later t.ends)
      (sym c.bytes_are ∙ t.bytes_are)).0

  pub no_own : own ≡ [] → Stands kinds.Text bytes → ⊥
  no_own e s = let t = (text_by bytes s.0 s.1 s.2 s.3) in t.2.some (sym (text_cut t.0 t.1 s.1 t.2) ∙ e)

  pub no_text_end : (Lacks (codes "]]>") own → ⊥) → Stands kinds.Text bytes → ⊥
  no_text_end none s = let t =
      (text_by bytes s.0 s.1 s.2 s.3) in none (subst (Lacks (codes "]]>")) (sym (text_cut t.0 t.1 s.1 t.2)) t.2.no_section_end)

  pub no_text_characters : (IsCharacters own → ⊥) → Stands kinds.Text bytes → ⊥
  no_text_characters none s = let t =
      (text_by bytes s.0 s.1 s.2 s.3) in none (subst IsCharacters (sym (text_cut t.0 t.1 s.1 t.2)) t.2.characters)

  pub some_text : Stands kinds.Text bytes → (text : List ℕ) × IsText own text
  some_text s = let t =
      (text_by bytes s.0 s.1 s.2 s.3) in (t.1, subst (λ (x : List ℕ). IsText x t.1) (sym (text_cut t.0 t.1 s.1 t.2)) t.2.means)

  pub some_text_of : (written : List ℕ) → written ≡ own → Stands kinds.Text bytes → SomeMeaning written
  some_text_of written e s = subst SomeMeaning (sym e) (some_text s)

  pub text_found : own ≢ [] → Lacks (codes "]]>") own → IsCharacters own → (blank : Bool) → blank ≡ list_all is_white own
      → (text : List ℕ) → IsText own text → TakesText bytes blank text rest
  text_found some lacks f blank b text m = record {
    own = own;
    bytes_are = c.bytes_are;
    some = some;
    no_tag = c.passes;
    ends = ends_text rest c.stops;
    characters = f;
    no_section_end = lacks;
    blank_is = b;
    means = m;
  }

-- the token and how much it takes

shorter : (front rest bytes : List ℕ) → bytes ≡ front ++ rest → front ≢ [] → (1 ≤ length bytes - length rest)
    × (length bytes - length rest ≤ length bytes) × (drop (length bytes - length rest) bytes ≡ rest)
shorter [] rest bytes e some = absurd (some refl)
shorter (x ∷ xs) rest bytes e some =
    let both : length bytes ≡ length (x ∷ xs) + length rest = ap length e ∙ length-append (x ∷ xs) rest in
    let n : length bytes - length rest ≡ length (x ∷ xs) = omega arith in (
      omega arith,
      omega arith,
      ap (λ k. drop k bytes) n ∙ ap (drop (length (x ∷ xs))) e ∙ drop-append_seam (x ∷ xs) rest,
    )

tag_front : (bytes : List ℕ) (tag : Tag) (end : List ℕ) → TakesTag bytes tag end → (front : List ℕ) × (bytes ≡ front ++ end) × (front ≢ [])
tag_front bytes tag end t =
    let f = items_front t.after tag.assignments (t.white ++ end) t.assigned in (
      less_than ∷ (name_bytes tag.name ++ (f.0 ++ t.white)),
      t.bytes_are ∙ ap (λ x. less_than ∷ (name_bytes tag.name ++ x)) f.1 ∙ simp append_assoc,
      (λ e. cc),
    )
  where
    items_front : (bytes : List ℕ) (xs : List Assignment) (rest : List ℕ) → To TakesAssignment bytes xs rest → (front : List ℕ)
        × (bytes ≡ front ++ rest)
    items_front bytes [] rest l = ([], l)
    items_front bytes (x ∷ xs) rest l =
        let f = items_front l.0 xs rest l.2 in
        let q = l.1.given in
        let quoted : List ℕ = q.before ++ (equals_sign ∷ (q.after ++ (q.quote ∷ (l.1.written ++ (q.quote ∷ []))))) in (
          l.1.white ++ (name_bytes x.name ++ (quoted ++ f.0)),
          l.1.bytes_are ∙ ap (λ b. l.1.white ++ (name_bytes x.name ++ b)) q.bytes_are
              ∙ ap (λ b. l.1.white
              ++ (name_bytes x.name ++ (q.before ++ (equals_sign ∷ (q.after ++ (q.quote ∷ (l.1.written ++ (q.quote ∷ b)))))))) f.1
              ∙ simp append_assoc,
        )

pub token_front : (bytes : List ℕ) (t : Token) (rest : List ℕ) → TakesToken bytes t rest → (front : List ℕ) × (bytes ≡ front ++ rest)
    × (front ≢ [])
token_front bytes Declaration rest t =
    let n = declaration_no_end bytes rest t in
    (n.0 ++ codes ">", n.1 ∙ sym (append_assoc n.0 (codes ">") rest), some_end n.0)
  where
    some_end : (xs : List ℕ) → xs ++ codes ">" ≢ []
    some_end [] e = cc
    some_end (x ∷ xs) e = cc
token_front bytes Comment rest t = (codes "<!--" ++ (t.0 ++ codes "-->"), t.1.bytes_are ∙ simp append_assoc, (λ e. cc))
token_front bytes (Start tag) rest t =
    let f = tag_front bytes tag (codes ">" ++ rest) t in
    (f.0 ++ codes ">", f.1 ∙ sym (append_assoc f.0 (codes ">") rest), some_more f.0 (codes ">") f.2)
  where
    some_more : (xs ys : List ℕ) → xs ≢ [] → xs ++ ys ≢ []
    some_more [] ys some e = some refl
    some_more (x ∷ xs) ys some e = cc
token_front bytes (Empty tag) rest t =
    let f = tag_front bytes tag (codes "/>" ++ rest) t in
    (f.0 ++ codes "/>", f.1 ∙ sym (append_assoc f.0 (codes "/>") rest), some_more f.0 (codes "/>") f.2)
  where
    some_more : (xs ys : List ℕ) → xs ≢ [] → xs ++ ys ≢ []
    some_more [] ys some e = some refl
    some_more (x ∷ xs) ys some e = cc
token_front bytes (End name) rest t =
    (codes "</" ++ (name_bytes name ++ (t.white ++ codes ">")), t.bytes_are ∙ simp append_assoc, (λ e. cc))
token_front bytes (Section text) rest t = (codes "<![CDATA[" ++ (t.0 ++ codes "]]>"), t.1.bytes_are ∙ simp append_assoc, (λ e. cc))
token_front bytes (Characters blank text) rest t = (t.own, t.bytes_are, t.some)

pub token_length : (bytes : List ℕ) (t : Token) (rest : List ℕ) → TakesToken bytes t rest
    → (1 ≤ length bytes - length rest) × (length bytes - length rest ≤ length bytes) × (drop (length bytes - length rest) bytes ≡ rest)
token_length bytes t rest l = let f = token_front bytes t rest l in shorter f.0 rest bytes f.1 f.2

pub rest_is_shorter : (bytes : List ℕ) (t : Token) (rest : List ℕ) → TakesToken bytes t rest → length rest ≤ length bytes
rest_is_shorter bytes t rest l = let f = token_front bytes t rest l in omega (arith, ap length f.1, length-append f.0 rest)

pub malformed_of : (bytes : List ℕ) (e : LexError) → Refuses e (SomeToken bytes) → e ≡ Malformed → (t : Token) (rest : List ℕ)
    → TakesToken bytes t rest → ⊥
malformed_of bytes Malformed r e t rest l = r (t, rest, l)
malformed_of bytes NoMemory r e t rest l = cc
