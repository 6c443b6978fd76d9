-- Printed names, attributes, declarations, tags and texts are taken as such, and printed tags are allowed.
-- 1. The tag that an element is printed as: its name and attributes with prefixes, after its declarations (`printed_tag`).
-- 2. A namespace whose prefix is bound to it (`Resolves`) gives qualified names; so each attribute and each declaration is taken
--    as its assignment, and all of them in turn (`all_taken`).
-- 3. So start tags, end tags and texts are taken as what was printed (`tag_taken`, `end_taken`, `text_taken`).
-- 4. Of the assignments the declarations alone bind (`bindings_are`) and the attributes alone are plain (`plain_are`).
-- 5. So the tag names the element with its attributes, as `NamesElement` has it (`names_element`).
use Rattle.std.proofs.Common.{◌≡◌, ◌≢◌, ℕ, true, false, ◌&&◌, List, [], ◌∷◌, ◌++◌, map, refl, ap, sym, ◌∙◌, subst, inr, ◌⊎◌, append_assoc, Option, Some, None}
use Rattle.std.specs.Prelude.{codes, filter, is_none}
use Rattle.std.specs.List.{AllByRecursion, flat_map, filter_map, list_all}
use Rattle.std.specs.Map.{lookup}
use Rattle.std.specs.Str.{bytes_eq, byte}
use Rattle.std.proofs.lemmas.List.{append-nil}
use Rattle.std.proofs.lemmas.List.Elements.{filter-append, filter_map-append}
use Rattle.ifmap_lemmas.specs.Items.{To}
use Rattle.ifmap_elem.specs.laws.NamespaceLaws.{PrefixRows}
use Rattle.ifmap_elem.specs.declared.elements.Name.{Name}
use Rattle.ifmap_elem.specs.declared.elements.Attribute.{Attribute}
use Rattle.ifmap_elem.specs.declared.tokens.Assignment.{Assignment}
use Rattle.ifmap_elem.specs.declared.tokens.Qualified.{Qualified}
use Rattle.ifmap_elem.specs.declared.tokens.Tag.{Tag}
use Rattle.ifmap_elem.specs.Chars.{AllAre, IsCharacters, is_white, double_quote}
use Rattle.ifmap_elem.specs.Names.{IsNamePart, IsQualified, is_name_start, is_name_character, name_bytes, with_prefix}
use Rattle.ifmap_elem.specs.Scopes.{Binding, Scope, AllDiffer, prefix_space, binding_of, bindings, plain_assignments, scope_within, attribute_space, IsBinding, AreAttributes, NamesElement}
use Rattle.ifmap_elem.specs.Tokens.{TakesAssignment, TakesTag, TakesEnd, TakesText, EndsText}
use Rattle.ifmap_elem.specs.Escapes.{text_bytes, value_bytes}
use Rattle.ifmap_elem.specs.Fit.{IsFitName, IsFitAttribute}
use Rattle.ifmap_elem.specs.Canonical.{after_prefix, printed_name, declaration_bytes, attribute_bytes}
use Rattle.ifmap_lemmas.specs.Members.{all_of_test}
use Rattle.ifmap_lemmas.specs.Texts.{is_ascii, ascii_encoded}
use Rattle.ifmap_lemmas.specs.Apart.{other_bytes_differ}
use Rattle.ifmap_lemmas.specs.Runs.{to_both}
use Rattle.ifmap_elem.specs.laws.PrintedParts.{text_means, value_means, text_characters, value_characters, text_some, text_no_tag, value_no_tag, value_no_quote, text_no_section_end}

-- the prefix, or none
abbrev pub prefix_or : Option (List ℕ) → List ℕ
prefix_or None = []
prefix_or (Some prefix) = prefix

abbrev pub prefix_of : PrefixRows → List ℕ → List ℕ
prefix_of prefixes space = prefix_or (lookup (bytes_eq space) prefixes)

-- the name as it is written
abbrev pub qualify_name : PrefixRows → Name → Qualified
qualify_name prefixes name = record { prefix = prefix_of prefixes name.space; local = name.local }

abbrev pub attribute_assignment : PrefixRows → Attribute → Assignment
attribute_assignment prefixes a = record { name = qualify_name prefixes a.name; value = a.value }

abbrev pub declaration_assignment : List ℕ × List ℕ → Assignment
declaration_assignment row = record { name = record { prefix = codes "xmlns"; local = row.1 }; value = row.0 }

abbrev pub row_binding : List ℕ × List ℕ → Binding
row_binding row = record { prefix = row.1; space = row.0 }

abbrev pub printed_tag : PrefixRows → PrefixRows → Name → List Attribute → Tag
printed_tag prefixes declared name attributes =
    record {
      name = qualify_name prefixes name;
      assignments = map declaration_assignment declared ++ map
          (attribute_assignment prefixes) attributes;
    }

-- a namespace is written by a prefix that is bound to it
pub record Resolves (prefixes : PrefixRows) (scope : Scope) (space : List ℕ) : Type 0 where
  pub printed : (local : List ℕ) → after_prefix (lookup (bytes_eq space) prefixes) local ≡ with_prefix (prefix_of prefixes space) local
  pub is_prefix : (prefix_of prefixes space ≡ []) ⊎ IsNamePart (prefix_of prefixes space)
  pub no_xmlns : prefix_of prefixes space ≢ codes "xmlns"
  pub bound_to : prefix_space scope (prefix_of prefixes space) ≡ Some space
  pub none : prefix_of prefixes space ≡ [] → space ≡ []

-- an attribute of a document, whose namespace is written by a prefix
pub record FitsIn (prefixes : PrefixRows) (scope : Scope) (a : Attribute) : Type 0 where
  pub fit : IsFitAttribute a
  pub resolved : Resolves prefixes scope a.name.space

-- a declaration that can be written
pub record FitRow (row : List ℕ × List ℕ) : Type 0 where
  pub prefix : IsNamePart row.1
  pub space : IsCharacters row.0

-- a name part in ASCII
pub ascii_part : (b : ℕ) (bs : List ℕ) → is_name_start b ≡ true → AllAre is_name_character bs → AllAre is_ascii (b ∷ bs)
    → IsNamePart (b ∷ bs)
ascii_part b bs start others low =
    record { first = b; others = bs; bytes_are = ascii_encoded (b ∷ bs) low; begins = start; goes_on = others }

xmlns_part : IsNamePart (codes "xmlns")
xmlns_part =
    ascii_part (byte "x") (codes "mlns") refl (all_of_test is_name_character (codes "mlns") refl)
    (all_of_test is_ascii (codes "xmlns") refl)

assignment_taken : (q : Qualified) (value rest : List ℕ) → IsQualified q → IsCharacters value
    → TakesAssignment ((codes " " ++ (name_bytes q ++ (codes "=\"" ++ (value_bytes value ++ codes "\"")))) ++ rest)
    (record { name = q; value = value }) rest
assignment_taken q value rest i f = record {
  white = codes " ";
  after = codes "=\"" ++ (value_bytes value ++ (codes "\"" ++ rest));
  written = value_bytes value;
  bytes_are =
      ap (λ l. codes " " ++ l)
      (append_assoc (name_bytes q) (codes "=\"" ++ (value_bytes value ++ codes "\"")) rest
      ∙ ap (λ l. name_bytes q ++ (codes "=\"" ++ l)) (append_assoc (value_bytes value) (codes "\"") rest));
  is_white = (refl, tt);
  some_white = λ e. cc;
  is_name = i;
  given = record {
    before = [];
    after = [];
    quote = double_quote;
    bytes_are = refl;
    white_before = tt;
    white_after = tt;
    is_quote = refl;
    unquoted = value_no_quote value;
  };
  characters = value_characters value f;
  no_tag = value_no_tag value;
  means = value_means value;
}

is_qualified : (prefixes : PrefixRows) (scope : Scope) (name : Name) → IsFitName name → Resolves prefixes scope name.space
    → IsQualified (qualify_name prefixes name)
is_qualified prefixes scope name f r = record { prefix_is = r.is_prefix; local_is = f.local }

attribute_taken : (prefixes : PrefixRows) (scope : Scope) (a : Attribute) (rest : List ℕ) → FitsIn prefixes scope a
    → TakesAssignment (attribute_bytes prefixes a ++ rest) (attribute_assignment prefixes a) rest
attribute_taken prefixes scope a rest f =
    subst (λ (n : List ℕ). TakesAssignment ((codes " " ++ (n ++ (codes "=\"" ++ (value_bytes a.value ++ codes "\"")))) ++ rest)
    (attribute_assignment prefixes a) rest)
    (sym (f.resolved.printed a.name.local)) (assignment_taken (qualify_name prefixes a.name) a.value rest
    (is_qualified prefixes scope a.name f.fit.name f.resolved) f.fit.value)

declaration_taken : (row : List ℕ × List ℕ) (rest : List ℕ) → FitRow row
    → TakesAssignment (declaration_bytes row ++ rest) (declaration_assignment row) rest
declaration_taken row rest f =
    assignment_taken (record { prefix = codes "xmlns"; local = row.1 }) row.0 rest
    (record { prefix_is = inr xmlns_part; local_is = f.prefix }) f.space

all_taken : {X : Type 0} (write : X → List ℕ) (means : X → Assignment) (P : X → Type 0)
    → ((x : X) (rest : List ℕ) → P x → TakesAssignment (write x ++ rest) (means x) rest)
    → (xs : List X) (rest : List ℕ) → AllByRecursion P xs → To TakesAssignment (flat_map write xs ++ rest) (map means xs) rest
all_taken write means P each [] rest f = refl
all_taken write means P each (x ∷ xs) rest f = (
  flat_map write xs ++ rest,
  subst (λ (b : List ℕ). TakesAssignment b (means x) (flat_map write xs ++ rest)) (sym (append_assoc (write x) (flat_map write xs) rest))
      (each x (flat_map write xs ++ rest) f.0),
  all_taken write means P each xs rest f.1,
)

pub tag_taken : (prefixes declared : PrefixRows) (scope : Scope) (name : Name) (attributes : List Attribute) (end : List ℕ) → IsFitName name
    → Resolves prefixes scope name.space
    → AllByRecursion FitRow declared → AllByRecursion (FitsIn prefixes scope) attributes
    → TakesTag (codes "<" ++ (printed_name prefixes name ++ (flat_map declaration_bytes declared ++ (flat_map
    (attribute_bytes prefixes) attributes ++ end)))) (printed_tag prefixes declared name attributes) end
tag_taken prefixes declared scope name attributes end f r rows fits = record {
  after = flat_map declaration_bytes declared ++ (flat_map (attribute_bytes prefixes) attributes ++ end);
  white = [];
  bytes_are = ap (λ l. codes "<" ++ (l ++ (flat_map declaration_bytes declared ++ (flat_map
      (attribute_bytes prefixes) attributes ++ end)))) (r.printed name.local);
  is_name = is_qualified prefixes scope name f r;
  assigned =
      to_both TakesAssignment (flat_map declaration_bytes declared ++ (flat_map (attribute_bytes prefixes) attributes ++ end))
      (map declaration_assignment declared)
      (flat_map (attribute_bytes prefixes) attributes ++ end) (map (attribute_assignment prefixes) attributes) end
      (all_taken declaration_bytes declaration_assignment FitRow declaration_taken declared
      (flat_map (attribute_bytes prefixes) attributes ++ end) rows)
      (all_taken (attribute_bytes prefixes) (attribute_assignment prefixes) (FitsIn prefixes scope)
      (attribute_taken prefixes scope) attributes end fits);
  is_white = tt;
}

pub end_taken : (prefixes : PrefixRows) (scope : Scope) (name : Name) (rest : List ℕ) → IsFitName name → Resolves prefixes scope name.space
    → TakesEnd (codes "</" ++ (printed_name prefixes name ++ (codes ">" ++ rest))) (qualify_name prefixes name) rest
end_taken prefixes scope name rest f r = record {
  white = [];
  bytes_are = ap (λ l. codes "</" ++ (l ++ (codes ">" ++ rest))) (r.printed name.local);
  is_name = is_qualified prefixes scope name f r;
  is_white = tt;
}

pub text_taken : (text rest : List ℕ) → text ≢ [] → IsCharacters text → EndsText rest
    → TakesText (text_bytes text ++ rest) (list_all is_white (text_bytes text)) text rest
text_taken text rest some f ends = record {
  own = text_bytes text;
  bytes_are = refl;
  some = text_some text some;
  no_tag = text_no_tag text;
  ends = ends;
  characters = text_characters text f;
  no_section_end = text_no_section_end text;
  blank_is = refl;
  means = text_means text;
}

-- what a printed tag binds

binds_nothing : (prefixes : PrefixRows) (scope : Scope) (a : Attribute) → FitsIn prefixes scope a
    → binding_of (attribute_assignment prefixes a) ≡ None
binds_nothing prefixes scope a f =
    let no_prefix : bytes_eq (prefix_of prefixes a.name.space) (codes "xmlns") ≡ false = other_bytes_differ _ _ f.resolved.no_xmlns in
    let no_default : (bytes_eq (prefix_of prefixes a.name.space) [] && bytes_eq a.name.local (codes "xmlns")) ≡ false = unprefixed
    (prefix_of prefixes a.name.space) f.resolved.none in
    rw (no_prefix, no_default) refl
  where
    unprefixed : (p : List ℕ) → (p ≡ [] → a.name.space ≡ []) → (bytes_eq p [] && bytes_eq a.name.local (codes "xmlns")) ≡ false
    unprefixed [] none =
        other_bytes_differ a.name.local (codes "xmlns") (λ e. f.fit.no_declaration
        (let s : a.name.space ≡ [] = none refl in λ i. record { space = s i; local = e i }))
    unprefixed (b ∷ bs) none = refl

declared_bindings : (rows : PrefixRows) → filter_map binding_of (map declaration_assignment rows) ≡ map row_binding rows
declared_bindings [] = refl
declared_bindings (row ∷ rows) = ap (λ l. row_binding row ∷ l) (declared_bindings rows)

no_bindings : (prefixes : PrefixRows) (scope : Scope) (attributes : List Attribute) → AllByRecursion (FitsIn prefixes scope) attributes
    → filter_map binding_of (map (attribute_assignment prefixes) attributes) ≡ []
no_bindings prefixes scope [] f = refl
no_bindings prefixes scope (a ∷ attributes) f = rw (binds_nothing prefixes scope a f.0) (no_bindings prefixes scope attributes f.1)

declared_plain : (rows : PrefixRows) → filter (λ a. is_none (binding_of a)) (map declaration_assignment rows) ≡ []
declared_plain [] = refl
declared_plain (row ∷ rows) = declared_plain rows

all_plain : (prefixes : PrefixRows) (scope : Scope) (attributes : List Attribute) → AllByRecursion (FitsIn prefixes scope) attributes
    → filter (λ a. is_none (binding_of a)) (map (attribute_assignment prefixes) attributes) ≡ map (attribute_assignment prefixes) attributes
all_plain prefixes scope [] f = refl
all_plain prefixes scope (a ∷ attributes) f =
    rw (binds_nothing prefixes scope a f.0) (ap (λ l. attribute_assignment prefixes a ∷ l) (all_plain prefixes scope attributes f.1))

pub bindings_are : (prefixes declared : PrefixRows) (scope : Scope) (name : Name) (attributes : List Attribute)
    → AllByRecursion (FitsIn prefixes scope) attributes
    → bindings (printed_tag prefixes declared name attributes) ≡ map row_binding declared
bindings_are prefixes declared scope name attributes f =
    filter_map-append binding_of (map declaration_assignment declared) (map (attribute_assignment prefixes) attributes)
    ∙ (λ i. declared_bindings declared i ++ no_bindings prefixes scope attributes f i) ∙ append-nil (map row_binding declared)

plain_are : (prefixes declared : PrefixRows) (scope : Scope) (name : Name) (attributes : List Attribute)
    → AllByRecursion (FitsIn prefixes scope) attributes
    → plain_assignments (printed_tag prefixes declared name attributes) ≡ map (attribute_assignment prefixes) attributes
plain_are prefixes declared scope name attributes f =
    filter-append (λ a. is_none (binding_of a)) (map declaration_assignment declared) (map (attribute_assignment prefixes) attributes)
    ∙ (λ i. declared_plain declared i ++ all_plain prefixes scope attributes f i)

space_of_prefix : (scope : Scope) (p s : List ℕ) → prefix_space scope p ≡ Some s → (p ≡ [] → s ≡ []) → attribute_space scope p ≡ Some s
space_of_prefix scope [] s e none = ap Some (sym (none refl))
space_of_prefix scope (b ∷ bs) s e none = e

are_attributes : (prefixes : PrefixRows) (scope : Scope) (attributes : List Attribute) → AllByRecursion (FitsIn prefixes scope) attributes
    → AreAttributes scope (map (attribute_assignment prefixes) attributes) attributes
are_attributes prefixes scope [] f = tt
are_attributes prefixes scope (a ∷ attributes) f = (
  record {
    space_is = space_of_prefix scope (prefix_of prefixes a.name.space) a.name.space f.0.resolved.bound_to f.0.resolved.none;
    local_is = refl;
    value_is = refl;
  },
  are_attributes prefixes scope attributes f.1,
)

pub names_element : (prefixes declared : PrefixRows) (outer : Scope) (name : Name) (attributes : List Attribute)
    → AllByRecursion IsBinding (map row_binding declared)
    → AllDiffer (map (λ b. b.prefix) (map row_binding declared)) → Resolves prefixes (map row_binding declared ++ outer) name.space
    → AllByRecursion (FitsIn prefixes (map row_binding declared ++ outer)) attributes → AllDiffer (map (λ t. t.name) attributes)
    → NamesElement outer (printed_tag prefixes declared name attributes) name attributes
names_element prefixes declared outer name attributes binds once r f other_bytes_differ =
    let scope : Scope = map row_binding declared ++ outer in
    let bs : bindings (printed_tag prefixes declared name attributes) ≡ map row_binding declared = bindings_are prefixes declared scope name
    attributes f in
    let within : scope_within outer (printed_tag prefixes declared name attributes) ≡ scope = ap (λ l. l ++ outer) bs in
    record {
      binds = subst (AllByRecursion IsBinding) (sym bs) binds;
      binds_once = subst (λ (l : List Binding). AllDiffer (map (λ b. b.prefix) l)) (sym bs) once;
      space_is = ap (λ (s : Scope). prefix_space s (prefix_of prefixes name.space)) within ∙ r.bound_to;
      local_is = refl;
      attributes_are =
          subst (λ (s : Scope). AreAttributes s (plain_assignments (printed_tag prefixes declared name attributes)) attributes) (sym within)
          (subst (λ (l : List Assignment). AreAttributes scope l attributes) (sym (plain_are prefixes declared scope name attributes f))
          (are_attributes prefixes scope attributes f));
      names_differ = other_bytes_differ;
    }
