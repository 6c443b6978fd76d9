-- Keys are one where their bytes are, whatever their words; and what putting a new namespace into the printer's map makes.
use Rattle.std.proofs.Common.{◌≡◌, ◌≢◌, ℕ, zero, suc, ◌+◌, List, [], ◌∷◌, ◌++◌, length, map, get_or, true, false, cond, Option, Some}
use Rattle.std.proofs.Common.{None, Bor, refl, ap, sym, ◌∙◌, subst, inl, inr}
use Rattle.std.proofs.lemmas.Bool.{cases_Bool}
use Rattle.std.specs.declared.cmp.Ordering.TheVariants.{Equal}
use Rattle.std.specs.Prelude.{codes}
use Rattle.std.specs.Map.{lookup}
use Rattle.std.specs.Option.{is_some}
use Rattle.std.specs.Str.{bytes_eq}
use Rattle.std.specs.Ordering.{nat_cmp, is_eq}
use Rattle.std.specs.Cmp.{nat_cmp_is}
use Rattle.std.specs.Cmp.Lexicographic.{slice_cmp, texts_ties}
use Rattle.ifmap_lemmas.specs.Numerals.{numeral}
use Rattle.ifmap_lemmas.specs.Texts.{eq_tells, eq_itself}
use Rattle.ifmap_lemmas.specs.Ties.{ties_by_second}
use Rattle.ifmap_lemmas.specs.Absent.{none_where_no_value}
use Rattle.ifmap_elem.specs.Namespaces.{name_prefixes}
use Rattle.ifmap_elem.specs.Scopes.{xml_space}
use Rattle.ifmap_elem.specs.laws.NamespaceLaws.{Texts, none_more, one_key_more}
use Rattle.ifmap_elem.specs.printer.Keys.{key_order, space_word}
use Rattle.ifmap_elem.proofs.NumberLaws.{one_label_more}

pub key_ties : (a q : List ℕ) → is_eq (key_order a q) ≡ is_eq (slice_cmp nat_cmp a q)
key_ties a q =
    ties_by_second (nat_cmp (space_word a) (space_word q)) (slice_cmp nat_cmp a q)
    (λ e. subst (λ t. nat_cmp (space_word a) (space_word t) ≡ Equal) (eq_tells a q (texts_ties a q
    ∙ e)) (sym (nat_cmp_is (space_word a) (space_word a) Equal refl)))

-- what puts a key's own value changes nothing
pub puts_own : {X : Type 0} (old new : List ℕ → Option X) (key : List ℕ) (label : X)
    → ((q : List ℕ) → new q ≡ cond (is_eq (key_order key q)) (Some label) (old q)) → old key ≡ Some label → (q : List ℕ) → new q ≡ old q
puts_own old new key label puts own q = elim (cases_Bool (is_eq (key_order key q))) [
  | inl e ↦
      let k : key ≡ q = eq_tells key q (texts_ties key q ∙ sym (key_ties key q) ∙ e) in
      puts q ∙ ap (λ b. cond b (Some label) (old q)) e ∙ sym own ∙ ap old k
  | inr e ↦ puts q ∙ ap (λ b. cond b (Some label) (old q)) e
]

abbrev pub Places : Type 0
Places = List (Bor (List ℕ))

abbrev pub bytes_of : Places → Texts
bytes_of places = map (λ s. s.now) places

one_more : (places : Places) (s : Bor (List ℕ)) → bytes_of (places ++ s ∷ []) ≡ bytes_of places ++ s.now ∷ []
one_more [] s = refl
one_more (p ∷ places) s = ap (λ l. p.now ∷ l) (one_more places s)

pub as_many : (places : Places) → length (bytes_of places) ≡ length places
as_many [] = refl
as_many (p ∷ places) = ap suc (as_many places)

pub at_bytes : (places : Places) (i : ℕ) (p : Bor (List ℕ)) → (get_or places i p).now ≡ get_or (bytes_of places) i p.now
at_bytes [] i p = refl
at_bytes (q ∷ places) zero p = refl
at_bytes (q ∷ places) (suc i) p = at_bytes places i p

-- what the map, the list and the prefix of a new namespace are, where it is put in
pub record IsPlaced (new : List ℕ → Option (List ℕ)) (before after : Texts) (s label : List ℕ) : Type 0 where
  pub keys : (q : List ℕ) → new q ≡ lookup (bytes_eq q) (name_prefixes after)
  pub bare : lookup (bytes_eq []) (name_prefixes after) ≡ None
  pub own : Some label ≡ lookup (bytes_eq s) (name_prefixes after)
  pub more : after ≡ before ++ s ∷ []
  pub unknown : is_some (lookup (bytes_eq s) (name_prefixes before)) ≡ false

pub one_place_more : (old new : List ℕ → Option (List ℕ)) (before : Texts) (first middle after : Places) (s : Bor (List ℕ))
    (key label : List ℕ)
    (found : Option (List ℕ)) (count : ℕ)
    → s.now ≢ [] → bytes_of first ≡ before
    → ((q : List ℕ) → old q ≡ lookup (bytes_eq q) (name_prefixes (bytes_of first)))
    → lookup (bytes_eq []) (name_prefixes (bytes_of first)) ≡ None
    → key ≡ s.now → found ≡ old key → ((x : List ℕ) → found ≡ Some x → ⊥)
    → (found ≡ None → (q : List ℕ) → new q ≡ cond (is_eq (key_order key q)) (Some label) (old q))
    → middle ≡ first → after ≡ middle ++ s ∷ [] → count ≡ length first → label ≡ codes "n" ++ numeral (count + 1)
    → IsPlaced new before (bytes_of after) s.now label
one_place_more old new before first middle after s key label found count some view was bare k f not puts kept pushed long is =
    let none : lookup (bytes_eq s.now) (name_prefixes (bytes_of first)) ≡ None =
    sym (was s.now) ∙ ap old (sym k) ∙ sym f ∙ none_where_no_value found not in
    let more : bytes_of after ≡ bytes_of first ++ s.now ∷ [] =
    ap bytes_of (pushed ∙ ap (λ l. l ++ s ∷ []) kept) ∙ one_more first s in
    let now : (q : List ℕ) → new q ≡ cond (is_eq (slice_cmp nat_cmp key q)) (Some label) (old q) =
    λ q. puts (none_where_no_value found not) q ∙ ap (λ b. cond b (Some label) (old q)) (key_ties key q) in
    let number : label ≡ codes "n" ++ numeral (length (bytes_of first) + 1) =
    is ∙ ap (λ (n : ℕ). codes "n" ++ numeral (n + 1)) (long ∙ sym (as_many first)) in
    record {
      keys = one_key_more old new (bytes_of first) (bytes_of after) s.now key s.now label was now k refl more number none;
      bare = none_more (bytes_of first) (bytes_of after) s.now s.now some refl more bare;
      own = one_label_more old new (bytes_of first) (bytes_of after) s.now key s.now label was now k refl more number none;
      more = more ∙ ap (λ l. l ++ s.now ∷ []) view;
      unknown = ap is_some (ap (λ l. lookup (bytes_eq s.now) (name_prefixes l)) (sym view) ∙ none);
    }

-- the prefix `xml` is had from the first
pub first_prefix : (xs : Texts) (s label : List ℕ) → xs ≡ [] → s ≡ xml_space → label ≡ codes "xml"
    → lookup (bytes_eq s) (name_prefixes xs) ≡ Some label
first_prefix xs s label none k is =
    ap (λ l. lookup (bytes_eq s) (name_prefixes l)) none ∙ ap (λ t. lookup (bytes_eq t) (name_prefixes [])) k
    ∙ ap (λ b. cond b (Some (codes "xml")) None) (eq_itself xml_space) ∙ ap (λ l. Some l) (sym is)
