-- Requests and operations by their forms.
-- 1. A form by the name of its element.
-- 2. Searches with a text before their attributes.
-- 3. The attributes of a search, each with those before it (`refused_links` to `all_bounds`).
-- 4. A search, after its attributes.
use Rattle.std.proofs.Common.{◌≡◌, ℕ, ◌++◌, Bool, true, false, List, [], ◌∷◌, Option, Result, Ok, Err, inl, inr, refl, ap, subst}
use Rattle.std.proofs.Common.{sym}
use Rattle.std.specs.Result.{IsErrAnd}
use Rattle.ifmap_elem.specs.declared.elements.Element.{Element}
use Rattle.ifmap_elem.specs.declared.elements.Name.{Name}
use Rattle.ifmap_elem.specs.Building.{is_name}
use Rattle.ifmap_forms.specs.ifmap_filter.declared.filters.Filter.{Filter}
use Rattle.ifmap_ident.specs.Parts.{has_only}
use Rattle.ifmap_ident.specs.declared.codes.Code.{Code}
use Rattle.ifmap_ident.specs.declared.codes.Code.TheVariants.{Failure}
use Rattle.ifmap_ident.specs.declared.identifiers.Identifier.{Identifier}
use Rattle.ifmap_ident.specs.declared.kinds.Kind.{Kind}
use Rattle.ifmap_ident.specs.ifmap_reader.declared.scoping.Scope.{Scope}
use Rattle.ifmap_search.specs.declared.searches.Search.{Search}
use Rattle.ifmap_forms.specs.declared.errors.FormError.{FormError}
use Rattle.ifmap_forms.specs.declared.errors.FormError.TheVariants.{Named, NoMemory}
use Rattle.ifmap_forms.specs.AnswerLaws.{found_after, found_alone, found_beside, refused_alone, refused_at_field, refused_beside}
use Rattle.ifmap_forms.specs.AnswerLaws.{refused_exit_as, refused_test}
use Rattle.ifmap_forms.specs.Answers.{IsChecked, IsCheckedAs, IsCheckRefusal}
use Rattle.ifmap_forms.specs.Checks.{Check, check_if, check_then, need, pass}
use Rattle.ifmap_forms.specs.Items.{start_check, start_content}
use Rattle.ifmap_forms.specs.Scopes.{Scopes}
use Rattle.ifmap_forms.specs.Tables.{Both, ElementForm, table_with, both, form_check, form_or, no_attributes}
use Rattle.ifmap_forms.specs.Tables.{element_parts}
use Rattle.ifmap_forms.specs.Values.{Field, depth_field, field_check, kinds_field, size_field}
use Rattle.ifmap_requests.specs.declared.searching.Bounds.{Bounds}
use Rattle.ifmap_requests.specs.RequestForms.{SearchValues, after_depth, after_links, after_size, links_field, result_field}
use Rattle.ifmap_requests.specs.RequestForms.{search_attributes, search_check, search_from, values_of}

-- ---- 1. names

module _ {X A C : Type 0} (form : ElementForm A C) (make : A → C → X) (scopes : Scopes) (e : Element) (other : Check X) where
  pub by_form : is_name e.name form.name ≡ true → (r : Result X FormError) → IsChecked (form_check form make scopes e) r
      → IsChecked (form_or form make scopes e other) r
  by_form is r f = subst (λ (b : Bool). IsChecked (check_if b (form_check form make scopes e) other) r) (sym is) f

  pub past_form : is_name e.name form.name ≡ false → (r : Result X FormError) → IsChecked other r
      → IsChecked (form_or form make scopes e other) r
  past_form is r f = subst (λ (b : Bool). IsChecked (check_if b (form_check form make scopes e) other) r) (sym is) f

-- ---- 2. searches

abbrev one_search : Search → Result Search Code
one_search search = Ok search

abbrev no_search : Code → Result Search Code
no_search code = Err code

module _ {X : Type 0} (field : Field (List ℕ)) (name : Name) (passed : List (List ℕ)) (make : List ℕ → Search → X) where
  abbrev searching_form : ElementForm (Both (List ℕ) SearchValues) Identifier
  searching_form = record { name = name; passed_over = passed; attributes = table_with field search_attributes; content = start_content }

  abbrev make_from : Both (List ℕ) SearchValues → Identifier → X
  make_from a start = make a.first (search_from start a.others)

  abbrev locals : List (List ℕ)
  locals = passed ++ (field.local ∷ search_attributes.locals)

  module _ (scopes : Scopes) (e : Element) where
    pub refused_text : (error : FormError) → IsCheckRefusal (field_check field (scopes []) e) error
        → IsCheckRefusal (form_check searching_form make_from scopes e) error
    refused_text (Named code) f = inl (inl (inl f))
    refused_text NoMemory f = tt

    module _ (text : List ℕ) (f : field_check field (scopes []) e (Ok text)) where
      abbrev inside : SearchValues → Check (Both (Both (List ℕ) SearchValues) Identifier)
      inside values = check_then (start_check (element_parts e)) (λ start. pass (both (both text values) start))

      pub found_search : (search : Search) → search_check locals (scopes []) e (Ok search)
          → form_check searching_form make_from scopes e (Ok (make text search))
      found_search search (values, g, h) = opened (has_only locals e) refl h
        where
          opened : (b : Bool) → b ≡ has_only locals e
              → need b Failure (check_then (start_check (element_parts e)) (λ start. pass (search_from start values))) (Ok search)
              → form_check searching_form make_from scopes e (Ok (make text search))
          opened true is (start, s, same) = (
            both (both text values) start,
            (
              (both text values),
              (text, f, (values, g, refl)),
              found_after (inside values) (has_only locals e) Failure (Ok (both (both text values) start)) (sym is) (start, s, refl),
            ),
            (let one : one_search search ≡ one_search (search_from start values) = same in
                let it : search ≡ search_from start values = cc in ap (λ (x : Search). Ok (make text x)) it),
          )
          opened false is h = let wrong : one_search search ≡ no_search Failure = h in cc

      pub refused_search : (error : FormError) → IsCheckRefusal (search_check locals (scopes []) e) error
          → IsCheckRefusal (form_check searching_form make_from scopes e) error
      refused_search NoMemory g = tt
      refused_search (Named code) g = elim g [
        | inl values ↦ inl (inl (inr (text, f, inl values)))
        | inr h ↦ opened h.0 h.1 (has_only locals e) refl h.2
      ]
        where
          opened : (values : SearchValues) → search_attributes.reads (scopes []) e (Ok values) → (b : Bool) → b ≡ has_only locals e
              → need b Failure (check_then (start_check (element_parts e)) (λ start. pass (search_from start values))) (Err code)
              → IsCheckRefusal (form_check searching_form make_from scopes e) (Named code)
          opened values v true is h = elim h [
            | inl s ↦ inl (inr (
              both text values,
              (text, f, (values, v, refl)),
              found_after (inside values) (has_only locals e) Failure (Err code) (sym is) (inl s),
            ))
            | inr s ↦ let wrong : no_search code ≡ one_search (search_from s.0 values) = s.2 in cc
          ]
          opened values v false is h =
              let same : no_search code ≡ no_search Failure = h in
              let one : code ≡ Failure = cc in
              subst (λ (c : Code). IsCheckRefusal (form_check searching_form make_from scopes e) (Named c)) (sym one)
              (inl (inr (
                both text values,
                (text, f, (values, v, refl)),
                refused_test (inside values) (has_only locals e) Failure
                    (sym is),
              )))

-- ---- 3. the attributes

-- where an attribute is refused, its error is the answer
module _ (scope : Scope) (e : Element) where
  pub refused_links : (r : Result Bounds FormError) (error : FormError) → IsErrAnd r (λ x. x ≡ error)
      → IsCheckRefusal (field_check links_field scope e) error → IsCheckedAs values_of (search_attributes.reads scope e) r
  refused_links r error exits f =
      refused_exit_as values_of (search_attributes.reads scope e) r error exits
      (refused_at_field links_field after_links scope e error f)

  module _ (links : Option Filter) (a : field_check links_field scope e (Ok links)) where
    pub refused_depth : (r : Result Bounds FormError) (error : FormError) → IsErrAnd r (λ x. x ≡ error)
        → IsCheckRefusal (field_check depth_field scope e) error → IsCheckedAs values_of (search_attributes.reads scope e) r
    refused_depth r error exits f =
        refused_exit_as values_of (search_attributes.reads scope e) r error exits
        (refused_beside links_field after_links scope e links error a (refused_at_field depth_field after_depth scope e error f))

    module _ (depth : ℕ) (b : field_check depth_field scope e (Ok depth)) where
      pub refused_size : (r : Result Bounds FormError) (error : FormError) → IsErrAnd r (λ x. x ≡ error)
          → IsCheckRefusal (field_check size_field scope e) error → IsCheckedAs values_of (search_attributes.reads scope e) r
      refused_size r error exits f =
          refused_exit_as values_of (search_attributes.reads scope e) r error exits
          (refused_beside links_field after_links scope e links error a
          (refused_beside depth_field after_depth scope e depth error b (refused_at_field size_field after_size scope e error f)))

      module _ (size : ℕ) (c : field_check size_field scope e (Ok size)) where
        pub refused_results : (r : Result Bounds FormError) (error : FormError) → IsErrAnd r (λ x. x ≡ error)
            → IsCheckRefusal (field_check result_field scope e) error → IsCheckedAs values_of (search_attributes.reads scope e) r
        refused_results r error exits f =
            refused_exit_as values_of (search_attributes.reads scope e) r error exits
            (refused_beside links_field after_links scope e links error a
            (refused_beside depth_field after_depth scope e depth error b
            (refused_beside size_field after_size scope e size error c
            (refused_at_field result_field (table_with kinds_field no_attributes) scope e error f))))

        module _ (results : Option Filter) (d : field_check result_field scope e (Ok results)) where
          pub refused_kinds : (r : Result Bounds FormError) (error : FormError) → IsErrAnd r (λ x. x ≡ error)
              → IsCheckRefusal (field_check kinds_field scope e) error → IsCheckedAs values_of (search_attributes.reads scope e) r
          refused_kinds r error exits f =
              refused_exit_as values_of (search_attributes.reads scope e) r error exits
              (refused_beside links_field after_links scope e links error a
              (refused_beside depth_field after_depth scope e depth error b
              (refused_beside size_field after_size scope e size error c
              (refused_beside result_field (table_with kinds_field no_attributes) scope e results error d
              (refused_alone kinds_field scope e error f)))))

          pub all_bounds : (kinds : List Kind) → field_check kinds_field scope e (Ok kinds)
              → search_attributes.reads scope e (Ok (both links (both depth (both size (both results (both kinds tt))))))
          all_bounds kinds f =
              found_beside links_field after_links scope e links (both depth (both size (both results (both kinds tt)))) a
              (found_beside depth_field after_depth scope e depth (both size (both results (both kinds tt))) b
              (found_beside size_field after_size scope e size (both results (both kinds tt)) c
              (found_beside result_field (table_with kinds_field no_attributes) scope e results (both kinds tt) d
              (found_alone kinds_field scope e kinds f))))

-- ---- 4. a search, after its attributes

module _ (allowed : List (List ℕ)) (scope : Scope) (e : Element) where
  pub refused_bounds : (error : FormError) → IsCheckRefusal (search_attributes.reads scope e) error
      → IsCheckRefusal (search_check allowed scope e) error
  refused_bounds (Named code) f = inl f
  refused_bounds NoMemory f = tt

  module _ (bounds : Bounds) (a : search_attributes.reads scope e (Ok (values_of bounds))) where
    abbrev from_bounds : Check Search
    from_bounds = check_then (start_check (element_parts e)) (λ start. pass (search_from start (values_of bounds)))

    pub refused_others : has_only allowed e ≡ false → search_check allowed scope e (Err Failure)
    refused_others is = inr (values_of bounds, a, refused_test from_bounds (has_only allowed e) Failure is)

    pub refused_start : (error : FormError) → has_only allowed e ≡ true → IsCheckRefusal (start_check (element_parts e)) error
        → IsCheckRefusal (search_check allowed scope e) error
    refused_start (Named code) is f =
        inr (values_of bounds, a, found_after from_bounds (has_only allowed e) Failure (Err code) is (inl f))
    refused_start NoMemory is f = tt

    pub whole_search : (start : Identifier) → has_only allowed e ≡ true → start_check (element_parts e) (Ok start)
        → search_check allowed scope e (Ok (search_from start (values_of bounds)))
    whole_search start is f = (
      values_of bounds,
      a,
      found_after from_bounds (has_only allowed e) Failure (Ok (search_from start (values_of bounds))) is (start, f, refl),
    )
