-- The attributes of requests as they are written.
use Rattle.std.specs.Prelude.{ℕ, Bool, true, false, List, [], ◌∷◌, ◌++◌, codes, Option, None, Some}
use Rattle.std.specs.List.{flat_map}
use Rattle.ifmap_lemmas.specs.Numerals.{numeral}
use Rattle.ifmap_elem.specs.Building.{bare_attribute}
use Rattle.ifmap_elem.specs.declared.elements.Attribute.{Attribute}
use Rattle.ifmap_filter.specs.declared.filters.Filter.{Filter}
use Rattle.ifmap_filter.specs.Printing.{filter_text, joined_texts}
use Rattle.ifmap_ident.specs.declared.kinds.Kind.{Kind}
use Rattle.ifmap_ident.specs.Kinds.{kind_name}
use Rattle.ifmap_search.specs.declared.searches.Search.{Search}

-- an attribute in no namespace by its name, with its value; it is left out where it has none
pub record NamedValue : Type 0 where
  pub local : List ℕ
  pub value : Option (List ℕ)

abbrev pub named_value : List ℕ → Option (List ℕ) → NamedValue
named_value local value = record { local = local; value = value }

abbrev pub written_attribute : List ℕ → Option (List ℕ) → List Attribute
written_attribute local None = []
written_attribute local (Some value) = bare_attribute local value ∷ []

abbrev pub attributes_of : List NamedValue → List Attribute
attributes_of values = flat_map (λ named. written_attribute named.local named.value) values

-- ---- values

abbrev pub number_value : ℕ → Option (List ℕ)
number_value n = Some (numeral n)

-- how large a poll's result may be, where it is said
abbrev pub limit_value : Option ℕ → Option (List ℕ)
limit_value None = None
limit_value (Some limit) = number_value limit

-- what is published stays, or it goes with the session, which is not said
abbrev pub lifetime_value : Bool → Option (List ℕ)
lifetime_value true = Some (codes "forever")
lifetime_value false = None

-- a filter, where there is one, in the prefixes `f1`, `f2` and so on of these namespaces
abbrev pub filter_value : List (List ℕ) → Option Filter → Option (List ℕ)
filter_value spaces None = None
filter_value spaces (Some filter) = Some (filter_text spaces filter)

-- kinds with commas between them, where there are some
abbrev pub kinds_value : List Kind → Option (List ℕ)
kinds_value [] = None
kinds_value (kind ∷ others) = Some (joined_texts (codes ",") kind_name (kind ∷ others))

-- ---- the attributes of the elements, in the order of their names

abbrev pub values_of_session : List ℕ → List NamedValue
values_of_session session = named_value (codes "session-id") (Some session) ∷ []

abbrev pub values_of_limit : Option ℕ → List NamedValue
values_of_limit limit = named_value (codes "max-poll-result-size") (limit_value limit) ∷ []

abbrev pub values_of_purge : List ℕ → List ℕ → List NamedValue
values_of_purge session publisher = named_value (codes "ifmap-publisher-id") (Some publisher) ∷ values_of_session session

abbrev pub values_of_lifetime : Bool → List NamedValue
values_of_lifetime forever = named_value (codes "lifetime") (lifetime_value forever) ∷ []

abbrev pub values_of_filter : List (List ℕ) → Option Filter → List NamedValue
values_of_filter spaces filter = named_value (codes "filter") (filter_value spaces filter) ∷ []

abbrev pub values_of_name : List ℕ → List NamedValue
values_of_name name = named_value (codes "name") (Some name) ∷ []

-- the filter of links and the bounds of a search; those of the walk and of the result are always said
abbrev pub values_of_bounds : List (List ℕ) → Search → List NamedValue
values_of_bounds spaces search =
    named_value (codes "match-links") (filter_value spaces search.match_links)
    ∷ (named_value (codes "max-depth") (number_value search.max_depth)
    ∷ (named_value (codes "max-size") (number_value search.max_size) ∷ []))

-- of a search in a session
abbrev pub values_of_search : List (List ℕ) → List ℕ → Search → List NamedValue
values_of_search spaces session search =
    values_of_bounds spaces search
    ++ (named_value (codes "result-filter") (filter_value spaces search.result_filter)
    ∷ (named_value (codes "session-id") (Some session)
    ∷ (named_value (codes "terminal-identifier-type") (kinds_value search.terminal) ∷ [])))

-- of a search under the name of a subscription
abbrev pub values_of_subscription : List (List ℕ) → List ℕ → Search → List NamedValue
values_of_subscription spaces name search =
    values_of_bounds spaces search
    ++ (named_value (codes "name") (Some name)
    ∷ (named_value (codes "result-filter") (filter_value spaces search.result_filter)
    ∷ (named_value (codes "terminal-identifier-type") (kinds_value search.terminal) ∷ [])))
