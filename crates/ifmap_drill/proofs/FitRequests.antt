-- The requests of a drill are fit and within the bounds of what can be read.
use Rattle.std.proofs.Common.{◌≡◌, ℕ, ◌<◌, ◌*◌, ◌/◌, ◌%◌, List, [], ◌∷◌, codes, refl, sym, arith}
use Rattle.std.specs.Prelude.{unwrap_or}
use Rattle.std.specs.declared.cmp.Ordering.{Ordering}
use Rattle.std.specs.declared.cmp.Ordering.TheVariants.{Less, Equal, Greater}
use Rattle.rand_pcg.specs.Lcg.{Lcg}
use Rattle.ifmap_ident.specs.ifmap_addresses.Values.{AreBelow}
use Rattle.ifmap_elem.specs.Chars.{IsCharacters}
use Rattle.ifmap_ident.specs.Canon.{IsIdentifier}
use Rattle.ifmap_ident.specs.Identifiers.{identifier_bytes, identifier_order}
use Rattle.ifmap_ident.specs.Items.{IsCanonItem, ordered_pair}
use Rattle.ifmap_ident.specs.declared.identifiers.Identifier.{Identifier}
use Rattle.ifmap_ident.specs.declared.identifiers.Identifier.TheVariants.{MacAddress}
use Rattle.ifmap_ident.specs.declared.items.Item.TheVariants.{One}
use Rattle.ifmap_lemmas.specs.Texts.{slice_cmp-turn}
use Rattle.ifmap_meta.specs.Whole.{IsMetadata}
use Rattle.ifmap_requests.specs.Fit.{IsFitRequest, IsFitSearch}
use Rattle.ifmap_writing.specs.Bounds.{IsBounded, IsBoundedSearch}
use Rattle.ifmap_drill.specs.declared.parts.AddressPair.{AddressPair}
use Rattle.ifmap_drill.specs.declared.tasks.Task.{Task}
use Rattle.ifmap_drill.specs.declared.tasks.Task.TheVariants.{Begin, Subscribe, Update, Delete, Search, Poll, Renew}
use Rattle.ifmap_drill.specs.Parts.{address, draw_ends, link_metadata, link_of}
use Rattle.ifmap_drill.specs.Requests.{request_by, drill_search}
use Rattle.ifmap_drill.proofs.LinkElements.{link_element_levels_within}
use Rattle.ifmap_elem.specs.laws.CharacterLaws.{plain_characters}

abbrev pub AddressesAreIdentifiers : Type 0
AddressesAreIdentifiers = (value : List ℕ) → AreBelow 256 6 value → IsIdentifier (MacAddress value [])

module _ (macs : AddressesAreIdentifiers) where
  pub address_is : (n : ℕ) → n < 1000 → IsIdentifier (address n)
  address_is n few =
      macs (0 ∷ (0 ∷ (0x5e ∷ (0 ∷ (n / 256 ∷ (n % 256 ∷ [])))))) (record {
        number = refl;
        below = (omega arith, (omega arith, (omega arith, (omega arith, (omega arith, (omega arith, tt))))));
      })

  link_by : (o : Ordering) (a b : Identifier) → identifier_order a b ≡ o → IsIdentifier a → IsIdentifier b
      → IsCanonItem (unwrap_or (ordered_pair o a b) (One a))
  link_by Less a b e i j = record { ordered = e; identifiers = (i, (j, tt)) }
  link_by Equal a b e i j = record { ordered = tt; identifiers = (i, tt) }
  link_by Greater a b e i j =
      record { ordered = slice_cmp-turn (identifier_bytes a) (identifier_bytes b) (sym e); identifiers = (j, (i, tt)) }

  link_fit : (ends : AddressPair) → ends.first < 1000 → ends.second < 1000 → IsCanonItem (link_of ends)
  link_fit ends first second =
      link_by (identifier_order (address ends.first) (address ends.second)) (address ends.first) (address ends.second) refl
      (address_is ends.first first) (address_is ends.second second)

  drawn_fit : (draws : Lcg) → IsCanonItem (link_of (draw_ends draws).0)
  drawn_fit draws = link_fit (draw_ends draws).0 (omega arith) (omega arith)

  search_fit : (client depth : ℕ) → client < 10 → IsFitSearch (drill_search client depth)
  search_fit client depth few =
      record { start = address_is (client * 100) (omega arith); match_links = tt; result_filter = tt }

  name_fit : IsCharacters (codes "s")
  name_fit = plain_characters (codes "s") (refl, tt)

  module _ (metadata : IsMetadata link_metadata) where
    pub request_fit : (task : Task) (client : ℕ) (session : List ℕ) (draws : Lcg) → client < 10 → IsCharacters session
        → IsFitRequest (request_by task client session draws).0
    request_fit Begin client session draws few fit = tt
    request_fit Subscribe client session draws few fit = (fit, ((name_fit, search_fit client 20 few), tt))
    request_fit Update client session draws few fit = (fit, ((drawn_fit draws, (metadata, tt)), tt))
    request_fit Delete client session draws few fit = (fit, ((drawn_fit draws, tt), tt))
    request_fit Search client session draws few fit = (fit, search_fit client 1 few)
    request_fit Poll client session draws few fit = fit
    request_fit Renew client session draws few fit = fit

search_bounded : (client depth : ℕ) → depth < 21 → IsBoundedSearch (drill_search client depth)
search_bounded client depth few = record { depth = omega arith; size = omega arith }

pub request_bounded : (task : Task) (client : ℕ) (session : List ℕ) (draws : Lcg) → IsBounded (request_by task client session draws).0
request_bounded Begin client session draws = tt
request_bounded Subscribe client session draws =
    ((record { some = omega arith; few = omega arith }, search_bounded client 20 (omega arith)), tt)
request_bounded Update client session draws = ((link_element_levels_within, tt), tt)
request_bounded Delete client session draws = (tt, tt)
request_bounded Search client session draws = search_bounded client 1 (omega arith)
request_bounded Poll client session draws = tt
request_bounded Renew client session draws = tt
