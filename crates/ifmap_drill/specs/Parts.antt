-- What the requests of a drill are made of.
use Rattle.std.specs.Prelude.{ℕ, ◌+◌, ◌/◌, ◌%◌, [], ◌∷◌, codes, unwrap_or}
use Rattle.rand_pcg.specs.Lcg.{Lcg}
use Rattle.rand_pcg.specs.Pcg.{pcg64}
use Rattle.ifmap_elem.specs.Building.{bare_attribute}
use Rattle.ifmap_elem.specs.declared.elements.Element.{Element}
use Rattle.ifmap_ident.specs.Items.{pair_of}
use Rattle.ifmap_ident.specs.declared.identifiers.Identifier.{Identifier}
use Rattle.ifmap_ident.specs.declared.identifiers.Identifier.TheVariants.{MacAddress}
use Rattle.ifmap_ident.specs.declared.items.Item.{Item}
use Rattle.ifmap_ident.specs.declared.items.Item.TheVariants.{One}
use Rattle.ifmap_meta.specs.declared.metadata.Cardinality.TheVariants.{Single}
use Rattle.ifmap_meta.specs.declared.metadata.Metadata.{Metadata}
use Rattle.ifmap_drill.specs.declared.parts.AddressPair.{AddressPair}
use Rattle.ifmap_drill.specs.Extent.{address_count, most_apart}

-- the MAC address of a number below 1,000: 00:00:5e:00, and the number in two bytes
abbrev pub address : ℕ → Identifier
address number = MacAddress (0 ∷ (0 ∷ (0x5e ∷ (0 ∷ (number / 256 ∷ (number % 256 ∷ [])))))) []

-- the numbers of the ends of a link by two draws, and the generator after them
abbrev pub draw_ends : Lcg → AddressPair × Lcg
draw_ends draws =
    let one = pcg64 draws in
    let other = pcg64 one.1 in (
      record {
        first = one.0 % address_count;
        second = (one.0 % address_count + 1 + other.0 % most_apart) % address_count;
      },
      other.1,
    )

-- the link between two addresses; the ends that are drawn differ, so that they have one
abbrev pub link_of : AddressPair → Item
link_of ends = unwrap_or (pair_of (address ends.first) (address ends.second)) (One (address ends.first))

-- the element that links carry: the empty element `link` in this project's own namespace, of which each link has one at most
abbrev pub link_element : Element
link_element = record {
  name = record { space = codes "urn:mapd:drill"; local = codes "link" };
  attributes = bare_attribute (codes "ifmap-cardinality") (codes "singleValue") ∷ [];
  children = [];
}

abbrev pub link_metadata : Metadata
link_metadata = record { element = link_element; cardinality = Single }
