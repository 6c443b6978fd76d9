-- The element of a MAC address is one that a document can have, and is that identifier.
use Rattle.std.proofs.Common.{ℕ, ◌≤◌, List, [], ◌∷◌, length, refl, arith}
use Rattle.ifmap_addresses.specs.MacAddresses.{mac_address_text}
use Rattle.ifmap_addresses.specs.MacAddressLaws.{mac_address_length, mac_address_plain, mac_address_spelled}
use Rattle.ifmap_addresses.specs.Values.{AreBelow}
use Rattle.ifmap_ident.specs.declared.identifiers.Identifier.TheVariants.{MacAddress}
use Rattle.ifmap_ident.specs.Canon.{IsIdentifier, most_bytes}
use Rattle.ifmap_ident.specs.Identifiers.{identifier_bytes, identifier_element}
use Rattle.ifmap_ident.proofs.ElementLaws.{mac_fits}
use Rattle.ifmap_ident.proofs.SizeLaws.{mac_size}
use Rattle.ifmap_ident.proofs.ValueLaws.{address_characters}
use Rattle.ifmap_elem.specs.laws.CharacterLaws.{no_characters}

mac_within : (value : List ℕ) → AreBelow 256 6 value → length (identifier_bytes (MacAddress value [])) ≤ most_bytes
mac_within [] h = absurd (let q = h.number in omega arith)
mac_within (b ∷ bytes) h =
    let size = mac_size (b ∷ bytes) [] (mac_address_plain (b ∷ bytes) h.below) in
    let text = mac_address_length b bytes in
    let number = h.number in
    omega arith

pub mac_is_identifier : (value : List ℕ) → AreBelow 256 6 value → IsIdentifier (MacAddress value [])
mac_is_identifier value h = record {
  element = identifier_element (MacAddress value []);
  fit = mac_fits value [] (address_characters (mac_address_text value) (mac_address_plain value h.below)) no_characters;
  canon = record {
    meant = record {
      named = refl;
      attributes = refl;
      parts = record {
        children = refl;
        text = mac_address_text value;
        text_is = refl;
        means = mac_address_spelled value h;
        domain_is = refl;
      };
    };
    within = mac_within value h;
  };
}
