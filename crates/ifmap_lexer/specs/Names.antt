-- Bytes of names (XML 1.0, section 2.3, and Namespaces in XML 1.0, section 4).
use Rattle.std.specs.Prelude.{ℕ, Bool, ◌&&◌, nat_lt}
use Rattle.ifmap_elem.specs.Names.{is_name_character, is_name_start}

-- a character of ASCII that may begin a name part, or stand in it
abbrev pub starts_in_ascii : ℕ → Bool
starts_in_ascii b = nat_lt b 128 && is_name_start b

abbrev pub stands_in_ascii : ℕ → Bool
stands_in_ascii b = nat_lt b 128 && is_name_character b
