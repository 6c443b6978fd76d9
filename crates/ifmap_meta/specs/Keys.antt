-- Which stored elements take each other's place on an item (IF-MAP binding for SOAP, version 2.2: `singleValue`
-- and `multiValue`, and IF-MAP Metadata for Network Security, version 1.1, whose elements say one of them).
use Rattle.std.specs.Prelude.{◌≡◌, ◌⊎◌, ℕ, List, [], Bool, cond, IsTrue, ◌&&◌, ◌||◌}
use Rattle.std.specs.Str.{bytes_eq}
use Rattle.std.proofs.Math.Bool.{beq}
use Rattle.ifmap_elem.specs.declared.elements.Element.{Element}
use Rattle.ifmap_elem.specs.Canonical.{canonical_bytes}
use Rattle.ifmap_meta.specs.declared.stored.Stored.{Stored}
use Rattle.ifmap_meta.specs.Cardinality.{is_single}
use Rattle.ifmap_meta.specs.KeyWords.{end_part, key_word, mix_all}
use Rattle.ifmap_meta.specs.Stamps.{content_of}

-- the canonical bytes of an element's content
unfoldable pub content_bytes : Element → List ℕ
content_bytes e = canonical_bytes (content_of e)

-- of one type: one name and one cardinality
abbrev pub same_type : Element → Element → Bool
same_type a b = (bytes_eq a.name.space b.name.space && bytes_eq a.name.local b.name.local) && beq (is_single a) (is_single b)

-- under one key, on one item: of one type, and where there may be many, of one publisher and content
abbrev pub same_key : Stored → Stored → Bool
same_key a b = same_type a.element b.element && (is_single a.element ||
    (bytes_eq a.publisher b.publisher && bytes_eq (content_bytes a.element) (content_bytes b.element)))

-- the same of elements as they stand, without their bytes
abbrev pub HaveOneKey : Stored → Stored → Type 0
HaveOneKey a b = IsTrue (same_type a.element b.element) × (IsTrue (is_single a.element)
    ⊎ ((a.publisher ≡ b.publisher) × (content_of a.element ≡ content_of b.element)))

-- a number for each key: of the element's word, and where there may be many, of the publisher
unfoldable pub word_of : Stored → ℕ
word_of s = mix_all (key_word s.element) (cond (is_single s.element) [] (end_part s.publisher))
