-- Wherever a reader stands, some document goes on from there.
use Rattle.std.proofs.Common.{false, List, [], ◌∷◌, refl}
use Rattle.std.specs.Prelude.{codes}
use Rattle.ifmap_elem.specs.declared.readings.Reading.{Reading}
use Rattle.ifmap_elem.specs.declared.tokens.Tag.{Tag}
use Rattle.ifmap_elem.specs.declared.tokens.Token.{Token}
use Rattle.ifmap_elem.specs.declared.tokens.Token.TheVariants.{Empty, End}
use Rattle.ifmap_elem.specs.Scopes.{root_scope}
use Rattle.ifmap_elem.specs.Document as piece
use Rattle.ifmap_elem.specs.Document.{Nothing, IsElement}
use Rattle.ifmap_elem.specs.laws.Roots.{begins_root}
use Rattle.ifmap_reader.specs.declared.open_elements.OpenElement.{OpenElement}
use Rattle.ifmap_reader.specs.OpenElements.{with_inner, written_name}
use Rattle.ifmap_reader.specs.Progress.{Where, AtStart, Within, AfterRoot, Closing, IsDocumentFrom}
use Rattle.ifmap_reader.proofs.Items.{closed_of}

-- `<a/>`
abbrev some_tag : Tag
some_tag = record { name = record { prefix = []; local = codes "a" }; assignments = [] }

abbrev some_reading : Reading
some_reading = record { root = record { name = record { space = []; local = codes "a" }; attributes = []; children = [] }; declared = [] }

some_element : IsElement root_scope some_tag [] some_reading.root some_reading.declared
some_element = record {
  named = record { binds = tt; binds_once = tt; space_is = refl; local_is = refl; attributes_are = tt; names_differ = tt };
  children_are = refl;
  declared_are = refl;
}

abbrev pub SomeWay : Where → Type 0
SomeWay w = (ts : List Token) × ((r : Reading) × IsDocumentFrom w ts r)

some_closing : (f : OpenElement) (fs : List OpenElement) → (ts : List Token) × ((r : Reading) × Closing f fs ts r)
some_closing f [] =
    let end = closed_of f in (
      End (written_name f) ∷ [],
      (
        record { root = end.0; declared = end.1.0 },
        record {
          inside = Nothing;
          rest = [];
          items = [];
          element = end.0;
          declared = end.1.0;
          tokens_are = refl;
          means = refl;
          closes = end.1.1;
          goes_on = record { after = Nothing; tokens_are = refl; margin = tt; same = refl };
        },
      ),
    )
some_closing f (g ∷ gs) =
    let end = closed_of f in
    let outer = some_closing (with_inner g end.0 end.1.0) gs in (
      End (written_name f) ∷ outer.0,
      (
        outer.1.0,
        record {
          inside = Nothing;
          rest = outer.0;
          items = [];
          element = end.0;
          declared = end.1.0;
          tokens_are = refl;
          means = refl;
          closes = end.1.1;
          goes_on = outer.1.1;
        },
      ),
    )

pub some_way : (w : Where) → SomeWay w
some_way AtStart = (
  Empty some_tag ∷ [],
  (
    some_reading,
    record {
      declared = false;
      pieces = piece.Empty some_tag Nothing;
      tokens_are = refl;
      rooted = begins_root (piece.Empty some_tag Nothing) some_reading (some_element, tt);
    },
  ),
)
some_way (Within []) =
    (Empty some_tag ∷ [], (some_reading, record { pieces = piece.Empty some_tag Nothing; tokens_are = refl; rooted = (some_element, tt) }))
some_way (Within (f ∷ fs)) = some_closing f fs
some_way (AfterRoot root) = ([], (root, record { after = Nothing; tokens_are = refl; margin = tt; same = refl }))
