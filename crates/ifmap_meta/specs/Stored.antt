-- Elements as they are stored.
use Rattle.std.specs.Prelude.{ℕ, List}
use Rattle.ifmap_elem.specs.declared.elements.Element.{Element}
use Rattle.ifmap_meta.specs.declared.stored.Life.{Life}
use Rattle.ifmap_meta.specs.declared.stored.Stored.{Stored}
use Rattle.ifmap_meta.specs.Stamps.{stamp}

-- what is stored of an element that this publisher publishes at that moment, for that life
abbrev pub stored_as : Element → List ℕ → ℕ → Life → Stored
stored_as e publisher moment life = record { element = stamp publisher moment e; publisher = publisher; life = life }
