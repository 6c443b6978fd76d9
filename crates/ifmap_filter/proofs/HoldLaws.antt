-- What joined predicates hold of, by what their parts do.
use Rattle.std.proofs.Common.{◌≡◌, Bool, List, [], ◌∷◌, refl, ap, sym, ◌∙◌}
use Rattle.std.specs.Prelude.{◌&&◌, ◌||◌}
use Rattle.std.specs.List.{list_all, list_any}
use Rattle.ifmap_lemmas.specs.Runs.{all_mapped, any_mapped}
use Rattle.ifmap_elem.specs.declared.elements.Element.{Element}
use Rattle.ifmap_filter.specs.declared.filters.Predicate.{Predicate, And, Or, fold-roll-Predicate}
use Rattle.ifmap_filter.specs.declared.filters.Predicate.TheVariants.{rolls-And, rolls-Or}
use Rattle.ifmap_filter.specs.declared.filters.Predicate.TheOpen.{Predicate-F}
use Rattle.ifmap_filter.specs.Meets.{holds, holds_of}

pub holds_all : (e : Element) (parts : List Predicate) → holds e (And parts) ≡ list_all (holds e) parts
holds_all e parts =
    ap (holds e) (sym (rolls-And parts)) ∙ fold-roll-Predicate Bool (holds_of e) (Predicate-F.And parts) ∙ all_mapped (holds e) parts

pub holds_one : (e : Element) (parts : List Predicate) → holds e (Or parts) ≡ list_any (holds e) parts
holds_one e parts =
    ap (holds e) (sym (rolls-Or parts)) ∙ fold-roll-Predicate Bool (holds_of e) (Predicate-F.Or parts) ∙ any_mapped (holds e) parts
