-- Names in no namespace, by their local parts.
use Rattle.std.proofs.Common.{◌≡◌, ℕ, Bool, true, false, List, [], subst}
use Rattle.std.proofs.lemmas.Bool.{and_parts}
use Rattle.std.specs.Str.{bytes_eq}
use Rattle.ifmap_elem.specs.Building.{bare_name, is_bare}
use Rattle.ifmap_elem.specs.declared.elements.Name.{Name}
use Rattle.ifmap_lemmas.specs.Texts.{eq_itself, eq_tells}

-- a name in no namespace, by its local part
pub bare_tells : (local : List ℕ) (name : Name) → is_bare local name ≡ true → name ≡ bare_name local
bare_tells local name h =
    let parts = and_parts (bytes_eq name.space []) (bytes_eq name.local local) h in
    let space : name.space ≡ [] = eq_tells name.space [] parts.0 in
    let part : name.local ≡ local = eq_tells name.local local parts.1 in
    λ i. record { space = space i; local = part i }

pub bare_itself : (local : List ℕ) → is_bare local (bare_name local) ≡ true
bare_itself local = eq_itself local

pub other_name : (local : List ℕ) (name : Name) → is_bare local name ≡ false → name ≡ bare_name local → ⊥
other_name local name differs same =
    let P : Name → Type 0 = λ n. is_bare local n ≡ false in let f : is_bare local (bare_name local) ≡ false = subst P same differs in
    let t : is_bare local (bare_name local) ≡ true = bare_itself local in cc
