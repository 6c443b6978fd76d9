-- Whether the names of some attributes differ, one attribute at a time.
use Rattle.std.proofs.Common.{◌≡◌, ◌≢◌, ℕ, ◌+◌, ◌<◌, ◌≤◌, ◌-◌, zero, suc, Bool, true, false, List, [], ◌∷◌, ◌++◌, map, take, drop, length, get_or, length-drop, drop-cons, add-one, refl, ap, sym, ◌∙◌, subst, arith}
use Rattle.std.specs.Prelude.{◌↔◌, IsTrue, filter, is_none}
use Rattle.std.specs.List.{AllByRecursion, filter_map}
use Rattle.std.proofs.lemmas.List.{take_more, take_all}
use Rattle.ifmap_elem.specs.declared.elements.Attribute.{Attribute}
use Rattle.ifmap_elem.specs.declared.elements.Name.{Name}
use Rattle.ifmap_elem.specs.declared.tokens.Assignment.{Assignment}
use Rattle.ifmap_elem.specs.declared.tokens.Tag.{Tag}
use Rattle.ifmap_elem.specs.Scopes.{Scope, Binding, AllDiffer, AreAttributes, NamesElement, binding_of, bindings}
use Rattle.ifmap_elem.specs.laws.OneReading.{one_list_of_attributes}

abbrev pub names : List Attribute → List Name
names ts = map (λ t. t.name) ts

abbrev pub Lacks : Name → List Attribute → Type 0
Lacks name ts = AllByRecursion (λ n. name ≢ n) (names ts)

lacks_last : (name : Name) (ts : List Attribute) (t : Attribute) → Lacks name ts → name ≢ t.name → Lacks name (ts ++ t ∷ [])
lacks_last name [] t h n = (n, tt)
lacks_last name (u ∷ us) t h n = (h.0, lacks_last name us t h.1 n)

pub lacks_more : (name : Name) (ts : List Attribute) (i : ℕ) (t : Attribute) → i < length ts → t ≡ get_or ts i t → Lacks name (take i ts)
    → (t.name ≡ name → ⊥) → Lacks name (take (i + 1) ts)
lacks_more name ts i t l is h n =
    subst (λ (us : List Attribute). Lacks name us) (sym (take_more ts i t l ∙ ap (λ (u : Attribute). take i ts ++ u ∷ []) (sym is)))
    (lacks_last name (take i ts) t h (λ e. n (sym e)))

pub lacks_all : (name : Name) (ts : List Attribute) (i : ℕ) → length ts ≤ i → Lacks name (take i ts) → Lacks name ts
lacks_all name ts i l h = subst (λ (us : List Attribute). Lacks name us) (take_all i ts l) h

lacks_at : (name : Name) (ts : List Attribute) (i : ℕ) (d : Attribute) → i < length ts → Lacks name ts → name ≢ (get_or ts i d).name
lacks_at name [] i d l h e = absurd (omega arith)
lacks_at name (t ∷ ts) zero d l h e = h.0 e
lacks_at name (t ∷ ts) (suc i) d l h e = lacks_at name ts i d (omega arith) h.1 e

pub not_lacking : (name : Name) (ts : List Attribute) (i : ℕ) (t : Attribute) → i < length ts → t ≡ get_or ts i t → t.name ≡ name
    → Lacks name ts → ⊥
not_lacking name ts i t l is e h = lacks_at name ts i t l h (sym e ∙ ap (λ (u : Attribute). u.name) is)

-- all names differ exactly where those from this index on do
abbrev pub Onwards : List Attribute → ℕ → Type 0
Onwards ts i = AllDiffer (names ts) ↔ AllDiffer (names (drop i ts))

pub drop_gives_next : (ts : List Attribute) (i : ℕ) (d : Attribute) → i < length ts → drop i ts ≡ get_or ts i d ∷ drop (i + 1) ts
drop_gives_next ts i d l = drop-cons ts i d l ∙ ap (λ (n : ℕ). get_or ts i d ∷ drop n ts) (sym (add-one i))

pub onwards_next : (ts : List Attribute) (i : ℕ) (d : Attribute) → i < length ts → Lacks (get_or ts i d).name (drop (i + 1) ts)
    → Onwards ts i → Onwards ts (i + 1)
onwards_next ts i d l h at = (
  λ a. (subst (λ (us : List Attribute). AllDiffer (names us)) (drop_gives_next ts i d l) (at.0 a)).1,
  λ a. at.1 (subst (λ (us : List Attribute). AllDiffer (names us)) (sym (drop_gives_next ts i d l)) (h, a)),
)

pub onwards_not : (ts : List Attribute) (i : ℕ) (d : Attribute) → i < length ts → (Lacks (get_or ts i d).name (drop (i + 1) ts) → ⊥)
    → Onwards ts i → AllDiffer (names ts) → ⊥
onwards_not ts i d l h at a = h (subst (λ (us : List Attribute). AllDiffer (names us)) (drop_gives_next ts i d l) (at.0 a)).0

drop_none : (i : ℕ) → drop {A = Attribute} i [] ≡ []
drop_none zero = refl
drop_none (suc i) = refl

onwards_end : (ts : List Attribute) (i : ℕ) → length ts ≤ i → AllDiffer (names (drop i ts))
onwards_end [] i l = subst (λ (us : List Attribute). AllDiffer (names us)) (sym (drop_none i)) tt
onwards_end (t ∷ ts) zero l = absurd (omega arith)
onwards_end (t ∷ ts) (suc i) l = onwards_end ts i (omega arith)

pub onwards_all : (ts : List Attribute) (i : ℕ) → length ts ≤ i → Onwards ts i → AllDiffer (names ts)
onwards_all ts i l at = at.1 (onwards_end ts i l)

-- the slice after an index
pub after_is : (ts : List Attribute) (n : ℕ) → take (length ts - n) (drop n ts) ≡ drop n ts
after_is ts n = take_all (length ts - n) (drop n ts) (omega (arith, length-drop n ts))

-- where some names are one, the tag is not allowed
pub no_names : (outer : Scope) (tag : Tag) (bs : List Binding) (given : List Assignment) (made shown : List Attribute) (differ : Bool)
    → bs ≡ filter_map binding_of given → given ≡ tag.assignments
    → AreAttributes (bs ++ outer) (filter (λ a. is_none (binding_of a)) tag.assignments) made → shown ≡ made
    → (IsTrue differ ↔ AllDiffer (names shown)) → differ ≡ false
    → (name : Name) (attributes : List Attribute) → NamesElement outer tag name attributes → ⊥
no_names outer tag bs given made shown differ bound is are same tells fails name attributes h =
    let scope : bs ++ outer ≡ bindings tag ++ outer = ap (λ xs. xs ++ outer) (bound ∙ ap (filter_map binding_of) is) in
    let one : attributes ≡ made = one_list_of_attributes (bindings tag ++ outer)
    (filter (λ a. is_none (binding_of a)) tag.assignments) attributes made h.attributes_are
    (subst (λ (s : Scope). AreAttributes s (filter (λ a. is_none (binding_of a)) tag.assignments) made) scope are) in
    let k : differ ≡ true = tells.1 (subst (λ (ts : List Attribute). AllDiffer (names ts)) (one ∙ sym same) h.names_differ) in
    cc
