-- What prefixes are bound to where scopes stand one in another.
use Rattle.std.proofs.Common.{◌≡◌, ◌≢◌, ℕ, false, List, [], ◌∷◌, ◌++◌, map, reverse, refl, ap, sym, ◌∙◌, subst, append_assoc, inl, inr, cond}
use Rattle.std.specs.Prelude.{Some, None}
use Rattle.std.specs.List.{AllByRecursion}
use Rattle.std.specs.Str.{bytes_eq}
use Rattle.std.proofs.lemmas.Bool.{cases_Bool, false_from_ne_true}
use Rattle.std.proofs.lemmas.List.{reverse-append}
use Rattle.ifmap_lemmas.specs.Texts.{eq_tells}
use Rattle.ifmap_elem.specs.Scopes.{Scope, Binding, AllDiffer, prefix_space}

-- where an inner scope binds a prefix, that holds; where it does not, what holds round it
pub bound_inner : (inner outer : Scope) (p space : List ℕ) → prefix_space inner p ≡ Some space
    → prefix_space (inner ++ outer) p ≡ Some space
bound_inner [] outer p space h = cc
bound_inner (b ∷ bs) outer p space h = elim (cases_Bool (bytes_eq b.prefix p)) [
  | inl e ↦ rw e (rw e at h)
  | inr e ↦ rw e (bound_inner bs outer p space (rw e at h))
]

pub bound_outer : (inner outer : Scope) (p : List ℕ) → prefix_space inner p ≡ None → prefix_space (inner ++ outer) p ≡ prefix_space outer p
bound_outer [] outer p h = refl
bound_outer (b ∷ bs) outer p h = elim (cases_Bool (bytes_eq b.prefix p)) [
  | inl e ↦ let k : Some b.space ≡ None = rw e at h in cc
  | inr e ↦ rw e (bound_outer bs outer p (rw e at h))
]

-- what holds round a scope can change for another that binds the prefix so
pub bound_within : (inner one other : Scope) (p : List ℕ) → prefix_space one p ≡ prefix_space other p
    → prefix_space (inner ++ one) p ≡ prefix_space (inner ++ other) p
bound_within [] one other p h = h
bound_within (b ∷ bs) one other p h = ap (λ o. cond (bytes_eq b.prefix p) (Some b.space) o) (bound_within bs one other p h)

abbrev binding_prefix : Binding → List ℕ
binding_prefix b = b.prefix

not_bound : (bs : List Binding) (p : List ℕ) → AllByRecursion (λ q. p ≢ q) (map binding_prefix bs) → prefix_space bs p ≡ None
not_bound [] p f = refl
not_bound (b ∷ bs) p f =
    let other : bytes_eq b.prefix p ≡ false = false_from_ne_true (bytes_eq b.prefix p) (λ t. f.0 (sym (eq_tells b.prefix p t))) in
    rw other (not_bound bs p f.1)

-- a binding of another prefix than those of the others can stand before or after them
moved_in : (b : Binding) (bs outer : Scope) (p : List ℕ) → AllByRecursion (λ q. b.prefix ≢ q) (map binding_prefix bs)
    → prefix_space (bs ++ (b ∷ outer)) p ≡ prefix_space (b ∷ (bs ++ outer)) p
moved_in b bs outer p f = elim (cases_Bool (bytes_eq b.prefix p)) [
  | inl e ↦
      let none : prefix_space bs p ≡ None = subst (λ q. prefix_space bs q ≡ None) (eq_tells b.prefix p e) (not_bound bs b.prefix f) in
      bound_outer bs (b ∷ outer) p none ∙ rw e refl
  | inr e ↦
      let same : prefix_space (b ∷ outer) p ≡ prefix_space outer p = rw e refl in
      bound_within bs (b ∷ outer) outer p same ∙ rw e refl
]

-- the order of bindings does not matter where their prefixes differ
pub bound_reversed : (bs outer : Scope) (p : List ℕ) → AllDiffer (map binding_prefix bs)
    → prefix_space (reverse bs ++ outer) p ≡ prefix_space (bs ++ outer) p
bound_reversed [] outer p d = refl
bound_reversed (b ∷ bs) outer p d =
    ap (λ l. prefix_space (l ++ outer) p) (reverse-append (b ∷ []) bs)
    ∙ ap (λ l. prefix_space l p) (append_assoc (reverse bs) (b ∷ []) outer)
    ∙ bound_reversed bs (b ∷ outer) p d.1 ∙ moved_in b bs outer p d.0
