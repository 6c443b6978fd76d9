-- How an open element knows the innermost one that binds a prefix.
use Rattle.std.proofs.Common.{◌≡◌, ℕ, ◌<◌, ◌≤◌, ◌+◌, ◌-◌, suc, List, [], ◌∷◌, ◌++◌, length, reverse, take, drop, get_or, refl, ap, sym, ◌∙◌, subst, arith, inl, inr}
use Rattle.std.proofs.Math.Seq.{drop-append_seam}
use Rattle.std.proofs.lemmas.List.{reverse-append, take_all, length-drop, length-reverse, length-take, take-append-drop, take-append-le}
use Rattle.ifmap_elem.specs.Scopes.{Binding}
use Rattle.ifmap_reader.specs.declared.open_elements.OpenElement.{OpenElement}
use Rattle.ifmap_reader.proofs.Lookups.{element_before}
use Rattle.ifmap_reader.specs.OpenElements.{AreLinked, CountsBindings, scope_of}

-- an element that binds nothing reaches as far as the one round it
pub reaches_outer : (bindings : List Binding) (f : OpenElement) (fs : List OpenElement) → bindings ≡ [] → AreLinked (f ∷ fs)
    → CountsBindings bindings f.declaring (f ∷ fs)
reaches_outer bindings f fs none l = inr (elim l.0 [
  | inl e ↦ record {
    within = omega (arith, e);
    none = none;
    same = ap (λ n. scope_of (drop n (f ∷ fs))) (whole e);
  }
  | inr h ↦ record {
    within = omega (arith, h.within);
    none = none;
    same = ap (λ n. scope_of (drop n (f ∷ fs))) (further h.within) ∙ h.same ∙ ap (λ bs. bs ++ scope_of fs) (sym h.none);
  }
])
  where
    whole : f.declaring ≡ length fs + 1 → length (f ∷ fs) - f.declaring ≡ 0
    whole e = omega (arith, e)

    further : f.declaring ≤ length fs → length (f ∷ fs) - f.declaring ≡ suc (length fs - f.declaring)
    further l = omega (arith, l)

pub reaches_none : (bindings : List Binding) → bindings ≡ [] → CountsBindings bindings 0 []
reaches_none bindings none = inr (record { within = omega arith; none = none; same = refl })

pub last_reaches : (bindings : List Binding) (xs : List OpenElement) (f : OpenElement) (n : ℕ) → 0 < n → n ≡ length xs
    → f ≡ get_or xs (n - 1) f → bindings ≡ [] → AreLinked (reverse xs)
    → CountsBindings bindings f.declaring (reverse xs)
last_reaches bindings xs f n some end is none l =
    let last : reverse xs ≡ f ∷ reverse (take (n - 1) xs) = ap reverse (sym (take_all n xs (omega (arith, end))))
    ∙ element_before xs n f some (omega (arith, end)) is in
    subst (CountsBindings bindings f.declaring) (sym last) (reaches_outer bindings f (reverse (take (n - 1) xs)) none (subst AreLinked
    last l))

pub none_reaches : (bindings : List Binding) (xs : List OpenElement) → length xs ≡ 0 → bindings ≡ []
    → CountsBindings bindings 0 (reverse xs)
none_reaches bindings [] e none = reaches_none bindings none
none_reaches bindings (x ∷ xs) e none = absurd (omega (arith, e))

pub linked_tail : (xs ys : List OpenElement) → AreLinked (xs ++ ys) → AreLinked ys
linked_tail [] ys l = l
linked_tail (x ∷ xs) ys l = linked_tail xs ys l.1

reverse_in_parts : (xs : List OpenElement) (n : ℕ) → reverse xs ≡ reverse (drop n xs) ++ reverse (take n xs)
reverse_in_parts xs n = ap reverse (sym (take-append-drop n xs)) ∙ reverse-append (take n xs) (drop n xs)

pub linked_front : (xs : List OpenElement) (n : ℕ) → AreLinked (reverse xs) → AreLinked (reverse (take n xs))
linked_front xs n l = linked_tail (reverse (drop n xs)) (reverse (take n xs)) (subst AreLinked (reverse_in_parts xs n) l)

-- the outermost of some open elements
outermost : (xs : List OpenElement) (n m : ℕ) → n ≤ m → m ≤ length xs
    → drop (length (reverse (take m xs)) - n) (reverse (take m xs)) ≡ reverse (take n xs)
outermost xs n m l k =
    ap (λ c. drop c (reverse (take m xs))) count ∙ ap (drop (length (reverse (drop n (take m xs))))) (reverse_in_parts (take m xs) n)
    ∙ drop-append_seam (reverse (drop n (take m xs))) (reverse (take n (take m xs))) ∙ ap reverse front
  where
    count : length (reverse (take m xs)) - n ≡ length (reverse (drop n (take m xs)))
    count =
        let a = length-reverse (take m xs) in
        let b = length-reverse (drop n (take m xs)) in
        let c = length-drop n (take m xs) in
        omega (arith, a, b, c)

    front : take n (take m xs) ≡ take n xs
    front =
        let size = length-take m xs in
        sym (take-append-le n (take m xs) (drop m xs) (omega (arith, size, l, k))) ∙ ap (take n) (take-append-drop m xs)

pub reaches_back : (xs : List OpenElement) (n m : ℕ) (f : OpenElement) → 0 < m → m ≤ length xs → n < m
    → reverse (take m xs) ≡ f ∷ reverse (take (m - 1) xs) → f.declaring ≡ n → AreLinked (reverse xs)
    → scope_of (reverse (take n xs)) ≡ scope_of (reverse (take m xs))
reaches_back xs n m f some within less is reach l = elim linked.0 [
  | inl e ↦ absurd (let k = length-reverse (take (m - 1) xs) in let j = length-take (m - 1) xs in omega
      (arith, e, k, j, reach, less, within, some))
  | inr h ↦
      ap scope_of (sym (outermost xs n (m - 1) (omega (arith, less)) (omega (arith, within))))
      ∙ ap (λ c. scope_of (drop (length (reverse (take (m - 1) xs)) - c) (reverse (take (m - 1) xs)))) (sym reach) ∙ h.same
      ∙ ap (λ bs. bs ++ scope_of (reverse (take (m - 1) xs))) (sym h.none) ∙ ap scope_of (sym is)
]
  where
    linked : AreLinked (f ∷ reverse (take (m - 1) xs))
    linked = subst AreLinked is (linked_front xs m l)
