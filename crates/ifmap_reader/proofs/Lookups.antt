-- The open elements up to an index, the innermost first.
use Rattle.std.proofs.Common.{◌≡◌, ℕ, ◌<◌, ◌≤◌, ◌+◌, ◌-◌, List, [], ◌∷◌, ◌++◌, length, reverse, take, get_or, ap, sym, ◌∙◌, arith}
use Rattle.std.proofs.lemmas.List.{reverse-append, take_more}
use Rattle.ifmap_reader.specs.declared.open_elements.OpenElement.{OpenElement}

pub element_last : (open_elements : List OpenElement) (i : ℕ) (f : OpenElement) → i < length open_elements → f ≡ get_or open_elements i f
    → reverse (take (i + 1) open_elements) ≡ f ∷ reverse (take i open_elements)
element_last open_elements i f l is =
    ap reverse (take_more open_elements i f l ∙ ap (λ (g : OpenElement). take i open_elements ++ g ∷ []) (sym is))
    ∙ reverse-append (take i open_elements) (f ∷ [])

pub element_before : (open_elements : List OpenElement) (n : ℕ) (f : OpenElement) → 0 < n → n ≤ length open_elements
    → f ≡ get_or open_elements (n - 1) f → reverse (take n open_elements) ≡ f ∷ reverse (take (n - 1) open_elements)
element_before open_elements n f some within is =
    let back : n - 1 + 1 ≡ n = omega arith in
    ap (λ (m : ℕ). reverse (take m open_elements)) (sym back) ∙ element_last open_elements (n - 1) f (omega arith) is
