-- The order of the texts of IPv4 addresses, number by number.
use Rattle.std.proofs.Common.{◌≡◌, ℕ, ◌<◌, List, [], ◌∷◌, ◌++◌, inl, inr, decimal, get_or, ap, sym, ◌∙◌, arith}
use Rattle.std.specs.Cmp.Lexicographic.{slice_cmp}
use Rattle.std.specs.List.{AllByRecursion}
use Rattle.std.specs.Ordering.{nat_cmp, ordering_then}
use Rattle.std.specs.declared.cmp.Ordering.{Ordering}
use Rattle.std.specs.Str.{byte}
use Rattle.ifmap_addresses.specs.DigitLaws.{decimal_digits}
use Rattle.ifmap_addresses.specs.IpV4.{ip_v4_text}
use Rattle.ifmap_addresses.specs.IpV4Laws.{dotted_parts}
use Rattle.ifmap_addresses.specs.Values.{IsDigit}
use Rattle.ifmap_lemmas.specs.Closing.{closed_below}
use Rattle.ifmap_lemmas.specs.Orderings.{then_then}

above_dot : (text : List ℕ) → AllByRecursion IsDigit text → AllByRecursion (λ b. byte "." < b) text
above_dot [] h = tt
above_dot (b ∷ bs) h = (digit_above b h.0, above_dot bs h.1)
  where
    digit_above : (b : ℕ) → IsDigit b → byte "." < b
    digit_above b (inl f) = omega arith
    digit_above b (inr f) = omega arith

-- a number, a dot, and what follows
number_first : (m n : ℕ) (x y : List ℕ) → m < 256 → n < 256
    → slice_cmp nat_cmp (decimal m ++ (byte "." ∷ x)) (decimal n ++ (byte "." ∷ y))
    ≡ ordering_then (slice_cmp nat_cmp (decimal m) (decimal n)) (slice_cmp nat_cmp x y)
number_first m n x y f g =
    closed_below (byte ".") (decimal m) (decimal n) x y
    (above_dot (decimal m) (decimal_digits m f)) (above_dot (decimal n) (decimal_digits n g))

abbrev number_order : ℕ → ℕ → Ordering
number_order m n = slice_cmp nat_cmp (decimal m) (decimal n)

pub dotted_order : (v w : List ℕ) → ((i : ℕ) → get_or v i 0 < 256) → ((i : ℕ) → get_or w i 0 < 256)
    → ordering_then (ordering_then (ordering_then (number_order (get_or v 0 0) (get_or w 0 0)) (number_order (get_or v 1 0) (get_or w 1 0)))
    (number_order (get_or v 2 0) (get_or w 2 0))) (number_order (get_or v 3 0) (get_or w 3 0))
    ≡ slice_cmp nat_cmp (ip_v4_text v) (ip_v4_text w)
dotted_order v w f g =
    let o = number_order (get_or v 0 0) (get_or w 0 0) in
    let p = number_order (get_or v 1 0) (get_or w 1 0) in
    let q = number_order (get_or v 2 0) (get_or w 2 0) in
    let r = number_order (get_or v 3 0) (get_or w 3 0) in
    sym (then_then (ordering_then o p) q r) ∙ sym (then_then o p (ordering_then q r))
    ∙ sym ((λ i. slice_cmp nat_cmp (dotted_parts (get_or v 0 0) (get_or v 1 0) (get_or v 2 0) (get_or v 3 0) i)
    (dotted_parts (get_or w 0 0) (get_or w 1 0) (get_or w 2 0) (get_or w 3 0) i))
    ∙ number_first (get_or v 0 0) (get_or w 0 0) _ _ (f 0) (g 0)
    ∙ ap (ordering_then o) (number_first (get_or v 1 0) (get_or w 1 0) _ _ (f 1) (g 1)
    ∙ ap (ordering_then p) (number_first (get_or v 2 0) (get_or w 2 0) _ _ (f 2) (g 2))))
