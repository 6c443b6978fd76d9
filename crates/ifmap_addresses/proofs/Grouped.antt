-- IPv6 groups as they are written, and the order of their texts, group by group.
use Rattle.std.proofs.Common.{◌≡◌, ◌≢◌, ℕ, zero, suc, ◌+◌, ◌-◌, ◌<◌, ◌≤◌, List, [], ◌∷◌, ◌++◌, length, take, drop, get_or, add-one, inl, inr, length-append, refl, ap, subst, sym, ◌∙◌, arith}
use Rattle.std.proofs.lemmas.List.{length-drop, take_all, drop-append-le}
use Rattle.std.proofs.lemmas.List.Sums.{sum_by-cons}
use Rattle.std.proofs.Math.Seq.{take-append_seam}
use Rattle.std.specs.Cmp.Lexicographic.{slice_cmp}
use Rattle.std.specs.List.{AllByRecursion, sum_by}
use Rattle.std.specs.Net.Text.{hex, leading_zero_digits}
use Rattle.std.specs.Ordering.{nat_cmp, ordering_then}
use Rattle.std.specs.declared.cmp.Ordering.{Ordering}
use Rattle.std.specs.Str.{byte}
use Rattle.ifmap_addresses.specs.DigitLaws.{hex_digits}
use Rattle.ifmap_addresses.specs.IpV6.{four_hex_digits, ip_v6_text}
use Rattle.ifmap_addresses.specs.Values.{IsDigit}
use Rattle.ifmap_lemmas.specs.Closing.{closed_apart}
use Rattle.ifmap_lemmas.specs.Orderings.{then_then}

-- ---- what is left of a group's digits and the colon after them

pub hex_length : (n k : ℕ) → k ≡ leading_zero_digits n → 4 - k ≡ length (hex n)
unfolding hex
hex_length n k e = ap (λ j. 4 - j) e ∙ sym (length-drop (leading_zero_digits n) (four_hex_digits n))

-- of the digits of n and a colon, from the first that is written on
module _ (n k : ℕ) (digits : List ℕ) (is : digits ≡ four_hex_digits n ++ (byte ":" ∷ [])) (zeros : k ≡ leading_zero_digits n)
    (few : k < 4) where
  ends_in_colon : drop k digits ≡ hex n ++ (byte ":" ∷ [])
  unfolding hex
  ends_in_colon = ap (drop k) is ∙ drop-append-le k (four_hex_digits n) (byte ":" ∷ []) (omega arith)
      ∙ ap (λ j. drop j (four_hex_digits n) ++ (byte ":" ∷ [])) zeros

  pub closed_hex : take (5 - k) (drop k digits) ≡ hex n ++ (byte ":" ∷ [])
  closed_hex = take_all (5 - k) (drop k digits) (let all = length-drop k digits in let many = ap length is in omega arith) ∙ ends_in_colon

  pub bare_hex : take (4 - k) (drop k digits) ≡ hex n
  bare_hex = (λ i. take (hex_length n k zeros i) (ends_in_colon i)) ∙ take-append_seam (hex n) (byte ":" ∷ [])

-- ---- order

no_colon : (text : List ℕ) → AllByRecursion IsDigit text → AllByRecursion (λ b. b ≢ byte ":") text
no_colon [] h = tt
no_colon (b ∷ bs) h = (digit_apart b h.0, no_colon bs h.1)
  where
    digit_apart : (b : ℕ) → IsDigit b → b ≢ byte ":"
    digit_apart b (inl f) = λ e. omega arith
    digit_apart b (inr f) = λ e. omega arith

abbrev pub inner_order : ℕ → ℕ → Ordering
inner_order x y = slice_cmp nat_cmp (hex x ++ (byte ":" ∷ [])) (hex y ++ (byte ":" ∷ []))

-- a group, a colon, and what follows
group_first : (x y : ℕ) (s t : List ℕ) → x < 65536 → y < 65536
    → slice_cmp nat_cmp (hex x ++ (byte ":" ∷ s)) (hex y ++ (byte ":" ∷ t)) ≡ ordering_then (inner_order x y) (slice_cmp nat_cmp s t)
group_first x y s t f g =
    closed_apart (byte ":") (hex x) (hex y) s t (no_colon (hex x) (hex_digits x f)) (no_colon (hex y) (hex_digits y g))

abbrev text_order : List ℕ → List ℕ → Ordering
text_order v w = slice_cmp nat_cmp (ip_v6_text v) (ip_v6_text w)

-- the groups from the one at i on, which is not the last
pub groups_from : (i : ℕ) (v w : List ℕ) → i + 1 < length v → i + 1 < length w → ((k : ℕ) → get_or v k 0 < 65536) → ((k : ℕ)
    → get_or w k 0 < 65536)
    → text_order (drop i v) (drop i w) ≡ ordering_then (inner_order (get_or v i 0) (get_or w i 0)) (text_order (drop (suc i) v) (drop
    (suc i) w))
groups_from zero [] w h k f g = absurd (omega arith)
groups_from zero (a ∷ []) w h k f g = absurd (omega arith)
groups_from zero (a ∷ (b ∷ v)) [] h k f g = absurd (omega arith)
groups_from zero (a ∷ (b ∷ v)) (c ∷ []) h k f g = absurd (omega arith)
groups_from zero (a ∷ (b ∷ v)) (c ∷ (d ∷ w)) h k f g = group_first a c (ip_v6_text (b ∷ v)) (ip_v6_text (d ∷ w)) (f 0) (g 0)
groups_from (suc i) [] w h k f g = absurd (omega arith)
groups_from (suc i) (a ∷ v) [] h k f g = absurd (omega arith)
groups_from (suc i) (a ∷ v) (c ∷ w) h k f g = groups_from i v w (omega arith) (omega arith) (λ j. f (suc j)) (λ j. g (suc j))

-- the last group
pub group_last : (i : ℕ) (v : List ℕ) → i + 1 ≡ length v → ip_v6_text (drop i v) ≡ hex (get_or v i 0)
group_last zero [] h = absurd (omega arith)
group_last zero (a ∷ []) h = refl
group_last zero (a ∷ (b ∷ v)) h = absurd (omega arith)
group_last (suc i) [] h = absurd (omega arith)
group_last (suc i) (a ∷ v) h = group_last i v (omega arith)

-- one group more, which is not the last
pub one_group : (i : ℕ) (o : Ordering) (v w : List ℕ) → i < 7 → length v ≡ 8 → length w ≡ 8 → ((k : ℕ) → get_or v k 0 < 65536)
    → ((k : ℕ) → get_or w k 0 < 65536)
    → text_order v w ≡ ordering_then o (text_order (drop i v) (drop i w))
    → text_order v w ≡ ordering_then (ordering_then o (inner_order (get_or v i 0) (get_or w i 0))) (text_order (drop (i + 1) v) (drop
    (i + 1) w))
one_group i o v w h eight other_eight f g so_far =
    so_far ∙ ap (ordering_then o) (groups_from i v w (omega arith) (omega arith) f g
    ∙ (λ j. ordering_then (inner_order (get_or v i 0) (get_or w i 0)) (text_order (drop (sym (add-one i) j) v) (drop (sym
    (add-one i) j) w))))
    ∙ then_then o (inner_order (get_or v i 0) (get_or w i 0)) (text_order (drop (i + 1) v) (drop (i + 1) w))

-- and the last
pub all_groups : (o : Ordering) (v w : List ℕ) → length v ≡ 8 → length w ≡ 8
    → text_order v w ≡ ordering_then o (text_order (drop 7 v) (drop 7 w))
    → text_order v w ≡ ordering_then o (slice_cmp nat_cmp (hex (get_or v 7 0)) (hex (get_or w 7 0)))
all_groups o v w eight other_eight so_far =
    so_far ∙ ap (ordering_then o) (λ i. slice_cmp nat_cmp (group_last 7 v (omega arith) i) (group_last 7 w (omega arith) i))

-- ---- length

groups_length : (x : ℕ) (xs : List ℕ) → length (ip_v6_text (x ∷ xs)) ≡ sum_by (λ g. length (hex g)) (x ∷ xs) + length xs
groups_length x [] = omega arith
groups_length x (y ∷ ys) =
    let rest = groups_length y ys in
    let whole = length-append (hex x) (byte ":" ∷ ip_v6_text (y ∷ ys)) in
    let sums = sum_by-cons (λ g. length (hex g)) x (y ∷ ys) in
    omega arith

pub eight_groups_length : (value : List ℕ) → length value ≡ 8 → length (ip_v6_text value) ≡ 7 + sum_by (λ g. length (hex g)) value
eight_groups_length [] e = absurd (omega arith)
eight_groups_length (x ∷ xs) e = let whole = groups_length x xs in omega arith

-- ---- digits as characters

below_ascii : (text : List ℕ) → AllByRecursion IsDigit text → (i : ℕ) → get_or text i 0 < 128
below_ascii [] h i = omega arith
below_ascii (b ∷ bs) h i = elim i as (λ j. get_or (b ∷ bs) j 0 < 128) [ zero ↦ digit_below b h.0 | suc j ↦ below_ascii bs h.1 j ]
  where
    digit_below : (b : ℕ) → IsDigit b → b < 128
    digit_below b (inl f) = omega arith
    digit_below b (inr f) = omega arith

pub hex_is_ascii : (n : ℕ) (text : List ℕ) → n < 65536 → text ≡ hex n → (i : ℕ) → get_or text i 0 < 128
hex_is_ascii n text h is i = subst (λ t. get_or t i 0 < 128) (sym is) (below_ascii (hex n) (hex_digits n h) i)
