-- Texts as lists of bytes: their equality and order, and ASCII in UTF-8.
use Rattle.std.proofs.Common.{◌≡◌, ℕ, ◌<◌, Bool, true, false, not, List, [], ◌∷◌, ◌++◌, refl, ap, sym, ◌∙◌, arith, ◌≢◌, ◌^◌, Result, Ok}
use Rattle.std.specs.Prelude.{nat_le, encode_utf8_all}
use Rattle.std.specs.Cmp.{tied_itself}
use Rattle.std.specs.Cmp.Lexicographic.{nat_list_cmp_total, slice_cmp, texts_ties}
use Rattle.std.specs.List.{AllByRecursion}
use Rattle.std.specs.Ordering.{nat_cmp, is_eq, ordering_reverse}
use Rattle.std.specs.Str.{bytes_eq}
use Rattle.std.specs.declared.cmp.Ordering.TheVariants.{Less, Equal, Greater}
use Rattle.std.proofs.lemmas.Bool.{not-true, both_ways, false_from_ne_true}
use Rattle.std.proofs.lemmas.Bool.Decides.{nat_tests}
use Rattle.std.proofs.lemmas.Slice.Eq.{bytes_eq-Decides}
use Rattle.std.proofs.lemmas.Str.{encode_ascii}
use Rattle.std.proofs.lemmas.Fmt.{parse-decimal}
use Rattle.std.specs.Fmt.{decimal}
use Rattle.std.specs.Str.Parse.{ParsesUnsigned}

pub eq_tells : (x y : List ℕ) → bytes_eq x y ≡ true → x ≡ y
eq_tells x y = (bytes_eq-Decides x y).0

pub eq_itself : (x : List ℕ) → bytes_eq x x ≡ true
eq_itself x = (bytes_eq-Decides x x).1 refl

pub same_texts : (xs ys : List ℕ) → slice_cmp nat_cmp xs ys ≡ Equal → xs ≡ ys
same_texts xs ys e = eq_tells xs ys (texts_ties xs ys ∙ ap is_eq e)

abbrev pub is_ascii : ℕ → Bool
is_ascii b = not (nat_le 128 b)

pub ascii_encoded : (xs : List ℕ) → AllByRecursion (λ n. is_ascii n ≡ true) xs → encode_utf8_all xs ≡ xs
ascii_encoded [] f = refl
ascii_encoded (b ∷ bs) f = (λ i. encode_ascii b (low b f.0) i ++ ascii_encoded bs f.1 i)
  where
    low : (b : ℕ) → is_ascii b ≡ true → b < 128
    low b h = let g : nat_le 128 b ≡ false = not-true (nat_le 128 b) h in grind (arith, nat_tests)

-- a text compares as equal to itself
pub slice_cmp-same : (xs ys : List ℕ) → xs ≡ ys → slice_cmp nat_cmp xs ys ≡ Equal
slice_cmp-same xs ys e = ap (slice_cmp nat_cmp xs) (sym e) ∙ tied_itself nat_list_cmp_total xs

-- and to no other
pub slice_cmp-equal : (xs ys : List ℕ) → Equal ≡ slice_cmp nat_cmp xs ys → xs ≡ ys
slice_cmp-equal xs ys e = same_texts xs ys (sym e)

pub slice_cmp-less : (xs ys : List ℕ) → Less ≡ slice_cmp nat_cmp xs ys → xs ≡ ys → true ≡ false
slice_cmp-less xs ys e s = let same = slice_cmp-same xs ys s in cc

pub slice_cmp-greater : (xs ys : List ℕ) → Greater ≡ slice_cmp nat_cmp xs ys → xs ≡ ys → true ≡ false
slice_cmp-greater xs ys e s = let same = slice_cmp-same xs ys s in cc

-- the greater one stands after the other
pub slice_cmp-turn : (xs ys : List ℕ) → Greater ≡ slice_cmp nat_cmp xs ys → slice_cmp nat_cmp ys xs ≡ Less
slice_cmp-turn xs ys e = nat_list_cmp_total.antisymm ys xs ∙ ap ordering_reverse (sym e)

pub differs : (a b : List ℕ) (r : Bool) → r ≡ bytes_eq a b → r ≡ false → a ≢ b
differs a b r e f same = both_ways r f (e ∙ (bytes_eq-Decides a b).1 same)

pub parses : {E : Type 0} (n : ℕ) (text : List ℕ) (r : Result ℕ E) → ParsesUnsigned 64 10 text r → n < 2 ^ 64 → text ≡ decimal n → r ≡ Ok n
parses n text r p small e = parse-decimal 64 n text r small small e p

pub bytes_apart : (x y : List ℕ) → bytes_eq x y ≡ false → bytes_eq y x ≡ false
bytes_apart x y e =
    false_from_ne_true (bytes_eq y x) (λ h. let k : bytes_eq x y ≡ true = (bytes_eq-Decides x y).1 (sym (eq_tells y x h)) in cc)
