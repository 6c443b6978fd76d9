-- Names of domains: the full stops at the end are cut, and a name that is kept is kept as it is.
use Rattle.std.proofs.Common.{◌≡◌, ◌≢◌, ℕ, ◌-◌, ◌==◌, ◌&&◌, Bool, true, false, cond, List, [], ◌∷◌, ◌++◌, map, length, take, Option, None, Some, IfSome, refl, sym, ◌∙◌, ap, arith, lit<}
use Rattle.std.specs.Prelude.{encode_utf8}
use Rattle.std.specs.Char.{to_ascii_lowercase}
use Rattle.std.specs.List.{list_all}
use Rattle.std.specs.Str.{byte}
use Rattle.std.specs.Str.Pattern.{CutsSuffixes, FindsCharSuffix, HasCharAt, IsTrimEndMatches}
use Rattle.std.proofs.lemmas.Bool.Decides.{nat_tests}
use Rattle.std.proofs.lemmas.Bool.{and_parts}
use Rattle.std.proofs.Math.Seq.{drop-length}
use Rattle.std.proofs.lemmas.List.{take-append-drop}
use Rattle.std.proofs.lemmas.Str.{encode_ascii}
use Rattle.ifmap_ident.specs.IdentityNames.{domain_name, without_last_dots}
use Rattle.ifmap_lemmas.specs.Numbers.{equal_numbers}
use Rattle.ifmap_lemmas.specs.Letters.{lower_again}

abbrev pub is_dot : ℕ → Bool
is_dot c = c == byte "."

-- ---- what is cut

all_last : (xs : List ℕ) → list_all is_dot (xs ++ byte "." ∷ []) ≡ list_all is_dot xs
all_last [] = refl
all_last (c ∷ xs) = ap (λ t. is_dot c && t) (all_last xs)

last_dot : (xs : List ℕ) → without_last_dots (xs ++ byte "." ∷ []) ≡ without_last_dots xs
last_dot [] = refl
last_dot (b ∷ xs) = λ i. cond (is_dot b && all_last xs i) [] (b ∷ last_dot xs i)

dots_end : (b : ℕ) (bs : List ℕ) → list_all is_dot (b ∷ bs) ≡ true → (front : List ℕ) × (b ∷ bs ≡ front ++ byte "." ∷ [])
dots_end b [] h = ([], ap (λ c. c ∷ []) (equal_numbers b (byte ".") (and_parts (is_dot b) true h).0))
dots_end b (c ∷ cs) h =
    let rest = dots_end c cs (and_parts (is_dot b) (list_all is_dot (c ∷ cs)) h).1 in
    (b ∷ rest.0, ap (λ ys. b ∷ ys) rest.1)

kept_by_case : (b : ℕ) (bs cut : List ℕ) (t : Bool) → list_all is_dot (b ∷ bs) ≡ t → (t ≡ true → ⊥) → cut ≡ bs
    → cond t [] (b ∷ cut) ≡ b ∷ bs
kept_by_case b bs cut true e differs same = absurd (differs refl)
kept_by_case b bs cut false e differs same = ap (λ ys. b ∷ ys) same

no_dot_kept : (xs : List ℕ) → ((front : List ℕ) → xs ≢ front ++ byte "." ∷ []) → without_last_dots xs ≡ xs
no_dot_kept [] f = refl
no_dot_kept (b ∷ bs) f =
    kept_by_case b bs (without_last_dots bs) (list_all is_dot (b ∷ bs)) refl
    (λ all. let d = dots_end b bs all in f d.0 d.1)
    (no_dot_kept bs (λ front e. f (b ∷ front) (ap (λ ys. b ∷ ys) e)))

pub dot_encoded : encode_utf8 (byte ".") ≡ byte "." ∷ []
dot_encoded = encode_ascii (byte ".") (lit< tt)

suffix_cut : (m : List ℕ) (n : ℕ) → HasCharAt (byte ".") m (length m - n) (length m) → m ≡ take (length m - n) m ++ byte "." ∷ []
suffix_cut m n at =
    sym (take-append-drop (length m - n) m)
    ∙ ap (λ ys. take (length m - n) m ++ ys) (at.split ∙ (λ i. dot_encoded i ++ drop-length m i))

cuts_alike : (ns : List ℕ) (s r : List ℕ) → CutsSuffixes (FindsCharSuffix (byte ".")) s ns r → without_last_dots s ≡ without_last_dots r
cuts_alike [] s r e = ap without_last_dots (sym e)
cuts_alike (n ∷ ns) s r c =
    cuts_alike ns s c.0 c.1 ∙ ap without_last_dots (suffix_cut c.0 n c.2.1) ∙ last_dot (take (length c.0 - n) c.0)
    ∙ ap without_last_dots (sym c.3)

dotless_stays : (r : List ℕ) (o : Option ℕ) → FindsCharSuffix (byte ".") r o → IfSome o (λ n. n ≡ 0) → without_last_dots r ≡ r
dotless_stays r None none zero = no_dot_kept r (λ front e. none front (e ∙ ap (λ d. front ++ d) (sym dot_encoded)))
dotless_stays r (Some n) some zero = absurd (let one : n ≡ 1 = some.0 in omega arith)

-- what the standard library cuts
pub trim_cuts : (s r : List ℕ) → IsTrimEndMatches (FindsCharSuffix (byte ".")) s r → r ≡ without_last_dots s
trim_cuts s r t = sym (cuts_alike t.0.0 s r t.0.1 ∙ dotless_stays r t.1.0 t.1.1 t.1.2)

-- ---- what is kept

lower_dot : (c : ℕ) → is_dot (to_ascii_lowercase c) ≡ is_dot c
lower_dot c = grind (arith, nat_tests)

all_lower : (xs : List ℕ) → list_all is_dot (map to_ascii_lowercase xs) ≡ list_all is_dot xs
all_lower [] = refl
all_lower (c ∷ xs) = λ i. lower_dot c i && all_lower xs i

lower_cond : (b : ℕ) (ys : List ℕ) (t : Bool)
    → cond t [] (to_ascii_lowercase b ∷ map to_ascii_lowercase ys) ≡ map to_ascii_lowercase (cond t [] (b ∷ ys))
lower_cond b ys true = refl
lower_cond b ys false = refl

lower_cut : (xs : List ℕ) → without_last_dots (map to_ascii_lowercase xs) ≡ map to_ascii_lowercase (without_last_dots xs)
lower_cut [] = refl
lower_cut (b ∷ bs) =
    (λ i. cond (lower_dot b i && all_lower bs i) [] (to_ascii_lowercase b ∷ lower_cut bs i))
    ∙ lower_cond b (without_last_dots bs) (list_all is_dot (b ∷ bs))

all_cond : (b : ℕ) (bs cut : List ℕ) (t : Bool) → list_all is_dot (b ∷ bs) ≡ t → list_all is_dot cut ≡ list_all is_dot bs
    → list_all is_dot (cond t [] (b ∷ cut)) ≡ t
all_cond b bs cut true e same = refl
all_cond b bs cut false e same = ap (λ t. is_dot b && t) same ∙ e

all_cut : (xs : List ℕ) → list_all is_dot (without_last_dots xs) ≡ list_all is_dot xs
all_cut [] = refl
all_cut (b ∷ bs) = all_cond b bs (without_last_dots bs) (list_all is_dot (b ∷ bs)) refl (all_cut bs)

again_cond : (b : ℕ) (bs cut : List ℕ) (t : Bool) → list_all is_dot (b ∷ bs) ≡ t → list_all is_dot cut ≡ list_all is_dot bs
    → without_last_dots cut ≡ cut → without_last_dots (cond t [] (b ∷ cut)) ≡ cond t [] (b ∷ cut)
again_cond b bs cut true e same again = refl
again_cond b bs cut false e same again = λ i. cond ((ap (λ t. is_dot b && t) same ∙ e) i) [] (b ∷ again i)

cut_again : (xs : List ℕ) → without_last_dots (without_last_dots xs) ≡ without_last_dots xs
cut_again [] = refl
cut_again (b ∷ bs) = again_cond b bs (without_last_dots bs) (list_all is_dot (b ∷ bs)) refl (all_cut bs) (cut_again bs)

-- a name that is kept is kept as it is
pub domain_again : (text : List ℕ) → domain_name (domain_name text) ≡ domain_name text
domain_again text =
    ap (map to_ascii_lowercase) (lower_cut (without_last_dots text))
    ∙ lower_again (without_last_dots (without_last_dots text))
    ∙ ap (map to_ascii_lowercase) (cut_again text)
