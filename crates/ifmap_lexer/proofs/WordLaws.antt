-- The first place of a word.
use Rattle.std.proofs.Common.{◌≡◌, ℕ, zero, suc, ◌+◌, ◌-◌, ◌<◌, ◌≤◌, Bool, true, false, List, [], ◌∷◌, ◌++◌, length, get_or, take, drop}
use Rattle.std.proofs.Common.{refl, ap, sym, ◌∙◌, subst, arith, append_assoc, length-append}
use Rattle.std.specs.Prelude.{◌==◌, codes, nat_eq}
use Rattle.std.specs.List.{starts_with}
use Rattle.std.proofs.lemmas.List.{take-append-drop, length-take}
use Rattle.std.proofs.Math.ListN.{get_or-append}
use Rattle.std.proofs.Math.Seq.{take-append_seam}
use Rattle.std.proofs.lemmas.Slice.Eq.{bytes_eq-Decides}
use Rattle.std.specs.Str.{byte}
use Rattle.memchr.specs.Find.{OccursAt, NoneBefore, Passes, is_byte}
use Rattle.memchr.proofs.lemmas.MatchLemmas.{OccursAt-part, OccursAt-from_part}
use Rattle.ifmap_elem.specs.Chars.{AllAre}
use Rattle.ifmap_elem.specs.Tokens.{Lacks}
use Rattle.ifmap_lemmas.specs.Numbers.{equal_numbers, is_other}
use Rattle.ifmap_lexer.specs.Cutting.{CutsWord, CutsAt, is_but}

fits : (w xs : List ℕ) → w ≡ take (length w) xs → 0 + length w ≤ length xs
fits w xs e = omega (arith, ap length e, length-take (length w) xs)

suc_add : (k j : ℕ) → suc k + j ≡ suc (k + j)
suc_add k j = omega arith

pub lacks_from : (w xs : List ℕ) → ((k : ℕ) → OccursAt xs w k → ⊥) → Lacks w xs
lacks_from w [] none = tt
lacks_from w (b ∷ bs) none = (head (starts_with ◌==◌ (b ∷ bs) w) refl, lacks_from w bs (λ k o. none (suc k) (later k o)))
  where
    head : (t : Bool) → starts_with ◌==◌ (b ∷ bs) w ≡ t → starts_with ◌==◌ (b ∷ bs) w ≡ false
    head false e = e
    head true e =
        let part : w ≡ take (length w) (b ∷ bs) = (bytes_eq-Decides w (take (length w) (b ∷ bs))).0 e in
        absurd (none 0 (OccursAt-from_part (b ∷ bs) w 0 (fits w (b ∷ bs) part) (sym part)))

    later : (k : ℕ) → OccursAt bs w k → OccursAt (b ∷ bs) w (suc k)
    later k o = record { fits = omega (arith, o.fits); reads = λ j l. ap (λ n. get_or (b ∷ bs) n 0) (suc_add k j) ∙ o.reads j l }

-- a word that occurs in a front occurs in the whole
occurs_whole : (w whole xs ys : List ℕ) (j : ℕ) → whole ≡ xs ++ ys → OccursAt xs w j → OccursAt whole w j
occurs_whole w whole xs ys j e o = record {
  fits = omega (arith, o.fits, ap length e, length-append xs ys);
  reads = λ i l. ap (λ l'. get_or l' (j + i) 0) e ∙ get_or-append xs ys 0 (j + i) (omega (arith, o.fits)) ∙ o.reads i l;
}

rejoins_after_take : (a w b : List ℕ) (m : ℕ) → a ++ (w ++ b) ≡ (a ++ take m w) ++ (drop m w ++ b)
rejoins_after_take a w b m = ap (λ x. a ++ (x ++ b)) (sym (take-append-drop m w)) ∙ simp append_assoc

pub word_found : (w bytes front after : List ℕ) (k : ℕ) → 0 < length w → NoneBefore (OccursAt bytes w) 0 (length bytes + 1) k
    → OccursAt bytes w k → front ≡ take k bytes → after ≡ drop (length w) (drop k bytes) → CutsWord w bytes front after
word_found w bytes front after k some first o f b =
    let tail : drop k bytes ≡ w ++ after = sym (take-append-drop (length w) (drop k bytes))
    ∙ (λ i. OccursAt-part bytes w k o i ++ sym b i) in
    let whole : bytes ≡ front ++ (w ++ after) = sym (take-append-drop k bytes) ∙ (λ i. sym f i ++ tail i) in
    let m = length w - 1 in
    let cut : bytes ≡ (front ++ take m w) ++ (drop m w ++ after) = whole ∙ rejoins_after_take front w after m in
    record {
      bytes_are = whole;
      lacks = lacks_from w (front ++ take m w) (λ j inside.
          first.before j (omega arith)
          (omega (arith, inside.fits, length-append front (take m w), length-take m w, ap length f, length-take k bytes))
          (occurs_whole w bytes (front ++ take m w) (drop m w ++ after) j cut inside));
      front_lacks = lacks_from w front
          (λ j inside. first.before j (omega arith) (omega (arith, inside.fits, ap length f, length-take k bytes))
          (occurs_whole w bytes front (w ++ after) j whole inside));
    }

-- a byte's first place
pub byte_found : (c : ℕ) (bytes front after : List ℕ) (k : ℕ) → NoneBefore (Passes (is_byte c) bytes) 0 (length bytes) k
    → Passes (is_byte c) bytes k → front ≡ take k bytes → after ≡ drop 1 (drop k bytes) → CutsAt c bytes front after
byte_found c bytes front after k first here f b = record {
  bytes_are = split bytes k first.high here ∙ (λ i. sym f i ++ (c ∷ sym b i));
  passes = subst (AllAre (is_but c)) (sym f) (before bytes k (λ j l. first.before j (omega arith) l));
}
  where
    split : (xs : List ℕ) (n : ℕ) → n < length xs → nat_eq (get_or xs n 0) c ≡ true → xs ≡ take n xs ++ (c ∷ drop 1 (drop n xs))
    split [] n l e = absurd (omega arith)
    split (x ∷ xs) zero l e = ap (λ y. y ∷ xs) (equal_numbers x c e)
    split (x ∷ xs) (suc n) l e = ap (λ ys. x ∷ ys) (split xs n (omega arith) e)

    by_test : (x : ℕ) (t : Bool) → nat_eq x c ≡ t → (nat_eq x c ≡ true → ⊥) → is_but c x ≡ true
    by_test x false e none = rw e refl
    by_test x true e none = absurd (none e)

    before : (xs : List ℕ) (n : ℕ) → ((j : ℕ) → j < n → nat_eq (get_or xs j 0) c ≡ true → ⊥) → AllAre (is_but c) (take n xs)
    before [] n none = nothing n
      where
        nothing : (n : ℕ) → AllAre (is_but c) (take n [])
        nothing zero = tt
        nothing (suc n) = tt
    before (x ∷ xs) zero none = tt
    before (x ∷ xs) (suc n) none = (by_test x (nat_eq x c) refl (none 0 (omega arith)), before xs n (λ j l. none (suc j) (omega arith)))

-- a word that stands inside is not lacked
pub word_not_lacked : (w bytes front after : List ℕ) → 0 < length w → bytes ≡ front ++ (w ++ after) → Lacks w bytes → ⊥
word_not_lacked [] bytes front after some e l = absurd (omega arith)
word_not_lacked (x ∷ xs) bytes front after some e l = at_seam front (subst (Lacks (x ∷ xs)) e l)
  where
    at_seam : (front : List ℕ) → Lacks (x ∷ xs) (front ++ ((x ∷ xs) ++ after)) → ⊥
    at_seam [] l =
        let same : take (length (x ∷ xs)) ((x ∷ xs) ++ after) ≡ x ∷ xs = take-append_seam (x ∷ xs) after in
        let test : starts_with ◌==◌ ((x ∷ xs) ++ after) (x ∷ xs) ≡ true =
        (bytes_eq-Decides (x ∷ xs) (take (length (x ∷ xs)) ((x ∷ xs) ++ after))).1 (sym same) in
        let wrong : true ≡ false = sym test ∙ l.0 in
        cc
    at_seam (y ∷ ys) l = at_seam ys l.1

-- without a bracket there is no end of a section
pub lacks_section_end : (bytes : List ℕ) → AllAre (is_but (byte "]")) bytes → Lacks (codes "]]>") bytes
lacks_section_end [] f = tt
lacks_section_end (b ∷ bs) f =
    let other : (byte "]" == b) ≡ false =
    is_other (byte "]") b (λ e. let wrong : true ≡ false = sym f.0 ∙ subst (λ (n : ℕ). is_but (byte "]") n ≡ false) e refl in cc) in
    (rw other refl, lacks_section_end bs f.1)
