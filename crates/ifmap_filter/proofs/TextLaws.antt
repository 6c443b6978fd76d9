-- A text that is taken off the front of both sides of a comparison.
use Rattle.std.proofs.Common.{◌≡◌, ℕ, ◌+◌, ◌<◌, ◌≤◌, suc, Bool, true, false, List, [], ◌∷◌, ◌++◌, drop, get_or, length, refl, ap, sym, ◌∙◌, arith, drop-cons, add-one}
use Rattle.std.specs.Cmp.{both_ways}
use Rattle.std.specs.Prelude.{nat_eq}
use Rattle.std.specs.Str.{bytes_eq}
use Rattle.std.proofs.Math.Seq.{drop-length}
use Rattle.std.proofs.lemmas.List.{append_cancel_left}
use Rattle.std.proofs.lemmas.Slice.Eq.{bytes_eq-Decides}
use Rattle.ifmap_lemmas.specs.Numbers.{is_other}
use Rattle.ifmap_elem.specs.declared.elements.Child.{Child}
use Rattle.ifmap_filter.specs.Holding.{own_text, text_among}

front_cancels : (own t left rest : List ℕ) → left ≡ own ++ rest → bytes_eq (own ++ t) left ≡ bytes_eq t rest
front_cancels own t left rest is =
    both_ways (bytes_eq (own ++ t) left) (bytes_eq t rest)
    (λ h. (bytes_eq-Decides t rest).1 (append_cancel_left own t rest ((bytes_eq-Decides (own ++ t) left).0 h ∙ is)))
    (λ h. (bytes_eq-Decides (own ++ t) left).1 (ap (λ x. own ++ x) ((bytes_eq-Decides t rest).0 h) ∙ sym is))

differing : (own t left : List ℕ) → ((rest : List ℕ) → left ≡ own ++ rest → ⊥) → bytes_eq (own ++ t) left ≡ false
differing own t left none = by_test (bytes_eq (own ++ t) left) refl
  where
    by_test : (b : Bool) → bytes_eq (own ++ t) left ≡ b → bytes_eq (own ++ t) left ≡ false
    by_test false e = e
    by_test true e = absurd (none t (sym ((bytes_eq-Decides (own ++ t) left).0 e)))

module _ (children : List Child) (i : ℕ) (child : Child) (here : i < length children) (is : child ≡ get_or children i child) where
  among : text_among (drop i children) ≡ own_text child ++ text_among (drop (i + 1) children)
  among =
      ap text_among (drop-cons children i child here) ∙ ap (λ c. own_text c ++ text_among (drop (suc i) children)) (sym is)
      ∙ ap (λ k. own_text child ++ text_among (drop k children)) (sym (add-one i))

  pub one_child_more : (left rest : List ℕ) → left ≡ own_text child ++ rest
      → bytes_eq (text_among (drop i children)) left ≡ bytes_eq (text_among (drop (i + 1) children)) rest
  one_child_more left rest taken =
      ap (λ text. bytes_eq text left) among ∙ front_cancels (own_text child) (text_among (drop (i + 1) children)) left rest taken

  pub another_child : (left : List ℕ) → ((rest : List ℕ) → left ≡ own_text child ++ rest → ⊥)
      → bytes_eq (text_among (drop i children)) left ≡ false
  another_child left none =
      ap (λ text. bytes_eq text left) among ∙ differing (own_text child) (text_among (drop (i + 1) children)) left none

none_left : (left : List ℕ) → nat_eq (length left) 0 ≡ bytes_eq [] left
none_left [] = refl
none_left (b ∷ bs) = is_other (length (b ∷ bs)) 0 (λ e. absurd (omega (arith, e)))

pub no_child_more : (children : List Child) (i : ℕ) (left : List ℕ) → length children ≤ i → i ≤ length children
    → bytes_eq (text_among (drop i children)) left ≡ nat_eq (length left) 0
no_child_more children i left past within =
    let end : i ≡ length children = omega arith in
    let nothing : drop i children ≡ [] = ap (λ k. drop k children) end ∙ drop-length children in
    ap (λ cs. bytes_eq (text_among cs) left) nothing ∙ sym (none_left left)
