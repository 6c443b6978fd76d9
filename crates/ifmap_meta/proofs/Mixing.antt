-- A word that is mixed of one member after another.
use Rattle.std.proofs.Common.{◌≡◌, ℕ, ◌+◌, ◌<◌, true, false, List, [], ◌∷◌, ◌++◌, take, length, get_or, refl, ap, sym, ◌∙◌}
use Rattle.std.specs.List.{flat_map}
use Rattle.std.proofs.lemmas.Grind.{flat_map-append}
use Rattle.std.proofs.lemmas.List.{append-nil, take_more}
use Rattle.std.proofs.lemmas.List.Elements.{filter-append}
use Rattle.ifmap_lemmas.specs.Joined.{take_one_more}
use Rattle.ifmap_elem.specs.declared.elements.Attribute.{Attribute}
use Rattle.ifmap_meta.specs.KeyWords.{attribute_parts, mix_all}
use Rattle.ifmap_meta.specs.Stamps.{is_stamp, without_stamps}
use Rattle.ifmap_meta.specs.laws.KeyWordLaws.{mix_append}
use Rattle.ifmap_meta.specs.laws.StampLaws.{is_content}

module _ {X : Type 0} (f : X → List ℕ) (word : ℕ) where
  -- the word after one member more
  goes_on : (front : List X) (x : X) (m n : ℕ) → m ≡ mix_all word (flat_map f front) → n ≡ mix_all m (f x)
      → n ≡ mix_all word (flat_map f (front ++ x ∷ []))
  goes_on front x m n e g =
      g ∙ ap (λ w. mix_all w (f x)) e ∙ sym (mix_append word (flat_map f front) (f x))
      ∙ ap (mix_all word) (sym (flat_map-append f front (x ∷ []) ∙ ap (λ ys. flat_map f front ++ ys) (append-nil (f x))))

  pub mixed_more : (xs : List X) (i : ℕ) (x : X) (m n : ℕ) → i < length xs → x ≡ get_or xs i x → m ≡ mix_all word (flat_map f (take i xs))
      → n ≡ mix_all m (f x) → n ≡ mix_all word (flat_map f (take (i + 1) xs))
  mixed_more xs i x m n l at e g =
      goes_on (take i xs) x m n e g ∙ ap (λ ys. mix_all word (flat_map f ys)) (sym (take_one_more xs i x l at))

pub bytes_more : (word : ℕ) (xs : List ℕ) (i x m n : ℕ) → i < length xs → x ≡ get_or xs i 0 → m ≡ mix_all word (take i xs)
    → n ≡ mix_all m (x ∷ []) → n ≡ mix_all word (take (i + 1) xs)
bytes_more word xs i x m n l at e g =
    g ∙ ap (λ w. mix_all w (x ∷ [])) e ∙ sym (mix_append word (take i xs) (x ∷ []))
    ∙ ap (mix_all word) (sym (take_more xs i 0 l ∙ ap (λ y. take i xs ++ y ∷ []) (sym at)))

content_more : (xs : List Attribute) (i : ℕ) (x : Attribute) → i < length xs → x ≡ get_or xs i x
    → without_stamps (take (i + 1) xs) ≡ without_stamps (take i xs) ++ without_stamps (x ∷ [])
content_more xs i x l at =
    ap without_stamps (take_more xs i x l ∙ ap (λ y. take i xs ++ y ∷ []) (sym at)) ∙ filter-append is_content (take i xs) (x ∷ [])

module _ (word : ℕ) (xs : List Attribute) (i : ℕ) (x : Attribute) (m n : ℕ) (l : i < length xs) (at : x ≡ get_or xs i x)
    (e : m ≡ mix_all word (flat_map attribute_parts (without_stamps (take i xs)))) where
  abbrev IsMixed : ℕ → Type 0
  IsMixed k = k ≡ mix_all word (flat_map attribute_parts (without_stamps (take (i + 1) xs)))

  pub content_mixed : is_stamp x ≡ false → n ≡ mix_all m (attribute_parts x) → IsMixed n
  content_mixed not_stamp g =
      let one : without_stamps (x ∷ []) ≡ x ∷ [] = rw not_stamp refl in
      goes_on attribute_parts word (without_stamps (take i xs)) x m n e g
      ∙ ap (λ ys. mix_all word (flat_map attribute_parts ys))
      (sym (content_more xs i x l at ∙ ap (λ ys. without_stamps (take i xs) ++ ys) one))

  pub stamp_passed : is_stamp x ≡ true → n ≡ m → IsMixed n
  stamp_passed stamp g =
      let none : without_stamps (x ∷ []) ≡ [] = rw stamp refl in
      g ∙ e ∙ ap (λ ys. mix_all word (flat_map attribute_parts ys))
      (sym (content_more xs i x l at ∙ ap (λ ys. without_stamps (take i xs) ++ ys) none ∙ append-nil (without_stamps (take i xs))))
