-- The prefix that a new namespace is given.
use Rattle.std.proofs.Common.{◌≡◌, ℕ, ◌+◌, List, [], ◌∷◌, ◌++◌, length, true, false, cond, Option, Some, None, refl, ap, sym, ◌∙◌, subst}
use Rattle.std.specs.Prelude.{codes}
use Rattle.std.specs.Map.{lookup}
use Rattle.std.specs.Str.{bytes_eq}
use Rattle.std.specs.Ordering.{nat_cmp, is_eq}
use Rattle.std.specs.Cmp.Lexicographic.{slice_cmp, texts_ties}
use Rattle.ifmap_lemmas.specs.Numerals.{numeral}
use Rattle.ifmap_lemmas.specs.Texts.{eq_itself}
use Rattle.ifmap_elem.specs.Namespaces.{name_prefixes}
use Rattle.ifmap_elem.specs.laws.NamespaceLaws.{Texts, one_key_more}

pub one_label_more : (old new : List ℕ → Option (List ℕ)) (xs ys : Texts) (s key other label : List ℕ)
    → ((q : List ℕ) → old q ≡ lookup (bytes_eq q) (name_prefixes xs))
    → ((q : List ℕ) → new q ≡ cond (is_eq (slice_cmp nat_cmp key q)) (Some label) (old q)) → key ≡ s → other ≡ s → ys ≡ xs ++ other ∷ []
    → label ≡ codes "n" ++ numeral (length xs + 1)
    → lookup (bytes_eq s) (name_prefixes xs) ≡ None → Some label ≡ lookup (bytes_eq s) (name_prefixes ys)
one_label_more old new xs ys s key other label was now k o more is none =
    let same : bytes_eq key s ≡ true = subst (λ t. bytes_eq t s ≡ true) (sym k) (eq_itself s) in
    sym (now s ∙ ap (λ b. cond b (Some label) (old s)) (sym (texts_ties key s) ∙ same))
    ∙ one_key_more old new xs ys s key other label was now k o more is none s
