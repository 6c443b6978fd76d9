-- Equal texts.
use Rattle.std.proofs.Common.{◌≡◌, sym, subst, ℕ, true, List}
use Rattle.std.proofs.lemmas.Cmp.{nat_list_eq_equiv}
use Rattle.std.specs.Cmp.Lexicographic.{same_text}
use Rattle.ifmap_session.specs.Sessions.{is_same_text}
pub use Rattle.ifmap_lemmas.specs.Found.{find_none, find_in_filter as find_kept}

-- texts
pub text_is : (a b : List ℕ) → is_same_text a b ≡ true → a ≡ b
text_is a b e = same_text a b (sym e)

pub text_itself : (a : List ℕ) → is_same_text a a ≡ true
text_itself a = nat_list_eq_equiv.refl a

pub text_same : (a b : List ℕ) → a ≡ b → is_same_text a b ≡ true
text_same a b e = subst (λ t. is_same_text a t ≡ true) e (text_itself a)

pub text_flip : (a b : List ℕ) → is_same_text a b ≡ is_same_text b a
text_flip a b = nat_list_eq_equiv.symm a b
