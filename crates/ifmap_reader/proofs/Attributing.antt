-- The attributes that assignments give, one assignment at a time.
use Rattle.std.proofs.Common.{◌≡◌, ℕ, Bool, true, false, List, [], ◌∷◌, ◌++◌, reverse, refl, ap, sym, ◌∙◌, subst, append_assoc, Bor}
use Rattle.std.specs.Prelude.{Some, None, Err, Option, is_none, is_some}
use Rattle.std.proofs.lemmas.List.{append-nil, reverse-reverse}
use Rattle.ifmap_lemmas.specs.Joined.{last_first}
use Rattle.ifmap_elem.specs.declared.elements.Attribute.{Attribute}
use Rattle.ifmap_elem.specs.declared.tokens.Assignment.{Assignment}
use Rattle.ifmap_elem.specs.Scopes.{Scope, Binding, IsAttribute, AreAttributes, binding_of}
use Rattle.ifmap_elem.specs.laws.OneReading.{one_attribute}
use Rattle.ifmap_reader.specs.declared.errors.TokenRefusal.{TokenRefusal}
use Rattle.ifmap_reader.specs.declared.errors.TokenRefusal.TheVariants.{NotAllowed, TooDeep, NoMemory}
use Rattle.ifmap_reader.specs.AllowedTags.{AnswersAttribute, AnswersAttributes, plain_part, told_binding}

-- what the attributes so far and those of the assignments that are left are for all of them
pub record Attributing (scope : Scope) (all : List Assignment) (made : List Attribute) (left : List Assignment) : Type 0 where
  pub whole : (more : List Attribute) → AreAttributes scope left more → AreAttributes scope all (made ++ more)
  pub only : (ts : List Attribute) → AreAttributes scope all ts
      → (more : List Attribute) × (ts ≡ made ++ more) × AreAttributes scope left more

pub at_first : (scope : Scope) (all : List Assignment) → Attributing scope all [] all
at_first scope all = record { whole = λ more h. h; only = λ ts h. (ts, refl, h) }

module _ (scope : Scope) (all : List Assignment) (made : List Attribute) (a : Assignment) (left : List Assignment)
    (at : Attributing scope all made (a ∷ left)) where
  next_of : (t : Attribute) → IsAttribute scope a t → (ts : List Attribute) (more : List Attribute) → ts ≡ made ++ more
      → AreAttributes scope (a ∷ left) more
      → (others : List Attribute) × (ts ≡ (made ++ t ∷ []) ++ others) × AreAttributes scope left others
  next_of t is ts [] e h = absurd h
  next_of t is ts (u ∷ us) e h =
      (us, e ∙ ap (λ (v : Attribute). made ++ (v ∷ us)) (one_attribute scope a u t h.0 is) ∙ sym (append_assoc made (t ∷ []) us), h.1)

  attributing_next : (t : Attribute) → IsAttribute scope a t → Attributing scope all (made ++ t ∷ []) left
  attributing_next t is = record {
    whole = λ more h. subst (λ (ts : List Attribute). AreAttributes scope all ts) (sym (append_assoc made (t ∷ []) more))
        (at.whole (t ∷ more) (is, h));
    only = λ ts h. let k = at.only ts h in next_of t is ts k.0 k.1 k.2;
  }

  none_first : ((t : Attribute) → IsAttribute scope a t → ⊥) → (more : List Attribute) → AreAttributes scope (a ∷ left) more → ⊥
  none_first none [] h = h
  none_first none (u ∷ us) h = none u h.0

  attributing_not : ((t : Attribute) → IsAttribute scope a t → ⊥) → (ts : List Attribute) → AreAttributes scope all ts → ⊥
  attributing_not none ts h = let k = at.only ts h in none_first none k.0 k.2

kept_one : (a : Assignment) (as' : List Assignment) → is_none (binding_of a) ≡ true → plain_part (a ∷ as') ≡ a ∷ plain_part as'
kept_one a as' e = rw e refl

left_one : (a : Assignment) (as' : List Assignment) → is_none (binding_of a) ≡ false → plain_part (a ∷ as') ≡ plain_part as'
left_one a as' e = rw e refl

-- of the code's list, whose last assignment is the next
pub attributing_first : (scope : Scope) (assignments old turned : List Assignment) (made : List Attribute) → old ≡ assignments
    → turned ≡ reverse old → made ≡ [] → Attributing scope (plain_part assignments) made (plain_part (reverse turned))
attributing_first scope assignments old turned made is rev none =
    subst (λ (ts : List Attribute). Attributing scope (plain_part assignments) ts (plain_part (reverse turned))) (sym none)
    (subst (λ (as' : List Assignment). Attributing scope (plain_part assignments) [] (plain_part as'))
    (sym (ap reverse rev ∙ reverse-reverse old ∙ is)) (at_first scope (plain_part assignments)))

-- whether the code finds a binding
pub told_some : (o : Option (Bor (List ℕ))) (space : List ℕ) (b : Option Binding) (found : Bool) → b ≡ told_binding o space
    → found ≡ is_some o
    → found ≡ true → is_none b ≡ false
told_some None space b found e f t = let k : false ≡ true = sym f ∙ t in cc
told_some (Some p) space b found e f t = ap is_none e

pub told_none : (o : Option (Bor (List ℕ))) (space : List ℕ) (b : Option Binding) (found : Bool) → b ≡ told_binding o space
    → found ≡ is_some o
    → found ≡ false → is_none b ≡ true
told_none None space b found e f t = ap is_none e
told_none (Some p) space b found e f t = let k : true ≡ false = sym f ∙ t in cc

module _ (scope : Scope) (all : List Assignment) (made : List Attribute) (old new : List Assignment) (a : Assignment)
    (is : old ≡ new ++ a ∷ []) (at : Attributing scope all made (plain_part (reverse old))) where
  at_one : is_none (binding_of a) ≡ true → Attributing scope all made (a ∷ plain_part (reverse new))
  at_one e =
      subst (λ (as' : List Assignment). Attributing scope all made as')
      (ap plain_part (last_first old new a is) ∙ kept_one a (reverse new) e) at

  pub attribute_added : is_none (binding_of a) ≡ true → (t : Attribute) (after : List Attribute) → IsAttribute scope a t
      → after ≡ made ++ t ∷ [] → Attributing scope all after (plain_part (reverse new))
  attribute_added e t after h added =
      subst (λ (ts : List Attribute). Attributing scope all ts (plain_part (reverse new))) (sym added)
      (attributing_next scope all made a (plain_part (reverse new)) (at_one e) t h)

  pub binding_left : is_none (binding_of a) ≡ false → Attributing scope all made (plain_part (reverse new))
  binding_left e =
      subst (λ (as' : List Assignment). Attributing scope all made as')
      (ap plain_part (last_first old new a is) ∙ left_one a (reverse new) e) at

  pub attribute_refused : is_none (binding_of a) ≡ true → (error : TokenRefusal) → AnswersAttribute scope a (Err error)
      → AnswersAttributes scope all (Err error)
  attribute_refused e NotAllowed h = attributing_not scope all made a (plain_part (reverse new)) (at_one e) h
  attribute_refused e TooDeep h = absurd h
  attribute_refused e NoMemory h = tt

pub all_given : (scope : Scope) (all : List Assignment) (made : List Attribute) (old : List Assignment) → old ≡ []
    → Attributing scope all made (plain_part (reverse old)) → AreAttributes scope all made
all_given scope all made old none at =
    let end = subst (λ (os : List Assignment). Attributing scope all made (plain_part (reverse os))) none at in
    subst (λ (ts : List Attribute). AreAttributes scope all ts) (append-nil made) (end.whole [] tt)
