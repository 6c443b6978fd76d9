-- What holds of each member of a list.
use Rattle.std.proofs.Common.{◌≡◌, Bool, true, List, [], ◌∷◌, ◌++◌, map}
use Rattle.std.specs.List.{AllByRecursion, list_all}
use Rattle.std.proofs.lemmas.Bool.{and_parts}

pub all_both : {X : Type 0} (P : X → Type 0) (xs ys : List X) → AllByRecursion P (xs ++ ys) → AllByRecursion P xs × AllByRecursion P ys
all_both P [] ys f = (tt, f)
all_both P (x ∷ xs) ys f = let rest = all_both P xs ys f.1 in ((f.0, rest.0), rest.1)

pub both_all : {X : Type 0} (P : X → Type 0) (xs ys : List X) → AllByRecursion P xs → AllByRecursion P ys → AllByRecursion P (xs ++ ys)
both_all P [] ys f g = g
both_all P (x ∷ xs) ys f g = (f.0, both_all P xs ys f.1 g)

pub all_of_map : {X Y : Type 0} (P : Y → Type 0) (f : X → Y) (xs : List X) → AllByRecursion P (map f xs) → AllByRecursion (λ x. P (f x)) xs
all_of_map P f [] h = tt
all_of_map P f (x ∷ xs) h = (h.0, all_of_map P f xs h.1)

pub map_of_all : {X Y : Type 0} (P : Y → Type 0) (f : X → Y) (xs : List X) → AllByRecursion (λ x. P (f x)) xs → AllByRecursion P (map f xs)
map_of_all P f [] h = tt
map_of_all P f (x ∷ xs) h = (h.0, map_of_all P f xs h.1)

pub all_append : {X : Type 0} (p : X → Bool) (a b : List X) → AllByRecursion (λ n. p n ≡ true) a → AllByRecursion (λ n. p n ≡ true) b
    → AllByRecursion (λ n. p n ≡ true) (a ++ b)
all_append p [] b f g = g
all_append p (x ∷ xs) b f g = (f.0, all_append p xs b f.1 g)

pub all_weaker : {X : Type 0} (p q : X → Bool) → ((b : X) → p b ≡ true → q b ≡ true) → (a : List X) → AllByRecursion (λ n. p n ≡ true) a
    → AllByRecursion (λ n. q n ≡ true) a
all_weaker p q leads [] f = tt
all_weaker p q leads (x ∷ xs) f = (leads x f.0, all_weaker p q leads xs f.1)

pub all_of_test : {X : Type 0} (p : X → Bool) (xs : List X) → list_all p xs ≡ true → AllByRecursion (λ n. p n ≡ true) xs
all_of_test p [] h = tt
all_of_test p (x ∷ xs) h = let parts = and_parts (p x) (list_all p xs) h in (parts.0, all_of_test p xs parts.1)

-- of two that each member has, another
pub all_two : {X : Type 0} (P Q R : X → Type 0) → ((x : X) → P x → Q x → R x) → (xs : List X) → AllByRecursion P xs → AllByRecursion Q xs
    → AllByRecursion R xs
all_two P Q R f [] p q = tt
all_two P Q R f (x ∷ xs) p q = (f x p.0 q.0, all_two P Q R f xs p.1 q.1)

pub all_last : {X : Type 0} (P : X → Type 0) (xs : List X) (x : X) → AllByRecursion P xs → P x → AllByRecursion P (xs ++ x ∷ [])
all_last P [] x h p = (p, tt)
all_last P (y ∷ ys) x h p = (h.0, all_last P ys x h.1 p)

pub all_any : {X : Type 0} (P : X → Type 0) (xs : List X) → ((x : X) → P x) → AllByRecursion P xs
all_any P [] f = tt
all_any P (x ∷ xs) f = (f x, all_any P xs f)

pub all_onto : {X Y : Type 0} (P : X → Type 0) (Q : Y → Type 0) (f : X → Y) (xs : List X) → ((x : X) → P x → Q (f x)) → AllByRecursion P xs
    → AllByRecursion Q (map f xs)
all_onto P Q f [] g a = tt
all_onto P Q f (x ∷ xs) g a = (g x a.0, all_onto P Q f xs g a.1)
