-- Small laws on answers, tests and lists.
use Rattle.std.proofs.Common.{◌≡◌, ◌≢◌, ℕ, Bool, true, false, List, [], ◌∷◌, ◌++◌, length, refl, sym, ◌∙◌, arith}
use Rattle.std.specs.Prelude.{◌↔◌, Result, Ok, Err, IfErr}
use Rattle.std.specs.List.{list_all}
use Rattle.std.proofs.lemmas.Bool.{and_from, and_parts}
use Rattle.ifmap_elem.specs.Chars.{AllAre}
use Rattle.ifmap_lexer.specs.declared.errors.LexError.{LexError}
use Rattle.ifmap_lexer.specs.declared.errors.LexError.TheVariants.{Malformed, NoMemory}
use Rattle.ifmap_lexer.specs.Refusing.{Refuses}

-- who refuses more refuses less
pub refuses_by : (e : LexError) (P Q : Type 0) → (Q → P) → Refuses e P → Refuses e Q
refuses_by Malformed P Q f r = λ q. r (f q)
refuses_by NoMemory P Q f r = tt

pub all_are : (p : ℕ → Bool) (xs : List ℕ) → list_all p xs ≡ true → AllAre p xs
all_are p [] h = tt
all_are p (x ∷ xs) h = let parts = and_parts (p x) (list_all p xs) h in (parts.0, all_are p xs parts.1)

pub of_each : (p : ℕ → Bool) (xs : List ℕ) → AllAre p xs → list_all p xs ≡ true
of_each p [] h = refl
of_each p (x ∷ xs) h = and_from (p x) (list_all p xs) h.0 (of_each p xs h.1)

pub all_front : (p : ℕ → Bool) (a b : List ℕ) → AllAre p (a ++ b) → AllAre p a
all_front p [] b f = tt
all_front p (x ∷ xs) b f = (f.0, all_front p xs b f.1)

pub all_back : (p : ℕ → Bool) (a b : List ℕ) → AllAre p (a ++ b) → AllAre p b
all_back p [] b f = f
all_back p (x ∷ xs) b f = all_back p xs b f.1

pub refused_by : {X : Type 0} (r : Result X LexError) (P Q : Type 0) → (Q → P) → IfErr r (λ e. Refuses e P) → IfErr r (λ e. Refuses e Q)
refused_by (Ok x) P Q f h = tt
refused_by (Err e) P Q f h = refuses_by e P Q f h
