-- Numbers that are shared, and what awaits more.
use Rattle.std.proofs.Common.{◌≡◌, ℕ, Some, ◌∙◌, sym, ◌≤◌, Bool, true, false, cond, arith, refl, ap, List, [], subst, append-nil}
use Rattle.std.proofs.lemmas.Option.{same_Some}
use Rattle.ifmap_graph.specs.Inside.{GraphInside}
use Rattle.ifmap_graph.specs.Seen.{BringsNoNumbers, AreAwaited, AwaitsMore}
use Rattle.ifmap_ident.specs.declared.identifiers.Identifier.{Identifier}
use Rattle.ifmap_pool.specs.Holdings.{key_at, once}
use Rattle.std.specs.Ordering.{is_eq}
use Rattle.ifmap_ident.specs.Identifiers.{identifier_order, identifier_bytes}
use Rattle.ifmap_lemmas.specs.Texts.{slice_cmp-same}
use Rattle.ifmap_ident.specs.declared.items.Item.{Item}

-- numbers that both have are those of the same identifiers
pub numbers_shared : (old new : GraphInside) → BringsNoNumbers old new → (v : ℕ) (a b : Identifier) → key_at old.names v ≡ Some a
    → key_at new.names v ≡ Some b → b ≡ a
numbers_shared old new fewer v a b was is = same_Some b a (sym (fewer v b is) ∙ was)

pub once_few : (a b : Identifier) → once identifier_order a b ≤ 1
once_few a b = by (is_eq (identifier_order a b))
  where
    by : (t : Bool) → cond {A = ℕ} t 1 0 ≤ 1
    by true = omega arith
    by false = omega arith

pub once_itself : (a : Identifier) → once identifier_order a a ≡ 1
once_itself a = ap (λ o. cond (is_eq o) 1 0) (slice_cmp-same (identifier_bytes a) (identifier_bytes a) refl)

pub awaits_these : (items : List Item) (old new : GraphInside) → AwaitsMore items old new → AreAwaited items new
awaits_these items old new more = subst (λ (is : List Item). AreAwaited is new) (append-nil items) (more [] (λ x. omega arith))
