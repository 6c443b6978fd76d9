-- Where subscriptions start, and numbers that they share.
use Rattle.std.proofs.Common.{ℕ, ◌≡◌, ◌+◌, List, ◌∷◌, ◌++◌, ◌≤◌, [], length, arith, sym, ◌∙◌}
use Rattle.ifmap_ident.specs.Identifiers.{identifier_order}
use Rattle.ifmap_ident.specs.declared.identifiers.Identifier.{Identifier}
use Rattle.ifmap_graph.specs.ifmap_pool.Holdings.{once}
use Rattle.ifmap_tellings.specs.ifmap_standing.declared.standing.Standing.{Standing}
use Rattle.std.proofs.lemmas.List.Sums.{sum_by-cons, sum_by-append}
use Rattle.ifmap_changes.specs.Between.{starts_of, SharesNumbers}
use Rattle.ifmap_graph.specs.NumberLaws.{once_few}
use Rattle.std.proofs.lemmas.Option.{same_Some}
use Rattle.ifmap_graph.specs.Inside.{GraphInside}
use Rattle.ifmap_graph.specs.Seen.{KeepsNumbers, BringsNoNumbers}

-- whether a subscription starts there, as a number
abbrev pub starts_at : Identifier → Standing → ℕ
starts_at a x = once identifier_order x.subscription.search.start a

pub starts_cons : (a : Identifier) (x : Standing) (xs : List Standing) → starts_of a (x ∷ xs) ≡ starts_at a x + starts_of a xs
starts_cons a x xs = sum_by-cons (λ (y : Standing). once identifier_order y.subscription.search.start a) x xs

pub starts_append : (a : Identifier) (xs ys : List Standing) → starts_of a (xs ++ ys) ≡ starts_of a xs + starts_of a ys
starts_append a xs ys = sum_by-append (λ (y : Standing). once identifier_order y.subscription.search.start a) xs ys

pub starts_few : (a : Identifier) (xs : List Standing) → starts_of a xs ≤ length xs
starts_few a [] = omega arith
starts_few a (x ∷ xs) =
    let sum = sum_by-cons (λ (z : Standing). once identifier_order z.subscription.search.start a) x xs
    in let one = once_few x.subscription.search.start a
    in let rest = starts_few a xs
    in omega (arith, sum, one, rest)

pub shares_kept : (old new : GraphInside) → KeepsNumbers old new → SharesNumbers old new
shares_kept old new k v a b p q = same_Some b a (sym q ∙ k v a p)

pub shares_fewer : (old new : GraphInside) → BringsNoNumbers old new → SharesNumbers old new
shares_fewer old new k v a b p q = same_Some b a (sym (k v b q) ∙ p)
