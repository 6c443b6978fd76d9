-- Numbers of a graph from which some have gone: those of identifiers that are held stay.
use Rattle.std.proofs.Common.{◌≡◌, ℕ, ◌≤◌, Some, ap, ◌∙◌, subst, inl, inr, arith}
use Rattle.std.specs.Prelude.{option_map}
use Rattle.ifmap_changes.specs.Between.{IsSeen}
use Rattle.ifmap_graph.specs.Inside.{GraphInside, IsOwn}
use Rattle.ifmap_graph.specs.Seen.{BringsNoNumbers}
use Rattle.ifmap_ident.specs.declared.identifiers.Identifier.{Identifier}
use Rattle.ifmap_ident.specs.Identifiers.{identifier_bytes}
use Rattle.ifmap_lemmas.specs.Texts.{same_texts}
use Rattle.ifmap_graph.specs.ifmap_pool.Holdings.{key_at}
use Rattle.ifmap_ident.specs.SameLaws.{BytesTellIdentifiers}

-- the number of an identifier that somebody holds stays its number
pub number_stays : BytesTellIdentifiers → (old new : GraphInside) → IsSeen old → BringsNoNumbers old new → (v : ℕ) (a : Identifier) (n : ℕ)
    → key_at old.names v ≡ Some a → IsOwn new a n → 1 ≤ n → key_at new.names v ≡ Some a
number_stays tells old new seen fewer v a n here (inl p) some =
    let b : Identifier = p.1.0.0 in
    let named : key_at new.names p.0 ≡ Some b = ap (option_map (λ e. e.0)) p.1.1 in
    let was : key_at old.names p.0 ≡ Some b = fewer p.0 b named in
    let one : b ≡ a = tells b a (seen.canon p.0 b was) (seen.canon v a here)
    (same_texts (identifier_bytes b) (identifier_bytes a) p.1.2) in
    let at : p.0 ≡ v = seen.one_to_one p.0 v a (was ∙ ap Some one) here in
    subst (λ w. key_at new.names w ≡ Some a) at (named ∙ ap Some one)
number_stays tells old new seen fewer v a n here (inr p) some = absurd (omega (arith, p.1, some))
