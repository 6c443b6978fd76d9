-- Where nothing is left behind, the identifiers that have numbers are those in use.
use Rattle.std.proofs.Common.{◌≡◌, ◌⊎◌, ℕ, ◌<◌, Some, List, [], ◌∷◌, map, refl, ap, ◌∙◌, inl, inr, arith}
use Rattle.std.proofs.lemmas.Bool.{cases_Bool}
use Rattle.std.proofs.lemmas.List.Sums.{sum_by-cons}
use Rattle.std.specs.Cmp.{Equal-is}
use Rattle.std.specs.List.{AllByRecursion}
use Rattle.std.specs.Ordering.{is_eq}
use Rattle.ifmap_lemmas.specs.Having.{Has, has_map, map_has, all_has}
use Rattle.ifmap_lemmas.specs.Texts.{same_texts}
use Rattle.ifmap_subscribes.specs.ifmap_changes.Between.{HasStartNumber, IsSeen, IsSteady, starts_of}
use Rattle.ifmap_subscribes.specs.ifmap_graph.Counted.{AreSoMany}
use Rattle.ifmap_subscribes.specs.ifmap_graph.Inside.{GraphInside}
use Rattle.ifmap_subscribes.specs.ifmap_graph.Seen.{AreUsed, HasPoolNumber, IsAttached, rows_now}
use Rattle.ifmap_ident.specs.declared.identifiers.Identifier.{Identifier}
use Rattle.ifmap_ident.specs.Canon.{IsIdentifier}
use Rattle.ifmap_ident.specs.Identifiers.{identifier_bytes, identifier_order}
use Rattle.ifmap_ident.specs.Items.{IsCanonItem}
use Rattle.ifmap_subscribes.specs.ifmap_machine.State as machine
use Rattle.ifmap_subscribes.specs.ifmap_pool.Holdings.{once}
use Rattle.ifmap_subscribes.specs.ifmap_standing.declared.standing.Standing.{Standing}
use Rattle.ifmap_subscribes.specs.ifmap_standing.Standing.{standing_of}
use Rattle.ifmap_subscribes.specs.ifmap_view.declared.attachments.Attachment.{Attachment}
use Rattle.ifmap_ident.specs.SameLaws.{BytesTellIdentifiers}

module _ (h : GraphInside) (tells : BytesTellIdentifiers) (view : IsSeen h) where
  -- where some of these subscriptions start at an identifier, there is one
  start_there : (xs : List Standing) (a : Identifier) → IsIdentifier a → AllByRecursion (HasStartNumber h) xs → 0 < starts_of a xs
      → (x : Standing) × Has xs x × (x.subscription.search.start ≡ a)
  start_there [] a is numbered some = absurd (omega (arith, some))
  start_there (x ∷ xs) a is numbered some =
      let start = x.subscription.search.start
      in let both = sum_by-cons (λ (y : Standing). once identifier_order y.subscription.search.start a) x xs
      in elim (cases_Bool (is_eq (identifier_order start a))) [
        | inl t ↦ (
          x,
          inl refl,
          tells start a (view.canon x.subscription.region.start start numbered.0) is
              (same_texts (identifier_bytes start) (identifier_bytes a) ((Equal-is (identifier_order start a)).0 t)),
        )
        | inr f ↦ let none : once identifier_order start a ≡ 0 = rw f refl
            in let rest = start_there xs a is numbered.1 (omega (arith, some, both, none))
            in (rest.0, inr rest.1, rest.2)
      ]

  module _ (standing : List Standing) (steady : IsSteady h standing) (used : AreUsed h) where
    abbrev InUse : Identifier → Type 0
    InUse a = IsAttached (rows_now h) a ⊎ ((x : machine.Standing) × Has (map standing_of standing) x × (x.search.start ≡ a))

    in_use : (a : Identifier) → HasPoolNumber h a → InUse a
    in_use a n = elim (used.only a n) [
      | inl attached ↦ inl attached
      | inr held ↦ let x = start_there standing a (view.canon n.0 a n.1) steady.numbered (held (starts_of a standing) (steady.own a))
          in inr (standing_of x.0, has_map standing_of standing x.0 x.1, x.2)
    ]

    canon_there : (a : Identifier) → IsAttached (rows_now h) a → IsIdentifier a
    canon_there a r =
        let item = all_has (λ (x : Attachment). IsCanonItem x.item) (rows_now h) view.graph.items r.0 r.1
        in all_has IsIdentifier _ item.identifiers a r.2

    number_of : (a : Identifier) → InUse a → HasPoolNumber h a
    number_of a (inl r) = used.each a (canon_there a r) (inl r)
    number_of a (inr s) =
        let x = map_has standing_of standing s.0 s.1
        in (
          x.0.subscription.region.start,
          all_has (HasStartNumber h) standing steady.numbered x.0 x.1 ∙ ap Some (ap (λ (y : machine.Standing). y.search.start) x.2 ∙ s.2),
        )

    pub so_many_in_use : (n : ℕ) → AreSoMany n (HasPoolNumber h) → AreSoMany n InUse
    so_many_in_use n all = (all.0, all.1, all.2, λ a. (λ has. in_use a ((all.3 a).0 has), λ is. (all.3 a).1 (number_of a is)))
