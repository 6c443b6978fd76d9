-- A graph with nothing in it.
use Rattle.std.proofs.Common.{◌≡◌, ℕ, Option, Some, None, IsSome, List, [], nat_eq, option_map, refl, ap, ◌∙◌, sym, subst, inl, inr}
use Rattle.std.proofs.lemmas.Option.{none-some}
use Rattle.std.specs.List.{Contains, IsDistinct}
use Rattle.ifmap_lemmas.specs.Having.{has_from}
use Rattle.ifmap_lemmas.specs.Rising.{to_distinct}
use Rattle.ifmap_ident.specs.declared.identifiers.Identifier.{Identifier}
use Rattle.ifmap_ident.specs.Identifiers.{identifier_order}
use Rattle.ifmap_pool.specs.Holdings.{Holdings, IsHeld, IsPool, Names, entry_at, key_at}
use Rattle.ifmap_view.specs.declared.views.LinkSeen.{LinkSeen}
use Rattle.ifmap_graph.specs.declared.shelves.Shelf.{Shelf}
use Rattle.ifmap_graph.specs.Inside.{IsInside, IsSide, links_at}
use Rattle.ifmap_graph.specs.Joined.{joined_pair}
use Rattle.ifmap_graph.specs.Linked.{link_places}
use Rattle.ifmap_graph.specs.Seen.{IsStill}
use Rattle.ifmap_graph.specs.Shelved.{StoredSide}
use Rattle.ifmap_graph.specs.Sides.{list_next, list_now}
use Rattle.ifmap_graph.proofs.Shelving.{nothing_placed}

-- no number has an entry
module _ (names : Holdings Identifier) (none : (v : ℕ) → entry_at names v ≡ None) where
  has_no_name : (v : ℕ) (a : Identifier) → Names identifier_order names v a → ⊥
  has_no_name v a n = none-some _ (sym (none v) ∙ n.1)

  has_no_entry : (v : ℕ) → IsSome (entry_at names v) → ⊥
  has_no_entry v s = let q : IsSome {T = Identifier × ℕ} None = subst (λ (o : Option (Identifier × ℕ)). IsSome o) (none v) s in cc

  pub no_pool : IsPool identifier_order names
  no_pool = record {
    one_to_one = λ v w a n m. absurd (has_no_name v a n);
    below = λ v s. absurd (has_no_entry v s);
    held = λ v s. absurd (has_no_entry v s);
  }

  has_no_key : (v : ℕ) (a : Identifier) → key_at names v ≡ Some a → ⊥
  has_no_key v a e = none-some _ (sym (ap (λ o. option_map (λ x. x.0) o) (none v)) ∙ e)

  -- nobody holds an identifier
  pub no_own : (a : Identifier) → IsHeld identifier_order names a 0
  no_own a = inr (λ v n. has_no_name v a n, refl)

  -- nothing has a draft
  pub no_still : IsStill (record { shelves = []; names = names; links = []; places = [] })
  no_still = record { shelves = λ x d. none-some _ d.1; links = λ v. refl }

  module _ (look : ℕ → Option Shelf) (vacant : (n : ℕ) → look n ≡ None) where
    unjoined : (at v w : ℕ) → joined_pair (look at) ≡ Some (v, w) → ⊥
    unjoined at v w j = none-some _ (sym (ap joined_pair (vacant at)) ∙ j)

    pub no_side : (side : StoredSide) (links : ℕ → List LinkSeen) → ((v : ℕ) → links v ≡ []) → IsSide side look [] links
    no_side side links empty = record {
      lists = tt;
      listed = record {
        only = λ v seen c. absurd (has_from [] seen (subst (λ l. Contains l seen) (empty v) c));
        each = λ v w at e f. absurd (elim e [ inl j ↦ unjoined at v w j | inr j ↦ unjoined at w v j ]);
      };
      once = λ v. subst (λ l. IsDistinct nat_eq (link_places l)) (sym (empty v)) (to_distinct nat_eq [] tt);
    }

    pub no_inside : IsInside names look [] []
    no_inside = record {
      placed = nothing_placed look;
      used = λ at s. let q : IsSome {T = Shelf} None = subst (λ (o : Option Shelf). IsSome o) (vacant at) s in cc;
      numbered = tt;
      pool = no_pool;
      keys = λ v a e. absurd (has_no_key v a e);
      held = λ a. (0, inr (λ v n. has_no_name v a n, refl));
      table = λ v s. absurd (has_no_entry v s);
      side = no_side list_now (links_at list_now []) (λ v. refl);
      next_side = no_side list_next (links_at list_next []) (λ v. refl);
    }
