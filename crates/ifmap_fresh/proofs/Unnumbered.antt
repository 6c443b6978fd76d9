-- A search from an identifier without a number finds nothing.
use Rattle.std.proofs.Common.{◌≡◌, ◌≢◌, ℕ, zero, suc, ◌||◌, true, Option, Some, List, [], ap, ◌∙◌, sym, subst}
use Rattle.std.proofs.Common.{inl, inr}
use Rattle.std.proofs.lemmas.Bool.{and_parts, or_cases}
use Rattle.ifmap_ident.specs.declared.identifiers.Identifier.{Identifier}
use Rattle.ifmap_ident.specs.declared.items.Item.{Item}
use Rattle.ifmap_ident.specs.declared.items.Item.TheVariants.{One, Pair}
use Rattle.ifmap_ident.specs.Canon.{IsIdentifier}
use Rattle.ifmap_region.specs.Walks.{begins, goes_on}
use Rattle.ifmap_search.specs.declared.searches.Search.{Search}
use Rattle.ifmap_view.specs.declared.attachments.Attachment.{Attachment}
use Rattle.ifmap_view.specs.declared.views.LinkSeen.{LinkSeen}
use Rattle.ifmap_ident.specs.Items.{IsCanonItem}
use Rattle.ifmap_view.specs.Rows.{stored_between, stored_on}
use Rattle.ifmap_view.specs.Views.{IsView}
use Rattle.ifmap_fresh.specs.Fresh.{is_looked_at}
use Rattle.ifmap_fresh.specs.Matching.{IsMatch, is_match}
use Rattle.ifmap_fresh.specs.Reached.{is_expanded}
use Rattle.ifmap_fresh.specs.Walked.{SearchWalk}
use Rattle.ifmap_fresh.specs.laws.JoiningLaws.{match_turned, some_if_met}
use Rattle.ifmap_fresh.proofs.Levels.{expanded_walk, reached_by_walks}
use Rattle.ifmap_ident.specs.SameLaws.{BytesTellIdentifiers}

module _ (tells : BytesTellIdentifiers) (rows : List Attachment) (id_at : ℕ → Option Identifier) (links : ℕ → List LinkSeen) (s : Search)
    (is : IsView rows id_at links)
    (start : IsIdentifier s.start) (unnumbered : (v : ℕ) → id_at v ≡ Some s.start → ⊥) where
  no_match : (b : Identifier) → IsMatch rows s.match_links s.start b → ⊥
  no_match b m =
      let w = is.linked b s.start start (some_if_met s.match_links (stored_between b s.start rows)
      (match_turned rows s.match_links b s.start ∙ m))
      in unnumbered w.0 w.1

  no_walk : (k : ℕ) (a : Identifier) → SearchWalk rows s (suc k) a → ⊥
  no_walk zero a (goes_on {u = u} (begins e) t m) = no_match a (subst (λ x. IsMatch rows s.match_links x a) e m.1)
  no_walk (suc k) a (goes_on {u = u} w t m) = no_walk k u w

  from_match : (a b : Identifier) (k : ℕ) → SearchWalk rows s k a → IsMatch rows s.match_links a b → ⊥
  from_match a b zero (begins e) m = no_match b (subst (λ x. IsMatch rows s.match_links x b) e m)
  from_match a b (suc k) w m = no_walk k a w

  on_one : (a : Identifier) (k : ℕ) → SearchWalk rows s k a → stored_on (One a) rows ≢ [] → ⊥
  on_one a zero (begins e) n = let w = is.alone a (subst IsIdentifier (sym e) start) n in unnumbered w.0 (w.1 ∙ ap Some e)
  on_one a (suc k) w n = no_walk k a w

  pub finds_nothing : (x : Item) → IsCanonItem x → stored_on x rows ≢ [] → is_looked_at rows s x ≡ true → ⊥
  finds_nothing (One a) i n e = let r = (reached_by_walks tells rows is.graph.items s start a i.identifiers.0).0 e in on_one a r.0 r.2 n
  finds_nothing (Pair a b) i n e =
      let p = and_parts (is_match rows s.match_links a b) (is_expanded rows s a || is_expanded rows s b) e
      in elim (or_cases (is_expanded rows s a) (is_expanded rows s b) p.1) [
        | inl x ↦ let w = expanded_walk tells rows is.graph.items s start a i.identifiers.0 x in from_match a b w.1.0 w.1.2 p.0
        | inr x ↦ let w = expanded_walk tells rows is.graph.items s start b i.identifiers.1.0 x in from_match b a w.1.0 w.1.2
            (match_turned rows s.match_links b a ∙ p.0)
      ]
