-- What a map of sets is after a change under one name.
use Rattle.std.proofs.Common.{◌≡◌, refl, ap, ◌∙◌, sym, ℕ, Bool, true, false, List, [], Option, Some, None, cond}
use Rattle.std.specs.BTreeMap.{BTreeMap, Updates, WritesThrough, get}
use Rattle.std.specs.Cmp.Lexicographic.{slice_cmp, texts_ties}
use Rattle.std.specs.Ordering.{nat_cmp}
use Rattle.std.specs.Prelude.{is_some}
use Rattle.std.specs.Str.{bytes_eq}
use Rattle.ifmap_folds.specs.Folds.{Sets, fold_item, set_under, with_entries}
use Rattle.ifmap_ident.specs.declared.codes.Code.{Code}
use Rattle.ifmap_lemmas.specs.Texts.{eq_tells}
use Rattle.ifmap_search.specs.declared.results.Entry.{Entry}
use Rattle.ifmap_search.specs.declared.results.PollItem.TheVariants as the_item
use Rattle.ifmap_client.specs.Keeping.{kept_sets, without_sets}

module _ (m n : BTreeMap (List ℕ) (List Entry)) (name : List ℕ) where
  -- a map that is updated under a name
  pub update_sets_name : (set : Option (List Entry)) → Updates (slice_cmp nat_cmp) m n name set
      → kept_sets n ≡ set_under name set (kept_sets m)
  update_sets_name set u = λ i q. (u.0 q ∙ ap (λ b. cond b set (get (slice_cmp nat_cmp) m q)) (sym (texts_ties name q))) i

  -- a map in which a set was written through what it lent
  pub write_sets_name : (old w : List Entry) (set : Option (List Entry)) → Some old ≡ get (slice_cmp nat_cmp) m name
      → WritesThrough (slice_cmp nat_cmp) (slice_cmp nat_cmp name) m w n → Some w ≡ set
      → kept_sets n ≡ set_under name set (kept_sets m)
  write_sets_name old w set found through is =
      update_sets_name (Some w) (through.3 (ap is_some (sym found))) ∙ ap (λ o. set_under name o (kept_sets m)) is

  -- a set that is begun, under a copy of its name
  pub beginning_sets_name : (key : List ℕ) (entries set : List Entry) → Updates (slice_cmp nat_cmp) m n key (Some set) → key ≡ name
      → set ≡ with_entries entries [] → kept_sets n ≡ set_under name (Some (with_entries entries [])) (kept_sets m)
  beginning_sets_name key entries set u k s =
      (λ i q. (u.0 q ∙ ap (λ b. cond b (Some set) (get (slice_cmp nat_cmp) m q)) (sym (texts_ties key q))) i)
      ∙ (λ i. set_under (k i) (Some (s i)) (kept_sets m))

-- where there is no set of a name, taking it out changes nothing
pub none_under : (sets : Sets) (name : List ℕ) → sets name ≡ None → set_under name None sets ≡ sets
none_under sets name none = λ i q. (at q (bytes_eq name q) refl) i
  where
    at : (q : List ℕ) (b : Bool) → bytes_eq name q ≡ b → cond b None (sets q) ≡ sets q
    at q true e = sym (ap sets (sym (eq_tells name q e)) ∙ none)
    at q false e = refl

-- what an error ends is what the fold says
pub error_folds : (name : Option (List ℕ)) (code : Code) (note : List ℕ) (sets : Sets)
    → without_sets name sets ≡ fold_item (the_item.Error name code note) sets
error_folds (Some name) code note sets = refl
error_folds None code note sets = refl
