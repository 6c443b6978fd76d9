-- One element in place of the one with its key.
use Rattle.std.proofs.Common.{◌≡◌, ◌∙◌, refl, sym, ap, subst, ℕ, zero, suc, ◌+◌, ◌<◌, ◌≤◌, Bool, true, false, not, List, [], ◌∷◌, ◌++◌}
use Rattle.std.proofs.Common.{drop, take, length, get_or, map, arith}
use Rattle.std.proofs.lemmas.Bool.{not-true}
use Rattle.std.proofs.lemmas.List.{drop_more, map_more}
use Rattle.std.specs.List.{filter}
use Rattle.std.specs.Ordering.{is_gt, is_lt}
use Rattle.ifmap_lemmas.specs.Filters.{all_around, all_filter, all_weaker, filter_passes}
use Rattle.ifmap_meta.specs.declared.metadata.Metadata.{Metadata}
use Rattle.ifmap_meta.specs.declared.stored.Life.{Life}
use Rattle.ifmap_meta.specs.declared.stored.Stored.{Stored}
use Rattle.ifmap_meta.specs.Keys.{same_key}
use Rattle.ifmap_meta.specs.Whole.{IsWhole}
use Rattle.ifmap_rows.specs.ifmap_plans.laws.ListLaws.{list_filter, list_put}
use Rattle.ifmap_view.specs.Attachments.{stored_order}
use Rattle.ifmap_publish.specs.Apply.{Authorship, stored_for, stored_of}
use Rattle.ifmap_publish.specs.OnItems.{attach_all, attach_on, update_on}
use Rattle.ifmap_publish.specs.Working.{IsSound}

pub sound_filter : (p : Stored → Bool) (list : List Stored) → IsSound list → IsSound (filter p list)
sound_filter p list s = record { keyed = list_filter p list s.keyed; whole = all_filter IsWhole p list s.whole }

pub others_rise : (row : Stored) (list : List Stored) → IsSound list → IsSound (filter (λ t. not (same_key row t)) list)
others_rise row list s = sound_filter (λ t. not (same_key row t)) list s

pub sound_attached : (row : Stored) (list : List Stored) → IsWhole row → IsSound list → IsSound (attach_on list row)
sound_attached row list w s =
    let others = filter (λ t. not (same_key row t)) list in
    let o = others_rise row list s in
    record {
      keyed = list_put row others o.keyed (all_weaker (λ t. not (same_key row t) ≡ true) (λ t. same_key row t ≡ false)
          (λ t h. not-true (same_key row t) h) others (filter_passes (λ t. not (same_key row t)) list));
      whole = all_around IsWhole (filter (λ y. is_lt (stored_order y row)) others) row (filter (λ y. is_gt (stored_order y row)) others)
          (all_filter IsWhole (λ y. is_lt (stored_order y row)) others o.whole) w
          (all_filter IsWhole (λ y. is_gt (stored_order y row)) others o.whole);
    }

-- one more of those that are attached
module _ (rows : List Stored) (i : ℕ) (row : Stored) (low : i < length rows) (at : row ≡ get_or rows i row) where
  pub attach_next : (one : Stored) (list all : List Stored) → one ≡ row → attach_all list (drop i rows) ≡ all
      → attach_all (attach_on list one) (drop (i + 1) rows) ≡ all
  attach_next one list all is so =
      let front : drop i rows ≡ row ∷ drop (i + 1) rows =
      subst (λ y. drop i rows ≡ y ∷ drop (i + 1) rows) (sym at) (drop_more rows i row low) in
      ap (λ r. attach_all (attach_on list r) (drop (i + 1) rows)) is ∙ sym (ap (attach_all list) front) ∙ so

pub attach_end : (rows : List Stored) (i : ℕ) (list all : List Stored) → length rows ≤ i → attach_all list (drop i rows) ≡ all → list ≡ all
attach_end [] zero list all l e = e
attach_end [] (suc i) list all l e = e
attach_end (row ∷ rows) zero list all l e = absurd (omega (arith, l))
attach_end (row ∷ rows) (suc i) list all l e = attach_end rows i list all (omega (arith, l)) e

-- the elements of an update are attached as they are stored
pub attached_as_stored : (by : Authorship) (forever : Bool) (ms : List Metadata) (list : List Stored)
    → attach_all list (map (stored_of by forever) ms) ≡ update_on list by forever ms
attached_as_stored by forever [] list = refl
attached_as_stored by forever (m ∷ ms) list = attached_as_stored by forever ms (attach_on list (stored_of by forever m))

-- one element more as it is stored
pub stored_more : (by : Authorship) (life : Life) (ms : List Metadata) (i : ℕ) (m : Metadata) (row : Stored) (made : List Stored)
    → i < length ms → m ≡ get_or ms i m → row ≡ stored_for by life m → made ≡ map (stored_for by life) (take i ms)
    → made ++ row ∷ [] ≡ map (stored_for by life) (take (i + 1) ms)
stored_more by life ms i m row made low at is so =
    (λ k. so k ++ is k ∷ [])
    ∙ ap (λ (n : Metadata). map (stored_for by life) (take i ms) ++ stored_for by life n ∷ []) at
    ∙ sym (map_more (stored_for by life) ms i m low)
