-- The first list among parts, and its index among children.
use Rattle.std.proofs.Common.{◌≡◌, ◌∙◌, ℕ, ◌+◌, Bool, true, false, not, cond, List, [], ◌∷◌, None, length, take, drop, suc, refl, ap, arith, subst}
use Rattle.std.specs.List.{position, position_or_len}
use Rattle.ifmap_elem.specs.declared.elements.Child.{Child, out-Child}
use Rattle.ifmap_forms.specs.Items.{before_list, from_list, is_list}
use Rattle.ifmap_lemmas.specs.Positions.{at_place, no_place, place_is}
use Rattle.ifmap_forms.specs.Tables.{Part, parts_in}

front_step : (t : Bool) (p : Part) (ps : List Part) (n : ℕ) → take n ps ≡ before_list ps
    → take (cond (not t) (1 + n) 0) (p ∷ ps) ≡ cond t [] (p ∷ before_list ps)
front_step true p ps n e = refl
front_step false p ps n e =
    let one : 1 + n ≡ suc n = omega arith in
    ap (λ m. take m (p ∷ ps)) one ∙ ap (λ (xs : List Part). p ∷ xs) e

front : (ps : List Part) → take (position_or_len is_list ps) ps ≡ before_list ps
front [] = refl
front (p ∷ ps) = front_step (is_list p) p ps (position_or_len is_list ps) (front ps)

back_step : (t : Bool) (p : Part) (ps : List Part) (n : ℕ) → drop n ps ≡ from_list ps
    → drop (cond (not t) (1 + n) 0) (p ∷ ps) ≡ cond t (p ∷ ps) (from_list ps)
back_step true p ps n e = refl
back_step false p ps n e = let one : 1 + n ≡ suc n = omega arith in ap (λ m. drop m (p ∷ ps)) one ∙ e

back : (ps : List Part) → drop (position_or_len is_list ps) ps ≡ from_list ps
back [] = refl
back (p ∷ ps) = back_step (is_list p) p ps (position_or_len is_list ps) (back ps)

abbrev is_list_child : Child → Bool
is_list_child c = is_list (out-Child c)

part_places : (cs : List Child) → position_or_len is_list (parts_in cs) ≡ position_or_len is_list_child cs
part_places [] = refl
part_places (c ∷ cs) = ap (λ n. cond (not (is_list_child c)) (1 + n) 0) (part_places cs)

-- the index cuts the parts where the first list is
pub record IsCut (cs : List Child) (index : ℕ) : Type 0 where
  pub before : take index (parts_in cs) ≡ before_list (parts_in cs)
  pub after : drop index (parts_in cs) ≡ from_list (parts_in cs)

cut_there : (cs : List Child) (index : ℕ) → position_or_len is_list_child cs ≡ index → IsCut cs index
cut_there cs index e =
    let same : position_or_len is_list (parts_in cs) ≡ index = part_places cs ∙ e in
    record {
      before = subst (λ (n : ℕ). take n (parts_in cs) ≡ before_list (parts_in cs)) same (front (parts_in cs));
      after = subst (λ (n : ℕ). drop n (parts_in cs) ≡ from_list (parts_in cs)) same (back (parts_in cs));
    }

pub list_found : (cs : List Child) (index : ℕ) → at_place index ≡ position (λ (c : Child). is_list (out-Child c)) cs → IsCut cs index
list_found cs index h = cut_there cs index (place_is is_list_child cs index h)

pub no_list : (cs : List Child) → None ≡ position (λ (c : Child). is_list (out-Child c)) cs → IsCut cs (length cs)
no_list cs h = cut_there cs (length cs) (no_place is_list_child cs h)
