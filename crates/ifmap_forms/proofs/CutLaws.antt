-- A list of elements, cut out of the children of which it is one.
use Rattle.std.proofs.Common.{◌≡◌, ◌∙◌, ℕ, ◌+◌, ◌-◌, ◌<◌, ◌≤◌, suc, List, [], ◌∷◌, length, get_or}
use Rattle.std.proofs.Common.{take, drop, ap, arith, sym}
use Rattle.std.specs.List.{remove}
use Rattle.std.proofs.lemmas.List.{drop-map, drop_all, drop_more, length-drop, length-take-le, take-map, take_all}
use Rattle.std.proofs.Math.Seq.{drop-append_seam}
use Rattle.ifmap_elem.specs.declared.elements.Child.{Child, out-Child}
use Rattle.ifmap_forms.specs.Items.{before_list}
use Rattle.ifmap_forms.specs.Tables.{parts_in}

-- the children before an index are the parts before the list, where the parts are cut there
pub front_parts : (cs front : List Child) (index : ℕ) → front ≡ take index cs → take index (parts_in cs) ≡ before_list (parts_in cs)
    → parts_in front ≡ before_list (parts_in cs)
front_parts cs front index is cut = ap parts_in is ∙ (sym (take-map out-Child index cs) ∙ cut)

pub no_parts : (cs : List Child) (index : ℕ) → length cs ≤ index → drop index (parts_in cs) ≡ []
no_parts cs index high = drop-map out-Child index cs ∙ ap parts_in (drop_all index cs high)

pub list_parts : (cs left : List Child) (index : ℕ) (child : Child) → index < length cs → child ≡ get_or cs index child
    → left ≡ remove cs index → out-Child child ∷ parts_in (drop index left) ≡ drop index (parts_in cs)
list_parts cs left index child low is removed =
    let front : length (take index cs) ≡ index = length-take-le index cs (omega arith) in
    let others : drop index left ≡ drop (suc index) cs =
    (λ i. drop (sym front i) (removed i)) ∙ drop-append_seam (take index cs) (drop (suc index) cs) in
    let one : suc index ≡ index + 1 = omega arith in
    let here : drop index cs ≡ child ∷ drop (suc index) cs =
    drop_more cs index child low ∙ (λ i. sym is i ∷ drop (sym one i) cs) in
    (λ i. out-Child child ∷ parts_in (others i)) ∙ (sym (ap parts_in here) ∙ sym (drop-map out-Child index cs))

-- what follows an index, cut at the end
pub tail_whole : (cs : List Child) (index : ℕ) → take (length cs - index) (drop index cs) ≡ drop index cs
tail_whole cs index =
    let e = length-drop index cs in
    take_all (length cs - index) (drop index cs) (omega (arith, e))
