-- Items of links and of marks, one more at a time.
use Rattle.std.proofs.Common.{◌≡◌, ℕ, ◌+◌, ◌<◌, Option, Some, List, [], ◌∷◌, ◌++◌, flat_map, length, take, get_or, slice_get}
use Rattle.std.proofs.Common.{ap, ◌∙◌, sym}
use Rattle.std.proofs.lemmas.Grind.{flat_map-append}
use Rattle.std.proofs.lemmas.List.{append-nil, take_more}
use Rattle.std.proofs.lemmas.List.Elements.{filter_map-append}
use Rattle.std.proofs.lemmas.Option.{get_or_from_slice_get, slice_get-get_or, slice_get_within}
use Rattle.std.specs.List.{cons_option, filter_map}
use Rattle.ifmap_ident.specs.declared.items.Item.{Item}
use Rattle.ifmap_view.specs.declared.views.LinkSeen.{LinkSeen}

none : LinkSeen
none = record { other = 0; at = 0 }

pub along_more : (f : Option LinkSeen → Option Item) (ls : List LinkSeen) (i : ℕ) → i < length ls
    → filter_map (λ l. f (Some l)) (take (i + 1) ls) ≡ filter_map (λ l. f (Some l)) (take i ls) ++ cons_option (f (slice_get ls i)) []
along_more f ls i h =
    ap (filter_map (λ l. f (Some l))) (take_more ls i none h)
    ∙ filter_map-append (λ l. f (Some l)) (take i ls) (get_or ls i none ∷ [])
    ∙ ap (λ o. filter_map (λ l. f (Some l)) (take i ls) ++ cons_option (f o) []) (sym (slice_get-get_or ls i none h))

pub brought_more : (f : ℕ → List Item) (ns : List ℕ) (i n : ℕ) → slice_get ns i ≡ Some n
    → flat_map f (take (i + 1) ns) ≡ flat_map f (take i ns) ++ f n
brought_more f ns i n e =
    ap (flat_map f) (take_more ns i 0 (slice_get_within ns i n e))
    ∙ flat_map-append f (take i ns) (get_or ns i 0 ∷ [])
    ∙ ap (λ l. flat_map f (take i ns) ++ l) (append-nil (f (get_or ns i 0)))
    ∙ ap (λ x. flat_map f (take i ns) ++ f x) (get_or_from_slice_get ns i n 0 e)
