-- What is told of notified elements.
use Rattle.std.specs.Prelude.{Bool, ◌&&◌, ◌||◌, List, map}
use Rattle.std.specs.List.{filter}
use Rattle.ifmap_elem.specs.declared.elements.Element.{Element}
use Rattle.ifmap_fresh.specs.ifmap_filter.Meets.{meets_optional}
use Rattle.ifmap_ident.specs.declared.items.Item.{Item}
use Rattle.ifmap_ident.specs.declared.items.Item.TheVariants.{One, Pair}
use Rattle.ifmap_plans.specs.declared.plans.Note.{Note}
use Rattle.ifmap_fresh.specs.ifmap_search.declared.results.Entry.{Entry}
use Rattle.ifmap_fresh.specs.ifmap_search.declared.searches.Search.{Search}
use Rattle.ifmap_fresh.specs.ifmap_view.declared.attachments.Attachment.{Attachment}
use Rattle.ifmap_fresh.specs.Matching.{is_match}
use Rattle.ifmap_fresh.specs.Reached.{is_expanded, is_reached}

-- by the attachments after the change
module _ (after : List Attachment) (s : Search) where
  -- what is notified on the item counts: the identifier is reached, or an end of the link is expanded and the link matches
  -- with the notified element added
  abbrev pub counts_on : Item → Element → Bool
  counts_on (One a) element = is_reached after s a
  counts_on (Pair a b) element = (is_expanded after s a || is_expanded after s b)
      && (is_match after s.match_links a b || meets_optional s.match_links element)

  abbrev pub is_told : Note → Bool
  is_told note = meets_optional s.result_filter note.element && counts_on note.item note.element

  -- the notes that are told, in their order
  abbrev pub told_notes : List Note → List Entry
  told_notes notes = map (λ n. record { item = n.item; element = n.element }) (filter is_told notes)
