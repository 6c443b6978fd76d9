-- One operation more: its name is noted, and its renaming is added.
use Rattle.std.proofs.Common.{◌≡◌, sym, ◌∙◌, ap, subst, ℕ, ◌+◌, ◌^◌, ◌<◌, ◌≤◌, true, false, not, cond, List, [], ◌∷◌, ◌++◌, length, Option, None, inl, inr, arith, append-nil, option_to_list, refl}
use Rattle.std.specs.Prelude.{nat_le}
use Rattle.std.proofs.lemmas.Bool.{and_cases, both_ways, cases_Bool, leb-false}
use Rattle.std.proofs.lemmas.List.Filters.{sum_by-filter_both}
use Rattle.std.specs.List.{AllByRecursion, list_any}
use Rattle.ifmap_changes.specs.Between.{IsSteady, seen_now}
use Rattle.ifmap_changes.specs.declared.parts.Parts.{Parts}
use Rattle.ifmap_changes.specs.ifmap_delta.SeenViews.{IsUpToDate}
use Rattle.ifmap_lemmas.specs.Mapped.{one_at_most}
use Rattle.ifmap_lemmas.specs.Members.{both_all}
use Rattle.ifmap_changes.specs.ifmap_fresh.Fresh.{fresh}
use Rattle.ifmap_changes.specs.ifmap_machine.State.{standing_in}
use Rattle.ifmap_changes.specs.ifmap_machine.Subscribing.{Told, begin_name, drop_name, is_full_for, is_of_name}
use Rattle.ifmap_changes.specs.ifmap_machine.Telling.{is_too_big, too_big_item}
use Rattle.ifmap_search.specs.declared.results.PollItem.{PollItem}
use Rattle.ifmap_search.specs.declared.results.PollItem.TheVariants as the_item
use Rattle.ifmap_search.specs.declared.searches.Search.{Search}
use Rattle.ifmap_search.specs.Sizes.{poll_size}
use Rattle.ifmap_changes.specs.ifmap_session.Sessions.{is_named}
use Rattle.ifmap_changes.specs.ifmap_session.laws.TextLaws.{text_itself}
use Rattle.ifmap_changes.specs.ifmap_standing.declared.standing.Standing.{Standing}
use Rattle.ifmap_subscribes.proofs.OfNames.{one_fewer}
use Rattle.ifmap_subscribes.proofs.Renamed.{IsTold, adds_renaming, begun_more, room_is_noted, rename_more}
use Rattle.ifmap_subscribes.specs.Readying.{AreCounted, AreReadied, CanStand, IsAdded, IsNoted, IsSmall, most_ops, told_after}
use Rattle.ifmap_subscribes.specs.Renamings.{IsNameNow, IsOfSession, starts_by, rename, rename_all}
use Rattle.ifmap_subscribes.specs.declared.names.NameNow.{NameNow}
use Rattle.ifmap_subscribes.specs.declared.readying.Readying.{Readying}
use Rattle.ifmap_subscribes.specs.declared.renamings.Renaming.{Renaming}
use Rattle.ifmap_changes.specs.ifmap_view.declared.attachments.Attachment.{Attachment}

-- what a renaming is added to may have its counts taken from
pub record CanAdd (now : NameNow) (r : Readying) : Type 0 where
  pub count : cond now.stands 1 0 ≤ r.count
  pub few : r.count ≤ 1000
  pub size : now.size ≤ r.size
  pub narrow : r.size < 2 ^ 127

-- a name was noted, of which this is so, beside what was made ready
pub record HasNoted (serial : ℕ) (t : Told) (old mid : Readying) (name : List ℕ) (now : NameNow) : Type 0 where
  pub counted : AreCounted serial t old
  pub is : IsNameNow serial name (told_after serial old t) now
  pub noted : IsNoted name now old mid

module _ {serial : ℕ} {t : Told} {old mid : Readying} {name : List ℕ} {now : NameNow} (h : HasNoted serial t old mid name now) where
  mid_told : told_after serial mid t ≡ told_after serial old t
  mid_told = ap (λ rs. rename_all serial rs t) h.noted.made

  mid_now : IsNameNow serial name (told_after serial mid t) now
  mid_now = subst (λ u. IsNameNow serial name u now) (sym mid_told) h.is

  mid_counted : AreCounted serial t mid
  mid_counted = room_is_noted serial t old mid h.counted name now h.noted h.is

  pub can_add : CanAdd now mid
  can_add =
      let u = told_after serial mid t in
      let k = mid_counted in
      let one : cond {A = ℕ} now.stands 1 0 ≡ cond (list_any (is_of_name serial name) u.standing) 1 0
      = ap (λ b. cond b 1 0) mid_now.stands in
      record {
        count = omega (arith, one, k.count, one_fewer serial name u.standing k.rising);
        few = k.few;
        size =
            let parts = sum_by-filter_both (is_named name) (λ item. not (is_named name item)) (λ item. refl) poll_size u.queue in
            omega (arith, mid_now.size, k.size, parts);
        narrow = omega (arith, k.narrow, k.most);
      }

  -- where only a name is noted, what was made ready is so still
  pub readied_noted : (p : Parts) → CanStand serial p old.made.items → AreReadied serial t p mid
  readied_noted p s = record { stand = subst (λ rs. CanStand serial p rs) (sym h.noted.made) s; counted = mid_counted }

  -- the renaming is added
  module _ {new : Readying} {r : Renaming} (a : IsAdded now r mid new) where
    pub told_more : told_after serial new t ≡ rename serial r (told_after serial old t)
    told_more = ap (λ rs. rename_all serial rs t) a.made ∙ rename_more serial mid.made.items r t ∙ ap (rename serial r) mid_told

    pub begun_more_told : (rows : List Attachment) (begun : List ℕ) (search : Search)
        → ((u : Told) → rename serial r u ≡ begin_name rows serial begun search (drop_name serial begun u))
        → begin_name rows serial begun search (drop_name serial begun (told_after serial old t)) ≡ told_after serial new t
    begun_more_told rows begun search e = sym (told_more ∙ e (told_after serial old t))

    made_more : new.made.items ≡ old.made.items ++ r ∷ []
    made_more = a.made ∙ ap (λ rs. rs ++ r ∷ []) h.noted.made

    counted_more : r.name ≡ name → IsOfSession serial r → IsTold r → IsSmall r → length mid.made.items < most_ops
        → (now.stands ≡ false → old.count + length (option_to_list r.standing) ≤ 1000) → AreCounted serial t new
    counted_more same s told small few room =
        adds_renaming serial t mid new mid_counted now r s told a
        (subst (λ x. IsNameNow serial x (told_after serial mid t) now) (sym same) mid_now)
        small few (λ free. omega (arith, room free, h.noted.count))

    pub readied_more : (p : Parts) → r.name ≡ name → IsOfSession serial r → IsTold r → IsSmall r → length mid.made.items < most_ops
        → (now.stands ≡ false → old.count + length (option_to_list r.standing) ≤ 1000)
        → CanStand serial p (old.made.items ++ r ∷ []) → AreReadied serial t p new
    readied_more p same s told small few room stand = record {
      stand = subst (λ rs. CanStand serial p rs) (sym made_more) stand;
      counted = counted_more same s told small few room;
    }

-- a renaming that ends a subscription
abbrev end_name : List ℕ → Renaming
end_name name = record { name = name; item = None; standing = None }

pub stand_none : (serial : ℕ) (p : Parts) (made : List Renaming) (name : List ℕ) → CanStand serial p made
    → CanStand serial p (made ++ end_name name ∷ [])
stand_none serial p made name c =
    let same : starts_by (made ++ end_name name ∷ []) ≡ starts_by made = begun_more made (end_name name) ∙ append-nil (starts_by made) in
    record {
      session = both_all (IsOfSession serial) made (end_name name ∷ []) c.session (tt, tt);
      steady = subst (λ xs. IsSteady p.graph (p.standing.items ++ xs)) (sym same) c.steady;
      kept = subst (λ xs. AllByRecursion (λ (x : Standing). IsUpToDate (seen_now p.graph) x.subscription) xs) (sym same) c.kept;
    }

pub ending_drops : (serial : ℕ) (name : List ℕ) (u : Told) → drop_name serial name u ≡ rename serial (end_name name) u
ending_drops serial name u =
    ap (λ q. told_with q) (sym (append-nil (drop_name serial name u).queue))
  where
    told_with : List PollItem → Told
    told_with q = record { queue = q; standing = (drop_name serial name u).standing }

-- a renaming that begins a subscription is told of by an item of its name
items_named : (rows : List Attachment) (serial : ℕ) (name : List ℕ) (search : Search) (items : List PollItem)
    → items ≡ (begin_name rows serial name search (record { queue = []; standing = [] })).queue
    → AllByRecursion (λ item. is_named name item ≡ true) items
items_named rows serial name search items e =
    elim (cases_Bool (is_too_big rows search)) [
      | inl big ↦
          let one : items ≡ too_big_item name rows search ∷ [] = rw big at e in
          subst (AllByRecursion (λ item. is_named name item ≡ true)) (sym one) (text_itself name, tt)
      | inr small ↦
          let one : items ≡ the_item.Search name (fresh rows search) ∷ [] = rw small at e in
          subst (AllByRecursion (λ item. is_named name item ≡ true)) (sym one) (text_itself name, tt)
    ]

pub begun_told : (rows : List Attachment) (serial : ℕ) (name : List ℕ) (search : Search) (r : Renaming) → r.name ≡ name
    → ((t : Told) → rename serial r t ≡ begin_name rows serial name search (drop_name serial name t)) → IsTold r
begun_told rows serial name search r same begun =
    subst (λ x. AllByRecursion (λ item. is_named x item ≡ true) (option_to_list r.item)) (sym same)
    (items_named rows serial name search (option_to_list r.item)
    (ap (λ (u : Told). u.queue) (begun (record { queue = []; standing = [] }))))

-- where a session is not full, there is room for a name that does not stand
pub room_for : (serial : ℕ) (name : List ℕ) (t : Told) (r : Readying) (now : NameNow) → AreCounted serial t r
    → IsNameNow serial name (told_after serial r t) now → is_full_for serial name (told_after serial r t).standing ≡ false
    → {X : Type 0} (o : Option X) → now.stands ≡ false → r.count + length (option_to_list o) ≤ 1000
room_for serial name t r now c is free o new =
    let none : list_any (is_of_name serial name) (told_after serial r t).standing ≡ false = sym is.stands ∙ new in
    elim (and_cases (nat_le 1000 (length (standing_in serial (told_after serial r t).standing)))
    (not (list_any (is_of_name serial name) (told_after serial r t).standing)) free) [
      | inl less ↦
          let few = leb-false 1000 (length (standing_in serial (told_after serial r t).standing)) less in
          omega (arith, few, c.count, one_at_most o)
      | inr stood ↦ absurd (both_ways (not (list_any (is_of_name serial name) (told_after serial r t).standing)) stood (ap not none))
    ]
