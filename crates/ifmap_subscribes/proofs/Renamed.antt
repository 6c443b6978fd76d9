-- What one renaming more makes of what is to be told and of the subscriptions, and of what is kept of it.
-- First: renamings in a row, and one more. Then: the subscriptions after a renaming, by the one that is to stand. Then: the queue after
-- it, by the item that is to be told. Last: what is kept is so still where one renaming more is added (`adds_renaming`), and where only
-- what is so of a name is noted (`room_is_noted`).
use Rattle.std.proofs.Common.{◌≡◌, ◌≢◌, refl, sym, ◌∙◌, ap, subst, ℕ, ◌+◌, ◌-◌, ◌^◌, ◌<◌, ◌≤◌, true, false, not, cond, List, [], ◌∷◌, ◌++◌, length, Option, None, Some, is_some, inl, inr, arith, append-nil, length-append, option_to_list}
use Rattle.std.proofs.lemmas.Bool.{cases_Bool, false_from_ne_true}
use Rattle.std.proofs.lemmas.List.Concat.{flat_map-append}
use Rattle.std.proofs.lemmas.List.Elements.{filter-append}
use Rattle.std.proofs.lemmas.List.Filters.{sum_by-filter_both}
use Rattle.std.proofs.lemmas.List.Kept.{IsStrictlySortedBy-filter}
use Rattle.std.proofs.lemmas.List.Sums.{sum_by-append}
use Rattle.std.specs.BTreeMap.{get}
use Rattle.std.specs.Cmp.Lexicographic.{slice_cmp}
use Rattle.std.specs.List.{AllByRecursion, filter, list_any}
use Rattle.std.specs.List.Sorted.{IsStrictlySortedBy}
use Rattle.std.specs.Ordering.{nat_cmp}
use Rattle.ifmap_lemmas.specs.AnyOf.{none_of_others}
use Rattle.ifmap_lemmas.specs.Deciding.{same_or_not}
use Rattle.ifmap_lemmas.specs.Filters.{all_weaker, filter_all, filter_none}
use Rattle.ifmap_lemmas.specs.Mapped.{one_at_most}
use Rattle.ifmap_lemmas.specs.Parted.{filter_within, none_within}
use Rattle.ifmap_changes.specs.ifmap_machine.State as machine
use Rattle.ifmap_changes.specs.ifmap_machine.State.{standing_in, standing_order}
use Rattle.ifmap_changes.specs.ifmap_machine.Subscribing.{Told, is_of_name}
use Rattle.ifmap_changes.specs.ifmap_plans.laws.PlacingLaws.{put_sorted}
use Rattle.ifmap_search.specs.declared.results.PollItem.{PollItem}
use Rattle.ifmap_search.specs.Sizes.{poll_size, queue_size}
use Rattle.ifmap_changes.specs.ifmap_session.Sessions.{is_named}
use Rattle.ifmap_changes.specs.ifmap_standing.Standing.{standing_of}
use Rattle.ifmap_changes.specs.ifmap_standing.declared.standing.Standing.{Standing}
use Rattle.ifmap_changes.specs.ifmap_machine.OrderLaws.{standing_total}
use Rattle.ifmap_subscribes.proofs.OfNames.{named_once, not_named_other, one_fewer, one_more, others_beside, others_stand, put_stands}
use Rattle.ifmap_subscribes.specs.Readying.{AreCounted, IsAdded, IsNameBefore, IsNoted, IsSmall, most_ops, now_of, told_after}
use Rattle.ifmap_subscribes.specs.Renamings.{IsNameNow, IsOfSession, starts_by, rename, rename_all, stand_where}
use Rattle.ifmap_subscribes.specs.declared.names.NameNow.{NameNow}
use Rattle.ifmap_subscribes.specs.declared.readying.Readying.{Readying}
use Rattle.ifmap_subscribes.specs.declared.renamings.Renaming.{Renaming}

-- renamings in a row, and one more
pub rename_more : (serial : ℕ) (rs : List Renaming) (r : Renaming) (t : Told)
    → rename_all serial (rs ++ r ∷ []) t ≡ rename serial r (rename_all serial rs t)
rename_more serial [] r t = refl
rename_more serial (x ∷ rs) r t = rename_more serial rs r (rename serial x t)

pub begun_more : (rs : List Renaming) (r : Renaming) → starts_by (rs ++ r ∷ []) ≡ starts_by rs ++ option_to_list r.standing
begun_more rs r =
    flat_map-append (λ (x : Renaming). option_to_list x.standing) rs (r ∷ [])
    ∙ ap (λ xs. starts_by rs ++ xs) (append-nil (option_to_list r.standing))

-- the subscriptions after a renaming
module _ (serial : ℕ) (name : List ℕ) where
  abbrev others_of : List machine.Standing → List machine.Standing
  others_of xs = filter (λ x. not (is_of_name serial name x)) xs

  abbrev IsOwned : Option Standing → Type 0
  IsOwned o = AllByRecursion (λ (x : Standing). (x.serial ≡ serial) × (x.name ≡ name)) (option_to_list o)

  stands_after : (o : Option Standing) → IsOwned o → (xs : List machine.Standing)
      → is_some o ≡ list_any (is_of_name serial name) (stand_where o (others_of xs))
  stands_after None h xs = sym (none_of_others (is_of_name serial name) xs)
  stands_after (Some x) h xs = sym (put_stands serial name (standing_of x) h.0.0 h.0.1 (others_of xs))

  others_after : (o : Option Standing) → IsOwned o → (other : List ℕ) (xs : List machine.Standing) → other ≢ name
      → list_any (is_of_name serial other) (stand_where o (others_of xs)) ≡ list_any (is_of_name serial other) xs
  others_after None h other xs apart = others_stand serial name other xs apart
  others_after (Some x) h other xs apart =
      others_beside serial name (standing_of x) h.0.0 h.0.1 other (others_of xs) apart ∙ others_stand serial name other xs apart

  more_after : (o : Option Standing) → IsOwned o → (xs : List machine.Standing)
      → length (standing_in serial (stand_where o (others_of xs))) ≡ length (standing_in serial (others_of xs)) + length (option_to_list o)
  more_after None h xs = omega arith
  more_after (Some x) h xs = one_more serial name (standing_of x) h.0.0 h.0.1 xs

  count_after : (o : Option Standing) → IsOwned o → (xs : List machine.Standing) → IsStrictlySortedBy standing_order xs
      → length (standing_in serial (stand_where o (others_of xs))) + cond (list_any (is_of_name serial name) xs) 1 0
      ≡ length (standing_in serial xs) + length (option_to_list o)
  count_after o h xs up = omega (arith, more_after o h xs, one_fewer serial name xs up)

  rising_after : (o : Option Standing) (xs : List machine.Standing) → IsStrictlySortedBy standing_order xs
      → IsStrictlySortedBy standing_order (stand_where o (others_of xs))
  rising_after None xs up = IsStrictlySortedBy-filter standing_order (λ x. not (is_of_name serial name x)) xs up
  rising_after (Some x) xs up =
      put_sorted machine.Standing standing_order standing_total (standing_of x) (others_of xs)
      (IsStrictlySortedBy-filter standing_order (λ y. not (is_of_name serial name y)) xs up)

-- the queue after a renaming
module _ (name : List ℕ) (items : List PollItem) where
  abbrev Own : Type 0
  Own = AllByRecursion (λ item. is_named name item ≡ true) items

  abbrev after : List PollItem → List PollItem
  after queue = filter (λ item. not (is_named name item)) queue ++ items

  named_after : Own → (queue : List PollItem) → filter (is_named name) (after queue) ≡ items
  named_after own queue =
      filter-append (is_named name) (filter (λ item. not (is_named name item)) queue) items
      ∙ ap (λ xs. xs ++ filter (is_named name) items) (none_within (is_named name) queue)
      ∙ filter_all (is_named name) items own

  others_told : Own → (other : List ℕ) (queue : List PollItem) → other ≢ name
      → filter (is_named other) (after queue) ≡ filter (is_named other) queue
  others_told own other queue apart =
      let none = filter_none (is_named other) items (all_weaker (λ item. is_named name item ≡ true) (λ item. is_named other item ≡ false)
      (λ item h. false_from_ne_true (is_named other item) (λ k. apart (named_once other name item k h))) items own) in
      filter-append (is_named other) (filter (λ item. not (is_named name item)) queue) items
      ∙ ap (λ xs. filter (is_named other) (filter (λ item. not (is_named name item)) queue) ++ xs) none
      ∙ append-nil (filter (is_named other) (filter (λ item. not (is_named name item)) queue))
      ∙ filter_within (is_named other) (λ item. not (is_named name item)) (λ item h. not_named_other name other item apart h) queue

  size_after : (queue : List PollItem)
      → queue_size (after queue) + queue_size (filter (is_named name) queue) ≡ queue_size queue + queue_size items
  size_after queue =
      let both = sum_by-append poll_size (filter (λ item. not (is_named name item)) queue) items in
      omega (arith, both, sum_by-filter_both (is_named name) (λ item. not (is_named name item)) (λ item. refl) poll_size queue)

-- a renaming is told of by an item of its name
abbrev pub IsTold : Renaming → Type 0
IsTold r = AllByRecursion (λ item. is_named r.name item ≡ true) (option_to_list r.item)

-- its item is of a size that is counted
small_size : (o : Option PollItem) → AllByRecursion (λ item. poll_size item < 2 ^ 64 - 1) (option_to_list o)
    → queue_size (option_to_list o) < 2 ^ 64 - 1
small_size None h = omega arith
small_size (Some item) h = omega (arith, h.0)

module _ (serial : ℕ) (t : Told) (old new : Readying) (c : AreCounted serial t old) where
  -- one renaming more
  module _ (now : NameNow) (r : Renaming) (s : IsOfSession serial r) (told : IsTold r) (a : IsAdded now r old new)
      (is : IsNameNow serial r.name (told_after serial old t) now) where
    after_is : told_after serial new t ≡ rename serial r (told_after serial old t)
    after_is = ap (λ rs. rename_all serial rs t) a.made ∙ rename_more serial old.made.items r t

    now_after : IsNameNow serial r.name (rename serial r (told_after serial old t)) (now_of r)
    now_after = record {
      stands = stands_after serial r.name r.standing s (told_after serial old t).standing;
      size = ap queue_size (sym (named_after r.name (option_to_list r.item) told (told_after serial old t).queue));
    }

    stands_other : (other : List ℕ) → other ≢ r.name
        → list_any (is_of_name serial other) (rename serial r (told_after serial old t)).standing
        ≡ list_any (is_of_name serial other) (told_after serial old t).standing
    stands_other other apart = others_after serial r.name r.standing s other (told_after serial old t).standing apart

    told_other : (other : List ℕ) → other ≢ r.name → filter (is_named other) (rename serial r (told_after serial old t)).queue
        ≡ filter (is_named other) (told_after serial old t).queue
    told_other other apart = others_told r.name (option_to_list r.item) told other (told_after serial old t).queue apart

    names_after : (name : List ℕ) (v : NameNow) → get (slice_cmp nat_cmp) new.names name ≡ Some v
        → IsNameNow serial name (rename serial r (told_after serial old t)) v
    names_after name v e =
        elim (same_or_not name r.name) [
          | inl same ↦
              let there : Some v ≡ Some (now_of r) = sym e ∙ ap (get (slice_cmp nat_cmp) new.names) same ∙ a.name in
              let is_now : v ≡ now_of r = cc in
              subst (λ n. IsNameNow serial n (rename serial r (told_after serial old t)) v) (sym same)
              (subst (λ w. IsNameNow serial r.name (rename serial r (told_after serial old t)) w) (sym is_now) now_after)
          | inr apart ↦
              let was = c.names name v (sym (a.others name apart) ∙ e) in
              record {
                stands = was.stands ∙ sym (stands_other name apart);
                size = was.size ∙ ap queue_size (sym (told_other name apart));
              }
        ]

    others_before : (name : List ℕ) → get (slice_cmp nat_cmp) new.names name ≡ None
        → IsNameBefore serial name t (rename serial r (told_after serial old t))
    others_before name e =
        elim (same_or_not name r.name) [
          | inl same ↦
              let there : None ≡ Some (now_of r) = sym e ∙ ap (get (slice_cmp nat_cmp) new.names) same ∙ a.name in
              cc
          | inr apart ↦
              let was = c.others name (sym (a.others name apart) ∙ e) in
              record {
                stands = stands_other name apart ∙ was.stands;
                queue = told_other name apart ∙ was.queue;
              }
        ]

    count_is : new.count ≡ length (standing_in serial (rename serial r (told_after serial old t)).standing)
    count_is =
        let now_count : cond {A = ℕ} now.stands 1 0 ≡ cond (list_any (is_of_name serial r.name) (told_after serial old t).standing) 1 0
        = ap (λ b. cond b 1 0) is.stands in
        omega (arith, count_after serial r.name r.standing s (told_after serial old t).standing c.rising, a.count, c.count, now_count)

    size_is : new.size ≡ queue_size (rename serial r (told_after serial old t)).queue
    size_is = omega (arith, size_after r.name (option_to_list r.item) (told_after serial old t).queue, a.size, c.size, is.size)

    few_are : (now.stands ≡ false → old.count + length (option_to_list r.standing) ≤ 1000) → new.count ≤ 1000
    few_are room =
        elim (cases_Bool now.stands) [
          | inl stood ↦
              let one : cond {A = ℕ} now.stands 1 0 ≡ 1 = ap (λ b. cond b 1 0) stood in
              omega (arith, one, a.count, c.few, one_at_most r.standing)
          | inr new_one ↦
              let none : cond {A = ℕ} now.stands 1 0 ≡ 0 = ap (λ b. cond b 1 0) new_one in
              omega (arith, none, a.count, room new_one)
        ]

    pub adds_renaming : IsSmall r → length old.made.items < most_ops
        → (now.stands ≡ false → old.count + length (option_to_list r.standing) ≤ 1000)
        → AreCounted serial t new
    adds_renaming small most room =
        let long : length new.made.items ≡ length old.made.items + 1 = ap length a.made ∙ length-append old.made.items (r ∷ []) in
        record {
          rising = subst (λ u. IsStrictlySortedBy standing_order u.standing) (sym after_is)
              (rising_after serial r.name r.standing (told_after serial old t).standing c.rising);
          names = λ name v e. subst (λ u. IsNameNow serial name u v) (sym after_is) (names_after name v e);
          others = λ name e. subst (λ u. IsNameBefore serial name t u) (sym after_is) (others_before name e);
          count = count_is ∙ ap (λ u. length (standing_in serial u.standing)) (sym after_is);
          few = few_are room;
          size = size_is ∙ ap (λ u. queue_size u.queue) (sym after_is);
          narrow = omega (arith, long, a.size, c.narrow, small_size r.item small);
          most = omega (arith, long, most);
        }

  -- only what is so of a name is noted
  module _ (name : List ℕ) (now : NameNow) (a : IsNoted name now old new) (is : IsNameNow serial name (told_after serial old t) now) where
    same_told : told_after serial new t ≡ told_after serial old t
    same_told = ap (λ rs. rename_all serial rs t) a.made

    names_noted : (other : List ℕ) (v : NameNow) → get (slice_cmp nat_cmp) new.names other ≡ Some v
        → IsNameNow serial other (told_after serial old t) v
    names_noted other v e =
        elim (a.names other) [
          | inl same ↦ c.names other v (sym same ∙ e)
          | inr one ↦
              let there : Some v ≡ Some now = sym e ∙ one.1 in
              let is_now : v ≡ now = cc in
              subst (λ n. IsNameNow serial n (told_after serial old t) v) (sym one.0)
              (subst (λ w. IsNameNow serial name (told_after serial old t) w) (sym is_now) is)
        ]

    others_noted : (other : List ℕ) → get (slice_cmp nat_cmp) new.names other ≡ None → IsNameBefore serial other t (told_after serial old t)
    others_noted other e =
        elim (a.names other) [
          | inl same ↦ c.others other (sym same ∙ e)
          | inr one ↦ let there : None ≡ Some now = sym e ∙ one.1 in cc
        ]

    pub room_is_noted : AreCounted serial t new
    room_is_noted =
        let long = ap length a.made in
        record {
          rising = subst (λ u. IsStrictlySortedBy standing_order u.standing) (sym same_told) c.rising;
          names = λ other v e. subst (λ u. IsNameNow serial other u v) (sym same_told) (names_noted other v e);
          others = λ other e. subst (λ u. IsNameBefore serial other t u) (sym same_told) (others_noted other e);
          count = a.count ∙ c.count ∙ ap (λ u. length (standing_in serial u.standing)) (sym same_told);
          few = omega (arith, a.count, c.few);
          size = a.size ∙ c.size ∙ ap (λ u. queue_size u.queue) (sym same_told);
          narrow = omega (arith, long, a.size, c.narrow);
          most = omega (arith, long, c.most);
        }
