-- What a client folds of what it is told, item by item.
-- First: an item that names another subscription changes nothing at a name (`other_stays`, `others_stay`), and what stands at a name
-- after an item depends on what stands there before it alone (`item_local`, `items_local`, `dropped_stay`). Then: what one
-- subscription is told of a change makes its set the fresh result after it (`told_own`), and so does what all of a session are told
-- (`told_all`).
use Rattle.std.proofs.Common.{◌≡◌, refl, sym, ◌∙◌, ap, subst, ℕ, true, false, not, cond, List, [], ◌∷◌, ◌++◌, Option, None}
use Rattle.std.proofs.Common.{Some, inl, inr, flat_map, option_map, unwrap_or}
use Rattle.std.proofs.lemmas.Bool.{cases_Bool}
use Rattle.std.specs.List.{AllByRecursion, filter}
use Rattle.std.specs.List.Sorted.{IsStrictlySortedBy}
use Rattle.std.specs.Str.{bytes_eq}
use Rattle.std.specs.declared.cmp.Ordering.TheVariants.{Less, Equal}
use Rattle.ifmap_folds.specs.Differences.{difference}
use Rattle.ifmap_folds.specs.Folds.{Sets, fold_item, fold_items, with_entries}
use Rattle.ifmap_folds.specs.Notes.{told_notes}
use Rattle.ifmap_folds.specs.ifmap_fresh.Fresh.{fresh}
use Rattle.ifmap_lemmas.specs.Having.{Has}
use Rattle.ifmap_lemmas.specs.Members.{both_all}
use Rattle.ifmap_machine.specs.State.{Standing, standing_order}
use Rattle.ifmap_machine.specs.Telling.{is_too_big, item_if_any, told_to}
use Rattle.ifmap_folds.specs.ifmap_plans.declared.plans.Note.{Note}
use Rattle.ifmap_replies.specs.ifmap_search.declared.results.Entry.{Entry}
use Rattle.ifmap_replies.specs.ifmap_search.declared.results.PollItem.{PollItem}
use Rattle.ifmap_replies.specs.ifmap_search.declared.results.PollItem.TheVariants as the_item
use Rattle.ifmap_replies.specs.ifmap_search.declared.searches.Search.{Search}
use Rattle.ifmap_session.specs.Sessions.{is_named, is_same_text}
use Rattle.ifmap_session.specs.laws.TextLaws.{text_flip, text_is, text_itself}
use Rattle.ifmap_publish.specs.ifmap_view.declared.attachments.Attachment.{Attachment}
use Rattle.ifmap_folds.specs.laws.FoldingLaws.{difference_none}
use Rattle.ifmap_machine.specs.OrderLaws.{order_same}

pub fold_joined : (items more : List PollItem) (sets : Sets) → fold_items (items ++ more) sets ≡ fold_items more (fold_items items sets)
fold_joined [] more sets = refl
fold_joined (item ∷ items) more sets = fold_joined items more (fold_item item sets)

-- ---- other names

-- what is set under a name is not seen under another
other_set : (m n : List ℕ) (new old : Option (List Entry)) → is_same_text m n ≡ false → cond (bytes_eq m n) new old ≡ old
other_set m n new old other = rw other refl

unlike_by_same : (own m n : List ℕ) → is_same_text own m ≡ true → is_same_text m n ≡ false → is_same_text own n ≡ false
unlike_by_same own m n named other = subst (λ t. is_same_text t n ≡ false) (sym (text_is own m named)) other

pub other_stays : (item : PollItem) (sets : Sets) (m n : List ℕ) → is_named m item ≡ true → is_same_text m n ≡ false
    → fold_item item sets n ≡ sets n
other_stays (the_item.Search own entries) sets m n named other = other_set own n _ (sets n) (unlike_by_same own m n named other)
other_stays (the_item.Update own entries) sets m n named other = other_set own n _ (sets n) (unlike_by_same own m n named other)
other_stays (the_item.Delete own entries) sets m n named other = other_set own n _ (sets n) (unlike_by_same own m n named other)
other_stays (the_item.Notify own entries) sets m n named other = refl
other_stays (the_item.Error None code note) sets m n named other = let bad : false ≡ true = named in cc
other_stays (the_item.Error (Some own) code note) sets m n named other = other_set own n _ (sets n) (unlike_by_same own m n named other)

pub others_stay : (items : List PollItem) (sets : Sets) (m n : List ℕ) → AllByRecursion (λ i. is_named m i ≡ true) items
    → is_same_text m n ≡ false → fold_items items sets n ≡ sets n
others_stay [] sets m n named other = refl
others_stay (item ∷ items) sets m n named other =
    others_stay items (fold_item item sets) m n named.1 other ∙ other_stays item sets m n named.0 other

-- ---- one name

-- what is set under a name, by what stood there
local_set : (own n : List ℕ) (f : Option (List Entry) → Option (List Entry)) (sets other : Sets) → sets n ≡ other n
    → cond (bytes_eq own n) (f (sets own)) (sets n) ≡ cond (bytes_eq own n) (f (other own)) (other n)
local_set own n f sets other same =
    elim (cases_Bool (is_same_text own n)) [
      | inl hit ↦
          let there : sets own ≡ other own = subst (λ t. sets t ≡ other t) (sym (text_is own n hit)) same in
          rw hit (ap f there)
      | inr miss ↦ rw miss same
    ]

pub item_local : (item : PollItem) (sets other : Sets) (n : List ℕ) → sets n ≡ other n → fold_item item sets n ≡ fold_item item other n
item_local (the_item.Search own entries) sets other n same =
    local_set own n (λ _. Some (with_entries entries [])) sets other same
item_local (the_item.Update own entries) sets other n same =
    local_set own n (λ set. Some (with_entries entries (unwrap_or set []))) sets other same
item_local (the_item.Delete own entries) sets other n same =
    local_set own n (option_map (λ set. difference set entries)) sets other same
item_local (the_item.Notify own entries) sets other n same = same
item_local (the_item.Error None code note) sets other n same = refl
item_local (the_item.Error (Some own) code note) sets other n same = local_set own n (λ _. None) sets other same

pub items_local : (items : List PollItem) (sets other : Sets) (n : List ℕ) → sets n ≡ other n
    → fold_items items sets n ≡ fold_items items other n
items_local [] sets other n same = same
items_local (item ∷ items) sets other n same =
    items_local items (fold_item item sets) (fold_item item other) n (item_local item sets other n same)

-- items of another name can be left out
pub dropped_stay : (items : List PollItem) (sets other : Sets) (m n : List ℕ) → is_same_text m n ≡ false → sets n ≡ other n
    → fold_items (filter (λ item. not (is_named m item)) items) sets n ≡ fold_items items other n
dropped_stay [] sets other m n apart same = same
dropped_stay (item ∷ items) sets other m n apart same =
    elim (cases_Bool (is_named m item)) [
      | inl hit ↦ rw hit (dropped_stay items sets (fold_item item other) m n apart
          (same ∙ sym (other_stays item other m n hit apart)))
      | inr miss ↦ rw miss (dropped_stay items (fold_item item sets) (fold_item item other) m n apart
          (item_local item sets other n same))
    ]

-- ---- what one subscription is told

where_named : (name : List ℕ) (item : List Entry → PollItem) → ((entries : List Entry) → is_named name (item entries) ≡ true)
    → (entries : List Entry) → AllByRecursion (λ i. is_named name i ≡ true) (item_if_any item entries)
where_named name item named [] = tt
where_named name item named (e ∷ entries) = (named (e ∷ entries), tt)

pub told_named : (before after : List Attachment) (notes : List Note) (x : Standing)
    → AllByRecursion (λ i. is_named x.name i ≡ true) (told_to before after notes x)
told_named before after notes x =
    let own = text_itself x.name in
    let a : List Entry = fresh before x.search in
    let b : List Entry = fresh after x.search in
    elim (cases_Bool (is_too_big after x.search)) [
      | inl hit ↦ rw hit (own, tt)
      | inr miss ↦ rw miss (both_all (λ i. is_named x.name i ≡ true) (item_if_any (the_item.Delete x.name) (difference a b)) _
          (where_named x.name (the_item.Delete x.name) (λ entries. own) (difference a b))
          (both_all (λ i. is_named x.name i ≡ true) (item_if_any (the_item.Update x.name) (difference b a)) _
          (where_named x.name (the_item.Update x.name) (λ entries. own) (difference b a))
          (where_named x.name (the_item.Notify x.name) (λ entries. own) (told_notes after x.search notes))))
    ]

own_set : (n : List ℕ) (new old : Option (List Entry)) → cond (bytes_eq n n) new old ≡ new
own_set n new old = let own : is_same_text n n ≡ true = text_itself n in rw own refl

delete_folds : (name : List ℕ) (entries : List Entry) (sets : Sets) (a : List Entry) → sets name ≡ Some a
    → fold_items (item_if_any (the_item.Delete name) entries) sets name ≡ Some (difference a entries)
delete_folds name [] sets a is = is ∙ ap Some (sym (difference_none a))
delete_folds name (e ∷ entries) sets a is =
    own_set name (option_map (λ set. difference set (e ∷ entries)) (sets name)) (sets name)
    ∙ ap (option_map (λ set. difference set (e ∷ entries))) is

update_folds : (name : List ℕ) (entries : List Entry) (sets : Sets) (a : List Entry) → sets name ≡ Some a
    → fold_items (item_if_any (the_item.Update name) entries) sets name ≡ Some (with_entries entries a)
update_folds name [] sets a is = is
update_folds name (e ∷ entries) sets a is =
    own_set name (Some (with_entries (e ∷ entries) (unwrap_or (sets name) []))) (sets name)
    ∙ ap (λ set. Some (with_entries (e ∷ entries) (unwrap_or set []))) is

notify_folds : (name : List ℕ) (entries : List Entry) (sets : Sets)
    → fold_items (item_if_any (the_item.Notify name) entries) sets name ≡ sets name
notify_folds name [] sets = refl
notify_folds name (e ∷ entries) sets = refl

-- one result, then what went and what came, makes the other
abbrev pub Folds : List Attachment → List Attachment → Search → Type 0
Folds before after s =
    with_entries (difference (fresh after s) (fresh before s)) (difference (fresh before s) (difference (fresh before s) (fresh after s)))
    ≡ fresh after s

pub told_own : (before after : List Attachment) (notes : List Note) (x : Standing) (sets : Sets) → Folds before after x.search
    → is_too_big after x.search ≡ false → sets x.name ≡ Some (fresh before x.search)
    → fold_items (told_to before after notes x) sets x.name ≡ Some (fresh after x.search)
told_own before after notes x sets folds fits is =
    let a : List Entry = fresh before x.search in
    let b : List Entry = fresh after x.search in
    let gone : List PollItem = item_if_any (the_item.Delete x.name) (difference a b) in
    let come : List PollItem = item_if_any (the_item.Update x.name) (difference b a) in
    let heard : List PollItem = item_if_any (the_item.Notify x.name) (told_notes after x.search notes) in
    let first = delete_folds x.name (difference a b) sets a is in
    let second = update_folds x.name (difference b a) (fold_items gone sets) (difference a (difference a b)) first in
    let third = notify_folds x.name (told_notes after x.search notes) (fold_items come (fold_items gone sets)) in
    rw fits (ap (λ f. f x.name) (fold_joined gone (come ++ heard) sets)
    ∙ ap (λ f. f x.name) (fold_joined come heard (fold_items gone sets)) ∙ third ∙ second ∙ ap Some folds)

-- ---- what all subscriptions of a session are told

-- later ones of the same session have other names
pub names_apart : (y z : Standing) → y.serial ≡ z.serial → standing_order y z ≡ Less → is_same_text y.name z.name ≡ false
names_apart y z serials less =
    elim (cases_Bool (is_same_text y.name z.name)) [
      | inl hit ↦ let tied = order_same y z serials (text_is y.name z.name hit) in let bad : Less ≡ Equal = sym less ∙ tied in cc
      | inr miss ↦ miss
    ]

-- the subscriptions are all of one session
abbrev pub AreOf : ℕ → List Standing → Type 0
AreOf serial xs = AllByRecursion (λ (x : Standing). x.serial ≡ serial) xs

others_named : (serial : ℕ) (y : Standing) (xs : List Standing) → y.serial ≡ serial → AreOf serial xs
    → AllByRecursion (λ z. standing_order y z ≡ Less) xs → AllByRecursion (λ (z : Standing). is_same_text z.name y.name ≡ false) xs
others_named serial y [] own are less = tt
others_named serial y (z ∷ xs) own are less = (
  text_flip z.name y.name ∙ names_apart y z (own ∙ sym are.0) less.0,
  others_named serial y xs own are.1 less.1,
)

told_others : (before after : List Attachment) (notes : List Note) (xs : List Standing) (sets : Sets) (n : List ℕ)
    → AllByRecursion (λ (z : Standing). is_same_text z.name n ≡ false) xs
    → fold_items (flat_map (told_to before after notes) xs) sets n ≡ sets n
told_others before after notes [] sets n apart = refl
told_others before after notes (z ∷ xs) sets n apart =
    ap (λ f. f n) (fold_joined (told_to before after notes z) (flat_map (told_to before after notes) xs) sets)
    ∙ told_others before after notes xs (fold_items (told_to before after notes z) sets) n apart.1
    ∙ others_stay (told_to before after notes z) sets z.name n (told_named before after notes z) apart.0

-- a member of those that follow
less_all : (y x : Standing) (xs : List Standing) → AllByRecursion (λ z. standing_order y z ≡ Less) xs → Has xs x
    → standing_order y x ≡ Less
less_all y x [] less h = absurd h
less_all y x (z ∷ xs) less (inl e) = subst (λ w. standing_order y w ≡ Less) e less.0
less_all y x (z ∷ xs) less (inr h) = less_all y x xs less.1 h

of_all : (serial : ℕ) (x : Standing) (xs : List Standing) → AreOf serial xs → Has xs x → x.serial ≡ serial
of_all serial x [] are h = absurd h
of_all serial x (z ∷ xs) are (inl e) = subst (λ (w : Standing). w.serial ≡ serial) e are.0
of_all serial x (z ∷ xs) are (inr h) = of_all serial x xs are.1 h

pub told_all : (before after : List Attachment) (notes : List Note) (serial : ℕ) (xs : List Standing) (x : Standing) (sets : Sets)
    → IsStrictlySortedBy standing_order xs → AreOf serial xs → Has xs x → Folds before after x.search
    → is_too_big after x.search ≡ false → sets x.name ≡ Some (fresh before x.search)
    → fold_items (flat_map (told_to before after notes) xs) sets x.name ≡ Some (fresh after x.search)
unfolding IsStrictlySortedBy
told_all before after notes serial [] x sets up are h folds fits is = absurd h
told_all before after notes serial (y ∷ xs) x sets up are (inl e) folds fits is =
    let told = told_own before after notes x sets folds fits is in
    let same : fold_items (told_to before after notes y) sets x.name ≡ Some (fresh after x.search) =
    subst (λ z. fold_items (told_to before after notes z) sets x.name ≡ Some (fresh after x.search)) (sym e) told in
    let apart : AllByRecursion (λ (z : Standing). is_same_text z.name x.name ≡ false) xs =
    subst (λ (w : Standing). AllByRecursion (λ (z : Standing). is_same_text z.name w.name ≡ false) xs) e
    (others_named serial y xs are.0 are.1 up.0) in
    ap (λ f. f x.name) (fold_joined (told_to before after notes y) (flat_map (told_to before after notes) xs) sets)
    ∙ told_others before after notes xs (fold_items (told_to before after notes y) sets) x.name apart ∙ same
told_all before after notes serial (y ∷ xs) x sets up are (inr h) folds fits is =
    let other : is_same_text y.name x.name ≡ false =
    names_apart y x (are.0 ∙ sym (of_all serial x xs are.1 h)) (less_all y x xs up.0 h) in
    ap (λ f. f x.name) (fold_joined (told_to before after notes y) (flat_map (told_to before after notes) xs) sets)
    ∙ told_all before after notes serial xs x (fold_items (told_to before after notes y) sets) up.1 are.1 h folds fits
    (others_stay (told_to before after notes y) sets y.name x.name (told_named before after notes y) other ∙ is)
