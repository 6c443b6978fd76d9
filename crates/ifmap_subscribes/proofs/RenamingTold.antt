-- What renamings make of parts.
-- First: one session is told nothing (`tells_nothing`), is the only one of its serial (`only_one`), and is found still (`found_then`).
-- Then: renamings are made one after the other (`renamed_none`, `renamed_more`), of which one is made by a drop and a put
-- (`renamed_one`). Last: the rest can be made then (`can_rest`).
use Rattle.std.proofs.Common.{◌≡◌, refl, sym, ◌∙◌, ap, subst, ℕ, ◌+◌, ◌≤◌, ◌==◌, Bool, true, false, not, cond, List, [], ◌∷◌, ◌++◌, append-nil, length, map, Option, None, Some, IfSome, option_to_list, inl, inr, arith, vec_len, vec_capacity}
use Rattle.std.proofs.lemmas.Bool.{cases_Bool}
use Rattle.std.proofs.lemmas.List.Kept.{IsStrictlySortedBy-filter}
use Rattle.std.proofs.lemmas.List.Sums.{sum_by-cons}
use Rattle.std.specs.List.{AllByRecursion, filter, list_any}
use Rattle.std.specs.List.Sorted.{IsStrictlySortedBy}
use Rattle.ifmap_changes.specs.Between.{IsSteady, seen_now}
use Rattle.ifmap_changes.specs.declared.parts.Parts.{Parts}
use Rattle.ifmap_changes.specs.ifmap_delta.SeenViews.{IsUpToDate}
use Rattle.ifmap_changes.specs.ifmap_graph.Seen.{StaysLean, rows_now}
use Rattle.ifmap_lemmas.specs.AnyOf.{none_of_others}
use Rattle.ifmap_lemmas.specs.Filters.{all_filter, map_filter}
use Rattle.ifmap_lemmas.specs.Mapped.{one_at_most}
use Rattle.ifmap_lemmas.specs.Members.{all_both, both_all}
use Rattle.ifmap_lemmas.specs.Options.{is_some_of, some_is}
use Rattle.ifmap_changes.specs.ifmap_machine.State as machine
use Rattle.ifmap_changes.specs.ifmap_machine.State.{standing_order}
use Rattle.ifmap_changes.specs.ifmap_machine.Subscribing.{Told, is_of_name}
use Rattle.ifmap_changes.specs.ifmap_machine.Telling.{tell_session, with_queue}
use Rattle.ifmap_changes.specs.ifmap_plans.laws.PlacingLaws.{put_sorted}
use Rattle.ifmap_search.specs.declared.results.PollItem.{PollItem}
use Rattle.ifmap_changes.specs.ifmap_session.Sessions.{Changes, IsLive, Session, SessionTable, change, is_named, session_order, session_with_serial, spare_of, without_name}
use Rattle.ifmap_changes.specs.ifmap_session.laws.TableLaws.{KeepsIdAndClient, found_changed}
use Rattle.ifmap_changes.specs.ifmap_standing.declared.standing.Standing.{Standing}
use Rattle.ifmap_changes.specs.ifmap_standing.Standing.{standing_of}
use Rattle.ifmap_changes.specs.ifmap_tellings.ChangeLaws.{change_both, change_none, changes_both, changes_none, others_same}
use Rattle.ifmap_changes.specs.ifmap_machine.OrderLaws.{standing_total}
use Rattle.ifmap_subscribes.specs.declared.renamings.Renaming.{Renaming}
use Rattle.ifmap_subscribes.specs.Renamings.{AreRenamed, CanRenameEach, IsOfSession, KeepsNumbered, StandsAmong, starts_by, item_count, rename, rename_all, stand_where, told_in_parts}
use Rattle.ifmap_subscribes.proofs.RenamingPlaces.{all_stands}
use Rattle.ifmap_subscribes.proofs.RenamingStarts.{kept_still, steady_among}

-- ---- one session changes

module _ (n : ℕ) where
  pub tells_nothing : (table : SessionTable) → Changes n (tell_session []) table table
  tells_nothing table = changes_none n (tell_session []) (λ s. ap (λ q. record s { queue = q }) (append-nil s.queue)) table

  -- where serials rise, what changes is the session that is found
  pub only_one : (f g : Session → Session) (live : List Session) (s : Session) → IsStrictlySortedBy session_order live
      → session_with_serial n live ≡ Some s → f s ≡ g s → change n f live ≡ change n g live
  unfolding IsStrictlySortedBy
  only_one f g [] s up e same = refl
  only_one f g (x ∷ live) s up e same =
      elim (cases_Bool (x.serial == n)) [
        | inl hit ↦
            let it : x ≡ s = cc (rw hit at e) in
            let both : f x ≡ g x = ap f it ∙ same ∙ ap g (sym it) in
            rw (hit, others_same n x f live hit up.0, others_same n x g live hit up.0, both) refl
        | inr miss ↦ rw miss (ap (λ t. x ∷ t) (only_one f g live s up.1 (rw miss at e) same))
      ]

  session_has_serial : (live : List Session) (s : Session) → session_with_serial n live ≡ Some s → (s.serial == n) ≡ true
  session_has_serial [] s e = cc
  session_has_serial (x ∷ live) s e =
      elim (cases_Bool (x.serial == n)) [
        | inl hit ↦ let same : x ≡ s = cc (rw hit at e) in ap (λ (t : Session). t.serial == n) (sym same) ∙ hit
        | inr miss ↦ session_has_serial live s (rw miss at e)
      ]

  -- it is found still, as it is changed
  pub found_then : (f : Session → Session) → KeepsIdAndClient f → (live : List Session) (s : Session) → session_with_serial n live ≡ Some s
      → session_with_serial n (change n f live) ≡ Some (f s)
  found_then f k live s e =
      found_changed n f k n live s e ∙ ap (λ b. Some (cond b (f s) s)) (session_has_serial live s e)

pub live_then : (n : ℕ) (f : Session → Session) → KeepsIdAndClient f → (old new : SessionTable) → Changes n f old new → IsLive n old.live →
    IsLive n new.live
live_then n f k old new c l =
    let there = some_is (session_with_serial n old.live) l in
    subst (IsLive n) (sym c.live) (is_some_of (session_with_serial n (change n f old.live)) (f there.0)
    (found_then n f k old.live there.0 there.1))

pub name_keeps : (name : List ℕ) → KeepsIdAndClient (without_name name)
name_keeps name = record { serial = λ s. refl; id = λ s. refl; client = λ s. refl }

-- what is to be told of a name goes, and other items are to be told
abbrev retold : List ℕ → List PollItem → Session → Session
retold name items s = record s { queue = filter (λ item. not (is_named name item)) s.queue ++ items }

retold_keeps : (name : List ℕ) (items : List PollItem) → KeepsIdAndClient (retold name items)
retold_keeps name items = record { serial = λ s. refl; id = λ s. refl; client = λ s. refl }

with_queue_keeps : (queue : List PollItem) → KeepsIdAndClient (with_queue queue)
with_queue_keeps queue = record { serial = λ s. refl; id = λ s. refl; client = λ s. refl }

-- ---- renamings are made one after the other

module _ (serial : ℕ) where
  pub renamed_none : (parts : Parts) → IsStrictlySortedBy session_order parts.sessions.live → AreRenamed serial [] parts parts
  renamed_none parts up = record {
    told = λ s e. (
      refl,
      sym (change_none serial (λ x. x) (λ x. refl) parts.sessions.live)
          ∙ only_one serial (λ x. x) (with_queue s.queue) parts.sessions.live s up e refl,
    );
    counter = refl;
    rows = refl;
    lean = λ rest l. l;
  }

  pub renamed_more : (r : Renaming) (rs : List Renaming) (old mid new : Parts) → AreRenamed serial (r ∷ []) old mid
      → AreRenamed serial rs mid new → AreRenamed serial (r ∷ rs) old new
  renamed_more r rs old mid new a b = record {
    told = λ s e. told s e;
    counter = b.counter ∙ a.counter;
    rows = b.rows ∙ a.rows;
    lean = λ rest l. b.lean rest (a.lean rest l);
  }
    where
      told : (s : Session) → session_with_serial serial old.sessions.live ≡ Some s
          → (map standing_of new.standing.items ≡ (rename_all serial (r ∷ rs) (told_in_parts old s)).standing)
          × (new.sessions.live ≡ change serial (with_queue (rename_all serial (r ∷ rs) (told_in_parts old s)).queue) old.sessions.live)
      told s e =
          let one = a.told s e in
          let first : Told = rename serial r (told_in_parts old s) in
          let there : session_with_serial serial mid.sessions.live ≡ Some (with_queue first.queue s) =
          ap (session_with_serial serial) one.1
          ∙ found_then serial (with_queue first.queue) (with_queue_keeps first.queue) old.sessions.live s e in
          let two = b.told (with_queue first.queue s) there in
          let same : told_in_parts mid (with_queue first.queue s) ≡ first =
          ap (λ (st : List machine.Standing). record { queue = first.queue; standing = st }) one.0 in
          let last : List PollItem = (rename_all serial rs first).queue in (
            two.0 ∙ ap (λ (t : Told). (rename_all serial rs t).standing) same,
            two.1 ∙ ap (λ (t : Told). change serial (with_queue (rename_all serial rs t).queue) mid.sessions.live) same
                ∙ ap (change serial (with_queue last)) one.1
                ∙ change_both serial (with_queue first.queue) (with_queue last) (with_queue last) (λ x. refl) (λ x. refl) old.sessions.live,
          )

-- some renamings are made, the rest can be
pub record RenamesOn (serial : ℕ) (all : List Renaming) (old now : Parts) (rest : List Renaming) : Type 0 where
  pub can : CanRenameEach serial rest now
  pub on : (new : Parts) → AreRenamed serial rest now new → AreRenamed serial all old new

pub renames_none : (serial : ℕ) (all rest : List Renaming) (old : Parts) → rest ≡ all → CanRenameEach serial all old
    → RenamesOn serial all old old rest
renames_none serial all rest old is can = record {
  can = subst (λ rs. CanRenameEach serial rs old) (sym is) can;
  on = λ new a. subst (λ rs. AreRenamed serial rs old new) is a;
}

module _ (serial : ℕ) (all : List Renaming) (old now : Parts) (left : List Renaming) (r : Renaming) (rest : List Renaming)
    (so : RenamesOn serial all old now left) (cut : left ≡ r ∷ rest) where
  can_next : CanRenameEach serial (r ∷ rest) now
  can_next = subst (λ rs. CanRenameEach serial rs now) cut so.can

  pub can_rename : (more : List Renaming) × CanRenameEach serial (r ∷ more) now
  can_rename = (rest, can_next)

  pub renames_more : (new : Parts) → AreRenamed serial (r ∷ []) now new
      → ((more : List Renaming) → CanRenameEach serial (r ∷ more) now → CanRenameEach serial more new)
      → RenamesOn serial all old new rest
  renames_more new one then_can = record {
    can = then_can rest can_next;
    on = λ last a. so.on last (subst (λ rs. AreRenamed serial rs now last) (sym cut) (renamed_more serial r rest now new last one a));
  }

pub renames_all : (serial : ℕ) (all : List Renaming) (old now : Parts) (rest : List Renaming) → RenamesOn serial all old now rest
    → rest ≡ [] → IsStrictlySortedBy session_order now.sessions.live → AreRenamed serial all old now
renames_all serial all old now rest so none up =
    so.on now (subst (λ rs. AreRenamed serial rs now now) (sym none) (renamed_none serial now up))

pub renames_can : (serial : ℕ) (all : List Renaming) (old now : Parts) (rest : List Renaming) → RenamesOn serial all old now rest
    → rest ≡ [] → CanRenameEach serial [] now
renames_can serial all old now rest so none = subst (λ rs. CanRenameEach serial rs now) none so.can

-- ---- one renaming

stand_rising : (begun : Option Standing) (xs : List machine.Standing) → IsStrictlySortedBy standing_order xs
    → IsStrictlySortedBy standing_order (stand_where begun xs)
stand_rising None xs up = up
stand_rising (Some x) xs up = put_sorted machine.Standing standing_order standing_total (standing_of x) xs up

-- of a name, whether one is its subscription
abbrev pub stays : ℕ → List ℕ → Standing → Bool
stays serial name x = not (is_of_name serial name (standing_of x))

pub left_shown : (serial : ℕ) (name : List ℕ) (xs ys : List Standing) → ys ≡ filter (stays serial name) xs
    → map standing_of ys ≡ filter (λ x. not (is_of_name serial name x)) (map standing_of xs)
left_shown serial name xs ys is = ap (map standing_of) is ∙ map_filter standing_of (λ x. not (is_of_name serial name x)) xs

pub left_rising : (serial : ℕ) (name : List ℕ) (xs ys : List Standing) → ys ≡ filter (stays serial name) xs
    → IsStrictlySortedBy standing_order (map standing_of xs) → IsStrictlySortedBy standing_order (map standing_of ys)
left_rising serial name xs ys is up =
    subst (IsStrictlySortedBy standing_order) (sym (left_shown serial name xs ys is))
    (IsStrictlySortedBy-filter standing_order (λ x. not (is_of_name serial name x)) (map standing_of xs) up)

-- none of the name is left
pub left_free : (serial : ℕ) (r : Renaming) (xs ys : List Standing) → ys ≡ filter (stays serial r.name) xs → IsOfSession serial r
    → IfSome r.standing (λ x. list_any (λ other. is_of_name x.serial x.name (standing_of other)) ys ≡ false)
left_free serial r xs ys is own = by r.standing own
  where
    by : (o : Option Standing) → AllByRecursion (λ (x : Standing). (x.serial ≡ serial) × (x.name ≡ r.name)) (option_to_list o)
        → IfSome o (λ x. list_any (λ other. is_of_name x.serial x.name (standing_of other)) ys ≡ false)
    by None h = tt
    by (Some x) h =
        ap (λ n. list_any (λ other. is_of_name n x.name (standing_of other)) ys) h.0.0
        ∙ ap (λ m. list_any (λ other. is_of_name serial m (standing_of other)) ys) h.0.1
        ∙ ap (list_any (λ other. is_of_name serial r.name (standing_of other))) is
        ∙ none_of_others (λ other. is_of_name serial r.name (standing_of other)) xs

module _ (serial : ℕ) (r : Renaming) (old : Parts) (rest : List Renaming) (can : CanRenameEach serial (r ∷ rest) old) where
  items_cons : item_count (r ∷ rest) ≡ length (option_to_list r.item) + item_count rest
  items_cons = sum_by-cons (λ (x : Renaming). length (option_to_list x.item)) r rest

  pub item_room : (mid : SessionTable) → spare_of serial old.sessions.spare ≤ spare_of serial mid.spare
      → length (option_to_list r.item) ≤ spare_of serial mid.spare
  item_room mid more = omega (arith, items_cons, can.room, more)

  module _ (mid new : Parts)
      (a : Changes serial (without_name r.name) old.sessions mid.sessions)
      (b : Changes serial (tell_session (option_to_list r.item)) mid.sessions new.sessions)
      (less : spare_of serial old.sessions.spare ≤ spare_of serial mid.sessions.spare)
      (pushed : spare_of serial new.sessions.spare + length (option_to_list r.item) ≡ spare_of serial mid.sessions.spare)
      (graph : mid.graph ≡ new.graph)
      (left : mid.standing.items ≡ filter (stays serial r.name) old.standing.items)
      (steady : (more : List Standing) → IsSteady old.graph (old.standing.items ++ more) → IsSteady mid.graph (mid.standing.items ++ more))
      (rows : rows_now mid.graph ≡ rows_now old.graph) (lean : StaysLean old.graph mid.graph)
      (keeps : KeepsNumbered old.graph mid.graph)
      (len : vec_len mid.standing ≤ vec_len old.standing)
      (capacity : vec_capacity mid.standing ≡ vec_capacity old.standing)
      (stands : map standing_of new.standing.items ≡ stand_where r.standing (map standing_of mid.standing.items))
      (among : StandsAmong r.standing mid.standing.items new.standing.items)
      (len_then : vec_len new.standing ≡ vec_len mid.standing + length (option_to_list r.standing))
      (capacity_then : vec_capacity new.standing ≡ vec_capacity mid.standing) where
    both : Changes serial (retold r.name (option_to_list r.item)) old.sessions new.sessions
    both = changes_both serial (without_name r.name) (tell_session (option_to_list r.item)) (retold r.name (option_to_list r.item))
        (λ s. refl) (λ s. refl) old.sessions mid.sessions new.sessions a b

    pub renamed_one : IsStrictlySortedBy session_order old.sessions.live → AreRenamed serial (r ∷ []) old new
    renamed_one up = record {
      told = λ s e. (
        stands ∙ ap (stand_where r.standing) (left_shown serial r.name old.standing.items mid.standing.items left),
        both.live
            ∙ only_one serial (retold r.name (option_to_list r.item))
            (with_queue (filter (λ item. not (is_named r.name item)) s.queue ++ option_to_list r.item)) old.sessions.live s up e refl,
      );
      counter = both.counter;
      rows = ap rows_now (sym graph) ∙ rows;
      lean = subst (StaysLean old.graph) graph lean;
    }

    steady_then : IsSteady new.graph (new.standing.items ++ starts_by rest)
    steady_then =
        subst (λ h. IsSteady h (new.standing.items ++ starts_by rest)) graph
        (steady_among mid.graph r.standing mid.standing.items new.standing.items (starts_by rest) among
        (steady (option_to_list r.standing ++ starts_by rest) can.steady))

    kept_then : AllByRecursion (λ x. IsUpToDate (seen_now new.graph) x.subscription) (new.standing.items ++ starts_by rest)
    kept_then =
        let kept : Standing → Type 0 = λ x. IsUpToDate (seen_now old.graph) x.subscription in
        let more = option_to_list r.standing ++ starts_by rest in
        let parts = all_both kept old.standing.items more can.kept in
        let fewer : AllByRecursion kept mid.standing.items =
        subst (AllByRecursion kept) (sym left) (all_filter kept (stays serial r.name) old.standing.items parts.0) in
        let all : AllByRecursion kept (new.standing.items ++ starts_by rest) =
        all_stands kept r.standing mid.standing.items new.standing.items (starts_by rest) among
        (both_all kept mid.standing.items more fewer parts.1) in
        kept_still old.graph new.graph (new.standing.items ++ starts_by rest) (subst (KeepsNumbered old.graph) graph keeps)
        steady_then.numbered all

    pub can_rest : CanRenameEach serial rest new
    can_rest = record {
      live = live_then serial (retold r.name (option_to_list r.item)) (retold_keeps r.name (option_to_list r.item)) old.sessions
          new.sessions both can.live;
      session = can.session.1;
      steady = steady_then;
      ordered = subst (IsStrictlySortedBy standing_order) (sym stands)
          (stand_rising r.standing (map standing_of mid.standing.items)
          (left_rising serial r.name old.standing.items mid.standing.items left can.ordered));
      kept = kept_then;
      places = let one = one_at_most r.standing in omega (arith, one, can.places, len, capacity, len_then, capacity_then);
      room = omega (arith, items_cons, can.room, less, pushed);
    }
