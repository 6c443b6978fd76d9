-- No operation is made ready yet: what is kept is so of what was before.
use Rattle.std.proofs.Common.{◌≡◌, sym, ◌∙◌, ap, subst, ℕ, ◌^◌, ◌<◌, ◌≤◌, ◌==◌, Bool, List, [], length, map, None, Some, append-nil, arith}
use Rattle.std.specs.BTreeMap.{get}
use Rattle.std.specs.Cmp.Lexicographic.{slice_cmp}
use Rattle.std.specs.List.{filter, list_any}
use Rattle.std.specs.List.Sorted.{IsStrictlySortedBy}
use Rattle.std.specs.Ordering.{nat_cmp}
use Rattle.std.specs.declared.cmp.Ordering.{Ordering}
use Rattle.ifmap_changes.specs.Between.{IsSoundSoFar, IsSteady, sessions_left}
use Rattle.ifmap_changes.specs.declared.parts.Parts.{Parts}
use Rattle.ifmap_changes.specs.ifmap_machine.State.{standing_in, standing_order}
use Rattle.ifmap_changes.specs.ifmap_machine.Subscribing.{Told, is_of_name}
use Rattle.ifmap_search.specs.Sizes.{queue_size}
use Rattle.ifmap_changes.specs.ifmap_session.Sessions.{IsLive, Session, is_named, session_with_serial}
use Rattle.ifmap_changes.specs.ifmap_standing.Standing.{standing_of}
use Rattle.ifmap_subscribes.proofs.OfScene.{live_session, told_session}
use Rattle.ifmap_subscribes.proofs.ToldSizes.{found_left}
use Rattle.ifmap_subscribes.specs.Readying.{AreCounted, CanStand, told_after, told_in_scene}
use Rattle.ifmap_subscribes.specs.Renamings.{rename_all}
use Rattle.ifmap_subscribes.specs.declared.readying.Readying.{Readying}
use Rattle.ifmap_subscribes.specs.declared.readying.Occasion.{Occasion}
use Rattle.ifmap_changes.specs.ifmap_tellings.KeptPlaces.{fewer_kept, rising_kept}
use Rattle.ifmap_changes.specs.ifmap_tellings.Tellings.{kept_items, tell_by}
use Rattle.ifmap_changes.specs.ifmap_tellings.ToldLaws.{map_kept}

-- what is not gone stands in order still, and is no more than all
module _ {X Y : Type 0} (f : X → Y) where
  rising_shown : (order : Y → Y → Ordering) (gone : List Bool) (xs : List X) → IsStrictlySortedBy order (map f xs)
      → IsStrictlySortedBy order (map f (kept_items gone xs))
  rising_shown order gone xs up =
      subst (λ l. IsStrictlySortedBy order l) (sym (map_kept f gone xs)) (rising_kept order gone (map f xs) up)

  fewer_shown : (p : Y → Bool) (gone : List Bool) (xs : List X)
      → length (filter p (map f (kept_items gone xs))) ≤ length (filter p (map f xs))
  fewer_shown p gone xs =
      subst (λ l. length (filter p l) ≤ length (filter p (map f xs))) (sym (map_kept f gone xs)) (fewer_kept p gone (map f xs))

module _ (scene : Occasion) (p : Parts) (r : Readying) (ready : IsSoundSoFar scene.asking.now p scene.pending.now)
    (live : IsLive scene.serial (sessions_left scene.asking.now p.sessions)) (made : r.made.items ≡ []) where
  same_told : told_after scene.serial r (told_in_scene scene p) ≡ told_in_scene scene p
  same_told = ap (λ rs. rename_all scene.serial rs (told_in_scene scene p)) made

  size_of_queue : ((s : Session) → session_with_serial scene.serial p.sessions.live ≡ Some s
      → r.size ≡ queue_size (tell_by scene.pending.now.tellings s).queue) → r.size ≡ queue_size (told_in_scene scene p).queue
  size_of_queue size =
      let one = live_session scene.serial (sessions_left scene.asking.now p.sessions) live in
      size one.0 (found_left scene.asking.now.ended scene.serial p.sessions.live one.0 one.1)
      ∙ ap (λ (t : Told). queue_size t.queue) (sym (told_session scene p one.0 one.1).1)

  pub nothing_counted : ((other : List ℕ) → get (slice_cmp nat_cmp) r.names other ≡ None)
      → r.count ≡ length (standing_in scene.serial (told_in_scene scene p).standing)
      → ((s : Session) → session_with_serial scene.serial p.sessions.live ≡ Some s
      → r.size ≡ queue_size (tell_by scene.pending.now.tellings s).queue) → r.size < 2 ^ 64
      → AreCounted scene.serial (told_in_scene scene p) r
  nothing_counted none count size small =
      let whole = size_of_queue size in
      let long = ap length made in
      record {
        rising = subst (λ u. IsStrictlySortedBy standing_order u.standing) (sym same_told)
            (rising_shown standing_of standing_order scene.pending.now.gone.items p.standing.items ready.ordered.rising);
        names = λ name now e. let bad : None ≡ Some now = sym (none name) ∙ e in cc;
        others = λ name e. record {
          stands = ap (λ (u : Told). list_any (is_of_name scene.serial name) u.standing) same_told;
          queue = ap (λ (u : Told). filter (is_named name) u.queue) same_told;
        };
        count = count ∙ ap (λ (u : Told). length (standing_in scene.serial u.standing)) (sym same_told);
        few = omega (
          arith,
          count,
          ready.ordered.few scene.serial,
          fewer_shown standing_of (λ x. x.serial == scene.serial) scene.pending.now.gone.items p.standing.items,
        );
        size = whole ∙ ap (λ (u : Told). queue_size u.queue) (sym same_told);
        narrow = omega (arith, small, long);
        most = omega (arith, long);
      }

  pub nothing_stands : IsSteady p.graph p.standing.items → CanStand scene.serial p r.made.items
  nothing_stands steady = subst (λ rs. CanStand scene.serial p rs) (sym made) (record {
    session = tt;
    steady = subst (λ xs. IsSteady p.graph xs) (sym (append-nil p.standing.items)) steady;
    kept = tt;
  })
