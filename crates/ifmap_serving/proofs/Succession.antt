-- Work at a door, connection after connection.
use Rattle.std.proofs.Common.{◌≡◌, ℕ, ◌≤◌, List, [], ◌∷◌, ◌++◌, false, None, Some, refl, sym, ap, subst, ◌∙◌, inl, inr, append-nil, arith}
use Rattle.std.specs.Prelude.{Option, flat_map, is_some}
use Rattle.std.proofs.lemmas.Grind.{flat_map-append}
use Rattle.ifmap_io.specs.Causes.{Rose}
use Rattle.ifmap_io.specs.Doors.{Doorway, Hands, StaysOpen, TakesBack}
use Rattle.ifmap_io.specs.Links.{Seen, wire_link_seen}
use Rattle.ifmap_http.specs.Wires.{Wired, wire_seen}
use Rattle.ifmap_desks.specs.ifmap_dialogue.declared.endings.Ending.{Ending}
use Rattle.ifmap_desks.specs.ifmap_dialogue.Desks.{DeskTakesTurns}
use Rattle.ifmap_desks.specs.ifmap_dialogue.Dialogue.{Serves}
use Rattle.ifmap_desks.specs.ifmap_dialogue.Scenes.{scene}
use Rattle.ifmap_serving.specs.Connections.{Connection, FollowOn, IsServed, ServesLink, Worker}
use Rattle.ifmap_serving.specs.Works.{DoorSeen, IsWorkStatus, Works}
use Rattle.ifmap_serving.proofs.Leading.{leads_more, leads_none, leads_on, none_left}
use Rattle.ifmap_desks.specs.ifmap_dialogue.Telling.{tells_more, tells_none}

-- no connection was served yet
pub works_first : {H : Type 0} (gives : ℕ → Type 0) (w : Worker H) (door : DoorSeen) → Works gives w w door door
works_first {H} gives w door = record {
  connections = [];
  served = refl;
  tells = tells_none w.desk;
  led = leads_none H door.links;
  later = omega arith;
}

follow_one_more : {H : Type 0} (gives : ℕ → Type 0) (first : Worker H) (cs : List (Connection H)) (c : Connection H)
    → FollowOn gives first cs c.before → IsServed gives c → FollowOn gives first (cs ++ c ∷ []) c.after
follow_one_more gives first [] c same served = (same, served, refl)
follow_one_more gives first (x ∷ cs) c (begins, was, rest) served = (begins, was, follow_one_more gives x.after cs c rest served)

-- the door handed this link out, and took it back when it came back so
pub record HandsOver (door left : DoorSeen) (came back : Seen) : Type 0 where
  pub between : Option Doorway
  pub hands : Hands door.links between (Some came)
  pub told : is_some between ≡ is_some door.links
  pub takes : TakesBack between left.links back
  pub still : is_some left.links ≡ is_some between
  pub later : door.faults ≤ left.faults

-- one more connection was served
pub works_more : {H : Type 0} (gives : ℕ → Type 0) (first mid last : Worker H) (door now left : DoorSeen) (came back : Seen)
    → Works gives first mid door now → ServesLink gives mid last came back → HandsOver now left came back
    → Works gives first last door left
works_more {H} gives first mid last door now left came back w s o =
    let c : Connection H = record {
      before = mid;
      after = last;
      came = came;
      back = back;
      turns = s.turns;
      output = s.output;
      ending = s.ending;
    } in
    let turns : flat_map (λ (x : Connection H). x.turns) (w.connections ++ c ∷ [])
    ≡ flat_map (λ (x : Connection H). x.turns) w.connections ++ s.turns =
    flat_map-append (λ (x : Connection H). x.turns) w.connections (c ∷ [])
    ∙ ap (λ l. flat_map (λ (x : Connection H). x.turns) w.connections ++ l) (append-nil s.turns) in
    record {
      connections = w.connections ++ c ∷ [];
      served = follow_one_more gives first w.connections c w.served s.served;
      tells = subst (DeskTakesTurns first.desk last.desk) (sym turns)
          (tells_more first.desk mid.desk last.desk (flat_map (λ (x : Connection H). x.turns) w.connections) s.turns w.tells
          (subst (DeskTakesTurns mid.desk last.desk) s.served.turns s.served.serves.tells));
      led = leads_more w.connections c door.links now.links o.between left.links w.led o.hands o.told o.takes o.still;
      later = omega (arith, w.later, o.later);
    }

-- the door was asked for a link, and stayed as it was
pub works_still : {H : Type 0} (gives : ℕ → Type 0) (first last : Worker H) (door now left : DoorSeen)
    → Works gives first last door now → StaysOpen now.links left.links → is_some left.links ≡ is_some now.links
    → now.faults ≤ left.faults → Works gives first last door left
works_still gives first last door now left w stays told later = record {
  connections = w.connections;
  served = w.served;
  tells = w.tells;
  led = leads_on w.connections door.links now.links left.links w.led stays told;
  later = omega (arith, w.later, later);
}

-- it had none left
pub ends_empty : (door left : DoorSeen) (links : Option Doorway) → Hands links left.links None → is_some left.links ≡ is_some links
    → IsWorkStatus door left 0
ends_empty door left links hands told = inl (refl, none_left links left.links hands told)

-- it failed
pub ends_failed : {H : Type 0} (gives : ℕ → Type 0) (first last : Worker H) (door now left : DoorSeen)
    → Works gives first last door now → Rose now.faults left.faults → IsWorkStatus door left 7
ends_failed gives first last door now left w rose = inr (refl, omega (arith, w.later, rose))

-- a connection over a new wire is one over the link that came, and the link that is in the wire afterwards comes back
pub serves_link : {L H : Type 0} (gives : ℕ → Type 0) (before after : Worker H) (left held : L → Option (List ℕ)) (reading writing : L → ℕ)
    (link back : L) (old new : Wired L) (end : Ending)
    → old ≡ record { link = link; taken = []; spent = false } → back ≡ new.link
    → Serves gives (scene before.desk (wire_seen left held reading writing old) before.words)
    (scene after.desk (wire_seen left held reading writing new) after.words) end
    → ServesLink gives before after (wire_link_seen left held reading writing link) (wire_link_seen left held reading writing back)
serves_link {L} gives before after left held reading writing link back old new end was is s =
    let t = subst (λ (w : Wired L). Serves gives (scene before.desk (wire_seen left held reading writing w) before.words)
    (scene after.desk (wire_seen left held reading writing new) after.words) end) was s in
    subst (λ (b : L). ServesLink gives before after (wire_link_seen left held reading writing link)
    (wire_link_seen left held reading writing b))
    (sym is)
    (record {
      turns = t.turns;
      output = t.output;
      ending = end;
      served = record { taken = new.taken; spent = new.spent; serves = t; turns = refl; output = refl };
    })
