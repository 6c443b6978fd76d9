-- Connection after connection at a door.
use Rattle.std.proofs.Common.{◌≡◌, ℕ, ◌+◌, ◌-◌, ◌==◌, ◌≤◌, Bool, true, false, List, [], ◌∷◌, ◌++◌, length, map, take, None, Some, refl, sym, ap, subst, ◌∙◌, append_assoc, append-nil, length-append, arith}
use Rattle.std.specs.Prelude.{IfSome, Option, is_some, if◌then◌else◌}
use Rattle.std.proofs.lemmas.Bool.Decides.{nat_tests}
use Rattle.std.proofs.lemmas.List.{length-map, map-append, take-append-le, take_all}
use Rattle.ifmap_io.specs.Doors.{Doorway, Hands, HandsOut, StaysOpen, TakesBack, take_back}
use Rattle.ifmap_io.specs.Links.{Seen}
use Rattle.ifmap_serving.specs.Connections.{Connection}
use Rattle.ifmap_serving.specs.Works.{DoorPassesThrough, PassThrough}

-- of links for which there is room in this order, one more finds room exactly where some is left
take_full : (n : ℕ) (links : List Seen) (link : Seen) → n - length links ≡ 0 → take n (links ++ link ∷ []) ≡ take n links
take_full n links link none = take-append-le n links (link ∷ []) (omega (arith, none))

take_room : (n : ℕ) (links : List Seen) (link : Seen) → length links + 1 ≤ n → take n (links ++ link ∷ []) ≡ take n links ++ link ∷ []
take_room n links link some =
    take_all n (links ++ link ∷ []) (omega (arith, length-append links (link ∷ []), some))
    ∙ ap (λ l. l ++ link ∷ []) (sym (take_all n links (omega (arith, some))))

-- a door with a link taken back, as its room says
back_by : (f : Doorway) (link : Seen) (full : Bool) → (f.room == 0) ≡ full
    → take_back f link
    ≡ (if full then f else record { left = f.left; back = f.back ++ link ∷ []; room = f.room - 1 })
back_by f link full is = rw is refl

-- no connection yet
pub leads_none : (H : Type 0) (links : Option Doorway) → DoorPassesThrough {H = H} [] links links
leads_none H None = refl
leads_none H (Some door) = record {
  left = refl;
  back = sym (ap (λ l. door.back ++ l) (take_all door.room [] (omega arith)) ∙ append-nil door.back);
  room = omega arith;
}

module _ {H : Type 0} where
  module _ (cs : List (Connection H)) (c : Connection H) (d e f : Doorway) (w : PassThrough cs d e) (out : HandsOut e f (Some c.came)) where
    all_left : d.left ≡ map (λ (x : Connection H). x.came) (cs ++ c ∷ []) ++ f.left
    all_left =
        w.left ∙ ap (λ l. map (λ (x : Connection H). x.came) cs ++ l) out.0
        ∙ sym (append_assoc (map (λ (x : Connection H). x.came) cs) (c.came ∷ []) f.left)
        ∙ sym (ap (λ l. l ++ f.left) (map-append (λ (x : Connection H). x.came) cs (c ∷ [])))

    count : length (cs ++ c ∷ []) ≡ length cs + 1
    count = length-append cs (c ∷ [])

    backs_are : map (λ (x : Connection H). x.back) (cs ++ c ∷ []) ≡ map (λ (x : Connection H). x.back) cs ++ c.back ∷ []
    backs_are = map-append (λ (x : Connection H). x.back) cs (c ∷ [])

    room_is : f.room ≡ d.room - length cs
    room_is = out.2 ∙ w.room

    through : (full : Bool) → (f.room == 0) ≡ full → (h : Doorway) → h ≡ take_back f c.back → PassThrough (cs ++ c ∷ []) d h
    through true is h back_is =
        let none : f.room ≡ 0 = grind (arith, nat_tests) in
        subst (PassThrough (cs ++ c ∷ []) d) (sym (back_is ∙ back_by f c.back true is)) (record {
          left = all_left;
          back =
              out.1 ∙ w.back
              ∙ ap (λ l. d.back ++ l)
              (sym (ap (take d.room) backs_are
              ∙ take_full d.room (map (λ (x : Connection H). x.back) cs) c.back
              (omega (arith, length-map cs (λ (x : Connection H). x.back), room_is, none))));
          room = omega (arith, room_is, none, count);
        })
    through false is h back_is =
        let some : 1 ≤ f.room = grind (arith, nat_tests) in
        subst (PassThrough (cs ++ c ∷ []) d) (sym (back_is ∙ back_by f c.back false is)) (record {
          left = all_left;
          back =
              ap (λ l. l ++ c.back ∷ []) (out.1 ∙ w.back)
              ∙ append_assoc d.back (take d.room (map (λ (x : Connection H). x.back) cs)) (c.back ∷ [])
              ∙ ap (λ l. d.back ++ l)
              (sym (ap (take d.room) backs_are
              ∙ take_room d.room (map (λ (x : Connection H). x.back) cs) c.back
              (omega (arith, length-map cs (λ (x : Connection H). x.back), room_is, some))));
          room = omega (arith, room_is, some, count);
        })

  -- one more connection, whose link left the door and came back
  pub leads_more : (cs : List (Connection H)) (c : Connection H) (door before between after : Option Doorway)
      → DoorPassesThrough cs door before → Hands before between (Some c.came) → is_some between ≡ is_some before
      → TakesBack between after c.back → is_some after ≡ is_some between → DoorPassesThrough (cs ++ c ∷ []) door after
  leads_more cs c None None None None w hands told takes still = refl
  leads_more cs c None None None (Some h) w hands told takes still = cc
  leads_more cs c None None (Some f) after w hands told takes still = cc
  leads_more cs c None (Some e) between after w hands told takes still = cc
  leads_more cs c (Some d) None between after w hands told takes still = elim w [ ]
  leads_more cs c (Some d) (Some e) None after w hands told takes still = elim hands [ ]
  leads_more cs c (Some d) (Some e) (Some f) None w hands told takes still = elim takes [ ]
  leads_more cs c (Some d) (Some e) (Some f) (Some h) w hands told takes still = through cs c d e f w hands (f.room == 0) refl h takes

-- the door stayed as it was
pub leads_on : {H : Type 0} (cs : List (Connection H)) (door before after : Option Doorway)
    → DoorPassesThrough cs door before → StaysOpen before after → is_some after ≡ is_some before → DoorPassesThrough cs door after
leads_on cs None None None w stays told = refl
leads_on cs None None (Some e) w stays told = cc
leads_on cs None (Some d) after w stays told = cc
leads_on cs (Some d) None after w stays told = elim w [ ]
leads_on cs (Some d) (Some e) None w stays told = elim stays [ ]
leads_on cs (Some d) (Some e) (Some f) w stays told = subst (PassThrough cs d) (sym stays) w

-- where a door hands nothing out, it stays as it was, and no link is left
pub stays_open : (before after : Option Doorway) → Hands before after None → StaysOpen before after
stays_open None after hands = tt
stays_open (Some d) None hands = elim hands [ ]
stays_open (Some d) (Some e) hands = hands.1

pub none_left : (before after : Option Doorway) → Hands before after None → is_some after ≡ is_some before
    → IfSome after (λ (doorway : Doorway). doorway.left ≡ [])
none_left None None hands told = tt
none_left None (Some e) hands told = cc
none_left (Some d) None hands told = tt
none_left (Some d) (Some e) hands told = ap (λ (doorway : Doorway). doorway.left) hands.1 ∙ hands.0
