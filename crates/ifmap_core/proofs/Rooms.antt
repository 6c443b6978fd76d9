-- Operations meet a name without room exactly where they make nothing.
use Rattle.std.proofs.Common.{◌≡◌, ◌↔◌, refl, sym, ap, subst, ℕ, ◌≤◌, nat_le, true, false, not, List, [], ◌∷◌, ◌++◌, length, Option, None, Some, option_and_then, inl, inr, arith}
use Rattle.std.proofs.lemmas.Bool.{and_from, and_parts, cases_Bool, not-true}
use Rattle.std.proofs.lemmas.Bool.Decides.{nat_tests}
use Rattle.std.specs.List.{list_any}
use Rattle.ifmap_core.specs.Causes.{MeetsNoRoom}
use Rattle.ifmap_subscribes.specs.ifmap_machine.State.{Standing, standing_in}
use Rattle.ifmap_subscribes.specs.ifmap_machine.Subscribing.{Told, begin_name, drop_name, is_full_for, is_of_name, most_names, subscribe_op, subscribe_ops}
use Rattle.ifmap_subscribes.specs.ifmap_requests.declared.requests.SubscribeOp.{SubscribeOp}
use Rattle.ifmap_subscribes.specs.ifmap_requests.declared.requests.SubscribeOp.TheVariants.{Update, Delete}
use Rattle.ifmap_session.specs.ifmap_search.declared.searches.Search.{Search}
use Rattle.ifmap_subscribes.specs.ifmap_view.declared.attachments.Attachment.{Attachment}

-- no room for a name
full_means : (serial : ℕ) (name : List ℕ) (standing : List Standing) → is_full_for serial name standing ≡ true
    → (list_any (is_of_name serial name) standing ≡ false) × (most_names ≤ length (standing_in serial standing))
full_means serial name standing e =
    let both = and_parts (nat_le most_names (length (standing_in serial standing))) (not (list_any (is_of_name serial name) standing)) e in
    (not-true (list_any (is_of_name serial name) standing) both.1, grind (arith, nat_tests, both.0))

full_where : (serial : ℕ) (name : List ℕ) (standing : List Standing) → list_any (is_of_name serial name) standing ≡ false
    → most_names ≤ length (standing_in serial standing) → is_full_for serial name standing ≡ true
full_where serial name standing new many =
    and_from (nat_le most_names (length (standing_in serial standing))) (not (list_any (is_of_name serial name) standing))
    (grind (arith, nat_tests, many)) (ap not new)

module _ (rows : List Attachment) (serial : ℕ) where
  -- one more operation before
  later : (op : SubscribeOp) (ops : List SubscribeOp) (t u : Told) → subscribe_op rows serial op t ≡ Some u
      → MeetsNoRoom rows serial ops u → MeetsNoRoom rows serial (op ∷ ops) t
  later op ops t u e m = record {
    before = op ∷ m.before;
    name = m.name;
    search = m.search;
    after = m.after;
    made = m.made;
    parts = ap (λ (rest : List SubscribeOp). op ∷ rest) m.parts;
    goes = rw e m.goes;
    new = m.new;
    full = m.full;
  }

  meets : (ops : List SubscribeOp) (t : Told) → subscribe_ops rows serial ops t ≡ None → MeetsNoRoom rows serial ops t
  meets [] t h = cc
  meets (Delete name ∷ ops) t h =
      later (Delete name) ops t (drop_name serial name t) refl (meets ops (drop_name serial name t) h)
  meets (Update name asked ∷ ops) t h =
      let made : Told = begin_name rows serial name asked (drop_name serial name t) in
      elim (cases_Bool (is_full_for serial name t.standing)) [
        | inl hit ↦
            let m = full_means serial name t.standing hit in
            record {
              before = [];
              name = name;
              search = asked;
              after = ops;
              made = t;
              parts = refl;
              goes = refl;
              new = m.0;
              full = m.1;
            }
        | inr miss ↦ later (Update name asked) ops t made (rw miss refl) (meets ops made (rw miss at h))
      ]

  -- what comes after a first operation fails as the rest does
  from_op : (f g : Told → Option Told) (made : Told) → ((u : Told) → f u ≡ Some made → g u ≡ None) → (o : Option Told)
      → option_and_then f o ≡ Some made → option_and_then g o ≡ None
  from_op f g made k None h = refl
  from_op f g made k (Some u) h = k u h

  fails : (before after : List SubscribeOp) (name : List ℕ) (asked : Search) (t made : Told)
      → subscribe_ops rows serial before t ≡ Some made → is_full_for serial name made.standing ≡ true
      → subscribe_ops rows serial (before ++ Update name asked ∷ after) t ≡ None
  fails [] after name asked t made e full =
      let same : made ≡ t = cc in
      let here : is_full_for serial name t.standing ≡ true = subst (λ (u : Told). is_full_for serial name u.standing ≡ true) same full in
      rw here refl
  fails (op ∷ before) after name asked t made e full =
      from_op (subscribe_ops rows serial before) (subscribe_ops rows serial (before ++ Update name asked ∷ after)) made
      (λ u h. fails before after name asked u made h full) (subscribe_op rows serial op t) e

  pub no_room_where : (ops : List SubscribeOp) (t : Told) → (subscribe_ops rows serial ops t ≡ None) ↔ MeetsNoRoom rows serial ops t
  no_room_where ops t = (
    meets ops t,
    (λ m. subst (λ (all : List SubscribeOp). subscribe_ops rows serial all t ≡ None) (sym m.parts)
        (fails m.before m.after m.name m.search t m.made m.goes (full_where serial m.name m.made.standing m.new m.full))),
  )
