-- What a pass is seen as, and how that changes where it is split or joined.
use native.Mathlib.Bridge.{le_prop}
use Rattle.std.specs.Prelude.{Bool, ◌≤◌, [], length, true, false, nat_eq, nat_lt, if◌then◌else◌, ◌||◌, ◌&&◌}
use Rattle.ifmap_hall.specs.Histories.{no_history, sight_in}
use Rattle.ifmap_hall.specs.Places.{RisesBetween, RisesBetween-prop, merge}
use Rattle.ifmap_hall.specs.Sights.{Sight}
use Rattle.ifmap_hall.specs.declared.view.HallHistory.{HallHistory}
use Rattle.ifmap_hall.specs.declared.view.Terms.{Terms}
use Rattle.ifmap_hall.specs.declared.view.HallView.{HallView}

-- of two histories of one hall the second is the later one
abbrev pub is_later : {E : Type 0} → HallHistory E → HallHistory E → Bool
is_later h k = nat_lt (length h.log) (length k.log) || (nat_eq (length h.log) (length k.log) && nat_lt h.from k.from)

module _ {M E R : Type 0} where
  -- what a pass has seen: the base and the entries after it
  abbrev pub sight_by : (M → E → M) → HallView M E R → Sight M E
  sight_by next v = sight_in next v.terms.opening.value v.history

  -- the base has no entry that was not seen, and the places of the pass's own entries rise
  pub record IsSoundView (v : HallView M E R) : Type 0 where
    pub inside : v.history.from ≤ length v.history.log
    pub mine : RisesBetween 0 v.mine (length v.history.log)

  -- there is one proof at most of that
  pub IsSoundView-prop : (v : HallView M E R) → IsProp (IsSoundView v)
  IsSoundView-prop v a b = λ i. record {
    inside = le_prop a.inside b.inside i;
    mine = RisesBetween-prop 0 v.mine (length v.history.log) a.mine b.mine i;
  }

  -- the first pass of a hall
  abbrev pub first_view : Terms M → HallView M E R
  first_view terms = record { terms = terms; lone = true; history = no_history; mine = []; said = []; turns = 0 }

  -- a pass that was split from
  abbrev pub kept_view : HallView M E R → HallView M E R
  kept_view v = record v { lone = false }

  -- the pass that was split off
  abbrev pub given_view : HallView M E R → HallView M E R
  given_view v = record v { lone = false; mine = []; said = []; turns = 0 }

  -- a pass that another was joined to
  abbrev pub joint_view : HallView M E R → HallView M E R → HallView M E R
  joint_view v w =
      record v { lone = false; history = if is_later v.history w.history then w.history else v.history; mine = merge v.mine w.mine }
