-- Sessions that are told what is pending: what stays, and what is found among them.
-- First what a telling leaves (`told_keeps`). Then what is found among sessions of which each is made another (`mapped_found`). Then
-- whose a session is (`owner_told`), and that a session is the only one with its serial (`one_numbered`).
use Rattle.std.proofs.Common.{◌≡◌, refl, sym, ◌∙◌, ap, subst, ℕ, ◌==◌, Bool, true, false, List, [], ◌∷◌, map, Option, Some, None, inl, inr, arith}
use Rattle.std.proofs.lemmas.Bool.{cases_Bool}
use Rattle.std.proofs.lemmas.Bool.Decides.{nat_tests}
use Rattle.std.specs.BTreeMap.{get}
use Rattle.std.specs.List.{AllByRecursion, find}
use Rattle.std.specs.List.Sorted.{IsStrictlySortedBy}
use Rattle.std.specs.Ordering.{nat_cmp}
use Rattle.std.specs.declared.cmp.Ordering.TheVariants.{Less}
use Rattle.ifmap_core.specs.Completions.{IsOwner}
use Rattle.ifmap_core.specs.declared.owning.Owner.{Owner}
use Rattle.ifmap_core.specs.declared.owning.Owner.TheVariants.{Own, Another, Nobody}
use Rattle.ifmap_lemmas.specs.Filters.{all_weaker}
use Rattle.ifmap_lemmas.specs.Members.{map_of_all}
use Rattle.ifmap_session.specs.Sessions.{Session, is_same_text, session_order, session_with_serial}
use Rattle.ifmap_subscribes.specs.ifmap_tellings.declared.tellings.Telling.{Telling}
use Rattle.ifmap_subscribes.specs.ifmap_tellings.declared.tellings.Telling.TheVariants.{After, Alone}
use Rattle.ifmap_subscribes.specs.ifmap_tellings.Tellings.{Tellings, tell_by, tell_if}

-- ---- what a telling leaves

pub record Leaves (s t : Session) : Type 0 where
  pub serial : t.serial ≡ s.serial
  pub id : t.id ≡ s.id
  pub client : t.client ≡ s.client
  pub limit : t.limit ≡ s.limit
  pub last : t.last ≡ s.last

pub told_leaves : (o : Option Telling) (s : Session) → Leaves s (tell_if o s)
told_leaves None s = record { serial = refl; id = refl; client = refl; limit = refl; last = refl }
told_leaves (Some (After items size)) s = record { serial = refl; id = refl; client = refl; limit = refl; last = refl }
told_leaves (Some (Alone error)) s = record { serial = refl; id = refl; client = refl; limit = refl; last = refl }

pub told_by_leaves : (tellings : Tellings) (s : Session) → Leaves s (tell_by tellings s)
told_by_leaves tellings s = told_leaves (get nat_cmp tellings s.serial) s

-- where no telling is, nothing is told
pub none_told : (tellings : Tellings) → ((n : ℕ) → get nat_cmp tellings n ≡ None) → (live : List Session)
    → map (tell_by tellings) live ≡ live
none_told tellings none [] = refl
none_told tellings none (s ∷ live) =
    ap (λ (o : Option Telling). tell_if o s ∷ map (tell_by tellings) live) (none s.serial)
    ∙ ap (λ t. s ∷ t) (none_told tellings none live)

-- ---- what is found

module _ (f : Session → Session) (q : Session → Bool) (same : (s : Session) → q (f s) ≡ q s) where
  pub found_mapped : (live : List Session) (s : Session) → find q live ≡ Some s → find q (map f live) ≡ Some (f s)
  found_mapped [] s e = cc
  found_mapped (x ∷ live) s e =
      elim (cases_Bool (q x)) [
        | inl hit ↦ let one : x ≡ s = cc (rw hit at e) in rw (same x, hit) (ap (λ t. Some (f t)) one)
        | inr miss ↦ rw (same x, miss) (found_mapped live s (rw miss at e))
      ]

  pub none_mapped : (live : List Session) → find q live ≡ None → find q (map f live) ≡ None
  none_mapped [] e = refl
  none_mapped (x ∷ live) e =
      elim (cases_Bool (q x)) [
        | inl hit ↦ let bad : Some x ≡ None = rw hit at e in cc
        | inr miss ↦ rw (same x, miss) (none_mapped live (rw miss at e))
      ]

  pub mapped_found : (live : List Session) (t : Session) → find q (map f live) ≡ Some t → (s : Session) × (find q live ≡ Some s) × (f s ≡ t)
  mapped_found [] t e = cc
  mapped_found (x ∷ live) t e =
      elim (cases_Bool (q x)) [
        | inl hit ↦ let one : f x ≡ t = cc (rw (same x, hit) at e) in (x, rw hit refl, one)
        | inr miss ↦ let rest = mapped_found live t (rw (same x, miss) at e) in (rest.0, rw miss rest.1, rest.2)
      ]

module _ (tellings : Tellings) where
  pub told_id : (id : List ℕ) (s : Session) → is_same_text (tell_by tellings s).id id ≡ is_same_text s.id id
  told_id id s = ap (λ (t : List ℕ). is_same_text t id) (told_by_leaves tellings s).id

  pub told_number : (n : ℕ) (s : Session) → ((tell_by tellings s).serial == n) ≡ (s.serial == n)
  told_number n s = ap (λ (m : ℕ). m == n) (told_by_leaves tellings s).serial

  -- whose a session is, is so once all is told
  pub owner_told : (live : List Session) (id client : List ℕ) (o : Owner) → IsOwner live id client o
      → IsOwner (map (tell_by tellings) live) id client o
  owner_told live id client (Own serial) o = (
    tell_by tellings o.0,
    found_mapped (tell_by tellings) (λ (t : Session). is_same_text t.id id) (told_id id) live o.0 o.1,
    ap (λ (t : List ℕ). is_same_text t client) (told_by_leaves tellings o.0).client ∙ o.2,
    (told_by_leaves tellings o.0).serial ∙ o.3,
    found_mapped (tell_by tellings) (λ (t : Session). t.serial == serial) (told_number serial) live o.0 o.4,
  )
  owner_told live id client Another o = (
    tell_by tellings o.0,
    found_mapped (tell_by tellings) (λ (t : Session). is_same_text t.id id) (told_id id) live o.0 o.1,
    ap (λ (t : List ℕ). is_same_text t client) (told_by_leaves tellings o.0).client ∙ o.2,
  )
  owner_told live id client Nobody o = none_mapped (tell_by tellings) (λ (t : Session). is_same_text t.id id) (told_id id) live o

  -- the session with a serial, before it is told
  pub before_told : (n : ℕ) (live : List Session) (t : Session) → session_with_serial n (map (tell_by tellings) live) ≡ Some t
      → (s : Session) × (session_with_serial n live ≡ Some s) × (tell_by tellings s ≡ t)
  before_told n live t e = mapped_found (tell_by tellings) (λ (s : Session). s.serial == n) (told_number n) live t e

-- ---- sessions with serials that rise

above_differ : (n : ℕ) (x : Session) (live : List Session) → (x.serial == n) ≡ true → AllByRecursion (λ y. session_order x y ≡ Less) live
    → AllByRecursion (λ (y : Session). (y.serial == n) ≡ false) live
above_differ n x live is up =
    all_weaker (λ y. session_order x y ≡ Less) (λ (y : Session). (y.serial == n) ≡ false)
    (λ y less. grind (arith, nat_tests, is, less)) live up

-- the session with a serial is the only one
pub one_numbered : (n : ℕ) (live : List Session) (s : Session) → IsStrictlySortedBy session_order live → session_with_serial n live ≡ Some s
    → AllByRecursion (λ (x : Session). (x.serial == n) ≡ true → x ≡ s) live
unfolding IsStrictlySortedBy
one_numbered n [] s up e = tt
one_numbered n (x ∷ live) s up e =
    elim (cases_Bool (x.serial == n)) [
      | inl hit ↦ (
        λ is. cc (rw hit at e),
        all_weaker (λ (y : Session). (y.serial == n) ≡ false) (λ (y : Session). (y.serial == n) ≡ true → y ≡ s)
            (λ y differ is. let bad : true ≡ false = sym is ∙ differ in cc) live (above_differ n x live hit up.0),
      )
      | inr miss ↦ ((λ is. let bad : true ≡ false = sym is ∙ miss in cc), one_numbered n live s up.1 (rw miss at e))
    ]

pub told_rising : (tellings : Tellings) (live : List Session) → IsStrictlySortedBy session_order live
    → IsStrictlySortedBy session_order (map (tell_by tellings) live)
unfolding IsStrictlySortedBy
told_rising tellings [] up = tt
told_rising tellings (x ∷ live) up = (
  map_of_all (λ z. session_order (tell_by tellings x) z ≡ Less) (tell_by tellings) live (all_weaker (λ y. session_order x y ≡ Less)
      (λ y. session_order (tell_by tellings x) (tell_by tellings y) ≡ Less)
      (λ y l. subst (λ (n : ℕ). nat_cmp n (tell_by tellings y).serial ≡ Less) (sym (told_by_leaves tellings x).serial)
      (subst (λ (m : ℕ). nat_cmp x.serial m ≡ Less) (sym (told_by_leaves tellings y).serial) l)) live up.0),
  told_rising tellings live up.1,
)
