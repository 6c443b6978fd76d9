-- The links of each number, by the places of what stands on them.
use Rattle.std.specs.Prelude.{◌≡◌, ◌⊎◌, ◌&&◌, ◌++◌, ℕ, Bool, true, not, List, Option, Some, None, Contains, map, nat_eq, cond}
use Rattle.std.specs.List.{filter, filter_map}
use Rattle.ifmap_view.specs.declared.views.LinkSeen.{LinkSeen}

-- the other number, where the place joins the number with one
abbrev pub far_of : Option (ℕ × ℕ) → ℕ → Option ℕ
far_of None v = None
far_of (Some p) v = cond (nat_eq p.0 v) (Some p.1) (cond (nat_eq p.1 v) (Some p.0) None)

abbrev pub seen_at : ℕ → Option ℕ → Option LinkSeen
seen_at at None = None
seen_at at (Some w) = Some (record { other = w; at = at })

module _ (joins : ℕ → Option (ℕ × ℕ)) where
  -- the place joins these two numbers
  abbrev pub JoinsNumbers : ℕ → ℕ → ℕ → Type 0
  JoinsNumbers at v w = (joins at ≡ Some (v, w)) ⊎ (joins at ≡ Some (w, v))

  -- the lists have a link exactly where a place that joins is full, and each place once
  pub record AreListed (full : ℕ → Bool) (links : ℕ → List LinkSeen) : Type 0 where
    pub only : (v : ℕ) (seen : LinkSeen) → Contains (links v) seen → JoinsNumbers seen.at v seen.other × (full seen.at ≡ true)
    pub each : (v w at : ℕ) → JoinsNumbers at v w → full at ≡ true → Contains (links v) (record { other = w; at = at })

  -- what comes to a number, from the places that were touched
  abbrev pub coming_links : (ℕ → Bool) → (ℕ → Bool) → List ℕ → ℕ → List LinkSeen
  coming_links before after touched v = filter_map
      (λ at. cond (after at && not (before at)) (seen_at at (far_of (joins at) v)) None) touched

  -- the links that stay, and those that come
  abbrev pub changed_links : (ℕ → Bool) → (ℕ → Bool) → List ℕ → (ℕ → List LinkSeen) → ℕ → List LinkSeen
  changed_links before after touched links v = filter (λ l. after l.at) (links v) ++ coming_links before after touched v

-- the places of links
abbrev pub link_places : List LinkSeen → List ℕ
link_places links = map (λ l. l.at) links
