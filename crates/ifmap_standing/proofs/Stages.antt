-- Telling a list of subscriptions, from the first on.
-- 1. The steps of none (`within_none`), and of one more after those before it (`within_more`).
-- 2. A relation holds at each place where it does before one is written, and at that one
--    (`at_set`).
-- 3. `Stage` is what holds once so many are told; it does of none (`stage_first`).
-- 4. One more is told: the stage is one on (`stage_next`), or it fails and keeps what it kept
--    (`ways_failed`, `steps_end`).
-- 5. At the end all are told: their news (`news_end`), what they keep (`kept_end`), steps
--    (`steps_all`).
use Rattle.std.proofs.Common.{◌≡◌, ◌≢◌, inl, inr, ℕ, ◌+◌, ◌<◌, ◌≤◌, Bool, true, false, Option, Some, List, [], ◌∷◌, ◌++◌, length, map, get_or, set, slice_get, take, drop, refl, ap, ◌∙◌, sym, subst, arith}
use Rattle.std.specs.List.{zip}
use Rattle.std.proofs.lemmas.Bool.{cases_order}
use Rattle.std.proofs.lemmas.List.{length-append, length-set, map-append, take-append-drop, take_all}
use Rattle.std.proofs.Math.Numerals.{add-one}
use Rattle.std.proofs.lemmas.Option.{slice_get_past, slice_get_within, slice_get-get_or, same_Some}
use Rattle.std.proofs.lemmas.Slice.Zip.{length-zip}
use Rattle.ifmap_delta.specs.declared.subscriptions.Subscription.{Subscription}
use Rattle.ifmap_delta.specs.Bounds.{IsNear, one_and_links}
use Rattle.ifmap_delta.specs.SeenViews.{IsUpToDate, ViewSeen}
use Rattle.ifmap_delta.specs.SameSearches.{HasSameSearch}
use Rattle.ifmap_lemmas.specs.Fronts.{before_last}
use Rattle.ifmap_lemmas.specs.Mapped.{mapped_there, zip_more}
use Rattle.ifmap_lemmas.specs.Places.{last_there, written_elsewhere, written_there}
use Rattle.ifmap_machine.specs.State as machine
use Rattle.ifmap_delta.specs.ifmap_plans.declared.plans.Note.{Note}
use Rattle.ifmap_delta.specs.ifmap_region.Bounds.{within_nothing}
use Rattle.ifmap_standing.specs.Bounds.{IsWithinEach, IsWithinWhere}
use Rattle.ifmap_standing.specs.declared.standing.Standing.{Standing}
use Rattle.ifmap_standing.specs.declared.telling.News.{News}
use Rattle.ifmap_standing.specs.Kept.{AllKept, AtEach, KeepsSame, StaysRelated}
use Rattle.ifmap_standing.specs.News.{news_of_each, news_where}
use Rattle.ifmap_standing.specs.Standing.{standing_of}
use Rattle.ifmap_standing.specs.Ways.{LeadBack, LeadsBackWhere, Way}
use Rattle.ifmap_standing.specs.PlaceLaws.{at_each_same, at_each_weaker, keeps_itself, leads_search}

-- steps
module _ (old new : ViewSeen) where
  pub where_none : (skip : Bool) (x : Standing) (steps : ℕ) → IsWithinWhere old new skip x steps steps
  where_none true x steps = omega arith
  where_none false x steps =
      within_nothing (one_and_links old new x.subscription.search)
      (IsNear old new x.subscription.search x.subscription.region.start) 10 steps

  pub within_none : (ps : List (Bool × Standing)) (steps : ℕ) → IsWithinEach old new ps steps steps
  within_none [] steps = omega arith
  within_none (p ∷ ps) steps = (steps, where_none p.0 p.1 steps, within_none ps steps)

  within_joined : (ps qs : List (Bool × Standing)) (a b c : ℕ) → IsWithinEach old new ps a b → IsWithinEach old new qs b c
      → IsWithinEach old new (ps ++ qs) a c
  within_joined [] qs a b c s t = lower qs b a c s t
    where
      -- from more steps at the beginning
      lower_where : (skip : Bool) (x : Standing) (b a c : ℕ) → b ≤ a → IsWithinWhere old new skip x b c → IsWithinWhere old new skip x a c
      lower_where true x b a c less t = omega (arith, less, t)
      lower_where false x b a c less t = record {
        numbers = t.numbers;
        distinct = t.distinct;
        among = t.among;
        bound = omega (arith, less, t.bound);
      }

      lower : (qs : List (Bool × Standing)) (b a c : ℕ) → b ≤ a → IsWithinEach old new qs b c → IsWithinEach old new qs a c
      lower [] b a c less t = omega (arith, less, t)
      lower (q ∷ qs) b a c less t = (t.0, lower_where q.0 q.1 b a t.0 less t.1, t.2)
  within_joined (p ∷ ps) qs a b c s t = (s.0, s.1, within_joined ps qs s.0 b c s.2 t)

  within_more : (ps : List (Bool × Standing)) (skip : Bool) (x : Standing) (a b c : ℕ) → IsWithinEach old new ps a b
      → IsWithinWhere old new skip x b c → IsWithinEach old new (ps ++ (skip, x) ∷ []) a c
  within_more ps skip x a b c s t = within_joined ps ((skip, x) ∷ []) a b c s (c, t, omega arith)

-- a relation at each place, one of which is written
at_set : {X : Type 0} (R S : ℕ → X → X → Type 0) (xs now : List X) (n : ℕ) (x y : X) → AtEach R xs now → slice_get xs n ≡ Some x
    → n < length now → S n x y → ((i : ℕ) (a b : X) → i ≢ n → R i a b → S i a b) → AtEach S xs (set now n y)
at_set R S xs now n x y r here within is others = record {
  long = length-set now n y ∙ r.long;
  at = λ i a b p q. elim (cases_order i n) [
    | inl e ↦
        let one : x ≡ a = same_Some x a (sym here ∙ ap (slice_get xs) (sym e) ∙ p)
        in let two : y ≡ b = same_Some y b (sym (written_there now n y within) ∙ ap (slice_get (set now n y)) (sym e) ∙ q)
        in subst (λ j. S j a b) (sym e) (subst (λ z. S n z b) one (subst (λ z. S n x z) two is))
    | inr o ↦
        let apart : i ≢ n = λ e. elim o [ inl l ↦ omega (arith, l, e) | inr l ↦ omega (arith, l, e) ]
        in others i a b apart (r.at i a b p (sym (written_elsewhere now n i y apart) ∙ q))
  ];
}

pub stands_itself : (R : Subscription → Subscription → Type 0) → ((x : Subscription) → R x x) → (xs : List Standing)
    → AtEach (λ _. StaysRelated R) xs xs
stands_itself R f xs =
    at_each_same (λ _. StaysRelated R) (λ i x. record { serial = refl; name = refl; subscription = f x.subscription }) xs

module _ (old new : ViewSeen) (notes : List Note) (skipped : List Bool) (xs : List Standing) (begun : ℕ) where
  abbrev pub news_of_pair : Bool × machine.Standing → News
  news_of_pair p = news_where old.rows new.rows notes p.0 p.1

  -- the first n are told
  pub record Stage (n : ℕ) (news : List News) (ways : List (Option Way)) (now : List Standing) (steps : ℕ) : Type 0 where
    pub says : news ≡ map news_of_pair (take n (zip skipped (map standing_of xs)))
    pub told_count : length news ≡ n
    pub count : length ways ≡ n
    pub lead : LeadBack xs ways now
    pub rest : (i : ℕ) → n ≤ i → slice_get now i ≡ slice_get xs i
    pub kept : (i : ℕ) (y : Standing) → i < n → slice_get now i ≡ Some y → slice_get skipped i ≡ Some false → IsUpToDate new y.subscription
    pub skips : AtEach (λ i x y. slice_get skipped i ≡ Some true → y ≡ x) xs now
    pub within : IsWithinEach old new (take n (zip skipped xs)) begun steps

  pub lead_nowhere : LeadBack xs [] xs
  lead_nowhere = record {
    long = omega arith;
    each = at_each_same (λ i. StaysRelated (LeadsBackWhere (slice_get [] i)))
        (λ i x. record { serial = refl; name = refl; subscription = keeps_itself x.subscription }) xs;
  }

  pub stage_first : Stage 0 [] [] xs begun
  stage_first = record {
    says = refl;
    told_count = refl;
    count = refl;
    lead = lead_nowhere;
    rest = λ i past. refl;
    kept = λ i y less. absurd (omega (arith, less));
    skips = at_each_same (λ i x y. slice_get skipped i ≡ Some true → y ≡ x) (λ i x e. refl) xs;
    within = omega arith;
  }

-- one more is told, or fails
module _ {old new : ViewSeen} {notes : List Note} {skipped : List Bool} {xs : List Standing} {begun n : ℕ} {news : List News}
    {ways : List (Option Way)} {now : List Standing} {steps : ℕ} (s : Stage old new notes skipped xs begun n news ways now steps)
    (flags : length skipped ≡ length xs) (less : n < length skipped) (fallback : Standing) where
  -- whether it is skipped, and what stands at its place
  abbrev skip : Bool
  skip = get_or skipped n false

  abbrev x : Standing
  x = get_or now n fallback

  low : n < length now
  low = omega (arith, less, flags, s.skips.long)

  flag : slice_get skipped n ≡ Some skip
  flag = slice_get-get_or skipped n false less

  here : slice_get now n ≡ Some x
  here = slice_get-get_or now n fallback low

  before : slice_get xs n ≡ Some x
  before = sym (s.rest n (omega arith)) ∙ here

  -- it keeps what it kept before the first was told
  pub kept_so_far : AllKept (λ y. IsUpToDate old y.subscription) skipped xs → skip ≡ false → IsUpToDate old x.subscription
  kept_so_far kept none = kept n x before (flag ∙ ap Some none)

  one_on : take (n + 1) (zip skipped xs) ≡ take n (zip skipped xs) ++ (skip, x) ∷ []
  one_on = ap (λ k. take k (zip skipped xs)) (add-one n) ∙ zip_more skipped xs n skip x flag before

  steps_next : (more : ℕ) → IsWithinWhere old new skip x steps more → IsWithinEach old new (take (n + 1) (zip skipped xs)) begun more
  steps_next more within = subst (λ ps. IsWithinEach old new ps begun more) (sym one_on)
      (within_more old new (take n (zip skipped xs)) skip x begun steps more s.within within)

  pub steps_end : (more : ℕ) → IsWithinWhere old new skip x steps more → IsWithinEach old new (zip skipped xs) begun more
  steps_end more within = subst (λ ps. IsWithinEach old new ps begun more) (take-append-drop (n + 1) (zip skipped xs))
      (within_joined old new (take (n + 1) (zip skipped xs)) (drop (n + 1) (zip skipped xs)) begun more more (steps_next more within)
      (within_none old new (drop (n + 1) (zip skipped xs)) more))

  -- one fails, and keeps what it kept
  pub ways_failed : (y : Standing) → StaysRelated KeepsSame x y → LeadBack xs ways (set now n y)
  ways_failed y same = record {
    long = omega (arith, s.lead.long, length-set now n y);
    each = at_set (λ i. StaysRelated (LeadsBackWhere (slice_get ways i))) (λ i. StaysRelated (LeadsBackWhere (slice_get ways i))) xs now n
        x y s.lead.each before low
        (subst (λ o. StaysRelated (LeadsBackWhere o) x y) (sym (slice_get_past ways n (omega (arith, s.count)))) same)
        (λ i a b apart r. r);
  }

  module _ (y : Standing) (more : ℕ) (within : IsWithinWhere old new skip x steps more) (one : News) (way : Option Way)
      (is : one ≡ news_where old.rows new.rows notes skip (standing_of x)) (back : StaysRelated (LeadsBackWhere (Some way)) x y)
      (stays : skip ≡ true → y ≡ x) (keeps : skip ≡ false → IsUpToDate new y.subscription) where
    news_next : news ++ one ∷ []
        ≡ map (news_of_pair old new notes skipped xs begun) (take (n + 1) (zip skipped (map standing_of xs)))
    news_next =
        let list = zip skipped (map standing_of xs)
        in let tells = news_of_pair old new notes skipped xs begun
        in let on : take (n + 1) list ≡ take n list ++ (skip, standing_of x) ∷ [] = ap (λ k. take k list) (add-one n)
        ∙ zip_more skipped (map standing_of xs) n skip (standing_of x) flag (mapped_there standing_of xs n x before)
        in ap (λ l. l ++ one ∷ []) s.says ∙ ap (λ o. map tells (take n list) ++ o ∷ []) is
        ∙ sym (ap (map tells) on ∙ map-append tells (take n list) ((skip, standing_of x) ∷ []))

    ways_next : LeadBack xs (ways ++ way ∷ []) (set now n y)
    ways_next =
        let longer : length (ways ++ way ∷ []) ≡ n + 1 = length-append ways (way ∷ []) ∙ ap (λ k. k + 1) s.count
        in let there : slice_get (ways ++ way ∷ []) n ≡ Some way
        = ap (slice_get (ways ++ way ∷ [])) (sym s.count) ∙ last_there ways way
        in let same : (i : ℕ) → i ≢ n → slice_get (ways ++ way ∷ []) i ≡ slice_get ways i
        = λ i apart. elim (cases_order i n) [
          | inl e ↦ absurd (apart e)
          | inr o ↦ elim o [
            | inl l ↦ before_last ways way i (omega (arith, l, s.count))
            | inr l ↦ slice_get_past (ways ++ way ∷ []) i (omega (arith, l, longer))
                ∙ sym (slice_get_past ways i (omega (arith, l, s.count)))
          ]
        ]
        in record {
          long = omega (arith, low, longer, length-set now n y);
          each = at_set (λ i. StaysRelated (LeadsBackWhere (slice_get ways i)))
              (λ i. StaysRelated (LeadsBackWhere (slice_get (ways ++ way ∷ []) i)))
              xs now n x y s.lead.each before low
              (subst (λ o. StaysRelated (LeadsBackWhere o) x y) (sym there) back)
              (λ i a b apart r. subst (λ o. StaysRelated (LeadsBackWhere o) a b) (sym (same i apart)) r);
        }

    kept_next : (i : ℕ) (z : Standing) → i < n + 1 → slice_get (set now n y) i ≡ Some z → slice_get skipped i ≡ Some false
        → IsUpToDate new z.subscription
    kept_next i z past p f = elim (cases_order i n) [
      | inl e ↦
          let at : y ≡ z = same_Some y z (sym (written_there now n y low) ∙ ap (slice_get (set now n y)) (sym e) ∙ p)
          in let no : skip ≡ false = same_Some skip false (sym flag ∙ ap (slice_get skipped) (sym e) ∙ f)
          in subst (λ u. IsUpToDate new u.subscription) at (keeps no)
      | inr o ↦ elim o [
        | inl l ↦ s.kept i z l (sym (written_elsewhere now n i y (omega (arith, l))) ∙ p) f
        | inr l ↦ absurd (omega (arith, past, l))
      ]
    ]

    stage_one : Stage old new notes skipped xs begun (n + 1) (news ++ one ∷ []) (ways ++ way ∷ []) (set now n y) more
    stage_one = record {
      says = news_next;
      told_count = length-append news (one ∷ []) ∙ ap (λ k. k + 1) s.told_count;
      count = length-append ways (way ∷ []) ∙ ap (λ k. k + 1) s.count;
      lead = ways_next;
      rest = λ i past. written_elsewhere now n i y (omega (arith, past)) ∙ s.rest i (omega (arith, past));
      kept = kept_next;
      skips = at_set (λ i a b. slice_get skipped i ≡ Some true → b ≡ a) (λ i a b. slice_get skipped i ≡ Some true → b ≡ a) xs now n
          x y s.skips before low (λ e. stays (same_Some skip true (sym flag ∙ e))) (λ i a b apart r. r);
      within = steps_next more within;
    }

    pub stage_next : {after_news : List News} {after_ways : List (Option Way)} → after_news ≡ news ++ one ∷ []
        → after_ways ≡ ways ++ way ∷ [] → Stage old new notes skipped xs begun (n + 1) after_news after_ways (set now n y) more
    stage_next grown_news grown_ways = rw (grown_news, grown_ways) stage_one

-- all are told
module _ {old new : ViewSeen} {notes : List Note} {skipped : List Bool} {xs : List Standing} {begun n : ℕ} {news : List News}
    {ways : List (Option Way)} {now : List Standing} {steps : ℕ} (s : Stage old new notes skipped xs begun n news ways now steps)
    (past : length skipped ≤ n) where
  pub news_end : news ≡ news_of_each old.rows new.rows notes skipped (map standing_of xs)
  news_end = s.says ∙ ap (map (news_of_pair old new notes skipped xs begun)) (take_all n (zip skipped (map standing_of xs))
      (omega (arith, past, length-zip skipped (map standing_of xs))))

  pub kept_end : AllKept (λ y. IsUpToDate new y.subscription) skipped now
  kept_end i y p f = s.kept i y (omega (arith, past, slice_get_within skipped i false f)) p f

  pub steps_all : IsWithinEach old new (zip skipped xs) begun steps
  steps_all = subst (λ ps. IsWithinEach old new ps begun steps)
      (take_all n (zip skipped xs) (omega (arith, past, length-zip skipped xs))) s.within

pub lead_searches : (xs : List Standing) (ways : List (Option Way)) (now : List Standing) → LeadBack xs ways now
    → AtEach (λ _. StaysRelated HasSameSearch) xs now
lead_searches xs ways now l =
    at_each_weaker (λ i. StaysRelated (LeadsBackWhere (slice_get ways i))) (λ _. StaysRelated HasSameSearch)
    (λ i x y s. record {
      serial = s.serial;
      name = s.name;
      subscription = leads_search (slice_get ways i) x.subscription y.subscription
          s.subscription;
    })
    xs now l.each
