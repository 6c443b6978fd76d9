-- Each text writes one filter, or stops at one place. (1) Reading goes on while tokens stand there;
-- (2) a filter's tokens are one filter: reading them leads to one place; (3) two readings of one text: one goes on from the other.
use Rattle.std.proofs.Common.{◌≡◌, ℕ, ◌+◌, ◌<◌, List, [], ◌∷◌, ◌++◌, length, refl, ap, sym, ◌∙◌, subst, arith, inl, inr, Option, Some, None, append_assoc}
use Rattle.std.specs.Prelude.{◌⊎◌, chars}
use Rattle.std.proofs.lemmas.List.{append-nil}
use Rattle.ifmap_lemmas.specs.Deciding.{by_length, value_or_none}
use Rattle.ifmap_lemmas.specs.Items.{To}
use Rattle.ifmap_prefixes.specs.ifmap_reader.declared.scoping.Scope.{Scope}
use Rattle.ifmap_filter.specs.declared.filters.Filter.{Filter}
use Rattle.ifmap_filter.specs.declared.tokens.FilterToken.{FilterToken}
use Rattle.ifmap_filter.specs.Grammar.{IsFilter, depth_limit}
use Rattle.ifmap_filter.specs.Laws.{FilterOrStop, OneFilter, OnePlace, StopsWhereNone}
use Rattle.ifmap_filter.specs.Progress.{IsFilterFrom, FilterState, Start, open_parts, follow_token, filter_at}
use Rattle.ifmap_filter.specs.Reaching.{ReadsTo}
use Rattle.ifmap_filter.specs.Texts.{BeginsFilter, StopsAt, WritesFilter, token_offset}
use Rattle.ifmap_filter.specs.Tokens.{HasNoToken, FrontToken, Takes, token_at, without_white}
use Rattle.ifmap_filter.proofs.Ending.{EndsAt, ends}
use Rattle.ifmap_filter.proofs.Following.{IsRight, follows_right}
use Rattle.ifmap_filter.proofs.Reaching.{at_start, later_length, next_place, only_taken, not_end, stops_at_end, stops_at_token, stops_where_none, taken_later, whole_text}

-- (1) reading

module _ (text : List ℕ) (scope : Scope) where
  abbrev Outcome : Type 0
  Outcome = ((filter : Filter) × WritesFilter text scope filter) ⊎ ((at : ℕ) × StopsAt text scope at)

  abbrev Reads : List ℕ → Type 0
  Reads cs = (w : FilterState) → ReadsTo text scope w cs → Outcome

  module _ (cs : List ℕ) (shorter : (ds : List ℕ) → length ds < length cs → Reads ds) (w : FilterState) (r : ReadsTo text scope w cs) where
    at_token : (t : FilterToken) (rest : List ℕ) → Takes cs t rest
        → ((next : FilterState) × (follow_token scope w t ≡ Some next)) ⊎ (follow_token scope w t ≡ None)
        → Outcome
    at_token t rest takes (inl (next, is)) =
        shorter rest (later_length cs rest (taken_later cs t rest takes)) next (next_place text scope w cs r t rest takes next is)
    at_token t rest takes (inr none) = inr (token_offset text cs, stops_at_token text scope w cs r t rest takes none)

    at_end : HasNoToken cs → ((filter : Filter) × (filter_at w ≡ Some filter)) ⊎ (filter_at w ≡ None) → Outcome
    at_end end (inl (filter, is)) = inl (filter, whole_text text scope w cs r end filter is)
    at_end end (inr none) = inr (token_offset text cs, stops_at_end text scope w cs r end none)

    at_none : token_at (without_white cs) ≡ None → (ds : List ℕ) → without_white cs ≡ ds → Outcome
    at_none none [] end = at_end end (value_or_none (filter_at w))
    at_none none (d ∷ ds) some =
        inr (token_offset text cs, stops_where_none text scope w cs r none (λ e. let wrong : [] ≡ d ∷ ds = sym e ∙ some in cc))

    reads_on : ((k : FrontToken) × (token_at (without_white cs) ≡ Some k)) ⊎ (token_at (without_white cs) ≡ None) → Outcome
    reads_on (inl (k, is)) = at_token k.token k.rest is (value_or_none (follow_token scope w k.token))
    reads_on (inr none) = at_none none (without_white cs) refl

  reads : (cs : List ℕ) → Reads cs
  reads = by_length Reads (λ cs shorter w r. reads_on cs shorter w r (value_or_none (token_at (without_white cs))))

pub filter_or_stop : FilterOrStop
filter_or_stop text scope u = reads text scope (chars text) Start (at_start text scope)

-- (2) tokens are one filter

module _ (scope : Scope) where
  abbrev IsOne : ℕ → FilterState → List FilterToken → Type 0
  IsOne n w ts = (f g : Filter) → IsFilterFrom scope f n w ts → IsFilterFrom scope g n w ts → f ≡ g

  one_at_end : (n : ℕ) (w : FilterState) (o : Option Filter) → EndsAt scope n w o → IsOne n w []
  one_at_end n w None none f g a b = absurd (none f a)
  one_at_end n w (Some h) is f g a b = (is f).0 a ∙ sym ((is g).0 b)

  one_after : (n : ℕ) (w : FilterState) (t : FilterToken) (ts : List FilterToken) (o : Option FilterState)
      → ((m : ℕ) (next : FilterState) → m + open_parts next ≡ depth_limit → IsOne m next ts) → IsRight scope n w t o → IsOne n w (t ∷ ts)
  one_after n w t ts None others none f g a b = absurd (none f ts a)
  one_after n w t ts (Some next) others (m, e, is) f g a b = others m next e f g ((is f ts).0 a) ((is g ts).0 b)

  one : (ts : List FilterToken) (n : ℕ) (w : FilterState) → n + open_parts w ≡ depth_limit → IsOne n w ts
  one [] n w e = one_at_end n w (filter_at w) (ends scope n w)
  one (t ∷ ts) n w e = one_after n w t ts (follow_token scope w t) (λ m next f. one ts m next f) (follows_right scope n w e t)

  pub tokens_are_one : (ts : List FilterToken) (f g : Filter) → IsFilter scope ts f → IsFilter scope ts g → f ≡ g
  tokens_are_one ts = one ts depth_limit Start (omega arith)

-- (3) two readings of one text

-- one goes on from the other, or both stand at one place
abbrev IsFurther : List FilterToken → List ℕ → List FilterToken → List ℕ → Type 0
IsFurther ts rest us after =
    (t : FilterToken) × (mid : List ℕ) × (more : List FilterToken) × (us ≡ ts ++ (t ∷ more)) × Takes rest t mid × To Takes mid more after

compare : (cs : List ℕ) (ts us : List FilterToken) (rest after : List ℕ) → To Takes cs ts rest → To Takes cs us after
    → ((ts ≡ us) × (rest ≡ after)) ⊎ (IsFurther ts rest us after ⊎ IsFurther us after ts rest)
compare cs [] [] rest after l m = inl (refl, sym l ∙ m)
compare cs [] (u ∷ us) rest after l (mid, takes, others) = inr (inl (u, mid, us, refl, subst (λ xs. Takes xs u mid) l takes, others))
compare cs (t ∷ ts) [] rest after (mid, takes, others) m = inr (inr (t, mid, ts, refl, subst (λ xs. Takes xs t mid) m takes, others))
compare cs (t ∷ ts) (u ∷ us) rest after (mid, takes, others) (mid', also, more) =
    let same = only_taken cs t u mid mid' takes also in
    elim (compare mid ts us rest after others (subst (λ xs. To Takes xs us after) (sym same.1) more)) [
      | inl both ↦ let head = same.0 in let tail = both.0 in inl ((λ i. head i ∷ tail i), both.1)
      | inr further ↦ elim further [
        | inl f ↦ inr (inl (f.0, f.1, f.2, (λ i. sym same.0 i ∷ f.3 i), f.4, f.5))
        | inr f ↦ inr (inr (f.0, f.1, f.2, (λ i. same.0 i ∷ f.3 i), f.4, f.5))
      ]
    ]

-- tokens that go on from a stop begin no filter
past_stop : (text : List ℕ) (scope : Scope) (at : ℕ) (s : StopsAt text scope at) (us : List FilterToken) (after : List ℕ)
    → IsFurther s.tokens s.rest us after
    → BeginsFilter scope us → ⊥
past_stop text scope at s us after (t, mid, more, e, takes, others) b =
    let all : us ++ b.more ≡ (s.tokens ++ t ∷ []) ++ (more ++ b.more) =
    ap (λ xs. xs ++ b.more) e ∙ append_assoc s.tokens (t ∷ more) b.more ∙ sym (append_assoc s.tokens (t ∷ []) (more ++ b.more)) in
    s.no_further t mid takes
    (record { more = more ++ b.more; filter = b.filter; filter_is = subst (λ ts. IsFilter scope ts b.filter) all b.filter_is })

filter_begins : (scope : Scope) (ts : List FilterToken) (filter : Filter) → IsFilter scope ts filter → BeginsFilter scope ts
filter_begins scope ts filter is =
    record { more = []; filter = filter; filter_is = subst (λ us. IsFilter scope us filter) (sym (append-nil ts)) is }

pub stops_where_no_filter : StopsWhereNone
stops_where_no_filter text scope at s filter w = elim (compare (chars text) s.tokens w.tokens s.rest w.rest s.lexed w.lexed) [
  | inl both ↦ s.unfinished filter (subst HasNoToken (sym both.1) w.is_end) (subst (λ ts. IsFilter scope ts filter) (sym both.0)
      w.filter_is)
  | inr further ↦ elim further [
    | inl f ↦ past_stop text scope at s w.tokens w.rest f (filter_begins scope w.tokens filter w.filter_is)
    | inr f ↦ not_end w.rest f.0 f.1 f.4 w.is_end
  ]
]

pub one_filter : OneFilter
one_filter text scope filter other w v = elim (compare (chars text) w.tokens v.tokens w.rest v.rest w.lexed v.lexed) [
  | inl both ↦ tokens_are_one scope v.tokens filter other (subst (λ ts. IsFilter scope ts filter) both.0 w.filter_is) v.filter_is
  | inr further ↦ elim further [
    | inl f ↦ absurd (not_end w.rest f.0 f.1 f.4 w.is_end)
    | inr f ↦ absurd (not_end v.rest f.0 f.1 f.4 v.is_end)
  ]
]

pub one_place : OnePlace
one_place text scope at other s r = elim (compare (chars text) s.tokens r.tokens s.rest r.rest s.lexed r.lexed) [
  | inl both ↦ s.at_is ∙ ap (token_offset text) both.1 ∙ sym r.at_is
  | inr further ↦ elim further [
    | inl f ↦ absurd (past_stop text scope at s r.tokens r.rest f r.begins)
    | inr f ↦ absurd (past_stop text scope other r s.tokens s.rest f s.begins)
  ]
]
