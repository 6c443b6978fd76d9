-- What comes of reading bytes: an element, a place where they stop to be the beginning of a document, or a tag that opens a level too many.
use Rattle.std.proofs.Common.{◌≡◌, ◌≢◌, ℕ, suc, ◌<◌, ◌≤◌, Bool, true, false, List, [], ◌∷◌, length, drop, refl, sym, subst, arith, length-drop, ◌⊎◌, inl, inr}
use Rattle.std.specs.Prelude.{◌==◌, if◌then◌else◌, Ok}
use Rattle.std.specs.List.{starts_with}
use Rattle.std.proofs.lemmas.List.{append-nil}
use Rattle.std.proofs.lemmas.List.Sums.{count_by-le-length}
use Rattle.ifmap_lemmas.specs.Deciding.{Decided, by_length}
use Rattle.ifmap_lemmas.specs.Items.{To}
use Rattle.ifmap_elem.specs.declared.readings.Reading.{Reading}
use Rattle.ifmap_elem.specs.declared.tokens.Token.{Token}
use Rattle.ifmap_elem.specs.Document.{IsDocument}
use Rattle.ifmap_elem.specs.Places.{Deep, Stop, is_start, offset}
use Rattle.ifmap_elem.specs.Spells.{Spells, byte_order_mark, without_byte_order_mark}
use Rattle.ifmap_elem.specs.Tokens.{TakesToken}
use Rattle.ifmap_elem.specs.laws.OneToken.{no_token, one_token}
use Rattle.ifmap_reader.specs.Progress.{Where, AtStart, Within, AfterRoot}
use Rattle.ifmap_reader.specs.Reads.{IsRead, IsTooDeep, IsUnreadable}
use Rattle.ifmap_reader.proofs.Goings.{no_tokens, no_tokens_start, after_root_ends}
use Rattle.ifmap_reader.proofs.Progressing.{At, at_start, at_next, ended_early, none_deep, not_lexed, next_refused, next_too_deep, spells_whole}
use Rattle.ifmap_reader.proofs.deciding.Goes.{Goes, goes}

-- how a reading comes out
abbrev pub Outcome : List ℕ → ℕ → Type 0
Outcome bytes depth =
    ((r : Reading) × IsRead bytes depth (Ok r)) ⊎ (((at : ℕ) × IsUnreadable bytes depth at) ⊎ ((at : ℕ) × IsTooDeep bytes depth at))

-- what the lexer decides
module _ (token_or_none : (bytes : List ℕ) → Decided ((t : Token) × (rest : List ℕ) × TakesToken bytes t rest))
    (some_bytes : (bytes : List ℕ) (t : Token) (rest : List ℕ) → TakesToken bytes t rest → length rest < length bytes) where
  module _ (bytes : List ℕ) (depth : ℕ) where
    abbrev FromThere : List ℕ → Type 0
    FromThere rest = (w : Where) → At bytes depth w rest → Outcome bytes depth

    at_end : (rest : List ℕ) → rest ≡ [] → FromThere rest
    at_end rest end AtStart at =
        inr (inl (_, ended_early bytes depth AtStart rest at end no_tokens_start (offset bytes rest) refl))
    at_end rest end (Within fs) at =
        inr (inl (_, ended_early bytes depth (Within fs) rest at end (no_tokens fs) (offset bytes rest) refl))
    at_end rest end (AfterRoot r) at = inl (
      r,
      (
        spells_whole bytes depth (AfterRoot r) rest at end r (after_root_ends r),
        at.fits,
        λ place d. none_deep bytes depth (AfterRoot r) rest at end (offset bytes rest) place refl d,
      ),
    )

    at_token : (rest : List ℕ) → rest ≢ [] → (w : Where) (at : At bytes depth w rest) (t : Token) (after : List ℕ) → TakesToken rest t after
        → ((new : Where) → At bytes depth new after → Outcome bytes depth) → Goes depth w t → Outcome bytes depth
    at_token rest some w at t after takes others g =
        let only : (u : Token) (other : List ℕ) → TakesToken rest u other → (u ≡ t) × (other ≡ after)
        = λ u other l. one_token rest u t other after l takes in
        let place = offset bytes rest in
        elim g [
          | inl l ↦ others l.0 (at_next bytes depth w rest at t after some takes only l.0 l.1)
          | inr h ↦ elim h [
            | inl p ↦ inr (inr (place, next_too_deep bytes depth w rest at t after some takes only place refl p))
            | inr none ↦ inr (inl (place, next_refused bytes depth w rest at t after some takes only place refl none))
          ]
        ]

    from_there : (rest : List ℕ) → ((after : List ℕ) → length after < length rest → FromThere after) → FromThere rest
    from_there [] others w at = at_end [] refl w at
    from_there (b ∷ bs) others w at = elim (token_or_none (b ∷ bs)) [
      | inr none ↦
          let place = offset bytes (b ∷ bs) in
          inr (inl (place, not_lexed bytes depth w (b ∷ bs) at (λ e. cc) (λ t after l. none (t, after, l)) place refl))
      | inl t ↦ at_token (b ∷ bs) (λ e. cc) w at t.0 t.1 t.2 (others t.1 (some_bytes (b ∷ bs) t.0 t.1 t.2)) (goes depth w t.0)
    ]

    pub outcome : Outcome bytes depth
    outcome =
        let all = without_byte_order_mark bytes in by_length FromThere from_there all AtStart (at_start bytes depth all refl)

  -- whether some tag opens a level too many
  pub deep_or_not : (bytes : List ℕ) (depth : ℕ) → Decided ((at : ℕ) × Deep bytes depth at)
  deep_or_not bytes depth = elim (outcome bytes depth) [
    | inl r ↦ inr (λ d. r.1.2 d.0 d.1)
    | inr h ↦ elim h [
      | inl u ↦ inr (λ d. u.1.shallow d.0 d.1)
      | inr d ↦ inl (d.0, d.1.deep)
    ]
  ]

  -- no tag opens more levels than there are bytes
  few_tokens : (bytes : List ℕ) (ts : List Token) (rest : List ℕ) → To TakesToken bytes ts rest → length ts ≤ length bytes
  few_tokens bytes [] rest l = omega arith
  few_tokens bytes (t ∷ ts) rest l =
      let here = some_bytes bytes t l.0 l.1 in let others = few_tokens l.0 ts rest l.2 in omega (arith, here, others)

  not_longer_without_mark : (bytes : List ℕ) → length (without_byte_order_mark bytes) ≤ length bytes
  not_longer_without_mark bytes = by (starts_with ◌==◌ bytes byte_order_mark)
    where
      by : (b : Bool) → length (if b then drop 3 bytes else bytes) ≤ length bytes
      by true = omega (arith, length-drop 3 bytes)
      by false = omega arith

  not_so_deep : (bytes : List ℕ) (at : ℕ) → Deep bytes (suc (length bytes)) at → ⊥
  not_so_deep bytes at d =
      let few = few_tokens (without_byte_order_mark bytes) d.tokens d.rest d.lexed in
      let short = not_longer_without_mark bytes in
      let starts = count_by-le-length is_start d.tokens in
      let level = d.level_is in
      absurd (omega (arith, few, short, starts, level))

  stop_of : (bytes : List ℕ) (r : Reading) → Spells bytes r → Stop bytes (offset bytes [])
  stop_of bytes r s = record {
    tokens = s.tokens;
    rest = [];
    reaches = record {
      lexed = s.lexed;
      allowed = record {
        more = [];
        reading = r;
        document = subst (λ (ts : List Token). IsDocument ts r) (sym (append-nil s.tokens)) s.document;
      };
    };
    no_further = λ t after l b. no_token [] t after refl l;
    at_is = refl;
  }

  pub some_stop : (bytes : List ℕ) → (at : ℕ) × Stop bytes at
  some_stop bytes = elim (outcome bytes (suc (length bytes))) [
    | inl r ↦ (offset bytes [], stop_of bytes r.0 r.1.0)
    | inr h ↦ elim h [
      | inl u ↦ (u.0, u.1.stop)
      | inr d ↦ absurd (not_so_deep bytes d.0 d.1.deep)
    ]
  ]

  pub spelled_or_not : (bytes : List ℕ) → Decided ((r : Reading) × Spells bytes r)
  spelled_or_not bytes = elim (outcome bytes (suc (length bytes))) [
    | inl r ↦ inl (r.0, r.1.0)
    | inr h ↦ elim h [
      | inl u ↦ inr (λ s. u.1.none s.0 s.1)
      | inr d ↦ absurd (not_so_deep bytes d.0 d.1.deep)
    ]
  ]
