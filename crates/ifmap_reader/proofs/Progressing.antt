-- How far a reader has come.
-- `At` says where a reader is: which tokens it has taken, that any document is those and what goes on from there, and that any spelling
-- goes on with what is left. It holds at the start (`at_start`), and one more token keeps it (`at_next`). From it follow the answers:
-- where a token is refused, opens a level too many or is none, and at the end of the input; the last module says so of the code's offset.
use Rattle.std.proofs.Common.{◌≡◌, ◌≢◌, ℕ, ◌+◌, ◌-◌, ◌<◌, ◌≤◌, Bool, List, [], ◌∷◌, ◌++◌, length, reverse, drop, take, refl, ap, sym, ◌∙◌, subst, append_assoc, arith, length-drop, drop-drop, ◌⊎◌, inl, inr, cond}
use Rattle.std.specs.Prelude.{◌↔◌, count_by, Err, Result}
use Rattle.std.proofs.lemmas.List.{append-nil}
use Rattle.std.proofs.lemmas.List.Sums.{sum_by-append, sum_by-cons}
use Rattle.ifmap_lemmas.specs.Items.{To, to_last, IsOnly, Ahead, ahead_at_start, ahead_next, none_ahead}
use Rattle.ifmap_lemmas.specs.Joined.{cut_at_end}
use Rattle.ifmap_elem.specs.declared.readings.Reading.{Reading}
use Rattle.ifmap_elem.specs.declared.tokens.Token.{Token}
use Rattle.ifmap_elem.specs.Document.{IsDocument}
use Rattle.ifmap_elem.specs.Places.{BeginsDocument, Deep, Opens, Stop, is_start, is_end, open_after, offset}
use Rattle.ifmap_elem.specs.Spells.{Spells, without_byte_order_mark}
use Rattle.ifmap_elem.specs.Tokens.{TakesToken}
use Rattle.ifmap_elem.specs.laws.OneToken.{no_token}
use Rattle.ifmap_lexer.specs.There.{NoToken}
use Rattle.ifmap_reader.specs.declared.errors.ReadError.{ReadError}
use Rattle.ifmap_reader.specs.declared.errors.ReadError.TheVariants.{Unreadable}
use Rattle.ifmap_reader.specs.declared.errors.TokenRefusal.{TokenRefusal}
use Rattle.ifmap_reader.specs.declared.errors.TokenRefusal.TheVariants as refusals
use Rattle.ifmap_reader.specs.declared.progress.DocumentProgress.{DocumentProgress}
use Rattle.ifmap_reader.specs.declared.progress.DocumentProgress.TheVariants as standing
use Rattle.ifmap_reader.specs.NextToken.{NextAnswer}
use Rattle.ifmap_reader.specs.Progress.{Where, AtStart, Within, AfterRoot, IsDocumentFrom, IsLinked, Leads, Passes, TokenAnswer, open_in, depth_read, one_if, where_is}
use Rattle.ifmap_reader.specs.Reads.{IsUnreadable, IsTooDeep, IsRead, refusal_error, read_at_end}
use Rattle.ifmap_reader.proofs.Goings.{no_tokens, no_tokens_start, after_root_ends, some_tokens}
use Rattle.ifmap_reader.proofs.Levels.{goes_deep}
use Rattle.ifmap_reader.proofs.Ways.{some_way}
use Rattle.ifmap_reader.proofs.Fronts.{Shallow, not_deep, is_unreadable_at}

-- where a reader is: the tokens so far, what they make of any document, and what any spelling goes on with
pub record At (bytes : List ℕ) (depth : ℕ) (w : Where) (rest : List ℕ) : Type 0 where
  pub so_far : List Token
  pub lexed : To TakesToken (without_byte_order_mark bytes) so_far rest
  pub goes : (ts : List Token) (r : Reading) → (IsDocument (so_far ++ ts) r ↔ IsDocumentFrom w ts r)
  pub ahead : Ahead TakesToken (without_byte_order_mark bytes) so_far rest []
  pub fits : depth_read w ≤ depth
  pub level : count_by is_start so_far ≡ open_in w + count_by is_end so_far
  pub shallow : Shallow depth so_far
  pub linked : IsLinked w

pub at_start : (bytes : List ℕ) (depth : ℕ) (rest : List ℕ) → rest ≡ without_byte_order_mark bytes → At bytes depth AtStart rest
at_start bytes depth rest is = record {
  so_far = [];
  lexed = sym is;
  goes = λ ts r. (λ x. x, λ x. x);
  ahead = subst (λ (b : List ℕ). Ahead TakesToken (without_byte_order_mark bytes) [] b []) (sym is)
      (ahead_at_start TakesToken (without_byte_order_mark bytes) []);
  fits = omega arith;
  level = omega arith;
  shallow = λ before after t e o. absurd (some_tokens before after t e);
  linked = tt;
}

-- a place in a list with one more at the end is in the list or at the end
split_last : (ts before after : List Token) (u t : Token) → ts ++ u ∷ [] ≡ before ++ (t ∷ after)
    → ((others : List Token) × (ts ≡ before ++ (t ∷ others))) ⊎ ((before ≡ ts) × (t ≡ u))
split_last [] [] after u t e = inr (refl, cc)
split_last [] (b ∷ []) after u t e = cc
split_last [] (b ∷ (c ∷ bs)) after u t e = cc
split_last (x ∷ xs) [] after u t e = let same : x ≡ t = cc in inl (xs, ap (λ (y : Token). y ∷ xs) same)
split_last (x ∷ xs) (b ∷ bs) after u t e =
    let head : x ≡ b = cc in
    let tail : xs ++ u ∷ [] ≡ bs ++ (t ∷ after) = cc in
    elim (split_last xs bs after u t tail) [
      | inl h ↦ inl (h.0, λ i. head i ∷ h.1 i)
      | inr h ↦ let k = h.0 in let l = h.1 in inr (cc, h.1)
    ]

module _ (bytes : List ℕ) (depth : ℕ) (w : Where) (rest : List ℕ) (at : At bytes depth w rest) where
  open_after_is : open_after at.so_far ≡ open_in w
  open_after_is = let l = at.level in omega (arith, l)

  count_with_next : (p : Token → Bool) (t : Token) → count_by p (at.so_far ++ t ∷ []) ≡ count_by p at.so_far + one_if (p t)
  count_with_next p t =
      let a = sum_by-append (λ (u : Token). cond (p u) 1 0) at.so_far (t ∷ []) in
      let b = sum_by-cons (λ (u : Token). cond (p u) 1 0) t [] in
      let none : count_by p [] ≡ 0 = refl in
      omega (arith, a, b, none)

  -- one token more
  module _ (t : Token) (left : List ℕ) (some : rest ≢ []) (takes : TakesToken rest t left)
      (only : (u : Token) (after : List ℕ) → TakesToken rest u after → (u ≡ t) × (after ≡ left)) where
    is_only : IsOnly TakesToken rest t left
    is_only u after h = let k = only u after h in (sym k.0, sym k.1)

    goes_next : (ts : List Token) (r : Reading) → IsDocument ((at.so_far ++ t ∷ []) ++ ts) r ↔ IsDocumentFrom w (t ∷ ts) r
    goes_next ts r =
        let g = at.goes (t ∷ ts) r in
        let e = append_assoc at.so_far (t ∷ []) ts in
        (λ x. g.0 (subst (λ (us : List Token). IsDocument us r) e x), λ x. subst (λ (us : List Token). IsDocument us r) (sym e) (g.1 x))

    pub at_next : (new : Where) → Leads depth w t new → At bytes depth new left
    at_next new l = record {
      so_far = at.so_far ++ t ∷ [];
      lexed = to_last TakesToken (without_byte_order_mark bytes) at.so_far rest t left at.lexed takes;
      goes = λ ts r. let g = goes_next ts r in let f = l.follows ts r in (λ x. f.0 (g.0 x), λ x. g.1 (f.1 x));
      ahead = ahead_next TakesToken (without_byte_order_mark bytes) at.so_far rest t left [] some is_only at.ahead;
      fits = l.fits at.fits;
      linked = l.linked at.linked;
      level = let a = count_with_next is_start t in let b = count_with_next is_end t in
          let c = l.counts in let d = at.level in omega (arith, a, b, c, d);
      shallow = λ before after u e o. elim (split_last at.so_far before after t u e) [
        | inl h ↦ at.shallow before h.0 u h.1 o
        | inr h ↦ let inside =
            l.within (subst Opens h.1 o) in let same : open_after before ≡ open_in w = ap open_after h.0
            ∙ open_after_is in omega (arith, inside, same)
      ];
    }

    -- what any spelling goes on with
    spelled : (r : Reading) → Spells bytes r → (others : List Token) × IsDocumentFrom w (t ∷ others) r
    spelled r s =
        let a = at.ahead s.tokens s.lexed in
        let x = (at.goes a.0 r).0 (subst (λ (us : List Token). IsDocument us r) a.1 s.document) in
        first a.0 a.2 x
      where
        first : (more : List Token) → To TakesToken rest more [] → IsDocumentFrom w more r
            → (others : List Token) × IsDocumentFrom w (t ∷ others) r
        first [] l x = absurd (some l)
        first (u ∷ us) l x = (us, subst (λ (v : Token). IsDocumentFrom w (v ∷ us) r) (only u l.0 l.1).0 x)

    begins_so_far : BeginsDocument at.so_far
    begins_so_far = let s = some_way w in record { more = s.0; reading = s.1.0; document = (at.goes s.0 s.1.0).1 s.1.1 }

    pub next_refused : (place : ℕ) → place ≡ offset bytes rest → ((ts : List Token) (r : Reading)
        → IsDocumentFrom w (t ∷ ts) r → ⊥) → IsUnreadable bytes depth place
    next_refused place is refused =
        is_unreadable_at bytes depth place
        (record {
          tokens = at.so_far;
          rest = rest;
          reaches = record { lexed = at.lexed; allowed = begins_so_far };
          no_further = λ u after h b.
              refused b.more b.reading ((goes_next b.more b.reading).0
              (subst (λ (v : Token). IsDocument ((at.so_far ++ v ∷ []) ++ b.more) b.reading) (only u after h).0 b.document));
          at_is = is;
        })
        at.shallow
        (λ r s. let x = spelled r s in refused x.0 r x.1)

    open_fits : open_in w ≤ depth
    open_fits = let f = at.fits in fitting w f
      where
        fitting : (v : Where) → depth_read v ≤ depth → open_in v ≤ depth
        fitting AtStart f = omega arith
        fitting (Within []) f = omega arith
        fitting (Within (g ∷ gs)) f = omega (arith, f)
        fitting (AfterRoot root) f = omega arith

    pub next_too_deep : (place : ℕ) → place ≡ offset bytes rest → Passes depth w t → IsTooDeep bytes depth place
    next_too_deep place is p =
        let s = some_way p.new in
        record {
          deeper = λ r s. let x = spelled r s in let d = goes_deep p.new x.0 r ((p.follows x.0 r).0 x.1) in let e = p.deeper in omega
              (arith, d, e);
          deep = record {
            tokens = at.so_far;
            tag = t;
            rest = rest;
            after = left;
            lexed = at.lexed;
            taken = takes;
            allowed = record { more = s.0; reading = s.1.0; document = (goes_next s.0 s.1.0).1 ((p.follows s.0 s.1.0).1 s.1.1) };
            opens = p.opens;
            level_is = let a = open_after_is in let b = p.level_is in let c = open_fits in omega (arith, a, b, c);
            first = at.shallow;
            at_is = is;
          };
        }

  begins : BeginsDocument at.so_far
  begins = let s = some_way w in record { more = s.0; reading = s.1.0; document = (at.goes s.0 s.1.0).1 s.1.1 }

  pub not_lexed : rest ≢ [] → ((t : Token) (after : List ℕ) → TakesToken rest t after → ⊥) → (place : ℕ) → place ≡ offset bytes rest
      → IsUnreadable bytes depth place
  not_lexed some none place is =
      is_unreadable_at bytes depth place
      (record {
        tokens = at.so_far;
        rest = rest;
        reaches = record { lexed = at.lexed; allowed = begins };
        no_further = λ t after h b. none
            t after h;
        at_is = is;
      })
      at.shallow
      (λ r s. none_ahead TakesToken (without_byte_order_mark bytes) at.so_far rest [] some none at.ahead s.tokens s.lexed)

  -- at the end of the input
  module _ (end : rest ≡ []) where
    no_more : (more : List Token) → To TakesToken rest more [] → more ≡ []
    no_more [] l = refl
    no_more (u ∷ us) l = absurd (no_token rest u l.0 end l.1)

    spelled_so_far : (r : Reading) → Spells bytes r → IsDocumentFrom w [] r
    spelled_so_far r s =
        let a = at.ahead s.tokens s.lexed in
        let x = (at.goes a.0 r).0 (subst (λ (us : List Token). IsDocument us r) a.1 s.document) in
        subst (λ (us : List Token). IsDocumentFrom w us r) (no_more a.0 a.2) x

    abbrev stopped : (place : ℕ) → place ≡ offset bytes rest → Stop bytes place
    stopped place is = record {
      tokens = at.so_far;
      rest = rest;
      reaches = record { lexed = at.lexed; allowed = begins };
      no_further = λ t
          after h b. no_token rest t after end h;
      at_is = is;
    }

    pub ended_early : ((r : Reading) → IsDocumentFrom w [] r → ⊥) → (place : ℕ) → place ≡ offset bytes rest
        → IsUnreadable bytes depth place
    ended_early none place is = is_unreadable_at bytes depth place (stopped place is) at.shallow (λ r s. none r (spelled_so_far r s))

    pub none_deep : (end_at place : ℕ) → end_at ≡ offset bytes rest → Deep bytes depth place → ⊥
    none_deep end_at place is d = not_deep bytes depth end_at place (stopped end_at is) at.shallow d

    pub spells_whole : (r : Reading) → IsDocumentFrom w [] r → Spells bytes r
    spells_whole r x = record {
      tokens = at.so_far;
      lexed = subst (λ (b : List ℕ). To TakesToken (without_byte_order_mark bytes) at.so_far b) end at.lexed;
      document = subst (λ (us : List Token). IsDocument us r) (append-nil at.so_far) ((at.goes [] r).1 x);
    }

-- of the code's offset
module _ (bytes : List ℕ) (depth : ℕ) (w : Where) (place : ℕ) (at : At bytes depth w (drop place bytes)) where
  some_left : place < length bytes → drop place bytes ≢ []
  some_left l e = let a = ap length e in let b = length-drop place bytes in omega (arith, a, b, l)

  offset_is : place ≤ length bytes → place ≡ offset bytes (drop place bytes)
  offset_is l = let b = length-drop place bytes in omega (arith, b, l)

  pub none_there : (shown : List ℕ) → place < length bytes → shown ≡ drop place bytes → NoToken shown
      → IsRead bytes depth (Err (Unreadable place))
  none_there shown l is none =
      not_lexed bytes depth w (drop place bytes) at (some_left l) (subst NoToken is none) place (offset_is (omega (arith, l)))

  module _ (shown : List ℕ) (t : Token) (count : ℕ) (l : place < length bytes) (is : shown ≡ drop place bytes)
      (taken : TakesToken shown t (drop count shown))
      (alone : (u : Token) (rest : List ℕ) → TakesToken shown u rest → (u ≡ t) × (rest ≡ drop count shown)) where
    after_here : drop count shown ≡ drop (place + count) bytes
    after_here = ap (drop count) is ∙ drop-drop count place bytes

    taken_here : TakesToken (drop place bytes) t (drop (place + count) bytes)
    taken_here = subst (λ (b : List ℕ). TakesToken b t (drop (place + count) bytes)) is
        (subst (λ (b : List ℕ). TakesToken shown t b) after_here taken)

    alone_here : (u : Token) (rest : List ℕ) → TakesToken (drop place bytes) u rest → (u ≡ t) × (rest ≡ drop (place + count) bytes)
    alone_here u rest h = let k = alone u rest (subst (λ (b : List ℕ). TakesToken b u rest) (sym is) h) in (k.0, k.1 ∙ after_here)

    pub next_at : (new : Where) → Leads depth w t new → At bytes depth new (drop (place + count) bytes)
    next_at new h = at_next bytes depth w (drop place bytes) at t (drop (place + count) bytes) (some_left l) taken_here alone_here new h

    pub refused_at : (refusal : TokenRefusal) (result : ReadError) → result ≡ refusal_error refusal place
        → TokenAnswer depth w t (Err refusal)
        → IsRead bytes depth (Err result)
    refused_at refusal result made h = subst (λ (e : ReadError). IsRead bytes depth (Err e)) (sym made) (by refusal h)
      where
        by : (refusal : TokenRefusal) → TokenAnswer depth w t (Err refusal) → IsRead bytes depth (Err (refusal_error refusal place))
        by refusals.NotAllowed h =
            next_refused bytes depth w (drop place bytes) at t (drop (place + count) bytes) (some_left l) taken_here alone_here place
            (offset_is (omega (arith, l))) h
        by refusals.TooDeep h =
            next_too_deep bytes depth w (drop place bytes) at t (drop (place + count) bytes) (some_left l) taken_here alone_here place
            (offset_is (omega (arith, l))) h
        by refusals.NoMemory h = tt

  -- the answers to the token at the front
  pub token_refused : (shown : List ℕ) (refusal : TokenRefusal) (result : ReadError) → place < length bytes → shown ≡ drop place bytes
      → result ≡ refusal_error refusal place → NextAnswer depth w shown (Err refusal) → IsRead bytes depth (Err result)
  token_refused shown refusal result l is made a = elim a [
    | inl e ↦ subst (λ (x : ReadError). IsRead bytes depth (Err x)) (sym (made ∙ ap (λ r. refusal_error r place) e)) tt
    | inr (inl h) ↦
        subst (λ (x : ReadError). IsRead bytes depth (Err x)) (sym (made ∙ ap (λ r. refusal_error r place) h.0))
        (none_there shown l is h.1)
    | inr (inr h) ↦
        refused_at shown h.1.token h.0 l is h.1.takes.taken h.1.takes.alone refusal result made h.1.answers
  ]

pub within_next : (bytes : List ℕ) (place count : ℕ) → place < length bytes
    → count ≤ length (take (length bytes - place) (drop place bytes)) → place + count ≤ length bytes
within_next bytes place count l h =
    let a = ap length (cut_at_end bytes place) in let b = length-drop place bytes in omega (arith, a, b, h, l)

-- at the end
pub end_read : (bytes : List ℕ) (depth : ℕ) (s : DocumentProgress) (place : ℕ) (result : Result Reading ReadError)
    → At bytes depth (where_is s) (drop place bytes) → place ≤ length bytes → length bytes ≤ place → result ≡ read_at_end s place
    → IsRead bytes depth result
end_read bytes depth s place result at within end made = subst (λ (a : Result Reading ReadError). IsRead bytes depth a) (sym made) (by s at)
  where
    none_left : drop place bytes ≡ []
    none_left = no_length (drop place bytes) (let b = length-drop place bytes in omega (arith, b, end))
      where
        no_length : (xs : List ℕ) → length xs ≡ 0 → xs ≡ []
        no_length [] e = refl
        no_length (x ∷ xs) e = absurd (omega (arith, e))

    here : (w : Where) → At bytes depth w (drop place bytes) → place ≡ offset bytes (drop place bytes)
    here w a = offset_is bytes depth w place a within

    by : (s : DocumentProgress) → At bytes depth (where_is s) (drop place bytes) → IsRead bytes depth (read_at_end s place)
    by standing.Start a = ended_early bytes depth AtStart (drop place bytes) a none_left no_tokens_start place (here AtStart a)
    by (standing.Open open_elements) a =
        ended_early bytes depth (Within (reverse open_elements)) (drop place bytes) a none_left (no_tokens (reverse open_elements)) place
        (here (Within (reverse open_elements)) a)
    by (standing.Done r) a = (
      spells_whole bytes depth (AfterRoot r.value) (drop place bytes) a none_left r.value (after_root_ends r.value),
      a.fits,
      λ deep d. none_deep bytes depth
          (AfterRoot r.value) (drop place bytes) a none_left place deep (here (AfterRoot r.value) a) d,
    )
