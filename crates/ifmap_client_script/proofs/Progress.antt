-- How far a script is carried out: deed after deed, and what each wire and the sink gained by it.
-- `snoc` lemmas add one deed at the end of what was done; `then` lemmas put what was done for it after what was done before.
use Rattle.std.proofs.Common.{◌≡◌, refl, ap, ◌∙◌, sym, subst, ℕ, ◌+◌, Bool, true, false, List, [], ◌∷◌, ◌++◌, length, append_assoc, append-nil, length-append, arith}
use Rattle.std.specs.Prelude.{Option, Some, None, IfSome, if◌then◌else◌}
use Rattle.std.specs.Io.KnownBytes.{Appends}
use Rattle.std.proofs.KnownBytes.{Appends-trans}
use Rattle.std.proofs.lemmas.List.Concat.{flat_map-append}
use Rattle.ifmap_elem.specs.Chars.{line_feed}
use Rattle.ifmap_http.specs.Wires.{WireSeen}
use Rattle.ifmap_client_script.specs.declared.exchanges.Caller.{Caller}
use Rattle.ifmap_client_script.specs.Deeds.{Exchange, Deed, Known, after_deed, after_deeds, is_poll}
use Rattle.ifmap_client_script.specs.Deeds as deed
use Rattle.ifmap_client_script.specs.Exchanges.{AnswersTo, Breaks, HasPostedAndHeard, first_asks, second_asks, posts, request_post}
use Rattle.ifmap_client_script.specs.Printing.{deed_text, deeds_text}
use Rattle.ifmap_client_script.specs.Scripts.{Carries}

-- ---- what is known and written

pub known_snoc : (deeds : List Deed) (d : Deed) (known : Known)
    → after_deeds (deeds ++ d ∷ []) known ≡ after_deed d (after_deeds deeds known)
known_snoc [] d known = refl
known_snoc (e ∷ deeds) d known = known_snoc deeds d (after_deed e known)

pub written_snoc : (deeds : List Deed) (d : Deed) (known : Known)
    → deeds_text known (deeds ++ d ∷ []) ≡ deeds_text known deeds ++ deed_text (after_deeds deeds known) d
written_snoc [] d known = append-nil (deed_text known d)
written_snoc (e ∷ deeds) d known =
    ap (λ (t : List ℕ). deed_text known e ++ t) (written_snoc deeds d (after_deed e known))
    ∙ sym (append_assoc (deed_text known e) (deeds_text (after_deed e known) deeds)
    (deed_text (after_deeds deeds (after_deed e known)) d))

-- ---- what goes over the wires

pub second_asks-append : (deeds more : List Deed) → second_asks (deeds ++ more) ≡ second_asks deeds ++ second_asks more
second_asks-append [] more = refl
second_asks-append (deed.passed ∷ deeds) more = second_asks-append deeds more
second_asks-append (deed.printed name ∷ deeds) more = second_asks-append deeds more
second_asks-append (deed.asked a ∷ deeds) more = at (is_poll a.request) (second_asks-append deeds more)
  where
    at : (b : Bool) → second_asks (deeds ++ more) ≡ second_asks deeds ++ second_asks more
        → (if b then a ∷ second_asks (deeds ++ more) else second_asks (deeds ++ more))
        ≡ (if b then a ∷ second_asks deeds else second_asks deeds) ++ second_asks more
    at true e = ap (λ (l : List Exchange). a ∷ l) e
    at false e = e

pub first_asks-append : (deeds more : List Deed) → first_asks (deeds ++ more) ≡ first_asks deeds ++ first_asks more
first_asks-append [] more = refl
first_asks-append (deed.passed ∷ deeds) more = first_asks-append deeds more
first_asks-append (deed.printed name ∷ deeds) more = first_asks-append deeds more
first_asks-append (deed.asked a ∷ deeds) more = at (is_poll a.request) (first_asks-append deeds more)
  where
    at : (b : Bool) → first_asks (deeds ++ more) ≡ first_asks deeds ++ first_asks more
        → (if b then first_asks (deeds ++ more) else a ∷ first_asks (deeds ++ more))
        ≡ (if b then first_asks deeds else a ∷ first_asks deeds) ++ first_asks more
    at true e = e
    at false e = ap (λ (l : List Exchange). a ∷ l) e

posts-append : (caller : Caller) (asked more : List Exchange) → posts caller (asked ++ more) ≡ posts caller asked ++ posts caller more
posts-append caller asked more = flat_map-append (λ (a : Exchange). request_post caller a.request) asked more

pub answers_then : (asked more : List Exchange) (left mid rest : List ℕ) → AnswersTo asked left mid → AnswersTo more mid rest
    → AnswersTo (asked ++ more) left rest
answers_then [] more left mid rest first second = subst (λ (l : List ℕ). AnswersTo more l rest) (sym first) second
answers_then (a ∷ asked) more left mid rest first second =
    (first.0, first.1, answers_then asked more first.0 mid rest first.2 second)

module _ (caller : Caller) (asked : List Exchange) (before mid after : WireSeen) (first : HasPostedAndHeard caller asked before mid) where
  pub exchanges_then : (more : List Exchange) → HasPostedAndHeard caller more mid after
      → HasPostedAndHeard caller (asked ++ more) before after
  exchanges_then more second = record {
    posted = subst (λ (t : List ℕ). Appends before.held after.held t) (sym (posts-append caller asked more))
        (Appends-trans before.held mid.held after.held (posts caller asked) (posts caller more) first.posted second.posted);
    answered = at before.left first.answered second.answered;
    unspent = second.unspent;
  }
    where
      at : (left : Option (List ℕ)) → IfSome left (λ l. (rest : List ℕ) × (mid.left ≡ Some rest) × AnswersTo asked l rest)
          → IfSome mid.left (λ l. (rest : List ℕ) × (after.left ≡ Some rest) × AnswersTo more l rest)
          → IfSome left (λ l. (rest : List ℕ) × (after.left ≡ Some rest) × AnswersTo (asked ++ more) l rest)
      at None one other = tt
      at (Some l) one other =
          let next = subst (λ (o : Option (List ℕ)). IfSome o (λ l. (rest : List ℕ) × (after.left ≡ Some rest) × AnswersTo more l rest))
          one.1 other in
          (next.0, next.1, answers_then asked more l one.0 next.0 one.2 next.2)

  pub breaks_then : (post : List ℕ) (Has : List ℕ → Type 0) → Breaks caller [] post Has mid after
      → Breaks caller asked post Has before after
  breaks_then post Has second = record {
    posted = Appends-trans before.held mid.held after.held (posts caller asked) post first.posted second.posted;
    answered = at before.left first.answered second.answered;
  }
    where
      at : (left : Option (List ℕ)) → IfSome left (λ l. (rest : List ℕ) × (mid.left ≡ Some rest) × AnswersTo asked l rest)
          → IfSome mid.left (λ l. (rest : List ℕ) × AnswersTo [] l rest × Has rest)
          → IfSome left (λ l. (rest : List ℕ) × AnswersTo asked l rest × Has rest)
      at None one other = tt
      at (Some l) one other =
          let next = subst (λ (o : Option (List ℕ)). IfSome o (λ l. (rest : List ℕ) × AnswersTo [] l rest × Has rest)) one.1 other in
          (one.0, one.2, subst Has (sym next.1) next.2)

-- ---- lines

-- more may come after what was carried out
pub carries_more : (offset : ℕ) (known : Known) (bytes : List ℕ) (deeds : List Deed) (rest more : List ℕ)
    → Carries offset known bytes deeds rest → Carries offset known (bytes ++ more) deeds (rest ++ more)
carries_more offset known bytes [] rest more c = ap (λ (l : List ℕ). l ++ more) c
carries_more offset known bytes (d ∷ deeds) rest more c = (
  c.0,
  c.1 ++ more,
  c.2,
  record {
    bytes_are = ap (λ (l : List ℕ). l ++ more) c.3.bytes_are ∙ append_assoc c.0 (line_feed ∷ c.1) more;
    plain = c.3.plain;
    ends = c.3.ends;
  },
  c.4,
  c.5,
  carries_more (offset + length c.0 + 1) (after_deed d known) c.1 deeds rest more c.6,
)

-- one more line is carried out after the others
pub carries_then : (offset at : ℕ) (known : Known) (bytes : List ℕ) (deeds : List Deed) (mid : List ℕ) (d : Deed) (rest : List ℕ)
    → Carries offset known bytes deeds mid → offset + length bytes ≡ at + length mid
    → Carries at (after_deeds deeds known) mid (d ∷ []) rest → Carries offset known bytes (deeds ++ d ∷ []) rest
carries_then offset at known bytes [] mid d rest c is next =
    let same : offset ≡ at = omega (arith, is, ap length c) in
    subst (λ (n : ℕ). Carries n known bytes (d ∷ []) rest) (sym same)
    (subst (λ (b : List ℕ). Carries at known b (d ∷ []) rest) (sym c) next)
carries_then offset at known bytes (e ∷ deeds) mid d rest c is next =
    let size : length bytes ≡ length c.0 + length (line_feed ∷ c.1) = ap length c.3.bytes_are ∙ length-append c.0 (line_feed ∷ c.1) in (
      c.0,
      c.1,
      c.2,
      c.3,
      c.4,
      c.5,
      carries_then (offset + length c.0 + 1) at (after_deed e known) c.1 deeds mid d rest c.6 (omega (arith, size, is)) next,
    )
