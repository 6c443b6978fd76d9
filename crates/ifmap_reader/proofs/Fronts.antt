-- Two lists of tokens at the front of the same bytes: one of them goes on from the other. So where the bytes stop is one place, and so
-- is the first tag that opens a level too many.
use Rattle.std.proofs.Common.{◌≡◌, ℕ, ◌<◌, List, [], ◌∷◌, ◌++◌, refl, ap, sym, ◌∙◌, subst, append_assoc, arith, ◌⊎◌, inl, inr}
use Rattle.std.proofs.lemmas.List.{append-nil}
use Rattle.ifmap_lemmas.specs.Items.{To, to_last}
use Rattle.ifmap_elem.specs.declared.readings.Reading.{Reading}
use Rattle.ifmap_elem.specs.declared.tokens.Token.{Token}
use Rattle.ifmap_elem.specs.Document.{IsDocument}
use Rattle.ifmap_elem.specs.Places.{BeginsDocument, Deep, Opens, Stop, offset, open_after}
use Rattle.ifmap_elem.specs.Spells.{Spells, without_byte_order_mark}
use Rattle.ifmap_elem.specs.Tokens.{TakesToken}
use Rattle.ifmap_elem.specs.laws.OneToken.{one_token}
use Rattle.ifmap_reader.specs.Reads.{IsUnreadable}

-- each tag so far opened a level up to that depth
abbrev pub Shallow : ℕ → List Token → Type 0
Shallow depth ts = (before after : List Token) (t : Token) → ts ≡ before ++ (t ∷ after) → Opens t → open_after before < depth

-- some tokens go on from others, which left these bytes, and leave those
abbrev GoOn : List Token → List ℕ → List Token → List ℕ → Type 0
GoOn ts rest us end = (more : List Token) × (us ≡ ts ++ more) × To TakesToken rest more end

one_front : (bytes : List ℕ) (ts us : List Token) (rest end : List ℕ) → To TakesToken bytes ts rest → To TakesToken bytes us end
    → GoOn ts rest us end ⊎ GoOn us end ts rest
one_front bytes [] us rest end l m = inl (us, refl, subst (λ (b : List ℕ). To TakesToken b us end) l m)
one_front bytes (t ∷ ts) [] rest end l m = inr (t ∷ ts, refl, subst (λ (b : List ℕ). To TakesToken b (t ∷ ts) rest) m l)
one_front bytes (t ∷ ts) (u ∷ us) rest end l m =
    let both = one_token bytes t u l.0 m.0 l.1 m.1 in
    let head : t ≡ u = both.0 in
    let back : u ≡ t = sym head in
    elim (one_front m.0 ts us rest end (subst (λ (b : List ℕ). To TakesToken b ts rest) both.1 l.2) m.2) [
      | inl h ↦ inl (h.0, (λ i. back i ∷ h.1 i), h.2)
      | inr h ↦ inr (h.0, (λ i. head i ∷ h.1 i), h.2)
    ]

-- what begins a document does so up to each of its tokens
begins_front : (ts : List Token) (u : Token) (us : List Token) → BeginsDocument (ts ++ (u ∷ us)) → BeginsDocument (ts ++ u ∷ [])
begins_front ts u us b = record {
  more = us ++ b.more;
  reading = b.reading;
  document = subst (λ (xs : List Token). IsDocument xs b.reading)
      (append_assoc ts (u ∷ us) b.more ∙ sym (append_assoc ts (u ∷ []) (us ++ b.more))) b.document;
}

module _ (bytes : List ℕ) where
  -- where shallow tokens stop, no tag opens a level too many
  pub not_deep : (depth at place : ℕ) (s : Stop bytes at) → Shallow depth s.tokens → Deep bytes depth place → ⊥
  not_deep depth at place s shallow d =
      elim (one_front (without_byte_order_mark bytes) s.tokens (d.tokens ++ d.tag ∷ []) s.rest d.after s.reaches.lexed
      (to_last TakesToken (without_byte_order_mark bytes) d.tokens d.rest d.tag d.after d.lexed d.taken)) [
        | inl h ↦ beyond h.0 h.1 h.2
        | inr h ↦ among h.0 (h.1 ∙ append_assoc d.tokens (d.tag ∷ []) h.0)
      ]
    where
      among : (after : List Token) → s.tokens ≡ d.tokens ++ (d.tag ∷ after) → ⊥
      among after e = let inside = shallow d.tokens after d.tag e d.opens in let level = d.level_is in omega (arith, inside, level)

      beyond : (more : List Token) → d.tokens ++ d.tag ∷ [] ≡ s.tokens ++ more → To TakesToken s.rest more d.after → ⊥
      beyond [] e l = among [] (sym (e ∙ append-nil s.tokens))
      beyond (u ∷ us) e l = s.no_further u l.0 l.1 (begins_front s.tokens u us (subst BeginsDocument e d.allowed))

  pub is_unreadable_at : (depth at : ℕ) (s : Stop bytes at) → Shallow depth s.tokens → ((r : Reading) → Spells bytes r → ⊥)
      → IsUnreadable bytes depth at
  is_unreadable_at depth at s shallow none = record { none = none; stop = s; shallow = λ place d. not_deep depth at place s shallow d }

  stops_here : (a b : ℕ) (s : Stop bytes a) (t : Stop bytes b) → GoOn s.tokens s.rest t.tokens t.rest → a ≡ b
  stops_here a b s t h = by h.0 h.1 h.2
    where
      by : (more : List Token) → t.tokens ≡ s.tokens ++ more → To TakesToken s.rest more t.rest → a ≡ b
      by [] e l = s.at_is ∙ ap (offset bytes) l ∙ sym t.at_is
      by (u ∷ us) e l = absurd (s.no_further u l.0 l.1 (begins_front s.tokens u us (subst BeginsDocument e t.reaches.allowed)))

  pub one_stop : (a b : ℕ) → Stop bytes a → Stop bytes b → a ≡ b
  one_stop a b s t =
      elim (one_front (without_byte_order_mark bytes) s.tokens t.tokens s.rest t.rest s.reaches.lexed t.reaches.lexed) [
        | inl h ↦ stops_here a b s t h
        | inr h ↦ sym (stops_here b a t s h)
      ]

  deep_here : (depth a b : ℕ) (d : Deep bytes depth a) (e : Deep bytes depth b) → GoOn d.tokens d.rest e.tokens e.rest → a ≡ b
  deep_here depth a b d e h = by h.0 h.1 h.2
    where
      by : (more : List Token) → e.tokens ≡ d.tokens ++ more → To TakesToken d.rest more e.rest → a ≡ b
      by [] is l = d.at_is ∙ ap (offset bytes) l ∙ sym e.at_is
      by (u ∷ us) is l =
          let same : d.tag ≡ u = (one_token d.rest d.tag u d.after l.0 d.taken l.1).0 in
          let inside = e.first d.tokens us u is (subst Opens same d.opens) in
          let level = d.level_is in
          absurd (omega (arith, inside, level))

  pub one_deep : (depth a b : ℕ) → Deep bytes depth a → Deep bytes depth b → a ≡ b
  one_deep depth a b d e =
      elim (one_front (without_byte_order_mark bytes) d.tokens e.tokens d.rest e.rest d.lexed e.lexed) [
        | inl h ↦ deep_here depth a b d e h
        | inr h ↦ sym (deep_here depth b a e d h)
      ]
