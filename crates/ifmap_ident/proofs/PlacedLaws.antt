-- Texts as they are written in a place, each byte on its own up to the byte that ends the text.
-- 1. A claim on all bytes comes from those that are references and those that stand for themselves.
-- 2. What is written for a byte, or for the end, is a piece; no piece goes on from another, so two pieces lead as they compare.
-- 3. A piece tells the byte that it is written for, so pieces of two bytes differ.
-- 4. So texts lead as the pieces at the first place where they differ, and texts that are written alike are one.
use Rattle.std.proofs.Common.{◌≡◌, ℕ, zero, suc, List, [], ◌∷◌, ◌++◌, codes, true, false, not, nat_eq, cond, Option, None, Some, take, refl, ap, sym, ◌∙◌, subst, append_assoc, eq-eqb, inl, inr, ◌⊎◌}
use Rattle.std.proofs.lemmas.Bool.{and_parts, cases_Bool, cases_eq}
use Rattle.std.proofs.lemmas.Map.Lookups.{exact_bytes}
use Rattle.std.specs.Cmp.{Equal-is}
use Rattle.std.specs.Cmp.Lexicographic.{slice_cmp}
use Rattle.std.specs.List.{list_all, slice_get}
use Rattle.std.specs.Ordering.{is_eq, nat_cmp}
use Rattle.std.specs.Str.{byte}
use Rattle.std.specs.declared.cmp.Ordering.{Ordering}
use Rattle.ifmap_lemmas.specs.Numbers.{is_other}
use Rattle.ifmap_elem.specs.Chars.{ampersand, carriage_return, double_quote, greater_than, less_than, line_feed, semicolon, tab}
use Rattle.ifmap_elem.specs.Escapes.{text_byte, value_byte}
use Rattle.ifmap_ident.specs.Leading.{FrontsCompare}
use Rattle.ifmap_ident.specs.Written.{closed_text, end_byte, placed_byte, placed_bytes, written_byte}
use Rattle.ifmap_elem.specs.declared.escaping.TextPlace.{TextPlace}
use Rattle.ifmap_elem.specs.declared.escaping.TextPlace.TheVariants.{Value, Content}
use Rattle.ifmap_ident.proofs.LeadingLaws.{Parted, leads_after, leads_decided, leads_parted, parted_alike}

-- a byte that stands for itself
pub record IsPlain (place : TextPlace) (b : ℕ) : Type 0 where
  pub written : placed_byte place b ≡ b ∷ []
  pub no_ampersand : nat_eq b ampersand ≡ false
  pub no_end : nat_eq b (end_byte place) ≡ false

-- a claim on a byte, where it is c and where it is not
unless : (P : ℕ → Type 0) (b c : ℕ) → P c → (nat_eq b c ≡ false → P b) → P b
unless P b c there other = elim (cases_eq b c) [ inl e ↦ subst P (sym e) there | inr n ↦ other (is_other b c n) ]

-- a claim on all bytes, from those that are references and those that stand for themselves
each_byte : (place : TextPlace) (P : ℕ → Type 0) → P ampersand → P less_than → P greater_than → P double_quote → P tab → P line_feed
    → P carriage_return → ((b : ℕ) → IsPlain place b → P b) → (b : ℕ) → P b
each_byte Value P at_ampersand at_less at_greater at_quote at_tab at_feed at_return plain b =
    unless P b ampersand at_ampersand (λ a.
    unless P b less_than at_less (λ l.
    unless P b double_quote at_quote (λ q.
    unless P b tab at_tab (λ t.
    unless P b line_feed at_feed (λ f.
    unless P b carriage_return at_return (λ r.
    plain b (record { written = rw (a, l, q, t, f, r) refl; no_ampersand = a; no_end = q })))))))
each_byte Content P at_ampersand at_less at_greater at_quote at_tab at_feed at_return plain b =
    unless P b ampersand at_ampersand (λ a.
    unless P b less_than at_less (λ l.
    unless P b greater_than at_greater (λ g.
    unless P b carriage_return at_return (λ r.
    plain b (record { written = rw (a, l, g, r) refl; no_ampersand = a; no_end = l })))))

-- ---- no piece goes on from another

-- a byte but `&`, or `&` and what follows up to the first `;`
abbrev IsPiece : List ℕ → Type 0
IsPiece p = ((b : ℕ) × (p ≡ b ∷ []) × (nat_eq b ampersand ≡ false))
    ⊎ ((name : List ℕ) × (p ≡ ampersand ∷ (name ++ (semicolon ∷ []))) × (list_all (λ b. not (nat_eq b semicolon)) name ≡ true))

is_piece : (place : TextPlace) (o : Option ℕ) → IsPiece (written_byte place o)
is_piece Value None = inl (double_quote, refl, refl)
is_piece Content None = inl (less_than, refl, refl)
is_piece Value (Some b) =
    each_byte Value (λ n. IsPiece (value_byte n))
    (inr (codes "amp", refl, refl)) (inr (codes "lt", refl, refl)) (inl (greater_than, refl, refl))
    (inr (codes "quot", refl, refl))
    (inr (codes "#9", refl, refl)) (inr (codes "#10", refl, refl)) (inr (codes "#13", refl, refl))
    (λ n p. inl (n, p.written, p.no_ampersand)) b
is_piece Content (Some b) =
    each_byte Content (λ n. IsPiece (text_byte n))
    (inr (codes "amp", refl, refl)) (inr (codes "lt", refl, refl)) (inr (codes "gt", refl, refl))
    (inl (double_quote, refl, refl)) (inl (tab, refl, refl)) (inl (line_feed, refl, refl)) (inr (codes "#13", refl, refl))
    (λ n p. inl (n, p.written, p.no_ampersand)) b

no_end : (b : ℕ) → not (nat_eq b semicolon) ≡ true → b ≡ semicolon → ⊥
no_end b h e = let t = eq-eqb b semicolon e in cc

parted_names : (m n : List ℕ) → list_all (λ b. not (nat_eq b semicolon)) m ≡ true → list_all (λ b. not (nat_eq b semicolon)) n ≡ true
    → Parted (m ++ (semicolon ∷ [])) (n ++ (semicolon ∷ []))
parted_names [] [] g h = λ e. tt
parted_names [] (c ∷ n) g h = λ e. absurd (no_end c (and_parts (not (nat_eq c semicolon)) _ h).0 (sym e))
parted_names (b ∷ m) [] g h = λ e. absurd (no_end b (and_parts (not (nat_eq b semicolon)) _ g).0 e)
parted_names (b ∷ m) (c ∷ n) g h = λ e. parted_names m n (and_parts (not (nat_eq b semicolon)) _ g).1
    (and_parts (not (nat_eq c semicolon)) _ h).1

no_ampersand : (b : ℕ) → nat_eq b ampersand ≡ false → b ≡ ampersand → ⊥
no_ampersand b h e = let t = eq-eqb b ampersand e in cc

parted_pieces : (p q : List ℕ) → IsPiece p → IsPiece q → Parted p q
parted_pieces p q g h = elim g [
  | inl s ↦ elim h [
    | inl t ↦ subst (λ x. Parted x q) (sym s.1) (subst (λ y. Parted (s.0 ∷ []) y) (sym t.1) (λ e. tt))
    | inr t ↦ subst (λ x. Parted x q) (sym s.1) (subst (λ y. Parted (s.0 ∷ []) y) (sym t.1) (λ e. absurd (no_ampersand s.0 s.2 e)))
  ]
  | inr s ↦ elim h [
    | inl t ↦ subst (λ x. Parted x q) (sym s.1) (subst (λ y. Parted (ampersand ∷ (s.0 ++ (semicolon ∷ []))) y) (sym t.1)
        (λ e. absurd (no_ampersand t.0 t.2 (sym e))))
    | inr t ↦ subst (λ x. Parted x q) (sym s.1) (subst (λ y. Parted (ampersand ∷ (s.0 ++ (semicolon ∷ []))) y) (sym t.1)
        (λ e. parted_names s.0 t.0 s.2 t.2))
  ]
]

-- ---- each piece is written for one byte

first_of : List ℕ → ℕ
first_of [] = 0
first_of (b ∷ bs) = b

-- what a piece is written for in a place
byte_of_piece : TextPlace → List ℕ → Option ℕ
byte_of_piece place [] = None
byte_of_piece place (b ∷ []) = cond (nat_eq b (end_byte place)) None (Some b)
byte_of_piece place (b ∷ (c ∷ [])) = None
byte_of_piece place (b ∷ (c ∷ (d ∷ e))) =
    Some (cond (nat_eq c (byte "a")) ampersand (cond (nat_eq c (byte "l")) less_than (cond (nat_eq c (byte "g")) greater_than
    (cond (nat_eq c (byte "q")) double_quote (cond (nat_eq d (byte "9")) tab (cond (nat_eq (first_of e) (byte "0")) line_feed
    carriage_return))))))

byte_of_piece-written_byte : (place : TextPlace) (o : Option ℕ) → byte_of_piece place (written_byte place o) ≡ o
unfolding byte_of_piece first_of
byte_of_piece-written_byte Value None = refl
byte_of_piece-written_byte Content None = refl
byte_of_piece-written_byte Value (Some b) =
    each_byte Value (λ n. byte_of_piece Value (value_byte n) ≡ Some n) refl refl refl refl refl refl refl
    (λ n p. ap (byte_of_piece Value) p.written ∙ ap (λ t. cond t None (Some n)) p.no_end) b
byte_of_piece-written_byte Content (Some b) =
    each_byte Content (λ n. byte_of_piece Content (text_byte n) ≡ Some n) refl refl refl refl refl refl refl
    (λ n p. ap (byte_of_piece Content) p.written ∙ ap (λ t. cond t None (Some n)) p.no_end) b

-- ---- texts in one place

module _ (place : TextPlace) where
  piece_leads : (o r : Option ℕ) → FrontsCompare (slice_cmp nat_cmp (written_byte place o) (written_byte place r)) (written_byte place o)
      (written_byte place r)
  piece_leads o r = leads_parted (written_byte place o) (written_byte place r) (parted_pieces (written_byte place o)
      (written_byte place r) (is_piece place o) (is_piece place r))

  pieces_differ : (o r : Option ℕ) → (o ≡ r → ⊥) → is_eq (slice_cmp nat_cmp (written_byte place o) (written_byte place r)) ≡ false
  pieces_differ o r n = elim (cases_Bool (is_eq (slice_cmp nat_cmp (written_byte place o) (written_byte place r)))) [
    | inl e ↦ absurd (n (sym (byte_of_piece-written_byte place o) ∙ ap (byte_of_piece place) (exact_bytes _ _
        ((Equal-is (slice_cmp nat_cmp (written_byte place o) (written_byte place r))).0 e)) ∙ byte_of_piece-written_byte place r))
    | inr e ↦ e
  ]

  -- ---- values by their first byte that differs

  -- what follows the first piece
  after_first : List ℕ → List ℕ
  after_first [] = []
  after_first (b ∷ bs) = closed_text place bs

  first_piece : (bs : List ℕ) → closed_text place bs ≡ written_byte place (slice_get bs 0) ++ after_first bs
  unfolding after_first
  first_piece [] = refl
  first_piece (b ∷ bs) = append_assoc (placed_byte place b) (placed_bytes place bs) (end_byte place ∷ [])

  abbrev Apart : List ℕ → List ℕ → ℕ → Type 0
  Apart one other n = slice_get one n ≡ slice_get other n → slice_get one n ≡ None

  abbrev pub piece_order : List ℕ → List ℕ → ℕ → Ordering
  piece_order one other n = slice_cmp nat_cmp (written_byte place (slice_get one n)) (written_byte place (slice_get other n))

  differ_at_once : (one other : List ℕ) → (slice_get one 0 ≡ slice_get other 0 → ⊥)
      → FrontsCompare (piece_order one other 0) (closed_text place one) (closed_text place other)
  differ_at_once one other n =
      subst (λ p. FrontsCompare (piece_order one other 0) p (closed_text place other)) (sym (first_piece one))
      (subst (λ q. FrontsCompare (piece_order one other 0) (written_byte place (slice_get one 0) ++ after_first one) q) (sym (first_piece
      other))
      (leads_decided (piece_leads (slice_get one 0) (slice_get other 0)) (pieces_differ (slice_get one 0) (slice_get other 0) n)
      (after_first one) (after_first other)))

  pub text_leads : (one other : List ℕ) (n : ℕ) → take n one ≡ take n other → Apart one other n
      → FrontsCompare (piece_order one other n) (closed_text place one) (closed_text place other)
  text_leads [] [] zero e h = piece_leads None None
  text_leads [] [] (suc n) e h = piece_leads None None
  text_leads [] (c ∷ cs) zero e h = differ_at_once [] (c ∷ cs) (λ d. cc)
  text_leads [] (c ∷ cs) (suc n) e h = absurd (cc)
  text_leads (b ∷ bs) [] zero e h = differ_at_once (b ∷ bs) [] (λ d. cc)
  text_leads (b ∷ bs) [] (suc n) e h = absurd (cc)
  text_leads (b ∷ bs) (c ∷ cs) zero e h = differ_at_once (b ∷ bs) (c ∷ cs) (λ d. let gone = h d in cc)
  text_leads (b ∷ bs) (c ∷ cs) (suc n) e h =
      let same : b ≡ c = cc in
      let rest : take n bs ≡ take n cs = cc in
      subst (λ p. FrontsCompare (piece_order bs cs n) p (closed_text place (c ∷ cs))) (sym (append_assoc (placed_byte place b)
      (placed_bytes place bs) (end_byte place ∷ [])))
      (subst (λ q. FrontsCompare (piece_order bs cs n) (placed_byte place b ++ closed_text place bs) q) (ap
      (λ x. placed_byte place x ++ closed_text place cs) same ∙ sym (append_assoc (placed_byte place c) (placed_bytes place cs)
      (end_byte place ∷ [])))
      (leads_after (placed_byte place b) (text_leads bs cs n rest h)))

  -- ---- values are told apart

  piece_alike : (one other s t : List ℕ) → closed_text place one ++ s ≡ closed_text place other ++ t
      → (slice_get one 0 ≡ slice_get other 0) × (after_first one ++ s ≡ after_first other ++ t)
  piece_alike one other s t e =
      let o = slice_get one 0 in
      let r = slice_get other 0 in
      let split = sym (append_assoc (written_byte place o) (after_first one) s) ∙ ap (λ p. p ++ s) (sym (first_piece one)) ∙ e ∙ ap
      (λ p. p ++ t) (first_piece other) ∙ append_assoc (written_byte place r) (after_first other) t in
      let both = parted_alike (written_byte place o) (written_byte place r) (after_first one ++ s) (after_first other ++ t)
      (parted_pieces (written_byte place o) (written_byte place r) (is_piece place o) (is_piece place r)) split in
      (sym (byte_of_piece-written_byte place o) ∙ ap (byte_of_piece place) both.0 ∙ byte_of_piece-written_byte place r, both.1)

  pub text_alike : (one other s t : List ℕ) → closed_text place one ++ s ≡ closed_text place other ++ t → (one ≡ other) × (s ≡ t)
  unfolding after_first
  text_alike [] [] s t e = (refl, (piece_alike [] [] s t e).1)
  text_alike [] (c ∷ cs) s t e = let first = (piece_alike [] (c ∷ cs) s t e).0 in cc
  text_alike (b ∷ bs) [] s t e = let first = (piece_alike (b ∷ bs) [] s t e).0 in cc
  text_alike (b ∷ bs) (c ∷ cs) s t e =
      let here = piece_alike (b ∷ bs) (c ∷ cs) s t e in
      let first : b ≡ c = let some = here.0 in cc in
      let rest = text_alike bs cs s t here.1 in
      ((λ i. first i ∷ rest.0 i), rest.1)
