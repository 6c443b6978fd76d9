-- The settings of the declaration, and the declaration.
-- Plan: (1) a setting of the declaration is a name and a value between quotes; (2) letters without regard to case, for the
-- name of the encoding (`encoding_from`, `from_encoding`); (3) the settings in their order: the version, then the encoding
-- and whether the document stands alone, where they are there; (4) the declaration from its first byte to its last.
use Rattle.std.proofs.Common.{◌≡◌, ◌≢◌, ℕ, Bool, true, false, List, [], ◌∷◌, ◌++◌, map, refl, ap, sym, ◌∙◌, subst, arith, inl, inr}
use Rattle.std.specs.Prelude.{codes}
use Rattle.std.specs.Char.{to_ascii_uppercase, to_ascii_lowercase}
use Rattle.std.specs.Str.{byte}
use Rattle.ifmap_elem.specs.Chars.{IsWhite, is_white}
use Rattle.ifmap_elem.specs.Tokens.{TakesQuoted, TakesSetting, TakesOptional, TakesDeclaration}
use Rattle.ifmap_lemmas.specs.Cuts.{Stops, one_cut}
use Rattle.ifmap_elem.specs.laws.OneToken.{one_quoted}
use Rattle.ifmap_lexer.specs.Cutting.{Cuts}
use Rattle.ifmap_lexer.specs.Settings.{IsEncoding, IsXmlVersion, IsYesOrNo, SetsTo, StartsNotWhite, TakesWhereSet}
use Rattle.ifmap_lemmas.specs.Lists.{same_front}
use Rattle.ifmap_lemmas.specs.Letters.{all_raised, all_lowered}

stops_at : (name after : List ℕ) → StartsNotWhite name → Stops is_white (name ++ after)
stops_at [] after h = absurd h
stops_at (b ∷ bs) after h = h

module _ (name : List ℕ) (starts : StartsNotWhite name) where
  module _ (bytes white inner : List ℕ) (c : Cuts is_white bytes white inner) where
    parted : (w r : List ℕ) (t : SetsTo name bytes w r) → (white ≡ t.white) × (inner ≡ name ++ t.after)
    parted w r t = one_cut is_white white t.white inner (name ++ t.after) c.passes t.is_white c.stops (stops_at name t.after starts)
        (sym c.bytes_are ∙ t.bytes_are)

    pub not_spaced : white ≡ [] → (w r : List ℕ) → SetsTo name bytes w r → ⊥
    not_spaced e w r t = t.some_white (sym (parted w r t).0 ∙ e)

    pub not_named : ((rest : List ℕ) → inner ≡ name ++ rest → ⊥) → (w r : List ℕ) → SetsTo name bytes w r → ⊥
    not_named none w r t = none t.after (parted w r t).1

    module _ (after : List ℕ) (e : inner ≡ name ++ after) where
      pub not_given : ((w r : List ℕ) → TakesQuoted after w r → ⊥) → (w r : List ℕ) → SetsTo name bytes w r → ⊥
      not_given none w r t =
          none w r (subst (λ (x : List ℕ). TakesQuoted x w r) (sym (same_front name after t.after (sym e ∙ (parted w r t).1))) t.given)

      pub setting_found : (w r : List ℕ) → white ≢ [] → TakesQuoted after w r → SetsTo name bytes w r
      setting_found w r some q = record {
        white = white;
        after = after;
        bytes_are = c.bytes_are ∙ ap (λ x. white ++ x) e;
        is_white = c.passes;
        some_white = some;
        given = q;
      }

  one_setting : (bytes w v r s : List ℕ) → SetsTo name bytes w r → SetsTo name bytes v s → (w ≡ v) × (r ≡ s)
  one_setting bytes w v r s l m =
      let both = one_cut is_white l.white m.white (name ++ l.after) (name ++ m.after) l.is_white m.is_white (stops_at name l.after starts)
      (stops_at name m.after starts) (sym l.bytes_are ∙ m.bytes_are) in
      one_quoted l.after w v r s l.given (subst (λ (x : List ℕ). TakesQuoted x v s) (sym (same_front name l.after m.after both.1)) m.given)

  module _ (Allows : List ℕ → Type 0) where
    set_by : (bytes r : List ℕ) (t : TakesSetting name Allows bytes r) → SetsTo name bytes t.written r
    set_by bytes r t = record
        { white = t.white; after = t.after; bytes_are = t.bytes_are; is_white = t.is_white; some_white = t.some_white; given = t.given }

    pub taken_with : (bytes w r : List ℕ) → SetsTo name bytes w r → Allows w → TakesSetting name Allows bytes r
    taken_with bytes w r t a =
        record {
          white = t.white;
          after = t.after;
          written = w;
          bytes_are = t.bytes_are;
          is_white = t.is_white;
          some_white =
              t.some_white;
          given = t.given;
          allowed = a;
        }

    pub not_allowed : (bytes w r : List ℕ) → SetsTo name bytes w r → (Allows w → ⊥) → (s : List ℕ) → TakesSetting name Allows bytes s → ⊥
    not_allowed bytes w r t none s u = none (subst Allows (sym (one_setting bytes w u.written r s t (set_by bytes s u)).0) u.allowed)

    pub not_set : (bytes : List ℕ) → ((w r : List ℕ) → SetsTo name bytes w r → ⊥) → (s : List ℕ) → TakesSetting name Allows bytes s → ⊥
    not_set bytes none s u = none u.written s (set_by bytes s u)

    one_taken : (bytes r s : List ℕ) → TakesSetting name Allows bytes r → TakesSetting name Allows bytes s → r ≡ s
    one_taken bytes r s t u = (one_setting bytes t.written u.written r s (set_by bytes r t) (set_by bytes s u)).1

-- letters without regard to case

pub encoding_from : (w : List ℕ) → map to_ascii_lowercase w ≡ codes "utf-8" → IsEncoding w
encoding_from w e = sym (all_raised w) ∙ ap (map to_ascii_uppercase) e

pub from_encoding : (w : List ℕ) → IsEncoding w → map to_ascii_lowercase w ≡ codes "utf-8"
from_encoding w e = sym (all_lowered w) ∙ ap (map to_ascii_lowercase) e

-- the declaration

heads : (s t x y : List ℕ) → IsWhite s → IsWhite t → Stops is_white x → Stops is_white y → s ++ x ≡ t ++ y → x ≡ y
heads s t x y f g stop also e = (one_cut is_white s t x y f g stop also e).1

encoding_is_no_end : (bytes r white rest : List ℕ) → TakesSetting (codes "encoding") IsEncoding bytes r → IsWhite white → bytes ≡ white
    ++ (codes "?>" ++ rest) → ⊥
encoding_is_no_end bytes r white rest t f e =
    let both : codes "encoding" ++ t.after ≡ codes "?>" ++ rest =
    heads t.white white (codes "encoding" ++ t.after) (codes "?>" ++ rest) t.is_white f refl refl (sym t.bytes_are ∙ e) in
    let wrong : ◌≡◌ {A = ℕ} (byte "e") (byte "?") = cc in
    absurd (omega arith)

standalone_is_no_end : (bytes r white rest : List ℕ) → TakesSetting (codes "standalone") IsYesOrNo bytes r → IsWhite white → bytes ≡ white
    ++ (codes "?>" ++ rest) → ⊥
standalone_is_no_end bytes r white rest t f e =
    let both : codes "standalone" ++ t.after ≡ codes "?>" ++ rest =
    heads t.white white (codes "standalone" ++ t.after) (codes "?>" ++ rest) t.is_white f refl refl (sym t.bytes_are ∙ e) in
    let wrong : ◌≡◌ {A = ℕ} (byte "s") (byte "?") = cc in
    absurd (omega arith)

encoding_is_no_standalone : (bytes r s : List ℕ) → TakesSetting (codes "encoding") IsEncoding bytes r
    → TakesSetting (codes "standalone") IsYesOrNo bytes s → ⊥
encoding_is_no_standalone bytes r s t u =
    let both : codes "encoding" ++ t.after ≡ codes "standalone" ++ u.after
    = heads t.white u.white (codes "encoding" ++ t.after) (codes "standalone" ++ u.after) t.is_white u.is_white refl refl
    (sym t.bytes_are ∙ u.bytes_are) in
    let wrong : ◌≡◌ {A = ℕ} (byte "e") (byte "s") = cc in
    absurd (omega arith)

module _ (bytes first : List ℕ) (e : bytes ≡ codes "<?xml" ++ first) where
  first_is : (r : List ℕ) (t : TakesDeclaration bytes r) → first ≡ t.first
  first_is r t = same_front (codes "<?xml") first t.first (sym e ∙ t.bytes_are)

  pub no_version : ((r : List ℕ) → TakesSetting (codes "version") IsXmlVersion first r → ⊥) → (r : List ℕ) → TakesDeclaration bytes r → ⊥
  no_version none r t =
      none t.second (subst (λ (x : List ℕ). TakesSetting (codes "version") IsXmlVersion x t.second) (sym (first_is r t)) t.version)

  module _ (second third fourth white end : List ℕ) (v : TakesSetting (codes "version") IsXmlVersion first second)
      (enc : TakesWhereSet (codes "encoding") IsEncoding second third)
      (alone : TakesWhereSet (codes "standalone") IsYesOrNo third fourth) (c : Cuts is_white fourth white end) where
    second_is : (r : List ℕ) (t : TakesDeclaration bytes r) → second ≡ t.second
    second_is r t = one_taken (codes "version") refl IsXmlVersion first second t.second v
        (subst (λ (x : List ℕ). TakesSetting (codes "version") IsXmlVersion x t.second) (sym (first_is r t)) t.version)

    no_skip : (r : List ℕ) (t : TakesDeclaration bytes r) → TakesSetting (codes "encoding") IsEncoding t.third third → ⊥
    no_skip r t s = elim t.standalone [
      | inl same ↦ encoding_is_no_end t.third third t.white r s t.is_white same
      | inr other ↦ encoding_is_no_standalone t.third third (t.white ++ (codes "?>" ++ r)) s other
    ]

    third_is : (r : List ℕ) (t : TakesDeclaration bytes r) → third ≡ t.third
    third_is r t =
        let at : second ≡ t.second = second_is r t in
        elim enc [
          | inl s ↦ elim t.encoding [
            | inl same ↦ absurd (no_skip r t (subst (λ (x : List ℕ). TakesSetting (codes "encoding") IsEncoding x third) (at ∙ same) s))
            | inr u ↦ one_taken (codes "encoding") refl IsEncoding t.second third t.third
                (subst (λ (x : List ℕ). TakesSetting (codes "encoding") IsEncoding x third) at s) u
          ]
          | inr n ↦ elim t.encoding [
            | inl same ↦ sym n.0 ∙ at ∙ same
            | inr u ↦ absurd (n.1 t.third (subst (λ (x : List ℕ). TakesSetting (codes "encoding") IsEncoding x t.third) (sym at) u))
          ]
        ]

    fourth_is : (r : List ℕ) (t : TakesDeclaration bytes r) → fourth ≡ t.white ++ (codes "?>" ++ r)
    fourth_is r t =
        let at : third ≡ t.third = third_is r t in
        elim alone [
          | inl s ↦ elim t.standalone [
            | inl same ↦ absurd (standalone_is_no_end third fourth t.white r s t.is_white (at ∙ same))
            | inr u ↦ one_taken (codes "standalone") refl IsYesOrNo t.third fourth (t.white ++ (codes "?>" ++ r))
                (subst (λ (x : List ℕ). TakesSetting (codes "standalone") IsYesOrNo x fourth) at s) u
          ]
          | inr n ↦ elim t.standalone [
            | inl same ↦ sym n.0 ∙ at ∙ same
            | inr u ↦ absurd (n.1 (t.white ++ (codes "?>" ++ r))
                (subst (λ (x : List ℕ). TakesSetting (codes "standalone") IsYesOrNo x (t.white ++ (codes "?>" ++ r))) (sym at) u))
          ]
        ]

    pub no_end : ((r : List ℕ) → end ≡ codes "?>" ++ r → ⊥) → (r : List ℕ) → TakesDeclaration bytes r → ⊥
    no_end none r t = none r (heads white t.white end (codes "?>" ++ r) c.passes t.is_white c.stops refl (sym c.bytes_are ∙ fourth_is r t))

    optional : (name : List ℕ) (Allows : List ℕ → Type 0) (from to : List ℕ) → TakesWhereSet name Allows from to
        → TakesOptional name Allows from to
    optional name Allows from to w = elim w [ inl s ↦ inr s | inr n ↦ inl n.0 ]

    pub declaration_found : (r : List ℕ) → end ≡ codes "?>" ++ r → TakesDeclaration bytes r
    declaration_found r is = record {
      first = first;
      second = second;
      third = third;
      white = white;
      bytes_are = e;
      version = v;
      encoding = optional (codes "encoding") IsEncoding second third enc;
      standalone = subst (TakesOptional (codes "standalone") IsYesOrNo third) (c.bytes_are ∙ ap (λ x. white ++ x) is)
          (optional (codes "standalone") IsYesOrNo third fourth alone);
      is_white = c.passes;
    }
