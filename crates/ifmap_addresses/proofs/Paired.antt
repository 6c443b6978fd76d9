-- Where pairs of digits stand one after another: those of a MAC address, and what is left after each.
use Rattle.std.proofs.Common.{◌≡◌, ℕ, zero, suc, ◌<◌, List, [], ◌∷◌, ◌++◌, drop, length, refl, ap, subst, sym, ◌∙◌, arith}
use Rattle.std.specs.List.{AllByRecursion}
use Rattle.std.specs.Str.{byte, str_to_ascii_lowercase}
use Rattle.ifmap_addresses.specs.MacAddresses.{IsMacAddress, hex_pair, mac_address_text}

-- so many pairs, each after a colon, and nothing else
abbrev pub Pairs : ℕ → List ℕ → Type 0
Pairs zero text = text ≡ []
Pairs (suc n) text = (b : ℕ) × (rest : List ℕ) × (b < 256) × (text ≡ byte ":" ∷ (hex_pair b ++ rest)) × Pairs n rest

-- a pair, and so many after it
abbrev pub PairsFrom : ℕ → List ℕ → Type 0
PairsFrom n text = (b : ℕ) × (rest : List ℕ) × (b < 256) × (text ≡ hex_pair b ++ rest) × Pairs n rest

after : List ℕ → List ℕ
after [] = []
after (b ∷ bs) = byte ":" ∷ (hex_pair b ++ after bs)

pairs_after : (bs : List ℕ) → AllByRecursion (λ b. b < 256) bs → Pairs (length bs) (after bs)
unfolding after
pairs_after [] h = refl
pairs_after (b ∷ bs) h = (b, after bs, h.0, refl, pairs_after bs h.1)

text_parts : (b : ℕ) (bs : List ℕ) → mac_address_text (b ∷ bs) ≡ hex_pair b ++ after bs
unfolding after
text_parts b [] = refl
text_parts b (c ∷ cs) = ap (λ t. hex_pair b ++ (byte ":" ∷ t)) (text_parts c cs)

of_bytes : (n : ℕ) (value : List ℕ) → length value ≡ suc n → AllByRecursion (λ b. b < 256) value → PairsFrom n (mac_address_text value)
of_bytes n [] e h = absurd (omega arith)
of_bytes n (b ∷ bs) e h =
    let many : length bs ≡ n = omega arith in
    (b, after bs, h.0, text_parts b bs, subst (λ k. Pairs k (after bs)) many (pairs_after bs h.1))

pub six_pairs : {text given : List ℕ} (value : List ℕ) → text ≡ given → IsMacAddress given value → PairsFrom 5 (str_to_ascii_lowercase text)
six_pairs value same h = subst (PairsFrom 5) (sym h.spelled ∙ ap str_to_ascii_lowercase (sym same)) (of_bytes 5 value h.six h.bytes)

-- what is left after the first of them, and after the next
pub after_first : (n : ℕ) {text rest : List ℕ} (b : ℕ) → text ≡ hex_pair b ++ rest → PairsFrom n text → Pairs n rest
after_first n b e h = subst (Pairs n) (ap (drop 2) (sym h.3 ∙ e)) h.4

pub after_next : (n : ℕ) {text rest : List ℕ} (b : ℕ) → text ≡ byte ":" ∷ (hex_pair b ++ rest) → Pairs (suc n) text → Pairs n rest
after_next n b e h = subst (Pairs n) (ap (drop 3) (sym h.3 ∙ e)) h.4

pub none_left : (rest : List ℕ) → str_to_ascii_lowercase rest ≡ [] → length rest ≡ 0
none_left [] e = refl
none_left (b ∷ bs) e = cc
