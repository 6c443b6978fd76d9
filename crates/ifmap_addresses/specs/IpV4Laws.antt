-- Laws of IPv4 addresses: a text is one address, the text of a value is that value's address, and it is plain.
use Rattle.std.proofs.Common.{◌≡◌, ℕ, ◌<◌, zero, suc, List, [], ◌∷◌, ◌++◌, decimal, get_or, inl, inr, refl, ap, subst, sym, arith, append_assoc}
use Rattle.std.proofs.NetLemmas.Texts.{IsDotted-ipv4_text}
use Rattle.std.proofs.NetLemmas.Theorems.{IsIpv4Text_unique}
use Rattle.std.specs.List.{AllByRecursion}
use Rattle.std.specs.Net.Text.{dotted_text}
use Rattle.std.specs.Str.{byte}
use Rattle.ifmap_addresses.specs.DigitLaws.{address_digits, decimal_digits}
use Rattle.ifmap_addresses.specs.IpV4.{IsIpV4, ip_v4_text}
use Rattle.ifmap_addresses.specs.Values.{AreBelow, IsAddressByte}
use Rattle.ifmap_lemmas.specs.Members.{both_all}
use Rattle.ifmap_lemmas.specs.Runs.{below_at}

pub one_ip_v4 : (text one other : List ℕ) → IsIpV4 text one → IsIpV4 text other → one ≡ other
one_ip_v4 text one other f g =
    ap (λ a. a.octets) (IsIpv4Text_unique text (record { octets = one }) (record { octets = other }) f g)

pub ip_v4_spelled : (value : List ℕ) → AreBelow 256 4 value → IsIpV4 (ip_v4_text value) value
ip_v4_spelled value h = IsDotted-ipv4_text value h.number (below_at 256 value (omega arith) h.below)

-- so texts tell values apart
pub ip_v4_tells : (v w : List ℕ) → AreBelow 256 4 v → AreBelow 256 4 w → ip_v4_text v ≡ ip_v4_text w → v ≡ w
ip_v4_tells v w f g e =
    one_ip_v4 (ip_v4_text w) v w (subst (λ text. IsIpV4 text v) e (ip_v4_spelled v f)) (ip_v4_spelled w g)

-- a number, and another after a dot
pub dotted_parts : (a b c d : ℕ)
    → dotted_text a b c d ≡ decimal a ++ (byte "." ∷ (decimal b ++ (byte "." ∷ (decimal c ++ (byte "." ∷ decimal d)))))
dotted_parts a b c d = simp append_assoc

plain_number : (n : ℕ) (rest : List ℕ) → n < 256 → AllByRecursion IsAddressByte rest
    → AllByRecursion IsAddressByte (decimal n ++ (byte "." ∷ rest))
plain_number n rest h f =
    both_all IsAddressByte (decimal n) (byte "." ∷ rest) (address_digits (decimal n) (decimal_digits n h)) (inr (inl refl), f)

pub ip_v4_plain : (value : List ℕ) → ((i : ℕ) → get_or value i 0 < 256) → AllByRecursion IsAddressByte (ip_v4_text value)
ip_v4_plain value h =
    subst (AllByRecursion IsAddressByte) (sym (dotted_parts (get_or value 0 0) (get_or value 1 0) (get_or value 2 0) (get_or value 3 0)))
    (plain_number (get_or value 0 0) _ (h 0) (plain_number (get_or value 1 0) _ (h 1) (plain_number (get_or value 2 0) _ (h 2)
    (address_digits (decimal (get_or value 3 0)) (decimal_digits (get_or value 3 0) (h 3))))))
