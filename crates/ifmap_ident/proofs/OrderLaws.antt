-- The order of identifiers by their canonical bytes, from the orders of their parts.
use Rattle.std.proofs.Common.{◌≡◌, ℕ, suc, ◌<◌, get_or, List, [], ◌∷◌, ◌++◌, codes, refl, ap, sym, ◌∙◌, subst, append_assoc, arith}
use Rattle.std.proofs.lemmas.Bool.Decides.{nat_tests}
use Rattle.std.specs.Cmp.Lexicographic.{slice_cmp}
use Rattle.std.specs.List.{AllByRecursion}
use Rattle.std.specs.Ordering.{nat_cmp, ordering_then}
use Rattle.std.specs.declared.cmp.Ordering.{Ordering}
use Rattle.std.specs.declared.cmp.Ordering.TheVariants.{Less, Greater}
use Rattle.ifmap_addresses.specs.IpV4.{ip_v4_text}
use Rattle.ifmap_addresses.specs.IpV4Laws.{ip_v4_plain}
use Rattle.ifmap_addresses.specs.IpV6.{ip_v6_text}
use Rattle.ifmap_addresses.specs.IpV6Laws.{ip_v6_plain}
use Rattle.ifmap_addresses.specs.MacAddresses.{mac_address_text}
use Rattle.ifmap_addresses.specs.MacAddressLaws.{mac_address_plain}
use Rattle.ifmap_lemmas.specs.Closing.{closed_below}
use Rattle.ifmap_addresses.specs.Values.{IsAddressByte}
use Rattle.ifmap_elem.specs.Escapes.{value_byte}
use Rattle.ifmap_ident.specs.declared.identifiers.Identifier.{Identifier}
use Rattle.ifmap_ident.specs.declared.identifiers.Identifier.TheVariants.{AccessRequest, Device, Identity, IpV4, IpV6, MacAddress}
use Rattle.ifmap_ident.specs.declared.kinds.IdentityType.{IdentityType}
use Rattle.ifmap_elem.specs.declared.escaping.TextPlace.TheVariants.{Value, Content}
use Rattle.ifmap_ident.specs.Identifiers.{identifier_kind, identifier_order}
use Rattle.ifmap_ident.specs.Kinds.{identity_type_name}
use Rattle.ifmap_ident.specs.Leading.{FrontsCompare}
use Rattle.ifmap_ident.specs.Written.{OptionalsLead, closed_text, domain_written, identifier_written, kind_rank, placed_bytes}
use Rattle.ifmap_ident.proofs.LeadingLaws.{leads_after, leads_both, leads_whole}
use Rattle.ifmap_ident.proofs.OptionalLaws.{leads_before, optional_then}
use Rattle.ifmap_ident.proofs.PrintedLaws.{prints_as}
use Rattle.ifmap_lemmas.specs.Orderings.{then_then}
use Rattle.ifmap_lemmas.specs.Runs.{all_below}
use Rattle.ifmap_elem.specs.Chars.{space_character, double_quote}

-- ---- texts of addresses

plain_byte : (b : ℕ) → IsAddressByte b → value_byte b ≡ b ∷ []
plain_byte b h = grind (arith, nat_tests)

above_quote : (b : ℕ) → IsAddressByte b → 34 < b
above_quote b h = grind (arith, nat_tests)

pub plain_text : (text : List ℕ) → AllByRecursion IsAddressByte text → closed_text Value text ≡ text ++ (double_quote ∷ [])
plain_text [] h = refl
plain_text (b ∷ bs) h = (λ i. (plain_byte b h.0 i ++ placed_bytes Value bs) ++ (double_quote ∷ [])) ∙ ap (λ t. b ∷ t) (plain_text bs h.1)

above_quotes : (text : List ℕ) → AllByRecursion IsAddressByte text → AllByRecursion (λ b. 34 < b) text
above_quotes [] h = tt
above_quotes (b ∷ bs) h = (above_quote b h.0, above_quotes bs h.1)

plain_leads : (p q : List ℕ) → AllByRecursion IsAddressByte p → AllByRecursion IsAddressByte q
    → FrontsCompare (slice_cmp nat_cmp p q) (closed_text Value p) (closed_text Value q)
plain_leads p q f g =
    record {
      compares = λ x y. (λ i. slice_cmp nat_cmp ((plain_text p f i) ++ x) ((plain_text q g i) ++ y))
          ∙ (λ i. slice_cmp nat_cmp (append_assoc p (double_quote ∷ []) x i) (append_assoc q (double_quote ∷ []) y i))
          ∙ closed_below 34 p q x y (above_quotes p f) (above_quotes q g);
    }

-- ---- each kind

-- from how two identifiers are written
by_written : (o : Ordering) (a b : Identifier) → FrontsCompare o (identifier_written a) (identifier_written b) → o ≡ identifier_order a b
by_written o a b f =
    sym (leads_whole f) ∙ (λ i. slice_cmp nat_cmp (sym (prints_as a) i) (sym (prints_as b) i))

-- the domain, and then an attribute whose name begins with this letter
domain_then : (o r : Ordering) (letter : ℕ) (d e s t : List ℕ) → 97 < letter → OptionalsLead o d e → FrontsCompare r s t
    → FrontsCompare (ordering_then o r) (domain_written d ++ (space_character ∷ (letter ∷ s)))
    (domain_written e ++ (space_character ∷ (letter ∷ t)))
domain_then o r letter d e s t h f g = optional_then o r 97 letter (codes "dministrative-domain") d e s t h f g

pub access_requests : (o r : Ordering) (n d m e : List ℕ) → OptionalsLead o d e
    → FrontsCompare r (closed_text Value n) (closed_text Value m)
    → ordering_then o r ≡ identifier_order (AccessRequest n d) (AccessRequest m e)
access_requests o r n d m e f g =
    by_written (ordering_then o r) (AccessRequest n d) (AccessRequest m e) (leads_after (codes "<access-request")
    (domain_then o r 110 d e (codes "ame=\"" ++ (closed_text Value n ++ codes "/>")) (codes "ame=\"" ++ (closed_text Value m ++ codes "/>"))
    (omega arith) f (leads_after (codes "ame=\"") (leads_before g (codes "/>")))))

pub devices : (r : Ordering) (n m : List ℕ) → FrontsCompare r (closed_text Content n) (closed_text Content m)
    → r ≡ identifier_order (Device n) (Device m)
devices r n m g =
    by_written r (Device n) (Device m) (leads_after (codes "<device><name>") (leads_before g (codes "/name></device>")))

pub identities : (o r p q : Ordering) (n : List ℕ) (k : IdentityType) (u d m : List ℕ) (l : IdentityType) (v e : List ℕ)
    → OptionalsLead o d e → FrontsCompare r (closed_text Value n) (closed_text Value m) → OptionalsLead p u v
    → FrontsCompare q (closed_text Value (identity_type_name k)) (closed_text Value (identity_type_name l))
    → ordering_then (ordering_then (ordering_then o r) p) q ≡ identifier_order (Identity n k u d) (Identity m l v e)
identities o r p q n k u d m l v e f g h j =
    let types = leads_after (codes "ype=\"") (leads_before j (codes "/>")) in
    let others = optional_then p q 111 116 (codes "ther-type-definition") u v _ _ (omega arith) h types in
    let names = leads_after (codes "ame=\"") (leads_both g others) in
    sym (then_then (ordering_then o r) p q) ∙ sym (then_then o r (ordering_then p q))
    ∙ by_written (ordering_then o (ordering_then r (ordering_then p q))) (Identity n k u d) (Identity m l v e)
    (leads_after (codes "<identity") (domain_then o (ordering_then r (ordering_then p q)) 110 d e _ _ (omega arith) f names))

-- addresses with a type and the texts of their values
typed_addresses : (o r : Ordering) (d e p q s t : List ℕ) → OptionalsLead o d e
    → FrontsCompare r (p ++ (codes "\" value=\"" ++ closed_text Value s)) (q ++ (codes "\" value=\"" ++ closed_text Value t))
    → FrontsCompare (ordering_then o r) (codes "<ip-address" ++ (domain_written d ++ (codes " type=\"" ++ (p ++ (codes "\" value=\""
    ++ (closed_text Value s ++ codes "/>"))))))
    (codes "<ip-address" ++ (domain_written e ++ (codes " type=\"" ++ (q ++ (codes "\" value=\"" ++ (closed_text Value t ++ codes "/>"))))))
typed_addresses o r d e p q s t f g =
    leads_after (codes "<ip-address") (domain_then o r 116 d e _ _ (omega arith) f (leads_after (codes "ype=\"")
    (subst (λ x. FrontsCompare r x (q ++ (codes "\" value=\"" ++ (closed_text Value t ++ codes "/>")))) (append_assoc p (codes "\" value=\""
    ++ closed_text Value s) (codes "/>"))
    (subst (λ y. FrontsCompare r ((p ++ (codes "\" value=\"" ++ closed_text Value s)) ++ codes "/>") y)
    (append_assoc q (codes "\" value=\"" ++ closed_text Value t) (codes "/>")) (leads_before g (codes "/>"))))))

pub v4_addresses : (o : Ordering) (v d w e : List ℕ) → ((i : ℕ) → get_or v i 0 < 256) → ((i : ℕ) → get_or w i 0 < 256) → OptionalsLead o d e
    → ordering_then o (slice_cmp nat_cmp (ip_v4_text v) (ip_v4_text w)) ≡ identifier_order (IpV4 v d) (IpV4 w e)
v4_addresses o v d w e f g h =
    by_written _ (IpV4 v d) (IpV4 w e) (typed_addresses o _ d e (codes "IPv4") (codes "IPv4") (ip_v4_text v) (ip_v4_text w) h
    (leads_after (codes "IPv4\" value=\"") (plain_leads (ip_v4_text v) (ip_v4_text w) (ip_v4_plain v f) (ip_v4_plain w g))))

pub v6_addresses : (o : Ordering) (v d w e : List ℕ) → ((i : ℕ) → get_or v i 0 < 65536) → ((i : ℕ) → get_or w i 0 < 65536)
    → OptionalsLead o d e
    → ordering_then o (slice_cmp nat_cmp (ip_v6_text v) (ip_v6_text w)) ≡ identifier_order (IpV6 v d) (IpV6 w e)
v6_addresses o v d w e f g h =
    by_written _ (IpV6 v d) (IpV6 w e) (typed_addresses o _ d e (codes "IPv6") (codes "IPv6") (ip_v6_text v) (ip_v6_text w) h
    (leads_after (codes "IPv6\" value=\"") (plain_leads (ip_v6_text v) (ip_v6_text w) (ip_v6_plain v (all_below 65536 v f))
    (ip_v6_plain w (all_below 65536 w g)))))

pub v4_v6_addresses : (o : Ordering) (v d w e : List ℕ) → OptionalsLead o d e
    → ordering_then o Less ≡ identifier_order (IpV4 v d) (IpV6 w e)
v4_v6_addresses o v d w e h =
    by_written _ (IpV4 v d) (IpV6 w e) (typed_addresses o Less d e (codes "IPv4") (codes "IPv6") (ip_v4_text v) (ip_v6_text w) h
    (record { compares = λ x y. refl }))

pub v6_v4_addresses : (o : Ordering) (v d w e : List ℕ) → OptionalsLead o d e
    → ordering_then o Greater ≡ identifier_order (IpV6 v d) (IpV4 w e)
v6_v4_addresses o v d w e h =
    by_written _ (IpV6 v d) (IpV4 w e) (typed_addresses o Greater d e (codes "IPv6") (codes "IPv4") (ip_v6_text v) (ip_v4_text w) h
    (record { compares = λ x y. refl }))

pub mac_addresses : (o : Ordering) (v d w e : List ℕ) → ((i : ℕ) → get_or v i 0 < 256) → ((i : ℕ) → get_or w i 0 < 256)
    → OptionalsLead o d e
    → ordering_then o (slice_cmp nat_cmp (mac_address_text v) (mac_address_text w)) ≡ identifier_order (MacAddress v d) (MacAddress w e)
mac_addresses o v d w e f g h =
    by_written _ (MacAddress v d) (MacAddress w e) (leads_after (codes "<mac-address") (domain_then o _ 118 d e _ _ (omega arith) h
    (leads_after (codes "alue=\"") (leads_before (plain_leads (mac_address_text v) (mac_address_text w) (mac_address_plain v
    (all_below 256 v f))
    (mac_address_plain w (all_below 256 w g))) (codes "/>")))))

-- ---- kinds

-- identifiers of two kinds differ in the names of their elements
written_by_kind : (a b : Identifier) (r : Ordering) → (identifier_kind a ≡ identifier_kind b → r ≡ identifier_order a b)
    → ordering_then (nat_cmp (kind_rank (identifier_kind a)) (kind_rank (identifier_kind b))) r
    ≡ slice_cmp nat_cmp (identifier_written a) (identifier_written b)
written_by_kind (AccessRequest n d) (AccessRequest m e) r f = f refl ∙ (λ i. slice_cmp nat_cmp (prints_as (AccessRequest n d) i) (prints_as
    (AccessRequest m e) i))
written_by_kind (AccessRequest n d) (Device m) r f = refl
written_by_kind (AccessRequest n d) (Identity m l v e) r f = refl
written_by_kind (AccessRequest n d) (IpV4 m e) r f = refl
written_by_kind (AccessRequest n d) (IpV6 m e) r f = refl
written_by_kind (AccessRequest n d) (MacAddress m e) r f = refl
written_by_kind (Device n) (AccessRequest m e) r f = refl
written_by_kind (Device n) (Device m) r f = f refl ∙ (λ i. slice_cmp nat_cmp (prints_as (Device n) i) (prints_as (Device m) i))
written_by_kind (Device n) (Identity m l v e) r f = refl
written_by_kind (Device n) (IpV4 m e) r f = refl
written_by_kind (Device n) (IpV6 m e) r f = refl
written_by_kind (Device n) (MacAddress m e) r f = refl
written_by_kind (Identity n k u d) (AccessRequest m e) r f = refl
written_by_kind (Identity n k u d) (Device m) r f = refl
written_by_kind (Identity n k u d) (Identity m l v e) r f = f refl ∙ (λ i. slice_cmp nat_cmp (prints_as (Identity n k u d) i) (prints_as
    (Identity m l v e) i))
written_by_kind (Identity n k u d) (IpV4 m e) r f = refl
written_by_kind (Identity n k u d) (IpV6 m e) r f = refl
written_by_kind (Identity n k u d) (MacAddress m e) r f = refl
written_by_kind (IpV4 n d) (AccessRequest m e) r f = refl
written_by_kind (IpV4 n d) (Device m) r f = refl
written_by_kind (IpV4 n d) (Identity m l v e) r f = refl
written_by_kind (IpV4 n d) (IpV4 m e) r f = f refl ∙ (λ i. slice_cmp nat_cmp (prints_as (IpV4 n d) i) (prints_as (IpV4 m e) i))
written_by_kind (IpV4 n d) (IpV6 m e) r f = f refl ∙ (λ i. slice_cmp nat_cmp (prints_as (IpV4 n d) i) (prints_as (IpV6 m e) i))
written_by_kind (IpV4 n d) (MacAddress m e) r f = refl
written_by_kind (IpV6 n d) (AccessRequest m e) r f = refl
written_by_kind (IpV6 n d) (Device m) r f = refl
written_by_kind (IpV6 n d) (Identity m l v e) r f = refl
written_by_kind (IpV6 n d) (IpV4 m e) r f = f refl ∙ (λ i. slice_cmp nat_cmp (prints_as (IpV6 n d) i) (prints_as (IpV4 m e) i))
written_by_kind (IpV6 n d) (IpV6 m e) r f = f refl ∙ (λ i. slice_cmp nat_cmp (prints_as (IpV6 n d) i) (prints_as (IpV6 m e) i))
written_by_kind (IpV6 n d) (MacAddress m e) r f = refl
written_by_kind (MacAddress n d) (AccessRequest m e) r f = refl
written_by_kind (MacAddress n d) (Device m) r f = refl
written_by_kind (MacAddress n d) (Identity m l v e) r f = refl
written_by_kind (MacAddress n d) (IpV4 m e) r f = refl
written_by_kind (MacAddress n d) (IpV6 m e) r f = refl
written_by_kind (MacAddress n d) (MacAddress m e) r f = f refl ∙ (λ i. slice_cmp nat_cmp (prints_as (MacAddress n d) i) (prints_as
    (MacAddress m e) i))

pub by_kind : (a b : Identifier) (r : Ordering) → (identifier_kind a ≡ identifier_kind b → r ≡ identifier_order a b)
    → ordering_then (nat_cmp (kind_rank (identifier_kind a)) (kind_rank (identifier_kind b))) r ≡ identifier_order a b
by_kind a b r f = written_by_kind a b r f ∙ (λ i. slice_cmp nat_cmp (sym (prints_as a) i) (sym (prints_as b) i))
