-- The kinds of identifiers and the types of identities as they are written: IF-MAP binding for SOAP, version 2.2, section 3.2.
use Rattle.std.specs.Prelude.{ℕ, List, [], ◌∷◌, codes}
use Rattle.ifmap_ident.specs.declared.kinds.IdentityType.{IdentityType}
use Rattle.ifmap_ident.specs.declared.kinds.IdentityType.TheVariants.{AikName, DistinguishedName, DnsName, EmailAddress, HipHit, KerberosPrincipal, Username, SipUri, TelUri, Other}
use Rattle.ifmap_ident.specs.declared.kinds.Kind.{Kind}
use Rattle.ifmap_ident.specs.declared.kinds.Kind.TheVariants.{AccessRequest, Device, Identity, IpAddress, MacAddress}

-- the name of the element of a kind
abbrev pub kind_name : Kind → List ℕ
kind_name AccessRequest = codes "access-request"
kind_name Device = codes "device"
kind_name Identity = codes "identity"
kind_name IpAddress = codes "ip-address"
kind_name MacAddress = codes "mac-address"

-- all kinds
abbrev pub kinds : List Kind
kinds = AccessRequest ∷ (Device ∷ (Identity ∷ (IpAddress ∷ (MacAddress ∷ []))))

-- the attributes that the element of a kind can have beside those of a namespace
abbrev pub allowed_attributes : Kind → List (List ℕ)
allowed_attributes AccessRequest = codes "name" ∷ (codes "administrative-domain" ∷ [])
allowed_attributes Device = []
allowed_attributes Identity =
    codes "name" ∷ (codes "type" ∷ (codes "other-type-definition" ∷ (codes "administrative-domain" ∷ [])))
allowed_attributes IpAddress = codes "value" ∷ (codes "type" ∷ (codes "administrative-domain" ∷ []))
allowed_attributes MacAddress = codes "value" ∷ (codes "administrative-domain" ∷ [])

-- a type of identity, as the value of the attribute `type`
abbrev pub identity_type_name : IdentityType → List ℕ
identity_type_name AikName = codes "aik-name"
identity_type_name DistinguishedName = codes "distinguished-name"
identity_type_name DnsName = codes "dns-name"
identity_type_name EmailAddress = codes "email-address"
identity_type_name HipHit = codes "hip-hit"
identity_type_name KerberosPrincipal = codes "kerberos-principal"
identity_type_name Username = codes "username"
identity_type_name SipUri = codes "sip-uri"
identity_type_name TelUri = codes "tel-uri"
identity_type_name Other = codes "other"

-- all types
abbrev pub identity_types : List IdentityType
identity_types =
    AikName ∷ (DistinguishedName ∷ (DnsName ∷ (EmailAddress ∷ (HipHit ∷ (KerberosPrincipal ∷ (Username
    ∷ (SipUri ∷ (TelUri ∷ (Other ∷ [])))))))))
