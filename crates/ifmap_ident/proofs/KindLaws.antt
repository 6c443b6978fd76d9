-- Kinds and types of identities are told by their names.
use Rattle.std.proofs.Common.{◌≡◌, ℕ, false, List, Option, None, Some, IfSome, IsNone, refl, sym, ◌∙◌, ap}
use Rattle.std.specs.List.{AllByRecursion, find}
use Rattle.std.specs.Str.{bytes_eq}
use Rattle.ifmap_elem.specs.Building.{bare_name, is_bare}
use Rattle.ifmap_elem.specs.declared.elements.Name.{Name}
use Rattle.ifmap_ident.specs.declared.kinds.IdentityType.{IdentityType}
use Rattle.ifmap_ident.specs.declared.kinds.IdentityType.TheVariants as types
use Rattle.ifmap_ident.specs.declared.kinds.Kind.{Kind}
use Rattle.ifmap_ident.specs.declared.kinds.Kind.TheVariants as variants
use Rattle.ifmap_ident.specs.Kinds.{identity_type_name, identity_types, kind_name, kinds}
use Rattle.ifmap_ident.proofs.FindLaws.{bare_tells, other_name}
use Rattle.ifmap_lemmas.specs.Texts.{eq_tells}
use Rattle.ifmap_lemmas.specs.Finding.{none_passes, found_passes}
use Rattle.ifmap_lemmas.specs.Absent.{none_where_not_some}
use Rattle.ifmap_lemmas.specs.Apart.{told_apart}
use Rattle.std.proofs.lemmas.Option.{same_Some}

-- of all kinds, each
pub each_kind : (P : Kind → Type 0) → AllByRecursion P kinds → (kind : Kind) → P kind
each_kind P all variants.AccessRequest = all.0
each_kind P all variants.Device = all.1.0
each_kind P all variants.Identity = all.1.1.0
each_kind P all variants.IpAddress = all.1.1.1.0
each_kind P all variants.MacAddress = all.1.1.1.1.0

pub each_type : (P : IdentityType → Type 0) → AllByRecursion P identity_types → (kind : IdentityType) → P kind
each_type P all types.AikName = all.0
each_type P all types.DistinguishedName = all.1.0
each_type P all types.DnsName = all.1.1.0
each_type P all types.EmailAddress = all.1.1.1.0
each_type P all types.HipHit = all.1.1.1.1.0
each_type P all types.KerberosPrincipal = all.1.1.1.1.1.0
each_type P all types.Username = all.1.1.1.1.1.1.0
each_type P all types.SipUri = all.1.1.1.1.1.1.1.0
each_type P all types.TelUri = all.1.1.1.1.1.1.1.1.0
each_type P all types.Other = all.1.1.1.1.1.1.1.1.1.0

pub kind_found : (name : Name) (o : Option Kind) → o ≡ find (λ kind. is_bare (kind_name kind) name) kinds
    → IfSome o (λ kind. name ≡ bare_name (kind_name kind))
kind_found name None e = tt
kind_found name (Some kind) e =
    bare_tells (kind_name kind) name (found_passes (λ k. is_bare (kind_name k) name) kinds kind (sym e))

pub no_kind : (name : Name) (o : Option Kind) → o ≡ find (λ kind. is_bare (kind_name kind) name) kinds → IsNone o → (kind : Kind)
    → name ≡ bare_name (kind_name kind) → ⊥
no_kind name o e none kind same =
    other_name (kind_name kind) name (each_kind (λ k. is_bare (kind_name k) name ≡ false)
    (none_passes (λ k. is_bare (kind_name k) name) kinds (sym e ∙ none_where_not_some o none)) kind) same

pub type_found : (name : List ℕ) (o : Option IdentityType)
    → o ≡ find (λ kind. bytes_eq (identity_type_name kind) name) identity_types
    → IfSome o (λ kind. name ≡ identity_type_name kind)
type_found name None e = tt
type_found name (Some kind) e =
    sym (eq_tells (identity_type_name kind) name
    (found_passes (λ k. bytes_eq (identity_type_name k) name) identity_types kind (sym e)))

pub no_type : (name : List ℕ) (o : Option IdentityType)
    → o ≡ find (λ kind. bytes_eq (identity_type_name kind) name) identity_types → IsNone o → (kind : IdentityType)
    → name ≡ identity_type_name kind → ⊥
no_type name o e none kind same =
    told_apart (identity_type_name kind) name (each_type (λ k. bytes_eq (identity_type_name k) name ≡ false)
    (none_passes (λ k. bytes_eq (identity_type_name k) name) identity_types (sym e ∙ none_where_not_some o none)) kind) (sym same)

-- ---- one name, one kind

kind_named : (kind : Kind) → find (λ k. bytes_eq (kind_name k) (kind_name kind)) kinds ≡ Some kind
kind_named variants.AccessRequest = refl
kind_named variants.Device = refl
kind_named variants.Identity = refl
kind_named variants.IpAddress = refl
kind_named variants.MacAddress = refl

type_named : (kind : IdentityType) → find (λ k. bytes_eq (identity_type_name k) (identity_type_name kind)) identity_types ≡ Some kind
type_named types.AikName = refl
type_named types.DistinguishedName = refl
type_named types.DnsName = refl
type_named types.EmailAddress = refl
type_named types.HipHit = refl
type_named types.KerberosPrincipal = refl
type_named types.Username = refl
type_named types.SipUri = refl
type_named types.TelUri = refl
type_named types.Other = refl

pub kinds_are_one : (one other : Kind) → bare_name (kind_name one) ≡ bare_name (kind_name other) → one ≡ other
kinds_are_one one other e =
    same_Some one other (sym (kind_named one) ∙ ap (λ (n : Name). find (λ k. bytes_eq (kind_name k) n.local) kinds) e ∙ kind_named other)

pub types_are_one : (one other : IdentityType) → identity_type_name one ≡ identity_type_name other → one ≡ other
types_are_one one other e =
    same_Some one other (sym (type_named one) ∙ ap (λ n. find (λ k. bytes_eq (identity_type_name k) n) identity_types) e
    ∙ type_named other)
