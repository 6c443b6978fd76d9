use Rattle.std.proofs.Common.{◌≡◌, ◌∙◌, sym, subst, rules}
use Rattle.std.proofs.lemmas.Option.{same_Some}
use Rattle.ifmap_addresses.specs.IpV4.{IsIpV4}
use Rattle.ifmap_addresses.specs.IpV6.{IsIpV6}
use Rattle.ifmap_ident.specs.declared.reading.Version.TheVariants.{V4, V6}
use Rattle.ifmap_ident.specs.Meaning.{IsVersion}
use Rattle.ifmap_ident.proofs.MeaningLaws.{no_ip_address, versions_differ}
use Rattle.ifmap_ident.proofs.reading.read_ip_address.Goals as goal

pub returns-in_default-version_of : goal.returns-in_default-version_of
returns-in_default-version_of c =
    no_ip_address c.args.element.now (λ value domain p. c.version_of.ensures.none (search rules) V4 p.kind_is)
    (λ value domain p. c.version_of.ensures.none (search rules) V6 p.kind_is)

pub returns-in_default-ip_v4_of : goal.returns-in_default-ip_v4_of
returns-in_default-ip_v4_of c =
    let version : IsVersion c.args.element.now V4 =
    subst (λ v. IsVersion c.args.element.now v) c.in-V4.is c.in-Some-version_of.ensures.found in
    no_ip_address c.args.element.now
    (λ value domain p. let same : p.text ≡ c.as_str.result.now =
    sym (c.as_str.ensures ∙ same_Some c.in-Some.text.now p.text (c.in-Some.ensures ∙ p.text_is)) in
    c.ip_v4_of.ensures.none (search rules) value (subst (λ t. IsIpV4 t value) same p.means))
    (λ value domain p. versions_differ (sym version ∙ p.kind_is))

pub returns-in_default-ip_v6_of : goal.returns-in_default-ip_v6_of
returns-in_default-ip_v6_of c =
    let version : IsVersion c.args.element.now V6 =
    subst (λ v. IsVersion c.args.element.now v) c.in-V6.is c.in-Some-version_of.ensures.found in
    no_ip_address c.args.element.now
    (λ value domain p. versions_differ (sym p.kind_is ∙ version))
    (λ value domain p. let same : p.text ≡ c.as_str-in-V6.result.now =
    sym (c.as_str-in-V6.ensures ∙ same_Some c.in-Some.text.now p.text (c.in-Some.ensures ∙ p.text_is)) in
    c.ip_v6_of.ensures.none (search rules) value (subst (λ t. IsIpV6 t value) same p.means))
