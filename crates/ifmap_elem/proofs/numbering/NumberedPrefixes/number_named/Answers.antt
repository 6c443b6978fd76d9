use Rattle.std.proofs.Common.{◌∙◌, ◌∷◌, [], Some, ap, cond, sym, subst, inr, arith}
use Rattle.std.specs.BTreeMap.{get}
use Rattle.std.specs.Map.{lookup}
use Rattle.std.specs.Option.{is_some, unwrap_or}
use Rattle.std.specs.Ordering.{is_eq}
use Rattle.std.specs.Str.{bytes_eq}
use Rattle.ifmap_elem.specs.Namespaces.{name_prefixes, AddsSpaces}
use Rattle.ifmap_elem.specs.printer.Keys.{key_order}
use Rattle.ifmap_elem.specs.laws.NamespaceLaws.{adds_prefixed, adds_unprefixed}
use Rattle.ifmap_elem.proofs.KeyLaws.{IsPlaced, bytes_of, one_place_more, puts_own}
use Rattle.ifmap_elem.proofs.numbering.NumberedPrefixes.number_named.Goals as goal

pub returns-in-Some-clause-added : goal.returns-in-Some-clause-added
returns-in-Some-clause-added c =
    let known = ap (get key_order c.self.inside.labels) (sym (c.new-key.ensures ∙ c.as_bytes-bytes.ensures))
    ∙ sym c.in_ok-prefix.ensures.found ∙ c.in-Some.is in
    subst (λ xs. AddsSpaces c.args.self.now (c.args.space.now ∷ []) xs) (sym c.self.view_is ∙ ap bytes_of (sym c.reserve.ensures.items))
    (adds_prefixed c.args.self.now c.args.space.now (ap is_some (ap (λ xs. lookup (bytes_eq c.args.space.now) (name_prefixes xs))
    (sym c.self.view_is) ∙ sym (c.self.invariant.0 c.args.space.now) ∙ known)))

-- what putting the new namespace into the map and the list makes of them
put_in : (c : goal.After-result-2-1)
    → IsPlaced (get key_order c.label_of.new.labels) c.args.self.now (bytes_of c.push_reserved.new.self.items) c.args.space.now
    c.copy.result
put_in c =
    one_place_more (get key_order c.self.inside.labels) (get key_order c.label_of.new.labels) c.args.self.now c.self.inside.order.items
    c.reserve.new.self.items c.push_reserved.new.self.items c.args.space c.new-key.result c.copy.result c.in_ok-prefix.field-0 c.len.result
    c.requires.some c.self.view_is c.self.invariant.0 c.self.invariant.1 (c.new-key.ensures
    ∙ c.as_bytes-bytes.ensures) c.in_ok-prefix.ensures.found c.in_default.not-Some
    (λ none q. c.in_ok-prefix.ensures.put.0 q ∙ ap (λ o. cond (is_eq (key_order c.new-key.result q)) (Some (unwrap_or o c.copy.result))
    (get key_order c.self.inside.labels q)) none) c.reserve.ensures.items c.push_reserved.ensures.items
    (omega (arith, c.len.ensures, c.self.inside.order.ok.0)) (c.copy.ensures ∙ c.of_number-next.ensures)

pub invariant_of-self-2 : goal.invariant_of-self-2
invariant_of-self-2 c =
    let p = put_in c in (
      p.keys,
      p.bare,
      ap (λ s. lookup (bytes_eq s) (name_prefixes (bytes_of c.push_reserved.new.self.items))) c.as_bytes-bytes.ensures
          ∙ sym p.own ∙ ap (λ l. Some l) (c.copy.ensures ∙ sym c.copy-self-inside-2.ensures),
    )

pub returns-clause-added : goal.returns-clause-added
returns-clause-added c =
    let p = put_in c in
    adds_unprefixed c.args.self.now (bytes_of c.push_reserved.new.self.items) c.args.space.now c.requires.some p.unknown p.more

pub returns-clause-extends : goal.returns-clause-extends
returns-clause-extends c = (c.args.space.now ∷ [], (put_in c).more)

pub returns-clause-numbered : goal.returns-clause-numbered
returns-clause-numbered c = inr (ap is_some (sym (put_in c).own))

pub returns-clause-prefix : goal.returns-clause-prefix
returns-clause-prefix c = ap (λ l. Some l) (sym c.copy.ensures) ∙ (put_in c).own

pub invariant_of-self-in-Some : goal.invariant_of-self-in-Some
invariant_of-self-in-Some c =
    let old = get key_order c.self.inside.labels in
    let own = sym c.in_ok-prefix.ensures.found ∙ c.in-Some.is in
    let same = ap bytes_of c.reserve.ensures.items in (
      λ q. puts_own old (get key_order c.label_of.new.labels) c.new-key.result c.in-Some.prefix
          (λ t. c.in_ok-prefix.ensures.put.0 t
          ∙ ap (λ o. cond (is_eq (key_order c.new-key.result t)) (Some (unwrap_or o c.copy.result)) (old t)) c.in-Some.is) own q
          ∙ c.self.invariant.0 q ∙ ap (λ l. lookup (bytes_eq q) (name_prefixes l)) (sym same),
      ap (λ l. lookup (bytes_eq []) (name_prefixes l)) same ∙ c.self.invariant.1,
      ap (λ s. lookup (bytes_eq s) (name_prefixes (bytes_of c.reserve.new.self.items))) c.as_bytes-bytes.ensures
          ∙ ap (λ l. lookup (bytes_eq c.args.space.now) (name_prefixes l)) same ∙ sym (c.self.invariant.0 c.args.space.now)
          ∙ ap old (sym (c.new-key.ensures ∙ c.as_bytes-bytes.ensures)) ∙ own ∙ ap (λ l. Some l) (sym c.copy-self-inside.ensures),
    )
