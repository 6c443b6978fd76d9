use Rattle.std.proofs.Common.{◌++◌, sym, ◌∙◌, ap}
use Rattle.ifmap_lemmas.specs.Numerals.{numeral, numeral_is_decimal}
use Rattle.ifmap_lemmas.specs.Joined.{joined_twice}
use Rattle.ifmap_elem.proofs.numbering.write_numbered.Goals as goal

pub returns : goal.returns
returns c =
    joined_twice c.args.out.now.items c.extend_from_slice.new.self.items c.extend_from_slice-2.new.self.items c.args.letter.now
    (numeral c.args.number)
    (c.in_ok-extend_from_slice.ensures.items ∙ ap (λ l. c.args.out.now.items ++ l) c.as_bytes.ensures.value)
    (c.in_ok-extend_from_slice-2.ensures.items ∙ ap (λ d. c.extend_from_slice.new.self.items ++ d)
    (c.as_bytes-2.ensures.value ∙ c.format.ensures.text ∙ sym (numeral_is_decimal c.args.number c.ranges.number.fits)))
