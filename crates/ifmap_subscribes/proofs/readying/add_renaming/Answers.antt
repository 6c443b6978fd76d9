use Rattle.std.proofs.Common.{◌≡◌, ◌∙◌, ap, refl, Bool, true, false, cond, Option, None, Some, is_some, length, option_to_list, arith}
use Rattle.ifmap_subscribes.proofs.readying.add_renaming.Goals as goal
use mir.Val.{bool_byte}

byte : (b : Bool) → bool_byte b ≡ cond b 1 0
byte true = refl
byte false = refl

some_byte : {X : Type 0} (o : Option X) → bool_byte (is_some o) ≡ length (option_to_list o)
some_byte None = refl
some_byte (Some x) = refl

pub returns : goal.returns
returns c =
    let stands : bool_byte c.now_of-after.result.stands ≡ length (option_to_list c.args.renaming.standing)
    = ap (λ v. bool_byte v.stands) c.now_of-after.ensures ∙ some_byte c.args.renaming.standing in
    let size = ap (λ v. v.size) c.now_of-after.ensures in
    record {
      made = c.push_reserved.ensures.items;
      name = c.set_name.ensures.name ∙ ap Some c.now_of-after.ensures;
      others = c.set_name.ensures.others;
      count = omega (arith, byte c.args.now.stands, stands, c.requires.count);
      size = omega (arith, size, c.requires.size);
    }
