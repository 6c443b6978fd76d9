use Rattle.std.proofs.Common.{sym}
use Rattle.ifmap_subscribes.proofs.OfScene.{name_told, now_before}
use Rattle.ifmap_subscribes.specs.Readying.{told_in_scene, told_then}
use Rattle.ifmap_subscribes.proofs.readying.name_now.Goals as goal

pub returns-in-None : goal.returns-in-None
returns-in-None c =
    let s = c.args.scene.now in
    let p = c.args.parts.now in
    now_before s.serial c.args.name.now (told_in_scene s p) (told_then s p c.args.readying.now) c.name_before.result
    (name_told s p c.args.name.now c.name_before.result c.requires.live c.name_before.ensures)
    (c.requires.readied.counted.others c.args.name.now (sym c.in-None.ensures.value))
