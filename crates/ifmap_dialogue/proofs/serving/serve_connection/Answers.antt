use Rattle.std.proofs.Common.{refl, arith}
use Rattle.ifmap_dialogue.proofs.Connecting.{connects_first, connects_more, serves_all}
use Rattle.ifmap_dialogue.proofs.serving.serve_connection.Goals as goal

pub posts-init : goal.posts-init
posts-init g c = connects_first _ _ c.requires

pub posts-preserved : goal.posts-preserved
posts-preserved g c =
    connects_more _ _ _ _ _ _ c.posts.invariant c.in_default.ensures.serves refl c.in_default.ensures.more.1
    c.in_default.ensures.more.0

pub returns-in-Some : goal.returns-in-Some
returns-in-Some g c = serves_all _ _ _ _ _ _ c.posts.invariant c.in-Some.ensures.serves c.in-Some.ending refl

pub posts-smaller : goal.posts-smaller
posts-smaller g c = omega (arith, c.posts.invariant.few, c.in_default.ensures.more.1)

pub overflow_add-number : goal.overflow_add-number
overflow_add-number g c = omega (arith, c.posts.invariant.few)
