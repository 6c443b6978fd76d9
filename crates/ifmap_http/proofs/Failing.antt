-- What is claimed unless waiting for a head failed.
use Rattle.ifmap_http.specs.Heads.{UnlessAnswerFails, UnlessPostFails}
use Rattle.ifmap_http.specs.declared.heads.AwaitedAnswer.{AwaitedAnswer}
use Rattle.ifmap_http.specs.declared.heads.AwaitedAnswer.TheVariants as answer
use Rattle.ifmap_http.specs.declared.heads.AwaitedPost.{AwaitedPost}
use Rattle.ifmap_http.specs.declared.heads.AwaitedPost.TheVariants as post

pub unless_post : (awaited : AwaitedPost) (P : Type 0) → P → UnlessPostFails awaited P
unless_post (post.Taken size terms) P p = p
unless_post (post.Refused number) P p = p
unless_post post.Ended P p = p
unless_post post.Truncated P p = p
unless_post post.ReadFault P p = tt
unless_post post.NoMemory P p = tt

pub unless_answer : (awaited : AwaitedAnswer) (P : Type 0) → P → UnlessAnswerFails awaited P
unless_answer (answer.Sized size body) P p = p
unless_answer (answer.Refused size number) P p = p
unless_answer answer.NotHttp P p = p
unless_answer answer.Ended P p = p
unless_answer answer.ReadFault P p = tt
unless_answer answer.NoMemory P p = tt
