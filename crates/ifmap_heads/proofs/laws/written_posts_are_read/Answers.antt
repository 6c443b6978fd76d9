use Rattle.ifmap_heads.proofs.ClientTests.{test_of_name}
use Rattle.ifmap_heads.proofs.WrittenPosts.{post_is_read}
use Rattle.ifmap_heads.proofs.laws.written_posts_are_read.Goals as goal

pub returns : goal.returns
returns c host client body rest seen name near small =
    post_is_read host client body seen (test_of_name client name) small rest near
