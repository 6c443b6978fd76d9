use Rattle.ifmap_changes.proofs.Settling.{sound_back}
use Rattle.ifmap_changes.proofs.laws.what_is_back_is_sound.Goals as goal

pub returns : goal.returns
returns c = λ old new was is sound back.
    sound_back c.same_links_keep_subscriptions.ensures c.same_marks_keep_subscriptions.ensures.same old new was is sound back
