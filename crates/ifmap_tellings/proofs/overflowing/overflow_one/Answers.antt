use Rattle.std.proofs.Common.{◌≡◌, ◌∙◌, ◌==◌, ◌||◌, ap, subst, sym}
use Rattle.std.specs.BTreeMap.{get}
use Rattle.std.specs.Ordering.{nat_cmp}
use Rattle.ifmap_lemmas.specs.Filters.{found_all}
use Rattle.ifmap_standing.specs.ifmap_machine.Telling.{is_overfull, overflow_session}
use Rattle.ifmap_standing.specs.ifmap_session.Sessions.{Session}
use Rattle.ifmap_tellings.specs.Tellings.{IsWide, is_alone, tell_if}
use Rattle.ifmap_tellings.proofs.overflowing.overflow_one.Goals as goal
use Rattle.ifmap_standing.specs.ifmap_session.laws.TableLaws.{found_serial}

pub returns-clause-told : goal.returns-clause-told
returns-clause-told c = λ s found.
    let serial = c.args.serial
    in let live = c.args.sessions.now.live
    in let here : s.serial ≡ serial = found_serial serial live s found
    in let limit : s.limit ≡ c.queue_size-size.result.1 = sym (c.queue_size-size.ensures s found).1
    in let wide = subst IsWide limit
    (found_all (λ (t : Session). IsWide t.limit) (λ (t : Session). t.serial == serial) live c.requires.wide s found)
    in ap (λ n. tell_if (get nat_cmp c.overflow_where.new.tellings n) s) here
    ∙ c.in_ok-count.ensures.told live s c.requires.sized c.requires.within found limit wide
    ∙ ap (λ n. overflow_session (tell_if (get nat_cmp c.args.tellings.now n) s)) (sym here)

pub returns-clause-alone : goal.returns-clause-alone
returns-clause-alone c = λ s found.
    let serial = c.args.serial
    in let live = c.args.sessions.now.live
    in let here : s.serial ≡ serial = found_serial serial live s found
    in let limit : s.limit ≡ c.queue_size-size.result.1 = sym (c.queue_size-size.ensures s found).1
    in ap (λ n. is_alone (get nat_cmp c.overflow_where.new.tellings n)) here
    ∙ c.in_ok-count.ensures.alone live s c.requires.sized c.requires.within found limit
    ∙ ap (λ n. is_alone (get nat_cmp c.args.tellings.now n) || is_overfull (tell_if (get nat_cmp c.args.tellings.now n) s)) (sym here)
