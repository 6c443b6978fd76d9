use Rattle.std.proofs.Common.{rules, ◌∙◌, refl, ap, map, Some}
use Rattle.ifmap_desks.specs.Calls.{plain_call}
use Rattle.ifmap_hall.specs.Passes.{view_of}
use Rattle.ifmap_serving.proofs.Recalling.{some_spent, turns_are, works_as}
use Rattle.ifmap_serving.proofs.serving.serve_pass.Goals as goal

pub returns-clause-works : goal.returns-clause-works
returns-clause-works g c =
    works_as _ _ _ (view_of c.work.new.desk.pass.now) _ _ _ _ (search rules) (record {
      first = _;
      last = _;
      hall_is = c.new-desk.ensures.home;
      silent = ap (λ p. Some (map plain_call (view_of p).said)) c.new-desk.ensures.pass
          ∙ ap (λ l. Some (map plain_call l)) c.requires.view.silent;
      said = refl;
      words_are = refl;
      recalls = c.work.new.desk.recalls;
      works = c.work.ensures.works;
      turns = turns_are _ _ _ c.work.ensures.works.tells.count
          (ap (λ p. (view_of p).turns) c.new-desk.ensures.pass ∙ c.requires.view.idle);
      spent = λ some. c.work.new.desk.used_up (some_spent _ _ _ c.work.ensures.works.tells.spent c.new-desk.ensures.spent some);
      ends = c.work.ensures.ends;
    })
