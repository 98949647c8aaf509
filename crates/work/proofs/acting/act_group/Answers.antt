-- `work::acting::act_group` meets its contract: the job leaves as many levels as it found, and zeros past them. Assumes nothing.
use Rattle.work.proofs.Working.{group_after}
use Rattle.work.proofs.acting.act_group.Goals as goal

pub returns : goal.returns
returns c = record {
  answer = c.act.ensures.answer;
  group_left = group_after c.requires c.args.action c.args.target c.act.ensures.levels_left;
}
