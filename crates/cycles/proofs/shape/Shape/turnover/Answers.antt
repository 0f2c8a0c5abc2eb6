use Rattle.std.proofs.Common.{sym, ◌∙◌}
use Rattle.cycles.specs.Shape.{number_of}
use Rattle.cycles.proofs.Below.{no_round}
use Rattle.cycles.proofs.shape.Shape.turnover.Goals as goal

pub returns-in_default : goal.returns-in_default
returns-in_default c = c.new-answers.ensures.items ∙ sym (no_round c.args.self.now.workers (number_of c.args.self.now.unready) c.args.self.now.turnover c.in_default.is)
