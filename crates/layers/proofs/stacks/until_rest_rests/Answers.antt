use Rattle.operator.specs.Layers.{until_rest_rests}
use Rattle.layers.proofs.stacks.until_rest_rests.Goals as goal

pub returns : goal.returns
returns c = until_rest_rests
