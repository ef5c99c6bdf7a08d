use Rattle.teco_core.proofs.ArgumentLaws.{left_to_right, parentheses_first, signs, sixteen, commas, unfinished}
use Rattle.teco_core.proofs.laws.argument_laws.Goals as goal

pub returns : goal.returns
returns c = record {
  left_to_right = left_to_right;
  parentheses_first = parentheses_first;
  signs = signs;
  sixteen = sixteen;
  commas = commas;
  unfinished = unfinished;
}
