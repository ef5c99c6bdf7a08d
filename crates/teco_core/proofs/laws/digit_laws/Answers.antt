use Rattle.teco_core.proofs.DigitLaws.{value, leading_zero, read, too_large}
use Rattle.teco_core.proofs.laws.digit_laws.Goals as goal

pub returns : goal.returns
returns c = record { value = value; leading_zero = leading_zero; read = read; too_large = too_large }
