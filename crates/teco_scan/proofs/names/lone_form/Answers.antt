use Rattle.std.proofs.Common.{refl, arith}
use Rattle.teco_core.specs.declared.profile.Profile.TheVariants.{Named}
use Rattle.teco_scan.proofs.FirstRow.{lone_named}
use Rattle.teco_scan.proofs.Wider.{lone_kept, one_had}
use Rattle.teco_scan.proofs.names.lone_form.Goals as goal

pub returns-in-One : goal.returns-in-One
returns-in-One c = lone_kept c.args.b _ (one_had c.first_row-first.result c.in-One.field-0 _ _ (omega arith) refl c.in-One.is) (lone_named c.first_row-first.result c.args.b c.in-One.field-0 _ _ (c.first_row-first.ensures.picked Named) (omega arith) refl c.in-One.is)
