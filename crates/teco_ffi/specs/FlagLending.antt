-- What a stopper becomes when its flag was lent, by what was left there.
use Rattle.std.specs.Prelude.{Option}
use Rattle.std.specs.Borrow.{LendsIf, MutBor, Fml}
use Rattle.std.specs.declared.option.Option.TheVariants.{Some}
use Rattle.teco_ffi.specs.contracts.flag.Flag as Inner
use Rattle.teco_ffi.specs.Stopper.{SeenFlag}
use Rattle.teco_ffi.specs.declared.stopper.Stopper.{Stopper}
use Rattle.teco_ffi.specs.contracts.stopper.Stopper as Handle

-- the same handle, with this flag behind it
abbrev pub with_flag : Stopper → SeenFlag → Stopper
with_flag t flag = record t { value = Some flag }

-- An open handle gets back what is left behind the loan, and a closed one stays as it is.
abbrev pub LendsFlag : MutBor Stopper → Option (MutBor SeenFlag) → Fml
LendsFlag t loan = LendsIf Handle.the_row Inner.the_row t loan (with_flag t.now) t.now
