-- What a handle becomes when its session was lent, by what was left there.
use Rattle.std.specs.Prelude.{◌≡◌, Option, ⊤}
use denote.RattleType.{RattleType}
use Rattle.std.specs.Borrow.{LendsIf, MutBor, Fml, follows_so}
use mathlib.Core.Option.{none}
use Rattle.std.specs.declared.option.Option.TheVariants.{Some}
use Rattle.teco_session.specs.contracts.session.Session as Inner
use Rattle.teco_ffi.specs.Handle.{Kept}
use Rattle.teco_ffi.specs.declared.handle.Teco.{Teco}
use Rattle.teco_ffi.specs.contracts.handle.Teco as Handle

-- the same handle, with this session behind it
abbrev pub with_session : Teco → Kept → Teco
with_session t kept = record t { value = Some kept }

-- An open handle gets back what is left behind the loan, and a closed one stays as it is.
abbrev pub LendsSession : MutBor Teco → Option (MutBor Kept) → Fml
LendsSession t loan = LendsIf Handle.the_row Inner.the_row t loan (with_session t.now) t.now

-- What was lent to be looked at is the same once the look is over.
abbrev pub StaysTheSame : (R : RattleType) → MutBor R.Denot → Fml
StaysTheSame R t = follows_so R R t.ghost_name none (λ _ _. ⊤) (λ after. after ≡ t.now)
