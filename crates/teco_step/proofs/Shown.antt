-- What a command that types did by its put.
use Rattle.std.proofs.Common.{ℕ, ◌≡◌, ◌≢◌, subst, inr, OnOk, OnErr, List, [], ◌++◌, true, Result, Ok, Err, IsErr, refl, sym, ap, append_assoc, ◌∙◌}
use Rattle.std.proofs.lemmas.Bool.{false≢true}
use Rattle.teco_core.specs.Arguments.{Arguments, no_arguments}
use Rattle.teco_store.specs.State.{State}
use Rattle.teco_step.specs.Families.{Types}
use Rattle.teco_step.specs.Step.{Action, done_by, goes_on, types}
use Rattle.teco_step.specs.declared.failure.Failure.{Failure}
use Rattle.teco_step.specs.declared.failure.Failure.TheVariants as failure
use Rattle.teco_step.specs.declared.next.Next.{Next}
use Rattle.teco_step.specs.declared.next.Next.TheVariants as next
use Rattle.teco_io.specs.Terminal.{IsFrontOf, Screen, Shows, Puts}

-- a put that failed before more bytes came
pub Puts-front : {A E : Type 0} {a b : Screen} {xs : List ℕ} (front ys : List ℕ) (r : Result A E)
    → IsFrontOf front xs → Shows a b front true → IsErr r → Puts a b (xs ++ ys) r
Puts-front front ys (Ok done) p q is = absurd (false≢true is)
Puts-front front ys (Err fault) (rest, e) q is = (front, (rest ++ ys, ap (λ l. l ++ ys) e ∙ append_assoc front rest ys), q)

-- A command that types was done, or cut short, by the answer of its put.
pub types_answered : {E : Type 0} (f : Action) (s : State) (a left : Arguments) (before after : Screen) (bytes : List ℕ) (d : Result (Unit {0}) E) (r : Result Next Failure)
    → done_by f s a ≡ goes_on s (types s bytes) → Puts before after bytes d → OnErr d (bytes ≢ []) → OnOk d ((r ≡ Ok next.On) × (left ≡ no_arguments))
    → OnErr d ((r ≡ Err failure.Terminal) × (left ≡ a)) → Types f s a left before after r
types_answered f s a left before after bytes (Ok u) r made puts some ok err =
    subst (λ r. Types f s a left before after r) (sym ok.0) (record { bytes = bytes; step = made; arguments = ok.1; goes_on = refl; shows = puts })
types_answered f s a left before after bytes (Err e) r made puts some ok err =
    subst (λ r. Types f s a left before after r) (sym err.0)
    (inr (record { is = refl; bytes = bytes; step = made; some = some; arguments = err.1; front = puts.0; beginning = puts.1; shows = puts.2 }))
