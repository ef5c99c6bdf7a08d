-- A turn changes only what its kind names, and leaves a change of the kind that goes back.
use Rattle.std.proofs.Common.{◌≡◌, [], length, drop, refl, sym, ◌∙◌, ap, subst, arith, length-drop}
use Rattle.std.proofs.lemmas.List.{length-take-le}
use Rattle.teco_store.specs.State.{Body}
use Rattle.teco_store.specs.Turn.{Turn, Splice, Lend, PutIn, TakeOut, Point, Number, Text, Push, TakeOff, PopInto, PutBack, Pages, Search, Found, Done, Mode, lent, top_of, body_after, turn_after, Stands}
use Rattle.teco_store.proofs.Loans.{length-lent}
use Rattle.teco_store.specs.Kinds.{kind_of, way_back, ChangesOnly, TellsItsTurn}
use Rattle.teco_store.specs.declared.change_kind.ChangeKind.{ChangeKind}
use Rattle.teco_store.specs.declared.change_kind.ChangeKind.TheVariants as kind

changes_only : (t : Turn) (b : Body) → ChangesOnly (kind_of t) b (body_after t b)
changes_only (Splice at there pointer held) b = (held, refl, refl)
changes_only (Lend from count there_from there pointer) b = (lent b.input from count, length-lent b.input from count, refl)
changes_only (PutIn held pointer) b = (held, refl, refl)
changes_only (TakeOut held pointer) b = ([], refl, refl)
changes_only (Point pointer) b = refl
changes_only (Number q number) b = (number, refl)
changes_only (Text q held) b = (held, refl)
changes_only (Push held) b = refl
changes_only TakeOff b = refl
changes_only (PopInto q) b = (top_of b.pushed, refl)
changes_only (PutBack q held) b = (held, refl)
changes_only (Pages place output form_feed) b = refl
changes_only (Search held) b = refl
changes_only (Found found) b = refl
changes_only (Done done) b = refl
changes_only (Mode mode) b = refl

kind_back : (t : Turn) (b : Body) → Stands t b → kind_of (turn_after t b) ≡ way_back (kind_of t)
kind_back (Splice at there pointer held) b within =
    ap (λ n. kind.Splice at (length held) n) (length-take-le there (drop at b.text) (omega (arith, length-drop at b.text, within)))
kind_back (Lend from count there_from there pointer) b s = refl
kind_back (PutIn held pointer) b s = refl
kind_back (TakeOut held pointer) b s = refl
kind_back (Point pointer) b s = refl
kind_back (Number q number) b s = refl
kind_back (Text q held) b s = refl
kind_back (Push held) b s = refl
kind_back TakeOff b s = refl
kind_back (PopInto q) b s = refl
kind_back (PutBack q held) b s = refl
kind_back (Pages place output form_feed) b s = refl
kind_back (Search held) b s = refl
kind_back (Found found) b s = refl
kind_back (Done done) b s = refl
kind_back (Mode mode) b s = refl

pub tells_kind : TellsItsTurn
tells_kind kind t e = record {
  kind_is = e;
  only = λ b. subst (λ (k : ChangeKind). ChangesOnly k b (body_after t b)) (sym e) (changes_only t b);
  back = λ b stands. kind_back t b stands ∙ ap way_back (sym e);
}
