-- A text of values and arithmetic alone never ends for want of memory.
use Rattle.std.proofs.Common.{arith, ◌≡◌, ℕ, Bool, true, List, [], Option, Some, refl, sym, subst, ◌∙◌, ◌&&◌}
use Rattle.teco_core.specs.declared.code.Code.{Code}
use Rattle.teco_core.specs.declared.code.Code.TheVariants.{Mem}
use Rattle.teco_core.specs.Arguments.{Arguments, no_arguments}
use Rattle.teco_core.specs.declared.profile.Profile.{Profile}
use Rattle.teco_scan.specs.declared.text.Text.{Text}
use Rattle.teco_scan.specs.ListLaws.{EachBlockLaws}
use Rattle.teco_scan.specs.Lists.{Listed, nodes}
use Rattle.teco_scan.specs.declared.token.Found.{Found}
use Rattle.teco_scan.specs.declared.token.TokenKind.{TokenKind}
use Rattle.teco_scan.specs.declared.token.TokenKind.TheVariants as kind
use Rattle.teco_step.specs.Stepping.{IsStepKind, kind_takes_nothing, takes_nothing}
use Rattle.teco_exec.specs.CursorMoves.{Frame, Cursor as MachineCursor, Coming as MachineComing, pass}
use Rattle.teco_exec.specs.Quiet.{IsQuiet, QuietComing, takes_no_memory}
use Rattle.teco_exec.specs.Running.{code_left}
use Rattle.teco_exec.specs.View.{cursor_at_start, coming_of, cursor, item_of_kind}
use Rattle.teco_exec.specs.declared.cursor.Cursor.{Cursor}
use Rattle.teco_exec.specs.declared.flow.Exit.{Exit}
use Rattle.teco_exec.specs.declared.moves.Coming.{Coming}
use Rattle.teco_exec.proofs.Denoting.{here}
use Rattle.teco_exec.proofs.Passing.{Passes, item_comes, tag_passes, escape_passes, iteration_opens, conditional_opens, turn_ends, part_ends, passes}

both : (a b : Bool) → (a && b) ≡ true → (a ≡ true) × (b ≡ true)
both a b e = grind arith

-- what comes in such a text
quiet_here : (p : Profile) (c : MachineCursor) (bs : List ℕ) (a : Arguments) → c.blocks ≡ [] → takes_no_memory (here p c.blocks bs).0 ≡ true → IsQuiet p (record c { args = a; left = bs })
quiet_here p c bs a none e = record { blocks = none; left = subst (λ (blocks : List Frame). takes_no_memory (here p blocks bs).0 ≡ true) none e }

quiet : (p : Profile) {c : MachineCursor} {l : Listed} {k : MachineComing} → Passes p c l k → c.blocks ≡ [] → takes_no_memory l.0 ≡ true → QuietComing p k
quiet p (item_comes c m i bs) none e = let b = both (takes_nothing i) _ e in (b.0, quiet_here p c bs c.args none b.1)
quiet p (escape_passes c bs lt) none e = quiet_here p c bs no_arguments none e
quiet p (tag_passes c name bs lt) none e = absurd cc
quiet p (iteration_opens c bs) none e = absurd cc
quiet p (conditional_opens c t bs) none e = absurd cc
quiet p (turn_ends a left start turns outer bs) none e = absurd cc
quiet p (part_ends a left b outer l bs part is lt) none e = absurd cc
quiet p k none e = tt

pub comes_quietly : EachBlockLaws → (old to : Cursor) (found : Found) (n : Coming) → to.text ≡ old.text → coming_of to found n ≡ pass old.text.profile (cursor old) → IsQuiet old.text.profile (cursor old)
    → QuietComing to.text.profile (coming_of to found n)
comes_quietly laws old to found n same e q =
    let c : MachineCursor = cursor old in
    let p : Profile = old.text.profile in
    subst (λ (t : Text). QuietComing t.profile (coming_of to found n)) (sym same)
    (subst (QuietComing p) (sym e) (quiet p (passes p (laws p) c) q.blocks (subst (λ (blocks : List Frame). takes_no_memory (here p blocks c.left).0 ≡ true) (sym q.blocks) q.left)))

pub kind_quietly : (text : List ℕ) (n : ℕ) (k : TokenKind) → IsStepKind n k → takes_nothing (item_of_kind text k) ≡ true → kind_takes_nothing text k ≡ true
kind_quietly text n (kind.Item i) is h = h
kind_quietly text n k is h = absurd is

-- the beginning and the end of a whole text
pub begins_quietly : (a : Arguments) (text : Text) (c : Cursor) → c.text ≡ text → cursor c ≡ cursor_at_start a text.bytes.now → takes_no_memory (nodes text.profile text.bytes.now) ≡ true
    → IsQuiet c.text.profile (cursor c)
begins_quietly a text c same e h =
    subst (λ (t : Text). IsQuiet t.profile (cursor c)) (sym same) (subst (IsQuiet text.profile) (sym e) (record { blocks = refl; left = h }))

pub ends_quietly : (exit : Exit) (code : Option Code) → code ≡ code_left exit → (code_left exit ≡ Some Mem → ⊥) → code ≡ Some Mem → ⊥
ends_quietly exit code is h e = h (sym is ∙ e)
