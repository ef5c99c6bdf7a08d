use Rattle.std.proofs.Common.{◌≡◌, ◌∙◌, ◌++◌, ap, refl}
use Rattle.std.specs.Prelude.{codes}
use Rattle.std.specs.String.{string_bytes}
use Rattle.std.proofs.lemmas.Result.{on_ok_weaker}
use Rattle.teco_messages.specs.Spelling.{spelled}
use Rattle.teco_debugger.specs.Listing.{found_shown, last_shown}
use Rattle.teco_debugger.proofs.Texts.{three_from_right}
use Rattle.teco_messages.proofs.Calls.{put_behind}
use Rattle.teco_debugger.proofs.listing.show_last.Goals as goal
use Rattle.teco_debugger.proofs.listing.show_last.Goals.{then-found, else-found}

pub returns : goal.returns
unfolding last_shown found_shown
returns c =
    let two = string_bytes c.spell.new.out in
    let new = string_bytes c.push_str-2.new.self in
    let words = c.if-found.push_str.now in
    let found_is : words ≡ found_shown c.args.found = elim c.if-found.branch [
      | then-found w ↦ rw (w.push_str-is, w.if-found.true) refl
      | else-found w ↦ rw (w.push_str-is, w.if-found.false) refl
    ] in
    on_ok_weaker c.push_str-2.result
    (λ e. three_from_right (string_bytes c.args.out.now) (string_bytes c.push_str.new.self) two new
    (codes "last search ") (spelled c.args.text.now) (found_shown c.args.found) c.in_ok-push_str.ensures.bytes c.in_ok-spell.ensures (e ∙ ap (λ t. two ++ t) found_is))
    (put_behind c.push_str-2.result two new words c.push_str-2.ensures.bytes)
