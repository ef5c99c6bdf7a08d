use Rattle.std.proofs.Common.{◌≡◌, ◌-◌, ◌∙◌, ap, arith, drop, length, take}
use Rattle.std.proofs.lemmas.List.{length-drop, take_all}
use Rattle.teco_scan.specs.Scan.{rows_of, after_fillers}
use Rattle.teco_exec.specs.Semicolon.{is_semicolon}
use Rattle.teco_exec.proofs.Semicolons.{leave_comes}
use Rattle.teco_exec.proofs.cursor.Cursor.leave_is_next.Goals as goal

pub returns : goal.returns
returns c =
    let s = c.args.self.now in
    let rest = drop s.at s.text.bytes.now in
    let whole : take (length s.text.bytes.now - s.at) rest ≡ rest = take_all (length s.text.bytes.now - s.at) rest (omega (arith, length-drop s.at s.text.bytes.now)) in
    c.is_leave_first.ensures ∙ ap (λ bs. is_semicolon (after_fillers bs)) whole ∙ leave_comes s.text.profile (c.spelling.ensures.spelled (rows_of s.text.profile)) rest
