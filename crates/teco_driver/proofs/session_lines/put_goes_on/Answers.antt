use Rattle.std.specs.Prelude.{codes}
use Rattle.std.specs.String.{string_bytes}
use Rattle.std.proofs.lemmas.Result.{on_ok_weaker}
use Rattle.teco_driver.specs.SessionLines.{count_words}
use Rattle.teco_driver.proofs.SessionTexts.{line_with_count, put_behind}
use Rattle.teco_driver.proofs.session_lines.put_goes_on.Goals as goal

pub returns : goal.returns
returns c = on_ok_weaker c.push_str.result
    (λ e. line_with_count (string_bytes c.args.out.now) (codes "teco: ") c.args.file.now (codes ": goes on after ") (count_words c.args.strings (codes "string")) (codes "\n")
    (string_bytes c.write.new.self) (string_bytes c.put_count.new.out) (string_bytes c.push_str.new.self) c.in_ok-write.ensures.bytes c.in_ok-put_count.ensures e)
    (put_behind c.push_str.result (string_bytes c.put_count.new.out) (string_bytes c.push_str.new.self) (codes "\n") c.push_str.ensures.bytes)
