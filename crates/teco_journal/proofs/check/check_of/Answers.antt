use Rattle.std.proofs.Common.{◌≡◌, ℕ, ◌*◌, List, [], ◌++◌, length, take, Result, Ok, Err, ap, ◌∙◌, arith}
use Rattle.std.specs.Prelude.{IsOk, OnOk}
use Rattle.std.proofs.lemmas.List.{length-take-le}
use Rattle.hex.specs.Hex.{encode_lower}
use Rattle.sha2.specs.Sha256.{sha256}
use Rattle.teco_journal.specs.Lines.{check_of}
use Rattle.teco_journal.proofs.Checks.{length_sha256}
use Rattle.teco_journal.proofs.check.check_of.Goals as goal

on_ok : {T E P : Type 0} (r : Result T E) → IsOk r → OnOk r P → P
on_ok (Ok x) is p = p
on_ok (Err e) is p = absurd (cc)

pub returns : goal.returns
unfolding check_of
returns c =
    let message : List ℕ = c.args.last.now ++ c.args.words.now in
    let digest : c.finalize-digest.result ≡ sha256 (c.args.last.now ++ c.args.words.now) =
    c.finalize-digest.ensures message (c.update-2.ensures c.args.last.now (c.update.ensures [] c.new-hasher.ensures)) in
    let all : length c.finalize-digest.result ≡ 32 = ap length digest ∙ length_sha256 message in
    let eight : length (take 8 c.finalize-digest.result) ≡ 8 = length-take-le 8 c.finalize-digest.result (omega arith) in
    on_ok c.encode_to_slice-fits.result (c.encode_to_slice-fits.ensures.fits.1 (let twice : 16 ≡ 2 * length (take 8 c.finalize-digest.result) = omega arith in twice)) c.encode_to_slice-fits.ensures.written
    ∙ ap (λ (d : List ℕ). encode_lower (take 8 d)) digest
