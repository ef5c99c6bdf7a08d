use Rattle.std.proofs.Common.{◌≡◌, ◌+◌, ◌-◌, ◌≤◌, length, drop}
use Rattle.std.specs.Prelude.{not}
use Rattle.std.specs.List.{prefix_len}
use Rattle.teco_messages.specs.Token.{ends_word}
use Rattle.teco_messages.proofs.tokens.word_len.Given as goal

abbrev pub invariant-loop-len : goal.invariant-loop-len
invariant-loop-len l = record {
  few : l.len ≤ l.most;
  within : l.len ≤ length l.bytes;
  word : l.len + prefix_len (λ b. not (ends_word b)) (drop l.len l.bytes) ≡ prefix_len (λ b. not (ends_word b)) l.bytes;
}

abbrev pub decreases-loop-len : goal.decreases-loop-len
decreases-loop-len l = length l.bytes - l.len
