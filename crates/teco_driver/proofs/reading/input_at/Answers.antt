use Rattle.std.proofs.Common.{◌∙◌, refl, sym, true≢false, Result, Ok, Err, inl}
use Rattle.std.specs.Prelude.{◌⊎◌, IfErr}
use Rattle.teco_driver.proofs.Doings.{kept_same}
use Rattle.teco_driver.proofs.reading.input_at.Goals as goal

err_first : {A E : Type 0} (P Q : E → Type 0) (result : Result A E) → IfErr result P → IfErr result (λ e. P e ⊎ Q e)
err_first P Q (Ok x) h = h
err_first P Q (Err e) h = inl h

pub returns-then-is_standard_input : goal.returns-then-is_standard_input
returns-then-is_standard_input g c = rw (sym c.is_standard_input.ensures ∙ c.if-is_standard_input.true) (record {
  input = c.input_of_stream.ensures.input;
  small = c.input_of_stream.ensures.small;
  fault = err_first _ _ c.input_of_stream.result c.input_of_stream.ensures.fault;
  keeps = kept_same;
  still = λ apart. absurd (true≢false apart);
})

pub returns : goal.returns
returns g c = rw (sym c.is_standard_input.ensures ∙ c.if-is_standard_input.false) (record {
  input = c.input_of.ensures.input;
  small = c.input_of.ensures.small;
  fault = c.input_of.ensures.fault;
  keeps = c.input_of.ensures.keeps;
  still = λ same. refl;
})
