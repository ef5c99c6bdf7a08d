-- What a value of the program holds, as readers see it.
use Rattle.teco_core.specs.declared.register.Value.{Value}
use Rattle.teco_core.specs.Register.{Content}

abbrev pub content_of : Value → Content
content_of v = record { number = v.num; text = v.text.items }
