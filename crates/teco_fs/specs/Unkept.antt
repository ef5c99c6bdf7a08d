-- What a new file could not keep: whether text is lost with it, and what it is in words.
use Rattle.std.specs.Prelude.{ℕ, List, codes, Bool, true, false}
use Rattle.teco_fs.specs.declared.unkept.Unkept.{Unkept}
use Rattle.teco_fs.specs.declared.unkept.Unkept.TheVariants.{Changes, Owner, Group, Permissions}

abbrev pub is_text : Unkept → Bool
is_text Changes = true
is_text Owner = false
is_text Group = false
is_text Permissions = false

abbrev pub unkept_words : Unkept → List ℕ
unkept_words Changes = codes "changes made meanwhile not kept"
unkept_words Owner = codes "owner not kept"
unkept_words Group = codes "group not kept"
unkept_words Permissions = codes "permissions not kept"
