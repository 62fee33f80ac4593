-- What a token begins, for private clauses.
use Rattle.std.specs.Prelude.{Bool, true, false}
use Rattle.json.specs.Token.{Token, begin_object, begin_array}

abbrev pub begins_object : Token → Bool
begins_object begin_object = true
begins_object _ = false

abbrev pub begins_list : Token → Bool
begins_list begin_array = true
begins_list _ = false
