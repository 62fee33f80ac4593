-- What a call of the writer adds to the tokens of a text, for private clauses.
use Rattle.std.specs.Prelude.{◌≡◌, ◌^◌, ◌<◌, List, ◌++◌}
use Rattle.json.specs.Token.{Token}
use Rattle.json.specs.Written.{Written}
use Rattle.json.specs.Tree.{json_tokens, members_tokens}
use Rattle.serde_json.specs.Data.{Data, null, boolean, number, string, array, object, Num, unsigned, negative, float}
use Rattle.serde_json.specs.Data.{Items, no_items, item, Members, no_members, member}
use Rattle.serde_json.specs.Written.{outline, members_outline}

-- Each number is whole, without a sign, and below 2^64.
abbrev pub IsFit : Num → Type 0
IsFit (unsigned n) = n < 2 ^ 64
IsFit (negative z) = ⊥
IsFit (float x) = ⊥

abbrev mutual
  pub Fits : Data → Type 0
  Fits null = Unit {0}
  Fits (boolean b) = Unit {0}
  Fits (number n) = IsFit n
  Fits (string s) = Unit {0}
  Fits (array ds) = ItemsFit ds
  Fits (object ms) = MembersFit ms

  pub ItemsFit : Items → Type 0
  ItemsFit no_items = Unit {0}
  ItemsFit (item d ds) = Fits d × ItemsFit ds

  pub MembersFit : Members → Type 0
  MembersFit no_members = Unit {0}
  MembersFit (member k d ms) = Fits d × MembersFit ms

-- the tokens with those of the rest of an object behind them
abbrev pub before_rest : List Token → Members → List Token
before_rest tokens rest = tokens ++ members_tokens (members_outline rest)

-- The writer gained the tokens of the members that `more` puts before the rest of an object,
-- whatever that rest is; what its buffer held at the start stays.
pub record Adds (old new : Written) (more : Members → Members) : Type 0 where
  pub before : new.before ≡ old.before
  pub tokens : (rest : Members) → before_rest old.tokens (more rest) ≡ before_rest new.tokens rest
  pub fits : (rest : Members) → MembersFit rest → MembersFit (more rest)

-- What was added is a whole value.
pub record AddsValue (old new : Written) (d : Data) : Type 0 where
  pub before : new.before ≡ old.before
  pub tokens : new.tokens ≡ old.tokens ++ json_tokens (outline d)
  pub fits : Fits d
