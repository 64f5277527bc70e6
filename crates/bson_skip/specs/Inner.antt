-- What the answers of the functions stand for.
-- Assumes nothing: these are definitions.
use Rattle.std.specs.Prelude.{ℕ, List}
use Rattle.wire.specs.Bytes.{word}
use Rattle.bson_values.specs.Value.{Value, plain, embedded, scoped}

-- how many bytes a value takes at the start of xs, where a document is passed over by its length
abbrev pub span : List ℕ → Value → ℕ
span xs (plain size) = size
span xs embedded = word xs
span xs (scoped start size) = size
