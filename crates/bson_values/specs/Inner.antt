-- What the answers of the functions stand for in document 01's terms, and how far they reach.
-- Assumes nothing: these are definitions.
use Rattle.std.specs.Prelude.{ℕ, ◌+◌, ◌-◌, ◌^◌, ◌≤◌, ◌<◌, Bool, not, ◌&&◌, ◌||◌, List, ◌≡◌, Option, Some, None, Result, Ok, Err, length, get_or, drop, ltb, eqb}
use Rattle.wire.specs.Outcome.{Outcome, ok, refused, refuse, ◌>>=◌}
use Rattle.wire.specs.Bytes.{word, under}
use Rattle.bson_values.specs.Value.{Value, plain, embedded, scoped, sized, boolean, string, binary, regex, pointer, code_with_scope, bytes, Rule}
use Rattle.utf8_text.specs.declared.TextError.{TextError}
use Rattle.bson_values.specs.declared.ValueError.{ValueError}
use Rattle.bson_values.specs.declared.Shape.{Shape}
use Rattle.bson_values.specs.declared.Kind.{Kind}

-- why something that begins at a place, and belongs to the value at place v, is no value; of text that is not UTF-8, how far from that place
-- its longest well-formed beginning ends, which lies within n bytes
abbrev pub fault : {A : Type 0} → (v at : ℕ) → ValueError → Outcome A
fault v at ValueError.Broken = refused 19 v
fault v at (ValueError.IllFormed n) = refused 27 (at + n)

abbrev pub FaultWithin : (n : ℕ) → ValueError → Type 0
FaultWithin n ValueError.Broken = Unit {0}
FaultWithin n (ValueError.IllFormed m) = m ≤ n

-- how many bytes it takes, where it is one. All of it lies within n bytes
abbrev pub extent : (v at : ℕ) → Result ℕ ValueError → Outcome ℕ
extent v at (Ok n) = ok n
extent v at (Err e) = fault v at e

abbrev pub ExtentWithin : (n : ℕ) → Result ℕ ValueError → Type 0
ExtentWithin n (Ok m) = m ≤ n
ExtentWithin n (Err e) = FaultWithin n e

-- text that no zero ends breaks the rule of its value
abbrev pub Unread : TextError → ValueError → Type 0
Unread TextError.Unended e = e ≡ ValueError.Broken
Unread (TextError.IllFormed n) e = e ≡ ValueError.IllFormed n

-- the signed length, of at least some number, that xs begins with
abbrev pub counted : (v least : ℕ) → List ℕ → Outcome ℕ
counted v least xs = do
  _ ← refuse 19 v (ltb (length xs) 4)
  _ ← refuse 19 v (under least (word xs))
  ok (word xs)

abbrev pub Counted : (least : ℕ) → List ℕ → Result ℕ ValueError → Type 0
Counted least xs (Ok n) = (least ≤ n) × (n < 2 ^ 31) × (4 ≤ length xs)
Counted least xs (Err e) = e ≡ ValueError.Broken

-- with m bytes before it
abbrev pub behind : (m : ℕ) → Outcome ℕ → Outcome ℕ
behind m o = o >>= λ n. ok (m + n)

-- what a value is, and that it lies within n bytes
abbrev pub value : Shape → Value
value (Shape.Plain size) = plain size
value Shape.Embedded = embedded
value (Shape.Scoped start size) = scoped start size

abbrev pub LiesWithin : (n : ℕ) → Shape → Type 0
LiesWithin n (Shape.Plain size) = size ≤ n
LiesWithin n Shape.Embedded = Unit {0}
LiesWithin n (Shape.Scoped start size) = (start ≤ size) × (size ≤ n)

-- the value at place v, where it is one. All of it lies within n bytes
abbrev pub shape : (v : ℕ) → Result Shape ValueError → Outcome Value
shape v (Ok x) = ok (value x)
shape v (Err e) = fault v v e

abbrev pub ShapeWithin : (n : ℕ) → Result Shape ValueError → Type 0
ShapeWithin n (Ok x) = LiesWithin n x
ShapeWithin n (Err e) = FaultWithin n e

-- of subtype 2, the n bytes do not begin with a length that is n − 4
abbrev pub miscounted : (n : ℕ) → List ℕ → Bool
miscounted n xs = let old = eqb (get_or xs 4 0) 2 in old && ltb n 4 || old && not (eqb (word (drop 5 xs)) (n - 4))

-- a row of the table, and that of a type at a place
abbrev pub rule_of : Kind → Rule
rule_of (Kind.Bytes n) v xs = bytes (sized v n xs)
rule_of Kind.Boolean v xs = bytes (boolean v xs)
rule_of Kind.String v xs = bytes (string v v xs)
rule_of Kind.Binary v xs = bytes (binary v xs)
rule_of Kind.Regex v xs = bytes (regex v xs)
rule_of Kind.Pointer v xs = bytes (pointer v xs)
rule_of Kind.Embedded v xs = ok embedded
rule_of Kind.Code v xs = code_with_scope v xs

abbrev pub rule_found : (at : ℕ) → Option Kind → Outcome Rule
rule_found at (Some k) = ok (rule_of k)
rule_found at None = refused 17 at
