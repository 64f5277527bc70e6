-- How many bytes a value takes that keeps its rule.
-- Assumes nothing.
use Prim.Native.Nat.{ℕ, ◌+◌, ◌-◌, ◌<◌}
use mathlib.Core.Path.{◌≡◌, refl}
use mathlib.Core.List.{List}
use native.Mathlib.Omega.{arith}
use lib.ListN.{length, take, drop, length-drop}
use borrow.Author.Tests.{leb-false}
use Rattle.wire.specs.Outcome.{Outcome, ok}
use Rattle.wire.specs.Bytes.{word, until_zero}
use Rattle.wire.proofs.Outcome.{ok_same, went, bound, passed}
use Rattle.wire.proofs.Parts.{rest_part}
use Rattle.utf8.specs.Text.{text_at}
use Rattle.bson_values.specs.Value.{Value, sized, boolean, cstring, string, binary, regex, pointer, code_with_scope, bytes}
use Rattle.bson_skip.specs.Inner.{span}

pub sized_is : (v k : ℕ) (xs : List ℕ) (n : ℕ) → sized v k xs ≡ ok n → k ≡ n
unfolding sized
sized_is v k xs n h = ok_same (passed _ _ _ _ h).1

pub boolean_is : (v : ℕ) (xs : List ℕ) (n : ℕ) → boolean v xs ≡ ok n → 1 ≡ n
unfolding boolean
boolean_is v xs n h =
    let c = passed _ _ _ _ h in
    ok_same (passed _ _ _ _ c.1).1

-- the text between the zeros was looked at, and tells nothing of the size
pub cstring_is : (v at : ℕ) (xs : List ℕ) (n : ℕ) → cstring v at xs ≡ ok n → (until_zero xs < length xs) × (until_zero xs + 1 ≡ n)
unfolding cstring text_at
cstring_is v at xs n h =
    let c = passed _ _ _ _ h in
    let d = passed _ _ _ _ c.1 in
    (leb-false (length xs) (until_zero xs) c.0, ok_same d.1)

pub string_is : (v at : ℕ) (xs : List ℕ) (n : ℕ) → string v at xs ≡ ok n → 4 + word xs ≡ n
unfolding string text_at
string_is v at xs n h =
    let c = passed _ _ _ _ h in
    let d = passed _ _ _ _ c.1 in
    let e = passed _ _ _ _ d.1 in
    let f = passed _ _ _ _ e.1 in
    ok_same (passed _ _ _ _ f.1).1

pub binary_is : (v : ℕ) (xs : List ℕ) (n : ℕ) → binary v xs ≡ ok n → 5 + word xs ≡ n
unfolding binary
binary_is v xs n h =
    let c = passed _ _ _ _ h in
    let d = passed _ _ _ _ c.1 in
    let e = passed _ _ _ _ d.1 in
    let f = passed _ _ _ _ e.1 in
    ok_same (passed _ _ _ _ f.1).1

-- two of them, of which the first has m bytes and the second, in the part `&xs[m + 1..]`, k
pub regex_is : (v : ℕ) (xs : List ℕ) (m n : ℕ) → m ≡ until_zero xs → regex v xs ≡ ok n → let second = take (length xs - (m + 1)) (drop (m + 1) xs) in
    (m < length xs) × (m + 1 + until_zero second < length xs) × (m + 1 + until_zero second + 1 ≡ n)
unfolding regex
regex_is v xs m n e h =
    bound _ _ h λ a ea fa.
    bound _ _ fa λ b eb fb.
    let one = cstring_is v v xs a ea in
    let two = cstring_is v (v + a) (drop a xs) b eb in
    let start : a ≡ m + 1 = omega (arith, one.1, e) in
    let same : until_zero (take (length xs - (m + 1)) (drop (m + 1) xs)) ≡ until_zero (drop a xs) = rw (rest_part (m + 1) xs, start) in
    omega (arith, one.0, two.0, two.1, length-drop a xs, ok_same fb)

pub pointer_is : (v : ℕ) (xs : List ℕ) (n : ℕ) → pointer v xs ≡ ok n → 16 + word xs ≡ n
unfolding pointer
pointer_is v xs n h =
    let c = went _ _ h in
    let d = went _ _ c.2 in
    omega (arith, string_is v v xs c.0 c.1, sized_is v 12 (drop c.0 xs) d.0 d.1, ok_same d.2)

pub code_is : (v : ℕ) (xs : List ℕ) (x : Value) → code_with_scope v xs ≡ ok x → word xs ≡ span xs x
unfolding code_with_scope
code_is v xs x h =
    let c = passed _ _ _ _ h in
    let d = passed _ _ _ _ c.1 in
    let e = passed _ _ _ _ d.1 in
    let f = went _ _ e.1 in
    rw (← ok_same f.2) refl

-- a value that is bytes alone
pub bytes_is : (o : Outcome ℕ) (k : ℕ) (xs : List ℕ) (x : Value) → ((n : ℕ) → o ≡ ok n → k ≡ n) → bytes o ≡ ok x → k ≡ span xs x
bytes_is o k xs x i h =
    let c = went _ _ h in
    rw (← ok_same c.2) (i _ c.1)
