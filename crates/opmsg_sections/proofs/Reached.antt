-- What a document that was passed behind a kind byte reaches.
-- Assumes nothing.
use Prim.Native.Nat.{ℕ, ◌-◌}
use mathlib.Core.Path.{◌≡◌, sym}
use mathlib.Core.List.{List}
use native.Mathlib.Omega.{arith}
use lib.ListN.{length, take, drop, length-take, length-drop}
use lib.Seq.{drop-drop}
use Rattle.std.specs.Prelude.{Ok}
use Rattle.wire.specs.Walk.{step}
use Rattle.wire.proofs.Parts.{rest_part}
use Rattle.bson.specs.Document.{document_at, max_levels}
use Rattle.opmsg_documents.proofs.Turns.{past_framed}
use Rattle.opmsg_documents.proofs.Fill.{document_filled}
use Rattle.opmsg_sequences.specs.Inner.{PartWithin}
use Rattle.opmsg_sequences.specs.declared.Part.{Part}

pub body_reaches : (at : ℕ) (xs : List ℕ) (count size more : ℕ) → step size more ≡ document_at max_levels at (take (length xs - 1) (drop 1 xs)) count
    → PartWithin xs (Ok (Part.Body size more))
body_reaches at xs count size more e =
    let f = past_framed at _ count e in
    let k = document_filled max_levels at _ count (record { size = size; state = more }) (sym e) in
    (f.low, omega (arith, f.low, f.fits, length-take (length xs - 1) (drop 1 xs), length-drop 1 xs), rw (rest_part 1 xs, drop-drop 4 1 xs) at k)
