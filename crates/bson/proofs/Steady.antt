-- Documents that were read are read so wherever their bytes stand.
-- Assumes nothing.
use Prim.Native.Nat.{ℕ, zero, suc, ◌-◌}
use mathlib.Core.Path.{◌≡◌, sym, ◌∙◌}
use mathlib.Core.List.{List}
use native.Mathlib.Omega.{arith}
use lib.ListN.{take, drop}
use Rattle.wire.specs.Outcome.{ok}
use Rattle.wire.specs.Walk.{Step, Reader}
use Rattle.wire.proofs.Outcome.{not_ok, bound, go_on}
use Rattle.wire.proofs.Agree.{Agree, agree_part, agree_byte, agree_word}
use Rattle.wire.proofs.Walk.{Steady}
use Rattle.bson.specs.Document.{frame, document_at}
use Rattle.bson.proofs.Frame.{Framed, frame_is, document_framed}

-- a reader of documents that are as long as they say; `document_framed levels` says it of `document_at levels`
abbrev pub Frames : Reader ℕ → Type 0
Frames document = (at : ℕ) (xs : List ℕ) (count : ℕ) (r : Step ℕ) → document at xs count ≡ ok r → Framed xs r.size

framed_alike : (xs ys : List ℕ) (n : ℕ) → Framed xs n → Agree n xs ys → Framed ys n
framed_alike xs ys n f a =
    record {
      is = f.is ∙ sym (agree_word a (omega (arith, f.low)));
      low = f.low;
      small = f.small;
      fits = a.second;
      ended = agree_byte (n - 1) a (omega (arith, f.low)) ∙ f.ended;
    }

document_alike : (levels at : ℕ) (xs ys : List ℕ) (count : ℕ) (r : Step ℕ) → document_at levels at xs count ≡ ok r → Agree r.size xs ys → document_at levels at ys count ≡ ok r
unfolding document_at
document_alike zero at xs ys count r h a = not_ok h
document_alike (suc levels) at xs ys count r h a =
    let f = document_framed (suc levels) at xs count r h in
    bound (frame at xs) _ h λ n en fn.
    let size : r.size ≡ n = f.is ∙ sym ((frame_is at xs n).0 en).is in
    let b : Agree n xs ys = rw size at a in
    let part : take (n - 5) (drop 4 ys) ≡ take (n - 5) (drop 4 xs) = agree_part (n - 5) 4 b (omega (arith, f.low)) in
    go_on _ ((frame_is at ys n).1 (framed_alike xs ys n ((frame_is at xs n).0 en) b)) ∙ rw part fn

pub document_steady : (levels : ℕ) → Steady (document_at levels)
document_steady levels = record {
  advances = λ at xs count r h. omega (arith, (document_framed levels at xs count r h).low);
  fits = λ at xs count r h. (document_framed levels at xs count r h).fits;
  alike = document_alike levels;
}
